-- Certificate texts.
use Rattle.std.specs.Prelude.{ℕ, List, [], ◌∷◌, ◌++◌, map}
use Rattle.std.specs.List.{flat_map}
use Rattle.graph_core.specs.Graph.{GraphValue}
use Rattle.problem_defs.specs.declared.cert.Cert.{Cert}
use Rattle.certificate_text.specs.declared.line.CertLine.{CertLine}
use Rattle.certificate_text.specs.Words.{spelled}
use Rattle.certificate_text.specs.Lines.{lines}

-- each line with its LF
abbrev pub unlines : List (List ℕ) → List ℕ
unlines ls = flat_map (λ l. l ++ 10 ∷ []) ls

abbrev pub line_text : GraphValue → CertLine → List ℕ
line_text g x = spelled g x ++ 10 ∷ []

-- the spelling of lines, each with its LF
abbrev pub spelling : GraphValue → List CertLine → List ℕ
spelling g xs = unlines (map (spelled g) xs)

-- the lines of a certificate as bytes, without their LF
abbrev pub byte_lines : GraphValue → Cert → List (List ℕ)
byte_lines g cert = map (spelled g) (lines g cert)

-- the text of a certificate
abbrev pub text : GraphValue → Cert → List ℕ
text g cert = unlines (byte_lines g cert)
