-- The first line after which the lines of a text begin no certificate text.
use Rattle.std.specs.Prelude.{◌≡◌, ℕ, ◌+◌, ◌<◌, ◌≤◌, ◌==◌, List, [], ◌∷◌, ◌++◌, length, take, if◌then◌else◌}
use Rattle.graph_core.specs.Graph.{GraphValue}
use Rattle.problem_defs.specs.Shaped.{IsShaped}
use Rattle.problem_defs.specs.declared.cert.Cert.{Cert}
use Rattle.certificate_text.specs.Text.{byte_lines, text}

-- These lines begin a certificate text.
pub record Begins (g : GraphValue) (ls : List (List ℕ)) : Type 0 where
  pub cert : Cert
  pub shaped : IsShaped g cert
  pub more : List (List ℕ)
  pub is : byte_lines g cert ≡ ls ++ more

-- a byte in front of the first line, where there is one
abbrev pub onto_whole : ℕ → List (List ℕ) → List (List ℕ)
onto_whole byte [] = []
onto_whole byte (l ∷ ls) = (byte ∷ l) ∷ ls

-- the whole lines of a text: those that have an LF, without it
abbrev pub whole_lines : List ℕ → List (List ℕ)
whole_lines [] = []
whole_lines (byte ∷ bytes) = if byte == 10 then [] ∷ whole_lines bytes else onto_whole byte (whole_lines bytes)

-- No text of a certificate is at the front. The lines before this one begin a text, and with it they don't, or it isn't whole.
pub record IsBad (g : GraphValue) (bytes : List ℕ) (line : ℕ) : Type 0 where
  pub no_text : (cert : Cert) (rest : List ℕ) → IsShaped g cert → bytes ≡ text g cert ++ rest → ⊥
  pub counted : 0 < line
  pub before : (n : ℕ) → n < line → Begins g (take n (whole_lines bytes))
  pub within : line ≤ length (whole_lines bytes) + 1
  pub here : line ≤ length (whole_lines bytes) → Begins g (take line (whole_lines bytes)) → ⊥
