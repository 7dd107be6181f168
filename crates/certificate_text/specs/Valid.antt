-- What a line of a certificate may hold: what is named is there, and numbers fit 64 bits. No public clause cites it.
use Rattle.std.specs.Prelude.{◌≡◌, ◌<◌, ◌^◌, List, [], ◌∷◌, length, All, None}
use Rattle.graph_core.specs.Graph.{GraphValue}
use Rattle.problem_defs.specs.Ask.{misfit_of, KIsInRange}
use Rattle.certificate_text.specs.declared.line.CertLine.{CertLine}
use Rattle.certificate_text.specs.declared.line.CertLine.TheVariants as line

abbrev pub IsValid : GraphValue → CertLine → Type 0
IsValid g line.Title = Unit {0}
IsValid g (line.Command ask) = KIsInRange ask × (misfit_of g ask ≡ None)
IsValid g (line.Value n) = n < 2 ^ 64
IsValid g line.Impossible = Unit {0}
IsValid g (line.Path js) = All (λ j. j < length g.lines) js
IsValid g (line.Part js) = All (λ j. j < length g.lines) js
IsValid g (line.Join js) = All (λ j. j < length g.lines) js
IsValid g (line.Tree u v n) = (u < length g.names) × (v < length g.names) × (n < 2 ^ 64)
IsValid g (line.Edge u v) = (u < length g.names) × (v < length g.names)
IsValid g (line.Arc u v) = (u < length g.names) × (v < length g.names)
IsValid g (line.Dual k) = Unit {0}
IsValid g (line.Set X) = length X ≡ length g.names
IsValid g line.End = Unit {0}

abbrev pub ValidAll : GraphValue → List CertLine → Type 0
ValidAll g [] = Unit {0}
ValidAll g (x ∷ xs) = IsValid g x × ValidAll g xs
