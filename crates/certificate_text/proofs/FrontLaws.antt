-- The first two lines.
use Rattle.std.proofs.Common.{◌≡◌, ℕ, List, [], ◌∷◌, ◌++◌, refl, sym, ap, subst, ◌∙◌, Option, None, Some}
use Rattle.std.specs.Prelude.{MatchOption}
use Rattle.graph_core.specs.Graph.{GraphValue, IsGraph}
use Rattle.problem_defs.specs.declared.ask.Ask.{Ask}
use Rattle.certificate_text.specs.declared.line.CertLine.{CertLine}
use Rattle.certificate_text.specs.declared.line.CertLine.TheVariants as line
use Rattle.certificate_text.specs.Finds.{Finds}
use Rattle.certificate_text.specs.Words.{spelled}
use Rattle.certificate_text.specs.Valid.{IsValid}
use Rattle.certificate_text.specs.BadLine.{whole_lines, IsBad}
use Rattle.certificate_text.specs.Reading.{HasRead, Stops}
use Rattle.certificate_text.proofs.SpellLaws.{spelled-same}
use Rattle.certificate_text.proofs.BeginLaws.{some-row}
use Rattle.certificate_text.proofs.ReadLaws.{unlines-push}
use Rattle.certificate_text.proofs.BadLaws.{is-bad}

pub found-it : (g : GraphValue) (l : List ℕ) (o : Option CertLine) (z : CertLine) → IsGraph g → Finds (IsValid g) (spelled g) l o → IsValid g z → spelled g z ≡ l → o ≡ Some z
found-it g l None z is says valid same = absurd (says z valid same)
found-it g l (Some y) z is says valid same = ap (λ x. Some x) (spelled-same g y z is says.0 valid (says.1 ∙ sym same))

pub said : (g : GraphValue) (l : List ℕ) (o : Option CertLine) (z : CertLine) → Finds (IsValid g) (spelled g) l o → o ≡ Some z → IsValid g z × (spelled g z ≡ l)
said g l o z says e = subst (Finds (IsValid g) (spelled g) l) e says

-- the command of a line that was found
pub command-found : (g : GraphValue) (l : List ℕ) (o : Option CertLine) (r : Option Ask) → IsGraph g → Finds (IsValid g) (spelled g) l o → MatchOption r ((a : Ask) → o ≡ Some (line.Command a) → ⊥) (λ a. o ≡ Some (line.Command a))
    → Finds (λ a. IsValid g (line.Command a)) (λ a. spelled g (line.Command a)) l r
command-found g l o None is says none = λ a valid same. none a (found-it g l o (line.Command a) is says valid same)
command-found g l o (Some a) is says e = said g l o (line.Command a) says e

start : (g : GraphValue) (bytes : List ℕ) → HasRead g bytes [] bytes
start g bytes = record { split = refl; valid = tt; allowed = tt; unended = tt }

pub bad-empty : (g : GraphValue) (bytes : List ℕ) → IsGraph g → whole_lines bytes ≡ [] → IsBad g bytes 1
bad-empty g bytes is whole = is-bad g bytes [] bytes is (start g bytes) (subst (Stops g []) (sym whole) tt)

pub bad-title : (g : GraphValue) (bytes l more : List ℕ) → IsGraph g → whole_lines bytes ≡ l ∷ whole_lines more → (spelled g line.Title ≡ l → ⊥) → IsBad g bytes 1
bad-title g bytes l more is whole other =
    is-bad g bytes [] bytes is (start g bytes) (subst (Stops g []) (sym whole) (λ y valid same allowed. other (ap (spelled g) (sym allowed) ∙ same)))

pub read-title : (g : GraphValue) (bytes l after : List ℕ) → spelled g line.Title ≡ l → bytes ≡ l ++ 10 ∷ after → HasRead g bytes (line.Title ∷ []) after
read-title g bytes l after same cut = record { split = unlines-push g [] line.Title bytes bytes l after refl cut same; valid = (tt, tt); allowed = refl; unended = (refl, tt) }

pub bad-one : (g : GraphValue) (bytes rest : List ℕ) → IsGraph g → HasRead g bytes (line.Title ∷ []) rest → whole_lines rest ≡ [] → IsBad g bytes 2
bad-one g bytes rest is r whole = is-bad g bytes (line.Title ∷ []) rest is r (subst (Stops g (line.Title ∷ [])) (sym whole) tt)

pub bad-command : (g : GraphValue) (bytes rest l more : List ℕ) → IsGraph g → HasRead g bytes (line.Title ∷ []) rest → whole_lines rest ≡ l ∷ whole_lines more → ((a : Ask) → IsValid g (line.Command a) → spelled g (line.Command a) ≡ l → ⊥) → IsBad g bytes 2
bad-command g bytes rest l more is r whole other =
    is-bad g bytes (line.Title ∷ []) rest is r (subst (Stops g (line.Title ∷ [])) (sym whole) (λ y valid same allowed. other allowed.1.0 (subst (IsValid g) allowed.1.1 valid) (ap (spelled g) (sym allowed.1.1) ∙ same)))

pub read-command : (g : GraphValue) (bytes rest l after : List ℕ) (a : Ask) → HasRead g bytes (line.Title ∷ []) rest → IsValid g (line.Command a) → spelled g (line.Command a) ≡ l → rest ≡ l ++ 10 ∷ after → HasRead g bytes (line.Title ∷ line.Command a ∷ []) after
read-command g bytes rest l after a r valid same cut = record { split = unlines-push g (line.Title ∷ []) (line.Command a) bytes rest l after r.split cut same; valid = (tt, (valid, tt)); allowed = (refl, (a, refl, some-row g a)); unended = (refl, (refl, tt)) }
