-- A certificate that meets its graph has a side that forbids every object exactly where there is none.
use Rattle.std.proofs.Common.{◌⊎◌, inl, inr, ◌↔◌}
use Rattle.graph_core.specs.Graph.{GraphValue, IsGraph}
use Rattle.problem_defs.specs.Best.{IsBest}
use Rattle.problem_defs.specs.Impossible.{IsImpossible, IsNever}
use Rattle.problem_defs.specs.Meets.{Meets, HasObject}
use Rattle.problem_defs.specs.declared.ask.Ask.{Ask}
use Rattle.problem_defs.specs.declared.ask.Ask.TheVariants.{Flow, Orient, Dijoin}
use Rattle.problem_defs.specs.declared.cert.Body.{Body}
use Rattle.problem_defs.specs.declared.cert.Body.TheVariants.{Turned, Join, Never}
use Rattle.problem_defs.specs.declared.cert.Cert.{Cert}
use Rattle.problem_defs.proofs.BestLaw.{meets-best}

pub object-or-never : (g : GraphValue) (ask : Ask) (body : Body) → HasObject g ask body → IsBest g ask body → ((IsNever body → ⊥) × (IsImpossible g ask → ⊥)) ⊎ (IsNever body × IsImpossible g ask)
object-or-never g (Orient k) (Turned heads) object best = inl (λ never. never, λ none. none heads object)
object-or-never g (Orient k) (Never side) object best = inr (tt, best)
object-or-never g (Orient k) body object best = absurd object
object-or-never g Dijoin (Join value join sides) object best = inl (λ never. never, λ none. none join object)
object-or-never g Dijoin (Never side) object best = inr (tt, best)
object-or-never g Dijoin body object best = absurd object
object-or-never g (Flow s t) (Never side) object best = absurd object
object-or-never g ask (Never side) object best = absurd object
object-or-never g ask body object best = inl (λ never. never, λ none. none)

pub never-impossible : (g : GraphValue) (cert : Cert) → IsGraph g → Meets g cert → IsNever cert.body ↔ IsImpossible g cert.ask
never-impossible g cert graph meets = elim (object-or-never g cert.ask cert.body meets.object (meets-best g cert graph meets)) [
  | inl (here, some) ↦ (λ never. absurd (here never), λ none. absurd (some none))
  | inr (here, none) ↦ (λ _. none, λ _. here)
]
