use Rattle.std.proofs.Common.{◌≡◌, ◌∙◌, sym, subst, ℕ, ◌+◌, ◌<◌, ◌≤◌, ◌∷◌, length}
use Rattle.dicut_lattice.specs.Covers.{missing, missed_by}
use Rattle.dicut_lattice.specs.Crossings.{crossings}
use Rattle.dicut_lattice.specs.Uptake.{Absorbing}
use Rattle.dicut_lattice.proofs.Absorbed.{takes-next, keeps-next}
use Rattle.graph_core.proofs.ItemLaws.{first-rest}
use Rattle.dicut_lattice.proofs.uptake.Uptake.step.Goals as goal

pub returns-then-both_miss-clause-absorbing : goal.returns-then-both_miss-clause-absorbing
returns-then-both_miss-clause-absorbing c =
    let t = c.args.tight.now in
    let u = c.args.self.now in
    let F = c.remove-next.result in
    let left : u.left ≡ F ∷ c.remove-next.new.self = first-rest u.left c.remove-next.new.self F c.remove-next.ensures.item c.remove-next.ensures.rest in
    let made : c.in_ok-self.field-0 ≡ crossings u.now F = c.in_ok-self.ensures ∙ (λ i. crossings (c.as_slice-then-both_miss.ensures i) (c.as_slice-then-both_miss-2.ensures i)) in
    let meet : (z : ℕ) × (z < length t.graph.names) × (missing z F ≡ 1) × (missing z u.now ≡ 1) = rw (c.node_count.ensures.count, c.as_slice.ensures, c.as_slice-2.ensures) at c.if-both_miss.ensures.meet in
    subst (λ G. Absorbing t.graph t.join c.args.level.now u.kept G c.remove-next.new.self) (sym made)
    (takes-next c.known.ensures u.kept u.now F c.remove-next.new.self u.left left meet c.requires.absorbing).0

pub returns-then-both_miss-clause-still : goal.returns-then-both_miss-clause-still
returns-then-both_miss-clause-still c =
    let t = c.args.tight.now in
    let u = c.args.self.now in
    let F = c.remove-next.result in
    let left : u.left ≡ F ∷ c.remove-next.new.self = first-rest u.left c.remove-next.new.self F c.remove-next.ensures.item c.remove-next.ensures.rest in
    let made : c.in_ok-self.field-0 ≡ crossings u.now F = c.in_ok-self.ensures ∙ (λ i. crossings (c.as_slice-then-both_miss.ensures i) (c.as_slice-then-both_miss-2.ensures i)) in
    let meet : (z : ℕ) × (z < length t.graph.names) × (missing z F ≡ 1) × (missing z u.now ≡ 1) = rw (c.node_count.ensures.count, c.as_slice.ensures, c.as_slice-2.ensures) at c.if-both_miss.ensures.meet in
    subst (λ G. (v : ℕ) → 1 ≤ missed_by v u.kept + missing v u.now + missed_by v u.left → 1 ≤ missed_by v u.kept + missing v G + missed_by v c.remove-next.new.self) (sym made)
    (takes-next c.known.ensures u.kept u.now F c.remove-next.new.self u.left left meet c.requires.absorbing).1

pub returns-clause-absorbing : goal.returns-clause-absorbing
returns-clause-absorbing c =
    let t = c.args.tight.now in
    let u = c.args.self.now in
    let F = c.remove-next.result in
    let left : u.left ≡ F ∷ c.remove-next.new.self = first-rest u.left c.remove-next.new.self F c.remove-next.ensures.item c.remove-next.ensures.rest in
    let off : (z : ℕ) → z < length t.graph.names → missing z F + missing z u.now ≤ 1 = rw (c.node_count.ensures.count, c.as_slice.ensures, c.as_slice-2.ensures) at c.if-both_miss.ensures.apart in
    subst (λ kept. Absorbing t.graph t.join c.args.level.now kept u.now c.remove-next.new.self) (sym c.in_ok-push.ensures.ok)
    (keeps-next c.known.ensures u.kept u.now F c.remove-next.new.self u.left left off c.requires.absorbing)
