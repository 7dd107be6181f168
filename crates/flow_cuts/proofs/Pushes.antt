-- What a push along a step changes, for all sides at once.
use Rattle.std.proofs.Common.{◌≡◌, ℕ, ◌+◌, ◌-◌, ◌<◌, ◌≤◌, List, length, Bool, true, false, cond, arith}
use Rattle.std.proofs.lemmas.List.Sums.{sum_by-set}
use Rattle.flow_cuts.specs.declared.network.Link.{Link}
use Rattle.flow_cuts.specs.declared.network.Step.{Step}
use Rattle.flow_cuts.specs.declared.network.Way.{Way}
use Rattle.flow_cuts.specs.declared.network.Way.TheVariants.{Forth, Back}
use Rattle.graph_core.specs.Side.{has}
use Rattle.flow_cuts.specs.declared.network.Cap.{Cap}
use Rattle.flow_cuts.specs.Network.{across, capacity, Separates}
use Rattle.flow_cuts.specs.Residual.{from_of, to_of, room_of, moved, link_at, no_link, from_at, to_at, room_at, pushed, room_out, room_leaving, AreLinksOf, IsFlow}

-- an amount that stands at a node outside of the side
abbrev pub at_outside : Bool → ℕ → ℕ
at_outside b a = cond b 0 a

across-moved : (t h : Bool) (f b a : ℕ) → a ≤ f →
    (across t h (f - a) + across h t (b + a)) + at_outside h a ≡ (across t h f + across h t b) + at_outside t a
across-moved true true f b a le = omega arith
across-moved true false f b a le = omega arith
across-moved false true f b a le = omega arith
across-moved false false f b a le = omega arith

room_out-moved : (X : List Bool) (l : Link) (w : Way) (a : ℕ) → a ≤ room_of l w →
    room_out X (moved l w a) + at_outside (has X (to_of l w)) a ≡ room_out X l + at_outside (has X (from_of l w)) a
room_out-moved X l Forth a le = across-moved (has X l.tail) (has X l.head) l.forth l.back a le
room_out-moved X l Back a le =
    let e = across-moved (has X l.head) (has X l.tail) l.back l.forth a le in
    omega (arith, e)

-- a push carries the amount from the one end of the step to the other: all sides at once
pub room_leaving-pushed : (X : List Bool) (ls : List Link) (s : Step) (a : ℕ) → s.link < length ls → a ≤ room_at ls s →
    room_leaving X (pushed ls s a) + at_outside (has X (to_at ls s)) a ≡ room_leaving X ls + at_outside (has X (from_at ls s)) a
room_leaving-pushed X ls s a lt le =
    let l : Link = link_at ls s.link in
    let one = room_out-moved X l s.way a le in
    let all = sum_by-set (room_out X) ls s.link (moved l s.way a) no_link lt in
    omega (arith, one, all)

-- nothing is sent yet
pub IsFlow-start : (n : ℕ) (inside outside : List Bool) (arcs : List Cap) (links : List Link) → AreLinksOf arcs links → IsFlow n inside outside arcs links 0
IsFlow-start n inside outside arcs links all = record { sent = λ X sep. omega (arith, all.leaves X) }

-- the amount has come from the node v to the node end
pub record IsUnderWay (n : ℕ) (inside outside : List Bool) (arcs : List Cap) (links : List Link) (value amount end v : ℕ) : Type 0 where
  pub sent : (X : List Bool) → Separates n inside outside X →
      (room_leaving X links + value) + at_outside (has X end) amount ≡ capacity X arcs + at_outside (has X v) amount

pub IsUnderWay-pushed : (n : ℕ) (inside outside : List Bool) (arcs : List Cap) (links : List Link) (value amount end : ℕ) (s : Step) →
    s.link < length links → amount ≤ room_at links s →
    IsUnderWay n inside outside arcs links value amount end (to_at links s) →
    IsUnderWay n inside outside arcs (pushed links s amount) value amount end (from_at links s)
IsUnderWay-pushed n inside outside arcs links value amount end s lt le way = record {
  sent = λ X sep. omega (arith, way.sent X sep, room_leaving-pushed X links s amount lt le);
}
