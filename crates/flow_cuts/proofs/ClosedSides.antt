-- A side that no step with room leaves is a least cut, and the other way round.
use Rattle.std.proofs.Common.{◌≡◌, ℕ, suc, zero, ◌<◌, ◌≤◌, List, [], ◌∷◌, length, get_or, Bool, true, false, refl, arith}
use Rattle.std.specs.Prelude.{sum_by}
use Rattle.std.proofs.lemmas.List.Sums.{get_or-le-sum_by, sum_by-cons}
use Rattle.flow_cuts.specs.declared.network.Link.{Link}
use Rattle.flow_cuts.specs.declared.network.Step.{Step}
use Rattle.flow_cuts.specs.declared.network.Way.{Way}
use Rattle.flow_cuts.specs.declared.network.Way.TheVariants.{Forth, Back}
use Rattle.graph_core.specs.Side.{has}
use Rattle.flow_cuts.specs.declared.network.Cap.{Cap}
use Rattle.flow_cuts.specs.Network.{across, capacity, Separates}
use Rattle.flow_cuts.specs.Cuts.{IsMinimumCut}
use Rattle.flow_cuts.specs.Residual.{from_of, to_of, room_of, link_at, no_link, from_at, to_at, room_at, room_out, room_leaving, IsFlow}

pub sum_by_zeros : {A : Type 0} (f : A → ℕ) (d : A) (xs : List A) → ((j : ℕ) → j < length xs → f (get_or xs j d) ≡ 0) → sum_by f xs ≡ 0
sum_by_zeros f d [] h = refl
sum_by_zeros f d (x ∷ xs) h =
    let rest : sum_by f xs ≡ 0 = sum_by_zeros f d xs (λ j lt. h (suc j) (omega arith)) in
    let first : f x ≡ 0 = h 0 (omega arith) in
    omega (arith, sum_by-cons f x xs, rest, first)

-- no step with room leads out of the side
pub record IsClosedSide (X : List Bool) (ls : List Link) : Type 0 where
  pub at : (s : Step) → s.link < length ls → 0 < room_at ls s → has X (from_at ls s) ≡ true → has X (to_at ls s) ≡ true

across_none : (a b : Bool) (r : ℕ) → (0 < r → a ≡ true → b ≡ true) → across a b r ≡ 0
across_none true true r h = refl
across_none true false zero h = refl
across_none true false (suc r) h = let e : false ≡ true = h (omega arith) refl in cc
across_none false b r h = refl

some_across : (a b : Bool) (r : ℕ) → across a b r ≡ 0 → 0 < r → a ≡ true → b ≡ true
some_across true true r e lt h = refl
some_across true false r e lt h = absurd (omega arith)
some_across false b r e lt h = cc

pub leaving_closed : (X : List Bool) (ls : List Link) → IsClosedSide X ls → room_leaving X ls ≡ 0
leaving_closed X ls closed = sum_by_zeros (room_out X) no_link ls (λ j lt.
    let forth = across_none (has X (link_at ls j).tail) (has X (link_at ls j).head) (link_at ls j).forth (closed.at (record { link = j; way = Forth }) lt) in
    let back = across_none (has X (link_at ls j).head) (has X (link_at ls j).tail) (link_at ls j).back (closed.at (record { link = j; way = Back }) lt) in
    omega (arith, forth, back))

closed_at : (X : List Bool) (l : Link) (w : Way) → room_out X l ≡ 0 → 0 < room_of l w → has X (from_of l w) ≡ true → has X (to_of l w) ≡ true
closed_at X l Forth e lt h = some_across (has X l.tail) (has X l.head) l.forth (omega arith) lt h
closed_at X l Back e lt h = some_across (has X l.head) (has X l.tail) l.back (omega arith) lt h

pub closed_leaving : (X : List Bool) (ls : List Link) → room_leaving X ls ≡ 0 → IsClosedSide X ls
closed_leaving X ls none = record {
  at = λ s lt room h.
      let le = get_or-le-sum_by (room_out X) ls s.link no_link lt in
      closed_at X (link_at ls s.link) s.way (omega (arith, le)) room h;
}

-- no flow sends more than a side lets out
pub value_bound : (n : ℕ) (inside outside : List Bool) (arcs : List Cap) (links : List Link) (value : ℕ) → IsFlow n inside outside arcs links value →
    (X : List Bool) → Separates n inside outside X → value ≤ capacity X arcs
value_bound n inside outside arcs links value flow X sep = omega (arith, flow.sent X sep)

-- a closed side that separates is a least cut
pub least_closed : (n : ℕ) (inside outside : List Bool) (arcs : List Cap) (links : List Link) (value : ℕ) → IsFlow n inside outside arcs links value →
    (X : List Bool) → Separates n inside outside X → IsClosedSide X links → IsMinimumCut n inside outside arcs value X
least_closed n inside outside arcs links value flow X sep closed = record {
  separates = sep;
  value_is = omega (arith, flow.sent X sep, leaving_closed X links closed);
  least = value_bound n inside outside arcs links value flow;
}

-- each least cut is closed
pub closed_least : (n : ℕ) (inside outside : List Bool) (arcs : List Cap) (links : List Link) (value : ℕ) → IsFlow n inside outside arcs links value →
    (X : List Bool) → IsMinimumCut n inside outside arcs value X → IsClosedSide X links
closed_least n inside outside arcs links value flow X cut =
    closed_leaving X links (omega (arith, flow.sent X cut.separates, cut.value_is))
