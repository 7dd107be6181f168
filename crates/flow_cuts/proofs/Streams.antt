-- What is sent is a stream, and a unit taken along a way room_out a stream of one less.
use Rattle.std.proofs.Common.{◌≡◌, ◌≢◌, ◌∙◌, ℕ, suc, ◌+◌, ◌-◌, ◌<◌, ◌≤◌, List, [], ◌∷◌, length, Bool, true, false, refl, sym, ap, arith, inl, inr}
use Rattle.std.specs.Prelude.{sum_by, ◌⊎◌}
use Rattle.std.proofs.Math.ListN.{length-set}
use Rattle.std.proofs.lemmas.List.Sums.{sum_by-set, sum_by-cons}
use Rattle.flow_cuts.specs.declared.network.Link.{Link}
use Rattle.flow_cuts.specs.declared.network.Step.{Step}
use Rattle.flow_cuts.specs.declared.network.Way.{Way}
use Rattle.flow_cuts.specs.declared.network.Way.TheVariants.{Forth, Back}
use Rattle.flow_cuts.specs.Residual.{from_of, to_of, room_of, link_at, no_link, from_at, to_at, room_at, room_out, room_leaving, SameEnds, SameSums, AreLinksOf, IsFlow}
use Rattle.graph_core.specs.Side.{has}
use Rattle.flow_cuts.specs.declared.network.Cap.{Cap}
use Rattle.flow_cuts.specs.Network.{across, Separates}
use Rattle.flow_cuts.specs.Streams.{one_less, taken, both_at, sent_of, IsSent, enters, entering, IsStream, IsLess}
use Rattle.flow_cuts.proofs.Pushes.{at_outside}
use Rattle.flow_cuts.proofs.ClosedSides.{IsClosedSide, leaving_closed}
use Rattle.flow_cuts.proofs.SearchTrees.{eq_or_not}
use Rattle.flow_cuts.proofs.OpenWays.{link_set, link_off}

across-sent : (t h : Bool) (f b wf wb : ℕ) → f + b ≡ wf + wb →
    (across t h (wf - f) + across h t (wb - b)) + (across t h f + across h t b) ≡
    (across t h wf + across h t wb) + (across h t (wf - f) + across t h (wb - b))
across-sent true true f b wf wb e = omega arith
across-sent true false f b wf wb e = omega arith
across-sent false true f b wf wb e = omega arith
across-sent false false f b wf wb e = omega arith

sums4 : (f g h k : Link → ℕ) (us ls ws : List Link) → length us ≡ length ws → length ls ≡ length ws →
    ((j : ℕ) → j < length ws → f (link_at us j) + g (link_at ls j) ≡ h (link_at ws j) + k (link_at us j)) →
    sum_by f us + sum_by g ls ≡ sum_by h ws + sum_by k us
sums4 f g h k [] [] [] e d all = refl
sums4 f g h k [] [] (w ∷ ws) e d all = absurd (omega arith)
sums4 f g h k [] (l ∷ ls) [] e d all = absurd (omega arith)
sums4 f g h k [] (l ∷ ls) (w ∷ ws) e d all = absurd (omega arith)
sums4 f g h k (u ∷ us) [] [] e d all = absurd (omega arith)
sums4 f g h k (u ∷ us) [] (w ∷ ws) e d all = absurd (omega arith)
sums4 f g h k (u ∷ us) (l ∷ ls) [] e d all = absurd (omega arith)
sums4 f g h k (u ∷ us) (l ∷ ls) (w ∷ ws) e d all =
    let rest = sums4 f g h k us ls ws (omega arith) (omega arith) (λ j lt. all (suc j) (omega arith)) in
    let first : f u + g l ≡ h w + k u = all 0 (omega arith) in
    omega (arith, first, rest, sum_by-cons f u us, sum_by-cons g l ls, sum_by-cons h w ws, sum_by-cons k u us)

pub ends_of : (ls ls' : List Link) → SameEnds ls ls' → (j : ℕ) → ((link_at ls' j).tail ≡ (link_at ls j).tail) × ((link_at ls' j).head ≡ (link_at ls j).head)
ends_of ls ls' same j = (same.from (record { link = j; way = Forth }), same.to (record { link = j; way = Forth }))

room_out-sent : (X : List Bool) (w l : Link) → l.tail ≡ w.tail → l.head ≡ w.head → l.forth + l.back ≡ w.forth + w.back →
    room_out X (sent_of w l) + room_out X l ≡ room_out X w + enters X (sent_of w l)
room_out-sent X w l t h e =
    let same : room_out X l ≡ across (has X w.tail) (has X w.head) l.forth + across (has X w.head) (has X w.tail) l.back =
    ap (λ v. across (has X v) (has X l.head) l.forth + across (has X l.head) (has X v) l.back) t ∙
    ap (λ v. across (has X w.tail) (has X v) l.forth + across (has X v) (has X w.tail) l.back) h in
    omega (arith, same, across-sent (has X w.tail) (has X w.head) l.forth l.back w.forth w.back e)

pub IsStream-sent : (n : ℕ) (inside outside : List Bool) (arcs : List Cap) (whole links sent : List Link) (value : ℕ) → AreLinksOf arcs whole → SameEnds whole links → SameSums whole links →
    IsSent whole links sent → IsFlow n inside outside arcs links value → IsStream n inside outside sent value
IsStream-sent n inside outside arcs whole links sent value all_arcs same sums is flow = record {
  surplus = λ X sep.
      let all = sums4 (room_out X) (room_out X) (room_out X) (enters X) sent links whole is.len same.len (λ j lt.
      let at = is.at j in
      let one = room_out-sent X (link_at whole j) (link_at links j) (ends_of whole links same j).0 (ends_of whole links same j).1 (sums.at j) in
      let a = ap (room_out X) at in
      let b = ap (enters X) at in
      omega (arith, one, a, b)) in
      omega (arith, all, flow.sent X sep, all_arcs.leaves X);
}

across-taken : (t h : Bool) (f b : ℕ) → 0 < f →
    ((across t h (f - 1) + across h t b) + (across h t f + across t h b)) + at_outside h 1 ≡
    ((across t h f + across h t b) + (across h t (f - 1) + across t h b)) + at_outside t 1
across-taken true true f b lt = omega arith
across-taken true false f b lt = omega arith
across-taken false true f b lt = omega arith
across-taken false false f b lt = omega arith

room_out-taken : (X : List Bool) (l : Link) (w : Way) → 0 < room_of l w →
    (room_out X (one_less l w) + enters X l) + at_outside (has X (to_of l w)) 1 ≡ (room_out X l + enters X (one_less l w)) + at_outside (has X (from_of l w)) 1
room_out-taken X l Forth lt = across-taken (has X l.tail) (has X l.head) l.forth l.back lt
room_out-taken X l Back lt = let e = across-taken (has X l.head) (has X l.tail) l.back l.forth lt in omega (arith, e)

pub room_leaving-taken : (X : List Bool) (ls : List Link) (s : Step) → s.link < length ls → 0 < room_at ls s →
    (room_leaving X (taken ls s) + entering X ls) + at_outside (has X (to_at ls s)) 1 ≡ (room_leaving X ls + entering X (taken ls s)) + at_outside (has X (from_at ls s)) 1
room_leaving-taken X ls s lt room =
    let l : Link = link_at ls s.link in
    let one = room_out-taken X l s.way room in
    let out = sum_by-set (room_out X) ls s.link (one_less l s.way) no_link lt in
    let into = sum_by-set (enters X) ls s.link (one_less l s.way) no_link lt in
    omega (arith, one, out, into)

-- a unit is taken from the node v on to the node end
pub record IsTakenFrom (n : ℕ) (inside outside : List Bool) (sent : List Link) (r end v : ℕ) : Type 0 where
  pub surplus : (X : List Bool) → Separates n inside outside X →
      room_leaving X sent + at_outside (has X end) 1 ≡ (r + entering X sent) + at_outside (has X v) 1

pub IsTakenFrom-step : (n : ℕ) (inside outside : List Bool) (sent : List Link) (r end : ℕ) (s : Step) → s.link < length sent → 0 < room_at sent s →
    IsTakenFrom n inside outside sent r end (to_at sent s) → IsTakenFrom n inside outside (taken sent s) r end (from_at sent s)
IsTakenFrom-step n inside outside sent r end s lt room old = record {
  surplus = λ X sep. omega (arith, old.surplus X sep, room_leaving-taken X sent s lt room);
}

-- a closed side that separates shows that nothing more is sent
pub nothing_sent : (n : ℕ) (inside outside : List Bool) (sent : List Link) (r : ℕ) → IsStream n inside outside sent r →
    (X : List Bool) → Separates n inside outside X → IsClosedSide X sent → r ≡ 0
nothing_sent n inside outside sent r stream X sep closed = omega (arith, stream.surplus X sep, leaving_closed X sent closed)

from-less : (l : Link) (w x : Way) → from_of (one_less l w) x ≡ from_of l x
from-less l Forth Forth = refl
from-less l Forth Back = refl
from-less l Back Forth = refl
from-less l Back Back = refl

to-less : (l : Link) (w x : Way) → to_of (one_less l w) x ≡ to_of l x
to-less l Forth Forth = refl
to-less l Forth Back = refl
to-less l Back Forth = refl
to-less l Back Back = refl

both-less : (l : Link) (w : Way) → 0 < room_of l w → ((one_less l w).forth + (one_less l w).back) + 1 ≡ l.forth + l.back
both-less l Forth lt = omega arith
both-less l Back lt = omega arith

room-less : (l : Link) (w x : Way) → room_of (one_less l w) x ≤ room_of l x
room-less l Forth Forth = omega arith
room-less l Forth Back = omega arith
room-less l Back Forth = omega arith
room-less l Back Back = omega arith

room_kept : (l : Link) (w x : Way) (a : ℕ) → to_of l x ≢ to_of l w → a ≤ room_of l x → a ≤ room_of (one_less l w) x
room_kept l Forth Forth a other le = absurd (other refl)
room_kept l Forth Back a other le = omega arith
room_kept l Back Forth a other le = omega arith
room_kept l Back Back a other le = absurd (other refl)

-- what a change of one link changes
at_link : (ls : List Link) (s : Step) (j : ℕ) → s.link < length ls →
    ((j ≡ s.link) × (link_at (taken ls s) j ≡ one_less (link_at ls j) s.way)) ⊎ ((j ≢ s.link) × (link_at (taken ls s) j ≡ link_at ls j))
at_link ls s j lt = elim (eq_or_not j s.link) [
  | inl e ↦ inl (e, link_set ls s.link j (one_less (link_at ls s.link) s.way) lt e ∙ ap (λ i. one_less (link_at ls i) s.way) (sym e))
  | inr e ↦ inr (e, link_off ls s.link j (one_less (link_at ls s.link) s.way) lt e)
]

pub SameEnds-taken : (ls : List Link) (s : Step) → s.link < length ls → SameEnds ls (taken ls s)
SameEnds-taken ls s lt = record {
  len = length-set ls s.link (one_less (link_at ls s.link) s.way);
  from = λ t. elim (at_link ls s t.link lt) [
    | inl h ↦ ap (λ l. from_of l t.way) h.1 ∙ from-less (link_at ls t.link) s.way t.way
    | inr h ↦ ap (λ l. from_of l t.way) h.1
  ];
  to = λ t. elim (at_link ls s t.link lt) [
    | inl h ↦ ap (λ l. to_of l t.way) h.1 ∙ to-less (link_at ls t.link) s.way t.way
    | inr h ↦ ap (λ l. to_of l t.way) h.1
  ];
}

pub IsLess-taken : (ls : List Link) (s : Step) → s.link < length ls → IsLess ls (taken ls s)
IsLess-taken ls s lt = record {
  at = λ t. elim (at_link ls s t.link lt) [
    | inl h ↦ let e = ap (λ l. room_of l t.way) h.1 in omega (arith, room-less (link_at ls t.link) s.way t.way)
    | inr h ↦ let e = ap (λ l. room_of l t.way) h.1 in omega arith
  ];
}

pub IsLess-trans : (a b c : List Link) → IsLess a b → IsLess b c → IsLess a c
IsLess-trans a b c x y = record { at = λ s. omega (arith, x.at s, y.at s) }

pub both_at-here : (ls : List Link) (s : Step) → s.link < length ls → 0 < room_at ls s → both_at (taken ls s) s.link + 1 ≡ both_at ls s.link
both_at-here ls s lt room =
    let e = ap (λ l. l.forth + l.back) (link_set ls s.link s.link (one_less (link_at ls s.link) s.way) lt refl) in
    omega (arith, both-less (link_at ls s.link) s.way room)

pub both_at-off : (ls : List Link) (s : Step) (j : ℕ) → s.link < length ls → j ≢ s.link → both_at (taken ls s) j ≡ both_at ls j
both_at-off ls s j lt e = ap (λ l. l.forth + l.back) (link_off ls s.link j (one_less (link_at ls s.link) s.way) lt e)

pub room_at-kept : (ls : List Link) (s t : Step) (a : ℕ) → s.link < length ls → to_at ls t ≢ to_at ls s → a ≤ room_at ls t → a ≤ room_at (taken ls s) t
room_at-kept ls s t a lt other le = elim (at_link ls s t.link lt) [
  | inl h ↦
      let ne : to_of (link_at ls t.link) t.way ≢ to_of (link_at ls t.link) s.way = λ e. other (e ∙ ap (λ j. to_of (link_at ls j) s.way) h.0) in
      let e = ap (λ l. room_of l t.way) h.1 in
      omega (arith, room_kept (link_at ls t.link) s.way t.way a ne le)
  | inr h ↦ let e = ap (λ l. room_of l t.way) h.1 in omega arith
]
