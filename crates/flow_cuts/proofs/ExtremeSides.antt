-- The smallest and the largest least cut, from what searches reach.
use Rattle.std.proofs.Common.{◌≡◌, ◌∙◌, ℕ, suc, zero, ◌<◌, ◌≤◌, List, [], ◌∷◌, length, Bool, true, false, refl, sym, ap, subst, arith, inl, inr}
use Rattle.std.specs.Prelude.{◌⊎◌, map, not}
use Rattle.std.proofs.Math.ListN.{get_or-map}
use Rattle.std.proofs.lemmas.List.{length-map}
use Rattle.std.proofs.lemmas.Grind.{common_steps}
use Rattle.std.proofs.lemmas.Bool.Decides.{nat_tests}
use Rattle.flow_cuts.specs.declared.network.Link.{Link}
use Rattle.flow_cuts.specs.declared.network.Step.{Step}
use Rattle.flow_cuts.specs.declared.network.Way.{Way}
use Rattle.flow_cuts.specs.declared.network.Way.TheVariants.{Forth, Back}
use Rattle.flow_cuts.specs.declared.search.Mark.{Mark}
use Rattle.flow_cuts.specs.Residual.{from_of, to_of, room_of, link_at, from_at, to_at, room_at, mirrored, SameEnds, IsFlow}
use Rattle.graph_core.specs.Side.{has}
use Rattle.graph_core.proofs.SideLaws.{has-below}
use Rattle.flow_cuts.specs.declared.network.Cap.{Cap}
use Rattle.flow_cuts.specs.Network.{Separates}
use Rattle.flow_cuts.specs.Cuts.{IsSmallestCut, IsLargestCut}
use Rattle.flow_cuts.specs.Search.{unseen, no_mark, mark_at, is_seen, IsSearchForest, IsAdjacency, IsSearched, IsMissed}
use Rattle.flow_cuts.proofs.ClosedSides.{IsClosedSide, least_closed, closed_least}
use Rattle.flow_cuts.proofs.SearchTrees.{is_seen-of, is_seen-not, seen_below}

-- a fact of nodes that each step with room carries on
pub record IsCarried (P : ℕ → Type 0) (ls : List Link) : Type 0 where
  pub at : (s : Step) → s.link < length ls → 0 < room_at ls s → P (from_at ls s) → P (to_at ls s)

-- what holds of the roots and is carried on holds of all that is reached
reached_by : (P : ℕ → Type 0) (ls : List Link) (inside : List Bool) (ms : List Mark) → IsSearchForest ls inside ms → IsCarried P ls → ((v : ℕ) → has inside v ≡ true → P v) →
    (k v : ℕ) → (mark_at ms v).level ≡ k → k < unseen → P v
reached_by P ls inside ms f carried roots zero v level lt = roots v ((f.reached v (omega arith)).root level)
reached_by P ls inside ms f carried roots (suc k) v level lt =
    let r = f.reached v (omega arith) in
    let pos : 0 < (mark_at ms v).level = omega arith in
    let before = reached_by P ls inside ms f carried roots k (from_at ls (mark_at ms v).via) (omega (arith, r.up pos)) (omega arith) in
    subst P (r.to pos) (carried.at (mark_at ms v).via (r.link pos) (omega (arith, r.room pos, r.some)) before)

pub reached_all : (P : ℕ → Type 0) (ls : List Link) (inside : List Bool) (ms : List Mark) → IsSearchForest ls inside ms → IsCarried P ls → ((v : ℕ) → has inside v ≡ true → P v) →
    (v : ℕ) → (mark_at ms v).level < unseen → P v
reached_all P ls inside ms f carried roots v lt = reached_by P ls inside ms f carried roots (mark_at ms v).level v refl lt

pub is_seen-level : (m : Mark) → is_seen m ≡ true → m.level < unseen
is_seen-level m e = grind (arith, nat_tests)

-- X is the set of the nodes that are reached
pub record IsReachedSet (X : List Bool) (ms : List Mark) : Type 0 where
  pub len : length X ≡ length ms
  pub at : (v : ℕ) → has X v ≡ is_seen (mark_at ms v)

pub Separates-reached : (n : ℕ) (inside outside : List Bool) (links : List Link) (ms : List Mark) (X : List Bool) →
    IsSearched n links inside ms → IsMissed outside ms → IsReachedSet X ms → Separates n inside outside X
Separates-reached n inside outside links ms X s missed set = record {
  long = set.len ∙ s.len;
  holds = λ v h. set.at v ∙ is_seen-of (mark_at ms v) (s.roots v h);
  misses = λ v h. set.at v ∙ is_seen-not (mark_at ms v) (missed.at v h);
}

pub IsClosedSide-reached : (n : ℕ) (inside : List Bool) (links : List Link) (ms : List Mark) (X : List Bool) →
    IsSearched n links inside ms → IsReachedSet X ms → IsClosedSide X links
IsClosedSide-reached n inside links ms X s set = record {
  at = λ t link room h. set.at (to_at links t) ∙
      is_seen-of (mark_at ms (to_at links t)) (s.closed.at t link room (is_seen-level (mark_at ms (from_at links t)) (sym (set.at (from_at links t)) ∙ h)));
}

pub IsReachedSet-map : (ms : List Mark) → IsReachedSet (map is_seen ms) ms
IsReachedSet-map ms = record { len = length-map ms is_seen; at = λ v. get_or-map is_seen ms v no_mark }

pub IsSmallestCut-reached : (n : ℕ) (inside outside : List Bool) (arcs : List Cap) (links : List Link) (value : ℕ) (ms : List Mark) (X : List Bool) →
    IsFlow n inside outside arcs links value → IsSearched n links inside ms → IsMissed outside ms → IsReachedSet X ms →
    IsSmallestCut n inside outside arcs value X
IsSmallestCut-reached n inside outside arcs links value ms X flow s missed set =
    let separates = Separates-reached n inside outside links ms X s missed set in
    let closed = IsClosedSide-reached n inside links ms X s set in
    record {
      cut = least_closed n inside outside arcs links value flow X separates closed;
      smallest = λ Y cut.
          let carried : IsCarried (λ v. has Y v ≡ true) links = record { at = (closed_least n inside outside arcs links value flow Y cut).at } in
          record {
            at = λ v h. reached_all (λ w. has Y w ≡ true) links inside ms s.forest carried cut.separates.holds v
                (is_seen-level (mark_at ms v) (sym (set.at v) ∙ h));
          };
    }

-- the same link, gone along the other way
pub turned : Way → Way
turned Forth = Back
turned Back = Forth

from-turned : (l : Link) (w : Way) → from_of (mirrored l) (turned w) ≡ to_of l w
unfolding turned
from-turned l Forth = refl
from-turned l Back = refl

to-turned : (l : Link) (w : Way) → to_of (mirrored l) (turned w) ≡ from_of l w
unfolding turned
to-turned l Forth = refl
to-turned l Back = refl

room-turned : (l : Link) (w : Way) → room_of (mirrored l) (turned w) ≡ room_of l w
unfolding turned
room-turned l Forth = refl
room-turned l Back = refl

link-mirrored : (ls : List Link) (j : ℕ) → link_at (map mirrored ls) j ≡ mirrored (link_at ls j)
link-mirrored [] j = refl
link-mirrored (l ∷ ls) zero = refl
link-mirrored (l ∷ ls) (suc j) = link-mirrored ls j

abbrev turned_step : Step → Step
turned_step s = record { link = s.link; way = turned s.way }

from_at-turned : (ls : List Link) (s : Step) → from_at (map mirrored ls) (turned_step s) ≡ to_at ls s
from_at-turned ls s = ap (λ l. from_of l (turned s.way)) (link-mirrored ls s.link) ∙ from-turned (link_at ls s.link) s.way

to_at-turned : (ls : List Link) (s : Step) → to_at (map mirrored ls) (turned_step s) ≡ from_at ls s
to_at-turned ls s = ap (λ l. to_of l (turned s.way)) (link-mirrored ls s.link) ∙ to-turned (link_at ls s.link) s.way

room_at-turned : (ls : List Link) (s : Step) → room_at (map mirrored ls) (turned_step s) ≡ room_at ls s
room_at-turned ls s = ap (λ l. room_of l (turned s.way)) (link-mirrored ls s.link) ∙ room-turned (link_at ls s.link) s.way

from-mirrored : (l : Link) (w : Way) → from_of (mirrored l) w ≡ from_of l w
from-mirrored l Forth = refl
from-mirrored l Back = refl

to-mirrored : (l : Link) (w : Way) → to_of (mirrored l) w ≡ to_of l w
to-mirrored l Forth = refl
to-mirrored l Back = refl

pub SameEnds-mirrored : (ls : List Link) → SameEnds ls (map mirrored ls)
SameEnds-mirrored ls = record {
  len = grind (arith, common_steps);
  from = λ s. ap (λ l. from_of l s.way) (link-mirrored ls s.link) ∙ from-mirrored (link_at ls s.link) s.way;
  to = λ s. ap (λ l. to_of l s.way) (link-mirrored ls s.link) ∙ to-mirrored (link_at ls s.link) s.way;
}

room-back : (l : Link) (w : Way) → room_of (mirrored l) w ≡ room_of l (turned w)
unfolding turned
room-back l Forth = refl
room-back l Back = refl

from-back : (l : Link) (w : Way) → from_of l (turned w) ≡ to_of l w
unfolding turned
from-back l Forth = refl
from-back l Back = refl

to-back : (l : Link) (w : Way) → to_of l (turned w) ≡ from_of l w
unfolding turned
to-back l Forth = refl
to-back l Back = refl

room_at-back : (ls : List Link) (s : Step) → room_at (map mirrored ls) s ≡ room_at ls (turned_step s)
room_at-back ls s = ap (λ l. room_of l s.way) (link-mirrored ls s.link) ∙ room-back (link_at ls s.link) s.way

-- what is not in a closed side is carried on in the mirror
IsCarried-mirrored : (P : ℕ → Type 0) (Q : ℕ → Type 0) (ls : List Link) → IsCarried P ls → ((v : ℕ) → P v → Q v → ⊥) → ((v : ℕ) → (P v → ⊥) → Q v) →
    IsCarried Q (map mirrored ls)
IsCarried-mirrored P Q ls c apart either = record {
  at = λ s link room from.
      let same = SameEnds-mirrored ls in
      let t : Step = turned_step s in
      let room' : 0 < room_at ls t = let e = room_at-back ls s in omega arith in
      let link' : t.link < length ls = omega (arith, same.len) in
      either (to_at (map mirrored ls) s) (λ p.
      let p' : P (from_at ls t) = subst P (same.to s ∙ sym (from-back (link_at ls s.link) s.way)) p in
      let q : P (to_at ls t) = c.at t link' room' p' in
      apart (from_at (map mirrored ls) s) (subst P (to-back (link_at ls s.link) s.way ∙ sym (same.from s)) q) from);
}

bool_false : (b : Bool) → (b ≡ true → ⊥) → b ≡ false
bool_false true h = absurd (h refl)
bool_false false h = refl

bool_apart : (b : Bool) → b ≡ true → b ≡ false → ⊥
bool_apart b t f = cc

-- X is the set of the nodes that are not reached
pub record IsMissedSet (X : List Bool) (ms : List Mark) : Type 0 where
  pub len : length X ≡ length ms
  pub at : (v : ℕ) → v < length ms → has X v ≡ not (is_seen (mark_at ms v))

missed_true : (X : List Bool) (ms : List Mark) → IsMissedSet X ms → (v : ℕ) → has X v ≡ true → (mark_at ms v).level < unseen → ⊥
missed_true X ms set v h seen =
    let e = set.at v (omega (arith, has-below X v h, set.len)) in
    let f = is_seen-of (mark_at ms v) seen in
    bool_apart (has X v) h (e ∙ ap not f)

true_missed : (X : List Bool) (ms : List Mark) → IsMissedSet X ms → (v : ℕ) → v < length ms → ((mark_at ms v).level < unseen → ⊥) → has X v ≡ true
true_missed X ms set v lt h =
    set.at v lt ∙ ap not (bool_false (is_seen (mark_at ms v)) (λ e. h (is_seen-level (mark_at ms v) e)))

pub IsLargestCut-missed : (n : ℕ) (inside outside : List Bool) (arcs : List Cap) (links : List Link) (rows : List (List Step)) (value : ℕ) (ms ms' : List Mark) (X : List Bool) →
    length inside ≡ n → IsAdjacency n links rows → IsFlow n inside outside arcs links value → IsSearched n links inside ms → IsMissed outside ms →
    IsSearched n (map mirrored links) outside ms' → IsMissedSet X ms' → IsLargestCut n inside outside arcs value X
IsLargestCut-missed n inside outside arcs links rows value ms ms' X len net flow s missed s' set =
    let fit : (v : ℕ) → (mark_at ms' v).level < unseen → (mark_at ms v).level < unseen → ⊥ =
    λ v back. reached_all (λ w. (mark_at ms w).level < unseen → ⊥) (map mirrored links) outside ms' s'.forest
    (IsCarried-mirrored (λ w. (mark_at ms w).level < unseen) (λ w. (mark_at ms w).level < unseen → ⊥) links (record { at = s.closed.at })
    (λ w p q. q p) (λ w h. h))
    (λ w h lt. omega (arith, missed.at w h)) v back in
    let separates : Separates n inside outside X = record {
      long = set.len ∙ s'.len;
      holds = λ v h. true_missed X ms' set v (omega (arith, has-below inside v h, s'.len)) (λ back. fit v back (s.roots v h));
      misses = λ v h. bool_false (has X v) (λ e. missed_true X ms' set v e (s'.roots v h));
    } in
    let closed : IsClosedSide X links = record {
      at = λ t link room h. true_missed X ms' set (to_at links t) (omega (arith, net.to t link, s'.len)) (λ back.
          let t' : Step = turned_step t in
          let link' : t'.link < length (map mirrored links) = omega (arith, (SameEnds-mirrored links).len) in
          let room' : 0 < room_at (map mirrored links) t' = let e = room_at-turned links t in omega arith in
          let seen : (mark_at ms' (from_at (map mirrored links) t')).level < unseen = let e = ap (λ v. (mark_at ms' v).level) (from_at-turned links t) in omega arith in
          let next = s'.closed.at t' link' room' seen in
          let here : (mark_at ms' (from_at links t)).level < unseen = let e = ap (λ v. (mark_at ms' v).level) (to_at-turned links t) in omega arith in
          missed_true X ms' set (from_at links t) h here);
    } in
    record {
      cut = least_closed n inside outside arcs links value flow X separates closed;
      largest = λ Y cut. record {
        at = λ v h. true_missed X ms' set v (omega (arith, has-below Y v h, cut.separates.long, s'.len)) (λ back.
            let shut = closed_least n inside outside arcs links value flow Y cut in
            let out : has Y v ≡ false =
            reached_all (λ w. has Y w ≡ false) (map mirrored links) outside ms' s'.forest
            (IsCarried-mirrored (λ w. has Y w ≡ true) (λ w. has Y w ≡ false) links (record { at = shut.at })
            (λ w. bool_apart (has Y w)) (λ w. bool_false (has Y w)))
            cut.separates.misses v back in
            bool_apart (has Y v) h out);
      };
    }

below_or_not : (a b : ℕ) → (a < b) ⊎ (b ≤ a)
below_or_not a b = grind arith

pub reached_set : (X : List Bool) (ms : List Mark) → length X ≡ length ms → ((v : ℕ) → v < length ms → has X v ≡ is_seen (mark_at ms v)) → IsReachedSet X ms
reached_set X ms len at = record {
  len = len;
  at = λ v. elim (below_or_not v (length ms)) [
    | inl lt ↦ at v lt
    | inr le ↦
        bool_false (has X v) (λ e. omega (arith, has-below X v e)) ∙
        sym (bool_false (is_seen (mark_at ms v)) (λ e. omega (arith, seen_below ms v (is_seen-level (mark_at ms v) e))))
  ];
}
