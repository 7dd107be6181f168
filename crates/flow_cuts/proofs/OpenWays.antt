-- The steps from a side to a node, and a push along one of them.
use Rattle.std.proofs.Common.{◌≡◌, ◌≢◌, ◌∙◌, ℕ, suc, zero, ◌+◌, ◌<◌, ◌≤◌, List, length, get_or, Bool, false, refl, sym, ap, subst, arith, inl, inr}
use Rattle.std.specs.Prelude.{slice_set}
use Rattle.std.proofs.Math.ListN.{length-set}
use Rattle.std.proofs.lemmas.Grind.{common_steps}
use Rattle.flow_cuts.specs.declared.network.Link.{Link}
use Rattle.flow_cuts.specs.declared.network.Step.{Step}
use Rattle.flow_cuts.specs.declared.network.Way.{Way}
use Rattle.flow_cuts.specs.declared.network.Way.TheVariants.{Forth, Back}
use Rattle.flow_cuts.specs.declared.search.Mark.{Mark}
use Rattle.flow_cuts.specs.Residual.{from_of, to_of, room_of, moved, link_at, from_at, to_at, room_at, pushed, EachFits, SameEnds, SameSums}
use Rattle.graph_core.specs.Side.{has}
use Rattle.flow_cuts.specs.Search.{unseen, no_step, mark_at, IsSearchForest, IsAdjacency, IsOpenWay}
use Rattle.flow_cuts.proofs.SearchTrees.{eq_or_not, any_default}

from-moved : (l : Link) (w x : Way) (a : ℕ) → from_of (moved l w a) x ≡ from_of l x
from-moved l Forth Forth a = refl
from-moved l Forth Back a = refl
from-moved l Back Forth a = refl
from-moved l Back Back a = refl

to-moved : (l : Link) (w x : Way) (a : ℕ) → to_of (moved l w a) x ≡ to_of l x
to-moved l Forth Forth a = refl
to-moved l Forth Back a = refl
to-moved l Back Forth a = refl
to-moved l Back Back a = refl

both-moved : (l : Link) (w : Way) (a : ℕ) → a ≤ room_of l w → (moved l w a).forth + (moved l w a).back ≡ l.forth + l.back
both-moved l Forth a le = omega arith
both-moved l Back a le = omega arith

room_moved : (l : Link) (w x : Way) (a : ℕ) → to_of l x ≢ to_of l w → a ≤ room_of l x → a ≤ room_of (moved l w a) x
room_moved l Forth Forth a other le = absurd (other refl)
room_moved l Forth Back a other le = omega arith
room_moved l Back Forth a other le = omega arith
room_moved l Back Back a other le = absurd (other refl)

pub link_set : (ls : List Link) (i j : ℕ) (l : Link) → i < length ls → j ≡ i → link_at (slice_set ls i l) j ≡ l
link_set ls i j l lt e = grind (arith, common_steps)

pub link_off : (ls : List Link) (i j : ℕ) (l : Link) → i < length ls → j ≢ i → link_at (slice_set ls i l) j ≡ link_at ls j
link_off ls i j l lt e = grind (arith, common_steps)

pub SameEnds-pushed : (ls : List Link) (s : Step) (a : ℕ) → s.link < length ls → SameEnds ls (pushed ls s a)
SameEnds-pushed ls s a lt =
    let new : Link = moved (link_at ls s.link) s.way a in
    record {
      len = length-set ls s.link new;
      from = λ t. elim (eq_or_not t.link s.link) [
        | inl e ↦ ap (λ l. from_of l t.way) (link_set ls s.link t.link new lt e) ∙ from-moved (link_at ls s.link) s.way t.way a ∙ ap (λ j. from_of (link_at ls j) t.way) (sym e)
        | inr e ↦ ap (λ l. from_of l t.way) (link_off ls s.link t.link new lt e)
      ];
      to = λ t. elim (eq_or_not t.link s.link) [
        | inl e ↦ ap (λ l. to_of l t.way) (link_set ls s.link t.link new lt e) ∙ to-moved (link_at ls s.link) s.way t.way a ∙ ap (λ j. to_of (link_at ls j) t.way) (sym e)
        | inr e ↦ ap (λ l. to_of l t.way) (link_off ls s.link t.link new lt e)
      ];
    }

pub SameEnds-trans : (a b c : List Link) → SameEnds a b → SameEnds b c → SameEnds a c
SameEnds-trans a b c x y = record { len = y.len ∙ x.len; from = λ s. y.from s ∙ x.from s; to = λ s. y.to s ∙ x.to s }

pub EachFits-pushed : (ls : List Link) (s : Step) (a : ℕ) → s.link < length ls → a ≤ room_at ls s → EachFits ls → EachFits (pushed ls s a)
EachFits-pushed ls s a lt le f =
    let new : Link = moved (link_at ls s.link) s.way a in
    record {
      at = λ j below. elim (eq_or_not j s.link) [
        | inl e ↦
            let same = ap (λ l. l.forth + l.back) (link_set ls s.link j new lt e) ∙ both-moved (link_at ls s.link) s.way a le in
            omega (arith, f.at s.link lt)
        | inr e ↦
            let same = ap (λ l. l.forth + l.back) (link_off ls s.link j new lt e) in
            omega (arith, f.at j (omega (arith, length-set ls s.link new)))
      ];
    }

pub IsAdjacency-same : (n : ℕ) (ls ls' : List Link) (rows : List (List Step)) → SameEnds ls ls' → IsAdjacency n ls rows → IsAdjacency n ls' rows
IsAdjacency-same n ls ls' rows same net = record {
  fits = net.fits;
  rows_len = net.rows_len;
  from = λ s lt. omega (arith, same.from s, net.from s (omega (arith, same.len)));
  to = λ s lt. omega (arith, same.to s, net.to s (omega (arith, same.len)));
  listed = λ s lt. rw same.from (net.listed s (omega (arith, same.len)));
  leads = λ v k s lt is. let old = net.leads v k s lt is in (omega (arith, old.0, same.len), same.from s ∙ old.1);
}

-- after a push along a step, the steps that lead elsewhere have their room still
room_kept : (ls : List Link) (s t : Step) (a : ℕ) → s.link < length ls → to_at ls t ≢ to_at ls s → a ≤ room_at ls t → a ≤ room_at (pushed ls s a) t
room_kept ls s t a lt other le =
    let new : Link = moved (link_at ls s.link) s.way a in
    elim (eq_or_not t.link s.link) [
      | inl e ↦
          let here : link_at ls t.link ≡ link_at ls s.link = ap (link_at ls) e in
          let ne : to_of (link_at ls s.link) t.way ≢ to_of (link_at ls s.link) s.way = λ x. other (ap (λ l. to_of l t.way) here ∙ x) in
          let was : room_at ls t ≡ room_of (link_at ls s.link) t.way = ap (λ l. room_of l t.way) here in
          let now : room_at (pushed ls s a) t ≡ room_of new t.way = ap (λ l. room_of l t.way) (link_set ls s.link t.link new lt e) in
          omega (arith, room_moved (link_at ls s.link) s.way t.way a ne (omega arith))
      | inr e ↦
          let now : room_at (pushed ls s a) t ≡ room_at ls t = ap (λ l. room_of l t.way) (link_off ls s.link t.link new lt e) in
          omega arith
    ]

-- a push along a step to a node of a higher level room_out the way open
pub IsOpenWay-pushed : (ls : List Link) (inside : List Bool) (ms : List Mark) (a k u v : ℕ) (s : Step) → s.link < length ls →
    to_at ls s ≡ v → k < (mark_at ms v).level → IsOpenWay ls inside ms a k u → IsOpenWay (pushed ls s a) inside ms a k u
IsOpenWay-pushed ls inside ms a zero u v s lt to above way = way
IsOpenWay-pushed ls inside ms a (suc k) u v s lt to above way =
    let t : Step = (mark_at ms u).via in
    let same = SameEnds-pushed ls s a lt in
    let apart : u ≢ v = λ e. let d = ap (λ x. (mark_at ms x).level) e in omega (arith, way.0) in
    let rest = IsOpenWay-pushed ls inside ms a k (from_at ls t) v s lt to (omega arith) way.4 in
    let P : ℕ → Type 0 = IsOpenWay (pushed ls s a) inside ms a k in
    (way.0, omega (arith, same.len, way.1), same.to t ∙ way.2, room_kept ls s t a lt (λ e. apart (sym way.2 ∙ e ∙ to)) way.3, subst P (sym (same.from t)) rest)

-- a way stays open where the rooms of the steps that lead elsewhere do
pub IsOpenWay-kept : (ls ls' : List Link) (inside : List Bool) (ms : List Mark) (a k u v : ℕ) → SameEnds ls ls' →
    ((t : Step) → to_at ls t ≢ v → a ≤ room_at ls t → a ≤ room_at ls' t) → k < (mark_at ms v).level → IsOpenWay ls inside ms a k u → IsOpenWay ls' inside ms a k u
IsOpenWay-kept ls ls' inside ms a zero u v same kept above way = way
IsOpenWay-kept ls ls' inside ms a (suc k) u v same kept above way =
    let t : Step = (mark_at ms u).via in
    let apart : u ≢ v = λ e. let d = ap (λ x. (mark_at ms x).level) e in omega (arith, way.0) in
    let rest = IsOpenWay-kept ls ls' inside ms a k (from_at ls t) v same kept (omega arith) way.4 in
    let P : ℕ → Type 0 = IsOpenWay ls' inside ms a k in
    (way.0, omega (arith, same.len, way.1), same.to t ∙ way.2, kept t (λ e. apart (sym way.2 ∙ e)) way.3, subst P (sym (same.from t)) rest)

-- a search gives a way to each node that it reaches
pub IsOpenWay-found : (ls : List Link) (inside : List Bool) (ms : List Mark) (a k v : ℕ) → IsSearchForest ls inside ms → (mark_at ms v).level ≡ k → k < unseen →
    a ≤ (mark_at ms v).narrow → IsOpenWay ls inside ms a k v
IsOpenWay-found ls inside ms a zero v f level lt le =
    let r = f.reached v (omega arith) in
    (r.root level, level)
IsOpenWay-found ls inside ms a (suc k) v f level lt le =
    let r = f.reached v (omega arith) in
    let pos : 0 < (mark_at ms v).level = omega arith in (
      level,
      r.link pos,
      r.to pos,
      omega (arith, r.room pos),
      IsOpenWay-found ls inside ms a k (from_at ls (mark_at ms v).via) f (omega (arith, r.up pos)) (omega arith) (omega (arith, r.narrower pos)),
    )

-- the last step of a way that ends outside of the side
pub record HasLastStep (ls : List Link) (inside : List Bool) (ms : List Mark) (a v : ℕ) (s : Step) : Type 0 where
  pub link : s.link < length ls
  pub to : to_at ls s ≡ v
  pub room : a ≤ room_at ls s
  pub lower : (mark_at ms (from_at ls s)).level < (mark_at ms v).level
  pub rest : IsOpenWay ls inside ms a (mark_at ms (from_at ls s)).level (from_at ls s)

way_level : (ls : List Link) (inside : List Bool) (ms : List Mark) (a k v : ℕ) → IsOpenWay ls inside ms a k v → (mark_at ms v).level ≡ k
way_level ls inside ms a zero v way = way.1
way_level ls inside ms a (suc k) v way = way.0

last_step : (ls : List Link) (inside : List Bool) (ms : List Mark) (a k v : ℕ) → IsOpenWay ls inside ms a k v → has inside v ≡ false →
    HasLastStep ls inside ms a v (mark_at ms v).via
last_step ls inside ms a zero v way out = let e = way.0 in absurd (cc (e, out))
last_step ls inside ms a (suc k) v way out =
    let u : ℕ = from_at ls (mark_at ms v).via in
    let level = way_level ls inside ms a k u way.4 in
    let P : ℕ → Type 0 = λ j. IsOpenWay ls inside ms a j u in
    record {
      link = way.1;
      to = way.2;
      room = way.3;
      lower = omega (arith, way.0, level);
      rest = subst P (sym level) way.4;
    }

pub has_last_step : (ls : List Link) (inside : List Bool) (ms : List Mark) (a v : ℕ) (s : Step) → IsOpenWay ls inside ms a (mark_at ms v).level v → has inside v ≡ false →
    s ≡ (mark_at ms v).via → HasLastStep ls inside ms a v s
has_last_step ls inside ms a v s way out e =
    let P : Step → Type 0 = HasLastStep ls inside ms a v in
    subst P (sym e) (last_step ls inside ms a (mark_at ms v).level v way out)

-- the way that is left after the push along its last step
pub IsOpenWay-rest : (ls : List Link) (inside : List Bool) (ms : List Mark) (a v : ℕ) (s : Step) → HasLastStep ls inside ms a v s →
    IsOpenWay (pushed ls s a) inside ms a (mark_at ms (from_at ls s)).level (from_at ls s)
IsOpenWay-rest ls inside ms a v s h =
    IsOpenWay-pushed ls inside ms a (mark_at ms (from_at ls s)).level (from_at ls s) v s h.link h.to h.lower h.rest

pub SameSums-pushed : (ls : List Link) (s : Step) (a : ℕ) → s.link < length ls → a ≤ room_at ls s → SameSums ls (pushed ls s a)
SameSums-pushed ls s a lt le =
    let new : Link = moved (link_at ls s.link) s.way a in
    record {
      at = λ j. elim (eq_or_not j s.link) [
        | inl e ↦
            ap (λ l. l.forth + l.back) (link_set ls s.link j new lt e) ∙ both-moved (link_at ls s.link) s.way a le ∙
            ap (λ i. (link_at ls i).forth + (link_at ls i).back) (sym e)
        | inr e ↦ ap (λ l. l.forth + l.back) (link_off ls s.link j new lt e)
      ];
    }

pub SameSums-trans : (a b c : List Link) → SameSums a b → SameSums b c → SameSums a c
SameSums-trans a b c x y = record { at = λ j. y.at j ∙ x.at j }

-- the step by which a node was reached, as an index reads it
abbrev pub via_at : List Mark → ℕ → Step
via_at ms v = (get_or ms v (record { level = 0; via = no_step; narrow = 0 })).via

pub via_is : (ms : List Mark) (v : ℕ) → v < length ms → via_at ms v ≡ (mark_at ms v).via
via_is ms v lt = ap (λ m. m.via) (any_default ms v _ _ lt)
