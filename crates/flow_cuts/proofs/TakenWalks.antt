-- A walk that is taken out of what is sent, and walks in which no link stands twice.
use Rattle.std.proofs.Common.{◌≡◌, ◌≢◌, ◌∙◌, ℕ, suc, zero, ◌+◌, ◌-◌, ◌<◌, ◌≤◌, List, [], ◌∷◌, ◌++◌, length, reverse, Bool, true, false, refl, sym, ap, subst, arith, inl, inr}
use Rattle.std.specs.Prelude.{sum_by, ◌==◌, slice_index_or, map, All}
use Rattle.std.proofs.lemmas.List.{reverse-append}
use Rattle.std.proofs.lemmas.List.Sums.{sum_by-append, sum_by-cons}
use Rattle.std.proofs.lemmas.List.Elements.{All-append}
use Rattle.std.proofs.lemmas.Grind.{common_steps}
use Rattle.flow_cuts.specs.declared.network.Link.{Link}
use Rattle.flow_cuts.specs.declared.network.Step.{Step}
use Rattle.flow_cuts.specs.declared.network.Way.{Way}
use Rattle.flow_cuts.specs.declared.network.Way.TheVariants.{Forth, Back}
use Rattle.flow_cuts.specs.declared.search.Mark.{Mark}
use Rattle.flow_cuts.specs.Residual.{from_of, to_of, room_of, link_at, from_at, to_at, room_at, SameEnds, SameSums}
use Rattle.graph_core.specs.Side.{has, IsOnly}
use Rattle.flow_cuts.specs.Search.{mark_at, IsOpenWay}
use Rattle.flow_cuts.specs.Streams.{taken, both_at, sent_of, IsSent, IsStream, IsLess}
use Rattle.graph_core.specs.Picked.{occurrences}
use Rattle.graph_core.proofs.Counting.{weight}
use Rattle.flow_cuts.specs.LinkWalks.{Joins, IsLinkWalk, AreLinkWalks, AreUnits}
use Rattle.flow_cuts.specs.Search.{IsSearched, IsMissed, is_seen}
use Rattle.flow_cuts.proofs.ExtremeSides.{Separates-reached, IsClosedSide-reached, IsReachedSet-map}
use Rattle.flow_cuts.proofs.SearchTrees.{eq_or_not}
use Rattle.flow_cuts.proofs.OpenWays.{HasLastStep, IsOpenWay-kept, SameEnds-trans}
use Rattle.flow_cuts.proofs.Streams.{SameEnds-taken, IsLess-taken, IsLess-trans, both_at-here, both_at-off, room_at-kept, IsTakenFrom, IsTakenFrom-step, nothing_sent}

-- from v on the walk to the end is taken, and the list has its links, the last one first
pub record IsTaking (inside : List Bool) (ms : List Mark) (end : ℕ) (old new : List Link) (v : ℕ) (back : List ℕ) : Type 0 where
  pub node : v < length inside
  pub way : IsOpenWay new inside ms 1 (mark_at ms v).level v
  pub ends : SameEnds old new
  pub less : IsLess old new
  pub once : (j : ℕ) → occurrences j back + both_at new j ≡ both_at old j
  pub surplus : (outside : List Bool) (r : ℕ) → IsStream (length inside) inside outside old r → IsTakenFrom (length inside) inside outside new r end v
  pub walk : IsLinkWalk old v end (reverse back)

pub same_test : (a b : ℕ) → a ≡ b → (a == b) ≡ true
same_test a b e = grind arith

pub other_test : (a b : ℕ) → a ≢ b → (a == b) ≡ false
other_test a b e = grind arith

occurrences-push : (j i : ℕ) (walk : List ℕ) → occurrences j (walk ++ i ∷ []) ≡ occurrences j walk + weight (i == j)
occurrences-push j i walk =
    let e = sum_by-append (λ k. weight (k == j)) walk (i ∷ []) in
    omega arith

pub IsTaking-step : (inside : List Bool) (ms : List Mark) (end : ℕ) (old new : List Link) (v : ℕ) (back : List ℕ) (s : Step) →
    ((t : Step) → t.link < length old → from_at old t < length inside) →
    IsTaking inside ms end old new v back → HasLastStep new inside ms 1 v s → IsTaking inside ms end old (taken new s) (from_at new s) (back ++ s.link ∷ [])
IsTaking-step inside ms end old new v back s from t last =
    let same = SameEnds-taken new s last.link in
    let here : s.link < length old = omega (arith, last.link, t.ends.len) in
    record {
      node = omega (arith, from s here, t.ends.from s);
      way = IsOpenWay-kept new (taken new s) inside ms 1 (mark_at ms (from_at new s)).level (from_at new s) v same
          (λ x other le. room_at-kept new s x 1 last.link (λ e. other (e ∙ last.to)) le) last.lower last.rest;
      ends = SameEnds-trans old new (taken new s) t.ends same;
      less = IsLess-trans old new (taken new s) t.less (IsLess-taken new s last.link);
      once = λ j. elim (eq_or_not j s.link) [
        | inl e ↦
            let test : weight (s.link == j) ≡ 1 = ap weight (same_test s.link j (sym e)) in
            let at = both_at-here new s last.link last.room in
            let a = ap (both_at new) e in
            let b = ap (both_at (taken new s)) e in
            omega (arith, occurrences-push j s.link back, test, at, a, b, t.once j)
        | inr e ↦
            let test : weight (s.link == j) ≡ 0 = ap weight (other_test s.link j (λ x. e (sym x))) in
            omega (arith, occurrences-push j s.link back, test, both_at-off new s j last.link e, t.once j)
      ];
      surplus = λ outside r stream.
          let before : IsTakenFrom (length inside) inside outside new r end (to_at new s) = rw last.to (t.surplus outside r stream) in
          IsTakenFrom-step (length inside) inside outside new r end s last.link last.room before;
      walk =
          let room : 0 < room_at old s = omega (arith, t.less.at s, last.room) in
          let P : List ℕ → Type 0 = λ w. IsLinkWalk old (from_at new s) end w in
          let cons : IsLinkWalk old (from_at new s) end (s.link ∷ reverse back) =
          (v, here, (s.way, room, sym (t.ends.from s), sym (t.ends.to s) ∙ last.to), t.walk) in
          subst P (sym (reverse-append back (s.link ∷ []))) cons;
    }

pub occurrences-reverse : (j : ℕ) (walk : List ℕ) → occurrences j (reverse walk) ≡ occurrences j walk
occurrences-reverse j [] = refl
occurrences-reverse j (i ∷ walk) =
    let e : reverse (i ∷ walk) ≡ reverse walk ++ i ∷ [] = reverse-append (i ∷ []) walk in
    let f = ap (occurrences j) e in
    omega (arith, f, occurrences-push j i (reverse walk), occurrences-reverse j walk, sum_by-cons (λ k. weight (k == j)) i walk)

-- where a search misses the outside nothing is sent
pub none_left : (n : ℕ) (inside outside : List Bool) (sent : List Link) (r : ℕ) (ms : List Mark) → IsStream n inside outside sent r →
    IsSearched n sent inside ms → IsMissed outside ms → r ≡ 0
none_left n inside outside sent r ms stream s missed =
    let set = IsReachedSet-map ms in
    nothing_sent n inside outside sent r stream (map is_seen ms) (Separates-reached n inside outside sent ms (map is_seen ms) s missed set)
    (IsClosedSide-reached n inside sent ms (map is_seen ms) s set)

joins_more : (ls ls' : List Link) (j u v : ℕ) → SameEnds ls ls' → IsLess ls ls' → Joins (link_at ls' j) u v → Joins (link_at ls j) u v
joins_more ls ls' j u v same less h =
    let s : Step = record { link = j; way = h.0 } in
    (h.0, omega (arith, less.at s, h.1), sym (same.from s) ∙ h.2, sym (same.to s) ∙ h.3)

-- a walk in what is left is one in what there was
pub IsLinkWalk-more : (ls ls' : List Link) (u t : ℕ) (walk : List ℕ) → SameEnds ls ls' → IsLess ls ls' → IsLinkWalk ls' u t walk → IsLinkWalk ls u t walk
IsLinkWalk-more ls ls' u t [] same less h = h
IsLinkWalk-more ls ls' u t (j ∷ walk) same less h =
    (h.0, omega (arith, h.1, same.len), joins_more ls ls' j u h.0 same less h.2, IsLinkWalk-more ls ls' h.0 t walk same less h.3)

-- so many walks are split off, and r are left
pub record IsSplit (n : ℕ) (inside outside : List Bool) (old new : List Link) (r count : ℕ) (walks : List (List ℕ)) : Type 0 where
  pub ends : SameEnds old new
  pub less : IsLess old new
  pub stream : IsStream n inside outside new r
  pub once : (j : ℕ) → sum_by (occurrences j) walks + both_at new j ≤ 1
  pub number : length walks ≡ count
  pub each : (s t : ℕ) → IsOnly inside s → IsOnly outside t → All (IsLinkWalk old s t) walks

all_one : (P : List ℕ → Type 0) (w : List ℕ) → P w → (k : ℕ) (d : List ℕ) → k < length (w ∷ []) → P (slice_index_or (w ∷ []) k d)
all_one P w new zero d lt = new
all_one P w new (suc k) d lt = absurd (omega arith)

all_push : (P : List ℕ → Type 0) (walks : List (List ℕ)) (w : List ℕ) → All P walks → P w → All P (walks ++ w ∷ [])
all_push P walks w all new = All-append P walks (w ∷ []) all (all_one P w new)

pub IsSplit-more : (n : ℕ) (inside outside : List Bool) (old new new' : List Link) (r count : ℕ) (walks : List (List ℕ)) (walk : List ℕ) (s' end : ℕ) →
    IsSplit n inside outside old new r count walks → SameEnds new new' → IsLess new new' → 0 < r →
    ((r : ℕ) → IsStream n inside outside new (r + 1) → IsStream n inside outside new' r) →
    ((j : ℕ) → occurrences j walk + both_at new' j ≡ both_at new j) → has inside s' ≡ true → has outside end ≡ true → IsLinkWalk new s' end walk →
    IsSplit n inside outside old new' (r - 1) (count + 1) (walks ++ walk ∷ [])
IsSplit-more n inside outside old new new' r count walks walk s' end split same less some stream once from to is = record {
  ends = SameEnds-trans old new new' split.ends same;
  less = IsLess-trans old new new' split.less less;
  stream =
      let P : ℕ → Type 0 = IsStream n inside outside new in
      stream (r - 1) (subst P (omega arith) split.stream);
  once = λ j.
      let e = sum_by-append (occurrences j) walks (walk ∷ []) in
      omega (arith, e, once j, split.once j);
  number = let e : length (walks ++ walk ∷ []) ≡ length walks + 1 = grind (arith, common_steps) in omega (arith, split.number);
  each = λ s t a b.
      let P : ℕ → Type 0 = λ x. IsLinkWalk old x end walk in
      let Q : ℕ → Type 0 = λ x. IsLinkWalk old s x walk in
      all_push (IsLinkWalk old s t) walks walk (split.each s t a b)
      (subst Q (b.only end to) (subst P (a.only s' from) (IsLinkWalk-more old new s' end walk split.ends split.less is)));
}

pub AreLinkWalks-split : (n : ℕ) (inside outside : List Bool) (whole old new : List Link) (r count : ℕ) (walks : List (List ℕ)) (s t : ℕ) →
    SameEnds whole old → IsLess whole old → IsSplit n inside outside old new r count walks → IsOnly inside s → IsOnly outside t →
    AreLinkWalks whole s t count walks
AreLinkWalks-split n inside outside whole old new r count walks s t same less split a b = record {
  many = split.number;
  each = λ k d lt. IsLinkWalk-more whole old s t (slice_index_or walks k d) same less (split.each s t a b k d lt);
  disjoint = λ j. omega (arith, split.once j);
}

-- in a network of units at most one unit is sent along each link
pub units_sent : (whole links sent : List Link) → AreUnits whole → SameSums whole links → IsSent whole links sent → (j : ℕ) → both_at sent j ≤ 1
units_sent whole links sent units sums is j =
    let e = ap (λ l. l.forth + l.back) (is.at j) in
    omega (arith, sums.at j, units.forth j, units.back j)

less_of : (w l : Link) (x : Way) → room_of (sent_of w l) x ≤ room_of w x
less_of w l Forth = omega arith
less_of w l Back = omega arith

same_from : (w l : Link) (x : Way) → from_of (sent_of w l) x ≡ from_of w x
same_from w l Forth = refl
same_from w l Back = refl

same_to : (w l : Link) (x : Way) → to_of (sent_of w l) x ≡ to_of w x
same_to w l Forth = refl
same_to w l Back = refl

pub IsLess-sent : (whole links sent : List Link) → IsSent whole links sent → IsLess whole sent
IsLess-sent whole links sent is = record { at = λ s. let e = ap (λ l. room_of l s.way) (is.at s.link) in omega (arith, less_of (link_at whole s.link) (link_at links s.link) s.way) }

pub SameEnds-sent : (whole links sent : List Link) → IsSent whole links sent → SameEnds whole sent
SameEnds-sent whole links sent is = record {
  len = is.len;
  from = λ s. ap (λ l. from_of l s.way) (is.at s.link) ∙ same_from (link_at whole s.link) (link_at links s.link) s.way;
  to = λ s. ap (λ l. to_of l s.way) (is.at s.link) ∙ same_to (link_at whole s.link) (link_at links s.link) s.way;
}
