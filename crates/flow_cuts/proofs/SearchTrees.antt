-- One node more in a tree.
use Rattle.std.proofs.Common.{◌≡◌, ◌≢◌, ◌∙◌, ℕ, suc, zero, ◌+◌, ◌<◌, ◌≤◌, List, [], ◌∷◌, length, get_or, Bool, true, false, cond, refl, sym, ap, subst, arith, inl, inr, get_or-set_other, get_or-set_same}
use Rattle.std.specs.Prelude.{slice_index, slice_set, count_by, ◌⊎◌, min}
use Rattle.std.proofs.Math.ListN.{set, length-set}
use Rattle.std.proofs.lemmas.Grind.{common_steps, elements}
use Rattle.std.proofs.lemmas.List.Sums.{sum_by-set, count_by-le-length}
use Rattle.std.proofs.lemmas.Bool.Decides.{nat_tests}
use Rattle.flow_cuts.specs.declared.network.Link.{Link}
use Rattle.flow_cuts.specs.declared.network.Step.{Step}
use Rattle.flow_cuts.specs.declared.search.Mark.{Mark}
use Rattle.flow_cuts.specs.Residual.{from_at, to_at, room_at}
use Rattle.graph_core.specs.Side.{has}
use Rattle.graph_core.proofs.Counting.{weight}
use Rattle.flow_cuts.proofs.ClosedSides.{sum_by_zeros}
use Rattle.flow_cuts.specs.Search.{unseen, no_mark, mark_at, row_at, is_seen, IsReached, IsFilled, IsSearchForest, IsAdjacency, Grows, IsClosedTree, IsLookedAt, IsDone, IsRow}

-- an index is below the length where what is read there is not the default
pub seen_below : (ms : List Mark) (v : ℕ) → (mark_at ms v).level < unseen → v < length ms
seen_below [] v lt = absurd (omega arith)
seen_below (m ∷ ms) zero lt = omega arith
seen_below (m ∷ ms) (suc v) lt = omega (arith, seen_below ms v lt)

-- what is read after a write: what was written, or what was there
pub set_at : (ms : List Mark) (v w : ℕ) (m : Mark) → v < length ms → w ≡ v → mark_at (slice_set ms v m) w ≡ m
set_at ms v w m lt e = grind (arith, common_steps)

pub set_off : (ms : List Mark) (v w : ℕ) (m : Mark) → v < length ms → w ≢ v → mark_at (slice_set ms v m) w ≡ mark_at ms w
set_off ms v w m lt e = grind (arith, common_steps)

pub is_seen-of : (m : Mark) → m.level < unseen → is_seen m ≡ true
is_seen-of m lt = grind (arith, nat_tests)

pub is_seen-not : (m : Mark) → m.level ≡ unseen → is_seen m ≡ false
is_seen-not m e = grind (arith, nat_tests)

counted_more : (ms : List Mark) (v : ℕ) (m : Mark) → v < length ms → (mark_at ms v).level ≡ unseen → m.level < unseen →
    count_by is_seen (slice_set ms v m) ≡ count_by is_seen ms + 1
counted_more ms v m lt un seen =
    let all = sum_by-set (λ x. cond (is_seen x) 1 0) ms v m no_mark lt in
    let old : cond (is_seen (mark_at ms v)) 1 0 ≡ 0 = ap weight (is_seen-not (mark_at ms v) un) in
    let new : cond (is_seen m) 1 0 ≡ 1 = ap weight (is_seen-of m seen) in
    omega (arith, all, old, new)

pub place_left : (n : ℕ) (ms : List Mark) (q : List ℕ) (c v : ℕ) → IsFilled n ms q c → v < length ms → (mark_at ms v).level ≡ unseen → c < n
place_left n ms q c v f lt un =
    let m : Mark = record no_mark { level = 0 } in
    let more = counted_more ms v m lt un (omega arith) in
    let le = count_by-le-length is_seen (slice_set ms v m) in
    omega (arith, more, le, length-set ms v m, f.counted, f.marks_len)

pub eq_or_not : (a b : ℕ) → (a ≡ b) ⊎ (a ≢ b)
eq_or_not a b = grind arith

-- what is reached stays reached, with its mark
kept_mark : (ms : List Mark) (v w : ℕ) (m : Mark) → v < length ms → (mark_at ms v).level ≡ unseen → (mark_at ms w).level < unseen →
    mark_at (slice_set ms v m) w ≡ mark_at ms w
kept_mark ms v w m lt un seen =
    set_off ms v w m lt (λ e. let r = ap (λ x. (mark_at ms x).level) e in omega arith)

kept_seen : (ms : List Mark) (v u w : ℕ) (m : Mark) → v < length ms → (mark_at ms v).level ≡ unseen → w ≡ u → (mark_at ms u).level < unseen →
    (mark_at (slice_set ms v m) w).level < unseen
kept_seen ms v u w m lt un e seen =
    let r = ap (λ x. x.level) (kept_mark ms v u m lt un seen) in
    let r' = ap (λ x. (mark_at (slice_set ms v m) x).level) e in
    omega arith

low_add : (ms : List Mark) (c v w : ℕ) (m : Mark) → v < length ms → m.level ≤ c → ((mark_at ms w).level < unseen → (mark_at ms w).level < c) →
    (mark_at (slice_set ms v m) w).level < unseen → (mark_at (slice_set ms v m) w).level < c + 1
low_add ms c v w m lt le low h = elim (eq_or_not w v) [
  | inl e ↦ let r = ap (λ x. x.level) (set_at ms v w m lt e) in omega arith
  | inr e ↦ let r = ap (λ x. x.level) (set_off ms v w m lt e) in omega (arith, low (omega arith))
]

queued_add : (ms : List Mark) (q : List ℕ) (c v w : ℕ) (m : Mark) → v < length ms → c < length q →
    ((mark_at ms w).level < unseen → (k : ℕ) × (k < c) × (slice_index q k ≡ w)) →
    (mark_at (slice_set ms v m) w).level < unseen → (k : ℕ) × (k < c + 1) × (slice_index (slice_set q c v) k ≡ w)
queued_add ms q c v w m lt place old h = elim (eq_or_not w v) [
  | inl e ↦ (c, omega arith, get_or-set_same q c v 0 place ∙ sym e)
  | inr e ↦
      let r = ap (λ x. x.level) (set_off ms v w m lt e) in
      let was = old (omega arith) in
      (was.0, omega (arith, was.1), get_or-set_other q c was.0 v 0 (omega (arith, was.1)) ∙ was.2)
]

seen_add : (ms : List Mark) (q : List ℕ) (c v k : ℕ) (m : Mark) → v < length ms → c < length q → (mark_at ms v).level ≡ unseen → m.level < unseen →
    ((k : ℕ) → k < c → (mark_at ms (slice_index q k)).level < unseen) →
    k < c + 1 → (mark_at (slice_set ms v m) (slice_index (slice_set q c v) k)).level < unseen
seen_add ms q c v k m lt place un seen old h = elim (eq_or_not k c) [
  | inl e ↦
      let at : slice_index (slice_set q c v) k ≡ v = grind (arith, common_steps) in
      let r = ap (λ x. x.level) (set_at ms v (slice_index (slice_set q c v) k) m lt at) in
      omega arith
  | inr e ↦
      let was = old k (omega arith) in
      let at : slice_index (slice_set q c v) k ≡ slice_index q k = grind (arith, common_steps) in
      kept_seen ms v (slice_index q k) (slice_index (slice_set q c v) k) m lt un at was
]

pub IsFilled-add : (n : ℕ) (ms : List Mark) (q : List ℕ) (c v : ℕ) (m : Mark) → IsFilled n ms q c → v < length ms → (mark_at ms v).level ≡ unseen →
    m.level ≤ c → m.level < unseen → IsFilled n (slice_set ms v m) (slice_set q c v) (c + 1)
IsFilled-add n ms q c v m f lt un le seen =
    let room : c < n = place_left n ms q c v f lt un in
    let place : c < length q = omega (arith, f.queue_len) in
    record {
      marks_len = length-set ms v m ∙ f.marks_len;
      queue_len = length-set q c v ∙ f.queue_len;
      counted = counted_more ms v m lt un seen ∙ ap (λ k. k + 1) f.counted;
      low = λ w h. low_add ms c v w m lt le (f.low w) h;
      queued = λ w h. queued_add ms q c v w m lt place (f.queued w) h;
      seen = λ k h. seen_add ms q c v k m lt place un seen f.seen h;
    }

IsReached-add : (ls : List Link) (inside : List Bool) (ms : List Mark) (v w : ℕ) (m x : Mark) → v < length ms → (mark_at ms v).level ≡ unseen →
    x.level < unseen → IsReached ls inside ms w x → IsReached ls inside (slice_set ms v m) w x
IsReached-add ls inside ms v w m x lt un seen r =
    let same : 0 < x.level → mark_at (slice_set ms v m) (from_at ls x.via) ≡ mark_at ms (from_at ls x.via) =
    λ h. kept_mark ms v (from_at ls x.via) m lt un (omega (arith, r.up h)) in
    record {
      root = r.root;
      link = r.link;
      to = r.to;
      up = λ h. ap (λ y. y.level + 1) (same h) ∙ r.up h;
      room = r.room;
      narrower = λ h. let e = ap (λ y. y.narrow) (same h) in omega (arith, e, r.narrower h);
      some = r.some;
    }

reached_as : (ls : List Link) (inside : List Bool) (ms : List Mark) (v w : ℕ) (m x : Mark) → v ≡ w → m ≡ x → IsReached ls inside ms v m → IsReached ls inside ms w x
reached_as ls inside ms v w m x e d r =
    let P : ℕ → Type 0 = λ y. IsReached ls inside ms y m in
    let Q : Mark → Type 0 = λ y. IsReached ls inside ms w y in
    subst Q d (subst P e r)

pub IsSearchForest-add : (ls : List Link) (inside : List Bool) (ms : List Mark) (v : ℕ) (m : Mark) → v < length ms → (mark_at ms v).level ≡ unseen →
    m.level < unseen → IsSearchForest ls inside ms → IsReached ls inside ms v m → IsSearchForest ls inside (slice_set ms v m)
IsSearchForest-add ls inside ms v m lt un seen f new = record {
  reached = λ w h. elim (eq_or_not w v) [
    | inl e ↦ reached_as ls inside (slice_set ms v m) v w m (mark_at (slice_set ms v m) w) (sym e) (sym (set_at ms v w m lt e)) (IsReached-add ls inside ms v v m m lt un seen new)
    | inr e ↦
        let same = set_off ms v w m lt e in
        let was : (mark_at ms w).level < unseen = let r = ap (λ x. x.level) same in omega arith in
        reached_as ls inside (slice_set ms v m) w w (mark_at ms w) (mark_at (slice_set ms v m) w) refl (sym same)
        (IsReached-add ls inside ms v w m (mark_at ms w) lt un was (f.reached w was))
  ];
}

-- the mark that a step with room gives the node that it leads to
pub IsSearchForest-step : (ls : List Link) (ms : List Mark) (s : Step) (v : ℕ) (m : Mark) → s.link < length ls → 0 < room_at ls s →
    (mark_at ms (from_at ls s)).level < unseen → m.via ≡ s → m.level ≡ (mark_at ms (from_at ls s)).level + 1 →
    m.narrow ≡ min (mark_at ms (from_at ls s)).narrow (room_at ls s) →
    to_at ls s ≡ v → v < length ms → (mark_at ms v).level ≡ unseen → m.level < unseen →
    (inside : List Bool) → IsSearchForest ls inside ms → IsSearchForest ls inside (slice_set ms v m)
IsSearchForest-step ls ms s v m link room from via level narrow to lt un seen inside f =
    let up = f.reached (from_at ls s) from in
    IsSearchForest-add ls inside ms v m lt un seen f (record {
      root = λ z. absurd (omega arith);
      link = λ _. let e = ap (λ x. x.link) via in omega arith;
      to = λ _. ap (λ x. to_at ls x) via ∙ to;
      up = λ _. ap (λ x. (mark_at ms (from_at ls x)).level + 1) via ∙ sym level;
      room = λ _. let e = ap (λ x. room_at ls x) via in omega arith;
      narrower = λ _. let e = ap (λ x. (mark_at ms (from_at ls x)).narrow) via in omega arith;
      some = omega (arith, up.some);
    })

-- what an index reads is the mark there
pub read_mark : (ms : List Mark) (v : ℕ) (x : Mark) → v < length ms → x ≡ get_or ms v x → x ≡ mark_at ms v
read_mark ms v x lt e = e ∙ grind (arith, elements)

pub any_default : {A : Type 0} (xs : List A) (i : ℕ) (d d' : A) → i < length xs → get_or xs i d ≡ get_or xs i d'
any_default xs i d d' lt = grind (arith, elements)

pub IsFilled-none : (n : ℕ) (ms : List Mark) (q : List ℕ) → length ms ≡ n → length q ≡ n → ((v : ℕ) → (mark_at ms v).level ≡ unseen) → IsFilled n ms q 0
IsFilled-none n ms q m l none = record {
  marks_len = m;
  queue_len = l;
  counted = sum_by_zeros (λ x. cond (is_seen x) 1 0) no_mark ms (λ j lt. ap weight (is_seen-not (mark_at ms j) (none j)));
  low = λ v h. omega (arith, none v);
  queued = λ v h. absurd (omega (arith, none v));
  seen = λ k h. absurd (omega arith);
}

pub IsSearchForest-none : (ls : List Link) (inside : List Bool) (ms : List Mark) → ((v : ℕ) → (mark_at ms v).level ≡ unseen) → IsSearchForest ls inside ms
IsSearchForest-none ls inside ms none = record { reached = λ v h. absurd (omega (arith, none v)) }

-- a node of the side becomes a root
pub IsSearchForest-root : (ls : List Link) (inside : List Bool) (ms : List Mark) (v : ℕ) (m : Mark) → v < length ms → (mark_at ms v).level ≡ unseen →
    m.level ≡ 0 → 0 < m.narrow → has inside v ≡ true → IsSearchForest ls inside ms → IsSearchForest ls inside (slice_set ms v m)
IsSearchForest-root ls inside ms v m lt un at_root some here f = IsSearchForest-add ls inside ms v m lt un (omega arith) f (record {
  root = λ _. here;
  link = λ h. absurd (omega arith);
  to = λ h. absurd (omega arith);
  up = λ h. absurd (omega arith);
  room = λ h. absurd (omega arith);
  narrower = λ h. absurd (omega arith);
  some = some;
})

pub IsRow-of : (n : ℕ) (ls : List Link) (rows : List (List Step)) (ms : List Mark) (v : ℕ) → IsAdjacency n ls rows → (mark_at ms v).level < unseen →
    IsRow n ls ms (row_at rows v)
IsRow-of n ls rows ms v net seen = record {
  link = λ k s lt is. (net.leads v k s lt is).0;
  to = λ k s lt is. net.to s (net.leads v k s lt is).0;
  from = λ k s lt is.
      let e : (mark_at ms (from_at ls s)).level ≡ (mark_at ms v).level = ap (λ w. (mark_at ms w).level) (net.leads v k s lt is).1 in
      omega arith;
}

IsLookedAt-kept : (ls : List Link) (ms ms' : List Mark) (row : List Step) (k : ℕ) → IsLookedAt ls ms row k →
    ((v : ℕ) → (mark_at ms v).level < unseen → (mark_at ms' v).level < unseen) → IsLookedAt ls ms' row k
IsLookedAt-kept ls ms ms' row k old kept = record { at = λ j s lt is room. kept (to_at ls s) (old.at j s lt is room) }

abbrev IsRowDone : List Link → List (List Step) → List Mark → ℕ → Type 0
IsRowDone ls rows ms v = IsLookedAt ls ms (row_at rows v) (length (row_at rows v))

row_done : (ls : List Link) (rows : List (List Step)) (ms : List Mark) (v w : ℕ) → v ≡ w → IsRowDone ls rows ms v → IsRowDone ls rows ms w
row_done ls rows ms v w e h = let P : ℕ → Type 0 = IsRowDone ls rows ms in subst P e h

pub IsDone-more : (ls : List Link) (rows : List (List Step)) (ms : List Mark) (q : List ℕ) (c : ℕ) (ms' : List Mark) (q' : List ℕ) (c' h v : ℕ) →
    IsDone ls rows ms q h → Grows ms q c ms' q' c' → h < c → v ≡ slice_index q h → IsLookedAt ls ms' (row_at rows v) (length (row_at rows v)) →
    IsDone ls rows ms' q' (h + 1)
IsDone-more ls rows ms q c ms' q' c' h v old g lt is here = record {
  at = λ k below. elim (eq_or_not k h) [
    | inl e ↦ row_done ls rows ms' v (slice_index q' k) (is ∙ ap (λ i. slice_index q i) (sym e) ∙ sym (g.places k (omega arith))) here
    | inr e ↦
        let smaller : k < h = omega arith in
        row_done ls rows ms' (slice_index q k) (slice_index q' k) (sym (g.places k (omega arith)))
        (IsLookedAt-kept ls ms ms' (row_at rows (slice_index q k)) (length (row_at rows (slice_index q k))) (old.at k smaller) g.seen)
  ];
}

pub IsClosedTree-done : (n : ℕ) (ls : List Link) (rows : List (List Step)) (ms : List Mark) (q : List ℕ) (c h : ℕ) → IsAdjacency n ls rows →
    IsFilled n ms q c → IsDone ls rows ms q h → c ≤ h → IsClosedTree ls ms
IsClosedTree-done n ls rows ms q c h net f d all = record {
  at = λ s link room from.
      let place = f.queued (from_at ls s) from in
      let in_row = net.listed s link in
      let looked = row_done ls rows ms (slice_index q place.0) (from_at ls s) place.2 (d.at place.0 (omega (arith, place.1))) in
      looked.at in_row.0 s in_row.1 in_row.2 room;
}

-- a tree of roots: those nodes below i that the side holds
pub record IsPlanted (n : ℕ) (inside : List Bool) (i : ℕ) (ms : List Mark) (q : List ℕ) (c : ℕ) : Type 0 where
  pub filled : IsFilled n ms q c
  pub roots : (v : ℕ) → v < i → has inside v ≡ true → (mark_at ms v).level < unseen
  pub later : (v : ℕ) → i ≤ v → (mark_at ms v).level ≡ unseen
  pub forest : (links : List Link) → IsSearchForest links inside ms

pub IsPlanted-none : (n : ℕ) (inside : List Bool) (ms : List Mark) (q : List ℕ) (c : ℕ) → length ms ≡ n → length q ≡ n → c ≡ 0 → ((v : ℕ) → (mark_at ms v).level ≡ unseen) →
    IsPlanted n inside 0 ms q c
IsPlanted-none n inside ms q c m l e none = record {
  filled = let P : ℕ → Type 0 = IsFilled n ms q in subst P (sym e) (IsFilled-none n ms q m l none);
  roots = λ v lt h. absurd (omega arith);
  later = λ v h. none v;
  forest = λ links. IsSearchForest-none links inside ms none;
}

pub IsPlanted-root : (n : ℕ) (inside : List Bool) (i : ℕ) (ms : List Mark) (q : List ℕ) (c : ℕ) (m : Mark) → IsPlanted n inside i ms q c → i < n →
    m.level ≡ 0 → 0 < m.narrow → has inside i ≡ true → IsPlanted n inside (i + 1) (slice_set ms i m) (slice_set q c i) (c + 1)
IsPlanted-root n inside i ms q c m p lt root some here =
    let below : i < length ms = omega (arith, p.filled.marks_len) in
    let un : (mark_at ms i).level ≡ unseen = p.later i (omega arith) in
    record {
      filled = IsFilled-add n ms q c i m p.filled below un (omega arith) (omega arith);
      roots = λ v less h. elim (eq_or_not v i) [
        | inl e ↦ let at = ap (λ x. x.level) (set_at ms i v m below e) in omega arith
        | inr e ↦ kept_seen ms i v v m below un refl (p.roots v (omega arith) h)
      ];
      later = λ v more. let at = ap (λ x. x.level) (set_off ms i v m below (λ e. omega arith)) in omega (arith, p.later v (omega arith));
      forest = λ links. IsSearchForest-root links inside ms i m below un root some here (p.forest links);
    }

pub IsPlanted-skip : (n : ℕ) (inside : List Bool) (i : ℕ) (ms : List Mark) (q : List ℕ) (c : ℕ) → IsPlanted n inside i ms q c → has inside i ≡ false →
    IsPlanted n inside (i + 1) ms q c
IsPlanted-skip n inside i ms q c p absent = record {
  filled = p.filled;
  roots = λ v less h. elim (eq_or_not v i) [
    | inl e ↦ let at = ap (has inside) e in cc (at, absent, h)
    | inr e ↦ p.roots v (omega arith) h
  ];
  later = λ v more. p.later v (omega arith);
  forest = p.forest;
}

pub place_in : (q : List ℕ) (k v : ℕ) → k < length q → v ≡ get_or q k v → v ≡ slice_index q k
place_in q k v lt e = e ∙ any_default q k v 0 lt

pub count_le : (n : ℕ) (ms : List Mark) (q : List ℕ) (c : ℕ) → IsFilled n ms q c → c ≤ n
count_le n ms q c f = omega (arith, count_by-le-length is_seen ms, f.counted, f.marks_len)
