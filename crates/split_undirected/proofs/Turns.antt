-- One turn of splitting off a node's edges: what is kept, and that fewer candidates are left.
use Rattle.std.specs.Prelude.{ℕ, ◌≡◌, ◌≢◌, ◌+◌, ◌*◌, ◌/◌, ◌<◌, ◌≤◌, ◌==◌, ◌⊎◌, Bool, true, false, ◌&&◌, ◌||◌, nat_le, cond, List, [], ◌∷◌, ◌++◌, length, slice_index, refl}
use Rattle.std.proofs.Common.{sym, ap, ◌∙◌, inl, inr, arith, subst}
use Rattle.std.proofs.lemmas.Bool.{cases_eq, cases_lt, cases_Bool, eq-eqb, ne_eqb}
use Rattle.std.proofs.lemmas.Bool.Decides.{nat_tests}
use Rattle.std.proofs.lemmas.List.{length-append}
use Rattle.std.proofs.lemmas.List.Elements.{All-nil, All-cons, All-append}
use Rattle.graph_core.specs.Side.{has, sum_over}
use Rattle.graph_core.specs.declared.graph.Line.{Line}
use Rattle.graph_core.proofs.Counting.{weight}
use Rattle.graph_core.proofs.PairLaws.{pair_kept, pair_new, each_place}
use Rattle.graph_core.specs.Pairs.{pair_at, IsRow, pairs_of}
use Rattle.flow_cuts.specs.declared.network.Cap.{Cap}
use Rattle.split_undirected.specs.Most.{IsMost}
use Rattle.split_undirected.specs.CoveredStar.{room, is_candidate, IsDangerous, IsWitness, AreWitnesses, IsWider}
use Rattle.flow_cuts.specs.NewNode.{value_with}
use Rattle.split_undirected.specs.Network.{both_ways, IsStarNet, IsBlock}
use Rattle.split_undirected.specs.Underway.{IsUnderway, AreDone, IsTurn, IsAfterRow}
use Rattle.split_undirected.proofs.Candidates.{room_first, room_second, room_twice, candidate_room}
use Rattle.split_undirected.proofs.SplitLaws.{copies, lines_after-append, ends_at-append, pairs_of-push}
use Rattle.split_undirected.proofs.NextNet.{ends_lowered, net_falls, net_next, even_next}
use Rattle.split_undirected.specs.Split.{ends_at, lines_after}
use Rattle.split_undirected.specs.Rows.{counts_after, star_value, HaveSameEnds, IsMostAfter, AreMost}

-- lower counts have less room
room_less : (w left : ℕ → ℕ) (u v : ℕ) → left u ≤ w u → left v ≤ w v → room left u v ≤ room w u v
room_less w left u v a b = grind (arith, nat_tests)

-- a node with no room, or in one of the sides, is no candidate
pub gone_room : (w : ℕ → ℕ) (u v : ℕ) (X Y : List Bool) → room w u v ≡ 0 → is_candidate w u X Y v ≡ false
gone_room w u v X Y none = grind (arith, nat_tests)

pub gone_inside : (w : ℕ → ℕ) (u v : ℕ) (X Y : List Bool) → (has X v || has Y v) ≡ true → is_candidate w u X Y v ≡ false
gone_inside w u v X Y inside = grind (arith, nat_tests)

is_candidate_from : (w : ℕ → ℕ) (u v : ℕ) (X Y : List Bool) → 1 ≤ room w u v → (has X v || has Y v) ≡ false → is_candidate w u X Y v ≡ true
is_candidate_from w u v X Y some out = grind (arith, nat_tests)

-- lower counts and wider sides leave fewer candidates
pub candidates_less : (w left : ℕ → ℕ) (u : ℕ) (X Y X' Y' : List Bool) → ((x : ℕ) → left x ≤ w x) → IsWider X Y X' Y' → (x : ℕ) → is_candidate left u X' Y' x ≡ true → is_candidate w u X Y x ≡ true
candidates_less w left u X Y X' Y' less wider x can =
    let (some, nx, ny) = candidate_room left u x X' Y' can in
    elim (cases_Bool (has X x || has Y x)) [
      | inl inside ↦ absurd (cc (gone_inside left u x X' Y' (wider x inside), can))
      | inr outside ↦ is_candidate_from w u x X Y (omega (arith, room_less w left u x (less u) (less x))) outside
    ]

-- where q pairs use the room up, none is left; else u has an edge left
module _ (w left : ℕ → ℕ) (u v q : ℕ) (lowered : (x : ℕ) → left x + (cond (u == x) q 0 + cond (v == x) q 0) ≡ w x) where
  pub lowered_less : (x : ℕ) → left x ≤ w x
  lowered_less x = omega (arith, lowered x)

  lowered_apart : u ≢ v → (left u + q ≡ w u) × (left v + q ≡ w v)
  lowered_apart ne =
      let a : cond (u == u) q 0 ≡ q = ap (λ b. cond b q 0) (eq-eqb u u refl) in
      let b : cond (v == v) q 0 ≡ q = ap (λ b. cond b q 0) (eq-eqb v v refl) in
      let c : cond (v == u) q 0 ≡ 0 = ap (λ b. cond b q 0) (ne_eqb v u (λ e. ne (sym e))) in
      let d : cond (u == v) q 0 ≡ 0 = ap (λ b. cond b q 0) (ne_eqb u v ne) in
      (omega (arith, lowered u), omega (arith, lowered v))

  lowered_twice : u ≡ v → left u + 2 * q ≡ w u
  lowered_twice e =
      let a : cond (u == u) q 0 ≡ q = ap (λ b. cond b q 0) (eq-eqb u u refl) in
      let c : cond (v == u) q 0 ≡ q = ap (λ b. cond b q 0) (eq-eqb v u (sym e)) in
      omega (arith, lowered u)

  pub room_used : q ≡ room w u v → room left u v ≡ 0
  room_used all =
      elim (cases_eq u v) [
        | inl e ↦ (let t = lowered_twice e in
            let r : room w u v ≡ w u / 2 = ap (λ b. cond b (w u / 2) (cond (nat_le (w u) (w v)) (w u) (w v))) (eq-eqb u v e) in
            omega (arith, room_twice left u v e))
        | inr ne ↦ (let (a, b) = lowered_apart ne in
            let r : room w u v ≡ cond (nat_le (w u) (w v)) (w u) (w v) = ap (λ b. cond b (w u / 2) (cond (nat_le (w u) (w v)) (w u) (w v))) (ne_eqb u v ne) in
            one_used (w u) (w v) (left u) (left v) (room left u v) (room_first left u v) (room_second left u v) (omega (arith, a, all, r)) (omega (arith, b, all, r)))
      ]
    where
      one_used : (a b c d r : ℕ) → r ≤ c → r ≤ d → c + cond (nat_le a b) a b ≡ a → d + cond (nat_le a b) a b ≡ b → r ≡ 0
      one_used a b c d r e f g h = grind (arith, nat_tests)

  pub some_left : q < room w u v → 1 ≤ left u
  some_left fewer =
      elim (cases_eq u v) [
        | inl e ↦ omega (arith, lowered_twice e, room_twice w u v e)
        | inr ne ↦ (let (a, b) = lowered_apart ne in omega (arith, room_first w u v))
      ]

pub witnesses_fall : {n k : ℕ} (f g : List Bool → ℕ) {u : ℕ} {X Y : List Bool} → ((Z : List Bool) → g Z ≤ f Z) → AreWitnesses n k f u X Y → AreWitnesses n k g u X Y
witnesses_fall {n} {k} f g {u} {X} {Y} falls wit = record { near = fall X wit.near; far = fall Y wit.far }
  where
    fall : (Z : List Bool) → IsWitness n k f u Z → IsWitness n k g u Z
    fall Z w = record {
      long = w.long;
      either = elim w.either [ inl none ↦ inl none | inr d ↦ inr (record { proper = d.proper; holds = d.holds; value = omega (arith, falls Z, d.value) }) ];
    }

-- a row behind the others
most_push : {n k : ℕ} {ls : List Line} {w : ℕ → ℕ} (rows : List (ℕ × ℕ × ℕ)) (u v q : ℕ) → AreMost n k ls w rows → IsRow n (u, v, q)
    → IsMostAfter n k ls w (pairs_of rows) (u, v, q)
    → ((j : ℕ) → j < length rows → HaveSameEnds (pair_at rows j) (u, v, 0) → ⊥) → AreMost n k ls w (rows ++ (u, v, q) ∷ [])
most_push {n} {k} {ls} {w} rows u v q most row largest fresh =
    let r : ℕ × ℕ × ℕ = (u, v, q) in
    let more = rows ++ r ∷ [] in
    let long : length more ≡ length rows + 1 = length-append rows (r ∷ []) in
    record {
      each = All-append (IsRow n) rows (r ∷ []) most.each (All-cons (IsRow n) r [] row (All-nil (IsRow n)));
      most = each_place rows r (λ before t. IsMostAfter n k ls w (pairs_of before) t) most.most largest;
      once = λ i j before l same.
          elim (cases_lt j (length rows)) [
            | inl in' ↦ most.once i j before in' (subst (λ s. HaveSameEnds (pair_at rows i) s) (pair_kept rows r j in') (subst (λ s. HaveSameEnds s (pair_at more j)) (pair_kept rows r i (omega arith)) same))
            | inr past ↦ (let e : j ≡ length rows = omega arith in
                fresh i (omega arith) (subst (λ s. HaveSameEnds (pair_at rows i) s) (pair_new rows r j e) (subst (λ s. HaveSameEnds s (pair_at more j)) (pair_kept rows r i (omega arith)) same)))
          ];
    }

module _ {n k : ℕ} {ls : List Line} {w : ℕ → ℕ} {rows rows' : List (ℕ × ℕ × ℕ)} {arcs arcs' : List Cap} {counts counts' : List ℕ} {u v q : ℕ} (under : IsUnderway n k ls w rows arcs counts) (lu : u < n) (lv : v < n) (after : IsAfterRow u v q rows arcs counts rows' arcs' counts') where
  pub counts_fall : (x : ℕ) → slice_index counts' x ≤ slice_index counts x
  counts_fall = lowered_less (slice_index counts) (slice_index counts') u v q after.lowered

  pub values_fall : (X : List Bool) → value_with arcs' counts' X + 2 * (q * weight (has X u && has X v)) ≡ value_with arcs counts X
  values_fall X =
      elim after.either [
        | inl none ↦ (let zero' : q * weight (has X u && has X v) ≡ 0 = ap (λ m. m * weight (has X u && has X v)) none.0 ∙ omega arith in
            let same : value_with arcs' counts' X ≡ value_with arcs counts X = λ i. value_with (none.2 i) (none.3 i) X in omega arith)
        | inr some ↦ subst (λ a. value_with a counts' X + 2 * (q * weight (has X u && has X v)) ≡ value_with arcs counts X) (sym some.2) (net_falls under.net u v q lu lv counts' after.long after.lowered X)
      ]

  pub underway_next : IsMost n k (value_with arcs counts) (slice_index counts) u v q → ((j : ℕ) → j < length rows → HaveSameEnds (pair_at rows j) (u, v, 0) → ⊥) → IsUnderway n k ls w rows' arcs' counts'
  underway_next largest fresh =
      elim after.either [
        | inl none ↦ subst (λ r. IsUnderway n k ls w r arcs' counts') (sym none.1) (subst (λ a. IsUnderway n k ls w rows a counts') (sym none.2) (subst (λ c. IsUnderway n k ls w rows arcs c) (sym none.3) under))
        | inr some ↦ (let P = pairs_of rows in
            let R = copies u v q in
            let pairs : pairs_of (rows ++ (u, v, q) ∷ []) ≡ P ++ R = pairs_of-push rows (u, v, q) in
            let lines : lines_after ls (pairs_of (rows ++ (u, v, q) ∷ [])) ≡ lines_after (lines_after ls P) R = ap (lines_after ls) pairs ∙ lines_after-append ls P R in
            let lower = ends_lowered under.net u v q lu lv counts' after.long after.lowered in
            let left : (x : ℕ) → slice_index counts x ≡ counts_after w P x = λ x. omega (arith, under.left x) in
            let largest' = subst (λ g. IsMost n k (star_value (lines_after ls P) g) g u v q) (λ i x. left x i)
            (subst (λ f. IsMost n k f (slice_index counts) u v q) (λ i X. under.net.same X i + sum_over X (slice_index counts)) largest) in
            let next : IsUnderway n k ls w (rows ++ (u, v, q) ∷ []) (arcs ++ both_ways u v q) counts' = record {
              net = subst (λ L. IsStarNet n k L (arcs ++ both_ways u v q) counts') (sym lines) (net_next under.net u v q lu lv counts' after.long after.lowered some.0 largest.may);
              left = λ x. let e : ends_at x (pairs_of (rows ++ (u, v, q) ∷ [])) ≡ ends_at x (P ++ R) = ap (ends_at x) pairs in omega (arith, e, ends_at-append x P R, lower x, under.left x);
              even = even_next under.net u v q lu lv counts' after.long after.lowered under.even;
              most = most_push rows u v q under.most (record { first = lu; second = lv; some = some.0 }) largest' fresh;
            } in
            subst (λ r. IsUnderway n k ls w r arcs' counts') (sym some.1) (subst (λ a. IsUnderway n k ls w (rows ++ (u, v, q) ∷ []) a counts') (sym some.2) next))
      ]

  -- with sides that are as wide, and hold v unless it has no room
  pub turn_next : {X Y X' Y' : List Bool} → IsTurn n k u rows arcs counts X Y → AreWitnesses n k (value_with arcs' counts') u X' Y' → IsWider X Y X' Y' → is_candidate (slice_index counts') u X' Y' v ≡ false → IsTurn n k u rows' arcs' counts' X' Y'
  turn_next {X} {Y} {X'} {Y'} turn wit wider gone =
      let less = candidates_less (slice_index counts) (slice_index counts') u X Y X' Y' counts_fall wider in
      let old_first : (j : ℕ) → j < length rows → (slice_index counts' (pair_at rows j).0 ≡ 0) ⊎ ((pair_at rows j).0 ≡ u) =
      λ j l. elim (turn.firsts j l) [ inl zero' ↦ inl (omega (arith, counts_fall (pair_at rows j).0)) | inr e ↦ inr e ] in
      let old_fresh : (j : ℕ) → j < length rows → (x : ℕ) → is_candidate (slice_index counts') u X' Y' x ≡ true → HaveSameEnds (pair_at rows j) (u, x, 0) → ⊥ =
      λ j l x can same. turn.fresh j l x (less x can) same in
      elim after.either [
        | inl none ↦ subst (λ r. IsTurn n k u r arcs' counts' X' Y') (sym none.1) (record { witnesses = wit; firsts = old_first; fresh = old_fresh })
        | inr some ↦ (let r : ℕ × ℕ × ℕ = (u, v, q) in
            let long : length (rows ++ r ∷ []) ≡ length rows + 1 = length-append rows (r ∷ []) in
            subst (λ s. IsTurn n k u s arcs' counts' X' Y') (sym some.1) (record {
              witnesses = wit;
              firsts = λ j l.
                  elim (cases_lt j (length rows)) [
                    | inl before ↦ subst (λ s. (slice_index counts' s.0 ≡ 0) ⊎ (s.0 ≡ u)) (sym (pair_kept rows r j before)) (old_first j before)
                    | inr past ↦ inr (ap (λ s. s.0) (pair_new rows r j (omega arith)))
                  ];
              fresh = λ j l x can same.
                  elim (cases_lt j (length rows)) [
                    | inl before ↦ old_fresh j before x can (subst (λ s. HaveSameEnds s (u, x, 0)) (pair_kept rows r j before) same)
                    | inr past ↦ new_fresh x can (subst (λ s. HaveSameEnds s (u, x, 0)) (pair_new rows r j (omega arith)) same)
                  ];
            }))
      ]
    where
      new_fresh : (x : ℕ) → is_candidate (slice_index counts') u X' Y' x ≡ true → HaveSameEnds (u, v, q) (u, x, 0) → ⊥
      new_fresh x can same =
          elim same [
            | inl e ↦ absurd (cc (gone, can, ap (is_candidate (slice_index counts') u X' Y') e.1))
            | inr e ↦ absurd (cc (gone, can, ap (is_candidate (slice_index counts') u X' Y') (e.1 ∙ e.0)))
          ]

  -- a side that blocks more pairs is dangerous afterwards
  pub block_danger : (Z : List Bool) → IsBlock n k (value_with arcs counts) u v q Z → IsDangerous n k (value_with arcs' counts') u Z
  block_danger Z b =
      let all : q * weight (has Z u && has Z v) ≡ q = ap (λ t. q * weight (t && has Z v)) b.first ∙ ap (λ t. q * weight t) b.second ∙ omega arith in
      record { proper = b.proper; holds = b.first; value = omega (arith, values_fall Z, b.value) }

-- the first turn of a node
pub turn_start : {n k u : ℕ} {rows : List (ℕ × ℕ × ℕ)} {arcs : List Cap} {counts : List ℕ} {X Y : List Bool} → AreDone rows counts → AreWitnesses n k (value_with arcs counts) u X Y → IsTurn n k u rows arcs counts X Y
turn_start {n} {k} {u} {rows} {arcs} {counts} {X} {Y} done wit = record {
  witnesses = wit;
  firsts = λ j l. inl (done j l);
  fresh = λ j l v can same.
      let r = candidate_room (slice_index counts) u v X Y can in
      elim same [
        | inl e ↦ (let none : slice_index counts u ≡ 0 = ap (slice_index counts) (sym e.0) ∙ done j l in omega (arith, room_first (slice_index counts) u v, r.0))
        | inr e ↦ (let none : slice_index counts v ≡ 0 = ap (slice_index counts) (sym e.0) ∙ done j l in omega (arith, room_second (slice_index counts) u v, r.0))
      ];
}
