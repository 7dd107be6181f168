-- Rows that split a star off, as pairs.
use Rattle.std.specs.Prelude.{ℕ, ◌≡◌, ◌≢◌, ◌+◌, ◌<◌, ◌≤◌, true, List, [], ◌∷◌, ◌++◌, length, take, drop, replicate, slice_index, All}
use Rattle.std.proofs.Common.{sym, ap, ◌∙◌, arith}
use Rattle.std.proofs.lemmas.List.{take-append-drop}
use Rattle.std.proofs.lemmas.List.Elements.{All-nil, All-head, All-tail, All-append, All-replicate, All-from_get_or}
use Rattle.std.proofs.lemmas.Grind.{flat_map-append}
use Rattle.graph_core.specs.Side.{has}
use Rattle.graph_core.proofs.SideLaws.{has-below}
use Rattle.graph_core.specs.Pairs.{pair_at, IsRow, pairs_of}
use Rattle.split_undirected.specs.Rows.{counts_after, AreSplit}
use Rattle.split_undirected.proofs.SplitLaws.{value_after, ends_at-append}
use Rattle.split_undirected.specs.Split.{ends_at, AreInDangerous, IsSplit}
use Rattle.cut_fn.specs.declared.stars.Star.{Star}

-- what holds of the ends of each row holds of each pair
All-pairs : (P : ℕ × ℕ → Type 0) (rows : List (ℕ × ℕ × ℕ)) → All (λ r. P (r.0, r.1)) rows → All P (pairs_of rows)
All-pairs P [] h = All-nil P
All-pairs P (r ∷ rows) h =
    All-append P (replicate r.2 (r.0, r.1)) (pairs_of rows) (All-replicate P r.2 (r.0, r.1) (All-head (λ s. P (s.0, s.1)) r rows h)) (All-pairs P rows (All-tail (λ s. P (s.0, s.1)) r rows h))

-- the first rows have no more ends than all
ends_before : (rows : List (ℕ × ℕ × ℕ)) (j v : ℕ) → ends_at v (pairs_of (take j rows)) ≤ ends_at v (pairs_of rows)
ends_before rows j v =
    let whole : pairs_of rows ≡ pairs_of (take j rows) ++ pairs_of (drop j rows) =
    ap pairs_of (sym (take-append-drop j rows)) ∙ flat_map-append (λ s. replicate s.2 (s.0, s.1)) (take j rows) (drop j rows) in
    omega (arith, ap (ends_at v) whole, ends_at-append v (pairs_of (take j rows)) (pairs_of (drop j rows)))

module _ {k : ℕ} (star : Star) {rows : List (ℕ × ℕ × ℕ)} (split : AreSplit k star rows) where
  -- a dangerous side of a node stays one, so the node isn't split off with itself
  different_at : AreInDangerous k star → (j : ℕ) → j < length rows → (pair_at rows j).0 ≢ (pair_at rows j).1
  different_at danger j l same =
      let w = slice_index star.count in
      let r = pair_at rows j in
      let P = pairs_of (take j rows) in
      let row : IsRow (length star.graph.names) r = split.most.each j (0, 0, 0) l in
      let may = (split.most.most j l).may in
      let some : 1 ≤ w r.0 = omega (arith, may.first, row.some) in
      let (X, proper, inside, small) = danger r.0 row.first some in
      let left : (v : ℕ) → has X v ≡ true → counts_after w P v + ends_at v P ≡ w v =
      λ v h. let below = has-below X v h in omega (arith, ends_before rows j v, split.each v (omega (arith, proper.long))) in
      let value = value_after star.graph.lines w (counts_after w P) P X left in
      let large = may.covered X proper inside (ap (has X) (sym same) ∙ inside) in
      omega (arith, row.some)

  pub is_split : IsSplit k star (pairs_of rows)
  is_split = record {
    nodes = All-pairs (λ p. (p.0 < length star.graph.names) × (p.1 < length star.graph.names)) rows (λ j d l. let row = split.most.each j d l in (row.first, row.second));
    each = split.each;
    connected = split.connected;
    different = λ danger. All-pairs (λ p. p.0 ≢ p.1) rows (All-from_get_or (λ r. r.0 ≢ r.1) rows (0, 0, 0) (different_at danger));
  }
