-- The rows of a star that is wholly split off, and their pairs.
use Rattle.std.specs.Prelude.{ℕ, zero, suc, ◌≡◌, ◌≢◌, ◌+◌, ◌-◌, ◌*◌, ◌<◌, ◌≤◌, ◌==◌, ◌⊎◌, Bool, true, false, not, List, [], ◌∷◌, ◌++◌, length, replicate, slice_index, sum, count_by, All, AllPairs, refl}
use Rattle.std.proofs.Common.{sym, ap, ◌∙◌, inl, inr, arith, length-append}
use Rattle.std.proofs.lemmas.Bool.{cases_Bool, cases_eq, cases_lt, eq-eqb, ne_eqb}
use Rattle.std.proofs.lemmas.List.{get_or-set_other, get_or_past, length-replicate, map-append}
use Rattle.std.proofs.lemmas.List.Elements.{All-nil, All-append, All-head, All-replicate, All-tail, filter-append}
use Rattle.std.proofs.lemmas.List.Folds.{sum_by-replicate}
use Rattle.std.proofs.lemmas.List.Sums.{sum_by-append, get_or-le-sum_by}
use Rattle.graph_core.specs.Side.{has}
use Rattle.graph_core.specs.Graph.{line_of, lines_of}
use Rattle.graph_core.specs.Lines.{entering, enters}
use Rattle.graph_core.proofs.Counting.{weight}
use Rattle.graph_core.proofs.WeightLaws.{nodes_cover}
use Rattle.graph_core.specs.Pairs.{apart, IsRow, pairs_of}
use Rattle.split_directed.specs.Allowed.{Allows}
use Rattle.split_directed.specs.Rows.{copies, lowered, split, after, AreMost, SplitOff}
use Rattle.split_directed.proofs.Rows.{first_row, first_most, other_rows, sum_none}
use Rattle.cut_fn.specs.Stars.{StarValue}
use Rattle.split_directed.specs.Pairs.{AreHeadsTight, AreTailsTight, SplitInto}
use Rattle.split_directed.specs.State.{IsCoveredStar}
use Rattle.split_directed.proofs.Splits.{Falls, falls_split, lowered_here}
use Rattle.split_directed.proofs.Stars.{covered_after}

-- a row that is the most keeps the star covered
module _ {n k : ℕ} {s : StarValue} {rows : List (ℕ × ℕ × ℕ)} (r : ℕ × ℕ × ℕ) (c : IsCoveredStar n k s) (h : AreMost n k s (r ∷ rows)) where
  row_falls : Falls n s (split s r.0 r.1 r.2) r.0 r.1 r.2
  row_falls =
      let row = first_row h in
      let m = first_most h in
      falls_split s r.0 r.1 r.2 c.into_long c.out_long row.first row.second m.allowed.into m.allowed.out

  row_covered : IsCoveredStar n k (split s r.0 r.1 r.2)
  row_covered = let m = first_most h in covered_after c row_falls m.allowed.enters m.allowed.leaves

pub covered_rows : {n k : ℕ} (rows : List (ℕ × ℕ × ℕ)) (s : StarValue) → IsCoveredStar n k s → AreMost n k s rows → IsCoveredStar n k (after s rows)
covered_rows [] s c h = c
covered_rows (r ∷ rows) s c h = covered_rows rows (split s r.0 r.1 r.2) (row_covered r c h) (other_rows h)

-- the nodes of the pairs
nodes_written : (n : ℕ) (rows : List (ℕ × ℕ × ℕ)) → All (IsRow n) rows → All (λ p. (p.0 < n) × (p.1 < n)) (pairs_of rows)
nodes_written n [] h = All-nil (λ (p : ℕ × ℕ). (p.0 < n) × (p.1 < n))
nodes_written n (r ∷ rows) h =
    let row = All-head (IsRow n) r rows h in
    All-append (λ p. (p.0 < n) × (p.1 < n)) (replicate r.2 (r.0, r.1)) (pairs_of rows)
    (All-replicate (λ p. (p.0 < n) × (p.1 < n)) r.2 (r.0, r.1) (row.first, row.second)) (nodes_written n rows (All-tail (IsRow n) r rows h))

-- a count falls by the copies of its node
lowered_by : (counts : List ℕ) (u c v : ℕ) → u < length counts → c ≤ slice_index counts u
    → c * weight (u == v) + slice_index (lowered counts u c) v ≡ slice_index counts v
lowered_by counts u c v l le = go (cases_eq v u)
  where
    go : (v ≡ u) ⊎ (v ≡ u → ⊥) → c * weight (u == v) + slice_index (lowered counts u c) v ≡ slice_index counts v
    go (inl e) = rw (e, eq-eqb u u refl) (omega (arith, lowered_here counts u c l le))
    go (inr ne) = rw (ne_eqb u v (λ e. ne (sym e))) (omega (arith, get_or-set_other counts u v (slice_index counts u - c) 0 ne))

out_written : {n k : ℕ} (v : ℕ) (rows : List (ℕ × ℕ × ℕ)) (s : StarValue) → IsCoveredStar n k s → AreMost n k s rows
    → count_by (λ p. p.0 == v) (pairs_of rows) + slice_index (after s rows).out v ≡ slice_index s.out v
out_written v [] s c h = omega arith
out_written v (r ∷ rows) s c h =
    let rest = out_written v rows (split s r.0 r.1 r.2) (row_covered r c h) (other_rows h) in
    let l = (first_row h).first in
    let m = first_most h in
    omega (
      arith,
      rest,
      sum_by-append (λ (p : ℕ × ℕ). weight (p.0 == v)) (replicate r.2 (r.0, r.1)) (pairs_of rows),
      sum_by-replicate (λ (p : ℕ × ℕ). weight (p.0 == v)) r.2 (r.0, r.1),
      lowered_by s.out r.0 r.2 v (omega (arith, c.out_long, l)) m.allowed.out,
    )

into_written : {n k : ℕ} (v : ℕ) (rows : List (ℕ × ℕ × ℕ)) (s : StarValue) → IsCoveredStar n k s → AreMost n k s rows
    → count_by (λ p. p.1 == v) (pairs_of rows) + slice_index (after s rows).into v ≡ slice_index s.into v
into_written v [] s c h = omega arith
into_written v (r ∷ rows) s c h =
    let rest = into_written v rows (split s r.0 r.1 r.2) (row_covered r c h) (other_rows h) in
    let l = (first_row h).second in
    let m = first_most h in
    omega (
      arith,
      rest,
      sum_by-append (λ (p : ℕ × ℕ). weight (p.1 == v)) (replicate r.2 (r.0, r.1)) (pairs_of rows),
      sum_by-replicate (λ (p : ℕ × ℕ). weight (p.1 == v)) r.2 (r.0, r.1),
      lowered_by s.into r.1 r.2 v (omega (arith, c.into_long, l)) m.allowed.into,
    )

many_written : {n k : ℕ} (rows : List (ℕ × ℕ × ℕ)) (s : StarValue) → IsCoveredStar n k s → AreMost n k s rows
    → length (pairs_of rows) + sum (after s rows).into ≡ sum s.into
many_written [] s c h = omega arith
many_written (r ∷ rows) s c h =
    let next = row_covered r c h in
    let fall = row_falls r c h in
    omega (
      arith,
      many_written rows (split s r.0 r.1 r.2) next (other_rows h),
      length-append (replicate r.2 (r.0, r.1)) (pairs_of rows),
      length-replicate {A = ℕ × ℕ} r.2 (r.0, r.1),
      fall.into_sum,
    )

-- the lines of the pairs of different nodes are the rows' lines
lines_apart : (c u t : ℕ) → lines_of (apart (replicate c (u, t))) ≡ copies u t c
lines_apart c u t = go (cases_Bool (u == t))
  where
    none : (m : ℕ) → (u == t) ≡ true → lines_of (apart (replicate m (u, t))) ≡ []
    none zero e = refl
    none (suc m) e = rw e (none m e)

    all : (m : ℕ) → (u == t) ≡ false → lines_of (apart (replicate m (u, t))) ≡ replicate m (line_of (u, t))
    all zero e = refl
    all (suc m) e = rw e (ap (λ ls. line_of (u, t) ∷ ls) (all m e))

    go : ((u == t) ≡ true) ⊎ ((u == t) ≡ false) → lines_of (apart (replicate c (u, t))) ≡ copies u t c
    go (inl e) = none c e ∙ sym (rw e refl)
    go (inr e) = all c e ∙ sym (rw e refl)

lines_written : (X : List Bool) (rows : List (ℕ × ℕ × ℕ)) (s : StarValue)
    → entering X s.lines + entering X (lines_of (apart (pairs_of rows))) ≡ entering X (after s rows).lines
lines_written X [] s = omega arith
lines_written X (r ∷ rows) s =
    let first : List (ℕ × ℕ) = replicate r.2 (r.0, r.1) in
    let parts : lines_of (apart (pairs_of (r ∷ rows))) ≡ copies r.0 r.1 r.2 ++ lines_of (apart (pairs_of rows)) =
    ap lines_of (filter-append (λ (p : ℕ × ℕ). not (p.0 == p.1)) first (pairs_of rows)) ∙ map-append line_of (apart first) (apart (pairs_of rows)) ∙ ap (λ ls. ls ++ lines_of (apart (pairs_of rows))) (lines_apart r.2 r.0 r.1) in
    omega (
      arith,
      ap (entering X) parts,
      sum_by-append (λ l. weight (enters X l)) (copies r.0 r.1 r.2) (lines_of (apart (pairs_of rows))),
      sum_by-append (λ l. weight (enters X l)) s.lines (copies r.0 r.1 r.2),
      lines_written X rows (split s r.0 r.1 r.2),
    )

-- where the counts of one kind lie in tight sides, they stay there, and no row has one node twice
module _ {n k : ℕ} {s s' : StarValue} {u t c : ℕ} (f : Falls n s s' u t c) (covered : IsCoveredStar n k s') where
  heads_stay : AreHeadsTight n k s → AreHeadsTight n k s'
  heads_stay h v l some =
      let (X, x, in_it) = h v l (omega (arith, f.into_less v, some)) in
      (X, record { proper = x.proper; value = omega (arith, f.enters X x.proper.long, covered.enters X x.proper, x.value) }, in_it)

  tails_stay : AreTailsTight n k s → AreTailsTight n k s'
  tails_stay h v l some =
      let (X, x, in_it) = h v l (omega (arith, f.out_less v, some)) in
      (X, record { proper = x.proper; value = omega (arith, f.leaves X x.proper.long, covered.leaves X x.proper, x.value) }, in_it)

heads_apart : {n k u t c : ℕ} {s : StarValue} → Allows n k s u t c → 1 ≤ c → t < n → AreHeadsTight n k s → u ≢ t
heads_apart {n} {k} {u} {t} {c} {s} a some l h e =
    let (X, x, in_it) = h t l (omega (arith, a.into, some)) in
    absurd (omega (arith, a.enters X x.proper (ap (has X) e ∙ in_it) in_it, x.value, some))

tails_apart : {n k u t c : ℕ} {s : StarValue} → Allows n k s u t c → 1 ≤ c → u < n → AreTailsTight n k s → u ≢ t
tails_apart {n} {k} {u} {t} {c} {s} a some l h e =
    let (X, x, in_it) = h u l (omega (arith, a.out, some)) in
    absurd (omega (arith, a.leaves X x.proper in_it (sym (ap (has X) e) ∙ in_it), x.value, some))

different_written : {n k : ℕ} (rows : List (ℕ × ℕ × ℕ)) (s : StarValue) → IsCoveredStar n k s → AreMost n k s rows
    → AreHeadsTight n k s ⊎ AreTailsTight n k s → All (λ p. p.0 ≢ p.1) (pairs_of rows)
different_written [] s c h tight = All-nil (λ (p : ℕ × ℕ). p.0 ≢ p.1)
different_written (r ∷ rows) s c h tight =
    let fall = row_falls r c h in
    let next = row_covered r c h in
    let row = first_row h in
    let m = first_most h in
    All-append (λ p. p.0 ≢ p.1) (replicate r.2 (r.0, r.1)) (pairs_of rows)
    (All-replicate (λ p. p.0 ≢ p.1) r.2 (r.0, r.1) (elim tight [ inl heads ↦ heads_apart m.allowed row.some row.second heads | inr tails ↦ tails_apart m.allowed row.some row.first tails ]))
    (different_written rows (split s r.0 r.1 r.2) next (other_rows h) (elim tight [ inl heads ↦ inl (heads_stay fall next heads) | inr tails ↦ inr (tails_stay fall next tails) ]))

-- rows of the most each that leave none of the star split it off
pub split_off : {n k : ℕ} {s : StarValue} {rows : List (ℕ × ℕ × ℕ)} → IsCoveredStar n k s → AreMost n k s rows
    → AllPairs (λ p q. p.0 ≡ q.0 → p.1 ≢ q.1) rows → sum (after s rows).into ≡ sum (after s rows).out
    → ((v : ℕ) → v < n → slice_index (after s rows).into v ≡ 0) → SplitOff n k s rows
split_off {n} {k} {s} {rows} c most once same none =
    let last = covered_rows rows s c most in
    let into_none : (v : ℕ) → slice_index (after s rows).into v ≡ 0 =
    λ v. elim (cases_lt v n) [ inl l ↦ none v l | inr past ↦ get_or_past (after s rows).into v 0 (omega (arith, last.into_long, past)) ] in
    let spent = sum_none (after s rows).into (λ v l. into_none v) in
    let out_none : (v : ℕ) → v < n → slice_index (after s rows).out v ≡ 0 =
    λ v l. (let le = get_or-le-sum_by (λ x. x) (after s rows).out v 0 (omega (arith, last.out_long, l)) in omega (arith, le, same, spent)) in
    record {
      most = most;
      once = once;
      out = λ v l. omega (arith, out_written v rows s c most, out_none v l);
      into = λ v l. omega (arith, into_written v rows s c most, none v l);
      connected = λ X x. omega (
        arith,
        last.enters X x,
        nodes_cover (slice_index (after s rows).into) X [] (λ v _ _. into_none v),
        lines_written X rows s,
        sum_by-append (λ l. weight (enters X l)) s.lines (lines_of (apart (pairs_of rows))),
      );
    }

pub written_out : {n k : ℕ} {s : StarValue} (rows : List (ℕ × ℕ × ℕ)) → IsCoveredStar n k s → SplitOff n k s rows → SplitInto n k s (pairs_of rows)
written_out {n} {k} {s} rows c off =
    let last = covered_rows rows s c off.most in
    let none = sum_none (after s rows).into (λ v l. omega (arith, into_written v rows s c off.most, off.into v (omega (arith, last.into_long, l)))) in
    record {
      nodes = nodes_written n rows off.most.each;
      many = omega (arith, many_written rows s c off.most, none);
      out = off.out;
      into = off.into;
      connected = off.connected;
      different = different_written rows s c off.most;
    }
