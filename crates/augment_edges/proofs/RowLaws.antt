-- Components that are joined in a row make a connected graph.
use Rattle.std.specs.Prelude.{ℕ, zero, suc, ◌≡◌, ◌+◌, ◌<◌, ◌≤◌, Bool, true, false, List, [], ◌∷◌, ◌++◌, length, All}
use Rattle.std.proofs.Common.{sym, ap, ◌∙◌, inl, inr, arith}
use Rattle.std.proofs.lemmas.Bool.{cases_lt, cases_Bool}
use Rattle.std.proofs.lemmas.List.{get_or_default}
use Rattle.std.proofs.lemmas.List.Elements.{All-map, All-get_or, All-from_get_or}
use Rattle.std.proofs.lemmas.List.Sums.{sum_by-cons, sum_by-append}
use Rattle.graph_core.specs.Side.{has, IsNonempty}
use Rattle.graph_core.specs.Graph.{Fits, line_of, lines_of}
use Rattle.graph_core.specs.Lines.{differ, crosses, degree}
use Rattle.graph_core.specs.Families.{members_with}
use Rattle.graph_core.specs.Connected.{IsEdgeConnected}
use Rattle.graph_core.specs.declared.graph.Line.{Line}
use Rattle.graph_core.proofs.Counting.{weight, none-pass}
use Rattle.graph_core.proofs.FamilyLaws.{count_by-map}
use Rattle.graph_core.proofs.ItemLaws.{two-le-sum_by}
use Rattle.graph_core.proofs.ProperLaws.{node_in, node_out}
use Rattle.graph_core.proofs.SideLaws.{has-below}
use Rattle.cut_fn.specs.Members.{member}
use Rattle.graphic_matroid.specs.Components.{AreComponents}
use Rattle.augment_edges.specs.Row.{joined_at, AreInRow}

-- a class that holds a node
class_with : (P : List (List Bool)) (v : ℕ) → 1 ≤ members_with v P → (i : ℕ) × (i < length P) × (has (member P i) v ≡ true)
class_with [] v some = absurd (omega arith)
class_with (X ∷ P) v some =
    elim (cases_Bool (has X v)) [
      | inl inside ↦ (0, omega arith, inside)
      | inr outside ↦ (let (i, l, h) = class_with P v (omega (arith, sum_by-cons (λ Y. weight (has Y v)) X P, ap weight outside)) in (suc i, omega arith, h))
    ]

same_side : (a b : Bool) → differ a b ≡ false → a ≡ b
same_side a b h = grind arith

module _ {n : ℕ} {ls : List Line} {P : List (List Bool)} {pairs : List (ℕ × ℕ)} (are : AreComponents n ls P) (row : AreInRow P pairs) where
  nonempty : (j : ℕ) → j < length P → IsNonempty n (member P j)
  nonempty j l = All-get_or (IsNonempty n) P j [] l are.partition.nonempty

  node_below : (j v : ℕ) → j < length P → has (member P j) v ≡ true → v < n
  node_below j v l h = omega (arith, has-below (member P j) v h, (nonempty j l).long)

  fits_at : (j : ℕ) → j < length pairs → Fits n (line_of (joined_at pairs j))
  fits_at j l =
      let u = (joined_at pairs j).0 in
      let v = (joined_at pairs j).1 in
      let lj : j < length P = omega (arith, row.many) in
      let lk : j + 1 < length P = omega (arith, row.many) in
      let below = node_below j u lj (row.first j l) in
      record {
        tail = below;
        head = node_below (j + 1) v lk (row.second j l);
        apart = λ e.
            let two = two-le-sum_by (λ X. weight (has X u)) P j (j + 1) [] (omega arith) lk in
            omega (arith, two, are.partition.each u below, ap weight (row.first j l), ap weight (ap (has (member P (j + 1))) e ∙ row.second j l));
      }

  -- pairs of different classes have different nodes
  pub row_fits : All (Fits n) (lines_of pairs)
  row_fits = All-map (Fits n) line_of pairs (All-from_get_or (λ p. Fits n (line_of p)) pairs (0, 0) fits_at)

  module _ (X : List Bool) (old : degree X ls ≡ 0) (new : degree X (lines_of pairs) ≡ 0) where
    -- a side without an edge has all of a class, or none
    in_class : (j : ℕ) → j < length P → (u v : ℕ) → has (member P j) u ≡ true → has (member P j) v ≡ true → has X u ≡ has X v
    in_class j l u v hu hv =
        let joined = All-get_or (λ C. (a b : ℕ) → has C a ≡ true → has C b ≡ true → has X a ≡ true → has X b ≡ false → 1 ≤ degree X ls) P j [] l (are.joined X) in
        elim (cases_Bool (has X u)) [
          | inl xu ↦ elim (cases_Bool (has X v)) [
            | inl xv ↦ xu ∙ sym xv
            | inr ov ↦ absurd (omega (arith, joined u v hu hv xu ov))
          ]
          | inr ou ↦ elim (cases_Bool (has X v)) [
            | inl xv ↦ absurd (omega (arith, joined v u hv hu xv ou))
            | inr ov ↦ ou ∙ sym ov
          ]
        ]

    in_pair : (j : ℕ) → j < length pairs → has X (joined_at pairs j).0 ≡ has X (joined_at pairs j).1
    in_pair j l =
        same_side (has X (joined_at pairs j).0) (has X (joined_at pairs j).1)
        (All-get_or (λ p. differ (has X p.0) (has X p.1) ≡ false) pairs j (0, 0) l (none-pass (λ p. differ (has X p.0) (has X p.1)) pairs (sym (count_by-map (crosses X) line_of pairs) ∙ new)))

    -- so it has all nodes, or none
    in_row : (j : ℕ) → j < length P → (u v : ℕ) → has (member P 0) u ≡ true → has (member P j) v ≡ true → has X u ≡ has X v
    in_row zero l u v hu hv = in_class 0 l u v hu hv
    in_row (suc j) l u v hu hv =
        let lj : j < length pairs = omega (arith, row.many) in
        let e : j + 1 ≡ suc j = omega arith in
        let p = joined_at pairs j in
        let next : has (member P (suc j)) p.1 ≡ true = ap (λ i. has (member P i) p.1) (sym e) ∙ row.second j lj in
        in_row j (omega arith) u p.0 hu (row.first j lj) ∙ in_pair j lj ∙ in_class (suc j) l p.1 v next hv

  pub row_connects : IsEdgeConnected 1 n (ls ++ lines_of pairs)
  row_connects X proper =
      let new = lines_of pairs in
      let total = sum_by-append (λ l. weight (crosses X l)) ls new in
      elim (cases_lt 0 (degree X (ls ++ new))) [
        | inl some ↦ omega arith
        | inr none ↦ absurd (apart (omega (arith, total)) (omega (arith, total)))
      ]
    where
      apart : degree X ls ≡ 0 → degree X (lines_of pairs) ≡ 0 → ⊥
      apart old new =
          let (v, lv, xv) = node_in X proper in
          let (o, lo, xo) = node_out X proper in
          let (i, li, hi) = class_with P v (omega (arith, are.partition.each v lv)) in
          let (j, lj, hj) = class_with P o (omega (arith, are.partition.each o lo)) in
          let (u, lu, inside) = (nonempty 0 (omega arith)).some_in in
          let hu : has (member P 0) u ≡ true = get_or_default (member P 0) u false true lu ∙ inside in
          absurd (cc (in_row X old new i li u v hu hi, in_row X old new j lj u o hu hj, xv, xo))
