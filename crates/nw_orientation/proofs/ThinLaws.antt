-- Forests of edges, one after another: of those that leave a side they keep as many as there are forests, or all.
use Rattle.std.specs.Prelude.{ℕ, ◌≡◌, ◌+◌, ◌<◌, ◌≤◌, ◌==◌, ◌⊎◌, Bool, true, false, cond, List, length, slice_index, slice_index_or, slice_set, All, refl}
use Rattle.std.proofs.Common.{sym, ap, ◌∙◌, arith, inl, inr}
use Rattle.std.proofs.lemmas.Bool.{false≢true, cases_eq, cases_lt, eq-eqb, ne_eqb}
use Rattle.std.proofs.lemmas.List.{length-set, get_or-set_same, get_or-set_other, set-set, set-get_or}
use Rattle.graph_core.specs.Graph.{Fits, no_line}
use Rattle.graph_core.specs.Labels.{joined}
use Rattle.graph_core.specs.Lines.{crosses, degree}
use Rattle.graph_core.specs.Side.{has}
use Rattle.graph_core.proofs.Counting.{weight, zero_weight}
use Rattle.graph_core.proofs.CutLaws.{differ_same, same_from_differ}
use Rattle.graph_core.specs.declared.graph.Line.{Line}
use Rattle.nw_orientation.specs.Chosen.{chosen}
use Rattle.nw_orientation.specs.Thin.{IsThin, HasForest, IsGrowing}
use Rattle.nw_orientation.proofs.ChosenLaws.{count-unmarked, count-unpassed}

-- labels that are joined: nodes of one label share what nodes of one label shared, if the two nodes do whose labels are joined
module _ (lab : ℕ → ℕ) (f : ℕ → Bool) (n t h : ℕ) (same : (x y : ℕ) → x < n → y < n → lab x ≡ lab y → f x ≡ f y) (lt : t < n) (lh : h < n) (ends : f t ≡ f h) where
  -- a node with this label from before
  stands_for : (w : ℕ) → w < n → (x : ℕ) × (x < n) × (joined lab (lab t) (lab h) w ≡ lab x) × (f w ≡ f x)
  stands_for w lw = elim (cases_eq (lab w) (lab t)) [
    | inl e ↦ (h, lh, rw (eq-eqb (lab w) (lab t) e) refl, same w t lw lt e ∙ ends)
    | inr ne ↦ (w, lw, rw (ne_eqb (lab w) (lab t) ne) refl, refl)
  ]

  joined-same : (u v : ℕ) → u < n → v < n → joined lab (lab t) (lab h) u ≡ joined lab (lab t) (lab h) v → f u ≡ f v
  joined-same u v lu lv e =
      let (x, lx, is_x, fx) = stands_for u lu in
      let (y, ly, is_y, fy) = stands_for v lv in
      fx ∙ same x y lx ly (sym is_x ∙ e ∙ is_y) ∙ sym fy

-- before the first edge
pub growing-none : (n : ℕ) (ls : List Line) (ms : List Bool) (labels : List ℕ) → length ms ≡ length ls → length labels ≡ n → ((v : ℕ) → v < n → slice_index labels v ≡ v) → IsGrowing n ls ms 0 labels ms
growing-none n ls ms labels long many own = record {
  long = long;
  labels_long = many;
  kept = λ X. omega arith;
  classes = λ X h u v lu lv e. ap (has X) (sym (own u lu) ∙ e ∙ own v lv);
  tried = λ i l. absurd (omega arith);
}

module _ (n : ℕ) (ls : List Line) (fits : All (Fits n) ls) (old : List Bool) (j : ℕ) (labels : List ℕ) (ms : List Bool) (g : IsGrowing n ls old j labels ms) (l : j < length ls) where
  abbrev line : Line
  line = slice_index_or ls j no_line

  -- an edge that is marked already, or whose ends have one label
  pub growing-left : (has ms j ≡ true) ⊎ (slice_index labels line.tail ≡ slice_index labels line.head) → IsGrowing n ls old (j + 1) labels ms
  growing-left why = record {
    long = g.long;
    labels_long = g.labels_long;
    kept = g.kept;
    classes = g.classes;
    tried = λ i li within off. elim (cases_eq i j) [
      | inr ne ↦ g.tried i (omega arith) within off
      | inl same ↦ elim why [
        | inl on ↦ absurd (false≢true (sym off ∙ ap (has ms) same ∙ on))
        | inr one ↦ rw same one
      ]
    ];
  }

  -- one that is marked now, whose ends' labels are joined
  module _ (labels' : List ℕ) (off : has ms j ≡ false) (many : length labels' ≡ n) (merged : (v : ℕ) → v < n → slice_index labels' v ≡ joined (slice_index labels) (slice_index labels line.tail) (slice_index labels line.head) v) where
    abbrev put : List Bool
    put = slice_set ms j true

    here : Fits n line
    here = fits j no_line l

    marked : (X : List Bool) → degree X (chosen true ls put) ≡ degree X (chosen true ls ms) + weight (crosses X line)
    marked X =
        let is : has put j ≡ true = get_or-set_same ms j true false (omega (arith, g.long)) in
        let back : slice_set put j false ≡ ms = set-set ms j true false ∙ ap (slice_set ms j) (sym off) ∙ set-get_or ms j false in
        sym (count-unmarked (crosses X) ls put j no_line (length-set ms j true ∙ g.long) l is) ∙ ap (λ ks. degree X (chosen true ls ks) + weight (crosses X line)) back

    pub growing-more : IsGrowing n ls old (j + 1) labels' put
    growing-more = record {
      long = length-set ms j true ∙ g.long;
      labels_long = many;
      kept = λ X. omega (arith, marked X, g.kept X);
      classes = λ X few u v lu lv e.
          let lab = slice_index labels in
          let none : weight (crosses X line) ≡ 0 = omega (arith, marked X, g.kept X) in
          let ends = same_from_differ (has X line.tail) (has X line.head) (zero_weight (crosses X line) none) in
          let before : degree X (chosen true ls ms) ≤ degree X (chosen true ls old) = omega (arith, marked X) in
          joined-same lab (has X) n line.tail line.head (g.classes X before) here.tail here.head ends u v lu lv (sym (merged u lu) ∙ e ∙ merged v lv);
      tried = λ i li within off'. elim (cases_eq i j) [
        | inl same ↦ absurd (false≢true (sym off' ∙ ap (has put) same ∙ get_or-set_same ms j true false (omega (arith, g.long))))
        | inr ne ↦
            let one = g.tried i (omega arith) within (sym (get_or-set_other ms j i true false ne) ∙ off') in
            let f = fits i no_line within in
            let a = slice_index labels line.tail in
            let b = slice_index labels line.head in
            merged (slice_index_or ls i no_line).tail f.tail ∙ ap (λ x. cond (x == a) b x) one ∙ sym (merged (slice_index_or ls i no_line).head f.head)
      ];
    }

-- behind the last edge
pub forest-grown : (n : ℕ) (ls : List Line) (old : List Bool) (labels : List ℕ) (ms : List Bool) → All (Fits n) ls → IsGrowing n ls old (length ls) labels ms → HasForest ls old ms
forest-grown n ls old labels ms fits g = record {
  long = g.long;
  kept = g.kept;
  grows = λ X. elim (cases_lt (degree X (chosen true ls old)) (degree X (chosen true ls ms))) [
    | inl more ↦ inl (omega arith)
    | inr none ↦
        let all = count-unpassed (crosses X) ls ms no_line g.long (λ i l off.
        let f = fits i no_line l in
        let k = slice_index_or ls i no_line in
        differ_same (has X k.tail) (has X k.head) (g.classes X none k.tail k.head f.tail f.head (g.tried i l l off))) in
        inr (omega arith)
  ];
}

-- no forest, and one forest more
pub thin-none : (ls : List Line) (ms : List Bool) → length ms ≡ length ls → IsThin 0 ls ms
thin-none ls ms long = record { long = long; keeps = λ X. inl (omega arith) }

pub thin-more : (c : ℕ) (ls : List Line) (old new : List Bool) → IsThin c ls old → HasForest ls old new → IsThin (c + 1) ls new
thin-more c ls old new t f = record {
  long = f.long;
  keeps = λ X. elim (f.grows X) [
    | inr all ↦ inr all
    | inl more ↦ elim (t.keeps X) [ inl enough ↦ inl (omega arith) | inr all ↦ inr (omega arith) ]
  ];
}
