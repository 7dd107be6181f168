-- A branching that begins only at the root is a spanning arborescence.
use Rattle.std.specs.Prelude.{ℕ, zero, suc, ◌≡◌, ◌≢◌, ◌+◌, ◌<◌, ◌≤◌, ◌==◌, Bool, true, false, List, length, replicate, slice_set, count_by, All, refl}
use Rattle.std.proofs.Common.{sym, ap, ◌∙◌, inl, inr, arith}
use Rattle.std.proofs.lemmas.Bool.{cases_eq, ne_eqb, eq-eqb}
use Rattle.std.proofs.lemmas.List.{length-set, length-replicate, get_or-replicate, get_or-set_same, get_or-set_other}
use Rattle.std.proofs.lemmas.List.Sums.{sum_by-set}
use Rattle.std.proofs.lemmas.List.Elements.{All-weaker}
use Rattle.graph_core.specs.Graph.{Fits}
use Rattle.graph_core.specs.Side.{has, size}
use Rattle.graph_core.specs.Lines.{within, entering, induced}
use Rattle.graph_core.specs.Picked.{picked}
use Rattle.graph_core.specs.Trees.{in_degree, IsBranching, IsSpanningArborescence}
use Rattle.graph_core.proofs.Counting.{weight, sum_by-add, sum_by-ones, All-picked, length-all_picked}
use Rattle.graph_core.proofs.SideLaws.{contains-has, has-below}
use Rattle.graph_core.specs.declared.graph.Line.{Line}
use Rattle.graph_core.proofs.HeadLaws.{nodes_ones, heads_in, heads_split}
use Rattle.graph_core.proofs.SizeLaws.{size-all}

one_or_none : (d : ℕ) → d ≤ 1 → (d == 0) ≡ false → d ≡ 1
one_or_none zero one h = absurd (cc (h))
one_or_none (suc d) one h = omega arith

module _ {n : ℕ} {ls : List Line} (r : ℕ) (below : r < n) (fits : All (Fits n) ls) (row : List ℕ) (b : IsBranching n ls row) (covered : (v : ℕ) → v < n → v ≢ r → (in_degree v (picked ls row) == 0) ≡ false) where
  abbrev P : List Line
  P = picked ls row

  -- all nodes, and all but the root
  abbrev V : List Bool
  V = replicate n true

  abbrev W : List Bool
  W = slice_set V r false

  others : (v : ℕ) → v < n → v ≢ r → in_degree v P ≡ 1
  others v l ne = one_or_none (in_degree v P) (b.heads v l) (covered v l ne)

  -- each node of a side without the root is the head of one arc
  heads : (X : List Bool) → length X ≡ n → has X r ≡ false → entering X P + induced X P ≡ size X
  heads X long out =
      sym (heads_split X P) ∙ sym (heads_in X P)
      ∙ nodes_ones (λ v. in_degree v P) X (λ v h. others v (omega (arith, has-below X v h)) (λ e. absurd (cc (ap (has X) e, h, out))))

  fit : All (Fits n) P
  fit = All-picked (Fits n) ls row fits

  has_all : (v : ℕ) → v < n → has V v ≡ true
  has_all v l = get_or-replicate n v true false l

  has_rest : (v : ℕ) → v < n → weight (has W v) + weight (v == r) ≡ 1
  has_rest v l =
      elim (cases_eq v r) [
        | inl e ↦ rw e (omega (arith, ap weight (get_or-set_same V r false false (omega (arith, length-replicate n true))), ap weight (eq-eqb r r refl)))
        | inr ne ↦ omega (arith, ap weight (get_or-set_other V r v false false ne), ap weight (has_all v l), ap weight (ne_eqb v r ne))
      ]

  -- so the root is the head of none, and there are n - 1
  all_but_one : (in_degree r P ≡ 0) × (length row + 1 ≡ n)
  all_but_one =
      let many : length P ≡ length row = length-all_picked ls row b.forest.picks.in_range in
      let whole : induced V P ≡ length P = sum_by-ones (λ l. weight (within V l)) P
      (All-weaker (Fits n) (λ l. weight (within V l) ≡ 1) (λ l f. rw (has_all l.tail f.tail, has_all l.head f.head) refl) P fit) in
      let each : count_by (λ l. has W l.head) P + in_degree r P ≡ length P = sym (sum_by-add (λ l. weight (has W l.head)) (λ l. weight (l.head == r)) P)
      ∙ sum_by-ones (λ l. weight (has W l.head) + weight (l.head == r)) P (All-weaker (Fits n) (λ l. weight (has W l.head) + weight (l.head == r) ≡ 1) (λ l f. has_rest l.head f.head) P fit) in
      let long : length V ≡ n = length-replicate n true in
      let rest : entering W P + induced W P ≡ size W = heads W (length-set V r false ∙ long) (get_or-set_same V r false false (omega arith)) in
      let size_rest : size W + weight (has V r) ≡ size V + 0 = sum_by-set weight V r false false (omega arith) in
      let acyclic : induced V P < size V = b.forest.acyclic V (record { long = long; some_in = contains-has V r (has_all r below) }) in
      let sizes = size-all n in
      let in_all = ap weight (has_all r below) in
      let split = heads_split W P in
      (omega arith, omega arith)

  pub spanning : IsSpanningArborescence n ls r row
  spanning = record {
    picks = b.forest.picks;
    many = all_but_one.1;
    root = all_but_one.0;
    others = others;
    reached = λ X x out. omega (arith, heads X x.long out, b.forest.acyclic X x);
  }
