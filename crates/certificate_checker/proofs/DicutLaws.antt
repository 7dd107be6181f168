-- What covers the closed sides, by what enters each proper side.
use Rattle.std.specs.Prelude.{ℕ, zero, suc, ◌≡◌, ◌+◌, ◌<◌, ◌≤◌, ◌++◌, ◌↔◌, Bool, false, List, [], ◌∷◌, length, slice_get, get_or, take, count_by, Option, None, Some, All}
use Rattle.std.specs.List.{cons_option}
use Rattle.std.proofs.Common.{arith, inl, inr, subst}
use Rattle.std.proofs.lemmas.List.Elements.{All-head, All-tail, All-take, All-weaker}
use Rattle.std.proofs.lemmas.Bool.{cases_lt}
use Rattle.std.proofs.lemmas.List.Sums.{sum_by-append, sum_by-cons, sum_by-take-le}
use Rattle.graph_core.specs.Graph.{GraphValue, IsGraph, Fits}
use Rattle.graph_core.specs.Lines.{enters, leaves, entering, leaving}
use Rattle.graph_core.specs.Picked.{picked}
use Rattle.graph_core.specs.Side.{has, complement, IsProper}
use Rattle.graph_core.specs.declared.graph.Line.{Line}
use Rattle.graph_core.proofs.ConnectedLaws.{entering-complement, leaving-complement}
use Rattle.graph_core.proofs.Counting.{weight, All-picked}
use Rattle.graph_core.proofs.ProperLaws.{proper-complement}
use Rattle.flow_cuts.specs.Network.{across}
use Rattle.problem_defs.specs.Dijoin.{IsClosed, IsDual}
use Rattle.certificate_checker.specs.Dicuts.{Covers}
use Rattle.certificate_checker.proofs.CopyLaws.{enters-across}

-- what holds of the picked lines holds of each of them
pub picked-at : (P : Line → Type 0) (ls : List Line) (js : List ℕ) (i : ℕ) (l : Line) → i < length js → slice_get ls (get_or js i 0) ≡ Some l → All P (picked ls js) → P l
picked-at P ls [] i l short is all = absurd (omega (arith, short))
picked-at P ls (j ∷ js) zero l short is all = All-head P l (picked ls js) (subst (λ o. All P (cons_option o (picked ls js))) is all)
picked-at P ls (j ∷ js) (suc i) l short is all = picked-at P ls js i l (omega (arith, short)) is (rest (slice_get ls j) all)
  where
    rest : (o : Option Line) → All P (cons_option o (picked ls js)) → All P (picked ls js)
    rest None all = all
    rest (Some x) all = All-tail P x (picked ls js) all

-- one arc more
pub leaving-next : (X : List Bool) (ls : List Line) (l : Line) → leaving X (ls ++ l ∷ []) ≡ leaving X ls + across (has X l.tail) (has X l.head) 1
leaving-next X ls l =
    let all = sum_by-append (λ x. weight (leaves X x)) ls (l ∷ []) in
    let one = sum_by-cons (λ x. weight (leaves X x)) l [] in
    let is = enters-across (has X l.head) (has X l.tail) in
    omega arith

-- the arcs of a join turned round and beside the others, an arc enters each proper side exactly where the join covers the closed sides
pub covers-law : (g : GraphValue) (join : List ℕ) → IsGraph g → ((X : List Bool) → IsProper (length g.names) X → 1 ≤ entering X g.lines + leaving X (picked g.lines join)) ↔ Covers g join
covers-law g join ok =
    let n = length g.names in
    let fits = ok.makes.ends in
    let picked-fit : All (Fits n) (picked g.lines join) = All-picked (Fits n) g.lines join fits in (
      λ all U closed.
          let p = closed.proper in
          let here = all (complement U) (proper-complement U p) in
          omega (arith, here, closed.closed, entering-complement n U p.long g.lines fits, leaving-complement n U p.long (picked g.lines join) picked-fit),
      λ covers X p. elim (cases_lt 0 (entering X g.lines)) [
        | inl some ↦ omega (arith, some)
        | inr none ↦
            let closed : IsClosed g (complement X) = record { proper = proper-complement X p; closed = omega (arith, none, leaving-complement n X p.long g.lines fits) } in
            omega (arith, covers (complement X) closed, entering-complement n X p.long (picked g.lines join) picked-fit)
      ],
    )

-- the first ones of right sides are right
pub dual-take : (g : GraphValue) (P : List (List Bool)) (k : ℕ) → IsDual g P → IsDual g (take k P)
dual-take g P k d = record {
  members = All-take (IsClosed g) k P d.members;
  apart = All-weaker (λ l. l.fixed ≡ false → count_by (λ U. enters U l) P ≤ l.cost) (λ l. l.fixed ≡ false → count_by (λ U. enters U l) (take k P) ≤ l.cost)
      (λ l apart free. omega (arith, apart free, sum_by-take-le (λ U. weight (enters U l)) P k)) g.lines d.apart;
}
