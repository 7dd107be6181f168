-- A cost that is raised, to any value or by one.
use Rattle.std.specs.Prelude.{false, ℕ, suc, ◌≡◌, ◌≢◌, ◌+◌, ◌<◌, ◌≤◌, List, [], ◌∷◌, length, slice_set, sum, refl}
use Rattle.std.proofs.Common.{◌∙◌, sym, subst, arith, inl, inr}
use Rattle.std.proofs.lemmas.Bool.{cases_eq}
use Rattle.std.proofs.lemmas.List.{get_or-set_same, get_or-set_other, length-set}
use Rattle.std.proofs.lemmas.List.Sums.{sum_by-set, sum_by-cons}
use Rattle.std.proofs.lemmas.Option.{slice_get_within}
use Rattle.graph_core.specs.Graph.{GraphValue}
use Rattle.graph_core.specs.declared.graph.Line.{Line}
use Rattle.lucchesi_younger.specs.Kept.{at, IsArc, IsIn, IsKept, AllKept, IsLate}
use Rattle.lucchesi_younger.specs.Spent.{IsRaised}
use Rattle.lucchesi_younger.specs.declared.work.Work.{Work}

-- lists of numbers, place by place
pub sum-le-sum : (xs ys : List ℕ) → length xs ≡ length ys → ((j : ℕ) → at xs j ≤ at ys j) → sum xs ≤ sum ys
sum-le-sum [] ys e h = omega arith
sum-le-sum (x ∷ xs) [] e h = absurd (omega arith)
sum-le-sum (x ∷ xs) (y ∷ ys) e h =
    let first : x ≤ y = h 0 in
    omega (arith, sum-le-sum xs ys (omega arith) (λ j. h (suc j)), sum_by-cons (λ n. n) x xs, sum_by-cons (λ n. n) y ys)

-- the cost of one arc rises to c
module _ (g : GraphValue) (w : Work) (k : AllKept g w) (i : ℕ) (below : i < length g.lines) (c : ℕ) (up : at w.costs i ≤ c) where
  abbrev more : List ℕ
  more = slice_set w.costs i c

  pub dearer-here : at more i ≡ c
  dearer-here = get_or-set_same w.costs i c 0 (omega (arith, k.costs_long))

  pub dearer-other : (j : ℕ) → j ≢ i → at more j ≡ at w.costs j
  dearer-other j ne = get_or-set_other w.costs i j c 0 ne

  not_less : (j : ℕ) → at w.costs j ≤ at more j
  not_less j = elim (cases_eq j i) [ inl e ↦ rw e (omega (arith, dearer-here)) | inr ne ↦ omega (arith, dearer-other j ne) ]

  pub dearer-sum : sum more + at w.costs i ≡ sum w.costs + c
  dearer-sum = omega (arith, sum_by-set (λ n. n) w.costs i c 0 (omega (arith, k.costs_long)))

  pub raised-free : IsRaised i c w.costs more false
  raised-free = record {
    others = dearer-other;
    most = omega (arith, dearer-here);
    sums = omega (arith, dearer-here, dearer-sum);
    rose = tt;
    done = dearer-here;
  }

  -- the arc is late, if it is in the dijoin
  pub dearer-kept : IsKept g (record { join = w.join; costs = more; potential = w.potential }) i
  dearer-kept = record {
    join = k.join;
    costs_long = length-set w.costs i c ∙ k.costs_long;
    potential_long = k.potential_long;
    low = λ v. (let was = k.low v in omega (arith, dearer-sum));
    rises = k.rises;
    most = λ j l arc free. (let was = k.most j l arc free in omega (arith, not_less j));
    equal = λ j l arc in' ne. (let was = k.equal j l arc in' (λ e. absurd (omega (arith, slice_get_within g.lines j l arc))) in omega (arith, dearer-other j ne));
    apart = k.apart;
  }

  pub dearer-late : c ≡ at w.costs i + 1 → (l : Line) → IsArc g.lines i l → IsIn w.join i → IsLate g (record { join = w.join; costs = more; potential = w.potential }) i l.tail l.head
  dearer-late one l arc in' = record {
    line = l;
    arc = arc;
    tail = refl;
    head = refl;
    taken = in';
    behind = (let was = k.equal i l arc in' (λ e. omega arith) in omega (arith, dearer-here));
    room = λ v. (let was = k.low v in omega (arith, dearer-sum));
  }

  -- no arc is, if it isn't
  pub dearer-all : (IsIn w.join i → ⊥) → AllKept g (record { join = w.join; costs = more; potential = w.potential })
  dearer-all out =
      let almost = dearer-kept in
      record {
        join = almost.join;
        costs_long = almost.costs_long;
        potential_long = almost.potential_long;
        low = almost.low;
        rises = almost.rises;
        most = almost.most;
        equal = λ j l arc in' _. almost.equal j l arc in' (λ e. out (subst (λ x. IsIn w.join x) e in'));
        apart = almost.apart;
      }

  -- the same, by what was written
  pub dearer-free : (IsIn w.join i → ⊥) → (new : Work) → new.join ≡ w.join → new.costs ≡ more → new.potential ≡ w.potential → AllKept g new
  dearer-free out new ej ec ep =
      let same : new ≡ record { join = w.join; costs = more; potential = w.potential } = (λ t. record { join = ej t; costs = ec t; potential = ep t }) in
      subst (λ x. AllKept g x) (sym same) (dearer-all out)
