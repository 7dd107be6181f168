-- Single nodes.
use Rattle.std.proofs.Common.{ℕ, suc, ◌≡◌, ◌≢◌, ◌<◌, ◌≤◌, Bool, true, false, eqb, List, [], ◌∷◌, length, get_or, replicate, refl, sym, ◌∙◌, arith, ⊎_elim, subst}
use Rattle.std.specs.Prelude.{All}
use Rattle.std.proofs.lemmas.Bool.{cases_eq, eq-eqb, ne_eqb, false_from_ne_true}
use Rattle.std.proofs.lemmas.List.Sums.{sum_by-cons}
use Rattle.graph_core.specs.Side.{has, size, IsOnly, IsProper}
use Rattle.graph_core.specs.Lines.{crosses}
use Rattle.graph_core.specs.declared.graph.Line.{Line}
use Rattle.graph_core.proofs.Counting.{weight, sum_by-le_each, sum_by-same}
use Rattle.graph_core.proofs.FamilyLaws.{sum_by-size_of_partition}
use Rattle.graph_core.specs.Sets.{set_of}
use Rattle.graph_core.proofs.SetLaws.{has_of}
use Rattle.graphic_matroid.specs.Chosen.{chosen}
use Rattle.graphic_matroid.specs.ChosenLaws.{chosen-none}
use Rattle.graphic_matroid.specs.Components.{AreComponents}
use Rattle.graph_core.proofs.SideLaws.{has-below, contains-has}
use Rattle.graph_core.proofs.SizeLaws.{size-none}

-- a side of one node, of two or more
pub only-proper : (n v : ℕ) (X : List Bool) → 2 ≤ n → length X ≡ n → IsOnly X v → IsProper n X
only-proper n v X two long w =
    let out : (k : ℕ) → k ≢ v → has X k ≡ false = λ k ne. false_from_ne_true (has X k) (λ t. ne (w.only k t)) in
    record {
      long = long;
      some_in = contains-has X v w.here;
      some_out = ⊎_elim
          (λ (e : v ≡ 0). (1, rw long (omega arith), out 1 (λ h. absurd (omega arith))))
          (λ (ne : v ≢ 0). (0, rw long (omega arith), out 0 (λ h. ne (sym h))))
          (cases_eq v 0);
    }

-- a side whose nodes are all the same has one at most
size-same : (C : List Bool) → ((u v : ℕ) → has C u ≡ true → has C v ≡ true → u ≡ v) → size C ≤ 1
size-same [] h = omega arith
size-same (true ∷ C) h =
    let none = size-none C (λ k. false_from_ne_true (has C k) (λ t. let e : 0 ≡ suc k = h 0 (suc k) refl t in absurd (omega arith))) in
    omega (arith, sum_by-cons weight true C)
size-same (false ∷ C) h =
    let rest = size-same C (λ u v a b. let e : suc u ≡ suc v = h (suc u) (suc v) a b in omega arith) in
    omega (arith, sum_by-cons weight false C)

-- without lines each class is a single node
pub singles : (n m : ℕ) (ls : List Line) (P : List (List Bool)) → AreComponents n (chosen (replicate m false) ls) P → n ≤ length P
singles n m ls P w =
    let small : All (λ C. size C ≤ 1) P = λ i d l. size-same (get_or P i d) (λ u v a b. same i d l u v a b) in
    let le = sum_by-le_each size (λ _. 1) P small in
    omega (arith, sum_by-size_of_partition n P w.partition, sum_by-same 1 P)
  where
    same : (i : ℕ) (d : List Bool) → i < length P → (u v : ℕ) → has (get_or P i d) u ≡ true → has (get_or P i d) v ≡ true → u ≡ v
    same i d l u v a b =
        ⊎_elim (λ e. e)
        (λ ne.
        let long : length (get_or P i d) ≡ n = (w.partition.nonempty i d l).long in
        let lu : u < n = subst (λ m. u < m) long (has-below (get_or P i d) u a) in
        let lv : v < n = subst (λ m. v < m) long (has-below (get_or P i d) v b) in
        let at_u : has (set_of n (λ x. eqb x u)) u ≡ true = has_of n (λ x. eqb x u) u lu ∙ eq-eqb u u refl in
        let at_v : has (set_of n (λ x. eqb x u)) v ≡ false = has_of n (λ x. eqb x u) v lv ∙ ne_eqb v u (λ e. ne (sym e)) in
        let some = w.joined (set_of n (λ x. eqb x u)) i d l u v a b at_u at_v in
        let none = chosen-none (crosses (set_of n (λ x. eqb x u))) m ls in
        absurd (omega arith))
        (cases_eq u v)
