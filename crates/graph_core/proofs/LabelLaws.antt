-- Classes joined by lines.
use Rattle.std.proofs.Common.{map, [], ◌∷◌, ℕ, ◌≡◌, ◌≢◌, ◌+◌, ◌<◌, ◌≤◌, Bool, true, false, not, eqb, ◌&&◌, List, length, count_by, sym, refl, ap, ◌∙◌, arith, ⊎_elim, subst}
use Rattle.std.proofs.lemmas.Bool.{cases_eq, cases_lt, cases_Bool, both_ways, eqb-true, eqb-false, eq-eqb, ne_eqb, and_parts, and_from, not-true, not-false, not_from_true, not_from_false}
use Rattle.std.proofs.lemmas.List.{get_or_past}
use Rattle.graph_core.specs.Side.{has, size}
use Rattle.graph_core.specs.Lines.{within}
use Rattle.graph_core.specs.Trees.{IsAcyclic}
use Rattle.graph_core.specs.declared.graph.Line.{Line}
use Rattle.graph_core.specs.Sets.{set_of}
use Rattle.graph_core.specs.Labels.{class, splits, Labels, Adds}
use Rattle.graph_core.proofs.Counting.{weight}
use Rattle.graph_core.proofs.SetLaws.{length_of, has_of}
use Rattle.graph_core.proofs.SizeLaws.{count-cons, sum_one, weight_true, weight_false, weight_most, count-le_three, size-ge_sum}
use Rattle.graph_core.proofs.SideLaws.{has-below, nonempty-has}
use Rattle.graph_core.proofs.FamilyLaws.{size-nonempty}
use Rattle.std.specs.List.{range_with_len}

has_past : (n : ℕ) (f : ℕ → Bool) (k : ℕ) → n ≤ k → has (set_of n f) k ≡ false
has_past n f k l = get_or_past (set_of n f) k false (rw (length_of n f) l)

module _ (n : ℕ) (lab : ℕ → ℕ) where
  -- what is in a class
  pub in_class : (r v : ℕ) → has (class n lab r) v ≡ true → (v < n) × (lab v ≡ r)
  in_class r v h =
      ⊎_elim
      (λ l. (l, eqb-true (lab v) r (sym (has_of n (λ w. eqb (lab w) r) v l) ∙ h)))
      (λ l. absurd (both_ways (has (class n lab r) v) (has_past n (λ w. eqb (lab w) r) v l) h))
      (cases_lt v n)

  pub to_class : (r v : ℕ) → v < n → lab v ≡ r → has (class n lab r) v ≡ true
  to_class r v l e = has_of n (λ w. eqb (lab w) r) v l ∙ eq-eqb (lab v) r e

  pub split_not : (l : Line) → splits lab l ≡ false → lab l.tail ≡ lab l.head
  split_not l h = eqb-true (lab l.tail) (lab l.head) (not-false (eqb (lab l.tail) (lab l.head)) h)

  pub split_is : (l : Line) → splits lab l ≡ true → lab l.tail ≢ lab l.head
  split_is l h = eqb-false (lab l.tail) (lab l.head) (not-true (eqb (lab l.tail) (lab l.head)) h)

  pub split_no : (l : Line) → lab l.tail ≡ lab l.head → splits lab l ≡ false
  split_no l e = not_from_true (eqb (lab l.tail) (lab l.head)) (eq-eqb (lab l.tail) (lab l.head) e)

  -- the part of X in class r, and the rest
  abbrev part_in : List Bool → ℕ → List Bool
  part_in X r = set_of n (λ v. has X v && eqb (lab v) r)

  abbrev part_out : List Bool → ℕ → List Bool
  part_out X r = set_of n (λ v. has X v && not (eqb (lab v) r))

  halves : (X : List Bool) (r : ℕ) → length X ≡ n → (k : ℕ) → weight (has (part_in X r) k) + weight (has (part_out X r) k) ≤ weight (has X k)
  halves X r e k =
      ⊎_elim
      (λ l.
      let yes_in = ap weight (has_of n (λ v. has X v && eqb (lab v) r) k l) in
      let yes_out = ap weight (has_of n (λ v. has X v && not (eqb (lab v) r)) k l) in
      let both = split (has X k) (eqb (lab k) r) in
      omega arith)
      (λ l.
      let no_in = ap weight (has_past n (λ v. has X v && eqb (lab v) r) k l) in
      let no_out = ap weight (has_past n (λ v. has X v && not (eqb (lab v) r)) k l) in
      omega arith)
      (cases_lt k n)
    where
      split : (a b : Bool) → weight (a && b) + weight (a && not b) ≤ weight a
      split true true = omega arith
      split true false = omega arith
      split false true = omega arith
      split false false = omega arith

  -- a line within X that joins no two classes is in one half
  in_half : (X : List Bool) (r : ℕ) → length X ≡ n → (l : Line) → weight (within X l) ≤ weight (splits lab l) + weight (within (part_in X r) l) + weight (within (part_out X r) l)
  in_half X r e l =
      ⊎_elim
      (λ w. ⊎_elim
      (λ s. omega (arith, weight_true (splits lab l) s, weight_most (within X l)))
      (λ s.
      let ends = and_parts (has X l.tail) (has X l.head) w in
      let t_in : l.tail < n = subst (λ x. l.tail < x) e (has-below X l.tail ends.0) in
      let h_in : l.head < n = subst (λ x. l.head < x) e (has-below X l.head ends.1) in
      let same : lab l.tail ≡ lab l.head = split_not l s in
      ⊎_elim
      (λ yes_r.
      let t : has (part_in X r) l.tail ≡ true = has_of n (λ v. has X v && eqb (lab v) r) l.tail t_in ∙ and_from (has X l.tail) (eqb (lab l.tail) r) ends.0 (eq-eqb (lab l.tail) r yes_r) in
      let h : has (part_in X r) l.head ≡ true = has_of n (λ v. has X v && eqb (lab v) r) l.head h_in ∙ and_from (has X l.head) (eqb (lab l.head) r) ends.1 (eq-eqb (lab l.head) r (sym same ∙ yes_r)) in
      let both : within (part_in X r) l ≡ true = and_from (has (part_in X r) l.tail) (has (part_in X r) l.head) t h in
      omega (arith, weight_true (within (part_in X r) l) both, weight_most (within X l)))
      (λ no_r.
      let t : has (part_out X r) l.tail ≡ true = has_of n (λ v. has X v && not (eqb (lab v) r)) l.tail t_in ∙ and_from (has X l.tail) (not (eqb (lab l.tail) r)) ends.0 (not_from_false (eqb (lab l.tail) r) (ne_eqb (lab l.tail) r no_r)) in
      let h : has (part_out X r) l.head ≡ true = has_of n (λ v. has X v && not (eqb (lab v) r)) l.head h_in ∙ and_from (has X l.head) (not (eqb (lab l.head) r)) ends.1 (not_from_false (eqb (lab l.head) r) (ne_eqb (lab l.head) r (λ h. no_r (same ∙ h)))) in
      let both : within (part_out X r) l ≡ true = and_from (has (part_out X r) l.tail) (has (part_out X r) l.head) t h in
      omega (arith, weight_true (within (part_out X r) l) both, weight_most (within X l)))
      (cases_eq (lab l.tail) r))
      (cases_Bool (splits lab l)))
      (λ w. omega (arith, weight_false (within X l) w))
      (cases_Bool (within X l))

  module _ (ls : List Line) (closed : count_by (splits lab) ls ≡ 0) (forest : IsAcyclic n ls) where
    -- a side with nodes of two classes has two lines fewer than nodes
    pub apart : (X : List Bool) (t h : ℕ) → length X ≡ n → has X t ≡ true → has X h ≡ true → lab t ≢ lab h → count_by (within X) ls + 2 ≤ size X
    apart X t h e ht hh ne =
        let t_in : t < n = subst (λ x. t < x) e (has-below X t ht) in
        let h_in : h < n = subst (λ x. h < x) e (has-below X h hh) in
        let t_part : has (part_in X (lab t)) t ≡ true = has_of n (λ v. has X v && eqb (lab v) (lab t)) t t_in ∙ and_from (has X t) (eqb (lab t) (lab t)) ht (eq-eqb (lab t) (lab t) refl) in
        let h_part : has (part_out X (lab t)) h ≡ true = has_of n (λ v. has X v && not (eqb (lab v) (lab t))) h h_in ∙ and_from (has X h) (not (eqb (lab h) (lab t))) hh (not_from_false (eqb (lab h) (lab t)) (ne_eqb (lab h) (lab t) (λ x. ne (sym x)))) in
        let first : count_by (within (part_in X (lab t))) ls < size (part_in X (lab t)) = forest (part_in X (lab t)) (nonempty-has n (part_in X (lab t)) t (length_of n (λ v. has X v && eqb (lab v) (lab t))) t_part) in
        let second : count_by (within (part_out X (lab t))) ls < size (part_out X (lab t)) = forest (part_out X (lab t)) (nonempty-has n (part_out X (lab t)) h (length_of n (λ v. has X v && not (eqb (lab v) (lab t)))) h_part) in
        let sizes : size (part_in X (lab t)) + size (part_out X (lab t)) ≤ size X = size-ge_sum X (part_in X (lab t)) (part_out X (lab t)) (length_of n (λ v. has X v && eqb (lab v) (lab t)) ∙ sym e) (length_of n (λ v. has X v && not (eqb (lab v) (lab t))) ∙ sym e) (halves X (lab t) e) in
        let lines : count_by (within X) ls ≤ count_by (splits lab) ls + count_by (within (part_in X (lab t))) ls + count_by (within (part_out X (lab t))) ls = count-le_three (within X) (splits lab) (within (part_in X (lab t))) (within (part_out X (lab t))) (in_half X (lab t) e) ls in
        omega arith

    -- a line that joins two classes leaves the rest a forest
    pub forest_more : (l : Line) (more : List Line) → Adds ls l more → lab l.tail ≢ lab l.head → IsAcyclic n more
    forest_more l more adds ne X w =
        let counted = adds.counts (within X) in
        ⊎_elim
        (λ inside.
        let ends = and_parts (has X l.tail) (has X l.head) inside in
        let two = apart X l.tail l.head w.long ends.0 ends.1 ne in
        omega (arith, weight_true (within X l) inside))
        (λ out. let was : count_by (within X) ls < size X = forest X w in omega (arith, weight_false (within X l) out))
        (cases_Bool (within X l))

  -- a line within a class closes a circuit
  pub circuit : (ls : List Line) (l : Line) (more : List Line) → Labels n lab ls → Adds ls l more → l.tail < n → l.head < n → lab l.tail ≡ lab l.head → IsAcyclic n more → ⊥
  circuit ls l more w adds lt lh e forest =
      let r : ℕ = lab l.tail in
      let t : has (class n lab (lab l.tail)) l.tail ≡ true = to_class (lab l.tail) l.tail lt refl in
      let h : has (class n lab (lab l.tail)) l.head ≡ true = to_class (lab l.tail) l.head lh (sym e) in
      let inside : within (class n lab (lab l.tail)) l ≡ true = and_from (has (class n lab (lab l.tail)) l.tail) (has (class n lab (lab l.tail)) l.head) t h in
      let few : count_by (within (class n lab (lab l.tail))) more < size (class n lab (lab l.tail)) = forest (class n lab (lab l.tail)) (nonempty-has n (class n lab (lab l.tail)) l.tail (length_of n (λ v. eqb (lab v) (lab l.tail))) t) in
      let counted = adds.counts (within (class n lab (lab l.tail))) in
      let tight = w.tight (lab l.tail) in
      omega (arith, weight_true (within (class n lab (lab l.tail)) l) inside)

-- each node its own label
pub count-map : (f : ℕ → Bool) (xs : List ℕ) → count_by (λ b. b) (map f xs) ≡ count_by f xs
count-map f [] = refl
count-map f (x ∷ xs) = omega (arith, count-cons (λ (b : Bool). b) (f x) (map f xs), count-cons f x xs, count-map f xs)

pub labels_none : (n : ℕ) → Labels n (λ v. v) []
labels_none n = record {
  below = λ v l. l;
  closed = refl;
  tight = λ r.
      let once : count_by (λ v. eqb v r) (range_with_len 0 n) ≤ 1 = sum_one (λ v. weight (eqb v r)) r 0 n (λ v. weight_most (eqb v r)) (λ v ne. weight_false (eqb v r) (ne_eqb v r ne)) in
      let same : size (class n (λ v. v) r) ≡ count_by (λ v. eqb v r) (range_with_len 0 n) = count-map (λ v. eqb v r) (range_with_len 0 n) in
      omega arith;
}

module _ (n : ℕ) (ls more : List Line) (same : (p : Line → Bool) → count_by p more ≡ count_by p ls) where
  pub labels_same : (lab : ℕ → ℕ) → Labels n lab ls → Labels n lab more
  labels_same lab w = record {
    below = w.below;
    closed = same (splits lab) ∙ w.closed;
    tight = λ r. let e = same (within (class n lab r)) in let t = w.tight r in omega arith;
  }

  pub forest_same : IsAcyclic n ls → IsAcyclic n more
  forest_same f X w = let g : count_by (within X) ls < size X = f X w in let e = same (within X) in omega arith

-- no lines are a forest
pub forest_none : (n : ℕ) → IsAcyclic n []
forest_none n X w = size-nonempty X w.some_in
