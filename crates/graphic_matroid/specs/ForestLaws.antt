-- The forests of a graph are the free sets of a matroid.
use Rattle.std.proofs.Common.{ℕ, ◌≡◌, ◌+◌, ◌<◌, ◌≤◌, Bool, true, false, cond, eqb, ltb, ◌&&◌, List, [], ◌∷◌, length, get_or, set, take, replicate, count_by, sym, refl, ap, ◌∙◌, arith, ⊎_elim, subst, zero-add, add-one}
use Rattle.std.specs.List.{range_with_len, sum_by}
use Rattle.std.proofs.lemmas.Bool.{cases_Bool, and_parts, and_from, and_left, not-false, ltb-true, false_from_ne_true, cases_eq}
use Rattle.std.proofs.lemmas.List.Sums.{get_or-le-sum_by, sum_by-le-sum_by}
use Rattle.std.proofs.lemmas.List.FromFn.{length-range_with_len, get_or-range_with_len}
use Rattle.graph_core.proofs.FamilyLaws.{size-nonempty}
use Rattle.graph_core.specs.Side.{has, size}
use Rattle.graph_core.specs.Lines.{within}
use Rattle.graph_core.specs.Trees.{IsAcyclic}
use Rattle.graph_core.specs.declared.graph.Line.{Line}
use Rattle.matroid_union.specs.Matroid.{IsMatroid, Takes}
use Rattle.graphic_matroid.specs.Chosen.{chosen}
use Rattle.graph_core.specs.Labels.{class, splits, joined, Labels, Adds, Finest}
use Rattle.graphic_matroid.specs.Unfit.{unfit}
use Rattle.graphic_matroid.specs.ChosenLaws.{chosen-le, chosen-all, chosen-none, chosen-set, chosen-some, chosen-find, chosen-size, chosen-take, chosen-take_le}
use Rattle.graph_core.proofs.LabelLaws.{in_class, to_class, split_not, split_is, forest_more}
use Rattle.graph_core.proofs.LabelLaws.{labels_none}
use Rattle.graph_core.proofs.JoinLaws.{labels_more, joined_at, joined_off}
use Rattle.graph_core.proofs.Counting.{weight, zero_weight, sum_by-add, sum_by-swap}
use Rattle.graph_core.proofs.SetLaws.{length_of}
use Rattle.graph_core.proofs.SizeLaws.{weight_true, weight_false, weight_most, count-cons, count-none, sum_one, some_or_none}
use Rattle.graph_core.proofs.SideLaws.{nonempty-has}
use Rattle.graph_core.specs.Graph.{no_line}

-- the ends of a line that is fit
pub fit_ends : (n : ℕ) (l : Line) → unfit n l ≡ false → (l.tail < n) × (l.head < n)
fit_ends n l h =
    let both = and_parts (ltb l.tail n) (ltb l.head n) (not-false (ltb l.tail n && ltb l.head n) h) in
    (ltb-true l.tail n both.0, ltb-true l.head n both.1)

pub finest_none : Finest (λ v. v) []
finest_none = record { coarser = λ f _ u v e. ap f e }

pub finest_more : (lab : ℕ → ℕ) (ls : List Line) (l : Line) (more : List Line) → Finest lab ls → Adds ls l more → Finest (joined lab (lab l.tail) (lab l.head)) more
finest_more lab ls l more w adds = record {
  coarser = λ f closed u v e.
      let counted = adds.counts (splits f) in
      let old : count_by (splits f) ls ≡ 0 = omega arith in
      let unsplit : splits f l ≡ false = zero_weight (splits f l) (omega arith) in
      let line : f l.tail ≡ f l.head = split_not 0 f l unsplit in
      ⊎_elim
      (λ ua. ⊎_elim
      (λ va. w.coarser f old u v (ua ∙ sym va))
      (λ va. w.coarser f old u l.tail ua ∙ line ∙ w.coarser f old l.head v (sym (joined_at lab (lab l.tail) (lab l.head) u ua) ∙ e ∙ joined_off lab (lab l.tail) (lab l.head) v va))
      (cases_eq (lab v) (lab l.tail)))
      (λ ua. ⊎_elim
      (λ va. w.coarser f old u l.head (sym (joined_off lab (lab l.tail) (lab l.head) u ua) ∙ e ∙ joined_at lab (lab l.tail) (lab l.head) v va) ∙ sym line ∙ w.coarser f old l.tail v (sym va))
      (λ va. w.coarser f old u v (sym (joined_off lab (lab l.tail) (lab l.head) u ua) ∙ e ∙ joined_off lab (lab l.tail) (lab l.head) v va))
      (cases_eq (lab v) (lab l.tail)))
      (cases_eq (lab u) (lab l.tail));
}

pub record Labelled (n : ℕ) (ls : List Line) : Type 0 where
  pub lab : ℕ → ℕ
  pub is : Labels n lab ls
  pub finest : Finest lab ls

-- the components of a graph
pub labels_exist : (n : ℕ) (ls : List Line) → count_by (unfit n) ls ≡ 0 → Labelled n ls
labels_exist n [] h = record { lab = λ v. v; is = labels_none n; finest = finest_none }
labels_exist n (l ∷ ls) h =
    let c = count-cons (unfit n) l ls in
    let rest = labels_exist n ls (omega arith) in
    let fit : unfit n l ≡ false = zero_weight (unfit n l) (omega arith) in
    let ends = fit_ends n l fit in
    record {
      lab = joined rest.lab (rest.lab l.tail) (rest.lab l.head);
      is = labels_more n rest.lab ls l (l ∷ ls) rest.is (record { counts = λ p. count-cons p l ls }) ends.0 ends.1;
      finest = finest_more rest.lab ls l (l ∷ ls) rest.finest (record { counts = λ p. count-cons p l ls });
    }

module _ (n : ℕ) (lab : ℕ → ℕ) where
  -- the lines within classes, class by class
  abbrev pub inner : List Line → ℕ
  inner ls = sum_by (λ r. count_by (within (class n lab r)) ls) (range_with_len 0 n)

  abbrev pub times : Line → ℕ
  times l = sum_by (λ r. weight (within (class n lab r) l)) (range_with_len 0 n)

  pub inner_times : (ls : List Line) → inner ls ≡ sum_by times ls
  inner_times ls = sum_by-swap (λ r l. weight (within (class n lab r) l)) (range_with_len 0 n) ls

  pub times_most : (l : Line) → times l ≤ 1
  times_most l =
      sum_one (λ r. weight (within (class n lab r) l)) (lab l.tail) 0 n (λ r. weight_most (within (class n lab r) l))
      (λ r ne. weight_false (within (class n lab r) l) (and_left (has (class n lab r) l.tail) (has (class n lab r) l.head) (false_from_ne_true (has (class n lab r) l.tail) (λ t. ne (sym (in_class n lab r l.tail t).1)))))

  times_some : ((v : ℕ) → v < n → lab v < n) → (l : Line) → 1 ≤ times l + weight (splits lab l) + weight (unfit n l)
  times_some below l =
      ⊎_elim
      (λ s. omega (arith, weight_true (splits lab l) s))
      (λ s. ⊎_elim
      (λ u. omega (arith, weight_true (unfit n l) u))
      (λ u.
      let ends = fit_ends n l u in
      let same : lab l.tail ≡ lab l.head = split_not n lab l s in
      let r_in : lab l.tail < n = below l.tail ends.0 in
      let inside : within (class n lab (lab l.tail)) l ≡ true = and_from (has (class n lab (lab l.tail)) l.tail) (has (class n lab (lab l.tail)) l.head) (to_class n lab (lab l.tail) l.tail ends.0 refl) (to_class n lab (lab l.tail) l.head ends.1 (sym same)) in
      let here : get_or (range_with_len 0 n) (lab l.tail) 0 ≡ lab l.tail = get_or-range_with_len 0 n (lab l.tail) 0 r_in ∙ zero-add (lab l.tail) in
      let one = get_or-le-sum_by (λ r. weight (within (class n lab r) l)) (range_with_len 0 n) (lab l.tail) 0 (rw (length-range_with_len 0 n) r_in) in
      let one' : weight (within (class n lab (lab l.tail)) l) ≤ times l = subst (λ x. weight (within (class n lab x) l) ≤ times l) here one in
      omega (arith, weight_true (within (class n lab (lab l.tail)) l) inside))
      (cases_Bool (unfit n l)))
      (cases_Bool (splits lab l))

  inner_most : (ls : List Line) → inner ls ≤ count_by (λ _. true) ls
  inner_most ls = let a = inner_times ls in let b = sum_by-le-sum_by times (λ _. 1) ls times_most in omega arith

  pub inner_some : ((v : ℕ) → v < n → lab v < n) → (ls : List Line) → count_by (λ _. true) ls ≤ inner ls + count_by (splits lab) ls + count_by (unfit n) ls
  inner_some below ls =
      let a = inner_times ls in
      let b = sum_by-le-sum_by (λ _. 1) (λ l. times l + weight (splits lab l) + weight (unfit n l)) ls (times_some below) in
      let c = sum_by-add (λ l. times l + weight (splits lab l)) (λ l. weight (unfit n l)) ls in
      let d = sum_by-add times (λ l. weight (splits lab l)) ls in
      omega arith

  module _ (ls more : List Line) (w : Labels n lab ls) (forest : IsAcyclic n more) where
    class_le : (r : ℕ) → count_by (within (class n lab r)) more ≤ count_by (within (class n lab r)) ls
    class_le r =
        ⊎_elim
        (λ v.
        let few : count_by (within (class n lab r)) more < size (class n lab r) = forest (class n lab r) (nonempty-has n (class n lab r) v.0 (length_of n (λ x. eqb (lab x) r)) v.1) in
        omega (arith, w.tight r))
        (λ none. omega (arith, count-none (within (class n lab r)) (λ l. and_left (has (class n lab r) l.tail) (has (class n lab r) l.head) (none l.tail)) more))
        (some_or_none (class n lab r))

    -- a forest whose lines join no two of the classes has no more lines
    pub forest_le : count_by (splits lab) more ≡ 0 → count_by (unfit n) more ≡ 0 → count_by (λ _. true) more ≤ count_by (λ _. true) ls
    forest_le closed fit =
        let a = inner_some w.below more in
        let b = sum_by-le-sum_by (λ r. count_by (within (class n lab r)) more) (λ r. count_by (within (class n lab r)) ls) (range_with_len 0 n) class_le in
        let c = inner_most ls in
        omega arith

module _ (n : ℕ) (ls : List Line) (fit : count_by (unfit n) ls ≡ 0) where
  abbrev forest : List Bool → Type 0
  forest A = IsAcyclic n (chosen A ls)

  forest_empty : forest (replicate (length ls) false)
  forest_empty X w = omega (arith, chosen-none (within X) (length ls) ls, size-nonempty X w.some_in)

  pub forest_part : (A B : List Bool) → length A ≡ length ls → length B ≡ length ls → ((e : ℕ) → e < length ls → has A e ≡ true → has B e ≡ true) → forest B → forest A
  forest_part A B la lb h f X w = let g : count_by (within X) (chosen B ls) < size X = f X w in omega (arith, chosen-le (within X) A B ls h)

  forest_take : (A B : List Bool) → length A ≡ length ls → length B ≡ length ls → forest A → forest B → size A < size B → Takes (length ls) forest A B
  forest_take A B la lb fa fb less =
      let all_fit = chosen-all (unfit n) A ls in
      let labels = labels_exist n (chosen A ls) (omega arith) in
      ⊎_elim
      (λ found.
      let l : found.0 < length ls = found.1 in
      let fresh : has A found.0 ≡ false = false_from_ne_true (has A found.0) (λ t. absurd (let some = chosen-some (splits labels.lab) A ls found.0 no_line l t found.3 in let none = labels.is.closed in omega arith)) in
      record {
        taken = found.0;
        below = l;
        theirs = found.2;
        fresh = fresh;
        stays = forest_more n labels.lab (chosen A ls) labels.is.closed fa (get_or ls found.0 no_line) (chosen (set A found.0 true) ls)
            (record { counts = λ p. chosen-set p A ls found.0 no_line (omega arith) l fresh }) (split_is n labels.lab (get_or ls found.0 no_line) found.3);
      })
      (λ none. absurd (
      let fit_b = chosen-all (unfit n) B ls in
      let le = forest_le n labels.lab (chosen A ls) (chosen B ls) labels.is fb none (omega arith) in
      omega (arith, chosen-size A ls la, chosen-size B ls lb)))
      (chosen-find (splits labels.lab) B ls no_line)

  pub forest_matroid : IsMatroid (length ls) (λ A. IsAcyclic n (chosen A ls))
  forest_matroid = record { empty = forest_empty; part = forest_part; take = forest_take }

module _ (n : ℕ) (A : List Bool) (ls : List Line) (j : ℕ) (la : j < length A) (ll : j < length ls) (d : Line) where
  -- a line that isn't in the set changes nothing
  pub take_without : has A j ≡ false → (p : Line → Bool) → count_by p (chosen (take (j + 1) A) (take (j + 1) ls)) ≡ count_by p (chosen (take j A) (take j ls))
  take_without h p = rw add-one (let a = chosen-take p A ls j d la ll in let z : cond (has A j) (weight (p (get_or ls j d))) 0 ≡ 0 = ap (λ b. cond b (weight (p (get_or ls j d))) 0) h in omega arith)

  pub take_with : has A j ≡ true → Adds (chosen (take j A) (take j ls)) (get_or ls j d) (chosen (take (j + 1) A) (take (j + 1) ls))
  take_with h = record { counts = λ p. rw add-one (let a = chosen-take p A ls j d la ll in let z : cond (has A j) (weight (p (get_or ls j d))) 0 ≡ weight (p (get_or ls j d)) = ap (λ b. cond b (weight (p (get_or ls j d))) 0) h in omega arith) }

-- the first lines of a forest
pub forest_front : (n : ℕ) (A : List Bool) (ls : List Line) (j : ℕ) → IsAcyclic n (chosen A ls) → IsAcyclic n (chosen (take j A) (take j ls))
forest_front n A ls j f X w = let g : count_by (within X) (chosen A ls) < size X = f X w in omega (arith, chosen-take_le (within X) A ls j)
