-- Laws of sums over lines: one inequality for a line, of the memberships of its two ends, gives the law.
use Rattle.std.specs.Prelude.{ℕ, ◌≡◌, ◌+◌, ◌≤◌, Bool, not, ◌&&◌, ◌||◌, List, length, sum_by, All, refl}
use Rattle.std.proofs.Common.{sym, ◌∙◌, arith}
use Rattle.std.proofs.lemmas.List.Sums.{sum_by-le-sum_by}
use Rattle.std.proofs.lemmas.List.Elements.{All-weaker}
use Rattle.std.proofs.lemmas.Simd.{length-zip2}
use Rattle.graph_core.specs.Side.{has, meet, join, minus, complement}
use Rattle.graph_core.specs.Graph.{Fits}
use Rattle.graph_core.proofs.SideLaws.{has-zip2, has-minus, has-complement}
use Rattle.graph_core.proofs.Counting.{sum_by-add, sum_by-agree}
use Rattle.graph_core.specs.declared.graph.Line.{Line}

-- the sum over the lines of a number that depends on which of the two ends are in X
abbrev pub over_lines : (Bool → Bool → ℕ) → List Bool → List Line → ℕ
over_lines p X ls = sum_by (λ l. p (has X l.tail) (has X l.head)) ls

-- two sums against two, and four against three
pub two_sums-le : {A : Type 0} (f g h k : A → ℕ) → ((x : A) → f x + g x ≤ h x + k x) → (xs : List A) → sum_by f xs + sum_by g xs ≤ sum_by h xs + sum_by k xs
two_sums-le f g h k each xs =
    omega (arith, sum_by-add f g xs, sum_by-add h k xs, sum_by-le-sum_by (λ x. f x + g x) (λ x. h x + k x) xs each)

pub four_sums-le : {A : Type 0} (f g h k p q r : A → ℕ) → ((x : A) → f x + g x + h x + k x ≤ p x + q x + r x)
    → (xs : List A) → sum_by f xs + sum_by g xs + sum_by h xs + sum_by k xs ≤ sum_by p xs + sum_by q xs + sum_by r xs
four_sums-le f g h k p q r each xs =
    omega (
      arith,
      sum_by-add f g xs,
      sum_by-add (λ x. f x + g x) h xs,
      sum_by-add (λ x. f x + g x + h x) k xs,
      sum_by-add p q xs,
      sum_by-add (λ x. p x + q x) r xs,
      sum_by-le-sum_by (λ x. f x + g x + h x + k x) (λ x. p x + q x + r x) xs each,
    )

-- intersection and union: a and b say whether tail and head are in X, c and d whether they are in Y
pub lines_meet : (p : Bool → Bool → ℕ)
    → ((a b c d : Bool) → p (a && c) (b && d) + p (a || c) (b || d) ≤ p a b + p c d)
    → (ls : List Line) (X Y : List Bool) → length X ≡ length Y
    → over_lines p (meet X Y) ls + over_lines p (join X Y) ls ≤ over_lines p X ls + over_lines p Y ls
lines_meet p each ls X Y e =
    let at : List Bool → Line → ℕ = λ S l. p (has S l.tail) (has S l.head) in
    two_sums-le (at (meet X Y)) (at (join X Y)) (at X) (at Y)
    (λ l. rw (has-zip2 ◌&&◌ refl X Y l.tail e, has-zip2 ◌&&◌ refl X Y l.head e, has-zip2 ◌||◌ refl X Y l.tail e, has-zip2 ◌||◌ refl X Y l.head e)
    (each (has X l.tail) (has X l.head) (has Y l.tail) (has Y l.head)))
    ls

-- the two differences
pub lines_part : (p : Bool → Bool → ℕ)
    → ((a b c d : Bool) → p (a && not c) (b && not d) + p (c && not a) (d && not b) ≤ p a b + p c d)
    → (ls : List Line) (X Y : List Bool) → length X ≡ length Y
    → over_lines p (minus X Y) ls + over_lines p (minus Y X) ls ≤ over_lines p X ls + over_lines p Y ls
lines_part p each ls X Y e =
    let at : List Bool → Line → ℕ = λ S l. p (has S l.tail) (has S l.head) in
    two_sums-le (at (minus X Y)) (at (minus Y X)) (at X) (at Y)
    (λ l. rw (has-minus X Y l.tail e, has-minus X Y l.head e, has-minus Y X l.tail (sym e), has-minus Y X l.head (sym e))
    (each (has X l.tail) (has X l.head) (has Y l.tail) (has Y l.head)))
    ls

-- whether a node is in all three of X, Y and Z, and in X alone
pub has-all_three : (X Y Z : List Bool) (v : ℕ) → length X ≡ length Y → length Y ≡ length Z → has (meet X (meet Y Z)) v ≡ (has X v && (has Y v && has Z v))
has-all_three X Y Z v e e' =
    has-zip2 ◌&&◌ refl X (meet Y Z) v (e ∙ sym (length-zip2 ◌&&◌ Y Z e')) ∙ (λ t. has X v && has-zip2 ◌&&◌ refl Y Z v e' t)

pub has-first_alone : (X Y Z : List Bool) (v : ℕ) → length X ≡ length Y → length Y ≡ length Z → has (minus X (join Y Z)) v ≡ (has X v && not (has Y v || has Z v))
has-first_alone X Y Z v e e' =
    has-minus X (join Y Z) v (e ∙ sym (length-zip2 ◌||◌ Y Z e')) ∙ (λ t. has X v && not (has-zip2 ◌||◌ refl Y Z v e' t))

-- three sides: the intersection, and what each has alone; e and f say whether the ends are in Z
pub lines_three : (p : Bool → Bool → ℕ)
    → ((a b c d e f : Bool) → p (a && (c && e)) (b && (d && f)) + p (a && not (c || e)) (b && not (d || f)) + p (c && not (a || e)) (d && not (b || f)) + p (e && not (a || c)) (f && not (b || d)) ≤ p a b + p c d + p e f)
    → (ls : List Line) (X Y Z : List Bool) → length X ≡ length Y → length Y ≡ length Z
    → over_lines p (meet X (meet Y Z)) ls + over_lines p (minus X (join Y Z)) ls + over_lines p (minus Y (join X Z)) ls + over_lines p (minus Z (join X Y)) ls ≤ over_lines p X ls + over_lines p Y ls + over_lines p Z ls
lines_three p each ls X Y Z e e' =
    let at : List Bool → Line → ℕ = λ S l. p (has S l.tail) (has S l.head) in
    four_sums-le (at (meet X (meet Y Z))) (at (minus X (join Y Z))) (at (minus Y (join X Z))) (at (minus Z (join X Y))) (at X) (at Y) (at Z)
    (λ l. rw (
      has-all_three X Y Z l.tail e e',
      has-all_three X Y Z l.head e e',
      has-first_alone X Y Z l.tail e e',
      has-first_alone X Y Z l.head e e',
      has-first_alone Y X Z l.tail (sym e) (e ∙ e'),
      has-first_alone Y X Z l.head (sym e) (e ∙ e'),
      has-first_alone Z X Y l.tail (sym e' ∙ sym e) e,
      has-first_alone Z X Y l.head (sym e' ∙ sym e) e,
    )
    (each (has X l.tail) (has X l.head) (has Y l.tail) (has Y l.head) (has Z l.tail) (has Z l.head)))
    ls

-- the complement of a side of n nodes: p there is q at the side
pub lines_complement : (p q : Bool → Bool → ℕ) → ((a b : Bool) → p (not a) (not b) ≡ q a b)
    → (n : ℕ) (ls : List Line) → All (Fits n) ls → (X : List Bool) → length X ≡ n
    → over_lines p (complement X) ls ≡ over_lines q X ls
lines_complement p q each n ls fits X e =
    sum_by-agree (λ l. p (has (complement X) l.tail) (has (complement X) l.head)) (λ l. q (has X l.tail) (has X l.head)) ls
    (All-weaker (Fits n) (λ l. p (has (complement X) l.tail) (has (complement X) l.head) ≡ q (has X l.tail) (has X l.head))
    (λ l f. rw (has-complement X l.tail (omega (arith, f.tail)), has-complement X l.head (omega (arith, f.head))) (each (has X l.tail) (has X l.head))) ls fits)
