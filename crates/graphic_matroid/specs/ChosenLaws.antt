-- Counts over the lines of a set.
use Rattle.std.proofs.Common.{ℕ, zero, suc, ◌≡◌, ◌+◌, ◌<◌, ◌≤◌, Bool, true, false, cond, ◌⊎◌, inl, inr, List, [], ◌∷◌, length, get_or, set, replicate, count_by, take, refl, ap, arith, ⊎_elim}
use Rattle.std.proofs.lemmas.Bool.{cases_Bool, both_ways}
use Rattle.graph_core.specs.Side.{has, size}
use Rattle.graph_core.specs.declared.graph.Line.{Line}
use Rattle.graphic_matroid.specs.Chosen.{chosen}
use Rattle.graph_core.proofs.Counting.{weight}
use Rattle.graph_core.proofs.SizeLaws.{weight_true, weight_false, count-cons}

module _ (p : Line → Bool) where
  pub chosen-cons : (b : Bool) (A : List Bool) (l : Line) (ls : List Line) → count_by p (chosen (b ∷ A) (l ∷ ls)) ≡ cond b (weight (p l)) 0 + count_by p (chosen A ls)
  chosen-cons true A l ls = count-cons p l (chosen A ls)
  chosen-cons false A l ls = omega arith

  first-le : (a b : Bool) (w : ℕ) → (a ≡ true → b ≡ true) → cond a w 0 ≤ cond b w 0
  first-le false b w h = omega arith
  first-le true true w h = omega arith
  first-le true false w h = absurd (both_ways false refl (h refl))

  -- a subset has no more lines that pass
  pub chosen-le : (A B : List Bool) (ls : List Line) → ((e : ℕ) → e < length ls → has A e ≡ true → has B e ≡ true) → count_by p (chosen A ls) ≤ count_by p (chosen B ls)
  chosen-le [] B ls h = omega arith
  chosen-le (a ∷ A) B [] h = omega arith
  chosen-le (false ∷ A) [] (l ∷ ls) h = omega (arith, chosen-le A [] ls (λ e le. h (suc e) (omega arith)))
  chosen-le (true ∷ A) [] (l ∷ ls) h = absurd (both_ways false refl (h 0 (omega arith) refl))
  chosen-le (a ∷ A) (b ∷ B) (l ∷ ls) h =
      omega (arith, chosen-cons a A l ls, chosen-cons b B l ls, first-le a b (weight (p l)) (h 0 (omega arith)), chosen-le A B ls (λ e le. h (suc e) (omega arith)))

  pub chosen-all : (A : List Bool) (ls : List Line) → count_by p (chosen A ls) ≤ count_by p ls
  chosen-all [] ls = omega arith
  chosen-all (a ∷ A) [] = omega arith
  chosen-all (true ∷ A) (l ∷ ls) = omega (arith, chosen-cons true A l ls, count-cons p l ls, chosen-all A ls)
  chosen-all (false ∷ A) (l ∷ ls) = omega (arith, chosen-cons false A l ls, count-cons p l ls, chosen-all A ls)

  pub chosen-none : (n : ℕ) (ls : List Line) → count_by p (chosen (replicate n false) ls) ≡ 0
  chosen-none zero ls = refl
  chosen-none (suc n) [] = refl
  chosen-none (suc n) (l ∷ ls) = chosen-none n ls

  -- one line more
  pub chosen-set : (A : List Bool) (ls : List Line) (e : ℕ) (d : Line) → e < length A → e < length ls → has A e ≡ false → count_by p (chosen (set A e true) ls) ≡ weight (p (get_or ls e d)) + count_by p (chosen A ls)
  chosen-set [] ls e d la ll h = absurd (omega arith)
  chosen-set (a ∷ A) [] e d la ll h = absurd (omega arith)
  chosen-set (a ∷ A) (l ∷ ls) zero d la ll h =
      omega (arith, chosen-cons true A l ls, chosen-cons a A l ls, zero_first a h)
    where
      zero_first : (b : Bool) → b ≡ false → cond b (weight (p l)) 0 ≡ 0
      zero_first b e = ap (λ c. cond c (weight (p l)) 0) e
  chosen-set (a ∷ A) (l ∷ ls) (suc e) d la ll h =
      omega (arith, chosen-cons a (set A e true) l ls, chosen-cons a A l ls, chosen-set A ls e d (omega arith) (omega arith) h)

  -- a line of the set that passes is counted
  pub chosen-some : (A : List Bool) (ls : List Line) (e : ℕ) (d : Line) → e < length ls → has A e ≡ true → p (get_or ls e d) ≡ true → 1 ≤ count_by p (chosen A ls)
  chosen-some [] ls e d l h t = absurd (both_ways false refl h)
  chosen-some (a ∷ A) [] e d l h t = absurd (omega arith)
  chosen-some (false ∷ A) (x ∷ ls) zero d l h t = absurd (both_ways false refl h)
  chosen-some (true ∷ A) (x ∷ ls) zero d l h t = omega (arith, chosen-cons true A x ls, weight_true (p x) t)
  chosen-some (a ∷ A) (x ∷ ls) (suc e) d l h t = omega (arith, chosen-cons a A x ls, chosen-some A ls e d (omega arith) h t)

  -- a line of the set that passes, or none
  pub chosen-find : (A : List Bool) (ls : List Line) (d : Line) → ((e : ℕ) × (e < length ls) × (has A e ≡ true) × (p (get_or ls e d) ≡ true)) ⊎ (count_by p (chosen A ls) ≡ 0)
  chosen-find [] ls d = inr refl
  chosen-find (a ∷ A) [] d = inr refl
  chosen-find (false ∷ A) (x ∷ ls) d =
      ⊎_elim (λ w. let l : w.0 < length ls = w.1 in inl (suc w.0, omega arith, w.2, w.3)) (λ z. inr z) (chosen-find A ls d)
  chosen-find (true ∷ A) (x ∷ ls) d =
      ⊎_elim
      (λ t. inl (0, omega arith, refl, t))
      (λ f. ⊎_elim
      (λ w. let l : w.0 < length ls = w.1 in inl (suc w.0, omega arith, w.2, w.3))
      (λ z. inr (omega (arith, chosen-cons true A x ls, weight_false (p x) f)))
      (chosen-find A ls d))
      (cases_Bool (p x))

  -- the first lines of the set
  pub chosen-take : (A : List Bool) (ls : List Line) (j : ℕ) (d : Line) → j < length A → j < length ls → count_by p (chosen (take (suc j) A) (take (suc j) ls)) ≡ cond (has A j) (weight (p (get_or ls j d))) 0 + count_by p (chosen (take j A) (take j ls))
  chosen-take [] ls j d la ll = absurd (omega arith)
  chosen-take (a ∷ A) [] j d la ll = absurd (omega arith)
  chosen-take (a ∷ A) (l ∷ ls) zero d la ll = chosen-cons a [] l []
  chosen-take (a ∷ A) (l ∷ ls) (suc j) d la ll =
      omega (arith, chosen-cons a (take (suc j) A) l (take (suc j) ls), chosen-cons a (take j A) l (take j ls), chosen-take A ls j d (omega arith) (omega arith))

  pub chosen-take_le : (A : List Bool) (ls : List Line) (j : ℕ) → count_by p (chosen (take j A) (take j ls)) ≤ count_by p (chosen A ls)
  chosen-take_le A ls zero = omega arith
  chosen-take_le [] ls (suc j) = omega arith
  chosen-take_le (a ∷ A) [] (suc j) = omega arith
  chosen-take_le (a ∷ A) (l ∷ ls) (suc j) = omega (arith, chosen-cons a (take j A) l (take j ls), chosen-cons a A l ls, chosen-take_le A ls j)

-- a set has as many lines as members
pub chosen-size : (A : List Bool) (ls : List Line) → length A ≡ length ls → count_by (λ _. true) (chosen A ls) ≡ size A
chosen-size [] ls e = refl
chosen-size (a ∷ A) [] e = absurd (omega arith)
chosen-size (true ∷ A) (l ∷ ls) e = omega (arith, count-cons (λ (x : Line). true) l (chosen A ls), count-cons (λ (b : Bool). b) true A, chosen-size A ls (omega arith))
chosen-size (false ∷ A) (l ∷ ls) e = omega (arith, count-cons (λ (b : Bool). b) false A, chosen-size A ls (omega arith))

-- all lines
pub chosen-whole : (ls : List Line) → chosen (replicate (length ls) true) ls ≡ ls
chosen-whole [] = refl
chosen-whole (l ∷ ls) = ap (λ xs. l ∷ xs) (chosen-whole ls)
