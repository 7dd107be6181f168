-- Searches in a list that is another list, seen through a function.
use Rattle.std.proofs.Common.{◌≡◌, ℕ, ◌+◌, Bool, false, cond, not, ◌||◌, List, [], ◌∷◌, ◌++◌, length, get_or, refl, sym, ap, ◌∙◌, map, position, nat_lt, Some, None}
use Rattle.std.proofs.lemmas.List.{length-map, map-append}
use Rattle.std.proofs.lemmas.Bool.{cond-false}
use Rattle.std.proofs.lemmas.List.Elements.{All-head, All-tail}
use Rattle.std.proofs.lemmas.List.{get_or_append_left}
use Rattle.std.proofs.lemmas.List.Quantifiers.{position-Some}
use Rattle.std.proofs.lemmas.Slice.Eq.{bytes_eq-Decides}
use Rattle.std.specs.Prelude.{All}
use Rattle.std.specs.Str.{bytes_eq}
use Rattle.graph_core.specs.declared.graph.Line.{Line}
use Rattle.graph_core.specs.Graph.{Fits}
use Rattle.graph_text.specs.Text.{ends_in}
use Rattle.std.specs.List.{prefix_len, list_any}

module _ {X Y : Type 0} (f : X → Y) where
  prefix_len-map : (p : Y → Bool) (xs : List X) → prefix_len p (map f xs) ≡ prefix_len (λ x. p (f x)) xs
  prefix_len-map p [] = refl
  prefix_len-map p (x ∷ xs) = ap (λ n. cond (p (f x)) (1 + n) 0) (prefix_len-map p xs)

  pub position-map : (p : Y → Bool) (xs : List X) → position p (map f xs) ≡ position (λ x. p (f x)) xs
  position-map p xs =
      let n : prefix_len (λ y. not (p y)) (map f xs) ≡ prefix_len (λ x. not (p (f x))) xs = prefix_len-map (λ y. not (p y)) xs in
      ap (λ m. cond (nat_lt m (length (map f xs))) (Some m) None) n ∙ ap (λ l. cond (nat_lt (prefix_len (λ x. not (p (f x))) xs) l) (Some (prefix_len (λ x. not (p (f x))) xs)) None) (length-map xs f)

  pub list_any-map : (p : Y → Bool) (xs : List X) → list_any p (map f xs) ≡ list_any (λ x. p (f x)) xs
  list_any-map p [] = refl
  list_any-map p (x ∷ xs) = ap (λ b. p (f x) || b) (list_any-map p xs)

  -- a set with one element more
  pub map-inserted : (test : Bool) (old new : List X) (x : X) → new ≡ cond test old (old ++ x ∷ []) → test ≡ false → map f new ≡ map f old ++ f x ∷ []
  map-inserted test old new x e none = ap (map f) (e ∙ cond-false test old (old ++ x ∷ []) none) ∙ map-append f old (x ∷ [])

-- names that are added behind change no line's ends
pub ends_in-more : (names more : List (List ℕ)) (lines : List Line) → All (Fits (length names)) lines → map (ends_in (names ++ more)) lines ≡ map (ends_in names) lines
ends_in-more names more [] within = refl
ends_in-more names more (line ∷ lines) within =
    let first = All-head (Fits (length names)) line lines within in
    let tail : get_or (names ++ more) line.tail [] ≡ get_or names line.tail [] = get_or_append_left names more [] line.tail first.tail in
    let head : get_or (names ++ more) line.head [] ≡ get_or names line.head [] = get_or_append_left names more [] line.head first.head in
    λ i. record { tail = tail i; head = head i; fixed = line.fixed; cost = line.cost } ∷ ends_in-more names more lines (All-tail (Fits (length names)) line lines within) i

-- the name at the place where it was found
pub name_at : (names : List (List ℕ)) (name : List ℕ) (i : ℕ) → position (bytes_eq name) names ≡ Some i → get_or names i [] ≡ name
name_at names name i found = sym ((bytes_eq-Decides name (get_or names i [])).0 (position-Some (bytes_eq name) names i [] found).1)
