-- Lines picked by number, one by one, and how many they are.
use Rattle.std.specs.Prelude.{ℕ, ◌≡◌, ◌+◌, ◌<◌, ◌≤◌, Bool, true, List, [], ◌∷◌, ◌++◌, length, slice_get, Some, refl}
use Rattle.std.proofs.Common.{ap, ◌∙◌, arith, take, get_or}
use Rattle.std.specs.List.{cons_option}
use Rattle.std.proofs.lemmas.List.{take_more}
use Rattle.std.proofs.lemmas.List.Elements.{filter_map-append}
use Rattle.graph_core.specs.Picked.{picked, IsDistinct}
use Rattle.graph_core.specs.declared.graph.Line.{Line}
use Rattle.graph_core.proofs.Counting.{count-all, count_by-picked, passes-le}

-- one line more
pub picked-more : (ls : List Line) (js : List ℕ) (i : ℕ) (l : Line) → i < length js → slice_get ls (get_or js i 0) ≡ Some l → picked ls (take (i + 1) js) ≡ picked ls (take i js) ++ l ∷ []
picked-more ls js i l lt is =
    ap (picked ls) (take_more js i 0 lt) ∙ filter_map-append (slice_get ls) (take i js) (get_or js i 0 ∷ []) ∙ (λ t. picked ls (take i js) ++ cons_option (is t) [])

-- distinct numbers pick no more lines than there are
pub length-picked-le : (ls : List Line) (js : List ℕ) → IsDistinct js → length (picked ls js) ≤ length ls
length-picked-le ls js distinct =
    let p : Line → Bool = λ _. true in
    omega (arith, count-all p (picked ls js) (λ k d l. refl), count-all p ls (λ k d l. refl), count_by-picked (λ _. true) ls js, passes-le (λ _. true) ls js distinct)
