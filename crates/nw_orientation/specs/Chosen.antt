-- Items that are marked, and marks for all items woven from those for the marked ones and for the rest. No public clause cites it.
use Rattle.std.specs.Prelude.{Bool, true, false, List, [], ◌∷◌, drop, slice_index_or}

-- the items whose mark is b
abbrev pub chosen : {A : Type 0} → Bool → List A → List Bool → List A
chosen b [] ms = []
chosen b (x ∷ xs) [] = []
chosen true (x ∷ xs) (true ∷ ms) = x ∷ chosen true xs ms
chosen true (x ∷ xs) (false ∷ ms) = chosen true xs ms
chosen false (x ∷ xs) (true ∷ ms) = chosen false xs ms
chosen false (x ∷ xs) (false ∷ ms) = x ∷ chosen false xs ms

-- the first mark, true where there is none, and the others
abbrev pub first : List Bool → Bool
first hs = slice_index_or hs 0 true

abbrev pub rest : List Bool → List Bool
rest hs = drop 1 hs

-- the next of xs where a mark is true, and the next of ys where it is false
abbrev pub woven : List Bool → List Bool → List Bool → List Bool
woven [] xs ys = []
woven (true ∷ ms) xs ys = first xs ∷ woven ms (rest xs) ys
woven (false ∷ ms) xs ys = first ys ∷ woven ms xs (rest ys)
