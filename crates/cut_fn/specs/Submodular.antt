-- The inequalities that functions of sides keep: the textbook's submodularity and its relatives for symmetric functions.
use Rattle.std.specs.Prelude.{ℕ, ◌≡◌, ◌+◌, ◌*◌, ◌≤◌, Bool, List, length}
use Rattle.graph_core.specs.Side.{meet, join, minus, sum_over}

-- f(X) + f(Y) is at least f(X ∩ Y) + f(X ∪ Y), for all sides of n nodes
abbrev pub IsSubmodular : ℕ → (List Bool → ℕ) → Type 0
IsSubmodular n f = (X Y : List Bool) → length X ≡ n → length Y ≡ n → f (meet X Y) + f (join X Y) ≤ f X + f Y

-- with weights w of the nodes, f(X) + f(Y) is at least f(X - Y) + f(Y - X) + 2 w(X ∩ Y)
abbrev pub BoundsDifferences : ℕ → (List Bool → ℕ) → (ℕ → ℕ) → Type 0
BoundsDifferences n f w =
    (X Y : List Bool) → length X ≡ n → length Y ≡ n → f (minus X Y) + f (minus Y X) + 2 * sum_over (meet X Y) w ≤ f X + f Y

-- f(X) + f(Y) + f(Z) is at least f at X ∩ Y ∩ Z and at what each of the three has alone, and 2 w(X ∩ Y ∩ Z)
abbrev pub BoundsThreeSides : ℕ → (List Bool → ℕ) → (ℕ → ℕ) → Type 0
BoundsThreeSides n f w =
    (X Y Z : List Bool) → length X ≡ n → length Y ≡ n → length Z ≡ n
    → f (meet X (meet Y Z)) + f (minus X (join Y Z)) + f (minus Y (join X Z)) + f (minus Z (join X Y)) + 2 * sum_over (meet X (meet Y Z)) w ≤ f X + f Y + f Z
