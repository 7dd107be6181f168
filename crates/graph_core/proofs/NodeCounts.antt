-- Counts of nodes, summed over sides: a side and its complement, two sides, a node outside, a count lowered.
use Rattle.std.specs.Prelude.{ℕ, zero, suc, ◌≡◌, ◌+◌, ◌-◌, ◌<◌, ◌≤◌, Bool, true, false, not, ◌&&◌, cond, List, [], ◌∷◌, length, replicate, slice_index, slice_set, sum, refl}
use Rattle.std.proofs.Common.{ap, arith}
use Rattle.std.proofs.lemmas.List.{get_or-set_same, get_or-set_other}
use Rattle.std.proofs.lemmas.List.Sums.{sum_by-cons}
use Rattle.graph_core.specs.Side.{has, size, meet, minus, complement, sum_over}
use Rattle.graph_core.proofs.Counting.{weight, weight_within}
use Rattle.graph_core.proofs.SizeLaws.{count-cons}
use Rattle.graph_core.proofs.WeightLaws.{nodes_changed, nodes_complement, nodes_all}

-- a side and its complement have the sum of all counts
pub sum_complement : (counts : List ℕ) (X : List Bool) → length X ≡ length counts → sum_over X (slice_index counts) + sum_over (complement X) (slice_index counts) ≡ sum counts
sum_complement counts X e =
    omega (arith, nodes_complement (slice_index counts) X, ap (λ m. sum_over (replicate m true) (slice_index counts)) e, nodes_all counts)

split_once : (c : ℕ) (x y : Bool) → cond x c 0 ≡ cond (x && not y) c 0 + cond (x && y) c 0
split_once c x y = grind arith

pub nodes_split : (w : ℕ → ℕ) (X Y : List Bool) → length X ≡ length Y → sum_over X w ≡ sum_over (minus X Y) w + sum_over (meet X Y) w
nodes_split w [] [] e = refl
nodes_split w [] (y ∷ Y) e = absurd (omega arith)
nodes_split w (x ∷ X) [] e = absurd (omega arith)
nodes_split w (x ∷ X) (y ∷ Y) e = let rest = nodes_split (λ v. w (suc v)) X Y (omega arith) in let here = split_once (w 0) x y in omega arith

-- where a side has less than all counts, a node outside of it has one
pub some_outside : (counts : List ℕ) (X : List Bool) → length X ≡ length counts → sum_over X (slice_index counts) < sum counts
    → (v : ℕ) × (v < length X) × (has X v ≡ false) × (1 ≤ slice_index counts v)
some_outside [] X e h = absurd (omega arith)
some_outside (c ∷ cs) [] e h = absurd (omega arith)
some_outside (zero ∷ cs) (false ∷ X) e h =
    let (v, l, out, some) = some_outside cs X (omega arith) (omega (arith, sum_by-cons (λ y. y) 0 cs)) in (suc v, omega arith, out, some)
some_outside (suc c ∷ cs) (false ∷ X) e h = (0, omega arith, refl, omega arith)
some_outside (c ∷ cs) (true ∷ X) e h =
    let (v, l, out, some) = some_outside cs X (omega arith) (omega (arith, sum_by-cons (λ y. y) c cs)) in (suc v, omega arith, out, some)

lower_once : (b : Bool) (old new c : ℕ) → new + c ≡ old → cond b old 0 ≡ cond b new 0 + cond b c 0
lower_once true old new c e = omega arith
lower_once false old new c e = refl

-- a count lowered by c
pub nodes_lowered : (counts : List ℕ) (X : List Bool) (v c : ℕ) → v < length counts → c ≤ slice_index counts v
    → sum_over X (slice_index (slice_set counts v (slice_index counts v - c))) + cond (has X v) c 0 ≡ sum_over X (slice_index counts)
nodes_lowered counts X v c l le =
    let old = slice_index counts v in
    let w' = slice_index (slice_set counts v (old - c)) in
    let here : w' v ≡ old - c = get_or-set_same counts v (old - c) 0 l in
    let change = nodes_changed (slice_index counts) w' v (λ u ne. get_or-set_other counts v u (old - c) 0 ne) X in
    omega (arith, change, lower_once (has X v) old (w' v) c (omega arith))

size_within : (M N : List Bool) → length M ≡ length N → ((v : ℕ) → has M v ≡ true → has N v ≡ true) → size M ≤ size N
size_within [] [] e h = omega arith
size_within [] (y ∷ N) e h = absurd (omega arith)
size_within (x ∷ M) [] e h = absurd (omega arith)
size_within (x ∷ M) (y ∷ N) e h =
    omega (arith, count-cons (λ b. b) x M, count-cons (λ b. b) y N, weight_within x y (h 0), size_within M N (omega arith) (λ v. h (suc v)))

-- a side that holds another, and a node that the other lacks
pub size_more : (M N : List Bool) (u : ℕ) → length M ≡ length N → ((v : ℕ) → has M v ≡ true → has N v ≡ true) → has M u ≡ false → has N u ≡ true
    → size M + 1 ≤ size N
size_more [] [] u e h out in_it = absurd (cc (out, in_it))
size_more [] (y ∷ N) u e h out in_it = absurd (omega arith)
size_more (x ∷ M) [] u e h out in_it = absurd (omega arith)
size_more (x ∷ M) (y ∷ N) zero e h out in_it =
    omega (arith, count-cons (λ b. b) x M, count-cons (λ b. b) y N, ap weight out, ap weight in_it, size_within M N (omega arith) (λ v. h (suc v)))
size_more (x ∷ M) (y ∷ N) (suc u) e h out in_it =
    omega (arith, count-cons (λ b. b) x M, count-cons (λ b. b) y N, weight_within x y (h 0), size_more M N u (omega arith) (λ v. h (suc v)) out in_it)
