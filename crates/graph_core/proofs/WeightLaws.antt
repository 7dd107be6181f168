-- Laws of the weights of sides at two sides and at three: one equation for a node gives the law.
use Rattle.std.specs.Prelude.{ℕ, zero, suc, ◌≡◌, ◌≢◌, ◌+◌, ◌*◌, ◌<◌, ◌≤◌, Bool, true, false, not, ◌&&◌, ◌||◌, cond, List, [], ◌∷◌, length, take, replicate, slice_index, sum, refl}
use Rattle.std.proofs.Common.{arith, ap, ◌∙◌, add-one}
use Rattle.std.proofs.lemmas.List.Sums.{sum_by-cons}
use Rattle.graph_core.specs.Side.{has, size, meet, join, minus, complement, sum_over}
use Rattle.graph_core.proofs.Counting.{weight}
use Rattle.graph_core.proofs.HeadLaws.{node-le-sum}

meet_once : (c : ℕ) (x y : Bool) → cond (x && y) c 0 + cond (x || y) c 0 ≡ cond x c 0 + cond y c 0
meet_once c x y = grind arith

pub nodes_meet : (w : ℕ → ℕ) (X Y : List Bool) → length X ≡ length Y → sum_over (meet X Y) w + sum_over (join X Y) w ≡ sum_over X w + sum_over Y w
nodes_meet w [] [] e = refl
nodes_meet w [] (y ∷ Y) e = absurd (omega arith)
nodes_meet w (x ∷ X) [] e = absurd (omega arith)
nodes_meet w (x ∷ X) (y ∷ Y) e = let rest = nodes_meet (λ v. w (suc v)) X Y (omega arith) in let here = meet_once (w 0) x y in omega arith

part_once : (c : ℕ) (x y : Bool) → cond (x && not y) c 0 + cond (y && not x) c 0 + 2 * cond (x && y) c 0 ≡ cond x c 0 + cond y c 0
part_once c x y = grind arith

pub nodes_part : (w : ℕ → ℕ) (X Y : List Bool) → length X ≡ length Y
    → sum_over (minus X Y) w + sum_over (minus Y X) w + 2 * sum_over (meet X Y) w ≡ sum_over X w + sum_over Y w
nodes_part w [] [] e = refl
nodes_part w [] (y ∷ Y) e = absurd (omega arith)
nodes_part w (x ∷ X) [] e = absurd (omega arith)
nodes_part w (x ∷ X) (y ∷ Y) e = let rest = nodes_part (λ v. w (suc v)) X Y (omega arith) in let here = part_once (w 0) x y in omega arith

three_once : (c : ℕ) (x y z : Bool) → cond (x && (y && z)) c 0 + cond (x && not (y || z)) c 0 + cond (y && not (x || z)) c 0 + cond (z && not (x || y)) c 0 + 2 * cond (x && (y && z)) c 0 ≤ cond x c 0 + cond y c 0 + cond z c 0
three_once c x y z = grind arith

pub nodes_three : (w : ℕ → ℕ) (X Y Z : List Bool) → length X ≡ length Y → length Y ≡ length Z
    → sum_over (meet X (meet Y Z)) w + sum_over (minus X (join Y Z)) w + sum_over (minus Y (join X Z)) w + sum_over (minus Z (join X Y)) w + 2 * sum_over (meet X (meet Y Z)) w ≤ sum_over X w + sum_over Y w + sum_over Z w
nodes_three w [] [] [] e e' = omega arith
nodes_three w [] [] (z ∷ Z) e e' = absurd (omega arith)
nodes_three w [] (y ∷ Y) Z e e' = absurd (omega arith)
nodes_three w (x ∷ X) [] Z e e' = absurd (omega arith)
nodes_three w (x ∷ X) (y ∷ Y) [] e e' = absurd (omega arith)
nodes_three w (x ∷ X) (y ∷ Y) (z ∷ Z) e e' =
    let rest = nodes_three (λ v. w (suc v)) X Y Z (omega arith) (omega arith) in let here = three_once (w 0) x y z in omega arith

-- the first nodes, and one more
nodes_more : (X : List Bool) (v : ℕ) (w : ℕ → ℕ) → v < length X → sum_over (take (suc v) X) w ≡ sum_over (take v X) w + cond (has X v) (w v) 0
nodes_more [] v w l = absurd (omega arith)
nodes_more (x ∷ X) zero w l = omega arith
nodes_more (x ∷ X) (suc v) w l = let rest = nodes_more X v (λ u. w (suc u)) (omega arith) in omega arith

pub nodes_next : (X : List Bool) (v : ℕ) (w : ℕ → ℕ) → v < length X → sum_over (take (v + 1) X) w ≡ sum_over (take v X) w + cond (has X v) (w v) 0
nodes_next X v w l = rw add-one (nodes_more X v w l)

-- a side's size is its weight where each node has 1
pub size_weight : (X : List Bool) → size X ≡ sum_over X (λ _. 1)
size_weight [] = refl
size_weight (x ∷ X) = sum_by-cons weight x X ∙ ap (λ n. weight x + n) (size_weight X)

-- weights that agree in a side
pub nodes_agree : (w w' : ℕ → ℕ) (X : List Bool) → ((v : ℕ) → has X v ≡ true → w v ≡ w' v) → sum_over X w ≡ sum_over X w'
nodes_agree w w' [] h = refl
nodes_agree w w' (true ∷ X) h = omega (arith, h 0 refl, nodes_agree (λ v. w (suc v)) (λ v. w' (suc v)) X (λ v. h (suc v)))
nodes_agree w w' (false ∷ X) h = omega (arith, nodes_agree (λ v. w (suc v)) (λ v. w' (suc v)) X (λ v. h (suc v)))

pub nodes_le : (w w' : ℕ → ℕ) (X : List Bool) → ((v : ℕ) → w v ≤ w' v) → sum_over X w ≤ sum_over X w'
nodes_le w w' [] h = omega arith
nodes_le w w' (true ∷ X) h = omega (arith, h 0, nodes_le (λ v. w (suc v)) (λ v. w' (suc v)) X (λ v. h (suc v)))
nodes_le w w' (false ∷ X) h = omega (arith, nodes_le (λ v. w (suc v)) (λ v. w' (suc v)) X (λ v. h (suc v)))

cover_once : (c : ℕ) (x y : Bool) → (x ≡ true → y ≡ false → c ≡ 0) → cond x c 0 ≤ cond y c 0
cover_once c true true h = omega arith
cover_once c true false h = omega (arith, h refl refl)
cover_once c false y h = omega arith

-- where the nodes of X that Y lacks have no weight, X has no more than Y
pub nodes_cover : (w : ℕ → ℕ) (X Y : List Bool) → ((v : ℕ) → has X v ≡ true → has Y v ≡ false → w v ≡ 0) → sum_over X w ≤ sum_over Y w
nodes_cover w [] Y h = omega arith
nodes_cover w (x ∷ X) [] h =
    let first : cond x (w 0) 0 ≤ 0 = cover_once (w 0) x false (h 0) in
    let rest : sum_over X (λ v. w (suc v)) ≤ 0 = nodes_cover (λ v. w (suc v)) X [] (λ v. h (suc v)) in
    omega arith
nodes_cover w (x ∷ X) (y ∷ Y) h =
    let first = cover_once (w 0) x y (h 0) in
    let rest = nodes_cover (λ v. w (suc v)) X Y (λ v. h (suc v)) in
    omega arith

-- X lies within Y
pub nodes_within : (w : ℕ → ℕ) (X Y : List Bool) → ((v : ℕ) → has X v ≡ true → has Y v ≡ true) → sum_over X w ≤ sum_over Y w
nodes_within w X Y h = nodes_cover w X Y (λ v x y. absurd (cc (h v x)))

-- the weight of one node is another
pub nodes_changed : (w w' : ℕ → ℕ) (v : ℕ) → ((u : ℕ) → u ≢ v → w' u ≡ w u) → (X : List Bool)
    → sum_over X w' + cond (has X v) (w v) 0 ≡ sum_over X w + cond (has X v) (w' v) 0
nodes_changed w w' v h [] = refl
nodes_changed w w' zero h (x ∷ X) =
    let rest = nodes_agree (λ u. w' (suc u)) (λ u. w (suc u)) X (λ u _. h (suc u) (λ e. absurd (omega arith))) in omega arith
nodes_changed w w' (suc v) h (x ∷ X) =
    let rest = nodes_changed (λ u. w (suc u)) (λ u. w' (suc u)) v (λ u ne. h (suc u) (λ e. ne (omega arith))) X in
    let first : w' 0 ≡ w 0 = h 0 (λ e. absurd (omega arith)) in
    rw first (omega arith)

-- two nodes of a side have no more than all
pub two_nodes-le-sum : (w : ℕ → ℕ) (X : List Bool) (u v : ℕ) → u < v → has X u ≡ true → has X v ≡ true → w u + w v ≤ sum_over X w
two_nodes-le-sum w [] u v l a b = absurd (cc a)
two_nodes-le-sum w (x ∷ X) zero zero l a b = absurd (omega arith)
two_nodes-le-sum w (x ∷ X) (suc u) zero l a b = absurd (omega arith)
two_nodes-le-sum w (x ∷ X) zero (suc v) l a b = let rest = node-le-sum (λ i. w (suc i)) X v b in rw a (omega arith)
two_nodes-le-sum w (x ∷ X) (suc u) (suc v) l a b = let rest = two_nodes-le-sum (λ i. w (suc i)) X u v (omega arith) a b in omega arith

-- a side and its complement
pub nodes_complement : (w : ℕ → ℕ) (X : List Bool) → sum_over (complement X) w + sum_over X w ≡ sum_over (replicate (length X) true) w
nodes_complement w [] = refl
nodes_complement w (true ∷ X) = omega (arith, nodes_complement (λ v. w (suc v)) X)
nodes_complement w (false ∷ X) = omega (arith, nodes_complement (λ v. w (suc v)) X)

-- all nodes have the sum of the weights
pub nodes_all : (ws : List ℕ) → sum_over (replicate (length ws) true) (slice_index ws) ≡ sum ws
nodes_all [] = refl
nodes_all (w ∷ ws) = omega (arith, nodes_all ws, sum_by-cons (λ x. x) w ws)
