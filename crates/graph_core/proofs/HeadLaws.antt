-- Arcs, counted by their heads.
use Rattle.std.specs.Prelude.{ℕ, zero, suc, ◌≡◌, ◌+◌, ◌≤◌, ◌==◌, ◌&&◌, not, Bool, true, false, cond, List, [], ◌∷◌, count_by, refl}
use Rattle.std.proofs.Common.{sym, ap, ◌∙◌, arith}
use Rattle.std.proofs.lemmas.Bool.{ne_eqb}
use Rattle.std.proofs.lemmas.List.Sums.{sum_by-cons}
use Rattle.graph_core.specs.Side.{has, size, sum_over}
use Rattle.graph_core.specs.Lines.{within, enters, entering, induced}
use Rattle.graph_core.specs.Trees.{in_degree}
use Rattle.graph_core.proofs.Counting.{weight, count_weights, eqb-suc}
use Rattle.graph_core.proofs.NodeLaws.{nodes_none}
use Rattle.graph_core.specs.declared.graph.Line.{Line}

pub nodes_add : (f g : ℕ → ℕ) (X : List Bool) → sum_over X (λ v. f v + g v) ≡ sum_over X f + sum_over X g
nodes_add f g [] = refl
nodes_add f g (true ∷ X) = omega (arith, nodes_add (λ v. f (suc v)) (λ v. g (suc v)) X)
nodes_add f g (false ∷ X) = omega (arith, nodes_add (λ v. f (suc v)) (λ v. g (suc v)) X)

-- nodes of weight 1
pub nodes_ones : (f : ℕ → ℕ) (X : List Bool) → ((v : ℕ) → has X v ≡ true → f v ≡ 1) → sum_over X f ≡ size X
nodes_ones f [] h = refl
nodes_ones f (true ∷ X) h = omega (arith, sum_by-cons weight true X, h 0 refl, nodes_ones (λ v. f (suc v)) X (λ v. h (suc v)))
nodes_ones f (false ∷ X) h = omega (arith, sum_by-cons weight false X, nodes_ones (λ v. f (suc v)) X (λ v. h (suc v)))

-- a node that is in a side adds its weight
pub node-le-sum : (f : ℕ → ℕ) (X : List Bool) (v : ℕ) → has X v ≡ true → f v ≤ sum_over X f
node-le-sum f [] v h = absurd (cc (h))
node-le-sum f (x ∷ X) zero h = rw h (omega arith)
node-le-sum f (x ∷ X) (suc v) h = omega (arith, node-le-sum (λ u. f (suc u)) X v h)

pub one_node : (h : ℕ) (X : List Bool) → sum_over X (λ v. weight (h == v)) ≡ weight (has X h)
one_node h [] = refl
one_node zero (x ∷ X) =
    let none : sum_over X (λ v. weight (0 == suc v)) ≡ 0 = (λ i. sum_over X (λ v. weight (ne_eqb 0 (suc v) (λ e. absurd (omega arith)) i))) ∙ nodes_none X in
    elim x as (λ b. cond b 1 0 + sum_over X (λ v. weight (0 == suc v)) ≡ weight b) [ true ↦ omega (arith, none) | false ↦ omega (arith, none) ]
one_node (suc h) (x ∷ X) =
    let rest : sum_over X (λ v. weight (suc h == suc v)) ≡ weight (has X h) = (λ i. sum_over X (λ v. weight (eqb-suc h v i))) ∙ one_node h X in
    let first : weight (suc h == 0) ≡ 0 = ap weight (ne_eqb (suc h) 0 (λ e. absurd (omega arith))) in
    elim x as (λ b. cond b (weight (suc h == 0)) 0 + sum_over X (λ v. weight (suc h == suc v)) ≡ weight (has X h)) [ true ↦ omega (arith, first, rest) | false ↦ omega (arith, rest) ]

module _ {A : Type 0} (t : A → Bool) (g : A → ℕ) where
  one_named : (X : List Bool) (x : A) → sum_over X (λ v. weight (t x && (g x == v))) ≡ weight (t x && has X (g x))
  one_named X x = elim (t x) as (λ b. sum_over X (λ v. weight (b && (g x == v))) ≡ weight (b && has X (g x))) [ true ↦ one_node (g x) X | false ↦ nodes_none X ]

  -- items that pass a test, counted by the node that they name
  pub nodes_named_by : (X : List Bool) (xs : List A) → sum_over X (λ v. count_by (λ x. t x && (g x == v)) xs) ≡ count_by (λ x. t x && has X (g x)) xs
  nodes_named_by X [] = nodes_none X
  nodes_named_by X (x ∷ xs) =
      (λ i. sum_over X (λ v. sum_by-cons (λ y. weight (t y && (g y == v))) x xs i))
      ∙ nodes_add (λ v. weight (t x && (g x == v))) (λ v. count_by (λ y. t y && (g y == v)) xs) X
      ∙ (λ i. one_named X x i + nodes_named_by X xs i)
      ∙ sym (sum_by-cons (λ y. weight (t y && has X (g y))) x xs)

-- all items
pub nodes_named : {A : Type 0} (g : A → ℕ) (X : List Bool) (xs : List A) → sum_over X (λ v. count_by (λ x. g x == v) xs) ≡ count_by (λ x. has X (g x)) xs
nodes_named g X xs = nodes_named_by (λ _. true) g X xs

-- the arcs with their heads in X, counted by head
pub heads_in : (X : List Bool) (ls : List Line) → sum_over X (λ v. in_degree v ls) ≡ count_by (λ l. has X l.head) ls
heads_in X ls = nodes_named (λ (l : Line). l.head) X ls

head_split : (a b : Bool) → weight b ≡ weight (b && not a) + weight (a && b)
head_split a b = grind arith

-- they enter X or lie within it
pub heads_split : (X : List Bool) (ls : List Line) → count_by (λ l. has X l.head) ls ≡ entering X ls + induced X ls
heads_split X ls = count_weights (λ l. has X l.head) (enters X) (within X) (λ l. head_split (has X l.tail) (has X l.head)) ls
