-- How the lines, the counts and the values of sides change when pairs are split off.
use Rattle.std.specs.Prelude.{ℕ, ◌≡◌, ◌+◌, ◌*◌, ◌≤◌, ◌==◌, Bool, true, false, not, ◌&&◌, cond, List, [], ◌∷◌, ◌++◌, map, replicate, count_by, refl}
use Rattle.std.proofs.Common.{sym, ap, ◌∙◌, arith, append_assoc}
use Rattle.std.proofs.lemmas.Bool.{eqb-true}
use Rattle.std.proofs.lemmas.List.{map-append, flat_map_more}
use Rattle.std.proofs.lemmas.List.Elements.{filter-append}
use Rattle.std.proofs.lemmas.List.Folds.{sum_by-replicate}
use Rattle.std.proofs.lemmas.List.Sums.{sum_by-cons, sum_by-append}
use Rattle.graph_core.specs.Side.{has, sum_over}
use Rattle.graph_core.specs.Graph.{line_of, lines_of}
use Rattle.graph_core.specs.Lines.{differ, crosses, degree}
use Rattle.graph_core.specs.declared.graph.Line.{Line}
use Rattle.graph_core.proofs.Counting.{weight}
use Rattle.graph_core.proofs.HeadLaws.{nodes_add, nodes_named}
use Rattle.graph_core.proofs.WeightLaws.{nodes_agree}
use Rattle.graph_core.specs.Pairs.{apart, pairs_of}
use Rattle.split_undirected.specs.Split.{ends_at, lines_after}
use Rattle.split_undirected.specs.Rows.{star_value}

-- pairs with both ends in a side, and with one
abbrev pub pairs_within : List Bool → List (ℕ × ℕ) → ℕ
pairs_within X pairs = count_by (λ p. has X p.0 && has X p.1) pairs

abbrev pub pairs_across : List Bool → List (ℕ × ℕ) → ℕ
pairs_across X pairs = count_by (λ p. differ (has X p.0) (has X p.1)) pairs

differ_self : (a b : ℕ) (X : List Bool) → a ≡ b → differ (has X a) (has X b) ≡ false
differ_self a b X e = ap (λ c. differ (has X a) (has X c)) (sym e) ∙ same (has X a)
  where
    same : (x : Bool) → differ x x ≡ false
    same true = refl
    same false = refl

-- the lines of a side's cut that pairs add
pub degree-apart : (X : List Bool) (pairs : List (ℕ × ℕ)) → degree X (lines_of (apart pairs)) ≡ pairs_across X pairs
degree-apart X [] = refl
degree-apart X (p ∷ pairs) =
    one (p.0 == p.1) (λ e. differ_self p.0 p.1 X (eqb-true p.0 p.1 e))
    ∙ ap (λ m. weight (differ (has X p.0) (has X p.1)) + m) (degree-apart X pairs)
    ∙ sym (sum_by-cons (λ q. weight (differ (has X q.0) (has X q.1))) p pairs)
  where
    one : (b : Bool) → (b ≡ true → differ (has X p.0) (has X p.1) ≡ false) → degree X (lines_of (cond (not b) (p ∷ apart pairs) (apart pairs))) ≡ weight (differ (has X p.0) (has X p.1)) + degree X (lines_of (apart pairs))
    one true h = omega (arith, ap weight (h refl))
    one false h = sum_by-cons (λ l. weight (crosses X l)) (line_of p) (lines_of (apart pairs))

pair_once : (a b : Bool) → weight (differ a b) + 2 * weight (a && b) ≡ weight a + weight b
pair_once a b = grind arith

-- the ends of pairs in a side
ends_within : (X : List Bool) (pairs : List (ℕ × ℕ)) → pairs_across X pairs + 2 * pairs_within X pairs ≡ count_by (λ p. has X p.0) pairs + count_by (λ p. has X p.1) pairs
ends_within X [] = refl
ends_within X (p ∷ pairs) =
    omega (
      arith,
      ends_within X pairs,
      pair_once (has X p.0) (has X p.1),
      sum_by-cons (λ q. weight (differ (has X q.0) (has X q.1))) p pairs,
      sum_by-cons (λ q. weight (has X q.0 && has X q.1)) p pairs,
      sum_by-cons (λ q. weight (has X q.0)) p pairs,
      sum_by-cons (λ q. weight (has X q.1)) p pairs,
    )

-- a pair across X has an end in it
pub degree-pairs : (X : List Bool) (pairs : List (ℕ × ℕ)) → degree X (lines_of (apart pairs)) ≤ count_by (λ p. has X p.0) pairs + count_by (λ p. has X p.1) pairs
degree-pairs X pairs = omega (arith, degree-apart X pairs, ends_within X pairs)

-- the ends of pairs at the nodes of a side
pub pairs_ends_in : (X : List Bool) (pairs : List (ℕ × ℕ)) → sum_over X (λ v. ends_at v pairs) ≡ count_by (λ p. has X p.0) pairs + count_by (λ p. has X p.1) pairs
pairs_ends_in X pairs =
    nodes_add (λ v. count_by (λ p. p.0 == v) pairs) (λ v. count_by (λ p. p.1 == v) pairs) X
    ∙ (λ i. nodes_named (λ (p : ℕ × ℕ). p.0) X pairs i + nodes_named (λ (p : ℕ × ℕ). p.1) X pairs i)

pub nodes_ends : (X : List Bool) (pairs : List (ℕ × ℕ)) → sum_over X (λ v. ends_at v pairs) ≡ pairs_across X pairs + 2 * pairs_within X pairs
nodes_ends X pairs = pairs_ends_in X pairs ∙ sym (ends_within X pairs)

-- what a side's edges to the new node lose
pub nodes_after : (X : List Bool) (w left : ℕ → ℕ) (pairs : List (ℕ × ℕ)) → ((v : ℕ) → has X v ≡ true → left v + ends_at v pairs ≡ w v) → sum_over X left + pairs_across X pairs + 2 * pairs_within X pairs ≡ sum_over X w
nodes_after X w left pairs h =
    omega (arith, nodes_agree (λ v. left v + ends_at v pairs) w X h, nodes_add left (λ v. ends_at v pairs) X, nodes_ends X pairs)

-- A side's value falls by two for each pair that it holds, and stays otherwise.
pub value_after : (ls : List Line) (w left : ℕ → ℕ) (pairs : List (ℕ × ℕ)) (X : List Bool) → ((v : ℕ) → has X v ≡ true → left v + ends_at v pairs ≡ w v) → star_value (lines_after ls pairs) left X + 2 * pairs_within X pairs ≡ star_value ls w X
value_after ls w left pairs X h =
    omega (arith, nodes_after X w left pairs h, sum_by-append (λ l. weight (crosses X l)) ls (lines_of (apart pairs)), degree-apart X pairs)

-- pairs after pairs
pub lines_after-append : (ls : List Line) (P Q : List (ℕ × ℕ)) → lines_after ls (P ++ Q) ≡ lines_after (lines_after ls P) Q
lines_after-append ls P Q =
    ap (λ ps. ls ++ map line_of ps) (filter-append (λ p. not (p.0 == p.1)) P Q) ∙ ap (λ more. ls ++ more) (map-append line_of (apart P) (apart Q)) ∙ sym (append_assoc ls (lines_of (apart P)) (lines_of (apart Q)))

pub ends_at-append : (v : ℕ) (P Q : List (ℕ × ℕ)) → ends_at v (P ++ Q) ≡ ends_at v P + ends_at v Q
ends_at-append v P Q = omega (arith, sum_by-append (λ p. weight (p.0 == v)) P Q, sum_by-append (λ p. weight (p.1 == v)) P Q)

pub pairs_of-push : (rows : List (ℕ × ℕ × ℕ)) (r : ℕ × ℕ × ℕ) → pairs_of (rows ++ r ∷ []) ≡ pairs_of rows ++ replicate r.2 (r.0, r.1)
pairs_of-push rows r = sym (flat_map_more (λ s. replicate s.2 (s.0, s.1)) [] rows r)

-- copies of a pair
module _ (u v q : ℕ) where
  abbrev pub copies : List (ℕ × ℕ)
  copies = replicate q (u, v)

  pub ends_at-copies : (x : ℕ) → ends_at x copies ≡ q * weight (u == x) + q * weight (v == x)
  ends_at-copies x = (λ i. sum_by-replicate (λ (p : ℕ × ℕ). weight (p.0 == x)) q (u, v) i + sum_by-replicate (λ (p : ℕ × ℕ). weight (p.1 == x)) q (u, v) i)

  pub across-copies : (X : List Bool) → pairs_across X copies ≡ q * weight (differ (has X u) (has X v))
  across-copies X = sum_by-replicate (λ (p : ℕ × ℕ). weight (differ (has X p.0) (has X p.1))) q (u, v)

  pub within-copies : (X : List Bool) → pairs_within X copies ≡ q * weight (has X u && has X v)
  within-copies X = sum_by-replicate (λ (p : ℕ × ℕ). weight (has X p.0 && has X p.1)) q (u, v)
