-- What is generated is a graph, whose size is known.
use Rattle.std.proofs.Common.{◌≡◌, ◌≢◌, ℕ, ◌+◌, ◌-◌, ◌*◌, ◌<◌, ◌≤◌, ◌^◌, Bool, true, false, cond, nat_le, min, max, List, [], ◌∷◌, map, length, refl, sym, subst, ◌∙◌, All, IsTrue, arith, length-append}
use Rattle.std.specs.Prelude.{AllPairs, sum_by, decimal}
use Rattle.std.specs.List.{range_with_len}
use Rattle.std.specs.Str.{all_ascii_digits}
use Rattle.std.specs.Char.{is_ascii_digit}
use Rattle.std.proofs.lemmas.Str.Parse.{tells_all_ascii_digits, numerals_by_value}
use Rattle.std.proofs.lemmas.Fmt.{digits_decimal, decimal_injective, length-decimal-le}
use Rattle.std.proofs.lemmas.Bool.{and_parts}
use Rattle.std.proofs.lemmas.Bool.Decides.{nat_tests}
use Rattle.std.proofs.lemmas.List.Elements.{All-nil, All-cons, All-append, All-map, All-from_get_or}
use Rattle.std.proofs.lemmas.List.FromFn.{length-range_with_len, get_or-range_with_len, length-map-range_with_len, get_or-map-range_with_len}
use Rattle.graph_core.specs.Graph.{Fits, MakesGraph, AreNumbers, IsWithinSize, line_of, no_numbers}
use Rattle.graph_core.specs.Name.{IsName, is_name_byte}
use Rattle.graph_core.specs.declared.graph.Kind.{Kind}
use Rattle.graph_core.specs.declared.graph.Line.{Line}
use Rattle.graph_core.proofs.Counting.{sum_by-ones}
use Rattle.graph_core.proofs.GraphLaws.{all-priced, AreNumbers-none}
use Rattle.connect_gen.specs.Draws.{state}
use Rattle.connect_gen.specs.Generated.{node_name, node_names, tree_line, chord, further_line, generated_lines, generated}
use Rattle.connect_gen.proofs.DrawLaws.{drawn-below}

-- names
digit-allowed : (c : ℕ) → is_ascii_digit c ≡ true → IsTrue (is_name_byte c)
digit-allowed c e = grind (arith, nat_tests)

digits-allowed : (ds : List ℕ) → all_ascii_digits ds ≡ true → All (λ b. IsTrue (is_name_byte b)) ds
digits-allowed [] e = All-nil (λ b. IsTrue (is_name_byte b))
digits-allowed (c ∷ cs) e =
    let parts = and_parts (is_ascii_digit c) (all_ascii_digits cs) e in
    All-cons (λ b. IsTrue (is_name_byte b)) c cs (digit-allowed c parts.0) (digits-allowed cs parts.1)

pub node_name-is_name : (v : ℕ) → v < 128 → IsName (node_name v)
node_name-is_name v few =
    let fit : v + 1 < 2 ^ 64 = omega arith in
    let short : length (decimal (v + 1)) ≤ 3 = length-decimal-le 3 (v + 1) (omega arith) (omega arith) fit in
    record {
      some = omega arith;
      short = omega arith;
      allowed =
          All-cons (λ b. IsTrue (is_name_byte b)) 110 (decimal (v + 1)) refl
          (digits-allowed (decimal (v + 1)) (digits_decimal (numerals_by_value (λ ds. all_ascii_digits ds ≡ true) tells_all_ascii_digits) (v + 1) fit));
    }

node_name-apart : (u v : ℕ) → u < v → v < 128 → node_name u ≢ node_name v
node_name-apart u v less few e =
    let same : decimal (u + 1) ≡ decimal (v + 1) = cc in
    let equal : u + 1 ≡ v + 1 = decimal_injective (u + 1) (v + 1) (omega arith) (omega arith) same in
    absurd (omega arith)

node_names-distinct : (nodes : ℕ) → nodes ≤ 128 → AllPairs (λ a b. a ≢ b) (node_names nodes)
node_names-distinct nodes few = λ i j d less within.
    let j_within : j < nodes = subst (λ n. j < n) (length-map-range_with_len node_name 0 nodes) within in
    let i_within : i < nodes = omega arith in
    let i_is = get_or-map-range_with_len node_name 0 nodes i i d i_within (omega arith) in
    let j_is = get_or-map-range_with_len node_name 0 nodes j j d j_within (omega arith) in
    λ same. node_name-apart i j less (omega arith) (sym i_is ∙ same ∙ j_is)

-- lines
All-range : (P : ℕ → Type 0) (a n : ℕ) → ((i : ℕ) → a ≤ i → i < a + n → P i) → All P (range_with_len a n)
All-range P a n each =
    All-from_get_or P (range_with_len a n) 0
    (λ i within.
    let i_within : i < n = subst (λ m. i < m) (length-range_with_len a n) within in
    subst P (sym (get_or-range_with_len a n i 0 i_within)) (each (a + i) (omega arith) (omega arith)))

All-lines : (P : Line → Type 0) (f : ℕ → Line) (a n : ℕ) → ((i : ℕ) → a ≤ i → i < a + n → P (f i)) → All P (map f (range_with_len a n))
All-lines P f a n each = All-map P f (range_with_len a n) (All-range (λ i. P (f i)) a n each)

chord-fits : (nodes a c : ℕ) → a < nodes → c < nodes - 1 → Fits nodes (chord a c)
chord-fits nodes a c a_within c_within = by (nat_le a c) refl
  where
    by : (past : Bool) → nat_le a c ≡ past → Fits nodes (line_of (min a (cond past (c + 1) c), max a (cond past (c + 1) c)))
    by true e = let le : a ≤ c = grind (arith, nat_tests) in record { tail = omega arith; head = omega arith; apart = λ same. omega arith }
    by false e = let lt : c < a = grind (arith, nat_tests) in record { tail = omega arith; head = omega arith; apart = λ same. omega arith }

tree_line-fits : (number nodes i : ℕ) → 1 ≤ i → i < nodes → Fits nodes (tree_line number i)
tree_line-fits number nodes i some within =
    let below = drawn-below (state number i) i some in
    record { tail = omega (arith, below); head = within; apart = λ same. omega (arith, below, same) }

further_line-fits : (number nodes j : ℕ) → 2 ≤ nodes → Fits nodes (further_line number nodes j)
further_line-fits number nodes j some =
    chord-fits nodes _ _ (drawn-below (state number (nodes + 2 * j)) nodes (omega arith)) (drawn-below (state number (nodes + 2 * j + 1)) (nodes - 1) (omega arith))

generated_lines-fit : (number nodes : ℕ) → 2 ≤ nodes → All (Fits nodes) (generated_lines number nodes)
generated_lines-fit number nodes some =
    All-append (Fits nodes) (map (tree_line number) (range_with_len 1 (nodes - 1))) (map (further_line number nodes) (range_with_len 0 (3 * nodes)))
    (All-lines (Fits nodes) (tree_line number) 1 (nodes - 1) (λ i first last. tree_line-fits number nodes i first (omega arith)))
    (All-lines (Fits nodes) (further_line number nodes) 0 (3 * nodes) (λ j first last. further_line-fits number nodes j some))

-- each line is one of a pair of nodes
all-of_pairs : (P : Line → Type 0) → ((p : ℕ × ℕ) → P (line_of p)) → (number nodes : ℕ) → All P (generated_lines number nodes)
all-of_pairs P each number nodes =
    All-append P (map (tree_line number) (range_with_len 1 (nodes - 1))) (map (further_line number nodes) (range_with_len 0 (3 * nodes)))
    (All-lines P (tree_line number) 1 (nodes - 1) (λ i first last. each _))
    (All-lines P (further_line number nodes) 0 (3 * nodes) (λ j first last. each _))

generated_lines-length : (number nodes : ℕ) → 2 ≤ nodes → length (generated_lines number nodes) + 1 ≡ 4 * nodes
generated_lines-length number nodes some =
    let tree = length-map-range_with_len (tree_line number) 1 (nodes - 1) in
    let further = length-map-range_with_len (further_line number nodes) 0 (3 * nodes) in
    let both = length-append (map (tree_line number) (range_with_len 1 (nodes - 1))) (map (further_line number nodes) (range_with_len 0 (3 * nodes))) in
    omega (arith, tree, further, both)

pub generated-nodes : (kind : Kind) (nodes number : ℕ) → length (generated kind nodes number).names ≡ nodes
generated-nodes kind nodes number = length-map-range_with_len node_name 0 nodes

-- each line costs 1
pub generated_lines-costs : (number nodes : ℕ) → 2 ≤ nodes → sum_by (λ line. line.cost) (generated_lines number nodes) + 1 ≡ 4 * nodes
generated_lines-costs number nodes some =
    let costs = sum_by-ones (λ line. line.cost) (generated_lines number nodes) (all-of_pairs (λ l. l.cost ≡ 1) (λ p. refl) number nodes) in
    omega (arith, costs, generated_lines-length number nodes some)

pub generated-makes : (kind : Kind) (nodes number : ℕ) → 2 ≤ nodes → nodes ≤ 128 → MakesGraph (generated kind nodes number)
generated-makes kind nodes number some few =
    let names = generated-nodes kind nodes number in
    let lines = generated_lines-length number nodes some in
    record {
      some = omega (arith, names);
      nodes = omega (arith, names);
      few = omega (arith, lines);
      distinct = node_names-distinct nodes few;
      ends = subst (λ n. All (Fits n) (generated_lines number nodes)) (sym names) (generated_lines-fit number nodes some);
      free = λ undirected. all-of_pairs (λ l. l.fixed ≡ false) (λ p. refl) number nodes;
      priced = all-priced kind (generated_lines number nodes) (all-of_pairs (λ l. l.cost ≡ 1) (λ p. refl) number nodes);
      numbered = subst (λ n. AreNumbers n (no_numbers nodes)) (sym names) (AreNumbers-none nodes);
    }

pub generated-size : (kind : Kind) (nodes number : ℕ) → 2 ≤ nodes → nodes ≤ 128 → IsWithinSize (generated kind nodes number)
generated-size kind nodes number some few =
    let names = generated-nodes kind nodes number in
    let lines = generated_lines-length number nodes some in
    record { nodes = omega (arith, names); lines = omega (arith, lines) }
