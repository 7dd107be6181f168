-- The plain text of a graph is a text of it.
use Rattle.std.proofs.Common.{◌≡◌, ℕ, ◌+◌, ◌-◌, ◌<◌, ◌≤◌, suc, zero, Bool, true, false, nat_le, List, [], ◌∷◌, ◌++◌, length, take, drop, get_or, map, refl, sym, ap, subst, ◌∙◌, inl, inr, Some, None, append_assoc, append-nil, take-append-drop, drop-cons, drop_of_length-le, le_refl, All, arith, length-append}
use Rattle.std.specs.Prelude.{◌==◌, nat_lt, sum, codes, slice_get}
use Rattle.std.specs.List.{flat_map, list_any, zip}
use Rattle.std.specs.Fmt.{decimal}
use Rattle.std.specs.Str.{bytes_eq}
use Rattle.std.proofs.lemmas.Bool.{cases_lt, lt-leb, le-ltb}
use Rattle.std.proofs.lemmas.List.{take_at, take-map, map-append, length-map, length-take-le, get_or-take, get_or-map, get_or_default}
use Rattle.std.proofs.lemmas.List.Elements.{All-map, All-take, All-head, All-tail, All-nil}
use Rattle.std.proofs.lemmas.List.Folds.{list_any_none, list_any_at}
use Rattle.std.proofs.lemmas.List.Sums.{sum-map, sum_by_more_le}
use Rattle.std.proofs.lemmas.Slice.Zip.{firsts-zip, seconds-zip}
use Rattle.std.proofs.lemmas.Option.{slice_get-get_or}
use Rattle.std.proofs.lemmas.Slice.Eq.{bytes_eq-Decides}
use Rattle.std.proofs.Math.Seq.{get_or-append_seam, take-append_seam}
use Rattle.std.proofs.Math.Dec.{eqb-suc-zero}
use Rattle.std.proofs.lemmas.Grind.{common_steps, flat_map-append}
use Rattle.graph_core.specs.Name.{IsName}
use Rattle.graph_core.specs.Graph.{GraphValue, AreNumbers, IsGraph, IsWithinSize}
use Rattle.graph_core.proofs.FamilyLaws.{sum_by-map}
use Rattle.graph_core.specs.declared.graph.Kind.{Kind}
use Rattle.graph_core.specs.declared.graph.Kind.TheVariants.{Undirected, Directed}
use Rattle.graph_text.specs.Numbers.{value, is_number, arc_cost}
use Rattle.graph_text.specs.Said.{Said, Skipped, Header, Node, Edge, Arc, End}
use Rattle.graph_text.specs.Before.{Ends, Content, content_of, nodes_on, numbers_on, ends_on, cost_of}
use Rattle.graph_text.specs.Cause.{cause, is_name}
use Rattle.graph_text.specs.Text.{sayings, cause_at, said_at, ends_in, StandsFor, GoesOn, EndsAt, IsText}
use Rattle.graph_text.specs.Reading.{IsGraphText, ReadsText, IsTextAlone}
use Rattle.graph_text.specs.PlainText.{header_line, node_line, ends_line, plain_text, HasFewCosts}
use Rattle.graph_text.proofs.DraftLemmas.{is_name-Decides}
use Rattle.graph_text.proofs.NumberLemmas.{value-decimal, is_number-decimal}
use Rattle.graph_text.proofs.TextLemmas.{goes_on, said_split, cause_split}
use Rattle.graph_text.proofs.LawLemmas.{one_place}
use Rattle.graph_text.proofs.SpellingLemmas.{sayings-text, declares, joins, IsNode, IsNamed}

-- ---- what is written

-- the names and the numbers of nodes
abbrev names_of : List (List ℕ × ℕ) → List (List ℕ)
names_of nodes = map (λ (node : List ℕ × ℕ). node.0) nodes

abbrev numbers_of : List (List ℕ × ℕ) → List ℕ
numbers_of nodes = map (λ (node : List ℕ × ℕ). node.1) nodes

-- Names of two nodes, which differ.
record Joins (kind : Kind) (names : List (List ℕ)) (ends : Ends) : Type 0 where
  pub named : IsNamed kind ends
  pub tail_known : list_any (bytes_eq ends.tail) names ≡ true
  pub head_known : list_any (bytes_eq ends.head) names ≡ true
  pub apart : bytes_eq ends.tail ends.head ≡ false

-- Different names within the limits, with numbers, and lines between them.
record IsWritten (kind : Kind) (names : List (List ℕ)) (numbers : List ℕ) (all : List Ends) : Type 0 where
  pub named : All IsName names
  pub distinct : (k : ℕ) → k < length names → list_any (bytes_eq (get_or names k [])) (take k names) ≡ false
  pub some : 0 < length names
  pub few : length names ≤ 128
  pub numbered : AreNumbers (length names) numbers
  pub joined : All (Joins kind names) all
  pub few_lines : length all ≤ 2048
  pub few_costs : kind ≡ Directed → cost_of all ≤ 4000

other_name : (a b : List ℕ) → (a ≡ b → ⊥) → bytes_eq a b ≡ false
other_name a b apart = by (bytes_eq a b) refl
  where
    by : (t : Bool) → bytes_eq a b ≡ t → bytes_eq a b ≡ false
    by true e = absurd (apart ((bytes_eq-Decides a b).0 e))
    by false e = e

known : (names : List (List ℕ)) (i : ℕ) → i < length names → list_any (bytes_eq (get_or names i [])) names ≡ true
known names i within = list_any_at (bytes_eq (get_or names i [])) names i [] within ((bytes_eq-Decides (get_or names i []) (get_or names i [])).1 refl)

written : (g : GraphValue) → IsGraph g → IsWithinSize g → HasFewCosts g → IsWritten g.kind g.names g.numbers (map (ends_in g.names) g.lines)
written g graph small cheap = record {
  named = graph.named;
  distinct = λ k l. list_any_none (bytes_eq (get_or g.names k [])) (take k g.names) (λ j d m.
      let long = length-take-le k g.names (omega (arith, l)) in
      let early : j < k = omega (arith, m, long) in
      let same : get_or (take k g.names) j d ≡ get_or g.names j [] = get_or-take k g.names j d early ∙ get_or_default g.names j d [] (omega (arith, early, l)) in
      other_name (get_or g.names k []) (get_or (take k g.names) j d) (λ e. graph.makes.distinct j k [] early l (sym same ∙ sym e)));
  some = omega (arith, graph.makes.some);
  few = small.nodes;
  numbered = graph.makes.numbered;
  joined = All-map (Joins g.kind g.names) (ends_in g.names) g.lines (λ k d l.
      let line = get_or g.lines k d in
      let fits = graph.makes.ends k d l in
      let priced = graph.makes.priced k d l in
      record {
        named = record { tail = graph.named line.tail [] fits.tail; head = graph.named line.head [] fits.head; free = λ undirected. graph.makes.free undirected k d l; most = priced.most; edge_cost = priced.edge; fixed_cost = priced.fixed };
        tail_known = known g.names line.tail fits.tail;
        head_known = known g.names line.head fits.head;
        apart = other_name (get_or g.names line.tail []) (get_or g.names line.head []) (λ e. fits.apart (one_place g.names line.tail line.head graph.makes.distinct fits.tail fits.head e));
      });
  few_lines = omega (arith, small.lines, length-map g.lines (ends_in g.names));
  few_costs = λ directed. rw (sum_by-map (λ ends. ends.cost) (ends_in g.names) g.lines) (cheap directed);
}

-- ---- contents

nodes_of-nodes : (ps : List (List ℕ × ℕ)) → flat_map nodes_on (map declares ps) ≡ names_of ps
nodes_of-nodes [] = refl
nodes_of-nodes (p ∷ ps) = ap (λ l. p.0 ∷ l) (nodes_of-nodes ps)

numbers_of-nodes : (ps : List (List ℕ × ℕ)) → All IsNode ps → flat_map numbers_on (map declares ps) ≡ numbers_of ps
numbers_of-nodes [] are = refl
numbers_of-nodes (p ∷ ps) are =
    let here : value (decimal p.1) ≡ p.1 = value-decimal p.1 (All-head IsNode p ps are).fit in
    λ i. here i ∷ numbers_of-nodes ps (All-tail IsNode p ps are) i

ends_of-nodes : (ps : List (List ℕ × ℕ)) → flat_map ends_on (map declares ps) ≡ []
ends_of-nodes [] = refl
ends_of-nodes (p ∷ ps) = ends_of-nodes ps

nodes_of-joins : (kind : Kind) (es : List Ends) → flat_map nodes_on (map (joins kind) es) ≡ []
nodes_of-joins kind [] = refl
nodes_of-joins Undirected (e ∷ es) = nodes_of-joins Undirected es
nodes_of-joins Directed (e ∷ es) = nodes_of-joins Directed es

numbers_of-joins : (kind : Kind) (es : List Ends) → flat_map numbers_on (map (joins kind) es) ≡ []
numbers_of-joins kind [] = refl
numbers_of-joins Undirected (e ∷ es) = numbers_of-joins Undirected es
numbers_of-joins Directed (e ∷ es) = numbers_of-joins Directed es

cost-said : (fixed : Bool) (cost : ℕ) → cost ≤ 100 → (fixed ≡ true → cost ≡ 1) → arc_cost fixed (decimal cost) ≡ cost
cost-said true cost most one = sym (one refl)
cost-said false cost most one = value-decimal cost (omega (arith, most))

ends_of-join : (kind : Kind) (e : Ends) → IsNamed kind e → ends_on (joins kind e) ≡ e ∷ []
ends_of-join Undirected e named =
    let free = named.free refl in
    let one = named.edge_cost refl in
    λ i. record { tail = e.tail; head = e.head; fixed = sym free i; cost = sym one i } ∷ []
ends_of-join Directed e named =
    let cost = cost-said e.fixed e.cost named.most named.fixed_cost in
    λ i. record { tail = e.tail; head = e.head; fixed = e.fixed; cost = cost i } ∷ []

ends_of-joins : (kind : Kind) (es : List Ends) → All (IsNamed kind) es → flat_map ends_on (map (joins kind) es) ≡ es
ends_of-joins kind [] named = refl
ends_of-joins kind (e ∷ es) named =
    let here = ends_of-join kind e (All-head (IsNamed kind) e es named) in
    let rest = ends_of-joins kind es (All-tail (IsNamed kind) e es named) in
    λ i. here i ++ rest i

abbrev content : Kind → List (List ℕ × ℕ) → List Ends → Content
content kind ps es = record { kind = Some kind; names = names_of ps; numbers = numbers_of ps; ends = es }

content_of-both : (kind : Kind) (ps : List (List ℕ × ℕ)) (es : List Ends) → All IsNode ps → All (IsNamed kind) es → content_of (Header kind ∷ (map declares ps ++ map (joins kind) es)) ≡ content kind ps es
content_of-both kind ps es are named = λ i. record {
  kind = Some kind;
  names = (flat_map-append nodes_on (map declares ps) (map (joins kind) es) ∙ (λ j. nodes_of-nodes ps j ++ nodes_of-joins kind es j) ∙ append-nil (names_of ps)) i;
  numbers = (flat_map-append numbers_on (map declares ps) (map (joins kind) es) ∙ (λ j. numbers_of-nodes ps are j ++ numbers_of-joins kind es j) ∙ append-nil (numbers_of ps)) i;
  ends = (flat_map-append ends_on (map declares ps) (map (joins kind) es) ∙ (λ j. ends_of-nodes ps j ++ ends_of-joins kind es named j)) i;
}

content_of-nodes : (kind : Kind) (ps : List (List ℕ × ℕ)) → All IsNode ps → content_of (Header kind ∷ map declares ps) ≡ content kind ps []
content_of-nodes kind ps are = λ i. record { kind = Some kind; names = nodes_of-nodes ps i; numbers = numbers_of-nodes ps are i; ends = ends_of-nodes ps i }

-- ---- no cause

cause_node : (kind : Kind) (ps : List (List ℕ × ℕ)) (n word : List ℕ) → is_name n ≡ true → is_number 8192 word ≡ true → list_any (bytes_eq n) (names_of ps) ≡ false → nat_le 128 (length (names_of ps)) ≡ false
    → nat_lt 65536 (sum (numbers_of ps) + value word) ≡ false → cause (content kind ps []) (Node n word) ≡ None
cause_node kind ps n word named numbered fresh few total = grind (arith, common_steps)

cause_edge : (ps : List (List ℕ × ℕ)) (es : List Ends) (a b : List ℕ) → is_name a ≡ true → is_name b ≡ true → list_any (bytes_eq a) (names_of ps) ≡ true → list_any (bytes_eq b) (names_of ps) ≡ true → bytes_eq a b ≡ false
    → nat_le 2048 (length es) ≡ false → cause (content Undirected ps es) (Edge a b) ≡ None
cause_edge ps es a b na nb ka kb apart few = grind (arith, common_steps)

cause_arc : (ps : List (List ℕ × ℕ)) (es : List Ends) (a b : List ℕ) (fixed : Bool) (word : List ℕ) → is_name a ≡ true → is_name b ≡ true → is_number 100 word ≡ true → list_any (bytes_eq a) (names_of ps) ≡ true → list_any (bytes_eq b) (names_of ps) ≡ true
    → bytes_eq a b ≡ false → nat_le 2048 (length es) ≡ false → nat_lt 4000 (cost_of es + arc_cost fixed word) ≡ false → cause (content Directed ps es) (Arc a b fixed word) ≡ None
cause_arc ps es a b fixed word na nb numbered ka kb apart few total = grind (arith, common_steps)

cause_joins : (kind : Kind) (ps : List (List ℕ × ℕ)) (es : List Ends) (e : Ends) → Joins kind (names_of ps) e → length es < 2048 → (kind ≡ Directed → cost_of es + e.cost ≤ 4000) → cause (content kind ps es) (joins kind e) ≡ None
cause_joins Undirected ps es e j few cheap = cause_edge ps es e.tail e.head ((is_name-Decides e.tail).1 j.named.tail) ((is_name-Decides e.head).1 j.named.head) j.tail_known j.head_known j.apart (lt-leb 2048 (length es) few)
cause_joins Directed ps es e j few cheap =
    let cost = cost-said e.fixed e.cost j.named.most j.named.fixed_cost in
    let total : nat_lt 4000 (cost_of es + arc_cost e.fixed (decimal e.cost)) ≡ false = ap (λ n. nat_lt 4000 (cost_of es + n)) cost ∙ le-ltb 4000 (cost_of es + e.cost) (cheap refl) in
    cause_arc ps es e.tail e.head e.fixed (decimal e.cost) ((is_name-Decides e.tail).1 j.named.tail) ((is_name-Decides e.head).1 j.named.head) (is_number-decimal 100 e.cost j.named.most (omega (arith, j.named.most))) j.tail_known j.head_known j.apart
    (lt-leb 2048 (length es) few) total

cause_end : (kind : Kind) (ps : List (List ℕ × ℕ)) (es : List Ends) → (length (names_of ps) == 0) ≡ false → cause (content kind ps es) End ≡ None
cause_end kind ps es some = grind (arith, common_steps)

joins_on : (kind : Kind) (e : Ends) → joins kind e ≡ End → ⊥
joins_on Undirected e same = cc
joins_on Directed e same = cc

-- ---- the whole text

abbrev text_of : Kind → List (List ℕ × ℕ) → List Ends → List Said
text_of kind ps es = Header kind ∷ (map declares ps ++ (map (joins kind) es ++ End ∷ []))

not_zero : (n : ℕ) → 0 < n → (n == 0) ≡ false
not_zero zero l = absurd (omega (arith, l))
not_zero (suc n) l = eqb-suc-zero n

-- a list with one of its elements in the middle
middle : {X : Type 0} (xs : List X) (k : ℕ) (d : X) → k < length xs → xs ≡ take k xs ++ get_or xs k d ∷ drop (suc k) xs
middle xs k d within = sym (take-append-drop k xs) ∙ ap (λ l. take k xs ++ l) (drop-cons xs k d within)

map-middle : {X Y : Type 0} (f : X → Y) (xs : List X) (k : ℕ) (d : X) → k < length xs → map f xs ≡ map f (take k xs) ++ f (get_or xs k d) ∷ map f (drop (suc k) xs)
map-middle f xs k d within = ap (map f) (middle xs k d within) ∙ map-append f (take k xs) (get_or xs k d ∷ drop (suc k) xs)

-- what is written, by pairs of a name and a number
abbrev ArePairs : Kind → List (List ℕ × ℕ) → List Ends → Type 0
ArePairs kind ps es = IsWritten kind (names_of ps) (numbers_of ps) es

are_nodes : (kind : Kind) (ps : List (List ℕ × ℕ)) (es : List Ends) → ArePairs kind ps es → All IsNode ps
are_nodes kind ps es plain k d l =
    let name : get_or (names_of ps) k [] ≡ (get_or ps k d).0 = get_or-map (λ p. p.0) ps k d [] l in
    let number : get_or (numbers_of ps) k 0 ≡ (get_or ps k d).1 = get_or-map (λ p. p.1) ps k d 0 l in
    let most = plain.numbered.most k 0 (omega (arith, l, length-map ps (λ p. p.1))) in
    record { named = subst IsName name (plain.named k [] (omega (arith, l, length-map ps (λ p. p.0)))); fit = omega (arith, number, most) }

node_goes_on : (kind : Kind) (ps : List (List ℕ × ℕ)) (es : List Ends) (k at : ℕ) → ArePairs kind ps es → k < length ps → at ≡ k + 1 → GoesOn (text_of kind ps es) at
node_goes_on kind ps es k at plain within place =
    let none : List ℕ × ℕ = ([], 0) in
    let p = get_or ps k none in
    let before = take k ps in
    let front = Header kind ∷ map declares before in
    let rest = map (joins kind) es ++ End ∷ [] in
    let split : text_of kind ps es ≡ front ++ declares p ∷ (map declares (drop (suc k) ps) ++ rest) =
    ap (λ l. Header kind ∷ (l ++ rest)) (map-middle declares ps k none within) ∙ ap (λ l. Header kind ∷ l) (append_assoc (map declares before) (declares p ∷ map declares (drop (suc k) ps)) rest) in
    let long = length-take-le k ps (omega (arith, within)) in
    let names = length-map ps (λ p. p.0) in
    let at_front : at ≡ length front = omega (arith, place, long, length-map before declares) in
    let name : get_or (names_of ps) k [] ≡ p.0 = get_or-map (λ p. p.0) ps k none [] within in
    let number : get_or (numbers_of ps) k 0 ≡ p.1 = get_or-map (λ p. p.1) ps k none 0 within in
    let inside : k < length (names_of ps) = omega (arith, within, names) in
    let named : IsName p.0 = subst IsName name (plain.named k [] inside) in
    let most : p.1 ≤ 8192 = subst (λ n. n ≤ 8192) number (plain.numbered.most k 0 (omega (arith, within, length-map ps (λ p. p.1)))) in
    let fresh : list_any (bytes_eq p.0) (names_of before) ≡ false = (λ i. list_any (bytes_eq (sym name i)) (sym (take-map (λ p. p.0) k ps) i)) ∙ plain.distinct k inside in
    let few : nat_le 128 (length (names_of before)) ≡ false = lt-leb 128 (length (names_of before)) (omega (arith, long, within, names, plain.few, length-map before (λ p. p.0))) in
    let said = value-decimal p.1 (omega (arith, most)) in
    let sum_is = sum-map (λ p. p.1) before in
    let whole_is = sum-map (λ p. p.1) ps in
    let sums = sum_by_more_le (λ p. p.1) ps k none within in
    let total : nat_lt 65536 (sum (numbers_of before) + value (decimal p.1)) ≡ false = le-ltb 65536 (sum (numbers_of before) + value (decimal p.1)) (omega (arith, said, sum_is, whole_is, sums, plain.numbered.total)) in
    let sound = cause_node kind before p.0 (decimal p.1) ((is_name-Decides p.0).1 named) (is_number-decimal 8192 p.1 most (omega (arith, most))) fresh few total in
    let are : All IsNode before = All-take IsNode k ps (are_nodes kind ps es plain) in
    goes_on (text_of kind ps es) front (map declares (drop (suc k) ps) ++ rest) (declares p) at split at_front (ap (λ c. cause c (declares p)) (content_of-nodes kind before are) ∙ sound) (λ e. cc)

named_of : (kind : Kind) (ns : List (List ℕ)) (es : List Ends) → All (Joins kind ns) es → All (IsNamed kind) es
named_of kind ns es joined k d l = (joined k d l).named

line_goes_on : (kind : Kind) (ps : List (List ℕ × ℕ)) (es : List Ends) (j at : ℕ) → ArePairs kind ps es → j < length es → at ≡ length ps + 1 + j → GoesOn (text_of kind ps es) at
line_goes_on kind ps es j at plain within place =
    let none_ends : Ends = record { tail = []; head = []; fixed = false; cost = 1 } in
    let e = get_or es j none_ends in
    let f = joins kind in
    let before = take j es in
    let front = Header kind ∷ (map declares ps ++ map f before) in
    let back = map f (drop (suc j) es) ++ End ∷ [] in
    let split : text_of kind ps es ≡ front ++ f e ∷ back =
    ap (λ l. Header kind ∷ (map declares ps ++ (l ++ End ∷ []))) (map-middle f es j none_ends within)
    ∙ ap (λ l. Header kind ∷ (map declares ps ++ l)) (append_assoc (map f before) (f e ∷ map f (drop (suc j) es)) (End ∷ []))
    ∙ ap (λ l. Header kind ∷ l) (sym (append_assoc (map declares ps) (map f before) (f e ∷ back))) in
    let long = length-take-le j es (omega (arith, within)) in
    let at_front : at ≡ length front = omega (arith, place, long, length-map before f, length-map ps declares, length-append (map declares ps) (map f before)) in
    let few : length before < 2048 = omega (arith, long, within, plain.few_lines) in
    let sums = sum_by_more_le (λ ends. ends.cost) es j none_ends within in
    let none = cause_joins kind ps before e (plain.joined j none_ends within) few (λ directed. omega (arith, sums, plain.few_costs directed)) in
    let named : All (IsNamed kind) before = All-take (IsNamed kind) j es (named_of kind (names_of ps) es plain.joined) in
    let content_is = content_of-both kind ps before (are_nodes kind ps es plain) named in
    goes_on (text_of kind ps es) front back (f e) at split at_front (ap (λ c. cause c (f e)) content_is ∙ none) (joins_on kind e)

before_end : (kind : Kind) (ps : List (List ℕ × ℕ)) (es : List Ends) (at : ℕ) → ArePairs kind ps es → at < length ps + 1 + length es → GoesOn (text_of kind ps es) at
before_end kind ps es zero plain l = goes_on (text_of kind ps es) [] (map declares ps ++ (map (joins kind) es ++ End ∷ [])) (Header kind) 0 refl refl refl (λ e. cc)
before_end kind ps es (suc k) plain l =
    elim (cases_lt k (length ps)) [
      | inl m ↦ node_goes_on kind ps es k (suc k) plain m (omega arith)
      | inr m ↦ line_goes_on kind ps es (k - length ps) (suc k) plain (omega (arith, l, m)) (omega (arith, m))
    ]

text_of-EndsAt : (kind : Kind) (ps : List (List ℕ × ℕ)) (es : List Ends) → ArePairs kind ps es
    → EndsAt (text_of kind ps es) (length ps + 1 + length es) × (content_of (take (length ps + 1 + length es) (text_of kind ps es)) ≡ content kind ps es) × (length ps + 1 + length es + 1 ≡ length (text_of kind ps es))
text_of-EndsAt kind ps es plain =
    let f = joins kind in
    let front = Header kind ∷ (map declares ps ++ map f es) in
    let both = content_of-both kind ps es (are_nodes kind ps es plain) (named_of kind (names_of ps) es plain.joined) in
    let split : text_of kind ps es ≡ front ++ End ∷ [] = ap (λ l. Header kind ∷ l) (sym (append_assoc (map declares ps) (map f es) (End ∷ []))) in
    let last : length ps + 1 + length es ≡ length front = omega (arith, length-map es f, length-map ps declares, length-append (map declares ps) (map f es)) in
    let long : length (text_of kind ps es) ≡ length front + 1 = ap length split ∙ length-append front (End ∷ []) in (
      record {
        within = omega (arith, last, long);
        before = λ at l. before_end kind ps es at plain l;
        sound = (λ i. cause_at (split i) (last i)) ∙ cause_split front [] End ∙ ap (λ c. cause c End) both ∙ cause_end kind ps es (not_zero (length (names_of ps)) plain.some);
        ended = (λ i. said_at (split i) (last i)) ∙ said_split front [] End;
      },
      (λ i. content_of (take (last i) (split i))) ∙ ap content_of (take_at front (End ∷ []) (length front) refl) ∙ both,
      omega (arith, last, long),
    )

plain_text-IsGraphText : (g : GraphValue) → IsGraph g → IsWithinSize g → HasFewCosts g → IsGraphText (plain_text g) g
plain_text-IsGraphText g graph small cheap =
    let es = map (ends_in g.names) g.lines in
    let ps = zip g.names g.numbers in
    let names : names_of ps ≡ g.names = firsts-zip g.names g.numbers graph.makes.numbered.long in
    let numbers : numbers_of ps ≡ g.numbers = seconds-zip g.names g.numbers graph.makes.numbered.long in
    let plain : ArePairs g.kind ps es = subst (λ ns. IsWritten g.kind ns (numbers_of ps) es) (sym names) (subst (λ xs. IsWritten g.kind g.names xs es) (sym numbers) (written g graph small cheap)) in
    let says : sayings (plain_text g) ≡ text_of g.kind ps es = sayings-text g.kind ps es (are_nodes g.kind ps es plain) (named_of g.kind (names_of ps) es plain.joined) in
    let (ends, holds, long) = text_of-EndsAt g.kind ps es plain in
    let last = length ps + 1 + length es in
    let stands : StandsFor (content g.kind ps es) g = record { graph = graph; kind = refl; names = names; numbers = numbers; ends = refl } in (
      last,
      subst (λ all. IsText all last g) (sym says) (record { ends = ends; says = subst (λ c. StandsFor c g) (sym holds) stands }),
      long ∙ ap length (sym says),
    )

-- ---- whatever follows

-- the text ends in LF
fed : (g : GraphValue) → (front : List ℕ) × (plain_text g ≡ front ++ 10 ∷ [])
fed g =
    let h = header_line g.kind in
    let ns = flat_map node_line (zip g.names g.numbers) in
    let es = flat_map (ends_line g.kind) (map (ends_in g.names) g.lines) in (
      h ++ (ns ++ (es ++ codes "end")),
      sym (append_assoc h (ns ++ (es ++ codes "end")) (10 ∷ []) ∙ ap (λ l. h ++ l) (append_assoc ns (es ++ codes "end") (10 ∷ []) ∙ ap (λ l. ns ++ l) (append_assoc es (codes "end") (10 ∷ [])))),
    )

pub plain_text-ReadsText : (g : GraphValue) (rest : List ℕ) → IsGraph g → IsWithinSize g → HasFewCosts g → ReadsText (plain_text g ++ rest) g (length (plain_text g))
plain_text-ReadsText g rest graph small cheap =
    let text = plain_text g in
    let (front, ends) = fed g in
    let long : length text ≡ length front + 1 = ap length ends ∙ length-append front (10 ∷ []) in
    let all : text ++ rest ≡ front ++ 10 ∷ rest = ap (λ l. l ++ rest) ends ∙ append_assoc front (10 ∷ []) rest in
    let many : length (text ++ rest) ≡ length text + length rest = length-append text rest in
    let here : slice_get (text ++ rest) (length front) ≡ Some 10 = slice_get-get_or (text ++ rest) (length front) 0 (omega (arith, long, many)) ∙ ap Some (ap (λ l. get_or l (length front) 0) all ∙ get_or-append_seam front 10 rest 0) in
    record {
      within = omega (arith, many);
      whole = inr (length front, long, here);
      text = subst (λ t. IsGraphText t g) (sym (take-append_seam text rest)) (plain_text-IsGraphText g graph small cheap);
    }

pub plain_text-IsTextAlone : (g : GraphValue) → IsGraph g → IsWithinSize g → HasFewCosts g → IsTextAlone (plain_text g) g
plain_text-IsTextAlone g graph small cheap =
    let text = plain_text g in
    let reads : ReadsText text g (length text) = subst (λ t. ReadsText t g (length text)) (append-nil text) (plain_text-ReadsText g [] graph small cheap) in
    record { count = length text; reads = reads; rest = subst (λ t. All (λ said. said ≡ Skipped) (sayings t)) (sym (drop_of_length-le text (le_refl (length text)))) (All-nil (λ said. said ≡ Skipped)) }
