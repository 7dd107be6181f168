-- What the lines of a plain text say.
use Rattle.std.proofs.Common.{◌≡◌, ℕ, ◌-◌, ◌^◌, ◌<◌, ◌≤◌, Bool, true, false, ◌&&◌, ◌||◌, List, [], ◌∷◌, ◌++◌, length, get_or, map, refl, sym, ap, ◌∙◌, nat_lt, eq-eqb, lt-ltb, true≢false, append_assoc, length-append, All, arith}
use Rattle.std.specs.Prelude.{codes, filter, ◌==◌}
use Rattle.std.specs.Char.{is_ascii_digit}
use Rattle.std.specs.Fmt.{decimal}
use Rattle.std.specs.List.{flat_map, slice_split, onto_first}
use Rattle.std.specs.Io.BufRead.{strip_last, ends_with_byte}
use Rattle.std.proofs.Math.Bool.{and-false}
use Rattle.std.proofs.lemmas.Bool.{eqb-true, cond-true, cond-false}
use Rattle.std.proofs.lemmas.Bool.Decides.{nat_tests}
use Rattle.std.proofs.lemmas.Fmt.{decimal_digit, decimal_is_IsNumeral}
use Rattle.std.proofs.lemmas.List.{take_at}
use Rattle.std.proofs.lemmas.List.Elements.{All-head, All-tail, All-append, All-cons, All-nil}
use Rattle.std.proofs.lemmas.List.Splits.{slice_split_none, slice_split_at}
use Rattle.std.proofs.Math.Seq.{get_or-append_seam}
use Rattle.graph_core.specs.Name.{IsName, is_name_byte}
use Rattle.graph_core.specs.declared.graph.Kind.{Kind}
use Rattle.graph_core.specs.declared.graph.Kind.TheVariants.{Undirected, Directed}
use Rattle.graph_text.specs.Lines.{lines, words, is_blank, is_line_feed, is_some_word}
use Rattle.graph_text.specs.Said.{Said, Header, Node, Edge, Arc, End, says, line_says}
use Rattle.graph_text.specs.Before.{Ends}
use Rattle.graph_text.specs.Cause.{is_name}
use Rattle.graph_text.specs.PlainText.{header_line, node_line, cost_end, ends_line}
use Rattle.graph_text.specs.Text.{sayings}
use Rattle.graph_text.proofs.DraftLemmas.{is_name-Decides}
use Rattle.graph_text.proofs.LinesLemmas.{some_first}
use Rattle.graph_text.proofs.NumberLemmas.{decimal-digits}

-- ---- lines

lines-line : (xs rest : List ℕ) → All (λ x. is_line_feed x ≡ false) xs → lines (xs ++ 10 ∷ rest) ≡ (xs ++ 10 ∷ []) ∷ lines rest
lines-line [] rest none = refl
lines-line (x ∷ xs) rest none =
    cond-false (is_line_feed x) ((x ∷ []) ∷ lines (xs ++ 10 ∷ rest)) (onto_first x (lines (xs ++ 10 ∷ rest))) (All-head (λ y. is_line_feed y ≡ false) x xs none)
    ∙ ap (onto_first x) (lines-line xs rest (All-tail (λ y. is_line_feed y ≡ false) x xs none))

strip_last-hit : (byte : ℕ) (xs : List ℕ) → strip_last byte (xs ++ byte ∷ []) ≡ xs
strip_last-hit byte xs =
    let n : length (xs ++ byte ∷ []) - 1 ≡ length xs = omega (arith, length-append xs (byte ∷ [])) in
    let last : get_or (xs ++ byte ∷ []) (length (xs ++ byte ∷ []) - 1) 0 ≡ byte = rw n (get_or-append_seam xs byte [] 0) in
    let some : nat_lt 0 (length (xs ++ byte ∷ [])) ≡ true = lt-ltb _ _ (omega (arith, length-append xs (byte ∷ []))) in
    let ends : ends_with_byte byte (xs ++ byte ∷ []) ≡ true = λ i. some i && eq-eqb _ _ last i in
    cond-true _ _ _ ends ∙ take_at xs (byte ∷ []) _ (sym n)

strip_last-miss : (byte : ℕ) (xs : List ℕ) → All (λ x. (x == byte) ≡ false) xs → strip_last byte xs ≡ xs
strip_last-miss byte [] none = refl
strip_last-miss byte (x ∷ xs) none =
    let other : (get_or (x ∷ xs) (length (x ∷ xs) - 1) 0 == byte) ≡ false = none (length (x ∷ xs) - 1) 0 (omega arith) in
    let ends : ends_with_byte byte (x ∷ xs) ≡ false = ap (λ b. nat_lt 0 (length (x ∷ xs)) && b) other ∙ and-false (nat_lt 0 (length (x ∷ xs))) in
    cond-false _ _ _ ends

-- ---- plain bytes

-- Neither blank, LF nor CR: a part of a word.
pub record IsPlain (byte : ℕ) : Type 0 where
  pub no_blank : is_blank byte ≡ false
  pub no_line_feed : is_line_feed byte ≡ false
  pub no_return : (byte == 13) ≡ false

-- Something, and plain bytes alone.
pub record IsWord (word : List ℕ) : Type 0 where
  pub some : 0 < length word
  pub plain : All IsPlain word

not_name_byte : (byte other : ℕ) → is_name_byte byte ≡ true → is_name_byte other ≡ false → (byte == other) ≡ false
not_name_byte byte other name none = by (byte == other) refl
  where
    by : (b : Bool) → (byte == other) ≡ b → (byte == other) ≡ false
    by true e = absurd (true≢false (sym name ∙ ap is_name_byte (eqb-true byte other e) ∙ none))
    by false e = e

pub IsWord-name : (name : List ℕ) → IsName name → IsWord name
IsWord-name name named = record {
  some = named.some;
  plain = λ k d l.
      let here = named.allowed k d l in
      record {
        no_blank = λ i. not_name_byte (get_or name k d) 32 here refl i || not_name_byte (get_or name k d) 9 here refl i;
        no_line_feed = not_name_byte (get_or name k d) 10 here refl;
        no_return = not_name_byte (get_or name k d) 13 here refl;
      };
}

-- a word of the format
literal : (word : List ℕ) → is_name word ≡ true → IsWord word
literal word named = IsWord-name word ((is_name-Decides word).0 named)

digit_plain : (c : ℕ) → is_ascii_digit c ≡ true → IsPlain c
digit_plain c e = record { no_blank = grind (arith, nat_tests); no_line_feed = grind (arith, nat_tests); no_return = grind (arith, nat_tests) }

IsWord-decimal : (n : ℕ) → n < 2 ^ 64 → IsWord (decimal n)
IsWord-decimal n fit = record {
  some = (decimal_is_IsNumeral n fit).0.0;
  plain = λ k d l. digit_plain (get_or (decimal n) k d) (decimal-digits n fit k d l);
}

-- words with one blank between them
pub joined : List (List ℕ) → List ℕ
joined [] = []
joined (word ∷ []) = word
joined (word ∷ next ∷ ws) = word ++ 32 ∷ joined (next ∷ ws)

abbrev AreWords : List (List ℕ) → Type 0
AreWords ws = All IsWord ws

words-joined : (ws : List (List ℕ)) → AreWords ws → words (joined ws) ≡ ws
unfolding joined
words-joined [] each = refl
words-joined (word ∷ []) each =
    let here = All-head IsWord word [] each in
    ap (filter is_some_word) (slice_split_none is_blank word (λ k d l. (here.plain k d l).no_blank)) ∙ some_first word [] here.some
words-joined (word ∷ next ∷ ws) each =
    let here = All-head IsWord word (next ∷ ws) each in
    let rest = joined (next ∷ ws) in
    ap (filter is_some_word) (slice_split_at is_blank word 32 rest (λ k d l. (here.plain k d l).no_blank) refl)
    ∙ some_first word (slice_split is_blank rest) here.some
    ∙ ap (λ l. word ∷ l) (words-joined (next ∷ ws) (All-tail IsWord word (next ∷ ws) each))

none_joined : (bad : ℕ → Bool) (ws : List (List ℕ)) → ((x : ℕ) → IsPlain x → bad x ≡ false) → bad 32 ≡ false → AreWords ws → All (λ x. bad x ≡ false) (joined ws)
unfolding joined
none_joined bad [] plain blank each = All-nil (λ x. bad x ≡ false)
none_joined bad (word ∷ []) plain blank each = λ k d l. plain (get_or word k d) ((All-head IsWord word [] each).plain k d l)
none_joined bad (word ∷ next ∷ ws) plain blank each =
    All-append (λ x. bad x ≡ false) word (32 ∷ joined (next ∷ ws)) (λ k d l. plain (get_or word k d) ((All-head IsWord word (next ∷ ws) each).plain k d l))
    (All-cons (λ x. bad x ≡ false) 32 (joined (next ∷ ws)) blank (none_joined bad (next ∷ ws) plain blank (All-tail IsWord word (next ∷ ws) each)))

-- a line of words with one blank between them says what the words say
sayings-joined : (ws : List (List ℕ)) (rest : List ℕ) → AreWords ws → sayings (joined ws ++ 10 ∷ rest) ≡ says ws ∷ sayings rest
sayings-joined ws rest each =
    let no_feed = none_joined is_line_feed ws (λ x plain. plain.no_line_feed) refl each in
    let no_return = none_joined (λ x. x == 13) ws (λ x plain. plain.no_return) refl each in
    ap (map line_says) (lines-line (joined ws) rest no_feed)
    ∙ ap (λ c. says (words c) ∷ sayings rest) (ap (strip_last 13) (strip_last-hit 10 (joined ws)) ∙ strip_last-miss 13 (joined ws) no_return)
    ∙ ap (λ w. says w ∷ sayings rest) (words-joined ws each)

two : (a b : List ℕ) → IsWord a → IsWord b → AreWords (a ∷ b ∷ [])
two a b p q = All-cons IsWord a (b ∷ []) p (All-cons IsWord b [] q (All-nil IsWord))

three : (a b c : List ℕ) → IsWord a → IsWord b → IsWord c → AreWords (a ∷ b ∷ c ∷ [])
three a b c p q r = All-cons IsWord a (b ∷ c ∷ []) p (two b c q r)

four : (a b c d : List ℕ) → IsWord a → IsWord b → IsWord c → IsWord d → AreWords (a ∷ b ∷ c ∷ d ∷ [])
four a b c d p q r s = All-cons IsWord a (b ∷ c ∷ d ∷ []) p (three b c d q r s)

sayings-two : (a b rest : List ℕ) → IsWord a → IsWord b → sayings (((a ++ 32 ∷ []) ++ (b ++ 10 ∷ [])) ++ rest) ≡ says (a ∷ b ∷ []) ∷ sayings rest
unfolding joined
sayings-two a b rest p q =
    let text : ((a ++ 32 ∷ []) ++ (b ++ 10 ∷ [])) ++ rest ≡ joined (a ∷ b ∷ []) ++ 10 ∷ rest = simp append_assoc in
    ap sayings text ∙ sayings-joined (a ∷ b ∷ []) rest (two a b p q)

sayings-three : (a b c rest : List ℕ) → IsWord a → IsWord b → IsWord c → sayings (((a ++ 32 ∷ []) ++ (b ++ 32 ∷ (c ++ 10 ∷ []))) ++ rest) ≡ says (a ∷ b ∷ c ∷ []) ∷ sayings rest
unfolding joined
sayings-three a b c rest p q r =
    let text : ((a ++ 32 ∷ []) ++ (b ++ 32 ∷ (c ++ 10 ∷ []))) ++ rest ≡ joined (a ∷ b ∷ c ∷ []) ++ 10 ∷ rest = simp append_assoc in
    ap sayings text ∙ sayings-joined (a ∷ b ∷ c ∷ []) rest (three a b c p q r)

sayings-four : (a b c d rest : List ℕ) → IsWord a → IsWord b → IsWord c → IsWord d → sayings (((a ++ 32 ∷ []) ++ (b ++ 32 ∷ (c ++ 32 ∷ (d ++ 10 ∷ [])))) ++ rest) ≡ says (a ∷ b ∷ c ∷ d ∷ []) ∷ sayings rest
unfolding joined
sayings-four a b c d rest p q r s =
    let text : ((a ++ 32 ∷ []) ++ (b ++ 32 ∷ (c ++ 32 ∷ (d ++ 10 ∷ [])))) ++ rest ≡ joined (a ∷ b ∷ c ∷ d ∷ []) ++ 10 ∷ rest = simp append_assoc in
    ap sayings text ∙ sayings-joined (a ∷ b ∷ c ∷ d ∷ []) rest (four a b c d p q r s)

sayings-five : (a b c d e rest : List ℕ) → IsWord a → IsWord b → IsWord c → IsWord d → IsWord e
    → sayings (((a ++ 32 ∷ []) ++ (b ++ 32 ∷ (c ++ 32 ∷ (d ++ 32 ∷ (e ++ 10 ∷ []))))) ++ rest) ≡ says (a ∷ b ∷ c ∷ d ∷ e ∷ []) ∷ sayings rest
unfolding joined
sayings-five a b c d e rest p q r s t =
    let text : ((a ++ 32 ∷ []) ++ (b ++ 32 ∷ (c ++ 32 ∷ (d ++ 32 ∷ (e ++ 10 ∷ []))))) ++ rest ≡ joined (a ∷ b ∷ c ∷ d ∷ e ∷ []) ++ 10 ∷ rest = simp append_assoc in
    ap sayings text ∙ sayings-joined (a ∷ b ∷ c ∷ d ∷ e ∷ []) rest (All-cons IsWord a (b ∷ c ∷ d ∷ e ∷ []) p (four b c d e q r s t))

-- ---- the lines of the plain text

sayings-header : (kind : Kind) (rest : List ℕ) → sayings (header_line kind ++ rest) ≡ Header kind ∷ sayings rest
sayings-header Undirected rest = refl
sayings-header Directed rest = refl

zero_word : decimal 0 ≡ codes "0"
zero_word = decimal_digit 0 (omega arith)

one_word : (n : ℕ) → n ≡ 1 → decimal n ≡ codes "1"
one_word n one = ap decimal one ∙ decimal_digit 1 (omega arith)

-- what the line of a node says
abbrev pub declares : List ℕ × ℕ → Said
declares node = Node node.0 (decimal node.1)

sayings-node : (name : List ℕ) (number : ℕ) (rest : List ℕ) → IsName name → number < 2 ^ 64 → sayings (node_line (name, number) ++ rest) ≡ Node name (decimal number) ∷ sayings rest
sayings-node name number rest named fit = by (number == 0) refl
  where
    by : (b : Bool) → (number == 0) ≡ b → sayings (node_line (name, number) ++ rest) ≡ Node name (decimal number) ∷ sayings rest
    by true e =
        let none = eqb-true number 0 e in
        ap (λ n. sayings (node_line (name, n) ++ rest)) none ∙ sayings-two (codes "node") name rest (literal (codes "node") refl) (IsWord-name name named) ∙ ap (λ w. Node name w ∷ sayings rest) (sym (ap decimal none ∙ zero_word))
    by false e =
        ap (λ t. sayings ((codes "node " ++ (name ++ t)) ++ rest)) (cond-false (number == 0) (codes "\n") (codes " " ++ (decimal number ++ codes "\n")) e)
        ∙ sayings-three (codes "node") name (decimal number) rest (literal (codes "node") refl) (IsWord-name name named) (IsWord-decimal number fit)

-- what the line of an edge or an arc says
abbrev pub joins : Kind → Ends → Said
joins Undirected ends = Edge ends.tail ends.head
joins Directed ends = Arc ends.tail ends.head ends.fixed (decimal ends.cost)

-- Two names, and a cost other than 1 for an arc alone that isn't fixed.
pub record IsNamed (kind : Kind) (ends : Ends) : Type 0 where
  pub tail : IsName ends.tail
  pub head : IsName ends.head
  pub free : kind ≡ Undirected → ends.fixed ≡ false
  pub most : ends.cost ≤ 100
  pub edge_cost : kind ≡ Undirected → ends.cost ≡ 1
  pub fixed_cost : ends.fixed ≡ true → ends.cost ≡ 1

sayings-arc : (tail head : List ℕ) (cost : ℕ) (rest : List ℕ) → IsName tail → IsName head → cost < 2 ^ 64
    → sayings ((codes "arc " ++ (tail ++ (codes " " ++ (head ++ cost_end cost)))) ++ rest) ≡ Arc tail head false (decimal cost) ∷ sayings rest
sayings-arc tail head cost rest p q fit = by (cost == 1) refl
  where
    by : (b : Bool) → (cost == 1) ≡ b → sayings ((codes "arc " ++ (tail ++ (codes " " ++ (head ++ cost_end cost)))) ++ rest) ≡ Arc tail head false (decimal cost) ∷ sayings rest
    by true e =
        let one = eqb-true cost 1 e in
        ap (λ n. sayings ((codes "arc " ++ (tail ++ (codes " " ++ (head ++ cost_end n)))) ++ rest)) one
        ∙ sayings-three (codes "arc") tail head rest (literal (codes "arc") refl) (IsWord-name tail p) (IsWord-name head q)
        ∙ ap (λ w. Arc tail head false w ∷ sayings rest) (sym (one_word cost one))
    by false e =
        ap (λ t. sayings ((codes "arc " ++ (tail ++ (codes " " ++ (head ++ t)))) ++ rest)) (cond-false (cost == 1) (codes "\n") (codes " cost " ++ (decimal cost ++ codes "\n")) e)
        ∙ sayings-five (codes "arc") tail head (codes "cost") (decimal cost) rest (literal (codes "arc") refl) (IsWord-name tail p) (IsWord-name head q) (literal (codes "cost") refl) (IsWord-decimal cost fit)

sayings-ends : (kind : Kind) (tail head : List ℕ) (fixed : Bool) (cost : ℕ) (rest : List ℕ) → IsNamed kind (record { tail = tail; head = head; fixed = fixed; cost = cost })
    → sayings (ends_line kind (record { tail = tail; head = head; fixed = fixed; cost = cost }) ++ rest) ≡ joins kind (record { tail = tail; head = head; fixed = fixed; cost = cost }) ∷ sayings rest
sayings-ends Undirected tail head false cost rest named =
    ap (λ n. sayings ((codes "edge " ++ (tail ++ (codes " " ++ (head ++ cost_end n)))) ++ rest)) (named.edge_cost refl)
    ∙ sayings-three (codes "edge") tail head rest (literal (codes "edge") refl) (IsWord-name tail named.tail) (IsWord-name head named.head)
sayings-ends Undirected tail head true cost rest named = absurd (true≢false (named.free refl))
sayings-ends Directed tail head false cost rest named = sayings-arc tail head cost rest named.tail named.head (omega (arith, named.most))
sayings-ends Directed tail head true cost rest named =
    sayings-four (codes "arc") tail head (codes "fixed") rest (literal (codes "arc") refl) (IsWord-name tail named.tail) (IsWord-name head named.head) (literal (codes "fixed") refl)
    ∙ ap (λ w. Arc tail head true w ∷ sayings rest) (sym (one_word cost (named.fixed_cost refl)))

-- A name, and a number that has a decimal.
pub record IsNode (node : List ℕ × ℕ) : Type 0 where
  pub named : IsName node.0
  pub fit : node.1 < 2 ^ 64

sayings-nodes : (nodes : List (List ℕ × ℕ)) (rest : List ℕ) → All IsNode nodes → sayings (flat_map node_line nodes ++ rest) ≡ map declares nodes ++ sayings rest
sayings-nodes [] rest are = refl
sayings-nodes (node ∷ nodes) rest are =
    let here = All-head IsNode node nodes are in
    ap sayings (append_assoc (node_line node) (flat_map node_line nodes) rest)
    ∙ sayings-node node.0 node.1 (flat_map node_line nodes ++ rest) here.named here.fit
    ∙ ap (λ l. declares node ∷ l) (sayings-nodes nodes rest (All-tail IsNode node nodes are))

sayings-lines : (kind : Kind) (all : List Ends) (rest : List ℕ) → All (IsNamed kind) all → sayings (flat_map (ends_line kind) all ++ rest) ≡ map (joins kind) all ++ sayings rest
sayings-lines kind [] rest named = refl
sayings-lines kind (ends ∷ all) rest named =
    let here = All-head (IsNamed kind) ends all named in
    ap sayings (append_assoc (ends_line kind ends) (flat_map (ends_line kind) all) rest)
    ∙ sayings-ends kind ends.tail ends.head ends.fixed ends.cost (flat_map (ends_line kind) all ++ rest) here
    ∙ ap (λ l. joins kind ends ∷ l) (sayings-lines kind all rest (All-tail (IsNamed kind) ends all named))

-- the text says its header, its nodes, its lines and its end
pub sayings-text : (kind : Kind) (nodes : List (List ℕ × ℕ)) (all : List Ends) → All IsNode nodes → All (IsNamed kind) all
    → sayings (header_line kind ++ (flat_map node_line nodes ++ (flat_map (ends_line kind) all ++ codes "end\n"))) ≡ Header kind ∷ (map declares nodes ++ (map (joins kind) all ++ End ∷ []))
sayings-text kind nodes all are named =
    sayings-header kind (flat_map node_line nodes ++ (flat_map (ends_line kind) all ++ codes "end\n"))
    ∙ ap (λ l. Header kind ∷ l) (sayings-nodes nodes (flat_map (ends_line kind) all ++ codes "end\n") are)
    ∙ ap (λ l. Header kind ∷ (map declares nodes ++ l)) (sayings-lines kind all (codes "end\n") named)
