-- The lines of a text with what stands before them and behind them.
use Rattle.std.proofs.Common.{◌≡◌, ℕ, ◌+◌, ◌<◌, suc, Bool, true, false, ◌||◌, not, List, [], ◌∷◌, ◌++◌, length, get_or, refl, sym, ap, subst, ◌∙◌, All, Some, None, append-nil, length-append, true≢false, lit<, zero, arith}
use Rattle.std.specs.Prelude.{is_some, slice_get, sum, nat_le, nat_lt}
use Rattle.std.specs.Str.{bytes_eq}
use Rattle.std.specs.List.{find, flat_map}
use Rattle.std.specs.declared.option.Option.{Option}
use Rattle.std.proofs.lemmas.Bool.{not-false, leb-false, ltb-false, cond-true, cond-false}
use Rattle.std.proofs.lemmas.Grind.{flat_map-append}
use Rattle.std.proofs.lemmas.List.{take_at, take-append-le, get_or_append_left}
use Rattle.std.proofs.Math.Seq.{get_or-append_seam}
use Rattle.graph_core.specs.declared.graph.Kind.{Kind}
use Rattle.graph_core.specs.declared.graph.Kind.TheVariants.{Undirected, Directed}
use Rattle.graph_text.specs.declared.refusal.Why.TheVariants.{NoEnd}
use Rattle.graph_text.specs.Numbers.{value, is_number, arc_cost}
use Rattle.graph_text.specs.Said.{Said, Skipped, Header, Node, Edge, Arc, End, Other}
use Rattle.graph_text.specs.Before.{Ends, Content, content_of, headers_on, nodes_on, numbers_on, ends_on, cost_of, is_known}
use Rattle.graph_text.specs.Cause.{cause, causes, holds, is_name, is_wrong}
use Rattle.graph_text.specs.Text.{said_at, cause_at, GoesOn, EndsAt}
use Rattle.graph_text.specs.Taken.{CanTake, CanAdd, CanJoin, CanPay, grown}
use Rattle.graph_text.proofs.DraftLemmas.{is_name-Decides}

-- ---- more lines behind

cause_at-more : (front back : List Said) (at : ℕ) → at < length front → cause_at (front ++ back) at ≡ cause_at front at
cause_at-more front back at within = λ i. cause (content_of (take-append-le at front back (omega (arith, within)) i)) (get_or_append_left front back Skipped at within i)

pub GoesOn-more : (front back : List Said) (at : ℕ) → at < length front → GoesOn front at → GoesOn (front ++ back) at
GoesOn-more front back at within goes_on = record {
  sound = cause_at-more front back at within ∙ goes_on.sound;
  unended = λ e. goes_on.unended (sym (get_or_append_left front back Skipped at within) ∙ e);
}

pub EndsAt-more : (front back : List Said) (last : ℕ) → EndsAt front last → EndsAt (front ++ back) last
EndsAt-more front back last ends =
    let many = ends.within in
    record {
      within = omega (arith, many, length-append front back);
      before = λ at l. GoesOn-more front back at (omega (arith, l, many)) (ends.before at l);
      sound = cause_at-more front back last many ∙ ends.sound;
      ended = get_or_append_left front back Skipped last many ∙ ends.ended;
    }

-- ---- a line between what stands before it and behind it

pub said_split : (front back : List Said) (said : Said) → said_at (front ++ said ∷ back) (length front) ≡ said
said_split front back said = get_or-append_seam front said back Skipped

pub cause_split : (front back : List Said) (said : Said) → cause_at (front ++ said ∷ back) (length front) ≡ cause (content_of front) said
cause_split front back said = λ i. cause (content_of (take_at front (said ∷ back) (length front) refl i)) (said_split front back said i)

-- a line goes on where no cause holds of it behind these lines
pub goes_on : (all front back : List Said) (said : Said) (at : ℕ) → all ≡ front ++ said ∷ back → at ≡ length front → cause (content_of front) said ≡ None → (said ≡ End → ⊥) → GoesOn all at
goes_on all front back said at split place none unended =
    let P : List Said → Type 0 = λ l. GoesOn l at in
    let Q : ℕ → Type 0 = λ n. GoesOn (front ++ said ∷ back) n in
    let here : GoesOn (front ++ said ∷ back) (length front) = record { sound = cause_split front back said ∙ none; unended = λ e. unended (sym (said_split front back said) ∙ e) } in
    subst P (sym split) (subst Q (sym place) here)

-- ---- what no cause says

find_none : {X : Type 0} (test : X → Bool) (xs : List X) → find test xs ≡ None → All (λ x. test x ≡ false) xs
find_none test [] none k d within = absurd (omega (arith, within))
find_none test (x ∷ xs) none k d within = by (test x) refl (λ e. find_none test xs (sym (cond-false (test x) (Some x) (find test xs) e) ∙ none)) k within
  where
    by : (b : Bool) → test x ≡ b → (test x ≡ false → All (λ y. test y ≡ false) xs) → (k : ℕ) → k < length (x ∷ xs) → test (get_or (x ∷ xs) k d) ≡ false
    by true e rest k within = let hit = cond-true (test x) (Some x) (find test xs) e in cc
    by false e rest zero within = e
    by false e rest (suc k) within = rest e k d (omega (arith, within))

-- the cause at this place in their order doesn't hold
row : (content : Content) (said : Said) (k : ℕ) → k < 13 → cause content said ≡ None → holds content said (get_or causes k NoEnd) ≡ false
row content said k few none = find_none (holds content said) causes none k NoEnd few

or_left : (a b : Bool) → (a || b) ≡ false → a ≡ false
or_left true b e = e
or_left false b e = refl

or_right : (a b : Bool) → (a || b) ≡ false → b ≡ false
or_right true b e = absurd (true≢false e)
or_right false b e = e

has_both : (has : List ℕ → Bool) (tail head : List ℕ) → (not (has tail) || not (has head)) ≡ false → (has tail ≡ true) × (has head ≡ true)
has_both has tail head e = (not-false (has tail) (or_left (not (has tail)) (not (has head)) e), not-false (has head) (or_right (not (has tail)) (not (has head)) e))

CanAdd-node : (content : Content) (name number : List ℕ) → cause content (Node name number) ≡ None → CanAdd content name number
CanAdd-node content name number none = record {
  room = leb-false 128 (length content.names) (or_left (nat_le 128 (length content.names)) false (row content (Node name number) 8 (lit< tt) none));
  named = (is_name-Decides name).0 (not-false (is_name name) (or_left (not (is_name name)) false (or_left (not (is_name name) || false) false (row content (Node name number) 3 (lit< tt) none))));
  fresh = or_left (is_known content name) false (row content (Node name number) 5 (lit< tt) none);
  is_number = not-false (is_number 8192 number) (or_left (not (is_number 8192 number)) false (or_left (not (is_number 8192 number) || false) false (row content (Node name number) 4 (lit< tt) none)));
  total = ltb-false 65536 (sum content.numbers + value number) (or_left (nat_lt 65536 (sum content.numbers + value number)) false (row content (Node name number) 10 (lit< tt) none));
}

CanJoin-edge : (content : Content) (tail head : List ℕ) → cause content (Edge tail head) ≡ None → CanJoin content tail head
CanJoin-edge content tail head none =
    let known = has_both (is_known content) tail head (or_left (not (is_known content tail) || not (is_known content head)) false (row content (Edge tail head) 6 (lit< tt) none)) in
    record {
      room = leb-false 2048 (length content.ends) (or_left (nat_le 2048 (length content.ends)) false (row content (Edge tail head) 9 (lit< tt) none));
      tail_known = known.0;
      head_known = known.1;
      apart = or_left (bytes_eq tail head) false (row content (Edge tail head) 7 (lit< tt) none);
    }

CanJoin-arc : (content : Content) (tail head : List ℕ) (fixed : Bool) (cost : List ℕ) → cause content (Arc tail head fixed cost) ≡ None → CanJoin content tail head
CanJoin-arc content tail head fixed cost none =
    let known = has_both (is_known content) tail head (or_left (not (is_known content tail) || not (is_known content head)) false (row content (Arc tail head fixed cost) 6 (lit< tt) none)) in
    record {
      room = leb-false 2048 (length content.ends) (or_left (nat_le 2048 (length content.ends)) false (row content (Arc tail head fixed cost) 9 (lit< tt) none));
      tail_known = known.0;
      head_known = known.1;
      apart = or_left (bytes_eq tail head) false (row content (Arc tail head fixed cost) 7 (lit< tt) none);
    }

some_kind : (kind : Option Kind) → not (is_some kind) ≡ false → is_some kind ≡ true
some_kind kind e = not-false (is_some kind) e

no_kind : (kind : Option Kind) → is_some kind ≡ false → kind ≡ None
no_kind None e = refl
no_kind (Some kind) e = absurd (true≢false e)

undirected : (kind : Option Kind) (tail head : List ℕ) → is_some kind ≡ true → is_wrong kind (Edge tail head) ≡ false → kind ≡ Some Undirected
undirected None tail head some e = absurd (true≢false (sym some))
undirected (Some Undirected) tail head some e = refl
undirected (Some Directed) tail head some e = absurd (true≢false e)

directed : (kind : Option Kind) (tail head : List ℕ) (fixed : Bool) (cost : List ℕ) → is_some kind ≡ true → is_wrong kind (Arc tail head fixed cost) ≡ false → kind ≡ Some Directed
directed None tail head fixed cost some e = absurd (true≢false (sym some))
directed (Some Undirected) tail head fixed cost some e = absurd (true≢false e)
directed (Some Directed) tail head fixed cost some e = refl

CanPay-arc : (content : Content) (tail head : List ℕ) (fixed : Bool) (cost : List ℕ) → cause content (Arc tail head fixed cost) ≡ None → CanPay content fixed cost
CanPay-arc content tail head fixed cost none =
    let said = Arc tail head fixed cost in
    record {
      kind = directed content.kind tail head fixed cost (some_kind content.kind (row content said 0 (lit< tt) none)) (row content said 2 (lit< tt) none);
      is_number = not-false (is_number 100 cost) (or_left (not (is_number 100 cost)) false (row content said 4 (lit< tt) none));
      total = ltb-false 4000 (cost_of content.ends + arc_cost fixed cost) (or_left (nat_lt 4000 (cost_of content.ends + arc_cost fixed cost)) false (row content said 11 (lit< tt) none));
    }

-- a line without a fault can be taken
pub CanTake-None : (content : Content) (said : Said) → cause content said ≡ None → CanTake content said
CanTake-None content Skipped none = tt
CanTake-None content (Header kind) none = no_kind content.kind (row content (Header kind) 1 (lit< tt) none)
CanTake-None content (Node name number) none = CanAdd-node content name number none
CanTake-None content (Edge tail head) none = (CanJoin-edge content tail head none, undirected content.kind tail head (some_kind content.kind (row content (Edge tail head) 0 (lit< tt) none)) (row content (Edge tail head) 2 (lit< tt) none))
CanTake-None content (Arc tail head fixed cost) none = (CanJoin-arc content tail head fixed cost none, CanPay-arc content tail head fixed cost none)
CanTake-None content End none = tt
CanTake-None content Other none = tt

-- ---- one line more

no_first : (kinds : List Kind) → slice_get kinds 0 ≡ None → kinds ≡ []
no_first [] e = refl
no_first (kind ∷ kinds) e = cc

same : {X : Type 0} (f : Said → List X) (lines : List Said) (said : Said) → f said ≡ [] → flat_map f (lines ++ said ∷ []) ≡ flat_map f lines
same f lines said none = flat_map-append f lines (said ∷ []) ∙ ap (λ l. flat_map f lines ++ (l ++ [])) none ∙ append-nil (flat_map f lines)

more : {X : Type 0} (f : Said → List X) (lines : List Said) (said : Said) (x : X) → f said ≡ x ∷ [] → flat_map f (lines ++ said ∷ []) ≡ flat_map f lines ++ x ∷ []
more f lines said x one = flat_map-append f lines (said ∷ []) ∙ ap (λ l. flat_map f lines ++ (l ++ [])) one

pub content_of-push : (lines : List Said) (said : Said) → CanTake (content_of lines) said → content_of (lines ++ said ∷ []) ≡ grown (content_of lines) said
content_of-push lines Skipped can = λ i. record { kind = slice_get (same headers_on lines Skipped refl i) 0; names = same nodes_on lines Skipped refl i; numbers = same numbers_on lines Skipped refl i; ends = same ends_on lines Skipped refl i }
content_of-push lines (Header kind) can =
    let first : slice_get (flat_map headers_on (lines ++ Header kind ∷ [])) 0 ≡ Some kind = ap (λ l. slice_get l 0) (more headers_on lines (Header kind) kind refl ∙ ap (λ l. l ++ kind ∷ []) (no_first (flat_map headers_on lines) can)) in
    λ i. record { kind = first i; names = same nodes_on lines (Header kind) refl i; numbers = same numbers_on lines (Header kind) refl i; ends = same ends_on lines (Header kind) refl i }
content_of-push lines (Node name number) can =
    let said = Node name number in
    λ i. record { kind = slice_get (same headers_on lines said refl i) 0; names = more nodes_on lines said name refl i; numbers = more numbers_on lines said (value number) refl i; ends = same ends_on lines said refl i }
content_of-push lines (Edge tail head) can =
    let said = Edge tail head in
    λ i. record { kind = slice_get (same headers_on lines said refl i) 0; names = same nodes_on lines said refl i; numbers = same numbers_on lines said refl i; ends = more ends_on lines said (record { tail = tail; head = head; fixed = false; cost = 1 }) refl i }
content_of-push lines (Arc tail head fixed cost) can =
    let said = Arc tail head fixed cost in
    let ends : Ends = record { tail = tail; head = head; fixed = fixed; cost = arc_cost fixed cost } in
    λ i. record { kind = slice_get (same headers_on lines said refl i) 0; names = same nodes_on lines said refl i; numbers = same numbers_on lines said refl i; ends = more ends_on lines said ends refl i }
content_of-push lines End can = λ i. record { kind = slice_get (same headers_on lines End refl i) 0; names = same nodes_on lines End refl i; numbers = same numbers_on lines End refl i; ends = same ends_on lines End refl i }
content_of-push lines Other can = λ i. record { kind = slice_get (same headers_on lines Other refl i) 0; names = same nodes_on lines Other refl i; numbers = same numbers_on lines Other refl i; ends = same ends_on lines Other refl i }
