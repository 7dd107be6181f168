-- What holds of a graph that is being read, as it grows and at its end.
use Rattle.std.proofs.Common.{◌≡◌, ◌≢◌, ℕ, ◌+◌, ◌<◌, ◌≤◌, Bool, true, false, List, [], ◌∷◌, ◌++◌, length, get_or, refl, sym, ap, ◌∙◌, inl, inr, map, position, nat_le, ◌&&◌, Some, All, true≢false, length-append, arith}
use Rattle.std.specs.Bool.{Decides}
use Rattle.std.specs.declared.option.Option.{Option}
use Rattle.std.specs.List.{list_any, sum, sum_by}
use Rattle.std.specs.Str.{bytes_eq}
use Rattle.std.proofs.lemmas.Bool.{cases_lt, and_parts, leb-true, le-leb}
use Rattle.std.proofs.lemmas.List.{length-map}
use Rattle.std.proofs.lemmas.List.Elements.{All-append, All-cons, All-nil}
use Rattle.std.proofs.lemmas.List.Folds.{list_any_at}
use Rattle.std.proofs.lemmas.List.Sums.{AllPass-from_list_all, list_all-from_AllPass, sum_by-append}
use Rattle.std.proofs.lemmas.List.Quantifiers.{position-Some, all_pairs_push}
use Rattle.std.proofs.lemmas.Slice.Eq.{bytes_eq-Decides}
use Rattle.graph_core.specs.Name.{IsName, is_name_byte}
use Rattle.graph_core.specs.Graph.{Fits}
use Rattle.graph_core.proofs.Counting.{sum_by-ones}
use Rattle.graph_core.proofs.FamilyLaws.{sum_by-map}
use Rattle.graph_core.specs.declared.graph.Kind.{Kind}
use Rattle.graph_core.specs.declared.graph.Kind.TheVariants.{Undirected, Directed}
use Rattle.graph_core.specs.declared.graph.Line.{Line}
use Rattle.graph_text.specs.Before.{cost_of}
use Rattle.graph_text.specs.Text.{ends_in}
use Rattle.graph_text.specs.Cause.{is_name}
use Rattle.graph_text.specs.DraftView.{AreParts, MayCost}
use Rattle.graph_text.proofs.NamesLemmas.{name_at}

-- the test of a name
pub is_name-Decides : (word : List ℕ) → Decides (is_name word) (IsName word)
is_name-Decides word = (
  λ e.
      let (some, rest) = and_parts (nat_le 1 (length word)) _ e in
      let (short, allowed) = and_parts (nat_le (length word) 32) _ rest in
      record {
        some = leb-true 1 (length word) some;
        short = leb-true (length word) 32 short;
        allowed = AllPass-from_list_all is_name_byte word allowed;
      },
  λ name. λ i. le-leb 1 (length word) name.some i && (le-leb (length word) 32 name.short i && list_all-from_AllPass is_name_byte word name.allowed i),
)

-- a test that finds nothing fails everywhere
pub none_passes : {X : Type 0} (p : X → Bool) (xs : List X) → list_any p xs ≡ false → All (λ x. p x ≡ false) xs
none_passes p xs none k d within = by (p (get_or xs k d)) refl
  where
    by : (b : Bool) → p (get_or xs k d) ≡ b → p (get_or xs k d) ≡ false
    by true e = absurd (true≢false (sym (list_any_at p xs k d within e) ∙ none))
    by false e = e

All-push : {X : Type 0} (P : X → Type 0) (xs : List X) (x : X) → All P xs → P x → All P (xs ++ x ∷ [])
All-push P xs x each last = All-append P xs (x ∷ []) each (All-cons P x [] last (All-nil P))

pub sum_by-push : {X : Type 0} (f : X → ℕ) (xs : List X) (x : X) → sum_by f (xs ++ x ∷ []) ≡ sum_by f xs + f x
sum_by-push f xs x = omega (arith, sum_by-append f xs (x ∷ []))

pub sum-push : (xs : List ℕ) (x : ℕ) → sum (xs ++ x ∷ []) ≡ sum xs + x
sum-push xs x = sum_by-push (λ y. y) xs x

-- one node more
pub AreParts-name : (kind : Option Kind) (names : List (List ℕ)) (numbers : List ℕ) (lines : List Line) (name : List ℕ) (number : ℕ) → AreParts kind names numbers lines → length names < 128 → IsName name → list_any (bytes_eq name) names ≡ false
    → number ≤ 8192 → sum numbers + number ≤ 65536 → AreParts kind (names ++ name ∷ []) (numbers ++ number ∷ []) lines
AreParts-name kind names numbers lines name number parts room named fresh most total =
    let more : length (names ++ name ∷ []) ≡ length names + 1 = length-append names (name ∷ []) in
    record {
      few = omega (arith, more, room);
      named = All-push IsName names name parts.named named;
      distinct = all_pairs_push (λ a b. a ≢ b) names name parts.distinct (λ k d within same. true≢false (sym ((bytes_eq-Decides name (get_or names k d)).1 (sym same)) ∙ none_passes (bytes_eq name) names fresh k d within));
      numbered = record {
        long = omega (arith, more, length-append numbers (number ∷ []), parts.numbered.long);
        most = All-push (λ x. x ≤ 8192) numbers number parts.numbered.most most;
        total = omega (arith, sum-push numbers number, total);
      };
      within = λ k d within. let fits = parts.within k d within in record { tail = omega (arith, more, fits.tail); head = omega (arith, more, fits.head); apart = fits.apart };
      few_lines = parts.few_lines;
      priced = parts.priced;
      total = parts.total;
    }

-- an edge costs 1
one_cost : (kind : Option Kind) (fixed : Bool) (cost : ℕ) → MayCost kind fixed cost → kind ≡ Some Undirected → cost ≡ 1
one_cost kind fixed cost may undirected =
    elim (cases_lt cost 1) [
      | inl l ↦ absurd (undirected_apart (sym undirected ∙ may.other (λ e. absurd (omega (arith, l, e)))))
      | inr m ↦ elim (cases_lt 1 cost) [ inl l ↦ absurd (undirected_apart (sym undirected ∙ may.other (λ e. absurd (omega (arith, l, e))))) | inr n ↦ omega (arith, m, n) ]
    ]
  where
    undirected_apart : Some Undirected ≡ Some Directed → ⊥
    undirected_apart e = cc

-- one line more
pub AreParts-line : (kind : Option Kind) (names : List (List ℕ)) (numbers : List ℕ) (lines : List Line) (line : Line) → AreParts kind names numbers lines → length lines < 2048 → Fits (length names) line → MayCost kind line.fixed line.cost
    → sum_by (λ l. l.cost) lines + line.cost ≤ 4000 → AreParts kind names numbers (lines ++ line ∷ [])
AreParts-line kind names numbers lines line parts room fits priced total = record {
  few = parts.few;
  named = parts.named;
  distinct = parts.distinct;
  numbered = parts.numbered;
  within = All-push (Fits (length names)) lines line parts.within fits;
  few_lines = omega (arith, length-append lines (line ∷ []), room);
  priced = All-push (λ l. MayCost kind l.fixed l.cost) lines line parts.priced priced;
  total = omega (arith, sum_by-push (λ l. l.cost) lines line, total);
}

-- edges cost as many as they are
pub edges-cost : (kind : Option Kind) (names : List (List ℕ)) (numbers : List ℕ) (lines : List Line) → AreParts kind names numbers lines → kind ≡ Some Undirected → cost_of (map (ends_in names) lines) ≡ length (map (ends_in names) lines)
edges-cost kind names numbers lines parts undirected =
    sum_by-map (λ ends. ends.cost) (ends_in names) lines
    ∙ sum_by-ones (λ line. line.cost) lines (λ k d within. one_cost kind (get_or lines k d).fixed (get_or lines k d).cost (parts.priced k d within) undirected)
    ∙ sym (length-map lines (ends_in names))

-- a line between two names where they were found
pub Fits-found : (names : List (List ℕ)) (a b : List ℕ) (line : Line) → position (bytes_eq a) names ≡ Some line.tail → position (bytes_eq b) names ≡ Some line.head → bytes_eq a b ≡ false → Fits (length names) line
Fits-found names a b line tail head apart = record {
  tail = (position-Some (bytes_eq a) names line.tail [] tail).0;
  head = (position-Some (bytes_eq b) names line.head [] head).0;
  apart = λ same.
      let equal : a ≡ b = sym (name_at names a line.tail tail) ∙ ap (λ i. get_or names i []) same ∙ name_at names b line.head head in
      true≢false (sym ((bytes_eq-Decides a b).1 equal) ∙ apart);
}
