-- What a line of a graph text says.
use Rattle.std.specs.Prelude.{ℕ, Bool, true, false, List, [], ◌∷◌, ◌&&◌, ◌==◌, if◌then◌else◌, codes}
use Rattle.std.specs.Str.{bytes_eq}
use Rattle.graph_core.specs.declared.graph.Kind.{Kind}
use Rattle.graph_core.specs.declared.graph.Kind.TheVariants.{Undirected, Directed}
use Rattle.graph_text.specs.Lines.{content, words}

-- A number and a cost are kept as their words. A node without a number has 0, an arc without a cost has 1.
pub data Said : Type 0 where
  Skipped : Said
  Header : (kind : Kind) → Said
  Node : (name number : List ℕ) → Said
  Edge : (tail head : List ℕ) → Said
  Arc : (tail head : List ℕ) (fixed : Bool) (cost : List ℕ) → Said
  End : Said
  Other : Said

-- whether the word begins with #
abbrev pub is_comment : List ℕ → Bool
is_comment [] = false
is_comment (byte ∷ bytes) = byte == 35

-- what a line of so many words says, whose first word begins no comment
abbrev pub says_one : List ℕ → Said
says_one keyword = if bytes_eq keyword (codes "end") then End else Other

abbrev pub says_two : List ℕ → List ℕ → Said
says_two keyword word =
    if bytes_eq keyword (codes "node") then Node word (codes "0")
    else if bytes_eq keyword (codes "graph") && bytes_eq word (codes "undirected") then Header Undirected
    else if bytes_eq keyword (codes "graph") && bytes_eq word (codes "directed") then Header Directed
    else Other

abbrev pub says_three : List ℕ → List ℕ → List ℕ → Said
says_three keyword first second =
    if bytes_eq keyword (codes "node") then Node first second
    else if bytes_eq keyword (codes "edge") then Edge first second
    else if bytes_eq keyword (codes "arc") then Arc first second false (codes "1")
    else Other

abbrev pub says_four : List ℕ → List ℕ → List ℕ → List ℕ → Said
says_four keyword tail head last = if bytes_eq keyword (codes "arc") && bytes_eq last (codes "fixed") then Arc tail head true (codes "1") else Other

abbrev pub says_five : List ℕ → List ℕ → List ℕ → List ℕ → List ℕ → Said
says_five keyword tail head fourth cost = if bytes_eq keyword (codes "arc") && bytes_eq fourth (codes "cost") then Arc tail head false cost else Other

abbrev pub says : List (List ℕ) → Said
says [] = Skipped
says (a ∷ []) = if is_comment a then Skipped else says_one a
says (a ∷ b ∷ []) = if is_comment a then Skipped else says_two a b
says (a ∷ b ∷ c ∷ []) = if is_comment a then Skipped else says_three a b c
says (a ∷ b ∷ c ∷ d ∷ []) = if is_comment a then Skipped else says_four a b c d
says (a ∷ b ∷ c ∷ d ∷ e ∷ []) = if is_comment a then Skipped else says_five a b c d e
says (a ∷ b ∷ c ∷ d ∷ e ∷ f ∷ more) = if is_comment a then Skipped else Other

-- what a line says
abbrev pub line_says : List ℕ → Said
line_says line = says (words (content line))
