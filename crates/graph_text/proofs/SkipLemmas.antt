-- The lines behind a text.
use Rattle.std.proofs.Common.{◌≡◌, ℕ, ◌+◌, ◌<◌, ◌≤◌, List, [], ◌∷◌, ◌++◌, length, map, refl, sym, ap, subst, ◌∙◌, append_assoc, append-nil, length-append, arith}
use Rattle.std.proofs.lemmas.List.{get_or_append_left}
use Rattle.std.proofs.lemmas.List.Elements.{All-append, All-cons, All-nil}
use Rattle.graph_text.specs.Lines.{lines}
use Rattle.graph_text.specs.Said.{Said, Skipped, line_says}
use Rattle.graph_text.specs.Text.{sayings, said_at}
use Rattle.graph_text.specs.Reading.{AllSkipped, IsFirstSaid}
use Rattle.graph_text.proofs.CutLemmas.{lines-empty}
use Rattle.graph_text.proofs.TextLemmas.{said_split}

-- Skipped lines, so many, stand before the rest.
pub record Skipping (bytes rest : List ℕ) (line : ℕ) : Type 0 where
  pub front : List Said
  pub all : sayings bytes ≡ front ++ sayings rest
  pub line_is : line ≡ length front
  pub skipped : AllSkipped front
  pub few : line + length rest ≤ length bytes

pub skipping_first : (bytes : List ℕ) → Skipping bytes bytes 0
skipping_first bytes = record { front = []; all = refl; line_is = refl; skipped = All-nil (λ said. said ≡ Skipped); few = omega arith }

sayings-first : (rest first after : List ℕ) → lines rest ≡ first ∷ lines after → sayings rest ≡ line_says first ∷ sayings after
sayings-first rest first after begin = ap (map line_says) begin

-- a line that isn't skipped is the first
pub found_next : (bytes rest first after : List ℕ) (line : ℕ) → Skipping bytes rest line → lines rest ≡ first ∷ lines after → (line_says first ≡ Skipped → ⊥) → IsFirstSaid (sayings bytes) line
found_next bytes rest first after line skipping begin other =
    let front = skipping.front in
    let said = line_says first in
    let back = sayings after in
    let all : sayings bytes ≡ front ++ said ∷ back = skipping.all ∙ ap (λ l. front ++ l) (sayings-first rest first after begin) in
    let many : length (sayings bytes) ≡ length front + length (said ∷ back) = ap length all ∙ length-append front (said ∷ back) in
    record {
      within = omega (arith, many, skipping.line_is);
      before = λ k l. let inside : k < length front = omega (arith, l, skipping.line_is) in ap (λ l. said_at l k) all ∙ get_or_append_left front (said ∷ back) Skipped k inside ∙ skipping.skipped k Skipped inside;
      here = λ e. other (sym ((λ i. said_at (all i) (skipping.line_is i)) ∙ said_split front back said) ∙ e);
    }

pub skipping_next : (bytes rest first after : List ℕ) (line : ℕ) → Skipping bytes rest line → lines rest ≡ first ∷ lines after → length after < length rest → line_says first ≡ Skipped → Skipping bytes after (line + 1)
skipping_next bytes rest first after line skipping begin shorter skipped = record {
  front = skipping.front ++ line_says first ∷ [];
  all = skipping.all ∙ ap (λ l. skipping.front ++ l) (sayings-first rest first after begin) ∙ sym (append_assoc skipping.front (line_says first ∷ []) (sayings after));
  line_is = omega (arith, skipping.line_is, length-append skipping.front (line_says first ∷ []));
  skipped = All-append (λ said. said ≡ Skipped) skipping.front (line_says first ∷ []) skipping.skipped (All-cons (λ said. said ≡ Skipped) (line_says first) [] skipped (All-nil (λ said. said ≡ Skipped)));
  few = omega (arith, shorter, skipping.few);
}

pub skipped_end : (bytes rest : List ℕ) (line : ℕ) → Skipping bytes rest line → length rest ≡ 0 → AllSkipped (sayings bytes)
skipped_end bytes rest line skipping empty =
    let all : sayings bytes ≡ skipping.front = skipping.all ∙ ap (λ l. skipping.front ++ map line_says l) (lines-empty rest empty) ∙ append-nil skipping.front in
    subst AllSkipped (sym all) skipping.skipped
