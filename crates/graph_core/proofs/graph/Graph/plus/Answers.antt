use Rattle.std.proofs.Common.{◌≡◌, ◌≤◌, ◌+◌, ◌++◌, ◌∙◌, sym, subst, length}
use Rattle.std.specs.Prelude.{All}
use Rattle.std.specs.Option.{unwrap_or}
use Rattle.graph_core.specs.Graph.{GraphValue, Fits, line_of, lines_of, no_numbers}
use Rattle.graph_core.proofs.GraphLaws.{IsGraph-with_lines}
use Rattle.graph_core.proofs.graph.Graph.plus.Goals as goal

pub invariant_of-result : goal.invariant_of-result
invariant_of-result c =
    let old : GraphValue = record { kind = c.self.inside.kind; names = c.self.inside.names.items; lines = c.self.inside.lines.items; numbers = unwrap_or c.self.inside.numbers (no_numbers (length c.self.inside.names.items)) } in
    let names : c.in_ok-names.names.items ≡ old.names = c.in_ok-names.ensures ∙ c.deref.ensures.value in
    let lines : c.in_ok-lines.lines.items ≡ old.lines ++ lines_of c.args.more.now = c.in_ok-lines.ensures ∙ (λ t. c.deref-2.ensures.value t ++ lines_of (c.as_slice.ensures t)) in
    let numbers : c.in_ok-numbers.numbers ≡ c.self.inside.numbers = c.in_ok-numbers.ensures in
    let fit = subst (λ (g : GraphValue). All (λ p. Fits (length g.names) (line_of p)) c.args.more.now) (sym c.self.view_is) c.requires.fit in
    let room = subst (λ (g : GraphValue). length g.lines + length c.args.more.now ≤ 65536) (sym c.self.view_is) c.requires.room in
    rw (names, lines, numbers) (IsGraph-with_lines old c.args.more.now c.self.invariant fit room)
