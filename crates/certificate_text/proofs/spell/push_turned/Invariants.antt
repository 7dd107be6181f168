use Rattle.std.proofs.Common.{◌≡◌, ◌++◌, take}
use Rattle.certificate_text.specs.Lines.{turned_lines}
use Rattle.certificate_text.specs.Text.{spelling}
use Rattle.certificate_text.proofs.spell.push_turned.Given as goal

abbrev pub invariant-loop-j : goal.invariant-loop-j
invariant-loop-j l = l.text.items ≡ l.fn.text.items ++ spelling l.graph (turned_lines (take l.j l.graph.lines) (take l.j l.heads))
