use Rattle.std.proofs.Common.{sym, ap, ◌∙◌, arith}
use Rattle.std.proofs.lemmas.Bool.{le-leb, lt-leb}
use Rattle.graph_text.specs.Numbers.{value}
use Rattle.graph_text.proofs.NumberLemmas.{value-decimal, is_number-of, is_number-none}
use Rattle.graph_text.proofs.number.number_to.Goals as goal

pub returns-then-number-most-clause-is : goal.returns-then-number-most-clause-is
returns-then-number-most-clause-is c = sym (is_number-of c.args.most c.in-Some.number c.args.word.now c.in-Some.ensures.0 c.in-Some.ensures.1 ∙ le-leb c.in-Some.number c.args.most c.if-number-most.true)

pub returns-then-number-most-clause-value : goal.returns-then-number-most-clause-value
returns-then-number-most-clause-value c = sym (ap value (sym c.in-Some.ensures.1) ∙ value-decimal c.in-Some.number c.in-Some.ensures.0)

pub returns-else-number-most-clause-is : goal.returns-else-number-most-clause-is
returns-else-number-most-clause-is c = sym (is_number-of c.args.most c.in-Some.number c.args.word.now c.in-Some.ensures.0 c.in-Some.ensures.1 ∙ lt-leb c.in-Some.number c.args.most (omega (arith, c.if-number-most.false)))

pub returns-in-None-clause-is : goal.returns-in-None-clause-is
returns-in-None-clause-is c = sym (is_number-none c.args.most c.args.word.now (omega (arith, c.ranges.most)) c.in-None.ensures)
