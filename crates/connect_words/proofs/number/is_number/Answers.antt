use Rattle.std.proofs.Common.{arith}
use Rattle.connect_words.proofs.NumberLemmas.{tests_number}
use Rattle.connect_words.proofs.number.is_number.Goals as goal

pub returns-then-low-number : goal.returns-then-low-number
returns-then-low-number c =
    let known = c.in-Some.ensures in
    tests_number c.args.low c.args.high c.in-Some.number c.args.word.now _ (omega (arith, c.ranges.high)) known.within known.found (λ t. grind arith) (λ h. grind arith)

pub returns-else-low-number : goal.returns-else-low-number
returns-else-low-number c =
    let known = c.in-Some.ensures in
    tests_number c.args.low c.args.high c.in-Some.number c.args.word.now _ (omega (arith, c.ranges.high)) known.within known.found (λ t. grind arith) (λ h. grind arith)
