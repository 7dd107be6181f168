use Rattle.std.proofs.Common.{◌≤◌, ◌∙◌, sym, arith}
use Rattle.std.proofs.lemmas.Bool.{leb-true, le-leb}
use Rattle.graph_core.proofs.FamilyLaws.{size-nonempty}
use Rattle.certificate_checker.proofs.SideCounts.{some-in}
use Rattle.certificate_checker.proofs.arborescences.is_dual.Goals as goal

pub returns-then-not-has : goal.returns-then-not-has
returns-then-not-has c =
    let size = c.count.ensures in (
      λ is.
          let one : 1 ≤ c.count.result = leb-true 1 c.count.result is in
          record { nonempty = record { long = c.requires.side; some_in = some-in c.args.side.now (omega arith) }; misses = sym c.has.ensures ∙ c.if-not-has.true },
      λ dual. let one = size-nonempty c.args.side.now dual.nonempty.some_in in le-leb 1 c.count.result (omega arith),
    )
