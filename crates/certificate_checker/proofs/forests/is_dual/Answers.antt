use Rattle.std.proofs.Common.{◌≤◌, ◌∙◌, sym, arith}
use Rattle.std.proofs.lemmas.Bool.{leb-true, le-leb}
use Rattle.certificate_checker.proofs.SideCounts.{some-in}
use Rattle.certificate_checker.proofs.forests.is_dual.Goals as goal

pub returns-then-len-node_count : goal.returns-then-len-node_count
returns-then-len-node_count c =
    let size = c.count.ensures in (
      λ is.
          let two : 2 ≤ c.count.result = leb-true 2 c.count.result is in
          (record { long = sym c.len.ensures ∙ c.if-len-node_count.true ∙ c.node_count.ensures; some_in = some-in c.args.side.now (omega arith) }, omega arith),
      λ dual. let two = dual.1 in le-leb 2 c.count.result (omega arith),
    )
