use Rattle.std.proofs.Common.{length, sym, subst}
use Rattle.dicut_lattice.specs.Tight.{TightValue}
use Rattle.lucchesi_younger.specs.Marks.{AreMarks}
use Rattle.lucchesi_younger.specs.Rows.{AreRows}
use Rattle.lucchesi_younger.proofs.RowLaws.{blank-rows}
use Rattle.lucchesi_younger.proofs.held.Held.new.Goals as goal

pub invariant_of-result-clause-marks : goal.invariant_of-result-clause-marks
invariant_of-result-clause-marks c =
    subst (λ (t : TightValue). AreMarks (length t.graph.lines) t.join c.in_ok-taken.taken) (sym c.in_ok-kernels.ensures)
    (subst (λ m. AreMarks m c.args.join.now c.in_ok-taken.taken) c.line_count.ensures.count c.in_ok-taken.ensures)

pub invariant_of-result-clause-each : goal.invariant_of-result-clause-each
invariant_of-result-clause-each c =
    let k = c.in_ok-kernels.kernels in
    subst (λ rows. AreRows k.graph k.join rows) (sym c.in_ok-rows.ensures) (blank-rows k.graph k.join c.node_count-n.result)
