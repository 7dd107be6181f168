use Rattle.std.proofs.Common.{◌<◌, length, sym, ap, subst, ◌∙◌, arith}
use Rattle.std.specs.Prelude.{Some, None, slice_set}
use Rattle.std.proofs.lemmas.List.{length-set}
use Rattle.std.proofs.lemmas.Option.{get_or_from_slice_get}
use Rattle.dicut_lattice.specs.Tight.{TightValue}
use Rattle.lucchesi_younger.specs.Marks.{AreMarks}
use Rattle.lucchesi_younger.specs.Rows.{AreAllowed, AreRows}
use Rattle.lucchesi_younger.proofs.RowLaws.{kernel-allowed, rows-put, some-row}
use Rattle.lucchesi_younger.proofs.held.Held.look_from.Goals as goal

pub invariant_of-self-then-is_none-clause-marks : goal.invariant_of-self-then-is_none-clause-marks
invariant_of-self-then-is_none-clause-marks c =
    let h = c.args.self.now in
    subst (λ (t : TightValue). AreMarks (length t.graph.lines) t.join h.taken) (sym c.kernel.ensures.same) h.marks

pub invariant_of-self-then-is_none-clause-found_long : goal.invariant_of-self-then-is_none-clause-found_long
invariant_of-self-then-is_none-clause-found_long c = c.kernel.ensures.kernel.long ∙ ap (λ (t : TightValue). length t.graph.names) (sym c.kernel.ensures.same)

pub invariant_of-self-then-is_none-clause-rows_long : goal.invariant_of-self-then-is_none-clause-rows_long
invariant_of-self-then-is_none-clause-rows_long c =
    let h = c.args.self.now in
    length-set h.rows c.args.node (Some c.in_ok-kernel.kernel) ∙ h.rows_long ∙ ap (λ (t : TightValue). length t.graph.names) (sym c.kernel.ensures.same)

pub invariant_of-self-then-is_none-clause-each : goal.invariant_of-self-then-is_none-clause-each
invariant_of-self-then-is_none-clause-each c =
    let h = c.args.self.now in
    let t = h.kernels in
    let v = c.args.node in
    let K = c.in_ok-kernel.kernel in
    let long = h.rows_long in
    let below : v < length h.rows = omega (arith, c.requires) in
    let allowed = subst (λ X. AreAllowed t.graph t.join v X) (sym c.in_ok-kernel.ensures) (kernel-allowed t.graph t.join v c.kernel.new.into c.kernel.ensures.kernel) in
    subst (λ (x : TightValue). AreRows x.graph x.join (slice_set h.rows v (Some K))) (sym c.kernel.ensures.same) (rows-put t.graph t.join h.rows v K below h.each allowed)

pub returns-else-is_none-clause-row : goal.returns-else-is_none-clause-row
returns-else-is_none-clause-row c =
    let rows = c.args.self.now.rows in
    let (K, is) = some-row c.item.result.now c.is_none.result c.is_none.ensures c.if-is_none.false in
    (K, get_or_from_slice_get rows c.args.node c.item.result.now None c.item.ensures ∙ is)
