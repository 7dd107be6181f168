use Rattle.std.proofs.Common.{◌≡◌, ◌∙◌, subst, length}
use Rattle.graph_core.specs.Picked.{picked}
use Rattle.dicut_lattice.specs.Spread.{IsCommon}
use Rattle.dicut_lattice.specs.Tight.{TightValue, IsKernel}
use Rattle.dicut_lattice.proofs.Spreading.{common-kernel}
use Rattle.dicut_lattice.proofs.kernel.Kernels.kernel.Goals as goal

pub meet_spreads-requires-clause-fit : goal.meet_spreads-requires-clause-fit
meet_spreads-requires-clause-fit c = rw (c.deref.ensures.value, c.self.invariant.reach_is) c.self.invariant.fits

pub returns-clause-kernel : goal.returns-clause-kernel
returns-clause-kernel c =
    let g = c.self.inside.graph.now in
    let B = c.self.inside.join.now in
    let arcs : c.deref.result.now ≡ picked g.lines B = c.deref.ensures.value ∙ c.self.invariant.arcs_are in
    let common : IsCommon g (picked g.lines B) (length (picked g.lines B)) c.args.holds c.meet_spreads.new.into = rw (arcs, c.self.invariant.reach_is) at c.meet_spreads.ensures.common in
    subst (λ (t : TightValue). IsKernel t.graph t.join c.args.holds c.meet_spreads.new.into) c.self.view_is
    (common-kernel c.self.invariant.dijoin c.args.holds c.meet_spreads.new.into common)
