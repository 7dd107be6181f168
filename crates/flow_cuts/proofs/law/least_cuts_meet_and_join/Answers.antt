use Rattle.flow_cuts.proofs.CutLattice.{least_cuts-closed}
use Rattle.flow_cuts.proofs.law.least_cuts_meet_and_join.Goals as goal

pub returns : goal.returns
returns g c = least_cuts-closed (g.F.CutFn.nodes c.args.f.now) (g.F.CutFn.cut c.args.f.now) (g.met.F.CutFn.submodular c.args.f.now)
