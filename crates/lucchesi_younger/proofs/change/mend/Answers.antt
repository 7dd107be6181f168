use Rattle.std.proofs.Common.{subst, ◌∙◌}
use Rattle.dicut_lattice.proofs.Absorbed.{pieces_exist}
use Rattle.lucchesi_younger.specs.Search.{IsForced}
use Rattle.lucchesi_younger.proofs.Exchanged.{exchanged-kept}
use Rattle.lucchesi_younger.proofs.Raised.{raised-kept}
use Rattle.lucchesi_younger.proofs.change.mend.Goals as goal

pub returns-in_ok-join-in-Way-clause-kept : goal.returns-in_ok-join-in-Way-clause-kept
returns-in_ok-join-in-Way-clause-kept c =
    let g = c.args.graph.now in
    let w = c.args.work.now in
    let way = subst (λ f. IsForced g w c.args.late c.args.line f) c.in-Way.is c.in_ok-forced.ensures.forced in
    exchanged-kept g w c.args.late c.args.line.tail c.args.line.head c.requires.kept c.requires.late c.in-Way.steps way _ c.in_ok-join-in-Way.ensures
    (λ L lev. pieces_exist g w.join L c.known.ensures c.requires.kept.join lev)

pub returns-in-Shut-clause-kept : goal.returns-in-Shut-clause-kept
returns-in-Shut-clause-kept c =
    let g = c.args.graph.now in
    let w = c.args.work.now in
    let a = subst (λ f. IsForced g w c.args.late c.args.line f) c.in-Shut.is c.in_ok-forced.ensures.forced in
    raised-kept g c.known.ensures.makes.ends w c.args.late c.args.line.tail c.args.line.head c.requires.kept c.requires.late c.in-Shut.side a.3 a.1 a.2 c.raise_inside.new.potential (c.raise_inside.ensures.long ∙ c.requires.kept.potential_long) c.raise_inside.ensures.raised
