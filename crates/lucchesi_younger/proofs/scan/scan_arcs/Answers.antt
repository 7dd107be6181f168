use Rattle.std.proofs.Common.{ap}
use Rattle.lucchesi_younger.proofs.SearchLaws.{grows_trans, past_more}
use Rattle.lucchesi_younger.specs.declared.work.Visit.{Visit}
use Rattle.lucchesi_younger.proofs.scan.scan_arcs.Goals as goal

pub arcs-preserved : goal.arcs-preserved
arcs-preserved c =
    let old = c.args.search.now in
    let was = c.arcs.search in
    let new = c.scan_arc.new.search in
    let more = c.in_ok-scan_arc.ensures in
    record {
      search = more.search;
      grows = grows_trans old.reached was.reached new.reached old.visits.items was.visits.items new.visits.items c.arcs.invariant.grows more.grows;
      past = past_more c.args.task.now.graph.now c.args.task.now.work.now c.args.task.now.late c.arcs.number _ _ was.reached new.reached (ap (λ (v : Visit). v.step.to) (c.arcs.invariant.grows.same c.args.place c.requires.place)) more.grows.stays c.arcs.invariant.past more.past;
    }
