use Rattle.std.proofs.Common.{◌≡◌, ◌∙◌, ap}
use Rattle.lucchesi_younger.specs.Search.{node}
use Rattle.lucchesi_younger.proofs.SearchLaws.{grows_trans, jumps_more}
use Rattle.lucchesi_younger.specs.declared.work.Visit.{Visit}
use Rattle.lucchesi_younger.proofs.scan.scan_jumps.Goals as goal

pub nodes-preserved : goal.nodes-preserved
nodes-preserved c =
    let g = c.args.task.now.graph.now in
    let w = c.args.task.now.work.now in
    let old = c.args.search.now in
    let was = c.nodes.search in
    let new = c.try_jump-in-nodes.new.search in
    let more = c.in_ok-try_jump-2.ensures in
    let kept = c.nodes.invariant in
    let same : node was.visits.items c.args.place ≡ node old.visits.items c.args.place = ap (λ (v : Visit). v.step.to) (kept.grows.same c.args.place c.requires.place) in
    record {
      held = more.held ∙ kept.held;
      search = more.search;
      grows = grows_trans old.reached was.reached new.reached old.visits.items was.visits.items new.visits.items kept.grows more.grows;
      past = jumps_more g w c.args.task.now.late c.nodes.to _ _ was.reached new.reached same more.grows.stays kept.past more.past;
    }
