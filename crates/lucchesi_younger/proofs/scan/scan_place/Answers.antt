use Rattle.std.proofs.Common.{◌≡◌, ◌+◌, ◌<◌, ◌∙◌, length, sym, ap, subst, arith}
use Rattle.lucchesi_younger.specs.Search.{IsSearch, PastArcs, PastJumps, node, visit}
use Rattle.std.proofs.lemmas.Bool.{OnFalse_from}
use Rattle.lucchesi_younger.proofs.SearchLaws.{visit_read, grows_trans, search_next, unforced, past_jump}
use Rattle.lucchesi_younger.specs.declared.work.By.TheVariants.{Jumped}
use Rattle.lucchesi_younger.specs.declared.work.Visit.{Visit}
use Rattle.lucchesi_younger.proofs.scan.scan_place.Goals as goal

pub returns-in-Jumped-clause-done : goal.returns-in-Jumped-clause-done
returns-in-Jumped-clause-done c =
    let g = c.args.task.now.graph.now in
    let w = c.args.task.now.work.now in
    let place = c.args.place in
    let new = c.scan_arcs.new.search in
    let visits = new.visits.items in
    let done = c.in_ok-scan_arcs.ensures in
    let longer = done.grows.longer in
    let old = c.requires.place in
    let below : place < length visits = omega arith in
    let same : node visits place ≡ node c.args.search.now.visits.items place = ap (λ (v : Visit). v.step.to) (done.grows.same place c.requires.place) in
    let arcs = subst (λ u. PastArcs g w c.args.task.now.late u new.reached (length g.lines)) (sym same) done.past in
    let by : (visit visits place).step.by ≡ Jumped = sym (ap (λ (v : Visit). v.step.by) (visit_read visits place c.index.result.now below c.index.ensures)) ∙ c.in-Jumped.is in
    search_next g w c.args.task.now.late new.reached visits place done.search
    (λ v v_in out. unforced g w c.args.task.now.late new.reached visits place done.search arcs v out (past_jump g w c.args.task.now.late new.reached visits place done.search below by v v_in out))

pub returns : goal.returns
returns c =
    let g = c.args.task.now.graph.now in
    let w = c.args.task.now.work.now in
    let place = c.args.place in
    let old = c.args.search.now in
    let was = c.scan_arcs.new.search in
    let new = c.scan_jumps.new.search in
    let visits = new.visits.items in
    let first = c.in_ok-scan_arcs.ensures in
    let next = c.in_ok-scan_jumps.ensures in
    let longer = first.grows.longer in
    let start = c.requires.place in
    let below : place < length was.visits.items = omega arith in
    let same : node visits place ≡ node was.visits.items place = ap (λ (v : Visit). v.step.to) (next.grows.same place below) in
    let same' : node was.visits.items place ≡ node old.visits.items place = ap (λ (v : Visit). v.step.to) (first.grows.same place c.requires.place) in
    let arcs = subst (λ u. PastArcs g w c.args.task.now.late u new.reached (length g.lines)) (sym (same ∙ same')) (λ i v l out. first.past i v l (next.grows.stays v out)) in
    record {
      held = next.held;
      search = next.search;
      done = OnFalse_from c.has-found.result (IsSearch g w c.args.task.now.late new.reached visits (place + 1)) (λ missed.
          let jumps = subst (λ u. PastJumps g w u new.reached (length g.names)) (sym same) (next.past (sym c.has-found.ensures ∙ missed)) in
          search_next g w c.args.task.now.late new.reached visits place next.search (λ v v_in out. unforced g w c.args.task.now.late new.reached visits place next.search arcs v out (jumps v v_in out)));
      found = c.has-found.ensures;
      grows = grows_trans old.reached was.reached new.reached old.visits.items was.visits.items visits first.grows next.grows;
    }
