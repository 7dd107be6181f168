use Rattle.std.proofs.Common.{◌≡◌, true, sym, ap, ◌∙◌, subst}
use Rattle.std.proofs.lemmas.Bool.{both_ways}
use Rattle.graph_core.specs.Side.{has}
use Rattle.lucchesi_younger.specs.Search.{IsArcStep, IsArcUnforced, node}
use Rattle.lucchesi_younger.proofs.SearchLaws.{visit_read, search_pushed, past_pushed}
use Rattle.lucchesi_younger.specs.declared.work.Visit.{Visit}
use Rattle.lucchesi_younger.proofs.scan.scan_arc.Goals as goal

pub returns-then-not-has-clause-search : goal.returns-then-not-has-clause-search
returns-then-not-has-clause-search c =
    let visits = c.args.search.now.visits.items in
    let st = c.in-Some.step in
    let from : c.index.result.now.step.to ≡ node visits c.args.place = ap (λ (v : Visit). v.step.to) (visit_read visits c.args.place c.index.result.now c.requires.place c.index.ensures) in
    search_pushed c.args.task.now.graph.now c.args.task.now.work.now c.args.task.now.late c.args.search.now.reached visits c.args.place c.requires.search st c.requires.place c.in-Some.ensures.leads (c.in-Some.ensures.from ∙ from) (sym c.has.ensures ∙ c.if-not-has.true)
    c.reach.new.self.reached c.reach.new.self.visits.items c.in_ok-reach.ensures.reached c.in_ok-reach.ensures.visits

pub returns-then-not-has-clause-past : goal.returns-then-not-has-clause-past
returns-then-not-has-clause-past c =
    let visits = c.args.search.now.visits.items in
    let st = c.in-Some.step in
    let from : c.index.result.now.step.to ≡ node visits c.args.place = ap (λ (v : Visit). v.step.to) (visit_read visits c.args.place c.index.result.now c.requires.place c.index.ensures) in
    past_pushed c.args.task.now.graph.now c.args.task.now.work.now c.args.task.now.late c.args.search.now.reached visits c.args.place c.requires.search st c.requires.place c.in-Some.ensures.leads (c.in-Some.ensures.from ∙ from) (sym c.has.ensures ∙ c.if-not-has.true)
    c.args.number (subst (λ u. IsArcStep c.args.task.now.graph.now c.args.task.now.work.now c.args.task.now.late c.args.number u st) (sym c.in-Some.ensures.from) c.in-Some.ensures) c.reach.new.self.reached c.in_ok-reach.ensures.reached

pub returns-else-not-has-clause-past : goal.returns-else-not-has-clause-past
returns-else-not-has-clause-past c v out =
    let visits = c.args.search.now.visits.items in
    let st = c.in-Some.step in
    let from : c.index.result.now.step.to ≡ node visits c.args.place = ap (λ (x : Visit). x.step.to) (visit_read visits c.args.place c.index.result.now c.requires.place c.index.ensures) in
    let in' : has c.args.search.now.reached st.to ≡ true = sym c.has.ensures ∙ c.if-not-has.false in
    subst (λ u. IsArcUnforced c.args.task.now.graph.now c.args.task.now.work.now c.args.task.now.late c.args.number u v) from
    (c.in-Some.ensures.other v (λ e. both_ways (has c.args.search.now.reached v) out (ap (has c.args.search.now.reached) e ∙ in')))
