use Rattle.std.proofs.Common.{◌≡◌, false, length, sym, ap, ◌∙◌, subst, arith}
use Rattle.std.proofs.lemmas.Bool.{OnTrue_at, OnFalse_at}
use Rattle.std.proofs.lemmas.Option.{get_or_from_slice_get}
use Rattle.graph_core.specs.Side.{has}
use Rattle.dicut_lattice.specs.Tight.{TightValue, IsAllowed, AreSeparated}
use Rattle.lucchesi_younger.specs.Kept.{at}
use Rattle.lucchesi_younger.specs.Search.{node}
use Rattle.lucchesi_younger.proofs.SearchLaws.{visit_read, node_in, jump_leads, search_pushed}
use Rattle.lucchesi_younger.specs.declared.work.Visit.{Visit}
use Rattle.lucchesi_younger.proofs.scan.try_jump.Goals as goal

pub item-requires : goal.item-requires
item-requires c =
    let visits = c.args.search.now.visits.items in
    let from : c.index.result.now.step.to ≡ node visits c.args.place = ap (λ (v : Visit). v.step.to) (visit_read visits c.args.place c.index.result.now c.requires.place c.index.ensures) in
    let inside = node_in c.args.task.now.graph.now c.args.task.now.work.now c.args.task.now.late c.args.search.now.reached visits c.args.place c.requires.search c.args.place c.requires.place in
    let long = c.requires.kept.potential_long in
    omega arith

pub leads-requires-clause-from : goal.leads-requires-clause-from
leads-requires-clause-from c =
    let visits = c.args.search.now.visits.items in
    let from : c.index.result.now.step.to ≡ node visits c.args.place = ap (λ (v : Visit). v.step.to) (visit_read visits c.args.place c.index.result.now c.requires.place c.index.ensures) in
    let inside = node_in c.args.task.now.graph.now c.args.task.now.work.now c.args.task.now.late c.args.search.now.reached visits c.args.place c.requires.search c.args.place c.requires.place in
    let same : length c.args.held.now.kernels.graph.names ≡ length c.args.task.now.graph.now.names = ap (λ (t : TightValue). length t.graph.names) c.requires.held in
    omega arith

pub returns-then-item-clause-past : goal.returns-then-item-clause-past
returns-then-item-clause-past c out same =
    let visits = c.args.search.now.visits.items in
    let from : c.index.result.now.step.to ≡ node visits c.args.place = ap (λ (v : Visit). v.step.to) (visit_read visits c.args.place c.index.result.now c.requires.place c.index.ensures) in
    let p = c.args.task.now.work.now.potential in
    let one = get_or_from_slice_get p c.index.result.now.step.to c.item.result.now 0 c.item.ensures in
    let two = get_or_from_slice_get p c.args.to c.item-2.result.now 0 c.item-2.ensures in
    absurd (c.if-item.true (sym one ∙ ap (at p) from ∙ same ∙ two))

pub returns-then-not-allowed-clause-past : goal.returns-then-not-allowed-clause-past
returns-then-not-allowed-clause-past c out same =
    let visits = c.args.search.now.visits.items in
    let from : c.index.result.now.step.to ≡ node visits c.args.place = ap (λ (v : Visit). v.step.to) (visit_read visits c.args.place c.index.result.now c.requires.place c.index.ensures) in
    subst (λ u. AreSeparated c.args.task.now.graph.now c.args.task.now.work.now.join u c.args.to) from
    (subst (λ (t : TightValue). AreSeparated t.graph t.join c.index.result.now.step.to c.args.to) c.requires.held
    (OnFalse_at {P = AreSeparated c.args.held.now.kernels.graph c.args.held.now.kernels.join c.index.result.now.step.to c.args.to} c.if-not-allowed.true c.in_ok-allowed.ensures.no))

pub returns-clause-search : goal.returns-clause-search
returns-clause-search c =
    let visits = c.args.search.now.visits.items in
    let from : c.index.result.now.step.to ≡ node visits c.args.place = ap (λ (v : Visit). v.step.to) (visit_read visits c.args.place c.index.result.now c.requires.place c.index.ensures) in
    let g = c.args.task.now.graph.now in
    let w = c.args.task.now.work.now in
    let u = c.index.result.now.step.to in
    let fresh : has c.args.search.now.reached c.args.to ≡ false = sym c.has.ensures ∙ c.if-has.false in
    let one = get_or_from_slice_get w.potential u c.item.result.now 0 c.item.ensures in
    let two = get_or_from_slice_get w.potential c.args.to c.item-2.result.now 0 c.item-2.ensures in
    let allowed = subst (λ (t : TightValue). IsAllowed t.graph t.join c.args.to u) c.requires.held (OnTrue_at {P = IsAllowed c.args.held.now.kernels.graph c.args.held.now.kernels.join c.args.to u} c.if-not-allowed.false c.in_ok-allowed.ensures.yes) in
    let leads = jump_leads g w c.args.task.now.late c.args.search.now.reached visits c.args.place c.requires.search c.requires.place u c.args.to from c.requires.to fresh (one ∙ c.if-item.false ∙ sym two) allowed in
    search_pushed g w c.args.task.now.late c.args.search.now.reached visits c.args.place c.requires.search _ c.requires.place leads from fresh
    c.reach.new.self.reached c.reach.new.self.visits.items c.in_ok-reach.ensures.reached c.in_ok-reach.ensures.visits
