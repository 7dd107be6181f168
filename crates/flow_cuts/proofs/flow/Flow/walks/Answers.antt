use Rattle.std.proofs.Common.{◌≡◌, List, length, sym, subst}
use Rattle.std.specs.Prelude.{map}
use Rattle.std.proofs.lemmas.Result.{IfOk-weaker}
use Rattle.flow_cuts.specs.declared.network.Link.{Link}
use Rattle.flow_cuts.specs.Flow.{Origin, Run, RunsBetween, AreWalks}
use Rattle.flow_cuts.specs.LinkWalks.{AreUnits, AreLinkWalks}
use Rattle.flow_cuts.specs.Residual.{link_along}
use Rattle.flow_cuts.specs.Streams.{IsSent}
use Rattle.flow_cuts.proofs.GraphWalks.{AreWalks-links}
use Rattle.flow_cuts.proofs.LinkLaws.{AreUnits-graph}
use Rattle.flow_cuts.proofs.OpenWays.{IsAdjacency-same}
use Rattle.flow_cuts.proofs.Runs.{run_of, outcome_is, whole_is}
use Rattle.flow_cuts.proofs.Streams.{IsStream-sent}
use Rattle.flow_cuts.proofs.TakenWalks.{SameEnds-sent, IsLess-sent, units_sent}
use Rattle.flow_cuts.proofs.flow.Flow.walks.Goals as goal

sent_at : (whole links sent whole' links' : List Link) → whole ≡ whole' → links ≡ links' → IsSent whole links sent → IsSent whole' links' sent
sent_at whole links sent whole' links' e f is =
    let P : List Link → Type 0 = λ x. IsSent x links sent in
    let Q : List Link → Type 0 = λ x. IsSent whole' x sent in
    subst Q f (subst P e is)

units_at : (ls : List Link) (g : Origin) → ls ≡ map (link_along g.kind) g.lines → AreUnits ls
units_at ls g e = let P : List Link → Type 0 = AreUnits in subst P (sym e) (AreUnits-graph g.kind g.lines)

pub split_walks-requires-clause-network : goal.split_walks-requires-clause-network
split_walks-requires-clause-network c =
    let i = c.self.inside in
    let is = sent_at c.deref.result.now c.deref-2.result.now c.in_ok-sent.sent.items i.whole.items i.residual.links.items c.deref.ensures.value c.deref-2.ensures.value c.in_ok-sent.ensures in
    rw c.deref_mut.ensures.value
    (IsAdjacency-same (length i.course.inside) i.whole.items c.in_ok-sent.sent.items i.course.steps (SameEnds-sent i.whole.items i.residual.links.items c.in_ok-sent.sent.items is) c.self.invariant.adjacency)

pub split_walks-requires-clause-stream : goal.split_walks-requires-clause-stream
split_walks-requires-clause-stream c =
    let i = c.self.inside in
    let is = sent_at c.deref.result.now c.deref-2.result.now c.in_ok-sent.sent.items i.whole.items i.residual.links.items c.deref.ensures.value c.deref-2.ensures.value c.in_ok-sent.ensures in
    let ready = c.self.invariant.ready in
    let ran = c.self.invariant.run c.in-Some.outcome c.in-Some.is in
    rw c.deref_mut.ensures.value
    (IsStream-sent (length i.course.inside) i.course.inside i.course.outside _ i.whole.items i.residual.links.items c.in_ok-sent.sent.items c.in-Some.outcome.answer c.self.invariant.arcs ready.ends ready.sums is ran.flow)

pub split_walks-requires-clause-units : goal.split_walks-requires-clause-units
split_walks-requires-clause-units c =
    let i = c.self.inside in
    let is = sent_at c.deref.result.now c.deref-2.result.now c.in_ok-sent.sent.items i.whole.items i.residual.links.items c.deref.ensures.value c.deref-2.ensures.value c.in_ok-sent.ensures in
    let units = units_at i.whole.items c.requires.made.0 (whole_is i c.args.self.now c.requires.made.0 c.self.view_is c.self.invariant c.requires.made.1) in
    rw c.deref_mut.ensures.value (units_sent i.whole.items i.residual.links.items c.in_ok-sent.sent.items units c.self.invariant.ready.sums is)

pub returns : goal.returns
returns c =
    let i = c.self.inside in
    let is = sent_at c.deref.result.now c.deref-2.result.now c.in_ok-sent.sent.items i.whole.items i.residual.links.items c.deref.ensures.value c.deref-2.ensures.value c.in_ok-sent.ensures in
    IfOk-weaker c.split_walks.result _ _ (λ walks split g r s t made ran between.
    let same = outcome_is i c.args.self.now c.in-Some.outcome r c.self.view_is c.in-Some.is ran in
    let ends : RunsBetween (run_of i c.in-Some.outcome) s t = let P : Run → Type 0 = λ x. RunsBetween x s t in subst P (sym same) between in
    let along = split i.whole.items s t (rw c.deref_mut.ensures.value (SameEnds-sent i.whole.items i.residual.links.items c.in_ok-sent.sent.items is))
    (rw c.deref_mut.ensures.value (IsLess-sent i.whole.items i.residual.links.items c.in_ok-sent.sent.items is)) ends.from ends.to in
    let P : List Link → Type 0 = λ ls. AreLinkWalks ls s t c.in-Some.outcome.answer walks in
    let all = AreWalks-links g s t c.in-Some.outcome.answer walks between.apart (subst P (whole_is i c.args.self.now g c.self.view_is c.self.invariant made) along) in
    let Q : Run → Type 0 = λ x. AreWalks g s t x.answer walks in
    subst Q same all) c.split_walks.ensures
