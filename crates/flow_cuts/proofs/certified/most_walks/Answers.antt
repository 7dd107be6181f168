use Rattle.std.proofs.Common.{◌≡◌, ◌∙◌, ◌+◌, ℕ, List, Bool, length, ap, sym, Some, false}
use Rattle.std.proofs.lemmas.List.{length-replicate}
use Rattle.std.specs.Prelude.{replicate}
use Rattle.flow_cuts.specs.Flow.{Run, FlowValue, RunsBetween}
use Rattle.flow_cuts.proofs.Menger.{origin, ran_on, MeetsCut-ran, IsCertified-ran}
use Rattle.flow_cuts.proofs.certified.most_walks.Goals as goal

-- a side that was empty is as long as there are nodes
long_of : (n m : ℕ) (old new : List Bool) → length new ≡ length old → old ≡ replicate n false → n ≡ m → length new ≡ m
long_of n m old new same none e = same ∙ ap length none ∙ length-replicate n false ∙ e

pub run-requires-clause-inside : goal.run-requires-clause-inside
run-requires-clause-inside c =
    long_of c.node_count-n.result _ c.in_ok-inside.inside _ c.hold_only.ensures.long c.in_ok-inside.ensures (c.node_count-n.ensures ∙ ap (λ f. f.nodes) (sym c.in_ok-flow.ensures))

pub run-requires-clause-outside : goal.run-requires-clause-outside
run-requires-clause-outside c =
    long_of c.node_count-n.result _ c.in_ok-outside.outside _ c.hold_only-2.ensures.long c.in_ok-outside.ensures (c.node_count-n.ensures ∙ ap (λ f. f.nodes) (sym c.in_ok-flow.ensures))

pub side-requires : goal.side-requires
side-requires c =
    let r : Run = record { inside = c.hold_only.new.self; outside = c.hold_only-2.new.self; stop = c.line_count.result + 1; answer = c.run.result } in
    let long = long_of c.node_count-n.result (length c.args.graph.now.names) c.in_ok-inside.inside r.inside c.hold_only.ensures.long c.in_ok-inside.ensures c.node_count-n.ensures in
    let met = MeetsCut-ran c.args.graph.now c.args.from c.args.to r c.in_ok-flow.flow c.run.new.self c.requires.apart c.hold_only.ensures.only c.hold_only-2.ensures.only long (ap (λ k. k + 1) c.line_count.ensures.count) c.in_ok-flow.ensures c.run.ensures.ran c.run.ensures.least in
    record { short = met.short; len = ap length c.in_ok-dual.ensures ∙ length-replicate c.node_count-n.result false ∙ c.node_count-n.ensures ∙ sym met.nodes }

pub walks-requires : goal.walks-requires
walks-requires c =
    let r : Run = record { inside = c.hold_only.new.self; outside = c.hold_only-2.new.self; stop = c.line_count.result + 1; answer = c.run.result } in
    let long = long_of c.node_count-n.result (length c.args.graph.now.names) c.in_ok-inside.inside r.inside c.hold_only.ensures.long c.in_ok-inside.ensures c.node_count-n.ensures in
    let met = MeetsCut-ran c.args.graph.now c.args.from c.args.to r c.in_ok-flow.flow c.run.new.self c.requires.apart c.hold_only.ensures.only c.hold_only-2.ensures.only long (ap (λ k. k + 1) c.line_count.ensures.count) c.in_ok-flow.ensures c.run.ensures.ran c.run.ensures.least in
    record { made = (origin c.args.graph.now, met.made); ran = (met.between.0, c.args.from, c.args.to, met.between.1, met.between.2) }

pub returns-clause-certified : goal.returns-clause-certified
returns-clause-certified c =
    let r : Run = record { inside = c.hold_only.new.self; outside = c.hold_only-2.new.self; stop = c.line_count.result + 1; answer = c.run.result } in
    let now : c.run.new.self ≡ ran_on c.args.graph.now r = c.run.ensures.ran ∙ ap (λ (f : FlowValue). record f { last = Some r }) c.in_ok-flow.ensures in
    let between : RunsBetween r c.args.from c.args.to = record { from = c.hold_only.ensures.only; to = c.hold_only-2.ensures.only; apart = c.requires.apart } in
    let last : c.run.new.self.last ≡ Some r = ap (λ f. f.last) now in
    let (feasible, dual, equal) = IsCertified-ran c.args.graph.now c.args.from c.args.to r c.run.new.self c.side.new.into c.in_ok-object.object now between (c.side.ensures r last)
    (c.in_ok-object.ensures (origin c.args.graph.now) r c.args.from c.args.to (ap (λ f. f.graph) now) last between) in
    record { feasible = feasible; dual_feasible = dual; equal = equal }
