use Rattle.std.proofs.Common.{◌≡◌, ◌∙◌, ◌+◌, ℕ, List, Bool, length, ap, sym, Some, false}
use Rattle.std.proofs.lemmas.List.{length-replicate}
use Rattle.std.specs.Prelude.{replicate}
use Rattle.flow_cuts.specs.Flow.{Run, FlowValue, RunsBetween}
use Rattle.flow_cuts.proofs.Menger.{origin, ran_on}
use Rattle.solver_tests.proofs.walks.walks_of_run.Goals as goal

-- a side that was empty is as long as there are nodes
long_of : (n m : ℕ) (old new : List Bool) → length new ≡ length old → old ≡ replicate n false → n ≡ m → length new ≡ m
long_of n m old new same none e = same ∙ ap length none ∙ length-replicate n false ∙ e

pub run-requires-clause-inside : goal.run-requires-clause-inside
run-requires-clause-inside c =
    long_of c.node_count-n.result _ c.in_ok-inside.inside _ c.hold_only.ensures.long c.in_ok-inside.ensures (c.node_count-n.ensures ∙ ap (λ f. f.nodes) (sym c.in_ok-flow.ensures))

pub run-requires-clause-outside : goal.run-requires-clause-outside
run-requires-clause-outside c =
    long_of c.node_count-n.result _ c.in_ok-outside.outside _ c.hold_only-2.ensures.long c.in_ok-outside.ensures (c.node_count-n.ensures ∙ ap (λ f. f.nodes) (sym c.in_ok-flow.ensures))

pub walks-requires : goal.walks-requires
walks-requires c =
    let r : Run = record { inside = c.hold_only.new.self; outside = c.hold_only-2.new.self; stop = c.args.stop; answer = c.run.result } in
    let now : c.run.new.self ≡ ran_on c.args.graph.now r = c.run.ensures.ran ∙ ap (λ (f : FlowValue). record f { last = Some r }) c.in_ok-flow.ensures in
    let between : RunsBetween r c.args.from c.args.to = record { from = c.hold_only.ensures.only; to = c.hold_only-2.ensures.only; apart = c.requires.apart } in
    record { made = (origin c.args.graph.now, ap (λ f. f.graph) now); ran = (r, c.args.from, c.args.to, ap (λ f. f.last) now, between) }
