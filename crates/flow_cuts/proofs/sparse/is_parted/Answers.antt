use Rattle.std.proofs.Common.{ap}
use Rattle.flow_cuts.specs.Cuts.{IsSmallestCut}
use Rattle.flow_cuts.proofs.SparseLaws.{joined-by, sparse_between-by}
use Rattle.flow_cuts.proofs.sparse.is_parted.Goals as goal

pub side-requires-clause-short : goal.side-requires-clause-short
side-requires-clause-short c = (record { inside = c.hold_only.new.self; outside = c.hold_only-2.new.self; stop = c.args.least; answer = c.run-answer.result }, ap (λ f. f.last) c.run-answer.ensures.ran, c.if-answer-least.true)

pub returns-then-answer-least-clause-parted : goal.returns-then-answer-least-clause-parted
returns-then-answer-least-clause-parted c = λ _.
    let ran = c.run-answer.ensures.ran in
    let cut = c.side.ensures _ (ap (λ f. f.last) ran) in
    let smallest : IsSmallestCut c.args.flow.now.nodes c.hold_only.new.self c.hold_only-2.new.self c.args.flow.now.arcs c.run-answer.result c.side.new.into = rw (ap (λ f. f.nodes) ran, ap (λ f. f.arcs) ran) at cut in
    sparse_between-by c.args.flow.now.arcs c.hold_only.ensures.only c.hold_only-2.ensures.only c.args.least c.run-answer.result c.side.new.into c.requires.v smallest c.if-answer-least.true

pub returns-else-answer-least-clause-joined : goal.returns-else-answer-least-clause-joined
returns-else-answer-least-clause-joined c = λ _. joined-by c.args.flow.now.arcs c.hold_only.ensures.only c.hold_only-2.ensures.only c.args.least c.run-answer.result c.run-answer.ensures.least c.if-answer-least.false
