use Rattle.std.proofs.lemmas.List.Elements.{All-nil, All-push}
use Rattle.cut_fn.specs.Covered.{IsTight}
use Rattle.solver_tests.proofs.stars.tight_sides.Goals as goal

pub loop-nodes-init : goal.loop-nodes-init
loop-nodes-init g c = rw c.new-family.ensures (record { each = All-nil (IsTight (g.F.CutFn.nodes c.args.f.now) c.args.k (g.F.CutFn.cut c.args.f.now)) })

pub loop-nodes-preserved : goal.loop-nodes-preserved
loop-nodes-preserved g c =
    rw c.in_ok-push.ensures.ok (record {
      each = All-push (IsTight (g.F.CutFn.nodes c.args.f.now) c.args.k (g.F.CutFn.cut c.args.f.now)) c.loop-nodes.family c.in_ok-side.side c.loop-nodes.invariant.each c.in_ok-side.ensures;
    })
