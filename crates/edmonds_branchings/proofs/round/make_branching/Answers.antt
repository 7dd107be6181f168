use Rattle.std.proofs.Common.{◌≡◌, ◌+◌, ◌-◌, ◌<◌, true, length, replicate, sym, ap, ◌∙◌, arith}
use Rattle.std.specs.Prelude.{slice_set, false}
use Rattle.std.proofs.lemmas.List.{length-set, length-replicate}
use Rattle.edmonds_branchings.specs.Network.{no_arc, cap_at}
use Rattle.edmonds_branchings.specs.Round.{IsEligible, IsFree, AreRefused}
use Rattle.edmonds_branchings.proofs.Begin.{begun, none_refused, round_begun, row_begun}
use Rattle.edmonds_branchings.proofs.Capacity.{left_within}
use Rattle.edmonds_branchings.proofs.Made.{made}
use Rattle.edmonds_branchings.proofs.Refused.{refused_taken}
use Rattle.edmonds_branchings.proofs.Row.{row_taken}
use Rattle.edmonds_branchings.proofs.Taken.{ends_left, round_taken}
use Rattle.edmonds_branchings.proofs.round.make_branching.Goals as goal
use Rattle.graph_core.proofs.PutLaws.{size-put}

pub loop-init : goal.loop-init
loop-init c =
    let n = length c.args.graph.now.names in
    let T = c.put.new.self in
    let start : T ≡ slice_set (replicate (n + 1) false) n true = c.put.ensures ∙ ap (λ S. slice_set S c.node_count-n.result true) c.in_ok-covered.ensures ∙ ap (λ m. slice_set (replicate (m + 1) false) m true) c.node_count-n.ensures in
    let b = begun n T start in
    record {
      many = b.one;
      round = round_begun c.requires.capacity b;
      long = ap length c.in_ok-refused.ensures ∙ length-replicate c.len.result false ∙ omega (arith, c.len.ensures, c.args.arcs.now.ok.0);
      refused = none_refused n c.args.k c.args.arcs.now.items c.in_ok-refused.refused c.len.result c.in_ok-refused.ensures;
      row = rw c.new-row.ensures (row_begun c.requires.left b);
    }

pub find_step-requires-clause-ends : goal.find_step-requires-clause-ends
find_step-requires-clause-ends c = rw (c.deref.ensures.value, c.node_count-n.ensures) (ends_left c.known.ensures.makes.ends c.loop.invariant.row.left)

pub take_step-requires-clause-tail : goal.take_step-requires-clause-tail
take_step-requires-clause-tail c =
    let e = rw c.deref.ensures.value at c.in_ok-j.ensures.eligible in
    let ends = ends_left c.known.ensures.makes.ends c.loop.invariant.row.left c.in_ok-j.j no_arc (left_within c.loop.arcs.items c.in_ok-j.j e.left) in
    omega (arith, ends.0, c.loop.invariant.round.long)

pub loop-preserved : goal.loop-preserved
loop-preserved c =
    let n = length c.args.graph.now.names in
    let inv = c.loop.invariant in
    let arcs = c.loop.arcs.items in
    let T = c.loop.covered in
    let j = c.in_ok-j.j in
    let e : IsEligible arcs T j = rw c.deref.ensures.value at c.in_ok-j.ensures.eligible in
    let free : IsFree n c.args.k arcs j = rw (c.deref.ensures.value, c.node_count-n.ensures) at c.in_ok-j.ensures.free in
    let refused : AreRefused n c.args.k arcs c.find_step.new.refused = rw (c.deref.ensures.value, c.node_count-n.ensures) at c.in_ok-j.ensures.refused in
    let ends = ends_left c.known.ensures.makes.ends inv.row.left in
    let tail = ends j no_arc (left_within arcs j e.left) in
    let below : (cap_at arcs j).tail < length T = omega (arith, tail.0, inv.round.long) in
    let step = c.in_ok-take_step.ensures in
    rw (step.arcs, step.covered, step.row, c.line_count.ensures.count) (record {
      many = omega (arith, size-put T (cap_at arcs j).tail below e.tail, inv.many);
      round = round_taken n c.args.k arcs T j ends inv.round e free;
      long = c.in_ok-j.ensures.long ∙ ap length c.deref.ensures.value ∙ sym (length-set arcs j (record (cap_at arcs j) { cap = (cap_at arcs j).cap - 1 }));
      refused = refused_taken n c.args.k arcs c.find_step.new.refused j e.left refused;
      row = row_taken j inv.row e below;
    })

pub returns : goal.returns
returns c =
    let n = length c.args.graph.now.names in
    let inv = c.loop.invariant in
    made inv.row inv.round (omega (arith, inv.many, c.loop-test.false, c.loop.auto.counter-end, c.node_count-n.ensures)) c.requires.units
