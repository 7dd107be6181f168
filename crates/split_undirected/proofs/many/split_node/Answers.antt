use Rattle.std.proofs.Common.{◌≡◌, ◌≤◌, ◌%◌, length, sym, ap, ◌∙◌, arith}
use Rattle.std.specs.Prelude.{slice_index, sum}
use Rattle.std.proofs.lemmas.List.{get_or_default}
use Rattle.split_undirected.specs.CoveredStar.{total, is_candidate, IsWitness}
use Rattle.flow_cuts.specs.NewNode.{value_with}
use Rattle.split_undirected.proofs.Candidates.{some_candidate}
use Rattle.split_undirected.proofs.LeastLaws.{net_star}
use Rattle.split_undirected.proofs.WitnessLaws.{no_witness}
use Rattle.split_undirected.proofs.Turns.{turn_start}
use Rattle.split_undirected.proofs.many.split_node.Goals as goal
use Rattle.graph_core.proofs.WeightLaws.{nodes_all}
use Rattle.graph_core.proofs.SizeLaws.{count_fewer}

pub turns-init : goal.turns-init
turns-init c =
    let n = length c.args.rest.now.counts.items in
    let f = value_with c.args.rest.now.arcs.items c.args.rest.now.counts.items in
    let few : c.len.result ≡ n = c.len.ensures ∙ c.args.rest.now.counts.ok.0 in
    let near : IsWitness n c.args.k f c.args.u c.in_ok-witnesses.witnesses.near = rw (c.in_ok-witnesses.ensures.near, few) no_witness in
    let far : IsWitness n c.args.k f c.args.u c.in_ok-witnesses.witnesses.far = rw (c.in_ok-witnesses.ensures.far, few) no_witness in
    record {
      long = λ _. n;
      underway = λ ls w h. h;
      turn = turn_start c.requires.done (record { near = near; far = far });
      falls = λ x. omega arith;
    }

pub next-v-requires-clause-some : goal.next-v-requires-clause-some
next-v-requires-clause-some c = λ none.
    let n = length c.args.rest.now.counts.items in
    let counts = c.turns.rest.counts.items in
    let inv = c.turns.invariant in
    let all = c.requires.underway in
    let under = inv.underway all.0 all.1 all.2 in
    let same : total n (slice_index counts) ≡ sum counts = ap (λ m. total m (slice_index counts)) (sym inv.long) ∙ nodes_all counts in
    let some : 1 ≤ slice_index counts c.args.u = omega (arith, c.turns-test.true, c.index.ensures, get_or_default counts c.args.u c.index.result.now 0 (omega (arith, c.requires.u, inv.long))) in
    some_candidate (net_star under.net) (ap (λ m. m % 2) same ∙ under.even) c.args.u c.requires.u some c.turns.witnesses.near c.turns.witnesses.far inv.turn.witnesses.near inv.turn.witnesses.far
    (λ v l. none v (omega (arith, inv.long)))

pub try_pair-requires-clause-underway : goal.try_pair-requires-clause-underway
try_pair-requires-clause-underway c =
    let all = c.requires.underway in
    (all.0, all.1, rw c.turns.invariant.long (c.turns.invariant.underway all.0 all.1 all.2))

pub turns-preserved : goal.turns-preserved
turns-preserved c =
    let inv = c.turns.invariant in
    let step = rw inv.long at c.in_ok-try_pair.ensures in
    record {
      long = step.long;
      underway = λ ls w h. step.underway ls w (inv.underway ls w h);
      turn = step.turn;
      falls = λ x. omega (arith, step.falls x, inv.falls x);
    }

pub turns-smaller : goal.turns-smaller
turns-smaller c =
    let step = c.in_ok-try_pair.ensures in
    count_fewer (length c.args.rest.now.counts.items) (is_candidate (slice_index c.turns.rest.counts.items) c.args.u c.turns.witnesses.near c.turns.witnesses.far) (is_candidate (slice_index c.try_pair.new.rest.counts.items) c.args.u c.try_pair.new.witnesses.near c.try_pair.new.witnesses.far)
    step.less c.next-v.result (omega (arith, c.next-v.ensures.below, c.turns.invariant.long)) c.next-v.ensures.candidate step.gone
