use Rattle.std.proofs.Common.{◌≡◌, ◌≤◌, ◌+◌, ◌%◌, ◌||◌, true, length, refl, ap, ◌∙◌, arith, subst}
use Rattle.std.specs.Prelude.{slice_index, sum}
use Rattle.graph_core.proofs.ItemLaws.{counted_below}
use Rattle.graph_core.specs.Side.{has, sum_over}
use Rattle.graph_core.specs.declared.graph.Kind.TheVariants.{Undirected}
use Rattle.flow_cuts.proofs.ArcLaws.{capacity-arcs_of}
use Rattle.split_undirected.specs.CoveredStar.{total, is_candidate, IsDangerous, AreWitnesses, IsWider}
use Rattle.split_undirected.specs.Most.{MaySplit}
use Rattle.flow_cuts.specs.NewNode.{value_with}
use Rattle.split_undirected.specs.Network.{IsStarNet}
use Rattle.split_undirected.proofs.Candidates.{room_first, room_second, room_twice, some_candidate, candidate_room}
use Rattle.split_undirected.proofs.LeastLaws.{net_star}
use Rattle.split_undirected.proofs.NextNet.{net_start}
use Rattle.split_undirected.proofs.Turns.{gone_inside, candidates_less}
use Rattle.split_undirected.proofs.single.partner.Goals as goal
use Rattle.graph_core.proofs.WeightLaws.{nodes_all}
use Rattle.graph_core.proofs.SizeLaws.{count_fewer}

pub next-v-requires-clause-u : goal.next-v-requires-clause-u
next-v-requires-clause-u c = counted_below c.in_ok-rest.rest.counts.items c.args.u refl (omega (arith, c.requires.some, ap (λ xs. slice_index xs c.args.u) c.in_ok-rest.ensures.counts))

pub least_over-requires-clause-u : goal.least_over-requires-clause-u
least_over-requires-clause-u c = counted_below c.in_ok-rest.rest.counts.items c.args.u refl (omega (arith, c.requires.some, ap (λ xs. slice_index xs c.args.u) c.in_ok-rest.ensures.counts))

pub next-v-requires-clause-some : goal.next-v-requires-clause-some
next-v-requires-clause-some c = λ none.
    let star = c.args.star.now in
    let makes = c.known.ensures.makes in
    let cs = c.in_ok-rest.rest.counts.items in
    let is = c.in_ok-rest.ensures.counts in
    let net : IsStarNet (length cs) c.args.k star.graph.lines c.in_ok-rest.rest.arcs.items cs =
    rw (c.in_ok-rest.ensures.arcs, is, star.long) (net_start star.graph.lines star.count star.long makes.nodes c.requires.split.room makes.ends c.requires.split.covered) in
    let even : total (length cs) (slice_index cs) % 2 ≡ 0 = ap (λ m. m % 2) (nodes_all cs) ∙ ap (λ xs. sum xs % 2) is ∙ c.requires.split.even in
    let some : 1 ≤ slice_index cs c.args.u = omega (arith, c.requires.some, ap (λ xs. slice_index xs c.args.u) is) in
    some_candidate (net_star net) even c.args.u (counted_below cs c.args.u refl some) some c.tries.witnesses.near c.tries.witnesses.far c.tries.invariant.witnesses.near c.tries.invariant.witnesses.far none

pub least_over-requires-clause-star : goal.least_over-requires-clause-star
least_over-requires-clause-star c =
    let star = c.args.star.now in
    let makes = c.known.ensures.makes in
    rw (c.in_ok-rest.ensures.arcs, c.in_ok-rest.ensures.counts, star.long) (star.graph.lines, net_start star.graph.lines star.count star.long makes.nodes c.requires.split.room makes.ends c.requires.split.covered)

pub returns-then-least-k-clause-partner : goal.returns-then-least-k-clause-partner
returns-then-least-k-clause-partner c =
    let star = c.args.star.now in
    let u = c.args.u in
    let v = c.next-v.result in
    let cs = c.in_ok-rest.rest.counts.items in
    let can = candidate_room (slice_index cs) u v c.tries.witnesses.near c.tries.witnesses.far c.next-v.ensures.candidate in
    let may : MaySplit (length cs) c.args.k (value_with c.in_ok-rest.rest.arcs.items cs) (slice_index cs) u v 1 = record {
      first = omega (arith, room_first (slice_index cs) u v, can.0);
      second = omega (arith, room_second (slice_index cs) u v, can.0);
      twice = λ e. omega (arith, room_twice (slice_index cs) u v e, can.0);
      covered = λ X proper xu xv. omega (arith, c.in_ok-least.ensures.least.least X proper xu xv, c.if-least-k.true);
    } in
    let same = rw (c.in_ok-rest.ensures.arcs, c.in_ok-rest.ensures.counts, star.long) at may in
    subst (λ f. MaySplit (length star.graph.names) c.args.k f (slice_index star.count) u v 1) (λ i X. capacity-arcs_of Undirected X star.graph.lines i + sum_over X (slice_index star.count)) same

-- the side that was found is taken into the two others
absorbed : (c : goal.After-absorb) → AreWitnesses (length c.in_ok-rest.rest.counts.items) c.args.k (value_with c.in_ok-rest.rest.arcs.items c.in_ok-rest.rest.counts.items) c.args.u c.absorb.new.self.near c.absorb.new.self.far
    × IsWider c.tries.witnesses.near c.tries.witnesses.far c.absorb.new.self.near c.absorb.new.self.far × ((has c.absorb.new.self.near c.next-v.result || has c.absorb.new.self.far c.next-v.result) ≡ true)
absorbed c =
    let star = c.args.star.now in
    let makes = c.known.ensures.makes in
    let arcs = c.in_ok-rest.rest.arcs.items in
    let cs = c.in_ok-rest.rest.counts.items in
    let is = c.in_ok-rest.ensures.counts in
    let net : IsStarNet (length cs) c.args.k star.graph.lines arcs cs =
    rw (c.in_ok-rest.ensures.arcs, is, star.long) (net_start star.graph.lines star.count star.long makes.nodes c.requires.split.room makes.ends c.requires.split.covered) in
    let some : 1 ≤ slice_index cs c.args.u = omega (arith, c.requires.some, ap (λ xs. slice_index xs c.args.u) is) in
    let can = candidate_room (slice_index cs) c.args.u c.next-v.result c.tries.witnesses.near c.tries.witnesses.far c.next-v.ensures.candidate in
    let least = c.in_ok-least.ensures.least in
    let found = least.reached (omega (arith, least.stopped, c.if-least-k.false)) in
    let danger : IsDangerous (length cs) c.args.k (value_with arcs cs) c.args.u c.least_over.new.into = record { proper = found.proper; holds = found.first; value = omega (arith, found.value_is, least.stopped, c.if-least-k.false) } in
    c.absorb.ensures.wider (length cs) c.args.k (value_with arcs cs) (slice_index cs) c.args.u c.next-v.result (net_star net) c.requires.split.two some c.tries.invariant.witnesses danger found.second can.1 can.2

pub tries-preserved : goal.tries-preserved
tries-preserved c = record { side = c.in_ok-least.ensures.into; witnesses = (absorbed c).0 }

pub tries-smaller : goal.tries-smaller
tries-smaller c =
    let w = slice_index c.in_ok-rest.rest.counts.items in
    let u = c.args.u in
    let v = c.next-v.result in
    let X = c.tries.witnesses.near in
    let Y = c.tries.witnesses.far in
    let X' = c.absorb.new.self.near in
    let Y' = c.absorb.new.self.far in
    let step = absorbed c in
    count_fewer (length c.in_ok-rest.rest.counts.items) (is_candidate w u X Y) (is_candidate w u X' Y') (candidates_less w w u X Y X' Y' (λ x. omega arith) step.1) v c.next-v.ensures.below c.next-v.ensures.candidate (gone_inside w u v X' Y' step.2)
