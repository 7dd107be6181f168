use Rattle.std.proofs.Common.{◌≤◌, false, length, sum, refl, sym, ap, ◌∙◌, true≢false, arith}
use Rattle.std.proofs.lemmas.List.{length-replicate}
use Rattle.graph_core.proofs.SideLaws.{has-none}
use Rattle.std.proofs.lemmas.List.Sums.{get_or-le-sum_by, count_by-le-length}
use Rattle.graph_core.specs.Side.{size}
use Rattle.cut_fn.specs.Stars.{star_of}
use Rattle.split_directed.specs.Ways.{taken_in}
use Rattle.split_directed.specs.State.{IsCoveredStar}
use Rattle.split_directed.specs.Turn.{IsMostUpTo, IsLeft}
use Rattle.graph_core.proofs.ItemLaws.{counted_below}
use Rattle.graph_core.proofs.NodeCounts.{size_more}
use Rattle.split_directed.proofs.Stars.{left_outside, Taken}
use Rattle.split_directed.proofs.Turns.{partner_turn}
use Rattle.split_directed.proofs.partners.partner.Goals as goal

pub next_node-u-requires-clause-some : goal.next_node-u-requires-clause-some
next_node-u-requires-clause-some c =
    let star = c.args.star.now in
    let s = star_of star in
    let covered : IsCoveredStar (length star.graph.names) c.args.k s = record { fits = c.known.ensures.makes.ends; into_long = star.into_long; out_long = star.out_long; enters = c.requires.enters; leaves = c.requires.leaves } in
    let all : 1 ≤ sum s.into = omega (arith, get_or-le-sum_by (λ x. x) s.into c.args.t 0 (counted_below s.into c.args.t refl c.requires.arc), c.requires.arc) in
    rw (c.deref.ensures.value, c.in_ok-state.ensures.state.leaving.counts) (left_outside covered c.requires.same c.requires.arc all c.turns.invariant.witness)

pub most_up_to-requires-clause-t : goal.most_up_to-requires-clause-t
most_up_to-requires-clause-t c = omega (arith, counted_below c.args.star.now.into c.args.t refl c.requires.arc, c.args.star.now.into_long, ap (λ x. length x.graph.names) c.in_ok-state.ensures.star)

pub take-requires-clause-node : goal.take-requires-clause-node
take-requires-clause-node c = omega (arith, counted_below c.args.star.now.into c.args.t refl c.requires.arc, c.args.star.now.into_long, c.in_ok-count.ensures.block, c.turns.invariant.block)

-- the star is covered, and the side that was found is taken in
star_covered : (c : goal.After-take) → IsCoveredStar (length c.args.star.now.graph.names) c.args.k (star_of c.args.star.now)
star_covered c = let star = c.args.star.now in record { fits = c.known.ensures.makes.ends; into_long = star.into_long; out_long = star.out_long; enters = c.requires.enters; leaves = c.requires.leaves }

found_left : (c : goal.After-take) → IsLeft c.args.star.now.out c.turns.witness.side c.next_node-u.result
found_left c = rw (c.deref.ensures.value, c.in_ok-state.ensures.state.leaving.counts) at c.next_node-u.ensures

is_taken : (c : goal.After-take) → Taken (star_covered c) c.args.t c.next_node-u.result c.in_ok-count.way c.turns.witness.side (taken_in c.turns.witness.way c.turns.witness.side c.in_ok-count.way c.most_up_to.new.block c.args.t)
is_taken c =
    let most : IsMostUpTo (length c.args.star.now.graph.names) c.args.k (star_of c.args.star.now) c.next_node-u.result c.args.t 1 c.in_ok-count.count c.in_ok-count.way c.most_up_to.new.block = rw (c.in_ok-state.ensures.star, c.in_ok-state.ensures.rows) at c.in_ok-count.ensures.most in
    partner_turn (star_covered c) c.requires.same c.requires.arc c.turns.invariant.witness (found_left c) most c.if-count-eq1.false

pub turns-preserved : goal.turns-preserved
turns-preserved c = rw (c.take.ensures.way, c.take.ensures.side) (record { witness = (is_taken c).witness; block = c.in_ok-count.ensures.block ∙ c.turns.invariant.block })

pub turns-smaller : goal.turns-smaller
turns-smaller c =
    let M = c.turns.witness.side in
    let N = taken_in c.turns.witness.way M c.in_ok-count.way c.most_up_to.new.block c.args.t in
    let x = is_taken c in
    let more = size_more M N c.next_node-u.result (c.turns.invariant.witness.long ∙ sym x.witness.long) x.kept (found_left c).outside x.new in
    omega (arith, more, x.witness.long, count_by-le-length (λ b. b) N, ap size c.take.ensures.side)

pub turns-init : goal.turns-init
turns-init c =
    let n = length c.args.star.now.graph.names in
    let known = c.node_count-n.ensures in
    record {
      witness = rw (c.in_ok-empty.ensures, known) (record { long = length-replicate n false; tight = λ h. absurd (true≢false (sym h ∙ has-none n c.args.t)); none = λ _ v. has-none n v });
      block = rw (c.in_ok-block.ensures, known) (length-replicate n false);
    }

pub most_up_to-requires-clause-covered : goal.most_up_to-requires-clause-covered
most_up_to-requires-clause-covered c =
    let star = c.args.star.now in
    let covered : IsCoveredStar (length star.graph.names) c.args.k (star_of star) = record { fits = c.known.ensures.makes.ends; into_long = star.into_long; out_long = star.out_long; enters = c.requires.enters; leaves = c.requires.leaves } in
    rw (c.in_ok-state.ensures.star, c.in_ok-state.ensures.rows) covered

pub returns-then-count-eq1 : goal.returns-then-count-eq1
returns-then-count-eq1 c =
    let star = c.args.star.now in
    let n = length star.graph.names in
    let s = star_of star in
    let left : IsLeft s.out c.turns.witness.side c.next_node-u.result = rw (c.deref.ensures.value, c.in_ok-state.ensures.state.leaving.counts) at c.next_node-u.ensures in
    let most : IsMostUpTo n c.args.k s c.next_node-u.result c.args.t 1 c.in_ok-count.count c.in_ok-count.way c.most_up_to.new.block = rw (c.in_ok-state.ensures.star, c.in_ok-state.ensures.rows) at c.in_ok-count.ensures.most in
    record {
      node = omega (arith, left.below, star.out_long);
      arc = left.some;
      enters = λ X tight in_u in_t. omega (arith, most.enters X tight.proper in_u in_t, tight.value, c.if-count-eq1.true);
      leaves = λ X tight in_u in_t. omega (arith, most.leaves X tight.proper in_u in_t, tight.value, c.if-count-eq1.true);
    }
