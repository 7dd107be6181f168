use Rattle.std.proofs.Common.{◌≡◌, ◌<◌, length, refl, sym, subst, ◌∙◌, arith}
use Rattle.std.proofs.lemmas.Grind.{common_steps}
use Rattle.flow_cuts.specs.LeastMissing.{IsLeastMissing}
use Rattle.flow_cuts.specs.NewNode.{value_with}
use Rattle.flow_cuts.proofs.LeastValues.{IsSearched, IsTwo, two_nodes, searched_start, searched_skip, searched_next, searched_done, searched_heavy, least_at_once}
use Rattle.flow_cuts.proofs.pair_search.least_over.Goals as goal
use Rattle.flow_cuts.proofs.pair_search.least_over.Goals.{then-other-w-gt0+then-not-has+else-total-answer, else-other-w-gt0, else-other-w-gt0-via-then-other-w-gt0+else-not-has, else-other-w-gt0-via-else-other-w-gt0}

pub returns-then-total-stop-clause-least : goal.returns-then-total-stop-clause-least
returns-then-total-stop-clause-least c =
    let star = c.args.star.now in
    let counts = star.counts.now in
    let two : IsTwo (length counts) c.args.pair.0 c.args.pair.1 c.put-2.new.self = two_nodes (length counts) c.args.pair.0 c.args.pair.1 c.put-2.new.self c.requires.first c.requires.second (grind (arith, common_steps)) in
    let least : IsLeastMissing (length counts) (value_with star.arcs.now counts) c.put-2.new.self (length counts) c.args.stop c.least_wide.result c.least_wide.new.into = rw c.requires.other at c.least_wide.ensures.least in
    least_at_once (value_with star.arcs.now counts) counts (λ Y. omega arith) refl two (omega arith) least

pub loop-w-init : goal.loop-w-init
loop-w-init c =
    let n = length c.args.star.now.counts.now in
    record {
      arcs = refl;
      counts = refl;
      long = refl;
      unchanged = λ _. refl;
      searched = searched_start (two_nodes n c.args.pair.0 c.args.pair.1 c.put-2.new.self c.requires.first c.requires.second (grind (arith, common_steps)));
    }

pub loop-w-preserved : goal.loop-w-preserved
loop-w-preserved c =
    let star = c.args.star.now in
    let n = length star.counts.now in
    let inv = c.loop-w.invariant in
    let within : c.loop-w.w < n = omega (arith, c.requires.other) in
    elim c.if-other-w-gt0.branch [
      | then-other-w-gt0+then-not-has+else-total-answer w ↦
          let step = w.least_wide-answer in
          let least : IsLeastMissing n (value_with star.arcs.now star.counts.now) c.loop-w.held c.loop-w.w c.loop-w.answer step.result step.new.into = rw (inv.arcs, inv.counts) at step.ensures.least in
          rw (w.into-is, w.star-is, w.held-is, w.answer-is, w.put-then-not-has.ensures) (record {
            arcs = step.ensures.arcs ∙ inv.arcs;
            counts = step.ensures.counts ∙ inv.counts;
            long = step.ensures.long ∙ inv.long;
            unchanged = λ le. step.ensures.kept (omega (arith, inv.searched.stopped)) ∙ inv.unchanged (omega (arith, least.stopped));
            searched = searched_next inv.searched within least step.ensures.kept;
          })
      | else-other-w-gt0 w ↦ rw (w.into-is, w.star-is, w.held-is, w.answer-is) (record {
        arcs = inv.arcs;
        counts = inv.counts;
        long = inv.long;
        unchanged = inv.unchanged;
        searched = searched_skip inv.searched (elim w.else-other-w-gt0.branch [
          | else-other-w-gt0-via-then-other-w-gt0+else-not-has w' ↦ λ _. sym w'.has.ensures ∙ w'.if-not-has.false
          | else-other-w-gt0-via-else-other-w-gt0 w' ↦ λ some. absurd (omega (arith, some))
        ]);
      })
    ]

pub returns-then-total-answer-clause-least : goal.returns-then-total-answer-clause-least
returns-then-total-answer-clause-least c =
    let counts = c.args.star.now.counts.now in
    let held = rw c.loop-w.invariant.counts at c.sum_counts.ensures.total in
    searched_heavy c.args.k counts c.requires.bound (omega (arith, held, c.if-total-answer.true)) c.loop-w.invariant.searched

pub returns-clause-least : goal.returns-clause-least
returns-clause-least c =
    let star = c.args.star.now in
    let n = length star.counts.now in
    let all : c.loop-w.w ≡ n = omega (arith, c.loop-w-test.false, c.loop-w.auto.w-end, c.requires.other) in
    searched_done c.requires.missed
    (subst (λ w. IsSearched n (value_with star.arcs.now star.counts.now) c.args.other.now c.args.pair.0 c.args.pair.1 c.args.stop w c.loop-w.answer c.loop-w.held c.loop-w.into) all c.loop-w.invariant.searched)
