use Rattle.std.proofs.Common.{◌≡◌, ◌<◌, ℕ, length, ap, ◌∙◌, arith, inl, inr}
use Rattle.std.specs.Prelude.{slice_index}
use Rattle.std.proofs.lemmas.Bool.{cases_lt}
use Rattle.split_undirected.proofs.Underway.{underway_start, connected}
use Rattle.split_undirected.proofs.many.split_many.Goals as goal

pub loop-u-init : goal.loop-u-init
loop-u-init c =
    let star = c.args.star.now in
    let makes = c.known.ensures.makes in
    rw (c.in_ok-rest.ensures.arcs, c.in_ok-rest.ensures.counts, c.new-rows.ensures) (record {
      long = star.long;
      underway = underway_start star.graph.lines star.count star.long makes.nodes c.requires.room c.requires.even makes.ends c.requires.covered;
      done = λ j l. absurd (omega arith);
      spent = λ x l. absurd (omega arith);
    })

pub loop-u-preserved : goal.loop-u-preserved
loop-u-preserved c =
    let star = c.args.star.now in
    let inv = c.loop-u.invariant in
    let step = rw inv.long at c.in_ok-split_node.ensures in
    record {
      long = step.long;
      underway = step.underway star.graph.lines (slice_index star.count) inv.underway;
      done = step.done;
      spent = λ x l.
          elim (cases_lt x c.loop-u.u) [
            | inl before ↦ omega (arith, step.falls x, inv.spent x before)
            | inr past ↦ (let e : x ≡ c.loop-u.u = omega arith in ap (slice_index c.split_node.new.rest.counts.items) e ∙ step.spent)
          ];
    }

pub returns : goal.returns
returns c =
    let under = c.loop-u.invariant.underway in
    let spent : (v : ℕ) → v < length c.args.star.now.graph.names → slice_index c.loop-u.rest.counts.items v ≡ 0 = λ v l. c.loop-u.invariant.spent v (omega (arith, c.loop-u-test.false, c.node_count-u-end.ensures)) in
    record { most = under.most; each = λ v l. omega (arith, under.left v, spent v l); connected = connected under spent }
