use Rattle.std.proofs.Common.{◌≡◌, ◌<◌, ◌+◌, length, sym, ap, ◌∙◌, arith, subst}
use Rattle.std.specs.Prelude.{slice_index}
use Rattle.std.proofs.lemmas.List.Elements.{All-from_get_or}
use Rattle.cut_trees.specs.Branch.{at, no_branch}
use Rattle.flow_cuts.specs.NodeCuts.{IsLeastNodeCut}
use Rattle.cut_trees.specs.Grown.{IsGrown}
use Rattle.cut_trees.specs.Turn.{IsTurn}
use Rattle.cut_trees.proofs.NextNode.{grown_next}
use Rattle.cut_trees.proofs.Turned.{turn_begun}
use Rattle.cut_trees.proofs.tree.turn_to.Goals as goal

pub gather-requires-clause-long : goal.gather-requires-clause-long
gather-requires-clause-long c =
    let fit = rw c.requires.nodes at c.known.ensures.makes.ends in
    let bs = c.turn_branches.new.branches in
    let turn = turn_begun fit c.requires.grown c.requires.next c.requires.rep (at bs) c.turn_branches.ensures in
    All-from_get_or (λ b. length b.side ≡ length c.least_cut-weight.new.into) bs no_branch (λ j l. turn.grown.long j (omega arith) ∙ sym (c.least_cut-weight.ensures.cut.long ∙ c.requires.nodes))

pub gather-requires-clause-first : goal.gather-requires-clause-first
gather-requires-clause-first c =
    let fit = rw c.requires.nodes at c.known.ensures.makes.ends in
    let bs = c.turn_branches.new.branches in
    let turn = turn_begun fit c.requires.grown c.requires.next c.requires.rep (at bs) c.turn_branches.ensures in
    All-from_get_or (λ b. b.first < length c.least_cut-weight.new.into) bs no_branch (λ j l. omega (arith, turn.grown.first_in j (omega arith), c.requires.next, c.least_cut-weight.ensures.cut.long))

pub lead_on-requires : goal.lead_on-requires
lead_on-requires c =
    let fit = rw c.requires.nodes at c.known.ensures.makes.ends in
    let bs = c.turn_branches.new.branches in
    let turn = turn_begun fit c.requires.grown c.requires.next c.requires.rep (at bs) c.turn_branches.ensures in
    All-from_get_or (λ b. b.first < length c.gather.new.side) bs no_branch (λ j l. omega (arith, turn.grown.first_in j (omega arith), c.requires.next, c.least_cut-weight.ensures.cut.long))

pub returns-clause-grown : goal.returns-clause-grown
returns-clause-grown c =
    let n = length c.args.reps.now in
    let ls = c.args.cuts.now.graph.now.lines in
    let w = c.least_cut-weight.result in
    let fit = rw c.requires.nodes at c.known.ensures.makes.ends in
    let cut : IsLeastNodeCut n ls c.args.s c.args.t w c.least_cut-weight.new.into = rw c.requires.nodes at c.least_cut-weight.ensures.cut in
    let turn = turn_begun fit c.requires.grown c.requires.next c.requires.rep (at c.turn_branches.new.branches) c.turn_branches.ensures in
    let long : length c.turn_branches.new.branches ≡ length c.args.branches.now = omega arith in
    let start = subst (λ m. IsTurn n c.args.s c.args.t ls m (at c.turn_branches.new.branches) (slice_index c.args.reps.now)) (sym long) turn in
    let done = c.gather.ensures.gathered n c.args.s w ls (slice_index c.args.reps.now) start cut in
    λ b same last.
    subst (λ m. IsGrown n (c.args.s + 1) ls (m + 1) b (slice_index c.represent.new.reps)) long
    (grown_next start done.0 done.1 b (λ j l. same j (omega arith) ∙ c.lead_on.ensures j l) (ap b long ∙ last) (slice_index c.represent.new.reps) c.represent.ensures)
