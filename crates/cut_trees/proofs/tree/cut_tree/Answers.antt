use Rattle.std.proofs.Common.{◌≡◌, ◌+◌, [], ◌++◌, length, take, drop, replicate, refl, sym, ap, ◌∙◌, arith, subst, map}
use Rattle.std.specs.Prelude.{slice_index}
use Rattle.std.proofs.lemmas.List.{get_or-replicate, length-replicate, with_items_is}
use Rattle.std.proofs.lemmas.Result.{IfOk-weaker}
use Rattle.cut_trees.specs.Branch.{at, pair_of}
use Rattle.cut_trees.specs.Grown.{IsGrown}
use Rattle.problem_defs.specs.CutTree.{IsCutTree}
use Rattle.cut_trees.proofs.NextNode.{grown_first}
use Rattle.cut_trees.proofs.SpanningTree.{grown_tree}
use Rattle.cut_trees.proofs.tree.cut_tree.Goals as goal

pub loop-s-init : goal.loop-s-init
loop-s-init c =
    let n = c.node_count-n.result in
    let zeros : c.in_ok-reps.reps.items ≡ replicate n 0 = c.in_ok-reps.ensures.items_if_clones_equal (λ y h. h) in
    let first = grown_first (length c.args.graph.now.names) c.args.graph.now.lines (at []) (slice_index c.in_ok-reps.reps.items) c.known.ensures.makes.some
    (λ x l. ap (λ xs. slice_index xs x) zeros ∙ get_or-replicate n x 0 0 (omega (arith, c.node_count-n.ensures))) in
    record {
      same = c.in_ok-cuts.ensures;
      long = ap length zeros ∙ length-replicate n 0 ∙ c.node_count-n.ensures;
      grown = rw c.in_ok-branches.ensures.items first;
    }

pub loop-s-preserved : goal.loop-s-preserved
loop-s-preserved c =
    let graph = c.args.graph.now in
    let old = c.loop-s.reps in
    let new = c.grow.new.reps in
    let bs = c.grow.new.branches.items in
    let next = c.loop-s.s + 1 in
    let value = c.deref_mut.ensures.value in
    let long : length new ≡ length old.items = omega (arith, c.grow.auto.reps, ap length value) in
    let whole : take old.len (new ++ drop (length new) old.items) ≡ new = with_items_is old new (long ∙ sym old.ok.0) in
    let over = subst (λ g. IsGrown (length c.deref_mut.result.now) next g.lines (length bs) (at bs) (slice_index new)) c.loop-s.invariant.same c.in_ok-grow.ensures.grown in
    let grown : IsGrown (length graph.names) next graph.lines (length bs) (at bs) (slice_index new) =
    subst (λ n. IsGrown n next graph.lines (length bs) (at bs) (slice_index new)) (ap length value ∙ c.loop-s.invariant.long) over in
    record {
      same = c.in_ok-grow.ensures.graph ∙ c.loop-s.invariant.same;
      long = rw whole (long ∙ c.loop-s.invariant.long);
      grown = rw whole grown;
    }

pub returns : goal.returns
returns c =
    let graph = c.args.graph.now in
    let n = length graph.names in
    let bs = c.loop-s.branches.items in
    let some = c.known.ensures.makes.some in
    let all : c.loop-s.s ≡ n = omega arith in
    let grown = subst (λ s. IsGrown n s graph.lines (length bs) (at bs) (slice_index c.loop-s.reps.items)) all c.loop-s.invariant.grown in
    let tree : IsCutTree graph (map pair_of bs) = grown_tree bs grown graph refl refl in
    IfOk-weaker c.pairs_of.result (λ pairs. pairs ≡ map pair_of c.deref.result.now) (IsCutTree graph) (λ pairs e. subst (IsCutTree graph) (sym (e ∙ ap (map pair_of) c.deref.ensures.value)) tree) c.pairs_of.ensures
