use Rattle.std.proofs.Common.{◌≡◌, ◌<◌, suc, length, get_or, slice_index, refl, ap, ◌∙◌, arith}
use Rattle.std.proofs.lemmas.List.{get_or_read}
use Rattle.graph_core.specs.Side.{has}
use Rattle.matroid_union.specs.Parts.{own_of}
use Rattle.matroid_union.proofs.SearchLaws.{tree_front}
use Rattle.matroid_union.proofs.Chain.{step_packing, step_earlier, step_tree, step_end, spare_kept, keeps}
use Rattle.matroid_union.proofs.exchange.exchange.Goals as goal

pub path-init : goal.path-init
path-init g c = record {
  place = c.requires.place;
  packing = c.requires.packing;
  tree = tree_front (g.M.Matroid.count c.args._matroid.now) (g.M.Matroid.free c.args._matroid.now) (g.met.M.Matroid.laws c.args._matroid.now) c.args.k (own_of c.args.owner.now) (slice_index c.args.search.now.queue.items) (slice_index c.args.search.now.back.items) (length c.args.search.now.queue.items) (suc c.args.end.at) (let h = c.requires.place in omega arith) c.requires.search.tree;
  ends = c.requires.end;
  kept = λ e h. refl;
  fewer = refl;
}

pub returns-in-None-clause-packing : goal.returns-in-None-clause-packing
returns-in-None-clause-packing g c =
    let e : c.index.result.now ≡ get_or c.args.search.now.queue.items c.path.at 0 = get_or_read c.args.search.now.queue.items c.path.at c.index.result.now c.path.invariant.place c.index.ensures 0 in
    let l : c.index.result.now < length c.path.owner = (let k = c.path.invariant.tree.inside c.path.at (omega arith) in let a = c.requires.all in let o = c.path.auto.owner in omega arith) in
    step_packing (g.M.Matroid.count c.args._matroid.now) (g.M.Matroid.free c.args._matroid.now) (g.met.M.Matroid.laws c.args._matroid.now) c.args.k c.path.owner (slice_index c.args.search.now.queue.items) (slice_index c.args.search.now.back.items) c.path.at c.path.number c.index.result.now c.path.invariant.packing c.path.invariant.tree c.path.invariant.ends e l

pub returns-in-None-clause-dead : goal.returns-in-None-clause-dead
returns-in-None-clause-dead g c = λ i h.
    let e : c.index.result.now ≡ get_or c.args.search.now.queue.items c.path.at 0 = get_or_read c.args.search.now.queue.items c.path.at c.index.result.now c.path.invariant.place c.index.ensures 0 in
    keeps c.args.search.now.dead c.path.owner c.index.result.now c.path.number (ap (has c.args.search.now.dead) e ∙ c.requires.search.alive c.path.at c.path.invariant.place) i h ∙ c.path.invariant.kept i h

pub path-smaller : goal.path-smaller
path-smaller g c =
    let e : c.index.result.now ≡ get_or c.args.search.now.queue.items c.path.at 0 = get_or_read c.args.search.now.queue.items c.path.at c.index.result.now c.path.invariant.place c.index.ensures 0 in
    let b : c.index-at.result.now ≡ get_or c.args.search.now.back.items c.path.at 0 = get_or_read c.args.search.now.back.items c.path.at c.index-at.result.now (let h = c.path.invariant.place in let l = c.requires.search.back_long in omega arith) c.index-at.ensures 0 in
    let l : c.index.result.now < length c.path.owner = (let k = c.path.invariant.tree.inside c.path.at (omega arith) in let a = c.requires.all in let o = c.path.auto.owner in omega arith) in
    step_earlier (g.M.Matroid.count c.args._matroid.now) (g.M.Matroid.free c.args._matroid.now) (g.met.M.Matroid.laws c.args._matroid.now) c.args.k c.path.owner (slice_index c.args.search.now.queue.items) (slice_index c.args.search.now.back.items) c.path.at c.path.number c.index.result.now c.path.invariant.packing c.path.invariant.tree c.path.invariant.ends e l c.in-Some.next c.index-at.result.now c.in-Some.is b

pub path-preserved : goal.path-preserved
path-preserved g c =
    let e : c.index.result.now ≡ get_or c.args.search.now.queue.items c.path.at 0 = get_or_read c.args.search.now.queue.items c.path.at c.index.result.now c.path.invariant.place c.index.ensures 0 in
    let b : c.index-at.result.now ≡ get_or c.args.search.now.back.items c.path.at 0 = get_or_read c.args.search.now.back.items c.path.at c.index-at.result.now (let h = c.path.invariant.place in let l = c.requires.search.back_long in omega arith) c.index-at.ensures 0 in
    let l : c.index.result.now < length c.path.owner = (let k = c.path.invariant.tree.inside c.path.at (omega arith) in let a = c.requires.all in let o = c.path.auto.owner in omega arith) in
    let earlier = step_earlier (g.M.Matroid.count c.args._matroid.now) (g.M.Matroid.free c.args._matroid.now) (g.met.M.Matroid.laws c.args._matroid.now) c.args.k c.path.owner (slice_index c.args.search.now.queue.items) (slice_index c.args.search.now.back.items) c.path.at c.path.number c.index.result.now c.path.invariant.packing c.path.invariant.tree c.path.invariant.ends e l c.in-Some.next c.index-at.result.now c.in-Some.is b in
    record {
      place = (let h = c.path.invariant.place in omega arith);
      packing = step_packing (g.M.Matroid.count c.args._matroid.now) (g.M.Matroid.free c.args._matroid.now) (g.met.M.Matroid.laws c.args._matroid.now) c.args.k c.path.owner (slice_index c.args.search.now.queue.items) (slice_index c.args.search.now.back.items) c.path.at c.path.number c.index.result.now c.path.invariant.packing c.path.invariant.tree c.path.invariant.ends e l;
      tree = step_tree (g.M.Matroid.count c.args._matroid.now) (g.M.Matroid.free c.args._matroid.now) (g.met.M.Matroid.laws c.args._matroid.now) c.args.k c.path.owner (slice_index c.args.search.now.queue.items) (slice_index c.args.search.now.back.items) c.path.at c.path.number c.index.result.now c.path.invariant.packing c.path.invariant.tree c.path.invariant.ends e l c.in-Some.next c.index-at.result.now c.in-Some.is b;
      ends = step_end (g.M.Matroid.count c.args._matroid.now) (g.M.Matroid.free c.args._matroid.now) (g.met.M.Matroid.laws c.args._matroid.now) c.args.k c.path.owner (slice_index c.args.search.now.queue.items) (slice_index c.args.search.now.back.items) c.path.at c.path.number c.index.result.now c.path.invariant.packing c.path.invariant.tree c.path.invariant.ends e l c.in-Some.next c.index-at.result.now c.in-Some.is b;
      kept = λ i h. keeps c.args.search.now.dead c.path.owner c.index.result.now c.path.number (ap (has c.args.search.now.dead) e ∙ c.requires.search.alive c.path.at c.path.invariant.place) i h ∙ c.path.invariant.kept i h;
      fewer = spare_kept c.path.owner c.index.result.now c.path.number c.in-Some.next l c.in-Some.is ∙ c.path.invariant.fewer;
    }
