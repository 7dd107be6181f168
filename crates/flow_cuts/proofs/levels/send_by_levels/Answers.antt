use Rattle.std.proofs.Common.{◌≡◌, ◌<◌, ℕ, length, arith, ap, ◌∙◌, refl, subst}
use Rattle.flow_cuts.specs.Residual.{IsFlow}
use Rattle.flow_cuts.specs.Search.{unseen, mark_at}
use Rattle.flow_cuts.proofs.SearchTrees.{read_mark, seen_below}
use Rattle.flow_cuts.proofs.OpenWays.{IsAdjacency-same, IsOpenWay-found, SameEnds-trans, SameSums-trans}
use Rattle.flow_cuts.proofs.RisingWays.{IsLevelled-searched}
use Rattle.std.proofs.lemmas.List.{with_items_is}
use Rattle.flow_cuts.proofs.levels.send_by_levels.Goals as goal

pub search-requires-clause-network : goal.search-requires-clause-network
search-requires-clause-network c = IsAdjacency-same _ c.args.links.now c.loop-sent.links c.args.course.now.steps c.loop-sent.invariant.ends c.requires.network

pub push_way-requires-clause-way : goal.push_way-requires-clause-way
push_way-requires-clause-way c =
    let ms = c.search.new.tree.marks.items in
    let v : ℕ = c.in-Some.end in
    let found = c.in-Some.ensures.some in
    let seen : (mark_at ms v).level < unseen = rw c.deref.ensures.value at found.2 in
    let lt : v < length ms = seen_below ms v seen in
    let narrow : c.index.result.now.narrow ≡ (mark_at ms v).narrow = ap (λ m. m.narrow) (read_mark ms v c.index.result.now lt c.index.ensures) in
    rw c.deref-in-loop-sent.ensures.value
    (IsOpenWay-found c.loop-sent.links c.args.course.now.inside ms c.min-amount.result (mark_at ms v).level v c.search.ensures.searched.forest refl seen
    (omega (arith, c.min-amount.ensures)))

pub drain_all-more-requires-clause-network : goal.drain_all-more-requires-clause-network
drain_all-more-requires-clause-network c =
    IsAdjacency-same _ c.loop-sent.links c.push_way.new.links c.args.course.now.steps c.push_way.ensures.ends
    (IsAdjacency-same _ c.args.links.now c.loop-sent.links c.args.course.now.steps c.loop-sent.invariant.ends c.requires.network)

pub drain_all-more-requires-clause-levelled : goal.drain_all-more-requires-clause-levelled
drain_all-more-requires-clause-levelled c =
    rw c.deref_mut.ensures.value (IsLevelled-searched _ c.loop-sent.links c.args.course.now.inside c.search.new.tree.marks.items c.search.ensures.searched)

pub loop-sent-preserved : goal.loop-sent-preserved
loop-sent-preserved c = record {
  fits = c.drain_all-more.ensures.fits;
  ends = SameEnds-trans _ _ _ (SameEnds-trans _ _ _ c.loop-sent.invariant.ends c.push_way.ensures.ends) c.drain_all-more.ensures.ends;
  sums = SameSums-trans _ _ _ (SameSums-trans _ _ _ c.loop-sent.invariant.sums c.push_way.ensures.sums) c.drain_all-more.ensures.sums;
  marks =
      let same = with_items_is c.search.new.tree.marks c.drain_all-more.new.marks
      (omega (arith, c.drain_all-more.ensures.marks, c.search.ensures.searched.len, c.search.new.tree.marks.ok.0)) in
      ap length same ∙ c.drain_all-more.ensures.marks;
  queue = c.search.ensures.queue;
  next = c.drain_all-more.ensures.next;
  most = omega (arith, c.drain_all-more.ensures.most, c.saturating_sub-in-loop-sent.ensures, c.saturating_sub.ensures, c.min-amount.ensures);
  flow = λ arcs value flow.
      let P : ℕ → Type 0 = IsFlow (length c.args.course.now.inside) c.args.course.now.inside c.args.course.now.outside arcs c.drain_all-more.new.links in
      subst P (omega arith) (c.drain_all-more.ensures.flow arcs _ (c.push_way.ensures.sent c.args.course.now.outside arcs _ c.in-Some.ensures.some.1 (c.loop-sent.invariant.flow arcs value flow)));
}
