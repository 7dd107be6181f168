use Rattle.std.proofs.Common.{◌≡◌, ◌+◌, ◌-◌, ◌<◌, ℕ, length, arith, subst, refl}
use Rattle.flow_cuts.specs.Search.{mark_at, unseen}
use Rattle.flow_cuts.proofs.OpenWays.{IsAdjacency-same, IsOpenWay-found}
use Rattle.flow_cuts.proofs.TakenWalks.{IsSplit, IsSplit-more, none_left, AreLinkWalks-split}
use Rattle.flow_cuts.proofs.walks.split_walks.Goals as goal

pub search-requires-clause-network : goal.search-requires-clause-network
search-requires-clause-network c = IsAdjacency-same _ c.args.sent.now c.loop.sent c.args.course.now.steps c.loop.invariant.split.ends c.requires.network

pub unreachable-requires : goal.unreachable-requires
unreachable-requires c =
    let none = none_left _ c.args.course.now.inside c.args.course.now.outside c.loop.sent (c.args.count - c.loop.counter) c.search.new.tree.marks.items
    c.loop.invariant.split.stream c.search.ensures.searched (rw c.deref.ensures.value at c.in_default.ensures.none) in
    omega (arith, none)

pub take_walk-requires-clause-way : goal.take_walk-requires-clause-way
take_walk-requires-clause-way c =
    let ms = c.search.new.tree.marks.items in
    let v : ℕ = c.in-Some.end in
    let found = c.in-Some.ensures.some in
    let seen : (mark_at ms v).level < unseen = rw c.deref.ensures.value at found.2 in
    let reached = c.search.ensures.searched.forest.reached v seen in
    rw c.deref-in-loop.ensures.value
    (IsOpenWay-found c.loop.sent c.args.course.now.inside ms 1 (mark_at ms v).level v c.search.ensures.searched.forest refl seen (omega (arith, reached.some)))

pub loop-preserved : goal.loop-preserved
loop-preserved c = record {
  split =
      let n : ℕ = length c.args.course.now.inside in
      let walk = c.in_ok-walk.ensures.walk in
      let found = c.in-Some.ensures.some in
      let P : ℕ → Type 0 = λ r. IsSplit n c.args.course.now.inside c.args.course.now.outside c.args.sent.now c.take_walk.new.sent r (c.loop.counter + 1) c.push.new.self in
      let less : c.args.count - c.loop.counter - 1 ≡ c.args.count - (c.loop.counter + 1) = omega arith in
      subst P less (rw c.in_ok-push.ensures.ok
      (IsSplit-more n c.args.course.now.inside c.args.course.now.outside c.args.sent.now c.loop.sent c.take_walk.new.sent (c.args.count - c.loop.counter) c.loop.counter c.loop.walks
      c.in_ok-walk.walk walk.0 c.in-Some.end c.loop.invariant.split c.in_ok-walk.ensures.ends c.in_ok-walk.ensures.less (omega arith)
      (λ r stream. c.in_ok-walk.ensures.stream c.args.course.now.outside r found.1 stream)
      c.in_ok-walk.ensures.once walk.1 found.1 walk.2));
  marks = c.search.ensures.searched.len;
  queue = c.search.ensures.queue;
}

pub returns : goal.returns
returns c = λ whole s t same less a b.
    let P : ℕ → Type 0 = λ i. IsSplit (length c.args.course.now.inside) c.args.course.now.inside c.args.course.now.outside c.args.sent.now c.loop.sent (c.args.count - c.loop.counter) i c.loop.walks in
    let done : c.loop.counter ≡ c.args.count = omega arith in
    let all : IsSplit (length c.args.course.now.inside) c.args.course.now.inside c.args.course.now.outside c.args.sent.now c.loop.sent (c.args.count - c.loop.counter) c.args.count c.loop.walks = subst P done c.loop.invariant.split in
    AreLinkWalks-split (length c.args.course.now.inside) c.args.course.now.inside c.args.course.now.outside whole c.args.sent.now c.loop.sent (c.args.count - c.loop.counter) c.args.count c.loop.walks s t same less all a b
