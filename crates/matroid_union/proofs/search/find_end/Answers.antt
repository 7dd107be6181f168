use Rattle.std.proofs.Common.{◌≡◌, ℕ, ◌<◌, length, get_or, ap, ◌∙◌, subst, arith}
use Rattle.matroid_union.specs.Parts.{own_of, kept}
use Rattle.matroid_union.specs.Search.{IsShut}
use Rattle.matroid_union.proofs.Filled.{are_kept}
use Rattle.matroid_union.proofs.ScanLaws.{shut_still}
use Rattle.matroid_union.proofs.search.find_end.Goals as goal

pub returns-in-Some-clause-met : goal.returns-in-Some-clause-met
returns-in-Some-clause-met g c = are_kept (g.M.Matroid.keeps c.args.matroid.now) g.M.Matroid.members (g.M.Matroid.count c.args.matroid.now) c.args.k (λ (p : ℕ). kept (own_of c.args.owner.now) c.places.search.reached p (g.M.Matroid.count c.args.matroid.now)) c.places.met.parts c.places.invariant.filled

pub returns-then-at-len-clause-met : goal.returns-then-at-len-clause-met
returns-then-at-len-clause-met g c = are_kept (g.M.Matroid.keeps c.args.matroid.now) g.M.Matroid.members (g.M.Matroid.count c.args.matroid.now) c.args.k (λ (p : ℕ). kept (own_of c.args.owner.now) c.places.search.reached p (g.M.Matroid.count c.args.matroid.now)) c.places.met.parts c.places.invariant.filled

pub places-preserved : goal.places-preserved
places-preserved g c =
    let tested : (i : ℕ) → i < length c.places.search.queue.items → IsShut (g.M.Matroid.count c.args.matroid.now) (g.M.Matroid.free c.args.matroid.now) c.args.k (own_of c.args.owner.now) (get_or c.places.search.queue.items i 0) =
    subst (λ q. (i : ℕ) → i < length q → IsShut (g.M.Matroid.count c.args.matroid.now) (g.M.Matroid.free c.args.matroid.now) c.args.k (own_of c.args.owner.now) (get_or q i 0)) c.deref.ensures.value (c.first_end.ensures.shut c.in_default.is) in
    let whole : length c.deref.result.now ≡ length c.places.search.queue.items = ap length c.deref.ensures.value in
    let len = c.deref.ensures.len in
    let here = c.if-at-len.false in
    let below = c.places.invariant.below in
    let longer = c.in_ok-scan_element.ensures.begins.longer in
    record {
      filled = c.in_ok-scan_element.ensures.met;
      trial = c.in_ok-scan_element.ensures.trial;
      some = omega arith;
      below = omega arith;
      shut = λ i l.
          let old : i < length c.places.search.queue.items = omega arith in
          shut_still (g.M.Matroid.count c.args.matroid.now) (g.M.Matroid.free c.args.matroid.now) (g.met.M.Matroid.laws c.args.matroid.now) c.args.k (own_of c.args.owner.now) c.places.search.queue.items c.scan_element.new.search.queue.items i c.in_ok-scan_element.ensures.begins old (tested i old);
      dead = c.scan_element.ensures.dead ∙ c.places.invariant.dead;
      search = c.in_ok-scan_element.ensures.search;
    }
