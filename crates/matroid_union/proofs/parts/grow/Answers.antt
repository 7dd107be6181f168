use Rattle.std.proofs.Common.{◌≡◌, ◌<◌, ℕ, length, sym, ap, ◌∙◌, subst, arith}
use Rattle.matroid_union.specs.Growing.{AreFilled}
use Rattle.matroid_union.specs.Parts.{own_of, part, kept}
use Rattle.matroid_union.specs.Search.{AreDead}
use Rattle.matroid_union.proofs.SearchLaws.{search_restart, dead_more, dead_kept}
use Rattle.matroid_union.proofs.Filled.{are_kept}
use Rattle.matroid_union.proofs.KeptSets.{whole_parts}
use Rattle.matroid_union.proofs.parts.grow.Goals as goal

pub find_end-requires-clause-met : goal.find_end-requires-clause-met
find_end-requires-clause-met g c =
    let all : length c.grow.owner ≡ g.M.Matroid.count c.args.matroid.now = c.grow.auto.owner ∙ c.requires.all in
    subst (λ a. AreFilled (g.M.Matroid.keeps c.args.matroid.now) g.M.Matroid.members (g.M.Matroid.count c.args.matroid.now) c.args.k (λ (p : ℕ). kept (own_of c.grow.owner) c.restart.new.self.reached p a) c.fill_sets.new.sets) all c.fill_sets.ensures

pub find_end-requires-clause-search : goal.find_end-requires-clause-search
find_end-requires-clause-search g c =
    let below : c.in-Some.element < g.M.Matroid.count c.args.matroid.now = (let e = c.in-Some.ensures.below in let o = c.grow.auto.owner in let a = c.requires.all in omega arith) in
    search_restart (g.M.Matroid.count c.args.matroid.now) (g.M.Matroid.free c.args.matroid.now) (g.met.M.Matroid.laws c.args.matroid.now) c.args.k (own_of c.grow.owner) c.grow.search.dead c.in-Some.element c.grow.invariant.dead.long below c.in-Some.ensures.spare c.in-Some.ensures.alive
    c.restart.new.self.dead c.restart.new.self.reached c.restart.new.self.queue.items c.restart.new.self.back.items c.restart.ensures.dead c.in_ok-restart.ensures.reached c.in_ok-restart.ensures.queue c.in_ok-restart.ensures.back

pub fill_sets-requires-in-Some-2-clause-kept : goal.fill_sets-requires-in-Some-2-clause-kept
fill_sets-requires-in-Some-2-clause-kept g c = are_kept (g.M.Matroid.keeps c.args.matroid.now) g.M.Matroid.members (g.M.Matroid.count c.args.matroid.now) c.args.k (part (own_of c.grow.owner)) c.grow.whole c.grow.invariant.filled

pub grow-preserved-in-Some-2 : goal.grow-preserved-in-Some-2
grow-preserved-in-Some-2 g c =
    let dead = subst (λ d. AreDead (g.M.Matroid.count c.args.matroid.now) (g.M.Matroid.free c.args.matroid.now) c.args.k (own_of c.grow.owner) d) (sym (c.find_end.ensures.dead ∙ c.restart.ensures.dead)) c.grow.invariant.dead in
    record {
      filled = whole_parts (g.M.Matroid.count c.args.matroid.now) (g.M.Matroid.free c.args.matroid.now) (g.met.M.Matroid.laws c.args.matroid.now) (g.M.Matroid.keeps c.args.matroid.now) g.M.Matroid.members c.args.k (own_of c.exchange.new.owner) c.find_end.new.search.reached c.fill_sets-in-Some-2.new.sets c.fill_sets-in-Some-2.ensures;
      met = c.in_ok-end.ensures.met;
      trial = c.in_ok-end.ensures.trial;
      reached = c.in_ok-end.ensures.search.reached_long;
      packing = c.exchange.ensures.packing;
      dead = dead_kept (g.M.Matroid.count c.args.matroid.now) (g.M.Matroid.free c.args.matroid.now) (g.met.M.Matroid.laws c.args.matroid.now) c.args.k (own_of c.grow.owner) c.find_end.new.search.dead (own_of c.exchange.new.owner) c.exchange.ensures.dead dead;
    }

pub grow-preserved : goal.grow-preserved
grow-preserved g c =
    let dead = subst (λ d. AreDead (g.M.Matroid.count c.args.matroid.now) (g.M.Matroid.free c.args.matroid.now) c.args.k (own_of c.grow.owner) d) (sym (c.find_end.ensures.dead ∙ c.restart.ensures.dead)) c.grow.invariant.dead in
    let stuck = c.in_ok-end.ensures.stuck c.in-None.is in
    record {
      filled = c.grow.invariant.filled;
      met = c.in_ok-end.ensures.met;
      trial = c.in_ok-end.ensures.trial;
      reached = ap length c.settle.ensures.reached ∙ stuck.reached_long;
      packing = c.grow.invariant.packing;
      dead = subst (λ d. AreDead (g.M.Matroid.count c.args.matroid.now) (g.M.Matroid.free c.args.matroid.now) c.args.k (own_of c.grow.owner) d) (sym c.settle.ensures.dead)
          (dead_more (g.M.Matroid.count c.args.matroid.now) (g.M.Matroid.free c.args.matroid.now) (g.met.M.Matroid.laws c.args.matroid.now) c.args.k (own_of c.grow.owner) c.find_end.new.search.dead c.find_end.new.search.reached c.find_end.new.search.queue.items c.find_end.new.search.back.items dead stuck);
    }
