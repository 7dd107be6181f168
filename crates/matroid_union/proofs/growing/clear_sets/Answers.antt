use Rattle.std.proofs.Common.{ℕ, false, arith}
use Rattle.matroid_union.proofs.Filled.{kept_set, filled_none, filled_next, all_filled}
use Rattle.matroid_union.proofs.growing.clear_sets.Goals as goal

pub loop-number-preserved : goal.loop-number-preserved
loop-number-preserved g c = record {
  all = kept_set (g.M.Matroid.keeps c.args.matroid.now) g.M.Matroid.members (g.M.Matroid.count c.args.matroid.now) c.args.k c.loop-number.sets c.loop-number.number c.clear.new.set c.clear.ensures.kept c.loop-number.invariant.all;
  clear = filled_next (g.M.Matroid.keeps c.args.matroid.now) g.M.Matroid.members (g.M.Matroid.count c.args.matroid.now) (λ (p i : ℕ). false) c.loop-number.sets c.loop-number.number c.clear.new.set
      (filled_none (g.M.Matroid.keeps c.args.matroid.now) g.M.Matroid.members (g.M.Matroid.count c.args.matroid.now) c.clear.new.set c.clear.ensures.kept c.clear.ensures.none) c.loop-number.invariant.clear;
}

pub returns : goal.returns
returns g c =
    all_filled (g.M.Matroid.keeps c.args.matroid.now) g.M.Matroid.members (g.M.Matroid.count c.args.matroid.now) (λ (p i : ℕ). false) c.args.k c.loop-number.number c.loop-number.sets (omega arith) c.loop-number.invariant.all c.loop-number.invariant.clear
