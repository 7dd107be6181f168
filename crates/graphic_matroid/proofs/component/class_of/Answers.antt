use Rattle.std.proofs.Common.{length, ◌==◌, arith}
use Rattle.std.specs.Prelude.{slice_index, false}
use Rattle.std.proofs.lemmas.List.FromFn.{fill_by_all}
use Rattle.graphic_matroid.proofs.component.class_of.Goals as goal

pub returns : goal.returns
returns c = fill_by_all (λ v. slice_index c.args.roots.now v == c.args.root) c.loop-v.side (length c.args.roots.now) false c.loop-v.invariant.long (λ k l. c.loop-v.invariant.done k (omega arith))
