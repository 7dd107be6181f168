use Rattle.std.proofs.Common.{◌≡◌, get_or, ap, ◌∙◌}
use Rattle.std.proofs.lemmas.List.{get_or_read}
use Rattle.graphic_matroid.proofs.classes.Classes.root.Goals as goal

pub climb-preserved : goal.climb-preserved
climb-preserved c =
    let e : c.index-parent.result.now ≡ get_or c.args.self.now.parents.items c.climb.at 0 = get_or_read c.args.self.now.parents.items c.climb.at c.index-parent.result.now c.climb.invariant.below c.index-parent.ensures 0 in
    record {
      below = rw e (c.requires.roots.inside c.climb.at c.climb.invariant.below);
      same = λ label along. ap label e ∙ along c.climb.at c.climb.invariant.below ∙ c.climb.invariant.same label along;
    }
