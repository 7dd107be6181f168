use Rattle.std.proofs.Common.{◌≡◌, ◌<◌, ◌||◌, ◌&&◌, not, true, false, length, sym, ap, ◌∙◌, arith}
use Rattle.std.proofs.lemmas.List.{get_or_read}
use Rattle.std.proofs.lemmas.Simd.{length-zip2}
use Rattle.graph_core.specs.Side.{has, join, minus}
use Rattle.cut_trees.specs.Branch.{at, no_branch}
use Rattle.cut_trees.proofs.Gathered.{widened, narrowed, follows_widened, follows_narrowed, follows_kept}
use Rattle.cut_trees.proofs.tree.gather.Goals as goal
use Rattle.cut_trees.proofs.tree.gather.Goals.{then-branch-t+then-has, then-branch-t+else-has, else-branch-t}

pub returns-clause-gathered : goal.returns-clause-gathered
returns-clause-gathered c = λ n s w ls rep turn cut. let r = c.loop-branch.invariant.gathered n s w ls rep turn cut in (r.0, λ j x lj. r.1 j x (omega arith))

pub loop-branch-preserved : goal.loop-branch-preserved
loop-branch-preserved c =
    let bs = c.args.branches.now in
    let i = c.loop-branch.branch-index in
    let X = c.loop-branch.side in
    let li : i < length bs = c.loop-branch-test.true in
    let item : c.branch-item.result ≡ at bs i = get_or_read bs i c.branch-item.result li c.branch-item.is no_branch in
    let same : length X ≡ length (at bs i).side = c.loop-branch.invariant.long ∙ sym (c.requires.long i no_branch li) in
    elim c.if-branch-t.branch [
      | then-branch-t+then-has v ↦
          let to : (at bs i).second ≡ c.args.t = ap (λ b. b.second) (sym item) ∙ v.if-branch-t.true in
          let in_x : has X (at bs i).first ≡ true = ap (λ b. has X b.first) (sym item) ∙ sym v.has.ensures ∙ v.if-has.true in
          let made : c.if-branch-t.side ≡ join X (at bs i).side = v.side-is ∙ v.join.ensures.union ∙ ap (λ b. join X b.side) item in
          record {
            long = ap length made ∙ length-zip2 ◌||◌ X (at bs i).side same ∙ c.loop-branch.invariant.long;
            gathered = λ n s w ls rep turn cut.
                let r = c.loop-branch.invariant.gathered n s w ls rep turn cut in
                rw made (widened turn r.0 i li to in_x, follows_widened turn r.0 i li to r.1);
          }
      | then-branch-t+else-has v ↦
          let to : (at bs i).second ≡ c.args.t = ap (λ b. b.second) (sym item) ∙ v.if-branch-t.true in
          let out_x : has X (at bs i).first ≡ false = ap (λ b. has X b.first) (sym item) ∙ sym v.has.ensures ∙ v.if-has.false in
          let made : c.if-branch-t.side ≡ minus X (at bs i).side = v.side-is ∙ v.minus.ensures.difference ∙ ap (λ b. minus X b.side) item in
          record {
            long = ap length made ∙ length-zip2 (λ x y. x && not y) X (at bs i).side same ∙ c.loop-branch.invariant.long;
            gathered = λ n s w ls rep turn cut.
                let r = c.loop-branch.invariant.gathered n s w ls rep turn cut in
                rw made (narrowed turn r.0 i li to out_x, follows_narrowed turn r.0 i li to r.1);
          }
      | else-branch-t v ↦
          let made : c.if-branch-t.side ≡ X = v.side-is in
          record {
            long = ap length made ∙ c.loop-branch.invariant.long;
            gathered = λ n s w ls rep turn cut.
                let r = c.loop-branch.invariant.gathered n s w ls rep turn cut in
                rw made (r.0, follows_kept (at bs) X i (λ to. v.if-branch-t.false (ap (λ b. b.second) item ∙ to)) r.1);
          }
    ]
