use Rattle.std.proofs.Common.{◌≡◌, sym, arith, subst}
use Rattle.std.proofs.lemmas.Result.{IfOk-weaker}
use Rattle.nw_orientation.specs.Needed.{IsPrunedTo}
use Rattle.nw_orientation.specs.Thin.{IsThin}
use Rattle.nw_orientation.proofs.PruneLaws.{pruned_none, pruned_thin}
use Rattle.nw_orientation.proofs.prune.first_marks.Goals as goal

pub returns-then-tried-eq0 : goal.returns-then-tried-eq0
returns-then-tried-eq0 c =
    let n = c.args.n in
    let ls = c.args.lines.now in
    let none : c.args.tried ≡ 0 = omega (arith, c.if-tried-eq0.true) in
    IfOk-weaker c.thin.result (λ marks. IsThin c.args.c ls marks.items) (λ marks. IsPrunedTo n c.args.c ls c.args.tried marks.items)
    (λ marks t. subst (λ j. IsPrunedTo n c.args.c ls j marks.items) (sym none) (pruned_thin n c.args.c ls marks.items t c.requires.connected))
    c.thin.ensures

pub returns : goal.returns
returns c =
    pruned_none c.args.n c.args.c c.args.lines.now c.args.tried c.in_ok-marks.marks.items (c.in_ok-marks.ensures.items_if_clones_equal (λ y h. h)) c.requires.connected c.requires.needed
