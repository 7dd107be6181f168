use Rattle.std.proofs.Common.{◌≡◌, None, subst}
use Rattle.problem_defs.specs.Ask.{misfit_of}
use Rattle.problem_defs.specs.CutTree.Cert.{tree-meets}
use Rattle.connect_run.proofs.solving.solved.Goals as goal

pub returns-in_ok-cut_tree-in-CutTree-clause-meets : goal.returns-in_ok-cut_tree-in-CutTree-clause-meets
returns-in_ok-cut_tree-in-CutTree-clause-meets c =
    let suits = subst (λ ask. misfit_of c.args.graph.now ask ≡ None) c.in-CutTree.is c.requires.suits in
    tree-meets c.args.graph.now c.in_ok-cut_tree-in-CutTree.field-0 c.known.ensures suits c.in_ok-cut_tree-in-CutTree.ensures
