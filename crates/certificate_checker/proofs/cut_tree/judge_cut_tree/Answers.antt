use Rattle.certificate_checker.proofs.cut_tree.judge_cut_tree.Goals as goal

pub returns : goal.returns
returns c = rw (c.in-Ok.ensures, c.as_slice.ensures) at c.judge.ensures
