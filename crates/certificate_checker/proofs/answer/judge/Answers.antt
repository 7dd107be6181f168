use Rattle.certificate_checker.proofs.answer.judge.Goals as goal

pub returns-in-Augment : goal.returns-in-Augment
returns-in-Augment c = rw (c.in-Edges.is, c.in-Augment.is) c.answer-in-Augment.ensures
