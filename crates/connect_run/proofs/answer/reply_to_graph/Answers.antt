use Rattle.std.proofs.Common.{refl, sym, subst, ◌∙◌, inl, inr, map, string_bytes}
use Rattle.connect_run.specs.declared.status.Status.TheVariants.{Unsuited}
use Rattle.connect_run.specs.SolvedCase.{AnswersSolved}
use Rattle.connect_run.proofs.CommandLemmas.{ok-asks, err-asks}
use Rattle.connect_run.proofs.answer.reply_to_graph.Goals as goal

pub solved_text-requires-clause-suits : goal.solved_text-requires-clause-suits
solved_text-requires-clause-suits g c = (ok-asks c.args.graph.now (map string_bytes c.args.words.now) c.args.command.now c.in-Ok.ask c.requires.solves c.in-Ok.ensures.answer).suits

pub returns-in-Ok-solved_text-clause-replies : goal.returns-in-Ok-solved_text-clause-replies
returns-in-Ok-solved_text-clause-replies g c =
    let can = ok-asks c.args.graph.now (map string_bytes c.args.words.now) c.args.command.now c.in-Ok.ask c.requires.solves c.in-Ok.ensures.answer in
    let solved = subst (λ text. AnswersSolved c.args.graph.now c.in-Ok.ask text c.in-Ok-solved_text.solved.status) (sym c.deref.ensures.value) c.in-Ok-solved_text.ensures in
    inl (c.deref.result.now, c.in-Ok-solved_text.solved.status, (c.in-Ok.ask, can.asks, inr solved), c.say.ensures.said)

pub returns-in-Err-clause-replies : goal.returns-in-Err-clause-replies
returns-in-Err-clause-replies g c =
    let (ask, asks, unsuited) = err-asks c.args.graph.now (map string_bytes c.args.words.now) c.args.command.now c.in-Err.misfit c.requires.solves c.in-Err.ensures.answer in
    inl (c.as_slice.result.now, Unsuited, (ask, asks, inl (record { misfit = c.in-Err.misfit; unsuited = unsuited; status_is = refl; text_is = c.as_slice.ensures.value ∙ c.unsuited_line-text.ensures })), c.say-in-Err.ensures.said)
