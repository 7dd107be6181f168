use Rattle.std.proofs.Common.{map, string_bytes, subst, ◌∙◌, inl, inr}
use Rattle.graph_text.specs.Reading.{IsRefusedAlone}
use Rattle.connect_run.specs.Answer.{AnswersInput, AnswersGraph}
use Rattle.connect_run.proofs.AnswerLemmas.{replies-weaker, text-of, fault-of, faults}
use Rattle.connect_run.proofs.answer.reply_to_text.Goals as goal

pub returns-in-Ok-clause-replies : goal.returns-in-Ok-clause-replies
returns-in-Ok-clause-replies g c =
    let words = map string_bytes c.args.words.now in
    let command = c.args.command.now in
    replies-weaker (AnswersGraph command words c.in-Ok.graph) (AnswersInput command words c.args.input.now)
    (λ text status answers. inr (text-of command c.requires.solves words c.args.input.now c.in-Ok.graph text status c.in-Ok.ensures.text answers)) _ _ _ c.reply_to_graph.ensures.replies

pub returns-in-Err-Fault-clause-replies : goal.returns-in-Err-Fault-clause-replies
returns-in-Err-Fault-clause-replies g c =
    let e = c.in-Err-Fault in
    let fault = subst (IsRefusedAlone c.args.input.now) e.field-0-is e.ensures.refused in
    inl (
      c.as_slice.result.now,
      c.fault_line-status.result.0,
      inl (faults c.args.command.now c.args.input.now _ _ e.line _ e.why _ e.line-is e.why-is (fault-of c.args.command.now c.requires.solves c.args.input.now e.line e.why fault) c.fault_line-status.ensures.status (c.as_slice.ensures.value ∙ c.fault_line-status.ensures.text)),
      c.say.ensures.said,
    )
