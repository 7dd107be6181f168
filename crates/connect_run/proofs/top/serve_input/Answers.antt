use Rattle.std.proofs.Common.{refl, subst, inl, inr, map, string_bytes}
use Rattle.cn_edge.specs.Whole.{EndsAfter}
use Rattle.connect_run.specs.declared.status.Status.TheVariants.{TooLarge}
use Rattle.connect_run.specs.LargeCase.{limit}
use Rattle.connect_run.specs.Answer.{AnswersInput, AnswersCommand}
use Rattle.connect_run.specs.Saying.{Replies}
use Rattle.connect_run.proofs.AnswerLemmas.{says-writes, replies-writes, replies-weaker, reading-answers, whole_input, long_input}
use Rattle.connect_run.proofs.top.serve_input.Goals as goal

pub returns-in-Ok-clause-written : goal.returns-in-Ok-clause-written
returns-in-Ok-clause-written g c =
    let (short, taken, ended) = c.in-Ok.ensures.ok in
    let words = map string_bytes c.args.words.now in
    let command = c.args.command.now in
    replies-writes words command _ _ _ c.in-Ok.input.items _ c.requires.commands (whole_input _ _ _ taken ended)
    (replies-weaker (AnswersInput command words c.in-Ok.input.items) (AnswersCommand command words c.in-Ok.input.items)
    (λ text status answers. reading-answers command c.requires.reads words c.in-Ok.input.items text status (inr (short, answers))) _ _ _
    (subst (λ input. Replies (AnswersInput command words input) (g.K.Sink.written c.args.sink.now) (g.K.Sink.written c.reply.new.sink) c.reply.result) c.deref.ensures.value c.reply.ensures.replies))

pub returns-in-Err-TooLong-clause-written : goal.returns-in-Err-TooLong-clause-written
returns-in-Err-TooLong-clause-written g c =
    let (taken, consumed, many) = c.in-Err-TooLong.ensures.err in
    let many' = subst (λ end. EndsAfter end taken limit) c.in-Err-TooLong.field-0-is many in
    let (input, told, long) = long_input _ _ taken consumed many' in
    says-writes (map string_bytes c.args.words.now) _ _ _ _ TooLarge _ (input, told, inr (c.args.command.now, c.requires.commands, reading-answers c.args.command.now c.requires.reads (map string_bytes c.args.words.now) input _ TooLarge (inl (record { long = long; status_is = refl; text_is = refl })))) c.say.ensures.said
