use Rattle.std.proofs.Common.{map, string_bytes, subst, sym}
use Rattle.connect_run.specs.Answer.{AnswersInput}
use Rattle.connect_run.specs.Saying.{Replies}
use Rattle.connect_run.proofs.CommandLemmas.{solves-unless}
use Rattle.connect_run.proofs.answer.reply.Goals as goal

pub returns-in-Check-clause-replies : goal.returns-in-Check-clause-replies
returns-in-Check-clause-replies g c =
    let words = map string_bytes c.args.words.now in
    subst (λ command. Replies (AnswersInput command words c.args.input.now) (g.K.Sink.written c.args.sink.now) (g.K.Sink.written c.reply_to_check.new.sink) c.reply_to_check.result) (sym c.in-Check.is) (c.reply_to_check.ensures.replies words)

pub reply_to_text-requires-clause-solves : goal.reply_to_text-requires-clause-solves
reply_to_text-requires-clause-solves g c = solves-unless c.args.command.now c.requires.reads c.in_default.not-Check
