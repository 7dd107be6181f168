use Rattle.std.proofs.Common.{refl, inl, ◌∙◌, map, string_bytes}
use Rattle.connect_run.specs.declared.status.Status.TheVariants.{BadWords}
use Rattle.connect_run.proofs.AnswerLemmas.{says-writes, some_input}
use Rattle.connect_run.proofs.CommandLemmas.{command-not-bad}
use Rattle.connect_run.proofs.top.serve.Goals as goal

pub returns-in-Err-clause-written : goal.returns-in-Err-clause-written
returns-in-Err-clause-written g c =
    let (input, told) = some_input (g.S.Source.left c.args.source.now) in
    says-writes (map string_bytes c.args.words.now) _ _ _ _ BadWords _ (input, told, inl (record { place = c.in-Err.fault.place; bad = c.in-Err.ensures.fault; status_is = refl; text_is = c.as_slice.ensures.value ∙ c.words_line-text.ensures })) c.say.ensures.said

pub returns-in-Err-clause-drained : goal.returns-in-Err-clause-drained
returns-in-Err-clause-drained g c = λ reading read memory. absurd (command-not-bad _ c.in-Err.fault.place c.in-Err.ensures.fault (reading.0, reading.1))

pub returns-in-Err-clause-trial : goal.returns-in-Err-clause-trial
returns-in-Err-clause-trial g c = λ kind nodes number commands. absurd (command-not-bad _ c.in-Err.fault.place c.in-Err.ensures.fault (_, commands))
