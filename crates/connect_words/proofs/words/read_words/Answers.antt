use Rattle.std.proofs.Common.{◌+◌, ◌<◌, length, map, string_bytes, sym, subst, inl, inr}
use Rattle.std.proofs.lemmas.List.{length-map}
use Rattle.connect_words.proofs.PlaceLemmas.{first_is_bad}
use Rattle.connect_words.proofs.ReaderLemmas.{Filled, filled_is_bad}
use Rattle.connect_words.proofs.words.read_words.Goals as goal
use Rattle.connect_words.proofs.words.read_words.Goals.{then-filled-blanks-via-then-filled-blanks, then-filled-blanks-via-else-filled-blanks+then-blanks-words}

pub returns-in_default-clause-fault : goal.returns-in_default-clause-fault
returns-in_default-clause-fault c = first_is_bad (map string_bytes c.args.words.now) c.in_default.ensures.absent

pub returns-then-filled-blanks-clause-fault : goal.returns-then-filled-blanks-clause-fault
returns-then-filled-blanks-clause-fault c =
    let found = c.in-Some.ensures.found in
    let known = c.filled-filled.ensures in
    let filled : Filled (map string_bytes c.args.words.now) c.in-Some.first c.blanks-blanks.result.now c.filled-filled.result = record { blanks_are = c.blanks-blanks.ensures; head = found; within = known.within; before = known.before; stop = known.stop } in
    filled_is_bad (map string_bytes c.args.words.now) c.in-Some.first c.blanks-blanks.result.now c.filled-filled.result filled (elim c.then-filled-blanks.branch [
      | then-filled-blanks-via-then-filled-blanks w ↦ inl w.if-filled-blanks.true
      | then-filled-blanks-via-else-filled-blanks+then-blanks-words w ↦ inr (subst (λ k. length c.blanks-blanks.result.now + 1 < k) (sym (length-map c.args.words.now string_bytes)) w.if-blanks-words.true)
    ])
