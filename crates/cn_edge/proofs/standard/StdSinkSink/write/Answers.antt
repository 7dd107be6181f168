-- A call that fails wrote a part and didn't flush it, or wrote nothing.
use Rattle.std.proofs.Common.{ℕ, List, [], take}
use Rattle.std.specs.declared.option.Option.{Option}
use Rattle.std.specs.Io.KnownBytes.{Keeps, Appends}
use Rattle.std.proofs.KnownBytes.{Appends-nil, Appends-kept}
use Rattle.cn_edge.proofs.standard.StdSinkSink.write.Goals as goal
use Rattle.cn_edge.proofs.standard.StdSinkSink.write.Goals.{in-Ok+else-count-gt0, else-count-gt0-via-then-count-gt0+else-is_ok, else-count-gt0-via-else-count-gt0, in_default}

nothing : (old new : Option (List ℕ)) (part : List ℕ) → Keeps old new → (n : ℕ) × Appends old new (take n part)
nothing old new part kept = (0, Appends-kept old old new [] (Appends-nil old) kept)

pub returns-clause-inner_at_fault : goal.returns-clause-inner_at_fault
returns-clause-inner_at_fault g c =
    elim c.match-write.branch [
      | in-Ok+else-count-gt0 w ↦ elim w.else-count-gt0.branch [
        | else-count-gt0-via-then-count-gt0+else-is_ok w' ↦ let s = w'.self-is in let s2 = w.self-is in rw (s2, s) (w.in-Ok.count, Appends-kept _ _ _ _ w.in-Ok.ensures.bytes w'.flush.ensures.bytes)
        | else-count-gt0-via-else-count-gt0 w' ↦ let s = w'.self-is in let s2 = w.self-is in rw (s2, s) (w.in-Ok.count, w.in-Ok.ensures.bytes)
      ]
      | in_default w ↦ let s = w.self-is in rw s (nothing _ _ _ w.in_default.ensures.bytes)
    ]
