-- The exit number of each status.
use Rattle.std.specs.Prelude.{ℕ}
use Rattle.connect_run.specs.declared.status.Status.{Status}
use Rattle.connect_run.specs.declared.status.Status.TheVariants.{Done, Impossible, Rejected, BadWords, BadGraph, TooLarge, Unsuited, ReadFault, WriteFault, NoMemory}

abbrev pub exit_number : Status → ℕ
exit_number Done = 0
exit_number Impossible = 1
exit_number Rejected = 2
exit_number BadWords = 3
exit_number BadGraph = 4
exit_number TooLarge = 5
exit_number Unsuited = 6
exit_number ReadFault = 7
exit_number WriteFault = 8
exit_number NoMemory = 9
