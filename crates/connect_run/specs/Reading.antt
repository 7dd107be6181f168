-- Words that are a command, and commands that read an input.
use Rattle.std.specs.Prelude.{ℕ, ◌≡◌, Bool, true, false, List}
use Rattle.connect_words.specs.Commands.{Writes}
use Rattle.connect_words.specs.declared.command.Command.{Command}
use Rattle.connect_words.specs.declared.command.Command.TheVariants.{Trial}

abbrev pub AreCommand : List (List ℕ) → Type 0
AreCommand words = (command : Command) × Writes command words

-- each but `trial`
abbrev pub reads_input : Command → Bool
reads_input (Trial kind nodes number) = false
reads_input other = true

-- the words are a command that reads an input
abbrev pub AreReading : List (List ℕ) → Type 0
AreReading words = (command : Command) × Writes command words × (reads_input command ≡ true)
