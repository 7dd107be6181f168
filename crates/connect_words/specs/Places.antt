-- The first bad word.
use Rattle.std.specs.Prelude.{◌≡◌, ℕ, ◌<◌, List, slice_get}
use Rattle.connect_words.specs.declared.command.Command.{Command}
use Rattle.connect_words.specs.Commands.{Writes}

-- Some command has these words at the first so many places. Past the last word nothing stands at a place.
abbrev pub SomeCommandBegins : List (List ℕ) → ℕ → Type 0
SomeCommandBegins words count =
    (command : Command) × (full : List (List ℕ)) × Writes command full × ((at : ℕ) → at < count → slice_get full at ≡ slice_get words at)

-- The first place, counted from 1, at which no command goes on as the words do.
pub record IsFirstBadPlace (words : List (List ℕ)) (place : ℕ) : Type 0 where
  pub bad : ¬ SomeCommandBegins words place
  pub first : (earlier : ℕ) → earlier < place → SomeCommandBegins words earlier
