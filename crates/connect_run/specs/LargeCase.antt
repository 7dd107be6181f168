-- An input of too many bytes.
use Rattle.std.specs.Prelude.{ℕ, ◌≡◌, ◌<◌, List, length, codes}
use Rattle.connect_run.specs.declared.status.Status.{Status}
use Rattle.connect_run.specs.declared.status.Status.TheVariants.{TooLarge}

-- the most bytes of an input
abbrev pub limit : ℕ
limit = 33554432

pub record AnswersTooLong (input text : List ℕ) (status : Status) : Type 0 where
  pub long : limit < length input
  pub status_is : status ≡ TooLarge
  pub text_is : text ≡ codes "large bytes\n"
