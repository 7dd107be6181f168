-- Words that are no command.
use Rattle.std.specs.Prelude.{ℕ, ◌≡◌, List, ◌++◌, codes, decimal}
use Rattle.connect_words.specs.Places.{IsFirstBadPlace}
use Rattle.connect_run.specs.declared.status.Status.{Status}
use Rattle.connect_run.specs.declared.status.Status.TheVariants.{BadWords}

abbrev pub words_text : ℕ → List ℕ
words_text place = codes "words " ++ (decimal place ++ codes "\n")

-- the first place at which no command goes on as the words do
pub record AnswersBadWords (words : List (List ℕ)) (text : List ℕ) (status : Status) : Type 0 where
  pub place : ℕ
  pub bad : IsFirstBadPlace words place
  pub status_is : status ≡ BadWords
  pub text_is : text ≡ words_text place
