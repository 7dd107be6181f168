-- What a search answers: a value with the property whose image is wanted, or nothing where no value is such. No public clause cites it.
use Rattle.std.specs.Prelude.{◌≡◌, ◌≢◌, Option, MatchOption}

abbrev pub Finds : {A B : Type 0} → (A → Type 0) → (A → B) → B → Option A → Type 0
Finds {A = A} P image wanted found = MatchOption found ((a : A) → P a → image a ≢ wanted) (λ a. P a × (image a ≡ wanted))
