-- Words have one meaning.
use Rattle.std.proofs.Common.{◌≡◌, ℕ, ◌-◌, ◌^◌, ◌<◌, ◌≤◌, List, [], ◌∷◌, refl, sym, ◌∙◌, ap, arith, inl, inr}
use Rattle.std.specs.Fmt.{decimal}
use Rattle.std.specs.Str.Parse.{digits_value}
use Rattle.std.proofs.lemmas.Fmt.{digits_value-decimal}
use Rattle.std.proofs.lemmas.Bool.{cases_lt}
use Rattle.problem_defs.specs.Ask.{IsK}
use Rattle.connect_words.specs.declared.command.Command.{Command}
use Rattle.connect_words.specs.declared.command.Command.TheVariants.{Flow, CutTree, Augment, AugmentArcs, Arborescences, Trees, Forests, Orient, Dijoin, Check, Trial}
use Rattle.connect_words.specs.declared.command.TrialKind.{TrialKind}
use Rattle.connect_words.specs.declared.blank.FirstWord.{FirstWord}
use Rattle.connect_words.specs.declared.blank.FirstWord.TheVariants as first
use Rattle.problem_defs.specs.declared.verb.Verb.TheVariants as verb
use Rattle.connect_words.specs.Commands.{Fill, word, Writes, kind_word, IsNodes, IsNumber}
use Rattle.connect_words.specs.Places.{IsFirstBadPlace}
use Rattle.connect_words.specs.Blanks.{first_of}
use Rattle.connect_words.proofs.NumberLemmas.{own}
use Rattle.connect_words.proofs.CommandLemmas.{writes_blanks}
use Rattle.connect_words.proofs.PlaceLemmas.{writes_some}
use Rattle.connect_words.proofs.VerbLemmas.{first_word_injective, kind_named, kind_named-kind_word}

-- the command of a first word and the words behind it
abbrev with_number : (ℕ → Command) → List (List ℕ) → Command
with_number command [] = CutTree
with_number command (w ∷ ws) = command (digits_value 10 w)

abbrev with_trial : List (List ℕ) → Command
with_trial [] = CutTree
with_trial (a ∷ []) = CutTree
with_trial (a ∷ b ∷ []) = CutTree
with_trial (a ∷ b ∷ c ∷ ws) = Trial (kind_named a) (digits_value 10 b) (digits_value 10 c)

abbrev meant : FirstWord → List (List ℕ) → Command
meant (first.Asks verb.Flow) ws = Flow
meant (first.Asks verb.CutTree) ws = CutTree
meant (first.Asks verb.Augment) ws = with_number (λ k. Augment k) ws
meant (first.Asks verb.AugmentArcs) ws = with_number (λ k. AugmentArcs k) ws
meant (first.Asks verb.Arborescences) ws = Arborescences
meant (first.Asks verb.Trees) ws = Trees
meant (first.Asks verb.Forests) ws = Forests
meant (first.Asks verb.Orient) ws = with_number (λ k. Orient k) ws
meant (first.Asks verb.Dijoin) ws = Dijoin
meant first.Check ws = Check
meant first.Trial ws = with_trial ws

value : (low high n : ℕ) (w : List ℕ) → high < 2 ^ 64 → (low ≤ n) × (n ≤ high) → w ≡ decimal n → digits_value 10 w ≡ n
value low high n w fits limits is = ap (digits_value 10) is ∙ digits_value-decimal own n (omega (arith, fits, limits.0, limits.1))

number-meant : (command : ℕ → Command) (k : ℕ) (ws : List (List ℕ)) → IsK k → Fill (word (decimal k) ∷ []) ws → with_number command ws ≡ command k
number-meant command k [] limits fill = absurd fill
number-meant command k (w ∷ ws) limits fill = ap command (value 1 32 k w (omega arith) limits fill.0)

trial_same : {k k' : TrialKind} {n n' m m' : ℕ} → k ≡ k' → n ≡ n' → m ≡ m' → Trial k n m ≡ Trial k' n' m'
trial_same ek en em = cc

trial-meant : (kind : TrialKind) (nodes number : ℕ) (ws : List (List ℕ)) → IsNodes nodes × IsNumber number → Fill (word (kind_word kind) ∷ word (decimal nodes) ∷ word (decimal number) ∷ []) ws → with_trial ws ≡ Trial kind nodes number
trial-meant kind nodes number [] limits fill = absurd fill
trial-meant kind nodes number (a ∷ []) limits fill = absurd fill.1
trial-meant kind nodes number (a ∷ b ∷ []) limits fill = absurd fill.1.1
trial-meant kind nodes number (a ∷ b ∷ c ∷ ws) (few, fits) (is_kind, (is_nodes, (is_number, rest))) =
    trial_same (ap kind_named is_kind ∙ kind_named-kind_word kind) (value 2 128 nodes b (omega arith) few is_nodes) (value 0 (2 ^ 32 - 1) number c (omega arith) fits is_number)

writes-meant : (command : Command) (w : List ℕ) (ws : List (List ℕ)) → Writes command (w ∷ ws) → meant (first_of command) ws ≡ command
writes-meant (Augment k) w ws h = number-meant (λ k. Augment k) k ws h.limits h.fill.1
writes-meant (AugmentArcs k) w ws h = number-meant (λ k. AugmentArcs k) k ws h.limits h.fill.1
writes-meant (Orient k) w ws h = number-meant (λ k. Orient k) k ws h.limits h.fill.1
writes-meant (Trial kind nodes number) w ws h = trial-meant kind nodes number ws h.limits h.fill.1
writes-meant command w ws h = refl

pub one_command : (words : List (List ℕ)) (one other : Command) → Writes one words → Writes other words → one ≡ other
one_command [] one other h g = absurd (writes_some one h)
one_command (w ∷ ws) one other h g =
    let same : first_of one ≡ first_of other = first_word_injective (first_of one) (first_of other) (sym (writes_blanks one w ws h).0 ∙ (writes_blanks other w ws g).0) in
    sym (writes-meant one w ws h) ∙ ap (λ v. meant v ws) same ∙ writes-meant other w ws g

pub not_both : (words : List (List ℕ)) (command : Command) (place : ℕ) → Writes command words → IsFirstBadPlace words place → ⊥
not_both words command place h bad = bad.bad (command, words, h, λ at below. refl)

pub one_place : (words : List (List ℕ)) (one other : ℕ) → IsFirstBadPlace words one → IsFirstBadPlace words other → one ≡ other
one_place words one other h g =
    elim (cases_lt one other) [
      | inl below ↦ absurd (h.bad (g.first one below))
      | inr over ↦ elim (cases_lt other one) [ inl below ↦ absurd (g.bad (h.first other below)) | inr under ↦ omega (arith, over, under) ]
    ]
