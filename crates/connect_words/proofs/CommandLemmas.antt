-- Commands, and the blanks behind their first words.
use Rattle.std.proofs.Common.{◌≡◌, ℕ, List, [], ◌∷◌, refl}
use Rattle.std.specs.Fmt.{decimal}
use Rattle.problem_defs.specs.Ask.{IsK}
use Rattle.connect_words.specs.declared.command.Command.{Command}
use Rattle.connect_words.specs.declared.command.Command.TheVariants.{Flow, CutTree, Augment, AugmentArcs, Arborescences, Trees, Forests, Orient, Dijoin, Check, Trial}
use Rattle.connect_words.specs.declared.command.TrialKind.{TrialKind}
use Rattle.connect_words.specs.declared.blank.FirstWord.{FirstWord}
use Rattle.connect_words.specs.declared.blank.FirstWord.TheVariants as first
use Rattle.problem_defs.specs.declared.verb.Verb.TheVariants as verb
use Rattle.connect_words.specs.declared.blank.Blank.{Blank}
use Rattle.connect_words.specs.declared.blank.Blank.TheVariants.{Name, Kind, K, Nodes, Number}
use Rattle.connect_words.specs.Commands.{Place, word, name, Stands, Fill, Writes, IsNodes, IsNumber, kind_word, places}
use Rattle.connect_words.specs.Blanks.{MayStand, AllMayStand, blanks, first_word, first_of}

-- what stands at a place may stand in the blank
abbrev Covers : List Blank → List Place → Type 0
Covers [] [] = Unit {0}
Covers [] (place ∷ places) = ⊥
Covers (blank ∷ blanks) [] = ⊥
Covers (blank ∷ blanks) (place ∷ places) = ((given : List ℕ) → Stands place given → MayStand blank given) × Covers blanks places

suit_all : (ss : List Blank) (ps : List Place) (ws : List (List ℕ)) → Covers ss ps → Fill ps ws → AllMayStand ss ws
suit_all [] [] [] covers fill = tt
suit_all [] [] (w ∷ ws) covers fill = fill
suit_all [] (p ∷ ps) ws covers fill = absurd covers
suit_all (s ∷ ss) [] ws covers fill = absurd covers
suit_all (s ∷ ss) (p ∷ ps) [] covers fill = fill
suit_all (s ∷ ss) (p ∷ ps) (w ∷ ws) covers fill = (covers.0 w fill.0, suit_all ss ps ws covers.1 fill.1)

no_name : (ws : List (List ℕ)) → Fill [] ws → AllMayStand [] ws
no_name ws = suit_all [] [] ws tt

one_name : (ws : List (List ℕ)) → Fill (name ∷ []) ws → AllMayStand (Name ∷ []) ws
one_name ws = suit_all (Name ∷ []) (name ∷ []) ws ((λ given h. tt), tt)

two_names : (ws : List (List ℕ)) → Fill (name ∷ name ∷ []) ws → AllMayStand (Name ∷ Name ∷ []) ws
two_names ws = suit_all (Name ∷ Name ∷ []) (name ∷ name ∷ []) ws ((λ given h. tt), ((λ given h. tt), tt))

one_number : (k : ℕ) (ws : List (List ℕ)) → IsK k → Fill (word (decimal k) ∷ []) ws → AllMayStand (K ∷ []) ws
one_number k ws limits = suit_all (K ∷ []) (word (decimal k) ∷ []) ws ((λ given h. (k, limits, h)), tt)

of_trial : (kind : TrialKind) (nodes number : ℕ) (ws : List (List ℕ)) → IsNodes nodes × IsNumber number → Fill (word (kind_word kind) ∷ word (decimal nodes) ∷ word (decimal number) ∷ []) ws → AllMayStand (Kind ∷ Nodes ∷ Number ∷ []) ws
of_trial kind nodes number ws limits =
    suit_all (Kind ∷ Nodes ∷ Number ∷ []) (word (kind_word kind) ∷ word (decimal nodes) ∷ word (decimal number) ∷ []) ws
    ((λ given h. (kind, h)), ((λ given h. (nodes, limits.0, h)), ((λ given h. (number, limits.1, h)), tt)))

-- the words of a command: its first word, and words that may stand in the blanks
pub writes_blanks : (command : Command) (w : List ℕ) (ws : List (List ℕ)) → Writes command (w ∷ ws) → (w ≡ first_word (first_of command)) × AllMayStand (blanks (first_of command)) ws
writes_blanks Flow w ws h = (h.fill.0, two_names ws h.fill.1)
writes_blanks Arborescences w ws h = (h.fill.0, one_name ws h.fill.1)
writes_blanks (Augment k) w ws h = (h.fill.0, one_number k ws h.limits h.fill.1)
writes_blanks (AugmentArcs k) w ws h = (h.fill.0, one_number k ws h.limits h.fill.1)
writes_blanks (Orient k) w ws h = (h.fill.0, one_number k ws h.limits h.fill.1)
writes_blanks (Trial kind nodes number) w ws h = (h.fill.0, of_trial kind nodes number ws h.limits h.fill.1)
writes_blanks command w ws h = (h.fill.0, no_name ws h.fill.1)

nothing : (ws : List (List ℕ)) → AllMayStand [] ws → Fill [] ws
nothing [] h = tt
nothing (w ∷ ws) h = h

a_name : (ws : List (List ℕ)) → AllMayStand (Name ∷ []) ws → Fill (name ∷ []) ws
a_name [] h = h
a_name (w ∷ ws) h = (tt, nothing ws h.1)

names : (ws : List (List ℕ)) → AllMayStand (Name ∷ Name ∷ []) ws → Fill (name ∷ name ∷ []) ws
names [] h = h
names (w ∷ ws) h = (tt, a_name ws h.1)

-- words that may stand in the blanks behind a first word are those of a command
pub some_command : (v : FirstWord) (ws : List (List ℕ)) → AllMayStand (blanks v) ws → (command : Command) × Writes command (first_word v ∷ ws)
some_command (first.Asks verb.Flow) ws h = (Flow, record { limits = tt; fill = (refl, names ws h) })
some_command (first.Asks verb.CutTree) ws h = (CutTree, record { limits = tt; fill = (refl, nothing ws h) })
some_command (first.Asks verb.Augment) (w ∷ ws) ((n, limits, same), rest) = (Augment n, record { limits = limits; fill = (refl, (same, nothing ws rest)) })
some_command (first.Asks verb.Augment) [] h = absurd h
some_command (first.Asks verb.AugmentArcs) (w ∷ ws) ((n, limits, same), rest) = (AugmentArcs n, record { limits = limits; fill = (refl, (same, nothing ws rest)) })
some_command (first.Asks verb.AugmentArcs) [] h = absurd h
some_command (first.Asks verb.Arborescences) ws h = (Arborescences, record { limits = tt; fill = (refl, a_name ws h) })
some_command (first.Asks verb.Trees) ws h = (Trees, record { limits = tt; fill = (refl, nothing ws h) })
some_command (first.Asks verb.Forests) ws h = (Forests, record { limits = tt; fill = (refl, nothing ws h) })
some_command (first.Asks verb.Orient) (w ∷ ws) ((n, limits, same), rest) = (Orient n, record { limits = limits; fill = (refl, (same, nothing ws rest)) })
some_command (first.Asks verb.Orient) [] h = absurd h
some_command (first.Asks verb.Dijoin) ws h = (Dijoin, record { limits = tt; fill = (refl, nothing ws h) })
some_command first.Check ws h = (Check, record { limits = tt; fill = (refl, nothing ws h) })
some_command first.Trial (a ∷ b ∷ c ∷ ws) ((k, is_k), ((n, few, is_n), ((m, fits, is_m), rest))) =
    (Trial k n m, record { limits = (few, fits); fill = (refl, (is_k, (is_n, (is_m, nothing ws rest)))) })
some_command first.Trial [] h = absurd h
some_command first.Trial (a ∷ []) h = absurd h.1
some_command first.Trial (a ∷ b ∷ []) h = absurd h.1.1
