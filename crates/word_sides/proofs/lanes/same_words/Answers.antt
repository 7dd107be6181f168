use Rattle.std.proofs.Common.{ℕ, ap, get_or, Fits, w64, rules}
use Rattle.std.proofs.lemmas.Bool.Decides.{Decides-eqb}
use Rattle.std.proofs.lemmas.Slice.Eq.{slice_eq-Decides}
use Rattle.word_sides.specs.Words.{value}
use Rattle.word_sides.proofs.WordLaws.{same_values}
use Rattle.word_sides.proofs.lanes.same_words.Goals as goal

pub returns : goal.returns
returns c =
    let fits_x : (k : ℕ) → Fits w64 (get_or c.args.xs.now k 0) = search rules in
    let fits_y : (k : ℕ) → Fits w64 (get_or c.args.ys.now k 0) = search rules in
    let same = slice_eq-Decides Decides-eqb c.args.xs.now c.args.ys.now c.eq.result c.eq.ensures in
    (λ yes i. ap (λ ws. value ws i) (same.0 yes), λ h. same.1 (same_values c.args.xs.now c.args.ys.now c.requires fits_x fits_y h))
