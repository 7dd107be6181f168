use Rattle.std.proofs.Common.{ℕ, ◌+◌, ◌*◌, ◌<◌, ◌≡◌, ap, sym, subst, ◌∙◌, not, cond, ltb, inl, inr, get_or, set, arith}
use Rattle.std.specs.Prelude.{bit_xor}
use Rattle.std.proofs.lemmas.Bool.{cases_eq}
use Rattle.std.proofs.lemmas.List.{get_or-set_same, get_or-set_other}
use Rattle.word_sides.specs.Words.{bit}
use Rattle.word_sides.proofs.BitLaws.{bit-xor}
use Rattle.word_sides.proofs.WordLaws.{values-turned, clean-turned}
use Rattle.word_sides.proofs.lanes.complement_words.Goals as goal

below-other : (k j : ℕ) → k < j + 1 → (k ≡ j → ⊥) → k < j
below-other k j l ne = omega arith

pub returns-clause-clean : goal.returns-clause-clean
returns-clause-clean c = clean-turned c.args.n c.args.words.now c.loop-j.words c.requires (omega arith) (λ j b lj lb. c.loop-j.invariant.done j b (omega arith) lb)

pub returns-clause-turned : goal.returns-clause-turned
returns-clause-turned c = values-turned c.args.n c.args.words.now c.loop-j.words c.requires (omega arith) (λ j b lj lb. c.loop-j.invariant.done j b (omega arith) lb)

pub loop-j-preserved : goal.loop-j-preserved
loop-j-preserved c =
    let j = c.loop-j.j in
    let ws = c.loop-j.words in
    let old = c.args.words.now in
    let made = bit_xor (get_or ws j 0) c.full_word.result in
    let here : (b : ℕ) → b < 64 → bit (get_or (set ws j made) j 0) b ≡ cond (ltb (64 * j + b) c.args.n) (not (bit (get_or old j 0) b)) (bit (get_or old j 0) b) =
    λ b lb. ap (λ w. bit w b) (get_or-set_same ws j made 0 (omega arith)) ∙ bit-xor (get_or ws j 0) c.full_word.result b
    ∙ ap (λ w. cond (bit c.full_word.result b) (not (bit w b)) (bit w b)) (c.loop-j.invariant.left j (omega arith))
    ∙ ap (λ t. cond t (not (bit (get_or old j 0) b)) (bit (get_or old j 0) b)) (c.full_word.ensures b lb) in
    record {
      done = λ k b l lb. elim (cases_eq k j) [
        | inl e ↦ subst (λ m. bit (get_or (set ws j made) m 0) b ≡ cond (ltb (64 * m + b) c.args.n) (not (bit (get_or old m 0) b)) (bit (get_or old m 0) b)) (sym e) (here b lb)
        | inr ne ↦ ap (λ w. bit w b) (get_or-set_other ws j k made 0 ne) ∙ c.loop-j.invariant.done k b (below-other k j l ne) lb
      ];
      left = λ k l. get_or-set_other ws j k made 0 (λ e. absurd (omega arith)) ∙ c.loop-j.invariant.left k (omega arith);
    }
