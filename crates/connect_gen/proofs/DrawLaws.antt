-- How a row of draws goes on.
use Rattle.std.proofs.Common.{◌≡◌, ℕ, ◌+◌, ◌*◌, ◌/◌, ◌%◌, ◌<◌, refl, sym, subst, ◌∙◌}
use Rattle.std.proofs.Math.Nat.{mod-add-mod, mod-lt}
use Rattle.std.proofs.Math.Numerals.{add-one}
use Rattle.connect_gen.specs.Draws.{next_state, state, drawn}

-- a product that wraps, with a sum that wraps, is the next state
pub wraps-next : (s : ℕ) → (s * 6364136223846793005 % 18446744073709551616 + 1442695040888963407) % 18446744073709551616 ≡ next_state s
unfolding next_state
wraps-next s = mod-add-mod (s * 6364136223846793005) 18446744073709551616 1442695040888963407

-- the state after no draw, and after one more
pub state-none : (number : ℕ) → state number 0 ≡ number
unfolding state
state-none number = refl

pub state-more : (number k more : ℕ) → more ≡ k + 1 → next_state (state number k) ≡ state number more
unfolding state
state-more number k more e = subst (λ x. next_state (state number k) ≡ state number x) (sym (e ∙ add-one k)) refl

pub drawn-below : (s bound : ℕ) → 0 < bound → drawn s bound < bound
unfolding drawn
drawn-below s bound some = mod-lt (s / 8589934592) some
