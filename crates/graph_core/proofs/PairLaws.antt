-- Pairs of nodes, and lists of weighted pairs.
use Rattle.std.specs.Prelude.{ℕ, ◌≡◌, ◌≢◌, ◌+◌, ◌<◌, List, [], ◌∷◌, ◌++◌, length, take, All, refl}
use Rattle.std.proofs.Common.{sym, ap, ◌∙◌, subst, arith, inl, inr}
use Rattle.std.proofs.lemmas.Bool.{cases_lt, ne_eqb}
use Rattle.std.proofs.lemmas.List.{length-append, get_or_append_left, get_or-append-add, take-append-le}
use Rattle.std.proofs.Math.Seq.{take-append_seam}
use Rattle.std.proofs.lemmas.List.Elements.{All-head, All-tail}
use Rattle.graph_core.specs.Pairs.{apart, no_pair, pair_at}

-- pairs of different nodes are all kept
pub apart_all : (pairs : List (ℕ × ℕ)) → All (λ p. p.0 ≢ p.1) pairs → apart pairs ≡ pairs
apart_all [] different = refl
apart_all (p ∷ pairs) different =
    rw (ne_eqb p.0 p.1 (All-head (λ q. q.0 ≢ q.1) p pairs different)) (ap (λ ps. p ∷ ps) (apart_all pairs (All-tail (λ q. q.0 ≢ q.1) p pairs different)))

-- a pair behind the others
module _ (rows : List (ℕ × ℕ × ℕ)) (r : ℕ × ℕ × ℕ) where
  pub pair_kept : (j : ℕ) → j < length rows → pair_at (rows ++ r ∷ []) j ≡ pair_at rows j
  pair_kept j l = get_or_append_left rows (r ∷ []) no_pair j l

  pub pair_new : (j : ℕ) → j ≡ length rows → pair_at (rows ++ r ∷ []) j ≡ r
  pair_new j e = let e' : j ≡ length rows + 0 = omega arith in ap (pair_at (rows ++ r ∷ [])) e' ∙ get_or-append-add rows (r ∷ []) 0 no_pair

  -- what holds at each place, of the pairs before it and the one there
  pub each_place : (At : List (ℕ × ℕ × ℕ) → ℕ × ℕ × ℕ → Type 0) → ((j : ℕ) → j < length rows → At (take j rows) (pair_at rows j)) → At rows r
      → (j : ℕ) → j < length (rows ++ r ∷ []) → At (take j (rows ++ r ∷ [])) (pair_at (rows ++ r ∷ []) j)
  each_place At each new j l =
      let more = rows ++ r ∷ [] in
      let long : length more ≡ length rows + 1 = length-append rows (r ∷ []) in
      elim (cases_lt j (length rows)) [
        | inl before ↦ subst (At (take j more)) (sym (pair_kept j before)) (subst (λ b. At b (pair_at rows j)) (sym (take-append-le j rows (r ∷ []) (omega arith))) (each j before))
        | inr past ↦ (let e : j ≡ length rows = omega arith in
            let front : take j more ≡ rows = ap (λ i. take i more) e ∙ take-append_seam rows (r ∷ []) in
            subst (At (take j more)) (sym (pair_new j e)) (subst (λ b. At b r) (sym front) new))
      ]
