-- Exchanges in a matroid.
use Rattle.std.proofs.Common.{ℕ, zero, suc, ◌≡◌, ◌≢◌, ◌+◌, ◌<◌, ◌≤◌, Bool, true, false, List, sym, ◌∙◌, arith, ⊎_elim, subst}
use Rattle.std.proofs.lemmas.Bool.{cases_lt, cases_eq, both_ways}
use Rattle.graph_core.specs.Side.{size}
use Rattle.matroid_union.specs.Matroid.{IsMatroid}
use Rattle.matroid_union.specs.Sets.{plus, minus, swap}
use Rattle.graph_core.specs.Sets.{set_of}
use Rattle.matroid_union.proofs.Members.{plus-old, plus-new, plus-cases, plus-false, minus-in, minus-out, swap-old, swap-new, swap-cases}
use Rattle.matroid_union.proofs.Sizes.{set-plus, count-full, count-plus, count-minus, count-swap}
use Rattle.graph_core.proofs.SetLaws.{has_of, length_of}

-- a member of g that f can take
pub record Gives (n : ℕ) (free : List Bool → Type 0) (f g : ℕ → Bool) : Type 0 where
  pub taken : ℕ
  pub below : taken < n
  pub theirs : g taken ≡ true
  pub fresh : f taken ≡ false
  pub stays : free (set_of n (plus f taken))

module _ (n : ℕ) (free : List Bool → Type 0) (m : IsMatroid n free) where
  pub part_of : (f g : ℕ → Bool) → ((k : ℕ) → k < n → f k ≡ true → g k ≡ true) → free (set_of n g) → free (set_of n f)
  part_of f g h w =
      m.part (set_of n f) (set_of n g) (length_of n f) (length_of n g)
      (λ e l p. has_of n g e l ∙ h e l (sym (has_of n f e l) ∙ p)) w

  pub take_of : (f g : ℕ → Bool) → free (set_of n f) → free (set_of n g) → size (set_of n f) < size (set_of n g) → Gives n free f g
  take_of f g v w l =
      let t = m.take (set_of n f) (set_of n g) (length_of n f) (length_of n g) v w l in
      record {
        taken = t.taken;
        below = t.below;
        theirs = sym (has_of n g t.taken t.below) ∙ t.theirs;
        fresh = sym (has_of n f t.taken t.below) ∙ t.fresh;
        stays = subst free (set-plus n f t.taken t.below) t.stays;
      }

  -- an exchange stays possible where z joins
  pub swap_joined : (f : ℕ → Bool) (y x z : ℕ) → y < n → x < n → z < n → f y ≡ true → f x ≡ false → f z ≡ false → x ≢ z → free (set_of n (plus f z)) → (free (set_of n (plus f x)) → ⊥) → free (set_of n (swap f y x)) → free (set_of n (swap (plus f z) y x))
  swap_joined f y x z ly lx lz hy hx hz ne joined full swapped =
      let as_many = count-swap n f y x ly lx hy hx in
      let one_more = count-plus n f z lz hz in
      let g = take_of (swap f y x) (plus f z) swapped joined (omega arith) in
      let within_y : g.taken ≡ y → (k : ℕ) → k < n → plus f x k ≡ true → plus (swap f y x) g.taken k ≡ true =
      λ e k _ p. ⊎_elim
      (λ a. ⊎_elim (λ ky. plus-new (swap f y x) g.taken k (ky ∙ sym e)) (λ ny. plus-old (swap f y x) g.taken k (swap-old f y x k a ny)) (cases_eq k y))
      (λ kx. plus-old (swap f y x) g.taken k (swap-new f y x k kx))
      (plus-cases f x k p) in
      let within_z : g.taken ≡ z → (k : ℕ) → k < n → swap (plus f z) y x k ≡ true → plus (swap f y x) g.taken k ≡ true =
      λ e k _ p. ⊎_elim
      (λ a. ⊎_elim (λ old. plus-old (swap f y x) g.taken k (swap-old f y x k old a.1)) (λ kz. plus-new (swap f y x) g.taken k (kz ∙ sym e)) (plus-cases f z k a.0))
      (λ kx. plus-old (swap f y x) g.taken k (swap-new f y x k kx))
      (swap-cases (plus f z) y x k p) in
      ⊎_elim
      (λ old. ⊎_elim
      (λ e. absurd (full (part_of (plus f x) (plus (swap f y x) g.taken) (within_y e) g.stays)))
      (λ ny. absurd (both_ways (swap f y x g.taken) g.fresh (swap-old f y x g.taken old ny)))
      (cases_eq g.taken y))
      (λ e. part_of (swap (plus f z) y x) (plus (swap f y x) g.taken) (within_z e) g.stays)
      (plus-cases f z g.taken g.theirs)

  -- an exchange stays impossible where z leaves
  pub swap_left : (f : ℕ → Bool) (z y x : ℕ) → z < n → y < n → x < n → f z ≡ true → f y ≡ true → f x ≡ false → y ≢ z → free (set_of n f) → (free (set_of n (swap f z x)) → ⊥) → (free (set_of n (swap f y x)) → ⊥) → free (set_of n (swap (minus f z) y x)) → ⊥
  swap_left f z y x lz ly lx hz hy hx ne whole no_z no_y both =
      let as_many = count-swap n (minus f z) y x ly lx (minus-in f z y hy ne) (minus-out f z x hx) in
      let one_less = count-minus n f z lz hz in
      let g = take_of (swap (minus f z) y x) f both whole (omega arith) in
      let within_z : g.taken ≡ z → (k : ℕ) → k < n → swap f y x k ≡ true → plus (swap (minus f z) y x) g.taken k ≡ true =
      λ e k _ p. ⊎_elim
      (λ a. ⊎_elim (λ kz. plus-new (swap (minus f z) y x) g.taken k (kz ∙ sym e))
      (λ nz. plus-old (swap (minus f z) y x) g.taken k (swap-old (minus f z) y x k (minus-in f z k a.0 nz) a.1)) (cases_eq k z))
      (λ kx. plus-old (swap (minus f z) y x) g.taken k (swap-new (minus f z) y x k kx))
      (swap-cases f y x k p) in
      let within_y : g.taken ≡ y → (k : ℕ) → k < n → swap f z x k ≡ true → plus (swap (minus f z) y x) g.taken k ≡ true =
      λ e k _ p. ⊎_elim
      (λ a. ⊎_elim (λ ky. plus-new (swap (minus f z) y x) g.taken k (ky ∙ sym e))
      (λ ny. plus-old (swap (minus f z) y x) g.taken k (swap-old (minus f z) y x k (minus-in f z k a.0 a.1) ny)) (cases_eq k y))
      (λ kx. plus-old (swap (minus f z) y x) g.taken k (swap-new (minus f z) y x k kx))
      (swap-cases f z x k p) in
      ⊎_elim
      (λ e. no_y (part_of (swap f y x) (plus (swap (minus f z) y x) g.taken) (within_z e) g.stays))
      (λ nz. ⊎_elim
      (λ e. no_z (part_of (swap f z x) (plus (swap (minus f z) y x) g.taken) (within_y e) g.stays))
      (λ ny. both_ways (swap (minus f z) y x g.taken) g.fresh (swap-old (minus f z) y x g.taken (minus-in f z g.taken g.theirs nz) ny))
      (cases_eq g.taken y))
      (cases_eq g.taken z)

  module _ (f : ℕ → Bool) (y x : ℕ) (ly : y < n) (lx : x < n) (hy : f y ≡ true) (hx : f x ≡ false) (whole : free (set_of n f)) where
    inside : (s : ℕ → Bool) → s y ≡ false → ((k : ℕ) → k < n → s k ≡ true → plus f x k ≡ true) → (k : ℕ) → k < n → s k ≡ true → swap f y x k ≡ true
    inside s sy within k l p =
        ⊎_elim
        (λ old. ⊎_elim (λ e. absurd (both_ways (s y) sy (rw (← e) p))) (λ ny. swap-old f y x k old ny) (cases_eq k y))
        (λ e. swap-new f y x k e)
        (plus-cases f x k (within k l p))

    as_large : (s : ℕ → Bool) → size (set_of n f) ≤ size (set_of n s) → s y ≡ false → ((k : ℕ) → k < n → s k ≡ true → plus f x k ≡ true) → free (set_of n s) → free (set_of n (swap f y x))
    as_large s le sy within part =
        part_of (swap f y x) s (count-full n s (swap f y x) (inside s sy within) (rw (count-swap n f y x ly lx hy hx) le)) part

    -- where a part s of f with x is free, and isn't with y, x can take the place of y
    found_by : (d : ℕ) (s : ℕ → Bool) → size (set_of n f) ≤ size (set_of n s) + d → s y ≡ false → s x ≡ true → ((k : ℕ) → k < n → s k ≡ true → plus f x k ≡ true) → free (set_of n s) → (free (set_of n (plus s y)) → ⊥) → free (set_of n (swap f y x))
    found_by zero s much sy sx within part stuck = as_large s (omega arith) sy within part
    found_by (suc d) s much sy sx within part stuck =
        ⊎_elim
        (λ less.
        let g = take_of s f part whole less in
        let one_more : size (set_of n (plus s g.taken)) ≡ size (set_of n s) + 1 = count-plus n s g.taken g.below g.fresh in
        let apart : y ≡ g.taken → ⊥ = λ e. stuck (rw e g.stays) in
        found_by d (plus s g.taken) (omega arith) (plus-false s g.taken y sy apart) (plus-old s g.taken x sx)
        (λ j l p. ⊎_elim (λ old. within j l old) (λ e. rw e (plus-old f x g.taken g.theirs)) (plus-cases s g.taken j p))
        g.stays
        (λ w. stuck (part_of (plus s y) (plus (plus s g.taken) y)
        (λ j l p. ⊎_elim (λ old. plus-old (plus s g.taken) y j (plus-old s g.taken j old)) (λ e. plus-new (plus s g.taken) y j e) (plus-cases s y j p)) w)))
        (λ le. as_large s le sy within part)
        (cases_lt (size (set_of n s)) (size (set_of n f)))

    pub found : (s : ℕ → Bool) → s y ≡ false → s x ≡ true → ((k : ℕ) → k < n → s k ≡ true → plus f x k ≡ true) → free (set_of n s) → (free (set_of n (plus s y)) → ⊥) → free (set_of n (swap f y x))
    found s = found_by (size (set_of n f)) s (omega arith)
