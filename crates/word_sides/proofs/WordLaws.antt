-- Laws of truth values in words.
use Rattle.std.proofs.Common.{ℕ, ◌≡◌, ◌≢◌, ◌<◌, ◌≤◌, ◌+◌, ◌*◌, ◌/◌, ◌%◌, refl, ap, sym, subst, ◌∙◌, inl, inr, Bool, false, not, cond, ◌&&◌, ◌||◌, List, length, map, replicate, get_or, set, ltb, arith, Fits}
use Rattle.std.specs.Int.{w64}
use Rattle.std.specs.Prelude.{bit_and, bit_or, All}
use Rattle.std.proofs.lemmas.Bool.{cases_lt, cases_eq, lt-ltb, le-ltb}
use Rattle.std.proofs.lemmas.List.{ext_get_or, get_or_past, get_or-map, get_or-replicate, get_or-set_same, get_or-set_other, length-map, length-replicate, length-set}
use Rattle.std.proofs.lemmas.List.Elements.{All-get_or, All-from_get_or}
use Rattle.std.proofs.lemmas.List.FromFn.{length-map-range_with_len, get_or-map-range_with_len, fill_by_all}
use Rattle.std.proofs.lemmas.Simd.{length-zip2, get_or-zip2}
use Rattle.word_sides.specs.Words.{bit, value, values, without, room, IsClean}
use Rattle.word_sides.proofs.BitLaws.{bit-zero, bit-and, bit-or, bit-without, same_bits}
use lib.Lanes.{zip2}

pub length-values : (n : ℕ) (ws : List ℕ) → length (values n ws) ≡ n
length-values n ws = length-map-range_with_len (value ws) 0 n

pub at-values : (n : ℕ) (ws : List ℕ) (i : ℕ) → i < n → get_or (values n ws) i false ≡ value ws i
at-values n ws i l = get_or-map-range_with_len (value ws) 0 n i i false l (omega arith)

-- a list is the values of words, by each of its places
pub values_are : (n : ℕ) (ws : List ℕ) (X : List Bool) → length X ≡ n → ((i : ℕ) → i < n → value ws i ≡ get_or X i false) → values n ws ≡ X
values_are n ws X long h = sym (fill_by_all (value ws) X n false long (λ k l. sym (h k l)))

pub value-past : (ws : List ℕ) (i : ℕ) → length ws ≤ i / 64 → value ws i ≡ false
value-past ws i l = ap (λ w. bit w (i % 64)) (get_or_past ws (i / 64) 0 l) ∙ bit-zero (i % 64)

pub value-word : (ws : List ℕ) (j b : ℕ) → b < 64 → value ws (64 * j + b) ≡ bit (get_or ws j 0) b
value-word ws j b l =
    let word : (64 * j + b) / 64 ≡ j = omega arith in
    let place : (64 * j + b) % 64 ≡ b = omega arith in
    ap (λ k. bit (get_or ws k 0) ((64 * j + b) % 64)) word ∙ ap (bit (get_or ws j 0)) place

-- where no bit past the values is set, the words say also past the end what the list does
pub at-clean : (n : ℕ) (ws : List ℕ) → IsClean n ws → (i : ℕ) → get_or (values n ws) i false ≡ value ws i
at-clean n ws clean i =
    elim (cases_lt i n) [
      | inl l ↦ at-values n ws i l
      | inr l ↦ get_or_past (values n ws) i false (omega (arith, length-values n ws)) ∙ sym (clean.past i l)
    ]

-- words are made by the values in them
pub same_values : (xs ys : List ℕ) → length xs ≡ length ys → ((k : ℕ) → Fits w64 (get_or xs k 0)) → ((k : ℕ) → Fits w64 (get_or ys k 0)) → ((i : ℕ) → value xs i ≡ value ys i) → xs ≡ ys
same_values xs ys e fx fy h =
    ext_get_or 0 xs ys e
    (λ j l. same_bits 64 (get_or xs j 0) (get_or ys j 0) ((fx j).fits) ((fy j).fits) (λ b lb. sym (value-word xs j b lb) ∙ h (64 * j + b) ∙ value-word ys j b lb))

pub zero_values : (ws : List ℕ) → ((k : ℕ) → Fits w64 (get_or ws k 0)) → ((i : ℕ) → value ws i ≡ false) → (j : ℕ) → get_or ws j 0 ≡ 0
zero_values ws fits h j = same_bits 64 (get_or ws j 0) 0 ((fits j).fits) (omega arith) (λ b lb. sym (value-word ws j b lb) ∙ h (64 * j + b) ∙ sym (bit-zero b))

-- the lists that words hold are equal where the words say the same of each place
pub same_lists : (n : ℕ) (xs ys : List ℕ) → ((i : ℕ) → value xs i ≡ value ys i) → values n xs ≡ values n ys
same_lists n xs ys h = values_are n xs (values n ys) (length-values n ys) (λ i l. h i ∙ sym (at-values n ys i l))

pub same_places : (n : ℕ) (xs ys : List ℕ) → IsClean n xs → IsClean n ys → values n xs ≡ values n ys → (i : ℕ) → value xs i ≡ value ys i
same_places n xs ys cx cy e i = sym (at-clean n xs cx i) ∙ ap (λ X. get_or X i false) e ∙ at-clean n ys cy i

-- ---- words that are all 0

pub all_false : (n : ℕ) (ws : List ℕ) → ((i : ℕ) → value ws i ≡ false) → All (λ b. b ≡ false) (values n ws)
all_false n ws h = All-from_get_or (λ b. b ≡ false) (values n ws) false (λ i l. at-values n ws i (omega (arith, length-values n ws)) ∙ h i)

pub none_true : (n : ℕ) (ws : List ℕ) → IsClean n ws → All (λ b. b ≡ false) (values n ws) → (i : ℕ) → value ws i ≡ false
none_true n ws clean all i =
    elim (cases_lt i n) [
      | inl l ↦ sym (at-values n ws i l) ∙ All-get_or (λ b. b ≡ false) (values n ws) i false (omega (arith, length-values n ws)) all
      | inr l ↦ clean.past i l
    ]

pub value-none : (ws : List ℕ) → ((k : ℕ) → get_or ws k 0 ≡ 0) → (i : ℕ) → value ws i ≡ false
value-none ws h i = ap (λ w. bit w (i % 64)) (h (i / 64)) ∙ bit-zero (i % 64)

at-zeros : (k j : ℕ) → get_or {A = ℕ} (replicate k 0) j 0 ≡ 0
at-zeros k j =
    elim (cases_lt j k) [
      | inl l ↦ get_or-replicate k j 0 0 l
      | inr l ↦ get_or_past (replicate k 0) j 0 (omega (arith, length-replicate {A = ℕ} k 0))
    ]

pub values-zeros : (n k : ℕ) → values n (replicate k 0) ≡ replicate n false
values-zeros n k = values_are n (replicate k 0) (replicate n false) (length-replicate n false) (λ i l. value-none (replicate k 0) (at-zeros k) i ∙ sym (get_or-replicate n i false false l))

pub clean-zeros : (n k : ℕ) → n ≤ 8192 → k ≡ room n → IsClean n (replicate k 0)
clean-zeros n k few long = record { few = few; long = length-replicate k 0 ∙ long; past = λ i l. value-none (replicate k 0) (at-zeros k) i }

-- ---- one value put

pub value-put_same : (ws : List ℕ) (v w : ℕ) → v / 64 < length ws → value (set ws (v / 64) w) v ≡ bit w (v % 64)
value-put_same ws v w l = ap (λ x. bit x (v % 64)) (get_or-set_same ws (v / 64) w 0 l)

pub value-put_other : (ws : List ℕ) (v w : ℕ) → v / 64 < length ws → ((i : ℕ) → i < 64 → i ≢ v % 64 → bit w i ≡ bit (get_or ws (v / 64) 0) i) → (i : ℕ) → i ≢ v → value (set ws (v / 64) w) i ≡ value ws i
value-put_other ws v w l kept i ne =
    elim (cases_eq (i / 64) (v / 64)) [
      | inl e ↦ ap (λ j. bit (get_or (set ws (v / 64) w) j 0) (i % 64)) e ∙ ap (λ x. bit x (i % 64)) (get_or-set_same ws (v / 64) w 0 l) ∙ kept (i % 64) (omega arith) (λ f. ne (omega arith)) ∙ ap (λ j. bit (get_or ws j 0) (i % 64)) (sym e)
      | inr apart ↦ ap (λ x. bit x (i % 64)) (get_or-set_other ws (v / 64) (i / 64) w 0 apart)
    ]

module _ (n : ℕ) (ws zs : List ℕ) (v : ℕ) (on : Bool) (clean : IsClean n ws) (l : v < n) (alike : length zs ≡ length ws) (here : value zs v ≡ on) (elsewhere : (i : ℕ) → i ≢ v → value zs i ≡ value ws i) where
  pub values-put : values n zs ≡ set (values n ws) v on
  values-put =
      values_are n zs (set (values n ws) v on) (length-set (values n ws) v on ∙ length-values n ws)
      (λ i li. elim (cases_eq i v) [
        | inl e ↦ ap (value zs) e ∙ here ∙ sym (get_or-set_same (values n ws) v on false (omega (arith, length-values n ws))) ∙ ap (λ j. get_or (set (values n ws) v on) j false) (sym e)
        | inr ne ↦ elsewhere i ne ∙ sym (at-values n ws i li) ∙ sym (get_or-set_other (values n ws) v i on false ne)
      ])

  pub clean-put : IsClean n zs
  clean-put = record { few = clean.few; long = alike ∙ clean.long; past = λ i li. elsewhere i (λ e. absurd (omega arith)) ∙ clean.past i li }

-- a list of words is made place by place
pub zip2_are : (g : ℕ → ℕ → ℕ) (zs xs ys : List ℕ) → length zs ≡ length xs → length xs ≡ length ys → ((k : ℕ) → k < length zs → get_or zs k 0 ≡ g (get_or xs k 0) (get_or ys k 0)) → zs ≡ zip2 g xs ys
zip2_are g zs xs ys e e' h =
    ext_get_or 0 zs (zip2 g xs ys) (e ∙ sym (length-zip2 g xs ys e'))
    (λ k l. h k l ∙ sym (get_or-zip2 g xs ys k 0 0 0 (omega arith) (omega arith)))

-- ---- operations on words that work on each bit by itself

pub record IsBitwise (f : Bool → Bool → Bool) (g : ℕ → ℕ → ℕ) : Type 0 where
  pub none : f false false ≡ false
  pub each : (a b i : ℕ) → bit (g a b) i ≡ f (bit a i) (bit b i)

pub or-bitwise : IsBitwise ◌||◌ bit_or
or-bitwise = record { none = refl; each = bit-or }

pub and-bitwise : IsBitwise ◌&&◌ bit_and
and-bitwise = record { none = refl; each = bit-and }

pub without-bitwise : IsBitwise (λ x y. x && not y) without
without-bitwise = record { none = refl; each = bit-without }

module _ (f : Bool → Bool → Bool) (g : ℕ → ℕ → ℕ) (law : IsBitwise f g) (n : ℕ) (xs ys : List ℕ) (cx : IsClean n xs) (cy : IsClean n ys) where
  alike : length xs ≡ length ys
  alike = cx.long ∙ sym cy.long

  value-zip2 : (i : ℕ) → value (zip2 g xs ys) i ≡ f (value xs i) (value ys i)
  value-zip2 i =
      elim (cases_lt (i / 64) (length xs)) [
        | inl l ↦ ap (λ w. bit w (i % 64)) (get_or-zip2 g xs ys (i / 64) 0 0 0 l (omega (arith, alike))) ∙ law.each (get_or xs (i / 64) 0) (get_or ys (i / 64) 0) (i % 64)
        | inr l ↦ value-past (zip2 g xs ys) i (omega (arith, length-zip2 g xs ys alike)) ∙ sym law.none ∙ ap (λ x. f x false) (sym (value-past xs i l)) ∙ ap (f (value xs i)) (sym (value-past ys i (omega (arith, alike))))
      ]

  pub values-zip2 : values n (zip2 g xs ys) ≡ zip2 f (values n xs) (values n ys)
  values-zip2 =
      values_are n (zip2 g xs ys) (zip2 f (values n xs) (values n ys)) (length-zip2 f (values n xs) (values n ys) (length-values n xs ∙ sym (length-values n ys)) ∙ length-values n xs)
      (λ i l. value-zip2 i ∙ ap (λ x. f x (value ys i)) (sym (at-values n xs i l)) ∙ ap (f (get_or (values n xs) i false)) (sym (at-values n ys i l)) ∙ sym (get_or-zip2 f (values n xs) (values n ys) i false false false (omega (arith, length-values n xs)) (omega (arith, length-values n ys))))

  pub clean-zip2 : IsClean n (zip2 g xs ys)
  clean-zip2 = record { few = cx.few; long = length-zip2 g xs ys alike ∙ cx.long; past = λ i l. value-zip2 i ∙ ap (λ x. f x (value ys i)) (cx.past i l) ∙ ap (f false) (cy.past i l) ∙ law.none }

-- ---- the complement, by each bit of each word

module _ (n : ℕ) (xs ys : List ℕ) (cx : IsClean n xs) (alike : length ys ≡ length xs) (turned : (j b : ℕ) → j < length xs → b < 64 → bit (get_or ys j 0) b ≡ cond (ltb (64 * j + b) n) (not (bit (get_or xs j 0) b)) (bit (get_or xs j 0) b)) where
  value-turned : (i : ℕ) → i / 64 < length xs → value ys i ≡ cond (ltb i n) (not (value xs i)) (value xs i)
  value-turned i l =
      let place : 64 * (i / 64) + i % 64 ≡ i = omega arith in
      turned (i / 64) (i % 64) l (omega arith) ∙ ap (λ k. cond (ltb k n) (not (value xs i)) (value xs i)) place

  pub values-turned : values n ys ≡ map not (values n xs)
  values-turned =
      values_are n ys (map not (values n xs)) (length-map (values n xs) not ∙ length-values n xs)
      (λ i l. value-turned i (omega (arith, cx.long)) ∙ ap (λ t. cond t (not (value xs i)) (value xs i)) (lt-ltb i n l) ∙ ap not (sym (at-values n xs i l)) ∙ sym (get_or-map not (values n xs) i false false (omega (arith, length-values n xs))))

  pub clean-turned : IsClean n ys
  clean-turned = record { few = cx.few; long = alike ∙ cx.long; past = past }
    where
      past : (i : ℕ) → n ≤ i → value ys i ≡ false
      past i l =
          elim (cases_lt (i / 64) (length xs)) [
            | inl k ↦ value-turned i k ∙ ap (λ t. cond t (not (value xs i)) (value xs i)) (le-ltb i n l) ∙ cx.past i l
            | inr k ↦ value-past ys i (omega (arith, alike))
          ]

-- ---- n and m values, of which there are equally many, in words

module _ (n m : ℕ) (xs ys : List ℕ) (X Y : List Bool) (vx : values n xs ≡ X) (vy : values m ys ≡ Y) (e : length X ≡ length Y) where
  pub as_many : n ≡ m
  as_many = sym (length-values n xs) ∙ ap length vx ∙ e ∙ sym (ap length vy) ∙ length-values m ys

  pub as_long : IsClean n xs → IsClean m ys → length xs ≡ length ys
  as_long cx cy = omega (arith, as_many, cx.long, cy.long)

  module _ (f : Bool → Bool → Bool) (g : ℕ → ℕ → ℕ) (law : IsBitwise f g) (cx : IsClean n xs) (cy : IsClean m ys) where
    theirs-clean : IsClean n ys
    theirs-clean = subst (λ k. IsClean k ys) (sym as_many) cy

    theirs : values n ys ≡ Y
    theirs = ap (λ k. values k ys) as_many ∙ vy

    -- words that were made of the two, place by place
    module _ (k : ℕ) (zs ys' : List ℕ) (ek : k ≡ n) (ez : zs ≡ zip2 g xs ys') (ey : ys' ≡ ys) where
      pub clean-made : IsClean k zs
      clean-made = subst (λ j. IsClean j zs) (sym ek) (subst (IsClean n) (sym (ez ∙ ap (zip2 g xs) ey)) (clean-zip2 f g law n xs ys cx theirs-clean))

      pub values-made : values k zs ≡ zip2 f X Y
      values-made =
          ap (λ j. values j zs) ek ∙ ap (values n) (ez ∙ ap (zip2 g xs) ey) ∙ values-zip2 f g law n xs ys cx theirs-clean
          ∙ ap (λ Z. zip2 f Z (values n ys)) vx ∙ ap (zip2 f X) theirs
