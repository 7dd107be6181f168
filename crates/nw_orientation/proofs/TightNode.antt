-- Where no edge can be deleted, some node has no edge to spare.
use Rattle.std.specs.Prelude.{ℕ, zero, suc, ◌≡◌, ◌≢◌, ◌+◌, ◌<◌, ◌≤◌, ◌==◌, Bool, true, false, not, ◌&&◌, ◌||◌, List, [], ◌∷◌, length, slice_set, count_by, All, refl}
use Rattle.std.proofs.Common.{sym, ap, ◌∙◌, arith, inl, inr, ◌⊎◌}
use Rattle.std.proofs.lemmas.Bool.{false≢true, cases_Bool, and_parts, cases_eq, ne_eqb}
use Rattle.std.proofs.lemmas.List.{get_or-set_other}
use Rattle.std.proofs.lemmas.List.Elements.{All-nil, All-cons, All-head, All-tail}
use Rattle.std.proofs.lemmas.Simd.{length-zip2}
use Rattle.graph_core.specs.Graph.{Fits}
use Rattle.graph_core.specs.Lines.{crosses, differ, within, degree}
use Rattle.graph_core.specs.Side.{has, size, meet, join, minus, IsProper}
use Rattle.graph_core.proofs.Counting.{weight}
use Rattle.graph_core.proofs.CutLaws.{degree_meets, degree_parts, other_out, other_in}
use Rattle.graph_core.proofs.SideLaws.{has-zip2, has-minus, has-below, same_sides}
use Rattle.graph_core.proofs.SizeLaws.{some_or_none, count-cons}
use Rattle.graph_core.proofs.SplitLaws.{size-split, size-has}
use Rattle.graph_core.specs.declared.graph.Line.{Line}
use Rattle.nw_orientation.specs.Moved.{touches}
use Rattle.nw_orientation.specs.Needed.{IsTightCut, IsNeeded, IsLean}
use Rattle.graph_core.specs.Sets.{set_of}
use Rattle.graph_core.proofs.SetLaws.{length_of, has_of}
use Rattle.graph_core.proofs.ProperLaws.{is_proper, node_in, node_out}

-- the node v alone, of n
abbrev pub only : ℕ → ℕ → List Bool
only n v = set_of n (λ u. u == v)

pub has-only_here : (n v : ℕ) → v < n → has (only n v) v ≡ true
has-only_here n v l = has_of n (λ u. u == v) v l ∙ grind (arith)

pub has-only_other : (n v u : ℕ) → u < n → u ≢ v → has (only n v) u ≡ false
has-only_other n v u l ne = has_of n (λ w. w == v) u l ∙ ne_eqb u v ne

-- a line crosses a single node where it touches it
touch_once : (a b : Bool) → (a && b) ≡ false → differ a b ≡ (a || b)
touch_once a b h = grind arith

both_ends : (n v : ℕ) (l : Line) → Fits n l → ((l.tail == v) && (l.head == v)) ≡ false
both_ends n v l f = elim (cases_eq l.tail v) [
  | inl e ↦ rw (ne_eqb l.head v (λ h. f.apart (e ∙ sym h))) (grind arith)
  | inr ne ↦ rw (ne_eqb l.tail v ne) refl
]

pub crosses-only : (n v : ℕ) (l : Line) → Fits n l → crosses (only n v) l ≡ touches v l
crosses-only n v l f =
    rw (has_of n (λ u. u == v) l.tail f.tail, has_of n (λ u. u == v) l.head f.head) (touch_once (l.tail == v) (l.head == v) (both_ends n v l f))

pub degree-only : (n v : ℕ) (ls : List Line) → All (Fits n) ls → degree (only n v) ls ≡ count_by (touches v) ls
degree-only n v [] h = refl
degree-only n v (l ∷ ls) h =
    omega (arith, count-cons (crosses (only n v)) l ls, count-cons (touches v) l ls, ap weight (crosses-only n v l (All-head (Fits n) l ls h)), degree-only n v ls (All-tail (Fits n) l ls h))

-- Lines that touch two nodes of a side cross it, where none lies within it. a and b say whether the ends of a line are in the side, p and q whether they are the one node, r and s the other.
two_touch : (a b p q r s : Bool) → (a && b) ≡ false → (p && not a) ≡ false → (q && not b) ≡ false → (r && not a) ≡ false → (s && not b) ≡ false → (p && r) ≡ false → (q && s) ≡ false → weight (p || q) + weight (r || s) ≤ weight (differ a b)
two_touch a b p q r s out i j k l m n = grind arith

test_in : (X : List Bool) (u x : ℕ) → has X u ≡ true → ((x == u) && not (has X x)) ≡ false
test_in X u x h = elim (cases_eq x u) [ inl e ↦ rw (e, h) (grind arith) | inr ne ↦ rw (ne_eqb x u ne) refl ]

test_apart : (u v x : ℕ) → u ≢ v → ((x == u) && (x == v)) ≡ false
test_apart u v x ne = elim (cases_eq x u) [ inl e ↦ rw (e, ne_eqb u v ne) (grind arith) | inr other ↦ rw (ne_eqb x u other) refl ]

none_within : (X : List Bool) (u v : ℕ) → has X u ≡ true → has X v ≡ true → u ≢ v → (ls : List Line) → All (λ l. within X l ≡ false) ls → count_by (touches u) ls + count_by (touches v) ls ≤ degree X ls
none_within X u v hu hv ne [] out = omega arith
none_within X u v hu hv ne (l ∷ ls) out =
    omega (
      arith,
      count-cons (touches u) l ls,
      count-cons (touches v) l ls,
      count-cons (crosses X) l ls,
      none_within X u v hu hv ne ls (All-tail (λ k. within X k ≡ false) l ls out),
      two_touch (has X l.tail) (has X l.head) (l.tail == u) (l.head == u) (l.tail == v) (l.head == v) (All-head (λ k. within X k ≡ false) l ls out)
          (test_in X u l.tail hu) (test_in X u l.head hu) (test_in X v l.tail hv) (test_in X v l.head hv) (test_apart u v l.tail ne) (test_apart u v l.head ne),
    )

-- some line lies within X, or none does
find_within : (X : List Bool) (Q : Line → Type 0) (ls : List Line) → All Q ls → ((l : Line) × Q l × (within X l ≡ true)) ⊎ All (λ l. within X l ≡ false) ls
find_within X Q [] h = inr (All-nil (λ l. within X l ≡ false))
find_within X Q (l ∷ ls) h =
    elim (cases_Bool (within X l)) [
      | inl inside ↦ inl (l, All-head Q l ls h, inside)
      | inr out ↦ elim (find_within X Q ls (All-tail Q l ls h)) [ inl found ↦ inl found | inr none ↦ inr (All-cons (λ k. within X k ≡ false) l ls out none) ]
    ]

-- the ends of a line within X that crosses Y: one in both, and one in X alone
pub record Ends (X Y : List Bool) : Type 0 where
  pub both : ℕ
  pub alone : ℕ
  pub both_first : has X both ≡ true
  pub both_second : has Y both ≡ true
  pub alone_first : has X alone ≡ true
  pub alone_second : has Y alone ≡ false

ends_of : (X Y : List Bool) (l : Line) → within X l ≡ true → crosses Y l ≡ true → Ends X Y
ends_of X Y l inside crossed =
    let ends = and_parts (has X l.tail) (has X l.head) inside in
    elim (cases_Bool (has Y l.tail)) [
      | inl t ↦ record { both = l.tail; alone = l.head; both_first = ends.0; both_second = t; alone_first = ends.1; alone_second = other_out (has Y l.tail) (has Y l.head) t crossed }
      | inr f ↦ record { both = l.head; alone = l.tail; both_first = ends.1; both_second = other_in (has Y l.tail) (has Y l.head) f crossed; alone_first = ends.0; alone_second = f }
    ]

gone : (X : List Bool) (u : ℕ) → has (slice_set X u false) u ≡ false
gone [] u = refl
gone (x ∷ X) zero = refl
gone (x ∷ X) (suc u) = gone X u

module _ {n c : ℕ} {ls : List Line} (fits : All (Fits n) ls) (lean : IsLean n c ls) where
  -- a tight side that a tight side parts has a smaller one within
  smaller_met : (X Y : List Bool) (w : ℕ) → IsTightCut n c ls X → IsTightCut n c ls Y → Ends X Y → w < n → has X w ≡ false → has Y w ≡ false → IsTightCut n c ls (meet X Y)
  smaller_met X Y w x y ends lw xw yw =
      let same : length X ≡ length Y = x.proper.long ∙ sym y.proper.long in
      let met : IsProper n (meet X Y) = is_proper (meet X Y) ends.both ends.alone (length-zip2 ◌&&◌ X Y same ∙ x.proper.long)
      (has-zip2 ◌&&◌ refl X Y ends.both same ∙ (λ t. ends.both_first t && ends.both_second t))
      (omega (arith, has-below X ends.alone ends.alone_first, x.proper.long))
      (has-zip2 ◌&&◌ refl X Y ends.alone same ∙ (λ t. ends.alone_first t && ends.alone_second t)) in
      let joined : IsProper n (join X Y) = is_proper (join X Y) ends.both w (length-zip2 ◌||◌ X Y same ∙ x.proper.long)
      (has-zip2 ◌||◌ refl X Y ends.both same ∙ (λ t. ends.both_first t || ends.both_second t))
      lw (has-zip2 ◌||◌ refl X Y w same ∙ (λ t. xw t || yw t)) in
      record { proper = met; value = omega (arith, lean.connected (meet X Y) met, lean.connected (join X Y) joined, degree_meets ls X Y x.proper.long y.proper.long, x.value, y.value) }

  smaller_parted : (X Y : List Bool) (w : ℕ) → IsTightCut n c ls X → IsTightCut n c ls Y → Ends X Y → w < n → has X w ≡ false → has Y w ≡ true → IsTightCut n c ls (minus X Y)
  smaller_parted X Y w x y ends lw xw yw =
      let same : length X ≡ length Y = x.proper.long ∙ sym y.proper.long in
      let parted : IsProper n (minus X Y) = is_proper (minus X Y) ends.alone ends.both (length-zip2 (λ a b. a && not b) X Y same ∙ x.proper.long)
      (has-minus X Y ends.alone same ∙ (λ t. ends.alone_first t && not (ends.alone_second t)))
      (omega (arith, has-below X ends.both ends.both_first, x.proper.long))
      (has-minus X Y ends.both same ∙ (λ t. ends.both_first t && not (ends.both_second t))) in
      let back : IsProper n (minus Y X) = is_proper (minus Y X) w ends.alone (length-zip2 (λ a b. a && not b) Y X (sym same) ∙ y.proper.long)
      (has-minus Y X w (sym same) ∙ (λ t. yw t && not (xw t)))
      (omega (arith, has-below X ends.alone ends.alone_first, x.proper.long))
      (has-minus Y X ends.alone (sym same) ∙ (λ t. ends.alone_second t && not (ends.alone_first t))) in
      record { proper = parted; value = omega (arith, lean.connected (minus X Y) parted, lean.connected (minus Y X) back, degree_parts ls X Y x.proper.long y.proper.long, x.value, y.value) }

  abbrev pub Smaller : List Bool → Type 0
  Smaller X = (Y : List Bool) × IsTightCut n c ls Y × (size Y < size X)

  abbrev pub TightNode : Type 0
  TightNode = (v : ℕ) × (v < n) × (count_by (touches v) ls ≡ c)

  -- so a tight side has a tight node, or a smaller tight side within
  smaller : (X : List Bool) → IsTightCut n c ls X → 1 ≤ c → TightNode ⊎ Smaller X
  smaller X x some =
      let (u, lu, hu) = node_in X x.proper in
      elim (some_or_none (slice_set X u false)) [
        | inr none ↦ inl (u, lu, sym (degree-only n u ls fits) ∙ ap (λ Z. degree Z ls) (alone u lu none hu) ∙ x.value)
        | inl (v, hv) ↦
            let two = second u v hv in
            elim (find_within X (IsNeeded n c ls) ls lean.needed) [
              | inl (l, need, inside) ↦ inr (met need inside)
              | inr none ↦
                  let lv : v < n = omega (arith, has-below X v two.0, x.proper.long) in
                  absurd (omega (arith, none_within X u v hu two.0 two.1 ls none, enough u v lu lv two.1, enough v u lv lu (λ e. two.1 (sym e)), x.value))
            ]
      ]
    where
      second : (u v : ℕ) → has (slice_set X u false) v ≡ true → (has X v ≡ true) × (u ≢ v)
      second u v h = elim (cases_eq v u) [
        | inl e ↦ absurd (false≢true (sym (gone X u) ∙ (rw e at h)))
        | inr ne ↦ (sym (get_or-set_other X u v false false ne) ∙ h, λ e. ne (sym e))
      ]

      alone : (u : ℕ) → u < n → ((v : ℕ) → has (slice_set X u false) v ≡ false) → has X u ≡ true → only n u ≡ X
      alone u lu none hu = same_sides (only n u) X (length_of n (λ w. w == u)) x.proper.long
          (λ v lv. elim (cases_eq v u) [
            | inl e ↦ rw e (has-only_here n u lu ∙ sym hu)
            | inr ne ↦ has-only_other n u v lv ne ∙ sym (sym (get_or-set_other X u v false false ne) ∙ none v)
          ])

      enough : (u v : ℕ) → u < n → v < n → u ≢ v → c ≤ count_by (touches u) ls
      enough u v lu lv ne = rw (← degree-only n u ls fits) (lean.connected (only n u) (is_proper (only n u) u v (length_of n (λ w. w == u)) (has-only_here n u lu) lv (has-only_other n u v lv (λ e. ne (sym e)))))

      met : {l : Line} → IsNeeded n c ls l → within X l ≡ true → Smaller X
      met {l} need inside =
          let Y = need.side in
          let ends = ends_of X Y l inside need.crossed in
          let (w, lw, out) = node_out X x.proper in
          let same : length X ≡ length Y = x.proper.long ∙ sym need.tight.proper.long in
          let one : 1 ≤ size (meet X Y) = size-has (meet X Y) ends.both (has-zip2 ◌&&◌ refl X Y ends.both same ∙ (λ t. ends.both_first t && ends.both_second t)) in
          let other : 1 ≤ size (minus X Y) = size-has (minus X Y) ends.alone (has-minus X Y ends.alone same ∙ (λ t. ends.alone_first t && not (ends.alone_second t))) in
          let parts = size-split X Y same in
          elim (cases_Bool (has Y w)) [
            | inl inside_y ↦ (minus X Y, smaller_parted X Y w x need.tight ends lw out inside_y, omega arith)
            | inr outside_y ↦ (meet X Y, smaller_met X Y w x need.tight ends lw out outside_y, omega arith)
          ]

  tight_below : (b : ℕ) (X : List Bool) → size X ≤ b → IsTightCut n c ls X → 1 ≤ c → TightNode
  tight_below zero X few x some = let (u, lu, hu) = node_in X x.proper in absurd (omega (arith, size-has X u hu))
  tight_below (suc b) X few x some =
      elim (smaller X x some) [
        | inl found ↦ found
        | inr (Y, y, less) ↦ tight_below b Y (omega arith) y some
      ]

  pub tight_node : 1 ≤ c → 2 ≤ n → TightNode
  tight_node some two =
      let enough : c ≤ degree (only n 0) ls = lean.connected (only n 0) (is_proper (only n 0) 0 1 (length_of n (λ w. w == 0)) (has-only_here n 0 (omega arith)) two (has-only_other n 0 1 two (λ e. absurd (omega arith)))) in
      let need = one_of ls (IsNeeded n c ls) (omega arith) lean.needed in
      tight_below (size need.1.side) need.1.side (omega arith) need.1.tight some
    where
      one_of : (ks : List Line) (Q : Line → Type 0) → 1 ≤ degree (only n 0) ks → All Q ks → (l : Line) × Q l
      one_of [] Q h all = absurd (omega arith)
      one_of (k ∷ ks) Q h all = (k, All-head Q k ks all)
