-- The nodes that may be tried as partners of a node u: there is one while u has an edge, and each try leaves fewer.
use Rattle.std.specs.Prelude.{ℕ, ◌≡◌, ◌≢◌, ◌*◌, ◌%◌, ◌<◌, ◌≤◌, ◌==◌, Bool, true, false, not, ◌&&◌, ◌||◌, nat_le, List, length, replicate, refl}
use Rattle.std.proofs.Common.{sym, ap, ◌∙◌, arith, inl, inr}
use Rattle.std.proofs.lemmas.Bool.{cases_eq, cases_order, or_parts, and_parts, ne_eqb, eq-eqb}
use Rattle.std.proofs.lemmas.Bool.Decides.{nat_tests}
use Rattle.graph_core.specs.Side.{has, sum_over, meet, join}
use Rattle.graph_core.proofs.Counting.{weight}
use Rattle.graph_core.proofs.SideLaws.{has-zip2, has-whole, whole-below}
use Rattle.graph_core.proofs.WeightLaws.{nodes_meet, nodes_cover, nodes_agree, two_nodes-le-sum}
use Rattle.graph_core.proofs.HeadLaws.{node-le-sum, one_node}
use Rattle.split_undirected.specs.CoveredStar.{total, IsCoveredStar, IsDangerous, IsWitness, room, is_candidate}
use Rattle.split_undirected.proofs.StarLaws.{half}

-- what the counts have room for, and no more
pub room_first : (w : ℕ → ℕ) (u v : ℕ) → room w u v ≤ w u
room_first w u v = grind (arith, nat_tests)

pub room_second : (w : ℕ → ℕ) (u v : ℕ) → room w u v ≤ w v
room_second w u v = grind (arith, nat_tests)

pub room_twice : (w : ℕ → ℕ) (u v : ℕ) → u ≡ v → 2 * room w u v ≤ w u
room_twice w u v e = grind (arith, nat_tests)

pub room_most : (w : ℕ → ℕ) (u v q : ℕ) → q ≤ w u → q ≤ w v → (u ≡ v → 2 * q ≤ w u) → q ≤ room w u v
room_most w u v q a b c = grind (arith, nat_tests)

pub room-le-total : (n : ℕ) (w : ℕ → ℕ) (u v : ℕ) → u < n → v < n → 2 * room w u v ≤ total n w
room-le-total n w u v lu lv =
    let W = replicate n true in
    let hu = has-whole n u lu in
    let hv = has-whole n v lv in
    elim (cases_order u v) [
      | inl e ↦ omega (arith, room_twice w u v e, node-le-sum w W u hu)
      | inr other ↦ elim other [
        | inl l ↦ omega (arith, room_first w u v, room_second w u v, two_nodes-le-sum w W u v l hu hv)
        | inr l ↦ omega (arith, room_first w u v, room_second w u v, two_nodes-le-sum w W v u l hv hu)
      ]
    ]

-- what a candidate has
pub candidate_room : (w : ℕ → ℕ) (u v : ℕ) (X Y : List Bool) → is_candidate w u X Y v ≡ true → (1 ≤ room w u v) × (has X v ≡ false) × (has Y v ≡ false)
candidate_room w u v X Y pass =
    let (a, b) = and_parts (nat_le 1 (room w u v)) (not (has X v) && not (has Y v)) pass in
    let (c, d) = and_parts (not (has X v)) (not (has Y v)) b in
    (grind (arith, nat_tests), grind arith, grind arith)

no_candidate : (w : ℕ → ℕ) (u v : ℕ) (X Y : List Bool) → is_candidate w u X Y v ≡ false → has X v ≡ false → has Y v ≡ false → room w u v ≡ 0
no_candidate w u v X Y fail x y = grind (arith, nat_tests)

no_room : (w : ℕ → ℕ) (u v : ℕ) → 1 ≤ w u → u ≢ v → room w u v ≡ 0 → w v ≡ 0
no_room w u v some ne none = grind (arith, nat_tests)

no_room_twice : (w : ℕ → ℕ) (u : ℕ) → room w u u ≡ 0 → w u ≤ 1
no_room_twice w u none = grind (arith, nat_tests)

module _ {n k : ℕ} {f : List Bool → ℕ} {w : ℕ → ℕ} (star : IsCoveredStar n k f w) (even : total n w % 2 ≡ 0) (u : ℕ) (below : u < n) (some : 1 ≤ w u) where
  dangerous_half : (X : List Bool) → IsDangerous n k f u X → 2 * sum_over X w ≤ total n w
  dangerous_half X d = omega (arith, half star X 1 d.proper d.value)

  u_in_whole : w u ≤ total n w
  u_in_whole = node-le-sum w (replicate n true) u (has-whole n u below)

  -- one dangerous side doesn't have all edges
  one_misses : (X Y : List Bool) → IsDangerous n k f u X → ((v : ℕ) → has Y v ≡ false) → ((v : ℕ) → v < n → is_candidate w u X Y v ≡ false) → ⊥
  one_misses X Y d none fail =
      let all : total n w ≤ sum_over X w =
      nodes_cover w (replicate n true) X (λ v in' out.
      no_room w u v some (λ e. absurd (cc (e, d.holds, out))) (no_candidate w u v X Y (fail v (whole-below n v in')) out (none v))) in
      omega (arith, dangerous_half X d, u_in_whole)

  -- nor do two, since they have u in common
  two_miss : (X Y : List Bool) → IsDangerous n k f u X → IsDangerous n k f u Y → ((v : ℕ) → v < n → is_candidate w u X Y v ≡ false) → ⊥
  two_miss X Y dx dy fail =
      let same : length X ≡ length Y = dx.proper.long ∙ sym dy.proper.long in
      let in_both : has (meet X Y) u ≡ true = has-zip2 ◌&&◌ refl X Y u same ∙ (λ t. dx.holds t && dy.holds t) in
      let all : total n w ≤ sum_over (join X Y) w =
      nodes_cover w (replicate n true) (join X Y) (λ v in' out.
      let (x, y) = or_parts (has X v) (has Y v) (sym (has-zip2 ◌||◌ refl X Y v same) ∙ out) in
      no_room w u v some (λ e. absurd (cc (e, dx.holds, x))) (no_candidate w u v X Y (fail v (whole-below n v in')) x y)) in
      omega (arith, dangerous_half X dx, dangerous_half Y dy, nodes_meet w X Y same, node-le-sum w (meet X Y) u in_both)

  -- where there is no dangerous side yet, an even sum isn't that of u's one edge
  none_miss : (X Y : List Bool) → ((v : ℕ) → has X v ≡ false) → ((v : ℕ) → has Y v ≡ false) → ((v : ℕ) → v < n → is_candidate w u X Y v ≡ false) → ⊥
  none_miss X Y nx ny fail =
      let one : w u ≡ 1 = omega (arith, no_room_twice w u (no_candidate w u u X Y (fail u below) (nx u) (ny u))) in
      let each : (v : ℕ) → has (replicate n true) v ≡ true → w v ≡ weight (u == v) =
      λ v in'.
      elim (cases_eq u v) [
        | inl e ↦ ap w (sym e) ∙ one ∙ sym (ap weight (eq-eqb u v e))
        | inr ne ↦ no_room w u v some ne (no_candidate w u v X Y (fail v (whole-below n v in')) (nx v) (ny v)) ∙ sym (ap weight (ne_eqb u v ne))
      ] in
      let sum' : total n w ≡ 1 = nodes_agree w (λ v. weight (u == v)) (replicate n true) each ∙ one_node u (replicate n true) ∙ ap weight (has-whole n u below) in
      omega arith

  -- so there is a candidate
  pub some_candidate : (X Y : List Bool) → IsWitness n k f u X → IsWitness n k f u Y → ((v : ℕ) → v < n → is_candidate w u X Y v ≡ false) → ⊥
  some_candidate X Y x y fail =
      elim x.either [
        | inl nx ↦ elim y.either [
          | inl ny ↦ none_miss X Y nx ny fail
          | inr dy ↦ one_misses Y X dy nx (λ v l. turned_about w u X Y v ∙ fail v l)
        ]
        | inr dx ↦ elim y.either [
          | inl ny ↦ one_misses X Y dx ny fail
          | inr dy ↦ two_miss X Y dx dy fail
        ]
      ]
    where
      turned_about : (w : ℕ → ℕ) (u : ℕ) (X Y : List Bool) (v : ℕ) → is_candidate w u Y X v ≡ is_candidate w u X Y v
      turned_about w u X Y v = grind arith
