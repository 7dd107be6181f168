-- Ways by growing levels, and a mark that changes at the end of one.
use Rattle.std.proofs.Common.{◌≡◌, ◌∙◌, ℕ, suc, zero, ◌+◌, ◌<◌, ◌≤◌, List, length, Bool, true, refl, sym, ap, subst, arith, inl, inr}
use Rattle.std.specs.Prelude.{slice_set, min}
use Rattle.std.proofs.Math.ListN.{length-set}
use Rattle.flow_cuts.specs.declared.network.Link.{Link}
use Rattle.flow_cuts.specs.declared.network.Step.{Step}
use Rattle.flow_cuts.specs.declared.search.Mark.{Mark}
use Rattle.flow_cuts.specs.Residual.{from_at, to_at, room_at}
use Rattle.graph_core.specs.Side.{has}
use Rattle.flow_cuts.specs.Search.{unseen, mark_at, IsOpenWay, IsNarrowWay, IsLevelled, IsSearched}
use Rattle.flow_cuts.proofs.SearchTrees.{eq_or_not, set_at, set_off}

narrow_level : (ls : List Link) (inside : List Bool) (ms : List Mark) (k v : ℕ) → IsNarrowWay ls inside ms k v → (mark_at ms v).level ≡ k
narrow_level ls inside ms zero v way = way.0
narrow_level ls inside ms (suc k) v way = way.0

pub narrow_some : (ls : List Link) (inside : List Bool) (ms : List Mark) (k v : ℕ) → IsNarrowWay ls inside ms k v → 0 < (mark_at ms v).narrow
narrow_some ls inside ms zero v way = way.2
narrow_some ls inside ms (suc k) v way = way.5

-- as much as the mark says may go all the way
pub IsOpenWay-narrow : (ls : List Link) (inside : List Bool) (ms : List Mark) (a k v : ℕ) → IsNarrowWay ls inside ms k v → a ≤ (mark_at ms v).narrow → IsOpenWay ls inside ms a k v
IsOpenWay-narrow ls inside ms a zero v way le = (way.1, way.0)
IsOpenWay-narrow ls inside ms a (suc k) v way le =
    (way.0, way.1, way.2, omega (arith, way.3), IsOpenWay-narrow ls inside ms a k (from_at ls (mark_at ms v).via) way.6 (omega (arith, way.4)))

-- a mark of a higher level may change
pub IsNarrowWay-marked : (ls : List Link) (inside : List Bool) (ms : List Mark) (k u w : ℕ) (m : Mark) → w < length ms → k < (mark_at ms w).level →
    IsNarrowWay ls inside ms k u → IsNarrowWay ls inside (slice_set ms w m) k u
IsNarrowWay-marked ls inside ms zero u w m lt above way =
    let same : mark_at (slice_set ms w m) u ≡ mark_at ms u = set_off ms w u m lt (λ e. let d = ap (λ x. (mark_at ms x).level) e in omega (arith, way.0)) in
    let P : Mark → Type 0 = λ x. (x.level ≡ 0) × (has inside u ≡ true) × (0 < x.narrow) in
    subst P (sym same) way
IsNarrowWay-marked ls inside ms (suc k) u w m lt above way =
    let v : ℕ = from_at ls (mark_at ms u).via in
    let same : mark_at (slice_set ms w m) u ≡ mark_at ms u = set_off ms w u m lt (λ e. let d = ap (λ x. (mark_at ms x).level) e in omega (arith, way.0)) in
    let rest = IsNarrowWay-marked ls inside ms k v w m lt (omega arith) way.6 in
    let level = narrow_level ls inside ms k v way.6 in
    let below : mark_at (slice_set ms w m) v ≡ mark_at ms v = set_off ms w v m lt (λ e. let d = ap (λ x. (mark_at ms x).level) e in omega arith) in
    let P : Mark → Type 0 = λ x. (x.level ≡ suc k) × (x.via.link < length ls) × (to_at ls x.via ≡ u) × (x.narrow ≤ room_at ls x.via) ×
    (x.narrow ≤ (mark_at (slice_set ms w m) (from_at ls x.via)).narrow) × (0 < x.narrow) × IsNarrowWay ls inside (slice_set ms w m) k (from_at ls x.via) in
    subst P (sym same) (way.0, way.1, way.2, way.3, (let e = ap (λ x. x.narrow) below in omega (arith, way.4)), way.5, rest)

-- the way goes on to a node of the next level
pub IsNarrowWay-on : (ls : List Link) (inside : List Bool) (ms : List Mark) (k v w : ℕ) (s : Step) (m : Mark) → IsNarrowWay ls inside ms k v →
    s.link < length ls → from_at ls s ≡ v → to_at ls s ≡ w → 0 < room_at ls s → w < length ms → (mark_at ms w).level ≡ k + 1 →
    m.level ≡ k + 1 → m.via ≡ s → m.narrow ≡ min (mark_at ms v).narrow (room_at ls s) → IsNarrowWay ls inside (slice_set ms w m) (k + 1) w
IsNarrowWay-on ls inside ms k v w s m way link from to room lt level is via narrow =
    let before = IsNarrowWay-marked ls inside ms k v w m lt (omega arith) way in
    let old = narrow_level ls inside ms k v way in
    let below : mark_at (slice_set ms w m) v ≡ mark_at ms v = set_off ms w v m lt (λ e. let d = ap (λ x. (mark_at ms x).level) e in omega arith) in
    let some = narrow_some ls inside ms k v way in
    let here : mark_at (slice_set ms w m) w ≡ m = set_at ms w w m lt refl in
    let P : Mark → Type 0 = λ x. (x.level ≡ suc k) × (x.via.link < length ls) × (to_at ls x.via ≡ w) × (x.narrow ≤ room_at ls x.via) ×
    (x.narrow ≤ (mark_at (slice_set ms w m) (from_at ls x.via)).narrow) × (0 < x.narrow) × IsNarrowWay ls inside (slice_set ms w m) k (from_at ls x.via) in
    let Q : ℕ → Type 0 = λ x. IsNarrowWay ls inside (slice_set ms w m) x w in
    let R : ℕ → Type 0 = λ x. IsNarrowWay ls inside (slice_set ms w m) k x in
    let one : suc k ≡ k + 1 = omega arith in
    let from' : from_at ls m.via ≡ v = ap (from_at ls) via ∙ from in
    let link' = ap (λ x. x.link) via in
    let room' = ap (room_at ls) via in
    let up = ap (λ x. (mark_at (slice_set ms w m) x).narrow) from' in
    let up' = ap (λ x. x.narrow) below in
    subst Q one (subst P (sym here)
    (omega arith, omega (arith, link'), ap (to_at ls) via ∙ to, omega (arith, room'), omega (arith, up, up'), omega arith, subst R (sym from') before))

-- a node that leads no further is as if it were not reached
pub IsLevelled-dead : (n : ℕ) (inside : List Bool) (ms : List Mark) (w : ℕ) (m : Mark) → IsLevelled n inside ms → w < length ms → m.level ≡ unseen →
    IsLevelled n inside (slice_set ms w m)
IsLevelled-dead n inside ms w m l lt dead = record {
  len = length-set ms w m ∙ l.len;
  roots = λ v e. elim (eq_or_not v w) [
    | inl same ↦ let d = ap (λ x. x.level) (set_at ms w v m lt same) in absurd (omega arith)
    | inr off ↦
        let d = set_off ms w v m lt off in
        let r = l.roots v (sym (ap (λ x. x.level) d) ∙ e) in
        let narrow = ap (λ x. x.narrow) d in
        (r.0, omega (arith, r.1))
  ];
  low = λ v less. elim (eq_or_not v w) [
    | inl same ↦ let d = ap (λ x. x.level) (set_at ms w v m lt same) in absurd (omega arith)
    | inr off ↦ let d = ap (λ x. x.level) (set_off ms w v m lt off) in omega (arith, l.low v (omega arith))
  ];
}

-- the way from the inside to a node that is not a root, without its last step
pub record ComesFrom (ls : List Link) (inside : List Bool) (ms : List Mark) (v : ℕ) (s : Step) : Type 0 where
  pub link : s.link < length ls
  pub lower : (mark_at ms (from_at ls s)).level < (mark_at ms v).level
  pub way : IsNarrowWay ls inside ms (mark_at ms (from_at ls s)).level (from_at ls s)

comes_from : (ls : List Link) (inside : List Bool) (ms : List Mark) (k v : ℕ) → IsNarrowWay ls inside ms k v → ((mark_at ms v).level ≡ 0 → ⊥) →
    ComesFrom ls inside ms v (mark_at ms v).via
comes_from ls inside ms zero v way pos = absurd (pos way.0)
comes_from ls inside ms (suc k) v way pos =
    let u : ℕ = from_at ls (mark_at ms v).via in
    let level = narrow_level ls inside ms k u way.6 in
    let P : ℕ → Type 0 = λ x. IsNarrowWay ls inside ms x u in
    record { link = way.1; lower = omega (arith, way.0, level); way = subst P (sym level) way.6 }

pub comes_from_step : (ls : List Link) (inside : List Bool) (ms : List Mark) (v : ℕ) (s : Step) → IsNarrowWay ls inside ms (mark_at ms v).level v →
    ((mark_at ms v).level ≡ 0 → ⊥) → s ≡ (mark_at ms v).via → ComesFrom ls inside ms v s
comes_from_step ls inside ms v s way pos e =
    let P : Step → Type 0 = ComesFrom ls inside ms v in
    subst P (sym e) (comes_from ls inside ms (mark_at ms v).level v way pos)

-- the state of a search for ways by growing levels
pub record IsDraining (inside : List Bool) (ls : List Link) (ms : List Mark) (v : ℕ) : Type 0 where
  pub levelled : IsLevelled (length inside) inside ms
  pub node : v < length inside
  pub seen : (mark_at ms v).level < unseen
  pub way : IsNarrowWay ls inside ms (mark_at ms v).level v

pub IsDraining-back : (inside : List Bool) (ls : List Link) (ms : List Mark) (v : ℕ) (s : Step) (m : Mark) → ((t : Step) → t.link < length ls → from_at ls t < length inside) →
    IsDraining inside ls ms v → ComesFrom ls inside ms v s → m.level ≡ unseen → IsDraining inside ls (slice_set ms v m) (from_at ls s)
IsDraining-back inside ls ms v s m from d c dead =
    let lt : v < length ms = omega (arith, d.levelled.len, d.node) in
    let u : ℕ = from_at ls s in
    let same : mark_at (slice_set ms v m) u ≡ mark_at ms u = set_off ms v u m lt (λ e. let x = ap (λ y. (mark_at ms y).level) e in omega (arith, c.lower)) in
    let level = ap (λ x. x.level) same in
    record {
      levelled = IsLevelled-dead (length inside) inside ms v m d.levelled lt dead;
      node = from s c.link;
      seen = omega (arith, c.lower, d.seen);
      way =
          let P : ℕ → Type 0 = λ k. IsNarrowWay ls inside (slice_set ms v m) k u in
          subst P (sym level) (IsNarrowWay-marked ls inside ms (mark_at ms u).level u v m lt c.lower c.way);
    }

-- a search makes levels
pub IsLevelled-searched : (n : ℕ) (ls : List Link) (inside : List Bool) (ms : List Mark) → IsSearched n ls inside ms → IsLevelled n inside ms
IsLevelled-searched n ls inside ms s = record {
  len = s.len;
  roots = λ v e. let r = s.forest.reached v (omega arith) in (r.root e, r.some);
  low = s.low;
}
