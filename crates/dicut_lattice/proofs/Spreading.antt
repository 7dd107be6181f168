-- Sets that spread until no arc leaves them and one arc of a dijoin at most enters them, and what these have in common.
use Rattle.std.specs.Prelude.{ℕ, zero, suc, ◌≡◌, ◌≢◌, ◌+◌, ◌-◌, ◌<◌, ◌≤◌, ◌⊎◌, Bool, true, false, ◌&&◌, ◌||◌, List, [], ◌∷◌, length, replicate, slice_set, slice_get, Some, count_by, refl}
use Rattle.std.proofs.Common.{ap, sym, ◌∙◌, inl, inr, arith, subst}
use Rattle.std.specs.Bool.{OnFalse}
use Rattle.std.proofs.lemmas.Bool.{cases_eq, cases_Bool, both_ways, and_from, and_parts, or_cases, or_left, or_right}
use Rattle.std.proofs.lemmas.List.{length-set, length-replicate, get_or-set_other}
use Rattle.std.proofs.lemmas.Simd.{length-zip2}
use Rattle.std.proofs.lemmas.Option.{slice_get_within}
use Rattle.graph_core.specs.Graph.{GraphValue}
use Rattle.graph_core.specs.Side.{has, size, meet, join}
use Rattle.graph_core.specs.Lines.{enters, leaving}
use Rattle.graph_core.specs.Picked.{picked}
use Rattle.graph_core.specs.declared.graph.Line.{Line}
use Rattle.graph_core.proofs.Counting.{weight, none-pass, All-slice_get}
use Rattle.graph_core.proofs.CutLaws.{leaving_meets}
use Rattle.graph_core.proofs.ProperLaws.{is_proper}
use Rattle.graph_core.proofs.PutLaws.{size-put}
use Rattle.graph_core.proofs.SideLaws.{has-none, has-below}
use Rattle.graph_core.proofs.SizeLaws.{count-cons, weight_true, weight_false, weight_most, size-ge_sum}
use Rattle.problem_defs.specs.Dijoin.{IsClosed, IsFeasible}
use Rattle.dicut_lattice.specs.Reach.{IsReach}
use Rattle.dicut_lattice.specs.Spread.{place_from, IsCounted, GoesBack, IsSpread, StepsBack, HasPassed, IsLeastSpread, SpreadsBetween, IsCommon}
use Rattle.dicut_lattice.specs.Tight.{joins, IsTight, IsKernel, AreSeparated}
use Rattle.dicut_lattice.proofs.ClosedSides.{has-meet, has-join, not_out, never_out}

-- the union with what a node reaches
module _ (g : GraphValue) (y : ℕ) (X R : List Bool) (long : length X ≡ length g.names) (r : IsReach g y R) where
  alike : length X ≡ length R
  alike = long ∙ sym r.long

  join-closed : leaving X g.lines ≡ 0 → leaving (join X R) g.lines ≡ 0
  join-closed none = let law = leaving_meets g.lines X R long r.long in let e = r.closed in omega arith

  join-kept : (v : ℕ) → has X v ≡ true → has (join X R) v ≡ true
  join-kept v h = has-join X R v alike ∙ or_left (has X v) (has R v) h

  join-gets : has (join X R) y ≡ true
  join-gets = has-join X R y alike ∙ or_right (has X y) (has R y) r.holds

  join-within : (W : List Bool) → leaving W g.lines ≡ 0 → has W y ≡ true → ((v : ℕ) → has X v ≡ true → has W v ≡ true) → (v : ℕ) → has (join X R) v ≡ true → has W v ≡ true
  join-within W none in_y sub v h = elim (or_cases (has X v) (has R v) (sym (has-join X R v alike) ∙ h)) [
    | inl in_x ↦ sub v in_x
    | inr in_r ↦ r.least W none in_y v in_r
  ]

-- a set that keeps its nodes and gets one more is larger
weight_kept : (a b : Bool) → (a ≡ true → b ≡ true) → weight a + weight false ≤ weight b
weight_kept true b h = rw (h refl) (omega arith)
weight_kept false b h = omega arith

size-grows : (X Y : List Bool) (v : ℕ) → length Y ≡ length X → ((u : ℕ) → has X u ≡ true → has Y u ≡ true) → has X v ≡ false → has Y v ≡ true → size X < size Y
size-grows X Y v long kept out in_y =
    let l : v < length X = let b = has-below Y v in_y in omega arith in
    let P = slice_set X v true in
    let none = replicate (length Y) false in
    let more : size P + size none ≤ size Y =
    size-ge_sum Y P none (length-set X v true ∙ sym long) (length-replicate (length Y) false)
    (λ u. rw (has-none (length Y) u) (weight_kept (has P u) (has Y u) (λ h. put_only u h))) in
    omega (arith, size-put X v l out)
  where
    put_only : (u : ℕ) → has (slice_set X v true) u ≡ true → has Y u ≡ true
    put_only u h = elim (cases_eq u v) [
      | inl e ↦ rw e in_y
      | inr ne ↦ kept u (sym (get_or-set_other X v u true false ne) ∙ h)
    ]

-- the tail of a line joins a set with its head
pub steps-back : (g : GraphValue) (l : Line) (X R : List Bool) → length X ≡ length g.names → IsReach g l.tail R → has X l.head ≡ true → has X l.tail ≡ false → StepsBack g l X true (join X R)
steps-back g l X R long r in_head out =
    let alike : length (join X R) ≡ length X = length-zip2 ◌||◌ X R (long ∙ sym r.long) in
    record {
      long = alike;
      closed = join-closed g l.tail X R long r;
      kept = join-kept g l.tail X R long r;
      within = λ W none back sub. join-within g l.tail X R long r W none (back (sub l.head in_head)) sub;
      more = size-grows X (join X R) l.tail alike (join-kept g l.tail X R long r) out (join-gets g l.tail X R long r);
      same = tt;
      back = tt;
    }

-- one place more
module _ {Seen More : ℕ → Type 0} {k : ℕ} (split : (j : ℕ) → More j → (j ≡ k) ⊎ Seen j) where
  back-more : (arcs : List Line) (skip : ℕ) (Y : List Bool) → GoesBack Seen arcs skip Y → ((l : Line) → slice_get arcs k ≡ Some l → k ≢ skip → has Y l.head ≡ true → has Y l.tail ≡ true) → GoesBack More arcs skip Y
  back-more arcs skip Y before here j l seen at ne = elim (split j seen) [
    | inl e ↦ here l (rw e at at) (rw e at ne)
    | inr other ↦ before j l other at ne
  ]

  module _ {g : GraphValue} {arcs : List Line} {skip : ℕ} {X Y : List Bool} where
    passed-more : {grew : Bool} → HasPassed g arcs skip Seen X grew Y → ((l : Line) → slice_get arcs k ≡ Some l → k ≢ skip → has Y l.head ≡ true → has Y l.tail ≡ true) → HasPassed g arcs skip More X grew Y
    passed-more {grew} p here = record { long = p.long; spreading = p.spreading; kept = p.kept; more = p.more; done = goes grew p.done }
      where
        goes : (b : Bool) → OnFalse b (GoesBack Seen arcs skip Y) → OnFalse b (GoesBack More arcs skip Y)
        goes true d = tt
        goes false d = back-more arcs skip Y d here

    pub passed-skip : {grew : Bool} → HasPassed g arcs skip Seen X grew Y → k ≡ skip → HasPassed g arcs skip More X grew Y
    passed-skip p e = passed-more p (λ l at ne. absurd (ne e))

    pub passed-stay : {grew : Bool} {Z : List Bool} (l : Line) → HasPassed g arcs skip Seen X grew Y → slice_get arcs k ≡ Some l → StepsBack g l Y false Z → HasPassed g arcs skip More X grew Z
    passed-stay {grew} l p at s =
        subst (HasPassed g arcs skip More X grew) (sym s.same)
        (passed-more p (λ m at_m ne in_h. let same : m ≡ l = cc in rw same (s.back (rw same at in_h))))

    pub passed-step : {grew : Bool} {Z : List Bool} (l : Line) → HasPassed g arcs skip Seen X grew Y → slice_get arcs k ≡ Some l → k ≢ skip → StepsBack g l Y true Z → HasPassed g arcs skip More X true Z
    passed-step l p at ne s = record {
      long = s.long ∙ p.long;
      spreading = λ y x.
          let before = p.spreading y x in
          record {
            long = s.long ∙ before.long;
            holds = s.kept y before.holds;
            closed = s.closed before.closed;
            within = λ W w in_y v h. s.within W w.closed (w.back k l (slice_get_within arcs k l at) at ne) (before.within W w in_y) v h;
          };
      kept = let a = p.kept in let b = s.more in omega arith;
      more = let a = p.kept in let b = s.more in omega arith;
      done = tt;
    }

-- the next place that is counted
pub counted-more : (last : Bool) (m k next : ℕ) → next ≡ place_from last m k → (j : ℕ) → IsCounted last m (k + 1) j → (j ≡ next) ⊎ IsCounted last m k j
counted-more last m k next at j (i, l, is) = elim (cases_eq i k) [
  | inl e ↦ inl (sym is ∙ ap (place_from last m) e ∙ sym at)
  | inr ne ↦ inr (i, omega arith, is)
]

-- each place is counted
counted-all : (last : Bool) (m j : ℕ) → j < m → IsCounted last m m j
counted-all false m j l = (j, l, refl)
counted-all true m j l = (m - (j + 1), omega arith, omega arith)

pub passed-all : {g : GraphValue} {arcs : List Line} {skip : ℕ} {X Y : List Bool} (last : Bool) (grew : Bool) → HasPassed g arcs skip (IsCounted last (length arcs) (length arcs)) X grew Y → HasPassed g arcs skip (λ j. j < length arcs) X grew Y
passed-all {g} {arcs} {skip} {X} {Y} last grew p = record { long = p.long; spreading = p.spreading; kept = p.kept; more = p.more; done = all grew p.done }
  where
    all : (b : Bool) → OnFalse b (GoesBack (IsCounted last (length arcs) (length arcs)) arcs skip Y) → OnFalse b (GoesBack (λ j. j < length arcs) arcs skip Y)
    all true d = tt
    all false d = λ j l below at ne. d j l (counted-all last (length arcs) j below) at ne

-- one test that passes, at one place
module _ {X : Type 0} (p : X → Bool) where
  count-fail : (xs : List X) → ((j : ℕ) (x : X) → slice_get xs j ≡ Some x → p x ≡ false) → count_by p xs ≡ 0
  count-fail [] h = refl
  count-fail (x ∷ xs) h = omega (arith, count-cons p x xs, weight_false (p x) (h 0 x refl), count-fail xs (λ j z e. h (suc j) z e))

  -- at most one passes where each but that at one place fails
  count-one : (xs : List X) (skip : ℕ) → ((j : ℕ) (x : X) → slice_get xs j ≡ Some x → j ≢ skip → p x ≡ false) → count_by p xs ≤ 1
  count-one [] skip h = omega arith
  count-one (x ∷ xs) zero h = omega (arith, count-cons p x xs, weight_most (p x), count-fail xs (λ j z e. h (suc j) z e (λ n. absurd (omega arith))))
  count-one (x ∷ xs) (suc skip) h =
      omega (arith, count-cons p x xs, weight_false (p x) (h 0 x refl (λ n. absurd (omega arith))), count-one xs skip (λ j z e ne. h (suc j) z e (λ n. ne (omega arith))))

  first_only : (x : X) (xs : List X) → count_by p xs ≡ 0 → (j : ℕ) (z : X) → slice_get (x ∷ xs) j ≡ Some z → j ≢ 0 → p z ≡ false
  first_only x xs none zero z e ne = absurd (ne refl)
  first_only x xs none (suc j) z e ne = All-slice_get (λ y. p y ≡ false) xs (none-pass p xs none) j z e

  later_only : (x : X) (xs : List X) → p x ≡ false → (skip : ℕ) → ((j : ℕ) (z : X) → slice_get xs j ≡ Some z → j ≢ skip → p z ≡ false) → (j : ℕ) (z : X) → slice_get (x ∷ xs) j ≡ Some z → j ≢ suc skip → p z ≡ false
  later_only x xs fail skip h zero z e ne = let same : z ≡ x = cc in ap p same ∙ fail
  later_only x xs fail skip h (suc j) z e ne = h j z e (λ q. ne (ap suc q))

  -- where one passes, each at another place fails
  one-place : (xs : List X) → count_by p xs ≡ 1 → (skip : ℕ) × (skip < length xs) × ((j : ℕ) (x : X) → slice_get xs j ≡ Some x → j ≢ skip → p x ≡ false)
  one-place [] h = absurd (omega arith)
  one-place (x ∷ xs) h = elim (cases_Bool (p x)) [
    | inl pass ↦ (0, omega arith, first_only x xs (omega (arith, count-cons p x xs, weight_true (p x) pass)))
    | inr fail ↦ let (skip, l, others) = one-place xs (omega (arith, count-cons p x xs, weight_false (p x) fail)) in (suc skip, omega arith, later_only x xs fail skip others)
  ]

-- with a dijoin, sets that are spread and proper are tight, and tight sides are spread
module _ {g : GraphValue} {B : List ℕ} (f : IsFeasible g B) where
  abbrev arcs : List Line
  arcs = picked g.lines B

  spread-separates : (y x skip : ℕ) (R : List Bool) → x < length g.names → SpreadsBetween g arcs y x skip R → AreSeparated g B y x
  spread-separates y x skip R x_in s =
      let closed : IsClosed g R = record { proper = is_proper R y x s.spread.long s.holds x_in s.misses; closed = s.spread.closed } in
      let most : joins g B R ≤ 1 = count-one (enters R) arcs skip (λ j l e ne. never_out (has R l.head) (has R l.tail) (s.spread.back j l (slice_get_within arcs j l e) e ne)) in
      let least : 1 ≤ joins g B R = f.covers R closed in
      (R, record { tight = record { closed = closed; once = omega arith }; holds = s.holds; misses = s.misses })

  tight-spread : (T : List Bool) → IsTight g B T → (skip : ℕ) × (skip < length arcs) × IsSpread g arcs skip T
  tight-spread T tight =
      let (skip, l, others) = one-place (enters T) arcs tight.once in
      (skip, l, record { long = tight.closed.proper.long; closed = tight.closed.closed; back = λ j l _ e ne in_h. not_out (has T l.head) (has T l.tail) (others j l e ne) in_h })

  pub common-kernel : (y : ℕ) (K : List Bool) → IsCommon g arcs (length arcs) y K → IsKernel g B y K
  common-kernel y K c = record {
    long = c.long;
    inside = λ x in_k T tight in_y. let (skip, l, s) = tight-spread T tight in c.inside x in_k skip l T s in_y;
    outside = λ x x_in out. let (skip, l, R, s) = c.outside x x_in out in spread-separates y x skip R x_in s;
  }

-- what is common for one place more
one_out : (a b : Bool) → (a && b) ≡ false → a ≡ true → b ≡ false
one_out a b h k = grind arith

pub common-more : {g : GraphValue} {arcs : List Line} {k y : ℕ} (K R : List Bool) → IsCommon g arcs k y K → IsLeastSpread g arcs k y R → IsCommon g arcs (k + 1) y (meet K R)
common-more {g} {arcs} {k} {y} K R c s =
    let alike : length K ≡ length R = c.long ∙ sym s.spreading.long in
    record {
      long = length-zip2 ◌&&◌ K R alike ∙ c.long;
      inside = λ x h skip l W w in_y.
          let two = and_parts (has K x) (has R x) (sym (has-meet K R x alike) ∙ h) in
          elim (cases_eq skip k) [
            | inl e ↦ s.spreading.within W (rw e at w) in_y x two.1
            | inr ne ↦ c.inside x two.0 skip (omega arith) W w in_y
          ];
      outside = λ x x_in h. elim (cases_Bool (has K x)) [
        | inl in_k ↦ (k, omega arith, R, record { spread = s.spread; holds = s.spreading.holds; misses = one_out (has K x) (has R x) (sym (has-meet K R x alike) ∙ h) in_k })
        | inr out ↦ let (skip, l, W, between) = c.outside x x_in out in (skip, omega arith, W, between)
      ];
    }

-- two sets that are spread have a set in common that is spread as the second is, if that misses the head that the first leaves out
spread-meets : {g : GraphValue} {arcs : List Line} {k skip : ℕ} (W R : List Bool) (l : Line) → slice_get arcs k ≡ Some l → has R l.head ≡ false → IsSpread g arcs k W → IsSpread g arcs skip R → IsSpread g arcs skip (meet W R)
spread-meets {g} {arcs} {k} {skip} W R l at out w r =
    let alike : length W ≡ length R = w.long ∙ sym r.long in
    record {
      long = length-zip2 ◌&&◌ W R alike ∙ w.long;
      closed = (let law = leaving_meets g.lines W R w.long r.long in let a = w.closed in let b = r.closed in omega arith);
      back = λ j m below at_m ne in_h.
          let two = and_parts (has W m.head) (has R m.head) (sym (has-meet W R m.head alike) ∙ in_h) in
          let other : j ≢ k = (λ e. let same : m ≡ l = (let here = subst (λ i. slice_get arcs i ≡ Some m) e at_m in cc) in both_ways (has R l.head) out (subst (λ (x : Line). has R x.head ≡ true) same two.1)) in
          has-meet W R m.tail alike ∙ and_from (has W m.tail) (has R m.tail) (w.back j m below at_m other two.0) (r.back j m below at_m ne two.1);
    }

-- an arc whose head is out takes no more out
pub common-skip : {g : GraphValue} {arcs : List Line} {k y : ℕ} (K : List Bool) (l : Line) → slice_get arcs k ≡ Some l → l.head < length g.names → has K l.head ≡ false → IsCommon g arcs k y K → IsCommon g arcs (k + 1) y K
common-skip {g} {arcs} {k} {y} K l at head_in out c = record {
  long = c.long;
  inside = λ x h skip less W w in_y. elim (cases_eq skip k) [
    | inr ne ↦ c.inside x h skip (omega arith) W w in_y
    | inl e ↦
        let (other, before, R, between) = c.outside l.head head_in out in
        let alike : length W ≡ length R = w.long ∙ sym between.spread.long in
        let both = spread-meets W R l at between.misses (subst (λ i. IsSpread g arcs i W) e w) between.spread in
        let in_both = has-meet W R y alike ∙ and_from (has W y) (has R y) in_y between.holds in
        (and_parts (has W x) (has R x) (sym (has-meet W R x alike) ∙ c.inside x h other before (meet W R) both in_both)).0
  ];
  outside = λ x x_in missed. let (skip, before, R, between) = c.outside x x_in missed in (skip, omega arith, R, between);
}
