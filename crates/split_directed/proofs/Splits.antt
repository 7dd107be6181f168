-- How the two functions of a star and its counts change where an arc from u and one to t are split off c times.
use Rattle.std.specs.Prelude.{ℕ, ◌≡◌, ◌+◌, ◌-◌, ◌*◌, ◌<◌, ◌≤◌, ◌==◌, ◌⊎◌, Bool, true, false, not, ◌&&◌, cond, List, length, slice_index, sum, All, refl}
use Rattle.std.proofs.Common.{sym, ap, ◌∙◌, inl, inr, arith}
use Rattle.std.proofs.lemmas.Bool.{cases_Bool, cases_eq, eqb-true, eqb-false}
use Rattle.std.proofs.lemmas.List.{length-set, get_or-set_same, get_or-set_other}
use Rattle.std.proofs.lemmas.List.Elements.{All-nil, All-append, All-replicate}
use Rattle.std.proofs.lemmas.List.Folds.{sum_by-replicate}
use Rattle.std.proofs.lemmas.List.Sums.{sum_by-append, sum_by-set}
use Rattle.graph_core.specs.Side.{has}
use Rattle.graph_core.specs.Graph.{Fits, line_of}
use Rattle.graph_core.specs.Lines.{entering, leaving, enters, leaves}
use Rattle.graph_core.proofs.Counting.{weight}
use Rattle.flow_cuts.specs.Network.{across}
use Rattle.split_directed.specs.Rows.{copies, lowered, split}
use Rattle.cut_fn.specs.Stars.{StarValue, star_enter, star_leave}
use Rattle.graph_core.proofs.NodeCounts.{nodes_lowered}

times_weight : (a b : Bool) (c : ℕ) → c * weight (a && not b) ≡ across a b c
times_weight true true c = omega arith
times_weight true false c = omega arith
times_weight false b c = omega arith

across_same : (b : Bool) (c : ℕ) → across b b c ≡ 0
across_same true c = refl
across_same false c = refl

-- copies are counted as one arc of that capacity
pub entering-copies : (X : List Bool) (u t c : ℕ) → entering X (copies u t c) ≡ across (has X t) (has X u) c
entering-copies X u t c = go (cases_Bool (u == t))
  where
    go : ((u == t) ≡ true) ⊎ ((u == t) ≡ false) → entering X (copies u t c) ≡ across (has X t) (has X u) c
    go (inl e) = rw e (sym (ap (λ v. across (has X t) (has X v) c) (eqb-true u t e) ∙ across_same (has X t) c))
    go (inr e) = rw e (sum_by-replicate (λ l. weight (enters X l)) c (line_of (u, t)) ∙ times_weight (has X t) (has X u) c)

pub leaving-copies : (X : List Bool) (u t c : ℕ) → leaving X (copies u t c) ≡ across (has X u) (has X t) c
leaving-copies X u t c = go (cases_Bool (u == t))
  where
    go : ((u == t) ≡ true) ⊎ ((u == t) ≡ false) → leaving X (copies u t c) ≡ across (has X u) (has X t) c
    go (inl e) = rw e (sym (ap (λ v. across (has X v) (has X t) c) (eqb-true u t e) ∙ across_same (has X t) c))
    go (inr e) = rw e (sum_by-replicate (λ l. weight (leaves X l)) c (line_of (u, t)) ∙ times_weight (has X u) (has X t) c)

pub copies-fit : (n u t c : ℕ) → u < n → t < n → All (Fits n) (copies u t c)
copies-fit n u t c lu lt = go (cases_Bool (u == t))
  where
    go : ((u == t) ≡ true) ⊎ ((u == t) ≡ false) → All (Fits n) (copies u t c)
    go (inl e) = rw e (All-nil (Fits n))
    go (inr e) = rw e (All-replicate (Fits n) c (line_of (u, t)) (record { tail = lu; head = lt; apart = eqb-false u t e }))

enter_balance : (b a : Bool) (c : ℕ) → across a b c + cond (b && a) c 0 ≡ cond a c 0
enter_balance true true c = omega arith
enter_balance false true c = omega arith
enter_balance true false c = omega arith
enter_balance false false c = omega arith

leave_balance : (b a : Bool) (c : ℕ) → across b a c + cond (b && a) c 0 ≡ cond b c 0
leave_balance true true c = omega arith
leave_balance false true c = omega arith
leave_balance true false c = omega arith
leave_balance false false c = omega arith

-- a count lowered by c
pub lowered_here : (counts : List ℕ) (v c : ℕ) → v < length counts → c ≤ slice_index counts v → slice_index (lowered counts v c) v + c ≡ slice_index counts v
lowered_here counts v c l le = omega (arith, get_or-set_same counts v (slice_index counts v - c) 0 l)

pub lowered_less : (counts : List ℕ) (v c w : ℕ) → v < length counts → slice_index (lowered counts v c) w ≤ slice_index counts w
lowered_less counts v c w l = go (cases_eq w v)
  where
    go : (w ≡ v) ⊎ (w ≡ v → ⊥) → slice_index (lowered counts v c) w ≤ slice_index counts w
    go (inl e) = rw e (omega (arith, get_or-set_same counts v (slice_index counts v - c) 0 l))
    go (inr ne) = omega (arith, get_or-set_other counts v w (slice_index counts v - c) 0 ne)

pub lowered_sum : (counts : List ℕ) (v c : ℕ) → v < length counts → c ≤ slice_index counts v → sum (lowered counts v c) + c ≡ sum counts
lowered_sum counts v c l le = omega (arith, sum_by-set (λ x. x) counts v (slice_index counts v - c) 0 l)

-- the star s' is s with u and t split off c times, or s itself where c is 0
pub record Falls (n : ℕ) (s s' : StarValue) (u t c : ℕ) : Type 0 where
  pub fits : All (Fits n) s.lines → All (Fits n) s'.lines
  pub into_long : length s'.into ≡ length s.into
  pub out_long : length s'.out ≡ length s.out
  pub enters : (X : List Bool) → length X ≡ n → star_enter s' X + cond (has X u && has X t) c 0 ≡ star_enter s X
  pub leaves : (X : List Bool) → length X ≡ n → star_leave s' X + cond (has X u && has X t) c 0 ≡ star_leave s X
  pub into_here : slice_index s'.into t + c ≡ slice_index s.into t
  pub out_here : slice_index s'.out u + c ≡ slice_index s.out u
  pub into_less : (v : ℕ) → slice_index s'.into v ≤ slice_index s.into v
  pub out_less : (v : ℕ) → slice_index s'.out v ≤ slice_index s.out v
  pub into_sum : sum s'.into + c ≡ sum s.into
  pub out_sum : sum s'.out + c ≡ sum s.out

pub falls_split : {n : ℕ} (s : StarValue) (u t c : ℕ) → length s.into ≡ n → length s.out ≡ n → u < n → t < n → c ≤ slice_index s.into t
    → c ≤ slice_index s.out u → Falls n s (split s u t c) u t c
falls_split {n} s u t c into out lu lt ci co = record {
  fits = λ fits. All-append (Fits n) s.lines (copies u t c) fits (copies-fit n u t c lu lt);
  into_long = length-set s.into t (slice_index s.into t - c);
  out_long = length-set s.out u (slice_index s.out u - c);
  enters = λ X x. omega (
    arith,
    sum_by-append (λ l. weight (enters X l)) s.lines (copies u t c),
    entering-copies X u t c,
    nodes_lowered s.into X t c (omega arith) ci,
    enter_balance (has X u) (has X t) c,
  );
  leaves = λ X x. omega (
    arith,
    sum_by-append (λ l. weight (leaves X l)) s.lines (copies u t c),
    leaving-copies X u t c,
    nodes_lowered s.out X u c (omega arith) co,
    leave_balance (has X u) (has X t) c,
  );
  into_here = lowered_here s.into t c (omega arith) ci;
  out_here = lowered_here s.out u c (omega arith) co;
  into_less = λ v. lowered_less s.into t c v (omega arith);
  out_less = λ v. lowered_less s.out u c v (omega arith);
  into_sum = lowered_sum s.into t c (omega arith) ci;
  out_sum = lowered_sum s.out u c (omega arith) co;
}

cond_none : (b : Bool) (c : ℕ) → cond b c c ≡ c
cond_none true c = refl
cond_none false c = refl

pub falls_none : {n : ℕ} (s : StarValue) (u t : ℕ) → Falls n s s u t 0
falls_none s u t = record {
  fits = λ fits. fits;
  into_long = refl;
  out_long = refl;
  enters = λ X x. omega (arith, cond_none (has X u && has X t) 0);
  leaves = λ X x. omega (arith, cond_none (has X u && has X t) 0);
  into_here = omega arith;
  out_here = omega arith;
  into_less = λ v. omega arith;
  out_less = λ v. omega arith;
  into_sum = omega arith;
  out_sum = omega arith;
}
