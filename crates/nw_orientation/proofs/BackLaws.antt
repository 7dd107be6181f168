-- Directions of the split graph, led back through the node, keep the digraph k-arc-connected.
use Rattle.std.specs.Prelude.{ℕ, suc, ◌≡◌, ◌≢◌, ◌+◌, ◌<◌, ◌≤◌, ◌==◌, Bool, true, false, not, ◌&&◌, ◌||◌, cond, List, [], ◌∷◌, ◌++◌, length, drop, map, sum_by, count_by, All, refl}
use Rattle.std.proofs.Common.{sym, ap, ◌∙◌, arith, inl, inr, ◌⊎◌}
use Rattle.std.proofs.lemmas.Bool.{false≢true, cases_Bool, cases_eq, eqb-true, eq-eqb, ne_eqb, not-true, not-false}
use Rattle.std.proofs.lemmas.List.{length-map}
use Rattle.std.proofs.lemmas.List.Elements.{All-nil, All-cons, All-weaker, All-head, All-tail}
use Rattle.graph_core.specs.Connected.{IsArcConnected}
use Rattle.graph_core.specs.Graph.{Fits, line_of, lines_of}
use Rattle.graph_core.specs.Lines.{enters, entering}
use Rattle.graph_core.specs.Picked.{occurrences}
use Rattle.graph_core.specs.Side.{has}
use Rattle.graph_core.proofs.Counting.{weight, weight-and, sum_by-agree, count-all}
use Rattle.graph_core.proofs.SideLaws.{has-below}
use Rattle.graph_core.proofs.SizeLaws.{count-cons, some_or_none}
use Rattle.graph_core.specs.declared.graph.Line.{Line}
use Rattle.problem_defs.specs.Orient.{turn, turned}
use Rattle.split_undirected.specs.Split.{ends_at}
use Rattle.nw_orientation.specs.Chosen.{chosen, first, rest, woven}
use Rattle.nw_orientation.specs.Led.{led, arrives, AreClaimed}
use Rattle.nw_orientation.specs.Moved.{moved, moved_line, touches, other_end, apart_marks, others, spokes, spoke_ends}
use Rattle.nw_orientation.specs.SplitOff.{IsSpoke}
use Rattle.nw_orientation.proofs.ChosenLaws.{count-woven, count-turned_append}
use Rattle.nw_orientation.proofs.MovedLaws.{left, has-left, moved_below, tail-left, head-left, IsApart, far_apart, near_touch}
use Rattle.graph_core.proofs.HeadLaws.{nodes_named, nodes_named_by}
use Rattle.graph_core.proofs.WeightLaws.{nodes_agree}
use Rattle.graph_core.proofs.SetLaws.{length_of, has_of}
use Rattle.graph_core.proofs.ProperLaws.{is_proper, node_in, node_out}
use Rattle.graph_core.specs.Pairs.{apart}

-- lines turned, and all that holds of a line either way
All-turned : (P Q : Line → Type 0) → ((l : Line) (h : Bool) → P l → Q (turn l h)) → (ls : List Line) (hs : List Bool) → All P ls → All Q (turned ls hs)
All-turned P Q step [] hs all = All-nil Q
All-turned P Q step (l ∷ ls) [] all = All-nil Q
All-turned P Q step (l ∷ ls) (h ∷ hs) all = All-cons Q (turn l h) (turned ls hs) (step l h (All-head P l ls all)) (All-turned P Q step ls hs (All-tail P l ls all))

spoke_turned : (z q : ℕ) (l : Line) (h : Bool) → IsSpoke z q l → IsSpoke z q (turn l h)
spoke_turned z q l true s = s
spoke_turned z q l false s = record {
  fits = record { tail = s.fits.head; head = s.fits.tail; apart = λ e. s.fits.apart (sym e) };
  touching = or_turned (l.head == z) (l.tail == z) ∙ s.touching;
}
  where
    or_turned : (a b : Bool) → (a || b) ≡ (b || a)
    or_turned a b = grind arith

-- an arc from z to the node w of those that are left
abbrev pub departs : ℕ → ℕ → ℕ → Line → Bool
departs z q w l = (l.tail == z) && (moved z q l.head == w)

-- a spoke has z as its head, or as its tail, and not both
pub record Arrives (z : ℕ) (l : Line) : Type 0 where
  pub head : l.head ≡ z
  pub tail_not : l.tail ≢ z

pub record Departs (z : ℕ) (l : Line) : Type 0 where
  pub tail : l.tail ≡ z
  pub head_not : l.head ≢ z

pub ways : (z q : ℕ) (l : Line) → IsSpoke z q l → Arrives z l ⊎ Departs z l
ways z q l s = elim (cases_eq l.tail z) [
  | inl e ↦ inr (record { tail = e; head_not = λ h. s.fits.apart (e ∙ sym h) })
  | inr ne ↦ inl (record { head = eqb-true l.head z (rw (ne_eqb l.tail z ne) at s.touching); tail_not = ne })
]

one_way : (z q w : ℕ) (l : Line) (h : Bool) → IsSpoke z q l → weight (arrives z q w (turn l h)) + weight (departs z q w (turn l h)) ≡ weight (moved z q (other_end z l) == w)
one_way z q w l true s = elim (ways z q l s) [
  | inl a ↦ rw (ne_eqb l.tail z a.tail_not, eq-eqb l.head z a.head) (omega arith)
  | inr d ↦ rw (eq-eqb l.tail z d.tail, ne_eqb l.head z d.head_not) (omega arith)
]
one_way z q w l false s = elim (ways z q l s) [
  | inl a ↦ rw (ne_eqb l.tail z a.tail_not, eq-eqb l.head z a.head) (omega arith)
  | inr d ↦ rw (eq-eqb l.tail z d.tail, ne_eqb l.head z d.head_not) (omega arith)
]

-- at each node each spoke arrives or departs
both_ways : (z q w : ℕ) (ls : List Line) (hs : List Bool) → All (IsSpoke z q) ls → length hs ≡ length ls → count_by (arrives z q w) (turned ls hs) + count_by (departs z q w) (turned ls hs) ≡ occurrences w (map (λ l. moved z q (other_end z l)) ls)
both_ways z q w [] [] s e = refl
both_ways z q w [] (h ∷ hs) s e = absurd (omega arith)
both_ways z q w (l ∷ ls) [] s e = absurd (omega arith)
both_ways z q w (l ∷ ls) (h ∷ hs) s e =
    omega (
      arith,
      count-cons (arrives z q w) (turn l h) (turned ls hs),
      count-cons (departs z q w) (turn l h) (turned ls hs),
      count-cons (λ i. i == w) (moved z q (other_end z l)) (map (λ k. moved z q (other_end z k)) ls),
      one_way z q w l h (All-head (IsSpoke z q) l ls s),
      both_ways z q w ls hs (All-tail (IsSpoke z q) l ls s) (omega arith),
    )

-- the arcs of pairs
pub length-led : (pairs : List (ℕ × ℕ)) (hs : List Bool) → length (led pairs hs) ≡ length pairs
length-led [] hs = refl
length-led (p ∷ pairs) hs = ap suc (length-led pairs (cond (p.0 == p.1) hs (rest hs)))

turn_ends : (v : ℕ) (l : Line) (h : Bool) → weight ((turn l h).tail == v) + weight ((turn l h).head == v) ≡ weight (l.tail == v) + weight (l.head == v)
turn_ends v l true = refl
turn_ends v l false = omega arith

pub ends-led : (v : ℕ) (pairs : List (ℕ × ℕ)) (hs : List Bool) → count_by (λ l. l.tail == v) (led pairs hs) + count_by (λ l. l.head == v) (led pairs hs) ≡ ends_at v pairs
ends-led v [] hs = refl
ends-led v (p ∷ pairs) hs =
    let l = turn (line_of p) (first hs) in
    let others = led pairs (cond (p.0 == p.1) hs (rest hs)) in
    omega (
      arith,
      count-cons (λ k. k.tail == v) l others,
      count-cons (λ k. k.head == v) l others,
      count-cons (λ r. r.0 == v) p pairs,
      count-cons (λ r. r.1 == v) p pairs,
      turn_ends v (line_of p) (first hs),
      ends-led v pairs (cond (p.0 == p.1) hs (rest hs)),
    )

-- where a test passes each line that enters Y, as many arcs of pairs pass as new edges enter
module _ (q : ℕ) (Y : List Bool) (r : Line → Bool) (weaker : (l : Line) → l.tail < q → l.head < q → weight (enters Y l) ≤ weight (r l)) where
  turned_weaker : (p : ℕ × ℕ) (h : Bool) → (p.0 < q) × (p.1 < q) → weight (enters Y (turn (line_of p) h)) ≤ weight (r (turn (line_of p) h))
  turned_weaker p true l = weaker (line_of p) l.0 l.1
  turned_weaker p false l = weaker (turn (line_of p) false) l.1 l.0

  pub entering-led : (pairs : List (ℕ × ℕ)) (hs : List Bool) → All (λ p. (p.0 < q) × (p.1 < q)) pairs → entering Y (turned (lines_of (apart pairs)) hs) ≤ count_by r (led pairs hs)
  entering-led [] hs low = omega arith
  entering-led (p ∷ pairs) hs low =
      let later = All-tail (λ x. (x.0 < q) × (x.1 < q)) p pairs low in
      let same = entering-led pairs hs later in
      let next = entering-led pairs (rest hs) later in
      let here = turned_weaker p (first hs) (All-head (λ x. (x.0 < q) × (x.1 < q)) p pairs low) in
      rw (count-cons r (turn (line_of p) (first hs)) (led pairs (cond (p.0 == p.1) hs (rest hs))))
      (elim (p.0 == p.1) as (λ b. entering Y (turned (lines_of (cond (not b) (p ∷ apart pairs) (apart pairs))) hs) ≤ weight (r (turn (line_of p) (first hs))) + count_by r (led pairs (cond b hs (rest hs)))) [
        | true ↦ omega arith
        | false ↦ front hs next here
      ])
    where
      front : (gs : List Bool) → entering Y (turned (lines_of (apart pairs)) (rest gs)) ≤ count_by r (led pairs (rest gs)) → weight (enters Y (turn (line_of p) (first gs))) ≤ weight (r (turn (line_of p) (first gs)))
          → entering Y (turned (lines_of (p ∷ apart pairs)) gs) ≤ weight (r (turn (line_of p) (first gs))) + count_by r (led pairs (rest gs))
      front [] next here = omega arith
      front (g ∷ gs) next here = omega (arith, count-cons (enters Y) (turn (line_of p) g) (turned (lines_of (apart pairs)) gs))

pub All-led : (q : ℕ) (pairs : List (ℕ × ℕ)) (hs : List Bool) → All (λ p. (p.0 < q) × (p.1 < q)) pairs → All (λ l. (l.tail < q) × (l.head < q)) (led pairs hs)
All-led q [] hs low = All-nil (λ l. (l.tail < q) × (l.head < q))
All-led q (p ∷ pairs) hs low =
    All-cons (λ l. (l.tail < q) × (l.head < q)) (turn (line_of p) (first hs)) (led pairs (cond (p.0 == p.1) hs (rest hs)))
    (ends (first hs) (All-head (λ x. (x.0 < q) × (x.1 < q)) p pairs low))
    (All-led q pairs (cond (p.0 == p.1) hs (rest hs)) (All-tail (λ x. (x.0 < q) × (x.1 < q)) p pairs low))
  where
    ends : (h : Bool) → (p.0 < q) × (p.1 < q) → ((turn (line_of p) h).tail < q) × ((turn (line_of p) h).head < q)
    ends true l = l
    ends false l = (l.1, l.0)

module _ (z q : ℕ) (lz : z ≤ q) (X : List Bool) where
  -- X among the nodes that are left, and the others there
  abbrev inside : List Bool
  inside = left z q (has X)

  abbrev outside : List Bool
  outside = left z q (λ v. not (has X v))

  outside_not : (v : ℕ) → v < q → has outside v ≡ not (has inside v)
  outside_not v lv = has_of q (λ u. not (has X (cond (u == z) q u))) v lv ∙ ap not (sym (has_of q (λ u. has X (cond (u == z) q u)) v lv))

  -- lines apart from z
  enters_moved : (l : Line) (h : Bool) → IsApart z q l → weight (enters X (turn l h)) ≡ weight (enters inside (turn (moved_line z q l) h))
  enters_moved l true a = rw (tail-left z q lz (has X) l a, head-left z q lz (has X) l a) refl
  enters_moved l false a = rw (tail-left z q lz (has X) l a, head-left z q lz (has X) l a) refl

  entering-far : (ks : List Line) (hs : List Bool) → All (IsApart z q) ks → entering X (turned ks hs) ≡ entering inside (turned (map (moved_line z q) ks) hs)
  entering-far [] hs a = refl
  entering-far (l ∷ ks) [] a = refl
  entering-far (l ∷ ks) (h ∷ hs) a =
      omega (
        arith,
        count-cons (enters X) (turn l h) (turned ks hs),
        count-cons (enters inside) (turn (moved_line z q l) h) (turned (map (moved_line z q) ks) hs),
        enters_moved l h (All-head (IsApart z q) l ks a),
        entering-far ks hs (All-tail (IsApart z q) l ks a),
      )

  -- a spoke enters X by the way it goes and its other end
  enters_arriving : has X z ≡ true → (l : Line) → IsSpoke z q l → weight (enters X l) ≡ weight ((l.head == z) && has outside (moved z q l.tail))
  enters_arriving here l s = elim (ways z q l s) [
    | inl a ↦ rw (a.head, here, eq-eqb z z refl, has-left z q (λ v. not (has X v)) l.tail lz (omega (arith, s.fits.tail)) a.tail_not) refl
    | inr d ↦ rw (d.tail, here, ne_eqb l.head z d.head_not) (no_entry (has X l.head))
  ]
    where
      no_entry : (b : Bool) → weight (b && false) ≡ 0
      no_entry b = grind arith

  enters_departing : has X z ≡ false → (l : Line) → IsSpoke z q l → weight (enters X l) ≡ weight ((l.tail == z) && has inside (moved z q l.head))
  enters_departing here l s = elim (ways z q l s) [
    | inl a ↦ rw (a.head, here, ne_eqb l.tail z a.tail_not) refl
    | inr d ↦ rw (d.tail, here, eq-eqb z z refl, has-left z q (has X) l.head lz (omega (arith, s.fits.head)) d.head_not) (entry (has X l.head))
  ]
    where
      entry : (b : Bool) → weight (b && true) ≡ weight b
      entry b = grind arith

module _ (z q : ℕ) (lz : z ≤ q) (ls : List Line) (fits : All (Fits (q + 1)) ls) (pairs : List (ℕ × ℕ)) (low : All (λ p. (p.0 < q) × (p.1 < q)) pairs)
    (each : (v : ℕ) → v < q → ends_at v pairs ≡ occurrences v (spoke_ends z q ls)) (gs turns : List Bool) (claimed : AreClaimed z q (spokes z ls) (λ w. count_by (λ a. a.tail == w) (led pairs gs)) turns) where
  departures : (w : ℕ) → w < q → count_by (departs z q w) (turned (spokes z ls) turns) ≡ count_by (λ a. a.head == w) (led pairs gs)
  departures w lw = omega (arith, both_ways z q w (spokes z ls) turns (near_touch z q ls fits) claimed.long, claimed.arrivals w lw, ends-led w pairs gs, each w lw)

  spokes_agree : (X : List Bool) (g : Line → ℕ) → ((l : Line) → IsSpoke z q l → weight (enters X l) ≡ g l) → entering X (turned (spokes z ls) turns) ≡ sum_by g (turned (spokes z ls) turns)
  spokes_agree X g same =
      sum_by-agree (λ l. weight (enters X l)) g (turned (spokes z ls) turns)
      (All-turned (IsSpoke z q) (λ l. weight (enters X l) ≡ g l) (λ l h s. same (turn l h) (spoke_turned z q l h s)) (spokes z ls) turns (near_touch z q ls fits))

  -- what enters X at z, where z is in X: as many as arcs of pairs have their tails outside
  arriving : (X : List Bool) → has X z ≡ true → entering X (turned (spokes z ls) turns) ≡ count_by (λ a. has (outside z q lz X) a.tail) (led pairs gs)
  arriving X here =
      let N = outside z q lz X in
      spokes_agree X (λ l. weight ((l.head == z) && has N (moved z q l.tail))) (enters_arriving z q lz X here)
      ∙ sym (nodes_named_by (λ l. l.head == z) (λ l. moved z q l.tail) N (turned (spokes z ls) turns))
      ∙ nodes_agree (λ v. count_by (arrives z q v) (turned (spokes z ls) turns)) (λ v. count_by (λ a. a.tail == v) (led pairs gs)) N
      (λ v h. claimed.arrivals v (omega (arith, has-below N v h, length_of q (λ u. not (has X (cond (u == z) q u))))))
      ∙ nodes_named (λ a. a.tail) N (led pairs gs)

  -- and where it isn't: as many as have their heads inside
  departing : (X : List Bool) → has X z ≡ false → entering X (turned (spokes z ls) turns) ≡ count_by (λ a. has (inside z q lz X) a.head) (led pairs gs)
  departing X here =
      let N = inside z q lz X in
      spokes_agree X (λ l. weight ((l.tail == z) && has N (moved z q l.head))) (enters_departing z q lz X here)
      ∙ sym (nodes_named_by (λ l. l.tail == z) (λ l. moved z q l.head) N (turned (spokes z ls) turns))
      ∙ nodes_agree (λ v. count_by (departs z q v) (turned (spokes z ls) turns)) (λ v. count_by (λ a. a.head == v) (led pairs gs)) N
      (λ v h. departures v (omega (arith, has-below N v h, length_of q (λ u. has X (cond (u == z) q u)))))
      ∙ nodes_named (λ a. a.head) N (led pairs gs)

-- directions that are led back
pub led_back : (z q : ℕ) → z ≤ q → (ls : List Line) → All (Fits (q + 1)) ls → (pairs : List (ℕ × ℕ)) → All (λ p. (p.0 < q) × (p.1 < q)) pairs → ((v : ℕ) → v < q → ends_at v pairs ≡ occurrences v (spoke_ends z q ls))
    → (hs turns : List Bool) → length (others z q ls) ≤ length hs → AreClaimed z q (spokes z ls) (λ w. count_by (λ a. a.tail == w) (led pairs (drop (length (others z q ls)) hs))) turns
    → (k : ℕ) → k ≤ length pairs → IsArcConnected k q (turned (others z q ls ++ lines_of (apart pairs)) hs) → IsArcConnected k (q + 1) (turned ls (woven (apart_marks z ls) hs turns))
led_back z q lz ls fits pairs low each hs turns long claimed k many conn X p =
    let ms = apart_marks z ls in
    let far = chosen true ls ms in
    let O = others z q ls in
    let gs = drop (length O) hs in
    let I = inside z q lz X in
    let N = outside z q lz X in
    let I_long : length I ≡ q = length_of q (λ u. has X (cond (u == z) q u)) in
    let parts = count-woven (enters X) ls ms hs turns (length-map ls (λ l. not (touches z l))) (omega (arith, length-map far (moved_line z q))) (omega (arith, claimed.long)) in
    let over = entering-far z q lz X far hs (far_apart z q ls fits) in
    let added = count-turned_append (enters I) O (lines_of (apart pairs)) hs long in
    let all_low = All-led q pairs gs low in
    elim (cases_Bool (has X z)) [
      | inl here ↦
          let at_z = arriving z q lz ls fits pairs low each gs turns claimed X here in
          elim (some_or_none I) [
            | inl (u, hu) ↦
                let (v, lv, out) = node_out X p in
                let ne : v ≢ z = λ e. false≢true (sym out ∙ ap (has X) e ∙ here) in
                let proper = is_proper I u (moved z q v) I_long hu (moved_below z q v lz (omega arith) ne) (has-left z q (has X) v lz (omega arith) ne ∙ out) in
                omega (arith, conn I proper, entering-led q I (λ a. has N a.tail) (λ l lt lh. rw (outside_not z q lz X l.tail lt) (weaker (has I l.head) (has I l.tail))) pairs gs low)
            | inr none ↦
                omega (arith, length-led pairs gs, count-all (λ a. has N a.tail) (led pairs gs) (All-weaker (λ l. (l.tail < q) × (l.head < q)) (λ a. has N a.tail ≡ true) (λ a l. outside_not z q lz X a.tail l.0 ∙ ap not (none a.tail)) (led pairs gs) all_low))
          ]
      | inr here ↦
          let at_z = departing z q lz ls fits pairs low each gs turns claimed X here in
          elim (some_or_none N) [
            | inl (u, hu) ↦
                let (v, lv, in') = node_in X p in
                let ne : v ≢ z = λ e. false≢true (sym here ∙ ap (has X) (sym e) ∙ in') in
                let lu : u < q = omega (arith, has-below N u hu, length_of q (λ w. not (has X (cond (w == z) q w)))) in
                let proper = is_proper I (moved z q v) u I_long (has-left z q (has X) v lz (omega arith) ne ∙ in') lu (not-true (has I u) (sym (outside_not z q lz X u lu) ∙ hu)) in
                omega (arith, conn I proper, entering-led q I (λ a. has I a.head) (λ l lt lh. weight-and (has I l.head) (not (has I l.tail))) pairs gs low)
            | inr none ↦
                omega (arith, length-led pairs gs, count-all (λ a. has I a.head) (led pairs gs) (All-weaker (λ l. (l.tail < q) × (l.head < q)) (λ a. has I a.head ≡ true) (λ a l. not-false (has I a.head) (sym (outside_not z q lz X a.head l.1) ∙ none a.head)) (led pairs gs) all_low))
          ]
    ]
  where
    weaker : (a b : Bool) → weight (a && not b) ≤ weight (not b)
    weaker a b = grind arith
