-- Rows of nodes: they begin with each node and the heads of its arcs, and go on from node to node until each is what its node reaches.
use Rattle.std.specs.Prelude.{ℕ, ◌≡◌, ◌≢◌, ◌+◌, ◌<◌, ◌≤◌, Bool, true, false, ◌&&◌, ◌||◌, ◌⊎◌, List, [], ◌∷◌, ◌++◌, length, slice_index_or, slice_set, All}
use Rattle.std.proofs.Common.{ap, sym, ◌∙◌, inl, inr, arith, length-append}
use Rattle.std.proofs.lemmas.Bool.{cases_eq, cases_lt, and_parts, and_from, or_cases, or_left, or_right}
use Rattle.std.proofs.lemmas.List.{length-set, get_or-set_same, get_or_past, get_or_push, get_or_append_left}
use Rattle.std.proofs.lemmas.Simd.{length-zip2}
use Rattle.std.proofs.lemmas.List.Elements.{All-get_or, All-set, All-push, All-weaker}
use Rattle.graph_core.specs.Graph.{GraphValue, Fits}
use Rattle.graph_core.specs.Side.{has, join, IsOnly}
use Rattle.graph_core.specs.Lines.{leaves, leaving}
use Rattle.graph_core.specs.declared.graph.Line.{Line}
use Rattle.graph_core.proofs.Counting.{none-pass, count_by-fails, All-both}
use Rattle.dicut_lattice.specs.Reach.{leads, leads_by, AreSquare, AreRows, AreOwn, LeadsTo, LeadsOn, LeadOnBelow, AreReached}
use Rattle.dicut_lattice.proofs.ClosedSides.{has-join, not_out, never_out}

-- one row is exchanged
row-long : {n : ℕ} (rows : List (List Bool)) → AreSquare n rows → (v : ℕ) → v < n → length (slice_index_or rows v []) ≡ n
row-long {n} rows s v l = let e = s.count in All-get_or (λ R. length R ≡ n) rows v [] (omega arith) s.long

square-set : {n : ℕ} (rows : List (List Bool)) (v : ℕ) (R : List Bool) → AreSquare n rows → length R ≡ n → AreSquare n (slice_set rows v R)
square-set {n} rows v R s long = record { count = length-set rows v R ∙ s.count; long = All-set (λ X. length X ≡ n) rows v R long s.long }

leads-set : (rows : List (List Bool)) (v w : ℕ) (R : List Bool) → v < length rows → leads (slice_set rows v R) v w ≡ has R w
leads-set rows v w R l = ap (λ X. has X w) (get_or-set_same rows v R [] l)

-- the row of k is joined to that of v
module _ (rows : List (List Bool)) (s : AreSquare (length rows) rows) (v k : ℕ) (v_in : v < length rows) (k_in : k < length rows) where
  alike : length (slice_index_or rows v []) ≡ length (slice_index_or rows k [])
  alike = row-long rows s v v_in ∙ sym (row-long rows s k k_in)

  abbrev both : List Bool
  both = join (slice_index_or rows v []) (slice_index_or rows k [])

  pub join-square : AreSquare (length rows) (slice_set rows v both)
  join-square = square-set rows v both s (length-zip2 ◌||◌ (slice_index_or rows v []) (slice_index_or rows k []) alike ∙ row-long rows s v v_in)

  pub join-leads : leads rows v k ≡ true → (w : ℕ) → leads (slice_set rows v both) v w ≡ leads_by k rows v w
  join-leads has_k w =
      leads-set rows v w both v_in
      ∙ has-join (slice_index_or rows v []) (slice_index_or rows k []) w alike
      ∙ same (leads rows v w) (leads rows v k) (leads rows k w) has_k
    where
      same : (a b c : Bool) → b ≡ true → (a || c) ≡ (a || (b && c))
      same a b c h = grind arith

-- rows of which those below v are made
module _ (k v : ℕ) (first rows new : List (List Bool)) (done : (u w : ℕ) → u < v → leads rows u w ≡ leads_by k first u w) (left : (u w : ℕ) → v ≤ u → leads rows u w ≡ leads first u w) where
  -- that of k stays
  row_k : (w : ℕ) → leads rows k w ≡ leads first k w
  row_k w = elim (cases_lt k v) [
    | inl l ↦ done k w l ∙ absorbed (leads first k w) (leads first k k)
    | inr past ↦ left k w past
  ]
    where
      absorbed : (a b : Bool) → (a || (b && a)) ≡ a
      absorbed a b = grind arith

  module _ (here : (w : ℕ) → leads new v w ≡ leads_by k rows v w) (others : (u w : ℕ) → u ≢ v → leads new u w ≡ leads rows u w) where
    pub done-more : (u w : ℕ) → u < v + 1 → leads new u w ≡ leads_by k first u w
    done-more u w l = elim (cases_eq u v) [
      | inl e ↦ rw e (here w ∙ (λ t. left v w (omega arith) t || (left v k (omega arith) t && row_k w t)))
      | inr ne ↦ others u w ne ∙ done u w (omega arith)
    ]

    pub left-more : (u w : ℕ) → v + 1 ≤ u → leads new u w ≡ leads first u w
    left-more u w l = others u w (λ e. absurd (omega arith)) ∙ left u w (omega arith)

-- one step keeps what rows are, and reaches on by one node more
module _ {k : ℕ} {old new : List (List Bool)} (s : LeadsOn k old new) where
  by-is : (v w : ℕ) → leads new v w ≡ true → (leads old v w ≡ true) ⊎ ((leads old v k ≡ true) × (leads old k w ≡ true))
  by-is v w h = elim (or_cases (leads old v w) (leads old v k && leads old k w) (sym (s.by v w) ∙ h)) [
    | inl is ↦ inl is
    | inr on ↦ inr (and_parts (leads old v k) (leads old k w) on)
  ]

  kept : (v w : ℕ) → leads old v w ≡ true → leads new v w ≡ true
  kept v w h = s.by v w ∙ or_left (leads old v w) (leads old v k && leads old k w) h

  along_k : (v w : ℕ) → leads old v k ≡ true → leads old k w ≡ true → leads new v w ≡ true
  along_k v w h i = s.by v w ∙ or_right (leads old v w) (leads old v k && leads old k w) (and_from (leads old v k) (leads old k w) h i)

  pub rows-on : {g : GraphValue} {ls : List Line} → AreRows g ls old → AreRows g ls new
  rows-on {g} {ls} r = record {
    square = rw r.square.count at s.square;
    here = λ v l. kept v v (r.here v l);
    along = All-weaker (λ l. leads old l.tail l.head ≡ true) (λ l. leads new l.tail l.head ≡ true) (λ l h. kept l.tail l.head h) ls r.along;
    within = λ W none v w in_v h. elim (by-is v w h) [
      | inl is ↦ r.within W none v w in_v is
      | inr on ↦ r.within W none k w (r.within W none v k in_v on.0) on.1
    ];
  }

  -- a node that leads to k leads on from there
  to_k : (v x : ℕ) → leads new v x ≡ true → leads old x k ≡ true → LeadOnBelow k old → x < k → leads old v k ≡ true
  to_k v x h i on l = elim (by-is v x h) [
    | inl is ↦ on v x k l is i
    | inr by ↦ by.0
  ]

  below_k : LeadOnBelow k old → (v x w : ℕ) → x < k → leads new v x ≡ true → leads new x w ≡ true → leads new v w ≡ true
  below_k on v x w l h i = elim (by-is x w i) [
    | inl is ↦ elim (by-is v x h) [
      | inl old_h ↦ kept v w (on v x w l old_h is)
      | inr by ↦ along_k v w by.0 (on k x w l by.1 is)
    ]
    | inr by ↦ along_k v w (to_k v x h by.0 on l) by.1
  ]

  at_k : (v w : ℕ) → leads new v k ≡ true → leads new k w ≡ true → leads new v w ≡ true
  at_k v w h i =
      let to : leads old v k ≡ true = elim (by-is v k h) [ inl is ↦ is | inr by ↦ by.0 ] in
      let from : leads old k w ≡ true = elim (by-is k w i) [ inl is ↦ is | inr by ↦ by.1 ] in
      along_k v w to from

  pub on_more : LeadOnBelow k old → LeadOnBelow (k + 1) new
  on_more on v x w l h i = elim (cases_eq x k) [
    | inl e ↦ at_k v w (rw e at h) (rw e at i)
    | inr ne ↦ below_k on v x w (omega arith) h i
  ]

-- a line more
pub rows-to : {g : GraphValue} (some_arcs : List Line) (l : Line) {old new : List (List Bool)} → AreRows g some_arcs old → LeadsTo l.tail l.head old new → ((W : List Bool) → leaving W g.lines ≡ 0 → has W l.tail ≡ true → has W l.head ≡ true) → AreRows g (some_arcs ++ l ∷ []) new
rows-to {g} some_arcs l {old} {new} r s on = record {
  square = rw r.square.count at s.square;
  here = λ v in_v. s.kept v v (r.here v in_v);
  along = All-push (λ x. leads new x.tail x.head ≡ true) some_arcs l (All-weaker (λ x. leads old x.tail x.head ≡ true) (λ x. leads new x.tail x.head ≡ true) (λ x h. s.kept x.tail x.head h) some_arcs r.along) s.here;
  within = λ W none v w in_v h. elim (s.only v w h) [
    | inl is ↦ r.within W none v w in_v is
    | inr both ↦ rw both.1 (on W none (rw both.0 at in_v))
  ];
}

-- no line of those leads out of W
pub leads_in_each : (ls : List Line) (W : List Bool) → leaving W ls ≡ 0 → All (λ l. has W l.tail ≡ true → has W l.head ≡ true) ls
leads_in_each ls W none = All-weaker (λ l. leaves W l ≡ false) (λ l. has W l.tail ≡ true → has W l.head ≡ true) (λ l h in_t. not_out (has W l.tail) (has W l.head) h in_t) ls (none-pass (leaves W) ls none)

-- rows that go on are what their nodes reach
pub reached : (g : GraphValue) (rows : List (List Bool)) → All (Fits (length g.names)) g.lines → AreRows g g.lines rows → LeadOnBelow (length g.names) rows → AreReached g rows
reached g rows fits r on v v_in =
    let R = slice_index_or rows v [] in
    record {
      long = row-long rows r.square v v_in;
      holds = r.here v v_in;
      closed = count_by-fails (leaves R) g.lines
          (All-both (λ l. leads rows l.tail l.head ≡ true) (Fits (length g.names)) (λ l. leaves R l ≡ false)
          (λ l along fit. never_out (has R l.tail) (has R l.head) (λ h. on v l.tail l.head fit.tail h along))
          g.lines r.along fits);
      least = λ W none in_v u h. r.within W none v u in_v h;
    }

-- a node alone in its row, behind the others
pub own-push : {n v : ℕ} (rows : List (List Bool)) (row : List Bool) → AreOwn n v rows → length row ≡ n → IsOnly row v → AreOwn n (v + 1) (rows ++ row ∷ [])
own-push {n} {v} rows row a long only =
    let here : (w : ℕ) → leads (rows ++ row ∷ []) v w ≡ has row w = λ w. ap (λ X. has X w) (get_or_push rows row [] v a.count) in
    let front : (u w : ℕ) → u < v → leads (rows ++ row ∷ []) u w ≡ leads rows u w = λ u w l. ap (λ X. has X w) (get_or_append_left rows (row ∷ []) [] u (rw a.count l)) in
    record {
      count = length-append rows (row ∷ []) ∙ ap (λ k. k + 1) a.count;
      long = All-push (λ R. length R ≡ n) rows row a.long long;
      here = λ u l. elim (cases_eq u v) [
        | inl e ↦ rw e (here v ∙ only.here)
        | inr ne ↦ front u u (omega arith) ∙ a.here u (omega arith)
      ];
      own = λ u w h. elim (cases_lt u v) [
        | inl l ↦ a.own u w (sym (front u w l) ∙ h)
        | inr past ↦ elim (cases_eq u v) [
          | inl e ↦ rw e (only.only w (sym (here w) ∙ (rw e at h)))
          | inr ne ↦ absurd (let none = get_or_past (rows ++ row ∷ []) u [] (let e = a.count in omega (arith, length-append rows (row ∷ []))) in let off : leads (rows ++ row ∷ []) u w ≡ false = ap (λ X. has X w) none in cc)
        ]
      ];
    }
