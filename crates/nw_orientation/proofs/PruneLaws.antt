-- Marks of edges of which none can be spared.
use Rattle.std.specs.Prelude.{ℕ, ◌≡◌, ◌≢◌, ◌+◌, ◌<◌, ◌≤◌, ◌==◌, Bool, true, false, not, List, length, replicate, slice_set, slice_index_or, All, refl}
use Rattle.std.proofs.Common.{sym, ap, ◌∙◌, arith, inl, inr, subst}
use Rattle.std.proofs.lemmas.Bool.{false≢true, cases_Bool, cases_eq, eqb-true, ne_eqb}
use Rattle.std.proofs.lemmas.List.{length-map, length-replicate, length-set, get_or_default, get_or-replicate, get_or-set_same, get_or-set_other}
use Rattle.graph_core.specs.Connected.{IsEdgeConnected}
use Rattle.graph_core.specs.Graph.{Fits}
use Rattle.graph_core.specs.Lines.{crosses, degree}
use Rattle.graph_core.specs.Side.{has, complement, IsProper}
use Rattle.graph_core.proofs.Counting.{weight}
use Rattle.graph_core.proofs.CutLaws.{degree-complement, other_out, other_in}
use Rattle.graph_core.proofs.SideLaws.{has-complement}
use Rattle.graph_core.specs.declared.graph.Line.{Line}
use Rattle.nw_orientation.specs.Chosen.{chosen}
use Rattle.nw_orientation.specs.Joined.{AreEdgeJoined, AreParted}
use Rattle.nw_orientation.specs.Moved.{touches}
use Rattle.nw_orientation.specs.Needed.{IsNeeded, HasBareEnd, IsLean, IsPrunedTo, AreNeeded}
use Rattle.nw_orientation.specs.Thin.{IsThin}
use Rattle.nw_orientation.proofs.ChosenLaws.{chosen-each, count-unmarked, All-chosen, All-marked}
use Rattle.graph_core.proofs.SetLaws.{length_of}
use Rattle.graph_core.proofs.ProperLaws.{is_proper}
use Rattle.nw_orientation.proofs.TightNode.{only, has-only_here, has-only_other, crosses-only, degree-only}

-- forests, and none known as needed
pub pruned_thin : (n c : ℕ) (ls : List Line) (ms : List Bool) → IsThin c ls ms → IsEdgeConnected c n ls → IsPrunedTo n c ls 0 ms
pruned_thin n c ls ms thin conn = record {
  long = thin.long;
  connected = λ X p. elim (thin.keeps X) [ inl enough ↦ enough | inr all ↦ omega (arith, conn X p) ];
  needed = λ i d lj l m. absurd (omega arith);
}

-- all marked, and those before j known as needed
pub pruned_none : (n c : ℕ) (ls : List Line) (j : ℕ) (ms : List Bool) → ms ≡ replicate (length ls) true → IsEdgeConnected c n ls → AreNeeded n c ls j → IsPrunedTo n c ls j ms
pruned_none n c ls j ms is conn needed =
    let long : length ms ≡ length ls = ap length is ∙ length-replicate (length ls) true in
    let each : (i : ℕ) → i < length ls → has ms i ≡ true = λ i l. ap (λ xs. has xs i) is ∙ get_or-replicate (length ls) i true false l in
    let all : chosen true ls ms ≡ ls = chosen-each ls ms long each in
    record {
      long = long;
      connected = subst (IsEdgeConnected c n) (sym all) conn;
      needed = λ i d lj l m. subst (λ ks. IsNeeded n c ks (slice_index_or ls i d)) (sym all) (needed i d lj l);
    }

-- an edge that is spared: what was needed stays needed
needed_less : (n c : ℕ) (ls ks : List Line) (l : Line) → ((X : List Bool) → degree X ks ≤ degree X ls) → IsEdgeConnected c n ks → IsNeeded n c ls l → IsNeeded n c ks l
needed_less n c ls ks l less conn need = record {
  side = need.side;
  tight = record { proper = need.tight.proper; value = omega (arith, less need.side, conn need.side need.tight.proper, need.tight.value) };
  crossed = need.crossed;
}

module _ (n c : ℕ) (ls : List Line) (j : ℕ) (ms : List Bool) (d : Line) (pruned : IsPrunedTo n c ls j ms) (lj : j < length ls) (here : has ms j ≡ true) (all : All (Fits n) ls) where
  fits : Fits n (slice_index_or ls j d)
  fits = all j d lj

  abbrev line : Line
  line = slice_index_or ls j d

  less : (X : List Bool) → degree X (chosen true ls (slice_set ms j false)) + weight (crosses X line) ≡ degree X (chosen true ls ms)
  less X = count-unmarked (crosses X) ls ms j d pruned.long lj here

  -- it is spared where its ends are still joined
  pub pruned_less : AreEdgeJoined n (chosen true ls (slice_set ms j false)) line.tail line.head c → IsPrunedTo n c ls (j + 1) (slice_set ms j false)
  pruned_less joined =
      let conn : IsEdgeConnected c n (chosen true ls (slice_set ms j false)) = λ X p.
      elim (cases_Bool (crosses X line)) [
        | inr out ↦ omega (arith, less X, ap weight out, pruned.connected X p)
        | inl crossed ↦ elim (cases_Bool (has X line.tail)) [
          | inl t ↦ joined X p.long t (other_out (has X line.tail) (has X line.head) t crossed)
          | inr f ↦ joined_back X p f (other_in (has X line.tail) (has X line.head) f crossed)
        ]
      ] in
      record {
        long = length-set ms j false ∙ pruned.long;
        connected = conn;
        needed = λ i e li l m.
            elim (cases_eq i j) [
              | inl same ↦ absurd (false≢true (sym (get_or-set_same ms j false false (omega (arith, pruned.long))) ∙ (rw same at m)))
              | inr other ↦ needed_less n c (chosen true ls ms) (chosen true ls (slice_set ms j false)) (slice_index_or ls i e) (λ X. omega (arith, less X)) conn
                  (pruned.needed i e (omega arith) l (sym (get_or-set_other ms j i false false other) ∙ m))
            ];
      }
    where
      joined_back : (X : List Bool) → IsProper n X → has X line.tail ≡ false → has X line.head ≡ true → c ≤ degree X (chosen true ls (slice_set ms j false))
      joined_back X p f t =
          let few : All (Fits n) (chosen true ls (slice_set ms j false)) = All-chosen (Fits n) true ls (slice_set ms j false) all in
          omega (
            arith,
            joined (complement X) (length-map X not ∙ p.long) (has-complement X line.tail (omega (arith, fits.tail, p.long)) ∙ ap not f) (has-complement X line.head (omega (arith, fits.head, p.long)) ∙ ap not t),
            degree-complement (chosen true ls (slice_set ms j false)) few X p.long,
          )

  -- and kept where they aren't
  pub pruned_kept : AreParted n (chosen true ls (slice_set ms j false)) line.tail line.head c → IsPrunedTo n c ls (j + 1) ms
  pruned_kept (X, s) =
      let proper = s.cut.proper in
      let crossed : crosses X line ≡ true = rw (s.holds, s.misses) refl in
      let need : IsNeeded n c (chosen true ls ms) line = record { side = X; tight = record { proper = proper; value = omega (arith, less X, ap weight crossed, s.cut.few, pruned.connected X proper) }; crossed = crossed } in
      record {
        long = pruned.long;
        connected = pruned.connected;
        needed = λ i e li l m. elim (cases_eq i j) [
          | inl same ↦ rw same (subst (IsNeeded n c (chosen true ls ms)) (get_or_default ls j d e lj) need)
          | inr other ↦ pruned.needed i e (omega arith) l m
        ];
      }

-- an edge that isn't marked
pub pruned_unmarked : (n c : ℕ) (ls : List Line) (j : ℕ) (ms : List Bool) → IsPrunedTo n c ls j ms → has ms j ≡ false → IsPrunedTo n c ls (j + 1) ms
pruned_unmarked n c ls j ms pruned off = record {
  long = pruned.long;
  connected = pruned.connected;
  needed = λ i e li l m. elim (cases_eq i j) [
    | inl same ↦ absurd (false≢true (sym off ∙ (rw same at m)))
    | inr other ↦ pruned.needed i e (omega arith) l m
  ];
}

-- an end of a line, and the other one
at_end : (n v : ℕ) (l : Line) → Fits n l → touches v l ≡ true → (v < n) × ((u : ℕ) × (u < n) × (u ≢ v))
at_end n v l f h = elim (cases_eq l.tail v) [
  | inl e ↦ (omega (arith, f.tail), (l.head, f.head, λ g. f.apart (e ∙ sym g)))
  | inr ne ↦
      let e : l.head ≡ v = eqb-true l.head v (rw (ne_eqb l.tail v ne) at h) in
      (omega (arith, f.head), (l.tail, f.tail, ne))
]

-- an edge at a node that has none to spare is kept
pub pruned_bare : (n c : ℕ) (ls : List Line) (j : ℕ) (ms : List Bool) (d : Line) → IsPrunedTo n c ls j ms → j < length ls → All (Fits n) ls → HasBareEnd c (chosen true ls ms) (slice_index_or ls j d) → IsPrunedTo n c ls (j + 1) ms
pruned_bare n c ls j ms d pruned lj all bare =
    let l = slice_index_or ls j d in
    let v = bare.node in
    let fits = all j d lj in
    let X = only n v in
    let live = chosen true ls ms in
    let (lv, (u, lu, ne)) = at_end n v l fits bare.touching in
    let proper = is_proper X v u (length_of n (λ w. w == v)) (has-only_here n v lv) lu (has-only_other n v u lu ne) in
    let need : IsNeeded n c live l = record {
      side = X;
      tight = record { proper = proper; value = omega (arith, degree-only n v live (All-chosen (Fits n) true ls ms all), bare.few, pruned.connected X proper) };
      crossed = crosses-only n v l fits ∙ bare.touching;
    } in
    record {
      long = pruned.long;
      connected = pruned.connected;
      needed = λ i e li l m. elim (cases_eq i j) [
        | inl same ↦ rw same (subst (IsNeeded n c live) (get_or_default ls j d e lj) need)
        | inr other ↦ pruned.needed i e (omega arith) l m
      ];
    }

-- in the end
pub lean : (n c : ℕ) (ls : List Line) (ms : List Bool) (d : Line) → IsPrunedTo n c ls (length ls) ms → IsLean n c (chosen true ls ms)
lean n c ls ms d pruned = record {
  connected = pruned.connected;
  needed = All-marked (IsNeeded n c (chosen true ls ms)) ls ms d (λ i l m. pruned.needed i d l l m);
}
