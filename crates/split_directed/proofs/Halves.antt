-- What the halves of a star show of it: at the begin, and after a pair was split off.
use Rattle.std.specs.Prelude.{ℕ, ◌≡◌, ◌+◌, ◌-◌, ◌<◌, ◌≤◌, ◌==◌, ◌⊎◌, Bool, true, false, List, [], ◌++◌, length, map, slice_index, sum, All, refl}
use Rattle.std.proofs.Common.{sym, ap, ◌∙◌, inl, inr, arith, length-append}
use Rattle.std.proofs.lemmas.Bool.{cases_Bool, eqb-true}
use Rattle.std.proofs.lemmas.List.{length-map, length-set}
use Rattle.std.proofs.lemmas.List.Elements.{All-nil, All-cons, All-append}
use Rattle.std.proofs.lemmas.List.Sums.{sum_by-cons, sum_by-append}
use Rattle.graph_core.specs.Side.{has, sum_over}
use Rattle.graph_core.specs.Graph.{Fits}
use Rattle.graph_core.specs.Lines.{enters, leaves}
use Rattle.graph_core.proofs.Counting.{weight}
use Rattle.flow_cuts.specs.Network.{across, capacity}
use Rattle.flow_cuts.specs.Network as network
use Rattle.graph_core.specs.declared.graph.Line.{Line}
use Rattle.flow_cuts.specs.declared.network.Cap.{Cap}
use Rattle.split_directed.specs.declared.half.Half.{Half}
use Rattle.problem_defs.specs.declared.cert.Way.{Way}
use Rattle.problem_defs.specs.declared.cert.Way.TheVariants.{Entering, Leaving}
use Rattle.split_directed.specs.Half.{value}
use Rattle.problem_defs.specs.Ways.{count_for}
use Rattle.flow_cuts.specs.NewNode.{arc_by}
use Rattle.flow_cuts.proofs.NewNodes.{capacity-arcs_by, ends-arcs_by}
use Rattle.flow_cuts.specs.StarValues.{counts_for, value_for}
use Rattle.split_directed.specs.Ways.{end_of, arc_of, arcs_between}
use Rattle.split_directed.specs.Rows.{lowered, split, copies}
use Rattle.cut_fn.specs.Stars.{StarValue}
use Rattle.split_directed.specs.State.{Shows}
use Rattle.split_directed.proofs.Splits.{entering-copies, leaving-copies, lowered_sum}

ends_of : {n : ℕ} (w : Way) (u t c : ℕ) → u < n → t < n → ((arc_of w u t c).tail < n) × ((arc_of w u t c).head < n)
ends_of Entering u t c lu lt = (lt, lu)
ends_of Leaving u t c lu lt = (lu, lt)

pub shows_begin : {n : ℕ} (w : Way) (s : StarValue) (h : Half) → n ≤ 4096 → All (Fits n) s.lines → length (counts_for w s) ≡ n
    → sum (counts_for w s) ≤ 65536 → length s.lines + sum s.into ≤ 65536
    → h.arcs.items ≡ map (arc_by w) s.lines → h.counts.items ≡ counts_for w s → Shows n w s h
shows_begin {n} w s h nodes fits long small room arcs counts =
    let many : length h.arcs.items ≡ length s.lines = ap length arcs ∙ length-map s.lines (arc_by w) in
    record {
      half = record {
        nodes = nodes;
        long = ap length counts ∙ long;
        ends = rw arcs (ends-arcs_by w s.lines fits);
        few = omega arith;
        small = rw counts small;
      };
      cut = λ X. ap (capacity X) arcs ∙ capacity-arcs_by w X s.lines;
      counts = counts;
      room = omega arith;
    }

-- an arc more, where the nodes differ
capacity-between : (w : Way) (X : List Bool) (u t c : ℕ) → capacity X (arcs_between w u t c) ≡ network.leaving X (arc_of w u t c)
capacity-between w X u t c = go (cases_Bool (u == t))
  where
    same : (b : Bool) → across b b c ≡ 0
    same true = refl
    same false = refl

    none : (v : Way) (a : ℕ) → network.leaving X (arc_of v a a c) ≡ 0
    none Entering a = same (has X a)
    none Leaving a = same (has X a)

    go : ((u == t) ≡ true) ⊎ ((u == t) ≡ false) → capacity X (arcs_between w u t c) ≡ network.leaving X (arc_of w u t c)
    go (inl e) = rw e (sym (ap (λ v. network.leaving X (arc_of w v t c)) (eqb-true u t e) ∙ none w t))
    go (inr e) = rw e (omega (arith, sum_by-cons (network.leaving X) (arc_of w u t c) []))

cut-copies : (w : Way) (ls : List Line) (X : List Bool) (u t c : ℕ) → count_for w (ls ++ copies u t c) X ≡ count_for w ls X + network.leaving X (arc_of w u t c)
cut-copies Entering ls X u t c = omega (arith, sum_by-append (λ l. weight (enters X l)) ls (copies u t c), entering-copies X u t c)
cut-copies Leaving ls X u t c = omega (arith, sum_by-append (λ l. weight (leaves X l)) ls (copies u t c), leaving-copies X u t c)

between-ends : {n : ℕ} (w : Way) (u t c : ℕ) → u < n → t < n → All (λ (a : Cap). (a.tail < n) × (a.head < n)) (arcs_between w u t c)
between-ends {n} w u t c lu lt = go (cases_Bool (u == t))
  where
    go : ((u == t) ≡ true) ⊎ ((u == t) ≡ false) → All (λ (a : Cap). (a.tail < n) × (a.head < n)) (arcs_between w u t c)
    go (inl e) = rw e (All-nil (λ (a : Cap). (a.tail < n) × (a.head < n)))
    go (inr e) = rw e (All-cons (λ (a : Cap). (a.tail < n) × (a.head < n)) (arc_of w u t c) [] (ends_of w u t c lu lt) (All-nil (λ (a : Cap). (a.tail < n) × (a.head < n))))

between-few : (w : Way) (u t c : ℕ) → length (arcs_between w u t c) ≤ 1
between-few w u t c = go (cases_Bool (u == t))
  where
    go : ((u == t) ≡ true) ⊎ ((u == t) ≡ false) → length (arcs_between w u t c) ≤ 1
    go (inl e) = rw e (omega arith)
    go (inr e) = rw e (omega arith)

counts_split : (w : Way) (s : StarValue) (u t c : ℕ) → counts_for w (split s u t c) ≡ lowered (counts_for w s) (end_of w u t) c
counts_split Entering s u t c = refl
counts_split Leaving s u t c = refl

pub count_there : (w : Way) (s : StarValue) (u t c : ℕ) → c ≤ slice_index s.out u → c ≤ slice_index s.into t → c ≤ slice_index (counts_for w s) (end_of w u t)
count_there Entering s u t c lu lt = lt
count_there Leaving s u t c lu lt = lu

pub end_there : {n : ℕ} (w : Way) (u t : ℕ) → u < n → t < n → end_of w u t < n
end_there Entering u t lu lt = lt
end_there Leaving u t lu lt = lu

pub shows_split : {n : ℕ} (w : Way) (s : StarValue) (h h' : Half) (u t c : ℕ) → Shows n w s h → length s.into ≡ n → u < n → t < n → 1 ≤ c
    → c ≤ slice_index s.out u → c ≤ slice_index s.into t
    → h'.arcs.items ≡ h.arcs.items ++ arcs_between w u t c → h'.counts.items ≡ lowered h.counts.items (end_of w u t) c → Shows n w (split s u t c) h'
shows_split {n} w s h h' u t c shows into lu lt some co ci arcs counts =
    let many : length h'.arcs.items ≡ length h.arcs.items + length (arcs_between w u t c) = ap length arcs ∙ length-append h.arcs.items (arcs_between w u t c) in
    let one = between-few w u t c in
    let fell : sum (lowered s.into t c) + c ≡ sum s.into = lowered_sum s.into t c (omega arith) ci in
    let room = shows.room in
    let counts' : h'.counts.items ≡ counts_for w (split s u t c) = counts ∙ ap (λ cs. lowered cs (end_of w u t) c) shows.counts ∙ sym (counts_split w s u t c) in
    let there : end_of w u t < length (counts_for w s) = (let l = end_there w u t lu lt in let e : length h.counts.items ≡ length (counts_for w s) = ap length shows.counts in omega (arith, shows.half.long, e, l)) in
    let less : sum (counts_for w (split s u t c)) + c ≡ sum (counts_for w s) = rw (counts_split w s u t c) (lowered_sum (counts_for w s) (end_of w u t) c there (count_there w s u t c co ci)) in
    let before : sum h.counts.items ≡ sum (counts_for w s) = ap sum shows.counts in
    record {
      half = record {
        nodes = shows.half.nodes;
        long = ap length counts ∙ length-set h.counts.items (end_of w u t) (slice_index h.counts.items (end_of w u t) - c) ∙ shows.half.long;
        ends = rw arcs (All-append (λ (a : Cap). (a.tail < n) × (a.head < n)) h.arcs.items (arcs_between w u t c) shows.half.ends (between-ends w u t c lu lt));
        few = omega arith;
        small = rw counts' (omega (arith, shows.half.small));
      };
      cut = λ X. ap (capacity X) arcs ∙ omega (arith, sum_by-append (network.leaving X) h.arcs.items (arcs_between w u t c), capacity-between w X u t c, cut-copies w s.lines X u t c, shows.cut X);
      counts = counts';
      room = omega arith;
    }

-- a half's value is the star's
pub value_shown : {n : ℕ} {w : Way} {s : StarValue} {h : Half} → Shows n w s h → (X : List Bool) → value h X ≡ value_for w s X
value_shown shows X = omega (arith, shows.cut X, ap (λ cs. sum_over X (slice_index cs)) shows.counts)
