-- A tree that has grown to all nodes is a cut tree.
use Rattle.std.specs.Prelude.{ℕ, zero, suc, ◌≡◌, ◌≢◌, ◌<◌, Bool, true, false, List, [], ◌∷◌, length, map, remove, All}
use Rattle.std.proofs.Common.{ap, ◌∙◌, arith, subst}
use Rattle.std.proofs.lemmas.List.{length-map, get_or-map}
use Rattle.graph_core.specs.Side.{has}
use Rattle.graph_core.specs.Lines.{differ, crosses, degree}
use Rattle.graph_core.specs.Graph.{GraphValue, Fits}
use Rattle.graph_core.specs.Labels.{Adds}
use Rattle.graph_core.specs.Trees.{IsAcyclic}
use Rattle.graph_core.proofs.Counting.{count_by-once}
use Rattle.graph_core.proofs.CutLaws.{differ_same}
use Rattle.graph_core.proofs.TreeLaws.{removed, one_side}
use Rattle.graph_core.proofs.FamilyLaws.{size-nonempty, count_by-map}
use Rattle.graph_core.proofs.SplitLaws.{AreUncrossed, IsSideOf, few_within}
use Rattle.std.proofs.lemmas.List.Elements.{All-cons}
use Rattle.graph_core.specs.declared.graph.Line.{Line}
use Rattle.problem_defs.specs.CutTree.{IsLeastCut, IsCutTree}
use Rattle.cut_trees.specs.declared.branch.Branch.{Branch}
use Rattle.cut_trees.specs.Branch.{no_branch, at, pair_of}
use Rattle.cut_trees.specs.Grown.{IsGrown}
use Rattle.cut_trees.proofs.Branches.{line_at, tree_lines-branches, All-branches}

-- branches each of which has a side that it alone crosses
record AreParted (n : ℕ) (bs : List Branch) : Type 0 where
  long : (j : ℕ) → j < length bs → length (at bs j).side ≡ n
  inside : (j : ℕ) → j < length bs → has (at bs j).side (at bs j).first ≡ true
  outside : (j : ℕ) → j < length bs → has (at bs j).side (at bs j).second ≡ false
  apart : (i j : ℕ) → i < length bs → j < length bs → i ≢ j → has (at bs j).side (at bs i).first ≡ has (at bs j).side (at bs i).second

uncrossed_by_others : (Z : List Bool) (bs : List Branch) (j : ℕ) → j < length bs → ((i : ℕ) → i < length bs → i ≢ j → has Z (at bs i).first ≡ has Z (at bs i).second) → AreUncrossed Z (remove (map line_at bs) j)
uncrossed_by_others Z [] j lt h = absurd (omega arith)
uncrossed_by_others Z (b ∷ bs) zero lt h = All-branches (λ l. has Z l.tail ≡ has Z l.head) line_at bs (λ i l. h (suc i) (omega arith) (λ e. absurd (omega arith)))
uncrossed_by_others Z (b ∷ bs) (suc j) lt h =
    All-cons (λ l. has Z l.tail ≡ has Z l.head) (line_at b) (remove (map line_at bs) j) (h 0 (omega arith) (λ e. absurd (omega arith)))
    (uncrossed_by_others Z bs j (omega arith) (λ i l other. h (suc i) (omega arith) (λ e. other (omega arith))))

sides_of : {n : ℕ} (bs : List Branch) → AreParted n bs → (j : ℕ) → j < length (map line_at bs) → (Z : List Bool) × IsSideOf n (map line_at bs) j Z
sides_of bs p j l =
    let lt : j < length bs = omega (arith, length-map bs line_at) in (
      (at bs j).side,
      record {
        long = p.long j lt;
        holds = λ d. rw (get_or-map line_at bs j no_branch d lt) (p.inside j lt);
        misses = λ d. rw (get_or-map line_at bs j no_branch d lt) (p.outside j lt);
        uncrossed = uncrossed_by_others (at bs j).side bs j lt (λ i li other. p.apart i j li lt other);
      },
    )

module _ {n : ℕ} {ls : List Line} (bs : List Branch) {rep : ℕ → ℕ} (st : IsGrown n n ls (length bs) (at bs) rep) where
  abbrev lines : List Line
  lines = map line_at bs

  fit_at : (j : ℕ) → j < length bs → Fits n (line_at (at bs j))
  fit_at j l = record { tail = st.first_in j l; head = st.second_in j l; apart = λ e. let a = st.inside j l in let c = ap (has (at bs j).side) e ∙ st.outside j l in absurd cc }

  fit : All (Fits n) lines
  fit = All-branches (Fits n) line_at bs fit_at

  acyclic : IsAcyclic n lines
  acyclic X some =
      let parted : AreParted n bs = record { long = st.long; inside = st.inside; outside = st.outside; apart = st.apart } in
      few_within lines (sides_of bs parted) X some.long (size-nonempty X some.some_in)

  -- its branch alone crosses a stored side
  stored_alone : (j : ℕ) → j < length bs → degree (at bs j).side lines ≡ 1
  stored_alone j l =
      let Z = (at bs j).side in
      count_by-map (crosses Z) line_at bs
      ∙ count_by-once (λ b. crosses Z (line_at b)) bs j no_branch l (λ z. differ (st.inside j l z) (st.outside j l z)) (λ i li other. differ_same (has Z (at bs i).first) (has Z (at bs i).second) (st.apart i j li l other))

  -- and it crosses no other side alone
  the_side : (X : List Bool) (j : ℕ) → j < length bs → length X ≡ n → has X (at bs j).first ≡ true → has X (at bs j).second ≡ false → degree X lines ≡ 1 → X ≡ (at bs j).side
  the_side X j l e holds misses one =
      let k = line_at (at bs j) in
      let adds : Adds (remove lines j) k lines = subst (λ h. Adds (remove lines j) h lines) (get_or-map line_at bs j no_branch k l) (removed lines j k (omega (arith, length-map bs line_at))) in
      one_side lines fit acyclic (omega (arith, length-map bs line_at, st.many)) (remove lines j) k (fit_at j l) adds X (at bs j).side e (st.long j l) holds (st.inside j l) misses (st.outside j l) one (stored_alone j l)

  pub grown_tree : (g : GraphValue) → length g.names ≡ n → g.lines ≡ ls → IsCutTree g (map pair_of bs)
  grown_tree g names lines_are = record {
    tree = record {
      fit = rw (tree_lines-branches bs, names) fit;
      acyclic = rw (tree_lines-branches bs, names) acyclic;
      many = rw names (omega (arith, length-map bs pair_of, st.many));
    };
    cuts = All-branches (λ p. IsLeastCut g (map pair_of bs) p.0 p.1 p.2) pair_of bs (λ j l. record {
      weight = λ X e holds misses one. rw (lines_are, the_side X j l (e ∙ names) holds misses (rw (tree_lines-branches bs) at one)) (st.value j l);
      least = λ Y e h. rw lines_are (st.least j l Y (e ∙ names) h);
    });
  }
