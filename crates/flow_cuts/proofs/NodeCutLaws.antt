-- Least cuts of a graph's network between two nodes are least cuts of the graph.
use Rattle.std.specs.Prelude.{ℕ, ◌≡◌, ◌≢◌, ◌<◌, ◌≤◌, ◌==◌, ◌↔◌, IsTrue, Bool, true, false, not, List, length, All}
use Rattle.std.proofs.Common.{sym, ap, ◌∙◌, arith, inl, inr, eq-eqb}
use Rattle.std.proofs.lemmas.Bool.{cases_Bool, cases_eq, false≢true, false_from_ne_true, ne_eqb}
use Rattle.std.proofs.lemmas.List.{length-map}
use Rattle.std.proofs.lemmas.List.Sums.{count_by-le-length}
use Rattle.graph_core.specs.Graph.{Fits}
use Rattle.graph_core.specs.Side.{has, complement, IsOnly}
use Rattle.graph_core.specs.Lines.{differ, degree, crosses}
use Rattle.graph_core.specs.declared.graph.Line.{Line}
use Rattle.graph_core.specs.declared.graph.Kind.TheVariants.{Undirected}
use Rattle.graph_core.proofs.CutLaws.{degree-complement}
use Rattle.graph_core.proofs.SideLaws.{has-complement}
use Rattle.flow_cuts.specs.Cuts.{IsLeastCapacity, IsMinimumCut}
use Rattle.flow_cuts.specs.GraphArcs.{arcs_of}
use Rattle.flow_cuts.specs.Network.{capacity, Separates}
use Rattle.flow_cuts.specs.NodeCuts.{IsLeastNodeCut, NoneIsLess}
use Rattle.flow_cuts.proofs.ArcLaws.{capacity-arcs_of}

other_end : (a b : Bool) → differ a b ≡ true → b ≡ not a
other_end a b h = grind arith

-- what holds of the sides that hold s and miss t holds of all between them: a side and its complement are crossed by the same lines
pub least_either : {n s t w : ℕ} (ls : List Line) → All (Fits n) ls → s < n → t < n → ((Y : List Bool) → length Y ≡ n → has Y s ≡ true → has Y t ≡ false → w ≤ degree Y ls) → NoneIsLess n ls s t w
least_either {s = s} {t = t} ls fit s_in t_in least Y e parts =
    let at_t : has Y t ≡ not (has Y s) = other_end (has Y s) (has Y t) parts in
    elim (cases_Bool (has Y s)) [
      | inl here ↦ least Y e here (at_t ∙ ap not here)
      | inr not_here ↦
          let holds = has-complement Y s (omega arith) ∙ ap not not_here in
          let misses = has-complement Y t (omega arith) ∙ ap not (at_t ∙ ap not not_here) in
          rw (← degree-complement ls fit Y e) (least (complement Y) (length-map Y not ∙ e) holds misses)
    ]

module _ {n s t : ℕ} {I O : List Bool} (ls : List Line) (inside : IsOnly I s) (outside : IsOnly O t) where
  separates : (Y : List Bool) → length Y ≡ n → has Y s ≡ true → has Y t ≡ false → Separates n I O Y
  separates Y e holds misses = record {
    long = e;
    holds = λ v h. ap (has Y) (inside.only v h) ∙ holds;
    misses = λ v h. ap (has Y) (outside.only v h) ∙ misses;
  }

  -- no more than all lines leave the node s alone, so a run that may go on to more falls short
  pub falls_short : (answer : ℕ) → s ≢ t → length I ≡ n → ((X : List Bool) → Separates n I O X → answer ≤ capacity X (arcs_of Undirected ls)) → answer ≤ length ls
  falls_short answer apart e bound =
      let out : has I t ≡ false = false_from_ne_true (has I t) (λ h. apart (sym (inside.only t h))) in
      omega (arith, bound I (separates I e inside.here out), capacity-arcs_of Undirected I ls, count_by-le-length (crosses I) ls)

  pub least_node_cut : (w : ℕ) (X : List Bool) → IsMinimumCut n I O (arcs_of Undirected ls) w X → IsLeastNodeCut n ls s t w X
  least_node_cut w X cut = record {
    long = cut.separates.long;
    holds = cut.separates.holds s inside.here;
    misses = cut.separates.misses t outside.here;
    value = sym (capacity-arcs_of Undirected X ls) ∙ cut.value_is;
    least = λ Y e holds misses. rw (← capacity-arcs_of Undirected Y ls) (cut.least Y (separates Y e holds misses));
  }

  -- a run that stops at w reaches it just where no cut has less
  pub tells_least : (w answer : ℕ) → All (Fits n) ls → s < n → t < n → IsLeastCapacity n I O (arcs_of Undirected ls) w answer → IsTrue (answer == w) ↔ NoneIsLess n ls s t w
  tells_least w answer fit s_in t_in least = elim (cases_eq answer w) [
    | inl e ↦ (λ _. least_either ls fit s_in t_in (λ Y long holds misses. omega (arith, e, least.least Y (separates Y long holds misses), capacity-arcs_of Undirected Y ls)), λ _. eq-eqb answer w e)
    | inr n ↦ (λ is. absurd (false≢true (sym (ne_eqb answer w n) ∙ is)), λ none. absurd (some_less (let s = least.stopped in omega arith) none))
  ]
    where
      some_less : answer < w → ¬ NoneIsLess n ls s t w
      some_less l none =
          let (X, apart, is) = least.reached l in
          let a = apart.holds s inside.here in
          let b = apart.misses t outside.here in
          let few = none X apart.long (λ z. differ (a z) (b z)) in
          omega (arith, capacity-arcs_of Undirected X ls)
