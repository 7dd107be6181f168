-- What a flow between two nodes says of the edges between them.
use Rattle.std.specs.Prelude.{ℕ, ◌≢◌, ◌<◌, ◌≤◌, Bool, not, List, All}
use Rattle.std.proofs.Common.{sym, ap, ◌∙◌, arith, inl, inr}
use Rattle.std.proofs.lemmas.Bool.{false≢true, cases_Bool}
use Rattle.std.proofs.lemmas.List.{length-map}
use Rattle.graph_core.specs.Connected.{IsEdgeConnected}
use Rattle.graph_core.specs.Graph.{Fits}
use Rattle.graph_core.specs.Side.{has, complement}
use Rattle.graph_core.proofs.CutLaws.{degree-complement}
use Rattle.graph_core.proofs.SideLaws.{has-complement}
use Rattle.graph_core.specs.declared.graph.Line.{Line}
use Rattle.graph_core.specs.declared.graph.Kind.TheVariants.{Undirected}
use Rattle.flow_cuts.specs.Sparse.{AreJoined, IsSparseBetween}
use Rattle.flow_cuts.specs.GraphArcs.{arcs_of}
use Rattle.flow_cuts.proofs.ArcLaws.{capacity-arcs_of}
use Rattle.nw_orientation.specs.Joined.{AreEdgeJoined, PartsSparsely}
use Rattle.graph_core.proofs.ProperLaws.{node_in, node_out}

-- in the network of the edges, the capacity that leaves a side is its degree
pub joined : (n : ℕ) (ls : List Line) (a b c : ℕ) → AreJoined n (arcs_of Undirected ls) a b c → AreEdgeJoined n ls a b c
joined n ls a b c enough X long holds misses = omega (arith, enough X long holds misses, capacity-arcs_of Undirected X ls)

pub parted : (n : ℕ) (ls : List Line) (a b c : ℕ) (X : List Bool) → IsSparseBetween n (arcs_of Undirected ls) a b c X → PartsSparsely n ls a b c X
parted n ls a b c X s = record {
  cut = record { proper = s.sparse.proper; few = omega (arith, s.sparse.few, capacity-arcs_of Undirected X ls) };
  holds = s.holds;
  misses = s.misses;
}

-- node 0 is joined to each other one
pub connected_from : (n c : ℕ) (ls : List Line) → All (Fits n) ls → ((w : ℕ) → 1 ≤ w → w < n → AreEdgeJoined n ls 0 w c) → IsEdgeConnected c n ls
connected_from n c ls fits each X p = elim (cases_Bool (has X 0)) [
  | inl here ↦
      let (w, lw, out) = node_out X p in
      each w (positive w (λ e. false≢true (sym out ∙ ap (has X) e ∙ here))) lw X p.long here out
  | inr here ↦
      let (w, lw, in') = node_in X p in
      let other = each w (positive w (λ e. false≢true (sym here ∙ ap (has X) (sym e) ∙ in'))) lw (complement X) (length-map X not ∙ p.long) (has-complement X 0 (omega (arith, p.long)) ∙ ap not here) (has-complement X w (omega (arith, p.long)) ∙ ap not in') in
      omega (arith, other, degree-complement ls fits X p.long)
]
  where
    positive : (w : ℕ) → w ≢ 0 → 1 ≤ w
    positive w ne = omega arith
