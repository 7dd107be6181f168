-- An orientation of the edges that were kept is one of all.
use Rattle.std.specs.Prelude.{ℕ, ◌≡◌, Bool, true, List, length}
use Rattle.std.proofs.Common.{sym, ap, ◌∙◌, arith}
use Rattle.std.proofs.lemmas.Bool.{false≢true}
use Rattle.graph_core.specs.Connected.{IsArcConnected}
use Rattle.graph_core.specs.Lines.{enters}
use Rattle.graph_core.specs.Side.{has}
use Rattle.graph_core.specs.declared.graph.Line.{Line}
use Rattle.problem_defs.specs.Orient.{turned}
use Rattle.nw_orientation.specs.Chosen.{chosen, woven}
use Rattle.nw_orientation.proofs.ChosenLaws.{count-woven_some}
use Rattle.graph_core.proofs.ProperLaws.{node_in, node_out}

-- one node has no proper side
pub one_node_oriented : (k : ℕ) (ls : List Line) → IsArcConnected k 1 ls
one_node_oriented k ls X p =
    let (u, lu, hu) = node_in X p in
    let (v, lv, hv) = node_out X p in
    let same : u ≡ v = omega arith in
    absurd (false≢true (sym hv ∙ ap (has X) (sym same) ∙ hu))

pub whole_oriented : (k n : ℕ) (ls : List Line) (ms hs ys : List Bool) → length ms ≡ length ls → length hs ≡ length (chosen true ls ms) → IsArcConnected k n (turned (chosen true ls ms) hs) → IsArcConnected k n (turned ls (woven ms hs ys))
whole_oriented k n ls ms hs ys long many conn X p = omega (arith, conn X p, count-woven_some (enters X) ls ms hs ys long (omega (arith, many)))
