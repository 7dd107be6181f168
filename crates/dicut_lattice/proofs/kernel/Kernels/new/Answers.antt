use Rattle.std.proofs.Common.{◌≡◌, ◌∙◌, ap, length, not, false, arith, replicate}
use Rattle.std.proofs.lemmas.List.{length-replicate}
use Rattle.graph_core.specs.Picked.{picked}
use Rattle.graph_core.specs.Side.{has, complement}
use Rattle.graph_core.proofs.SideLaws.{has-complement, has-none}
use Rattle.dicut_lattice.proofs.kernel.Kernels.new.Goals as goal

pub invariant_of-result : goal.invariant_of-result
invariant_of-result c =
    let n = c.node_count-n.result in
    let count : n ≡ length c.args.graph.now.names = c.node_count-n.ensures in
    let none : length c.in_ok-whole.whole ≡ n = ap length c.in_ok-whole.ensures ∙ length-replicate n false in
    let made : c.complement.new.self ≡ complement (replicate n false) = c.complement.ensures.complement ∙ ap complement c.in_ok-whole.ensures in
    record {
      dijoin = c.requires;
      arcs_are = c.in_ok-arcs.ensures.lines ∙ ap (picked c.args.graph.now.lines) c.as_slice.ensures;
      fits = c.in_ok-arcs.ensures.arcs.fit;
      reach_is = c.in_ok-reach.ensures;
      whole_long = c.complement.ensures.long ∙ none ∙ count;
      whole_has = λ v l. ap (λ X. has X v) made ∙ has-complement (replicate n false) v (omega (arith, length-replicate n false)) ∙ ap not (has-none n v);
      work_long = ap length c.in_ok-work.ensures ∙ length-replicate n false ∙ count;
    }
