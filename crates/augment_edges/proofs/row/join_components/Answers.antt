use Rattle.std.proofs.Common.{◌≤◌, true, length, All, Contains, sym, subst, arith}
use Rattle.std.proofs.lemmas.List.Elements.{All-weaker}
use Rattle.graph_core.specs.Side.{IsNonempty}
use Rattle.augment_edges.specs.Row.{AreInRow}
use Rattle.augment_edges.proofs.RowLaws.{row_fits, row_connects}
use Rattle.augment_edges.proofs.row.join_components.Goals as goal

pub row_of-requires : goal.row_of-requires
row_of-requires c =
    let nodes = c.known.ensures.makes.nodes in
    let each = All-weaker (IsNonempty (length c.args.graph.now.names)) (λ C. (length C ≤ 8192) × Contains C true) (λ C some. (omega (arith, some.long, nodes), some.some_in)) c.in_ok-dual.dual c.in_ok-dual.ensures.partition.nonempty in
    subst (λ P. All (λ C. (length C ≤ 8192) × Contains C true) P) (sym c.as_slice.ensures) each

pub returns-clause-certified : goal.returns-clause-certified
returns-clause-certified c =
    let are = c.in_ok-dual.ensures in
    let row : AreInRow c.in_ok-dual.dual c.in_ok-object.object = subst (λ P. AreInRow P c.in_ok-object.object) c.as_slice.ensures c.in_ok-object.ensures in
    record {
      feasible = record { fit = row_fits are row; connected = row_connects are row };
      dual_feasible = (λ two. absurd (omega arith), λ one. record { partition = are.partition; apart = are.apart });
      equal = row.many;
    }
