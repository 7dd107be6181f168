use Rattle.std.proofs.Common.{◌≡◌, sym, subst, arith}
use Rattle.graph_core.specs.Name.{IsName}
use Rattle.connect_gen.specs.Generated.{node_name}
use Rattle.connect_gen.proofs.GeneratedLaws.{node_name-is_name}
use Rattle.connect_gen.proofs.generated.node_name.Goals as goal

pub make-requires : goal.make-requires
make-requires c =
    let is : c.deref.result.now ≡ node_name c.args.v = grind (arith, c.deref.ensures.value, c.in_ok-extend_from_slice.ensures.items, c.in_ok-text.ensures.items, c.as_bytes.ensures.value, c.format.ensures.text) in
    subst IsName (sym is) (node_name-is_name c.args.v c.requires)
