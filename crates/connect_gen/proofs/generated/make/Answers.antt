use Rattle.std.proofs.Common.{◌≡◌, ◌+◌, ◌*◌, refl, sym, subst, ◌∙◌, length}
use Rattle.std.specs.Prelude.{sum_by}
use Rattle.graph_core.specs.Graph.{IsWithinSize}
use Rattle.connect_gen.specs.Generated.{generated}
use Rattle.connect_gen.proofs.GeneratedLaws.{generated-nodes, generated_lines-costs, generated-makes, generated-size}
use Rattle.connect_gen.proofs.generated.make.Goals as goal

pub new-requires : goal.new-requires
new-requires c =
    rw (c.in_ok-names.ensures, c.in_ok-lines.ensures, generated-nodes c.args.kind c.args.nodes c.args.number)
    (generated-makes c.args.kind c.args.nodes c.args.number c.requires.some c.requires.few)

pub returns : goal.returns
returns c =
    let made : c.new.result ≡ generated c.args.kind c.args.nodes c.args.number =
    c.new.ensures ∙ (rw (c.in_ok-names.ensures, c.in_ok-lines.ensures, generated-nodes c.args.kind c.args.nodes c.args.number) refl) in
    record {
      graph = made;
      nodes = subst (λ g. length g.names ≡ c.args.nodes) (sym made) (generated-nodes c.args.kind c.args.nodes c.args.number);
      costs = subst (λ g. sum_by (λ line. line.cost) g.lines + 1 ≡ 4 * c.args.nodes) (sym made) (generated_lines-costs c.args.number c.args.nodes c.requires.some);
      size = subst IsWithinSize (sym made) (generated-size c.args.kind c.args.nodes c.args.number c.requires.some c.requires.few);
    }
