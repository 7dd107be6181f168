use Rattle.std.proofs.Common.{◌≡◌, take}
use Rattle.std.specs.Prelude.{map}
use Rattle.flow_cuts.specs.Residual.{link_along, EachFits}
use Rattle.flow_cuts.proofs.flow.links_along.Given as goal

abbrev pub invariant-loop-line : goal.invariant-loop-line
invariant-loop-line l = record {
  links : l.links.items ≡ map (link_along l.kind) (take l.line-index l.lines);
  fits : EachFits l.links.items;
}
