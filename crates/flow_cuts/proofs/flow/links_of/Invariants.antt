use Rattle.std.proofs.Common.{◌≡◌, take}
use Rattle.std.specs.Prelude.{map}
use Rattle.flow_cuts.specs.Residual.{link_of, EachFits}
use Rattle.flow_cuts.proofs.flow.links_of.Given as goal

abbrev pub invariant-loop-arc : goal.invariant-loop-arc
invariant-loop-arc l = record {
  links : l.links.items ≡ map link_of (take l.arc-index l.arcs);
  fits : EachFits l.links.items;
}
