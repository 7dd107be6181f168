-- What holds of the fields of a flow, and what a caller sees of them.
use Rattle.std.specs.Prelude.{◌≡◌, List, map, length, Option, Some, None}
use Rattle.std.specs.Option.{option_map}
use Rattle.flow_cuts.specs.Flow.{Origin, Run, FlowValue}
use Rattle.flow_cuts.specs.GraphArcs.{arcs_of}
use Rattle.flow_cuts.specs.Residual.{EachFits, AreLinksOf, arc_along, link_along}
use Rattle.flow_cuts.specs.Search.{IsAdjacency}
use Rattle.flow_cuts.specs.Ready.{IsReady, HasRun}
use Rattle.flow_cuts.specs.declared.network.Cap.{Cap}
use Rattle.flow_cuts.specs.declared.network.Link.{Link}
use Rattle.flow_cuts.specs.declared.flow.Source.{Source}
use Rattle.flow_cuts.specs.declared.flow.Outcome.{Outcome}
use Rattle.flow_cuts.specs.declared.flow.Flow.TheInside.{Inside}

abbrev pub origin_of : Option Source → Option Origin
origin_of o = option_map (λ s. record { kind = s.kind; lines = s.lines.items }) o

-- the arcs of the graph, or else those of the links
abbrev pub arcs_seen : Option Source → List Link → List Cap
arcs_seen None ls = map arc_along ls
arcs_seen (Some s) ls = arcs_of s.kind s.lines.items

-- where there is a graph the links are its lines
abbrev pub IsWholeOf : Option Source → List Link → Type 0
IsWholeOf None ls = Unit {0}
IsWholeOf (Some s) ls = ls ≡ map (link_along s.kind) s.lines.items

abbrev pub last_of : Inside → Option Run
last_of a = option_map (λ o. record { inside = a.course.inside; outside = a.course.outside; stop = o.stop; answer = o.answer }) a.last

abbrev pub value_of : Inside → FlowValue
value_of a = record { nodes = length a.course.inside; arcs = arcs_seen a.graph a.whole.items; graph = origin_of a.graph; last = last_of a }

pub record IsSound (a : Inside) : Type 0 where
  pub adjacency : IsAdjacency (length a.course.inside) a.whole.items a.course.steps
  pub fits : EachFits a.whole.items
  pub outside : length a.course.outside ≡ length a.course.inside
  pub arcs : AreLinksOf (arcs_seen a.graph a.whole.items) a.whole.items
  pub graph : IsWholeOf a.graph a.whole.items
  pub ready : IsReady (length a.course.inside) a.whole.items a.residual
  pub run : (o : Outcome) → a.last ≡ Some o → HasRun (length a.course.inside) a.course.inside a.course.outside (arcs_seen a.graph a.whole.items) o.stop o.answer a.residual
