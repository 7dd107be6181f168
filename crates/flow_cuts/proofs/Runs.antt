-- What a run leaves says of the flow as it is seen.
use Rattle.std.proofs.Common.{◌≡◌, ◌∙◌, ℕ, ◌<◌, List, Bool, Option, Some, None, refl, sym, ap, subst, arith}
use Rattle.std.specs.Prelude.{map}
use Rattle.std.specs.Option.{option_map}
use Rattle.flow_cuts.specs.declared.network.Cap.{Cap}
use Rattle.flow_cuts.specs.declared.network.Link.{Link}
use Rattle.flow_cuts.specs.declared.residual.Residual.{Residual}
use Rattle.flow_cuts.specs.declared.flow.Source.{Source}
use Rattle.flow_cuts.specs.declared.flow.Outcome.{Outcome}
use Rattle.flow_cuts.specs.declared.flow.Flow.TheInside.{Inside}
use Rattle.flow_cuts.specs.Cuts.{IsLeastCapacity, IsSmallestCut, IsLargestCut}
use Rattle.flow_cuts.specs.Flow.{Origin, Run, FlowValue, FellShort}
use Rattle.flow_cuts.specs.Residual.{link_along}
use Rattle.flow_cuts.specs.Ready.{HasRun}
use Rattle.flow_cuts.specs.Sound.{origin_of, IsWholeOf, last_of, value_of, IsSound}
use Rattle.flow_cuts.proofs.ClosedSides.{value_bound}

pub IsLeastCapacity-run : (n : ℕ) (inside outside : List Bool) (arcs : List Cap) (stop answer : ℕ) (r : Residual) → HasRun n inside outside arcs stop answer r →
    IsLeastCapacity n inside outside arcs stop answer
IsLeastCapacity-run n inside outside arcs stop answer r ran = record {
  stopped = ran.most;
  least = value_bound n inside outside arcs r.links.items answer ran.flow;
  reached = λ short. let cut = (ran.smallest short).cut in (r.near, cut.separates, cut.value_is);
}

-- what is behind a value that is there
behind : {X Y : Type 0} (f : X → Y) (o : Option X) (y : Y) → option_map f o ≡ Some y → (x : X) × (o ≡ Some x) × (f x ≡ y)
behind f None y e = absurd cc
behind f (Some x) y e = (x, refl, cc)

same_run : (o : Option Run) (r s : Run) → o ≡ Some r → o ≡ Some s → r ≡ s
same_run o r s e f = cc

abbrev pub run_of : Inside → Outcome → Run
run_of a o = record { inside = a.course.inside; outside = a.course.outside; stop = o.stop; answer = o.answer }

-- a run that fell short left its two sides
pub record HasSides (flow : FlowValue) (r : Run) (near far : List Bool) : Type 0 where
  pub smallest : IsSmallestCut flow.nodes r.inside r.outside flow.arcs r.answer near
  pub largest : IsLargestCut flow.nodes r.inside r.outside flow.arcs r.answer far

sides_of : (a : Inside) (r : Run) → IsSound a → FellShort (value_of a) → last_of a ≡ Some r → HasSides (value_of a) r a.residual.near a.residual.far
sides_of a r sound short is =
    let b = behind (run_of a) a.last r is in
    let o : Outcome = b.0 in
    let ran = sound.run o b.1 in
    let same : short.0 ≡ run_of a o = same_run (last_of a) short.0 r short.1 is ∙ sym b.2 in
    let less : o.answer < o.stop = let x = ap (λ y. y.answer) same in let y = ap (λ y. y.stop) same in omega (arith, short.2) in
    let P : Run → Type 0 = λ y. HasSides (value_of a) y a.residual.near a.residual.far in
    subst P b.2 (record { smallest = ran.smallest less; largest = ran.largest less })

pub HasSides-run : (a : Inside) (flow : FlowValue) (r : Run) → value_of a ≡ flow → IsSound a → FellShort flow → flow.last ≡ Some r →
    HasSides flow r a.residual.near a.residual.far
HasSides-run a flow r view sound short is =
    let P : FlowValue → Type 0 = λ f. FellShort f → f.last ≡ Some r → HasSides f r a.residual.near a.residual.far in
    let here : P (value_of a) = sides_of a r sound in
    subst P view here short is

-- the outcome of the last run, as its run is seen
pub outcome_is : (a : Inside) (flow : FlowValue) (o : Outcome) (r : Run) → value_of a ≡ flow → a.last ≡ Some o → flow.last ≡ Some r → run_of a o ≡ r
outcome_is a flow o r view at is = same_run flow.last (run_of a o) r (ap (λ f. f.last) (sym view) ∙ ap (option_map (run_of a)) at) is

-- the links are the lines of the graph
whole_along : (o : Option Source) (ls : List Link) (g : Origin) → IsWholeOf o ls → origin_of o ≡ Some g → ls ≡ map (link_along g.kind) g.lines
whole_along None ls g whole e = absurd cc
whole_along (Some s) ls g whole e =
    let is : record { kind = s.kind; lines = s.lines.items } ≡ g = cc in
    whole ∙ ap (λ x. map (link_along x.kind) x.lines) is

pub whole_is : (a : Inside) (flow : FlowValue) (g : Origin) → value_of a ≡ flow → IsSound a → flow.graph ≡ Some g → a.whole.items ≡ map (link_along g.kind) g.lines
whole_is a flow g view sound e = whole_along a.graph a.whole.items g sound.graph (ap (λ f. f.graph) view ∙ e)
