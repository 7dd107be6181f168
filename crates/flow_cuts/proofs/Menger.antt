-- Disjoint walks from one node to another, and a least cut between them that they meet.
use Rattle.std.proofs.Common.{◌≡◌, ◌≢◌, ◌∙◌, ℕ, ◌+◌, ◌≤◌, List, length, Bool, Some, None, refl, sym, ap, subst, arith}
use Rattle.std.proofs.lemmas.Bool.{false_from_ne_true}
use Rattle.std.proofs.lemmas.List.Sums.{count_by-le-length}
use Rattle.graph_core.specs.Graph.{GraphValue}
use Rattle.graph_core.specs.Side.{has, IsOnly}
use Rattle.graph_core.specs.Lines.{cut_by}
use Rattle.problem_defs.specs.Flow.{IsFeasible, IsDual, bound}
use Rattle.flow_cuts.specs.Network.{capacity, Separates}
use Rattle.flow_cuts.specs.Cuts.{IsLeastCapacity, IsMinimumCut, IsSmallestCut}
use Rattle.flow_cuts.specs.Flow.{Origin, Run, FlowValue, FellShort, RunsBetween, AreWalks}
use Rattle.flow_cuts.specs.GraphArcs.{arcs_of}
use Rattle.flow_cuts.proofs.ArcLaws.{capacity-arcs_of}

Separates-only : (n : ℕ) (I O : List Bool) (s t : ℕ) → IsOnly I s → IsOnly O t → s ≢ t → length I ≡ n → Separates n I O I
Separates-only n I O s t a b other len = record {
  long = len;
  holds = λ v h. h;
  misses = λ v h. false_from_ne_true (has I v) (λ e. other (sym (a.only v e) ∙ b.only v h));
}

-- at most all lines leave the one node, so a larger limit isn't met
pub short_of_all : (n : ℕ) (g : Origin) (I O : List Bool) (s t answer : ℕ) → IsOnly I s → IsOnly O t → s ≢ t → length I ≡ n →
    ((X : List Bool) → Separates n I O X → answer ≤ capacity X (arcs_of g.kind g.lines)) → answer ≤ length g.lines
short_of_all n g I O s t answer a b other len least =
    omega (arith, least I (Separates-only n I O s t a b other len), capacity-arcs_of g.kind I g.lines, count_by-le-length (cut_by g.kind I) g.lines)

abbrev pub origin : GraphValue → Origin
origin g = record { kind = g.kind; lines = g.lines }

pub IsFeasible-walks : (g : GraphValue) (s t answer : ℕ) (walks : List (List ℕ)) → AreWalks (origin g) s t answer walks → IsFeasible s t g walks
IsFeasible-walks g s t answer walks are = record { each = are.each; disjoint = are.disjoint }

pub IsDual-cut : (g : GraphValue) (I O X : List Bool) (s t answer : ℕ) → IsOnly I s → IsOnly O t → IsMinimumCut (length g.names) I O (arcs_of g.kind g.lines) answer X → IsDual s t g X
IsDual-cut g I O X s t answer a b cut = record {
  long = cut.separates.long;
  holds = cut.separates.holds s a.here;
  misses = cut.separates.misses t b.here;
}

pub walks_meet : (g : GraphValue) (I O X : List Bool) (s t answer : ℕ) (walks : List (List ℕ)) → AreWalks (origin g) s t answer walks →
    IsMinimumCut (length g.names) I O (arcs_of g.kind g.lines) answer X → length walks ≡ bound g X
walks_meet g I O X s t answer walks are cut = are.many ∙ sym cut.value_is ∙ capacity-arcs_of g.kind X g.lines

-- the flow of a graph after a run from a node to another
abbrev pub ran_on : GraphValue → Run → FlowValue
ran_on g r = record { nodes = length g.names; arcs = arcs_of g.kind g.lines; graph = Some (origin g); last = Some r }

-- what is known of it when its limit was larger than the number of lines
pub record MeetsCut (g : GraphValue) (s t : ℕ) (flow : FlowValue) : Type 0 where
  pub nodes : flow.nodes ≡ length g.names
  pub short : FellShort flow
  pub made : flow.graph ≡ Some (origin g)
  pub between : (r : Run) × (flow.last ≡ Some r) × RunsBetween r s t

pub MeetsCut-ran : (g : GraphValue) (s t : ℕ) (r : Run) (before after : FlowValue) → s ≢ t → IsOnly r.inside s → IsOnly r.outside t → length r.inside ≡ length g.names →
    r.stop ≡ length g.lines + 1 → before ≡ record { nodes = length g.names; arcs = arcs_of g.kind g.lines; graph = Some (origin g); last = None } →
    after ≡ record before { last = Some r } → IsLeastCapacity before.nodes r.inside r.outside before.arcs r.stop r.answer → MeetsCut g s t after
MeetsCut-ran g s t r before after apart a b long stop was is least =
    let now : after ≡ ran_on g r = is ∙ ap (λ (f : FlowValue). record f { last = Some r }) was in
    let P : FlowValue → Type 0 = λ f. IsLeastCapacity f.nodes r.inside r.outside f.arcs r.stop r.answer in
    let Q : FlowValue → Type 0 = MeetsCut g s t in
    let here : IsLeastCapacity (length g.names) r.inside r.outside (arcs_of g.kind g.lines) r.stop r.answer = subst P was least in
    subst Q (sym now) (record {
      nodes = refl;
      short = (r, refl, omega (arith, stop, short_of_all (length g.names) (origin g) r.inside r.outside s t r.answer a b apart long here.least));
      made = refl;
      between = (r, refl, record { from = a; to = b; apart = apart });
    })

pub IsCertified-ran : (g : GraphValue) (s t : ℕ) (r : Run) (flow : FlowValue) (X : List Bool) (walks : List (List ℕ)) → flow ≡ ran_on g r → RunsBetween r s t →
    IsSmallestCut flow.nodes r.inside r.outside flow.arcs r.answer X → AreWalks (origin g) s t r.answer walks →
    IsFeasible s t g walks × IsDual s t g X × (length walks ≡ bound g X)
IsCertified-ran g s t r flow X walks is between cut are =
    let P : FlowValue → Type 0 = λ f. IsSmallestCut f.nodes r.inside r.outside f.arcs r.answer X in
    let least = (subst P is cut).cut in
    (IsFeasible-walks g s t r.answer walks are, IsDual-cut g r.inside r.outside X s t r.answer between.from between.to least, walks_meet g r.inside r.outside X s t r.answer walks are least)
