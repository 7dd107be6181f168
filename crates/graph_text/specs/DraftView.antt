-- What is known of a graph that is being read. No public clause cites it.
use Rattle.std.specs.Prelude.{ℕ, ◌≤◌, ◌≡◌, ◌≢◌, Bool, true, List, length, map, sum, sum_by, All, AllPairs}
use Rattle.std.specs.declared.option.Option.{Option}
use Rattle.std.specs.declared.option.Option.TheVariants.{Some}
use Rattle.graph_core.specs.Limits.{most_cost, most_costs, most_lines, most_nodes}
use Rattle.graph_core.specs.Name.{IsName}
use Rattle.graph_core.specs.Graph.{Fits, AreNumbers}
use Rattle.graph_core.specs.declared.graph.Kind.{Kind}
use Rattle.graph_core.specs.declared.graph.Kind.TheVariants.{Directed}
use Rattle.graph_core.specs.declared.graph.Line.{Line}
use Rattle.graph_text.specs.declared.draft.Draft.TheInside.{Inside}
use Rattle.graph_text.specs.Before.{Content}
use Rattle.graph_text.specs.Text.{ends_in}

abbrev pub names_of : Inside → List (List ℕ)
names_of draft = map (λ name. name.items) draft.names.keys

abbrev pub view_of : Inside → Content
view_of draft = record { kind = draft.kind; names = names_of draft; numbers = draft.numbers.items; ends = map (ends_in (names_of draft)) draft.lines.items }

-- Only an arc may be fixed, and only one that isn't costs something other than 1.
pub record MayCost (kind : Option Kind) (fixed : Bool) (cost : ℕ) : Type 0 where
  pub most : cost ≤ most_cost
  pub free : fixed ≡ true → kind ≡ Some Directed
  pub other : cost ≢ 1 → kind ≡ Some Directed
  pub one : fixed ≡ true → cost ≡ 1

-- What holds of every graph that is being read.
pub record AreParts (kind : Option Kind) (names : List (List ℕ)) (numbers : List ℕ) (lines : List Line) : Type 0 where
  pub few : length names ≤ most_nodes
  pub named : All IsName names
  pub distinct : AllPairs (λ a b. a ≢ b) names
  pub numbered : AreNumbers (length names) numbers
  pub within : All (Fits (length names)) lines
  pub few_lines : length lines ≤ most_lines
  pub priced : All (λ line. MayCost kind line.fixed line.cost) lines
  pub total : sum_by (λ line. line.cost) lines ≤ most_costs

-- The two sums that it keeps are those of the numbers and of the costs.
pub record IsDraft (draft : Inside) : Type 0 where
  pub parts : AreParts draft.kind (names_of draft) draft.numbers.items draft.lines.items
  pub number_sum : draft.number_sum ≡ sum draft.numbers.items
  pub cost_sum : draft.cost_sum ≡ sum_by (λ line. line.cost) draft.lines.items
