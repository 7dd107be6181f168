-- What each kind of trial solves: a command on a generated graph.
use Rattle.std.specs.Prelude.{ℕ, ◌-◌}
use Rattle.graph_core.specs.declared.graph.Kind.{Kind}
use Rattle.graph_core.specs.declared.graph.Kind.TheVariants.{Undirected, Directed}
use Rattle.problem_defs.specs.declared.ask.Ask.{Ask}
use Rattle.problem_defs.specs.declared.ask.Ask.TheVariants as ask
use Rattle.connect_words.specs.declared.command.TrialKind.{TrialKind}
use Rattle.connect_words.specs.declared.command.TrialKind.TheVariants.{Flow, Augment, AugmentArcs, Arborescences, Trees, Forests, Orient, Dijoin}

-- the kind of its graph
abbrev pub graph_kind : TrialKind → Kind
graph_kind AugmentArcs = Directed
graph_kind Arborescences = Directed
graph_kind Dijoin = Directed
graph_kind other = Undirected

-- what it asks of its graph of so many nodes: the first node and the last stand for the nodes of a command
abbrev pub trial_ask : TrialKind → ℕ → Ask
trial_ask Flow nodes = ask.Flow 0 (nodes - 1)
trial_ask Augment nodes = ask.Augment 8
trial_ask AugmentArcs nodes = ask.AugmentArcs 4
trial_ask Arborescences nodes = ask.Arborescences 0
trial_ask Trees nodes = ask.Trees
trial_ask Forests nodes = ask.Forests
trial_ask Orient nodes = ask.Orient 1
trial_ask Dijoin nodes = ask.Dijoin
