-- What a command asks of a graph.
use Rattle.std.specs.Prelude.{ℕ, List, [], Option, Some, None, Result, Ok, Err, bytes_eq, unwrap_or, slice_get}
use Rattle.std.specs.List.{position_or_len}
use Rattle.graph_core.specs.Graph.{GraphValue}
use Rattle.problem_defs.specs.Ask.{misfit_of}
use Rattle.problem_defs.specs.declared.ask.Ask.{Ask}
use Rattle.problem_defs.specs.declared.ask.Ask.TheVariants as ask
use Rattle.problem_defs.specs.declared.ask.Misfit.{Misfit}
use Rattle.connect_words.specs.declared.command.Command.{Command}
use Rattle.connect_words.specs.declared.command.Command.TheVariants.{Flow, CutTree, Augment, AugmentArcs, Arborescences, Trees, Forests, Orient, Dijoin, Check, Trial}

-- the node of this name: the place of the name in the list of names, or the number of nodes, which is no node,
-- where no node has the name
abbrev pub node_named : GraphValue → List ℕ → ℕ
node_named graph name = position_or_len (λ known. bytes_eq known name) graph.names

-- the node whose name stands at this place of the words
abbrev pub node_at : GraphValue → List (List ℕ) → ℕ → ℕ
node_at graph words place = node_named graph (unwrap_or (slice_get words place) [])

-- what the command with these words asks; `check` and `trial` ask nothing
abbrev pub asked : GraphValue → List (List ℕ) → Command → Option Ask
asked graph words Flow = Some (ask.Flow (node_at graph words 1) (node_at graph words 2))
asked graph words CutTree = Some ask.CutTree
asked graph words (Augment k) = Some (ask.Augment k)
asked graph words (AugmentArcs k) = Some (ask.AugmentArcs k)
asked graph words Arborescences = Some (ask.Arborescences (node_at graph words 1))
asked graph words Trees = Some ask.Trees
asked graph words Forests = Some ask.Forests
asked graph words (Orient k) = Some (ask.Orient k)
asked graph words Dijoin = Some ask.Dijoin
asked graph words Check = None
asked graph words (Trial kind nodes number) = None

-- the ask, unless there is a misfit
abbrev pub unless : Option Misfit → Ask → Result Ask Misfit
unless None ask = Ok ask
unless (Some misfit) ask = Err misfit

-- the ask where it suits the graph, and else the first reason for which it doesn't
abbrev pub ask_or_misfit : GraphValue → Ask → Result Ask Misfit
ask_or_misfit graph ask = unless (misfit_of graph ask) ask
