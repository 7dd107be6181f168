-- Branches of a growing tree: by their places, turned about, and led to another node. No public clause cites it.
use Rattle.std.specs.Prelude.{ℕ, ◌==◌, Bool, cond, ◌&&◌, List, [], slice_index_or}
use Rattle.graph_core.specs.Side.{has, complement}
use Rattle.cut_trees.specs.declared.branch.Branch.{Branch}

abbrev pub no_branch : Branch
no_branch = record { first = 0; second = 0; weight = 0; side = [] }

-- the branch at a place
abbrev pub at : List Branch → ℕ → Branch
at bs j = slice_index_or bs j no_branch

-- with its nodes exchanged, and the side that holds the new first one
abbrev pub turned : Bool → Branch → Branch
turned f b = record { first = cond f b.second b.first; second = cond f b.first b.second; weight = b.weight; side = cond f (complement b.side) b.side }

-- turned where its first node is t
abbrev pub turn : ℕ → Branch → Branch
turn t b = turned (b.first == t) b

abbrev pub led : Bool → ℕ → Branch → Branch
led f s b = record b { second = cond f s b.second }

-- led to s where it leads to t from a node of X
abbrev pub lead : ℕ → ℕ → List Bool → Branch → Branch
lead t s X b = led (b.second == t && has X b.first) s b

-- the pair of the tree
abbrev pub pair_of : Branch → ℕ × ℕ × ℕ
pair_of b = (b.first, b.second, b.weight)
