-- When a certificate is shaped for a graph: its ask suits the graph, its body belongs to the ask, and what it names is there.
use Rattle.std.specs.Prelude.{ℕ, ◌≡◌, ◌<◌, ◌^◌, Bool, List, length, All, None}
use Rattle.graph_core.specs.Graph.{GraphValue}
use Rattle.graph_core.specs.Pairs.{AreIn}
use Rattle.problem_defs.specs.Ask.{misfit_of, KIsInRange}
use Rattle.problem_defs.specs.declared.ask.Ask.{Ask}
use Rattle.problem_defs.specs.declared.ask.Ask.TheVariants.{Flow, CutTree, Augment, AugmentArcs, Arborescences, Trees, Forests, Orient, Dijoin}
use Rattle.problem_defs.specs.declared.cert.Body.{Body}
use Rattle.problem_defs.specs.declared.cert.Body.TheVariants.{Tree, Turned, Walks, Edges, Arcs, Parts, Join, Never}
use Rattle.problem_defs.specs.declared.cert.PartsDual.{PartsDual}
use Rattle.problem_defs.specs.declared.cert.PartsDual.TheVariants.{Cut, Partition, Induced as InducedSide, Nothing as NoDual}
use Rattle.problem_defs.specs.declared.cert.Cert.{Cert}

-- the body belongs to the ask
abbrev pub Belongs : Ask → Body → Type 0
Belongs (Flow s t) (Walks value rows cut) = Unit {0}
Belongs CutTree (Tree pairs) = Unit {0}
Belongs (Augment k) (Edges value pairs sides) = Unit {0}
Belongs (AugmentArcs k) (Arcs value pairs way sides) = Unit {0}
Belongs (Arborescences r) (Parts value rows (Cut side)) = Unit {0}
Belongs Trees (Parts value rows (Partition classes)) = Unit {0}
Belongs Forests (Parts value rows (InducedSide side)) = Unit {0}
Belongs Forests (Parts value rows NoDual) = Unit {0}
Belongs (Orient k) (Turned heads) = Unit {0}
Belongs (Orient k) (Never side) = Unit {0}
Belongs Dijoin (Join value numbers sides) = Unit {0}
Belongs Dijoin (Never side) = Unit {0}
Belongs ask body = ⊥

-- sides of n nodes, nodes below n, line numbers below m
abbrev pub AreNodes : ℕ → List (ℕ × ℕ) → Type 0
AreNodes n pairs = All (λ p. (p.0 < n) × (p.1 < n)) pairs

abbrev pub AreSides : ℕ → List (List Bool) → Type 0
AreSides n sides = All (λ X. length X ≡ n) sides

abbrev pub AreRows : ℕ → List (List ℕ) → Type 0
AreRows m rows = All (All (λ j. j < m)) rows

abbrev pub DualIsInRange : ℕ → PartsDual → Type 0
DualIsInRange n (Cut side) = length side ≡ n
DualIsInRange n (Partition classes) = AreSides n classes
DualIsInRange n (InducedSide side) = length side ≡ n
DualIsInRange n NoDual = Unit {0}

abbrev pub IsInRange : ℕ → ℕ → Body → Type 0
IsInRange n m (Tree pairs) = AreIn n pairs
IsInRange n m (Turned heads) = length heads ≡ m
IsInRange n m (Walks value rows cut) = AreRows m rows × (length cut ≡ n)
IsInRange n m (Edges value pairs sides) = AreNodes n pairs × AreSides n sides
IsInRange n m (Arcs value pairs way sides) = AreNodes n pairs × AreSides n sides
IsInRange n m (Parts value rows dual) = AreRows m rows × DualIsInRange n dual
IsInRange n m (Join value numbers sides) = All (λ j. j < m) numbers × AreSides n sides
IsInRange n m (Never side) = length side ≡ n

-- the numbers that are written fit 64 bits
abbrev pub NumbersFit : Body → Type 0
NumbersFit (Tree pairs) = All (λ p. p.2 < 2 ^ 64) pairs
NumbersFit (Turned heads) = Unit {0}
NumbersFit (Walks value rows cut) = value < 2 ^ 64
NumbersFit (Edges value pairs sides) = value < 2 ^ 64
NumbersFit (Arcs value pairs way sides) = value < 2 ^ 64
NumbersFit (Parts value rows dual) = value < 2 ^ 64
NumbersFit (Join value numbers sides) = value < 2 ^ 64
NumbersFit (Never side) = Unit {0}

pub record IsShaped (g : GraphValue) (cert : Cert) : Type 0 where
  pub k : KIsInRange cert.ask
  pub suits : misfit_of g cert.ask ≡ None
  pub belongs : Belongs cert.ask cert.body
  pub in_range : IsInRange (length g.names) (length g.lines) cert.body
  pub numbers_fit : NumbersFit cert.body
