-- The search for the nodes that are forced with one node. No public clause cites it.
use Rattle.std.specs.Prelude.{ℕ, ◌≡◌, ◌≢◌, ◌<◌, ◌≤◌, Bool, true, false, List, length, slice_index_or, Option, Some, None, All}
use Rattle.graph_core.specs.Graph.{GraphValue}
use Rattle.graph_core.specs.Side.{has, size}
use Rattle.dicut_lattice.specs.Tight.{AreSeparated}
use Rattle.lucchesi_younger.specs.Kept.{at}
use Rattle.lucchesi_younger.specs.Forcing.{Takes, Leaves, IsUnforced}
use Rattle.lucchesi_younger.specs.Ways.{Leads, IsWay}
use Rattle.lucchesi_younger.specs.declared.work.By.TheVariants.{Left, Jumped}
use Rattle.lucchesi_younger.specs.declared.work.Forced.{Forced}
use Rattle.lucchesi_younger.specs.declared.work.Forced.TheVariants.{Way, Shut}
use Rattle.lucchesi_younger.specs.declared.work.Step.{Step}
use Rattle.graph_core.specs.declared.graph.Line.{Line}
use Rattle.lucchesi_younger.specs.declared.work.Visit.{Visit}
use Rattle.lucchesi_younger.specs.declared.work.Work.{Work}

abbrev pub visit : List Visit → ℕ → Visit
visit visits i = slice_index_or visits i (record { step = record { by = Jumped; from = 0; to = 0 }; back = 0 })

-- the node that a visit came to
abbrev pub node : List Visit → ℕ → ℕ
node visits i = (visit visits i).step.to

-- a visit by a step from an earlier one, which was the first that forces its node
pub record IsEntered (g : GraphValue) (w : Work) (late : ℕ) (visits : List Visit) (i : ℕ) : Type 0 where
  pub earlier : (visit visits i).back < i
  pub from : (visit visits i).step.from ≡ node visits (visit visits i).back
  pub leads : Leads g w late (visit visits i).step (node visits i)
  pub first : (k : ℕ) → k < (visit visits i).back → IsUnforced g w late (node visits k) (node visits i)

-- The reached nodes are those of the visits, and what is forced with the nodes at the places below done is reached.
pub record IsSearch (g : GraphValue) (w : Work) (late : ℕ) (reached : List Bool) (visits : List Visit) (done : ℕ) : Type 0 where
  pub long : length reached ≡ length g.names
  pub count : length visits ≡ size reached
  pub some : 0 < length visits
  pub root : (visit visits 0).step.by ≡ Left late
  pub marked : (i : ℕ) → i < length visits → has reached (node visits i) ≡ true
  pub queued : (v : ℕ) → has reached v ≡ true → (i : ℕ) × (i < length visits) × (node visits i ≡ v)
  pub entered : (i : ℕ) → 0 < i → i < length visits → IsEntered g w late visits i
  pub full : (i v : ℕ) → i < done → v < length g.names → has reached v ≡ false → IsUnforced g w late (node visits i) v

-- later visits stand behind the earlier ones, and what was reached stays so
pub record Grows (reached reached' : List Bool) (visits visits' : List Visit) : Type 0 where
  pub longer : length visits ≤ length visits'
  pub same : (i : ℕ) → i < length visits → visit visits' i ≡ visit visits i
  pub stays : (v : ℕ) → has reached' v ≡ false → has reached v ≡ false

-- arc j doesn't force v with u
pub record IsArcUnforced (g : GraphValue) (w : Work) (late j u v : ℕ) : Type 0 where
  pub takes : Takes g w j u v → ⊥
  pub leaves : Leaves g w late j u v → ⊥

-- a step to the one node that arc j forces with u
pub record IsArcStep (g : GraphValue) (w : Work) (late j u : ℕ) (st : Step) : Type 0 where
  pub from : st.from ≡ u
  pub leads : Leads g w late st st.to
  pub other : (v : ℕ) → v ≢ st.to → IsArcUnforced g w late j u v

-- what arc j forces with u
abbrev pub IsArcForced : GraphValue → Work → ℕ → ℕ → ℕ → Option Step → Type 0
IsArcForced g w late j u (Some st) = IsArcStep g w late j u st
IsArcForced g w late j u None = (v : ℕ) → IsArcUnforced g w late j u v

-- the arcs below j don't force v with u where v isn't reached
abbrev pub PastArcs : GraphValue → Work → ℕ → ℕ → List Bool → ℕ → Type 0
PastArcs g w late u reached j = (i v : ℕ) → i < j → has reached v ≡ false → IsArcUnforced g w late i u v

-- no jump forces v with u
abbrev pub PastJump : GraphValue → Work → ℕ → ℕ → Type 0
PastJump g w u v = at w.potential u ≡ at w.potential v → AreSeparated g w.join u v

-- nor any of the nodes below i where it isn't reached
abbrev pub PastJumps : GraphValue → Work → ℕ → List Bool → ℕ → Type 0
PastJumps g w u reached i = (v : ℕ) → v < i → has reached v ≡ false → PastJump g w u v

-- no node of the side forces one outside
abbrev pub IsShut : GraphValue → Work → ℕ → List Bool → Type 0
IsShut g w late side = (u v : ℕ) → has side u ≡ true → v < length g.names → has side v ≡ false → IsUnforced g w late u v

-- a way from the head of the late arc to its tail, or a side with the head alone of which no node forces one outside
abbrev pub IsForced : GraphValue → Work → ℕ → Line → Forced → Type 0
IsForced g w late l (Way steps) = IsWay g w late l.head l.tail steps
IsForced g w late l (Shut side) = (length side ≡ length g.names) × (has side l.head ≡ true) × (has side l.tail ≡ false) × IsShut g w late side

-- the steps from a place on the way to a later one, the last step first
pub record IsBack (g : GraphValue) (w : Work) (late : ℕ) (visits : List Visit) (place back : ℕ) (steps : List Step) : Type 0 where
  pub below : back < length visits
  pub way : IsWay g w late (node visits back) (node visits place) steps
  pub far : All (λ r. (k : ℕ) → k < back → IsUnforced g w late (node visits k) r.to) steps
