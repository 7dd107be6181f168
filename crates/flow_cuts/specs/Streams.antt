-- What is sent along each link, and what is left of it when a unit is taken away. No public clause cites it.
use Rattle.std.specs.Prelude.{◌≡◌, ℕ, ◌+◌, ◌-◌, ◌≤◌, List, length, slice_set, Bool, sum_by}
use Rattle.flow_cuts.specs.declared.network.Link.{Link}
use Rattle.flow_cuts.specs.declared.network.Step.{Step}
use Rattle.flow_cuts.specs.declared.network.Way.{Way}
use Rattle.flow_cuts.specs.declared.network.Way.TheVariants.{Forth, Back}
use Rattle.graph_core.specs.Side.{has}
use Rattle.flow_cuts.specs.Network.{across, Separates}
use Rattle.flow_cuts.specs.Residual.{link_at, room_at, room_leaving}

-- the link with one less along the way
abbrev pub one_less : Link → Way → Link
one_less l Forth = record l { forth = l.forth - 1 }
one_less l Back = record l { back = l.back - 1 }

abbrev pub taken : List Link → Step → List Link
taken ls s = slice_set ls s.link (one_less (link_at ls s.link) s.way)

-- what goes along both ways of a link
abbrev pub both_at : List Link → ℕ → ℕ
both_at ls j = (link_at ls j).forth + (link_at ls j).back

-- what the link keeps from its whole is what was sent along it
abbrev pub sent_of : Link → Link → Link
sent_of w l = record w { forth = w.forth - l.forth; back = w.back - l.back }

pub record IsSent (whole links sent : List Link) : Type 0 where
  pub len : length sent ≡ length whole
  pub at : (j : ℕ) → link_at sent j ≡ sent_of (link_at whole j) (link_at links j)

-- what may come into a side
abbrev pub enters : List Bool → Link → ℕ
enters X l = across (has X l.head) (has X l.tail) l.forth + across (has X l.tail) (has X l.head) l.back

abbrev pub entering : List Bool → List Link → ℕ
entering X ls = sum_by (enters X) ls

-- out of each side that separates goes r more than comes in
pub record IsStream (n : ℕ) (inside outside : List Bool) (sent : List Link) (r : ℕ) : Type 0 where
  pub surplus : (X : List Bool) → Separates n inside outside X → room_leaving X sent ≡ r + entering X sent

-- no room is larger
pub record IsLess (ls ls' : List Link) : Type 0 where
  pub at : (s : Step) → room_at ls' s ≤ room_at ls s
