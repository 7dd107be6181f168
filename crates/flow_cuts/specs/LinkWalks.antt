-- Walks along links, by the links' numbers. No public clause cites it.
use Rattle.std.specs.Prelude.{◌≡◌, ℕ, ◌<◌, ◌≤◌, List, [], ◌∷◌, length, All, sum_by}
use Rattle.graph_core.specs.Picked.{occurrences}
use Rattle.flow_cuts.specs.declared.network.Link.{Link}
use Rattle.flow_cuts.specs.declared.network.Way.{Way}
use Rattle.flow_cuts.specs.Residual.{from_of, to_of, room_of, link_at}

-- one can go along the link from u to v
abbrev pub Joins : Link → ℕ → ℕ → Type 0
Joins l u v = (w : Way) × (0 < room_of l w) × (from_of l w ≡ u) × (to_of l w ≡ v)

-- the links with these numbers lead from u to t, one after the other
abbrev pub IsLinkWalk : List Link → ℕ → ℕ → List ℕ → Type 0
IsLinkWalk ls u t [] = u ≡ t
IsLinkWalk ls u t (j ∷ walk) = (v : ℕ) × (j < length ls) × Joins (link_at ls j) u v × IsLinkWalk ls v t walk

-- so many walks from s to t, and no link stands twice in them all
pub record AreLinkWalks (ls : List Link) (s t n : ℕ) (walks : List (List ℕ)) : Type 0 where
  pub many : length walks ≡ n
  pub each : All (IsLinkWalk ls s t) walks
  pub disjoint : (j : ℕ) → sum_by (occurrences j) walks ≤ 1

-- at most one can go along each link, one way or the other
pub record AreUnits (ls : List Link) : Type 0 where
  pub forth : (j : ℕ) → (link_at ls j).forth ≤ 1
  pub back : (j : ℕ) → (link_at ls j).back ≤ 1
