-- What is left of a star that is being split off, and its two halves. No public clause cites it.
use Rattle.std.specs.Prelude.{ℕ, ◌≡◌, ◌+◌, ◌≤◌, ◌==◌, List, [], ◌∷◌, ◌++◌, cond, length, sum, All}
use Rattle.graph_core.specs.Limits.{line_room}
use Rattle.graph_core.specs.Graph.{Fits}
use Rattle.cut_fn.specs.Covered.{IsCovered}
use Rattle.flow_cuts.specs.Network.{IsCutFunction}
use Rattle.cut_fn.specs.declared.stars.ArcStar.{ArcStar}
use Rattle.split_directed.specs.declared.half.Half.{Half}
use Rattle.problem_defs.specs.declared.cert.Way.{Way}
use Rattle.problem_defs.specs.declared.cert.Way.TheVariants.{Entering, Leaving}
use Rattle.split_directed.specs.Half.{IsHalf}
use Rattle.problem_defs.specs.Ways.{count_for}
use Rattle.flow_cuts.specs.StarValues.{counts_for}
use Rattle.split_directed.specs.Rows.{after}
use Rattle.cut_fn.specs.Stars.{StarValue, star_of, star_enter, star_leave}

-- the star after the rows
abbrev pub left_of : ArcStar → List (ℕ × ℕ × ℕ) → StarValue
left_of star rows = after (star_of star) rows

-- the row is put behind the others, where it splits off at least one
abbrev pub rows_with : List (ℕ × ℕ × ℕ) → ℕ → ℕ → ℕ → List (ℕ × ℕ × ℕ)
rows_with rows u t c = cond (c == 0) rows (rows ++ (u, t, c) ∷ [])

-- a half has the arcs and counts of the star
pub record Shows (n : ℕ) (w : Way) (s : StarValue) (h : Half) : Type 0 where
  pub half : IsHalf n h
  pub cut : IsCutFunction h.arcs.items (count_for w s.lines)
  pub counts : h.counts.items ≡ counts_for w s
  pub room : length h.arcs.items + sum s.into ≤ line_room

pub record IsState (n : ℕ) (s : StarValue) (enter leave : Half) : Type 0 where
  pub entering : Shows n Entering s enter
  pub leaving : Shows n Leaving s leave

-- a star on n nodes of which both functions are covered
pub record IsCoveredStar (n k : ℕ) (s : StarValue) : Type 0 where
  pub fits : All (Fits n) s.lines
  pub into_long : length s.into ≡ n
  pub out_long : length s.out ≡ n
  pub enters : IsCovered n k (star_enter s)
  pub leaves : IsCovered n k (star_leave s)
