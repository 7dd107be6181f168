-- The first nodes of a side, read off its names. No public clause cites it.
use Rattle.std.specs.Prelude.{◌≡◌, ◌≢◌, ◌<◌, ◌≤◌, ℕ, ◌++◌, Bool, false, List, length, take, drop}
use Rattle.graph_core.specs.Graph.{GraphValue}
use Rattle.graph_core.specs.Side.{has}
use Rattle.certificate_text.specs.Words.{name_of, names_in}

-- none of the nodes from v on and below w has this name
abbrev pub IsMissing : GraphValue → ℕ → ℕ → List ℕ → Type 0
IsMissing g v w word = (u : ℕ) → v ≤ u → u < w → name_of g u ≢ word

-- w is the first node from v on that has this name
pub record IsNext (g : GraphValue) (v : ℕ) (word : List ℕ) (w : ℕ) : Type 0 where
  pub from : v ≤ w
  pub below : w < length g.names
  pub found : name_of g w ≡ word
  pub missing : IsMissing g v w word

-- After v nodes the names of those that are in the side were read, and every side with all the names has the others behind them. No later node is in it yet.
pub record SideRead (names all : List (List ℕ)) (v : ℕ) (X : List Bool) (left : List (List ℕ)) : Type 0 where
  pub long : length X ≡ length names
  pub front : all ≡ names_in (take v names) (take v X) ++ left
  pub only : (Y : List Bool) → length Y ≡ length names → names_in names Y ≡ all → names_in (drop v names) (drop v Y) ≡ left
  pub later : (u : ℕ) → v ≤ u → has X u ≡ false
