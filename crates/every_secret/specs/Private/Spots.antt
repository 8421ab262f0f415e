-- Places on the way of a search, and how one leads to another.
use Rattle.std.specs.Prelude.{◌≡◌, ◌≤◌, ◌+◌, ℕ, List, Bool, take, drop}
use Rattle.lockstep_replay.specs.Tasks.{Limits, Task}
use Rattle.every_secret.specs.Masked.{MaskedPlace}
use Rattle.every_secret.specs.Paths.{Path, Tree, tree_of}
use Rattle.every_secret.specs.Replays.{MaskedReplay}
use Rattle.every_secret.specs.Rules.{Rules}
use Rattle.every_secret.specs.States.{SameState, below}
use Rattle.every_secret.specs.Ways.{EndsOn, Leads}

-- what a tree is of: by which rules, of which task, within which limits
pub record Basis : Type 0 where
  pub rules : Rules
  pub task : Task
  pub limits : Limits

-- the whole tree
abbrev pub tree_in : Basis → Tree
tree_in basis = tree_of (MaskedReplay basis.rules basis.task basis.limits)

-- what is below a place with so many turns left
abbrev pub below_in : Basis → ℕ → MaskedPlace → Tree
below_in basis left place = below basis.rules basis.task basis.limits left place

-- a place on the way to here: how many bits lead to it, and how many turns are left there
pub record Spot : Type 0 where
  pub depth : ℕ
  pub left : ℕ
  pub place : MaskedPlace

-- one place leads along its part of a string to a later one, or to one with the same state where as many bits have crossed
pub record LeadsTo (basis : Basis) (bits : List Bool) (first last : Spot) : Type 0 where
  pub made : ℕ
  pub near : MaskedPlace
  pub leads : Leads basis.rules basis.task basis.limits made first.place (drop first.depth (take last.depth bits)) near
  pub same : SameState basis.task.masks near last.place
  pub crossed : near.crossed ≡ last.place.crossed
  pub turns : first.left ≡ made + last.left
  pub deeper : first.depth ≤ last.depth

-- a path from a place with so many turns left ends, neither unclear nor by the limit of turns, with at least so many turns
-- left and at most so many bits crossed
pub record EndsBy (basis : Basis) (left : ℕ) (place : MaskedPlace) (fewest most : ℕ) (path : Path) : Type 0 where
  pub after : ℕ
  pub crossed : ℕ
  pub ends_on : EndsOn basis.rules basis.task basis.limits left place path.bits path.ends after crossed
  pub soon : fewest ≤ after
  pub few : crossed ≤ most
