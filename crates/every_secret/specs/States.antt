-- The state of a masked replay between two turns. From one state on everything is the same, but for the numbers of turns
-- that are left and of bits that have crossed.
use Rattle.std.specs.Prelude.{◌≡◌, ◌≤◌, ◌<◌, ◌+◌, ℕ}
use Rattle.std.specs.List.{AllByRecursion}
use Rattle.flow_base.specs.declared.points.Point.{Point}
use Rattle.lockstep_replay.specs.Tasks.{Limits, Task}
use Rattle.replay_machine.specs.Runs.{Masks, times_passed}
use Rattle.every_secret.specs.Masked.{MaskedPlace}
use Rattle.every_secret.specs.Paths.{Path, Tree, paths_of, tree_of}
use Rattle.every_secret.specs.Replays.{walked_on}
use Rattle.every_secret.specs.Rules.{Rules}
use Rattle.every_secret.specs.Ways.{EndsOn}

-- two places have the same state: all of the guest, all masks, what was shown, and the masks of the cut that are ahead
pub record SameState (masks : Masks) (first second : MaskedPlace) : Type 0 where
  pub state : first.state ≡ second.state
  pub visits : (point : Point) (visit : ℕ) → 1 ≤ visit →
      masks point (times_passed point first.past + visit) ≡ masks point (times_passed point second.past + visit)
  pub registers : (register : ℕ) →
      (first.labels.registers register).mask ≡ (second.labels.registers register).mask
  pub kept : (register : ℕ) → (first.labels.kept register).mask ≡ (second.labels.kept register).mask
  pub bytes : (address : ℕ) → (first.labels.bytes address).mask ≡ (second.labels.bytes address).mask
  pub byte_masks : first.byte_masks ≡ second.byte_masks
  pub status_mask : first.status_mask ≡ second.status_mask

-- what is below a place with so many turns left
abbrev pub below : Rules → Task → Limits → ℕ → MaskedPlace → Tree
below rules task limits left place = tree_of (walked_on rules task limits left place)

-- a path from a place with so many turns left ends after at most so many turns, and with at most so many bits more that
-- cross, and neither unclear nor by the limit of turns
pub record EndsWithin (rules : Rules) (task : Task) (limits : Limits) (left : ℕ) (place : MaskedPlace) (turns bits : ℕ)
    (path : Path) : Type 0 where
  pub after : ℕ
  pub crossed : ℕ
  pub ends_on : EndsOn rules task limits left place path.bits path.ends after crossed
  pub soon : left ≤ turns + after
  pub few : crossed ≤ place.crossed + bits

-- every path below a place does
abbrev pub AllEndWithin : Rules → Task → Limits → ℕ → MaskedPlace → ℕ → ℕ → Type 0
AllEndWithin rules task limits left place turns bits =
    AllByRecursion (EndsWithin rules task limits left place turns bits) (paths_of (below rules task limits left place))

-- The law of states: where every path below a place ends so, what is below another place with the same state is the
-- same, if it has as many turns left and as many bits of the budget.
abbrev pub SameTreesLaw : Type 0
SameTreesLaw =
    (rules : Rules) (task : Task) (limits : Limits) (first second : MaskedPlace) (left other_left turns bits : ℕ) →
    SameState task.masks first second → first.crossed ≤ limits.budget → limits.budget < 4294967295 →
    AllEndWithin rules task limits left first turns bits → turns ≤ other_left →
    second.crossed + bits ≤ limits.budget →
    below rules task limits other_left second ≡ below rules task limits left first
