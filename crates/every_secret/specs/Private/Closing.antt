-- What is done with states that are closed.
use Rattle.std.specs.Prelude.{◌≡◌, ◌<◌, ◌-◌, ◌++◌, ◌∷◌, [], ℕ, true, ◌⊎◌}
use Rattle.kept_states.specs.declared.kept_states.KeptState.{KeptState}
use Rattle.every_secret.specs.declared.closed_states.Closed.{Closed}
use Rattle.every_secret.specs.declared.closed_states.ClosedStates.{ClosedStates}
use Rattle.every_secret.specs.declared.open_places.OpenPlace.{OpenPlace}

-- what is below an open place all of whose paths are done
abbrev pub below_open : OpenPlace → Closed
below_open entry = record {
  paths = entry.sum.paths;
  stopped = entry.sum.stopped;
  turns = entry.left - entry.sum.after;
  bits = entry.sum.crossed - entry.crossed;
}

-- all states stay
pub record Stays (before after : ClosedStates) : Type 0 where
  pub states : after.states ≡ before.states
  pub below : after.below.items ≡ before.below.items

-- one more is closed
pub record Closes (before after : ClosedStates) (kept : KeptState) (closed : Closed) : Type 0 where
  pub states : after.states ≡ before.states ++ kept ∷ []
  pub below : after.below.items ≡ before.below.items ++ closed ∷ []

-- a state is closed, unless too many are kept
abbrev pub MayClose : ClosedStates → ClosedStates → KeptState → Closed → Type 0
MayClose before after kept closed = Closes before after kept closed ⊎ Stays before after

-- an open place that may be closed
pub record IsClosable (entry : OpenPlace) (turn : ℕ) : Type 0 where
  pub repeats : entry.sum.repeats ≡ true
  pub behind : turn < entry.depth
  pub counted : entry.sum.crossed < 4294967295

-- an open place is closed, if it may be
abbrev pub ClosesOpen : ClosedStates → ClosedStates → OpenPlace → ℕ → Type 0
ClosesOpen before after entry turn =
    (IsClosable entry turn × Closes before after entry.kept (below_open entry)) ⊎ Stays before after
