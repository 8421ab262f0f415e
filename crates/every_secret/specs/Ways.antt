-- The way of a masked replay from one place to another, and to the end of a path.
use Rattle.std.specs.Prelude.{◌≡◌, ◌≤◌, ◌+◌, ℕ, zero, suc, List, [], ◌++◌, Bool}
use Rattle.crossing_bits.specs.Askers.{Fed', feed}
use Rattle.lockstep_replay.specs.Tasks.{Limits, Task}
use Rattle.rv32im_machine.specs.declared.stepping.Stepped.{Stepped}
use Rattle.rv32im_machine.specs.declared.stepping.Stepped.TheVariants.{Ran, Exited, Stopped}
use Rattle.every_secret.specs.declared.path_ends.PathEnd.{PathEnd}
use Rattle.every_secret.specs.declared.path_ends.PathEnd.TheVariants.{Exits, Stops}
use Rattle.every_secret.specs.declared.stops.PathStop.TheVariants.{Guest, RangeOutside}
use Rattle.every_secret.specs.Masked.{MaskedPlace, Reached, Goes, Meets, Halts}
use Rattle.every_secret.specs.Replays.{pattern_of}
use Rattle.every_secret.specs.Rules.{Rules}
use Rattle.every_secret.specs.Turns.{masked_turn}

-- a walk goes on from a place: the guest runs, and no more bits have crossed than the budget
pub record GoesOn (limits : Limits) (place : MaskedPlace) : Type 0 where
  pub runs : place.state.control.mode ≡ Ran
  pub within : place.crossed ≤ limits.budget

-- one turn along the first bits of a string, and what there is from the place that it comes to along the others
pub record FirstTurn (rules : Rules) (task : Task) (limits : Limits) (first : MaskedPlace) (bits : List Bool)
    (Later : MaskedPlace → List Bool → Type 0) : Type 0 where
  pub taken : List Bool
  pub rest : List Bool
  pub splits : bits ≡ taken ++ rest
  pub next : MaskedPlace
  pub turn : feed (masked_turn rules task first) taken ≡ Fed' (Goes next) []
  pub goes : GoesOn limits next
  pub later : Later next rest

-- so many turns lead from a place along a string to another place
unfoldable pub Leads : Rules → Task → Limits → ℕ → MaskedPlace → List Bool → MaskedPlace → Type 0
Leads rules task limits zero first bits last = (bits ≡ []) × (first ≡ last)
Leads rules task limits (suc made) first bits last =
    FirstTurn rules task limits first bits (λ next rest. Leads rules task limits made next rest last)

-- the end of a path in this mode of the guest
abbrev pub EndsIn : Stepped → Limits → MaskedPlace → PathEnd → Type 0
EndsIn Ran limits place ends = ⊥
EndsIn (Exited status) limits place ends = (place.crossed ≤ limits.budget) × (ends ≡ Exits (pattern_of place status))
EndsIn (Stopped fault) limits place ends = ends ≡ Stops (Guest fault)

-- the end that a turn from a place makes, which is neither unclear nor the limit of turns, and how many bits have crossed
abbrev pub EndsAfter : Limits → MaskedPlace → Reached → PathEnd → ℕ → Type 0
EndsAfter limits last (Goes next) ends crossed =
    (next.crossed ≡ crossed) × EndsIn next.state.control.mode limits next ends
EndsAfter limits last (Meets why) ends crossed = ⊥
EndsAfter limits last (Halts outside) ends crossed = (last.crossed ≡ crossed) × (ends ≡ Stops (RangeOutside outside))

-- from a place with so many turns left, a walk along a string ends so, with so many turns left, where so many bits have
-- crossed; it is neither unclear nor ended by the limit of turns
pub record EndsOn (rules : Rules) (task : Task) (limits : Limits) (left : ℕ) (first : MaskedPlace) (bits : List Bool)
    (ends : PathEnd) (after crossed : ℕ) : Type 0 where
  pub made : ℕ
  pub turns : left ≡ suc (made + after)
  pub before : List Bool
  pub taken : List Bool
  pub splits : bits ≡ before ++ taken
  pub last : MaskedPlace
  pub leads : Leads rules task limits made first before last
  pub reached : Reached
  pub turn : feed (masked_turn rules task last) taken ≡ Fed' reached []
  pub is_end : EndsAfter limits last reached ends crossed
