-- The masked replay of a task: it asks for the bits that are chosen, and is over where a path ends.
use Rattle.std.specs.Prelude.{ℕ, zero, suc, nat_lt, Bool, true, false, []}
use Rattle.crossing_bits.specs.Askers.{Asker, Over, then_ask}
use Rattle.rv32im_machine.specs.declared.stepping.Stepped.{Stepped}
use Rattle.rv32im_machine.specs.declared.stepping.Stepped.TheVariants.{Ran, Exited, Stopped}
use Rattle.replay_machine.specs.Runs.{ReplayPlace}
use Rattle.shadow_masks.specs.Writes.{default_map}
use Rattle.lockstep_replay.specs.Tasks.{Task, Limits, replay_start}
use Rattle.every_secret.specs.declared.path_ends.PathEnd.{PathEnd}
use Rattle.every_secret.specs.declared.path_ends.PathEnd.TheVariants.{Exits, Stops, Unclear}
use Rattle.every_secret.specs.declared.patterns.Pattern.{Pattern}
use Rattle.every_secret.specs.declared.stops.PathStop.TheVariants.{Guest, RangeOutside, Turns}
use Rattle.every_secret.specs.declared.whys.UnclearWhy.TheVariants.{Budget}
use Rattle.every_secret.specs.Masked.{MaskedPlace, Reached, Goes, Meets, Halts}
use Rattle.every_secret.specs.Rules.{Rules}
use Rattle.every_secret.specs.Turns.{masked_turn}

abbrev pub pattern_of : MaskedPlace → ℕ → Pattern
pattern_of place status = record {
  bytes = place.state.control.output;
  status = status;
  byte_masks = place.byte_masks;
  status_mask = place.status_mask;
}

-- what comes of a walk, unless more bits have crossed than the budget
abbrev pub unless_over : Bool → ℕ → MaskedPlace → Asker PathEnd → Asker PathEnd
unless_over true budget place later = Over (Unclear (Budget budget place.crossed))
unless_over false budget place later = later

-- a walk goes on unless the guest has exited or stopped; a stop comes before the budget
abbrev pub unless_ended : Stepped → ℕ → MaskedPlace → Asker PathEnd → Asker PathEnd
unless_ended Ran budget place later = unless_over (nat_lt budget place.crossed) budget place later
unless_ended (Exited status) budget place later =
    unless_over (nat_lt budget place.crossed) budget place (Over (Exits (pattern_of place status)))
unless_ended (Stopped fault) budget place later = Over (Stops (Guest fault))

-- a walk after a turn
abbrev pub ended_or : ℕ → Reached → (MaskedPlace → Asker PathEnd) → Asker PathEnd
ended_or budget (Goes place) later = unless_ended place.state.control.mode budget place (later place)
ended_or budget (Meets why) later = Over (Unclear why)
ended_or budget (Halts outside) later = Over (Stops (RangeOutside outside))

-- a walk that has so many turns left
unfoldable pub walked_on : Rules → Task → Limits → ℕ → MaskedPlace → Asker PathEnd
walked_on rules task limits zero place = Over (Stops (Turns limits.turns))
walked_on rules task limits (suc turns) place =
    then_ask (masked_turn rules task place) (λ reached.
    ended_or limits.budget reached (λ next. walked_on rules task limits turns next))

-- at the start no bit may differ
abbrev pub masked_start : ReplayPlace → MaskedPlace
masked_start place = record {
  state = place.state;
  past = place.past;
  labels = default_map;
  crossed = 0;
  byte_masks = [];
  status_mask = 0;
}

-- MaskedReplay
abbrev pub MaskedReplay : Rules → Task → Limits → Asker PathEnd
MaskedReplay rules task limits = walked_on rules task limits limits.turns (masked_start (replay_start task))
