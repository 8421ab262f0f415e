-- What a walk to its end does.
use Rattle.std.specs.Prelude.{ℕ, nat_lt, Bool, true, false, Option, Some, None}
use Rattle.rv32im_machine.specs.declared.stepping.Stepped.{Stepped}
use Rattle.rv32im_machine.specs.declared.stepping.Stepped.TheVariants.{Ran, Exited, Stopped}
use Rattle.rv32im_machine.specs.State.{State}
use Rattle.replay_machine.specs.declared.outsides.Outside.{Outside}
use Rattle.every_secret.specs.declared.endings.Ending.{Ending}
use Rattle.every_secret.specs.declared.endings.Ending.TheVariants as ending
use Rattle.every_secret.specs.declared.path_ends.PathEnd.{PathEnd}
use Rattle.every_secret.specs.declared.path_ends.PathEnd.TheVariants.{Exits, Stops, Unclear}
use Rattle.every_secret.specs.declared.stops.PathStop.TheVariants.{Guest, RangeOutside}
use Rattle.every_secret.specs.declared.whys.UnclearWhy.{UnclearWhy}
use Rattle.every_secret.specs.declared.whys.UnclearWhy.TheVariants.{Budget}
use Rattle.every_secret.specs.Private.Tapes.{Tape}

-- how a walk within its budget, that has not stopped, has ended, if it has
abbrev pub ending_within : Bool → ℕ → ℕ → Option Ending → Option Ending
ending_within true budget crossed later = Some (ending.Unclear (Budget budget crossed))
ending_within false budget crossed later = later

abbrev pub ending_mode : Stepped → ℕ → ℕ → Option Ending
ending_mode Ran budget crossed = ending_within (nat_lt budget crossed) budget crossed None
ending_mode (Exited status) budget crossed =
    ending_within (nat_lt budget crossed) budget crossed (Some (ending.Exited status))
ending_mode (Stopped fault) budget crossed = Some (ending.Stopped (Guest fault))

abbrev pub ending_met : Option UnclearWhy → Stepped → ℕ → ℕ → Option Ending
ending_met None mode budget crossed = ending_mode mode budget crossed
ending_met (Some why) mode budget crossed = Some (ending.Unclear why)

-- after a turn that tells of this range, if it does, and has met this, if it has
abbrev pub ending_after : Option Outside → Option UnclearWhy → Stepped → ℕ → ℕ → Option Ending
ending_after None met mode budget crossed = ending_met met mode budget crossed
ending_after (Some outside) met mode budget crossed = Some (ending.Stopped (RangeOutside outside))

-- the end of a path that ends so, where the machine and the walk have come to this
abbrev pub end_of : Ending → State → Tape → PathEnd
end_of (ending.Exited status) state tape = Exits (record {
  bytes = state.control.output;
  status = status;
  byte_masks = tape.byte_masks;
  status_mask = tape.status_mask;
})
end_of (ending.Stopped stop) state tape = Stops stop
end_of (ending.Unclear why) state tape = Unclear why
