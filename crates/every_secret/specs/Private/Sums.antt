-- What is known of the paths below a place that are done.
use Rattle.std.specs.Prelude.{◌+◌, ◌-◌, ◌&&◌, min, max, ℕ, Bool, true, false, Option, Some, None}
use Rattle.every_secret.specs.declared.endings.Ending.{Ending}
use Rattle.every_secret.specs.declared.endings.Ending.TheVariants as ending
use Rattle.every_secret.specs.declared.searching.Came.{Came}
use Rattle.every_secret.specs.declared.searching.Came.TheVariants.{Ended, Met}
use Rattle.every_secret.specs.declared.stops.PathStop.{PathStop}
use Rattle.every_secret.specs.declared.stops.PathStop.TheVariants.{Guest, RangeOutside, Turns}
use Rattle.every_secret.specs.declared.sums.Sum.{Sum}
use Rattle.every_secret.specs.Bounds.{counted}

abbrev pub no_paths : Sum
no_paths = record { paths = Some 0; stopped = Some 0; after = 4294967295; crossed = 0; repeats = true }

-- the sum of two numbers, each None where it is 2 ^ 64 or more
abbrev pub sum_counted : Option ℕ → Option ℕ → Option ℕ
sum_counted None second = None
sum_counted (Some first) None = None
sum_counted (Some first) (Some second) = counted (first + second)

abbrev pub added : Sum → Sum → Sum
added first second = record {
  paths = sum_counted first.paths second.paths;
  stopped = sum_counted first.stopped second.stopped;
  after = min first.after second.after;
  crossed = max first.crossed second.crossed;
  repeats = first.repeats && second.repeats;
}

-- whether an end is the same from the same state
abbrev pub stop_repeats : PathStop → Bool
stop_repeats (Guest fault) = true
stop_repeats (RangeOutside outside) = true
stop_repeats (Turns limit) = false

-- what one path adds that ends so, with so many turns left, where so many bits have crossed
abbrev pub sum_of_end : Ending → ℕ → ℕ → Sum
sum_of_end (ending.Exited status) after crossed =
    record { paths = Some 1; stopped = Some 0; after = after; crossed = crossed; repeats = true }
sum_of_end (ending.Stopped stop) after crossed =
    record { paths = Some 1; stopped = Some 1; after = after; crossed = crossed; repeats = stop_repeats stop }
sum_of_end (ending.Unclear why) after crossed =
    record { paths = Some 1; stopped = Some 0; after = after; crossed = crossed; repeats = false }

-- and what a state adds that is met
abbrev pub sum_of_came : Came → ℕ → Sum
sum_of_came (Ended ends after) crossed = sum_of_end ends after crossed
sum_of_came (Met closed left) crossed = record {
  paths = closed.paths;
  stopped = closed.stopped;
  after = left - closed.turns;
  crossed = crossed + closed.bits;
  repeats = true;
}
