-- What a turn of a walk does.
use Rattle.std.specs.Prelude.{◌≡◌, ℕ, List, drop, Bool, Option, Some, None, IsTrue}
use Rattle.crossing_bits.specs.Askers.{Asker, feed, Fed'}
use Rattle.crossing_bits.specs.Strings.{Stream, left_of}
use Rattle.enclosure_regions.specs.declared.region_parts.Region.{Region}
use Rattle.rv32im_machine.specs.Playing.{Finished}
use Rattle.rv32im_machine.specs.State.{State}
use Rattle.region_machine.specs.Enclosures.{Enclosures, Kind}
use Rattle.region_machine.specs.Within.{may_leave}
use Rattle.replay_machine.specs.declared.outsides.Outside.{Outside}
use Rattle.replay_machine.specs.ReplayTurns.{kind_outside_range, replay_kind_walk}
use Rattle.replay_machine.specs.Runs.{Masks}
use Rattle.run_labels.specs.Runs.{entered_number}
use Rattle.tracked_run.specs.declared.held.Held.{Held}
use Rattle.tracked_run.specs.Labels.{labels_of, map_of}
use Rattle.every_secret.specs.declared.whys.UnclearWhy.TheVariants.{BaseSecret}
use Rattle.every_secret.specs.Masked.{Reached, Goes, Meets, Halts}
use Rattle.every_secret.specs.Private.Tapes.{HoldsPlace, PlaysWalk, Tape}
use Rattle.every_secret.specs.Turns.{secret_base_of}

-- between two turns nothing is met, the masks are those of the machine's memory, and the machine can leave its region
pub record IsReady (regions : List Region) (machine : State) (tape : Tape) : Type 0 where
  pub base : tape.shades.base ≡ machine.setting.base
  pub leaves : IsTrue (may_leave regions machine)
  pub clear : tape.unclear ≡ None

-- what the walk holds after a turn that tells of this range, if it does
abbrev pub HoldsTurn : Masks → Reached → Option Outside → State → Tape → Type 0
HoldsTurn masks (Goes place) outside state tape = HoldsPlace masks place state tape × (outside ≡ None)
HoldsTurn masks (Meets why) outside state tape = (tape.unclear ≡ Some why) × (outside ≡ None)
HoldsTurn masks (Halts range) outside state tape = (tape.unclear ≡ None) × (outside ≡ Some range)

-- what comes of a turn that is fed the string as it is afterwards
pub record MakesFed (masks : Masks) (asker : Asker Reached) (before : Stream) (outside : Option Outside) (state : State)
    (after : Tape) : Type 0 where
  pub reached : Reached
  pub feeds : feed asker (drop before.taken after.stream.bits) ≡ Fed' reached (left_of after.stream)
  pub held : HoldsTurn masks reached outside state after

-- what a turn of this kind does that tells of a range, if it does, where the walk begins it with these operands, as the
-- entry or the skip of the region with this number, by whether a base register may differ and a range is outside of guest
-- memory
abbrev pub MakesBy : Option ℕ → Option Outside → Enclosures → Kind → ℕ → Bool → Held → State → Tape → Option Outside →
    State → Tape → Type 0
MakesBy (Some register) range enclosures kind region skipped held machine before outside state after =
    (after ≡ record before { unclear = Some (BaseSecret (entered_number kind) register) }) × (state ≡ machine)
    × (outside ≡ None)
MakesBy None (Some range) enclosures kind region skipped held machine before outside state after =
    (after ≡ before) × (state ≡ machine) × (outside ≡ Some range)
MakesBy None None enclosures kind region skipped held machine before outside state after =
    PlaysWalk region skipped (labels_of before.shades held) before (replay_kind_walk enclosures kind machine)
    (Finished state after)
    × (outside ≡ None)

abbrev pub MakesKind : Enclosures → Kind → ℕ → Bool → Held → State → Tape → Option Outside → State → Tape → Type 0
MakesKind enclosures kind region skipped held machine before outside state after =
    MakesBy (secret_base_of kind (map_of before.shades)) (kind_outside_range kind machine) enclosures kind region skipped
    held machine before outside state after
