-- What is noted of a region while its instructions run.
use Rattle.std.specs.Prelude.{◌≡◌, ℕ, ◌-◌, ◌&&◌, ◌||◌, nat_le, Bool, true, false, refl}
use Rattle.std.proofs.Common.{sym}
use Rattle.rv32im_machine.specs.State.{State}
use Rattle.rv32im_machine.specs.Language.{Walk, Ended}
use Rattle.rv32im_machine.specs.Folds.{real_end, real_Ended}
use Rattle.rv32im_machine.specs.Playing.{Played, Finished, Halted}
use Rattle.enclosure_regions.specs.declared.break_kinds.Place.{Place}
use Rattle.enclosure_regions.specs.declared.break_kinds.Place.TheVariants.{Reg, Byte}
use Rattle.region_learn.specs.declared.notes.Notes.{Notes}
use Rattle.region_learn.specs.declared.notes.Halt.{Halt}
use Rattle.region_learn.specs.declared.notes.Halt.TheVariants.{Call, Memory}
use Rattle.region_learn.specs.Private.Marks.{has_bit, marks_have}
use Rattle.region_learn.specs.Written.{walk_calls, walk_writes}

-- a place that was written inside the region
abbrev pub has_place : Notes → Place → Bool
has_place notes (Reg register) = has_bit notes.written register
has_place notes (Byte address) = nat_le notes.base address && marks_have notes.bytes (address - notes.base)

-- what is known of notes: the places that were written, the registers that have changed at a leave, the number of the
-- region and the lowest address of guest memory
pub record Noted : Type 0 where
  pub has : Place → Bool
  pub changed : ℕ
  pub region : ℕ
  pub base : ℕ

abbrev pub noted_of : Notes → Noted
noted_of notes =
    record { has = has_place notes; changed = notes.changed; region = notes.region; base = notes.base }

-- a turn without a call has ended as the real one, and what it writes is noted
pub record Notes-walk (before : Noted) (walk : Walk) (state : State) (after : Noted) : Type 0 where
  pub end : state ≡ real_end walk
  pub quiet : walk_calls walk ≡ false
  pub places : (place : Place) → after.has place ≡ (before.has place || walk_writes place walk)
  pub changed : after.changed ≡ before.changed
  pub region : after.region ≡ before.region
  pub base : after.base ≡ before.base

abbrev pub Halts : Halt → Walk → Type 0
Halts Call walk = walk_calls walk ≡ true
Halts Memory walk = Unit {0}

abbrev pub NotesPlay : Noted → Walk → Played Halt Noted → Type 0
NotesPlay before walk (Finished state after) = Notes-walk before walk state after
NotesPlay before walk (Halted halt) = Halts halt walk

or_none : (b : Bool) → b ≡ (b || false)
or_none true = refl
or_none false = refl

pub notes_Ended : (noted : Noted) (state : State) → NotesPlay noted (Ended state) (Finished state noted)
unfolding walk_calls walk_writes
notes_Ended noted state = record {
  end = sym (real_Ended state);
  quiet = refl;
  places = λ place. or_none (noted.has place);
  changed = refl;
  region = refl;
  base = refl;
}
