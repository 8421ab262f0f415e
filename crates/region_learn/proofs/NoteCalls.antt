-- One call of notes that are handed the values of a turn.
use Rattle.std.proofs.Common.{◌≡◌, ◌∙◌, ◌||◌, ℕ, Bool, true, false, List, refl, sym, ap}
use Rattle.std.proofs.Math.Bool.{or_assoc}
use Rattle.rv32im_machine.specs.declared.language.Place.{Place as MachinePlace}
use Rattle.rv32im_machine.specs.declared.language.Passing.{Passing}
use Rattle.rv32im_machine.specs.declared.language.Aim.{Aim}
use Rattle.rv32im_machine.specs.declared.language.Seen.{Seen}
use Rattle.rv32im_machine.specs.declared.language.Shape.{Shape}
use Rattle.rv32im_machine.specs.declared.language.Source.{Source}
use Rattle.rv32im_machine.specs.Language.{Walk, Looked, Passed, Moved, Saved, Restored}
use Rattle.rv32im_machine.specs.Folds.{real_end}
use Rattle.rv32im_machine.specs.Playing.{Played, Finished, Halted}
use Rattle.enclosure_regions.specs.declared.break_kinds.Place.{Place}
use Rattle.region_learn.specs.declared.notes.Halt.{Halt}
use Rattle.region_learn.specs.declared.notes.Halt.TheVariants.{Call, Memory}
use Rattle.region_learn.specs.Private.Notes.{Noted, NotesPlay}
use Rattle.region_learn.specs.Written.{is_number_slot, is_written_place, puts_into, walk_calls, walk_writes}

-- what is written here is noted, and nothing else
pub record NotesMore (before after : Noted) (writes : Place → Bool) : Type 0 where
  pub places : (place : Place) → after.has place ≡ (before.has place || writes place)
  pub changed : after.changed ≡ before.changed
  pub region : after.region ≡ before.region
  pub base : after.base ≡ before.base

pub looked : (noted : Noted) (seen : Seen) (value : ℕ) (walk : Walk) (out : Played Halt Noted) →
    NotesPlay noted walk out → NotesPlay noted (Looked seen value walk) out
unfolding real_end walk_calls walk_writes
looked noted seen value walk (Finished state after) h = record {
  end = h.end;
  quiet = h.quiet;
  places = h.places;
  changed = h.changed;
  region = h.region;
  base = h.base;
}
looked noted seen value walk (Halted Call) h = h
looked noted seen value walk (Halted Memory) h = h

pub kept : (noted : Noted) (walk : Walk) (out : Played Halt Noted) →
    NotesPlay noted walk out → NotesPlay noted (Saved walk) out
unfolding real_end walk_calls walk_writes
kept noted walk (Finished state after) h = record {
  end = h.end;
  quiet = h.quiet;
  places = h.places;
  changed = h.changed;
  region = h.region;
  base = h.base;
}
kept noted walk (Halted Call) h = h
kept noted walk (Halted Memory) h = h

pub stayed : (noted : Noted) (registers : List ℕ) (walk back : Walk) (out : Played Halt Noted) →
    NotesPlay noted walk out → NotesPlay noted (Restored registers walk back) out
unfolding real_end walk_calls walk_writes
stayed noted registers walk back (Finished state after) h = record {
  end = h.end;
  quiet = h.quiet;
  places = h.places;
  changed = h.changed;
  region = h.region;
  base = h.base;
}
stayed noted registers walk back (Halted Call) h = h
stayed noted registers walk back (Halted Memory) h = h

more : (before middle after here later : Bool) → middle ≡ (before || here) → after ≡ (middle || later) →
    after ≡ (before || (here || later))
more before middle after here later e h =
    h ∙ (ap (λ (b : Bool). b || later) e ∙ or_assoc before here later)

pub moved : (before middle : Noted) (other : MachinePlace) (shape : Shape) (source : Source) (value : ℕ) (walk : Walk)
    (out : Played Halt Noted) → NotesMore before middle (λ place. is_written_place place other) →
    NotesPlay middle walk out → NotesPlay before (Moved other shape source value walk) out
unfolding real_end walk_calls walk_writes
moved before middle other shape source value walk (Finished state after) e h = record {
  end = h.end;
  quiet = h.quiet;
  places = λ place. more (before.has place) (middle.has place) (after.has place) (is_written_place place other)
      (walk_writes place walk) (e.places place) (h.places place);
  changed = h.changed ∙ e.changed;
  region = h.region ∙ e.region;
  base = h.base ∙ e.base;
}
moved before middle other shape source value walk (Halted Call) e h = h
moved before middle other shape source value walk (Halted Memory) e h = h

pub passed : (before middle : Noted) (passing : Passing) (go : ℕ → Walk) (out : Played Halt Noted) →
    is_number_slot passing.point.slot ≡ false → NotesMore before middle (λ place. puts_into place passing.aim) →
    NotesPlay middle (go passing.value) out → NotesPlay before (Passed passing go) out
unfolding real_end walk_calls walk_writes
passed before middle passing go (Finished state after) quiet e h = record {
  end = h.end;
  quiet = ap (λ (b : Bool). b || walk_calls (go passing.value)) quiet ∙ h.quiet;
  places = λ place. more (before.has place) (middle.has place) (after.has place) (puts_into place passing.aim)
      (walk_writes place (go passing.value)) (e.places place) (h.places place);
  changed = h.changed ∙ e.changed;
  region = h.region ∙ e.region;
  base = h.base ∙ e.base;
}
passed before middle passing go (Halted Call) quiet e h =
    ap (λ (b : Bool). b || walk_calls (go passing.value)) quiet ∙ h
passed before middle passing go (Halted Memory) quiet e h = h

pub called : (passing : Passing) (go : ℕ → Walk) → is_number_slot passing.point.slot ≡ true →
    walk_calls (Passed passing go) ≡ true
unfolding walk_calls
called passing go is = ap (λ (b : Bool). b || walk_calls (go passing.value)) is

or_none : (b : Bool) → b ≡ (b || false)
or_none true = refl
or_none false = refl

-- a value that is put into no place is none to be noted
pub unwritten : (noted : Noted) (aim : Aim) → ((place : Place) → puts_into place aim ≡ false) →
    NotesMore noted noted (λ place. puts_into place aim)
unwritten noted aim none = record {
  places = λ place. or_none (noted.has place) ∙ ap (λ (b : Bool). noted.has place || b) (sym (none place));
  changed = refl;
  region = refl;
  base = refl;
}
