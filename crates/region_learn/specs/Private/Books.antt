-- The notes of all regions of a run, turn by turn.
use Rattle.std.specs.Prelude.{◌≡◌, ℕ, ◌<◌, ◌==◌, ◌&&◌, ◌||◌, Bool, List, length, map, slice_index_or, true, false, Some, None}
use Rattle.std.specs.List.{list_all, list_any}
use Rattle.rv32im_machine.specs.State.{State}
use Rattle.rv32im_machine.specs.Rows.{walk_of}
use Rattle.enclosure_regions.specs.declared.region_parts.Region.{Region}
use Rattle.enclosure_regions.specs.declared.break_kinds.Place.{Place}
use Rattle.enclosure_regions.specs.Breaks.{has_changed}
use Rattle.enclosure_regions.specs.Regions.{are_distinct, ids_of}
use Rattle.region_machine.specs.Enclosures.{Kind, Enters, Leaves, Steps}
use Rattle.region_learn.specs.declared.notes.Notes.{Notes}
use Rattle.region_learn.specs.Private.Marks.{has_bit}
use Rattle.region_learn.specs.Private.Notes.{has_place}
use Rattle.region_learn.specs.Written.{is_leave_of, is_step_in, some_turn, leaves_changed, walk_writes, writes_in}

abbrev pub numbers_of : List Notes → List ℕ
numbers_of book = map (λ notes. notes.region) book

-- there are notes of the region with a number
abbrev pub has_notes : List Notes → ℕ → Bool
has_notes book number = list_any (λ notes. notes.region == number) book

-- each region has notes of its own
abbrev pub are_own : List Notes → Bool
are_own book = are_distinct (numbers_of book)

-- what a turn of this kind adds to notes of a region
pub record NotesAfter (kind : Kind) (state : State) (before after : Notes) : Type 0 where
  pub region : after.region ≡ before.region
  pub base : after.base ≡ before.base
  pub places : (place : Place) →
      has_place after place
      ≡ (has_place before place || (is_step_in before.region kind && walk_writes place (walk_of state)))
  pub changed : (register : ℕ) → register < 32 →
      has_bit after.changed register
      ≡ (has_bit before.changed register
      || (is_leave_of before.region kind && has_changed state.store.kept state.store.registers register))

-- the same for the notes of all regions
pub record BookAfter (kind : Kind) (state : State) (before after : List Notes) : Type 0 where
  pub count : length after ≡ length before
  pub each : (place : ℕ) (none : Notes) → place < length before →
      NotesAfter kind state (slice_index_or before place none) (slice_index_or after place none)

-- notes of a region say what the first so many turns of a run have written and changed
pub record NotesOf (regions : List Region) (turns : ℕ) (start : State) (notes : Notes) : Type 0 where
  pub base : notes.base ≡ start.setting.base
  pub places : (place : Place) →
      has_place notes place ≡ some_turn (writes_in regions notes.region place) regions turns start
  pub changed : (register : ℕ) → register < 32 →
      has_bit notes.changed register ≡ some_turn (leaves_changed regions notes.region register) regions turns start

-- the same for the notes of all regions
pub record BookOf (regions : List Region) (turns : ℕ) (start : State) (book : List Notes) : Type 0 where
  pub numbers : numbers_of book ≡ ids_of regions
  pub each : (place : ℕ) (none : Notes) → place < length book →
      NotesOf regions turns start (slice_index_or book place none)

-- all notes are of the guest memory with this lowest address
abbrev pub have_base : List Notes → ℕ → Bool
have_base book base = list_all (λ notes. notes.base == base) book

-- the region of a turn of this kind, if there is one, passes a test
abbrev pub kind_passes : (Region → Bool) → Kind → Bool
kind_passes test (Enters region) = test region
kind_passes test (Leaves region) = test region
kind_passes test (Steps None) = true
kind_passes test (Steps (Some region)) = test region

-- the region of the turn, if there is one, has notes
abbrev pub has_kind_notes : List Notes → Kind → Bool
has_kind_notes book kind = kind_passes (λ region. has_notes book region.id) kind

-- no region has a range
abbrev pub are_bare : List Region → Bool
are_bare regions = list_all (λ region. length region.ranges == 0) regions

-- notes of a region with nothing noted
pub record IsFresh (region base : ℕ) (notes : Notes) : Type 0 where
  pub number : notes.region ≡ region
  pub low : notes.base ≡ base
  pub places : (place : Place) → has_place notes place ≡ false
  pub changed : (register : ℕ) → has_bit notes.changed register ≡ false

-- notes of whatever region with nothing noted
abbrev pub IsNew : ℕ → Notes → Type 0
IsNew base notes = IsFresh notes.region base notes
