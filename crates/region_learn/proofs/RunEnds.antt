-- What is known of a run after a number of turns, and after all its turns, once it has ended.
use Rattle.std.proofs.Common.{◌≡◌, ◌∙◌, ◌<◌, ◌≤◌, ◌||◌, ◌&&◌, ℕ, zero, suc, Bool, true, false, List, [], ◌∷◌, Option, Some, None, length, get_or}
use Rattle.std.proofs.Common.{refl, sym, ap, arith, inl, inr}
use Rattle.std.proofs.lemmas.Bool.{cases_lt, eq-eqb}
use Rattle.rv32im_machine.specs.State.{State}
use Rattle.rv32im_machine.specs.Folds.{real_end, real_Ended}
use Rattle.enclosure_regions.specs.declared.region_parts.Region.{Region}
use Rattle.region_machine.specs.Enclosures.{Kind, Steps, kind_of}
use Rattle.region_machine.specs.Guests.{guest_walk}
use Rattle.region_machine.proofs.Stillness.{IsOver, still_guest, still_kind}
use Rattle.region_learn.specs.declared.faults.LearnFault.{LearnFault}
use Rattle.region_learn.specs.declared.notes.Notes.{Notes}
use Rattle.region_learn.specs.Private.Books.{BookAfter, BookOf, NotesAfter, NotesOf, have_base, numbers_of}
use Rattle.region_learn.specs.LearnAnswers.{call_in, first_call}
use Rattle.region_learn.specs.Written.{is_leave_of, is_step_in, leaves_changed, some_turn, state_after, walk_writes}
use Rattle.region_learn.specs.Written.{writes_in}
use Rattle.rv32im_machine.specs.Rows.{walk_of}
use Rattle.enclosure_regions.specs.Breaks.{has_changed}
use Rattle.std.specs.Option.{option_or}

-- ---- a run that has ended stands still

or_none : (b : Bool) → (b || false) ≡ b
or_none true = refl
or_none false = refl

abbrev pub IsOverAfter : List Region → ℕ → State → Type 0
IsOverAfter regions turns start = IsOver (state_after regions turns start).control.mode

pub still_state : (regions : List Region) (start : State) (first turns : ℕ) → first ≤ turns →
    IsOverAfter regions first start → state_after regions turns start ≡ state_after regions first start
unfolding state_after
still_state regions start first zero le over =
    let e : zero ≡ first = omega arith in ap (λ (n : ℕ). state_after regions n start) e
still_state regions start first (suc turns) le over = elim (cases_lt first (suc turns)) [
  | inl below ↦
      ap (λ (s : State). real_end (guest_walk regions s)) (still_state regions start first turns (omega arith) over)
      ∙ (ap real_end (still_guest regions (state_after regions first start) over)
      ∙ real_Ended (state_after regions first start))
  | inr last ↦
      let e : suc turns ≡ first = omega arith in ap (λ (n : ℕ). state_after regions n start) e
]

pub still_some : (test : State → Bool) (regions : List Region) (start : State) (first turns : ℕ) → first ≤ turns →
    IsOverAfter regions first start → test (state_after regions first start) ≡ false →
    some_turn test regions turns start ≡ some_turn test regions first start
unfolding some_turn
still_some test regions start first zero le over fails =
    let e : zero ≡ first = omega arith in ap (λ (n : ℕ). some_turn test regions n start) e
still_some test regions start first (suc turns) le over fails = elim (cases_lt first (suc turns)) [
  | inl below ↦
      let later : test (state_after regions turns start) ≡ false =
      ap test (still_state regions start first turns (omega arith) over) ∙ fails in
      ap (λ (b : Bool). some_turn test regions turns start || b) later
      ∙ (or_none (some_turn test regions turns start)
      ∙ still_some test regions start first turns (omega arith) over fails)
  | inr last ↦
      let e : suc turns ≡ first = omega arith in ap (λ (n : ℕ). some_turn test regions n start) e
]

fault_none : (fault : Option LearnFault) → option_or fault None ≡ fault
fault_none None = refl
fault_none (Some fault) = refl

no_call : (regions : List Region) (state : State) → IsOver state.control.mode →
    call_in (kind_of regions state.control) state ≡ None
no_call regions state over = ap (λ (k : Kind). call_in k state) (still_kind regions state.control over)

pub still_first : (regions : List Region) (start : State) (first turns : ℕ) → first ≤ turns →
    IsOverAfter regions first start → first_call regions turns start ≡ first_call regions first start
unfolding first_call
still_first regions start first zero le over =
    let e : zero ≡ first = omega arith in ap (λ (n : ℕ). first_call regions n start) e
still_first regions start first (suc turns) le over = elim (cases_lt first (suc turns)) [
  | inl below ↦
      let state = state_after regions turns start in
      let later : call_in (kind_of regions state.control) state ≡ None =
      ap (λ (s : State). call_in (kind_of regions s.control) s) (still_state regions start first turns (omega arith) over)
      ∙ no_call regions (state_after regions first start) over in
      ap (λ (f : Option LearnFault). option_or (first_call regions turns start) f) later
      ∙ (fault_none (first_call regions turns start) ∙ still_first regions start first turns (omega arith) over)
  | inr last ↦
      let e : suc turns ≡ first = omega arith in ap (λ (n : ℕ). first_call regions n start) e
]

-- the first call stays the first
pub call_stays : (regions : List Region) (start : State) (fault : LearnFault) (first turns : ℕ) → first ≤ turns →
    first_call regions first start ≡ Some fault → first_call regions turns start ≡ Some fault
unfolding first_call
call_stays regions start fault first zero le is =
    let e : zero ≡ first = omega arith in ap (λ (n : ℕ). first_call regions n start) e ∙ is
call_stays regions start fault first (suc turns) le is = elim (cases_lt first (suc turns)) [
  | inl below ↦
      let state = state_after regions turns start in
      ap (λ (f : Option LearnFault). option_or f (call_in (kind_of regions state.control) state))
      (call_stays regions start fault first turns (omega arith) is)
  | inr last ↦
      let e : suc turns ≡ first = omega arith in ap (λ (n : ℕ). first_call regions n start) e ∙ is
]

-- one turn more
pub first_more : (regions : List Region) (start state : State) (turns : ℕ) (fault : Option LearnFault) →
    state ≡ state_after regions turns start → first_call regions turns start ≡ None →
    call_in (kind_of regions state.control) state ≡ fault → first_call regions (suc turns) start ≡ fault
unfolding first_call
first_more regions start state turns fault is none call =
    ap (λ (f : Option LearnFault). option_or f
    (call_in (kind_of regions (state_after regions turns start).control) (state_after regions turns start))) none
    ∙ (ap (λ (s : State). call_in (kind_of regions s.control) s) (sym is) ∙ call)

pub state_more : (regions : List Region) (start state next : State) (turns : ℕ) →
    state ≡ state_after regions turns start → next ≡ real_end (guest_walk regions state) →
    next ≡ state_after regions (suc turns) start
unfolding state_after
state_more regions start state next turns is e = e ∙ ap (λ (s : State). real_end (guest_walk regions s)) is

-- ---- notes

notes_more : (regions : List Region) (start state : State) (turns : ℕ) (before after : Notes) →
    state ≡ state_after regions turns start → NotesOf regions turns start before →
    NotesAfter (kind_of regions state.control) state before after → NotesOf regions (suc turns) start after
unfolding some_turn
notes_more regions start state turns before after is of more = record {
  base = more.base ∙ of.base;
  places = λ place. more.places place
      ∙ (ap (λ (b : Bool). b || writes_in regions before.region place state) (of.places place)
      ∙ (ap (λ (s : State). some_turn (writes_in regions before.region place) regions turns start
      || writes_in regions before.region place s) is
      ∙ ap (λ (n : ℕ). some_turn (writes_in regions n place) regions turns start
      || writes_in regions n place (state_after regions turns start)) (sym more.region)));
  changed = λ register below. more.changed register below
      ∙ (ap (λ (b : Bool). b || leaves_changed regions before.region register state) (of.changed register below)
      ∙ (ap (λ (s : State). some_turn (leaves_changed regions before.region register) regions turns start
      || leaves_changed regions before.region register s) is
      ∙ ap (λ (n : ℕ). some_turn (leaves_changed regions n register) regions turns start
      || leaves_changed regions n register (state_after regions turns start)) (sym more.region)));
}

numbers_same : (before after : List Notes) → length after ≡ length before →
    ((place : ℕ) (none : Notes) → place < length before →
    (get_or after place none).region ≡ (get_or before place none).region) → numbers_of after ≡ numbers_of before
numbers_same [] [] e h = refl
numbers_same [] (notes ∷ after) e h = absurd (omega (arith, e))
numbers_same (notes ∷ before) [] e h = absurd (omega (arith, e))
numbers_same (notes ∷ before) (other ∷ after) e h =
    ap (λ (n : ℕ). n ∷ numbers_of after) (h 0 notes (omega arith))
    ∙ ap (λ (l : List ℕ). notes.region ∷ l)
    (numbers_same before after (omega (arith, e)) (λ place none below. h (suc place) none (omega arith)))

pub book_more : (regions : List Region) (start state : State) (turns : ℕ) (before after : List Notes) →
    state ≡ state_after regions turns start → BookOf regions turns start before →
    BookAfter (kind_of regions state.control) state before after → BookOf regions (suc turns) start after
book_more regions start state turns before after is of more = record {
  numbers = numbers_same before after more.count (λ place none below. (more.each place none below).region) ∙ of.numbers;
  each = λ place none below.
      let within : place < length before = omega (arith, more.count, below) in
      notes_more regions start state turns (get_or before place none) (get_or after place none) is
      (of.each place none within) (more.each place none within);
}

still_notes : (regions : List Region) (start : State) (first turns : ℕ) (notes : Notes) → first ≤ turns →
    IsOverAfter regions first start → NotesOf regions first start notes → NotesOf regions turns start notes
still_notes regions start first turns notes le over of =
    let last = state_after regions first start in
    let kind : kind_of regions last.control ≡ Steps None = still_kind regions last.control over in
    record {
      base = of.base;
      places = λ place. of.places place
          ∙ sym (still_some (writes_in regions notes.region place) regions start first turns le over
          (ap (λ (k : Kind). is_step_in notes.region k && walk_writes place (walk_of last)) kind));
      changed = λ register below. of.changed register below
          ∙ sym (still_some (leaves_changed regions notes.region register) regions start first turns le over
          (ap (λ (k : Kind). is_leave_of notes.region k
          && has_changed last.store.kept last.store.registers register) kind));
    }

pub still_book : (regions : List Region) (start : State) (first turns : ℕ) (book : List Notes) → first ≤ turns →
    IsOverAfter regions first start → BookOf regions first start book → BookOf regions turns start book
still_book regions start first turns book le over of = record {
  numbers = of.numbers;
  each = λ place none below.
      still_notes regions start first turns (get_or book place none) le over (of.each place none below);
}

pub book_base : (book : List Notes) (base : ℕ) →
    ((place : ℕ) (none : Notes) → place < length book → (get_or book place none).base ≡ base) →
    have_base book base ≡ true
book_base [] base h = refl
book_base (notes ∷ book) base h =
    rw (eq-eqb notes.base base (h 0 notes (omega arith)))
    (book_base book base (λ place none below. h (suc place) none (omega arith)))
