-- What a turn adds to the notes of all regions, where the notes of its region have been changed.
use Rattle.std.proofs.Common.{◌≡◌, ◌≢◌, ◌∙◌, ◌<◌, ◌==◌, ◌&&◌, ◌||◌, ℕ, Bool, true, false, List, length, get_or}
use Rattle.std.proofs.Common.{refl, sym, ap, subst, inl, inr, Some, get_or-set_same, get_or-set_other}
use Rattle.std.proofs.Math.ListN.{set}
use Rattle.std.proofs.lemmas.Bool.{cases_Bool, eqb-true, eqb-false, eq-eqb}
use Rattle.std.proofs.lemmas.List.{get_or_default, length-set}
use Rattle.rv32im_machine.specs.State.{State}
use Rattle.rv32im_machine.specs.Rows.{walk_of}
use Rattle.enclosure_regions.specs.declared.region_parts.Region.{Region}
use Rattle.enclosure_regions.specs.declared.break_kinds.Place.{Place}
use Rattle.enclosure_regions.specs.declared.break_kinds.Place.TheVariants.{Reg, Byte}
use Rattle.enclosure_regions.specs.Breaks.{has_changed}
use Rattle.region_machine.specs.Enclosures.{Kind, Leaves, Steps}
use Rattle.region_learn.specs.declared.notes.Notes.{Notes}
use Rattle.region_learn.specs.Private.Books.{BookAfter, NotesAfter, are_own}
use Rattle.region_learn.specs.Private.Marks.{has_bit}
use Rattle.region_learn.specs.Private.Notes.{Notes-walk, has_place, noted_of}
use Rattle.region_learn.specs.Written.{is_leave_of, is_step_in, walk_writes}
use Rattle.region_learn.proofs.BookPlaces.{one_place}

or_none : (b more : Bool) → more ≡ false → b ≡ (b || more)
or_none true more e = refl
or_none false more e = sym e

-- notes of another region
still : (kind : Kind) (state : State) (notes : Notes) → is_step_in notes.region kind ≡ false →
    is_leave_of notes.region kind ≡ false → NotesAfter kind state notes notes
still kind state notes step leave = record {
  region = refl;
  base = refl;
  places = λ place. or_none (has_place notes place) (is_step_in notes.region kind && walk_writes place (walk_of state))
      (ap (λ (b : Bool). b && walk_writes place (walk_of state)) step);
  changed = λ register below. or_none (has_bit notes.changed register)
      (is_leave_of notes.region kind && has_changed state.store.kept state.store.registers register)
      (ap (λ (b : Bool). b && has_changed state.store.kept state.store.registers register) leave);
}

-- the turn concerns the region with this number alone
pub record IsOf (number : ℕ) (kind : Kind) : Type 0 where
  pub step : (other : ℕ) → other ≢ number → is_step_in other kind ≡ false
  pub leave : (other : ℕ) → other ≢ number → is_leave_of other kind ≡ false

other_number : (region : Region) (other : ℕ) → other ≢ region.id → (region.id == other) ≡ false
other_number region other differs = elim (cases_Bool (region.id == other)) [
  | inl same ↦ absurd (differs (sym (eqb-true region.id other same)))
  | inr apart ↦ apart
]

pub leaves_of : (region : Region) → IsOf region.id (Leaves region)
leaves_of region = record { step = λ other differs. refl; leave = other_number region }

pub steps_of : (region : Region) → IsOf region.id (Steps (Some region))
steps_of region = record { step = other_number region; leave = λ other differs. refl }

pub book_after : (kind : Kind) (state : State) (book : List Notes) (place number : ℕ) (notes : Notes) →
    are_own book ≡ true → place < length book →
    ((none : Notes) → (get_or book place none).region ≡ number) → IsOf number kind →
    NotesAfter kind state (get_or book place notes) notes → BookAfter kind state book (set book place notes)
book_after kind state book place number notes own within found of here = record {
  count = length-set book place notes;
  each = λ k none below. elim (cases_Bool (k == place)) [
    | inl same ↦
        let at : k ≡ place = eqb-true k place same in
        let new : notes ≡ get_or (set book place notes) k none =
        sym (ap (λ (i : ℕ). get_or (set book place notes) i none) at ∙ get_or-set_same book place notes none within) in
        let old : get_or book place notes ≡ get_or book k none =
        get_or_default book place notes none within ∙ ap (λ (i : ℕ). get_or book i none) (sym at) in
        subst (λ (n : Notes). NotesAfter kind state (get_or book k none) n) new
        (subst (λ (n : Notes). NotesAfter kind state n notes) old here)
    | inr apart ↦
        let differs : k ≢ place = eqb-false k place apart in
        let same : get_or book k none ≡ get_or (set book place notes) k none =
        sym (get_or-set_other book place k notes none differs) in
        let other : (get_or book k none).region ≢ number =
        λ e. differs (one_place book k place none own below within (e ∙ sym (found none))) in
        subst (λ (n : Notes). NotesAfter kind state (get_or book k none) n) same
        (still kind state (get_or book k none) (of.step (get_or book k none).region other)
        (of.leave (get_or book k none).region other))
  ];
}

-- ---- the leave

place_same : (before after : Notes) (place : Place) → after.written ≡ before.written → after.bytes ≡ before.bytes →
    after.base ≡ before.base → has_place after place ≡ has_place before place
place_same before after (Reg register) written bytes base = ap (λ (w : ℕ). has_bit w register) written
place_same before after (Byte address) written bytes base = rw (bytes, base) refl

is_number : (region : Region) (notes : Notes) → notes.region ≡ region.id → (region.id == notes.region) ≡ true
is_number region notes e = eq-eqb region.id notes.region (sym e)

pub left : (region : Region) (state : State) (before after : Notes) → before.region ≡ region.id →
    after.written ≡ before.written → after.bytes ≡ before.bytes → after.region ≡ before.region →
    after.base ≡ before.base →
    ((register : ℕ) → register < 32 → has_bit after.changed register
    ≡ (has_bit before.changed register || has_changed state.store.kept state.store.registers register)) →
    NotesAfter (Leaves region) state before after
left region state before after number written bytes same base changed = record {
  region = same;
  base = base;
  places = λ place. place_same before after place written bytes base ∙ or_none (has_place before place) false refl;
  changed = λ register below. changed register below
      ∙ ap (λ (b : Bool). has_bit before.changed register || (b && has_changed state.store.kept state.store.registers register))
      (sym (is_number region before number));
}

-- ---- a step inside

pub stepped : (region : Region) (state end : State) (before after : Notes) → before.region ≡ region.id →
    Notes-walk (noted_of before) (walk_of state) end (noted_of after) →
    NotesAfter (Steps (Some region)) state before after
stepped region state end before after number h = record {
  region = h.region;
  base = h.base;
  places = λ place. h.places place
      ∙ ap (λ (b : Bool). has_place before place || (b && walk_writes place (walk_of state)))
      (sym (is_number region before number));
  changed = λ register below. ap (λ (w : ℕ). has_bit w register) h.changed
      ∙ or_none (has_bit before.changed register) false refl;
}

-- a turn of no region
pub book_still : (kind : Kind) (state : State) (book : List Notes) →
    ((number : ℕ) → is_step_in number kind ≡ false) → ((number : ℕ) → is_leave_of number kind ≡ false) →
    BookAfter kind state book book
book_still kind state book step leave = record {
  count = refl;
  each = λ place none below. still kind state (get_or book place none) (step (get_or book place none).region)
      (leave (get_or book place none).region);
}
