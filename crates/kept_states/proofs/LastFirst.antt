-- Pieces that are laid one after another, the last first.
use Rattle.std.proofs.Common.{◌≡◌, ℕ, zero, suc, ◌+◌, ◌-◌, ◌*◌, ◌/◌, ◌%◌, ◌<◌, ◌≤◌, ◌==◌, ◌&&◌, inl, inr, true, false, Bool, List, [], ◌∷◌}
use Rattle.std.proofs.Common.{length, drop, drop-cons, get_or, slice_index, refl, ◌∙◌, sym, ap, arith, if◌then◌else◌, nat_le, nat_lt, Option}
use Rattle.std.proofs.Math.ListN.{drop_of_length-le}
use Rattle.std.proofs.lemmas.Bool.{cases_lt}
use Rattle.std.specs.Prelude.{slice_set}
use Rattle.std.proofs.lemmas.List.{get_or-set_other}
use Rattle.std.proofs.lemmas.Grind.{get_or-set_at}
use Rattle.std.proofs.lemmas.Bool.Decides.{nat_tests}
use Rattle.flow_base.specs.Guests.{memory_size}
use Rattle.rv32im_machine.specs.State.{State}
use Rattle.rv32im_machine.specs.Standing.{with_memory}
use Rattle.shadow_masks.specs.declared.labels.Label.{Label}
use Rattle.shadow_masks.specs.Labels.{clean}
use Rattle.shadow_masks.specs.Pieces.{SetsMasks}
use Rattle.shadow_masks.specs.Shades.{Shades, byte_label, register_label, label_at, SetsRegister}
use Rattle.shadow_masks.specs.Pages.{PageShades}
use Rattle.kept_states.specs.declared.laids.Laid.{Laid}
use Rattle.kept_states.specs.Pieces.{IsPiece}
use Rattle.kept_states.specs.Laids.{LieWithin, laid_byte}
use Rattle.kept_states.specs.Keeping.{AreLaid, AreLaidMasks, laid_mask}

pub within_at : (pieces : List ℕ) (laids : List Laid) (i : ℕ) (d : Laid) → i < length laids → LieWithin pieces laids →
    (get_or laids i d).piece * 256 + 256 ≤ length pieces
within_at pieces [] i d inside within = absurd (omega (arith, inside))
within_at pieces (laid ∷ laids) zero d inside within = within.0
within_at pieces (laid ∷ laids) (suc i) d inside within =
    within_at pieces laids i d (omega (arith, inside)) within.1

pub laid_none : (pieces : List ℕ) (laids : List Laid) (n index : ℕ) → length laids ≤ n →
    laid_byte pieces (drop n laids) index ≡ 0
laid_none pieces laids n index past =
    ap (λ (l : List Laid). laid_byte pieces l index) (drop_of_length-le laids past)

-- one more is laid
laid_step : (pieces : List ℕ) (laids : List Laid) (i next : ℕ) (d : Laid) (bytes : List ℕ) (index after before : ℕ) →
    i < length laids → next ≡ i + 1 → IsPiece pieces (get_or laids i d).piece bytes →
    after ≡ (if index / 256 == (get_or laids i d).number then slice_index bytes (index % 256) else before) →
    before ≡ laid_byte pieces (drop next laids) index → after ≡ laid_byte pieces (drop i laids) index
laid_step pieces laids i next d bytes index after before inside follows is now was =
    let laid : Laid = get_or laids i d in
    let moved : next ≡ suc i = omega (arith, follows) in
    now
    ∙ ap (λ (n : ℕ). if index / 256 == laid.number then slice_index bytes (index % 256) else n)
    (was ∙ ap (λ (n : ℕ). laid_byte pieces (drop n laids) index) moved)
    ∙ ap (λ (n : ℕ). if index / 256 == laid.number then n else laid_byte pieces (drop (suc i) laids) index)
    (sym (is.same (index % 256) (omega arith)))
    ∙ ap (λ (l : List Laid). laid_byte pieces l index) (sym (drop-cons laids i d inside))

pub memory_step : (pieces : List ℕ) (laids : List Laid) (i next : ℕ) (d : Laid) (bytes memory after : List ℕ) →
    i < length laids → next ≡ i + 1 → IsPiece pieces (get_or laids i d).piece bytes → length after ≡ memory_size →
    ((index : ℕ) → index < memory_size → slice_index after index
    ≡ (if index / 256 == (get_or laids i d).number then slice_index bytes (index % 256) else slice_index memory index)) →
    AreLaid pieces (drop next laids) memory → AreLaid pieces (drop i laids) after
memory_step pieces laids i next d bytes memory after inside follows is size now was = record {
  size = size;
  same = λ index below.
      laid_step pieces laids i next d bytes index (slice_index after index) (slice_index memory index) inside follows is
      (now index below) (was.same index below);
}

mask_step : (here : Bool) (pieces : List ℕ) (laids : List Laid) (i next : ℕ) (d : Laid) (bytes : List ℕ)
    (index after before : ℕ) →
    i < length laids → next ≡ i + 1 → IsPiece pieces (get_or laids i d).piece bytes →
    after ≡ (if here && (index / 256 == (get_or laids i d).number) then slice_index bytes (index % 256) else before) →
    before ≡ (if here then laid_byte pieces (drop next laids) index else 0) →
    after ≡ (if here then laid_byte pieces (drop i laids) index else 0)
mask_step true pieces laids i next d bytes index after before inside follows is now was =
    laid_step pieces laids i next d bytes index after before inside follows is now was
mask_step false pieces laids i next d bytes index after before inside follows is now was = now ∙ was

pub masks_step : (pieces : List ℕ) (laids : List Laid) (i next : ℕ) (d : Laid) (bytes : List ℕ) (old new : Shades) →
    i < length laids → next ≡ i + 1 → IsPiece pieces (get_or laids i d).piece bytes → new.base ≡ old.base →
    SetsMasks (get_or laids i d).number bytes old new → AreLaidMasks pieces (drop next laids) old →
    AreLaidMasks pieces (drop i laids) new
masks_step pieces laids i next d bytes old new inside follows is begins sets was = λ address.
    mask_step (nat_le old.base address) pieces laids i next d bytes (address - old.base) (byte_label new address).mask
    (byte_label old address).mask inside follows is (sets address) (was address)
    ∙ ap (λ (base : ℕ). laid_mask pieces (drop i laids) base address) (sym begins)

-- at first none is laid
pub memory_none : (pieces : List ℕ) (laids : List Laid) (n : ℕ) (memory : List ℕ) → length laids ≤ n →
    length memory ≡ memory_size → ((index : ℕ) → slice_index memory index ≡ 0) → AreLaid pieces (drop n laids) memory
memory_none pieces laids n memory past size empty = record {
  size = size;
  same = λ index below. empty index ∙ sym (laid_none pieces laids n index past);
}

both_zero : (here : Bool) (n : ℕ) → n ≡ 0 → (if here then n else 0) ≡ 0
both_zero true n none = none
both_zero false n none = refl

pub masks_none : (pieces : List ℕ) (laids : List Laid) (n : ℕ) (shades : Shades) → length laids ≤ n →
    ((address : ℕ) → byte_label shades address ≡ clean) → AreLaidMasks pieces (drop n laids) shades
masks_none pieces laids n shades past none = λ address.
    ap (λ (label : Label). label.mask) (none address)
    ∙ sym (both_zero (nat_le shades.base address) _ (laid_none pieces laids n (address - shades.base) past))

-- labels of bytes that stay
pub masks_stay : (pieces : List ℕ) (laids : List Laid) (old new : Shades) → new.pages ≡ old.pages → new.base ≡ old.base →
    AreLaidMasks pieces laids old → AreLaidMasks pieces laids new
masks_stay pieces laids old new pages begins was = λ address.
    ap (λ (b : ℕ). (label_at b new.pages address).mask) begins
    ∙ ap (λ (l : List (Option PageShades)). (label_at old.base l address).mask) pages
    ∙ was address ∙ ap (λ (b : ℕ). laid_mask pieces laids b address) (sym begins)

-- ---- registers

pub register_put : (register : ℕ) (label : Label) (masks : List ℕ) (old new : Shades) → 1 ≤ register →
    SetsRegister register label old new → label.mask ≡ slice_index masks register →
    ((r : ℕ) → r < register → (register_label old r).mask ≡ slice_index masks r) →
    (r : ℕ) → r < register + 1 → (register_label new r).mask ≡ slice_index masks r
register_put register label masks old new some sets is was r below = elim (cases_lt r register) [
  | inl low ↦
      let other : (nat_lt 0 r && (r == register)) ≡ false = grind (arith, nat_tests) in
      ap (λ (l : Label). l.mask) (sets.registers r)
      ∙ ap (λ (b : Bool). (if b then label else register_label old r).mask) other ∙ was r low
  | inr high ↦
      let at : r ≡ register = omega (arith, below, high) in
      let here : (nat_lt 0 r && (r == register)) ≡ true = grind (arith, nat_tests) in
      ap (λ (l : Label). l.mask) (sets.registers r)
      ∙ ap (λ (b : Bool). (if b then label else register_label old r).mask) here ∙ is
      ∙ ap (λ (n : ℕ). slice_index masks n) (sym at)
]

-- ---- masks that are read

pub masks_read : (masks : List ℕ) (register : ℕ) (label : Label) (of : ℕ → Label) → register < length masks →
    label ≡ of register → ((r : ℕ) → r < register → (of r).mask ≡ slice_index masks r) →
    (r : ℕ) → r < register + 1 → (of r).mask ≡ slice_index (slice_set masks register label.mask) r
masks_read masks register label of inside is was r below = elim (cases_lt r register) [
  | inl low ↦ was r low ∙ sym (get_or-set_other masks register r label.mask 0 (omega (arith, low)))
  | inr high ↦
      let at : r ≡ register = omega (arith, below, high) in
      ap (λ (n : ℕ). (of n).mask) at ∙ ap (λ (l : Label). l.mask) (sym is)
      ∙ sym (get_or-set_at masks register r label.mask 0 at inside)
]

pub zero_read : (masks : List ℕ) (register mask : ℕ) → register < length masks → (register ≡ 0 → mask ≡ 0) →
    slice_index masks 0 ≡ 0 → slice_index (slice_set masks register mask) 0 ≡ 0
zero_read masks zero mask inside none was = get_or-set_at masks 0 0 mask 0 refl inside ∙ none refl
zero_read masks (suc register) mask inside none was = get_or-set_other masks (suc register) 0 mask 0 (omega arith) ∙ was

-- ---- states of which only memory is another

pub same_with : (first second third : State) (memory : List ℕ) → third ≡ with_memory memory second →
    second ≡ with_memory second.store.memory first → third ≡ with_memory third.store.memory first
same_with first second third memory now was =
    now ∙ ap (λ (s : State). with_memory memory s) was
    ∙ ap (λ (m : List ℕ). with_memory m first) (sym (ap (λ (s : State). s.store.memory) now))
