-- Notes before the first turn.
use Rattle.std.proofs.Common.{◌≡◌, ◌∙◌, ◌-◌, ◌<◌, ◌==◌, ◌&&◌, ℕ, zero, suc, Bool, true, false, List, [], ◌∷◌, length, get_or}
use Rattle.std.proofs.Common.{refl, ap, arith}
use Rattle.std.specs.Prelude.{nat_le}
use Rattle.std.specs.List.{AllByRecursion}
use Rattle.std.proofs.lemmas.Nat.Bits.{bit_at-zero}
use Rattle.rv32im_machine.specs.State.{State}
use Rattle.enclosure_regions.specs.declared.region_parts.Region.{Region}
use Rattle.enclosure_regions.specs.declared.break_kinds.Place.{Place}
use Rattle.enclosure_regions.specs.declared.break_kinds.Place.TheVariants.{Reg, Byte}
use Rattle.enclosure_regions.specs.Regions.{ids_of}
use Rattle.region_learn.specs.declared.notes.Notes.{Notes}
use Rattle.region_learn.specs.Private.Books.{BookOf, IsFresh, IsNew, NotesOf, numbers_of}
use Rattle.region_learn.specs.Private.Marks.{has_bit, marks_have}
use Rattle.region_learn.specs.Private.Notes.{has_place}
use Rattle.region_learn.specs.Written.{some_turn}

and_none : (b : Bool) → (b && false) ≡ false
and_none true = refl
and_none false = refl

no_bit : (index : ℕ) → has_bit 0 index ≡ false
no_bit index = ap (λ (n : ℕ). n == 1) (bit_at-zero index)

no_place : (notes : Notes) (place : Place) → notes.written ≡ 0 →
    ((index : ℕ) → marks_have notes.bytes index ≡ false) → has_place notes place ≡ false
no_place notes (Reg register) e h = ap (λ (w : ℕ). has_bit w register) e ∙ no_bit register
no_place notes (Byte address) e h =
    ap (λ (b : Bool). nat_le notes.base address && b) (h (address - notes.base)) ∙ and_none (nat_le notes.base address)

pub fresh : (notes : Notes) → notes.written ≡ 0 → notes.changed ≡ 0 →
    ((index : ℕ) → marks_have notes.bytes index ≡ false) → IsFresh notes.region notes.base notes
fresh notes written changed h = record {
  number = refl;
  low = refl;
  places = λ place. no_place notes place written h;
  changed = λ register. ap (λ (w : ℕ). has_bit w register) changed ∙ no_bit register;
}

starts_so : (regions : List Region) (start : State) (notes : Notes) → IsNew start.setting.base notes →
    NotesOf regions 0 start notes
unfolding some_turn
starts_so regions start notes h =
    record { base = h.low; places = h.places; changed = λ register below. h.changed register }

each_at : (P : Notes → Type 0) (book : List Notes) (place : ℕ) (none : Notes) → AllByRecursion P book →
    place < length book → P (get_or book place none)
each_at P [] place none h below = absurd (omega arith)
each_at P (notes ∷ book) zero none h below = h.0
each_at P (notes ∷ book) (suc place) none h below = each_at P book place none h.1 (omega arith)

pub new_book_of : (regions : List Region) (start : State) (book : List Notes) → numbers_of book ≡ ids_of regions →
    AllByRecursion (IsNew start.setting.base) book → BookOf regions 0 start book
new_book_of regions start book numbers h = record {
  numbers = numbers;
  each = λ place none below. starts_so regions start (get_or book place none)
      (each_at (IsNew start.setting.base) book place none h below);
}
