-- Guest memory stays 0 in each page that is not touched.
use Rattle.std.proofs.Common.{◌≡◌, ◌⊎◌, inl, inr, ℕ, ◌+◌, ◌-◌, ◌*◌, ◌/◌, ◌<◌, ◌≤◌, Bool, true, false, List, length, replicate, slice_index, slice_index_or, slice_set, sym, ap, ◌∙◌, arith}
use Rattle.std.proofs.lemmas.Bool.{cases_eq, cases_lt, true≢false}
use Rattle.std.proofs.lemmas.List.{ext_get_or, get_or-replicate, get_or-set_same, get_or-set_other, length-replicate}
use Rattle.flow_base.specs.Guests.{memory_size}
use Rattle.rv32im_machine.specs.GuestMemory.{AreZeroBelow, AreZeroUntouched}
use Rattle.rv32im_machine.specs.Start.{laid_at, zeros}
use Rattle.rv32im_machine.proofs.Laying.{laid_at_above, laid_at_below, laid_at_within, zeros_byte, zeros_length}

-- where all is 0, no page needs to be touched
pub zeros_untouched : (touched : List Bool) (count : ℕ) → AreZeroUntouched touched (zeros count)
zeros_untouched touched count = λ index untouched. zeros_byte count index

-- ---- a byte

pub set_untouched : (touched : List Bool) (bytes : List ℕ) (at value : ℕ) → at / 4096 < length touched
    → AreZeroUntouched touched bytes
    → AreZeroUntouched (slice_set touched (at / 4096) true) (slice_set bytes at value)
set_untouched touched bytes at value inside zero = λ index untouched.
    elim (cases_eq (index / 4096) (at / 4096)) [
      | inl same ↦ absurd (true≢false (sym (get_or-set_same touched (at / 4096) true false inside)
          ∙ ap (λ page. slice_index_or (slice_set touched (at / 4096) true) page false) (sym same) ∙ untouched))
      | inr other ↦ get_or-set_other bytes at index value 0 (λ same. other (ap (λ n. n / 4096) same))
          ∙ zero index (sym (get_or-set_other touched (at / 4096) (index / 4096) true false other) ∙ untouched)
    ]

-- ---- bytes

-- a page that pages laid as touched leave untouched is none of them, and was untouched
outside_laid : (touched : List Bool) (from count page : ℕ) → from + count ≤ length touched
    → slice_index_or (laid_at from (replicate count true) touched) page false ≡ false
    → ((page < from) ⊎ (from + count ≤ page)) × (slice_index_or touched page false ≡ false)
outside_laid touched from count page fits untouched =
    let size : length (replicate {A = Bool} count true) ≡ count = length-replicate {A = Bool} count true in
    elim (cases_lt page from) [
      | inl below ↦ (
        inl below,
        sym (laid_at_below from (replicate count true) touched page false (omega arith) below)
            ∙ untouched,
      )
      | inr above ↦ elim (cases_lt page (from + count)) [
        | inl within ↦ absurd (true≢false (sym (laid_at_within from (replicate count true) touched page false
            (omega arith) (omega arith) (omega arith) ∙ get_or-replicate count (page - from) true false (omega arith))
            ∙ untouched))
        | inr past ↦ (
          inr (omega arith),
          sym (laid_at_above from (replicate count true) touched page false
              (omega arith) (omega arith)) ∙ untouched,
        )
      ]
    ]

pub laid_untouched : (touched : List Bool) (bytes new : List ℕ) (at from count : ℕ) → from * 4096 ≤ at
    → at + length new ≤ (from + count) * 4096 → from + count ≤ length touched → at + length new ≤ length bytes
    → AreZeroUntouched touched bytes
    → AreZeroUntouched (laid_at from (replicate count true) touched) (laid_at at new bytes)
laid_untouched touched bytes new at from count low high pages fits zero = λ index untouched.
    let outside = outside_laid touched from count (index / 4096) pages untouched in
    elim (outside.0) [
      | inl below ↦ laid_at_below at new bytes index 0 fits (omega arith) ∙ zero index outside.1
      | inr above ↦ laid_at_above at new bytes index 0 fits (omega arith) ∙ zero index outside.1
    ]

-- ---- a page

-- zeros leave a 0 as it is
zeroed_stays : (bytes : List ℕ) (from count index : ℕ) → from + count ≤ length bytes
    → slice_index bytes index ≡ 0 → slice_index (laid_at from (zeros count) bytes) index ≡ 0
zeroed_stays bytes from count index fits zero =
    let size : length (zeros count) ≡ count = zeros_length count in
    elim (cases_lt index from) [
      | inl below ↦ laid_at_below from (zeros count) bytes index 0 (omega arith) below ∙ zero
      | inr above ↦ elim (cases_lt index (from + count)) [
        | inl within ↦ laid_at_within from (zeros count) bytes index 0 (omega arith) (omega arith) (omega arith)
            ∙ zeros_byte count (index - from)
        | inr past ↦ laid_at_above from (zeros count) bytes index 0 (omega arith) (omega arith) ∙ zero
      ]
    ]

pub zeroed_untouched : (touched : List Bool) (bytes : List ℕ) (from count : ℕ) → from + count ≤ length bytes
    → AreZeroUntouched touched bytes → AreZeroUntouched touched (laid_at from (zeros count) bytes)
zeroed_untouched touched bytes from count fits zero = λ index untouched.
    zeroed_stays bytes from count index fits (zero index untouched)

pub zeroed_below : (bytes : List ℕ) (page : ℕ) → (page + 1) * 4096 ≤ length bytes → AreZeroBelow (page * 4096) bytes
    → AreZeroBelow ((page + 1) * 4096) (laid_at (page * 4096) (zeros 4096) bytes)
zeroed_below bytes page fits zero = λ index below.
    let size : length (zeros 4096) ≡ 4096 = zeros_length 4096 in
    elim (cases_lt index (page * 4096)) [
      | inl before ↦ zeroed_stays bytes (page * 4096) 4096 index (omega arith) (zero index before)
      | inr above ↦ laid_at_within (page * 4096) (zeros 4096) bytes index 0 (omega arith) (omega arith) (omega arith)
          ∙ zeros_byte 4096 (index - page * 4096)
    ]

-- a page that is not touched is 0
pub passed_below : (touched : List Bool) (bytes : List ℕ) (page : ℕ) → slice_index_or touched page false ≡ false
    → AreZeroUntouched touched bytes → AreZeroBelow (page * 4096) bytes → AreZeroBelow ((page + 1) * 4096) bytes
passed_below touched bytes page untouched zero before = λ index below.
    elim (cases_lt index (page * 4096)) [
      | inl under ↦ before index under
      | inr above ↦
          let same : index / 4096 ≡ page = omega arith in
          zero index (ap (λ n. slice_index_or touched n false) same ∙ untouched)
    ]

-- bytes that are all 0 are zeros
pub all_zeros : (bytes : List ℕ) → length bytes ≡ memory_size → AreZeroBelow memory_size bytes
    → bytes ≡ zeros memory_size
all_zeros bytes size zero =
    ext_get_or 0 bytes (zeros memory_size) (size ∙ sym (zeros_length memory_size))
    (λ index below. zero index (omega arith) ∙ sym (zeros_byte memory_size index))
