-- Bytes that are tested as the same are the same, and what the bytes of a piece of guest memory are.
use Rattle.std.proofs.Common.{◌≡◌, ◌≢◌, inl, inr, ℕ, ◌+◌, ◌-◌, ◌*◌, ◌/◌, ◌%◌, ◌<◌, ◌≤◌, ◌==◌, Bool, true, List, length, drop, slice_index, slice_range, if◌then◌else◌, sym, ap, ◌∙◌, arith}
use Rattle.std.specs.Str.{bytes_eq}
use Rattle.std.proofs.lemmas.Bool.{cases_lt}
use Rattle.std.proofs.lemmas.Bool.Decides.{eqb_tells}
use Rattle.std.proofs.lemmas.List.{get_or-take, get_or-drop}
use Rattle.std.proofs.lemmas.Slice.Eq.{bytes_eq-Decides}
use Rattle.flow_base.specs.Guests.{memory_size}
use Rattle.rv32im_machine.specs.Start.{laid_at}
use Rattle.rv32im_machine.proofs.Laying.{laid_at_above, laid_at_below, laid_at_within}

pub bytes_same : (xs ys : List ℕ) (same : Bool) → same ≡ bytes_eq xs ys → same ≡ true → xs ≡ ys
bytes_same xs ys same is tested = (bytes_eq-Decides xs ys).0 (sym is ∙ tested)

-- ---- pieces

pub piece_byte : (memory : List ℕ) (number offset : ℕ) → offset < 256
    → slice_index (slice_range memory (number * 256) ((number + 1) * 256)) offset ≡ slice_index memory (number * 256 + offset)
piece_byte memory number offset below =
    get_or-take ((number + 1) * 256 - number * 256) (drop (number * 256) memory) offset 0 (omega arith)
    ∙ get_or-drop (number * 256) memory offset 0

within_piece : (index number : ℕ) → index / 256 ≡ number → index - number * 256 ≡ index % 256
within_piece index number same = omega arith

after_piece : (index number : ℕ) → index / 256 ≢ number → number * 256 ≤ index → number * 256 + 256 ≤ index
after_piece index number other above = elim (cases_lt index (number * 256 + 256)) [
  | inl within ↦ absurd (other (omega arith))
  | inr past ↦ past
]

pub laid_piece : (memory bytes : List ℕ) (number : ℕ) → number < 65536 → length bytes ≡ 256
    → length memory ≡ memory_size → (index : ℕ) → index < memory_size
    → slice_index (laid_at (number * 256) bytes memory) index
    ≡ (if index / 256 == number then slice_index bytes (index % 256) else slice_index memory index)
laid_piece memory bytes number inside size fits index below = elim (eqb_tells (index / 256) number) [
  | inl same ↦ rw (same.0) (laid_at_within (number * 256) bytes memory index 0 (omega arith)
      (omega (arith, same.1)) (omega (arith, same.1))
      ∙ ap (λ (n : ℕ). slice_index bytes n) (within_piece index number same.1))
  | inr other ↦ rw (other.0) (elim (cases_lt index (number * 256)) [
    | inl before ↦ laid_at_below (number * 256) bytes memory index 0 (omega arith) before
    | inr above ↦ laid_at_above (number * 256) bytes memory index 0 (omega arith)
        (omega (arith, after_piece index number other.1 above))
  ])
]
