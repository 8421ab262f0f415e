-- Pieces that grow.
use Rattle.std.proofs.Common.{◌≡◌, ℕ, ◌+◌, ◌*◌, ◌/◌, ◌%◌, List, ◌++◌, length, slice_index, ◌∙◌, ap, arith}
use Rattle.std.proofs.Common.{length-append}
use Rattle.std.proofs.lemmas.List.{get_or_append_left, get_or-append-add}
use Rattle.kept_states.specs.Pieces.{Grows, IsPiece}

pub grows_same : (old new : List ℕ) → new ≡ old → Grows old new
grows_same old new same = record {
  longer = omega (arith, ap length same);
  same = λ index below. ap (λ (l : List ℕ). slice_index l index) same;
}

pub grows_trans : (first second third : List ℕ) → Grows first second → Grows second third → Grows first third
grows_trans first second third one other = record {
  longer = omega (arith, one.longer, other.longer);
  same = λ index below. other.same index (omega (arith, one.longer, below)) ∙ one.same index below;
}

pub grows_append : (old bytes new : List ℕ) → new ≡ old ++ bytes → Grows old new
grows_append old bytes new is = record {
  longer = omega (arith, ap length is, length-append old bytes);
  same = λ index below. ap (λ (l : List ℕ). slice_index l index) is ∙ get_or_append_left old bytes 0 index below;
}

-- the piece at the end
pub last_piece : (old bytes new : List ℕ) (piece : ℕ) → new ≡ old ++ bytes → length bytes ≡ 256 →
    length old % 256 ≡ 0 → piece ≡ length old / 256 → IsPiece new piece bytes
last_piece old bytes new piece is long whole at =
    let from : piece * 256 ≡ length old = omega (arith, whole, at) in
    record {
      within = omega (arith, from, long, ap length is, length-append old bytes);
      same = λ offset below.
          ap (λ (l : List ℕ). slice_index l (piece * 256 + offset)) is
          ∙ ap (λ (n : ℕ). slice_index (old ++ bytes) (n + offset)) from
          ∙ get_or-append-add old bytes offset 0;
    }

pub piece_grows : (old new : List ℕ) (piece : ℕ) (bytes : List ℕ) → Grows old new → IsPiece old piece bytes →
    IsPiece new piece bytes
piece_grows old new piece bytes grows is = record {
  within = omega (arith, grows.longer, is.within);
  same = λ offset below.
      grows.same (piece * 256 + offset) (omega (arith, is.within, below)) ∙ is.same offset below;
}
