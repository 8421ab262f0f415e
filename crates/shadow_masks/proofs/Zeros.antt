-- Items of a list of zeros.
use Rattle.std.proofs.Common.{◌≡◌, ℕ, zero, suc, replicate, slice_index, refl}

pub zero_at : (count place : ℕ) → slice_index (replicate count 0) place ≡ 0
zero_at zero place = refl
zero_at (suc count) zero = refl
zero_at (suc count) (suc place) = zero_at count place
