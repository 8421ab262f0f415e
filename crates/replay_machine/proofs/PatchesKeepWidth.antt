-- A patched value keeps to the width of its slot.
use Rattle.std.proofs.Common.{◌≡◌, ℕ, zero, suc, ◌+◌, ◌-◌, ◌*◌, ◌/◌, ◌%◌, ◌^◌, ◌<◌, ◌≤◌, ◌==◌, List, [], ◌∷◌, Bool}
use Rattle.std.proofs.Common.{true, false, refl, arith, if◌then◌else◌}
use Rattle.std.proofs.Math.Nat.{pow-succ'}
use Rattle.std.proofs.lemmas.Nat.{pow_pos}
use Rattle.flow_base.specs.Words.{patched_below, patched, first_bit, later_bits}
use Rattle.flow_base.specs.declared.points.Slot.{Slot}
use Rattle.flow_base.specs.declared.points.Slot.TheVariants.{First, Second, Address, Result, Decision, Number, Arg0}
use Rattle.flow_base.specs.declared.points.Slot.TheVariants.{Arg1, Arg2, SecretIn, ByteOut, Status, OutReg, OutRange}
use Rattle.flow_base.specs.Points.{width_of}

first_bit_bound : (bits : List Bool) → first_bit bits ≤ 1
first_bit_bound [] = omega arith
first_bit_bound (true ∷ bits) = omega arith
first_bit_bound (false ∷ bits) = omega arith

patched_below_zero : (places mask : ℕ) (bits : List Bool) → mask ≡ 0 → patched_below places 0 mask bits ≡ 0
unfolding patched_below
patched_below_zero zero mask bits e = refl
patched_below_zero (suc places) mask bits e = rw e (rw (patched_below_zero places 0 bits refl) refl)

double : (k : ℕ) → 2 ^ suc k ≡ 2 * 2 ^ k
double k = pow-succ' 2 k

step_bound : (b : Bool) (k f p q v : ℕ) → f ≤ 1 → p < 2 ^ k → q < 2 ^ k →
    (if b then f + 2 * p else v % 2 + 2 * q) < 2 ^ suc k
step_bound true k f p q v hf hp hq = omega (arith, double k)
step_bound false k f p q v hf hp hq = omega (arith, double k)

half_bound : (k n : ℕ) → n < 2 ^ suc k → n / 2 < 2 ^ k
half_bound k n h = omega (arith, double k)

patched_below_fits : (places k value mask : ℕ) (bits : List Bool) → value < 2 ^ k → mask < 2 ^ k →
    patched_below places value mask bits < 2 ^ k
unfolding patched_below
patched_below_fits zero k value mask bits h m = pow_pos k
patched_below_fits (suc places) zero value mask bits h m =
    let v : value ≡ 0 = omega (arith, h) in
    let w : mask ≡ 0 = omega (arith, m) in
    rw (v, w, patched_below_zero places 0 bits refl) (omega arith)
patched_below_fits (suc places) (suc k) value mask bits h m =
    step_bound (mask % 2 == 1) k (first_bit bits)
    (patched_below places (value / 2) (mask / 2) (later_bits bits))
    (patched_below places (value / 2) (mask / 2) bits) value
    (first_bit_bound bits)
    (patched_below_fits places k (value / 2) (mask / 2) (later_bits bits) (half_bound k value h) (half_bound k mask m))
    (patched_below_fits places k (value / 2) (mask / 2) bits (half_bound k value h) (half_bound k mask m))

patched_fits : (k value mask : ℕ) (bits : List Bool) → value ≤ 2 ^ k - 1 → mask ≤ 2 ^ k - 1 →
    patched value mask bits ≤ 2 ^ k - 1
patched_fits k value mask bits h m =
    let p : 0 < 2 ^ k = pow_pos k in
    let below = patched_below_fits 32 k value mask bits (omega arith) (omega arith) in
    omega (arith, below)

pub patched_width : (slot : Slot) (value mask : ℕ) (bits : List Bool) → value ≤ width_of slot → mask ≤ width_of slot →
    patched value mask bits ≤ width_of slot
patched_width First value mask bits h m = patched_fits 32 value mask bits h m
patched_width Second value mask bits h m = patched_fits 32 value mask bits h m
patched_width Address value mask bits h m = patched_fits 32 value mask bits h m
patched_width Result value mask bits h m = patched_fits 32 value mask bits h m
patched_width Decision value mask bits h m = patched_fits 1 value mask bits h m
patched_width Number value mask bits h m = patched_fits 32 value mask bits h m
patched_width Arg0 value mask bits h m = patched_fits 32 value mask bits h m
patched_width Arg1 value mask bits h m = patched_fits 32 value mask bits h m
patched_width Arg2 value mask bits h m = patched_fits 32 value mask bits h m
patched_width SecretIn value mask bits h m = patched_fits 8 value mask bits h m
patched_width ByteOut value mask bits h m = patched_fits 8 value mask bits h m
patched_width Status value mask bits h m = patched_fits 8 value mask bits h m
patched_width (OutReg register) value mask bits h m = patched_fits 32 value mask bits h m
patched_width (OutRange range) value mask bits h m = patched_fits 8 value mask bits h m
