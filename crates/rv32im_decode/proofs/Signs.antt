-- Numbers in two's complement of 12, 13 and 21 bits, there and back.
use Rattle.std.proofs.Common.{◌≡◌, ℕ, ◌<◌, ◌^◌, ◌%◌, arith}
use Rattle.std.specs.Prelude.{ℤ, pos, negsuc}
use Rattle.std.proofs.lemmas.Int.{ints}
use Rattle.rv32im_decode.specs.Formats.{sign_extended, bits_of}
use Rattle.rv32im_decode.specs.Encoding.{IsWithin, IsEven}

pub extends_12 : (number : ℤ) → IsWithin (2 ^ 11) number → sign_extended (2 ^ 11) (bits_of (2 ^ 11) number) ≡ number
extends_12 (pos n) (low, high) = grind (arith, ints)
extends_12 (negsuc n) (low, high) = grind (arith, ints)

pub extends_13 : (number : ℤ) → IsWithin (2 ^ 12) number → sign_extended (2 ^ 12) (bits_of (2 ^ 12) number) ≡ number
extends_13 (pos n) (low, high) = grind (arith, ints)
extends_13 (negsuc n) (low, high) = grind (arith, ints)

pub extends_21 : (number : ℤ) → IsWithin (2 ^ 20) number → sign_extended (2 ^ 20) (bits_of (2 ^ 20) number) ≡ number
extends_21 (pos n) (low, high) = grind (arith, ints)
extends_21 (negsuc n) (low, high) = grind (arith, ints)

pub bits_12 : (bits : ℕ) → bits < 2 ^ 12 → bits_of (2 ^ 11) (sign_extended (2 ^ 11) bits) ≡ bits
bits_12 bits below = grind (arith, ints)

pub bits_13 : (bits : ℕ) → bits < 2 ^ 13 → bits_of (2 ^ 12) (sign_extended (2 ^ 12) bits) ≡ bits
bits_13 bits below = grind (arith, ints)

pub bits_21 : (bits : ℕ) → bits < 2 ^ 21 → bits_of (2 ^ 20) (sign_extended (2 ^ 20) bits) ≡ bits
bits_21 bits below = grind (arith, ints)

pub within_12 : (bits : ℕ) → bits < 2 ^ 12 → IsWithin (2 ^ 11) (sign_extended (2 ^ 11) bits)
within_12 bits below = (grind (arith, ints), grind (arith, ints))

pub within_13 : (bits : ℕ) → bits < 2 ^ 13 → IsWithin (2 ^ 12) (sign_extended (2 ^ 12) bits)
within_13 bits below = (grind (arith, ints), grind (arith, ints))

pub within_21 : (bits : ℕ) → bits < 2 ^ 21 → IsWithin (2 ^ 20) (sign_extended (2 ^ 20) bits)
within_21 bits below = (grind (arith, ints), grind (arith, ints))

pub even_13 : (bits : ℕ) → bits < 2 ^ 13 → bits % 2 ≡ 0 → IsEven (sign_extended (2 ^ 12) bits)
even_13 bits below even = grind (arith, ints)

pub even_21 : (bits : ℕ) → bits < 2 ^ 21 → bits % 2 ≡ 0 → IsEven (sign_extended (2 ^ 20) bits)
even_21 bits below even = grind (arith, ints)
