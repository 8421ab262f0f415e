-- A string of bits that is read from its front.
use Rattle.std.specs.Prelude.{ℕ, List, Bool, drop}

-- the string, how many of its bits have been taken, and how many more bits it has room for
pub record Stream : Type 0 where
  pub bits : List Bool
  pub taken : ℕ
  pub room : ℕ

-- the bits that have not been taken
abbrev pub left_of : Stream → List Bool
left_of stream = drop stream.taken stream.bits
