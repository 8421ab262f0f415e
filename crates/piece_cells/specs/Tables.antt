-- A word for each value of an unknown byte.
use Rattle.std.specs.Prelude.{ℕ, List}
use Rattle.piece_cells.specs.declared.unknowns.Unknown.{Unknown}

-- the unknown byte, and the word at each of its values, in order
pub record WordTable : Type 0 where
  pub unknown : Unknown
  pub values : List ℕ
