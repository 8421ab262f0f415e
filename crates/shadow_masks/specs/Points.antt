-- The points of the bytes of a page.
use Rattle.std.specs.Prelude.{◌≡◌, ℕ, ◌<◌, ◌==◌, List, if◌then◌else◌, slice_index, slice_index_or}
use Rattle.flow_base.specs.declared.points.Point.{Point}
use Rattle.flow_base.specs.Points.{nowhere}

-- a page has 4,096 addresses
abbrev pub page_size : ℕ
page_size = 4096

-- a table of points, and for each byte of a page the number of its point in the table
pub record Numbered : Type 0 where
  pub numbers : List ℕ
  pub table : List Point

-- the point of a number
abbrev pub table_point : Numbered → ℕ → Point
table_point points number = slice_index_or points.table number nowhere

-- the point of a byte
abbrev pub numbered_point : Numbered → ℕ → Point
numbered_point points place = table_point points (slice_index points.numbers place)

-- the point of a byte, where each byte has its own
abbrev pub listed_point : List Point → ℕ → Point
listed_point points place = slice_index_or points place nowhere

-- each byte of a page has the same point
abbrev pub SamePoints : (ℕ → Point) → (ℕ → Point) → Type 0
SamePoints old new = (place : ℕ) → place < page_size → new place ≡ old place

-- one byte of a page has the point, and each other the one that it had
abbrev pub SetsPoint : ℕ → Point → (ℕ → Point) → (ℕ → Point) → Type 0
SetsPoint place point old new =
    (other : ℕ) → other < page_size → new other ≡ (if other == place then point else old other)
