-- Ranges of written bytes, which grow as bytes come in ascending order.
use Rattle.std.specs.Prelude.{ℕ, ◌+◌, ◌-◌, ◌≤◌, ◌==◌, ◌&&◌, nat_le, nat_lt, Bool, List, [], ◌∷◌, None, if◌then◌else◌}
use Rattle.std.specs.List.{AllByRecursion}
use Rattle.enclosure_regions.specs.declared.region_parts.Range.{Range}
use Rattle.region_learn.specs.Learnt.{AreSpread}
use Rattle.region_learn.specs.Private.Marks.{marks_have, page_has}

abbrev pub one_byte : ℕ → Range
one_byte address = record { base = None; offset = address; length = 1 }

abbrev pub one_longer : Range → Range
one_longer range = record range { length = range.length + 1 }

-- a last range and a byte after it
abbrev pub behind : Range → ℕ → List Range
behind last address =
    if (last.offset + last.length) == address then one_longer last ∷ [] else last ∷ one_byte address ∷ []

-- ranges and a byte after them
abbrev pub extended : List Range → ℕ → List Range
extended [] address = one_byte address ∷ []
extended (last ∷ []) address = behind last address
extended (range ∷ next ∷ ranges) address = range ∷ extended (next ∷ ranges) address

-- no range goes beyond a limit
abbrev pub End : ℕ → List Range → Type 0
End limit ranges = AllByRecursion (λ range. range.offset + range.length ≤ limit) ranges

-- ranges of greatest length below a limit
pub record SpansBelow (limit : ℕ) (ranges : List Range) : Type 0 where
  pub spread : AreSpread 0 ranges
  pub end : End limit ranges

-- one of the first so many bytes of a page that begins at an address
abbrev pub in_page : List ℕ → ℕ → ℕ → ℕ → Bool
in_page page first count address =
    nat_le first address && (nat_lt (address - first) count && page_has page (address - first))

-- one of the first so many bytes of guest memory
abbrev pub in_memory : List (List ℕ) → ℕ → ℕ → ℕ → Bool
in_memory marks base count address =
    nat_le base address && (nat_lt (address - base) count && marks_have marks (address - base))
