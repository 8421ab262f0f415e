-- What a search over the program headers has found so far, and what has been loaded so far.
use Rattle.std.specs.Prelude.{◌≡◌, ℕ, ◌<◌, ◌≤◌, IsTrue, Bool, true, List, [], ◌∷◌, length, take, slice_get, insert, All, Contains, Option, None, Some, IfSome}
use Rattle.elf32_loader.specs.declared.segments.Segment.{Segment}
use Rattle.elf32_loader.specs.FirstFault.{IsLeast}
use Rattle.elf32_loader.specs.Headers.{IsLoad, header_at}
use Rattle.elf32_loader.specs.Programs.{IsLoaded}
use Rattle.elf32_loader.specs.Segments.{is_ascending}

-- of the headers below a bound, a load has the lowest address
abbrev pub IsLowestBelow : List ℕ → ℕ → ℕ → Type 0
IsLowestBelow file bound index =
    (index < bound) × IsLoad file index
    × ((other : ℕ) → other < bound → IsLoad file other
    → (header_at file index).address ≤ (header_at file other).address)

-- the first of those, or none where no header below the bound is a load
abbrev pub FoundLowest : List ℕ → ℕ → Option ℕ → Type 0
FoundLowest file bound None = (index : ℕ) → index < bound → ¬ IsLoad file index
FoundLowest file bound (Some found) = IsLeast (IsLowestBelow file bound) found

-- the place of an address among those of segments: none before it is above, and the one there is
pub record IsPlace (address : ℕ) (segments : List Segment) (place : ℕ) : Type 0 where
  pub within : place ≤ length segments
  pub before : All (λ segment. segment.address ≤ address) (take place segments)
  pub after : IfSome (slice_get segments place) (λ segment. address < segment.address)

-- segments after one was put at its place among them
abbrev pub IsPutIn : Segment → List Segment → List Segment → Type 0
IsPutIn segment old new = (place : ℕ) × IsPlace segment.address old place × (new ≡ insert old place segment)

-- no segments, or ascending ones
abbrev pub is_climbing : List Segment → Bool
is_climbing [] = true
is_climbing (segment ∷ segments) = is_ascending (segment ∷ segments)

-- the segments are the loads below a bound in ascending order
pub record AreLoads (file : List ℕ) (bound : ℕ) (segments : List Segment) : Type 0 where
  pub climbs : IsTrue (is_climbing segments)
  pub each : All (λ segment. (index : ℕ) × (index < bound) × IsLoad file index
      × IsLoaded file (header_at file index) segment) segments
  pub stand : (index : ℕ) → index < bound → IsLoad file index
      → (segment : Segment) × Contains segments segment × IsLoaded file (header_at file index) segment
