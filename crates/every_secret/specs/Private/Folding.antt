-- What paths come to that are judged one after another.
use Rattle.std.specs.Prelude.{◌≡◌, ℕ, ◌+◌, List, [], ◌∷◌, ◌++◌, length, Option, Some, true}
use Rattle.std.specs.List.{list_any}
use Rattle.every_secret.specs.declared.path_ends.PathEnd.{PathEnd}
use Rattle.every_secret.specs.declared.path_ends.PathEnd.TheVariants.{Exits, Stops, Unclear}
use Rattle.every_secret.specs.declared.patterns.Pattern.{Pattern}
use Rattle.every_secret.specs.Bounds.{Found, Halt, is_same_pattern, judged, nothing_found}
use Rattle.every_secret.specs.Paths.{Path}

-- so much is found in these paths, whatever paths come after them
abbrev pub FoldsTo : List Path → Found → Type 0
FoldsTo paths found = (rest : List Path) → judged nothing_found (paths ++ rest) ≡ judged found rest

-- how many of these paths stop
abbrev pub stops_at : PathEnd → ℕ
stops_at (Exits pattern) = 0
stops_at (Stops stop) = 1
stops_at (Unclear why) = 0

abbrev pub stops_in : List Path → ℕ
stops_in [] = 0
stops_in (path ∷ paths) = stops_at path.ends + stops_in paths

-- a path that ends so brings nothing new: its pattern is among these, or a path that stops is known
abbrev pub IsKnownEnd : List Pattern → Option Halt → PathEnd → Type 0
IsKnownEnd patterns first_stop (Exits pattern) = list_any (is_same_pattern pattern) patterns ≡ true
IsKnownEnd patterns first_stop (Stops stop) = (halt : Halt) × (first_stop ≡ Some halt)
IsKnownEnd patterns first_stop (Unclear why) = ⊥

abbrev pub IsKnown : Found → Path → Type 0
IsKnown found path = IsKnownEnd found.patterns found.first_stop path.ends

-- with paths that bring nothing new
abbrev pub with_known : Found → List Path → Found
with_known found more = record {
  paths = found.paths + length more;
  stopped = found.stopped + stops_in more;
  patterns = found.patterns;
  first_stop = found.first_stop;
}
