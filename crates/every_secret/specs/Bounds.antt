-- What is answered of all paths: the first that is unclear, or all that they show; and what a verdict tells of it.
use Rattle.std.specs.Prelude.{◌≡◌, ℕ, ◌+◌, ◌^◌, ◌<◌, ◌≤◌, ◌==◌, ◌&&◌, nat_lt, Bool, true, false, List, [], ◌∷◌, ◌++◌, length}
use Rattle.std.specs.Prelude.{Option, Some, None, if◌then◌else◌, option_map}
use Rattle.std.specs.List.{list_any}
use Rattle.std.specs.Str.{bytes_eq}
use Rattle.flow_base.specs.Words.{bit_count}
use Rattle.lockstep_replay.specs.Tasks.{Task, Limits}
use Rattle.every_secret.specs.declared.stops.PathStop.{PathStop}
use Rattle.every_secret.specs.declared.verdicts.Bounded.{Bounded}
use Rattle.every_secret.specs.declared.verdicts.BoundVerdict.{BoundVerdict}
use Rattle.every_secret.specs.declared.verdicts.BoundVerdict.TheVariants as verdict
use Rattle.every_secret.specs.declared.verdicts.StoppedPath.{StoppedPath}
use Rattle.every_secret.specs.declared.whys.UnclearWhy.{UnclearWhy}
use Rattle.every_secret.specs.declared.whys.UnclearWhy.TheVariants.{Outputs}
use Rattle.every_secret.specs.Paths.{Opens, Path, Paths, Tree, paths_of, tree_of}
use Rattle.every_secret.specs.declared.path_ends.PathEnd.{PathEnd}
use Rattle.every_secret.specs.declared.path_ends.PathEnd.TheVariants.{Exits, Stops, Unclear}
use Rattle.every_secret.specs.declared.patterns.Pattern.{Pattern}
use Rattle.every_secret.specs.Replays.{MaskedReplay}
use Rattle.every_secret.specs.Rules.{Rules}

-- ---- patterns

abbrev pub is_same_pattern : Pattern → Pattern → Bool
is_same_pattern first second =
    (bytes_eq first.bytes second.bytes && bytes_eq first.byte_masks second.byte_masks)
    && ((first.status == second.status) && (first.status_mask == second.status_mask))

-- the patterns with a new one, if it is none of them
abbrev pub with_pattern : Pattern → List Pattern → List Pattern
with_pattern pattern patterns =
    if list_any (is_same_pattern pattern) patterns then patterns else patterns ++ pattern ∷ []

-- the bytes of all patterns, and one more for each
abbrev pub size_of : List Pattern → ℕ
size_of [] = 0
size_of (pattern ∷ patterns) = length pattern.bytes + 1 + size_of patterns

-- patterns with more bytes are not kept
abbrev pub pattern_limit : ℕ
pattern_limit = 67108864

-- Pattern: how many bits are free
abbrev pub free_count : List ℕ → ℕ
free_count [] = 0
free_count (mask ∷ masks) = bit_count mask + free_count masks

abbrev pub free_bits : Pattern → ℕ
free_bits pattern = free_count pattern.byte_masks + bit_count pattern.status_mask

-- and so for how many outputs each stands, and all together
abbrev pub output_count : List Pattern → ℕ
output_count [] = 0
output_count (pattern ∷ patterns) = 2 ^ free_bits pattern + output_count patterns

-- ---- what is found

-- a path that stops
pub record Halt : Type 0 where
  pub bits : List Bool
  pub stop : PathStop

-- how many paths there are and how many of them stop, the different patterns in the order in which they are first found,
-- and the first path that stops
pub record Found : Type 0 where
  pub paths : ℕ
  pub stopped : ℕ
  pub patterns : List Pattern
  pub first_stop : Option Halt

abbrev pub nothing_found : Found
nothing_found = record { paths = 0; stopped = 0; patterns = []; first_stop = None }

abbrev pub first_stop_of : Option Halt → List Bool → PathStop → Option Halt
first_stop_of None bits stop = Some (record { bits = bits; stop = stop })
first_stop_of (Some first) bits stop = Some first

-- with one more path, which exits or stops
abbrev pub found_exit : Pattern → Found → Found
found_exit pattern found = record {
  paths = found.paths + 1;
  stopped = found.stopped;
  patterns = with_pattern pattern found.patterns;
  first_stop = found.first_stop;
}

abbrev pub found_stop : List Bool → PathStop → Found → Found
found_stop bits stop found = record {
  paths = found.paths + 1;
  stopped = found.stopped + 1;
  patterns = found.patterns;
  first_stop = first_stop_of found.first_stop bits stop;
}

-- ---- the answer

pub data TreeAnswer : Type 0 where
  IsBounded : Found → TreeAnswer
  IsUnclear : List Bool → UnclearWhy → TreeAnswer

abbrev pub unless_large : Bool → List Bool → TreeAnswer → TreeAnswer
unless_large true bits later = IsUnclear bits (Outputs pattern_limit)
unless_large false bits later = later

-- of a path that ends so, where so much is found before, and of the paths that are left
abbrev pub after_end : PathEnd → Path → Found → (Found → TreeAnswer) → TreeAnswer
after_end (Unclear why) path found later = IsUnclear path.bits why
after_end (Stops stop) path found later = later (found_stop path.bits stop found)
after_end (Exits pattern) path found later =
    unless_large (nat_lt pattern_limit (size_of (with_pattern pattern found.patterns))) path.bits
    (later (found_exit pattern found))

-- of these paths, where so much is found before
unfoldable pub judged : Found → List Path → TreeAnswer
judged found [] = IsBounded found
judged found (path ∷ paths) = after_end path.ends path found (λ next. judged next paths)

-- BoundOf: the answer for a task
abbrev pub BoundOf : Rules → Task → Limits → TreeAnswer
BoundOf rules task limits = judged nothing_found (Paths (MaskedReplay rules task limits))

-- ---- the numbers

-- the least number of bits with as many strings as there are outputs
pub record IsLeastPower (outputs bits : ℕ) : Type 0 where
  pub enough : outputs ≤ 2 ^ bits
  pub least : (fewer : ℕ) → outputs ≤ 2 ^ fewer → bits ≤ fewer

-- ---- what a verdict shows

-- a number, where it is below 2 ^ 64
abbrev pub counted : ℕ → Option ℕ
counted number = if nat_lt number (2 ^ 64) then Some number else None

-- what is found, as it is told
pub record Summary : Type 0 where
  pub paths : Option ℕ
  pub stopped : Option ℕ
  pub patterns : List Pattern
  pub first_stop : Option Halt

abbrev pub summary_of : Found → Summary
summary_of found = record {
  paths = counted found.paths;
  stopped = counted found.stopped;
  patterns = found.patterns;
  first_stop = found.first_stop;
}

abbrev pub halt_of : StoppedPath → Halt
halt_of stopped = record { bits = stopped.bits.bits; stop = stopped.stop }

-- what a verdict tells of what is found
abbrev pub summary_in : Bounded → Summary
summary_in bounded = record {
  paths = bounded.paths;
  stopped = bounded.stopped;
  patterns = bounded.patterns;
  first_stop = option_map (λ stopped. halt_of stopped) bounded.first_stop;
}

-- a verdict shows the answer
abbrev pub Shows : BoundVerdict → TreeAnswer → Type 0
Shows (verdict.Bounded bounded) (IsBounded found) = summary_in bounded ≡ summary_of found
Shows (verdict.Bounded bounded) (IsUnclear bits why) = ⊥
Shows (verdict.Unclear path why) (IsBounded found) = ⊥
Shows (verdict.Unclear path why) (IsUnclear bits other) = (path.bits ≡ bits) × (why ≡ other)
Shows (verdict.TooMany path limit) answer = ⊥

-- a tree has more paths than the walks that may be made, the last of which was that of this string: a path begins so
pub record HasMorePaths (tree : Tree) (walks : ℕ) (bits : List Bool) : Type 0 where
  pub more : walks < length (paths_of tree)
  pub begins : Opens tree bits

-- a verdict that was found by at most so many walks: it shows the answer, or there are more paths than that
abbrev pub IsVerdict : Rules → Task → Limits → ℕ → BoundVerdict → Type 0
IsVerdict rules task limits walks (verdict.Bounded bounded) =
    Shows (verdict.Bounded bounded) (BoundOf rules task limits)
IsVerdict rules task limits walks (verdict.Unclear path why) =
    Shows (verdict.Unclear path why) (BoundOf rules task limits)
IsVerdict rules task limits walks (verdict.TooMany path limit) =
    (limit ≡ walks) × HasMorePaths (tree_of (MaskedReplay rules task limits)) walks path.bits
