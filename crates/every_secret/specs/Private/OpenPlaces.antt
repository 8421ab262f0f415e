-- Open places.
use Rattle.every_secret.specs.declared.open_places.OpenPlace.{OpenPlace}
use Rattle.every_secret.specs.declared.sums.Sum.{Sum}
use Rattle.every_secret.specs.Private.Sums.{added}

-- with more paths that are done below it
abbrev pub with_sum : Sum → OpenPlace → OpenPlace
with_sum sum entry = record {
  kept = entry.kept;
  depth = entry.depth;
  left = entry.left;
  crossed = entry.crossed;
  sum = added entry.sum sum;
}
