use Rattle.std.proofs.Common.{◌≡◌, length}
use Rattle.enclosure_regions.specs.Words.{digits_after}
use Rattle.enclosure_regions.proofs.words.all_digits.Given as goal

abbrev pub decreases-loop-rest : goal.decreases-loop-rest
decreases-loop-rest l = length l.rest

abbrev pub invariant-loop-rest : goal.invariant-loop-rest
invariant-loop-rest l = digits_after l.word l.rest ≡ digits_after 0 l.text
