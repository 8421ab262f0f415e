use Rattle.std.proofs.Common.{◌≡◌, [], length}
use Rattle.cut_file.specs.Private.Reading.{pattern_in}
use Rattle.cut_file.proofs.line_forms.pattern.Given as goal

abbrev pub decreases-loop-word : goal.decreases-loop-word
decreases-loop-word l = length l.words

abbrev pub invariant-loop-word : goal.invariant-loop-word
invariant-loop-word l = pattern_in l.rest l.words ≡ pattern_in [] l.fn.words
