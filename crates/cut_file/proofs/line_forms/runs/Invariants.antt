use Rattle.std.proofs.Common.{◌≡◌, [], length}
use Rattle.cut_file.specs.Private.Reading.{runs_in}
use Rattle.cut_file.proofs.line_forms.runs.Given as goal

abbrev pub decreases-loop-word : goal.decreases-loop-word
decreases-loop-word l = length l.words

abbrev pub invariant-loop-word : goal.invariant-loop-word
invariant-loop-word l = runs_in l.runs l.words ≡ runs_in [] l.fn.words
