use Rattle.std.proofs.Common.{◌≡◌, length}
use Rattle.flow_base.specs.TextWords.{digits_at}
use Rattle.flow_base.proofs.text_words.number_in_front.Given as goal

abbrev pub invariant-loop-rest : goal.invariant-loop-rest
invariant-loop-rest l = digits_at l.number l.rest ≡ digits_at 0 l.bytes

abbrev pub decreases-loop-rest : goal.decreases-loop-rest
decreases-loop-rest l = length l.rest
