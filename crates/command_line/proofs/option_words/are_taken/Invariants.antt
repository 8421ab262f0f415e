use Rattle.std.proofs.Common.{◌≡◌, map, drop}
use Rattle.command_line.specs.Parts.{are_taken}
use Rattle.command_line.specs.Words.{named_in}
use Rattle.command_line.proofs.option_words.are_taken.Given as goal

abbrev pub invariant-loop-option : goal.invariant-loop-option
invariant-loop-option l =
    are_taken (map (λ name. name.now) l.options) (map (λ name. name.now) l.flags) (map named_in (drop l.option-index l.named))
    ≡ are_taken (map (λ name. name.now) l.options) (map (λ name. name.now) l.flags) (map named_in l.named)
