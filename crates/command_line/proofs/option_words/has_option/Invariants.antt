use Rattle.std.proofs.Common.{◌≡◌, map, drop}
use Rattle.command_line.specs.Parts.{has_option}
use Rattle.command_line.specs.Words.{named_in}
use Rattle.command_line.proofs.option_words.has_option.Given as goal

abbrev pub invariant-loop-option : goal.invariant-loop-option
invariant-loop-option l =
    has_option l.name (map named_in (drop l.option-index l.options)) ≡ has_option l.name (map named_in l.options)
