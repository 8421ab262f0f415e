use Rattle.std.proofs.Common.{◌≡◌, map, drop}
use Rattle.command_line.specs.Parts.{option_value}
use Rattle.command_line.specs.Words.{named_in}
use Rattle.command_line.proofs.option_words.value_of.Given as goal

abbrev pub invariant-loop-option : goal.invariant-loop-option
invariant-loop-option l =
    option_value l.name (map named_in (drop l.option-index l.options)) ≡ option_value l.name (map named_in l.options)
