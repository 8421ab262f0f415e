use Rattle.std.proofs.Common.{◌≡◌, map, drop}
use Rattle.command_line.specs.Parts.{is_name_of}
use Rattle.command_line.proofs.option_words.is_among.Given as goal

abbrev pub invariant-loop-name : goal.invariant-loop-name
invariant-loop-name l =
    is_name_of (map (λ name. name.now) (drop l.name-index l.names)) l.word ≡ is_name_of (map (λ name. name.now) l.names) l.word
