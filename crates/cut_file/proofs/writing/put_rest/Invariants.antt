use Rattle.std.proofs.Common.{◌≡◌, ◌++◌, drop}
use Rattle.std.specs.Prelude.{map}
use Rattle.cut_file.specs.Texts.{rest_text}
use Rattle.cut_file.specs.Private.Writing.{led}
use Rattle.cut_file.proofs.writing.put_rest.Given as goal

abbrev pub invariant-loop-run : goal.invariant-loop-run
invariant-loop-run l = l.text.items ++ led (map (rest_text l.version) (drop l.run-index l.rest)) ≡ l.fn.text.items ++
    led (map (rest_text l.version) l.rest)
