-- Where a run stands, as it is told. Numbers are decimal; an address is 0x and eight digits in lower case.
use Rattle.std.specs.Prelude.{ℕ, List, ◌++◌, codes, Bool, true, false}
use Rattle.std.specs.Fmt.{decimal}
use Rattle.flow_base.specs.HexWords.{hex_word}
use Rattle.replay_machine.specs.declared.marks.Mark.{Mark}

abbrev pub ended_text : Bool → List ℕ
ended_text true = codes "exited"
ended_text false = codes "running"

-- where a run stands
abbrev pub mark_text : Mark → List ℕ
mark_text mark =
    hex_word mark.address ++ (codes " bits " ++ (decimal mark.bits ++ (codes " output " ++ (decimal mark.output
    ++ (codes " " ++ ended_text mark.exited)))))
