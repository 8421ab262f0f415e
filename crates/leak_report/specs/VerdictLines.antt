-- The line of a secret. Numbers are decimal.
use Rattle.std.specs.Prelude.{ℕ, Bool, List, ◌++◌, length, codes}
use Rattle.std.specs.Fmt.{decimal}
use Rattle.flow_base.specs.declared.outputs.Output.{Output}
use Rattle.crossing_bits.specs.HexText.{hex_of}
use Rattle.lockstep_replay.specs.VerdictTexts.{why_text}
use Rattle.lockstep_replay.specs.Verdicts.{Judgement, Accepts, Rejects}

-- the line of the secret with this number that is taken, with its crossing bits and its output, after a word for that
abbrev pub taken_line : List ℕ → ℕ → List Bool → Output → List ℕ
taken_line word number bits output =
    word ++ (codes " " ++ (decimal number ++ (codes " bits " ++ (decimal (length bits)
    ++ (codes " crossing " ++ (hex_of bits ++ (codes " output " ++ (decimal (length output.bytes)
    ++ (codes " status " ++ (decimal output.status ++ codes "\n"))))))))))

-- the line of the secret with this number
abbrev pub verdict_line : ℕ → Judgement → List ℕ
verdict_line number (Accepts bits output) = taken_line (codes "accepted") number bits output
verdict_line number (Rejects why) = codes "rejected " ++ (decimal number ++ (codes " " ++ (why_text why ++ codes "\n")))
