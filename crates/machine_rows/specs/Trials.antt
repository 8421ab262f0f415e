-- What a trial sees of a guest after its step, and how that prints.
use Rattle.std.specs.Prelude.{◌≡◌, ℕ, List, ◌++◌, codes, false}
use Rattle.std.specs.Fmt.{digits}
use Rattle.rv32im_machine.specs.State.{State, register_of}
use Rattle.machine_rows.specs.declared.steps.cases.Seen.{Seen}

-- the program counter, x5, x6 and x7 are those of the guest
abbrev pub IsSeenOf : State → Seen → Type 0
IsSeenOf state seen =
    (seen.pc ≡ state.control.pc) × (seen.x5 ≡ register_of state.store 5)
    × (seen.x6 ≡ register_of state.store 6) × (seen.x7 ≡ register_of state.store 7)

-- a number in hexadecimal digits
abbrev pub hex : ℕ → List ℕ
hex = digits 16 false

abbrev pub seen_text : Seen → List ℕ
seen_text seen =
    hex seen.pc ++ (codes " " ++ (hex seen.x5 ++ (codes " " ++ (hex seen.x6 ++ (codes " " ++ (hex seen.x7
    ++ (codes " " ++ hex seen.bytes)))))))
