-- The letters of a side.
use Rattle.std.specs.Prelude.{ℕ, Bool, true, false, List, ◌++◌, map, codes}
use Rattle.std.specs.Fmt.{decimal}
use Rattle.max_flow.specs.declared.answers.Solved.{Solved}
use Rattle.max_flow.specs.declared.answers.Half.{Half}
use Rattle.max_flow.specs.declared.answers.Half.TheVariants.{Both, FirstOnly, SecondOnly, Neither}

-- `s` inside, `m` the first half alone, `o` the second alone, `t` outside
abbrev pub half_letter : Half → ℕ
half_letter Both = 115
half_letter FirstOnly = 109
half_letter SecondOnly = 111
half_letter Neither = 116

abbrev pub relay_letter : Bool → ℕ
relay_letter true = 115
relay_letter false = 116

-- the value in decimal digits, a blank, and the letters of the points and the relays
abbrev pub row_text : Solved → List ℕ
row_text solved =
    decimal solved.value ++ codes " " ++ map half_letter solved.side.points ++ map relay_letter solved.side.relays
