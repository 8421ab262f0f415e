-- What a turn leaves of two passers that are handed each value of it, one after the other.
use Rattle.std.specs.Prelude.{◌≡◌, ℕ, Option, Some, None, Result, Ok, Err}
use Rattle.rv32im_machine.specs.Playing.{Played, Finished, Halted}
use Rattle.region_machine.specs.declared.pair_stops.PairStop.{PairStop}
use Rattle.region_machine.specs.declared.pair_stops.PairStop.TheVariants.{First, Second}

-- what each of the two leaves
pub record Tapes (One Other : Type 0) : Type 0 where
  pub first : One
  pub second : Other

-- the turn ends as either may end it, in the same state; or one of them has halted it, as that one may
abbrev pub Pairs : {Stop Halt Tape Roll : Type 0} → (Played Stop Tape → Type 0) → (Played Halt Roll → Type 0) →
    Played (PairStop Stop Halt) (Tapes Tape Roll) → Type 0
Pairs first second (Finished state tapes) = first (Finished state tapes.first) × second (Finished state tapes.second)
Pairs first second (Halted (First stop)) = first (Halted stop)
Pairs first second (Halted (Second stop)) = second (Halted stop)

-- the answer of the second as that of the pair
abbrev pub second_answer : {A Halt : Type 0} → (Stop : Type 0) → Result A Halt → Result A (PairStop Stop Halt)
second_answer Stop (Ok answer) = Ok answer
second_answer Stop (Err stop) = Err (Second stop)

-- of two that each may keep something of a guest memory, the memory
abbrev pub either_memory : Option ℕ → Option ℕ → Option ℕ
either_memory None second = second
either_memory (Some base) second = Some base

-- where both keep something, it is of one memory
abbrev pub AgreeOn : Option ℕ → Option ℕ → Type 0
AgreeOn one other = (base next : ℕ) → one ≡ Some base → other ≡ Some next → base ≡ next
