-- What a turn leaves of a passer that is handed the values of the turn through the guard of a region.
use Rattle.std.specs.Prelude.{◌≡◌, ℕ, List, Option, Some, None, Result, Ok, Err, refl}
use Rattle.std.proofs.Common.{ap, sym}
use Rattle.std.specs.Borrow.{GName}
use Rattle.rv32im_machine.specs.State.{State}
use Rattle.rv32im_machine.specs.Language.{Walk, Ended}
use Rattle.rv32im_machine.specs.Folds.{real_end}
use Rattle.rv32im_machine.specs.Playing.{Played, Finished, Halted}
use Rattle.enclosure_regions.specs.declared.region_parts.Region.{Region}
use Rattle.enclosure_regions.specs.declared.break_kinds.Break.{Break}
use Rattle.region_machine.specs.Breaking.{walk_break}
use Rattle.std.specs.Option.{option_or}

-- what the passer leaves, the first break of the region so far, and the name of the reference by which the passer is
-- lent
pub record Guard (Tape : Type 0) : Type 0 where
  pub tape : Tape
  pub broken : Option Break
  pub lent : GName

-- the turn ends as the passer may end it, this is the first break, and the passer is still the one that was lent
abbrev pub Guards : {Stop Tape : Type 0} → (Played Stop Tape → Type 0) → Option Break → GName →
    Played Stop (Guard Tape) → Type 0
Guards plays broken lent (Finished reached after) =
    plays (Finished reached after.tape) × ((after.broken ≡ broken) × (after.lent ≡ lent))
Guards plays broken lent (Halted stop) = plays (Halted stop)

first_none : (broken : Option Break) → broken ≡ option_or broken None
first_none None = refl
first_none (Some broken) = refl

-- at the end of a turn nothing more breaks the region
pub guards_Ended : {Stop Tape : Type 0} (plays : Walk → Played Stop Tape → Type 0) (tape : Tape) (broken : Option Break)
    (lent : GName) (region : Region) (kept : List ℕ) (pc : ℕ) (state : State) →
    plays (Ended state) (Finished state tape) →
    Guards (plays (Ended state)) (option_or broken (walk_break region kept pc (Ended state))) lent
    (Finished state (record { tape = tape; broken = broken; lent = lent }))
unfolding walk_break
guards_Ended plays tape broken lent region kept pc state h = (h, (first_none broken, refl))

-- how a turn ends that answers something
abbrev pub ending : {A Stop Tape : Type 0} → Result A Stop → State → Tape → Played Stop Tape
ending (Ok answer) state tape = Finished state tape
ending (Err stop) state tape = Halted stop

-- the state in which a turn has ended, or else this one
abbrev pub finished_state : {Stop Tape : Type 0} → State → Played Stop Tape → State
finished_state state (Finished reached tape) = reached
finished_state state (Halted stop) = state

abbrev pub the_end : (Stop : Type 0) → State → Played Stop (Unit {0})
the_end Stop state = Finished state tt

-- whoever keeps nothing ends a turn as the real one
pub plain_real : (Stop : Type 0) (walk : Walk) (state : State) (tape : Unit {0}) →
    the_end Stop (real_end walk) ≡ Finished state tape → state ≡ real_end walk
plain_real Stop walk state tape e = ap (finished_state (real_end walk)) (sym e)
