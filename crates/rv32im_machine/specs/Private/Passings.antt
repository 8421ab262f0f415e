-- The passings that many turns begin with.
use Rattle.std.specs.Prelude.{ℕ}
use Rattle.flow_base.specs.declared.points.Slot.{Slot}
use Rattle.flow_base.specs.declared.points.Slot.TheVariants.{Address, Decision as DecisionSlot}
use Rattle.rv32im_decode.specs.declared.instructions.BranchKind.{BranchKind}
use Rattle.rv32im_machine.specs.declared.language.Place.TheVariants.{Register, First, Second}
use Rattle.rv32im_machine.specs.declared.language.Source.TheVariants.{At, Constant}
use Rattle.rv32im_machine.specs.declared.language.Sources.TheVariants.{One, Two}
use Rattle.rv32im_machine.specs.declared.language.Shape.TheVariants.{Copied}
use Rattle.rv32im_machine.specs.declared.language.Operation.{Operation}
use Rattle.rv32im_machine.specs.declared.language.Operation.TheVariants.{Decision}
use Rattle.rv32im_machine.specs.declared.language.Work.TheVariants.{Shaped, Computed}
use Rattle.rv32im_machine.specs.declared.language.Aim.{Aim}
use Rattle.rv32im_machine.specs.declared.language.Aim.TheVariants.{Decide}
use Rattle.rv32im_machine.specs.declared.language.Passing.{Passing}
use Rattle.rv32im_machine.specs.State.{State, register_of}
use Rattle.rv32im_machine.specs.Language.{computed}
use Rattle.rv32im_machine.specs.Calls.{point}

-- the value of a register passes a slot as it is
abbrev pub copy_of : State → Slot → Aim → ℕ → Passing
copy_of state slot aim register =
    record {
      point = point state.control slot;
      aim = aim;
      work = Shaped Copied;
      sources = One (At (Register register));
      value = register_of state.store register;
    }

-- what is computed of the first operand and an immediate passes as an address
abbrev pub address_of : State → Operation → ℕ → ℕ → Passing
address_of state operation first immediate =
    record {
      point = point state.control Address;
      aim = Decide;
      work = Computed operation first immediate;
      sources = Two (At First) (Constant immediate);
      value = computed operation first immediate;
    }

-- whether a branch is taken passes
abbrev pub decision_of : State → BranchKind → ℕ → ℕ → Passing
decision_of state kind first second =
    record {
      point = point state.control DecisionSlot;
      aim = Decide;
      work = Computed (Decision kind) first second;
      sources = Two (At First) (At Second);
      value = computed (Decision kind) first second;
    }
