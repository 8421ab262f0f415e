-- The slots that the turn of an instruction or a call passes, in order, with the values of the parts.
use Rattle.std.specs.Prelude.{ℕ, ◌%◌, Result, Ok, Err, List, [], ◌∷◌, ◌++◌, map, slice_index}
use Rattle.std.specs.List.{range_with_len}
use Rattle.flow_base.specs.declared.points.Slot.{Slot}
use Rattle.flow_base.specs.declared.points.Slot.TheVariants.{First, Second, Address, Result as ResultSlot, Decision, Number, Arg0, Arg1, Arg2, SecretIn, ByteOut, Status}
use Rattle.rv32im_decode.specs.declared.instructions.Instr.{Instr}
use Rattle.rv32im_decode.specs.declared.instructions.Instr.TheVariants.{Jalr, Branch, Load, Store as StoreInstr, OpImm, Op, Ecall}
use Rattle.rv32im_decode.specs.Operations.{word_of_truth}
use Rattle.guest_calls.specs.declared.kinds.CallKind.{CallKind}
use Rattle.guest_calls.specs.declared.kinds.CallKind.TheVariants.{Read, Write as WriteCall, Brk}
use Rattle.guest_calls.specs.Calls.{call_kind}
use Rattle.rv32im_machine.specs.declared.stepping.Arguments.{Arguments}
use Rattle.rv32im_machine.specs.declared.stepping.CallPlan.{CallPlan}
use Rattle.rv32im_machine.specs.declared.stepping.CallPlan.TheVariants.{SecretRead, Write, Exit}
use Rattle.rv32im_machine.specs.declared.stepping.Fault.{Fault}
use Rattle.rv32im_machine.specs.State.{State, register_of, byte_of}
use Rattle.rv32im_machine.specs.Calls.{point}
use Rattle.rv32im_machine.specs.Folds.{Visit}
use Rattle.rv32im_machine.specs.Parts.{fetch_part, first_part, second_part, address_part, load_part, result_part, decision_part}
use Rattle.step_composition.specs.Composed.{arguments_of, call_plan}

-- a value passes a slot of the turn
abbrev pub visit : State → Slot → ℕ → Visit
visit state slot value = record { point = point state.control slot; value = value }

-- ---- an instruction

-- the loaded value, 0 where there is none
abbrev pub value_or_zero : Result ℕ Fault → ℕ
value_or_zero (Ok value) = value
value_or_zero (Err fault) = 0

-- the value that passes a slot in the turn of an instruction, where each value goes on as it is
abbrev pub slot_value : Instr → State → Slot → ℕ
slot_value instr state First = first_part instr state.store
slot_value instr state Second = second_part instr state.store
slot_value instr state Address = address_part instr (first_part instr state.store)
slot_value instr state ResultSlot =
    result_part instr state.control.pc (first_part instr state.store) (second_part instr state.store)
    (value_or_zero (load_part instr (address_part instr (first_part instr state.store)) state))
slot_value instr state Decision =
    word_of_truth (decision_part instr (first_part instr state.store) (second_part instr state.store))
slot_value instr state _ = 0

-- a load that is stopped has no result
abbrev pub load_slots : Result ℕ Fault → List Slot
load_slots (Ok value) = First ∷ Address ∷ ResultSlot ∷ []
load_slots (Err fault) = First ∷ Address ∷ []

-- the slots that the turn of an instruction other than ECALL passes, in order
abbrev pub slots_of : Instr → State → List Slot
slots_of (Jalr rd rs1 imm) state = First ∷ Address ∷ []
slots_of (Branch kind rs1 rs2 offset) state = First ∷ Second ∷ Decision ∷ []
slots_of (Load kind rd rs1 imm) state =
    load_slots (load_part (Load kind rd rs1 imm)
    (address_part (Load kind rd rs1 imm) (first_part (Load kind rd rs1 imm) state.store)) state)
slots_of (StoreInstr kind rs1 rs2 imm) state = First ∷ Second ∷ Address ∷ []
slots_of (OpImm kind rd rs1 imm) state = First ∷ ResultSlot ∷ []
slots_of (Op kind rd rs1 rs2) state = First ∷ Second ∷ ResultSlot ∷ []
slots_of _ state = []

-- ---- a call

-- the arguments that a call asks for
abbrev pub argument_slots : CallKind → List Slot
argument_slots Read = Arg0 ∷ Arg1 ∷ Arg2 ∷ []
argument_slots WriteCall = Arg0 ∷ Arg1 ∷ Arg2 ∷ []
argument_slots Brk = Arg0 ∷ []
argument_slots _ = []

-- the value that passes one of these slots, or the slot of the number
abbrev pub argument_value : Arguments → Slot → ℕ
argument_value arguments Number = arguments.number
argument_value arguments Arg0 = arguments.first
argument_value arguments Arg1 = arguments.second
argument_value arguments Arg2 = arguments.third
argument_value arguments _ = 0

-- what passes while a plan is carried out: each secret byte read, each byte written, the exit status
abbrev pub plan_visits : CallPlan → State → List Visit
plan_visits (SecretRead to count) state =
    map (λ index. visit state SecretIn (slice_index state.secret index)) (range_with_len state.control.secret_at count)
plan_visits (Write from count) state =
    map (λ address. visit state ByteOut (byte_of state.setting.base state.store address)) (range_with_len from count)
plan_visits Exit state = visit state Status (register_of state.store 10 % 256) ∷ []
plan_visits _ state = []

-- the number, the arguments that the call asks for, and what its plan passes
abbrev pub call_visits : State → List Visit
call_visits state =
    map (λ slot. visit state slot (argument_value (arguments_of state.store) slot))
    (Number ∷ argument_slots (call_kind (register_of state.store 17)))
    ++ plan_visits (call_plan state) state

-- ---- the turn

-- the points of the slots with the parts' values
abbrev pub slot_visits : Instr → State → List Visit
slot_visits Ecall state = call_visits state
slot_visits instr state = map (λ slot. visit state slot (slot_value instr state slot)) (slots_of instr state)

-- a guest that is stopped at its fetch passes nothing
abbrev pub visits_after : Result Instr Fault → State → List Visit
visits_after (Ok instr) state = slot_visits instr state
visits_after (Err fault) state = []

abbrev pub composed_visits : State → List Visit
composed_visits state = visits_after (fetch_part state) state
