-- The step that the parts of a step make, one after another, with the changes that the methods of a machine make.
use Rattle.std.specs.Prelude.{ℕ, ◌+◌, ◌%◌, ◌^◌, ◌==◌, Bool, true, false, if◌then◌else◌, Result, Ok, Err, fold}
use Rattle.std.specs.List.{range_with_len}
use Rattle.rv32im_decode.specs.declared.instructions.Instr.{Instr}
use Rattle.rv32im_decode.specs.declared.instructions.Instr.TheVariants.{Lui, Auipc, Jal, Jalr, Branch, Load, Store as StoreInstr, OpImm, Op, Fence, Ecall, Ebreak}
use Rattle.rv32im_decode.specs.declared.instructions.StoreKind.{StoreKind}
use Rattle.rv32im_decode.specs.declared.instructions.StoreKind.TheVariants.{Sb, Sh, Sw}
use Rattle.rv32im_decode.specs.Operations.{word_of}
use Rattle.rv32im_machine.specs.declared.stepping.Arguments.{Arguments}
use Rattle.rv32im_machine.specs.declared.stepping.CallPlan.{CallPlan}
use Rattle.rv32im_machine.specs.declared.stepping.CallPlan.TheVariants.{Answer, PublicRead, SecretRead, Write, Brk, Exit, Stop}
use Rattle.rv32im_machine.specs.declared.stepping.Fault.{Fault}
use Rattle.rv32im_machine.specs.declared.stepping.Fault.TheVariants.{FetchUnaligned, Breakpoint}
use Rattle.rv32im_machine.specs.declared.stepping.Stepped.TheVariants.{Exited, Stopped}
use Rattle.rv32im_machine.specs.declared.language.Part.TheVariants.{Byte0, Byte1, Byte2, Byte3}
use Rattle.rv32im_machine.specs.State.{Store, State, register_of, byte_of}
use Rattle.rv32im_machine.specs.Language.{part_of}
use Rattle.rv32im_machine.specs.Calls.{plan_of}
use Rattle.rv32im_machine.specs.Parts.{fetch_part, first_part, second_part, address_part, load_part, store_part, result_part, decision_part}
use Rattle.step_composition.specs.Methods.{set_register, set_byte, set_pc, set_break, end, emit, public_byte, secret_byte}

-- ---- the end of a turn

-- to the next instruction
abbrev pub go_on : State → State
go_on state = set_pc ((state.control.pc + 4) % 2 ^ 32) state

abbrev pub stopped : Fault → State → State
stopped fault state = end (Stopped fault) state

-- to the target, where it is a multiple of 4
abbrev pub jumped : ℕ → State → State
jumped target state =
    if target % 4 == 0 then set_pc target state else stopped (FetchUnaligned state.control.pc) state

-- ---- an instruction

-- an instruction whose result goes to rd
abbrev pub resulting : Instr → ℕ → ℕ → ℕ → ℕ → State → State
resulting instr rd first second loaded state =
    go_on (set_register rd (result_part instr state.control.pc first second loaded) state)

-- a jump whose result goes to rd, where its target is a multiple of 4
abbrev pub linked : Instr → ℕ → ℕ → State → State
linked instr rd target state =
    if target % 4 == 0
    then set_pc target (set_register rd (result_part instr state.control.pc 0 0 0) state)
    else stopped (FetchUnaligned state.control.pc) state

abbrev pub branched : Bool → ℕ → State → State
branched false target state = go_on state
branched true target state = jumped target state

abbrev pub loaded : Instr → ℕ → Result ℕ Fault → State → State
loaded instr rd (Ok value) state = resulting instr rd 0 0 value state
loaded instr rd (Err fault) state = stopped fault state

-- the bytes of a word go to memory, the lowest first
abbrev pub set_bytes : StoreKind → ℕ → ℕ → State → State
set_bytes Sb address word state = set_byte address (part_of Byte0 word) state
set_bytes Sh address word state =
    set_byte (address + 1) (part_of Byte1 word) (set_byte address (part_of Byte0 word) state)
set_bytes Sw address word state =
    set_byte (address + 3) (part_of Byte3 word) (set_byte (address + 2) (part_of Byte2 word)
    (set_byte (address + 1) (part_of Byte1 word) (set_byte address (part_of Byte0 word) state)))

abbrev pub stored : StoreKind → ℕ → ℕ → Result (Unit {0}) Fault → State → State
stored kind address word (Ok fine) state = go_on (set_bytes kind address word state)
stored kind address word (Err fault) state = stopped fault state

-- ---- a call

-- a7, a0, a1 and a2
abbrev pub arguments_of : Store → Arguments
arguments_of store =
    record {
      number = register_of store 17;
      first = register_of store 10;
      second = register_of store 11;
      third = register_of store 12;
    }

-- the plan of the call with the arguments of this state
abbrev pub call_plan : State → CallPlan
call_plan state = plan_of state.setting state.control (arguments_of state.store)

-- the answer goes to a0
abbrev pub answered : ℕ → State → State
answered answer state = go_on (set_register 10 answer state)

-- the next byte of the public input goes to an address
abbrev pub public_byte_to : State → ℕ → State
public_byte_to state address = set_byte address (public_byte state).0 (public_byte state).1

-- the next secret byte goes to an address
abbrev pub secret_byte_to : State → ℕ → State
secret_byte_to state address = set_byte address (secret_byte state).0 (secret_byte state).1

-- the byte at an address goes to the output
abbrev pub emit_from : State → ℕ → State
emit_from state address = emit (byte_of state.setting.base state.store address) state

-- a plan is carried out, address by address where it reads or writes bytes
abbrev pub carried_out : CallPlan → State → State
carried_out (Answer answer) state = answered answer state
carried_out (PublicRead to count) state = answered count (fold public_byte_to state (range_with_len to count))
carried_out (SecretRead to count) state = answered count (fold secret_byte_to state (range_with_len to count))
carried_out (Write from count) state = answered count (fold emit_from state (range_with_len from count))
carried_out (Brk value) state = answered value (set_break value state)
carried_out Exit state = end (Exited (register_of state.store 10 % 256)) state
carried_out (Stop fault) state = stopped fault state

abbrev pub composed_call : State → State
composed_call state = carried_out (call_plan state) state

-- ---- the step

-- the step of an instruction with these operands
abbrev pub composed_on : Instr → ℕ → ℕ → State → State
composed_on (Lui rd imm) first second state = resulting (Lui rd imm) rd first second 0 state
composed_on (Auipc rd imm) first second state = resulting (Auipc rd imm) rd first second 0 state
composed_on (Jal rd offset) first second state =
    linked (Jal rd offset) rd ((state.control.pc + word_of offset) % 2 ^ 32) state
composed_on (Jalr rd rs1 imm) first second state =
    linked (Jalr rd rs1 imm) rd (address_part (Jalr rd rs1 imm) first) state
composed_on (Branch kind rs1 rs2 offset) first second state =
    branched (decision_part (Branch kind rs1 rs2 offset) first second)
    ((state.control.pc + word_of offset) % 2 ^ 32) state
composed_on (Load kind rd rs1 imm) first second state =
    loaded (Load kind rd rs1 imm) rd
    (load_part (Load kind rd rs1 imm) (address_part (Load kind rd rs1 imm) first) state) state
composed_on (StoreInstr kind rs1 rs2 imm) first second state =
    stored kind (address_part (StoreInstr kind rs1 rs2 imm) first) second
    (store_part (StoreInstr kind rs1 rs2 imm) (address_part (StoreInstr kind rs1 rs2 imm) first) state) state
composed_on (OpImm kind rd rs1 imm) first second state = resulting (OpImm kind rd rs1 imm) rd first second 0 state
composed_on (Op kind rd rs1 rs2) first second state = resulting (Op kind rd rs1 rs2) rd first second 0 state
composed_on (Fence rd rs1 imm) first second state = go_on state
composed_on Ecall first second state = composed_call state
composed_on Ebreak first second state = stopped (Breakpoint state.control.pc) state

abbrev pub composed_after : Result Instr Fault → State → State
composed_after (Ok instr) state =
    composed_on instr (first_part instr state.store) (second_part instr state.store) state
composed_after (Err fault) state = stopped fault state

-- the parts, one after another
abbrev pub composed : State → State
composed state = composed_after (fetch_part state) state
