-- The parts of a step: what passes the slots of an instruction's turn, as functions of what has gone on before, so that
-- a caller can put other values between them.
use Rattle.std.specs.Prelude.{ℕ, ◌+◌, ◌%◌, ◌^◌, Bool, true, false, if◌then◌else◌, Option, Some, None}
use Rattle.std.specs.Prelude.{Result, Ok, Err}
use Rattle.rv32im_decode.specs.declared.instructions.Instr.{Instr}
use Rattle.rv32im_decode.specs.declared.instructions.Instr.TheVariants.{Lui, Auipc, Jal, Jalr, Branch, Load, Store as StoreInstr, OpImm, Op}
use Rattle.rv32im_decode.specs.declared.instructions.LoadKind.{LoadKind}
use Rattle.rv32im_decode.specs.Decoding.{decoded}
use Rattle.rv32im_decode.specs.Operations.{word_of, operation_of, upper_of, op_result, is_taken, address_of, target_of, load_size, store_size, extended}
use Rattle.flow_base.specs.Guests.{is_inside}
use Rattle.rv32im_machine.specs.declared.stepping.Fault.{Fault}
use Rattle.rv32im_machine.specs.declared.stepping.Fault.TheVariants.{Illegal, FetchOutside, LoadOutside, StoreOutside}
use Rattle.rv32im_machine.specs.State.{Store, State, register_of, word_at, joined}
use Rattle.rv32im_machine.specs.Language.{bytes_at}
use Rattle.rv32im_machine.specs.Rows.{loaded_from}

-- ---- which instructions have which parts

abbrev pub is_branch : Instr → Bool
is_branch (Branch kind rs1 rs2 offset) = true
is_branch _ = false

abbrev pub is_load : Instr → Bool
is_load (Load kind rd rs1 imm) = true
is_load _ = false

abbrev pub is_store : Instr → Bool
is_store (StoreInstr kind rs1 rs2 imm) = true
is_store _ = false

-- a load, a store or JALR
abbrev pub has_address : Instr → Bool
has_address (Jalr rd rs1 imm) = true
has_address (Load kind rd rs1 imm) = true
has_address (StoreInstr kind rs1 rs2 imm) = true
has_address _ = false

-- ---- the parts

-- the instruction of a word, or why the guest is stopped
abbrev pub read_as : Option Instr → ℕ → ℕ → Result Instr Fault
read_as None pc word = Err (Illegal pc word)
read_as (Some instr) pc word = Ok instr

-- the instruction at the program counter, or why the guest is stopped
abbrev pub fetch_part : State → Result Instr Fault
fetch_part state =
    if is_inside state.setting.base state.control.pc 4
    then read_as (decoded (word_at state.setting.base state.store state.control.pc)) state.control.pc
    (word_at state.setting.base state.store state.control.pc)
    else Err (FetchOutside state.control.pc)

-- the value of rs1 where it is used, else 0
abbrev pub first_part : Instr → Store → ℕ
first_part (Jalr rd rs1 imm) store = register_of store rs1
first_part (Branch kind rs1 rs2 offset) store = register_of store rs1
first_part (Load kind rd rs1 imm) store = register_of store rs1
first_part (StoreInstr kind rs1 rs2 imm) store = register_of store rs1
first_part (OpImm kind rd rs1 imm) store = register_of store rs1
first_part (Op kind rd rs1 rs2) store = register_of store rs1
first_part _ store = 0

-- the value of rs2 where it is used, else 0
abbrev pub second_part : Instr → Store → ℕ
second_part (Branch kind rs1 rs2 offset) store = register_of store rs2
second_part (StoreInstr kind rs1 rs2 imm) store = register_of store rs2
second_part (Op kind rd rs1 rs2) store = register_of store rs2
second_part _ store = 0

-- the address of a load or store, and the target of JALR, from the value of rs1
abbrev pub address_part : Instr → ℕ → ℕ
address_part (Jalr rd rs1 imm) first = target_of first (word_of imm)
address_part (Load kind rd rs1 imm) first = address_of first (word_of imm)
address_part (StoreInstr kind rs1 rs2 imm) first = address_of first (word_of imm)
address_part _ first = 0

-- the bytes of memory that a load reads, extended to a word
abbrev pub loaded_word : LoadKind → ℕ → State → ℕ
loaded_word kind address state = extended kind (joined (bytes_at state (loaded_from kind address)))

-- the loaded value, or why the guest is stopped
abbrev pub load_part : Instr → ℕ → State → Result ℕ Fault
load_part (Load kind rd rs1 imm) address state =
    if is_inside state.setting.base address (load_size kind) then Ok (loaded_word kind address state)
    else Err (LoadOutside state.control.pc address)
load_part _ address state = Ok 0

-- whether the bytes of a store are inside guest memory, or why the guest is stopped
abbrev pub store_part : Instr → ℕ → State → Result (Unit {0}) Fault
store_part (StoreInstr kind rs1 rs2 imm) address state =
    if is_inside state.setting.base address (store_size kind) then Ok tt
    else Err (StoreOutside state.control.pc address)
store_part _ address state = Ok tt

-- what is written to rd, from the program counter, the operands and the loaded value; 0 where nothing is
abbrev pub result_part : Instr → ℕ → ℕ → ℕ → ℕ → ℕ
result_part (Lui rd imm) pc first second loaded = upper_of imm
result_part (Auipc rd imm) pc first second loaded = (pc + upper_of imm) % 2 ^ 32
result_part (Jal rd offset) pc first second loaded = (pc + 4) % 2 ^ 32
result_part (Jalr rd rs1 imm) pc first second loaded = (pc + 4) % 2 ^ 32
result_part (Load kind rd rs1 imm) pc first second loaded = loaded
result_part (OpImm kind rd rs1 imm) pc first second loaded = op_result (operation_of kind) first (word_of imm)
result_part (Op kind rd rs1 rs2) pc first second loaded = op_result kind first second
result_part _ pc first second loaded = 0

-- whether a branch is taken
abbrev pub decision_part : Instr → ℕ → ℕ → Bool
decision_part (Branch kind rs1 rs2 offset) first second = is_taken kind first second
decision_part _ first second = false
