-- One row for each instruction (RISC-V Unprivileged ISA): the slots that it passes, in order, and how the turn ends.
use Rattle.std.specs.Prelude.{ℕ, ◌+◌, ◌%◌, ◌^◌, ◌==◌, if◌then◌else◌, Option, Some, None}
use Rattle.flow_base.specs.declared.points.Slot.TheVariants.{First as FirstSlot, Second as SecondSlot, Address, Result as ResultSlot, Decision as DecisionSlot, Number}
use Rattle.rv32im_decode.specs.declared.instructions.Instr.{Instr}
use Rattle.rv32im_decode.specs.declared.instructions.Instr.TheVariants.{Lui, Auipc, Jal, Jalr, Branch, Load, Store as StoreInstr, OpImm, Op, Fence, Ecall, Ebreak}
use Rattle.rv32im_decode.specs.declared.instructions.LoadKind.{LoadKind}
use Rattle.rv32im_decode.specs.declared.instructions.LoadKind.TheVariants.{Lb, Lh, Lw, Lbu, Lhu}
use Rattle.rv32im_decode.specs.declared.instructions.StoreKind.{StoreKind}
use Rattle.rv32im_decode.specs.declared.instructions.StoreKind.TheVariants.{Sb, Sh, Sw}
use Rattle.rv32im_decode.specs.declared.instructions.OpKind.TheVariants.{Add}
use Rattle.rv32im_decode.specs.Operations.{word_of, operation_of, upper_of, load_size, store_size}
use Rattle.rv32im_decode.specs.Decoding.{decoded}
use Rattle.flow_base.specs.Guests.{is_inside}
use Rattle.rv32im_machine.specs.declared.stepping.Fault.{Fault}
use Rattle.rv32im_machine.specs.declared.stepping.Fault.TheVariants.{Illegal, FetchOutside, FetchUnaligned, LoadOutside, StoreOutside, Breakpoint}
use Rattle.rv32im_machine.specs.declared.stepping.Stepped.{Stepped}
use Rattle.rv32im_machine.specs.declared.stepping.Stepped.TheVariants.{Ran, Exited, Stopped}
use Rattle.rv32im_machine.specs.declared.language.Place.TheVariants.{Register, Byte, First, Second}
use Rattle.rv32im_machine.specs.declared.language.Source.TheVariants.{At, Constant}
use Rattle.rv32im_machine.specs.declared.language.Sources.TheVariants.{One, Two, Byte as BytesOne, Half as BytesTwo, Word as BytesFour}
use Rattle.rv32im_machine.specs.declared.language.Sources.{Sources}
use Rattle.rv32im_machine.specs.declared.language.Part.TheVariants.{Byte0, Byte1, Byte2, Byte3}
use Rattle.rv32im_machine.specs.declared.language.Shape.TheVariants.{Copied, Extended, Part}
use Rattle.rv32im_machine.specs.declared.language.Operation.TheVariants.{Result, Decision, Target}
use Rattle.rv32im_machine.specs.declared.language.Seen.TheVariants.{Word}
use Rattle.rv32im_machine.specs.State.{Setting, Control, State, onward, moved_to, ended}
use Rattle.rv32im_machine.specs.Language.{Turn, Looks, Passes, Decides, Moves, Ends, Shaped, Computed, Walk, walk, none_held}
use Rattle.rv32im_machine.specs.Calls.{point, call_row}

abbrev pub stops : Fault → Control → Turn
stops fault control = Ends (ended (Stopped fault) control)

-- the value of rs1, and of rs2, is passed and goes on as an operand
abbrev pub first_used : ℕ → Control → Turn → Turn
first_used rs1 control turn =
    Passes (point control FirstSlot) First (Shaped Copied) (One (At (Register rs1))) turn

abbrev pub second_used : ℕ → Control → Turn → Turn
second_used rs2 control turn =
    Passes (point control SecondSlot) Second (Shaped Copied) (One (At (Register rs2))) turn

-- the sum of rs1 and the immediate is passed as the address
abbrev pub addressed : ℕ → Control → (ℕ → Turn) → Turn
addressed immediate control go =
    Decides (point control Address) (Computed (Result Add)) (Two (At First) (Constant immediate)) go

-- the bytes that a load reads
abbrev pub loaded_from : LoadKind → ℕ → Sources
loaded_from Lb address = BytesOne address
loaded_from Lbu address = BytesOne address
loaded_from Lh address = BytesTwo address
loaded_from Lhu address = BytesTwo address
loaded_from Lw address = BytesFour address

abbrev pub load_at : LoadKind → ℕ → ℕ → Control → Turn
load_at kind rd address control =
    Passes (point control ResultSlot) (Register rd) (Shaped (Extended kind)) (loaded_from kind address)
    (Ends (onward control))

abbrev pub load_checked : LoadKind → ℕ → Setting → Control → ℕ → Turn
load_checked kind rd setting control address =
    if is_inside setting.base address (load_size kind) then load_at kind rd address control
    else stops (LoadOutside control.pc address) control

-- the bytes that a store writes, the lowest first
abbrev pub store_at : StoreKind → ℕ → Control → Turn
store_at Sb address control = Moves (Byte address) (Part Byte0) (At Second) (Ends (onward control))
store_at Sh address control =
    Moves (Byte address) (Part Byte0) (At Second)
    (Moves (Byte (address + 1)) (Part Byte1) (At Second) (Ends (onward control)))
store_at Sw address control =
    Moves (Byte address) (Part Byte0) (At Second)
    (Moves (Byte (address + 1)) (Part Byte1) (At Second)
    (Moves (Byte (address + 2)) (Part Byte2) (At Second)
    (Moves (Byte (address + 3)) (Part Byte3) (At Second) (Ends (onward control)))))

abbrev pub store_checked : StoreKind → Setting → Control → ℕ → Turn
store_checked kind setting control address =
    if is_inside setting.base address (store_size kind) then store_at kind address control
    else stops (StoreOutside control.pc address) control

-- a store with this immediate as a word
abbrev pub stores : StoreKind → ℕ → ℕ → ℕ → Setting → Control → Turn
stores kind rs1 rs2 immediate setting control =
    first_used rs1 control (second_used rs2 control
    (addressed immediate control (λ address. store_checked kind setting control address)))

-- a jump to the target, where it is a multiple of 4
abbrev pub jumps : ℕ → Control → Turn
jumps target control =
    if target % 4 == 0 then Ends (moved_to target control) else stops (FetchUnaligned control.pc) control

-- the same, with the address of the next instruction put into rd
abbrev pub links : ℕ → ℕ → Control → Turn
links rd target control =
    if target % 4 == 0
    then Moves (Register rd) Copied (Constant ((control.pc + 4) % 2 ^ 32)) (Ends (moved_to target control))
    else stops (FetchUnaligned control.pc) control

abbrev pub branches : ℕ → ℕ → Control → Turn
branches taken offset control =
    if taken == 0 then Ends (onward control) else jumps ((control.pc + offset) % 2 ^ 32) control

-- the row of an instruction
abbrev pub row : Instr → Setting → Control → Turn
row (Lui rd imm) setting control = Moves (Register rd) Copied (Constant (upper_of imm)) (Ends (onward control))
row (Auipc rd imm) setting control =
    Moves (Register rd) Copied (Constant ((control.pc + upper_of imm) % 2 ^ 32)) (Ends (onward control))
row (Jal rd offset) setting control = links rd ((control.pc + word_of offset) % 2 ^ 32) control
row (Jalr rd rs1 imm) setting control =
    first_used rs1 control
    (Decides (point control Address) (Computed Target) (Two (At First) (Constant (word_of imm))) (λ target.
    links rd target control))
row (Branch kind rs1 rs2 offset) setting control =
    first_used rs1 control (second_used rs2 control
    (Decides (point control DecisionSlot) (Computed (Decision kind)) (Two (At First) (At Second)) (λ taken.
    branches taken (word_of offset) control)))
row (Load kind rd rs1 imm) setting control =
    first_used rs1 control (addressed (word_of imm) control (λ address. load_checked kind rd setting control address))
row (StoreInstr kind rs1 rs2 imm) setting control = stores kind rs1 rs2 (word_of imm) setting control
row (OpImm kind rd rs1 imm) setting control =
    first_used rs1 control
    (Passes (point control ResultSlot) (Register rd) (Computed (Result (operation_of kind)))
    (Two (At First) (Constant (word_of imm))) (Ends (onward control)))
row (Op kind rd rs1 rs2) setting control =
    first_used rs1 control (second_used rs2 control
    (Passes (point control ResultSlot) (Register rd) (Computed (Result kind)) (Two (At First) (At Second))
    (Ends (onward control))))
row (Fence rd rs1 imm) setting control = Ends (onward control)
row Ecall setting control =
    Decides (point control Number) (Shaped Copied) (One (At (Register 17))) (λ number. call_row number setting control)
row Ebreak setting control = stops (Breakpoint control.pc) control

-- the turn of a fetched word
abbrev pub fetched : Option Instr → ℕ → Setting → Control → Turn
fetched None word setting control = stops (Illegal control.pc word) control
fetched (Some instr) word setting control = row instr setting control

abbrev pub running : Setting → Control → Turn
running setting control =
    if is_inside setting.base control.pc 4
    then Looks (Word control.pc) (λ word. fetched (decoded word) word setting control)
    else stops (FetchOutside control.pc) control

-- the turn of a machine in this mode; one that has exited or is stopped stands still
abbrev pub turn_in : Stepped → Setting → Control → Turn
turn_in Ran setting control = running setting control
turn_in (Exited status) setting control = Ends control
turn_in (Stopped fault) setting control = Ends control

abbrev pub turn_of : Setting → Control → Turn
turn_of setting control = turn_in control.mode setting control

-- the turn of a state, walked on its values
abbrev pub walk_of : State → Walk
walk_of state = walk state (turn_of state.setting state.control) state.store none_held

-- the walk of an instruction's row from a state
abbrev pub row_walk : Instr → State → Walk
row_walk instr state = walk state (row instr state.setting state.control) state.store none_held
