-- The step of each instruction, and of each call, is what its parts make together. A test of a row is given as a truth,
-- whatever it is.
use Rattle.std.proofs.Common.{◌≡◌, ℕ, zero, suc, ℤ, ◌+◌, Bool, true, false, Option, Some, None, refl}
use Rattle.std.specs.Prelude.{◌%◌, ◌^◌, ◌==◌, if◌then◌else◌, Ok, Err, fold}
use Rattle.std.specs.List.{range_with_len}
use Rattle.guest_calls.specs.declared.kinds.CallKind.{CallKind}
use Rattle.guest_calls.specs.declared.kinds.CallKind.TheVariants.{Read, Write, Exit, Brk, Unknown}
use Rattle.flow_base.specs.Guests.{is_inside}
use Rattle.guest_calls.specs.Calls.{call_kind}
use Rattle.rv32im_decode.specs.declared.instructions.Instr.{Instr}
use Rattle.rv32im_decode.specs.declared.instructions.Instr.TheVariants.{Lui, Auipc, Jal, Jalr, Branch, Load, Store as StoreInstr, OpImm, Op, Fence, Ecall, Ebreak}
use Rattle.rv32im_decode.specs.declared.instructions.LoadKind.{LoadKind}
use Rattle.rv32im_decode.specs.declared.instructions.LoadKind.TheVariants.{Lb, Lh, Lw, Lbu, Lhu}
use Rattle.rv32im_decode.specs.declared.instructions.StoreKind.{StoreKind}
use Rattle.rv32im_decode.specs.declared.instructions.StoreKind.TheVariants.{Sb, Sh, Sw}
use Rattle.rv32im_decode.specs.Decoding.{decoded}
use Rattle.rv32im_decode.specs.Operations.{word_of, word_of_truth, is_taken, address_of, target_of, load_size, store_size}
use Rattle.rv32im_machine.specs.declared.stepping.CallPlan.{CallPlan}
use Rattle.rv32im_machine.specs.declared.stepping.CallPlan.TheVariants.{Answer, PublicRead, SecretRead, Write as WritePlan, Brk as BrkPlan, Exit as ExitPlan, Stop}
use Rattle.rv32im_machine.specs.declared.stepping.Fault.TheVariants.{FetchOutside, FetchUnaligned, LoadOutside, StoreOutside}
use Rattle.rv32im_machine.specs.declared.stepping.Stepped.{Stepped}
use Rattle.rv32im_machine.specs.declared.stepping.Stepped.TheVariants.{Ran}
use Rattle.rv32im_machine.specs.declared.language.Place.TheVariants.{Register}
use Rattle.rv32im_machine.specs.declared.language.Source.TheVariants.{Constant}
use Rattle.rv32im_machine.specs.declared.language.Shape.TheVariants.{Copied}
use Rattle.rv32im_machine.specs.declared.language.Seen.TheVariants.{Word}
use Rattle.rv32im_machine.specs.State.{State, register_of, word_at, moved_to, onward}
use Rattle.rv32im_machine.specs.Language.{Ends, Held, Looks, Moves, none_held, turn_walk, walk, walked}
use Rattle.rv32im_machine.specs.Calls.{kind_plan, kind_row, planned, public_reads, secret_reads, writes}
use Rattle.rv32im_machine.specs.Rows.{branches, fetched, load_at, row_walk, stops, store_at, turn_in}
use Rattle.rv32im_machine.specs.Folds.{real_end}
use Rattle.rv32im_machine.specs.Parts.{first_part, loaded_word, read_as, second_part}
use Rattle.step_composition.specs.Methods.{set_pc, set_register}
use Rattle.step_composition.specs.Composed.{answered, arguments_of, branched, carried_out, composed, composed_after, composed_on, emit_from, loaded, public_byte_to, secret_byte_to, stopped, stored}

pub linking : (even : Bool) (rd target : ℕ) (held : Held) (state : State)
    → real_end (walk state
    (if even
    then Moves (Register rd) Copied (Constant ((state.control.pc + 4) % 2 ^ 32)) (Ends (moved_to target state.control))
    else stops (FetchUnaligned state.control.pc) state.control) state.store held)
    ≡ (if even then set_pc target (set_register rd ((state.control.pc + 4) % 2 ^ 32) state)
    else stopped (FetchUnaligned state.control.pc) state)
unfolding real_end walked moved_to onward
linking true rd target held state = refl
linking false rd target held state = refl

pub jumping : (even : Bool) (target : ℕ) (held : Held) (state : State)
    → real_end (walk state
    (if even then Ends (moved_to target state.control) else stops (FetchUnaligned state.control.pc) state.control)
    state.store held)
    ≡ (if even then set_pc target state else stopped (FetchUnaligned state.control.pc) state)
unfolding real_end walked moved_to onward
jumping true target held state = refl
jumping false target held state = refl

pub branching : (taken : Bool) (offset : ℕ) (held : Held) (state : State)
    → real_end (walk state (branches (word_of_truth taken) offset state.control) state.store held)
    ≡ branched taken ((state.control.pc + offset) % 2 ^ 32) state
unfolding real_end walked moved_to onward
branching true offset held state =
    jumping ((state.control.pc + offset) % 2 ^ 32 % 4 == 0) ((state.control.pc + offset) % 2 ^ 32) held state
branching false offset held state = refl

pub loading : (inside : Bool) (kind : LoadKind) (rd rs1 address : ℕ) (imm : ℤ) (held : Held) (state : State)
    → real_end (walk state
    (if inside then load_at kind rd address state.control
    else stops (LoadOutside state.control.pc address) state.control) state.store held)
    ≡ loaded (Load kind rd rs1 imm) rd
    (if inside then Ok (loaded_word kind address state) else Err (LoadOutside state.control.pc address)) state
unfolding real_end walked moved_to onward
loading true Lb rd rs1 address imm held state = refl
loading true Lh rd rs1 address imm held state = refl
loading true Lw rd rs1 address imm held state = refl
loading true Lbu rd rs1 address imm held state = refl
loading true Lhu rd rs1 address imm held state = refl
loading false kind rd rs1 address imm held state = refl

pub storing : (inside : Bool) (kind : StoreKind) (address : ℕ) (held : Held) (state : State)
    → real_end (walk state
    (if inside then store_at kind address state.control
    else stops (StoreOutside state.control.pc address) state.control) state.store held)
    ≡ stored kind address held.second
    (if inside then Ok tt else Err (StoreOutside state.control.pc address)) state
unfolding real_end walked moved_to onward
storing true Sb address held state = refl
storing true Sh address held state = refl
storing true Sw address held state = refl
storing false kind address held state = refl

-- the bytes of the public input, one after another
pub reading_public : (count to answer : ℕ) (state : State)
    → real_end (turn_walk state (public_reads count to answer state.setting.public_input state.control))
    ≡ answered answer (fold public_byte_to state (range_with_len to count))
unfolding real_end walked public_reads moved_to onward
reading_public zero to answer state = refl
reading_public (suc count) to answer state = reading_public count (to + 1) answer (public_byte_to state to)

pub reading_secret : (count to answer : ℕ) (state : State)
    → real_end (turn_walk state (secret_reads count to answer state.control))
    ≡ answered answer (fold secret_byte_to state (range_with_len to count))
unfolding real_end walked secret_reads moved_to onward
reading_secret zero to answer state = refl
reading_secret (suc count) to answer state = reading_secret count (to + 1) answer (secret_byte_to state to)

pub writing : (count from answer : ℕ) (state : State)
    → real_end (turn_walk state (writes count from answer state.control))
    ≡ answered answer (fold emit_from state (range_with_len from count))
unfolding real_end walked writes moved_to onward
writing zero from answer state = refl
writing (suc count) from answer state = writing count (from + 1) answer (emit_from state from)

pub carrying : (plan : CallPlan) (state : State)
    → real_end (turn_walk state (planned plan state.setting state.control)) ≡ carried_out plan state
unfolding real_end walked moved_to onward
carrying (Answer answer) state = refl
carrying (PublicRead to count) state = reading_public count to count state
carrying (SecretRead to count) state = reading_secret count to count state
carrying (WritePlan from count) state = writing count from count state
carrying (BrkPlan value) state = refl
carrying ExitPlan state = refl
carrying (Stop fault) state = refl

pub calling : (kind : CallKind) (state : State)
    → real_end (turn_walk state (kind_row kind state.setting state.control))
    ≡ carried_out (kind_plan kind state.setting state.control (arguments_of state.store)) state
unfolding real_end walked
calling Read state = carrying (kind_plan Read state.setting state.control (arguments_of state.store)) state
calling Write state = carrying (kind_plan Write state.setting state.control (arguments_of state.store)) state
calling Exit state = carrying ExitPlan state
calling Brk state = carrying (kind_plan Brk state.setting state.control (arguments_of state.store)) state
calling Unknown state = carrying (kind_plan Unknown state.setting state.control (arguments_of state.store)) state

pub composing : (instr : Instr) (state : State)
    → real_end (row_walk instr state)
    ≡ composed_on instr (first_part instr state.store) (second_part instr state.store) state
unfolding real_end walked moved_to onward
composing (Lui rd imm) state = refl
composing (Auipc rd imm) state = refl
composing (Jal rd offset) state =
    let target : ℕ = (state.control.pc + word_of offset) % 2 ^ 32 in
    linking (target % 4 == 0) rd target none_held state
composing (Jalr rd rs1 imm) state =
    let target : ℕ = target_of (register_of state.store rs1) (word_of imm) in
    linking (target % 4 == 0) rd target (record { first = register_of state.store rs1; second = 0 }) state
composing (Branch kind rs1 rs2 offset) state =
    branching (is_taken kind (register_of state.store rs1) (register_of state.store rs2)) (word_of offset)
    (record { first = register_of state.store rs1; second = register_of state.store rs2 }) state
composing (Load kind rd rs1 imm) state =
    let address : ℕ = address_of (register_of state.store rs1) (word_of imm) in
    loading (is_inside state.setting.base address (load_size kind)) kind rd rs1 address imm
    (record { first = register_of state.store rs1; second = 0 }) state
composing (StoreInstr kind rs1 rs2 imm) state =
    let address : ℕ = address_of (register_of state.store rs1) (word_of imm) in
    storing (is_inside state.setting.base address (store_size kind)) kind address
    (record { first = register_of state.store rs1; second = register_of state.store rs2 }) state
composing (OpImm kind rd rs1 imm) state = refl
composing (Op kind rd rs1 rs2) state = refl
composing (Fence rd rs1 imm) state = refl
composing Ecall state = calling (call_kind (register_of state.store 17)) state
composing Ebreak state = refl

pub composing_word : (found : Option Instr) (word : ℕ) (state : State)
    → real_end (turn_walk state (fetched found word state.setting state.control))
    ≡ composed_after (read_as found state.control.pc word) state
unfolding real_end walked
composing_word None word state = refl
composing_word (Some instr) word state = composing instr state

pub composing_fetch : (inside : Bool) (state : State)
    → real_end (turn_walk state
    (if inside then Looks (Word state.control.pc) (λ word. fetched (decoded word) word state.setting state.control)
    else stops (FetchOutside state.control.pc) state.control))
    ≡ composed_after
    (if inside then read_as (decoded (word_at state.setting.base state.store state.control.pc)) state.control.pc
    (word_at state.setting.base state.store state.control.pc)
    else Err (FetchOutside state.control.pc)) state
unfolding real_end walked
composing_fetch true state =
    let word : ℕ = word_at state.setting.base state.store state.control.pc in
    composing_word (decoded word) word state
composing_fetch false state = refl

pub composing_in : (mode : Stepped) (state : State) → mode ≡ Ran
    → real_end (walk state (turn_in mode state.setting state.control) state.store none_held) ≡ composed state
composing_in mode state ran = rw ran (composing_fetch (is_inside state.setting.base state.control.pc 4) state)
