-- The slots that the turn of each instruction, and of each call, passes, with the values of the parts. A test of a row
-- is given as a truth, whatever it is.
use Rattle.std.proofs.Common.{◌≡◌, ℕ, zero, suc, ◌+◌, Bool, true, false, List, [], ◌∷◌, ◌++◌, Option, Some, None, refl, map, ap}
use Rattle.std.specs.Prelude.{◌%◌, ◌^◌, ◌==◌, if◌then◌else◌, Result, Ok, Err, slice_index}
use Rattle.std.specs.List.{range_with_len}
use Rattle.guest_calls.specs.declared.kinds.CallKind.{CallKind}
use Rattle.guest_calls.specs.declared.kinds.CallKind.TheVariants.{Read, Write, Exit, Brk, Unknown}
use Rattle.flow_base.specs.Guests.{is_inside}
use Rattle.guest_calls.specs.Calls.{call_kind}
use Rattle.rv32im_decode.specs.declared.instructions.Instr.{Instr}
use Rattle.rv32im_decode.specs.declared.instructions.Instr.TheVariants.{Lui, Auipc, Jal, Jalr, Branch, Load, Store as StoreInstr, OpImm, Op, Fence, Ecall, Ebreak}
use Rattle.rv32im_decode.specs.declared.instructions.LoadKind.{LoadKind}
use Rattle.rv32im_decode.specs.declared.instructions.LoadKind.TheVariants.{Lb, Lh, Lw, Lbu, Lhu}
use Rattle.rv32im_decode.specs.declared.instructions.StoreKind.{StoreKind}
use Rattle.rv32im_decode.specs.declared.instructions.StoreKind.TheVariants.{Sb, Sh, Sw}
use Rattle.rv32im_decode.specs.Decoding.{decoded}
use Rattle.rv32im_decode.specs.Operations.{word_of, word_of_truth, is_taken, address_of, target_of, load_size, store_size}
use Rattle.flow_base.specs.declared.points.Slot.{Slot}
use Rattle.flow_base.specs.declared.points.Slot.TheVariants.{First, Address, Result as ResultSlot, Number, SecretIn, ByteOut}
use Rattle.rv32im_machine.specs.declared.stepping.CallPlan.{CallPlan}
use Rattle.rv32im_machine.specs.declared.stepping.CallPlan.TheVariants.{Answer, PublicRead, SecretRead, Write as WritePlan, Brk as BrkPlan, Exit as ExitPlan, Stop}
use Rattle.rv32im_machine.specs.declared.stepping.Fault.{Fault}
use Rattle.rv32im_machine.specs.declared.stepping.Fault.TheVariants.{FetchOutside, FetchUnaligned, LoadOutside, StoreOutside}
use Rattle.rv32im_machine.specs.declared.stepping.Stepped.{Stepped}
use Rattle.rv32im_machine.specs.declared.stepping.Stepped.TheVariants.{Ran}
use Rattle.rv32im_machine.specs.declared.language.Place.TheVariants.{Register}
use Rattle.rv32im_machine.specs.declared.language.Source.TheVariants.{Constant}
use Rattle.rv32im_machine.specs.declared.language.Shape.TheVariants.{Copied}
use Rattle.rv32im_machine.specs.declared.language.Seen.TheVariants.{Word}
use Rattle.rv32im_machine.specs.State.{State, byte_of, register_of, word_at, moved_to, secret_taken, emitted}
use Rattle.rv32im_machine.specs.Language.{Ends, Held, Looks, Moves, none_held, turn_walk, walk, walked}
use Rattle.rv32im_machine.specs.Calls.{kind_plan, kind_row, planned, public_reads, secret_reads, writes}
use Rattle.rv32im_machine.specs.Rows.{branches, fetched, load_at, row_walk, stops, store_at, turn_in}
use Rattle.rv32im_machine.specs.Folds.{Visit, visits_in}
use Rattle.rv32im_machine.specs.Parts.{loaded_word, read_as}
use Rattle.step_composition.specs.Composed.{arguments_of, emit_from, public_byte_to, secret_byte_to}
use Rattle.step_composition.specs.Slots.{argument_slots, argument_value, composed_visits, load_slots, plan_visits, slot_value, slot_visits, value_or_zero, visit, visits_after}

-- a jump that links, a jump, the rest of a branch and of a store pass nothing
pub linking_passes : (even : Bool) (rd target : ℕ) (held : Held) (state : State)
    → visits_in (walk state
    (if even
    then Moves (Register rd) Copied (Constant ((state.control.pc + 4) % 2 ^ 32)) (Ends (moved_to target state.control))
    else stops (FetchUnaligned state.control.pc) state.control) state.store held)
    ≡ []
unfolding visits_in walked
linking_passes true rd target held state = refl
linking_passes false rd target held state = refl

pub jumping_passes : (even : Bool) (target : ℕ) (held : Held) (state : State)
    → visits_in (walk state
    (if even then Ends (moved_to target state.control) else stops (FetchUnaligned state.control.pc) state.control)
    state.store held)
    ≡ []
unfolding visits_in walked
jumping_passes true target held state = refl
jumping_passes false target held state = refl

pub branching_passes : (taken : Bool) (offset : ℕ) (held : Held) (state : State)
    → visits_in (walk state (branches (word_of_truth taken) offset state.control) state.store held) ≡ []
unfolding visits_in walked
branching_passes true offset held state =
    jumping_passes ((state.control.pc + offset) % 2 ^ 32 % 4 == 0) ((state.control.pc + offset) % 2 ^ 32) held state
branching_passes false offset held state = refl

pub storing_passes : (inside : Bool) (kind : StoreKind) (address : ℕ) (held : Held) (state : State)
    → visits_in (walk state
    (if inside then store_at kind address state.control
    else stops (StoreOutside state.control.pc address) state.control) state.store held)
    ≡ []
unfolding visits_in walked
storing_passes true Sb address held state = refl
storing_passes true Sh address held state = refl
storing_passes true Sw address held state = refl
storing_passes false kind address held state = refl

-- the rest of a load passes its result
abbrev pub result_visits : Result ℕ Fault → State → List Visit
result_visits (Ok value) state = visit state ResultSlot value ∷ []
result_visits (Err fault) state = []

pub loading_passes : (inside : Bool) (kind : LoadKind) (rd address : ℕ) (held : Held) (state : State)
    → visits_in (walk state
    (if inside then load_at kind rd address state.control
    else stops (LoadOutside state.control.pc address) state.control) state.store held)
    ≡ result_visits
    (if inside then Ok (loaded_word kind address state) else Err (LoadOutside state.control.pc address)) state
unfolding visits_in walked
loading_passes true Lb rd address held state = refl
loading_passes true Lh rd address held state = refl
loading_passes true Lw rd address held state = refl
loading_passes true Lbu rd address held state = refl
loading_passes true Lhu rd address held state = refl
loading_passes false kind rd address held state = refl

pub loading_slots : (inside : Bool) (value : ℕ) (fault : Fault) (visits : Slot → Visit) (state : State)
    → visits ResultSlot ≡ visit state ResultSlot (value_or_zero (if inside then Ok value else Err fault))
    → visits First ∷ visits Address ∷ result_visits (if inside then Ok value else Err fault) state
    ≡ map visits (load_slots (if inside then Ok value else Err fault))
loading_slots true value fault visits state result = rw result refl
loading_slots false value fault visits state result = refl

-- the bytes of the public input pass nothing
pub public_passes : (count to answer : ℕ) (state : State)
    → visits_in (turn_walk state (public_reads count to answer state.setting.public_input state.control)) ≡ []
unfolding visits_in walked public_reads
public_passes zero to answer state = refl
public_passes (suc count) to answer state = public_passes count (to + 1) answer (public_byte_to state to)

pub secret_passes : (count to answer : ℕ) (state : State)
    → visits_in (turn_walk state (secret_reads count to answer state.control))
    ≡ map (λ index. visit state SecretIn (slice_index state.secret index))
    (range_with_len state.control.secret_at count)
unfolding visits_in walked secret_reads secret_taken
secret_passes zero to answer state = refl
secret_passes (suc count) to answer state =
    ap (λ visits. visit state SecretIn (slice_index state.secret state.control.secret_at) ∷ visits)
    (secret_passes count (to + 1) answer (secret_byte_to state to))

pub writing_passes : (count from answer : ℕ) (state : State)
    → visits_in (turn_walk state (writes count from answer state.control))
    ≡ map (λ address. visit state ByteOut (byte_of state.setting.base state.store address)) (range_with_len from count)
unfolding visits_in walked writes emitted
writing_passes zero from answer state = refl
writing_passes (suc count) from answer state =
    ap (λ visits. visit state ByteOut (byte_of state.setting.base state.store from) ∷ visits)
    (writing_passes count (from + 1) answer (emit_from state from))

pub carrying_passes : (plan : CallPlan) (state : State)
    → visits_in (turn_walk state (planned plan state.setting state.control)) ≡ plan_visits plan state
unfolding visits_in walked
carrying_passes (Answer answer) state = refl
carrying_passes (PublicRead to count) state = public_passes count to count state
carrying_passes (SecretRead to count) state = secret_passes count to count state
carrying_passes (WritePlan from count) state = writing_passes count from count state
carrying_passes (BrkPlan value) state = refl
carrying_passes ExitPlan state = refl
carrying_passes (Stop fault) state = refl

-- the arguments that a call asks for
abbrev pub argument_visits : CallKind → State → List Visit
argument_visits kind state =
    map (λ slot. visit state slot (argument_value (arguments_of state.store) slot)) (argument_slots kind)

-- a call passes its arguments, and then what its plan passes
pub calling_passes : (kind : CallKind) (state : State)
    → visits_in (turn_walk state (kind_row kind state.setting state.control))
    ≡ argument_visits kind state
    ++ plan_visits (kind_plan kind state.setting state.control (arguments_of state.store)) state
unfolding visits_in walked
calling_passes Read state =
    ap (λ visits. argument_visits Read state ++ visits)
    (carrying_passes (kind_plan Read state.setting state.control (arguments_of state.store)) state)
calling_passes Write state =
    ap (λ visits. argument_visits Write state ++ visits)
    (carrying_passes (kind_plan Write state.setting state.control (arguments_of state.store)) state)
calling_passes Exit state = refl
calling_passes Brk state = refl
calling_passes Unknown state = refl

pub passing : (instr : Instr) (state : State)
    → visits_in (row_walk instr state) ≡ slot_visits instr state
unfolding visits_in walked
passing (Lui rd imm) state = refl
passing (Auipc rd imm) state = refl
passing (Jal rd offset) state =
    let target : ℕ = (state.control.pc + word_of offset) % 2 ^ 32 in
    linking_passes (target % 4 == 0) rd target none_held state
passing (Jalr rd rs1 imm) state =
    let target : ℕ = target_of (register_of state.store rs1) (word_of imm) in
    let held : Held = record { first = register_of state.store rs1; second = 0 } in
    rw (linking_passes (target % 4 == 0) rd target held state) refl
passing (Branch kind rs1 rs2 offset) state =
    let first : ℕ = register_of state.store rs1 in
    let second : ℕ = register_of state.store rs2 in
    rw (branching_passes (is_taken kind first second) (word_of offset) (record { first = first; second = second }) state)
    refl
passing (Load kind rd rs1 imm) state =
    let address : ℕ = address_of (register_of state.store rs1) (word_of imm) in
    let held : Held = record { first = register_of state.store rs1; second = 0 } in
    let inside : Bool = is_inside state.setting.base address (load_size kind) in
    rw (loading_passes inside kind rd address held state)
    (loading_slots inside (loaded_word kind address state) (LoadOutside state.control.pc address)
    (λ slot. visit state slot (slot_value (Load kind rd rs1 imm) state slot)) state refl)
passing (StoreInstr kind rs1 rs2 imm) state =
    let first : ℕ = register_of state.store rs1 in
    let second : ℕ = register_of state.store rs2 in
    let address : ℕ = address_of first (word_of imm) in
    rw (storing_passes (is_inside state.setting.base address (store_size kind)) kind address
    (record { first = first; second = second }) state) refl
passing (OpImm kind rd rs1 imm) state = refl
passing (Op kind rd rs1 rs2) state = refl
passing (Fence rd rs1 imm) state = refl
passing Ecall state =
    ap (λ visits. visit state Number (register_of state.store 17) ∷ visits)
    (calling_passes (call_kind (register_of state.store 17)) state)
passing Ebreak state = refl

pub passing_word : (found : Option Instr) (word : ℕ) (state : State)
    → visits_in (turn_walk state (fetched found word state.setting state.control))
    ≡ visits_after (read_as found state.control.pc word) state
unfolding visits_in walked
passing_word None word state = refl
passing_word (Some instr) word state = passing instr state

pub passing_fetch : (inside : Bool) (state : State)
    → visits_in (turn_walk state
    (if inside then Looks (Word state.control.pc) (λ word. fetched (decoded word) word state.setting state.control)
    else stops (FetchOutside state.control.pc) state.control))
    ≡ visits_after
    (if inside then read_as (decoded (word_at state.setting.base state.store state.control.pc)) state.control.pc
    (word_at state.setting.base state.store state.control.pc)
    else Err (FetchOutside state.control.pc)) state
unfolding visits_in walked
passing_fetch true state =
    let word : ℕ = word_at state.setting.base state.store state.control.pc in
    passing_word (decoded word) word state
passing_fetch false state = refl

pub passing_in : (mode : Stepped) (state : State) → mode ≡ Ran
    → visits_in (walk state (turn_in mode state.setting state.control) state.store none_held) ≡ composed_visits state
passing_in mode state ran = rw ran (passing_fetch (is_inside state.setting.base state.control.pc 4) state)
