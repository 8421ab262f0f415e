-- Inside a region that it does not break the turn of a guest is no call, and passes slots of instructions alone.
use Rattle.std.proofs.Common.{◌≡◌, ℕ, ◌%◌, ◌+◌, ◌^◌, ◌==◌, List, [], ◌∷◌, refl}
use Rattle.std.proofs.Common.{Bool, true, false, Option, Some, None, if◌then◌else◌}
use Rattle.rv32im_decode.specs.declared.instructions.Instr.{Instr}
use Rattle.rv32im_decode.specs.declared.instructions.Instr.TheVariants.{Lui, Auipc, Jal, Jalr, Branch, Load}
use Rattle.rv32im_decode.specs.declared.instructions.Instr.TheVariants.{Store as StoreInstr, OpImm, Op, Fence, Ecall}
use Rattle.rv32im_decode.specs.declared.instructions.Instr.TheVariants.{Ebreak}
use Rattle.rv32im_decode.specs.declared.instructions.LoadKind.{LoadKind}
use Rattle.rv32im_decode.specs.declared.instructions.StoreKind.{StoreKind}
use Rattle.rv32im_decode.specs.declared.instructions.StoreKind.TheVariants.{Sb, Sh, Sw}
use Rattle.rv32im_decode.specs.Operations.{word_of, load_size, store_size}
use Rattle.rv32im_decode.specs.Decoding.{decoded}
use Rattle.flow_base.specs.Guests.{is_inside}
use Rattle.rv32im_machine.specs.declared.language.Seen.TheVariants.{Word}
use Rattle.rv32im_machine.specs.declared.stepping.Fault.TheVariants.{FetchOutside}
use Rattle.rv32im_machine.specs.declared.stepping.Stepped.{Stepped}
use Rattle.rv32im_machine.specs.declared.stepping.Stepped.TheVariants.{Ran, Exited, Stopped}
use Rattle.rv32im_machine.specs.State.{State, Setting, Control, Store, word_at}
use Rattle.rv32im_machine.specs.Language.{Turn, Looks, Passes, Decides, Gives, Moves, Saves, Restores, Ends, Walk}
use Rattle.rv32im_machine.specs.Language.{Looked, Passed, Moved, Saved, Restored, Ended, Held, none_held, walked}
use Rattle.rv32im_machine.specs.Language.{seen_value, value_of, values_of, shaped, made, put, hold}
use Rattle.rv32im_machine.specs.Rows.{fetched, row, stops, turn_in, walk_of, jumps, links, branches}
use Rattle.rv32im_machine.specs.Rows.{load_checked, store_at, store_checked}
use Rattle.enclosure_regions.specs.declared.region_parts.Region.{Region}
use Rattle.region_machine.specs.Breaking.{walk_break}
use Rattle.acceptance_law.specs.RunCuts.{is_instruction_slot}
use Rattle.acceptance_law.proofs.QuietInsideRegions.{Unbroken}

-- ---- rows and walks that pass slots of instructions alone

abbrev pub RowSlots : Turn → Type 0
RowSlots (Looks seen go) = (value : ℕ) → RowSlots (go value)
RowSlots (Passes point place making sources turn) = (is_instruction_slot point.slot ≡ true) × RowSlots turn
RowSlots (Decides point making sources go) =
    (is_instruction_slot point.slot ≡ true) × ((value : ℕ) → RowSlots (go value))
RowSlots (Gives point place turn) = ⊥
RowSlots (Moves place shape source turn) = RowSlots turn
RowSlots (Saves turn) = ⊥
RowSlots (Restores registers turn) = ⊥
RowSlots (Ends control) = Unit {0}

-- the same of a turn as it is walked, where every value goes on as it is
abbrev pub WalkSlots : Walk → Type 0
WalkSlots (Looked seen value walk) = WalkSlots walk
WalkSlots (Passed passing go) =
    (is_instruction_slot passing.point.slot ≡ true) × WalkSlots (go passing.value)
WalkSlots (Moved place shape source value walk) = WalkSlots walk
WalkSlots (Saved walk) = WalkSlots walk
WalkSlots (Restored registers walk back) = WalkSlots walk
WalkSlots (Ended state) = Unit {0}

slots_walked : (turn : Turn) (setting : Setting) (secret : List ℕ) (store : Store) (held : Held) → RowSlots turn →
    WalkSlots (walked setting secret turn store held)
unfolding walked
slots_walked (Looks seen go) setting secret store held h =
    slots_walked (go (seen_value setting.base store seen)) setting secret store held
    (h (seen_value setting.base store seen))
slots_walked (Passes point place making sources turn) setting secret store held h =
    let value = made making (values_of setting secret store held sources) in
    (h.0, slots_walked turn setting secret (put setting.base place value store) (hold place value held) h.1)
slots_walked (Decides point making sources go) setting secret store held h =
    let value = made making (values_of setting secret store held sources) in
    (h.0, slots_walked (go value) setting secret store held (h.1 value))
slots_walked (Gives point place turn) setting secret store held h = absurd h
slots_walked (Moves place shape source turn) setting secret store held h =
    let value = shaped shape (value_of setting secret store held source ∷ []) in
    slots_walked turn setting secret (put setting.base place value store) (hold place value held) h
slots_walked (Saves turn) setting secret store held h = absurd h
slots_walked (Restores registers turn) setting secret store held h = absurd h
slots_walked (Ends control) setting secret store held h = tt

-- ---- the rows of instructions

either_slots : (test : Bool) (t u : Turn) → RowSlots t → RowSlots u → RowSlots (if test then t else u)
either_slots true t u p q = p
either_slots false t u p q = q

jump_slots : (target : ℕ) (control : Control) → RowSlots (jumps target control)
jump_slots target control = either_slots (target % 4 == 0) _ _ tt tt

link_slots : (rd target : ℕ) (control : Control) → RowSlots (links rd target control)
link_slots rd target control = either_slots (target % 4 == 0) _ _ tt tt

branch_slots : (taken offset : ℕ) (control : Control) → RowSlots (branches taken offset control)
branch_slots taken offset control =
    either_slots (taken == 0) _ _ tt (jump_slots ((control.pc + offset) % 2 ^ 32) control)

load_slots : (kind : LoadKind) (rd : ℕ) (setting : Setting) (control : Control) (address : ℕ) →
    RowSlots (load_checked kind rd setting control address)
load_slots kind rd setting control address =
    either_slots (is_inside setting.base address (load_size kind)) _ _ (refl, tt) tt

store_slots : (kind : StoreKind) (address : ℕ) (control : Control) → RowSlots (store_at kind address control)
store_slots Sb address control = tt
store_slots Sh address control = tt
store_slots Sw address control = tt

stored_slots : (kind : StoreKind) (setting : Setting) (control : Control) (address : ℕ) →
    RowSlots (store_checked kind setting control address)
stored_slots kind setting control address =
    either_slots (is_inside setting.base address (store_size kind)) _ _ (store_slots kind address control) tt

-- an instruction that breaks no region is no call
row_slots : (region : Region) (registers : List ℕ) (pc : ℕ) (instr : Instr) (setting : Setting) (secret : List ℕ)
    (control : Control) (store : Store) →
    Unbroken region registers pc (walked setting secret (row instr setting control) store none_held) →
    RowSlots (row instr setting control)
unfolding walked walk_break
row_slots region registers pc Ecall setting secret control store unbroken = absurd (cc)
row_slots region registers pc (Lui rd imm) setting secret control store unbroken = tt
row_slots region registers pc (Auipc rd imm) setting secret control store unbroken = tt
row_slots region registers pc (Jal rd offset) setting secret control store unbroken =
    link_slots rd ((control.pc + word_of offset) % 2 ^ 32) control
row_slots region registers pc (Jalr rd rs1 imm) setting secret control store unbroken =
    (refl, (refl, λ target. link_slots rd target control))
row_slots region registers pc (Branch kind rs1 rs2 offset) setting secret control store unbroken =
    (refl, (refl, (refl, λ taken. branch_slots taken (word_of offset) control)))
row_slots region registers pc (Load kind rd rs1 imm) setting secret control store unbroken =
    (refl, (refl, λ address. load_slots kind rd setting control address))
row_slots region registers pc (StoreInstr kind rs1 rs2 imm) setting secret control store unbroken =
    (refl, (refl, (refl, λ address. stored_slots kind setting control address)))
row_slots region registers pc (OpImm kind rd rs1 imm) setting secret control store unbroken = (refl, (refl, tt))
row_slots region registers pc (Op kind rd rs1 rs2) setting secret control store unbroken = (refl, (refl, (refl, tt)))
row_slots region registers pc (Fence rd rs1 imm) setting secret control store unbroken = tt
row_slots region registers pc Ebreak setting secret control store unbroken = tt

-- ---- a turn

fetched_slots : (region : Region) (registers : List ℕ) (pc : ℕ) (found : Option Instr) (word : ℕ) (setting : Setting)
    (secret : List ℕ) (control : Control) (store : Store) →
    Unbroken region registers pc (walked setting secret (fetched found word setting control) store none_held) →
    WalkSlots (walked setting secret (fetched found word setting control) store none_held)
unfolding walked
fetched_slots region registers pc None word setting secret control store unbroken = tt
fetched_slots region registers pc (Some instr) word setting secret control store unbroken =
    slots_walked (row instr setting control) setting secret store none_held
    (row_slots region registers pc instr setting secret control store unbroken)

tested_slots : (test : Bool) (region : Region) (registers : List ℕ) (pc : ℕ) (setting : Setting) (secret : List ℕ)
    (control : Control) (store : Store) →
    Unbroken region registers pc
    (walked setting secret
    (if test then Looks (Word control.pc) (λ word. fetched (decoded word) word setting control)
    else stops (FetchOutside control.pc) control) store none_held) →
    WalkSlots (walked setting secret
    (if test then Looks (Word control.pc) (λ word. fetched (decoded word) word setting control)
    else stops (FetchOutside control.pc) control) store none_held)
unfolding walked walk_break
tested_slots true region registers pc setting secret control store unbroken =
    fetched_slots region registers pc (decoded (word_at setting.base store control.pc))
    (word_at setting.base store control.pc) setting secret control store unbroken
tested_slots false region registers pc setting secret control store unbroken = tt

pub turn_slots : (mode : Stepped) (region : Region) (registers : List ℕ) (pc : ℕ) (setting : Setting) (secret : List ℕ)
    (control : Control) (store : Store) →
    Unbroken region registers pc (walked setting secret (turn_in mode setting control) store none_held) →
    WalkSlots (walked setting secret (turn_in mode setting control) store none_held)
unfolding walked
turn_slots Ran region registers pc setting secret control store unbroken =
    tested_slots (is_inside setting.base control.pc 4) region registers pc setting secret control store unbroken
turn_slots (Exited status) region registers pc setting secret control store unbroken = tt
turn_slots (Stopped fault) region registers pc setting secret control store unbroken = tt

-- a step in whose turn nothing breaks a region
pub step_slots : (region : Region) (registers : List ℕ) (pc : ℕ) (state : State) →
    walk_break region registers pc (walk_of state) ≡ None → WalkSlots (walk_of state)
step_slots region registers pc state unbroken =
    turn_slots state.control.mode region registers pc state.setting state.secret state.control state.store unbroken
