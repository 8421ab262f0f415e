-- What holds of the control before a step holds of it at each end of the step, whatever values go on, where each change
-- of the control keeps it; and what is so at each end of a turn is so at the end of a real turn.
use Rattle.std.proofs.Common.{◌≡◌, ℕ, zero, suc, ◌+◌, ◌%◌, ◌^◌, ◌==◌, List, [], ◌∷◌, ◌∙◌, refl}
use Rattle.std.proofs.Common.{Bool, true, false}
use Rattle.std.specs.Prelude.{if◌then◌else◌, Option, Some, None}
use Rattle.rv32im_decode.specs.declared.instructions.Instr.{Instr}
use Rattle.rv32im_decode.specs.declared.instructions.Instr.TheVariants.{Lui, Auipc, Jal, Jalr, Branch, Load}
use Rattle.rv32im_decode.specs.declared.instructions.Instr.TheVariants.{Store as StoreInstr, OpImm, Op, Fence, Ecall}
use Rattle.rv32im_decode.specs.declared.instructions.Instr.TheVariants.{Ebreak}
use Rattle.rv32im_decode.specs.declared.instructions.LoadKind.{LoadKind}
use Rattle.rv32im_decode.specs.declared.instructions.StoreKind.{StoreKind}
use Rattle.rv32im_decode.specs.declared.instructions.StoreKind.TheVariants.{Sb, Sh, Sw}
use Rattle.rv32im_decode.specs.Operations.{word_of, load_size, store_size}
use Rattle.rv32im_decode.specs.Decoding.{decoded}
use Rattle.guest_calls.specs.declared.kinds.CallKind.{CallKind}
use Rattle.guest_calls.specs.declared.kinds.CallKind.TheVariants.{Read, Write as WriteCall, Exit as ExitCall}
use Rattle.guest_calls.specs.declared.kinds.CallKind.TheVariants.{Brk as BrkCall, Unknown}
use Rattle.flow_base.specs.Guests.{is_inside}
use Rattle.guest_calls.specs.Calls.{call_kind, unknown_call}
use Rattle.rv32im_machine.specs.declared.stepping.Fault.{Fault}
use Rattle.rv32im_machine.specs.declared.stepping.Fault.TheVariants.{Illegal, FetchOutside, FetchUnaligned}
use Rattle.rv32im_machine.specs.declared.stepping.Fault.TheVariants.{LoadOutside, StoreOutside, Breakpoint}
use Rattle.rv32im_machine.specs.declared.stepping.Stepped.{Stepped}
use Rattle.rv32im_machine.specs.declared.stepping.Stepped.TheVariants.{Ran, Exited, Stopped}
use Rattle.rv32im_machine.specs.declared.stepping.CallPlan.{CallPlan}
use Rattle.rv32im_machine.specs.declared.stepping.CallPlan.TheVariants.{Answer, PublicRead, SecretRead, Write, Brk}
use Rattle.rv32im_machine.specs.declared.stepping.CallPlan.TheVariants.{Exit, Stop}
use Rattle.rv32im_machine.specs.declared.language.Place.{Place as ThePlace}
use Rattle.rv32im_machine.specs.declared.language.Place.TheVariants.{Register, Byte, First, Second}
use Rattle.rv32im_machine.specs.State.{State, Setting, Control, Store, onward, moved_to, ended, public_taken}
use Rattle.rv32im_machine.specs.State.{secret_taken, break_moved, emitted, restored, with_register, with_byte}
use Rattle.rv32im_machine.specs.Language.{Turn, Looks, Passes, Decides, Gives, Moves, Saves, Restores, Ends, Walk}
use Rattle.rv32im_machine.specs.Language.{Looked, Passed, Moved, Saved, Restored, Ended, Held}
use Rattle.rv32im_machine.specs.Language.{none_held, walked, shaped, value_of, put, hold, seen_value}
use Rattle.rv32im_machine.specs.Calls.{public_reads, secret_reads, writes, planned}
use Rattle.rv32im_machine.specs.Calls.{kind_row, call_row, read_plan, write_plan, break_plan}
use Rattle.rv32im_machine.specs.Rows.{load_checked, store_at, store_checked, jumps, links, branches, row}
use Rattle.rv32im_machine.specs.Rows.{fetched, turn_in, walk_of}
use Rattle.rv32im_machine.specs.Folds.{real_end}
use Rattle.region_machine.proofs.KeptRegistersStay.{kept_restored}

-- ---- what is so at each end of a turn

-- at each end of the turn this holds of the control, and the turn keeps no registers
abbrev pub Always : (Control → Type 0) → Turn → Type 0
Always Q (Looks seen go) = (value : ℕ) → Always Q (go value)
Always Q (Passes point place making sources turn) = Always Q turn
Always Q (Decides point making sources go) = (value : ℕ) → Always Q (go value)
Always Q (Gives point place turn) = Always Q turn
Always Q (Moves place shape source turn) = Always Q turn
Always Q (Saves turn) = ⊥
Always Q (Restores registers turn) = Always Q turn
Always Q (Ends control) = Q control

-- this holds of the state at each end of a turn as it is walked
abbrev pub AtEnds : (State → Type 0) → Walk → Type 0
AtEnds P (Looked seen value walk) = AtEnds P walk
AtEnds P (Passed passing go) = (other : ℕ) → AtEnds P (go other)
AtEnds P (Moved place shape source value walk) = AtEnds P walk
AtEnds P (Saved walk) = AtEnds P walk
AtEnds P (Restored registers walk back) = AtEnds P walk × AtEnds P back
AtEnds P (Ended state) = P state

kept_put : (base : ℕ) (place : ThePlace) (value : ℕ) (store : Store) → (put base place value store).kept ≡ store.kept
unfolding with_register with_byte
kept_put base (Register register) value store = refl
kept_put base (Byte address) value store = refl
kept_put base First value store = refl
kept_put base Second value store = refl

-- the ends of a turn have this setting, these kept registers, and a control of which Q holds
abbrev pub Follows : (Control → Type 0) → (State → Type 0) → Setting → List ℕ → Type 0
Follows Q P setting kept =
    (secret : List ℕ) (control : Control) (store : Store) → store.kept ≡ kept → Q control →
    P (record { setting = setting; secret = secret; control = control; store = store })

pub ends_walked :
    (Q : Control → Type 0) (P : State → Type 0) (setting : Setting) (secret : List ℕ) (kept : List ℕ) (turn : Turn)
    (store : Store) (held : Held) →
    Follows Q P setting kept → store.kept ≡ kept → Always Q turn →
    AtEnds P (walked setting secret turn store held)
unfolding walked
ends_walked Q P setting secret kept (Looks seen go) store held f e h =
    ends_walked Q P setting secret kept (go (seen_value setting.base store seen)) store held f e
    (h (seen_value setting.base store seen))
ends_walked Q P setting secret kept (Passes point place making sources turn) store held f e h =
    λ value. ends_walked Q P setting secret kept turn (put setting.base place value store) (hold place value held) f
    (kept_put setting.base place value store ∙ e) h
ends_walked Q P setting secret kept (Decides point making sources go) store held f e h =
    λ value. ends_walked Q P setting secret kept (go value) store held f e (h value)
ends_walked Q P setting secret kept (Gives point place turn) store held f e h =
    λ value. ends_walked Q P setting secret kept turn (put setting.base place value store) (hold place value held) f
    (kept_put setting.base place value store ∙ e) h
ends_walked Q P setting secret kept (Moves place shape source turn) store held f e h =
    ends_walked Q P setting secret kept turn
    (put setting.base place (shaped shape (value_of setting secret store held source ∷ [])) store)
    (hold place (shaped shape (value_of setting secret store held source ∷ [])) held) f
    (kept_put setting.base place (shaped shape (value_of setting secret store held source ∷ [])) store ∙ e) h
ends_walked Q P setting secret kept (Saves turn) store held f e h = absurd h
ends_walked Q P setting secret kept (Restores registers turn) store held f e h = (
  ends_walked Q P setting secret kept turn store held f e h,
  ends_walked Q P setting secret kept turn (restored registers store) held f (kept_restored registers store ∙ e) h,
)
ends_walked Q P setting secret kept (Ends control) store held f e h = f secret control store e h

-- ---- the rows of instructions that are no calls

pub record Carries (Q : Control → Type 0) : Type 0 where
  pub goes : (control : Control) → Q control → Q (onward control)
  pub jumped : (pc : ℕ) (control : Control) → Q control → Q (moved_to pc control)
  pub stopped : (fault : Fault) (control : Control) → Q control → Q (ended (Stopped fault) control)

either : (Q : Control → Type 0) (test : Bool) (t u : Turn) → Always Q t → Always Q u →
    Always Q (if test then t else u)
either Q true t u p q = p
either Q false t u p q = q

always_jumps : (Q : Control → Type 0) (target : ℕ) (control : Control) → Carries Q → Q control →
    Always Q (jumps target control)
always_jumps Q target control k h =
    either Q (target % 4 == 0) _ _ (k.jumped target control h) (k.stopped (FetchUnaligned control.pc) control h)

always_links : (Q : Control → Type 0) (rd target : ℕ) (control : Control) → Carries Q → Q control →
    Always Q (links rd target control)
always_links Q rd target control k h =
    either Q (target % 4 == 0) _ _ (k.jumped target control h) (k.stopped (FetchUnaligned control.pc) control h)

always_branches : (Q : Control → Type 0) (taken offset : ℕ) (control : Control) → Carries Q → Q control →
    Always Q (branches taken offset control)
always_branches Q taken offset control k h =
    either Q (taken == 0) _ _ (k.goes control h) (always_jumps Q ((control.pc + offset) % 2 ^ 32) control k h)

always_load : (Q : Control → Type 0) (kind : LoadKind) (rd : ℕ) (setting : Setting) (control : Control) (address : ℕ) →
    Carries Q → Q control → Always Q (load_checked kind rd setting control address)
always_load Q kind rd setting control address k h =
    either Q (is_inside setting.base address (load_size kind)) _ _ (k.goes control h)
    (k.stopped (LoadOutside control.pc address) control h)

always_store : (Q : Control → Type 0) (kind : StoreKind) (address : ℕ) (control : Control) → Carries Q → Q control →
    Always Q (store_at kind address control)
always_store Q Sb address control k h = k.goes control h
always_store Q Sh address control k h = k.goes control h
always_store Q Sw address control k h = k.goes control h

always_store_checked : (Q : Control → Type 0) (kind : StoreKind) (setting : Setting) (control : Control)
    (address : ℕ) → Carries Q → Q control → Always Q (store_checked kind setting control address)
always_store_checked Q kind setting control address k h =
    either Q (is_inside setting.base address (store_size kind)) _ _ (always_store Q kind address control k h)
    (k.stopped (StoreOutside control.pc address) control h)

-- it holds at each end of the row of an instruction that is no call, and of a call if the call's turn has it
abbrev pub CallHas : (Control → Type 0) → Instr → Setting → Control → Type 0
CallHas Q Ecall setting control = (number : ℕ) → Always Q (call_row number setting control)
CallHas Q (Lui rd imm) setting control = Unit {0}
CallHas Q (Auipc rd imm) setting control = Unit {0}
CallHas Q (Jal rd offset) setting control = Unit {0}
CallHas Q (Jalr rd rs1 imm) setting control = Unit {0}
CallHas Q (Branch kind rs1 rs2 offset) setting control = Unit {0}
CallHas Q (Load kind rd rs1 imm) setting control = Unit {0}
CallHas Q (StoreInstr kind rs1 rs2 imm) setting control = Unit {0}
CallHas Q (OpImm kind rd rs1 imm) setting control = Unit {0}
CallHas Q (Op kind rd rs1 rs2) setting control = Unit {0}
CallHas Q (Fence rd rs1 imm) setting control = Unit {0}
CallHas Q Ebreak setting control = Unit {0}

pub always_row : (Q : Control → Type 0) (instr : Instr) (setting : Setting) (control : Control) → Carries Q →
    Q control → CallHas Q instr setting control → Always Q (row instr setting control)
always_row Q (Lui rd imm) setting control k h call = k.goes control h
always_row Q (Auipc rd imm) setting control k h call = k.goes control h
always_row Q (Jal rd offset) setting control k h call =
    always_links Q rd ((control.pc + word_of offset) % 2 ^ 32) control k h
always_row Q (Jalr rd rs1 imm) setting control k h call = λ target. always_links Q rd target control k h
always_row Q (Branch kind rs1 rs2 offset) setting control k h call =
    λ taken. always_branches Q taken (word_of offset) control k h
always_row Q (Load kind rd rs1 imm) setting control k h call =
    λ address. always_load Q kind rd setting control address k h
always_row Q (StoreInstr kind rs1 rs2 imm) setting control k h call =
    λ address. always_store_checked Q kind setting control address k h
always_row Q (OpImm kind rd rs1 imm) setting control k h call = k.goes control h
always_row Q (Op kind rd rs1 rs2) setting control k h call = k.goes control h
always_row Q (Fence rd rs1 imm) setting control k h call = k.goes control h
always_row Q Ecall setting control k h call = call
always_row Q Ebreak setting control k h call = k.stopped (Breakpoint control.pc) control h

-- ---- calls

pub record CarriesCalls (Q : Control → Type 0) : Type 0 where
  pub publics : (control : Control) → Q control → Q (public_taken control)
  pub secrets : (control : Control) → Q control → Q (secret_taken control)
  pub breaks : (value : ℕ) (control : Control) → Q control → Q (break_moved value control)
  pub emits : (byte : ℕ) (control : Control) → Q control → Q (emitted byte control)
  pub exited : (status : ℕ) (control : Control) → Q control → Q (ended (Exited status) control)

always_public : (count : ℕ) (Q : Control → Type 0) (to answer : ℕ) (input : List ℕ) (control : Control) → Carries Q →
    CarriesCalls Q → Q control → Always Q (public_reads count to answer input control)
unfolding public_reads
always_public zero Q to answer input control k j h = k.goes control h
always_public (suc count) Q to answer input control k j h =
    always_public count Q (to + 1) answer input (public_taken control) k j (j.publics control h)

always_reads : (count : ℕ) (Q : Control → Type 0) (to answer : ℕ) (control : Control) → Carries Q → CarriesCalls Q →
    Q control → Always Q (secret_reads count to answer control)
unfolding secret_reads
always_reads zero Q to answer control k j h = k.goes control h
always_reads (suc count) Q to answer control k j h =
    always_reads count Q (to + 1) answer (secret_taken control) k j (j.secrets control h)

always_writes : (count : ℕ) (Q : Control → Type 0) (from answer : ℕ) (control : Control) → Carries Q →
    CarriesCalls Q → Q control → Always Q (writes count from answer control)
unfolding writes
always_writes zero Q from answer control k j h = k.goes control h
always_writes (suc count) Q from answer control k j h =
    λ byte. always_writes count Q (from + 1) answer (emitted byte control) k j (j.emits byte control h)

always_planned : (Q : Control → Type 0) (plan : CallPlan) (setting : Setting) (control : Control) → Carries Q →
    CarriesCalls Q → Q control → Always Q (planned plan setting control)
always_planned Q (Answer answer) setting control k j h = k.goes control h
always_planned Q (PublicRead to count) setting control k j h =
    always_public count Q to count setting.public_input control k j h
always_planned Q (SecretRead to count) setting control k j h = always_reads count Q to count control k j h
always_planned Q (Write from count) setting control k j h = always_writes count Q from count control k j h
always_planned Q (Brk value) setting control k j h = k.goes (break_moved value control) (j.breaks value control h)
always_planned Q Exit setting control k j h = λ status. j.exited status control h
always_planned Q (Stop fault) setting control k j h = k.stopped fault control h

always_kind : (Q : Control → Type 0) (kind : CallKind) (setting : Setting) (control : Control) → Carries Q →
    CarriesCalls Q → Q control → Always Q (kind_row kind setting control)
always_kind Q Read setting control k j h =
    λ first second third. always_planned Q (read_plan setting control first second third) setting control k j h
always_kind Q WriteCall setting control k j h =
    λ first second third. always_planned Q (write_plan setting control first second third) setting control k j h
always_kind Q ExitCall setting control k j h = always_planned Q Exit setting control k j h
always_kind Q BrkCall setting control k j h =
    λ request. always_planned Q (break_plan setting control request) setting control k j h
always_kind Q Unknown setting control k j h = always_planned Q (Answer unknown_call) setting control k j h

pub call_has : (Q : Control → Type 0) (instr : Instr) (setting : Setting) (control : Control) → Carries Q →
    CarriesCalls Q → Q control → CallHas Q instr setting control
call_has Q Ecall setting control k j h = λ number. always_kind Q (call_kind number) setting control k j h
call_has Q (Lui rd imm) setting control k j h = tt
call_has Q (Auipc rd imm) setting control k j h = tt
call_has Q (Jal rd offset) setting control k j h = tt
call_has Q (Jalr rd rs1 imm) setting control k j h = tt
call_has Q (Branch kind rs1 rs2 offset) setting control k j h = tt
call_has Q (Load kind rd rs1 imm) setting control k j h = tt
call_has Q (StoreInstr kind rs1 rs2 imm) setting control k j h = tt
call_has Q (OpImm kind rd rs1 imm) setting control k j h = tt
call_has Q (Op kind rd rs1 rs2) setting control k j h = tt
call_has Q (Fence rd rs1 imm) setting control k j h = tt
call_has Q Ebreak setting control k j h = tt

-- ---- a step

always_fetched : (Q : Control → Type 0) (instr : Option Instr) (word : ℕ) (setting : Setting) (control : Control) →
    Carries Q → CarriesCalls Q → Q control → Always Q (fetched instr word setting control)
always_fetched Q None word setting control k j h = k.stopped (Illegal control.pc word) control h
always_fetched Q (Some instr) word setting control k j h =
    always_row Q instr setting control k h (call_has Q instr setting control k j h)

pub always_turn : (Q : Control → Type 0) (mode : Stepped) (setting : Setting) (control : Control) → Carries Q →
    CarriesCalls Q → Q control → Always Q (turn_in mode setting control)
always_turn Q Ran setting control k j h =
    either Q (is_inside setting.base control.pc 4) _ _
    (λ word. always_fetched Q (decoded word) word setting control k j h)
    (k.stopped (FetchOutside control.pc) control h)
always_turn Q (Exited status) setting control k j h = h
always_turn Q (Stopped fault) setting control k j h = h

pub step_ends : (Q : Control → Type 0) (P : State → Type 0) (state : State) → Carries Q → CarriesCalls Q →
    Follows Q P state.setting state.store.kept → Q state.control → AtEnds P (walk_of state)
step_ends Q P state k j f h =
    ends_walked Q P state.setting state.secret state.store.kept
    (turn_in state.control.mode state.setting state.control) state.store none_held f refl
    (always_turn Q state.control.mode state.setting state.control k j h)

-- ---- the end of a real turn

pub real_at_end : (P : State → Type 0) (walk : Walk) → AtEnds P walk → P (real_end walk)
unfolding real_end
real_at_end P (Looked seen value walk) h = real_at_end P walk h
real_at_end P (Passed passing go) h = real_at_end P (go passing.value) (h passing.value)
real_at_end P (Moved place shape source value walk) h = real_at_end P walk h
real_at_end P (Saved walk) h = real_at_end P walk h
real_at_end P (Restored registers walk back) h = real_at_end P walk h.0
real_at_end P (Ended state) h = h
