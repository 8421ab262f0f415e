-- A turn inside a region that breaks nothing does not end the run by an exit.
use Rattle.std.proofs.Common.{◌≡◌, ℕ, List, refl}
use Rattle.std.proofs.Common.{Bool, true, false, Option, Some, None, if◌then◌else◌}
use Rattle.rv32im_decode.specs.declared.instructions.Instr.{Instr}
use Rattle.rv32im_decode.specs.declared.instructions.Instr.TheVariants.{Lui, Auipc, Jal, Jalr, Branch, Load}
use Rattle.rv32im_decode.specs.declared.instructions.Instr.TheVariants.{Store as StoreInstr, OpImm, Op, Fence, Ecall}
use Rattle.rv32im_decode.specs.declared.instructions.Instr.TheVariants.{Ebreak}
use Rattle.rv32im_decode.specs.Decoding.{decoded}
use Rattle.flow_base.specs.Guests.{is_inside}
use Rattle.rv32im_machine.specs.declared.language.Seen.TheVariants.{Word}
use Rattle.rv32im_machine.specs.declared.stepping.Stepped.{Stepped}
use Rattle.rv32im_machine.specs.declared.stepping.Stepped.TheVariants.{Ran, Exited, Stopped}
use Rattle.rv32im_machine.specs.State.{State, Setting, Control, Store, onward, moved_to, entered, ended, word_at}
use Rattle.rv32im_machine.specs.Language.{Turn, Looks, Walk, none_held, walked}
use Rattle.rv32im_machine.specs.Rows.{fetched, row, stops, turn_in, walk_of}
use Rattle.rv32im_machine.specs.Folds.{real_end}
use Rattle.rv32im_machine.specs.declared.stepping.Fault.TheVariants.{FetchOutside}
use Rattle.enclosure_regions.specs.declared.region_parts.Region.{Region}
use Rattle.region_machine.specs.Enclosures.{Enclosures, Kind, Enters, Leaves, Steps, is_enclosed, is_enclosed_kind}
use Rattle.region_machine.specs.Enclosures.{kind_in, kind_of}
use Rattle.region_machine.specs.Guests.{guest_walk, kind_walk}
use Rattle.region_machine.specs.Breaking.{Breaks, kind_break, walk_break}
use Rattle.region_machine.specs.Runs.{has_exited}
use Rattle.region_machine.proofs.CarriedToEnds.{Always, Carries, CallHas, always_row, ends_walked, real_at_end}
use Rattle.region_machine.proofs.OutputGrows.{entry_ends}

abbrev pub GoesOn : Control → Type 0
GoesOn control = has_exited control.mode ≡ false

abbrev pub IsOn : State → Type 0
IsOn state = GoesOn state.control

carries_on : Carries GoesOn
unfolding onward moved_to ended
carries_on = record { goes = λ control h. h; jumped = λ pc control h. h; stopped = λ fault control h. refl }

-- what goes on at each end of a turn goes on at the end of the real one
runs_on : (setting : Setting) (secret : List ℕ) (turn : Turn) (store : Store) → Always GoesOn turn →
    IsOn (real_end (walked setting secret turn store none_held))
runs_on setting secret turn store h =
    real_at_end IsOn (walked setting secret turn store none_held)
    (ends_walked GoesOn IsOn setting secret store.kept turn store none_held (λ other control held e g. g) refl h)

-- the turn breaks nothing
abbrev pub Unbroken : Region → List ℕ → ℕ → Walk → Type 0
Unbroken region registers pc walk = walk_break region registers pc walk ≡ None

plain_runs_on : (instr : Instr) (setting : Setting) (secret : List ℕ) (control : Control) (store : Store) →
    GoesOn control → CallHas GoesOn instr setting control →
    IsOn (real_end (walked setting secret (row instr setting control) store none_held))
plain_runs_on instr setting secret control store h call =
    runs_on setting secret (row instr setting control) store
    (always_row GoesOn instr setting control carries_on h call)

row_runs_on : (region : Region) (registers : List ℕ) (pc : ℕ) (instr : Instr) (setting : Setting) (secret : List ℕ)
    (control : Control) (store : Store) → GoesOn control →
    Unbroken region registers pc (walked setting secret (row instr setting control) store none_held) →
    IsOn (real_end (walked setting secret (row instr setting control) store none_held))
unfolding walked walk_break
row_runs_on region registers pc Ecall setting secret control store h unbroken = absurd (cc)
row_runs_on region registers pc (Lui rd imm) setting secret control store h unbroken =
    plain_runs_on (Lui rd imm) setting secret control store h tt
row_runs_on region registers pc (Auipc rd imm) setting secret control store h unbroken =
    plain_runs_on (Auipc rd imm) setting secret control store h tt
row_runs_on region registers pc (Jal rd offset) setting secret control store h unbroken =
    plain_runs_on (Jal rd offset) setting secret control store h tt
row_runs_on region registers pc (Jalr rd rs1 imm) setting secret control store h unbroken =
    plain_runs_on (Jalr rd rs1 imm) setting secret control store h tt
row_runs_on region registers pc (Branch kind rs1 rs2 offset) setting secret control store h unbroken =
    plain_runs_on (Branch kind rs1 rs2 offset) setting secret control store h tt
row_runs_on region registers pc (Load kind rd rs1 imm) setting secret control store h unbroken =
    plain_runs_on (Load kind rd rs1 imm) setting secret control store h tt
row_runs_on region registers pc (StoreInstr kind rs1 rs2 imm) setting secret control store h unbroken =
    plain_runs_on (StoreInstr kind rs1 rs2 imm) setting secret control store h tt
row_runs_on region registers pc (OpImm kind rd rs1 imm) setting secret control store h unbroken =
    plain_runs_on (OpImm kind rd rs1 imm) setting secret control store h tt
row_runs_on region registers pc (Op kind rd rs1 rs2) setting secret control store h unbroken =
    plain_runs_on (Op kind rd rs1 rs2) setting secret control store h tt
row_runs_on region registers pc (Fence rd rs1 imm) setting secret control store h unbroken =
    plain_runs_on (Fence rd rs1 imm) setting secret control store h tt
row_runs_on region registers pc Ebreak setting secret control store h unbroken =
    plain_runs_on Ebreak setting secret control store h tt

fetched_runs_on : (region : Region) (registers : List ℕ) (pc : ℕ) (found : Option Instr) (word : ℕ) (setting : Setting)
    (secret : List ℕ) (control : Control) (store : Store) → GoesOn control →
    Unbroken region registers pc (walked setting secret (fetched found word setting control) store none_held) →
    IsOn (real_end (walked setting secret (fetched found word setting control) store none_held))
unfolding ended
fetched_runs_on region registers pc None word setting secret control store h unbroken =
    runs_on setting secret (fetched None word setting control) store refl
fetched_runs_on region registers pc (Some instr) word setting secret control store h unbroken =
    row_runs_on region registers pc instr setting secret control store h unbroken

tested_runs_on : (test : Bool) (region : Region) (registers : List ℕ) (pc : ℕ) (setting : Setting) (secret : List ℕ)
    (control : Control) (store : Store) → GoesOn control →
    Unbroken region registers pc
    (walked setting secret
    (if test then Looks (Word control.pc) (λ word. fetched (decoded word) word setting control)
    else stops (FetchOutside control.pc) control) store none_held) →
    IsOn (real_end (walked setting secret
    (if test then Looks (Word control.pc) (λ word. fetched (decoded word) word setting control)
    else stops (FetchOutside control.pc) control) store none_held))
unfolding walked walk_break real_end ended
tested_runs_on true region registers pc setting secret control store h unbroken =
    fetched_runs_on region registers pc (decoded (word_at setting.base store control.pc))
    (word_at setting.base store control.pc) setting secret control store h unbroken
tested_runs_on false region registers pc setting secret control store h unbroken = refl

turn_runs_on : (mode : Stepped) (region : Region) (registers : List ℕ) (pc : ℕ) (setting : Setting) (secret : List ℕ)
    (control : Control) (store : Store) → has_exited mode ≡ false → GoesOn control →
    Unbroken region registers pc (walked setting secret (turn_in mode setting control) store none_held) →
    IsOn (real_end (walked setting secret (turn_in mode setting control) store none_held))
unfolding walked real_end
turn_runs_on Ran region registers pc setting secret control store on h unbroken =
    tested_runs_on (is_inside setting.base control.pc 4) region registers pc setting secret control store h unbroken
turn_runs_on (Exited status) region registers pc setting secret control store on h unbroken = absurd (cc)
turn_runs_on (Stopped fault) region registers pc setting secret control store on h unbroken = h

-- a step in whose turn nothing breaks a region
pub step_runs_on : (region : Region) (registers : List ℕ) (pc : ℕ) (state : State) →
    has_exited state.control.mode ≡ false → walk_break region registers pc (walk_of state) ≡ None →
    has_exited (real_end (walk_of state)).control.mode ≡ false
step_runs_on region registers pc state on unbroken =
    turn_runs_on state.control.mode region registers pc state.setting state.secret state.control state.store on on
    unbroken

-- ---- the turns inside a skipped region

abbrev pub IsSteps : Kind → Type 0
IsSteps (Enters region) = Unit {0}
IsSteps (Leaves region) = Unit {0}
IsSteps (Steps None) = ⊥
IsSteps (Steps (Some region)) = Unit {0}

runs : (mode : Stepped) (regions : List Region) (control : Control) → IsSteps (kind_in mode regions control) →
    has_exited mode ≡ false
runs Ran regions control h = refl
runs (Exited status) regions control h = absurd h
runs (Stopped fault) regions control h = absurd h

entry_runs_on : (state : State) (region : Region) → has_exited state.control.mode ≡ false →
    IsOn (real_end (kind_walk (Enters region) state))
unfolding entered
entry_runs_on state region on = real_at_end IsOn _ (entry_ends IsOn state region on)

kind_runs_on : (enclosures : Enclosures) (kind : Kind) (state : State) → is_enclosed_kind enclosures kind ≡ true →
    (IsSteps kind → has_exited state.control.mode ≡ false) → kind_break kind state ≡ None →
    has_exited (real_end (kind_walk kind state)).control.mode ≡ false
kind_runs_on enclosures (Enters region) state enclosed on unbroken = entry_runs_on state region (on tt)
kind_runs_on enclosures (Leaves region) state enclosed on unbroken = absurd (cc)
kind_runs_on enclosures (Steps None) state enclosed on unbroken = absurd (cc)
kind_runs_on enclosures (Steps (Some region)) state enclosed on unbroken =
    step_runs_on region state.store.kept state.control.pc state (on tt) unbroken

-- the entry of a skipped region and a step inside it do not exit, unless the region is broken
pub enclosed_runs_on : (enclosures : Enclosures) (state : State) → is_enclosed enclosures state.control ≡ true →
    Breaks enclosures.regions state ≡ None →
    has_exited (real_end (guest_walk enclosures.regions state)).control.mode ≡ false
enclosed_runs_on enclosures state enclosed unbroken =
    kind_runs_on enclosures (kind_of enclosures.regions state.control) state enclosed
    (λ kind. runs state.control.mode enclosures.regions state.control kind) unbroken
