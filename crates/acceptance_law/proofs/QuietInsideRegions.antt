-- Inside a region that it does not break the turn of an instruction changes of the control the address and the mode
-- alone.
use Rattle.std.proofs.Common.{◌≡◌, ℕ, ◌+◌, ◌%◌, ◌^◌, List, refl}
use Rattle.std.proofs.Common.{Bool, true, false, Option, Some, None, if◌then◌else◌}
use Rattle.rv32im_decode.specs.declared.instructions.Instr.{Instr}
use Rattle.rv32im_decode.specs.declared.instructions.Instr.TheVariants.{Lui, Auipc, Jal, Jalr, Branch, Load}
use Rattle.rv32im_decode.specs.declared.instructions.Instr.TheVariants.{Store as StoreInstr, OpImm, Op, Fence, Ecall}
use Rattle.rv32im_decode.specs.declared.instructions.Instr.TheVariants.{Ebreak}
use Rattle.rv32im_decode.specs.Decoding.{decoded}
use Rattle.flow_base.specs.Guests.{is_inside}
use Rattle.rv32im_machine.specs.declared.language.Seen.TheVariants.{Word}
use Rattle.rv32im_machine.specs.declared.stepping.Stepped.{Stepped}
use Rattle.rv32im_machine.specs.declared.stepping.Stepped.TheVariants.{Ran, Exited, Stopped}
use Rattle.rv32im_machine.specs.State.{State, Setting, Control, Store, onward, moved_to, ended, word_at}
use Rattle.rv32im_machine.specs.Language.{Turn, Looks, Walk, none_held, walked}
use Rattle.rv32im_machine.specs.Rows.{fetched, row, stops, turn_in, walk_of}
use Rattle.rv32im_machine.specs.Folds.{real_end}
use Rattle.rv32im_machine.specs.declared.stepping.Fault.TheVariants.{FetchOutside, Illegal}
use Rattle.enclosure_regions.specs.declared.region_parts.Region.{Region}
use Rattle.region_machine.specs.Breaking.{walk_break}
use Rattle.region_machine.specs.Runs.{has_exited}
use Rattle.region_machine.proofs.CarriedToEnds.{Always, Carries, CallHas, always_row, ends_walked, real_at_end}

-- all but the address and the mode is as it was
pub record SameInside (before control : Control) : Type 0 where
  pub public_at : control.public_at ≡ before.public_at
  pub secret_at : control.secret_at ≡ before.secret_at
  pub current_break : control.current_break ≡ before.current_break
  pub output : control.output ≡ before.output
  pub region : control.region ≡ before.region

abbrev pub IsQuiet : Control → State → Type 0
IsQuiet before state = SameInside before state.control

same_fields : (before control : Control) (pc : ℕ) (mode : Stepped) → SameInside before control →
    SameInside before (record {
      pc = pc;
      public_at = control.public_at;
      secret_at = control.secret_at;
      current_break = control.current_break;
      output = control.output;
      mode = mode;
      region = control.region;
    })
same_fields before control pc mode h = record {
  public_at = h.public_at;
  secret_at = h.secret_at;
  current_break = h.current_break;
  output = h.output;
  region = h.region;
}

carries_inside : (before : Control) → Carries (SameInside before)
unfolding onward moved_to ended
carries_inside before = record {
  goes = λ control h. same_fields before control ((control.pc + 4) % 2 ^ 32) control.mode h;
  jumped = λ pc control h. same_fields before control pc control.mode h;
  stopped = λ fault control h. same_fields before control control.pc (Stopped fault) h;
}

end_quiet : (before : Control) (setting : Setting) (secret : List ℕ) (turn : Turn) (store : Store) →
    Always (SameInside before) turn → IsQuiet before (real_end (walked setting secret turn store none_held))
end_quiet before setting secret turn store h =
    real_at_end (IsQuiet before) (walked setting secret turn store none_held)
    (ends_walked (SameInside before) (IsQuiet before) setting secret store.kept turn store none_held
    (λ other control held e g. g) refl h)

-- the turn breaks nothing
abbrev pub Unbroken : Region → List ℕ → ℕ → Walk → Type 0
Unbroken region registers pc walk = walk_break region registers pc walk ≡ None

plain_quiet : (before : Control) (instr : Instr) (setting : Setting) (secret : List ℕ) (control : Control)
    (store : Store) →
    SameInside before control → CallHas (SameInside before) instr setting control →
    IsQuiet before (real_end (walked setting secret (row instr setting control) store none_held))
plain_quiet before instr setting secret control store h call =
    end_quiet before setting secret (row instr setting control) store
    (always_row (SameInside before) instr setting control (carries_inside before) h call)

row_quiet : (before : Control) (region : Region) (registers : List ℕ) (pc : ℕ) (instr : Instr) (setting : Setting)
    (secret : List ℕ)
    (control : Control) (store : Store) → SameInside before control →
    Unbroken region registers pc (walked setting secret (row instr setting control) store none_held) →
    IsQuiet before (real_end (walked setting secret (row instr setting control) store none_held))
unfolding walked walk_break
row_quiet before region registers pc Ecall setting secret control store h unbroken = absurd (cc)
row_quiet before region registers pc (Lui rd imm) setting secret control store h unbroken =
    plain_quiet before (Lui rd imm) setting secret control store h tt
row_quiet before region registers pc (Auipc rd imm) setting secret control store h unbroken =
    plain_quiet before (Auipc rd imm) setting secret control store h tt
row_quiet before region registers pc (Jal rd offset) setting secret control store h unbroken =
    plain_quiet before (Jal rd offset) setting secret control store h tt
row_quiet before region registers pc (Jalr rd rs1 imm) setting secret control store h unbroken =
    plain_quiet before (Jalr rd rs1 imm) setting secret control store h tt
row_quiet before region registers pc (Branch kind rs1 rs2 offset) setting secret control store h unbroken =
    plain_quiet before (Branch kind rs1 rs2 offset) setting secret control store h tt
row_quiet before region registers pc (Load kind rd rs1 imm) setting secret control store h unbroken =
    plain_quiet before (Load kind rd rs1 imm) setting secret control store h tt
row_quiet before region registers pc (StoreInstr kind rs1 rs2 imm) setting secret control store h unbroken =
    plain_quiet before (StoreInstr kind rs1 rs2 imm) setting secret control store h tt
row_quiet before region registers pc (OpImm kind rd rs1 imm) setting secret control store h unbroken =
    plain_quiet before (OpImm kind rd rs1 imm) setting secret control store h tt
row_quiet before region registers pc (Op kind rd rs1 rs2) setting secret control store h unbroken =
    plain_quiet before (Op kind rd rs1 rs2) setting secret control store h tt
row_quiet before region registers pc (Fence rd rs1 imm) setting secret control store h unbroken =
    plain_quiet before (Fence rd rs1 imm) setting secret control store h tt
row_quiet before region registers pc Ebreak setting secret control store h unbroken =
    plain_quiet before Ebreak setting secret control store h tt

fetched_quiet : (before : Control) (region : Region) (registers : List ℕ) (pc : ℕ) (found : Option Instr) (word : ℕ)
    (setting : Setting)
    (secret : List ℕ) (control : Control) (store : Store) → SameInside before control →
    Unbroken region registers pc (walked setting secret (fetched found word setting control) store none_held) →
    IsQuiet before (real_end (walked setting secret (fetched found word setting control) store none_held))
unfolding ended
fetched_quiet before region registers pc None word setting secret control store h unbroken =
    end_quiet before setting secret (fetched None word setting control) store
    ((carries_inside before).stopped (Illegal control.pc word) control h)
fetched_quiet before region registers pc (Some instr) word setting secret control store h unbroken =
    row_quiet before region registers pc instr setting secret control store h unbroken

tested_quiet : (before : Control) (test : Bool) (region : Region) (registers : List ℕ) (pc : ℕ) (setting : Setting)
    (secret : List ℕ)
    (control : Control) (store : Store) → SameInside before control →
    Unbroken region registers pc
    (walked setting secret
    (if test then Looks (Word control.pc) (λ word. fetched (decoded word) word setting control)
    else stops (FetchOutside control.pc) control) store none_held) →
    IsQuiet before (real_end (walked setting secret
    (if test then Looks (Word control.pc) (λ word. fetched (decoded word) word setting control)
    else stops (FetchOutside control.pc) control) store none_held))
unfolding walked walk_break real_end ended
tested_quiet before true region registers pc setting secret control store h unbroken =
    fetched_quiet before region registers pc (decoded (word_at setting.base store control.pc))
    (word_at setting.base store control.pc) setting secret control store h unbroken
tested_quiet before false region registers pc setting secret control store h unbroken =
    (carries_inside before).stopped (FetchOutside control.pc) control h

turn_quiet : (before : Control) (mode : Stepped) (region : Region) (registers : List ℕ) (pc : ℕ) (setting : Setting)
    (secret : List ℕ)
    (control : Control) (store : Store) → has_exited mode ≡ false → SameInside before control →
    Unbroken region registers pc (walked setting secret (turn_in mode setting control) store none_held) →
    IsQuiet before (real_end (walked setting secret (turn_in mode setting control) store none_held))
unfolding walked real_end
turn_quiet before Ran region registers pc setting secret control store on h unbroken =
    tested_quiet before (is_inside setting.base control.pc 4) region registers pc setting secret control store h
    unbroken
turn_quiet before (Exited status) region registers pc setting secret control store on h unbroken = absurd (cc)
turn_quiet before (Stopped fault) region registers pc setting secret control store on h unbroken = h

-- a step in whose turn nothing breaks a region
pub step_quiet : (region : Region) (registers : List ℕ) (pc : ℕ) (state : State) →
    has_exited state.control.mode ≡ false → walk_break region registers pc (walk_of state) ≡ None →
    SameInside state.control (real_end (walk_of state)).control
step_quiet region registers pc state on unbroken =
    turn_quiet state.control state.control.mode region registers pc state.setting state.secret state.control state.store
    on (record { public_at = refl; secret_at = refl; current_break = refl; output = refl; region = refl }) unbroken
