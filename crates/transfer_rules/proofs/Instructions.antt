-- From the classes to the instructions, and from sums to addresses and the targets of JALR.
use Rattle.std.proofs.Common.{◌≡◌, ℕ, ℤ, zero, suc, ◌-◌, ◌/◌, ◌%◌, ◌^◌, ◌<◌, refl, sym, ap, ◌∙◌, arith, unwrap_or, Some}
use Rattle.std.proofs.Common.{SFits, w32}
use Rattle.std.specs.Int.{bit_at}
use Rattle.std.proofs.Math.Facts.{Fits-lt-pow, Fits-of_z}
use Rattle.std.proofs.lemmas.Nat.Bits.{bit_at_lowest, bit_at-suc}
use Rattle.flow_base.specs.Words.{Agree}
use Rattle.rv32im_decode.specs.declared.instructions.Instr.{Instr}
use Rattle.rv32im_decode.specs.declared.instructions.Instr.TheVariants.{Branch, OpImm, Op}
use Rattle.rv32im_decode.specs.Operations.{address_of, operation_of, target_of, word_of}
use Rattle.transfer_rules.specs.declared.classes.Class.{Class}
use Rattle.transfer_rules.specs.declared.classes.Class.TheVariants.{Add}
use Rattle.transfer_rules.specs.declared.operands.Operands.{Operands}
use Rattle.transfer_rules.specs.Classes.{instruction_class}
use Rattle.transfer_rules.specs.Rules.{OfWords, OfBranch, OfAddress, computed}
use Rattle.transfer_rules.specs.Soundness.{IsSound, IsSoundSum, IsSoundTarget, KeepsMask}
use Rattle.transfer_rules.specs.Tables.{sum_operands}

inside : {first second : Class} → Some first ≡ Some second → first ≡ second
inside {first} e = ap (λ found. unwrap_or found first) e

-- a mask that is sound for the class of an instruction is sound for the instruction
pub keeps_by_class :
    (instr : Instr) (class : Class) (o : Operands) (mask : ℕ) → instruction_class instr ≡ Some class →
    IsSound class o mask → KeepsMask o mask (computed instr)
keeps_by_class (Op kind rd rs1 rs2) class o mask e sound = sound (OfWords kind) (inside e)
keeps_by_class (OpImm kind rd rs1 imm) class o mask e sound = sound (OfWords (operation_of kind)) (inside e)
keeps_by_class (Branch kind rs1 rs2 offset) class o mask e sound = sound (OfBranch kind) (inside e)
keeps_by_class other class o mask e sound = λ a b p q h k i none. refl

word_fits : (number : ℤ) → SFits w32 number → word_of number < 2 ^ 32
word_fits number fits = Fits-lt-pow (Fits-of_z fits)

-- a number without its lowest bit
lowest_cleared : (n : ℕ) → bit_at (n - n % 2) 0 ≡ 0
lowest_cleared n = bit_at_lowest (n - n % 2) ∙ omega arith

higher_kept : (n i : ℕ) → bit_at (n - n % 2) (suc i) ≡ bit_at n (suc i)
higher_kept n i =
    let half : (n - n % 2) / 2 ≡ n / 2 = omega arith in
    bit_at-suc (n - n % 2) i ∙ ap (λ x. bit_at x i) half ∙ sym (bit_at-suc n i)

pub agree_cleared : (m x y : ℕ) → Agree m x y → Agree (m - m % 2) (x - x % 2) (y - y % 2)
agree_cleared m x y h zero none = lowest_cleared x ∙ sym (lowest_cleared y)
agree_cleared m x y h (suc i) none =
    higher_kept x i ∙ h (suc i) (sym (higher_kept m i) ∙ none) ∙ sym (higher_kept y i)

-- without its lowest bit, the mask of a sum is sound for a target
pub target_by_sum :
    (o : Operands) (answer : ℕ) → IsSound Add o answer → KeepsMask o (answer - answer % 2) target_of
target_by_sum o answer sound first second p q h k =
    agree_cleared answer (address_of o.v1 o.v2) (address_of first second) (sound OfAddress refl first second p q h k)

-- the immediate of an address is known
pub sum_of_immediate :
    (first mask answer : ℕ) (immediate : ℤ) → SFits w32 immediate →
    IsSound Add (sum_operands first mask immediate) answer →
    IsSoundSum (word_of immediate) first mask answer
sum_of_immediate first mask answer immediate small sound other fits h =
    sound OfAddress refl other (word_of immediate) fits (word_fits immediate small) h (λ i none. refl)

pub target_of_immediate :
    (first mask answer : ℕ) (immediate : ℤ) → SFits w32 immediate →
    KeepsMask (sum_operands first mask immediate) answer target_of →
    IsSoundTarget (word_of immediate) first mask answer
target_of_immediate first mask answer immediate small keeps other fits h =
    keeps other (word_of immediate) fits (word_fits immediate small) h (λ i none. refl)
