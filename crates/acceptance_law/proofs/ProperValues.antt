-- What an operation computes of words is a word, and a truth where it decides.
use Rattle.std.proofs.Common.{ℕ, ◌+◌, ◌%◌, ◌^◌, ◌≤◌, ◌<◌, ◌∷◌, [], Bool, true, false, ℤ, pos, negsuc, arith}
use Rattle.std.proofs.lemmas.Nat.{and_le_l, or_lt, xor_lt}
use Rattle.std.proofs.lemmas.Int.{ints}
use Rattle.std.specs.Prelude.{◌≤ℤ◌, ◌<ℤ◌, int_lt, nat_lt, MatchBool, if◌then◌else◌}
use Rattle.rv32im_decode.specs.declared.instructions.ImmKind.{ImmKind}
use Rattle.rv32im_decode.specs.Encoding.{IsWithin, IsImmediate}
use Rattle.rv32im_decode.specs.Listings.{is_shift}
use Rattle.rv32im_decode.specs.Operations.{signed}
use Rattle.rv32im_decode.specs.declared.instructions.BranchKind.{BranchKind}
use Rattle.rv32im_decode.specs.declared.instructions.LoadKind.{LoadKind}
use Rattle.rv32im_decode.specs.declared.instructions.LoadKind.TheVariants.{Lb, Lh, Lw, Lbu, Lhu}
use Rattle.rv32im_decode.specs.declared.instructions.OpKind.{OpKind}
use Rattle.rv32im_decode.specs.declared.instructions.OpKind.TheVariants.{Add, Sub, Sll, Slt, Sltu, Xor, Srl, Sra, Or}
use Rattle.rv32im_decode.specs.declared.instructions.OpKind.TheVariants.{And, Mul, Mulh, Mulhsu, Mulhu, Div, Divu}
use Rattle.rv32im_decode.specs.declared.instructions.OpKind.TheVariants.{Rem, Remu}
use Rattle.rv32im_decode.specs.Operations.{word_of, op_result, is_taken, word_of_truth}
use Rattle.rv32im_decode.specs.Operations.{target_of, extended}
use Rattle.rv32im_machine.specs.declared.language.Operation.{Operation}
use Rattle.rv32im_machine.specs.declared.language.Operation.TheVariants.{Result, Decision, Target}
use Rattle.rv32im_machine.specs.declared.language.Part.{Part}
use Rattle.rv32im_machine.specs.declared.language.Part.TheVariants.{Byte0, Byte1, Byte2, Byte3}
use Rattle.rv32im_machine.specs.Language.{computed, part_of}
use Rattle.rv32im_machine.specs.State.{joined}
use Rattle.transfer_rules.proofs.Results.{div_fits, divu_fits, mulh_fits, mulhsu_fits, mulhu_fits, rem_fits, remu_fits}
use Rattle.transfer_rules.proofs.Results.{truth_fits}
use Rattle.transfer_rules.proofs.Shifts.{left_fits, right_fits, signed_fits}
use Rattle.acceptance_law.specs.Inputs.{operation_limit}

-- ---- the immediates of instructions, as words

pub fits_12 : (number : ℤ) → IsWithin (2 ^ 11) number → word_of number < 2 ^ 32
fits_12 (pos n) (low, high) = grind (arith, ints)
fits_12 (negsuc n) (low, high) = grind (arith, ints)

pub fits_13 : (number : ℤ) → IsWithin (2 ^ 12) number → word_of number < 2 ^ 32
fits_13 (pos n) (low, high) = grind (arith, ints)
fits_13 (negsuc n) (low, high) = grind (arith, ints)

pub fits_21 : (number : ℤ) → IsWithin (2 ^ 20) number → word_of number < 2 ^ 32
fits_21 (pos n) (low, high) = grind (arith, ints)
fits_21 (negsuc n) (low, high) = grind (arith, ints)

fits_shift : (number : ℤ) → pos 0 ≤ℤ number → number <ℤ pos 32 → word_of number < 2 ^ 32
fits_shift (pos n) low high = grind (arith, ints)
fits_shift (negsuc n) low high = grind (arith, ints)

fits_either : (shift : Bool) (number : ℤ) →
    MatchBool shift ((pos 0 ≤ℤ number) × (number <ℤ pos 32)) (IsWithin (2 ^ 11) number) → word_of number < 2 ^ 32
fits_either true number known = fits_shift number known.0 known.1
fits_either false number known = fits_12 number known

pub fits_immediate : (kind : ImmKind) (number : ℤ) → IsImmediate kind number → word_of number < 2 ^ 32
fits_immediate kind number known = fits_either (is_shift kind) number known

-- ---- operations

truth_word : (truth : Bool) → word_of_truth truth < 2 ^ 32
truth_word truth = let fits = truth_fits truth in omega (arith, fits)

pub result_fits : (kind : OpKind) (first second : ℕ) → first < 2 ^ 32 → second < 2 ^ 32 →
    op_result kind first second < 2 ^ 32
result_fits Add first second p q = omega arith
result_fits Sub first second p q = omega arith
result_fits Sll first second p q = left_fits first (second % 32) p
result_fits Slt first second p q = truth_word (int_lt (signed first) (signed second))
result_fits Sltu first second p q = truth_word (nat_lt first second)
result_fits Xor first second p q = xor_lt 32 first second p q
result_fits Srl first second p q = right_fits first (second % 32) p
result_fits Sra first second p q = signed_fits first (second % 32) p
result_fits Or first second p q = or_lt 32 first second p q
result_fits And first second p q = omega (arith, p, and_le_l first second)
result_fits Mul first second p q = omega arith
result_fits Mulh first second p q = mulh_fits first second p q
result_fits Mulhsu first second p q = mulhsu_fits first second p q
result_fits Mulhu first second p q = mulhu_fits first second p q
result_fits Div first second p q = div_fits first second p
result_fits Divu first second p q = divu_fits first second p
result_fits Rem first second p q = rem_fits first second p
result_fits Remu first second p q = remu_fits first second p

decision_fits : (kind : BranchKind) (first second : ℕ) → word_of_truth (is_taken kind first second) ≤ 1
decision_fits kind first second = let truth = truth_fits (is_taken kind first second) in omega (arith, truth)

target_fits : (first immediate : ℕ) → target_of first immediate ≤ 4294967295
target_fits first immediate = omega arith

pub computed_fits : (operation : Operation) (first second : ℕ) → first < 2 ^ 32 → second < 2 ^ 32 →
    computed operation first second ≤ operation_limit operation
computed_fits (Result kind) first second p q = let fits = result_fits kind first second p q in omega (arith, fits)
computed_fits (Decision kind) first second p q = decision_fits kind first second
computed_fits Target first second p q = target_fits first second

pub part_fits : (part : Part) (word : ℕ) → part_of part word ≤ 255
part_fits Byte0 word = omega arith
part_fits Byte1 word = omega arith
part_fits Byte2 word = omega arith
part_fits Byte3 word = omega arith

-- ---- loads

low_byte : (number : ℕ) → extended Lb number ≤ 4294967295
low_byte number = pick (nat_lt (number % 256) 128)
  where
    pick : (test : Bool) → (if test then number % 256 else number % 256 + 4294967040) ≤ 4294967295
    pick true = omega arith
    pick false = omega arith

low_half : (number : ℕ) → extended Lh number ≤ 4294967295
low_half number = pick (nat_lt (number % 65536) 32768)
  where
    pick : (test : Bool) → (if test then number % 65536 else number % 65536 + 4294901760) ≤ 4294967295
    pick true = omega arith
    pick false = omega arith

extended_fits : (kind : LoadKind) (number : ℕ) → number < 2 ^ 32 → extended kind number ≤ 4294967295
extended_fits Lb number word = low_byte number
extended_fits Lh number word = low_half number
extended_fits Lw number word = omega arith
extended_fits Lbu number word = omega arith
extended_fits Lhu number word = omega arith

pub byte_fits : (kind : LoadKind) (a : ℕ) → a ≤ 255 → extended kind (joined (a ∷ [])) ≤ 4294967295
byte_fits kind a p = extended_fits kind (joined (a ∷ [])) (omega arith)

pub half_fits : (kind : LoadKind) (a b : ℕ) → a ≤ 255 → b ≤ 255 → extended kind (joined (a ∷ b ∷ [])) ≤ 4294967295
half_fits kind a b p q = extended_fits kind (joined (a ∷ b ∷ [])) (omega arith)

pub whole_fits : (kind : LoadKind) (a b c d : ℕ) → a ≤ 255 → b ≤ 255 → c ≤ 255 → d ≤ 255 →
    extended kind (joined (a ∷ b ∷ c ∷ d ∷ [])) ≤ 4294967295
whole_fits kind a b c d p q r s = extended_fits kind (joined (a ∷ b ∷ c ∷ d ∷ [])) (omega arith)
