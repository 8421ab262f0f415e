-- The instruction of a word has its fields in range, and its word is that word.
use Rattle.std.proofs.Common.{◌≡◌, ℕ, ◌<◌, ◌^◌, ◌+◌, ◌*◌, ◌==◌, arith, ap, sym, ◌∙◌, eqb-true}
use Rattle.std.specs.Prelude.{pos, ◌≤ℤ◌, ◌<ℤ◌, Option, Some, None, IfSome, option_map}
use Rattle.std.proofs.lemmas.Int.{ints}
use Rattle.rv32im_decode.specs.declared.instructions.Instr.{Instr}
use Rattle.rv32im_decode.specs.declared.instructions.Instr.TheVariants.{Lui, Auipc, Jal, Jalr, OpImm, Fence, Ecall}
use Rattle.rv32im_decode.specs.declared.instructions.Instr.TheVariants.{Ebreak}
use Rattle.rv32im_decode.specs.declared.instructions.ImmKind.{ImmKind}
use Rattle.rv32im_decode.specs.declared.instructions.ImmKind.TheVariants.{Addi, Slti, Sltiu, Xori, Ori, Andi, Slli}
use Rattle.rv32im_decode.specs.declared.instructions.ImmKind.TheVariants.{Srli, Srai}
use Rattle.rv32im_decode.specs.Formats.{sign_extended, bits_of, r_word, i_word, s_word}
use Rattle.rv32im_decode.specs.Formats.{b_word, j_word}
use Rattle.rv32im_decode.specs.Listings.{branch_funct3, load_funct3, store_funct3}
use Rattle.rv32im_decode.specs.Listings.{imm_funct3, op_funct3}
use Rattle.rv32im_decode.specs.Encoding.{InRange, IsWithin, IsImmediate, encoded}
use Rattle.rv32im_decode.specs.Fields.{opcode_of, rd_of, funct3_of, rs1_of, rs2_of, funct7_of, i_bits, s_bits}
use Rattle.rv32im_decode.specs.Fields.{b_bits, u_bits, j_bits}
use Rattle.rv32im_decode.specs.Kinds.{branch_kind, load_kind, store_kind, imm_kind, op_kind}
use Rattle.rv32im_decode.specs.Decoding.{decoded, immediate_of, decoded_jalr, decoded_branch, decoded_load}
use Rattle.rv32im_decode.specs.Decoding.{decoded_store, decoded_op_imm, decoded_op, decoded_fence, decoded_system}
use Rattle.rv32im_decode.proofs.Signs.{bits_12, bits_13, bits_21, within_12, within_13, within_21, even_13, even_21}
use Rattle.rv32im_decode.proofs.Splits.{join_split, i_join, s_join, b_join, j_join}
use Rattle.rv32im_decode.proofs.Tables.{chosen, branch_has, load_has, store_has, op_has, imm_has, HasFunct7}

-- the instruction is in range and has this word
abbrev pub IsOf : ℕ → Instr → Type 0
IsOf word instr = InRange instr × (encoded instr ≡ word)

mapped : {K : Type 0} (found : Option K) (P : K → Type 0) (Q : Instr → Type 0) (f : K → Instr) → IfSome found P →
    ((kind : K) → P kind → Q (f kind)) → IfSome (option_map f found) Q
mapped (Some kind) P Q f h then_ = then_ kind h
mapped None P Q f h then_ = tt

lui_is : (word : ℕ) → word < 2 ^ 32 → opcode_of word ≡ 55 → IsOf word (Lui (rd_of word) (u_bits word))
unfolding encoded
lui_is word below o = ((omega arith, omega arith), omega arith)

auipc_is : (word : ℕ) → word < 2 ^ 32 → opcode_of word ≡ 23 → IsOf word (Auipc (rd_of word) (u_bits word))
unfolding encoded
auipc_is word below o = ((omega arith, omega arith), omega arith)

jal_is : (word : ℕ) → word < 2 ^ 32 → opcode_of word ≡ 111 →
    IsOf word (Jal (rd_of word) (sign_extended (2 ^ 20) (j_bits word)))
unfolding encoded
jal_is word below o =
    let bits : ℕ = j_bits word in
    let fits : bits < 2 ^ 21 = omega arith in (
      (omega arith, within_21 bits fits, even_21 bits fits (omega arith)),
      ap (λ bits. j_word bits (rd_of word) 111) (bits_21 bits fits) ∙ ap (j_word bits (rd_of word)) (sym o)
          ∙ j_join word below,
    )

-- the word of I-type with a sign-extended immediate
i_is : (word funct3 opcode : ℕ) → word < 2 ^ 32 → opcode_of word ≡ opcode → funct3 ≡ funct3_of word →
    i_word (bits_of (2 ^ 11) (sign_extended (2 ^ 11) (i_bits word))) (rs1_of word) funct3 (rd_of word) opcode ≡ word
i_is word funct3 opcode below o f =
    let fits : i_bits word < 2 ^ 12 = omega arith in
    ap (λ bits. i_word bits (rs1_of word) funct3 (rd_of word) opcode) (bits_12 (i_bits word) fits)
    ∙ ap (λ funct3. i_word (i_bits word) (rs1_of word) funct3 (rd_of word) opcode) f
    ∙ ap (i_word (i_bits word) (rs1_of word) (funct3_of word) (rd_of word)) (sym o) ∙ i_join word

jalr_is : (word : ℕ) → word < 2 ^ 32 → opcode_of word ≡ 103 → IfSome (decoded_jalr word) (IsOf word)
unfolding encoded
jalr_is word below o =
    chosen (λ found. IfSome found (IsOf word)) (funct3_of word == 0) (Some (Jalr (rd_of word) (rs1_of word)
    (sign_extended (2 ^ 11) (i_bits word)))) None
    (λ e. (
      (omega arith, omega arith, within_12 (i_bits word) (omega arith)),
      i_is word 0 103 below o (sym (eqb-true (funct3_of word) 0 e)),
    )) (λ _. tt)

load_is : (word : ℕ) → word < 2 ^ 32 → opcode_of word ≡ 3 → IfSome (decoded_load word) (IsOf word)
unfolding encoded
load_is word below o =
    mapped (load_kind (funct3_of word)) _ (IsOf word) _ (load_has (funct3_of word))
    (λ kind f. (
      (omega arith, omega arith, within_12 (i_bits word) (omega arith)),
      i_is word (load_funct3 kind) 3 below o f,
    ))

branch_is : (word : ℕ) → word < 2 ^ 32 → opcode_of word ≡ 99 → IfSome (decoded_branch word) (IsOf word)
unfolding encoded
branch_is word below o =
    let bits : ℕ = b_bits word in
    let fits : bits < 2 ^ 13 = omega arith in
    mapped (branch_kind (funct3_of word)) _ (IsOf word) _ (branch_has (funct3_of word))
    (λ kind f. (
      (omega arith, omega arith, within_13 bits fits, even_13 bits fits (omega arith)),
      ap (λ bits. b_word bits (rs2_of word) (rs1_of word) (branch_funct3 kind) 99) (bits_13 bits fits)
          ∙ ap (λ funct3. b_word bits (rs2_of word) (rs1_of word) funct3 99) f
          ∙ ap (b_word bits (rs2_of word) (rs1_of word) (funct3_of word)) (sym o) ∙ b_join word below,
    ))

store_is : (word : ℕ) → word < 2 ^ 32 → opcode_of word ≡ 35 → IfSome (decoded_store word) (IsOf word)
unfolding encoded
store_is word below o =
    let bits : ℕ = s_bits word in
    let fits : bits < 2 ^ 12 = omega arith in
    mapped (store_kind (funct3_of word)) _ (IsOf word) _ (store_has (funct3_of word))
    (λ kind f. (
      (omega arith, omega arith, within_12 bits fits),
      ap (λ bits. s_word bits (rs2_of word) (rs1_of word) (store_funct3 kind) 35) (bits_12 bits fits)
          ∙ ap (λ funct3. s_word bits (rs2_of word) (rs1_of word) funct3 35) f
          ∙ ap (s_word bits (rs2_of word) (rs1_of word) (funct3_of word)) (sym o) ∙ s_join word,
    ))

op_is : (word : ℕ) → word < 2 ^ 32 → opcode_of word ≡ 51 → IfSome (decoded_op word) (IsOf word)
unfolding encoded
op_is word below o =
    mapped (op_kind (funct7_of word) (funct3_of word)) _ (IsOf word) _ (op_has (funct7_of word) (funct3_of word))
    (λ kind f. (
      (omega arith, omega arith, omega arith),
      ap (λ funct7. r_word funct7 (rs2_of word) (rs1_of word) (op_funct3 kind) (rd_of word) 51) f.0
          ∙ ap (λ funct3. r_word (funct7_of word) (rs2_of word) (rs1_of word) funct3 (rd_of word) 51) f.1
          ∙ ap (r_word (funct7_of word) (rs2_of word) (rs1_of word) (funct3_of word) (rd_of word)) (sym o)
          ∙ join_split word,
    ))

fence_is : (word : ℕ) → word < 2 ^ 32 → opcode_of word ≡ 15 → IfSome (decoded_fence word) (IsOf word)
unfolding encoded
fence_is word below o =
    chosen (λ found. IfSome found (IsOf word)) (funct3_of word == 0) (Some (Fence (rd_of word) (rs1_of word)
    (i_bits word))) None
    (λ e. let f : funct3_of word ≡ 0 = eqb-true (funct3_of word) 0 e in (
      (omega arith, omega arith, omega arith),
      omega arith,
    )) (λ _. tt)

system_is : (word : ℕ) → IfSome (decoded_system word) (IsOf word)
unfolding encoded
system_is word =
    let Is : Option Instr → Type 0 = λ found. IfSome found (IsOf word) in
    chosen Is (word == 115) (Some Ecall) _ (λ e. (tt, sym (eqb-true word 115 e)))
    (λ _. chosen Is (word == 1048691) (Some Ebreak) None (λ e. (tt, sym (eqb-true word 1048691 e))) (λ _. tt))

plain_is : (word funct3 : ℕ) → word < 2 ^ 32 → opcode_of word ≡ 19 → funct3 ≡ funct3_of word →
    IsWithin (2 ^ 11) (sign_extended (2 ^ 11) (i_bits word)) × (i_word (bits_of (2 ^ 11) (sign_extended (2 ^ 11)
    (i_bits word))) (rs1_of word) funct3 (rd_of word) 19 ≡ word)
plain_is word funct3 below o f = (within_12 (i_bits word) (omega arith), i_is word funct3 19 below o f)

shift_is : (word funct7 funct3 : ℕ) → opcode_of word ≡ 19 → funct3 ≡ funct3_of word → funct7 ≡ funct7_of word →
    ((pos 0 ≤ℤ pos (rs2_of word)) × (pos (rs2_of word) <ℤ pos 32)) × (i_word (funct7 * 2 ^ 5 + rs2_of word)
    (rs1_of word) funct3 (rd_of word) 19 ≡ word)
shift_is word funct7 funct3 o f s = ((omega (arith, ints), omega (arith, ints)), omega arith)

operand_is : (kind : ImmKind) (word : ℕ) → word < 2 ^ 32 → opcode_of word ≡ 19 → imm_funct3 kind ≡ funct3_of word →
    HasFunct7 kind (funct7_of word) → IsImmediate kind (immediate_of kind word) × (encoded (OpImm kind
    (rd_of word) (rs1_of word) (immediate_of kind word)) ≡ word)
unfolding encoded
operand_is Addi word below o f s = plain_is word 0 below o f
operand_is Slti word below o f s = plain_is word 2 below o f
operand_is Sltiu word below o f s = plain_is word 3 below o f
operand_is Xori word below o f s = plain_is word 4 below o f
operand_is Ori word below o f s = plain_is word 6 below o f
operand_is Andi word below o f s = plain_is word 7 below o f
operand_is Slli word below o f s = shift_is word 0 1 o f s
operand_is Srli word below o f s = shift_is word 0 5 o f s
operand_is Srai word below o f s = shift_is word 32 5 o f s

op_imm_is : (word : ℕ) → word < 2 ^ 32 → opcode_of word ≡ 19 → IfSome (decoded_op_imm word) (IsOf word)
unfolding encoded
op_imm_is word below o =
    mapped (imm_kind (funct7_of word) (funct3_of word)) _ (IsOf word) _ (imm_has (funct7_of word) (funct3_of word))
    (λ kind f. let is : IsImmediate kind (immediate_of kind word) × (encoded (OpImm kind (rd_of word)
    (rs1_of word) (immediate_of kind word)) ≡ word) = operand_is kind word below o f.0 f.1 in
    ((omega arith, omega arith, is.0), is.1))

pub decoded_is : (word : ℕ) → word < 2 ^ 32 → IfSome (decoded word) (IsOf word)
unfolding decoded
decoded_is word below =
    let Is : Option Instr → Type 0 = λ found. IfSome found (IsOf word) in
    let opcode : ℕ = opcode_of word in
    chosen Is (opcode == 55) (Some (Lui (rd_of word) (u_bits word))) _ (λ e. lui_is word below (eqb-true opcode 55 e))
    (λ _. chosen Is (opcode == 23) (Some (Auipc (rd_of word) (u_bits word))) _ (λ e. auipc_is word below
    (eqb-true opcode 23 e))
    (λ _. chosen Is (opcode == 111) (Some (Jal (rd_of word) (sign_extended (2 ^ 20) (j_bits word)))) _
    (λ e. jal_is word below (eqb-true opcode 111 e))
    (λ _. chosen Is (opcode == 103) (decoded_jalr word) _ (λ e. jalr_is word below (eqb-true opcode 103 e))
    (λ _. chosen Is (opcode == 99) (decoded_branch word) _ (λ e. branch_is word below (eqb-true opcode 99 e))
    (λ _. chosen Is (opcode == 3) (decoded_load word) _ (λ e. load_is word below (eqb-true opcode 3 e))
    (λ _. chosen Is (opcode == 35) (decoded_store word) _ (λ e. store_is word below (eqb-true opcode 35 e))
    (λ _. chosen Is (opcode == 19) (decoded_op_imm word) _ (λ e. op_imm_is word below (eqb-true opcode 19 e))
    (λ _. chosen Is (opcode == 51) (decoded_op word) _ (λ e. op_is word below (eqb-true opcode 51 e))
    (λ _. chosen Is (opcode == 15) (decoded_fence word) (decoded_system word) (λ e. fence_is word below
    (eqb-true opcode 15 e))
    (λ _. system_is word))))))))))
