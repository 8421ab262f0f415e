-- The word of an instruction whose fields are in range is decoded to that instruction.
use Rattle.std.proofs.Common.{◌≡◌, ℕ, ◌<◌, ◌^◌, ◌%◌, ◌+◌, ◌*◌, ◌/◌, arith, refl, ap, sym, ◌∙◌}
use Rattle.std.specs.Prelude.{ℤ, pos, negsuc, ◌≤ℤ◌, ◌<ℤ◌, Some}
use Rattle.std.proofs.lemmas.Int.{ints}
use Rattle.rv32im_decode.specs.declared.instructions.Instr.{Instr}
use Rattle.rv32im_decode.specs.declared.instructions.Instr.TheVariants.{Lui, Auipc, Jal, Jalr, Branch, Load, Store}
use Rattle.rv32im_decode.specs.declared.instructions.Instr.TheVariants.{OpImm, Op, Fence, Ecall, Ebreak}
use Rattle.rv32im_decode.specs.declared.instructions.BranchKind.{BranchKind}
use Rattle.rv32im_decode.specs.declared.instructions.LoadKind.{LoadKind}
use Rattle.rv32im_decode.specs.declared.instructions.StoreKind.{StoreKind}
use Rattle.rv32im_decode.specs.declared.instructions.OpKind.{OpKind}
use Rattle.rv32im_decode.specs.declared.instructions.ImmKind.{ImmKind}
use Rattle.rv32im_decode.specs.declared.instructions.ImmKind.TheVariants.{Addi, Slti, Sltiu, Xori, Ori, Andi, Slli}
use Rattle.rv32im_decode.specs.declared.instructions.ImmKind.TheVariants.{Srli, Srai}
use Rattle.rv32im_decode.specs.Operations.{word_of}
use Rattle.rv32im_decode.specs.Formats.{sign_extended, bits_of, i_word}
use Rattle.rv32im_decode.specs.Listings.{branch_funct3, load_funct3, store_funct3}
use Rattle.rv32im_decode.specs.Listings.{imm_funct3, op_funct3, op_funct7}
use Rattle.rv32im_decode.specs.Encoding.{InRange, IsWithin, IsEven, IsImmediate, encoded}
use Rattle.rv32im_decode.specs.Encoding.{immediate_bits}
use Rattle.rv32im_decode.specs.Fields.{opcode_of, rd_of, funct3_of, rs1_of, rs2_of, funct7_of, i_bits, s_bits}
use Rattle.rv32im_decode.specs.Fields.{b_bits, u_bits, j_bits}
use Rattle.rv32im_decode.specs.Kinds.{branch_kind, load_kind, store_kind, imm_kind, op_kind}
use Rattle.rv32im_decode.specs.Decoding.{decoded, immediate_of}
use Rattle.rv32im_decode.proofs.Signs.{extends_12, extends_13, extends_21}
use Rattle.rv32im_decode.proofs.Splits.{split_join, i_fields, i_split, s_fields, b_fields, j_fields}
use Rattle.rv32im_decode.proofs.Tables.{branch_found, branch_below, load_found, load_below, store_found, store_below}
use Rattle.rv32im_decode.proofs.Tables.{op_found, op_below, imm_found, imm_below, HasFunct7}

-- a word is decoded by its fields
by_lui : (word rd imm : ℕ) → opcode_of word ≡ 55 → rd_of word ≡ rd → u_bits word ≡ imm →
    decoded word ≡ Some (Lui rd imm)
unfolding decoded
by_lui word rd imm o d i = rw (o, d, i) refl

by_auipc : (word rd imm : ℕ) → opcode_of word ≡ 23 → rd_of word ≡ rd → u_bits word ≡ imm →
    decoded word ≡ Some (Auipc rd imm)
unfolding decoded
by_auipc word rd imm o d i = rw (o, d, i) refl

by_jal : (word rd : ℕ) (offset : ℤ) → opcode_of word ≡ 111 → rd_of word ≡ rd →
    sign_extended (2 ^ 20) (j_bits word) ≡ offset → decoded word ≡ Some (Jal rd offset)
unfolding decoded
by_jal word rd offset o d i = rw (o, d, i) refl

by_jalr : (word rd rs1 : ℕ) (imm : ℤ) → opcode_of word ≡ 103 → funct3_of word ≡ 0 → rd_of word ≡ rd →
    rs1_of word ≡ rs1 → sign_extended (2 ^ 11) (i_bits word) ≡ imm → decoded word ≡ Some (Jalr rd rs1 imm)
unfolding decoded
by_jalr word rd rs1 imm o f d a i = rw (o, f, d, a, i) refl

by_branch : (word rs1 rs2 : ℕ) (kind : BranchKind) (offset : ℤ) → opcode_of word ≡ 99 →
    branch_kind (funct3_of word) ≡ Some kind → rs1_of word ≡ rs1 → rs2_of word ≡ rs2 →
    sign_extended (2 ^ 12) (b_bits word) ≡ offset → decoded word ≡ Some (Branch kind rs1 rs2 offset)
unfolding decoded
by_branch word rs1 rs2 kind offset o k a b i = rw (o, k, a, b, i) refl

by_load : (word rd rs1 : ℕ) (kind : LoadKind) (imm : ℤ) → opcode_of word ≡ 3 →
    load_kind (funct3_of word) ≡ Some kind → rd_of word ≡ rd → rs1_of word ≡ rs1 →
    sign_extended (2 ^ 11) (i_bits word) ≡ imm → decoded word ≡ Some (Load kind rd rs1 imm)
unfolding decoded
by_load word rd rs1 kind imm o k d a i = rw (o, k, d, a, i) refl

by_store : (word rs1 rs2 : ℕ) (kind : StoreKind) (imm : ℤ) → opcode_of word ≡ 35 →
    store_kind (funct3_of word) ≡ Some kind → rs1_of word ≡ rs1 → rs2_of word ≡ rs2 →
    sign_extended (2 ^ 11) (s_bits word) ≡ imm → decoded word ≡ Some (Store kind rs1 rs2 imm)
unfolding decoded
by_store word rs1 rs2 kind imm o k a b i = rw (o, k, a, b, i) refl

by_op_imm : (word rd rs1 : ℕ) (kind : ImmKind) (imm : ℤ) → opcode_of word ≡ 19 →
    imm_kind (funct7_of word) (funct3_of word) ≡ Some kind → rd_of word ≡ rd → rs1_of word ≡ rs1 →
    immediate_of kind word ≡ imm → decoded word ≡ Some (OpImm kind rd rs1 imm)
unfolding decoded
by_op_imm word rd rs1 kind imm o k d a i = rw (o, k, d, a, i) refl

by_op : (word rd rs1 rs2 : ℕ) (kind : OpKind) → opcode_of word ≡ 51 →
    op_kind (funct7_of word) (funct3_of word) ≡ Some kind → rd_of word ≡ rd → rs1_of word ≡ rs1 →
    rs2_of word ≡ rs2 → decoded word ≡ Some (Op kind rd rs1 rs2)
unfolding decoded
by_op word rd rs1 rs2 kind o k d a b = rw (o, k, d, a, b) refl

by_fence : (word rd rs1 imm : ℕ) → opcode_of word ≡ 15 → funct3_of word ≡ 0 → rd_of word ≡ rd → rs1_of word ≡ rs1 →
    i_bits word ≡ imm → decoded word ≡ Some (Fence rd rs1 imm)
unfolding decoded
by_fence word rd rs1 imm o f d a i = rw (o, f, d, a, i) refl

by_ecall : decoded 115 ≡ Some Ecall
unfolding decoded
by_ecall = refl

by_ebreak : decoded 1048691 ≡ Some Ebreak
unfolding decoded
by_ebreak = refl

-- the word of each format is decoded
jal_decodes : (word rd : ℕ) (offset : ℤ) → rd < 32 → IsWithin (2 ^ 20) offset → IsEven offset →
    word ≡ encoded (Jal rd offset) → decoded word ≡ Some (Jal rd offset)
unfolding encoded
jal_decodes word rd offset d within even e =
    let bits : ℕ = bits_of (2 ^ 20) offset in
    by_jal word rd offset (omega arith) (omega arith)
    (ap (sign_extended (2 ^ 20)) (j_fields word bits rd 111 (omega arith) d (omega arith) (omega arith) e)
    ∙ extends_21 offset within)

jalr_decodes : (word rd rs1 : ℕ) (imm : ℤ) → rd < 32 → rs1 < 32 → IsWithin (2 ^ 11) imm →
    word ≡ encoded (Jalr rd rs1 imm) → decoded word ≡ Some (Jalr rd rs1 imm)
unfolding encoded
jalr_decodes word rd rs1 imm d a within e =
    let bits : ℕ = bits_of (2 ^ 11) imm in
    let fields = i_fields word bits rs1 0 rd 103 (omega arith) d (omega arith) a e in
    by_jalr word rd rs1 imm fields.opcode_is fields.funct3_is fields.rd_is fields.rs1_is
    (ap (sign_extended (2 ^ 11)) (i_split word bits rs1 0 rd 103 (omega arith) d (omega arith) a e)
    ∙ extends_12 imm within)

load_decodes : (word rd rs1 : ℕ) (kind : LoadKind) (imm : ℤ) → rd < 32 → rs1 < 32 → IsWithin (2 ^ 11) imm →
    word ≡ encoded (Load kind rd rs1 imm) → decoded word ≡ Some (Load kind rd rs1 imm)
unfolding encoded
load_decodes word rd rs1 kind imm d a within e =
    let bits : ℕ = bits_of (2 ^ 11) imm in
    let fields = i_fields word bits rs1 (load_funct3 kind) rd 3 (omega arith) d (load_below kind) a e in
    by_load word rd rs1 kind imm fields.opcode_is (ap load_kind fields.funct3_is
    ∙ load_found kind) fields.rd_is fields.rs1_is
    (ap (sign_extended (2 ^ 11)) (i_split word bits rs1 (load_funct3 kind) rd 3 (omega arith) d
    (load_below kind) a e) ∙ extends_12 imm within)

branch_decodes : (word rs1 rs2 : ℕ) (kind : BranchKind) (offset : ℤ) → rs1 < 32 → rs2 < 32 →
    IsWithin (2 ^ 12) offset → IsEven offset → word ≡ encoded (Branch kind rs1 rs2 offset) →
    decoded word ≡ Some (Branch kind rs1 rs2 offset)
unfolding encoded
branch_decodes word rs1 rs2 kind offset a b within even e =
    let bits : ℕ = bits_of (2 ^ 12) offset in
    let fields = split_join word 99 (bits / 2 % 2 ^ 4 * 2 + bits / 2 ^ 11 % 2) (branch_funct3 kind) rs1 rs2
    (bits / 2 ^ 12 * 2 ^ 6 + bits / 2 ^ 5 % 2 ^ 6) (omega arith) (omega arith) (branch_below kind) a b e in
    by_branch word rs1 rs2 kind offset fields.opcode_is (ap branch_kind fields.funct3_is
    ∙ branch_found kind) fields.rs1_is fields.rs2_is
    (ap (sign_extended (2 ^ 12)) (b_fields word bits rs2 rs1 (branch_funct3 kind) 99 (omega arith)
    (branch_below kind) a b (omega arith) (omega arith) e) ∙ extends_13 offset within)

store_decodes : (word rs1 rs2 : ℕ) (kind : StoreKind) (imm : ℤ) → rs1 < 32 → rs2 < 32 → IsWithin (2 ^ 11) imm →
    word ≡ encoded (Store kind rs1 rs2 imm) → decoded word ≡ Some (Store kind rs1 rs2 imm)
unfolding encoded
store_decodes word rs1 rs2 kind imm a b within e =
    let bits : ℕ = bits_of (2 ^ 11) imm in
    let fields = split_join word 35 (bits % 2 ^ 5) (store_funct3 kind) rs1 rs2 (bits / 2 ^ 5) (omega arith)
    (omega arith) (store_below kind) a b e in
    by_store word rs1 rs2 kind imm fields.opcode_is (ap store_kind fields.funct3_is
    ∙ store_found kind) fields.rs1_is fields.rs2_is
    (ap (sign_extended (2 ^ 11)) (s_fields word bits rs2 rs1 (store_funct3 kind) 35 (omega arith)
    (store_below kind) a b e) ∙ extends_12 imm within)

op_decodes : (word rd rs1 rs2 : ℕ) (kind : OpKind) → rd < 32 → rs1 < 32 → rs2 < 32 →
    word ≡ encoded (Op kind rd rs1 rs2) → decoded word ≡ Some (Op kind rd rs1 rs2)
unfolding encoded
op_decodes word rd rs1 rs2 kind d a b e =
    let fields = split_join word 51 rd (op_funct3 kind) rs1 rs2 (op_funct7 kind) (omega arith) d
    (op_below kind) a b e in
    by_op word rd rs1 rs2 kind fields.opcode_is (ap (op_kind (funct7_of word)) fields.funct3_is
    ∙ ap (λ funct7. op_kind funct7 (op_funct3 kind)) fields.funct7_is ∙ op_found kind)
    fields.rd_is fields.rs1_is fields.rs2_is

fence_decodes : (word rd rs1 imm : ℕ) → rd < 32 → rs1 < 32 → word ≡ encoded (Fence rd rs1 imm) →
    decoded word ≡ Some (Fence rd rs1 imm)
unfolding encoded
fence_decodes word rd rs1 imm d a e =
    let fields = i_fields word imm rs1 0 rd 15 (omega arith) d (omega arith) a e in
    by_fence word rd rs1 imm fields.opcode_is fields.funct3_is fields.rd_is fields.rs1_is
    (i_split word imm rs1 0 rd 15 (omega arith) d (omega arith) a e)

-- the places of a shift, and the other immediates
shift_operand : (imm : ℤ) (word funct7 funct3 rd rs1 : ℕ) → pos 0 ≤ℤ imm → imm <ℤ pos 32 → rd < 32 → rs1 < 32 →
    funct3 < 8 → word ≡ i_word (funct7 * 2 ^ 5 + word_of imm) rs1 funct3 rd 19 →
    (funct7 ≡ funct7_of word) × (pos (rs2_of word) ≡ imm)
shift_operand (pos n) word funct7 funct3 rd rs1 low high d a f e =
    let below : n < 32 = omega (arith, ints) in
    let fields = split_join word 19 rd funct3 rs1 n funct7 (omega arith) d f a below (omega arith) in
    (sym fields.funct7_is, ap pos fields.rs2_is)
shift_operand (negsuc n) word funct7 funct3 rd rs1 low high d a f e = absurd (omega (arith, ints))

plain_operand : (imm : ℤ) (word funct3 rd rs1 : ℕ) → IsWithin (2 ^ 11) imm → rd < 32 → rs1 < 32 → funct3 < 8 →
    word ≡ i_word (bits_of (2 ^ 11) imm) rs1 funct3 rd 19 → sign_extended (2 ^ 11) (i_bits word) ≡ imm
plain_operand imm word funct3 rd rs1 within d a f e =
    ap (sign_extended (2 ^ 11)) (i_split word (bits_of (2 ^ 11) imm) rs1 funct3 rd 19 (omega arith) d f a e)
    ∙ extends_12 imm within

operand : (kind : ImmKind) (word rd rs1 : ℕ) (imm : ℤ) → rd < 32 → rs1 < 32 → IsImmediate kind imm →
    word ≡ encoded (OpImm kind rd rs1 imm) → HasFunct7 kind (funct7_of word) × (immediate_of kind word ≡ imm)
unfolding encoded
operand Addi word rd rs1 imm d a i e = (tt, plain_operand imm word 0 rd rs1 i d a (omega arith) e)
operand Slti word rd rs1 imm d a i e = (tt, plain_operand imm word 2 rd rs1 i d a (omega arith) e)
operand Sltiu word rd rs1 imm d a i e = (tt, plain_operand imm word 3 rd rs1 i d a (omega arith) e)
operand Xori word rd rs1 imm d a i e = (tt, plain_operand imm word 4 rd rs1 i d a (omega arith) e)
operand Ori word rd rs1 imm d a i e = (tt, plain_operand imm word 6 rd rs1 i d a (omega arith) e)
operand Andi word rd rs1 imm d a i e = (tt, plain_operand imm word 7 rd rs1 i d a (omega arith) e)
operand Slli word rd rs1 imm d a i e = shift_operand imm word 0 1 rd rs1 i.0 i.1 d a (omega arith) e
operand Srli word rd rs1 imm d a i e = shift_operand imm word 0 5 rd rs1 i.0 i.1 d a (omega arith) e
operand Srai word rd rs1 imm d a i e = shift_operand imm word 32 5 rd rs1 i.0 i.1 d a (omega arith) e

op_imm_decodes : (word rd rs1 : ℕ) (kind : ImmKind) (imm : ℤ) → rd < 32 → rs1 < 32 → IsImmediate kind imm →
    word ≡ encoded (OpImm kind rd rs1 imm) → decoded word ≡ Some (OpImm kind rd rs1 imm)
unfolding encoded
op_imm_decodes word rd rs1 kind imm d a i e =
    let fields = i_fields word (immediate_bits kind imm) rs1 (imm_funct3 kind) rd 19 (omega arith) d
    (imm_below kind) a e in
    let found = operand kind word rd rs1 imm d a i e in
    by_op_imm word rd rs1 kind imm fields.opcode_is (ap (imm_kind (funct7_of word)) fields.funct3_is
    ∙ imm_found kind (funct7_of word) found.0)
    fields.rd_is fields.rs1_is found.1

pub encoded_decodes : (instr : Instr) (word : ℕ) → InRange instr → word ≡ encoded instr → decoded word ≡ Some instr
unfolding encoded
encoded_decodes (Lui rd imm) word (d, i) e = by_lui word rd imm (omega arith) (omega arith) (omega arith)
encoded_decodes (Auipc rd imm) word (d, i) e = by_auipc word rd imm (omega arith) (omega arith) (omega arith)
encoded_decodes (Jal rd offset) word (d, within, even) e = jal_decodes word rd offset d within even e
encoded_decodes (Jalr rd rs1 imm) word (d, a, within) e = jalr_decodes word rd rs1 imm d a within e
encoded_decodes (Branch kind rs1 rs2 offset) word (
  a,
  b,
  within,
  even,
) e = branch_decodes word rs1 rs2 kind offset a b within even e
encoded_decodes (Load kind rd rs1 imm) word (d, a, within) e = load_decodes word rd rs1 kind imm d a within e
encoded_decodes (Store kind rs1 rs2 imm) word (a, b, within) e = store_decodes word rs1 rs2 kind imm a b within e
encoded_decodes (OpImm kind rd rs1 imm) word (d, a, i) e = op_imm_decodes word rd rs1 kind imm d a i e
encoded_decodes (Op kind rd rs1 rs2) word (d, a, b) e = op_decodes word rd rs1 rs2 kind d a b e
encoded_decodes (Fence rd rs1 imm) word (d, a, i) e = fence_decodes word rd rs1 imm d a e
encoded_decodes Ecall word r e = rw e by_ecall
encoded_decodes Ebreak word r e = rw e by_ebreak
