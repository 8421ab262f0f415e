-- A word below 2^32 and its fields, there and back.
use Rattle.std.proofs.Common.{◌≡◌, ℕ, ◌<◌, ◌^◌, ◌%◌, ◌/◌, ◌+◌, ◌*◌, arith}
use Rattle.rv32im_decode.specs.Formats.{r_word, i_word, s_word, b_word, u_word, j_word}
use Rattle.rv32im_decode.specs.Fields.{opcode_of, rd_of, funct3_of, rs1_of, rs2_of, funct7_of, i_bits, s_bits}
use Rattle.rv32im_decode.specs.Fields.{b_bits, u_bits, j_bits}

-- the fields of a joined word
pub record AreFields (word opcode rd funct3 rs1 rs2 funct7 : ℕ) : Type 0 where
  pub opcode_is : opcode_of word ≡ opcode
  pub rd_is : rd_of word ≡ rd
  pub funct3_is : funct3_of word ≡ funct3
  pub rs1_is : rs1_of word ≡ rs1
  pub rs2_is : rs2_of word ≡ rs2
  pub funct7_is : funct7_of word ≡ funct7

pub split_join : (word opcode rd funct3 rs1 rs2 funct7 : ℕ) → opcode < 128 → rd < 32 → funct3 < 8 → rs1 < 32 →
    rs2 < 32 → word ≡ r_word funct7 rs2 rs1 funct3 rd opcode → AreFields word opcode rd funct3 rs1 rs2 funct7
split_join word opcode rd funct3 rs1 rs2 funct7 o d f a b e = record {
  opcode_is = omega arith;
  rd_is = omega arith;
  funct3_is = omega arith;
  rs1_is = omega arith;
  rs2_is = omega arith;
  funct7_is = omega arith;
}

pub join_split : (word : ℕ) → r_word (funct7_of word) (rs2_of word) (rs1_of word) (funct3_of word) (rd_of word)
    (opcode_of word) ≡ word
join_split word = omega arith

pub s_split : (bits : ℕ) → bits / 2 ^ 5 * 2 ^ 5 + bits % 2 ^ 5 ≡ bits
s_split bits = omega arith

pub i_join : (word : ℕ) → i_word (i_bits word) (rs1_of word) (funct3_of word) (rd_of word) (opcode_of word) ≡ word
i_join word = omega arith

pub s_join : (word : ℕ) → s_word (s_bits word) (rs2_of word) (rs1_of word) (funct3_of word) (opcode_of word) ≡ word
s_join word = omega arith

pub b_join : (word : ℕ) → word < 2 ^ 32 → b_word (b_bits word) (rs2_of word) (rs1_of word) (funct3_of word)
    (opcode_of word) ≡ word
b_join word below = omega arith

pub u_join : (word : ℕ) → u_word (u_bits word) (rd_of word) (opcode_of word) ≡ word
u_join word = omega arith

pub j_join : (word : ℕ) → word < 2 ^ 32 → j_word (j_bits word) (rd_of word) (opcode_of word) ≡ word
j_join word below = omega arith

-- the immediate of a joined word
pub i_split : (word bits rs1 funct3 rd opcode : ℕ) → opcode < 128 → rd < 32 → funct3 < 8 → rs1 < 32 →
    word ≡ i_word bits rs1 funct3 rd opcode → i_bits word ≡ bits
i_split word bits rs1 funct3 rd opcode o d f a e = omega arith

pub u_split : (word bits rd opcode : ℕ) → opcode < 128 → rd < 32 → word ≡ u_word bits rd opcode → u_bits word ≡ bits
u_split word bits rd opcode o d e = omega arith

pub s_fields : (word bits rs2 rs1 funct3 opcode : ℕ) → opcode < 128 → funct3 < 8 → rs1 < 32 → rs2 < 32 →
    word ≡ s_word bits rs2 rs1 funct3 opcode → s_bits word ≡ bits
s_fields word bits rs2 rs1 funct3 opcode o f a b e = omega arith

pub b_fields : (word bits rs2 rs1 funct3 opcode : ℕ) → opcode < 128 → funct3 < 8 → rs1 < 32 → rs2 < 32 →
    bits < 2 ^ 13 → bits % 2 ≡ 0 → word ≡ b_word bits rs2 rs1 funct3 opcode → b_bits word ≡ bits
b_fields word bits rs2 rs1 funct3 opcode o f a b below even e = omega arith

pub j_fields : (word bits rd opcode : ℕ) → opcode < 128 → rd < 32 → bits < 2 ^ 21 → bits % 2 ≡ 0 →
    word ≡ j_word bits rd opcode → j_bits word ≡ bits
j_fields word bits rd opcode o d below even e = omega arith

-- the fields of a word of I-type, S-type, B-type and U-type
pub i_fields : (word bits rs1 funct3 rd opcode : ℕ) → opcode < 128 → rd < 32 → funct3 < 8 → rs1 < 32 →
    word ≡ i_word bits rs1 funct3 rd opcode → AreFields word opcode rd funct3 rs1 (bits % 32) (bits / 32)
i_fields word bits rs1 funct3 rd opcode o d f a e = split_join word opcode rd funct3 rs1 (bits % 32)
    (bits / 32) o d f a (omega arith) (omega arith)
