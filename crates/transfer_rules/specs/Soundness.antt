-- What it is that a mask is sound for a class of operations, for an instruction, and for an address.
use Rattle.std.specs.Prelude.{◌≡◌, ℕ, ◌%◌, ◌<◌, ◌^◌, ⊤}
use Rattle.flow_base.specs.Words.{Agree}
use Rattle.rv32im_decode.specs.declared.instructions.Instr.{Instr}
use Rattle.rv32im_decode.specs.declared.instructions.Instr.TheVariants.{Jalr, Load, Store}
use Rattle.rv32im_decode.specs.Operations.{address_of, target_of, word_of}
use Rattle.transfer_rules.specs.declared.classes.Class.{Class}
use Rattle.transfer_rules.specs.declared.operands.Operands.{Operands}
use Rattle.transfer_rules.specs.Rules.{Operation, class_of, result_of}

-- the operands and their masks are words
abbrev pub AreWords : Operands → Type 0
AreWords o = (o.v1 < 2 ^ 32) × (o.m1 < 2 ^ 32) × (o.v2 < 2 ^ 32) × (o.m2 < 2 ^ 32)

-- Whatever two words stand in place of the operands and agree with them outside their masks, the operation gives a
-- result that agrees with that of the operands outside the mask.
abbrev pub KeepsMask : Operands → ℕ → (ℕ → ℕ → ℕ) → Type 0
KeepsMask operands mask operation =
    (first second : ℕ) → first < 2 ^ 32 → second < 2 ^ 32 →
    Agree operands.m1 operands.v1 first → Agree operands.m2 operands.v2 second →
    Agree mask (operation operands.v1 operands.v2) (operation first second)

-- the mask is kept by every operation of the class
abbrev pub IsSound : Class → Operands → ℕ → Type 0
IsSound class operands mask =
    (operation : Operation) → class_of operation ≡ class → KeepsMask operands mask (result_of operation)

-- Whatever word stands in place of the first and agrees with it outside its mask, its sum with the immediate agrees
-- with that of the first outside the answered mask.
abbrev pub IsSoundSum : ℕ → ℕ → ℕ → ℕ → Type 0
IsSoundSum immediate first mask answer =
    (other : ℕ) → other < 2 ^ 32 → Agree mask first other →
    Agree answer (address_of first immediate) (address_of other immediate)

-- the same of the target of JALR
abbrev pub IsSoundTarget : ℕ → ℕ → ℕ → ℕ → Type 0
IsSoundTarget immediate first mask answer =
    (other : ℕ) → other < 2 ^ 32 → Agree mask first other →
    Agree answer (target_of first immediate) (target_of other immediate)

-- the same of what a load, a store or JALR computes as address
abbrev pub IsSoundAddress : Instr → ℕ → ℕ → ℕ → Type 0
IsSoundAddress (Load kind rd rs1 imm) first mask answer = IsSoundSum (word_of imm) first mask answer
IsSoundAddress (Store kind rs1 rs2 imm) first mask answer = IsSoundSum (word_of imm) first mask answer
IsSoundAddress (Jalr rd rs1 imm) first mask answer = IsSoundTarget (word_of imm) first mask answer
IsSoundAddress other first mask answer = ⊤

-- of the target of JALR, whose lowest bit is cleared, the lowest bit of the mask is 0
abbrev pub IsEvenForTarget : Instr → ℕ → Type 0
IsEvenForTarget (Jalr rd rs1 imm) answer = answer % 2 ≡ 0
IsEvenForTarget other answer = ⊤
