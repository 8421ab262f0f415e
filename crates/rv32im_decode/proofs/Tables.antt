-- The tables of funct3 and funct7, there and back.
use Rattle.std.proofs.Common.{◌≡◌, ℕ, ◌<◌, ◌==◌, arith, refl, sym, ◌∙◌, eqb-true}
use Rattle.std.specs.Prelude.{Bool, true, false, Option, Some, None, IfSome, MatchBool, ⊤, if◌then◌else◌}
use Rattle.std.proofs.lemmas.Option.{IfSome_then}
use Rattle.rv32im_decode.specs.declared.instructions.BranchKind.{BranchKind}
use Rattle.rv32im_decode.specs.declared.instructions.BranchKind.TheVariants.{Beq, Bne, Blt, Bge, Bltu, Bgeu}
use Rattle.rv32im_decode.specs.declared.instructions.ImmKind.{ImmKind}
use Rattle.rv32im_decode.specs.declared.instructions.ImmKind.TheVariants.{Addi, Slti, Sltiu, Xori, Ori, Andi, Slli}
use Rattle.rv32im_decode.specs.declared.instructions.ImmKind.TheVariants.{Srli, Srai}
use Rattle.rv32im_decode.specs.declared.instructions.LoadKind.{LoadKind}
use Rattle.rv32im_decode.specs.declared.instructions.LoadKind.TheVariants.{Lb, Lh, Lw, Lbu, Lhu}
use Rattle.rv32im_decode.specs.declared.instructions.OpKind.{OpKind}
use Rattle.rv32im_decode.specs.declared.instructions.OpKind.TheVariants.{Add, Sub, Sll, Slt, Sltu, Xor, Srl, Sra, Or}
use Rattle.rv32im_decode.specs.declared.instructions.OpKind.TheVariants.{And, Mul, Mulh, Mulhsu, Mulhu, Div, Divu}
use Rattle.rv32im_decode.specs.declared.instructions.OpKind.TheVariants.{Rem, Remu}
use Rattle.rv32im_decode.specs.declared.instructions.StoreKind.{StoreKind}
use Rattle.rv32im_decode.specs.declared.instructions.StoreKind.TheVariants.{Sb, Sh, Sw}
use Rattle.rv32im_decode.specs.Listings.{branch_funct3, load_funct3, store_funct3}
use Rattle.rv32im_decode.specs.Listings.{is_shift, imm_funct3, shift_funct7}
use Rattle.rv32im_decode.specs.Listings.{op_funct3, op_funct7}
use Rattle.rv32im_decode.specs.Kinds.{branch_kind, load_kind, store_kind, imm_kind, left_shift, right_shift}
use Rattle.rv32im_decode.specs.Kinds.{op_kind, plain_op, other_op, multiply_op}

-- a fact of a choice, from that fact of each side
pub chosen : {T : Type 0} (P : T → Type 0) (test : Bool) (x y : T) → (test ≡ true → P x) → (test ≡ false → P y) →
    P (if test then x else y)
chosen P true x y held other = held refl
chosen P false x y held other = other refl

pub branch_found : (kind : BranchKind) → branch_kind (branch_funct3 kind) ≡ Some kind
branch_found Beq = refl
branch_found Bne = refl
branch_found Blt = refl
branch_found Bge = refl
branch_found Bltu = refl
branch_found Bgeu = refl

pub load_found : (kind : LoadKind) → load_kind (load_funct3 kind) ≡ Some kind
load_found Lb = refl
load_found Lh = refl
load_found Lw = refl
load_found Lbu = refl
load_found Lhu = refl

pub store_found : (kind : StoreKind) → store_kind (store_funct3 kind) ≡ Some kind
store_found Sb = refl
store_found Sh = refl
store_found Sw = refl

pub op_found : (kind : OpKind) → op_kind (op_funct7 kind) (op_funct3 kind) ≡ Some kind
op_found Add = refl
op_found Sub = refl
op_found Sll = refl
op_found Slt = refl
op_found Sltu = refl
op_found Xor = refl
op_found Srl = refl
op_found Sra = refl
op_found Or = refl
op_found And = refl
op_found Mul = refl
op_found Mulh = refl
op_found Mulhsu = refl
op_found Mulhu = refl
op_found Div = refl
op_found Divu = refl
op_found Rem = refl
op_found Remu = refl

pub branch_below : (kind : BranchKind) → branch_funct3 kind < 8
branch_below Beq = omega arith
branch_below Bne = omega arith
branch_below Blt = omega arith
branch_below Bge = omega arith
branch_below Bltu = omega arith
branch_below Bgeu = omega arith

pub load_below : (kind : LoadKind) → load_funct3 kind < 8
load_below Lb = omega arith
load_below Lh = omega arith
load_below Lw = omega arith
load_below Lbu = omega arith
load_below Lhu = omega arith

pub store_below : (kind : StoreKind) → store_funct3 kind < 8
store_below Sb = omega arith
store_below Sh = omega arith
store_below Sw = omega arith

pub op_below : (kind : OpKind) → op_funct3 kind < 8
op_below Add = omega arith
op_below Sub = omega arith
op_below Sll = omega arith
op_below Slt = omega arith
op_below Sltu = omega arith
op_below Xor = omega arith
op_below Srl = omega arith
op_below Sra = omega arith
op_below Or = omega arith
op_below And = omega arith
op_below Mul = omega arith
op_below Mulh = omega arith
op_below Mulhsu = omega arith
op_below Mulhu = omega arith
op_below Div = omega arith
op_below Divu = omega arith
op_below Rem = omega arith
op_below Remu = omega arith

pub imm_below : (kind : ImmKind) → imm_funct3 kind < 8
imm_below Addi = omega arith
imm_below Slti = omega arith
imm_below Sltiu = omega arith
imm_below Xori = omega arith
imm_below Ori = omega arith
imm_below Andi = omega arith
imm_below Slli = omega arith
imm_below Srli = omega arith
imm_below Srai = omega arith

pub op_funct7_below : (kind : OpKind) → op_funct7 kind < 128
op_funct7_below Add = omega arith
op_funct7_below Sub = omega arith
op_funct7_below Sll = omega arith
op_funct7_below Slt = omega arith
op_funct7_below Sltu = omega arith
op_funct7_below Xor = omega arith
op_funct7_below Srl = omega arith
op_funct7_below Sra = omega arith
op_funct7_below Or = omega arith
op_funct7_below And = omega arith
op_funct7_below Mul = omega arith
op_funct7_below Mulh = omega arith
op_funct7_below Mulhsu = omega arith
op_funct7_below Mulhu = omega arith
op_funct7_below Div = omega arith
op_funct7_below Divu = omega arith
op_funct7_below Rem = omega arith
op_funct7_below Remu = omega arith

-- the kind found has the number looked for
pub branch_has : (funct3 : ℕ) → IfSome (branch_kind funct3) (λ kind. branch_funct3 kind ≡ funct3)
branch_has funct3 = grind arith

pub load_has : (funct3 : ℕ) → IfSome (load_kind funct3) (λ kind. load_funct3 kind ≡ funct3)
load_has funct3 = grind arith

pub store_has : (funct3 : ℕ) → IfSome (store_kind funct3) (λ kind. store_funct3 kind ≡ funct3)
store_has funct3 = grind arith

pub plain_has : (funct3 : ℕ) → IfSome (plain_op funct3) (λ kind. (op_funct7 kind ≡ 0) × (op_funct3 kind ≡ funct3))
plain_has funct3 = grind arith

pub other_has : (funct3 : ℕ) → IfSome (other_op funct3) (λ kind. (op_funct7 kind ≡ 32) × (op_funct3 kind ≡ funct3))
other_has funct3 = grind arith

pub multiply_has : (funct3 : ℕ) → IfSome (multiply_op funct3) (λ kind. (op_funct7 kind ≡ 1) × (op_funct3 kind ≡ funct3))
multiply_has funct3 = grind arith

pub op_has : (funct7 funct3 : ℕ) → IfSome (op_kind funct7 funct3) (λ kind. (op_funct7 kind ≡ funct7) ×
    (op_funct3 kind ≡ funct3))
op_has funct7 funct3 =
    let Has : Option OpKind → Type 0 = λ found. IfSome found (λ kind. (op_funct7 kind ≡ funct7) ×
    (op_funct3 kind ≡ funct3)) in
    chosen Has (funct7 == 0) (plain_op funct3) _ (λ e. let is : funct7 ≡ 0 = eqb-true funct7 0 e in
    IfSome_then (plain_op funct3) (plain_has funct3) (λ kind h. (h.0 ∙ sym is, h.1)))
    (λ _. chosen Has (funct7 == 32) (other_op funct3) _ (λ e. let is : funct7 ≡ 32 = eqb-true funct7 32 e in
    IfSome_then (other_op funct3) (other_has funct3) (λ kind h. (h.0 ∙ sym is, h.1)))
    (λ _. chosen Has (funct7 == 1) (multiply_op funct3) None (λ e. let is : funct7 ≡ 1 = eqb-true funct7 1 e in
    IfSome_then (multiply_op funct3) (multiply_has funct3) (λ kind h. (h.0 ∙ sym is, h.1)))
    (λ _. tt)))

-- what funct7 must be for the kind
abbrev pub HasFunct7 : ImmKind → ℕ → Type 0
HasFunct7 kind funct7 = MatchBool (is_shift kind) (shift_funct7 kind ≡ funct7) ⊤

left_has : (funct7 : ℕ) → IfSome (left_shift funct7) (λ kind. (imm_funct3 kind ≡ 1) × HasFunct7 kind funct7)
left_has funct7 = grind arith

right_has : (funct7 : ℕ) → IfSome (right_shift funct7) (λ kind. (imm_funct3 kind ≡ 5) × HasFunct7 kind funct7)
right_has funct7 = grind arith

pub imm_has : (funct7 funct3 : ℕ) → IfSome (imm_kind funct7 funct3) (λ kind.
    (imm_funct3 kind ≡ funct3) × HasFunct7 kind funct7)
imm_has funct7 funct3 =
    let Has : Option ImmKind → Type 0 = λ found. IfSome found (λ kind.
    (imm_funct3 kind ≡ funct3) × HasFunct7 kind funct7) in
    chosen Has (funct3 == 0) (Some Addi) _ (λ e. (sym (eqb-true funct3 0 e), tt))
    (λ _. chosen Has (funct3 == 2) (Some Slti) _ (λ e. (sym (eqb-true funct3 2 e), tt))
    (λ _. chosen Has (funct3 == 3) (Some Sltiu) _ (λ e. (sym (eqb-true funct3 3 e), tt))
    (λ _. chosen Has (funct3 == 4) (Some Xori) _ (λ e. (sym (eqb-true funct3 4 e), tt))
    (λ _. chosen Has (funct3 == 6) (Some Ori) _ (λ e. (sym (eqb-true funct3 6 e), tt))
    (λ _. chosen Has (funct3 == 7) (Some Andi) _ (λ e. (sym (eqb-true funct3 7 e), tt))
    (λ _. chosen Has (funct3 == 1) (left_shift funct7) _ (λ e. let is : funct3 ≡ 1 = eqb-true funct3 1 e in
    IfSome_then (left_shift funct7) (left_has funct7) (λ kind h. (h.0 ∙ sym is, h.1)))
    (λ _. chosen Has (funct3 == 5) (right_shift funct7) None (λ e. let is : funct3 ≡ 5 = eqb-true funct3 5 e in
    IfSome_then (right_shift funct7) (right_has funct7) (λ kind h. (h.0 ∙ sym is, h.1)))
    (λ _. tt))))))))

pub imm_found : (kind : ImmKind) (funct7 : ℕ) → HasFunct7 kind funct7 → imm_kind funct7 (imm_funct3 kind) ≡ Some kind
imm_found Addi funct7 h = refl
imm_found Slti funct7 h = refl
imm_found Sltiu funct7 h = refl
imm_found Xori funct7 h = refl
imm_found Ori funct7 h = refl
imm_found Andi funct7 h = refl
imm_found Slli funct7 h = rw (← h) refl
imm_found Srli funct7 h = rw (← h) refl
imm_found Srai funct7 h = rw (← h) refl
