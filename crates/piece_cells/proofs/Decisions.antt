-- Soundness of what is computed and decided.
use Rattle.std.proofs.Common.{◌≡◌, ℕ, ◌/◌, ◌%◌, ◌^◌, Bool, true, false, refl, sym, ap, subst, ◌∙◌, ⊎_elim, arith}
use Rattle.std.proofs.lemmas.Bool.{cases_lt}
use Rattle.std.proofs.lemmas.Nat.Bits.{bit_at_above}
use Rattle.flow_base.specs.Words.{Agree}
use Rattle.rv32im_decode.specs.declared.instructions.BranchKind.{BranchKind}
use Rattle.rv32im_decode.specs.declared.instructions.OpKind.{OpKind}
use Rattle.rv32im_decode.specs.Operations.{decision, is_taken, word_of_truth}
use Rattle.rv32im_machine.specs.declared.language.Operation.{Operation}
use Rattle.rv32im_machine.specs.declared.language.Operation.TheVariants.{Result, Decision}
use Rattle.rv32im_machine.specs.declared.language.Part.{Part}
use Rattle.rv32im_machine.specs.declared.language.Part.TheVariants.{Byte0, Byte1, Byte2, Byte3}
use Rattle.rv32im_machine.specs.Language.{computed, part_of}
use Rattle.transfer_rules.specs.declared.classes.Class.{Class}
use Rattle.transfer_rules.specs.declared.operands.Operands.{Operands}
use Rattle.transfer_rules.specs.Classes.{branch_class, operation_class}
use Rattle.transfer_rules.specs.Rules.{OfWords, OfBranch}
use Rattle.transfer_rules.specs.Soundness.{IsSound, KeepsMask}
use Rattle.transfer_rules.proofs.Agreement.{bit_low, same_where_none}
use Rattle.transfer_rules.proofs.Shifts.{agree_right}
use Rattle.piece_cells.specs.Cells.{Bytes, Has, IsOver, value_at}
use Rattle.piece_cells.specs.Deciding.{IsDecided}
use Rattle.piece_cells.specs.declared.cells.Cell.{Cell}
use Rattle.piece_cells.specs.declared.cells.Cell.TheVariants.{Bits as IsBits, ByTable}
use Rattle.piece_cells.specs.declared.deciding.Decided.{Decided}
use Rattle.piece_cells.specs.declared.unknowns.Unknown.{Unknown}

-- ---- the book's answers

pub keeps_result : (operation : Operation) (kind : OpKind) (class : Class) (o : Operands) (mask : ℕ) →
    operation ≡ Result kind → class ≡ operation_class kind → IsSound class o mask → KeepsMask o mask (computed operation)
keeps_result operation kind class o mask is e sound =
    subst (λ op. KeepsMask o mask (computed op)) (sym is) (sound (OfWords kind) (sym e))

pub keeps_decision : (operation : Operation) (kind : BranchKind) (class : Class) (o : Operands) (mask : ℕ) →
    operation ≡ Decision kind → class ≡ branch_class kind → IsSound class o mask → KeepsMask o mask (computed operation)
keeps_decision operation kind class o mask is e sound =
    subst (λ op. KeepsMask o mask (computed op)) (sym is) (sound (OfBranch kind) (sym e))

-- ---- a value by a table

pub over_value : (unknown : Unknown) (bytes : Bytes) (cell : Cell) (word : ℕ) → IsOver unknown cell → Has bytes cell word →
    word ≡ value_at cell (bytes unknown)
over_value unknown bytes (IsBits bits) word none has =
    sym (same_where_none bits.value word (subst (λ mask. Agree mask bits.value word) none has))
over_value unknown bytes (ByTable table) word same has =
    has ∙ ap (λ u. value_at (ByTable table) (bytes u)) same

pub computed_over : (operation : Operation) (unknown : Unknown) (bytes : Bytes) (first second : Cell) (one other : ℕ) →
    IsOver unknown first → IsOver unknown second → Has bytes first one → Has bytes second other →
    computed operation one other ≡ computed operation (value_at first (bytes unknown)) (value_at second (bytes unknown))
computed_over operation unknown bytes first second one other o p h k =
    let e : one ≡ value_at first (bytes unknown) = over_value unknown bytes first one o h in
    let f : other ≡ value_at second (bytes unknown) = over_value unknown bytes second other p k in
    ap (λ x. computed operation x other) e ∙ ap (λ y. computed operation (value_at first (bytes unknown)) y) f

pub decided_over : (kind : BranchKind) (decided : Decided) (unknown : Unknown) (bytes : Bytes) (first second : Cell)
    (one other : ℕ) → IsOver unknown first → IsOver unknown second → Has bytes first one → Has bytes second other →
    IsDecided kind decided bytes (value_at first (bytes unknown)) (value_at second (bytes unknown)) →
    IsDecided kind decided bytes one other
decided_over kind decided unknown bytes first second one other o p h k is =
    let e : one ≡ value_at first (bytes unknown) = over_value unknown bytes first one o h in
    let f : other ≡ value_at second (bytes unknown) = over_value unknown bytes second other p k in
    subst (λ x. IsDecided kind decided bytes x other) (sym e)
    (subst (λ y. IsDecided kind decided bytes (value_at first (bytes unknown)) y) (sym f) is)

-- ---- decisions

same_truth : (p q : Bool) → word_of_truth p ≡ word_of_truth q → p ≡ q
same_truth true true e = refl
same_truth false false e = refl
same_truth true false e = absurd (omega (arith, e))
same_truth false true e = absurd (omega (arith, e))

pub same_decision : (kind : BranchKind) (mask v w one other : ℕ) → mask ≡ 0 →
    Agree mask (computed (Decision kind) v w) (computed (Decision kind) one other) → is_taken kind one other ≡ is_taken kind v w
same_decision kind mask v w one other none agree = same_truth (is_taken kind one other) (is_taken kind v w)
    (sym (same_where_none (decision kind v w) (decision kind one other)
    (subst (λ m. Agree m (decision kind v w) (decision kind one other)) none agree)))

-- ---- parts of words

agree_low : (m v a : ℕ) → Agree m v a → Agree (m % 2 ^ 8) (v % 2 ^ 8) (a % 2 ^ 8)
agree_low m v a h i none = ⊎_elim
    (λ inside. bit_low 8 v i inside ∙ h i (sym (bit_low 8 m i inside) ∙ none) ∙ sym (bit_low 8 a i inside))
    (λ above. bit_at_above (v % 2 ^ 8) 8 i (omega arith) above ∙ sym (bit_at_above (a % 2 ^ 8) 8 i (omega arith) above))
    (cases_lt i 8)

pub agree_part : (part : Part) (m v a : ℕ) → Agree m v a → Agree (part_of part m) (part_of part v) (part_of part a)
agree_part Byte0 m v a h = agree_low m v a h
agree_part Byte1 m v a h = agree_low (m / 256) (v / 256) (a / 256) (agree_right 8 m v a h)
agree_part Byte2 m v a h = agree_low (m / 65536) (v / 65536) (a / 65536) (agree_right 16 m v a h)
agree_part Byte3 m v a h = agree_low (m / 16777216) (v / 16777216) (a / 16777216) (agree_right 24 m v a h)
