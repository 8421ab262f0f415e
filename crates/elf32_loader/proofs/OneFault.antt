-- A program file has at most one first fault.
use Rattle.std.proofs.Common.{◌≡◌, ◌⊎◌, ℕ, ◌<◌, List, slice_index, subst, sym, ap, ◌∙◌, inl, inr, arith}
use Rattle.elf32_loader.specs.declared.fault.ElfFault.{ElfFault}
use Rattle.elf32_loader.specs.declared.fault.ElfFault.TheVariants.{NotElf32, Dynamic, SegmentRange, Overlap}
use Rattle.elf32_loader.specs.FaultTable.{IsDynamicAt, IsLowestLoad, IsOtherByte, IsRangeFaultAt, Overlaps}
use Rattle.elf32_loader.specs.FirstFault.{AnswersBase, AnswersDynamic, AnswersFormat, AnswersOverlap, AnswersRange, IsFirstFault, IsLeast, LoadRows}
use Rattle.elf32_loader.proofs.Bases.{same_base}

-- ---- the least number of which a fact holds

pub one_least : (P : ℕ → Type 0) (a b : ℕ) → IsLeast P a → IsLeast P b → a ≡ b
one_least P a b first second =
    let not_below : a < b → ⊥ = λ below. second.1 a below first.0 in
    let not_above : b < a → ⊥ = λ above. first.1 b above second.0 in
    omega arith

-- ---- rows of a table

-- the same row of a table holds, and its answers are the same, or the rows after it tell the same
one_row : (Goal Fact One Other Rest Others : Type 0) → (Fact × One) ⊎ ((¬ Fact) × Rest) →
    (Fact × Other) ⊎ ((¬ Fact) × Others) → (One → Other → Goal) → (Rest → Others → Goal) → Goal
one_row Goal Fact One Other Rest Others (inl a) (inl b) answers rows = answers a.1 b.1
one_row Goal Fact One Other Rest Others (inl a) (inr b) answers rows = absurd (b.0 a.0)
one_row Goal Fact One Other Rest Others (inr a) (inl b) answers rows = absurd (a.0 b.0)
one_row Goal Fact One Other Rest Others (inr a) (inr b) answers rows = rows a.1 b.1

-- ---- what one row answers

one_told : (a b fault : ElfFault) → a ≡ fault → b ≡ fault → a ≡ b
one_told a b fault e f = e ∙ sym f

one_format : (file : List ℕ) (a b : ElfFault) → AnswersFormat file a → AnswersFormat file b → a ≡ b
one_format file a b one other =
    let same : one.0 ≡ other.0 = one_least (IsOtherByte file) one.0 other.0 one.1 other.1 in
    one.2 ∙ ap (λ (place : ℕ). NotElf32 place (slice_index file place)) same ∙ sym other.2

one_dynamic : (file : List ℕ) (a b : ElfFault) → AnswersDynamic file a → AnswersDynamic file b → a ≡ b
one_dynamic file a b one other =
    let same : one.0 ≡ other.0 = one_least (IsDynamicAt file) one.0 other.0 one.1 other.1 in
    one.2 ∙ ap (λ (index : ℕ). Dynamic index) same ∙ sym other.2

one_range : (file : List ℕ) (a b : ElfFault) → AnswersRange file a → AnswersRange file b → a ≡ b
one_range file a b one other =
    let base : one.0 ≡ other.0 = same_base file one.0 other.0 one.2 other.2 in
    let here : IsLeast (IsRangeFaultAt file other.0) one.1 =
    subst (λ (place : ℕ). IsLeast (IsRangeFaultAt file place) one.1) base one.3 in
    let same : one.1 ≡ other.1 = one_least (IsRangeFaultAt file other.0) one.1 other.1 here other.3 in
    one.4 ∙ ap (λ (index : ℕ). SegmentRange index) same ∙ sym other.4

one_high : (file : List ℕ) (a b : ElfFault) → AnswersBase file a → AnswersBase file b → a ≡ b
one_high file a b one other =
    let same : one.0 ≡ other.0 = one_least (IsLowestLoad file) one.0 other.0 one.1 other.1 in
    one.2 ∙ ap (λ (index : ℕ). SegmentRange index) same ∙ sym other.2

one_overlap : (file : List ℕ) (a b : ElfFault) → AnswersOverlap file a → AnswersOverlap file b → a ≡ b
one_overlap file a b one other =
    let first : one.0 ≡ other.0 =
    one_least (λ (x : ℕ). (y : ℕ) × Overlaps file x y) one.0 other.0 one.2 other.2 in
    let here : IsLeast (Overlaps file other.0) one.1 =
    subst (λ (place : ℕ). IsLeast (Overlaps file place) one.1) first one.3 in
    let second : one.1 ≡ other.1 = one_least (Overlaps file other.0) one.1 other.1 here other.3 in
    one.4 ∙ ap (λ (x : ℕ). Overlap x one.1) first ∙ ap (λ (y : ℕ). Overlap other.0 y) second ∙ sym other.4

-- ---- the table

one_load_fault : (file : List ℕ) (a b : ElfFault) → LoadRows file a → LoadRows file b → a ≡ b
one_load_fault file a b one other =
    one_row (a ≡ b) _ _ _ _ _ one other (one_dynamic file a b) (λ one other.
    one_row (a ≡ b) _ _ _ _ _ one other (one_told a b _) (λ one other.
    one_row (a ≡ b) _ _ _ _ _ one other (one_range file a b) (λ one other.
    one_row (a ≡ b) _ _ _ _ _ one other (one_high file a b) (λ one other.
    one_row (a ≡ b) _ _ _ _ _ one other (one_overlap file a b) (λ one other.
    one_row (a ≡ b) _ _ _ _ _ one other (one_told a b _) (λ none others. absurd none))))))

pub one_first_fault : (file : List ℕ) (a b : ElfFault) → IsFirstFault file a → IsFirstFault file b → a ≡ b
one_first_fault file a b one other =
    one_row (a ≡ b) _ _ _ _ _ one other (one_told a b _) (λ one other.
    one_row (a ≡ b) _ _ _ _ _ one other (one_format file a b) (λ one other.
    one_row (a ≡ b) _ _ _ _ _ one other (one_told a b _) (λ one other.
    one_row (a ≡ b) _ _ _ _ _ one other (one_told a b _) (λ one other.
    one_row (a ≡ b) _ _ _ _ _ one other (one_told a b _) (λ one other.
    one_row (a ≡ b) _ _ _ _ _ one other (one_told a b _) (one_load_fault file a b))))))
