-- The mask of a passing, where the answer of a book is that of rules.
use Rattle.std.proofs.Common.{◌≡◌, ℕ, List, ap, ap₂, ◌∙◌}
use Rattle.rv32im_machine.specs.declared.language.Shape.{Shape}
use Rattle.rv32im_machine.specs.declared.language.Shape.TheVariants.{Copied, Extended, Part}
use Rattle.rv32im_machine.specs.declared.language.Work.{Work}
use Rattle.rv32im_machine.specs.declared.language.Work.TheVariants.{Shaped, Computed}
use Rattle.rv32im_decode.specs.Operations.{extended}
use Rattle.rv32im_machine.specs.Language.{part_of, shaped}
use Rattle.run_labels.specs.Answers.{HoldsOfAnswer, IsTableAnswer, operands_of}
use Rattle.run_labels.specs.Masks.{answered_mask, work_mask}
use Rattle.tracked_run.specs.declared.source_masks.SourceMasks.{SourceMasks}
use Rattle.tracked_run.specs.Labels.{AreMasks, masks_in_order}
use Rattle.every_secret.specs.Rules.{AnswerAs, Rules, answer_to}

shaped_same : (shape : Shape) (masks : SourceMasks) (list : List ℕ) → AreMasks masks list →
    shaped shape (masks_in_order masks) ≡ shaped shape list
shaped_same Copied masks list are = are.first
shaped_same (Extended kind) masks list are = ap (λ word. extended kind word) are.all
shaped_same (Part part) masks list are = ap (λ word. part_of part word) are.first

pub work_ruled : (table : ℕ) (rules : Rules) → AnswerAs table rules → (work : Work) (masks : SourceMasks)
    (list : List ℕ) → AreMasks masks list → (answer : ℕ) →
    HoldsOfAnswer (IsTableAnswer table) work (masks_in_order masks) answer →
    work_mask work (masks_in_order masks) answer ≡ work_mask work list (answer_to rules work list)
work_ruled table rules as' (Shaped shape) masks list are answer holds = shaped_same shape masks list are
work_ruled table rules as' (Computed operation first second) masks list are answer holds =
    ap (λ a. answered_mask operation a)
    (as' operation (operands_of first second (masks_in_order masks)) answer holds
    ∙ ap₂ (λ m n. rules.computed operation (record { v1 = first; m1 = m; v2 = second; m2 = n })) are.first are.second)
