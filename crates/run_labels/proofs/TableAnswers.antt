-- The answers of a table decide the mask of what is computed: two answers that are both by one of tables 1 to 3 make
-- the same mask.
use Rattle.std.proofs.Common.{◌≡◌, ℕ, List, refl, ap}
use Rattle.rv32im_machine.specs.declared.language.Work.{Work}
use Rattle.rv32im_machine.specs.declared.language.Work.TheVariants.{Shaped, Computed}
use Rattle.transfer_rules.specs.Tables.{IsDeciding}
use Rattle.transfer_rules.proofs.Deciding.{one_by_table}
use Rattle.run_labels.specs.Answers.{HoldsOfAnswer, IsTableAnswer, mask_by, operands_of}
use Rattle.run_labels.specs.Masks.{answered_mask, work_mask}

pub same_work : (table : ℕ) → IsDeciding table → (work : Work) (masks : List ℕ) (first second : ℕ) →
    HoldsOfAnswer (IsTableAnswer table) work masks first → HoldsOfAnswer (IsTableAnswer table) work masks second →
    work_mask work masks first ≡ work_mask work masks second
same_work table deciding (Shaped shape) masks first second by also = refl
same_work table deciding (Computed operation a b) masks first second by also =
    ap (answered_mask operation)
    (one_by_table table (mask_by operation (operands_of a b masks)) first second deciding by also)
