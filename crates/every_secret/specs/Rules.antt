-- Mask rules as functions: what is answered for a computation with these operands and their masks, and the mask of a byte
-- of the public input.
use Rattle.std.specs.Prelude.{◌≡◌, ℕ, List}
use Rattle.rv32im_machine.specs.declared.language.Operation.{Operation}
use Rattle.rv32im_machine.specs.declared.language.Work.{Work}
use Rattle.rv32im_machine.specs.declared.language.Work.TheVariants.{Shaped, Computed}
use Rattle.transfer_rules.specs.declared.operands.Operands.{Operands}
use Rattle.transfer_rules.specs.Soundness.{AreWords}
use Rattle.transfer_rules.specs.Table1.{mask_by_table_1}
use Rattle.transfer_rules.specs.Table2.{mask_by_table_2}
use Rattle.transfer_rules.specs.Table3.{mask_by_table_3}
use Rattle.transfer_rules.specs.Tables.{Table}
use Rattle.run_labels.specs.Answers.{IsSoundAnswer, IsTableAnswer, mask_by, operands_of}
use Rattle.every_secret.specs.declared.public_inputs.PublicInput.{PublicInput}
use Rattle.every_secret.specs.declared.public_inputs.PublicInput.TheVariants.{Given, Any}

-- the mask of a byte of the public input that is read: of an input that is not known each of its bits may differ
abbrev pub public_mask : PublicInput → ℕ
public_mask Given = 0
public_mask Any = 255

-- what is answered for a computation, and what is known of the public input
pub record Rules : Type 0 where
  pub computed : Operation → Operands → ℕ
  pub public : PublicInput

-- what a table gives for an operation, where so much is known of the public input
abbrev pub rules_of : Table → PublicInput → Rules
rules_of table public = record { computed = λ operation operands. mask_by operation operands table; public = public }

-- every answer of a book of the table with this number is that of the rules; so it is of tables 1, 2 and 3, and of a
-- table of which nothing is said there are no such rules
abbrev pub AnswerAs : ℕ → Rules → Type 0
AnswerAs table rules =
    (operation : Operation) (operands : Operands) (answer : ℕ) → IsTableAnswer table operation operands answer →
    answer ≡ rules.computed operation operands

-- whatever the operands are, the answer is sound
abbrev pub AreSoundRules : Rules → Type 0
AreSoundRules rules =
    (operation : Operation) (operands : Operands) → AreWords operands →
    IsSoundAnswer operation operands (rules.computed operation operands)

-- what the rules answer for a passing; what only moves bits about asks none
abbrev pub answer_to : Rules → Work → List ℕ → ℕ
answer_to rules (Shaped shape) masks = 0
answer_to rules (Computed operation first second) masks = rules.computed operation (operands_of first second masks)

-- The law that the answers of a book of table 1 are those of that table, and so of tables 2 and 3.
abbrev pub TablesHaveRules : Type 0
TablesHaveRules =
    (public : PublicInput) →
    AnswerAs 1 (rules_of mask_by_table_1 public) × AnswerAs 2 (rules_of mask_by_table_2 public)
    × AnswerAs 3 (rules_of mask_by_table_3 public)

-- The law that the masks of each table are sound, whatever the operands are.
abbrev pub TablesAreSound : Type 0
TablesAreSound =
    (public : PublicInput) →
    AreSoundRules (rules_of mask_by_table_1 public) × AreSoundRules (rules_of mask_by_table_2 public)
    × AreSoundRules (rules_of mask_by_table_3 public)
