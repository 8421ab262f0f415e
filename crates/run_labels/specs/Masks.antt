-- The mask of each value that passes: which of its bits may depend on the secret. What moves bits about moves the masks
-- of its sources in the same way; the mask of what is computed is an answer of a mask rule; an output of a region has
-- every bit of its slot.
use Rattle.std.specs.Prelude.{ℕ, ◌+◌, ◌-◌, ◌%◌, List, [], ◌∷◌}
use Rattle.flow_base.specs.declared.points.Slot.{Slot}
use Rattle.flow_base.specs.Points.{width_of}
use Rattle.rv32im_machine.specs.declared.language.Aim.{Aim}
use Rattle.rv32im_machine.specs.declared.language.Aim.TheVariants.{Put, Decide, Give}
use Rattle.rv32im_machine.specs.declared.language.Operation.{Operation}
use Rattle.rv32im_machine.specs.declared.language.Operation.TheVariants.{Result, Decision, Target}
use Rattle.rv32im_machine.specs.declared.language.Passing.{Passing}
use Rattle.rv32im_machine.specs.declared.language.Shape.{Shape}
use Rattle.rv32im_machine.specs.declared.language.Source.{Source}
use Rattle.rv32im_machine.specs.declared.language.Source.TheVariants.{At, Constant, Secret}
use Rattle.rv32im_machine.specs.declared.language.Sources.{Sources}
use Rattle.rv32im_machine.specs.declared.language.Sources.TheVariants.{One, Two, Byte as BytesOne, Half as BytesTwo, Word as BytesFour}
use Rattle.rv32im_machine.specs.declared.language.Work.{Work}
use Rattle.rv32im_machine.specs.declared.language.Work.TheVariants.{Shaped, Computed}
use Rattle.rv32im_machine.specs.Language.{shaped}
use Rattle.shadow_masks.specs.declared.labels.Label.{Label}
use Rattle.shadow_masks.specs.Labels.{clean}
use Rattle.shadow_masks.specs.Pages.{label_of}
use Rattle.run_labels.specs.TurnLabels.{TurnLabels, label_at, aim_label}

-- ---- sources

-- a number of the program has no secret bit, a byte of the secret has nothing else
abbrev pub source_mask : TurnLabels → Source → ℕ
source_mask labels (At place) = (label_at labels place).mask
source_mask labels (Constant value) = 0
source_mask labels (Secret index) = 255

abbrev pub byte_mask : TurnLabels → ℕ → ℕ
byte_mask labels address = (labels.map.bytes address).mask

-- the masks of the sources of a passing; those of bytes by ascending address
abbrev pub masks_of : TurnLabels → Sources → List ℕ
masks_of labels (One source) = source_mask labels source ∷ []
masks_of labels (Two first second) = source_mask labels first ∷ source_mask labels second ∷ []
masks_of labels (BytesOne address) = byte_mask labels address ∷ []
masks_of labels (BytesTwo address) = byte_mask labels address ∷ byte_mask labels (address + 1) ∷ []
masks_of labels (BytesFour address) =
    byte_mask labels address ∷ byte_mask labels (address + 1) ∷ byte_mask labels (address + 2)
    ∷ byte_mask labels (address + 3) ∷ []

-- ---- passings

-- a decision has one bit; of the target of JALR the lowest bit is cleared, so it never depends on the secret
abbrev pub answered_mask : Operation → ℕ → ℕ
answered_mask (Result kind) answer = answer
answered_mask (Decision kind) answer = answer % 2
answered_mask Target answer = answer - answer % 2

abbrev pub work_mask : Work → List ℕ → ℕ → ℕ
work_mask (Shaped shape) masks answer = shaped shape masks
work_mask (Computed operation first second) masks answer = answered_mask operation answer

abbrev pub aimed_mask : Aim → Slot → ℕ → ℕ
aimed_mask (Put place) slot mask = mask
aimed_mask Decide slot mask = mask
aimed_mask (Give place) slot mask = width_of slot

-- the mask of a passing, where the rules' next answer is this
abbrev pub mask_of : TurnLabels → ℕ → Passing → ℕ
mask_of labels answer passing =
    aimed_mask passing.aim passing.point.slot (work_mask passing.work (masks_of labels passing.sources) answer)

-- each computed value takes one answer of the rules
abbrev pub later_answers : List ℕ → List ℕ
later_answers [] = []
later_answers (answer ∷ answers) = answers

abbrev pub answers_after : Work → List ℕ → List ℕ
answers_after (Shaped shape) answers = answers
answers_after (Computed operation first second) answers = later_answers answers

-- the labels after a passing: where its value goes it has its mask, and its point is this one
abbrev pub labels_after : TurnLabels → ℕ → Passing → TurnLabels
labels_after labels answer passing =
    aim_label passing.aim (label_of (mask_of labels answer passing) passing.point) labels

-- ---- what moves without a passing

-- a move keeps the point of what it moves; no byte of the secret is moved so
abbrev pub moved_label : TurnLabels → Shape → Source → Label
moved_label labels shape (At place) =
    label_of (shaped shape ((label_at labels place).mask ∷ [])) (label_at labels place).point
moved_label labels shape (Constant value) = clean
moved_label labels shape (Secret index) = clean
