-- A visit of which nothing comes is that of the definition.
use Rattle.std.proofs.Common.{◌≡◌, ℕ, suc, ◌+◌, ◌-◌, ◌%◌, ◌^◌, ◌<◌, ◌≤◌, ◌==◌, Bool, true, false, List, [], ◌∷◌, length, refl, sym, ap, ap₂, ◌∙◌}
use Rattle.std.proofs.Common.{drop, take, if◌then◌else◌, arith, ◌&&◌, nat_lt, inl, inr}
use Rattle.std.specs.Prelude.{None}
use Rattle.std.proofs.lemmas.Bool.{cases_Bool, cond-false, cond-true, eqb-true}
use mathlib.Core.Path.{fun_ext}
use Rattle.cut_file.specs.declared.points.CutPoint.{CutPoint}
use Rattle.cut_file.specs.Masks.{MaskAt}
use Rattle.crossing_bits.proofs.Places.{count_zero, patched_zero}
use Rattle.flow_base.specs.declared.points.Point.{Point}
use Rattle.flow_base.specs.declared.points.Slot.{Slot}
use Rattle.flow_base.specs.PointOrders.{is_same}
use Rattle.flow_base.specs.Words.{bit_count}
use Rattle.flow_base.proofs.PointOrders.{one_if_same}
use Rattle.rv32im_decode.specs.Operations.{extended}
use Rattle.rv32im_machine.specs.declared.language.Aim.{Aim}
use Rattle.rv32im_machine.specs.declared.language.Aim.TheVariants.{Put, Decide, Give}
use Rattle.rv32im_machine.specs.declared.language.Operation.{Operation}
use Rattle.rv32im_machine.specs.declared.language.Operation.TheVariants.{Result, Decision, Target}
use Rattle.rv32im_machine.specs.declared.language.Passing.{Passing}
use Rattle.rv32im_machine.specs.declared.language.Place.TheVariants.{Register, Byte}
use Rattle.rv32im_machine.specs.declared.language.Shape.{Shape}
use Rattle.rv32im_decode.specs.declared.instructions.LoadKind.{LoadKind}
use Rattle.rv32im_decode.specs.declared.instructions.LoadKind.TheVariants.{Lb, Lh, Lw, Lbu, Lhu}
use Rattle.rv32im_machine.specs.declared.language.Part.{Part}
use Rattle.rv32im_machine.specs.declared.language.Part.TheVariants.{Byte0, Byte1, Byte2, Byte3}
use Rattle.rv32im_machine.specs.declared.language.Shape.TheVariants.{Copied, Extended, Part as PartShape}
use Rattle.rv32im_machine.specs.declared.language.Work.{Work}
use Rattle.rv32im_machine.specs.declared.language.Work.TheVariants.{Shaped, Computed}
use Rattle.replay_machine.specs.Runs.{Masks}
use Rattle.replay_machine.specs.Visits.{IsAhead, MovesOn}
use Rattle.replay_machine.proofs.MasksAhead.{ahead_mask, ahead_moves}
use Rattle.shadow_masks.specs.declared.labels.Label.{Label}
use Rattle.rv32im_machine.specs.declared.language.Sources.TheVariants.{Byte as BytesOne, Half as BytesTwo, Word as BytesFour}
use Rattle.shadow_masks.specs.Labels.{clean}
use Rattle.shadow_masks.specs.Pages.{AreClean}
use Rattle.run_labels.specs.Answers.{mask_by}
use Rattle.run_labels.specs.Masks.{answered_mask, masks_of, work_mask}
use Rattle.run_labels.specs.TurnLabels.{TurnLabels, aim_label, put_label}
use Rattle.rv32im_machine.specs.Language.{first_of, part_of, second_of, shaped}
use Rattle.rv32im_machine.specs.State.{joined}
use Rattle.masked_turns.specs.Clearing.{Cutting, aimed_mask, crossing_at, output_mask, passing_mask}
use Rattle.masked_turns.specs.Deciding.{left_at}
use Rattle.every_secret.specs.Masked.{unclear_by_left}
use Rattle.every_secret.specs.declared.shown.Shown.TheVariants.{Nothing}
use Rattle.every_secret.specs.Rules.{AnswerAs, Rules, answer_to}
use Rattle.every_secret.specs.Private.Idle.{AreOfWords, AreZero, IsIdle, IsSettledAim}
use Rattle.every_secret.specs.Private.Tapes.{Tape}
use Rattle.every_secret.specs.Private.Visited.{IsVisited}
use Rattle.transfer_rules.specs.declared.classes.Class.{Class}
use Rattle.transfer_rules.specs.declared.operands.Operands.{Operands}
use Rattle.transfer_rules.specs.Table1.{mask_by_table_1}
use Rattle.transfer_rules.specs.Table2.{mask_by_table_2}
use Rattle.transfer_rules.specs.Table3.{mask_by_table_3}
use Rattle.every_secret.proofs.CleanRules.{clean_by_table_1, clean_by_table_2, clean_by_table_3, clean_operands}
use Rattle.every_secret.proofs.OneVisit.{visited}
use Rattle.every_secret.proofs.Strings.{takes_none}

-- ---- a place that gets the clean label, which it has

same_register : (registers : ℕ → Label) (register : ℕ) (label : Label) → registers register ≡ label → (r : ℕ) →
    (if nat_lt 0 r && r == register then label else registers r) ≡ registers r
same_register registers register label has r = by (nat_lt 0 r) (r == register) refl
  where
    by : (some b : Bool) → (r == register) ≡ b → (if some && b then label else registers r) ≡ registers r
    by true true e = sym has ∙ ap registers (sym (eqb-true r register e))
    by true false e = refl
    by false b e = refl

same_byte : (bytes : ℕ → Label) (address : ℕ) (label : Label) → bytes address ≡ label → (a : ℕ) →
    (if a == address then label else bytes a) ≡ bytes a
same_byte bytes address label has a = by (a == address) refl
  where
    by : (b : Bool) → (a == address) ≡ b → (if b then label else bytes a) ≡ bytes a
    by true e = sym has ∙ ap bytes (sym (eqb-true a address e))
    by false e = refl

pub register_stays : (labels : TurnLabels) (register : ℕ) → labels.map.registers register ≡ clean →
    labels ≡ put_label (Register register) clean labels
register_stays labels register has =
    let registers : (λ r. if nat_lt 0 r && r == register then clean else labels.map.registers r) ≡ labels.map.registers =
    fun_ext (same_register labels.map.registers register clean has) in
    sym (λ i. record {
      map = record { registers = registers i; kept = labels.map.kept; bytes = labels.map.bytes };
      first = labels.first;
      second = labels.second;
    })

pub byte_stays : (labels : TurnLabels) (address : ℕ) → labels.map.bytes address ≡ clean →
    labels ≡ put_label (Byte address) clean labels
byte_stays labels address has =
    let bytes : (λ a. if a == address then clean else labels.map.bytes a) ≡ labels.map.bytes =
    fun_ext (same_byte labels.map.bytes address clean has) in
    sym (λ i. record {
      map = record { registers = labels.map.registers; kept = labels.map.kept; bytes = bytes i };
      first = labels.first;
      second = labels.second;
    })

-- ---- its mask is 0

-- the table's answer for operands of which no bit may differ
table_zero : (table : Class → Operands → ℕ) (operation : Operation) (first second : ℕ) →
    ((class : Class) → table class (clean_operands first second) ≡ 0) →
    0 ≡ mask_by operation (clean_operands first second) table
table_zero table (Result kind) first second zero = sym (zero _)
table_zero table (Decision kind) first second zero = sym (zero _)
table_zero table Target first second zero = sym (ap (λ n. n - n % 2) (zero _))

answered_zero : (operation : Operation) → answered_mask operation 0 ≡ 0
answered_zero (Result kind) = refl
answered_zero (Decision kind) = refl
answered_zero Target = refl

rule_zero : (table : ℕ) (rules : Rules) → AnswerAs table rules → (operation : Operation) (first second : ℕ) →
    first < 2 ^ 32 → second < 2 ^ 32 → rules.computed operation (clean_operands first second) ≡ 0
rule_zero table rules answers operation first second p q =
    sym (answers operation (clean_operands first second) 0 (
      (λ one. table_zero mask_by_table_1 operation first second (λ class. clean_by_table_1 class first second)),
      (λ two. table_zero mask_by_table_2 operation first second (λ class. clean_by_table_2 class first second p q)),
      (λ three. table_zero mask_by_table_3 operation first second (λ class. clean_by_table_3 class first second p q)),
    ))

first_zero : (masks : List ℕ) → AreZero masks → first_of masks ≡ 0
first_zero [] zero = refl
first_zero (mask ∷ masks) zero = zero.0

second_zero : (masks : List ℕ) → AreZero masks → second_of masks ≡ 0
second_zero [] zero = refl
second_zero (mask ∷ masks) zero = first_zero masks zero.1

joined_zero : (masks : List ℕ) → AreZero masks → joined masks ≡ 0
joined_zero [] zero = refl
joined_zero (mask ∷ masks) zero = omega (arith, zero.0, joined_zero masks zero.1)

extended_zero : (kind : LoadKind) → extended kind 0 ≡ 0
extended_zero Lb = refl
extended_zero Lh = refl
extended_zero Lw = refl
extended_zero Lbu = refl
extended_zero Lhu = refl

part_zero : (part : Part) → part_of part 0 ≡ 0
part_zero Byte0 = refl
part_zero Byte1 = refl
part_zero Byte2 = refl
part_zero Byte3 = refl

shaped_zero : (shape : Shape) (masks : List ℕ) → AreZero masks → shaped shape masks ≡ 0
shaped_zero Copied masks zero = first_zero masks zero
shaped_zero (Extended kind) masks zero = ap (λ word. extended kind word) (joined_zero masks zero) ∙ extended_zero kind
shaped_zero (PartShape part) masks zero = ap (λ word. part_of part word) (first_zero masks zero) ∙ part_zero part

work_zero : (table : ℕ) (rules : Rules) → AnswerAs table rules → (work : Work) (masks : List ℕ) → AreOfWords work →
    AreZero masks → work_mask work masks (answer_to rules work masks) ≡ 0
work_zero table rules answers (Shaped shape) masks words zero = shaped_zero shape masks zero
work_zero table rules answers (Computed operation first second) masks words zero =
    ap (λ n. answered_mask operation n)
    (ap₂ (λ m n. rules.computed operation (record { v1 = first; m1 = m; v2 = second; m2 = n })) (first_zero masks zero)
    (second_zero masks zero) ∙ rule_zero table rules answers operation first second words.0 words.1)
    ∙ answered_zero operation

aimed_zero : (skipped : Bool) (labels : TurnLabels) (aim : Aim) (slot : Slot) (mask : ℕ) →
    IsSettledAim skipped labels aim → mask ≡ 0 → aimed_mask skipped aim slot mask ≡ 0
aimed_zero skipped labels (Put place) slot mask settled zero = zero
aimed_zero skipped labels Decide slot mask settled zero = zero
aimed_zero skipped labels (Give place) slot mask settled zero =
    ap (λ s. output_mask s slot mask) settled.0 ∙ zero

none_left : (aim : Aim) (point : Point) → unclear_by_left (left_at aim point 0) ≡ None
none_left (Put place) point = refl
none_left Decide point = refl
none_left (Give place) point = refl

-- ---- the visits of a point that the cut has not are past

pub ahead_stays : (ahead : List CutPoint) (masks : Masks) (past : List Point) (point : Point) →
    ((visit : ℕ) → MaskAt ahead point visit ≡ 0) → IsAhead ahead masks past → IsAhead ahead masks (point ∷ past)
ahead_stays ahead masks past point unmarked known = ahead_moves ahead ahead masks past point moves known
  where
    moves : MovesOn point ahead ahead
    moves other visit first = elim (cases_Bool (is_same other point)) [
      | inl alike ↦
          let at : other ≡ point = one_if_same other point alike in
          ap (λ p. MaskAt ahead p visit) at ∙ unmarked visit
          ∙ sym (ap (λ v. MaskAt ahead other v) (cond-true (is_same other point) (suc visit) visit alike)
          ∙ (ap (λ p. MaskAt ahead p (suc visit)) at ∙ unmarked (suc visit)))
      | inr apart ↦
          sym (ap (λ v. MaskAt ahead other v) (cond-false (is_same other point) (suc visit) visit apart))
    ]

-- ---- the visit

pub idle_visited : (table : ℕ) (rules : Rules) → AnswerAs table rules → (cutting : Cutting) (past : List Point)
    (old : TurnLabels) (before : Tape) (passing : Passing) (new : TurnLabels) → AreOfWords passing.work →
    IsIdle before.ahead cutting.skipped old passing → IsAhead before.ahead cutting.masks past →
    new ≡ aim_label passing.aim clean old → before.crossed < 2 ^ 32 → passing.value < 2 ^ 32 →
    before.stream.taken ≤ length before.stream.bits → before.unclear ≡ None →
    IsVisited rules cutting past old before passing passing.value new before
idle_visited table rules answers cutting past old before passing new words idle known new_is small fits within clear =
    let made = work_zero table rules answers passing.work (masks_of old passing.sources) words idle.sources in
    let mask : 0 ≡ passing_mask cutting.skipped old (answer_to rules passing.work (masks_of old passing.sources)) passing =
    sym (aimed_zero cutting.skipped old passing.aim passing.point.slot _ idle.aim made) in
    let crossing : 0 ≡ crossing_at cutting past passing =
    sym (idle.unmarked 1) ∙ ahead_mask before.ahead cutting.masks past passing.point known in
    let none : bit_count 0 ≡ 0 = count_zero 32 in
    visited rules cutting past old before passing passing.value new before 0 0 0 Nothing mask crossing refl new_is
    (omega (arith, none, small)) (sym idle.unseen) refl refl (takes_none (bit_count 0) before.stream none within)
    (sym (patched_zero 32 passing.value (take (bit_count 0) (drop before.stream.taken before.stream.bits)) fits))
    (clear ∙ sym (none_left passing.aim passing.point))

-- ---- bytes that are clean

byte_zero : (bytes : ℕ → Label) (address count offset place : ℕ) → AreClean bytes address count → offset < count →
    address + offset ≡ place → (bytes place).mask ≡ 0
byte_zero bytes address count offset place are inside at =
    ap (λ label. label.mask) (ap bytes (sym at) ∙ are offset inside)

pub one_zero : (labels : TurnLabels) (address : ℕ) → AreClean labels.map.bytes address 1 →
    AreZero (masks_of labels (BytesOne address))
one_zero labels address are = (byte_zero labels.map.bytes address 1 0 address are (omega arith) (omega arith), tt)

pub two_zero : (labels : TurnLabels) (address : ℕ) → AreClean labels.map.bytes address 2 →
    AreZero (masks_of labels (BytesTwo address))
two_zero labels address are = (
  byte_zero labels.map.bytes address 2 0 address are (omega arith) (omega arith),
  (byte_zero labels.map.bytes address 2 1 (address + 1) are (omega arith) refl, tt),
)

pub four_zero : (labels : TurnLabels) (address : ℕ) → AreClean labels.map.bytes address 4 →
    AreZero (masks_of labels (BytesFour address))
four_zero labels address are = (
  byte_zero labels.map.bytes address 4 0 address are (omega arith) (omega arith),
  (
    byte_zero labels.map.bytes address 4 1 (address + 1) are (omega arith) refl,
    (
      byte_zero labels.map.bytes address 4 2 (address + 2) are (omega arith) refl,
      (byte_zero labels.map.bytes address 4 3 (address + 3) are (omega arith) refl, tt),
    ),
  ),
)
