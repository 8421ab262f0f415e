-- What is made of the sources of a passing in the two runs: it agrees outside its mask, it is equal where no source
-- comes from the side, and it fits its slot.
use Rattle.std.proofs.Common.{◌≡◌, ℕ, zero, suc, ◌+◌, ◌%◌, ◌^◌, ◌-◌, ◌<◌, ◌≤◌}
use Rattle.std.proofs.Common.{Bool, true, false, List, [], ◌∷◌, ◌++◌, refl, sym, ap, ap₂, subst, ◌∙◌, arith}
use Rattle.std.specs.Prelude.{◌==◌, if◌then◌else◌}
use Rattle.std.proofs.lemmas.Bool.{eqb-true}
use Rattle.std.proofs.lemmas.Nat.Bits.{bit_at_lowest, bit_at_above}
use Rattle.flow_base.specs.Words.{Agree, bits_under, patched}
use Rattle.flow_base.specs.Points.{width_of}
use Rattle.flow_base.specs.declared.points.Point.{Point}
use Rattle.flow_base.specs.declared.points.Slot.{Slot}
use Rattle.flow_base.specs.declared.points.Slot.TheVariants.{First as FirstSlot, Second as SecondSlot, Address}
use Rattle.flow_base.specs.declared.points.Slot.TheVariants.{Result as ResultSlot, Decision as DecisionSlot, Number}
use Rattle.flow_base.specs.declared.points.Slot.TheVariants.{Arg0, Arg1, Arg2, SecretIn, ByteOut, Status, OutReg}
use Rattle.flow_base.specs.declared.points.Slot.TheVariants.{OutRange}
use Rattle.rv32im_machine.specs.declared.language.Operation.{Operation}
use Rattle.rv32im_machine.specs.declared.language.Operation.TheVariants.{Result, Decision, Target}
use Rattle.rv32im_machine.specs.declared.language.Place.{Place}
use Rattle.rv32im_machine.specs.declared.language.Place.TheVariants.{Register, Byte, First, Second}
use Rattle.rv32im_machine.specs.declared.language.Shape.{Shape}
use Rattle.rv32im_machine.specs.declared.language.Source.{Source}
use Rattle.rv32im_machine.specs.declared.language.Source.TheVariants.{At, Constant, Secret}
use Rattle.rv32im_machine.specs.declared.language.Sources.{Sources}
use Rattle.rv32im_machine.specs.declared.language.Sources.TheVariants.{One, Two, Byte as BytesOne, Half as BytesTwo}
use Rattle.rv32im_machine.specs.declared.language.Sources.TheVariants.{Word as BytesFour}
use Rattle.rv32im_machine.specs.State.{Setting, Store, byte_of}
use Rattle.rv32im_machine.specs.Language.{Held, Making, Shaped, Computed, at_place, value_of, values_of, shaped}
use Rattle.rv32im_machine.specs.Language.{computed, made, first_of, second_of, work_of}
use Rattle.shadow_masks.specs.declared.labels.Label.{Label}
use Rattle.run_labels.specs.TurnLabels.{TurnLabels, label_at}
use Rattle.run_labels.specs.Masks.{source_mask, byte_mask, masks_of, work_mask, answered_mask}
use Rattle.run_labels.specs.Flowing.{link_from, source_events, byte_events, sources_events}
use Rattle.run_labels.specs.Answers.{IsSoundAnswer, HoldsOfAnswer, operands_of}
use Rattle.transfer_rules.specs.Rules.{OfWords, OfBranch}
use Rattle.transfer_rules.proofs.Instructions.{agree_cleared}
use Rattle.flow_graph.specs.declared.events.Event.{Event}
use Rattle.flow_graph.specs.declared.events.Event.TheVariants.{Link}
use Rattle.acceptance_law.specs.Sides.{NamedSide}
use Rattle.acceptance_law.specs.ClosedEvents.{AreClosedEvents}
use Rattle.acceptance_law.specs.Inputs.{AreBytes, IsProperSource, AreProperSources, place_limit, source_limit, FitsShape, FitsSlot}
use Rattle.acceptance_law.specs.Inputs.{AreOperands, operation_limit}
use Rattle.acceptance_law.proofs.AgreeOutsideMask.{agree_refl, agree_width, patched_below_width}
use Rattle.acceptance_law.proofs.WritesKeepRelation.{Close, close_equal, Beside}
use Rattle.acceptance_law.proofs.ShapesAgree.{AgreeAll, BytesBelow, shaped_agree}

-- ---- widths of slots

abbrev pub width_bits : Slot → ℕ
width_bits FirstSlot = 32
width_bits SecondSlot = 32
width_bits Address = 32
width_bits ResultSlot = 32
width_bits DecisionSlot = 1
width_bits Number = 32
width_bits Arg0 = 32
width_bits Arg1 = 32
width_bits Arg2 = 32
width_bits SecretIn = 8
width_bits ByteOut = 8
width_bits Status = 8
width_bits (OutReg register) = 32
width_bits (OutRange range) = 8

record IsWidth (slot : Slot) : Type 0 where
  pub ones : width_of slot ≡ 2 ^ width_bits slot - 1
  pub word : width_of slot < 2 ^ 32
  pub some : 0 < 2 ^ width_bits slot

width_is : (slot : Slot) → IsWidth slot
width_is FirstSlot = record { ones = refl; word = omega arith; some = omega arith }
width_is SecondSlot = record { ones = refl; word = omega arith; some = omega arith }
width_is Address = record { ones = refl; word = omega arith; some = omega arith }
width_is ResultSlot = record { ones = refl; word = omega arith; some = omega arith }
width_is DecisionSlot = record { ones = refl; word = omega arith; some = omega arith }
width_is Number = record { ones = refl; word = omega arith; some = omega arith }
width_is Arg0 = record { ones = refl; word = omega arith; some = omega arith }
width_is Arg1 = record { ones = refl; word = omega arith; some = omega arith }
width_is Arg2 = record { ones = refl; word = omega arith; some = omega arith }
width_is SecretIn = record { ones = refl; word = omega arith; some = omega arith }
width_is ByteOut = record { ones = refl; word = omega arith; some = omega arith }
width_is Status = record { ones = refl; word = omega arith; some = omega arith }
width_is (OutReg register) = record { ones = refl; word = omega arith; some = omega arith }
width_is (OutRange range) = record { ones = refl; word = omega arith; some = omega arith }

pub slot_word : (slot : Slot) (value : ℕ) → value ≤ width_of slot → value < 2 ^ 32
slot_word slot value fits = let word = (width_is slot).word in omega (arith, fits, word)

slot_below : (slot : Slot) (value : ℕ) → value ≤ width_of slot → value < 2 ^ width_bits slot
slot_below slot value fits =
    let width = width_is slot in
    let ones = width.ones in let some = width.some in omega (arith, fits, ones, some)

-- two values of a slot agree outside its width
pub slot_agree : (slot : Slot) (a b : ℕ) → a ≤ width_of slot → b ≤ width_of slot → Agree (width_of slot) a b
slot_agree slot a b p q =
    agree_width (width_bits slot) (width_of slot) a b (width_is slot).ones (slot_below slot a p) (slot_below slot b q)

-- a patch keeps to the width
pub patched_slot : (slot : Slot) (c r y : ℕ) → r ≤ width_of slot → y ≤ width_of slot →
    patched y c (bits_under r c) ≤ width_of slot
patched_slot slot c r y p q =
    let width = width_is slot in
    let ones = width.ones in
    let below = patched_below_width (width_bits slot) c r y (slot_below slot r p) (slot_below slot y q)
    (slot_word slot r p) in
    omega (arith, below, ones)

-- ---- limits of values

place_word : (place : Place) → place_limit place ≤ 4294967295
place_word (Register register) = omega arith
place_word (Byte address) = omega arith
place_word First = omega arith
place_word Second = omega arith

source_word : (source : Source) → source_limit source ≤ 4294967295
source_word (At place) = place_word place
source_word (Constant value) = omega arith
source_word (Secret index) = omega arith

-- what a run's values are of, with its secret
module _ (setting : Setting) (secret : List ℕ) (bytes : AreBytes secret) (store : Store) (held : Held)
    (limits : (place : Place) → at_place setting.base store held place ≤ place_limit place) where
  pub value_limit : (source : Source) → IsProperSource setting.base source →
      value_of setting secret store held source ≤ source_limit source
  value_limit (At place) is = limits place
  value_limit (Constant value) is = omega (arith, is)
  value_limit (Secret index) is = let byte = bytes index in omega (arith, byte)

  byte_limit : (address : ℕ) → byte_of setting.base store address ≤ 255
  byte_limit address = limits (Byte address)

  shape_fits : (width : ℕ) (shape : Shape) (sources : Sources) → AreProperSources setting.base sources →
      FitsShape width shape sources → shaped shape (values_of setting secret store held sources) ≤ width
  shape_fits width shape (One source) are fits = fits _ (value_limit source are)
  shape_fits width shape (Two first second) are fits = absurd fits
  shape_fits width shape (BytesOne address) are fits = fits _ (byte_limit address)
  shape_fits width shape (BytesTwo address) are fits = fits _ _ (byte_limit address) (byte_limit (address + 1))
  shape_fits width shape (BytesFour address) are fits =
      fits _ _ _ _ (byte_limit address) (byte_limit (address + 1)) (byte_limit (address + 2))
      (byte_limit (address + 3))

  word_of_limit : (value limit : ℕ) → value ≤ limit → limit ≤ 4294967295 → value < 2 ^ 32
  word_of_limit value limit p q = omega (arith, p, q)

  pub first_word : (sources : Sources) → AreProperSources setting.base sources →
      first_of (values_of setting secret store held sources) < 2 ^ 32
  first_word (One source) are = word_of_limit _ _ (value_limit source are) (source_word source)
  first_word (Two first second) are = word_of_limit _ _ (value_limit first are.0) (source_word first)
  first_word (BytesOne address) are = word_of_limit _ 255 (byte_limit address) (omega arith)
  first_word (BytesTwo address) are = word_of_limit _ 255 (byte_limit address) (omega arith)
  first_word (BytesFour address) are = word_of_limit _ 255 (byte_limit address) (omega arith)

  pub second_word : (sources : Sources) → AreProperSources setting.base sources →
      second_of (values_of setting secret store held sources) < 2 ^ 32
  second_word (One source) are = omega arith
  second_word (Two first second) are = word_of_limit _ _ (value_limit second are.1) (source_word second)
  second_word (BytesOne address) are = omega arith
  second_word (BytesTwo address) are = word_of_limit _ 255 (byte_limit (address + 1)) (omega arith)
  second_word (BytesFour address) are = word_of_limit _ 255 (byte_limit (address + 1)) (omega arith)

  -- what is made fits its slot
  pub made_fits : (point : Point) (making : Making) (sources : Sources) → AreProperSources setting.base sources →
      FitsSlot point making sources → made making (values_of setting secret store held sources) ≤ width_of point.slot
  made_fits point (Shaped shape) sources are fits = shape_fits (width_of point.slot) shape sources are fits
  made_fits point (Computed operation) sources are fits =
      subst (λ w. computed operation (first_of (values_of setting secret store held sources))
      (second_of (values_of setting secret store held sources)) ≤ w) (sym fits.1)
      (fits.2 _ _ (first_word sources are) (second_word sources are))

-- ---- limits of masks

module _ (base : ℕ) (labels : TurnLabels)
    (limits : (place : Place) → (label_at labels place).mask ≤ place_limit place) where
  mask_limit : (source : Source) → source_mask labels source ≤ source_limit source
  mask_limit (At place) = limits place
  mask_limit (Constant value) = omega arith
  mask_limit (Secret index) = omega arith

  byte_mask_limit : (address : ℕ) → byte_mask labels address ≤ 255
  byte_mask_limit address = limits (Byte address)

  shape_mask_fits : (width : ℕ) (shape : Shape) (sources : Sources) → FitsShape width shape sources →
      shaped shape (masks_of labels sources) ≤ width
  shape_mask_fits width shape (One source) fits = fits _ (mask_limit source)
  shape_mask_fits width shape (Two first second) fits = absurd fits
  shape_mask_fits width shape (BytesOne address) fits = fits _ (byte_mask_limit address)
  shape_mask_fits width shape (BytesTwo address) fits =
      fits _ _ (byte_mask_limit address) (byte_mask_limit (address + 1))
  shape_mask_fits width shape (BytesFour address) fits =
      fits _ _ _ _ (byte_mask_limit address) (byte_mask_limit (address + 1)) (byte_mask_limit (address + 2))
      (byte_mask_limit (address + 3))

  answer_fits : (operation : Operation) (answer : ℕ) → answer < 2 ^ 32 →
      answered_mask operation answer ≤ operation_limit operation
  answer_fits (Result kind) answer word = omega (arith, word)
  answer_fits (Decision kind) answer word = omega arith
  answer_fits Target answer word = omega (arith, word)

  -- the mask of what is made fits its slot
  pub mask_fits : (point : Point) (making : Making) (sources : Sources) (values : List ℕ) (answer : ℕ) →
      FitsSlot point making sources → HoldsOfAnswer IsSoundAnswer (work_of making values) (masks_of labels sources) answer →
      work_mask (work_of making values) (masks_of labels sources) answer ≤ width_of point.slot
  mask_fits point (Shaped shape) sources values answer fits sound =
      shape_mask_fits (width_of point.slot) shape sources fits
  mask_fits point (Computed operation) sources values answer fits sound =
      subst (λ w. answered_mask operation answer ≤ w) (sym fits.1) (answer_fits operation answer sound.0)

-- ---- agreement

first_agree : (ms as' bs : List ℕ) → AgreeAll ms as' bs → Agree (first_of ms) (first_of as') (first_of bs)
unfolding AgreeAll
first_agree [] [] [] h = agree_refl 0 0
first_agree (m ∷ ms) (a ∷ as') (b ∷ bs) h = h.0
first_agree [] [] (b ∷ bs) h = absurd h
first_agree [] (a ∷ as') bs h = absurd h
first_agree (m ∷ ms) [] bs h = absurd h
first_agree (m ∷ ms) (a ∷ as') [] h = absurd h

second_agree : (ms as' bs : List ℕ) → AgreeAll ms as' bs → Agree (second_of ms) (second_of as') (second_of bs)
unfolding AgreeAll
second_agree [] [] [] h = agree_refl 0 0
second_agree (m ∷ ms) (a ∷ as') (b ∷ bs) h = first_agree ms as' bs h.1
second_agree [] [] (b ∷ bs) h = absurd h
second_agree [] (a ∷ as') bs h = absurd h
second_agree (m ∷ ms) [] bs h = absurd h
second_agree (m ∷ ms) (a ∷ as') [] h = absurd h

pub closed_append : (side : NamedSide) (es fs : List Event) → AreClosedEvents side (es ++ fs) →
    AreClosedEvents side es × AreClosedEvents side fs
closed_append side [] fs h = (tt, h)
closed_append side (e ∷ es) fs h =
    let rest = closed_append side es fs h.1 in ((h.0, rest.0), rest.1)

-- where the passed point is outside the side, a label with a mask other than 0 is so too
pub link_equal : (side : NamedSide) (point : Point) (label : Label) (real copy : ℕ) → Close side label real copy →
    side.first point ≡ false → AreClosedEvents side (link_from label point) → real ≡ copy
link_equal side point label real copy close outside h = pick (label.mask == 0) refl h
  where
    alike : (t : Bool) → (t ≡ true → side.first point ≡ true) → t ≡ false
    alike false closed = refl
    alike true closed = let both : true ≡ false = sym (closed refl) ∙ outside in absurd (cc)

    pick : (t : Bool) → (label.mask == 0) ≡ t →
        AreClosedEvents side (if t then [] else Link label.point point ∷ []) → real ≡ copy
    pick true e closed = close_equal side label real copy (eqb-true label.mask 0 e) close
    pick false e closed = close.1 (alike (side.second label.point) closed.0)

module _ (side : NamedSide) (setting : Setting) (secret other : List ℕ) (bytes : AreBytes secret)
    (others : AreBytes other) (labels : TurnLabels) (real : Store) (held : Held) (copy : Store) (taken : Held)
    (beside : Beside side setting.base labels real held copy taken) where
  pub byte_close : (address : ℕ) → setting.base ≤ address →
      Close side (labels.map.bytes address) (byte_of setting.base real address) (byte_of setting.base copy address)
  byte_close address from = beside.places (Byte address) from

  source_agree : (source : Source) → IsProperSource setting.base source →
      Agree (source_mask labels source) (value_of setting secret real held source)
      (value_of setting other copy taken source)
  source_agree (At place) is = (beside.places place is).0
  source_agree (Constant value) is = agree_refl 0 value
  source_agree (Secret index) is = agree_width 8 255 _ _ refl (bytes index) (others index)

  pub sources_agree : (sources : Sources) → AreProperSources setting.base sources →
      AgreeAll (masks_of labels sources) (values_of setting secret real held sources)
      (values_of setting other copy taken sources)
  unfolding AgreeAll
  sources_agree (One source) are = (source_agree source are, tt)
  sources_agree (Two first second) are = (source_agree first are.0, (source_agree second are.1, tt))
  sources_agree (BytesOne address) are = ((byte_close address are).0, tt)
  sources_agree (BytesTwo address) are =
      ((byte_close address are).0, ((byte_close (address + 1) (omega (arith, are))).0, tt))
  sources_agree (BytesFour address) are = (
    (byte_close address are).0,
    (
      (byte_close (address + 1) (omega (arith, are))).0,
      ((byte_close (address + 2) (omega (arith, are))).0, ((byte_close (address + 3) (omega (arith, are))).0, tt)),
    ),
  )

  real_byte : (address : ℕ) → byte_of setting.base real address < 256
  real_byte address = let limit = beside.real_limits (Byte address) in omega (arith, limit)

  copy_byte : (address : ℕ) → byte_of setting.base copy address < 256
  copy_byte address = let limit = beside.copy_limits (Byte address) in omega (arith, limit)

  label_byte : (address : ℕ) → byte_mask labels address < 256
  label_byte address = let limit = beside.label_limits (Byte address) in omega (arith, limit)

  shape_agrees : (width : ℕ) (shape : Shape) (sources : Sources) → AreProperSources setting.base sources →
      FitsShape width shape sources →
      Agree (shaped shape (masks_of labels sources)) (shaped shape (values_of setting secret real held sources))
      (shaped shape (values_of setting other copy taken sources))
  unfolding BytesBelow
  shape_agrees width shape (One source) are fits =
      shaped_agree shape _ _ _ (sources_agree (One source) are) tt tt tt
  shape_agrees width shape (Two first second) are fits = absurd fits
  shape_agrees width shape (BytesOne address) are fits =
      shaped_agree shape _ _ _ (sources_agree (BytesOne address) are) tt tt tt
  shape_agrees width shape (BytesTwo address) are fits =
      shaped_agree shape _ _ _ (sources_agree (BytesTwo address) are) (label_byte address, tt) (real_byte address, tt)
      (copy_byte address, tt)
  shape_agrees width shape (BytesFour address) are fits =
      shaped_agree shape _ _ _ (sources_agree (BytesFour address) are)
      (label_byte address, (label_byte (address + 1), (label_byte (address + 2), tt)))
      (real_byte address, (real_byte (address + 1), (real_byte (address + 2), tt)))
      (copy_byte address, (copy_byte (address + 1), (copy_byte (address + 2), tt)))

  target_second : (sources : Sources) → AreOperands Target sources →
      second_of (values_of setting secret real held sources) ≡ second_of (values_of setting other copy taken sources)
  target_second (One source) h = absurd h
  target_second (BytesOne address) h = absurd h
  target_second (BytesTwo address) h = absurd h
  target_second (BytesFour address) h = absurd h
  target_second (Two first (Constant value)) h = refl
  target_second (Two (At First) (At place)) h = absurd h
  target_second (Two (At First) (Secret index)) h = absurd h
  target_second (Two (At (Register register)) (At place)) h = absurd h
  target_second (Two (At (Register register)) (Secret index)) h = absurd h
  target_second (Two (At (Byte address)) (At place)) h = absurd h
  target_second (Two (At (Byte address)) (Secret index)) h = absurd h
  target_second (Two (At Second) (At place)) h = absurd h
  target_second (Two (At Second) (Secret index)) h = absurd h
  target_second (Two (Constant value) (At place)) h = absurd h
  target_second (Two (Constant value) (Secret index)) h = absurd h
  target_second (Two (Secret index) (At place)) h = absurd h
  target_second (Two (Secret index) (Secret index')) h = absurd h

  bit_agree : (answer a b : ℕ) → a ≤ 1 → b ≤ 1 → Agree answer a b → Agree (answer % 2) a b
  bit_agree answer a b p q agree zero clear =
      agree zero (bit_at_lowest answer ∙ (let low : answer % 2 % 2 ≡ answer % 2 = omega arith in
      sym low ∙ (sym (bit_at_lowest (answer % 2)) ∙ clear)))
  bit_agree answer a b p q agree (suc i) clear =
      bit_at_above a 1 (suc i) (omega (arith, p)) (omega arith)
      ∙ sym (bit_at_above b 1 (suc i) (omega (arith, q)) (omega arith))

  even_target : (sum : ℕ) → (sum - sum % 2) - (sum - sum % 2) % 2 ≡ sum - sum % 2
  even_target sum = omega arith

  -- of targets, which are even, the lowest bit is the same
  target_agree : (answer a b : ℕ) → Agree answer (a - a % 2) (b - b % 2) →
      Agree (answer - answer % 2) (a - a % 2) (b - b % 2)
  target_agree answer a b agree =
      subst (λ x. Agree (answer - answer % 2) x (b - b % 2)) (even_target a)
      (subst (λ y. Agree (answer - answer % 2) ((a - a % 2) - (a - a % 2) % 2) y) (even_target b)
      (agree_cleared answer (a - a % 2) (b - b % 2) agree))

  answer_agrees : (operation : Operation) (sources : Sources) (answer : ℕ) → AreProperSources setting.base sources →
      AreOperands operation sources →
      ((first second : ℕ) → first < 2 ^ 32 → second < 2 ^ 32 →
      computed operation first second ≤ operation_limit operation) →
      IsSoundAnswer operation (operands_of (first_of (values_of setting secret real held sources))
      (second_of (values_of setting secret real held sources)) (masks_of labels sources)) answer →
      Agree (answered_mask operation answer)
      (computed operation (first_of (values_of setting secret real held sources))
      (second_of (values_of setting secret real held sources)))
      (computed operation (first_of (values_of setting other copy taken sources))
      (second_of (values_of setting other copy taken sources)))
  answer_agrees (Result kind) sources answer are operands limit sound =
      let all = sources_agree sources are in
      sound.1 (OfWords kind) refl _ _ (first_word setting other others copy taken beside.copy_limits sources are)
      (second_word setting other others copy taken beside.copy_limits sources are) (first_agree _ _ _ all)
      (second_agree _ _ _ all)
  answer_agrees (Decision kind) sources answer are operands limit sound =
      let all = sources_agree sources are in
      let w1 = first_word setting other others copy taken beside.copy_limits sources are in
      let w2 = second_word setting other others copy taken beside.copy_limits sources are in
      let v1 = first_word setting secret bytes real held beside.real_limits sources are in
      let v2 = second_word setting secret bytes real held beside.real_limits sources are in
      bit_agree answer _ _ (limit _ _ v1 v2) (limit _ _ w1 w2)
      (sound.1 (OfBranch kind) refl _ _ w1 w2 (first_agree _ _ _ all) (second_agree _ _ _ all))
  answer_agrees Target sources answer are operands limit sound =
      let all = sources_agree sources are in
      target_agree answer _ _
      (subst (λ n. Agree answer (computed Target (first_of (values_of setting secret real held sources))
      (second_of (values_of setting secret real held sources)))
      (computed Target (first_of (values_of setting other copy taken sources)) n)) (target_second sources operands)
      (sound.1 _ (first_word setting other others copy taken beside.copy_limits sources are) (first_agree _ _ _ all)))

  -- what is made agrees outside its mask
  pub made_agrees : (point : Point) (making : Making) (sources : Sources) (answer : ℕ) →
      AreProperSources setting.base sources → FitsSlot point making sources →
      HoldsOfAnswer IsSoundAnswer (work_of making (values_of setting secret real held sources)) (masks_of labels sources)
      answer →
      Agree (work_mask (work_of making (values_of setting secret real held sources)) (masks_of labels sources) answer)
      (made making (values_of setting secret real held sources))
      (made making (values_of setting other copy taken sources))
  made_agrees point (Shaped shape) sources answer are fits sound =
      shape_agrees (width_of point.slot) shape sources are fits
  made_agrees point (Computed operation) sources answer are fits sound =
      answer_agrees operation sources answer are fits.0 fits.2 sound

  source_equal : (point : Point) → side.first point ≡ false → (source : Source) → IsProperSource setting.base source →
      AreClosedEvents side (source_events labels point source) →
      value_of setting secret real held source ≡ value_of setting other copy taken source
  source_equal point outside (At place) is h =
      link_equal side point (label_at labels place) _ _ (beside.places place is) outside h
  source_equal point outside (Constant value) is h = refl
  source_equal point outside (Secret index) is h =
      let both : true ≡ false = sym h.0 ∙ outside in absurd (cc)

  byte_equal : (point : Point) → side.first point ≡ false → (address : ℕ) → setting.base ≤ address →
      AreClosedEvents side (byte_events labels point address) →
      byte_of setting.base real address ≡ byte_of setting.base copy address
  byte_equal point outside address from h =
      link_equal side point (labels.map.bytes address) _ _ (byte_close address from) outside h

  -- where no source comes from the side, the sources are equal
  pub sources_equal : (point : Point) → side.first point ≡ false → (sources : Sources) →
      AreProperSources setting.base sources → AreClosedEvents side (sources_events labels point sources) →
      values_of setting secret real held sources ≡ values_of setting other copy taken sources
  sources_equal point outside (One source) are h = ap (λ v. v ∷ []) (source_equal point outside source are h)
  sources_equal point outside (Two first second) are h =
      let both = closed_append side (source_events labels point first) (source_events labels point second) h in
      ap₂ (λ v w. v ∷ w ∷ []) (source_equal point outside first are.0 both.0)
      (source_equal point outside second are.1 both.1)
  sources_equal point outside (BytesOne address) are h =
      ap (λ v. v ∷ []) (byte_equal point outside address are h)
  sources_equal point outside (BytesTwo address) are h =
      let both = closed_append side (byte_events labels point address) (byte_events labels point (address + 1)) h in
      ap₂ (λ v w. v ∷ w ∷ []) (byte_equal point outside address are both.0)
      (byte_equal point outside (address + 1) (omega (arith, are)) both.1)
  sources_equal point outside (BytesFour address) are h =
      let one = closed_append side (byte_events labels point address) _ h in
      let two = closed_append side (byte_events labels point (address + 1)) _ one.1 in
      let three = closed_append side (byte_events labels point (address + 2)) _ two.1 in
      let a = byte_equal point outside address are one.0 in
      let b = byte_equal point outside (address + 1) (omega (arith, are)) two.0 in
      let c = byte_equal point outside (address + 2) (omega (arith, are)) three.0 in
      let d = byte_equal point outside (address + 3) (omega (arith, are)) three.1 in
      cc
