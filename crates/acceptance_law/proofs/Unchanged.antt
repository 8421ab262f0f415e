-- What the turn of an instruction leaves as it was: the setting, the secret and the kept registers; and inside a region
-- that it does not break every place that the region does not declare, with its label, and all of the control that a
-- call alone changes.
use Rattle.std.proofs.Common.{◌≡◌, ℕ, ◌-◌, ◌^◌, ◌<◌, ◌≤◌, ◌≢◌, Bool, true, false, List, [], ◌∷◌, length}
use Rattle.std.proofs.Common.{Option, Some, None, refl, sym, ap, subst, ◌∙◌, arith, ◌⊎◌, inl, inr, ⊎_elim}
use Rattle.std.specs.Prelude.{◌==◌, ◌&&◌, ◌||◌, nat_lt, if◌then◌else◌, slice_index, slice_set}
use Rattle.std.proofs.lemmas.Bool.{eqb-true, ltb-true, and_parts}
use Rattle.std.proofs.lemmas.List.{get_or-set_other}
use Rattle.enclosure_regions.specs.declared.break_kinds.Break.{Break}
use Rattle.enclosure_regions.specs.declared.break_kinds.Break.TheVariants.{UndeclaredWrite}
use Rattle.enclosure_regions.specs.declared.break_kinds.Place.TheVariants.{Reg, Byte as WrittenByte}
use Rattle.enclosure_regions.specs.declared.region_parts.Region.{Region}
use Rattle.enclosure_regions.specs.Breaks.{declares_register, declares_byte}
use Rattle.rv32im_machine.specs.declared.language.Place.{Place}
use Rattle.rv32im_machine.specs.declared.language.Place.TheVariants.{Register, Byte, First, Second}
use Rattle.rv32im_machine.specs.declared.language.Shape.{Shape}
use Rattle.rv32im_machine.specs.declared.language.Source.{Source}
use Rattle.rv32im_machine.specs.declared.language.Source.TheVariants.{At, Constant, Secret}
use Rattle.rv32im_machine.specs.State.{Setting, Store, State, with_register, with_byte}
use Rattle.rv32im_machine.specs.Language.{Turn, Looks, Passes, Decides, Gives, Moves, Saves, Restores, Ends, Walk}
use Rattle.rv32im_machine.specs.Language.{walked, Held, none_held, at_place, put, hold, value_of, values_of, made}
use Rattle.rv32im_machine.specs.Language.{work_of, shaped, first_of, seen_value}
use Rattle.rv32im_machine.specs.Folds.{real_end}
use Rattle.flow_base.specs.declared.points.Point.{Point}
use Rattle.region_machine.specs.Runs.{passed}
use Rattle.replay_machine.specs.Runs.{times_passed}
use Rattle.acceptance_law.specs.RunCuts.{is_inner, is_instruction_slot}
use Rattle.region_machine.specs.Breaking.{place_break, walk_break}
use Rattle.shadow_masks.specs.declared.labels.Label.{Label}
use Rattle.shadow_masks.specs.Writes.{LabelMap}
use Rattle.run_labels.specs.TurnLabels.{TurnLabels, label_at, put_label, at_start}
use Rattle.run_labels.specs.Answers.{IsSoundAnswer}
use Rattle.run_labels.specs.Traces.{traced, EachAnswer, labels_in}
use Rattle.run_labels.specs.Masks.{masks_of, work_mask, answers_after, moved_label}
use Rattle.shadow_masks.specs.Pages.{label_of}
use Rattle.acceptance_law.specs.Inputs.{AreBytes, IsProperPlace, place_limit, IsProper, IsMove}
use Rattle.acceptance_law.proofs.WritesKeepRelation.{put_limits, put_label_limits, put_registers, put_memory, put_kept}
use Rattle.acceptance_law.proofs.WritesKeepRelation.{put_label_kept, not_alike, apart_of}
use Rattle.acceptance_law.proofs.Passings.{slot_word, made_fits, mask_fits}
use Rattle.acceptance_law.proofs.SlotsInsideRegions.{WalkSlots}
use Rattle.acceptance_law.proofs.Turns.{NeverInner, inner_step, seen_word, label_of_limit}
use Rattle.flow_base.specs.Listed.{is_listed}
use Rattle.std.specs.Option.{option_or}

-- ---- ends

-- the end of a turn of an instruction
pub record EndsProper (setting : Setting) (secret : List ℕ) (region : ℕ) (kept : List ℕ) (state : State) : Type 0 where
  pub same_setting : state.setting ≡ setting
  pub same_secret : state.secret ≡ secret
  pub same_kept : state.store.kept ≡ kept
  pub small_break : state.control.current_break < 2 ^ 32
  pub same_region : state.control.region ≡ region

abbrev pub declared : Region → List ℕ → Place → Bool
declared region registers (Register register) =
    is_listed region.outs register || is_listed region.keep register
declared region registers (Byte address) = declares_byte region registers address
declared region registers First = true
declared region registers Second = true

-- the turn may write the place: the region declares it, or the write is dropped
abbrev pub MayWrite : Region → List ℕ → Place → Type 0
MayWrite region registers (Register register) =
    (register ≡ 0) ⊎ (declared region registers (Register register) ≡ true)
MayWrite region registers (Byte address) = declared region registers (Byte address) ≡ true
MayWrite region registers First = Unit {0}
MayWrite region registers Second = Unit {0}

-- ---- a write elsewhere

register_other : (label old : Label) (xs : List ℕ) (r a q : ℕ) → (r ≡ 0) ⊎ (q ≢ r) →
    (slice_index (if r == 0 then xs else slice_set xs r a) q ≡ slice_index xs q)
    × ((if nat_lt 0 q && q == r then label else old) ≡ old)
register_other label old xs r a q other = (value (r == 0) refl other, tag (nat_lt 0 q && q == r) refl other)
  where
    value : (s : Bool) → (r == 0) ≡ s → (r ≡ 0) ⊎ (q ≢ r) →
        slice_index (if s then xs else slice_set xs r a) q ≡ slice_index xs q
    value true e o = refl
    value false e (inl none) = absurd (apart_of r 0 e none)
    value false e (inr away) = get_or-set_other xs r q a 0 away

    tag : (t : Bool) → (nat_lt 0 q && q == r) ≡ t → (r ≡ 0) ⊎ (q ≢ r) → (if t then label else old) ≡ old
    tag false e o = refl
    tag true e (inr away) = absurd (away (eqb-true q r (and_parts (nat_lt 0 q) (q == r) e).1))
    tag true e (inl none) =
        let both = and_parts (nat_lt 0 q) (q == r) e in
        absurd (omega (arith, none, ltb-true 0 q both.0, eqb-true q r both.1))

byte_other : (label old : Label) (q p : ℕ) → q ≢ p → (if q == p then label else old) ≡ old
byte_other label old q p other = tag (q == p) refl
  where
    tag : (t : Bool) → (q == p) ≡ t → (if t then label else old) ≡ old
    tag true e = absurd (other (eqb-true q p e))
    tag false e = refl

-- the place holds what it held, with its label
abbrev pub SamePlace : ℕ → Place → TurnLabels → Store → Held → TurnLabels → Store → Held → Type 0
SamePlace base q labels store held later changed taken =
    (at_place base changed taken q ≡ at_place base store held q) × (label_at later q ≡ label_at labels q)

pub put_other : (base : ℕ) (region : Region) (registers : List ℕ) (p q : Place) (label : Label) (value : ℕ)
    (labels : TurnLabels) (store : Store) (held : Held) → IsProperPlace base p → IsProperPlace base q →
    MayWrite region registers p → declared region registers q ≡ false →
    SamePlace base q labels store held (put_label p label labels) (put base p value store) (hold p value held)
unfolding with_register with_byte
put_other base region registers (Register r) (Register q) label value labels store held ip iq dp dq =
    register_other label (labels.map.registers q) store.registers r value q
    (⊎_elim (λ none. inl none) (λ on. inr (λ same.
    not_alike on (subst (λ k. (is_listed region.outs k || is_listed region.keep k) ≡ false) same dq))) dp)
put_other base region registers (Register r) (Byte q) label value labels store held ip iq dp dq = (refl, refl)
put_other base region registers (Byte p) (Register q) label value labels store held ip iq dp dq = (refl, refl)
put_other base region registers (Byte p) (Byte q) label value labels store held ip iq dp dq =
    let other : q ≢ p = λ same. not_alike dp (subst (λ k. declares_byte region registers k ≡ false) same dq) in
    let away : (q - base) ≢ (p - base) = λ same. other (omega (arith, same, ip, iq)) in
    (get_or-set_other store.memory (p - base) (q - base) value 0 away, byte_other label (labels.map.bytes q) q p other)
put_other base region registers First (Register q) label value labels store held ip iq dp dq = (refl, refl)
put_other base region registers First (Byte q) label value labels store held ip iq dp dq = (refl, refl)
put_other base region registers Second (Register q) label value labels store held ip iq dp dq = (refl, refl)
put_other base region registers Second (Byte q) label value labels store held ip iq dp dq = (refl, refl)
put_other base region registers p First label value labels store held ip iq dp dq = absurd (not_alike refl dq)
put_other base region registers p Second label value labels store held ip iq dp dq = absurd (not_alike refl dq)

-- ---- breaks

pub first_unbroken : (first later : Option Break) → option_or first later ≡ None → (first ≡ None) × (later ≡ None)
first_unbroken None later e = (refl, e)
first_unbroken (Some broken) later e = absurd (cc)

declared_if : (t : Bool) (broken : Break) → (if t then None else Some broken) ≡ None → t ≡ true
declared_if true broken e = refl
declared_if false broken e = absurd (cc)

pub may_write : (region : Region) (registers : List ℕ) (pc : ℕ) (p : Place) →
    place_break region registers pc p ≡ None → MayWrite region registers p
may_write region registers pc (Register r) e =
    pick (r == 0) refl (declared_if (declares_register region r) (UndeclaredWrite region.id pc (Reg r)) e)
  where
    pick : (t : Bool) → (r == 0) ≡ t → (t || (is_listed region.outs r || is_listed region.keep r)) ≡ true →
        (r ≡ 0) ⊎ ((is_listed region.outs r || is_listed region.keep r) ≡ true)
    pick true zeroth on = inl (eqb-true r 0 zeroth)
    pick false away on = inr on
may_write region registers pc (Byte a) e =
    declared_if (declares_byte region registers a) (UndeclaredWrite region.id pc (WrittenByte a)) e
may_write region registers pc First e = tt
may_write region registers pc Second e = tt

-- ---- one turn

-- what is known of the end of a real turn from these labels and values, by itself
pub record RealEnds (setting : Setting) (secret : List ℕ) (number : ℕ) (labels : TurnLabels) (answers : List ℕ)
    (store : Store) (held : Held) (walk : Walk) : Type 0 where
  pub ends : EndsProper setting secret number store.kept (real_end walk)
  pub limits : (place : Place) → at_place setting.base (real_end walk).store none_held place ≤ place_limit place
  pub label_limits : (place : Place) →
      (label_at (at_start (labels_in labels answers walk)) place).mask ≤ place_limit place
  pub registers : length (real_end walk).store.registers ≡ length store.registers
  pub memory : length (real_end walk).store.memory ≡ length store.memory
  pub kept : (labels_in labels answers walk).kept ≡ labels.map.kept
  pub same : (region : Region) (registers : List ℕ) (pc : ℕ) → walk_break region registers pc walk ≡ None →
      (q : Place) → IsProperPlace setting.base q → declared region registers q ≡ false →
      SamePlace setting.base q labels store held (at_start (labels_in labels answers walk)) (real_end walk).store
      none_held
  -- inside a skipped region it counts for no other point, where it passes slots of instructions alone
  pub inner : (skip : List ℕ) → is_listed skip number ≡ true → WalkSlots walk → (past : List Point) (point : Point) →
      NeverInner skip point → times_passed point (passed past walk) ≡ times_passed point past

module _ (setting : Setting) (secret : List ℕ) (bytes : AreBytes secret) (number : ℕ) where
  -- what holds at the end of the rest of the turn holds at the end of the turn, where a place is written first
  put_ends : (p : Place) (label : Label) (value : ℕ) (labels : TurnLabels) (answers later : List ℕ) (store : Store)
      (held : Held) (walk whole : Walk) → IsProperPlace setting.base p → real_end whole ≡ real_end walk →
      labels_in labels answers whole ≡ labels_in (put_label p label labels) later walk →
      ((region : Region) (registers : List ℕ) (pc : ℕ) → walk_break region registers pc whole
      ≡ option_or (place_break region registers pc p) (walk_break region registers pc walk)) →
      ((skip : List ℕ) → is_listed skip number ≡ true → WalkSlots whole → (past : List Point) (point : Point) →
      NeverInner skip point → times_passed point (passed past whole) ≡ times_passed point past) →
      RealEnds setting secret number (put_label p label labels) later (put setting.base p value store)
      (hold p value held) walk → RealEnds setting secret number labels answers store held whole
  put_ends p label value labels answers later store held walk whole ip end tags breaks inner rest = record {
    ends = subst (λ s. EndsProper setting secret number store.kept s) (sym end)
        (subst (λ kept. EndsProper setting secret number kept (real_end walk)) (put_kept setting.base p value store)
        rest.ends);
    limits = λ q. subst (λ (s : State). at_place setting.base s.store none_held q ≤ place_limit q) (sym end)
        (rest.limits q);
    label_limits = λ q. subst (λ m. (label_at (at_start m) q).mask ≤ place_limit q) (sym tags) (rest.label_limits q);
    registers = ap (λ (s : State). length s.store.registers) end ∙ rest.registers
        ∙ put_registers setting.base p value store;
    memory = ap (λ (s : State). length s.store.memory) end ∙ rest.memory ∙ put_memory setting.base p value store;
    kept = ap (λ (m : LabelMap). m.kept) tags ∙ rest.kept ∙ put_label_kept p label labels;
    same = λ region registers pc none q iq dq.
        let parts = first_unbroken _ _ (sym (breaks region registers pc) ∙ none) in
        let later_same = rest.same region registers pc parts.1 q iq dq in
        let here = put_other setting.base region registers p q label value labels store held ip iq
        (may_write region registers pc p parts.0) dq in (
          ap (λ (s : State). at_place setting.base s.store none_held q) end ∙ later_same.0 ∙ here.0,
          ap (λ m. label_at (at_start m) q) tags ∙ later_same.1 ∙ here.1,
        );
    inner = inner;
  }

  same_start : (q : Place) (region : Region) (registers : List ℕ) (labels : TurnLabels) (store : Store) (held : Held) →
      declared region registers q ≡ false →
      SamePlace setting.base q labels store held (at_start labels.map) store none_held
  same_start (Register q) region registers labels store held dq = (refl, refl)
  same_start (Byte q) region registers labels store held dq = (refl, refl)
  same_start First region registers labels store held dq = absurd (not_alike refl dq)
  same_start Second region registers labels store held dq = absurd (not_alike refl dq)

  pub start_limits : (store : Store) (held : Held) →
      ((place : Place) → at_place setting.base store held place ≤ place_limit place) →
      (place : Place) → at_place setting.base store none_held place ≤ place_limit place
  start_limits store held limits (Register q) = limits (Register q)
  start_limits store held limits (Byte q) = limits (Byte q)
  start_limits store held limits First = omega arith
  start_limits store held limits Second = omega arith

  start_label_limits : (labels : TurnLabels) → ((place : Place) → (label_at labels place).mask ≤ place_limit place) →
      (place : Place) → (label_at (at_start labels.map) place).mask ≤ place_limit place
  start_label_limits labels limits (Register q) = limits (Register q)
  start_label_limits labels limits (Byte q) = limits (Byte q)
  start_label_limits labels limits First = omega arith
  start_label_limits labels limits Second = omega arith

  inner_is : (skip : List ℕ) (point : Point) → point.region ≡ number → is_instruction_slot point.slot ≡ true →
      is_listed skip number ≡ true → is_inner skip point ≡ true
  inner_is skip point inside slot stands = rw (inside, stands, slot) refl

  pub move_limit : (place : Place) (shape : Shape) (source : Source) (store : Store) (held : Held) →
      ((place : Place) → at_place setting.base store held place ≤ place_limit place) →
      IsMove setting.base place shape source →
      shaped shape (value_of setting secret store held source ∷ []) ≤ place_limit place
  move_limit place shape (At from) store held limits is = is.2 _ (limits from)
  move_limit place shape (Constant value) store held limits is = is.1
  move_limit place shape (Secret index) store held limits is = absurd is

  move_label_limit : (place : Place) (shape : Shape) (source : Source) (labels : TurnLabels) →
      ((place : Place) → (label_at labels place).mask ≤ place_limit place) → IsMove setting.base place shape source →
      (moved_label labels shape source).mask ≤ place_limit place
  move_label_limit place shape (At from) labels limits is = label_of_limit _ _ _ (is.2 _ (limits from))
  move_label_limit place shape (Constant value) labels limits is = omega arith
  move_label_limit place shape (Secret index) labels limits is = absurd is

  pub move_place : (place : Place) (shape : Shape) (source : Source) → IsMove setting.base place shape source →
      IsProperPlace setting.base place
  move_place place shape (At from) is = is.0
  move_place place shape (Constant value) is = is.0
  move_place place shape (Secret index) is = absurd is

  pub real_ends : (turn : Turn) (labels : TurnLabels) (answers : List ℕ) (store : Store) (held : Held) →
      IsProper setting.base number turn →
      ((place : Place) → at_place setting.base store held place ≤ place_limit place) →
      ((place : Place) → (label_at labels place).mask ≤ place_limit place) →
      EachAnswer IsSoundAnswer labels answers (walked setting secret turn store held) →
      RealEnds setting secret number labels answers store held (walked setting secret turn store held)
  unfolding walked real_end IsProper traced walk_break passed
  real_ends (Looks seen go) labels answers store held proper limits tags sound =
      let rest = real_ends (go (seen_value setting.base store seen)) labels answers store held
      (proper.1 _ (seen_word setting.base store held limits seen)) limits tags sound in record {
        ends = rest.ends;
        limits = rest.limits;
        label_limits = rest.label_limits;
        registers = rest.registers;
        memory = rest.memory;
        kept = rest.kept;
        same = λ region registers pc none q iq dq. rest.same region registers pc none q iq dq;
        inner = λ skip ins slots past q never. rest.inner skip ins slots past q never;
      }
  real_ends (Passes point place making sources turn) labels answers store held proper limits tags sound =
      let vs = values_of setting secret store held sources in
      let value = made making vs in
      let m = work_mask (work_of making vs) (masks_of labels sources) (first_of answers) in
      let is = proper.0 in
      let fits = made_fits setting secret bytes store held limits point making sources is.named is.fits in
      let mask = mask_fits setting.base labels tags point making sources vs (first_of answers) is.fits sound.0 in
      let width = proper.1.1 in
      let small : value ≤ place_limit place = omega (arith, fits, width) in
      let small_mask : m ≤ place_limit place = omega (arith, mask, width) in
      let rest = real_ends turn (put_label place (label_of m point) labels) (answers_after (work_of making vs) answers)
      (put setting.base place value store) (hold place value held) proper.2
      (λ q. put_limits setting.base place value store held small q (limits q))
      (λ q. put_label_limits place (label_of m point) labels (label_of_limit m point (place_limit place) small_mask) q
      (tags q)) sound.1 in
      put_ends place (label_of m point) value labels answers (answers_after (work_of making vs) answers) store held
      (walked setting secret turn (put setting.base place value store) (hold place value held))
      (walked setting secret (Passes point place making sources turn) store held) proper.1.0 refl refl
      (λ region registers pc. refl)
      (λ skip ins slots past q never. rest.inner skip ins slots.1 (point ∷ past) q never
      ∙ inner_step skip point q past (inner_is skip point is.inside slots.0 ins) never)
      rest
  real_ends (Decides point making sources go) labels answers store held proper limits tags sound =
      let vs = values_of setting secret store held sources in
      let value = made making vs in
      let is = proper.0 in
      let fits = made_fits setting secret bytes store held limits point making sources is.named is.fits in
      let rest = real_ends (go value) labels (answers_after (work_of making vs) answers) store held
      (proper.1 value (slot_word point.slot value fits)) limits tags sound.1 in record {
        ends = rest.ends;
        limits = rest.limits;
        label_limits = rest.label_limits;
        registers = rest.registers;
        memory = rest.memory;
        kept = rest.kept;
        same = λ region registers pc none q iq dq.
            rest.same region registers pc (first_unbroken _ _ none).1 q iq dq;
        inner = λ skip ins slots past q never. rest.inner skip ins slots.1 (point ∷ past) q never
            ∙ inner_step skip point q past (inner_is skip point is.inside slots.0 ins) never;
      }
  real_ends (Moves place shape source turn) labels answers store held proper limits tags sound =
      let value = shaped shape (value_of setting secret store held source ∷ []) in
      let label = moved_label labels shape source in
      let rest = real_ends turn (put_label place label labels) answers (put setting.base place value store)
      (hold place value held) proper.1
      (λ q. put_limits setting.base place value store held
      (move_limit place shape source store held limits proper.0) q (limits q))
      (λ q. put_label_limits place label labels (move_label_limit place shape source labels tags proper.0) q (tags q))
      sound in
      put_ends place label value labels answers answers store held
      (walked setting secret turn (put setting.base place value store) (hold place value held))
      (walked setting secret (Moves place shape source turn) store held) (move_place place shape source proper.0) refl
      refl (λ region registers pc. refl) (λ skip ins slots past q never. rest.inner skip ins slots past q never) rest
  real_ends (Gives point place turn) labels answers store held proper limits tags sound = absurd proper
  real_ends (Saves turn) labels answers store held proper limits tags sound = absurd proper
  real_ends (Restores registers turn) labels answers store held proper limits tags sound = absurd proper
  real_ends (Ends control) labels answers store held proper limits tags sound = record {
    ends = record {
      same_setting = refl;
      same_secret = refl;
      same_kept = refl;
      small_break = proper.0;
      same_region = proper.1;
    };
    limits = start_limits store held limits;
    label_limits = start_label_limits labels tags;
    registers = refl;
    memory = refl;
    kept = refl;
    same = λ region registers pc none q iq dq. same_start q region registers labels store held dq;
    inner = λ skip ins slots past q never. refl;
  }
