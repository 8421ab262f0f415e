-- One turn of an instruction, made three times: in the real run of a secret; in the replay that is fed the run's crossing
-- bits; and in the walk that is fed those of them that its masks leave open, and that may see another public input. The walk
-- meets something, or all three come to places that agree outside the walk's masks. The store of the walk is `copy`, that of
-- the replay `twin`.
use Rattle.std.proofs.Common.{◌≡◌, ℕ, ◌+◌, ◌^◌, ◌<◌, ◌≤◌, ◌⊎◌, inl, inr, Bool, true, false, List, [], ◌∷◌, ◌++◌}
use Rattle.std.proofs.Common.{length, Option, Some, None, refl, sym, ap, ap₂, subst, ◌∙◌, arith, append_assoc}
use Rattle.std.specs.Prelude.{bit_and, not, if◌then◌else◌}
use Rattle.std.proofs.lemmas.List.{length-append}
use Rattle.std.proofs.lemmas.Nat.{and_le_l}
use Rattle.flow_base.specs.declared.points.Point.{Point}
use Rattle.flow_base.specs.Points.{width_of, nowhere}
use Rattle.flow_base.specs.Words.{Agree, bit_count, bits_under, patched}
use Rattle.crossing_bits.proofs.Feeding.{feed_enough}
use Rattle.crossing_bits.proofs.Places.{length_bits_under}
use Rattle.crossing_bits.specs.Askers.{Asker, Asks, feed, Fed'}
use Rattle.rv32im_machine.specs.declared.language.Aim.TheVariants.{Decide as Decision}
use Rattle.rv32im_machine.specs.declared.language.Place.{Place}
use Rattle.rv32im_machine.specs.declared.language.Place.TheVariants.{Register, Byte, First, Second}
use Rattle.rv32im_machine.specs.declared.language.Shape.{Shape}
use Rattle.rv32im_machine.specs.declared.language.Shape.TheVariants.{Copied}
use Rattle.rv32im_machine.specs.declared.language.Source.{Source}
use Rattle.rv32im_machine.specs.declared.language.Source.TheVariants.{At, Constant, Secret}
use Rattle.rv32im_machine.specs.declared.language.Sources.{Sources}
use Rattle.rv32im_machine.specs.declared.language.Sources.TheVariants.{One, Two, Byte as BytesOne, Half as BytesTwo}
use Rattle.rv32im_machine.specs.declared.language.Sources.TheVariants.{Word as BytesFour}
use Rattle.rv32im_machine.specs.Folds.{real_end}
use Rattle.rv32im_machine.specs.State.{Control, Setting, State, Store}
use Rattle.rv32im_machine.specs.Language.{Turn, Held}
use Rattle.rv32im_machine.specs.Language.{Making, Shaped, Computed, walked, put, hold, value_of, values_of, made, work_of}
use Rattle.rv32im_machine.specs.Language.{shaped, first_of, second_of, seen_value, none_held}
use Rattle.region_machine.specs.Runs.{passed}
use Rattle.replay_machine.specs.Runs.{ReplayPlace, mask_at, replayed}
use Rattle.lockstep_replay.specs.Crossing.{crossing}
use Rattle.lockstep_replay.specs.Verdicts.{counted_bits}
use Rattle.run_labels.specs.Answers.{HoldsOfAnswer, IsSoundAnswer, operands_of}
use Rattle.run_labels.specs.Masks.{byte_mask, masks_of, source_mask, work_mask, moved_label}
use Rattle.run_labels.specs.TurnLabels.{TurnLabels, label_at, at_start, put_label}
use Rattle.shadow_masks.specs.declared.labels.Label.{Label}
use Rattle.shadow_masks.specs.Labels.{clean}
use Rattle.shadow_masks.specs.Writes.{LabelMap}
use Rattle.shadow_masks.specs.Pages.{label_of}
use Rattle.transfer_rules.specs.Table1.{flipped}
use Rattle.acceptance_law.specs.Inputs.{AreBytes, IsMove, IsPassing, FitsPlace, IsProper, place_limit}
use Rattle.acceptance_law.proofs.AgreeOutsideMask.{patched_uncrossed}
use Rattle.acceptance_law.proofs.Passings.{first_word, made_agrees, made_fits, mask_fits, patched_slot, second_word, slot_word}
use Rattle.acceptance_law.proofs.Turns.{feed_bits, label_of_limit, seen_word}
use Rattle.acceptance_law.proofs.TurnsKeepRelation.{moved_beside}
use Rattle.acceptance_law.proofs.WritesKeepRelation.{Beside, Close, close_refl, fresh_beside, put_beside, put_kept, put_label_kept}
use Rattle.masked_turns.specs.declared.uses.LeftBits.{LeftBits}
use Rattle.masked_turns.specs.declared.uses.SecretLook.{SecretLook}
use Rattle.masked_turns.specs.declared.uses.SecretLook.TheVariants.{Code, BaseRegister}
use Rattle.masked_turns.specs.Clearing.{Cutting, uncrossed}
use Rattle.masked_turns.specs.Deciding.{left_at}
use Rattle.masked_turns.specs.Looking.{look_at}
use Rattle.masked_turns.proofs.LooksAgree.{look_same}
use Rattle.masked_turns.proofs.OutsideMasks.{AreSmall, close_of, everything}
use Rattle.masked_turns.proofs.PassedValues.{decided_equal as values_equal, put_agreed}
use Rattle.every_secret.specs.declared.whys.UnclearWhy.{UnclearWhy}
use Rattle.every_secret.specs.declared.public_inputs.PublicInput.{PublicInput}
use Rattle.every_secret.specs.declared.public_inputs.PublicInput.TheVariants.{Given, Any}
use Rattle.every_secret.specs.Masked.{Goes, MaskedPlace, Meets, Reached, label_moved, masked, unless_met}
use Rattle.every_secret.specs.Masked.{unclear_by_left, unclear_by_look}
use Rattle.every_secret.specs.Rules.{AreSoundRules, Rules, answer_to, public_mask}
use Rattle.every_secret.specs.Shown.{asked_for, byte_masks_after, status_mask_after}
use Rattle.every_secret.specs.Visits.{Knowledge}
use Rattle.every_secret.specs.Listed.{AgreeEach}
use Rattle.every_secret.proofs.Alike.{AgreeMode, Alike, Look, Pass, Decide, Show, Leave, Move, Take, End, seeing, with_output}
use Rattle.every_secret.proofs.Merging.{merged, patches_agree}

-- the two runs may change places
pub swapped : (base : ℕ) (labels : TurnLabels) (real : Store) (held : Held) (copy : Store) (taken : Held) →
    Beside everything base labels real held copy taken → Beside everything base labels copy taken real held
swapped base labels real held copy taken beside = record {
  places = λ place is. (
    λ i clear. sym ((beside.places place is).0 i clear),
    λ outside. sym ((beside.places place is).1 outside),
  );
  registers = sym beside.registers;
  memory = sym beside.memory;
  real_limits = beside.copy_limits;
  copy_limits = beside.real_limits;
  label_limits = beside.label_limits;
}

-- ---- what is known after a turn

-- the controls are equal but for what was shown, and that agrees outside its free bits
pub record AlikeControl (masks : List ℕ) (mask : ℕ) (real copy : Control) : Type 0 where
  pub output : AgreeEach masks real.output copy.output
  pub mode : AgreeMode mask real.mode copy.mode
  pub same : with_output real copy.output copy.mode ≡ copy

-- the walk meets something
pub record IsMet (asker : Asker Reached) : Type 0 where
  pub chosen : List Bool
  pub why : UnclearWhy
  pub meets : (more : List Bool) → feed asker (chosen ++ more) ≡ Fed' (Meets why) more

abbrev pub knows : List Point → TurnLabels → ℕ → List ℕ → ℕ → Knowledge
knows past labels crossed masks mask =
    record { past = past; labels = labels; crossed = crossed; byte_masks = masks; status_mask = mask }

-- what was kept at an entry: the values of registers in the walk and in the replay, and their masks
pub record KeptPart : Type 0 where
  pub values : List ℕ
  pub labels : ℕ → Label
  pub twins : List ℕ

abbrev pub kept_of : Store → LabelMap → Store → KeptPart
kept_of store labels twin = record { values = store.kept; labels = labels.kept; twins = twin.kept }

pub same_part : {values others : List ℕ} {labels masks : ℕ → Label} {twins all : List ℕ} → values ≡ others →
    labels ≡ masks → twins ≡ all →
    ◌≡◌ {A = KeptPart} (record { values = values; labels = labels; twins = twins })
    (record { values = others; labels = masks; twins = all })
same_part same alike also = λ i. record { values = same i; labels = alike i; twins = also i }

-- what two runs beside a third are beside each other
pub across : (base : ℕ) (labels : TurnLabels) (real : Store) (held : Held) (copy : Store) (taken : Held) (twin : Store)
    (lent : Held) → Beside everything base labels real held copy taken →
    Beside everything base labels real held twin lent → Beside everything base labels copy taken twin lent
across base labels real held copy taken twin lent beside also = record {
  places = λ place is. (
    λ i clear. sym ((beside.places place is).0 i clear) ∙ (also.places place is).0 i clear,
    λ outside. sym ((beside.places place is).1 outside) ∙ (also.places place is).1 outside,
  );
  registers = sym beside.registers ∙ also.registers;
  memory = sym beside.memory ∙ also.memory;
  real_limits = beside.copy_limits;
  copy_limits = also.copy_limits;
  label_limits = beside.label_limits;
}

-- no value depends on the public input
same_value_of : (setting : Setting) (seen secret : List ℕ) (store : Store) (held : Held) (source : Source) →
    value_of (seeing setting seen) secret store held source ≡ value_of setting secret store held source
same_value_of setting seen secret store held (At place) = refl
same_value_of setting seen secret store held (Constant value) = refl
same_value_of setting seen secret store held (Secret index) = refl

same_values_of : (setting : Setting) (seen secret : List ℕ) (store : Store) (held : Held) (sources : Sources) →
    values_of (seeing setting seen) secret store held sources ≡ values_of setting secret store held sources
same_values_of setting seen secret store held (One source) =
    ap (λ v. v ∷ []) (same_value_of setting seen secret store held source)
same_values_of setting seen secret store held (Two first second) =
    ap₂ (λ v w. v ∷ w ∷ []) (same_value_of setting seen secret store held first)
    (same_value_of setting seen secret store held second)
same_values_of setting seen secret store held (BytesOne address) = refl
same_values_of setting seen secret store held (BytesTwo address) = refl
same_values_of setting seen secret store held (BytesFour address) = refl

-- the walk sees this setting
module _ (setting sees : Setting) (other : List ℕ) where
  -- the walk goes on, and so does the replay, where so many bits have crossed before; the real run comes to this state,
  -- has passed these points, and gives these crossing bits
  pub record GoesAlong (asker : Asker Reached) (crossed : ℕ) (end : State) (past : List Point) (bits : List Bool)
      (copied : Asker ReplayPlace) (kept_before : KeptPart) : Type 0 where
    pub chosen : List Bool
    pub place : MaskedPlace
    pub goes : (more : List Bool) → feed asker (chosen ++ more) ≡ Fed' (Goes place) more
    pub twin : Store
    pub uses : feed copied bits ≡ Fed' (record {
      state = record { setting = setting; secret = other; control = end.control; store = twin };
      past = past;
      outside = None;
    }) []
    pub past_after : place.past ≡ past
    pub count : counted_bits place.crossed ≡ counted_bits (crossed + length bits)
    pub setting_after : place.state.setting ≡ sees
    pub secret_after : place.state.secret ≡ other
    pub control : AlikeControl place.byte_masks place.status_mask end.control place.state.control
    pub beside : Beside everything setting.base (at_start place.labels) end.store none_held place.state.store none_held
    pub also : Beside everything setting.base (at_start place.labels) end.store none_held twin none_held
    pub kept : kept_of place.state.store place.labels twin ≡ kept_before

  abbrev pub Outcome : Asker Reached → ℕ → State → List Point → List Bool → Asker ReplayPlace → KeptPart → Type 0
  Outcome asker crossed end past bits copied kept =
      IsMet asker ⊎ GoesAlong asker crossed end past bits copied kept

  -- bits before them
  pub step : (asker later : Asker Reached) (crossed before : ℕ) (end : State) (past : List Point) (bits : List Bool)
      (copied replayed_later : Asker ReplayPlace) (kept kept_before : KeptPart) (chosen crossing_first : List Bool) →
      ((rest : List Bool) → feed asker (chosen ++ rest) ≡ feed later rest) →
      ((rest : List Bool) → feed copied (crossing_first ++ rest) ≡ feed replayed_later rest) →
      ((n : ℕ) → counted_bits (crossed + n) ≡ counted_bits (before + (length crossing_first + n))) →
      kept ≡ kept_before → Outcome later crossed end past bits replayed_later kept →
      Outcome asker before end past (crossing_first ++ bits) copied kept_before
  step asker later crossed before end past bits copied replayed_later kept kept_before chosen crossing_first feeds
      replays counts keeps (inl met) =
      inl (record {
        chosen = chosen ++ met.chosen;
        why = met.why;
        meets = λ more. ap (λ string. feed asker string) (append_assoc chosen met.chosen more)
            ∙ feeds (met.chosen ++ more) ∙ met.meets more;
      })
  step asker later crossed before end past bits copied replayed_later kept kept_before chosen crossing_first feeds
      replays counts keeps (inr along) =
      inr (record {
        chosen = chosen ++ along.chosen;
        place = along.place;
        goes = λ more. ap (λ string. feed asker string) (append_assoc chosen along.chosen more)
            ∙ feeds (along.chosen ++ more) ∙ along.goes more;
        twin = along.twin;
        uses = replays bits ∙ along.uses;
        past_after = along.past_after;
        count = along.count ∙ counts (length bits)
            ∙ ap (λ n. counted_bits (before + n)) (sym (length-append crossing_first bits));
        setting_after = along.setting_after;
        secret_after = along.secret_after;
        control = along.control;
        beside = along.beside;
        also = along.also;
        kept = along.kept ∙ keeps;
      })

  unless_looked : (look : Option SecretLook) (rest : Asker Reached) (crossed : ℕ) (end : State) (past : List Point)
      (bits : List Bool) (copied : Asker ReplayPlace) (kept : KeptPart) →
      (look ≡ None → Outcome rest crossed end past bits copied kept) →
      Outcome (unless_met (unclear_by_look look) rest) crossed end past bits copied kept
  unless_looked None rest crossed end past bits copied kept goes = goes refl
  unless_looked (Some (Code pc)) rest crossed end past bits copied kept goes =
      inl (record { chosen = []; why = _; meets = λ more. refl })
  unless_looked (Some (BaseRegister region register)) rest crossed end past bits copied kept goes =
      inl (record { chosen = []; why = _; meets = λ more. refl })

  unless_left : (left : Option LeftBits) (rest : Asker Reached) (crossed : ℕ) (end : State) (past : List Point)
      (bits : List Bool) (copied : Asker ReplayPlace) (kept : KeptPart) →
      (left ≡ None → Outcome rest crossed end past bits copied kept) →
      Outcome (unless_met (unclear_by_left left) rest) crossed end past bits copied kept
  unless_left None rest crossed end past bits copied kept goes = goes refl
  unless_left (Some left) rest crossed end past bits copied kept goes =
      inl (record { chosen = []; why = _; meets = λ more. refl })

pub count_more : (a k n : ℕ) → counted_bits (counted_bits (a + k) + n) ≡ counted_bits (a + (k + n))
count_more a k n = omega arith

-- ---- answers are sound

place_word : (place : Place) → place_limit place ≤ 4294967295
place_word (Register register) = omega arith
place_word (Byte address) = omega arith
place_word First = omega arith
place_word Second = omega arith

module _ (labels : TurnLabels) (limits : (place : Place) → (label_at labels place).mask ≤ place_limit place) where
  source-mask-word : (source : Source) → source_mask labels source < 2 ^ 32
  source-mask-word (At place) = let a = limits place in let b = place_word place in omega (arith, a, b)
  source-mask-word (Constant value) = omega arith
  source-mask-word (Secret index) = omega arith

  byte-mask-word : (address : ℕ) → byte_mask labels address < 2 ^ 32
  byte-mask-word address = let a = limits (Byte address) in omega (arith, a)

  first-mask-word : (sources : Sources) → first_of (masks_of labels sources) < 2 ^ 32
  first-mask-word (One source) = source-mask-word source
  first-mask-word (Two first second) = source-mask-word first
  first-mask-word (BytesOne address) = byte-mask-word address
  first-mask-word (BytesTwo address) = byte-mask-word address
  first-mask-word (BytesFour address) = byte-mask-word address

  second-mask-word : (sources : Sources) → second_of (masks_of labels sources) < 2 ^ 32
  second-mask-word (One source) = omega arith
  second-mask-word (Two first second) = source-mask-word second
  second-mask-word (BytesOne address) = omega arith
  second-mask-word (BytesTwo address) = byte-mask-word (address + 1)
  second-mask-word (BytesFour address) = byte-mask-word (address + 1)

  sound-answer : (rules : Rules) → AreSoundRules rules → (making : Making) (values : List ℕ) (sources : Sources) →
      first_of values < 2 ^ 32 → second_of values < 2 ^ 32 →
      HoldsOfAnswer IsSoundAnswer (work_of making values) (masks_of labels sources)
      (answer_to rules (work_of making values) (masks_of labels sources))
  sound-answer rules sound (Shaped shape) values sources first second = tt
  sound-answer rules sound (Computed operation) values sources first second =
      sound operation (operands_of (first_of values) (second_of values) (masks_of labels sources))
      (first, first-mask-word sources, second, second-mask-word sources)

-- ---- a move

pub public_small : (public : PublicInput) → public_mask public ≤ 255
public_small Given = omega arith
public_small Any = omega arith

public_limit : (rules : Rules) (t : Bool) → (if t then label_of (public_mask rules.public) nowhere else clean).mask ≤ 255
public_limit rules true = label_of_limit (public_mask rules.public) nowhere 255 (public_small rules.public)
public_limit rules false = omega arith

module _ (rules : Rules) (cutting : Cutting) (setting : Setting) (secret other : List ℕ) where
  pub moved_limit : (labels : TurnLabels) (place : Place) (shape : Shape) (source : Source) →
      (moved_label labels shape source).mask ≤ place_limit place →
      (label_moved rules.public cutting.skipped labels place shape source).mask ≤ place_limit place
  moved_limit labels (Byte address) shape (Constant value) usual = public_limit rules (not cutting.skipped)
  moved_limit labels (Byte address) shape (At place) usual = usual
  moved_limit labels (Byte address) shape (Secret index) usual = usual
  moved_limit labels (Register register) shape source usual = usual
  moved_limit labels First shape source usual = usual
  moved_limit labels Second shape source usual = usual

  module _ (seen : List ℕ) (labels : TurnLabels) (real : Store) (held : Held) (copy : Store) (taken : Held)
      (beside : Beside everything setting.base labels real held copy taken) where
    abbrev AreMoved : Place → Shape → Source → Label → Type 0
    AreMoved place shape source label =
        Beside everything setting.base (put_label place label labels)
        (put setting.base place (shaped shape (value_of setting secret real held source ∷ [])) real)
        (hold place (shaped shape (value_of setting secret real held source ∷ [])) held)
        (put setting.base place (shaped shape (value_of (seeing setting seen) other copy taken source ∷ [])) copy)
        (hold place (shaped shape (value_of (seeing setting seen) other copy taken source ∷ [])) taken)

    usual : (place : Place) (shape : Shape) (source : Source) → IsMove setting.base place shape source →
        AreMoved place shape source (moved_label labels shape source)
    usual place shape source is =
        subst (λ value. Beside everything setting.base (put_label place (moved_label labels shape source) labels)
        (put setting.base place (shaped shape (value_of setting secret real held source ∷ [])) real)
        (hold place (shaped shape (value_of setting secret real held source ∷ [])) held)
        (put setting.base place (shaped shape (value ∷ [])) copy) (hold place (shaped shape (value ∷ [])) taken))
        (sym (same_value_of setting seen other copy taken source))
        (moved_beside everything setting secret other labels real held copy taken beside place shape source is)

    -- what moves without a passing in two runs, one of which may see another public input
    pub moves_beside : (place : Place) (shape : Shape) (source : Source) → IsMove setting.base place shape source →
        AreMoved place shape source (label_moved rules.public cutting.skipped labels place shape source)
    moves_beside (Byte address) shape (Constant value) is =
        let label = label_moved rules.public cutting.skipped labels (Byte address) shape (Constant value) in
        put_beside everything setting.base (Byte address) label (shaped shape (value ∷ [])) (shaped shape (value ∷ []))
        labels real held copy taken is.0 (close_refl everything label (shaped shape (value ∷ []))) is.1 is.1
        (public_limit rules (not cutting.skipped)) beside
    moves_beside (Byte address) shape (At place) is = usual (Byte address) shape (At place) is
    moves_beside (Byte address) shape (Secret index) is = usual (Byte address) shape (Secret index) is
    moves_beside (Register register) shape source is = usual (Register register) shape source is
    moves_beside First shape source is = usual First shape source is
    moves_beside Second shape source is = usual Second shape source is

    -- a byte of the public input that the other run sees in its place
    pub taken_beside : cutting.skipped ≡ false → (address read sees : ℕ) → setting.base ≤ address →
        Agree (public_mask rules.public) read sees → read ≤ 255 → sees ≤ 255 →
        Beside everything setting.base
        (put_label (Byte address) (label_moved rules.public cutting.skipped labels (Byte address) Copied (Constant sees)) labels)
        (put setting.base (Byte address) read real) (hold (Byte address) read held)
        (put setting.base (Byte address) sees copy) (hold (Byte address) sees taken)
    taken_beside unskipped address read sees from agree small other_small =
        put_beside everything setting.base (Byte address)
        (label_moved rules.public cutting.skipped labels (Byte address) Copied (Constant sees)) read sees labels real held
        copy taken from (close cutting.skipped unskipped) small other_small (public_limit rules (not cutting.skipped)) beside
      where
        close : (t : Bool) → t ≡ false →
            Close everything (if not t then label_of (public_mask rules.public) nowhere else clean) read sees
        close false e = close_of (public_mask rules.public) read sees agree
        close true e = absurd (cc)

-- ---- one passing

module _ (rules : Rules) (sound : AreSoundRules rules) (cutting : Cutting) (small : AreSmall cutting.masks)
    (setting : Setting) (seen secret other : List ℕ) (bytes : AreBytes secret) (others : AreBytes other)
    (number region : ℕ) where
  abbrev sees : Setting
  sees = seeing setting seen

  module _ (labels : TurnLabels) (real : Store) (held : Held) (copy : Store) (taken : Held) (twin : Store) (lent : Held)
      (past : List Point) (beside : Beside everything setting.base labels real held copy taken)
      (also : Beside everything setting.base labels real held twin lent) (point : Point) (making : Making)
      (sources : Sources) (is : IsPassing setting.base region point making sources) where
    abbrev pub real_value : ℕ
    real_value = made making (values_of setting secret real held sources)

    abbrev pub copy_value : ℕ
    copy_value = made making (values_of sees other copy taken sources)

    abbrev pub twin_value : ℕ
    twin_value = made making (values_of setting other twin lent sources)

    abbrev pub rule_answer : ℕ
    rule_answer =
        answer_to rules (work_of making (values_of sees other copy taken sources)) (masks_of labels sources)

    abbrev pub made_mask : ℕ
    made_mask =
        work_mask (work_of making (values_of sees other copy taken sources)) (masks_of labels sources) rule_answer

    abbrev pub cut_mask : ℕ
    cut_mask = mask_at cutting.masks past point

    abbrev pub open_mask : ℕ
    open_mask = bit_and made_mask cut_mask

    abbrev pub mask_left : ℕ
    mask_left = uncrossed made_mask cut_mask

    abbrev pub passed_value : ℕ
    passed_value = patched copy_value cut_mask (bits_under real_value cut_mask)

    abbrev pub passed_twin : ℕ
    passed_twin = patched twin_value cut_mask (bits_under real_value cut_mask)

    sound_here : HoldsOfAnswer IsSoundAnswer (work_of making (values_of sees other copy taken sources))
        (masks_of labels sources) rule_answer
    sound_here =
        sound-answer labels beside.label_limits rules sound making (values_of sees other copy taken sources) sources
        (first_word sees other others copy taken beside.copy_limits sources is.named)
        (second_word sees other others copy taken beside.copy_limits sources is.named)

    real_fits : real_value ≤ width_of point.slot
    real_fits = made_fits setting secret bytes real held beside.real_limits point making sources is.named is.fits

    copy_fits : copy_value ≤ width_of point.slot
    copy_fits = made_fits sees other others copy taken beside.copy_limits point making sources is.named is.fits

    twin_fits : twin_value ≤ width_of point.slot
    twin_fits = made_fits setting other others twin lent also.copy_limits point making sources is.named is.fits

    pub real_word : real_value < 2 ^ 32
    real_word = slot_word point.slot real_value real_fits

    pub copy_word : copy_value < 2 ^ 32
    copy_word = slot_word point.slot copy_value copy_fits

    passed_fits : passed_value ≤ width_of point.slot
    passed_fits = patched_slot point.slot cut_mask real_value copy_value real_fits copy_fits

    twin_passed_fits : passed_twin ≤ width_of point.slot
    twin_passed_fits = patched_slot point.slot cut_mask real_value twin_value real_fits twin_fits

    left_fits : mask_left ≤ width_of point.slot
    left_fits =
        let whole = mask_fits setting.base labels beside.label_limits point making sources
        (values_of sees other copy taken sources) rule_answer is.fits sound_here in
        let less : mask_left ≤ made_mask = and_le_l made_mask (flipped cut_mask) in omega (arith, whole, less)

    -- the values agree outside the mask by the walk's own values
    made_agree : Agree made_mask real_value copy_value
    made_agree i clear =
        sym (subst (λ values. Agree made_mask copy_value (made making values))
        (same_values_of setting seen secret real held sources)
        (made_agrees everything sees other secret others bytes labels copy taken real held
        (swapped setting.base labels real held copy taken beside) point making sources rule_answer is.named is.fits
        sound_here) i clear)

    twin_agree : Agree made_mask real_value twin_value
    twin_agree i clear =
        made_agree i clear
        ∙ subst (λ values. Agree made_mask copy_value (made making values))
        (same_values_of setting seen other twin lent sources)
        (made_agrees everything sees other other others others labels copy taken twin lent
        (across setting.base labels real held copy taken twin lent beside also) point making sources rule_answer is.named
        is.fits sound_here) i clear

    -- so the walk goes on with all bits that cross
    pub same_value : patched copy_value open_mask (bits_under real_value open_mask) ≡ passed_value
    same_value = merged made_mask cut_mask real_value copy_value real_word copy_word (small point _) made_agree

    left_agrees : Agree mask_left real_value passed_value
    left_agrees = patched_uncrossed made_mask cut_mask real_value copy_value real_word (small point _) made_agree

    twin_left : Agree mask_left real_value passed_twin
    twin_left = patched_uncrossed made_mask cut_mask real_value twin_value real_word (small point _) twin_agree

    -- what is decided is equal in the three runs
    pub decided_equal : left_at Decision point mask_left ≡ None → real_value ≡ passed_value
    decided_equal none = values_equal point mask_left real_value passed_value left_agrees none

    pub decided_twin : left_at Decision point mask_left ≡ None → real_value ≡ passed_twin
    decided_twin none = values_equal point mask_left real_value passed_twin twin_left none

    -- and what is shown agrees outside its free bits
    pub shown_agree : left_at Decision point mask_left ≡ None →
        Agree open_mask real_value (patched copy_value open_mask [])
    shown_agree none =
        subst (λ value. Agree open_mask value (patched copy_value open_mask []))
        (same_value ∙ sym (decided_equal none))
        (patches_agree open_mask copy_value (bits_under real_value open_mask) [] copy_word)

    -- the values that have gone on stand beside the real one
    pub put_passed : (place : Place) → FitsPlace setting.base point place →
        Beside everything setting.base (put_label place (label_of mask_left nowhere) labels)
        (put setting.base place real_value real) (hold place real_value held)
        (put setting.base place passed_value copy) (hold place passed_value taken)
    put_passed place fits =
        put_agreed setting.base labels real held copy taken beside point place fits mask_left real_value passed_value
        left_fits real_fits passed_fits left_agrees

    pub put_twin : (place : Place) → FitsPlace setting.base point place →
        Beside everything setting.base (put_label place (label_of mask_left nowhere) labels)
        (put setting.base place real_value real) (hold place real_value held)
        (put setting.base place passed_twin twin) (hold place passed_twin lent)
    put_twin place fits =
        put_agreed setting.base labels real held twin lent also point place fits mask_left real_value passed_twin left_fits
        real_fits twin_passed_fits twin_left

    -- ---- what follows the passing

    count_passed : (crossed n : ℕ) →
        counted_bits (counted_bits (crossed + bit_count cut_mask) + n)
        ≡ counted_bits (crossed + (length (bits_under real_value cut_mask) + n))
    count_passed crossed n =
        count_more crossed (bit_count cut_mask) n
        ∙ ap (λ k. counted_bits (crossed + (k + n))) (sym (length_bits_under real_value cut_mask))

    module _ (crossed : ℕ) (goes : ℕ → Asker Reached) (copied : ℕ → Asker ReplayPlace) (end : State)
        (points : List Point) (bits : List Bool) (kept kept_before : KeptPart) (same : kept ≡ kept_before) where
      -- the open bits are chosen
      pub choice_walks :
          Outcome setting sees other (goes passed_value) (counted_bits (crossed + bit_count cut_mask)) end points bits
          (copied passed_twin) kept →
          Outcome setting sees other (Asks (bit_count open_mask) (λ chosen. goes (patched copy_value open_mask chosen)))
          crossed end points (bits_under real_value cut_mask ++ bits)
          (Asks (bit_count cut_mask) (λ string. copied (patched twin_value cut_mask string))) kept_before
      choice_walks rest =
          step setting sees other _ (goes passed_value) (counted_bits (crossed + bit_count cut_mask)) crossed end points bits _
          (copied passed_twin) kept kept_before (bits_under real_value open_mask) (bits_under real_value cut_mask)
          (λ more. feed_bits real_value open_mask (λ chosen. goes (patched copy_value open_mask chosen)) more
          ∙ ap (λ value. feed (goes value) more) same_value)
          (λ more. feed_bits real_value cut_mask (λ string. copied (patched twin_value cut_mask string)) more)
          (count_passed crossed) same rest

      -- they are free
      pub free_walks :
          Outcome setting sees other (goes (patched copy_value open_mask [])) (counted_bits (crossed + bit_count cut_mask)) end
          points bits (copied passed_twin) kept →
          Outcome setting sees other (Asks 0 (λ chosen. goes (patched copy_value open_mask chosen))) crossed end points
          (bits_under real_value cut_mask ++ bits)
          (Asks (bit_count cut_mask) (λ string. copied (patched twin_value cut_mask string))) kept_before
      free_walks rest =
          step setting sees other _ (goes (patched copy_value open_mask [])) (counted_bits (crossed + bit_count cut_mask))
          crossed end points bits _ (copied passed_twin) kept kept_before [] (bits_under real_value cut_mask)
          (λ more. feed_enough 0 (λ chosen. goes (patched copy_value open_mask chosen)) more (omega arith))
          (λ more. feed_bits real_value cut_mask (λ string. copied (patched twin_value cut_mask string)) more)
          (count_passed crossed) same rest

  -- ---- one turn

  pub turn_walks : cutting.skipped ≡ false → {masks : List ℕ} {mask : ℕ} {turn turned : Turn} →
      Alike rules.public masks mask turn turned → (labels : TurnLabels) (crossed : ℕ) (real : Store) (held : Held)
      (copy : Store) (taken : Held) (twin : Store) (lent : Held) (past : List Point) →
      IsProper setting.base region turn → Beside everything setting.base labels real held copy taken →
      Beside everything setting.base labels real held twin lent →
      Outcome setting sees other
      (masked rules cutting number (knows past labels crossed masks mask) (walked sees other turned copy taken))
      crossed (real_end (walked setting secret turn real held)) (passed past (walked setting secret turn real held))
      (crossing cutting.masks past (walked setting secret turn real held))
      (replayed cutting.masks past (walked setting other turn twin lent)) (kept_of copy labels.map twin)
  unfolding walked masked replayed crossing passed real_end IsProper
  turn_walks unskipped (Look {masks = masks} {mask = mask} {go = go} {to = to} look alike) labels crossed real held copy
      taken twin lent past proper beside also =
      unless_looked setting sees other (look_at number labels look) _ _ _ _ _ _ _ (λ none.
      let v = seen_value setting.base real look in
      let e : v ≡ seen_value setting.base copy look =
      look_same everything setting.base number labels real held copy taken beside look proper.0 none in
      let f : v ≡ seen_value setting.base twin look =
      look_same everything setting.base number labels real held twin lent also look proper.0 none in
      let next = walked setting secret (go v) real held in
      subst (λ w. Outcome setting sees other
      (masked rules cutting number (knows past labels crossed masks mask) (walked sees other (to w) copy taken)) crossed
      (real_end next) (passed past next) (crossing cutting.masks past next)
      (replayed cutting.masks past (walked setting other (go (seen_value setting.base twin look)) twin lent))
      (kept_of copy labels.map twin)) e
      (subst (λ w. Outcome setting sees other
      (masked rules cutting number (knows past labels crossed masks mask) (walked sees other (to v) copy taken)) crossed
      (real_end next) (passed past next) (crossing cutting.masks past next)
      (replayed cutting.masks past (walked setting other (go w) twin lent)) (kept_of copy labels.map twin)) f
      (turn_walks unskipped (alike v) labels crossed real held copy taken twin lent past
      (proper.1 v (seen_word setting.base real held beside.real_limits look)) beside also)))
  turn_walks unskipped (Move place shape source alike) labels crossed real held copy taken twin lent past proper beside
      also =
      let label = label_moved rules.public cutting.skipped labels place shape source in
      let r = shaped shape (value_of setting secret real held source ∷ []) in
      let y = shaped shape (value_of sees other copy taken source ∷ []) in
      let z = shaped shape (value_of setting other twin lent source ∷ []) in
      step setting sees other _ _ crossed crossed _ _ _ _ _ _ _ [] [] (λ rest. refl) (λ rest. refl)
      (λ n. ap (λ k. counted_bits (crossed + k)) (omega arith))
      (same_part (put_kept setting.base place y copy) (put_label_kept place label labels)
      (put_kept setting.base place z twin))
      (turn_walks unskipped alike (put_label place label labels) crossed (put setting.base place r real)
      (hold place r held) (put setting.base place y copy) (hold place y taken) (put setting.base place z twin)
      (hold place z lent) past proper.1
      (moves_beside rules cutting setting secret other seen labels real held copy taken beside place shape source proper.0)
      (moves_beside rules cutting setting secret other setting.public_input labels real held twin lent also place shape
      source proper.0))
  turn_walks unskipped (Take address read sees_byte agree small_read small_seen alike) labels crossed real held copy taken
      twin lent past proper beside also =
      let place = Byte address in
      let label = label_moved rules.public cutting.skipped labels place Copied (Constant sees_byte) in
      step setting sees other _ _ crossed crossed _ _ _ _ _ _ _ [] [] (λ rest. refl) (λ rest. refl)
      (λ n. ap (λ k. counted_bits (crossed + k)) (omega arith))
      (same_part (put_kept setting.base place sees_byte copy) (put_label_kept place label labels)
      (put_kept setting.base place read twin))
      (turn_walks unskipped alike (put_label place label labels) crossed (put setting.base place read real)
      (hold place read held) (put setting.base place sees_byte copy) (hold place sees_byte taken)
      (put setting.base place read twin) (hold place read lent) past proper.1
      (taken_beside rules cutting setting secret other seen labels real held copy taken beside unskipped address read
      sees_byte proper.0.0 agree small_read small_seen)
      (moves_beside rules cutting setting secret other setting.public_input labels real held twin lent also place Copied
      (Constant read) proper.0))
  turn_walks unskipped (End {masks = masks} {mask = mask} control output written mode stop agree modes) labels crossed real
      held copy taken twin lent past proper beside also =
      inr (record {
        chosen = [];
        place = record {
          state = record { setting = sees; secret = other; control = with_output control written stop; store = copy };
          past = past;
          labels = labels.map;
          crossed = crossed;
          byte_masks = masks;
          status_mask = mask;
        };
        goes = λ more. refl;
        twin = twin;
        uses = refl;
        past_after = refl;
        count = ap (λ n. counted_bits n) (omega arith);
        setting_after = refl;
        secret_after = refl;
        control = record { output = agree; mode = modes; same = refl };
        beside = fresh_beside everything setting.base labels real held copy taken beside;
        also = fresh_beside everything setting.base labels real held twin lent also;
        kept = refl;
      })
  turn_walks unskipped (Pass {masks = masks} {mask = mask} {turn = turn} {other = turned} point place making sources nothing
      alike) labels crossed real held copy taken twin lent past proper beside also =
      let r = real_value labels real held copy taken twin lent past beside also point making sources proper.0 in
      let y = copy_value labels real held copy taken twin lent past beside also point making sources proper.0 in
      let z = twin_value labels real held copy taken twin lent past beside also point making sources proper.0 in
      let p = passed_value labels real held copy taken twin lent past beside also point making sources proper.0 in
      let q = passed_twin labels real held copy taken twin lent past beside also point making sources proper.0 in
      let open_bits = open_mask labels real held copy taken twin lent past beside also point making sources proper.0 in
      let left = mask_left labels real held copy taken twin lent past beside also point making sources proper.0 in
      let after = put_label place (label_of left nowhere) labels in
      let count = counted_bits (crossed + bit_count (mask_at cutting.masks past point)) in
      let goes : ℕ → Asker Reached = λ value.
      masked rules cutting number (knows (point ∷ past) after count masks mask)
      (walked sees other turned (put setting.base place value copy) (hold place value taken)) in
      let copied : ℕ → Asker ReplayPlace = λ value. replayed cutting.masks (point ∷ past)
      (walked setting other turn (put setting.base place value twin) (hold place value lent)) in
      let cut = mask_at cutting.masks past point in
      let next = walked setting secret turn (put setting.base place r real) (hold place r held) in
      let end = real_end next in
      let points = passed (point ∷ past) next in
      let bits = crossing cutting.masks (point ∷ past) next in
      let whole = bits_under r cut ++ bits in
      let replay = Asks (bit_count cut) (λ string. copied (patched z cut string)) in
      subst (λ shown. Outcome setting sees other (Asks (asked_for shown open_bits) (λ chosen.
      masked rules cutting number (knows (point ∷ past) after count (byte_masks_after shown open_bits masks)
      (status_mask_after shown open_bits mask))
      (walked sees other turned (put setting.base place (patched y open_bits chosen) copy)
      (hold place (patched y open_bits chosen) taken)))) crossed end points whole replay (kept_of copy labels.map twin))
      (sym nothing)
      (choice_walks labels real held copy taken twin lent past beside also point making sources proper.0 crossed goes copied end points bits _ (kept_of copy labels.map twin)
      (same_part (put_kept setting.base place p copy) (put_label_kept place (label_of left nowhere) labels)
      (put_kept setting.base place q twin))
      (turn_walks unskipped alike after count (put setting.base place r real) (hold place r held)
      (put setting.base place p copy) (hold place p taken) (put setting.base place q twin) (hold place q lent)
      (point ∷ past) proper.2 (put_passed labels real held copy taken twin lent past beside also point making sources proper.0 place proper.1) (put_twin labels real held copy taken twin lent past beside also point making sources proper.0 place proper.1)))
  turn_walks unskipped (Decide {masks = masks} {mask = mask} {go = go} {to = to} point making sources nothing alike)
      labels crossed real held copy taken twin lent past proper beside also =
      let r = real_value labels real held copy taken twin lent past beside also point making sources proper.0 in
      let y = copy_value labels real held copy taken twin lent past beside also point making sources proper.0 in
      let z = twin_value labels real held copy taken twin lent past beside also point making sources proper.0 in
      let open_bits = open_mask labels real held copy taken twin lent past beside also point making sources proper.0 in
      let left = mask_left labels real held copy taken twin lent past beside also point making sources proper.0 in
      let w = patched y open_bits [] in
      let count = counted_bits (crossed + bit_count (mask_at cutting.masks past point)) in
      let walks : ℕ → Asker Reached = λ value.
      masked rules cutting number (knows (point ∷ past) labels count masks mask)
      (walked sees other (to value) copy taken) in
      let goes : ℕ → Asker Reached = λ value.
      unless_met (unclear_by_left (left_at Decision point left)) (walks value) in
      let copied : ℕ → Asker ReplayPlace = λ value.
      replayed cutting.masks (point ∷ past) (walked setting other (go value) twin lent) in
      let cut = mask_at cutting.masks past point in
      let next = walked setting secret (go r) real held in
      let end = real_end next in
      let points = passed (point ∷ past) next in
      let bits = crossing cutting.masks (point ∷ past) next in
      let whole = bits_under r cut ++ bits in
      let kept = kept_of copy labels.map twin in
      let replay = Asks (bit_count cut) (λ string. copied (patched z cut string)) in
      subst (λ shown. Outcome setting sees other (Asks (asked_for shown open_bits) (λ chosen.
      unless_met (unclear_by_left (left_at Decision point left))
      (masked rules cutting number (knows (point ∷ past) labels count (byte_masks_after shown open_bits masks)
      (status_mask_after shown open_bits mask))
      (walked sees other (to (patched y open_bits chosen)) copy taken)))) crossed end points whole replay kept)
      (sym nothing)
      (choice_walks labels real held copy taken twin lent past beside also point making sources proper.0 crossed goes copied end points bits kept kept refl
      (unless_left setting sees other (left_at Decision point left) _ count end points bits _ kept (λ none.
      subst (λ value. Outcome setting sees other (walks value) count end points bits (copied (passed_twin labels real held copy taken twin lent past beside also point making sources proper.0)) kept)
      (decided_equal labels real held copy taken twin lent past beside also point making sources proper.0 none)
      (subst (λ value. Outcome setting sees other (walks r) count end points bits (copied value) kept)
      (decided_twin labels real held copy taken twin lent past beside also point making sources proper.0 none)
      (turn_walks unskipped (alike r) labels count real held copy taken twin lent (point ∷ past)
      (proper.1 r (real_word labels real held copy taken twin lent past beside also point making sources proper.0)) beside also)))))
  turn_walks unskipped (Show {masks = masks} {mask = mask} {go = go} {to = to} point making sources written alike)
      labels crossed real held copy taken twin lent past proper beside also =
      let r = real_value labels real held copy taken twin lent past beside also point making sources proper.0 in
      let y = copy_value labels real held copy taken twin lent past beside also point making sources proper.0 in
      let z = twin_value labels real held copy taken twin lent past beside also point making sources proper.0 in
      let open_bits = open_mask labels real held copy taken twin lent past beside also point making sources proper.0 in
      let left = mask_left labels real held copy taken twin lent past beside also point making sources proper.0 in
      let w = patched y open_bits [] in
      let count = counted_bits (crossed + bit_count (mask_at cutting.masks past point)) in
      let walks : ℕ → Asker Reached = λ value.
      masked rules cutting number (knows (point ∷ past) labels count (masks ++ open_bits ∷ []) mask)
      (walked sees other (to value) copy taken) in
      let goes : ℕ → Asker Reached = λ value.
      unless_met (unclear_by_left (left_at Decision point left)) (walks value) in
      let copied : ℕ → Asker ReplayPlace = λ value.
      replayed cutting.masks (point ∷ past) (walked setting other (go value) twin lent) in
      let cut = mask_at cutting.masks past point in
      let next = walked setting secret (go r) real held in
      let end = real_end next in
      let points = passed (point ∷ past) next in
      let bits = crossing cutting.masks (point ∷ past) next in
      let whole = bits_under r cut ++ bits in
      let kept = kept_of copy labels.map twin in
      let replay = Asks (bit_count cut) (λ string. copied (patched z cut string)) in
      subst (λ shown. Outcome setting sees other (Asks (asked_for shown open_bits) (λ chosen.
      unless_met (unclear_by_left (left_at Decision point left))
      (masked rules cutting number (knows (point ∷ past) labels count (byte_masks_after shown open_bits masks)
      (status_mask_after shown open_bits mask))
      (walked sees other (to (patched y open_bits chosen)) copy taken)))) crossed end points whole replay kept)
      (sym written)
      (free_walks labels real held copy taken twin lent past beside also point making sources proper.0 crossed goes copied end points bits kept kept refl
      (unless_left setting sees other (left_at Decision point left) _ count end points bits _ kept (λ none.
      subst (λ value. Outcome setting sees other (walks w) count end points bits (copied value) kept)
      (decided_twin labels real held copy taken twin lent past beside also point making sources proper.0 none)
      (turn_walks unskipped (alike open_bits r w (shown_agree labels real held copy taken twin lent past beside also point making sources proper.0 none)) labels count real held copy taken twin lent
      (point ∷ past) (proper.1 r (real_word labels real held copy taken twin lent past beside also point making sources proper.0)) beside also))))
  turn_walks unskipped (Leave {masks = masks} {mask = mask} {go = go} {to = to} point making sources status alike)
      labels crossed real held copy taken twin lent past proper beside also =
      let r = real_value labels real held copy taken twin lent past beside also point making sources proper.0 in
      let y = copy_value labels real held copy taken twin lent past beside also point making sources proper.0 in
      let z = twin_value labels real held copy taken twin lent past beside also point making sources proper.0 in
      let open_bits = open_mask labels real held copy taken twin lent past beside also point making sources proper.0 in
      let left = mask_left labels real held copy taken twin lent past beside also point making sources proper.0 in
      let w = patched y open_bits [] in
      let count = counted_bits (crossed + bit_count (mask_at cutting.masks past point)) in
      let walks : ℕ → Asker Reached = λ value.
      masked rules cutting number (knows (point ∷ past) labels count masks open_bits)
      (walked sees other (to value) copy taken) in
      let goes : ℕ → Asker Reached = λ value.
      unless_met (unclear_by_left (left_at Decision point left)) (walks value) in
      let copied : ℕ → Asker ReplayPlace = λ value.
      replayed cutting.masks (point ∷ past) (walked setting other (go value) twin lent) in
      let cut = mask_at cutting.masks past point in
      let next = walked setting secret (go r) real held in
      let end = real_end next in
      let points = passed (point ∷ past) next in
      let bits = crossing cutting.masks (point ∷ past) next in
      let whole = bits_under r cut ++ bits in
      let kept = kept_of copy labels.map twin in
      let replay = Asks (bit_count cut) (λ string. copied (patched z cut string)) in
      subst (λ shown. Outcome setting sees other (Asks (asked_for shown open_bits) (λ chosen.
      unless_met (unclear_by_left (left_at Decision point left))
      (masked rules cutting number (knows (point ∷ past) labels count (byte_masks_after shown open_bits masks)
      (status_mask_after shown open_bits mask))
      (walked sees other (to (patched y open_bits chosen)) copy taken)))) crossed end points whole replay kept)
      (sym status)
      (free_walks labels real held copy taken twin lent past beside also point making sources proper.0 crossed goes copied end points bits kept kept refl
      (unless_left setting sees other (left_at Decision point left) _ count end points bits _ kept (λ none.
      subst (λ value. Outcome setting sees other (walks w) count end points bits (copied value) kept)
      (decided_twin labels real held copy taken twin lent past beside also point making sources proper.0 none)
      (turn_walks unskipped (alike open_bits r w (shown_agree labels real held copy taken twin lent past beside also point making sources proper.0 none)) labels count real held copy taken twin lent
      (point ∷ past) (proper.1 r (real_word labels real held copy taken twin lent past beside also point making sources proper.0)) beside also))))
