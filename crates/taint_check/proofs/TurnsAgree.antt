-- One turn of a run of which masks are kept, and of the replay that is fed its crossing bits: the law of one passing, and
-- that a whole turn of an instruction keeps that the two agree outside the masks.
use Rattle.std.proofs.Common.{◌≡◌, ℕ, ◌^◌, ◌<◌, ◌≤◌, List, [], ◌∷◌}
use Rattle.std.proofs.Common.{Option, Some, None, refl, sym, ap, ◌∙◌, arith}
use Rattle.std.proofs.lemmas.Nat.{and_le_l}
use Rattle.flow_base.specs.declared.points.Point.{Point}
use Rattle.flow_base.specs.Points.{width_of, nowhere}
use Rattle.flow_base.specs.Words.{Agree, bits_under, patched}
use Rattle.crossing_bits.specs.Askers.{feed, Fed'}
use Rattle.rv32im_machine.specs.declared.language.Aim.TheVariants.{Decide}
use Rattle.rv32im_machine.specs.declared.language.Place.{Place}
use Rattle.rv32im_machine.specs.declared.language.Sources.{Sources}
use Rattle.rv32im_machine.specs.Folds.{real_end}
use Rattle.rv32im_machine.specs.State.{Setting, Store}
use Rattle.rv32im_machine.specs.Language.{Turn, Looks, Passes, Decides, Gives, Moves, Saves, Restores, Ends, Walk, Held}
use Rattle.rv32im_machine.specs.Language.{Making, walked, put, hold, values_of, made, work_of, first_of}
use Rattle.rv32im_machine.specs.Language.{seen_value, none_held}
use Rattle.region_machine.specs.Runs.{passed}
use Rattle.replay_machine.specs.Runs.{mask_at, replayed}
use Rattle.lockstep_replay.specs.Crossing.{crossing}
use Rattle.run_labels.specs.Answers.{HoldsOfAnswer, IsSoundAnswer}
use Rattle.run_labels.specs.Masks.{masks_of, work_mask}
use Rattle.run_labels.specs.TurnLabels.{TurnLabels, at_start, put_label}
use Rattle.shadow_masks.specs.Pages.{label_of}
use Rattle.transfer_rules.specs.Table1.{flipped}
use Rattle.acceptance_law.specs.Inputs.{AreBytes, IsPassing, FitsPlace, IsProper}
use Rattle.acceptance_law.proofs.AgreeOutsideMask.{patched_uncrossed}
use Rattle.acceptance_law.proofs.Passings.{made_agrees, made_fits, mask_fits, patched_slot, slot_word}
use Rattle.acceptance_law.proofs.Turns.{feed_bits, seen_word}
use Rattle.acceptance_law.proofs.TurnsKeepRelation.{moved_beside}
use Rattle.acceptance_law.proofs.WritesKeepRelation.{Beside, fresh_beside, put_kept}
use Rattle.masked_turns.specs.declared.uses.LeftBits.{LeftBits}
use Rattle.masked_turns.specs.Answers.{EachCleared}
use Rattle.masked_turns.specs.Clearing.{Cutting, cleared_in, uncrossed}
use Rattle.masked_turns.specs.Deciding.{first_left, left_at, left_in}
use Rattle.masked_turns.specs.Looking.{looked_in}
use Rattle.masked_turns.proofs.LooksAgree.{look_same, look_none}
use Rattle.masked_turns.proofs.OutsideMasks.{AreSmall, everything}
use Rattle.masked_turns.proofs.PassedValues.{decided_equal as values_equal, put_agreed}

-- what is known of a turn of which masks are kept, after these points
pub record IsClear (number : ℕ) (cutting : Cutting) (past : List Point) (labels : TurnLabels) (answers : List ℕ)
    (walk : Walk) : Type 0 where
  pub sound : EachCleared IsSoundAnswer cutting past labels answers walk
  pub looks : looked_in number cutting past labels answers walk ≡ None
  pub left : left_in cutting past labels answers walk ≡ None

-- what the replay makes of the crossing bits of that turn, where it walks this
pub record KeepsAgreed (cutting : Cutting) (setting : Setting) (other : List ℕ) (labels : TurnLabels)
    (answers : List ℕ) (walk copied : Walk) (copy : Store) (past : List Point) : Type 0 where
  pub store : Store
  pub uses : feed (replayed cutting.masks past copied) (crossing cutting.masks past walk)
      ≡ Fed' (record {
        state = record { setting = setting; secret = other; control = (real_end walk).control; store = store };
        past = passed past walk;
        outside = None;
      }) []
  pub beside : Beside everything setting.base (at_start (cleared_in cutting past labels answers walk))
      (real_end walk).store none_held store none_held
  pub kept : store.kept ≡ copy.kept

pub left_none : (first later : Option LeftBits) → first_left first later ≡ None → (first ≡ None) × (later ≡ None)
left_none None later e = (refl, e)
left_none (Some left) later e = absurd (cc)

module _ (cutting : Cutting) (small : AreSmall cutting.masks) (setting : Setting) (secret other : List ℕ)
    (bytes : AreBytes secret) (others : AreBytes other) (number region : ℕ) where
  abbrev pub Kept : Turn → TurnLabels → List ℕ → Store → Held → Store → Held → List Point → Type 0
  Kept turn labels answers real held copy taken past =
      KeepsAgreed cutting setting other labels answers (walked setting secret turn real held)
      (walked setting other turn copy taken) copy past

  -- ---- one passing

  module _ (labels : TurnLabels) (answers : List ℕ) (real : Store) (held : Held) (copy : Store) (taken : Held)
      (past : List Point) (beside : Beside everything setting.base labels real held copy taken) (point : Point)
      (making : Making) (sources : Sources) (is : IsPassing setting.base region point making sources)
      (sound : HoldsOfAnswer IsSoundAnswer (work_of making (values_of setting secret real held sources))
      (masks_of labels sources) (first_of answers)) where
    abbrev pub real_value : ℕ
    real_value = made making (values_of setting secret real held sources)

    abbrev pub copy_value : ℕ
    copy_value = made making (values_of setting other copy taken sources)

    abbrev pub made_mask : ℕ
    made_mask =
        work_mask (work_of making (values_of setting secret real held sources)) (masks_of labels sources)
        (first_of answers)

    abbrev pub cut_mask : ℕ
    cut_mask = mask_at cutting.masks past point

    abbrev pub mask_left : ℕ
    mask_left = uncrossed made_mask cut_mask

    abbrev pub passed_value : ℕ
    passed_value = patched copy_value cut_mask (bits_under real_value cut_mask)

    real_fits : real_value ≤ width_of point.slot
    real_fits = made_fits setting secret bytes real held beside.real_limits point making sources is.named is.fits

    copy_fits : copy_value ≤ width_of point.slot
    copy_fits = made_fits setting other others copy taken beside.copy_limits point making sources is.named is.fits

    pub real_word : real_value < 2 ^ 32
    real_word = slot_word point.slot real_value real_fits

    passed_fits : passed_value ≤ width_of point.slot
    passed_fits = patched_slot point.slot cut_mask real_value copy_value real_fits copy_fits

    left_fits : mask_left ≤ width_of point.slot
    left_fits =
        let whole = mask_fits setting.base labels beside.label_limits point making sources
        (values_of setting secret real held sources) (first_of answers) is.fits sound in
        let less : mask_left ≤ made_mask = and_le_l made_mask (flipped cut_mask) in omega (arith, whole, less)

    -- what goes on agrees outside the mask that is left
    left_agrees : Agree mask_left real_value passed_value
    left_agrees =
        patched_uncrossed made_mask cut_mask real_value copy_value real_word (small point _)
        (made_agrees everything setting secret other bytes others labels real held copy taken beside point making sources
        (first_of answers) is.named is.fits sound)

    -- what is decided is equal in the two runs
    pub decided_equal : left_at Decide point mask_left ≡ None → real_value ≡ passed_value
    decided_equal none = values_equal point mask_left real_value passed_value left_agrees none

    -- the value that has gone on stands beside the real one
    pub put_passed : (place : Place) → FitsPlace setting.base point place →
        Beside everything setting.base (put_label place (label_of mask_left nowhere) labels)
        (put setting.base place real_value real) (hold place real_value held)
        (put setting.base place passed_value copy) (hold place passed_value taken)
    put_passed place fits =
        put_agreed setting.base labels real held copy taken beside point place fits mask_left real_value passed_value
        left_fits real_fits passed_fits left_agrees

  -- ---- one turn

  pub turn_kept : (turn : Turn) (labels : TurnLabels) (answers : List ℕ) (real : Store) (held : Held) (copy : Store)
      (taken : Held) (past : List Point) → IsProper setting.base region turn →
      Beside everything setting.base labels real held copy taken →
      IsClear number cutting past labels answers (walked setting secret turn real held) →
      Kept turn labels answers real held copy taken past
  unfolding walked replayed crossing passed real_end cleared_in left_in looked_in EachCleared IsProper
  turn_kept (Looks seen go) labels answers real held copy taken past proper beside clear =
      let parts = look_none _ _ clear.looks in
      let e : seen_value setting.base real seen ≡ seen_value setting.base copy seen =
      look_same everything setting.base number labels real held copy taken beside seen proper.0 parts.0 in
      let rest = turn_kept (go (seen_value setting.base real seen)) labels answers real held copy taken past
      (proper.1 (seen_value setting.base real seen) (seen_word setting.base real held beside.real_limits seen)) beside
      (record { sound = clear.sound; looks = parts.1; left = clear.left })
      in record {
        store = rest.store;
        uses = ap (λ v. feed (replayed cutting.masks past (walked setting other (go v) copy taken))
            (crossing cutting.masks past (walked setting secret (go (seen_value setting.base real seen)) real held)))
            (sym e) ∙ rest.uses;
        beside = rest.beside;
        kept = rest.kept;
      }
  turn_kept (Passes point place making sources turn) labels answers real held copy taken past proper beside clear =
      let r = real_value labels answers real held copy taken past beside point making sources proper.0 clear.sound.0 in
      let p = passed_value labels answers real held copy taken past beside point making sources proper.0 clear.sound.0 in
      let y = copy_value labels answers real held copy taken past beside point making sources proper.0 clear.sound.0 in
      let here = put_passed labels answers real held copy taken past beside point making sources proper.0 clear.sound.0
      place proper.1 in
      let rest = turn_kept turn _ _ _ _ _ _ (point ∷ past) proper.2 here
      (record { sound = clear.sound.1; looks = clear.looks; left = clear.left }) in record {
        store = rest.store;
        uses = feed_bits r (mask_at cutting.masks past point)
            (λ bits. replayed cutting.masks (point ∷ past) (walked setting other turn
            (put setting.base place (patched y (mask_at cutting.masks past point) bits) copy)
            (hold place (patched y (mask_at cutting.masks past point) bits) taken)))
            (crossing cutting.masks (point ∷ past) (walked setting secret turn (put setting.base place r real)
            (hold place r held)))
            ∙ rest.uses;
        beside = rest.beside;
        kept = rest.kept ∙ put_kept setting.base place p copy;
      }
  turn_kept (Decides point making sources go) labels answers real held copy taken past proper beside clear =
      let r = real_value labels answers real held copy taken past beside point making sources proper.0 clear.sound.0 in
      let y = copy_value labels answers real held copy taken past beside point making sources proper.0 clear.sound.0 in
      let parts = left_none _ _ clear.left in
      let e = decided_equal labels answers real held copy taken past beside point making sources proper.0 clear.sound.0
      parts.0 in
      let word = real_word labels answers real held copy taken past beside point making sources proper.0 clear.sound.0 in
      let rest = turn_kept (go r) _ _ _ _ _ _ (point ∷ past) (proper.1 r word) beside
      (record { sound = clear.sound.1; looks = clear.looks; left = parts.1 }) in record {
        store = rest.store;
        uses = feed_bits r (mask_at cutting.masks past point)
            (λ bits. replayed cutting.masks (point ∷ past) (walked setting other
            (go (patched y (mask_at cutting.masks past point) bits)) copy taken))
            (crossing cutting.masks (point ∷ past) (walked setting secret (go r) real held))
            ∙ ap (λ v. feed (replayed cutting.masks (point ∷ past) (walked setting other (go v) copy taken))
            (crossing cutting.masks (point ∷ past) (walked setting secret (go r) real held))) (sym e)
            ∙ rest.uses;
        beside = rest.beside;
        kept = rest.kept;
      }
  turn_kept (Moves place shape source turn) labels answers real held copy taken past proper beside clear =
      let here = moved_beside everything setting secret other labels real held copy taken beside place shape source
      proper.0 in
      let rest = turn_kept turn _ answers _ _ _ _ past proper.1 here
      (record { sound = clear.sound; looks = clear.looks; left = clear.left }) in record {
        store = rest.store;
        uses = rest.uses;
        beside = rest.beside;
        kept = rest.kept ∙ put_kept setting.base place _ copy;
      }
  turn_kept (Gives point place turn) labels answers real held copy taken past proper beside clear = absurd proper
  turn_kept (Saves turn) labels answers real held copy taken past proper beside clear = absurd proper
  turn_kept (Restores registers turn) labels answers real held copy taken past proper beside clear = absurd proper
  turn_kept (Ends control) labels answers real held copy taken past proper beside clear = record {
    store = copy;
    uses = refl;
    beside = fresh_beside everything setting.base labels real held copy taken beside;
    kept = refl;
  }
