-- A whole turn of an instruction keeps the relation between the real run and the replay that is fed its crossing bits.
use Rattle.std.proofs.Common.{◌≡◌, ℕ, ◌^◌, ◌<◌, ◌≤◌, Bool, true, false, List, [], ◌∷◌, ◌++◌}
use Rattle.std.proofs.Common.{None, refl, sym, ap, subst, ◌∙◌, arith}
use Rattle.std.specs.Prelude.{◌==◌, if◌then◌else◌}
use Rattle.flow_base.specs.declared.points.Point.{Point}
use Rattle.flow_base.specs.Points.{width_of}
use Rattle.flow_base.specs.Words.{Agree, bits_under, patched}
use Rattle.crossing_bits.specs.Askers.{feed, Fed'}
use Rattle.flow_graph.specs.declared.events.Event.{Event}
use Rattle.flow_graph.specs.declared.events.Event.TheVariants.{Pass, Implicit}
use Rattle.flow_graph.specs.declared.named_links.NamedEnd.TheVariants.{At as AtEnd, Relay, Sink}
use Rattle.flow_graph.specs.EventGraphs.{outlet_of}
use Rattle.rv32im_machine.specs.declared.language.Aim.TheVariants.{Put, Decide}
use Rattle.rv32im_machine.specs.declared.language.Place.{Place}
use Rattle.rv32im_machine.specs.declared.language.Shape.{Shape}
use Rattle.rv32im_machine.specs.declared.language.Source.{Source}
use Rattle.rv32im_machine.specs.declared.language.Source.TheVariants.{At, Constant, Secret}
use Rattle.rv32im_machine.specs.declared.language.Sources.{Sources}
use Rattle.rv32im_machine.specs.State.{Setting, Store}
use Rattle.rv32im_machine.specs.Language.{Turn, Looks, Passes, Decides, Gives, Moves, Saves, Restores, Ends, Walk}
use Rattle.rv32im_machine.specs.Language.{walked, Held, none_held, Making, put, hold, value_of, values_of, made}
use Rattle.rv32im_machine.specs.Language.{work_of, shaped, seen_value, passing, first_of}
use Rattle.rv32im_machine.specs.Folds.{real_end}
use Rattle.region_machine.specs.Runs.{passed}
use Rattle.replay_machine.specs.Runs.{Masks, mask_at, replayed}
use Rattle.lockstep_replay.specs.Crossing.{crossing}
use Rattle.shadow_masks.specs.declared.labels.Label.{Label}
use Rattle.shadow_masks.specs.Labels.{clean}
use Rattle.shadow_masks.specs.Pages.{label_of}
use Rattle.run_labels.specs.TurnLabels.{TurnLabels, label_at, put_label, at_start}
use Rattle.run_labels.specs.Masks.{masks_of, work_mask, labels_after, answers_after, moved_label}
use Rattle.run_labels.specs.Flowing.{sources_events, aim_events}
use Rattle.run_labels.specs.Traces.{traced, labels_in, events_in, secret_look, EachAnswer}
use Rattle.run_labels.specs.Answers.{IsSoundAnswer, HoldsOfAnswer}
use Rattle.acceptance_law.specs.Sides.{NamedSide, is_split}
use Rattle.acceptance_law.specs.ClosedEvents.{AreClosedEvents, Stays, ends_in}
use Rattle.acceptance_law.specs.Covers.{IsMaskWithin, IsContained, AreContained}
use Rattle.acceptance_law.specs.RunCuts.{is_inner}
use Rattle.acceptance_law.specs.Inputs.{AreBytes, place_limit, IsPassing, FitsPlace, IsMove, IsProper}
use Rattle.acceptance_law.proofs.WritesKeepRelation.{Close, close_refl, close_label_of, Beside, put_beside, put_kept}
use Rattle.acceptance_law.proofs.WritesKeepRelation.{fresh_beside}
use Rattle.acceptance_law.proofs.ShapesAgree.{AgreeAll, BytesBelow, shaped_agree}
use Rattle.acceptance_law.proofs.Passings.{slot_word, patched_slot, made_fits, mask_fits, made_agrees, sources_equal}
use Rattle.acceptance_law.proofs.Passings.{closed_append}
use Rattle.acceptance_law.proofs.Turns.{none_if, feed_bits, SameCounts, counts_step, mask_same, outside_never, NoPasses}
use Rattle.acceptance_law.proofs.Turns.{none_append, none_sources, none_aim, contained_after, CloseAt, patched_close}
use Rattle.acceptance_law.proofs.Turns.{closed_if, label_of_limit, first_none, look_equal, seen_word}
use Rattle.flow_base.specs.Listed.{is_listed}

-- what may move into a place and what it is made of
pub copied_close : (side : NamedSide) (shape : Shape) (label : Label) (real copy : ℕ) → Close side label real copy →
    Close side (label_of (shaped shape (label.mask ∷ [])) label.point) (shaped shape (real ∷ []))
    (shaped shape (copy ∷ []))
unfolding AgreeAll BytesBelow
copied_close side shape label real copy close =
    close_label_of side (shaped shape (label.mask ∷ [])) label.point _ _
    (shaped_agree shape (label.mask ∷ []) (real ∷ []) (copy ∷ []) (close.0, tt) tt tt tt)
    (λ outside. ap (λ v. shaped shape (v ∷ [])) (close.1 outside))

-- what is known of the real turn, walked from these labels, after these points
pub record CoveredTurn (side : NamedSide) (skip : List ℕ) (masks : Masks) (number : ℕ) (labels : TurnLabels)
    (answers : List ℕ) (past : List Point) (walk : Walk) : Type 0 where
  pub sound : EachAnswer IsSoundAnswer labels answers walk
  pub looks : secret_look number labels answers walk ≡ None
  pub closed : AreClosedEvents side (events_in labels answers walk)
  pub contained : AreContained side skip masks past (events_in labels answers walk)

-- what the replay makes of the crossing bits of the real turn, where it walks this
pub record KeptTurn (side : NamedSide) (skip : List ℕ) (masks : Masks) (setting : Setting) (other : List ℕ)
    (labels : TurnLabels) (answers : List ℕ) (walk copied : Walk) (copy : Store) (past all : List Point) :
    Type 0 where
  pub store : Store
  pub uses : feed (replayed masks past copied) (crossing masks past walk)
      ≡ Fed' (record {
        state = record { setting = setting; secret = other; control = (real_end walk).control; store = store };
        past = passed past walk;
        outside = None;
      }) []
  pub beside : Beside side setting.base (at_start (labels_in labels answers walk)) (real_end walk).store none_held store
      none_held
  pub counts : SameCounts skip (passed past walk) (passed all walk)
  pub kept : store.kept ≡ copy.kept

-- what is moved stands beside what is moved, with the label of its source
module _ (side : NamedSide) (setting : Setting) (secret other : List ℕ) where
  pub moved_beside : (labels : TurnLabels) (real : Store) (held : Held) (copy : Store) (taken : Held) →
      Beside side setting.base labels real held copy taken → (place : Place) (shape : Shape) (source : Source) →
      IsMove setting.base place shape source →
      Beside side setting.base (put_label place (moved_label labels shape source) labels)
      (put setting.base place (shaped shape (value_of setting secret real held source ∷ [])) real)
      (hold place (shaped shape (value_of setting secret real held source ∷ [])) held)
      (put setting.base place (shaped shape (value_of setting other copy taken source ∷ [])) copy)
      (hold place (shaped shape (value_of setting other copy taken source ∷ [])) taken)
  moved_beside labels real held copy taken beside place shape (At from) is =
      put_beside side setting.base place _ _ _ labels real held copy taken is.0
      (copied_close side shape (label_at labels from) _ _ (beside.places from is.1))
      (is.2 _ (beside.real_limits from)) (is.2 _ (beside.copy_limits from))
      (label_of_limit _ _ _ (is.2 _ (beside.label_limits from))) beside
  moved_beside labels real held copy taken beside place shape (Constant value) is =
      put_beside side setting.base place clean _ _ labels real held copy taken is.0
      (close_refl side clean (shaped shape (value ∷ []))) is.1 is.1 (omega arith) beside
  moved_beside labels real held copy taken beside place shape (Secret index) is = absurd is

module _ (side : NamedSide) (skip : List ℕ) (masks : Masks) (setting : Setting) (secret other : List ℕ)
    (bytes : AreBytes secret) (others : AreBytes other) (number region : ℕ)
    (away : (region == 0) ≡ false → side.relay region ≡ false)
    (run : is_listed skip region ≡ false) where
  abbrev pub Covered : TurnLabels → List ℕ → List Point → Walk → Type 0
  Covered labels answers past walk = CoveredTurn side skip masks number labels answers past walk

  abbrev pub Kept : Turn → TurnLabels → List ℕ → Store → Held → Store → Held → List Point → List Point → Type 0
  Kept turn labels answers real held copy taken past all =
      KeptTurn side skip masks setting other labels answers (walked setting secret turn real held)
      (walked setting other turn copy taken) copy past all

  inner_of : (point : Point) → point.region ≡ region → is_inner skip point ≡ false
  inner_of point e = rw (e, run) refl

  -- the outlet of the region is not in the side
  outlet_away : (x : Point) → x.region ≡ region → ends_in side (outlet_of x.region) ≡ false
  outlet_away x e = rw e (pick (region == 0) refl)
    where
      pick : (t : Bool) → (region == 0) ≡ t → ends_in side (if t then Sink else Relay region) ≡ false
      pick true is = refl
      pick false is = away is

  second_away : (x : Point) → x.region ≡ region → Stays side (AtEnd x) (outlet_of x.region) → side.second x ≡ false
  second_away x e stays = pick (side.second x) stays
    where
      pick : (t : Bool) → (t ≡ true → ends_in side (outlet_of x.region) ≡ true) → t ≡ false
      pick false h = refl
      pick true h = let both : true ≡ false = sym (h refl) ∙ outlet_away x e in absurd (cc)

  -- ---- one passing

  module _ (labels : TurnLabels) (answers : List ℕ) (real : Store) (held : Held) (copy : Store) (taken : Held)
      (past all : List Point) (beside : Beside side setting.base labels real held copy taken)
      (counts : SameCounts skip past all) (point : Point) (making : Making) (sources : Sources)
      (is : IsPassing setting.base region point making sources)
      (sound : HoldsOfAnswer IsSoundAnswer (work_of making (values_of setting secret real held sources))
      (masks_of labels sources) (first_of answers)) where
    abbrev pub real_value : ℕ
    real_value = made making (values_of setting secret real held sources)

    abbrev pub copy_value : ℕ
    copy_value = made making (values_of setting other copy taken sources)

    abbrev pub passing_mask : ℕ
    passing_mask =
        work_mask (work_of making (values_of setting secret real held sources)) (masks_of labels sources)
        (first_of answers)

    abbrev pub cut_mask : ℕ
    cut_mask = mask_at masks past point

    abbrev pub passed_value : ℕ
    passed_value = patched copy_value cut_mask (bits_under real_value cut_mask)

    real_fits : real_value ≤ width_of point.slot
    real_fits = made_fits setting secret bytes real held beside.real_limits point making sources is.named is.fits

    copy_fits : copy_value ≤ width_of point.slot
    copy_fits = made_fits setting other others copy taken beside.copy_limits point making sources is.named is.fits

    pub real_word : real_value < 2 ^ 32
    real_word = slot_word point.slot real_value real_fits

    pub passed_fits : passed_value ≤ width_of point.slot
    passed_fits = patched_slot point.slot cut_mask real_value copy_value real_fits copy_fits

    pub fitting_mask : passing_mask ≤ width_of point.slot
    fitting_mask =
        mask_fits setting.base labels beside.label_limits point making sources
        (values_of setting secret real held sources) (first_of answers) is.fits sound

    agree : Agree passing_mask real_value copy_value
    agree =
        made_agrees side setting secret other bytes others labels real held copy taken beside point making sources
        (first_of answers) is.named is.fits sound

    module _ (es : List Event)
        (closed : AreClosedEvents side (if passing_mask == 0 then [] else (sources_events labels point sources ++ es)))
        (contained : IsContained side skip masks all (Pass point passing_mask)) where
      equal : side.first point ≡ false → real_value ≡ copy_value
      equal outside =
          closed_if side passing_mask _ real_value copy_value agree closed
          (λ h. ap (λ vs. made making vs)
          (sources_equal side setting secret other bytes others labels real held copy taken beside point outside sources
          is.named (closed_append side (sources_events labels point sources) es h).0))

      within : is_split side point ≡ true → IsMaskWithin passing_mask cut_mask
      within split =
          subst (λ c. IsMaskWithin passing_mask c)
          (sym (mask_same skip masks point past all counts
          (outside_never skip point (subst (λ r. is_listed skip r ≡ false) (sym is.inside) run))))
          (contained split (inner_of point is.inside))

      -- the law of one passing
      pub passing_close : CloseAt side passing_mask point real_value passed_value
      passing_close = patched_close side point passing_mask cut_mask real_value copy_value real_word agree equal within

    -- what is decided is equal in the two runs
    pub decided_equal :
        AreClosedEvents side (if passing_mask == 0 then []
        else (sources_events labels point sources ++ (Implicit point point.region ∷ []))) →
        IsContained side skip masks all (Pass point passing_mask) → real_value ≡ passed_value
    decided_equal closed contained =
        let close = passing_close (Implicit point point.region ∷ []) closed contained in
        closed_if side passing_mask _ real_value passed_value close.0 closed
        (λ h. close.1 (second_away point is.inside
        (closed_append side (sources_events labels point sources) (Implicit point point.region ∷ []) h).1.0))

    -- the value that has gone on stands beside the real one
    pub put_passed : (place : Place) → FitsPlace setting.base point place →
        AreClosedEvents side (if passing_mask == 0 then [] else (sources_events labels point sources ++ [])) →
        IsContained side skip masks all (Pass point passing_mask) →
        Beside side setting.base (put_label place (label_of passing_mask point) labels)
        (put setting.base place real_value real) (hold place real_value held)
        (put setting.base place passed_value copy) (hold place passed_value taken)
    put_passed place put closed contained =
        let close = passing_close [] closed contained in
        let width = put.1 in
        let a = real_fits in let b = passed_fits in let m = fitting_mask in
        let mask : passing_mask ≤ place_limit place = omega (arith, m, width) in
        put_beside side setting.base place (label_of passing_mask point) real_value passed_value labels real held copy
        taken put.0 (close_label_of side passing_mask point real_value passed_value close.0 close.1)
        (omega (arith, a, width)) (omega (arith, b, width)) (label_of_limit passing_mask point (place_limit place) mask)
        beside

  -- the events after the first of a passing
  later_closed : (t : Bool) (es fs : List Event) → AreClosedEvents side ((if t then [] else es) ++ fs) →
      AreClosedEvents side (if t then [] else es) × AreClosedEvents side fs
  later_closed t es fs h = closed_append side (if t then [] else es) fs h

  later_contained : (past : List Point) (t : Bool) (es fs : List Event) → NoPasses es →
      AreContained side skip masks past ((if t then [] else es) ++ fs) → AreContained side skip masks past fs
  later_contained past t es fs none h =
      contained_after side skip masks past (if t then [] else es) fs (none_if t es none) h

  -- ---- one turn

  pub turn_kept : (turn : Turn) (labels : TurnLabels) (answers : List ℕ) (real : Store) (held : Held) (copy : Store)
      (taken : Held) (past all : List Point) → IsProper setting.base region turn →
      Beside side setting.base labels real held copy taken → SameCounts skip past all →
      Covered labels answers all (walked setting secret turn real held) →
      Kept turn labels answers real held copy taken past all
  unfolding walked replayed crossing passed real_end traced AreContained IsProper
  turn_kept (Looks seen go) labels answers real held copy taken past all proper beside counts covered =
      let parts = first_none _ _ covered.looks in
      let e : seen_value setting.base real seen ≡ seen_value setting.base copy seen =
      look_equal side setting.base number labels real held copy taken beside seen proper.0 parts.0 in
      let rest = turn_kept (go (seen_value setting.base real seen)) labels answers real held copy taken past all
      (proper.1 (seen_value setting.base real seen) (seen_word setting.base real held beside.real_limits seen)) beside
      counts (record { sound = covered.sound; looks = parts.1; closed = covered.closed; contained = covered.contained })
      in record {
        store = rest.store;
        uses = ap (λ v. feed (replayed masks past (walked setting other (go v) copy taken))
            (crossing masks past (walked setting secret (go (seen_value setting.base real seen)) real held))) (sym e)
            ∙ rest.uses;
        beside = rest.beside;
        counts = rest.counts;
        kept = rest.kept;
      }
  turn_kept (Passes point place making sources turn) labels answers real held copy taken past all proper beside counts
      covered =
      let r = real_value labels answers real held copy taken past all beside counts point making sources proper.0
      covered.sound.0 in
      let p = passed_value labels answers real held copy taken past all beside counts point making sources proper.0
      covered.sound.0 in
      let y = copy_value labels answers real held copy taken past all beside counts point making sources proper.0
      covered.sound.0 in
      let m = passing_mask labels answers real held copy taken past all beside counts point making sources proper.0
      covered.sound.0 in
      let es = sources_events labels point sources ++ aim_events point (Put place) in
      let later = events_in (labels_after labels (first_of answers) (passing point (Put place) making sources
      (values_of setting secret real held sources))) (answers_after (work_of making (values_of setting secret real held
      sources)) answers) (walked setting secret turn (put setting.base place r real) (hold place r held)) in
      let parts = later_closed (m == 0) es later covered.closed.1 in
      let here = put_passed labels answers real held copy taken past all beside counts point making sources proper.0
      covered.sound.0 place proper.1 parts.0 covered.contained.0 in
      let rest = turn_kept turn _ _ _ _ _ _ (point ∷ past) (point ∷ all) proper.2 here
      (counts_step skip point past all counts)
      (record {
        sound = covered.sound.1;
        looks = covered.looks;
        closed = parts.1;
        contained = later_contained (point ∷ all) (m == 0) es later
            (none_append _ _ (none_sources labels point sources) (none_aim point (Put place))) covered.contained.1;
      }) in record {
        store = rest.store;
        uses = feed_bits r (mask_at masks past point)
            (λ bits. replayed masks (point ∷ past) (walked setting other turn
            (put setting.base place (patched y (mask_at masks past point) bits) copy)
            (hold place (patched y (mask_at masks past point) bits) taken)))
            (crossing masks (point ∷ past) (walked setting secret turn (put setting.base place r real)
            (hold place r held)))
            ∙ rest.uses;
        beside = rest.beside;
        counts = rest.counts;
        kept = rest.kept ∙ put_kept setting.base place p copy;
      }
  turn_kept (Decides point making sources go) labels answers real held copy taken past all proper beside counts covered
      =
      let r = real_value labels answers real held copy taken past all beside counts point making sources proper.0
      covered.sound.0 in
      let y = copy_value labels answers real held copy taken past all beside counts point making sources proper.0
      covered.sound.0 in
      let m = passing_mask labels answers real held copy taken past all beside counts point making sources proper.0
      covered.sound.0 in
      let es = sources_events labels point sources ++ aim_events point Decide in
      let later = events_in labels (answers_after (work_of making (values_of setting secret real held sources)) answers)
      (walked setting secret (go r) real held) in
      let parts = later_closed (m == 0) es later covered.closed.1 in
      let e = decided_equal labels answers real held copy taken past all beside counts point making sources proper.0
      covered.sound.0 parts.0 covered.contained.0 in
      let word = real_word labels answers real held copy taken past all beside counts point making sources proper.0
      covered.sound.0 in
      let rest = turn_kept (go r) _ _ _ _ _ _ (point ∷ past) (point ∷ all) (proper.1 r word) beside
      (counts_step skip point past all counts)
      (record {
        sound = covered.sound.1;
        looks = covered.looks;
        closed = parts.1;
        contained = later_contained (point ∷ all) (m == 0) es later
            (none_append _ _ (none_sources labels point sources) (none_aim point Decide)) covered.contained.1;
      }) in record {
        store = rest.store;
        uses = feed_bits r (mask_at masks past point)
            (λ bits. replayed masks (point ∷ past) (walked setting other
            (go (patched y (mask_at masks past point) bits))
            copy taken))
            (crossing masks (point ∷ past) (walked setting secret (go r) real held))
            ∙ ap (λ v. feed (replayed masks (point ∷ past) (walked setting other (go v) copy taken))
            (crossing masks (point ∷ past) (walked setting secret (go r) real held))) (sym e)
            ∙ rest.uses;
        beside = rest.beside;
        counts = rest.counts;
        kept = rest.kept;
      }
  turn_kept (Moves place shape source turn) labels answers real held copy taken past all proper beside counts covered =
      let here = moved_beside side setting secret other labels real held copy taken beside place shape source proper.0
      in
      let rest = turn_kept turn _ answers _ _ _ _ past all proper.1 here counts
      (record {
        sound = covered.sound;
        looks = covered.looks;
        closed = covered.closed;
        contained = covered.contained;
      }) in record {
        store = rest.store;
        uses = rest.uses;
        beside = rest.beside;
        counts = rest.counts;
        kept = rest.kept ∙ put_kept setting.base place _ copy;
      }
  turn_kept (Gives point place turn) labels answers real held copy taken past all proper beside counts covered =
      absurd proper
  turn_kept (Saves turn) labels answers real held copy taken past all proper beside counts covered = absurd proper
  turn_kept (Restores registers turn) labels answers real held copy taken past all proper beside counts covered =
      absurd proper
  turn_kept (Ends control) labels answers real held copy taken past all proper beside counts covered = record {
    store = copy;
    uses = refl;
    beside = fresh_beside side setting.base labels real held copy taken beside;
    counts = counts;
    kept = refl;
  }
