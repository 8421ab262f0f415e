-- What each turn of a guest keeps, the entries and leaves of regions too: the guest's values, the limits of its labels,
-- and what the events of a run are like.
use Rattle.std.proofs.Common.{◌≡◌, ℕ, ◌+◌, ◌-◌, ◌^◌, ◌≤◌, ◌<◌, ◌==◌, ◌∷◌, [], Bool, true, false, List}
use Rattle.std.proofs.Common.{refl, sym, ap, subst, arith}
use Rattle.std.specs.Prelude.{if◌then◌else◌, slice_index}
use Rattle.flow_base.specs.declared.points.Point.{Point}
use Rattle.flow_base.specs.declared.points.Slot.{Slot}
use Rattle.flow_base.specs.declared.points.Slot.TheVariants.{First as FirstSlot, Second as SecondSlot, Address}
use Rattle.flow_base.specs.declared.points.Slot.TheVariants.{Result as ResultSlot, Decision as DecisionSlot, Number}
use Rattle.flow_base.specs.declared.points.Slot.TheVariants.{Arg0, Arg1, Arg2, SecretIn, ByteOut, Status, OutReg}
use Rattle.flow_base.specs.declared.points.Slot.TheVariants.{OutRange}
use Rattle.flow_base.specs.Points.{is_slot, width_of, is_output_slot}
use Rattle.flow_graph.specs.declared.events.Event.TheVariants.{Link}
use Rattle.rv32im_machine.specs.declared.language.Aim.{Aim}
use Rattle.rv32im_machine.specs.declared.language.Aim.TheVariants.{Put, Decide, Give}
use Rattle.rv32im_machine.specs.declared.language.Place.{Place}
use Rattle.rv32im_machine.specs.declared.language.Place.TheVariants.{Register, Byte, First, Second}
use Rattle.rv32im_machine.specs.declared.language.Passing.{Passing}
use Rattle.rv32im_machine.specs.declared.language.Shape.{Shape}
use Rattle.rv32im_machine.specs.declared.language.Shape.TheVariants.{Copied}
use Rattle.rv32im_machine.specs.declared.language.Source.{Source}
use Rattle.rv32im_machine.specs.declared.language.Source.TheVariants.{At, Constant, Secret}
use Rattle.rv32im_machine.specs.declared.language.Sources.{Sources}
use Rattle.rv32im_machine.specs.declared.language.Sources.TheVariants.{One, Two, Byte as BytesOne, Half as BytesTwo}
use Rattle.rv32im_machine.specs.declared.language.Sources.TheVariants.{Word as BytesFour}
use Rattle.rv32im_machine.specs.State.{Setting, Store, saved}
use Rattle.rv32im_machine.specs.Language.{Turn, Looks, Passes, Decides, Gives, Moves, Saves, Restores, Ends, walked}
use Rattle.rv32im_machine.specs.Language.{Held, Shaped, at_place, put, hold, value_of, values_of, made, work_of}
use Rattle.rv32im_machine.specs.Language.{shaped, seen_value, passing, first_of}
use Rattle.rv32im_machine.specs.Folds.{real_end}
use Rattle.shadow_masks.specs.declared.labels.Label.{Label}
use Rattle.shadow_masks.specs.Pages.{label_of}
use Rattle.shadow_masks.specs.Writes.{LabelMap}
use Rattle.run_labels.specs.TurnLabels.{TurnLabels, label_at, put_label, save_labels, restore_labels, at_start}
use Rattle.run_labels.specs.Masks.{masks_of, work_mask, mask_of, answers_after, moved_label}
use Rattle.run_labels.specs.Flowing.{link_from, source_events, byte_events, sources_events, aim_events, flow_events}
use Rattle.run_labels.specs.Flowing.{passing_events}
use Rattle.run_labels.specs.Traces.{traced, labels_in, events_in, EachAnswer}
use Rattle.run_labels.specs.Answers.{IsSoundAnswer}
use Rattle.acceptance_law.specs.ClosedEvents.{IsProperEvent, AreProperEvents}
use Rattle.acceptance_law.specs.Inputs.{AreAllWords, AreBytes, IsProperGuest, IsMove, AreProperSources, FitsSlot, IsProper, place_limit}
use Rattle.acceptance_law.proofs.WritesKeepRelation.{put_limits, put_label_limits, put_kept, put_label_kept}
use Rattle.acceptance_law.proofs.Passings.{made_fits, mask_fits, slot_word}
use Rattle.acceptance_law.proofs.Turns.{label_of_limit, seen_word}
use Rattle.acceptance_law.proofs.GraphEvents.{all_append}
use Rattle.flow_base.specs.Listed.{is_listed}

-- ---- what is asked of a turn

-- every slot of the turn, of an output too, has a width that its values and its place fit, and is a slot of a point
unfoldable pub IsOrderly : ℕ → Turn → Type 0
IsOrderly base (Looks seen go) = (value : ℕ) → value < 2 ^ 32 → IsOrderly base (go value)
IsOrderly base (Passes point place making sources turn) =
    (is_slot point.slot ≡ true) × AreProperSources base sources × FitsSlot point making sources
    × (width_of point.slot ≤ place_limit place) × IsOrderly base turn
IsOrderly base (Decides point making sources go) =
    (is_slot point.slot ≡ true) × AreProperSources base sources × FitsSlot point making sources
    × ((value : ℕ) → value < 2 ^ 32 → IsOrderly base (go value))
IsOrderly base (Gives point place turn) =
    (is_slot point.slot ≡ true) × ((point.region == 0) ≡ false) × (width_of point.slot ≡ place_limit place)
    × IsOrderly base turn
IsOrderly base (Moves place shape source turn) = IsMove base place shape source × IsOrderly base turn
IsOrderly base (Saves turn) = IsOrderly base turn
IsOrderly base (Restores registers turn) = IsOrderly base turn
IsOrderly base (Ends control) = control.current_break < 2 ^ 32

pub inner_slot : (slot : Slot) → is_output_slot slot ≡ false → is_slot slot ≡ true
inner_slot FirstSlot inner = refl
inner_slot SecondSlot inner = refl
inner_slot Address inner = refl
inner_slot ResultSlot inner = refl
inner_slot DecisionSlot inner = refl
inner_slot Number inner = refl
inner_slot Arg0 inner = refl
inner_slot Arg1 inner = refl
inner_slot Arg2 inner = refl
inner_slot SecretIn inner = refl
inner_slot ByteOut inner = refl
inner_slot Status inner = refl
inner_slot (OutReg register) inner = absurd (cc)
inner_slot (OutRange range) inner = absurd (cc)

-- the turns of instructions are so
pub proper_orderly : (base region : ℕ) (turn : Turn) → IsProper base region turn → IsOrderly base turn
unfolding IsProper IsOrderly
proper_orderly base region (Looks seen go) proper =
    λ value word. proper_orderly base region (go value) (proper.1 value word)
proper_orderly base region (Passes point place making sources turn) proper = (
  inner_slot point.slot proper.0.no_output,
  proper.0.named,
  proper.0.fits,
  proper.1.1,
  proper_orderly base region turn proper.2,
)
proper_orderly base region (Decides point making sources go) proper = (
  inner_slot point.slot proper.0.no_output,
  proper.0.named,
  proper.0.fits,
  λ value word. proper_orderly base region (go value) (proper.1 value word),
)
proper_orderly base region (Gives point place turn) proper = absurd proper
proper_orderly base region (Moves place shape source turn) proper =
    (proper.0, proper_orderly base region turn proper.1)
proper_orderly base region (Saves turn) proper = absurd proper
proper_orderly base region (Restores registers turn) proper = absurd proper
proper_orderly base region (Ends control) proper = proper.0

-- ---- limits

pub record AreLimited (labels : TurnLabels) : Type 0 where
  pub places : (place : Place) → (label_at labels place).mask ≤ place_limit place
  pub kept : (register : ℕ) → (labels.map.kept register).mask ≤ 4294967295

pub record AreLimitedLabels (map : LabelMap) : Type 0 where
  pub registers : (register : ℕ) → (map.registers register).mask ≤ 4294967295
  pub kept : (register : ℕ) → (map.kept register).mask ≤ 4294967295
  pub bytes : (address : ℕ) → (map.bytes address).mask ≤ 255

pub starts_so : (map : LabelMap) → AreLimitedLabels map → AreLimited (at_start map)
starts_so map limited = record { places = place; kept = limited.kept }
  where
    place : (place : Place) → (label_at (at_start map) place).mask ≤ place_limit place
    place (Register register) = limited.registers register
    place (Byte address) = limited.bytes address
    place First = omega arith
    place Second = omega arith

at_end : (labels : TurnLabels) → AreLimited labels → AreLimitedLabels labels.map
at_end labels limited = record {
  registers = λ register. limited.places (Register register);
  kept = limited.kept;
  bytes = λ address. limited.places (Byte address);
}

put_limited : (place : Place) (label : Label) (labels : TurnLabels) → label.mask ≤ place_limit place →
    AreLimited labels → AreLimited (put_label place label labels)
put_limited place label labels new limited = record {
  places = λ other. put_label_limits place label labels new other (limited.places other);
  kept = λ register. subst (λ kept. (kept register).mask ≤ 4294967295) (sym (put_label_kept place label labels))
      (limited.kept register);
}

saved_limited : (labels : TurnLabels) → AreLimited labels → AreLimited (save_labels labels)
saved_limited labels limited = record {
  places = place;
  kept = λ register. limited.places (Register register);
}
  where
    place : (place : Place) → (label_at (save_labels labels) place).mask ≤ place_limit place
    place (Register register) = limited.places (Register register)
    place (Byte address) = limited.places (Byte address)
    place First = limited.places First
    place Second = limited.places Second

restored_limited : (registers : List ℕ) (labels : TurnLabels) → AreLimited labels →
    AreLimited (restore_labels registers labels)
restored_limited registers labels limited = record { places = place; kept = limited.kept }
  where
    pick : (test : Bool) (label other : Label) → label.mask ≤ 4294967295 → other.mask ≤ 4294967295 →
        (if test then label else other).mask ≤ 4294967295
    pick true label other p q = p
    pick false label other p q = q

    place : (place : Place) → (label_at (restore_labels registers labels) place).mask ≤ place_limit place
    place (Register register) =
        pick (is_listed registers register) (labels.map.kept register) (labels.map.registers register)
        (limited.kept register) (limited.places (Register register))
    place (Byte address) = limited.places (Byte address)
    place First = limited.places First
    place Second = limited.places Second

moved_limited : (base : ℕ) (labels : TurnLabels) (place : Place) (shape : Shape) (source : Source) →
    IsMove base place shape source → AreLimited labels → (moved_label labels shape source).mask ≤ place_limit place
moved_limited base labels place shape (At from) move limited =
    label_of_limit (shaped shape ((label_at labels from).mask ∷ [])) (label_at labels from).point (place_limit place)
    (move.2 (label_at labels from).mask (limited.places from))
moved_limited base labels place shape (Constant value) move limited = omega arith
moved_limited base labels place shape (Secret index) move limited = absurd move

-- the values of a store and the operands held
pub record HasLimits (base : ℕ) (store : Store) (held : Held) : Type 0 where
  pub places : (place : Place) → at_place base store held place ≤ place_limit place
  pub kept : AreAllWords store.kept

pub limits_put : (base : ℕ) (place : Place) (value : ℕ) (store : Store) (held : Held) → value ≤ place_limit place →
    HasLimits base store held → HasLimits base (put base place value store) (hold place value held)
limits_put base place value store held new has = record {
  places = λ other. put_limits base place value store held new other (has.places other);
  kept = subst AreAllWords (sym (put_kept base place value store)) has.kept;
}

saved_limits : (base : ℕ) (store : Store) (held : Held) → HasLimits base store held → HasLimits base (saved store) held
unfolding saved
saved_limits base store held has = record {
  places = place;
  kept = λ register. let limit = has.places (Register register) in omega (arith, limit);
}
  where
    place : (place : Place) → at_place base (saved store) held place ≤ place_limit place
    place (Register register) = has.places (Register register)
    place (Byte address) = has.places (Byte address)
    place First = has.places First
    place Second = has.places Second

-- ---- events

link_proper : (label : Label) (point : Point) → AreProperEvents (link_from label point)
link_proper label point = pick (label.mask == 0)
  where
    pick : (test : Bool) → AreProperEvents (if test then [] else Link label.point point ∷ [])
    pick true = tt
    pick false = (tt, tt)

source_proper : (labels : TurnLabels) (point : Point) (source : Source) →
    AreProperEvents (source_events labels point source)
source_proper labels point (At place) = link_proper (label_at labels place) point
source_proper labels point (Constant value) = tt
source_proper labels point (Secret index) = (tt, tt)

sources_proper : (labels : TurnLabels) (point : Point) (sources : Sources) →
    AreProperEvents (sources_events labels point sources)
sources_proper labels point (One source) = source_proper labels point source
sources_proper labels point (Two first second) =
    all_append IsProperEvent (source_events labels point first) (source_events labels point second)
    (source_proper labels point first) (source_proper labels point second)
sources_proper labels point (BytesOne address) = link_proper (labels.map.bytes address) point
sources_proper labels point (BytesTwo address) =
    all_append IsProperEvent (byte_events labels point address) (byte_events labels point (address + 1))
    (link_proper (labels.map.bytes address) point) (link_proper (labels.map.bytes (address + 1)) point)
sources_proper labels point (BytesFour address) =
    let byte = λ (a : ℕ). link_proper (labels.map.bytes a) point in
    all_append IsProperEvent (byte_events labels point address) _ (byte address)
    (all_append IsProperEvent (byte_events labels point (address + 1)) _ (byte (address + 1))
    (all_append IsProperEvent (byte_events labels point (address + 2)) (byte_events labels point (address + 3))
    (byte (address + 2)) (byte (address + 3))))

aim_proper : (point : Point) (aim : Aim) → ((place : Place) → aim ≡ Give place → (point.region == 0) ≡ false) →
    AreProperEvents (aim_events point aim)
aim_proper point (Put place) outside = tt
aim_proper point Decide outside = (tt, tt)
aim_proper point (Give place) outside = (outside place refl, tt)

passing_proper : (labels : TurnLabels) (answer : ℕ) (passing : Passing) → is_slot passing.point.slot ≡ true →
    mask_of labels answer passing ≤ width_of passing.point.slot →
    ((place : Place) → passing.aim ≡ Give place → (passing.point.region == 0) ≡ false) →
    AreProperEvents (passing_events labels answer passing)
passing_proper labels answer passing slot fits outside = ((fits, slot), pick (mask_of labels answer passing == 0))
  where
    pick : (test : Bool) → AreProperEvents (if test then [] else flow_events labels passing)
    pick true = tt
    pick false =
        all_append IsProperEvent (sources_events labels passing.point passing.sources)
        (aim_events passing.point passing.aim) (sources_proper labels passing.point passing.sources)
        (aim_proper passing.point passing.aim outside)

-- ---- one turn

memory_bytes : (base : ℕ) (store : Store) (held : Held) → HasLimits base store held → AreBytes store.memory
memory_bytes base store held has =
    λ index.
    let limit : slice_index store.memory (base + index - base) ≤ 255 = has.places (Byte (base + index)) in
    let here : base + index - base ≡ index = omega arith in
    let same : slice_index store.memory (base + index - base) ≡ slice_index store.memory index =
    ap (slice_index store.memory) here in
    omega (arith, limit, same)

module _ (setting : Setting) (secret : List ℕ) (bytes : AreBytes secret) where
  pub moved-value : (store : Store) (held : Held) (place : Place) (shape : Shape) (source : Source) →
      HasLimits setting.base store held → IsMove setting.base place shape source →
      shaped shape (value_of setting secret store held source ∷ []) ≤ place_limit place
  moved-value store held place shape (At from) has move =
      move.2 (at_place setting.base store held from) (has.places from)
  moved-value store held place shape (Constant value) has move = move.1
  moved-value store held place shape (Secret index) has move = absurd move

  pub turn-events : (turn : Turn) (labels : TurnLabels) (answers : List ℕ) (store : Store) (held : Held) →
      IsOrderly setting.base turn → AreLimited labels → HasLimits setting.base store held →
      EachAnswer IsSoundAnswer labels answers (walked setting secret turn store held) →
      AreProperEvents (events_in labels answers (walked setting secret turn store held))
      × AreLimitedLabels (labels_in labels answers (walked setting secret turn store held))
  unfolding IsOrderly walked traced
  turn-events (Looks seen go) labels answers store held orderly limited has sound =
      turn-events (go (seen_value setting.base store seen)) labels answers store held
      (orderly (seen_value setting.base store seen) (seen_word setting.base store held has.places seen)) limited has
      sound
  turn-events (Passes point place making sources turn) labels answers store held orderly limited has sound =
      let values = values_of setting secret store held sources in
      let mask = work_mask (work_of making values) (masks_of labels sources) (first_of answers) in
      let fits = mask_fits setting.base labels limited.places point making sources values (first_of answers) orderly.2
      sound.0 in
      let value = made_fits setting secret bytes store held has.places point making sources orderly.1 orderly.2 in
      let width = orderly.3 in
      let rest = turn-events turn (put_label place (label_of mask point) labels)
      (answers_after (work_of making values) answers) (put setting.base place (made making values) store)
      (hold place (made making values) held) orderly.4
      (put_limited place (label_of mask point) labels
      (label_of_limit mask point (place_limit place) (let m = fits in omega (arith, m, width))) limited)
      (limits_put setting.base place (made making values) store held (omega (arith, value, width)) has) sound.1 in (
        all_append IsProperEvent
            (passing_events labels (first_of answers) (passing point (Put place) making sources values)) _
            (passing_proper labels (first_of answers) (passing point (Put place) making sources values) orderly.0 fits
            (λ other e. absurd (cc))) rest.0,
        rest.1,
      )
  turn-events (Decides point making sources go) labels answers store held orderly limited has sound =
      let values = values_of setting secret store held sources in
      let fits = mask_fits setting.base labels limited.places point making sources values (first_of answers) orderly.2
      sound.0 in
      let value = made_fits setting secret bytes store held has.places point making sources orderly.1 orderly.2 in
      let rest = turn-events (go (made making values)) labels (answers_after (work_of making values) answers) store held
      (orderly.3 (made making values) (slot_word point.slot (made making values) value)) limited has sound.1 in (
        all_append IsProperEvent
            (passing_events labels (first_of answers) (passing point Decide making sources values)) _
            (passing_proper labels (first_of answers) (passing point Decide making sources values) orderly.0 fits
            (λ other e. absurd (cc))) rest.0,
        rest.1,
      )
  turn-events (Gives point place turn) labels answers store held orderly limited has sound =
      let value = at_place setting.base store held place in
      let width = orderly.2 in
      let rest = turn-events turn (put_label place (label_of (width_of point.slot) point) labels) answers
      (put setting.base place value store) (hold place value held) orderly.3
      (put_limited place (label_of (width_of point.slot) point) labels
      (label_of_limit (width_of point.slot) point (place_limit place) (omega (arith, width))) limited)
      (limits_put setting.base place value store held (has.places place) has) sound.1 in (
        all_append IsProperEvent (passing_events labels (first_of answers)
            (passing point (Give place) (Shaped Copied) (One (At place)) (value ∷ []))) _
            (passing_proper labels (first_of answers)
            (passing point (Give place) (Shaped Copied) (One (At place)) (value ∷ [])) orderly.0
            (let same : width_of point.slot ≤ width_of point.slot = omega arith in same) (λ other e. orderly.1)) rest.0,
        rest.1,
      )
  turn-events (Moves place shape source turn) labels answers store held orderly limited has sound =
      let value = shaped shape (value_of setting secret store held source ∷ []) in
      turn-events turn (put_label place (moved_label labels shape source) labels) answers
      (put setting.base place value store) (hold place value held) orderly.1
      (put_limited place (moved_label labels shape source) labels
      (moved_limited setting.base labels place shape source orderly.0 limited) limited)
      (limits_put setting.base place value store held (moved-value store held place shape source has orderly.0) has)
      sound
  turn-events (Saves turn) labels answers store held orderly limited has sound =
      turn-events turn (save_labels labels) answers (saved store) held orderly (saved_limited labels limited)
      (saved_limits setting.base store held has) sound
  turn-events (Restores registers turn) labels answers store held orderly limited has sound =
      turn-events turn (restore_labels registers labels) answers store held orderly
      (restored_limited registers labels limited) has sound
  turn-events (Ends control) labels answers store held orderly limited has sound = (tt, at_end labels limited)

  -- the values at its end are a guest's
  pub turn-guest : (turn : Turn) (store : Store) (held : Held) → IsOrderly setting.base turn →
      HasLimits setting.base store held → AreBytes setting.public_input → setting.start_break < 2 ^ 32 →
      IsProperGuest (real_end (walked setting secret turn store held))
  unfolding IsOrderly walked real_end
  turn-guest (Looks seen go) store held orderly has input break =
      turn-guest (go (seen_value setting.base store seen)) store held
      (orderly (seen_value setting.base store seen) (seen_word setting.base store held has.places seen)) has input break
  turn-guest (Passes point place making sources turn) store held orderly has input break =
      let values = values_of setting secret store held sources in
      let value = made_fits setting secret bytes store held has.places point making sources orderly.1 orderly.2 in
      let width = orderly.3 in
      turn-guest turn (put setting.base place (made making values) store) (hold place (made making values) held)
      orderly.4 (limits_put setting.base place (made making values) store held (omega (arith, value, width)) has) input
      break
  turn-guest (Decides point making sources go) store held orderly has input break =
      let values = values_of setting secret store held sources in
      let value = made_fits setting secret bytes store held has.places point making sources orderly.1 orderly.2 in
      turn-guest (go (made making values)) store held
      (orderly.3 (made making values) (slot_word point.slot (made making values) value)) has input break
  turn-guest (Gives point place turn) store held orderly has input break =
      let value = at_place setting.base store held place in
      turn-guest turn (put setting.base place value store) (hold place value held) orderly.3
      (limits_put setting.base place value store held (has.places place) has) input break
  turn-guest (Moves place shape source turn) store held orderly has input break =
      let value = shaped shape (value_of setting secret store held source ∷ []) in
      turn-guest turn (put setting.base place value store) (hold place value held) orderly.1
      (limits_put setting.base place value store held (moved-value store held place shape source has orderly.0) has)
      input break
  turn-guest (Saves turn) store held orderly has input break =
      turn-guest turn (saved store) held orderly (saved_limits setting.base store held has) input break
  turn-guest (Restores registers turn) store held orderly has input break =
      turn-guest turn store held orderly has input break
  turn-guest (Ends control) store held orderly has input break = record {
    store = record {
      registers = λ register. let limit = has.places (Register register) in omega (arith, limit);
      kept = has.kept;
      memory = memory_bytes setting.base store held has;
    };
    secret = bytes;
    public_input = input;
    start_break = break;
    current_break = orderly;
  }
