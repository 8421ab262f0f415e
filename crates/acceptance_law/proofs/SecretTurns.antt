-- How many bits of the secret a turn reads, from what its row says.
use Rattle.std.proofs.Common.{◌≡◌, ℕ, ◌+◌, ◌*◌, ◌≤◌, ◌==◌, ◌&&◌, cond, Bool, true, false, List, [], ◌∷◌, ◌++◌, refl}
use Rattle.std.proofs.Common.{ap, ap₂, ◌∙◌, arith}
use Rattle.std.specs.Prelude.{if◌then◌else◌}
use Rattle.std.specs.List.{list_all}
use Rattle.std.proofs.lemmas.List.Sums.{sum_by-append, sum_by-cons}
use Rattle.std.proofs.lemmas.List.Folds.{list_all-append}
use Rattle.flow_base.specs.declared.points.Point.{Point}
use Rattle.flow_base.specs.Words.{bit_count}
use Rattle.flow_graph.specs.declared.events.Event.{Event}
use Rattle.flow_graph.specs.declared.events.Event.TheVariants as event
use Rattle.rv32im_machine.specs.declared.language.Aim.{Aim}
use Rattle.rv32im_machine.specs.declared.language.Aim.TheVariants.{Put, Decide, Give}
use Rattle.rv32im_machine.specs.declared.language.Passing.{Passing}
use Rattle.rv32im_machine.specs.declared.language.Place.{Place as ThePlace}
use Rattle.rv32im_machine.specs.declared.language.Shape.TheVariants.{Copied}
use Rattle.rv32im_machine.specs.declared.language.Source.{Source}
use Rattle.rv32im_machine.specs.declared.language.Source.TheVariants.{At, Constant, Secret}
use Rattle.rv32im_machine.specs.declared.language.Sources.{Sources}
use Rattle.rv32im_machine.specs.declared.language.Sources.TheVariants.{One, Two, Byte as BytesOne, Half as BytesTwo}
use Rattle.rv32im_machine.specs.declared.language.Sources.TheVariants.{Word as BytesFour}
use Rattle.rv32im_machine.specs.State.{State, Setting, Store, saved}
use Rattle.rv32im_machine.specs.Language.{Turn, Looks, Passes, Decides, Gives, Moves, Saves, Restores, Ends, Making}
use Rattle.rv32im_machine.specs.Language.{Shaped, Held, first_of, hold, passing, put, seen_value, shaped, value_of}
use Rattle.rv32im_machine.specs.Language.{values_of, at_place, walked}
use Rattle.rv32im_machine.specs.Folds.{real_end}
use Rattle.shadow_masks.specs.declared.labels.Label.{Label}
use Rattle.run_labels.specs.TurnLabels.{TurnLabels, label_at, put_label, restore_labels, save_labels}
use Rattle.run_labels.specs.Masks.{answers_after, labels_after, mask_of, moved_label}
use Rattle.run_labels.specs.Flowing.{aim_events, byte_events, flow_events, link_from, passing_events}
use Rattle.run_labels.specs.Traces.{traced, events_in}
use Rattle.run_labels.specs.Flowing.{source_events, sources_events}
use Rattle.acceptance_law.specs.SecretBits.{is_from_secret, is_secret_slot, secret_bits, secret_bits_of}
use Rattle.acceptance_law.proofs.RowCounts.{Counts, Limits, NoSecret, NoSecrets, Takes}

-- ---- the events of a passing

-- events that pass no bits, and come from the secret to slot `in` alone
pub record IsQuiet (events : List Event) : Type 0 where
  pub bits : secret_bits events ≡ 0
  pub sources : list_all is_from_secret events ≡ true

quiet_none : IsQuiet []
quiet_none = record { bits = refl; sources = refl }

both : (a b : Bool) → a ≡ true → b ≡ true → (a && b) ≡ true
both a b e f = ap₂ (λ x y. x && y) e f

quiet_append : (es fs : List Event) → IsQuiet es → IsQuiet fs → IsQuiet (es ++ fs)
quiet_append es fs q r = record {
  bits = sum_by-append secret_bits_of es fs ∙ ap₂ (λ x y. x + y) q.bits r.bits;
  sources = list_all-append is_from_secret es fs ∙ both _ _ q.sources r.sources;
}

quiet_link : (label : Label) (point : Point) → IsQuiet (link_from label point)
quiet_link label point = pick (label.mask == 0)
  where
    pick : (b : Bool) → IsQuiet (if b then [] else event.Link label.point point ∷ [])
    pick true = quiet_none
    pick false = record { bits = refl; sources = refl }

quiet_source : (labels : TurnLabels) (point : Point) (source : Source) → NoSecret source →
    IsQuiet (source_events labels point source)
quiet_source labels point (At place) h = quiet_link (label_at labels place) point
quiet_source labels point (Constant value) h = quiet_none
quiet_source labels point (Secret index) h = absurd h

quiet_byte : (labels : TurnLabels) (point : Point) (address : ℕ) → IsQuiet (byte_events labels point address)
quiet_byte labels point address = quiet_link (labels.map.bytes address) point

quiet_sources : (labels : TurnLabels) (point : Point) (sources : Sources) → NoSecrets sources →
    IsQuiet (sources_events labels point sources)
quiet_sources labels point (One source) h = quiet_source labels point source h
quiet_sources labels point (Two first second) h =
    quiet_append _ _ (quiet_source labels point first h.0) (quiet_source labels point second h.1)
quiet_sources labels point (BytesOne address) h = quiet_byte labels point address
quiet_sources labels point (BytesTwo address) h =
    quiet_append _ _ (quiet_byte labels point address) (quiet_byte labels point (address + 1))
quiet_sources labels point (BytesFour address) h =
    quiet_append _ _ (quiet_byte labels point address)
    (quiet_append _ _ (quiet_byte labels point (address + 1))
    (quiet_append _ _ (quiet_byte labels point (address + 2)) (quiet_byte labels point (address + 3))))

quiet_aim : (point : Point) (aim : Aim) → IsQuiet (aim_events point aim)
quiet_aim point (Put place) = quiet_none
quiet_aim point Decide = record { bits = refl; sources = refl }
quiet_aim point (Give place) = record { bits = refl; sources = refl }

quiet_secret : (point : Point) → is_secret_slot point.slot ≡ true → IsQuiet (event.FromSecret point ∷ [])
quiet_secret point e = record { bits = refl; sources = both _ _ e refl }

-- what flows at a passing passes no bits of its own
pub quiet_flow : (labels : TurnLabels) (p : Passing) → NoSecrets p.sources → IsQuiet (flow_events labels p)
quiet_flow labels p h = quiet_append _ _ (quiet_sources labels p.point p.sources h) (quiet_aim p.point p.aim)

-- ---- a turn

-- events that pass the bits of so many bytes of the secret
pub record Passed (count : ℕ) (events : List Event) : Type 0 where
  pub bits : secret_bits events ≡ 8 * count
  pub sources : list_all is_from_secret events ≡ true

quiet_if : (b : Bool) (events : List Event) → IsQuiet events → IsQuiet (if b then [] else events)
quiet_if true events q = quiet_none
quiet_if false events q = q

-- a passing of another slot passes no bits of the secret
passed_none : (labels : TurnLabels) (answer : ℕ) (p : Passing) → is_secret_slot p.point.slot ≡ false →
    NoSecrets p.sources → Passed 0 (passing_events labels answer p)
passed_none labels answer p e h =
    let q = quiet_if (mask_of labels answer p == 0) (flow_events labels p) (quiet_flow labels p h) in
    let none : cond (is_secret_slot p.point.slot) (bit_count (mask_of labels answer p)) 0 ≡ 0 =
    ap (λ b. cond b (bit_count (mask_of labels answer p)) 0) e in
    record { bits = rw (sum_by-cons secret_bits_of) (omega (arith, none, q.bits)); sources = q.sources }

byte_bits : bit_count 255 ≡ 8
unfolding Rattle.flow_base.specs.Words.count_below
byte_bits = refl

-- a byte of the secret passes all of its bits at slot `in`
module _ (labels : TurnLabels) (answer : ℕ) (point : Point) (place : ThePlace) (index : ℕ) (values : List ℕ) where
  passed_byte : is_secret_slot point.slot ≡ true →
      Passed 1 (passing_events labels answer (passing point (Put place) (Shaped Copied) (One (Secret index)) values))
  passed_byte e = record {
    bits = rw (sum_by-cons secret_bits_of) (omega (arith, ap (λ b. cond b (bit_count 255) 0) e ∙ byte_bits));
    sources = both _ _ e refl;
  }

-- what a turn from a count of bytes reads: its events pass the bits of the bytes that its end has counted
pub record Counted (limit : ℕ) (setting : Setting) (count : ℕ) (events : List Event) (after : State) : Type 0 where
  pub bits : secret_bits events + 8 * count ≡ 8 * after.control.secret_at
  pub within : after.control.secret_at ≤ limit
  pub sources : list_all is_from_secret events ≡ true
  pub stays : after.setting ≡ setting

counted_more : (limit : ℕ) (setting : Setting) (count taken : ℕ) (es fs : List Event) (after : State) →
    Passed taken es → Counted limit setting (count + taken) fs after → Counted limit setting count (es ++ fs) after
counted_more limit setting count taken es fs after p c = record {
  bits = rw (sum_by-append secret_bits_of es fs) (omega (arith, p.bits, c.bits));
  within = c.within;
  sources = list_all-append is_from_secret es fs ∙ both _ _ p.sources c.sources;
  stays = c.stays;
}

counted_none : (limit : ℕ) (setting : Setting) (count : ℕ) (es fs : List Event) (after : State) →
    Passed 0 es → Counted limit setting count fs after → Counted limit setting count (es ++ fs) after
counted_none limit setting count es fs after p c = record {
  bits = rw (sum_by-append secret_bits_of es fs) (omega (arith, p.bits, c.bits));
  within = c.within;
  sources = list_all-append is_from_secret es fs ∙ both _ _ p.sources c.sources;
  stays = c.stays;
}

module _ (limit : ℕ) (setting : Setting) (count : ℕ) (labels : TurnLabels) (answer : ℕ) (point : Point) (rest : List Event)
    (after : State) where
  passes_counted : (place : ThePlace) (making : Making) (sources : Sources) (values : List ℕ) (b : Bool) →
      is_secret_slot point.slot ≡ b → Takes b making sources →
      Counted limit setting (cond b (count + 1) count) rest after →
      Counted limit setting count (passing_events labels answer (passing point (Put place) making sources values) ++ rest)
      after
  passes_counted place making sources values true e takes c =
      rw takes.0 (rw takes.1.1
      (counted_more limit setting count 1 _ rest after (passed_byte labels answer point place takes.1.0 values e) c))
  passes_counted place making sources values false e takes c =
      counted_none limit setting count _ rest after
      (passed_none labels answer (passing point (Put place) making sources values) e takes) c

module _ (Known : Type 0) (limits : Limits) (setting : Setting) (secret : List ℕ) where
  pub turn_counted : (turn : Turn) (count used : ℕ) (store : Store) (held : Held) (labels : TurnLabels)
      (answers : List ℕ) → Counts Known limits count used turn →
      Counted limits.secret setting count (events_in labels answers (walked setting secret turn store held))
      (real_end (walked setting secret turn store held))
  unfolding Counts walked traced real_end
  turn_counted (Looks seen go) count used store held labels answers r =
      turn_counted (go (seen_value setting.base store seen)) count used store held labels answers
      (r (seen_value setting.base store seen))
  turn_counted (Passes point place making sources turn) count used store held labels answers r =
      let values = values_of setting secret store held sources in
      let p = passing point (Put place) making sources values in
      passes_counted limits.secret setting count labels (first_of answers) point _ _ place making sources values
      (is_secret_slot point.slot) refl r.1
      (turn_counted turn (cond (is_secret_slot point.slot) (count + 1) count) (used + 1)
      (put setting.base place p.value store) (hold place p.value held) (labels_after labels (first_of answers) p)
      (answers_after p.work answers) r.2)
  turn_counted (Decides point making sources go) count used store held labels answers r =
      let p = passing point Decide making sources (values_of setting secret store held sources) in
      counted_none limits.secret setting count _ _ _ (passed_none labels (first_of answers) p r.1 r.2)
      (turn_counted (go p.value) count (used + 1) store held (labels_after labels (first_of answers) p)
      (answers_after p.work answers) (r.3 p.value))
  turn_counted (Gives point place turn) count used store held labels answers r =
      let values = at_place setting.base store held place ∷ [] in
      let p = passing point (Give place) (Shaped Copied) (One (At place)) values in
      counted_none limits.secret setting count _ _ _ (passed_none labels (first_of answers) p r.1 tt)
      (turn_counted turn count used (put setting.base place p.value store) (hold place p.value held)
      (labels_after labels (first_of answers) p) (answers_after p.work answers) r.3)
  turn_counted (Moves place shape source turn) count used store held labels answers r =
      let value = shaped shape (value_of setting secret store held source ∷ []) in
      turn_counted turn count used (put setting.base place value store) (hold place value held)
      (put_label place (moved_label labels shape source) labels) answers r
  turn_counted (Saves turn) count used store held labels answers r =
      turn_counted turn count used (saved store) held (save_labels labels) answers r
  turn_counted (Restores registers turn) count used store held labels answers r =
      turn_counted turn count used store held (restore_labels registers labels) answers r
  turn_counted (Ends control) count used store held labels answers r = record {
    bits = omega (arith, r.0);
    within = r.1.1;
    sources = refl;
    stays = refl;
  }
