-- Between two turns: how the replay stands beside the real run outside skipped regions, and that each turn keeps it so.
use Rattle.std.proofs.Common.{◌≡◌, ℕ, ◌+◌, ◌^◌, ◌<◌, ◌≤◌, true, false, List, []}
use Rattle.std.proofs.Common.{Option, Some, None, refl, sym, ap, subst, ◌∙◌, arith}
use Rattle.std.specs.Prelude.{◌-◌, ◌==◌, slice_index}
use Rattle.std.specs.List.{list_all}
use Rattle.flow_base.specs.declared.points.Point.{Point}
use Rattle.crossing_bits.specs.Askers.{feed, Fed'}
use Rattle.enclosure_regions.specs.declared.region_parts.Region.{Region}
use Rattle.enclosure_regions.specs.Regions.{is_register}
use Rattle.rv32im_machine.specs.declared.language.Place.TheVariants.{Register, Byte}
use Rattle.rv32im_machine.specs.declared.stepping.Stepped.{Stepped}
use Rattle.rv32im_machine.specs.declared.stepping.Stepped.TheVariants.{Ran, Exited, Stopped}
use Rattle.rv32im_machine.specs.State.{Setting, Control, Store, State}
use Rattle.rv32im_machine.specs.Language.{Ends, Walk, none_held, walked}
use Rattle.rv32im_machine.specs.Folds.{real_end}
use Rattle.rv32im_machine.specs.Rows.{turn_in, turn_of}
use Rattle.region_machine.specs.Enclosures.{Steps, kind_of, region_numbered}
use Rattle.region_machine.specs.Runs.{passed}
use Rattle.region_machine.specs.Within.{are_inside}
use Rattle.replay_machine.specs.ReplayTurns.{replay_kind_walk, kind_outside_range}
use Rattle.replay_machine.specs.Runs.{ReplayPlace, Masks, replayed, replay_turn, replay_inside}
use Rattle.lockstep_replay.specs.Crossing.{crossing}
use Rattle.shadow_masks.specs.Writes.{LabelMap}
use Rattle.run_labels.specs.TurnLabels.{at_start}
use Rattle.run_labels.specs.Traces.{labels_in}
use Rattle.acceptance_law.specs.Sides.{NamedSide}
use Rattle.acceptance_law.specs.Inputs.{AreBytes, IsProperGuest, IsProper}
use Rattle.acceptance_law.specs.ProperLaws.{ProperTurnsLaw}
use Rattle.acceptance_law.proofs.WritesKeepRelation.{Close, Beside}
use Rattle.acceptance_law.proofs.Turns.{SameCounts}
use Rattle.acceptance_law.proofs.TurnsKeepRelation.{CoveredTurn, turn_kept}
use Rattle.acceptance_law.proofs.Unchanged.{real_ends}
use Rattle.acceptance_law.proofs.Entering.{SameStarts}
use Rattle.acceptance_law.proofs.Leaving.{KeptBeside}
use Rattle.flow_base.specs.Listed.{is_listed}

-- a state by its parts, and a place of the replay
abbrev pub state_of : Setting → List ℕ → Control → Store → State
state_of setting secret control store =
    record { setting = setting; secret = secret; control = control; store = store }

abbrev pub placed : Setting → List ℕ → Control → Store → List Point → ReplayPlace
placed setting secret control store past =
    record { state = state_of setting secret control store; past = past; outside = None }

-- what is kept of the entry of the region that is entered
pub record InsideBeside (side : NamedSide) (base : ℕ) (region : Region) (labels : LabelMap) (real copy : Store) :
    Type 0 where
  pub kept : KeptBeside side labels real copy
  pub starts : SameStarts region.ranges real.kept copy.kept
  pub inside : are_inside region.ranges real.kept base ≡ true

-- between two turns, outside skipped regions
pub record Stands (side : NamedSide) (skip : List ℕ) (regions : List Region) (base : ℕ) (control : Control)
    (labels : LabelMap) (real copy : Store) (past all : List Point) : Type 0 where
  pub beside : Beside side base (at_start labels) real none_held copy none_held
  pub counts : SameCounts skip past all
  pub runs : is_listed skip control.region ≡ false
  pub nowhere : region_numbered regions control.region ≡ None → control.region ≡ 0
  pub inside : (region : Region) → region_numbered regions control.region ≡ Some region →
      InsideBeside side base region labels real copy
  pub small_break : control.current_break < 2 ^ 32
  pub kept_words : (register : ℕ) → slice_index real.kept register ≤ 4294967295

-- after a turn
pub record Stood (side : NamedSide) (skip : List ℕ) (regions : List Region) (masks : Masks) (setting : Setting)
    (other : List ℕ) (control : Control) (labels : LabelMap) (answers : List ℕ) (walk : Walk) (copy : Store)
    (past all : List Point) : Type 0 where
  pub store : Store
  pub uses : feed (replay_turn (record { regions = regions; skip = skip }) masks
      (placed setting other control copy past))
      (crossing masks past walk)
      ≡ Fed' (placed setting other (real_end walk).control store (passed past walk)) []
  pub stands : Stands side skip regions setting.base (real_end walk).control
      (labels_in (at_start labels) answers walk) (real_end walk).store store (passed past walk) (passed all walk)

-- a region that the replay enters or leaves keeps the rules of regions
pub record HasRules (region : Region) : Type 0 where
  pub outs : list_all is_register region.outs ≡ true
  pub keeps : list_all is_register region.keep ≡ true

-- an entered region is skipped where its relay is in the side
abbrev pub SkipsRelays : NamedSide → List ℕ → List Region → Type 0
SkipsRelays side skip regions =
    (number : ℕ) (region : Region) → region_numbered regions number ≡ Some region →
    is_listed skip number ≡ side.relay number

-- ---- moves of what is kept

pub kept_moved : (side : NamedSide) (base : ℕ) (region : Region) (labels later : LabelMap) (real new copy changed : Store) →
    later.kept ≡ labels.kept → new.kept ≡ real.kept → changed.kept ≡ copy.kept →
    InsideBeside side base region labels real copy → InsideBeside side base region later new changed
kept_moved side base region labels later real new copy changed el er ec h = record {
  kept = record {
    close = λ r.
        subst (λ f. Close side (f r) (slice_index new.kept r) (slice_index changed.kept r)) (sym el)
        (subst (λ xs. Close side (labels.kept r) (slice_index xs r) (slice_index changed.kept r)) (sym er)
        (subst (λ xs. Close side (labels.kept r) (slice_index real.kept r) (slice_index xs r)) (sym ec)
        (h.kept.close r)));
    real_limit = λ r. subst (λ xs. slice_index xs r ≤ 4294967295) (sym er) (h.kept.real_limit r);
    copy_limit = λ r. subst (λ xs. slice_index xs r ≤ 4294967295) (sym ec) (h.kept.copy_limit r);
    label_limit = λ r. subst (λ f. (f r).mask ≤ 4294967295) (sym el) (h.kept.label_limit r);
  };
  starts =
      subst (λ xs. SameStarts region.ranges xs changed.kept) (sym er)
      (subst (λ xs. SameStarts region.ranges real.kept xs) (sym ec) h.starts);
  inside = subst (λ xs. are_inside region.ranges xs base ≡ true) (sym er) h.inside;
}

module _ (side : NamedSide) (skip : List ℕ) (regions : List Region) (masks : Masks) (setting : Setting)
    (secret other : List ℕ) (bytes : AreBytes secret) (others : AreBytes other)
    (public_bytes : AreBytes setting.public_input) (small_start : setting.start_break < 2 ^ 32)
    (skips : SkipsRelays side skip regions) (proper : ProperTurnsLaw) where
  abbrev pub At : Control → LabelMap → Store → Store → List Point → List Point → Type 0
  At control labels real copy past all = Stands side skip regions setting.base control labels real copy past all

  abbrev pub After : Control → LabelMap → List ℕ → Walk → Store → List Point → List Point → Type 0
  After control labels answers walk copy past all =
      Stood side skip regions masks setting other control labels answers walk copy past all

  pub is_guest : (control : Control) (labels : LabelMap) (real copy : Store) (past all : List Point) →
      At control labels real copy past all → IsProperGuest (state_of setting secret control real)
  is_guest control labels real copy past all at = record {
    store = record {
      registers = λ r. let limit = at.beside.real_limits (Register r) in omega (arith, limit);
      kept = λ r. let limit = at.kept_words r in omega (arith, limit);
      memory = λ i. byte i;
    };
    secret = bytes;
    public_input = public_bytes;
    start_break = small_start;
    current_break = at.small_break;
  }
    where
      byte : (i : ℕ) → slice_index real.memory i < 256
      byte i =
          let limit : slice_index real.memory (setting.base + i - setting.base) ≤ 255 =
          at.beside.real_limits (Byte (setting.base + i)) in
          let same : setting.base + i - setting.base ≡ i = omega arith in
          let here : slice_index real.memory i ≤ 255 = subst (λ k. slice_index real.memory k ≤ 255) same limit in
          omega (arith, here)

  -- a guest that has ended stands still
  still_proper : (control : Control) → control.current_break < 2 ^ 32 →
      IsProper setting.base control.region (Ends control)
  unfolding IsProper
  still_proper control small = (small, refl)

  -- the turn of a step is proper, whether the guest runs or has ended
  pub proper_turn : (control : Control) (real : Store) → IsProperGuest (state_of setting secret control real) →
      IsProper setting.base control.region (turn_of setting control)
  proper_turn control real guest = pick control.mode
    where
      pick : (mode : Stepped) → IsProper setting.base control.region (turn_in mode setting control)
      pick Ran = proper (state_of setting secret control real) guest
      pick (Exited status) = still_proper control guest.current_break
      pick (Stopped fault) = still_proper control guest.current_break

  -- the relay of the entered region is outside the side
  away : (control : Control) → is_listed skip control.region ≡ false →
      (region_numbered regions control.region ≡ None → control.region ≡ 0) → (control.region == 0) ≡ false →
      side.relay control.region ≡ false
  away control runs nowhere within = pick (region_numbered regions control.region) refl
    where
      pick : (found : Option Region) → region_numbered regions control.region ≡ found →
          side.relay control.region ≡ false
      pick None lost =
          let zeroth : (control.region == 0) ≡ true = ap (λ n. n == 0) (nowhere lost) in
          let both : true ≡ false = sym zeroth ∙ within in absurd (cc)
      pick (Some region) found = sym (skips control.region region found) ∙ runs

  -- ---- a step

  pub step_stands : (control : Control) (labels : LabelMap) (answers : List ℕ) (real copy : Store)
      (past all : List Point) (found : Option Region) → kind_of regions control ≡ Steps found →
      At control labels real copy past all →
      CoveredTurn side skip masks 0 (at_start labels) answers all
      (walked setting secret (turn_of setting control) real none_held) →
      After control labels answers (walked setting secret (turn_of setting control) real none_held) copy past all
  step_stands control labels answers real copy past all found kind at covered =
      let turn = turn_of setting control in
      let walk = walked setting secret turn real none_held in
      let is = proper_turn control real (is_guest control labels real copy past all at) in
      let kept = turn_kept side skip masks setting secret other bytes others 0 control.region
      (away control at.runs at.nowhere) at.runs turn (at_start labels) answers real none_held copy none_held past all is
      at.beside at.counts covered in
      let alone = real_ends setting secret bytes control.region turn (at_start labels) answers real none_held is
      at.beside.real_limits at.beside.label_limits covered.sound in
      let same = alone.ends.same_region in record {
        store = kept.store;
        uses = ap (λ k. feed (replay_inside (kind_outside_range k (state_of setting other control copy))
            (record { regions = regions; skip = skip }) masks (placed setting other control copy past))
            (crossing masks past walk)) kind
            ∙ ap (λ k. feed (replayed masks past (replay_kind_walk (record { regions = regions; skip = skip }) k
            (state_of setting other control copy))) (crossing masks past walk)) kind
            ∙ kept.uses;
        stands = record {
          beside = kept.beside;
          counts = kept.counts;
          runs = subst (λ r. is_listed skip r ≡ false) (sym same) at.runs;
          nowhere = λ none. same ∙ at.nowhere (subst (λ r. region_numbered regions r ≡ None) same none);
          inside = λ region is_in. kept_moved side setting.base region labels _ real _ copy _ alone.kept
              alone.ends.same_kept kept.kept
              (at.inside region (subst (λ r. region_numbered regions r ≡ Some region) same is_in));
          small_break = alone.ends.small_break;
          kept_words = λ r. subst (λ xs. slice_index xs r ≤ 4294967295) (sym alone.ends.same_kept) (at.kept_words r);
        };
      }
