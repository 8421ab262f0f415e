-- What a turn that is made leaves: what comes of the turn of a masked replay, and a walk that is ready for the next one.
use Rattle.std.proofs.Common.{◌≡◌, ℕ, List, [], Bool, true, Option, Some, None, refl, sym, ap, ◌∙◌, subst, drop}
use Rattle.flow_base.specs.declared.points.Point.{Point}
use Rattle.crossing_bits.specs.Askers.{Asker, Fed'}
use Rattle.cut_file.specs.Masks.{MaskAt}
use Rattle.enclosure_regions.specs.Regions.{are_regions}
use Rattle.rv32im_machine.specs.Language.{Walk, Looked, Passed, Moved, Saved, Restored, Ended}
use Rattle.rv32im_machine.specs.Playing.{Finished}
use Rattle.rv32im_machine.specs.State.{State}
use Rattle.region_machine.specs.Enclosures.{Enclosures, Kind, kind_of}
use Rattle.region_machine.specs.Within.{may_leave}
use Rattle.region_machine.proofs.CarriedToEnds.{AtEnds}
use Rattle.region_machine.proofs.RangesStayInside.{CanGoOn}
use Rattle.replay_machine.specs.declared.outsides.Outside.{Outside}
use Rattle.replay_machine.specs.ReplayTurns.{kind_outside_range, replay_kind_walk}
use Rattle.replay_machine.specs.Runs.{Masks}
use Rattle.replay_machine.proofs.MasksAhead.{ahead_self}
use Rattle.replay_machine.proofs.ReplayEnds.{kind_inside, replay_kind_keeps}
use Rattle.run_labels.specs.Runs.{entered_number}
use Rattle.tracked_run.specs.declared.held.Held.{Held}
use Rattle.tracked_run.specs.Labels.{labels_of, map_of, clean_held}
use Rattle.lockstep_replay.specs.Tasks.{Task}
use Rattle.every_secret.specs.declared.whys.UnclearWhy.TheVariants.{BaseSecret}
use Rattle.every_secret.specs.Private.Walking.{lengthens_none}
use Rattle.every_secret.specs.Masked.{MaskedPlace, Reached, Goes, Meets, Halts, masked}
use Rattle.every_secret.specs.Rules.{Rules}
use Rattle.every_secret.specs.Private.Tapes.{AreRulesOf, Arrives, EndsAt, EndsMasked, HoldsPlace, HoldsReached, Lengthens, PlaysWalk, Tape}
use Rattle.every_secret.specs.Private.Tapes.{TellsWalk, knowledge_of}
use Rattle.every_secret.specs.Private.Turning.{HoldsTurn, IsReady, MakesFed, MakesBy, MakesKind}
use Rattle.every_secret.specs.Turns.{cutting_of, kind_turn, knowledge_at, masked_turn, secret_base_of, skips}
use Rattle.every_secret.specs.Turns.{turn_from, turn_inside}
use Rattle.every_secret.proofs.TurnsStay.{HasBoth, replay_kind_stays}

pub none_of : {A : Type 0} (option : Option A) → ((value : A) → option ≡ Some value → ⊥) → option ≡ None
none_of None h = refl
none_of (Some value) h = absurd (h value refl)

-- what is so at each end of a turn is so where the turn has come to
pub at_end : (P : State → Type 0) (walk : Walk) (state : State) → AtEnds P walk → EndsAt walk state → P state
unfolding EndsAt
at_end P (Looked seen value walk) state h e = at_end P walk state h e
at_end P (Passed passing go) state h e = at_end P (go e.0) state (h e.0) e.1
at_end P (Moved place shape source value walk) state h e = at_end P walk state h e
at_end P (Saved walk) state h e = at_end P walk state h e
at_end P (Restored registers walk back) state h e = at_end P back state h.1 e
at_end P (Ended end) state h e = subst P e h

-- ---- a turn of a kind

module _ (enclosures : Enclosures) (kind : Kind) (region : ℕ) (skipped : Bool) (held : Held) (machine : State)
    (before : Tape) (outside : Option Outside) (state : State) (after : Tape) where
  abbrev By : Option ℕ → Option Outside → Type 0
  By register range =
      MakesBy register range enclosures kind region skipped held machine before outside state after

  pub walks-by : (register : Option ℕ) (range : Option Outside) → register ≡ None → range ≡ None →
      PlaysWalk region skipped (labels_of before.shades held) before (replay_kind_walk enclosures kind machine)
      (Finished state after) → outside ≡ None → By register range
  walks-by None None even inside plays none = (plays, none)
  walks-by None (Some range) even inside plays none = absurd (cc)
  walks-by (Some register) range even inside plays none = absurd (cc)

  -- whatever the masks of the cut are
  whatever : PlaysWalk region skipped (labels_of before.shades held) before (replay_kind_walk enclosures kind machine)
      (Finished state after) →
      EndsMasked (record { masks = MaskAt before.ahead; skipped = skipped }) region
      (knowledge_of [] (labels_of before.shades held) before) before (replay_kind_walk enclosures kind machine) state
      after
  whatever plays = plays (MaskAt before.ahead) [] (ahead_self before.ahead)

  pub kind_ruling : (register : Option ℕ) (range : Option Outside) → By register range → after.ruling ≡ before.ruling
  kind_ruling (Some register) range h = ap (λ (t : Tape). t.ruling) h.0
  kind_ruling None (Some range) h = ap (λ (t : Tape). t.ruling) h.0
  kind_ruling None None h = (whatever h.0).ruling

  pub kind-longer : (register : Option ℕ) (range : Option Outside) → By register range →
      Lengthens before.stream after.stream
  kind-longer (Some register) range h =
      subst (λ (t : Tape). Lengthens before.stream t.stream) (sym h.0) (lengthens_none before.stream)
  kind-longer None (Some range) h =
      subst (λ (t : Tape). Lengthens before.stream t.stream) (sym h.0) (lengthens_none before.stream)
  kind-longer None None h = (whatever h.0).longer

  -- a turn changes neither the setting nor the secret
  pub kind-stays : (register : Option ℕ) (range : Option Outside) → By register range →
      HasBoth machine.setting machine.secret state
  kind-stays (Some register) range h = (ap (λ (s : State). s.setting) h.1, ap (λ (s : State). s.secret) h.1)
  kind-stays None (Some range) h = (ap (λ (s : State). s.setting) h.1, ap (λ (s : State). s.secret) h.1)
  kind-stays None None h =
      at_end (HasBoth machine.setting machine.secret) (replay_kind_walk enclosures kind machine) state
      (replay_kind_stays enclosures kind machine) (whatever h.0).ends

  -- a turn that tells of a range has passed nothing
  pub kind-halts : (register : Option ℕ) (range : Option Outside) → By register range → (told : Outside) →
      outside ≡ Some told → after.crossed ≡ before.crossed
  kind-halts (Some register) range h told is = ap (λ (t : Tape). t.crossed) h.0
  kind-halts None (Some range) h told is = ap (λ (t : Tape). t.crossed) h.0
  kind-halts None None h told is = let none = h.1 in absurd (cc)

  kind_leaves : (register : Option ℕ) (range : Option Outside) → range ≡ kind_outside_range kind machine →
      are_regions enclosures.regions ≡ true → may_leave enclosures.regions machine ≡ true →
      kind_of enclosures.regions machine.control ≡ kind → outside ≡ None → after.unclear ≡ None →
      By register range → may_leave enclosures.regions state ≡ true
  kind_leaves (Some register) range e rules leaves is none clear h =
      let met : after.unclear ≡ Some (BaseSecret (entered_number kind) register) = ap (λ (t : Tape). t.unclear) h.0 in
      absurd (cc)
  kind_leaves None (Some range) e rules leaves is none clear h = let told = h.2 in absurd (cc)
  kind_leaves None None e rules leaves is none clear h =
      at_end (CanGoOn enclosures.regions) (replay_kind_walk enclosures kind machine) state
      (replay_kind_keeps enclosures kind machine rules leaves is (kind_inside kind machine (sym e))) (whatever h.0).ends

  pub kind-ready : are_regions enclosures.regions ≡ true → kind_of enclosures.regions machine.control ≡ kind →
      IsReady enclosures.regions machine before → after.shades.base ≡ state.setting.base → outside ≡ None →
      after.unclear ≡ None → MakesKind enclosures kind region skipped held machine before outside state after →
      IsReady enclosures.regions state after
  kind-ready rules is ready base none clear h = record {
    base = base;
    leaves = kind_leaves (secret_base_of kind (map_of before.shades)) (kind_outside_range kind machine) refl rules
        ready.leaves is none clear h;
    clear = clear;
  }

-- ---- the turn of a masked replay

-- the place that a walk holds
abbrev pub placed : State → List Point → Tape → MaskedPlace
placed machine past tape = record {
  state = machine;
  past = past;
  labels = map_of tape.shades;
  crossed = tape.crossed;
  byte_masks = tape.byte_masks;
  status_mask = tape.status_mask;
}

pub place_is : (masks : Masks) (place : MaskedPlace) (machine : State) (tape : Tape) → HoldsPlace masks place machine tape →
    placed machine place.past tape ≡ place
place_is masks place machine tape h = λ i. record {
  state = sym h.state_is i;
  past = place.past;
  labels = h.labels i;
  crossed = h.crossed i;
  byte_masks = h.byte_masks i;
  status_mask = h.status_mask i;
}

module _ (rules : Rules) (task : Task) (kind : Kind) (machine : State) (past : List Point) (before : Tape)
    (outside : Option Outside) (state : State) (after : Tape) (clear : before.unclear ≡ None) where
  turn_as : Option ℕ → Option Outside → Asker Reached
  turn_as register range =
      turn_from register (entered_number kind)
      (turn_inside range
      (masked rules (cutting_of task kind) (entered_number kind) (knowledge_at (placed machine past before))
      (replay_kind_walk task.enclosures kind machine)))

  held-turn : (reached : Reached) → HoldsReached task.masks reached state after → outside ≡ None →
      HoldsTurn task.masks reached outside state after
  held-turn (Goes place) h none = (h, none)
  held-turn (Meets why) h none = (h, none)
  held-turn (Halts range) h none = absurd h

  makes-by : (register : Option ℕ) (range : Option Outside) → AreRulesOf before.ruling rules →
      MakesBy register range task.enclosures kind (entered_number kind) (skips task.enclosures kind) clean_held machine
      before outside state after →
      HoldsPlace task.masks (placed machine past before) machine before →
      MakesFed task.masks (turn_as register range) before.stream outside state after
  unfolding turn_as
  makes-by (Some register) range answers h at = record {
    reached = Meets (BaseSecret (entered_number kind) register);
    feeds = ap (λ (t : Tape). Fed' (Meets (BaseSecret (entered_number kind) register))
        (drop t.stream.taken after.stream.bits)) (sym h.0);
    held = (ap (λ (t : Tape). t.unclear) h.0, h.2);
  }
  makes-by None (Some range) answers h at = record {
    reached = Halts range;
    feeds = ap (λ (t : Tape). Fed' (Halts range) (drop t.stream.taken after.stream.bits)) (sym h.0);
    held = (ap (λ (t : Tape). t.unclear) h.0 ∙ clear, h.2);
  }
  makes-by None None answers h at =
      let ends = h.0 task.masks past at.ahead in
      let arrives : Arrives task.masks
      (masked rules (cutting_of task kind) (entered_number kind) (knowledge_at (placed machine past before))
      (replay_kind_walk task.enclosures kind machine)) before.stream state after =
      subst (λ u. TellsWalk u task.masks
      (masked rules (cutting_of task kind) (entered_number kind) (knowledge_at (placed machine past before))
      (replay_kind_walk task.enclosures kind machine)) before state after) clear (ends.tells rules answers) in record {
        reached = arrives.reached;
        feeds = arrives.feeds;
        held = held-turn arrives.reached arrives.held h.1;
      }

pub turn_makes : (rules : Rules) (task : Task) (place : MaskedPlace) (machine : State) (before : Tape)
    (outside : Option Outside) (state : State) (after : Tape) (enclosures : Enclosures) (kind : Kind) (region : ℕ)
    (skipped : Bool) (held : Held) → AreRulesOf before.ruling rules → task.enclosures ≡ enclosures →
    HoldsPlace task.masks place machine before → kind ≡ kind_of enclosures.regions machine.control →
    region ≡ entered_number kind → skipped ≡ skips enclosures kind → held ≡ clean_held →
    MakesKind enclosures kind region skipped held machine before outside state after →
    MakesFed task.masks (masked_turn rules task place) before.stream outside state after
unfolding turn_as
turn_makes rules task place machine before outside state after enclosures kind region skipped held answers same at is
    region_is skipped_is held_is made =
    let regular : MakesKind task.enclosures kind (entered_number kind) (skips task.enclosures kind) clean_held machine before
    outside state after =
    subst (λ e. MakesKind e kind (entered_number kind) (skips e kind) clean_held machine before outside state after)
    (sym same)
    (subst (λ h. MakesKind enclosures kind (entered_number kind) (skips enclosures kind) h machine before outside state
    after) held_is
    (subst (λ s. MakesKind enclosures kind (entered_number kind) s held machine before outside state after) skipped_is
    (subst (λ r. MakesKind enclosures kind r skipped held machine before outside state after) region_is made))) in
    let here : HoldsPlace task.masks (placed machine place.past before) machine before = record {
      state_is = refl;
      labels = refl;
      ahead = at.ahead;
      crossed = refl;
      byte_masks = refl;
      status_mask = refl;
      clear = at.clear;
    } in
    subst (λ p. MakesFed task.masks (masked_turn rules task p) before.stream outside state after)
    (place_is task.masks place machine before at)
    (subst (λ k. MakesFed task.masks (kind_turn rules task k (placed machine place.past before)) before.stream outside state
    after) (is ∙ ap (λ (e : Enclosures). kind_of e.regions machine.control) (sym same))
    (makes-by rules task kind machine place.past before outside state after at.clear
    (secret_base_of kind (map_of before.shades)) (kind_outside_range kind machine) answers regular here))
