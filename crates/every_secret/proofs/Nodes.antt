-- One node of a turn that is walked.
use Rattle.std.proofs.Common.{◌≡◌, ℕ, List, ◌∷◌, Option, Some, None, refl, sym, ap, ◌∙◌, subst, drop}
use Rattle.flow_base.specs.declared.lists.NoMemory.{NoMemory}
use Rattle.flow_base.specs.declared.points.Point.{Point}
use Rattle.flow_base.specs.Words.{patched}
use Rattle.crossing_bits.specs.Askers.{Asker, feed, Fed'}
use Rattle.crossing_bits.specs.Strings.{Stream}
use Rattle.rv32im_machine.specs.declared.language.Passing.{Passing}
use Rattle.rv32im_machine.specs.declared.language.Place.{Place}
use Rattle.rv32im_machine.specs.declared.language.Seen.{Seen}
use Rattle.rv32im_machine.specs.declared.language.Shape.{Shape}
use Rattle.rv32im_machine.specs.declared.language.Source.{Source}
use Rattle.rv32im_machine.specs.Language.{Walk, Looked, Passed, Moved, Saved, Restored}
use Rattle.rv32im_machine.specs.Playing.{Played, Finished, Halted}
use Rattle.rv32im_machine.specs.State.{State}
use Rattle.replay_machine.specs.Runs.{Masks}
use Rattle.shadow_masks.specs.Shades.{Shades}
use Rattle.run_labels.specs.TurnLabels.{TurnLabels, put_label, save_labels, restore_labels}
use Rattle.masked_turns.specs.Clearing.{Cutting}
use Rattle.masked_turns.specs.Deciding.{left_at}
use Rattle.masked_turns.specs.Looking.{look_at}
use Rattle.every_secret.specs.declared.whys.UnclearWhy.{UnclearWhy}
use Rattle.every_secret.specs.Masked.{Meets, Reached, label_moved, masked, unclear_by_left, unclear_by_look, unless_met}
use Rattle.every_secret.specs.Rules.{Rules}
use Rattle.every_secret.specs.Shown.{asked_for, shown_at}
use Rattle.every_secret.specs.Private.Tapes.{AreRulesOf, Arrives, EndsAt, EndsMasked, Lengthens, PlaysMasked, Rests, Tape, TellsWalk}
use Rattle.every_secret.specs.Private.Tapes.{knowledge_of}
use Rattle.every_secret.specs.Private.Visited.{IsVisited}
use Rattle.every_secret.specs.Visits.{Knowledge, differing_at, known_after, left_of_mask}
use Rattle.every_secret.proofs.Strings.{feeds_taken, lengthens_more}

-- ---- nothing more is told once something is met

pub resting : (why : UnclearWhy) (masks : Masks) (first second : Asker Reached) (before : Tape) (state : State)
    (after : Tape) (unclear : Option UnclearWhy) → unclear ≡ Some why →
    TellsWalk unclear masks first before state after → TellsWalk unclear masks second before state after
resting why masks first second before state after None e h = absurd (cc)
resting why masks first second before state after (Some other) e h = h

-- where something is met already, a node is passed over
module _ (cutting : Cutting) (region : ℕ) (known later : Knowledge) (tape : Tape) (why : UnclearWhy)
    (met : tape.unclear ≡ Some why) where
  over : (walk whole : Walk) (state : State) (after : Tape) → (EndsAt walk state → EndsAt whole state) →
      EndsMasked cutting region later tape walk state after → EndsMasked cutting region known tape whole state after
  over walk whole state after ends h = record {
    ends = ends h.ends;
    ruling = h.ruling;
    longer = h.longer;
    tells = λ rules answers. resting why cutting.masks (masked rules cutting region later walk)
        (masked rules cutting region known whole) tape state after tape.unclear met (h.tells rules answers);
  }

  pub over-looked : (seen : Seen) (value : ℕ) (walk : Walk) (out : Played NoMemory Tape) →
      PlaysMasked cutting region later tape walk out → PlaysMasked cutting region known tape (Looked seen value walk) out
  unfolding EndsAt
  over-looked seen value walk (Finished state after) h = over walk (Looked seen value walk) state after (λ e. e) h
  over-looked seen value walk (Halted stop) h = tt

  pub over_passed : (passing : Passing) (value : ℕ) (go : ℕ → Walk) (out : Played NoMemory Tape) →
      PlaysMasked cutting region later tape (go value) out → PlaysMasked cutting region known tape (Passed passing go) out
  unfolding EndsAt
  over_passed passing value go (Finished state after) h =
      over (go value) (Passed passing go) state after (λ e. (value, e)) h
  over_passed passing value go (Halted stop) h = tt

-- ---- the nodes

-- what is fed to an asker that is over at once stays
met_arrives : (masks : Masks) (why : UnclearWhy) (asker : Asker Reached) (before : Stream) (mid : Tape) (state : State)
    (after : Tape) →
    feed asker (drop before.taken after.stream.bits) ≡ Fed' (Meets why) (drop mid.stream.taken after.stream.bits) →
    Rests why mid after → Arrives masks asker before state after
met_arrives masks why asker before mid state after feeds rests = record {
  reached = Meets why;
  feeds = feeds ∙ ap (λ (s : Stream). Fed' (Meets why) (drop s.taken after.stream.bits)) (sym rests.stream);
  held = rests.unclear;
}

module _ (cutting : Cutting) (region : ℕ) (past : List Point) (old : TurnLabels) (before : Tape)
    (clear : before.unclear ≡ None) where
  abbrev known : Knowledge
  known = knowledge_of past old before

  from-clear : (asker : Asker Reached) (state : State) (after : Tape) →
      Arrives cutting.masks asker before.stream state after →
      TellsWalk before.unclear cutting.masks asker before state after
  from-clear asker state after h =
      subst (λ u. TellsWalk u cutting.masks asker before state after) (sym clear) h

  to-clear : (asker : Asker Reached) (state : State) (after : Tape) →
      TellsWalk before.unclear cutting.masks asker before state after →
      Arrives cutting.masks asker before.stream state after
  to-clear asker state after h = subst (λ u. TellsWalk u cutting.masks asker before state after) clear h

  -- ---- a look

  looked-arrives : (rules : Rules) (seen : Seen) (value : ℕ) (walk : Walk) (state : State) (after : Tape)
      (look : Option UnclearWhy) → look ≡ unclear_by_look (look_at region old seen) →
      TellsWalk look cutting.masks (masked rules cutting region known walk) (record before { unclear = look }) state
      after →
      Arrives cutting.masks (masked rules cutting region known (Looked seen value walk)) before.stream state after
  unfolding masked
  looked-arrives rules seen value walk state after None is h = record {
    reached = h.reached;
    feeds = ap (λ w. feed (unless_met w (masked rules cutting region known walk))
        (drop before.stream.taken after.stream.bits)) (sym is) ∙ h.feeds;
    held = h.held;
  }
  looked-arrives rules seen value walk state after (Some why) is h =
      met_arrives cutting.masks why (masked rules cutting region known (Looked seen value walk)) before.stream
      (record before { unclear = Some why }) state after
      (ap (λ w. feed (unless_met w (masked rules cutting region known walk))
      (drop before.stream.taken after.stream.bits)) (sym is))
      h

  pub masks-looked : (look : Option UnclearWhy) (seen : Seen) (value : ℕ) (walk : Walk) (out : Played NoMemory Tape) →
      look ≡ unclear_by_look (look_at region old seen) →
      PlaysMasked cutting region known (record before { unclear = look }) walk out →
      PlaysMasked cutting region known before (Looked seen value walk) out
  unfolding EndsAt
  masks-looked look seen value walk (Finished state after) is h = record {
    ends = h.ends;
    ruling = h.ruling;
    longer = h.longer;
    tells = λ rules answers. from-clear (masked rules cutting region known (Looked seen value walk)) state after
        (looked-arrives rules seen value walk state after look is (h.tells rules answers));
  }
  masks-looked look seen value walk (Halted stop) is h = tt

  -- ---- a visit

  visited-arrives : (rules : Rules) (passing : Passing) (go : ℕ → Walk) (value : ℕ) (new : TurnLabels) (mid : Tape)
      (state : State) (after : Tape) (met : Option UnclearWhy) → mid.unclear ≡ met →
      IsVisited rules cutting past old before passing value new mid → Lengthens mid.stream after.stream →
      TellsWalk met cutting.masks
      (masked rules cutting region (knowledge_of (passing.point ∷ past) new mid) (go value)) mid state after →
      Arrives cutting.masks (masked rules cutting region known (Passed passing go)) before.stream state after
  unfolding masked
  visited-arrives rules passing go value new mid state after met e visited longer h = by_met met e h
    where
      goes : (w : Option UnclearWhy) → mid.unclear ≡ w →
          feed (masked rules cutting region known (Passed passing go)) (drop before.stream.taken after.stream.bits)
          ≡ feed (unless_met w (masked rules cutting region (knowledge_of (passing.point ∷ past) new mid) (go value)))
          (drop mid.stream.taken after.stream.bits)
      goes w is =
          let differing = differing_at rules cutting known passing in
          let decides = unclear_by_left (left_at passing.aim passing.point (left_of_mask rules cutting known passing)) in
          let then_known = known_after rules cutting known passing in
          let left = drop mid.stream.taken after.stream.bits in
          feeds_taken (asked_for (shown_at passing.point.slot) differing)
          (λ bits. unless_met decides (masked rules cutting region then_known (go (patched passing.value differing bits))))
          before.stream mid.stream after.stream visited.takes longer
          ∙ (ap (λ v. feed (unless_met decides (masked rules cutting region then_known (go v))) left)
          (sym visited.value_is)
          ∙ (ap (λ k. feed (unless_met decides (masked rules cutting region k (go value))) left) (sym visited.known)
          ∙ ap (λ u. feed (unless_met u (masked rules cutting region (knowledge_of (passing.point ∷ past) new mid)
          (go value))) left) (sym visited.unclear ∙ is)))

      by_met : (w : Option UnclearWhy) → mid.unclear ≡ w →
          TellsWalk w cutting.masks
          (masked rules cutting region (knowledge_of (passing.point ∷ past) new mid) (go value)) mid state after →
          Arrives cutting.masks (masked rules cutting region known (Passed passing go)) before.stream state after
      by_met None is told = record { reached = told.reached; feeds = goes None is ∙ told.feeds; held = told.held }
      by_met (Some why) is told =
          met_arrives cutting.masks why (masked rules cutting region known (Passed passing go)) before.stream mid state
          after (goes (Some why) is) told

  pub masks-passed : (passing : Passing) (go : ℕ → Walk) (value : ℕ) (new : TurnLabels) (mid : Tape)
      (out : Played NoMemory Tape) → mid.ruling ≡ before.ruling → Lengthens before.stream mid.stream →
      ((rules : Rules) → AreRulesOf before.ruling rules → IsVisited rules cutting past old before passing value new mid) →
      PlaysMasked cutting region (knowledge_of (passing.point ∷ past) new mid) mid (go value) out →
      PlaysMasked cutting region known before (Passed passing go) out
  unfolding EndsAt
  masks-passed passing go value new mid (Finished state after) ruling longer visited h = record {
    ends = (value, h.ends);
    ruling = h.ruling ∙ ruling;
    longer = lengthens_more before.stream mid.stream after.stream longer h.longer;
    tells = λ rules answers. from-clear (masked rules cutting region known (Passed passing go)) state after
        (visited-arrives rules passing go value new mid state after mid.unclear refl (visited rules answers) h.longer
        (h.tells rules (subst (λ t. AreRulesOf t rules) (sym ruling) answers)));
  }
  masks-passed passing go value new mid (Halted stop) ruling longer visited h = tt

-- ---- what passes no slot

module _ (cutting : Cutting) (region : ℕ) (past : List Point) (old : TurnLabels) (before : Tape) where
  pub masks-moved : (new : TurnLabels) (shades : Shades) (place : Place) (shape : Shape) (source : Source) (value : ℕ)
      (walk : Walk) (out : Played NoMemory Tape) →
      ((rules : Rules) → AreRulesOf before.ruling rules →
      new ≡ put_label place (label_moved rules.public cutting.skipped old place shape source) old) →
      PlaysMasked cutting region (knowledge_of past new before) (record before { shades = shades }) walk out →
      PlaysMasked cutting region (knowledge_of past old before) before (Moved place shape source value walk) out
  unfolding EndsAt masked
  masks-moved new shades place shape source value walk (Finished state after) e h = record {
    ends = h.ends;
    ruling = h.ruling;
    longer = h.longer;
    tells = λ rules answers.
        subst (λ l. TellsWalk before.unclear cutting.masks (masked rules cutting region (knowledge_of past l before) walk)
        before state after) (e rules answers) (stays before.unclear rules (h.tells rules answers));
  }
    where
      stays : (u : Option UnclearWhy) (rules : Rules) →
          TellsWalk u cutting.masks (masked rules cutting region (knowledge_of past new before) walk)
          (record before { shades = shades }) state after →
          TellsWalk u cutting.masks (masked rules cutting region (knowledge_of past new before) walk) before state after
      stays None rules told = record { reached = told.reached; feeds = told.feeds; held = told.held }
      stays (Some why) rules told = record { unclear = told.unclear; stream = told.stream }
  masks-moved new shades place shape source value walk (Halted stop) e h = tt

  pub masks-saved : (new : TurnLabels) (shades : Shades) (walk : Walk) (out : Played NoMemory Tape) →
      new ≡ save_labels old →
      PlaysMasked cutting region (knowledge_of past new before) (record before { shades = shades }) walk out →
      PlaysMasked cutting region (knowledge_of past old before) before (Saved walk) out
  unfolding EndsAt masked
  masks-saved new shades walk (Finished state after) e h = record {
    ends = h.ends;
    ruling = h.ruling;
    longer = h.longer;
    tells = λ rules answers.
        subst (λ l. TellsWalk before.unclear cutting.masks (masked rules cutting region (knowledge_of past l before) walk)
        before state after) e (stays before.unclear rules (h.tells rules answers));
  }
    where
      stays : (u : Option UnclearWhy) (rules : Rules) →
          TellsWalk u cutting.masks (masked rules cutting region (knowledge_of past new before) walk)
          (record before { shades = shades }) state after →
          TellsWalk u cutting.masks (masked rules cutting region (knowledge_of past new before) walk) before state after
      stays None rules told = record { reached = told.reached; feeds = told.feeds; held = told.held }
      stays (Some why) rules told = record { unclear = told.unclear; stream = told.stream }
  masks-saved new shades walk (Halted stop) e h = tt

  pub masks-restored : (new : TurnLabels) (shades : Shades) (registers : List ℕ) (walk back : Walk)
      (out : Played NoMemory Tape) → new ≡ restore_labels registers old →
      PlaysMasked cutting region (knowledge_of past new before) (record before { shades = shades }) back out →
      PlaysMasked cutting region (knowledge_of past old before) before (Restored registers walk back) out
  unfolding EndsAt masked
  masks-restored new shades registers walk back (Finished state after) e h = record {
    ends = h.ends;
    ruling = h.ruling;
    longer = h.longer;
    tells = λ rules answers.
        subst (λ l. TellsWalk before.unclear cutting.masks (masked rules cutting region (knowledge_of past l before) back)
        before state after) e (stays before.unclear rules (h.tells rules answers));
  }
    where
      stays : (u : Option UnclearWhy) (rules : Rules) →
          TellsWalk u cutting.masks (masked rules cutting region (knowledge_of past new before) back)
          (record before { shades = shades }) state after →
          TellsWalk u cutting.masks (masked rules cutting region (knowledge_of past new before) back) before state after
      stays None rules told = record { reached = told.reached; feeds = told.feeds; held = told.held }
      stays (Some why) rules told = record { unclear = told.unclear; stream = told.stream }
  masks-restored new shades registers walk back (Halted stop) e h = tt
