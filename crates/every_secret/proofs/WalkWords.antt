-- The masks of the patterns in which walks end are words.
use Rattle.std.proofs.Common.{ℕ, zero, suc, ◌≤◌, ◌<◌, ◌^◌, List, [], ◌∷◌, ◌++◌, Bool, true, false, Option, Some, None, arith}
use Rattle.std.specs.Prelude.{nat_lt}
use Rattle.std.proofs.lemmas.Nat.{and_le_r}
use Rattle.flow_base.specs.Words.{patched}
use Rattle.crossing_bits.specs.Askers.{Asker, Over, then_ask}
use Rattle.lockstep_replay.specs.Tasks.{Limits, Task, replay_start}
use Rattle.masked_turns.specs.Clearing.{Cutting, crossing_at, passing_mask}
use Rattle.masked_turns.specs.Deciding.{left_at}
use Rattle.masked_turns.specs.Looking.{look_at}
use Rattle.masked_turns.proofs.OutsideMasks.{AreSmall}
use Rattle.region_machine.specs.Enclosures.{kind_of}
use Rattle.replay_machine.specs.declared.outsides.Outside.{Outside}
use Rattle.replay_machine.specs.ReplayTurns.{kind_outside_range, replay_kind_walk}
use Rattle.run_labels.specs.Runs.{entered_number}
use Rattle.run_labels.specs.TurnLabels.{put_label, save_labels, restore_labels}
use Rattle.rv32im_machine.specs.declared.stepping.Stepped.{Stepped}
use Rattle.rv32im_machine.specs.declared.stepping.Stepped.TheVariants.{Ran, Exited, Stopped}
use Rattle.rv32im_machine.specs.Language.{Walk, Looked, Passed, Moved, Saved, Restored, Ended}
use Rattle.every_secret.specs.declared.path_ends.PathEnd.{PathEnd}
use Rattle.every_secret.specs.declared.shown.Shown.{Shown}
use Rattle.every_secret.specs.declared.shown.Shown.TheVariants.{Nothing, WrittenByte, ExitStatus}
use Rattle.every_secret.specs.declared.whys.UnclearWhy.{UnclearWhy}
use Rattle.every_secret.specs.declared.path_ends.PathEnd.TheVariants.{Exits, Stops, Unclear}
use Rattle.every_secret.specs.declared.stops.PathStop.TheVariants.{RangeOutside}
use Rattle.every_secret.specs.declared.whys.UnclearWhy.TheVariants.{BaseSecret}
use Rattle.every_secret.specs.Masked.{Goes, Halts, MaskedPlace, Meets, Reached, label_moved, masked, unclear_by_left, unclear_by_look, unless_met}
use Rattle.every_secret.specs.Paths.{tree_of}
use Rattle.every_secret.specs.Replays.{MaskedReplay, ended_or, pattern_of, unless_ended, unless_over, masked_start, walked_on}
use Rattle.every_secret.specs.Rules.{Rules}
use Rattle.every_secret.specs.Shown.{asked_for, byte_masks_after, shown_at, status_mask_after}
use Rattle.every_secret.specs.Turns.{cutting_of, knowledge_at, secret_base_of, turn_from, turn_inside}
use Rattle.every_secret.specs.Visits.{Knowledge, answer_at, differing_at, known_after, left_of_mask}
use Rattle.every_secret.proofs.JudgedPaths.{EndsInWords}
use Rattle.every_secret.proofs.PathWeights.{AllEnd, forks_all}
use Rattle.every_secret.proofs.PatternOutputs.{AreWords}

-- ---- what a walk has so far

pub record KeepsWords (byte_masks : List ℕ) (status_mask : ℕ) : Type 0 where
  pub bytes : AreWords byte_masks
  pub status : status_mask < 2 ^ 32

words_more : (masks : List ℕ) (mask : ℕ) → AreWords masks → mask < 2 ^ 32 → AreWords (masks ++ mask ∷ [])
words_more [] mask all one = (one, tt)
words_more (first ∷ masks) mask (here, all) one = (here, words_more masks mask all one)

words_after : (shown : Shown) (free : ℕ) (byte_masks : List ℕ) (status_mask : ℕ) → free < 2 ^ 32 →
    KeepsWords byte_masks status_mask →
    KeepsWords (byte_masks_after shown free byte_masks) (status_mask_after shown free status_mask)
words_after Nothing free byte_masks status_mask small keeps = keeps
words_after WrittenByte free byte_masks status_mask small keeps =
    record { bytes = words_more byte_masks free keeps.bytes small; status = keeps.status }
words_after ExitStatus free byte_masks status_mask small keeps = record { bytes = keeps.bytes; status = small }

-- ---- a turn and what follows it

module _ (rules : Rules) (next : Reached → Asker PathEnd)
    (goes : (place : MaskedPlace) → KeepsWords place.byte_masks place.status_mask →
    AllEnd EndsInWords (tree_of (next (Goes place))))
    (meets : (why : UnclearWhy) → AllEnd EndsInWords (tree_of (next (Meets why))))
    (halts : (outside : Outside) → AllEnd EndsInWords (tree_of (next (Halts outside)))) where
  met_words : (why : Option UnclearWhy) (rest : Asker Reached) →
      AllEnd EndsInWords (tree_of (then_ask rest next)) →
      AllEnd EndsInWords (tree_of (then_ask (unless_met why rest) next))
  met_words None rest all = all
  met_words (Some why) rest all = meets why

  walk_words : (cutting : Cutting) → AreSmall cutting.masks → (region : ℕ) (known : Knowledge) (walk : Walk) →
      KeepsWords known.byte_masks known.status_mask →
      AllEnd EndsInWords (tree_of (then_ask (masked rules cutting region known walk) next))
  unfolding masked tree_of
  walk_words cutting fit region known (Looked seen value walk) keeps =
      met_words (unclear_by_look (look_at region known.labels seen)) (masked rules cutting region known walk)
      (walk_words cutting fit region known walk keeps)
  walk_words cutting fit region known (Passed passing go) keeps =
      let differing = differing_at rules cutting known passing in
      let after = known_after rules cutting known passing in
      let crosses = fit passing.point _ in
      let within : differing ≤ crossing_at cutting known.past passing =
      and_le_r (passing_mask cutting.skipped known.labels (answer_at rules cutting known passing) passing)
      (crossing_at cutting known.past passing) in
      let kept = words_after (shown_at passing.point.slot) differing known.byte_masks known.status_mask
      (fits_within within crosses) keeps in
      forks_all EndsInWords (asked_for (shown_at passing.point.slot) differing) (λ bits. tree_of (then_ask
      (unless_met (unclear_by_left (left_at passing.aim passing.point (left_of_mask rules cutting known passing)))
      (masked rules cutting region after (go (patched passing.value differing bits)))) next))
      (λ bits. met_words (unclear_by_left (left_at passing.aim passing.point (left_of_mask rules cutting known passing)))
      (masked rules cutting region after (go (patched passing.value differing bits)))
      (walk_words cutting fit region after (go (patched passing.value differing bits)) kept))
    where
      fits_within : {a b : ℕ} → a ≤ b → b < 2 ^ 32 → a < 2 ^ 32
      fits_within less small = omega (arith, less, small)
  walk_words cutting fit region known (Moved place shape source value walk) keeps =
      walk_words cutting fit region
      (record known { labels = put_label place (label_moved rules.public cutting.skipped known.labels place shape source) known.labels }) walk keeps
  walk_words cutting fit region known (Saved walk) keeps =
      walk_words cutting fit region (record known { labels = save_labels known.labels }) walk keeps
  walk_words cutting fit region known (Restored registers walk back) keeps =
      walk_words cutting fit region (record known { labels = restore_labels registers known.labels }) back keeps
  walk_words cutting fit region known (Ended state) keeps = goes _ keeps

  inside_words : (outside : Option Outside) (turn : Asker Reached) →
      AllEnd EndsInWords (tree_of (then_ask turn next)) →
      AllEnd EndsInWords (tree_of (then_ask (turn_inside outside turn) next))
  inside_words None turn all = all
  inside_words (Some outside) turn all = halts outside

  from_words : (register : Option ℕ) (region : ℕ) (turn : Asker Reached) →
      AllEnd EndsInWords (tree_of (then_ask turn next)) →
      AllEnd EndsInWords (tree_of (then_ask (turn_from register region turn) next))
  from_words None region turn all = all
  from_words (Some register) region turn all = meets (BaseSecret region register)

-- ---- a walk

exit_words : (status : ℕ) (place : MaskedPlace) → KeepsWords place.byte_masks place.status_mask →
    AllEnd EndsInWords (tree_of (Over (Exits (pattern_of place status))))
unfolding tree_of
exit_words status place keeps = record { bytes = keeps.bytes; status = keeps.status }

over_words : (budget : ℕ) (over : Bool) (place : MaskedPlace) (later : Asker PathEnd) →
    AllEnd EndsInWords (tree_of later) → AllEnd EndsInWords (tree_of (unless_over over budget place later))
unfolding tree_of
over_words budget true place later all = tt
over_words budget false place later all = all

ended_words : (budget : ℕ) (mode : Stepped) (place : MaskedPlace) (later : Asker PathEnd) →
    KeepsWords place.byte_masks place.status_mask → AllEnd EndsInWords (tree_of later) →
    AllEnd EndsInWords (tree_of (unless_ended mode budget place later))
unfolding tree_of
ended_words budget Ran place later keeps all = over_words budget (nat_lt budget place.crossed) place later all
ended_words budget (Exited status) place later keeps all =
    over_words budget (nat_lt budget place.crossed) place (Over (Exits (pattern_of place status)))
    (exit_words status place keeps)
ended_words budget (Stopped fault) place later keeps all = tt

over_end : (e : PathEnd) → EndsInWords e → AllEnd EndsInWords (tree_of (Over e))
unfolding tree_of
over_end e one = one

walked_words : (rules : Rules) (task : Task) (limits : Limits) → AreSmall task.masks → (turns : ℕ)
    (place : MaskedPlace) → KeepsWords place.byte_masks place.status_mask →
    AllEnd EndsInWords (tree_of (walked_on rules task limits turns place))
unfolding walked_on tree_of
walked_words rules task limits fit zero place keeps = tt
walked_words rules task limits fit (suc turns) place keeps =
    let kind = kind_of task.enclosures.regions place.state.control in
    let next : Reached → Asker PathEnd =
    λ reached. ended_or limits.budget reached (λ after. walked_on rules task limits turns after) in
    let goes = λ (after : MaskedPlace) (kept : KeepsWords after.byte_masks after.status_mask).
    ended_words limits.budget after.state.control.mode after (walked_on rules task limits turns after) kept
    (walked_words rules task limits fit turns after kept) in
    let meets = λ (why : UnclearWhy). over_end (Unclear why) (tt {0}) in
    let halts = λ (outside : Outside). over_end (Stops (RangeOutside outside)) (tt {0}) in
    let turn = masked rules (cutting_of task kind) (entered_number kind) (knowledge_at place)
    (replay_kind_walk task.enclosures kind place.state) in
    from_words rules next goes meets halts (secret_base_of kind place.labels) (entered_number kind)
    (turn_inside (kind_outside_range kind place.state) turn)
    (inside_words rules next goes meets halts (kind_outside_range kind place.state) turn
    (walk_words rules next goes meets halts (cutting_of task kind) fit (entered_number kind) (knowledge_at place)
    (replay_kind_walk task.enclosures kind place.state) keeps))

pub replay_words : (rules : Rules) (task : Task) (limits : Limits) → AreSmall task.masks →
    AllEnd EndsInWords (tree_of (MaskedReplay rules task limits))
replay_words rules task limits fit =
    walked_words rules task limits fit limits.turns (masked_start (replay_start task))
    (record { bytes = tt; status = omega arith })
