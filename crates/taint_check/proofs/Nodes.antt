-- One node of a walk of which masks are kept.
use Rattle.std.proofs.Common.{◌≡◌, ◌<◌, ℕ, List, ◌∷◌, Option, Some, None, refl, ap, ◌∙◌, subst}
use Rattle.flow_base.specs.declared.lists.NoMemory.{NoMemory}
use Rattle.flow_base.specs.declared.points.Point.{Point}
use Rattle.flow_base.specs.Words.{bits_under}
use Rattle.rv32im_machine.specs.declared.language.Aim.{Aim}
use Rattle.rv32im_machine.specs.declared.language.Passing.{Passing}
use Rattle.rv32im_machine.specs.declared.language.Place.{Place}
use Rattle.rv32im_machine.specs.declared.language.Seen.{Seen}
use Rattle.rv32im_machine.specs.declared.language.Shape.{Shape}
use Rattle.rv32im_machine.specs.declared.language.Source.{Source}
use Rattle.rv32im_machine.specs.declared.language.Sources.{Sources}
use Rattle.rv32im_machine.specs.declared.language.Work.{Work}
use Rattle.rv32im_machine.specs.declared.language.Work.TheVariants.{Shaped, Computed}
use Rattle.rv32im_machine.specs.Folds.{real_end}
use Rattle.rv32im_machine.specs.Language.{Walk, Looked, Passed, Moved, Saved, Restored}
use Rattle.rv32im_machine.specs.Playing.{Played, Finished, Halted}
use Rattle.region_machine.specs.Runs.{passed}
use Rattle.shadow_masks.specs.Shades.{Shades}
use Rattle.run_labels.specs.Answers.{HoldsOfAnswer, IsSoundAnswer, IsTableAnswer}
use Rattle.run_labels.specs.Masks.{masks_of, moved_label}
use Rattle.run_labels.specs.TurnLabels.{TurnLabels, put_label, save_labels, restore_labels}
use Rattle.lockstep_replay.specs.Crossing.{crossing}
use Rattle.lockstep_replay.specs.Tapes.{Tally, Tallies}
use Rattle.lockstep_replay.proofs.TalliesJoin.{tallies_more}
use Rattle.masked_turns.specs.declared.uses.LeftBits.{LeftBits}
use Rattle.masked_turns.specs.declared.uses.SecretLook.{SecretLook}
use Rattle.masked_turns.specs.Answers.{EachCleared}
use Rattle.masked_turns.specs.Clearing.{Cutting, crossing_at, left_mask, labels_left, cleared_in}
use Rattle.masked_turns.specs.Deciding.{first_left, left_at, left_in}
use Rattle.masked_turns.specs.Looking.{first_look, look_at, looked_in}
use Rattle.masked_turns.specs.Notes.{Clears}
use Rattle.taint_check.specs.Private.Tapes.{Tape, PlaysCleared}

look_assoc : (first second third : Option SecretLook) →
    first_look (first_look first second) third ≡ first_look first (first_look second third)
look_assoc None second third = refl
look_assoc (Some look) second third = refl

left_assoc : (first second third : Option LeftBits) →
    first_left (first_left first second) third ≡ first_left first (first_left second third)
left_assoc None second third = refl
left_assoc (Some left) second third = refl

pub clears_looked : (region : ℕ) (cutting : Cutting) (past : List Point) (labels : TurnLabels) (before : Tape)
    (look : Option SecretLook) (seen : Seen) (value : ℕ) (walk : Walk) (out : Played NoMemory Tape) →
    look ≡ first_look before.look (look_at region labels seen) →
    PlaysCleared region cutting past labels (record before { look = look }) walk out →
    PlaysCleared region cutting past labels before (Looked seen value walk) out
unfolding EachCleared real_end cleared_in looked_in left_in passed crossing
clears_looked region cutting past labels before look seen value walk (Finished state after) e h = record {
  answers = h.answers;
  are_answers = record { sound = h.are_answers.sound; by_table = h.are_answers.by_table };
  table = h.table;
  ends = h.ends;
  base = h.base;
  labelled = h.labelled;
  look = h.look ∙ (ap (λ l. first_look l (looked_in region cutting past labels h.answers walk)) e
      ∙ look_assoc before.look (look_at region labels seen) (looked_in region cutting past labels h.answers walk));
  left = h.left;
  ahead = h.ahead;
  tallies = h.tallies;
}
clears_looked region cutting past labels before look seen value walk (Halted stop) e h = tt

pub clears_moved : (region : ℕ) (cutting : Cutting) (past : List Point) (old new : TurnLabels) (before : Tape)
    (shades : Shades) (place : Place) (shape : Shape) (source : Source) (value : ℕ) (walk : Walk)
    (out : Played NoMemory Tape) → shades.base ≡ before.shades.base →
    new ≡ put_label place (moved_label old shape source) old →
    PlaysCleared region cutting past new (record before { shades = shades }) walk out →
    PlaysCleared region cutting past old before (Moved place shape source value walk) out
unfolding EachCleared real_end cleared_in looked_in left_in passed crossing
clears_moved region cutting past old new before shades place shape source value walk (Finished state after) base e k =
    let h = subst (λ l. PlaysCleared region cutting past l (record before { shades = shades }) walk
    (Finished state after)) e k in record {
      answers = h.answers;
      are_answers = record { sound = h.are_answers.sound; by_table = h.are_answers.by_table };
      table = h.table;
      ends = h.ends;
      base = h.base ∙ base;
      labelled = h.labelled;
      look = h.look;
      left = h.left;
      ahead = h.ahead;
      tallies = h.tallies;
    }
clears_moved region cutting past old new before shades place shape source value walk (Halted stop) base e k = tt

pub clears_saved : (region : ℕ) (cutting : Cutting) (past : List Point) (old new : TurnLabels) (before : Tape)
    (shades : Shades) (walk : Walk) (out : Played NoMemory Tape) → shades.base ≡ before.shades.base →
    new ≡ save_labels old → PlaysCleared region cutting past new (record before { shades = shades }) walk out →
    PlaysCleared region cutting past old before (Saved walk) out
unfolding EachCleared real_end cleared_in looked_in left_in passed crossing
clears_saved region cutting past old new before shades walk (Finished state after) base e k =
    let h = subst (λ l. PlaysCleared region cutting past l (record before { shades = shades }) walk
    (Finished state after)) e k in record {
      answers = h.answers;
      are_answers = record { sound = h.are_answers.sound; by_table = h.are_answers.by_table };
      table = h.table;
      ends = h.ends;
      base = h.base ∙ base;
      labelled = h.labelled;
      look = h.look;
      left = h.left;
      ahead = h.ahead;
      tallies = h.tallies;
    }
clears_saved region cutting past old new before shades walk (Halted stop) base e k = tt

pub clears_restored : (region : ℕ) (cutting : Cutting) (past : List Point) (old new : TurnLabels) (before : Tape)
    (shades : Shades) (registers : List ℕ) (walk back : Walk) (out : Played NoMemory Tape) →
    shades.base ≡ before.shades.base → new ≡ restore_labels registers old →
    PlaysCleared region cutting past new (record before { shades = shades }) walk out →
    PlaysCleared region cutting past old before (Restored registers walk back) out
unfolding EachCleared real_end cleared_in looked_in left_in passed crossing
clears_restored region cutting past old new before shades registers walk back (Finished state after) base e k =
    let h = subst (λ l. PlaysCleared region cutting past l (record before { shades = shades }) walk
    (Finished state after)) e k in record {
      answers = h.answers;
      are_answers = record { sound = h.are_answers.sound; by_table = h.are_answers.by_table };
      table = h.table;
      ends = h.ends;
      base = h.base ∙ base;
      labelled = h.labelled;
      look = h.look;
      left = h.left;
      ahead = h.ahead;
      tallies = h.tallies;
    }
clears_restored region cutting past old new before shades registers walk back (Halted stop) base e k = tt

-- what is shaped takes no answer, what is computed takes this one
module _ (region : ℕ) (cutting : Cutting) (past : List Point) (labels : TurnLabels) (before : Tape) (shades : Shades)
    (tally : Tally) (left : Option LeftBits) (answer : ℕ) (point : Point) (aim : Aim) (sources : Sources) (value : ℕ)
    (go : ℕ → Walk) where
  abbrev of_work : Work → Passing
  of_work work = record { point = point; aim = aim; work = work; sources = sources; value = value }

  abbrev crossed : Work → ℕ
  crossed work = crossing_at cutting past (of_work work)

  abbrev decided : Work → Option LeftBits
  decided work = left_at aim point (left_mask cutting.skipped (crossed work) labels answer (of_work work))

  abbrev then_labels : Work → TurnLabels
  then_labels work = labels_left cutting.skipped (crossed work) labels answer (of_work work)

  passed_work : (work : Work) (out : Played NoMemory Tape) → before.tally.budget < 4294967295 →
      shades.base ≡ before.shades.base → HoldsOfAnswer IsSoundAnswer work (masks_of labels sources) answer →
      HoldsOfAnswer (IsTableAnswer before.table) work (masks_of labels sources) answer →
      left ≡ first_left before.left (decided work) →
      Tallies before.tally (bits_under value (crossed work)) tally →
      PlaysCleared region cutting (point ∷ past) (then_labels work)
      (record before { shades = shades; tally = tally; left = left }) (go value) out →
      PlaysCleared region cutting past labels before (Passed (of_work work) go) out
  unfolding EachCleared real_end cleared_in looked_in left_in passed crossing
  passed_work (Shaped shape) (Finished state after) small base sound by_table e tallies h =
      let later = left_in cutting (point ∷ past) (then_labels (Shaped shape)) h.answers (go value) in
      let more = crossing cutting.masks (point ∷ past) (go value) in record {
        answers = h.answers;
        are_answers = record { sound = (tt, h.are_answers.sound); by_table = (tt, h.are_answers.by_table) };
        table = h.table;
        ends = h.ends;
        base = h.base ∙ base;
        labelled = h.labelled;
        look = h.look;
        left = h.left ∙ (ap (λ l. first_left l later) e ∙ left_assoc before.left (decided (Shaped shape)) later);
        ahead = h.ahead;
        tallies = tallies_more before.tally tally after.tally (bits_under value (crossed (Shaped shape))) more small tallies
            h.tallies;
      }
  passed_work (Computed operation first second) (Finished state after) small base sound by_table e tallies h =
      let work = Computed operation first second in
      let later = left_in cutting (point ∷ past) (then_labels work) h.answers (go value) in
      let more = crossing cutting.masks (point ∷ past) (go value) in record {
        answers = answer ∷ h.answers;
        are_answers = record { sound = (sound, h.are_answers.sound); by_table = (by_table, h.are_answers.by_table) };
        table = h.table;
        ends = h.ends;
        base = h.base ∙ base;
        labelled = h.labelled;
        look = h.look;
        left = h.left ∙ (ap (λ l. first_left l later) e ∙ left_assoc before.left (decided work) later);
        ahead = h.ahead;
        tallies = tallies_more before.tally tally after.tally (bits_under value (crossed work)) more small tallies
            h.tallies;
      }
  passed_work work (Halted stop) small base sound by_table e tallies h = tt

pub clears_passed : (region : ℕ) (cutting : Cutting) (past : List Point) (old new : TurnLabels) (before : Tape)
    (shades : Shades) (tally : Tally) (left : Option LeftBits) (mask : ℕ) (passing : Passing) (go : ℕ → Walk)
    (out : Played NoMemory Tape) → before.tally.budget < 4294967295 → shades.base ≡ before.shades.base →
    Clears before.table cutting.skipped (crossing_at cutting past passing) old passing new mask →
    left ≡ first_left before.left (left_at passing.aim passing.point mask) →
    Tallies before.tally (bits_under passing.value (crossing_at cutting past passing)) tally →
    PlaysCleared region cutting (passing.point ∷ past) new
    (record before { shades = shades; tally = tally; left = left }) (go passing.value) out →
    PlaysCleared region cutting past old before (Passed passing go) out
clears_passed region cutting past old new before shades tally left mask passing go out small base note e tallies h =
    passed_work region cutting past old before shades tally left note.answer passing.point passing.aim passing.sources
    passing.value go passing.work out small base note.sound note.by_table
    (e ∙ ap (λ m. first_left before.left (left_at passing.aim passing.point m)) note.mask_is) tallies
    (subst (λ l. PlaysCleared region cutting (passing.point ∷ past) l
    (record before { shades = shades; tally = tally; left = left }) (go passing.value) out) note.labels h)
