-- What the turn of an instruction leaves as it was, whatever its masks: the setting, the secret and what was kept at an
-- entry; and inside a region that it does not break the value of each place that the region does not declare.
use Rattle.std.proofs.Common.{◌≡◌, ℕ, ◌≤◌, List, [], ◌∷◌, length, None, false}
use Rattle.std.proofs.Common.{refl, sym, ap, subst, ◌∙◌, arith}
use Rattle.enclosure_regions.specs.declared.region_parts.Region.{Region}
use Rattle.rv32im_machine.specs.declared.language.Place.{Place}
use Rattle.rv32im_machine.specs.declared.language.Place.TheVariants.{Register, Byte, First, Second}
use Rattle.rv32im_machine.specs.Folds.{real_end}
use Rattle.rv32im_machine.specs.State.{Setting, Store, State}
use Rattle.rv32im_machine.specs.Language.{Turn, Looks, Passes, Decides, Gives, Moves, Saves, Restores, Ends, Walk, Held}
use Rattle.rv32im_machine.specs.Language.{walked, none_held, at_place, put, hold, value_of, values_of, made, work_of}
use Rattle.rv32im_machine.specs.Language.{shaped, seen_value}
use Rattle.flow_base.specs.declared.points.Point.{Point}
use Rattle.region_machine.specs.Breaking.{place_break, walk_break}
use Rattle.shadow_masks.specs.Labels.{clean}
use Rattle.shadow_masks.specs.Writes.{default_map}
use Rattle.run_labels.specs.Masks.{answers_after, moved_label}
use Rattle.run_labels.specs.TurnLabels.{TurnLabels, at_start, put_label}
use Rattle.acceptance_law.specs.Inputs.{AreBytes, IsProperPlace, place_limit, IsProper}
use Rattle.acceptance_law.proofs.WritesKeepRelation.{put_limits, put_registers, put_memory, put_kept, put_label_kept, not_alike}
use Rattle.acceptance_law.proofs.Passings.{slot_word, made_fits}
use Rattle.acceptance_law.proofs.Turns.{seen_word}
use Rattle.acceptance_law.proofs.Unchanged.{EndsProper, declared, first_unbroken, may_write, put_other}
use Rattle.acceptance_law.proofs.Unchanged.{start_limits, move_limit, move_place}
use Rattle.masked_turns.specs.Clearing.{Cutting, cleared_in}
use Rattle.std.specs.Option.{option_or}

pub record StepEnds (setting : Setting) (secret : List ℕ) (number : ℕ) (store : Store) (held : Held) (walk : Walk) :
    Type 0 where
  pub ends : EndsProper setting secret number store.kept (real_end walk)
  pub limits : (place : Place) → at_place setting.base (real_end walk).store none_held place ≤ place_limit place
  pub registers : length (real_end walk).store.registers ≡ length store.registers
  pub memory : length (real_end walk).store.memory ≡ length store.memory
  pub same : (region : Region) (registers : List ℕ) (pc : ℕ) → walk_break region registers pc walk ≡ None →
      (q : Place) → IsProperPlace setting.base q → declared region registers q ≡ false →
      at_place setting.base (real_end walk).store none_held q ≡ at_place setting.base store held q

module _ (setting : Setting) (secret : List ℕ) (bytes : AreBytes secret) (number : ℕ) where
  -- what holds at the end of the rest of the turn holds at the end of the turn, where a place is written first
  put_ends : (p : Place) (value : ℕ) (store : Store) (held : Held) (walk whole : Walk) → IsProperPlace setting.base p →
      real_end whole ≡ real_end walk →
      ((region : Region) (registers : List ℕ) (pc : ℕ) → walk_break region registers pc whole
      ≡ option_or (place_break region registers pc p) (walk_break region registers pc walk)) →
      StepEnds setting secret number (put setting.base p value store) (hold p value held) walk →
      StepEnds setting secret number store held whole
  put_ends p value store held walk whole ip end breaks rest = record {
    ends = subst (λ s. EndsProper setting secret number store.kept s) (sym end)
        (subst (λ kept. EndsProper setting secret number kept (real_end walk)) (put_kept setting.base p value store)
        rest.ends);
    limits = λ q. subst (λ (s : State). at_place setting.base s.store none_held q ≤ place_limit q) (sym end)
        (rest.limits q);
    registers = ap (λ (s : State). length s.store.registers) end ∙ rest.registers
        ∙ put_registers setting.base p value store;
    memory = ap (λ (s : State). length s.store.memory) end ∙ rest.memory ∙ put_memory setting.base p value store;
    same = λ region registers pc none q iq dq.
        let parts = first_unbroken _ _ (sym (breaks region registers pc) ∙ none) in
        let here = put_other setting.base region registers p q clean value (at_start default_map) store held ip iq
        (may_write region registers pc p parts.0) dq in
        ap (λ (s : State). at_place setting.base s.store none_held q) end
        ∙ (rest.same region registers pc parts.1 q iq dq ∙ here.0);
  }

  same_start : (q : Place) (region : Region) (registers : List ℕ) (store : Store) (held : Held) →
      declared region registers q ≡ false →
      at_place setting.base store none_held q ≡ at_place setting.base store held q
  same_start (Register q) region registers store held dq = refl
  same_start (Byte q) region registers store held dq = refl
  same_start First region registers store held dq = absurd (not_alike refl dq)
  same_start Second region registers store held dq = absurd (not_alike refl dq)

  pub step_ends : (turn : Turn) (store : Store) (held : Held) → IsProper setting.base number turn →
      ((place : Place) → at_place setting.base store held place ≤ place_limit place) →
      StepEnds setting secret number store held (walked setting secret turn store held)
  unfolding walked real_end IsProper walk_break
  step_ends (Looks seen go) store held proper limits =
      let rest = step_ends (go (seen_value setting.base store seen)) store held
      (proper.1 _ (seen_word setting.base store held limits seen)) limits in record {
        ends = rest.ends;
        limits = rest.limits;
        registers = rest.registers;
        memory = rest.memory;
        same = λ region registers pc none q iq dq. rest.same region registers pc none q iq dq;
      }
  step_ends (Passes point place making sources turn) store held proper limits =
      let value = made making (values_of setting secret store held sources) in
      let is = proper.0 in
      let fits = made_fits setting secret bytes store held limits point making sources is.named is.fits in
      let width = proper.1.1 in
      let small : value ≤ place_limit place = omega (arith, fits, width) in
      put_ends place value store held
      (walked setting secret turn (put setting.base place value store) (hold place value held))
      (walked setting secret (Passes point place making sources turn) store held) proper.1.0 refl
      (λ region registers pc. refl)
      (step_ends turn (put setting.base place value store) (hold place value held) proper.2
      (λ q. put_limits setting.base place value store held small q (limits q)))
  step_ends (Decides point making sources go) store held proper limits =
      let value = made making (values_of setting secret store held sources) in
      let is = proper.0 in
      let fits = made_fits setting secret bytes store held limits point making sources is.named is.fits in
      let rest = step_ends (go value) store held (proper.1 value (slot_word point.slot value fits)) limits in record {
        ends = rest.ends;
        limits = rest.limits;
        registers = rest.registers;
        memory = rest.memory;
        same = λ region registers pc none q iq dq. rest.same region registers pc (first_unbroken _ _ none).1 q iq dq;
      }
  step_ends (Moves place shape source turn) store held proper limits =
      let value = shaped shape (value_of setting secret store held source ∷ []) in
      put_ends place value store held
      (walked setting secret turn (put setting.base place value store) (hold place value held))
      (walked setting secret (Moves place shape source turn) store held)
      (move_place setting secret bytes number place shape source proper.0) refl (λ region registers pc. refl)
      (step_ends turn (put setting.base place value store) (hold place value held) proper.1
      (λ q. put_limits setting.base place value store held
      (move_limit setting secret bytes number place shape source store held limits proper.0) q (limits q)))
  step_ends (Gives point place turn) store held proper limits = absurd proper
  step_ends (Saves turn) store held proper limits = absurd proper
  step_ends (Restores registers turn) store held proper limits = absurd proper
  step_ends (Ends control) store held proper limits = record {
    ends = record {
      same_setting = refl;
      same_secret = refl;
      same_kept = refl;
      small_break = proper.0;
      same_region = proper.1;
    };
    limits = start_limits setting secret bytes number store held limits;
    registers = refl;
    memory = refl;
    same = λ region registers pc none q iq dq. same_start q region registers store held dq;
  }

  -- the masks that were kept at an entry stay
  pub cleared_kept : (cutting : Cutting) (turn : Turn) (past : List Point) (labels : TurnLabels) (answers : List ℕ)
      (store : Store) (held : Held) → IsProper setting.base number turn →
      ((place : Place) → at_place setting.base store held place ≤ place_limit place) →
      (cleared_in cutting past labels answers (walked setting secret turn store held)).kept ≡ labels.map.kept
  unfolding walked IsProper cleared_in
  cleared_kept cutting (Looks seen go) past labels answers store held proper limits =
      cleared_kept cutting (go (seen_value setting.base store seen)) past labels answers store held
      (proper.1 _ (seen_word setting.base store held limits seen)) limits
  cleared_kept cutting (Passes point place making sources turn) past labels answers store held proper limits =
      let vs = values_of setting secret store held sources in
      let value = made making vs in
      let is = proper.0 in
      let fits = made_fits setting secret bytes store held limits point making sources is.named is.fits in
      let width = proper.1.1 in
      let small : value ≤ place_limit place = omega (arith, fits, width) in
      cleared_kept cutting turn (point ∷ past) _ (answers_after (work_of making vs) answers)
      (put setting.base place value store) (hold place value held) proper.2
      (λ q. put_limits setting.base place value store held small q (limits q))
      ∙ put_label_kept place _ labels
  cleared_kept cutting (Decides point making sources go) past labels answers store held proper limits =
      let vs = values_of setting secret store held sources in
      let value = made making vs in
      let is = proper.0 in
      let fits = made_fits setting secret bytes store held limits point making sources is.named is.fits in
      cleared_kept cutting (go value) (point ∷ past) labels (answers_after (work_of making vs) answers) store held
      (proper.1 value (slot_word point.slot value fits)) limits
  cleared_kept cutting (Moves place shape source turn) past labels answers store held proper limits =
      let value = shaped shape (value_of setting secret store held source ∷ []) in
      cleared_kept cutting turn past (put_label place (moved_label labels shape source) labels) answers
      (put setting.base place value store) (hold place value held) proper.1
      (λ q. put_limits setting.base place value store held
      (move_limit setting secret bytes number place shape source store held limits proper.0) q (limits q))
      ∙ put_label_kept place (moved_label labels shape source) labels
  cleared_kept cutting (Gives point place turn) past labels answers store held proper limits = absurd proper
  cleared_kept cutting (Saves turn) past labels answers store held proper limits = absurd proper
  cleared_kept cutting (Restores registers turn) past labels answers store held proper limits = absurd proper
  cleared_kept cutting (Ends control) past labels answers store held proper limits = refl
