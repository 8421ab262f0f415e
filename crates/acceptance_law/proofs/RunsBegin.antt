-- At its start a run stands beside itself, with no labels.
use Rattle.std.proofs.Common.{◌≡◌, ℕ, ◌-◌, ◌≤◌, false, List, [], Some, None, refl, sym, subst, arith}
use Rattle.enclosure_regions.specs.declared.region_parts.Region.{Region}
use Rattle.rv32im_machine.specs.declared.language.Place.{Place}
use Rattle.rv32im_machine.specs.declared.language.Place.TheVariants.{Register, Byte, First, Second}
use Rattle.rv32im_machine.specs.Language.{none_held, at_place}
use Rattle.rv32im_machine.specs.State.{State}
use Rattle.region_machine.specs.Enclosures.{region_numbered}
use Rattle.shadow_masks.specs.Writes.{default_map}
use Rattle.run_labels.specs.TurnLabels.{at_start, label_at}
use Rattle.acceptance_law.specs.Sides.{NamedSide}
use Rattle.acceptance_law.specs.Inputs.{IsProperGuest, IsProperPlace, place_limit}
use Rattle.acceptance_law.proofs.StepsKeepStanding.{Stands}
use Rattle.acceptance_law.proofs.WritesKeepRelation.{Close, close_refl}
use Rattle.flow_base.specs.Listed.{is_listed}

module _ (side : NamedSide) (skip : List ℕ) (regions : List Region) (state : State) (is : IsProperGuest state)
    (outside : state.control.region ≡ 0) (nowhere : is_listed skip 0 ≡ false) where
  places : (place : Place) → IsProperPlace state.setting.base place →
      Close side (label_at (at_start default_map) place) (at_place state.setting.base state.store none_held place)
      (at_place state.setting.base state.store none_held place)
  places place ip =
      close_refl side (label_at (at_start default_map) place)
      (at_place state.setting.base state.store none_held place)

  limits : (place : Place) → at_place state.setting.base state.store none_held place ≤ place_limit place
  limits (Register r) = let word = is.store.registers r in omega (arith, word)
  limits (Byte a) = let byte = is.store.memory (a - state.setting.base) in omega (arith, byte)
  limits First = omega arith
  limits Second = omega arith

  label_limits : (place : Place) → (label_at (at_start default_map) place).mask ≤ place_limit place
  label_limits (Register r) = omega arith
  label_limits (Byte a) = omega arith
  label_limits First = omega arith
  label_limits Second = omega arith

  pub begins_beside :
      Stands side skip regions state.setting.base state.control default_map state.store state.store [] []
  begins_beside = record {
    beside = record {
      places = places;
      registers = refl;
      memory = refl;
      real_limits = limits;
      copy_limits = limits;
      label_limits = label_limits;
    };
    counts = λ point never. refl;
    runs = subst (λ r. is_listed skip r ≡ false) (sym outside) nowhere;
    nowhere = λ none. outside;
    inside = λ region found.
        let here : None ≡ Some region = subst (λ r. region_numbered regions r ≡ Some region) outside found in
        absurd (cc);
    small_break = is.current_break;
    kept_words = λ r. let word = is.store.kept r in omega (arith, word);
  }
