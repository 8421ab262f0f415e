-- Why a run has no least declaration, by the turn after which it is known.
use Rattle.std.proofs.Common.{◌≡◌, ◌∙◌, ◌≤◌, ℕ, List, Option, Some, None, sym, ap, subst}
use Rattle.rv32im_machine.specs.declared.stepping.Stepped.{Stepped}
use Rattle.rv32im_machine.specs.State.{State}
use Rattle.enclosure_regions.specs.declared.region_parts.Region.{Region}
use Rattle.region_machine.proofs.Stillness.{IsOver}
use Rattle.region_learn.specs.declared.faults.LearnFault.{LearnFault}
use Rattle.region_learn.specs.LearnAnswers.{first_call, no_exit, run_fault}
use Rattle.region_learn.specs.Written.{state_after}
use Rattle.region_learn.proofs.RunEnds.{call_stays, still_first, still_state}
use Rattle.std.specs.Option.{option_or}

pub call_fault : (regions : List Region) (start : State) (fault : LearnFault) (first turns : ℕ) → first ≤ turns →
    first_call regions first start ≡ Some fault →
    run_fault (record { regions = regions; start = start; turns = turns }) ≡ Some fault
call_fault regions start fault first turns le is =
    ap (λ (f : Option LearnFault). option_or f (no_exit turns (state_after regions turns start).control.mode))
    (call_stays regions start fault first turns le is)

pub end_fault : (regions : List Region) (start : State) (mode : Stepped) (first turns : ℕ) → first ≤ turns →
    first_call regions first start ≡ None → (state_after regions first start).control.mode ≡ mode → IsOver mode →
    run_fault (record { regions = regions; start = start; turns = turns }) ≡ no_exit turns mode
end_fault regions start mode first turns le none is over =
    let ended : IsOver (state_after regions first start).control.mode = subst IsOver (sym is) over in
    ap (λ (f : Option LearnFault). option_or f (no_exit turns (state_after regions turns start).control.mode))
    (still_first regions start first turns le ended ∙ none)
    ∙ ap (λ (m : Stepped). no_exit turns m)
    (ap (λ (s : State). s.control.mode) (still_state regions start first turns le ended) ∙ is)

pub limit_fault : (regions : List Region) (start : State) (mode : Stepped) (turns : ℕ) →
    first_call regions turns start ≡ None → (state_after regions turns start).control.mode ≡ mode →
    run_fault (record { regions = regions; start = start; turns = turns }) ≡ no_exit turns mode
limit_fault regions start mode turns none is =
    ap (λ (f : Option LearnFault). option_or f (no_exit turns (state_after regions turns start).control.mode)) none
    ∙ ap (λ (m : Stepped). no_exit turns m) is
