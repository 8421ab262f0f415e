-- One call of a pair of observers: what either may play.
use Rattle.std.proofs.Common.{◌≡◌, ℕ, List, Bool, Result, Ok, Err, sym, subst, ◌∙◌}
use Rattle.rv32im_machine.specs.declared.language.Passing.{Passing}
use Rattle.rv32im_machine.specs.State.{State}
use Rattle.rv32im_machine.specs.Language.{Walk, Passed, Restored, Ended}
use Rattle.rv32im_machine.specs.Folds.{real_end}
use Rattle.rv32im_machine.specs.Playing.{Played, Finished, Halted, Goes, restored_or}
use Rattle.region_machine.specs.declared.pair_stops.PairStop.{PairStop}
use Rattle.region_machine.specs.declared.pair_stops.PairStop.TheVariants.{First, Second}
use Rattle.region_machine.specs.Pairs.{Tapes, Pairs, second_answer}
use Rattle.region_machine.proofs.ObserverAnswers.{same_value, nothing_back}

-- whatever both may play after a call they may play before it
both_go : {Stop Halt Tape Roll : Type 0} (before after : Played Stop Tape → Type 0)
    (early late : Played Halt Roll → Type 0) (out : Played (PairStop Stop Halt) (Tapes Tape Roll)) →
    ((end : Played Stop Tape) → after end → before end) → ((end : Played Halt Roll) → late end → early end) →
    Pairs after late out → Pairs before early out
both_go before after early late (Finished state tapes) goes more h =
    (goes (Finished state tapes.first) h.0, more (Finished state tapes.second) h.1)
both_go before after early late (Halted (First stop)) goes more h = goes (Halted stop) h
both_go before after early late (Halted (Second stop)) goes more h = more (Halted stop) h

-- a call that answers nothing, after the first has answered
pub pairs_done : {Stop Halt Tape Roll : Type 0} (before after : Played Stop Tape → Type 0)
    (early late : Played Halt Roll → Type 0) (r : Result (Unit {0}) Halt) →
    ((end : Played Stop Tape) → after end → before end) → Goes r (λ done. late) early →
    Goes (second_answer Stop r) (λ done. Pairs after late) (Pairs before early)
pairs_done before after early late (Ok done) goes more = λ out h. both_go before after early late out goes more h
pairs_done before after early late (Err stop) goes more = more

-- a value passes, after the first has let it go on
pub pairs_passed : {Stop Halt Tape Roll : Type 0} (before after : Walk → Played Stop Tape → Type 0)
    (early late : Walk → Played Halt Roll → Type 0) (tape : Tape) (roll : Roll) (passing : Passing) (other : ℕ)
    (r : Result ℕ Halt) (go : ℕ → Walk) →
    ((go : ℕ → Walk) (out : Played Stop Tape) → after (go other) out → before (Passed passing go) out) →
    ((go : ℕ → Walk) → Goes r (λ value. late (go value)) (early (Passed passing go))) →
    ((state : State) → after (Ended state) (Finished state tape)) →
    ((walk : Walk) (state : State) (tape : Tape) → before walk (Finished state tape) → state ≡ real_end walk) →
    ((state : State) → late (Ended state) (Finished state roll)) →
    ((walk : Walk) (state : State) (roll : Roll) → early walk (Finished state roll) → state ≡ real_end walk) →
    Goes (second_answer Stop r) (λ value. Pairs (after (go value)) (late (go value)))
    (Pairs (before (Passed passing go)) (early (Passed passing go)))
pairs_passed before after early late tape roll passing other (Ok value) go goes more ends real last same =
    let one : other ≡ value =
    same_value before after tape passing other goes ends real
    ∙ sym (same_value early late roll passing value more last same) in λ out h.
    both_go (before (Passed passing go)) (after (go other)) (early (Passed passing go)) (late (go value)) out (goes go)
    (more go) (subst (λ v. Pairs (after (go v)) (late (go value)) out) (sym one) h)
pairs_passed before after early late tape roll passing other (Err stop) go goes more ends real last same = more go

-- registers stay, after the first has left them
pub pairs_restored : {Stop Halt Tape Roll : Type 0} (before after : Walk → Played Stop Tape → Type 0)
    (early late : Walk → Played Halt Roll → Type 0) (tape : Tape) (roll : Roll) (registers : List ℕ) (other : Bool)
    (r : Result Bool Halt) (walk back : Walk) →
    ((walk back : Walk) (out : Played Stop Tape) → after (restored_or other walk back) out →
    before (Restored registers walk back) out) →
    ((walk back : Walk) → Goes r (λ value. late (restored_or value walk back)) (early (Restored registers walk back))) →
    ((state : State) → after (Ended state) (Finished state tape)) →
    ((walk : Walk) (state : State) (tape : Tape) → before walk (Finished state tape) → state ≡ real_end walk) →
    ((state : State) → late (Ended state) (Finished state roll)) →
    ((walk : Walk) (state : State) (roll : Roll) → early walk (Finished state roll) → state ≡ real_end walk) →
    Goes (second_answer Stop r)
    (λ value. Pairs (after (restored_or value walk back)) (late (restored_or value walk back)))
    (Pairs (before (Restored registers walk back)) (early (Restored registers walk back)))
pairs_restored before after early late tape roll registers other (Ok value) walk back goes more ends real last same =
    let one : other ≡ value =
    nothing_back before after tape registers other goes ends real
    ∙ sym (nothing_back early late roll registers value more last same) in λ out h.
    both_go (before (Restored registers walk back)) (after (restored_or other walk back))
    (early (Restored registers walk back)) (late (restored_or value walk back)) out (goes walk back) (more walk back)
    (subst (λ v. Pairs (after (restored_or v walk back)) (late (restored_or value walk back)) out) (sym one) h)
pairs_restored before after early late tape roll registers other (Err stop) walk back goes more ends real last same =
    more walk back
