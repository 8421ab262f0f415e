-- An observer answers the value that it was handed, and puts nothing back.
use Rattle.std.proofs.Common.{◌≡◌, ℕ, List, [], Bool, true, false, refl, ap, arith}
use Rattle.rv32im_machine.specs.declared.language.Passing.{Passing}
use Rattle.rv32im_machine.specs.declared.stepping.Stepped.TheVariants.{Ran}
use Rattle.rv32im_machine.specs.State.{State}
use Rattle.rv32im_machine.specs.Language.{Walk, Passed, Restored, Ended}
use Rattle.rv32im_machine.specs.Folds.{real_end}
use Rattle.rv32im_machine.specs.Playing.{Played, Finished, restored_or}

abbrev at_pc : ℕ → State
at_pc pc = record {
  setting = record { base = 0; start_break = 0; public_input = []; secret_length = 0; output_limit = 0 };
  secret = [];
  control = record {
    pc = pc;
    public_at = 0;
    secret_at = 0;
    current_break = 0;
    output = [];
    mode = Ran;
    region = 0;
  };
  store = record { registers = []; memory = []; kept = [] };
}

-- it answers the value that it was handed
pub same_value : {Stop Tape : Type 0} (before after : Walk → Played Stop Tape → Type 0) (tape : Tape) (passing : Passing)
    (other : ℕ) →
    ((go : ℕ → Walk) (out : Played Stop Tape) → after (go other) out → before (Passed passing go) out) →
    ((state : State) → after (Ended state) (Finished state tape)) →
    ((walk : Walk) (state : State) (tape : Tape) → before walk (Finished state tape) → state ≡ real_end walk) →
    other ≡ passing.value
unfolding real_end
same_value before after tape passing other goes ends real =
    ap (λ (s : State). s.control.pc) (real (Passed passing (λ v. Ended (at_pc v))) (at_pc other) tape
    (goes (λ v. Ended (at_pc v)) (Finished (at_pc other) tape) (ends (at_pc other))))

one_none : ◌≡◌ {A = ℕ} 1 0 → ⊥
one_none e = omega (arith, e)

-- and puts nothing back
pub nothing_back : {Stop Tape : Type 0} (before after : Walk → Played Stop Tape → Type 0) (tape : Tape) (registers : List ℕ)
    (back : Bool) →
    ((walk replayed : Walk) (out : Played Stop Tape) → after (restored_or back walk replayed) out →
    before (Restored registers walk replayed) out) →
    ((state : State) → after (Ended state) (Finished state tape)) →
    ((walk : Walk) (state : State) (tape : Tape) → before walk (Finished state tape) → state ≡ real_end walk) →
    back ≡ false
unfolding real_end
nothing_back before after tape registers false goes ends real = refl
nothing_back before after tape registers true goes ends real =
    absurd (one_none (ap (λ (s : State). s.control.pc)
    (real (Restored registers (Ended (at_pc 0)) (Ended (at_pc 1))) (at_pc 1) tape
    (goes (Ended (at_pc 0)) (Ended (at_pc 1)) (Finished (at_pc 1) tape) (ends (at_pc 1))))))
