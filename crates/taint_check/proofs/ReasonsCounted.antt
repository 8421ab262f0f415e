-- What reasons say: that there is none, and that a number of bits may stand as it is counted.
use Rattle.std.proofs.Common.{◌≡◌, ◌<◌, ℕ, Bool, true, false, Option, Some, None, refl, ap, arith}
use Rattle.std.specs.Prelude.{nat_lt}
use Rattle.std.proofs.lemmas.Bool.{ltb-true, ltb-false}
use Rattle.enclosure_regions.specs.declared.break_kinds.Break.{Break}
use Rattle.rv32im_machine.specs.declared.stepping.Stepped.{Stepped}
use Rattle.rv32im_machine.specs.declared.stepping.Stepped.TheVariants.{Ran, Exited, Stopped}
use Rattle.lockstep_replay.specs.Verdicts.{counted_bits}
use Rattle.masked_turns.specs.declared.uses.LeftBits.{LeftBits}
use Rattle.masked_turns.specs.declared.uses.SecretLook.{SecretLook}
use Rattle.masked_turns.specs.declared.uses.SecretLook.TheVariants.{Code, BaseRegister}
use Rattle.taint_check.specs.declared.whys.TaintWhy.TheVariants.{BudgetOverrun}
use Rattle.taint_check.specs.Reasons.{unclear_of, unclear_looked, unclear_broken, unclear_mode, unclear_budget}

-- nothing is found in a turn
pub record IsFine (look : Option SecretLook) (broken : Option Break) (mode : Stepped) (budget needed : ℕ)
    (left : Option LeftBits) : Type 0 where
  pub unlooked : look ≡ None
  pub unbroken : broken ≡ None
  pub within : nat_lt budget needed ≡ false
  pub undecided : left ≡ None

fine_budget : (t : Bool) (budget needed : ℕ) (left : Option LeftBits) → unclear_budget t budget needed left ≡ None →
    (t ≡ false) × (left ≡ None)
fine_budget true budget needed left e = absurd (cc)
fine_budget false budget needed None e = (refl, refl)
fine_budget false budget needed (Some left) e = absurd (cc)

pub fine_of : (look : Option SecretLook) (broken : Option Break) (mode : Stepped) (budget needed : ℕ)
    (left : Option LeftBits) → unclear_of look broken mode budget needed left ≡ None →
    IsFine look broken mode budget needed left
fine_of (Some (Code pc)) broken mode budget needed left e = absurd (cc)
fine_of (Some (BaseRegister region register)) broken mode budget needed left e = absurd (cc)
fine_of None (Some broken) mode budget needed left e = absurd (cc)
fine_of None None (Stopped fault) budget needed left e = absurd (cc)
fine_of None None Ran budget needed left e =
    let b = fine_budget (nat_lt budget needed) budget needed left e in
    record { unlooked = refl; unbroken = refl; within = b.0; undecided = b.1 }
fine_of None None (Exited status) budget needed left e =
    let b = fine_budget (nat_lt budget needed) budget needed left e in
    record { unlooked = refl; unbroken = refl; within = b.0; undecided = b.1 }

budget_counted : (budget total counted : ℕ) (left : Option LeftBits) (t s : Bool) → budget < 4294967295 →
    counted ≡ counted_bits total → nat_lt budget counted ≡ t → nat_lt budget total ≡ s →
    unclear_budget t budget counted left ≡ unclear_budget s budget total left
budget_counted budget total counted left true true small c p q =
    let same : counted_bits counted ≡ counted_bits total = omega (arith, c) in
    ap (λ n. Some (BudgetOverrun budget n)) same
budget_counted budget total counted left false false small c p q = refl
budget_counted budget total counted left true false small c p q =
    let more = ltb-true budget counted p in let less = ltb-false budget total q in
    absurd (omega (arith, c, more, less))
budget_counted budget total counted left false true small c p q =
    let less = ltb-false budget counted p in let more = ltb-true budget total q in
    absurd (omega (arith, c, more, less, small))

mode_counted : (mode : Stepped) (budget total counted : ℕ) (left : Option LeftBits) → budget < 4294967295 →
    counted ≡ counted_bits total → unclear_mode mode budget counted left ≡ unclear_mode mode budget total left
mode_counted Ran budget total counted left small c =
    budget_counted budget total counted left (nat_lt budget counted) (nat_lt budget total) small c refl refl
mode_counted (Exited status) budget total counted left small c =
    budget_counted budget total counted left (nat_lt budget counted) (nat_lt budget total) small c refl refl
mode_counted (Stopped fault) budget total counted left small c = refl

pub why_counted : (look : Option SecretLook) (broken : Option Break) (mode : Stepped) (budget total counted : ℕ)
    (left : Option LeftBits) → budget < 4294967295 → counted ≡ counted_bits total →
    unclear_of look broken mode budget counted left ≡ unclear_of look broken mode budget total left
why_counted look broken mode budget total counted left small c =
    ap (λ w. unclear_looked look (unclear_broken broken w)) (mode_counted mode budget total counted left small c)
