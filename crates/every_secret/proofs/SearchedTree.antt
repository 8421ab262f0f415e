-- A search of a whole tree, walk after walk, and the verdict to which it comes.
use Rattle.std.proofs.Common.{◌≡◌, ◌≤◌, ◌<◌, ◌+◌, ℕ, true, false, length, refl, sym, ap, arith, subst}
use Rattle.std.specs.Prelude.{◌==◌}
use Rattle.std.proofs.lemmas.Bool.Decides.{nat_tests}
use Rattle.lockstep_replay.specs.Tasks.{Limits, Task}
use Rattle.every_secret.specs.declared.searching.Search.{Search}
use Rattle.every_secret.specs.declared.stepping.Step.{Step}
use Rattle.every_secret.specs.declared.stepping.Step.TheVariants.{Answered, Done, Goes, TooMany}
use Rattle.every_secret.specs.declared.verdicts.Bounded.{Bounded}
use Rattle.every_secret.specs.declared.verdicts.BoundVerdict.TheVariants as verdict
use Rattle.every_secret.specs.declared.whys.UnclearWhy.{UnclearWhy}
use Rattle.crossing_bits.specs.Strings.{Stream}
use Rattle.every_secret.specs.Bounds.{TreeAnswer, IsVerdict, Shows}
use Rattle.every_secret.specs.Paths.{Opens}
use Rattle.every_secret.specs.Rules.{Rules}
use Rattle.every_secret.specs.Private.Orders.{earlier}
use Rattle.every_secret.specs.Private.Searching.{CanGoOn, IsDone, IsBasis, IsWalking, KeepsLimit, ShowsDone, StepsSafely, StepsTo}
use Rattle.every_secret.specs.Private.Searching.{Terms, basis_of}
use Rattle.every_secret.specs.Private.Spots.{Basis, tree_in}
use Rattle.every_secret.specs.Private.Tapes.{AreRulesOf, Tape}

-- a walk is to be made with so many turns left, after so many others: by all rules as which the book answers, at least so
-- many paths are before its string
pub record IsAtWalk (terms : Terms) (task : Task) (Holds : Type 0) (limit made left : ℕ) (search : Search) (tape : Tape) :
    Type 0 where
  pub safe : CanGoOn terms search tape
  pub more : made < limit
  pub walks : (rules : Rules) → AreRulesOf terms.ruling rules → Holds →
      IsWalking (basis_of rules task terms.budget terms.turns) left search tape
      × (made ≤ length (earlier (tree_in (basis_of rules task terms.budget terms.turns)) tape.stream.bits))

-- the last walk, or another

not_last : (made limit : ℕ) → made < limit → (made + 1 == limit) ≡ false → made + 1 < limit
not_last made limit within last = grind (arith, nat_tests)

is_last : (made limit : ℕ) → (made + 1 == limit) ≡ true → made + 1 ≡ limit
is_last made limit last = grind (arith, nat_tests)

module _ (terms : Terms) (task : Task) (small : terms.budget < 4294967295)
    (enclosures : task.enclosures ≡ record { regions = terms.regions; skip = terms.skip }) where
  pub is_basis : (rules : Rules) → AreRulesOf terms.ruling rules →
      IsBasis terms (basis_of rules task terms.budget terms.turns)
  is_basis rules answers = record { answers = answers; enclosures = enclosures; limits = refl; small = small }

  module _ (Holds : Type 0) (limit made left : ℕ) (search next : Search) (tape after : Tape)
      (at : IsAtWalk terms task Holds limit made left search tape) where
    abbrev Steps : Step → Type 0
    Steps step = (basis : Basis) → IsBasis terms basis → IsWalking basis left search tape →
        StepsTo basis (length (earlier (tree_in basis) tape.stream.bits)) step next after

    abbrev pub limits : Limits
    limits = record { budget = terms.budget; turns = terms.turns }

    -- what the step tells on a basis of rules
    steps_to : (step made_step : Step) → step ≡ made_step → Steps step → (rules : Rules) → AreRulesOf terms.ruling rules →
        Holds → StepsTo (basis_of rules task terms.budget terms.turns)
        (length (earlier (tree_in (basis_of rules task terms.budget terms.turns)) tape.stream.bits)) made_step next after
    steps_to step made_step is steps rules answers holds =
        let both = at.walks rules answers holds in
        let basis = basis_of rules task terms.budget terms.turns in
        subst (λ s. StepsTo basis (length (earlier (tree_in basis) tape.stream.bits)) s next after) is
        (steps basis (is_basis rules answers) both.0)

    -- it goes on
    pub walk_next : (step : Step) (more : ℕ) → step ≡ Goes more → StepsSafely terms step next after →
        KeepsLimit (made + 1 == limit) step → Steps step → IsAtWalk terms task Holds limit (made + 1) more next after
    walk_next step more is safe keeps steps =
        let last : (made + 1 == limit) ≡ false = subst (λ s. KeepsLimit (made + 1 == limit) s) is keeps in
        let within = at.more in record {
          safe = subst (λ s. StepsSafely terms s next after) is safe;
          more = not_last made limit within last;
          walks = λ rules answers holds.
              let both = at.walks rules answers holds in
              let found = steps_to step (Goes more) is steps rules answers holds in
              let low = both.1 in
              let high = found.1 in
              (found.0, omega (arith, low, high));
        }

    -- no path is left
    pub done_verdict : (step : Step) (bounded : Bounded) → step ≡ Done → Steps step →
        ((basis : Basis) → IsDone basis next → ShowsDone basis bounded) → (rules : Rules) →
        AreRulesOf terms.ruling rules → Holds → IsVerdict rules task limits limit (verdict.Bounded bounded)
    done_verdict step bounded is steps shows rules answers holds =
        let found = shows (basis_of rules task terms.budget terms.turns)
        (steps_to step Done is steps rules answers holds) in
        subst (λ (a : TreeAnswer). Shows (verdict.Bounded bounded) a) (sym found.2) found.1

    -- the path is unclear
    pub unclear_verdict : (step : Step) (path : Stream) (why : UnclearWhy) → step ≡ Answered why → Steps step →
        path ≡ after.stream → (rules : Rules) → AreRulesOf terms.ruling rules → Holds →
        IsVerdict rules task limits limit (verdict.Unclear path why)
    unclear_verdict step path why is steps same rules answers holds =
        subst (λ (a : TreeAnswer). Shows (verdict.Unclear path why) a)
        (sym (steps_to step (Answered why) is steps rules answers holds)) (ap (λ (s : Stream). s.bits) same, refl)

    -- there are too many
    pub many_verdict : (step : Step) (path : Stream) → step ≡ TooMany → KeepsLimit (made + 1 == limit) step → Steps step →
        path ≡ after.stream → (rules : Rules) → AreRulesOf terms.ruling rules → Holds →
        IsVerdict rules task limits limit (verdict.TooMany path limit)
    many_verdict step path is keeps steps same rules answers holds =
        let last : (made + 1 == limit) ≡ true = subst (λ s. KeepsLimit (made + 1 == limit) s) is keeps in
        let now = is_last made limit last in
        let found = steps_to step TooMany is steps rules answers holds in
        let both = at.walks rules answers holds in
        let low = both.1 in
        let high = found.1 in (
          refl,
          record {
            more = omega (arith, now, low, high);
            begins = subst (λ (s : Stream). Opens (tree_in (basis_of rules task terms.budget terms.turns)) s.bits)
                (sym same) found.0;
          },
        )
