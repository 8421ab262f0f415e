-- A declaration that lacks a register is broken by the write of it.
use Rattle.std.proofs.Common.{◌≡◌, ◌∙◌, ◌==◌, ◌||◌, ◌⊎◌, not, ℕ, Bool, true, false, List, [], ◌∷◌, None, map}
use Rattle.std.proofs.Common.{refl, sym, ap, subst, arith, inl, inr}
use Rattle.std.specs.List.{AllByRecursion, filter, find}
use Rattle.std.proofs.lemmas.Bool.{and_parts, cases_Bool, cond-false, cond-true, eqb-true, eqb-false, eq-eqb, or_cases, or_from, or_left, or_right}
use Rattle.std.proofs.lemmas.Grind.{common_steps}
use Rattle.rv32im_machine.specs.State.{State}
use Rattle.enclosure_regions.specs.declared.break_kinds.Place.{Place}
use Rattle.enclosure_regions.specs.declared.break_kinds.Place.TheVariants.{Reg, Byte}
use Rattle.enclosure_regions.specs.declared.region_parts.Region.{Region}
use Rattle.enclosure_regions.specs.Orders.{all_registers}
use Rattle.region_learn.specs.LearnAnswers.{Grants, first_call, no_exit}
use Rattle.region_learn.specs.Learnt.{is_kept, is_out}
use Rattle.region_learn.specs.Minimal.{IsUndeclared, NoRegisterCanGo, RunsBroken, changed_at, without, without_register}
use Rattle.region_learn.specs.Unbroken.{IsTight}
use Rattle.region_learn.specs.Written.{Changed, Run, Written, bare, state_after}
use Rattle.region_learn.proofs.RegionRules.{stands_picked}
use Rattle.region_learn.proofs.UnbrokenRuns.{IsKnown, both_known, declares, fault_none}
use Rattle.region_learn.proofs.UnbrokenRuns.{pick_stands}
use Rattle.enclosure_regions.specs.Breaks.{declares_register}
use Rattle.region_learn.proofs.WeakerRuns.{DeclaresBut, LosesTo}
use Rattle.region_learn.proofs.WeakerRegions.{HasStronger, IsWeaker, weaker_breaks}
use Rattle.flow_base.specs.Listed.{is_listed}

-- ---- a register left out

no_more : (test pick : ℕ → Bool) (xs : List ℕ) → find test xs ≡ None → find test (filter pick xs) ≡ None
no_more test pick [] h = refl
no_more test pick (x ∷ xs) h = grind (arith, common_steps, no_more test pick xs)

pub stands_among : (pick : ℕ → Bool) (r : ℕ) (xs : List ℕ) → is_listed (filter pick xs) r ≡ true → is_listed xs r ≡ true
stands_among pick r [] h = h
stands_among pick r (x ∷ xs) h = grind (arith, common_steps, stands_among pick r xs)

pub true_false : ◌≡◌ {A = Bool} true false → ⊥
true_false e = cc

not_same : (register : ℕ) → not (register == register) ≡ false
not_same register = ap not (eq-eqb register register refl)

gone : (register : ℕ) (xs : List ℕ) → is_listed (without register xs) register ≡ false
gone register xs = elim (cases_Bool (is_listed (without register xs) register)) [
  | inl stands ↦
      let kept : not (register == register) ≡ true =
      stands_picked (λ other. not (other == register)) register xs stands in
      absurd (true_false (sym kept ∙ not_same register))
  | inr none ↦ none
]

pub stays : (register other : ℕ) (xs : List ℕ) → (other == register) ≡ false → is_listed xs other ≡ true →
    is_listed (without register xs) other ≡ true
stays register other xs differs h = pick_stands (λ q. not (q == register)) other xs (ap not differs) h

register_others : (register other : ℕ) (region : Region) → declares_register region other ≡ true →
    (declares_register (without_register register region) other ≡ true) ⊎ (other ≡ register)
register_others register other region h = elim (cases_Bool (other == register)) [
  | inl same ↦ inr (eqb-true other register same)
  | inr differs ↦ inl
      (elim (or_cases (other == 0) (is_listed region.outs other || is_listed region.keep other) h) [
        | inl none ↦
            or_left (other == 0)
            (is_listed (without register region.outs) other || is_listed (without register region.keep) other) none
        | inr some ↦
            or_right (other == 0)
            (is_listed (without register region.outs) other || is_listed (without register region.keep) other)
            (elim (or_cases (is_listed region.outs other) (is_listed region.keep other) some) [
              | inl out ↦
                  or_left (is_listed (without register region.outs) other)
                  (is_listed (without register region.keep) other) (stays register other region.outs differs out)
              | inr kept ↦
                  or_right (is_listed (without register region.outs) other)
                  (is_listed (without register region.keep) other) (stays register other region.keep differs kept)
            ])
      ])
]

others_left : (number register : ℕ) (region : Region) (kept : List ℕ) (other : Place) → region.id ≡ number →
    declares region kept other ≡ true → DeclaresBut number (λ q. q ≡ Reg register) (without_register register region) kept other
others_left number register region kept (Reg other) same h =
    elim (register_others register other region h) [
      | inl declared ↦ inl declared
      | inr is ↦ inr (same, ap Reg is)
    ]
others_left number register region kept (Byte address) same h = inl h

register_gone : (register : ℕ) (region : Region) → (register == 0) ≡ false →
    declares_register (without_register register region) register ≡ false
register_gone register region some =
    or_from (register == 0) _ some
    (or_from (is_listed (without register region.outs) register) (is_listed (without register region.keep) register)
    (gone register region.outs) (gone register region.keep))

weaker_register : (run : Run) (number register : ℕ) (region : Region) → IsKnown run region → region.id ≡ number →
    (register == 0) ≡ false → IsWeaker run number (λ q. q ≡ Reg register) (Reg register) region (without_register register region)
weaker_register run number register region known same some = record {
  edges = refl;
  known = known;
  keep = λ test none. no_more test (λ other. not (other == register)) region.keep none;
  inside = known.tight.inside;
  others = λ kept other h. others_left number register region kept other same h;
  lacks = λ is kept. register_gone register region some;
}

pub as_it_is : (run : Run) (number : ℕ) (lost : Place → Type 0) (place : Place) (region : Region) → IsKnown run region → (region.id ≡ number → ⊥) →
    IsWeaker run number lost place region region
as_it_is run number lost place region known other = record {
  edges = refl;
  known = known;
  keep = λ test none. none;
  inside = known.tight.inside;
  others = λ kept q h. inl h;
  lacks = λ is kept. absurd (other is);
}

changed_has : (run : Run) (number register : ℕ) (regions : List Region) → AllByRecursion (IsKnown run) regions →
    (register == 0) ≡ false →
    AllByRecursion (HasStronger run number (λ q. q ≡ Reg register) (Reg register)) (changed_at number (without_register register) regions)
changed_has run number register [] known some = tt
changed_has run number register (region ∷ regions) known some = (
  elim (cases_Bool (region.id == number)) [
    | inl same ↦
        subst (HasStronger run number (λ q. q ≡ Reg register) (Reg register))
        (sym (cond-true (region.id == number) (without_register register region) region same))
        (region, weaker_register run number register region known.0 (eqb-true region.id number same) some)
    | inr differs ↦
        subst (HasStronger run number (λ q. q ≡ Reg register) (Reg register))
        (sym (cond-false (region.id == number) (without_register register region) region differs))
        (region, as_it_is run number (λ q. q ≡ Reg register) (Reg register) region known.0 (eqb-false region.id number differs))
  ],
  changed_has run number register regions known.1 some,
)

changed_bare : (number register : ℕ) (regions : List Region) →
    map bare (changed_at number (without_register register) regions) ≡ map bare regions
changed_bare number register [] = refl
changed_bare number register (region ∷ regions) =
    ap (λ (r : Region). r ∷ map bare (changed_at number (without_register register) regions))
    (elim (cases_Bool (region.id == number)) [
      | inl same ↦ ap bare (cond-true (region.id == number) (without_register register region) region same)
      | inr differs ↦ ap bare (cond-false (region.id == number) (without_register register region) region differs)
    ])
    ∙ ap (λ (l : List Region). bare region ∷ l) (changed_bare number register regions)

no_zero : is_listed all_registers 0 ≡ false
unfolding all_registers
no_zero = refl

some_register : (register : ℕ) → is_listed all_registers register ≡ true → (register == 0) ≡ false
some_register register h = elim (cases_Bool (register == 0)) [
  | inl none ↦
      absurd (true_false (sym h ∙ (ap (is_listed all_registers) (eqb-true register 0 none) ∙ no_zero)))
  | inr some ↦ some
]

-- a declared register is not x0, and is written
declared_written : (run : Run) (region : Region) (register : ℕ) → IsKnown run region →
    (is_listed region.outs register || is_listed region.keep register) ≡ true →
    ((register == 0) ≡ false) × (Written run region.id (Reg register) ≡ true)
declared_written run region register known h =
    elim (or_cases (is_listed region.outs register) (is_listed region.keep register) h) [
      | inl out ↦
          let stands : is_listed (filter (is_out run region.id) all_registers) register ≡ true =
          sym (ap (λ (l : List ℕ). is_listed l register) known.learnt.outs) ∙ out in (
            some_register register (stands_among (is_out run region.id) register all_registers stands),
            (and_parts (Written run region.id (Reg register)) (Changed run region.id register)
                (stands_picked (is_out run region.id) register all_registers stands)).0,
          )
      | inr kept ↦
          let stands : is_listed (filter (is_kept run region.id) all_registers) register ≡ true =
          sym (ap (λ (l : List ℕ). is_listed l register) known.learnt.keep) ∙ kept in (
            some_register register (stands_among (is_kept run region.id) register all_registers stands),
            (and_parts (Written run region.id (Reg register)) (not (Changed run region.id register))
                (stands_picked (is_kept run region.id) register all_registers stands)).0,
          )
    ]

one_lost : (number : ℕ) (place : Place) (regions : List Region) (turns : ℕ) (start : State) →
    RunsBroken (LosesTo number (λ q. q ≡ place)) regions turns start →
    RunsBroken (IsUndeclared number place) regions turns start
one_lost number place regions turns start h = λ skip.
    let broken = h skip in
    (broken.0, broken.1, subst (λ (q : Place). IsUndeclared number q broken.0) broken.2.1 broken.2.2)

each_register : (run : Run) (regions some : List Region) → first_call run.regions run.turns run.start ≡ None →
    map bare regions ≡ run.regions → AllByRecursion (IsKnown run) regions → AllByRecursion (IsKnown run) some →
    AllByRecursion (λ region. (register : ℕ) →
    (is_listed region.outs register || is_listed region.keep register) ≡ true →
    RunsBroken (IsUndeclared region.id (Reg register)) (changed_at region.id (without_register register) regions)
    run.turns run.start) some
each_register run regions [] none same known h = tt
each_register run regions (region ∷ some) none same known h = (
  λ register declared.
      let facts = declared_written run region register h.0 declared in
      one_lost region.id (Reg register) (changed_at region.id (without_register register) regions) run.turns run.start
      (weaker_breaks run region.id (λ q. q ≡ Reg register) (Reg register)
      (changed_at region.id (without_register register) regions) none
      (changed_bare region.id register regions ∙ same) (changed_has run region.id register regions known facts.0) facts.1),
  each_register run regions some none same known h.1,
)

pub no_register_can_go : (run : Run) (regions : List Region) → Grants run regions →
    AllByRecursion (IsTight run) regions → NoRegisterCanGo regions run.turns run.start
no_register_can_go run regions grants tight =
    let parts = fault_none (first_call run.regions run.turns run.start)
    (no_exit run.turns (state_after run.regions run.turns run.start).control.mode) grants.exits in
    let known = both_known run regions grants.learnt.each tight in
    each_register run regions regions parts.0 grants.learnt.same known known
