-- A declaration that is to keep an output is broken at a leave.
use Rattle.std.proofs.Common.{◌≡◌, ◌∙◌, ◌<◌, ◌==◌, ◌&&◌, ◌||◌, ℕ, Bool, true, false, List, [], ◌∷◌, Option, Some, None, map}
use Rattle.std.proofs.Common.{refl, sym, ap, subst, inl, inr}
use Rattle.std.specs.Prelude.{option_map}
use Rattle.std.specs.List.{AllByRecursion, find}
use Rattle.std.proofs.lemmas.Bool.{and_parts, cases_Bool, cond-false, cond-true, eqb-true, eqb-false, eq-eqb, or_cases, or_left, or_right}
use Rattle.rv32im_machine.specs.State.{State}
use Rattle.rv32im_machine.specs.Rows.{walk_of}
use Rattle.enclosure_regions.specs.declared.break_kinds.Break.{Break}
use Rattle.enclosure_regions.specs.declared.break_kinds.Place.{Place}
use Rattle.enclosure_regions.specs.declared.break_kinds.Place.TheVariants.{Reg, Byte}
use Rattle.enclosure_regions.specs.declared.region_parts.Region.{Region}
use Rattle.enclosure_regions.specs.Breaks.{has_changed, register_changed}
use Rattle.enclosure_regions.specs.Orders.{all_registers}
use Rattle.region_machine.specs.Breaking.{kind_break}
use Rattle.region_machine.specs.Enclosures.{Kind, Enters, Leaves, Steps, kind_of}
use Rattle.region_machine.specs.Within.{are_inside}
use Rattle.region_learn.specs.LearnAnswers.{Grants, call_in, first_call, no_exit}
use Rattle.region_learn.specs.Learnt.{is_kept, is_out}
use Rattle.region_learn.specs.Minimal.{IsKeepBroken, NoOutputIsKept, RunsBroken, changed_at, moved_to_keep, without}
use Rattle.region_learn.specs.Unbroken.{IsTight}
use Rattle.region_learn.specs.Written.{Changed, Run, Written, bare, is_step_in, state_after, walk_writes, writes_in}
use Rattle.region_learn.proofs.EdgesAlike.{bare_kind}
use Rattle.region_learn.proofs.RegionRules.{stands_picked}
use Rattle.region_learn.proofs.UnbrokenRuns.{IsKnown, both_known, declares, fault_none, in_has, kept_unchanged}
use Rattle.region_learn.proofs.UnbrokenRuns.{kind_has, no_call, none_found, pick_stands, place_declared}
use Rattle.region_learn.proofs.UnbrokenRuns.{quiet_walk, setting_after, some_true}
use Rattle.enclosure_regions.specs.Breaks.{declares_register}
use Rattle.region_learn.proofs.LeftOut.{stands_among, stays, true_false}
use Rattle.std.specs.Prelude.{slice_index}
use Rattle.enclosure_regions.specs.Orders.{in_order}
use Rattle.region_learn.specs.Written.{is_leave_of, leaves_changed}
use Rattle.region_learn.proofs.BrokenRuns.{broken_run}
use Rattle.region_learn.proofs.UnbrokenRuns.{walk_unbroken}
use Rattle.region_learn.proofs.WeakerRuns.{Fate, IsBroken}
use Rattle.region_learn.proofs.WeakerRegions.{enter_none, kinds_same, written_at}
use Rattle.flow_base.specs.Listed.{is_listed}

-- ---- lists

found_in : (test : ℕ → Bool) (xs : List ℕ) (x : ℕ) → find test xs ≡ Some x → (test x ≡ true) × (is_listed xs x ≡ true)
found_in test [] x h = absurd (cc)
found_in test (y ∷ xs) x h = elim (cases_Bool (test y)) [
  | inl here ↦
      let e : Some y ≡ Some x = sym (cond-true (test y) (Some y) (find test xs) here) ∙ h in
      let same : y ≡ x = cc in
      (ap test (sym same) ∙ here, or_left (y == x) (is_listed xs x) (eq-eqb y x same))
  | inr later ↦
      let rest = found_in test xs x (sym (cond-false (test y) (Some y) (find test xs) later) ∙ h) in
      (rest.0, or_right (y == x) (is_listed xs x) rest.1)
]

none_in : (test : ℕ → Bool) (xs : List ℕ) (x : ℕ) → find test xs ≡ None → is_listed xs x ≡ true → test x ≡ false
none_in test [] x h stands = absurd (cc)
none_in test (y ∷ xs) x h stands = elim (cases_Bool (test y)) [
  | inl here ↦
      let e : Some y ≡ None = sym (cond-true (test y) (Some y) (find test xs) here) ∙ h in absurd (cc)
  | inr later ↦
      let rest : find test xs ≡ None = sym (cond-false (test y) (Some y) (find test xs) later) ∙ h in
      elim (or_cases (y == x) (is_listed xs x) stands) [
        | inl same ↦ ap test (sym (eqb-true y x same)) ∙ later
        | inr among ↦ none_in test xs x rest among
      ]
]

some_broken : (make : ℕ → Break) (test : ℕ → Bool) (xs : List ℕ) (x : ℕ) → is_listed xs x ≡ true → test x ≡ true →
    IsBroken (option_map make (find test xs))
some_broken make test [] x stands h = absurd (cc)
some_broken make test (y ∷ xs) x stands h = elim (cases_Bool (test y)) [
  | inl here ↦
      subst (λ (o : Option ℕ). IsBroken (option_map make o)) (sym (cond-true (test y) (Some y) (find test xs) here)) tt
  | inr later ↦
      subst (λ (o : Option ℕ). IsBroken (option_map make o)) (sym (cond-false (test y) (Some y) (find test xs) later))
      (elim (or_cases (y == x) (is_listed xs x) stands) [
        | inl same ↦ absurd (true_false (sym (ap test (eqb-true y x same) ∙ h) ∙ later))
        | inr among ↦ some_broken make test xs x among h
      ])
]

-- ---- regions that are to keep more

pub record IsMoved (run : Run) (number register : ℕ) (region weak : Region) : Type 0 where
  pub edges : bare weak ≡ bare region
  pub known : IsKnown run region
  pub inside : (kept : List ℕ) → are_inside weak.ranges kept run.start.setting.base ≡ true
  pub others : (kept : List ℕ) (other : Place) → declares region kept other ≡ true → declares weak kept other ≡ true
  pub keep : (test : ℕ → Bool) → find test region.keep ≡ None → (found : ℕ) → find test weak.keep ≡ Some found →
      (weak.id ≡ number) × (found ≡ register)
  pub has : weak.id ≡ number → is_listed weak.keep register ≡ true

abbrev HasUnmoved : Run → ℕ → ℕ → Region → Type 0
HasUnmoved run number register weak = (region : Region) × IsMoved run number register region weak

keep_fate : (number register : ℕ) (weak : Region) (before after : List ℕ) (found : Option ℕ) →
    ((other : ℕ) → found ≡ Some other → (weak.id ≡ number) × (other ≡ register)) →
    Fate (IsKeepBroken number register) (option_map (register_changed weak before after) found)
keep_fate number register weak before after None h = tt
keep_fate number register weak before after (Some other) h =
    let same = h other refl in (
      slice_index before other,
      slice_index after other,
      ap (λ (n : ℕ). Break.KeepBroken n other (slice_index before other) (slice_index after other)) same.0
          ∙ ap (λ (r : ℕ). Break.KeepBroken number r (slice_index before other) (slice_index after other)) same.1,
    )

leave_fate : (run : Run) (number register : ℕ) (region weak : Region) (turn : ℕ) → turn < run.turns →
    IsMoved run number register region weak →
    kind_of run.regions (state_after run.regions turn run.start).control ≡ Leaves (bare weak) →
    Fate (IsKeepBroken number register) (kind_break (Leaves weak) (state_after run.regions turn run.start))
leave_fate run number register region weak turn below moved kind =
    let state = state_after run.regions turn run.start in
    let test = has_changed state.store.kept state.store.registers in
    let strong : kind_of run.regions state.control ≡ Leaves (bare region) =
    kind ∙ ap (λ (r : Region). Leaves r) moved.edges in
    let none : find test region.keep ≡ None =
    ap (find test) moved.known.learnt.keep
    ∙ none_found test (is_kept run region.id) all_registers (kept_unchanged run region turn below strong) in
    keep_fate number register weak state.store.kept state.store.registers (find test weak.keep)
    (moved.keep test none)

step_none : (run : Run) (number register : ℕ) (region weak : Region) (turn : ℕ) → turn < run.turns →
    IsMoved run number register region weak → first_call run.regions run.turns run.start ≡ None →
    kind_of run.regions (state_after run.regions turn run.start).control ≡ Steps (Some (bare weak)) →
    kind_break (Steps (Some weak)) (state_after run.regions turn run.start) ≡ None
step_none run number register region weak turn below moved none kind =
    let state = state_after run.regions turn run.start in
    let quiet = quiet_walk (bare weak) state (ap (λ (k : Kind). call_in k state) (sym kind)
    ∙ no_call run.regions run.start turn run.turns below none) in
    let same : weak.id ≡ region.id = ap (λ (r : Region). r.id) moved.edges in
    let inside : is_step_in region.id (kind_of run.regions state.control) ≡ true =
    ap (is_step_in region.id) kind ∙ eq-eqb weak.id region.id same in
    walk_unbroken weak state.store.kept state.control.pc (walk_of state) quiet
    (λ q writes. moved.others state.store.kept q
    (place_declared run region state.store.kept q moved.known
    (some_true (writes_in run.regions region.id q) run.regions run.start turn run.turns below
    (ap (λ (b : Bool). b && walk_writes q (walk_of state)) inside ∙ writes))))

kind_fate : (run : Run) (number register : ℕ) (turn : ℕ) (kind : Kind) → turn < run.turns →
    first_call run.regions run.turns run.start ≡ None →
    kind_of run.regions (state_after run.regions turn run.start).control ≡ bare_kind kind →
    kind_has (HasUnmoved run number register) kind →
    Fate (IsKeepBroken number register) (kind_break kind (state_after run.regions turn run.start))
kind_fate run number register turn (Enters weak) below none kind has =
    subst (Fate (IsKeepBroken number register))
    (sym (enter_none run weak (state_after run.regions turn run.start) has.1.inside
    (setting_after run.regions turn run.start))) tt
kind_fate run number register turn (Leaves weak) below none kind has =
    leave_fate run number register has.0 weak turn below has.1 kind
kind_fate run number register turn (Steps None) below none kind has = tt
kind_fate run number register turn (Steps (Some weak)) below none kind has =
    subst (Fate (IsKeepBroken number register))
    (sym (step_none run number register has.0 weak turn below has.1 none kind)) tt

kind_broken : (run : Run) (number register : ℕ) (kind : Kind) (state : State) →
    is_leave_of number (bare_kind kind) ≡ true →
    has_changed state.store.kept state.store.registers register ≡ true →
    kind_has (HasUnmoved run number register) kind → IsBroken (kind_break kind state)
kind_broken run number register (Enters weak) state is changed has = absurd (cc)
kind_broken run number register (Leaves weak) state is changed has =
    some_broken (register_changed weak state.store.kept state.store.registers)
    (has_changed state.store.kept state.store.registers) weak.keep register
    (has.1.has (eqb-true weak.id number is)) changed
kind_broken run number register (Steps None) state is changed has = absurd (cc)
kind_broken run number register (Steps (Some weak)) state is changed has = absurd (cc)

moved_breaks : (run : Run) (number register : ℕ) (weaker : List Region) →
    first_call run.regions run.turns run.start ≡ None → map bare weaker ≡ run.regions →
    AllByRecursion (HasUnmoved run number register) weaker → Changed run number register ≡ true →
    RunsBroken (IsKeepBroken number register) weaker run.turns run.start
moved_breaks run number register weaker none same has changed =
    let found = written_at (leaves_changed run.regions number register) run.regions run.start run.turns changed in
    let state = state_after run.regions found.0 run.start in
    let parts = and_parts (is_leave_of number (kind_of run.regions state.control))
    (has_changed state.store.kept state.store.registers register) found.2 in
    broken_run (IsKeepBroken number register) run weaker found.0 found.1 same
    (λ turn below.
    let control = (state_after run.regions turn run.start).control in
    kind_fate run number register turn (kind_of weaker control) below none (kinds_same run weaker turn same)
    (in_has (HasUnmoved run number register) control.mode weaker control has))
    (kind_broken run number register (kind_of weaker state.control) state
    (sym (ap (is_leave_of number) (kinds_same run weaker found.0 same)) ∙ parts.0) parts.1
    (in_has (HasUnmoved run number register) state.control.mode weaker state.control has))

-- ---- an output that is to be kept

among_all : (run : Run) (region : Region) (register : ℕ) → IsKnown run region →
    (is_listed region.outs register || is_listed region.keep register) ≡ true → is_listed all_registers register ≡ true
among_all run region register known h =
    elim (or_cases (is_listed region.outs register) (is_listed region.keep register) h) [
      | inl out ↦
          stands_among (is_out run region.id) register all_registers
          (sym (ap (λ (l : List ℕ). is_listed l register) known.learnt.outs) ∙ out)
      | inr kept ↦
          stands_among (is_kept run region.id) register all_registers
          (sym (ap (λ (l : List ℕ). is_listed l register) known.learnt.keep) ∙ kept)
    ]

in_new_keep : (register other : ℕ) (keep : List ℕ) → is_listed (register ∷ keep) other ≡ true →
    is_listed all_registers other ≡ true → is_listed (in_order (register ∷ keep)) other ≡ true
in_new_keep register other keep h all = pick_stands (is_listed (register ∷ keep)) other all_registers h all

others_moved : (run : Run) (register other : ℕ) (region : Region) → IsKnown run region →
    declares_register region other ≡ true → declares_register (moved_to_keep register region) other ≡ true
others_moved run register other region known h =
    let outs = without register region.outs in
    let keep = in_order (register ∷ region.keep) in
    elim (or_cases (other == 0) (is_listed region.outs other || is_listed region.keep other) h) [
      | inl none ↦ or_left (other == 0) (is_listed outs other || is_listed keep other) none
      | inr some ↦
          let all = among_all run region other known some in
          or_right (other == 0) (is_listed outs other || is_listed keep other)
          (elim (or_cases (is_listed region.outs other) (is_listed region.keep other) some) [
            | inl out ↦ elim (cases_Bool (other == register)) [
              | inl same ↦
                  or_right (is_listed outs other) (is_listed keep other)
                  (in_new_keep register other region.keep
                  (or_left (register == other) (is_listed region.keep other)
                  (eq-eqb register other (sym (eqb-true other register same)))) all)
              | inr differs ↦
                  or_left (is_listed outs other) (is_listed keep other) (stays register other region.outs differs out)
            ]
            | inr kept ↦
                or_right (is_listed outs other) (is_listed keep other)
                (in_new_keep register other region.keep
                (or_right (register == other) (is_listed region.keep other) kept) all)
          ])
    ]

place_moved : (run : Run) (register : ℕ) (region : Region) (kept : List ℕ) (other : Place) → IsKnown run region →
    declares region kept other ≡ true → declares (moved_to_keep register region) kept other ≡ true
place_moved run register region kept (Reg other) known h = others_moved run register other region known h
place_moved run register region kept (Byte address) known h = h

new_kept : (number register : ℕ) (region : Region) (test : ℕ → Bool) (found : ℕ) → region.id ≡ number →
    find test region.keep ≡ None → find test (in_order (register ∷ region.keep)) ≡ Some found →
    (region.id ≡ number) × (found ≡ register)
new_kept number register region test found same none h =
    let facts = found_in test (in_order (register ∷ region.keep)) found h in
    let stands = stands_picked (is_listed (register ∷ region.keep)) found all_registers facts.1 in (
      same,
      elim (or_cases (register == found) (is_listed region.keep found) stands) [
        | inl is ↦ sym (eqb-true register found is)
        | inr among ↦ absurd (true_false (sym facts.0 ∙ none_in test region.keep found none among))
      ],
    )

moved_of : (run : Run) (number register : ℕ) (region : Region) → IsKnown run region → region.id ≡ number →
    is_listed all_registers register ≡ true → IsMoved run number register region (moved_to_keep register region)
moved_of run number register region known same all = record {
  edges = refl;
  known = known;
  inside = known.tight.inside;
  others = λ kept other h. place_moved run register region kept other known h;
  keep = λ test none found h. new_kept number register region test found same none h;
  has = λ is. in_new_keep register register region.keep
      (or_left (register == register) (is_listed region.keep register) (eq-eqb register register refl)) all;
}

none_some : (found : Option ℕ) (other : ℕ) → found ≡ None → found ≡ Some other → ⊥
none_some found other e h = let both = sym e ∙ h in cc

unmoved : (run : Run) (number register : ℕ) (region : Region) → IsKnown run region → (region.id ≡ number → ⊥) →
    IsMoved run number register region region
unmoved run number register region known other = record {
  edges = refl;
  known = known;
  inside = known.tight.inside;
  others = λ kept q h. h;
  keep = λ test none found h. absurd (none_some (find test region.keep) found none h);
  has = λ is. absurd (other is);
}

moved_has : (run : Run) (number register : ℕ) (regions : List Region) → AllByRecursion (IsKnown run) regions →
    is_listed all_registers register ≡ true →
    AllByRecursion (HasUnmoved run number register) (changed_at number (moved_to_keep register) regions)
moved_has run number register [] known all = tt
moved_has run number register (region ∷ regions) known all = (
  elim (cases_Bool (region.id == number)) [
    | inl same ↦
        subst (HasUnmoved run number register)
        (sym (cond-true (region.id == number) (moved_to_keep register region) region same))
        (region, moved_of run number register region known.0 (eqb-true region.id number same) all)
    | inr differs ↦
        subst (HasUnmoved run number register)
        (sym (cond-false (region.id == number) (moved_to_keep register region) region differs))
        (region, unmoved run number register region known.0 (eqb-false region.id number differs))
  ],
  moved_has run number register regions known.1 all,
)

moved_bare : (number register : ℕ) (regions : List Region) →
    map bare (changed_at number (moved_to_keep register) regions) ≡ map bare regions
moved_bare number register [] = refl
moved_bare number register (region ∷ regions) =
    ap (λ (r : Region). r ∷ map bare (changed_at number (moved_to_keep register) regions))
    (elim (cases_Bool (region.id == number)) [
      | inl same ↦ ap bare (cond-true (region.id == number) (moved_to_keep register region) region same)
      | inr differs ↦ ap bare (cond-false (region.id == number) (moved_to_keep register region) region differs)
    ])
    ∙ ap (λ (l : List Region). bare region ∷ l) (moved_bare number register regions)

out_changed : (run : Run) (region : Region) (register : ℕ) → IsKnown run region →
    is_listed region.outs register ≡ true → Changed run region.id register ≡ true
out_changed run region register known h =
    (and_parts (Written run region.id (Reg register)) (Changed run region.id register)
    (stands_picked (is_out run region.id) register all_registers
    (sym (ap (λ (l : List ℕ). is_listed l register) known.learnt.outs) ∙ h))).1

each_output : (run : Run) (regions some : List Region) → first_call run.regions run.turns run.start ≡ None →
    map bare regions ≡ run.regions → AllByRecursion (IsKnown run) regions → AllByRecursion (IsKnown run) some →
    AllByRecursion (λ region. (register : ℕ) → is_listed region.outs register ≡ true →
    RunsBroken (IsKeepBroken region.id register) (changed_at region.id (moved_to_keep register) regions)
    run.turns run.start) some
each_output run regions [] none same known h = tt
each_output run regions (region ∷ some) none same known h = (
  λ register out.
      moved_breaks run region.id register (changed_at region.id (moved_to_keep register) regions) none
      (moved_bare region.id register regions ∙ same)
      (moved_has run region.id register regions known
      (among_all run region register h.0 (or_left (is_listed region.outs register) (is_listed region.keep register) out)))
      (out_changed run region register h.0 out),
  each_output run regions some none same known h.1,
)

pub no_output_is_kept : (run : Run) (regions : List Region) → Grants run regions →
    AllByRecursion (IsTight run) regions → NoOutputIsKept regions run.turns run.start
no_output_is_kept run regions grants tight =
    let parts = fault_none (first_call run.regions run.turns run.start)
    (no_exit run.turns (state_after run.regions run.turns run.start).control.mode) grants.exits in
    let known = both_known run regions grants.learnt.each tight in
    each_output run regions regions parts.0 grants.learnt.same known known
