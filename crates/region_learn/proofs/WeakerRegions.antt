-- A declaration that lacks one written place is broken by the write of it.
use Rattle.std.proofs.Common.{◌≡◌, ◌∙◌, ◌<◌, ◌&&◌, ℕ, zero, suc, Bool, true, false, List, Some, None, map}
use Rattle.std.proofs.Common.{sym, ap, subst, arith, inl, inr}
use Rattle.std.specs.Prelude.{option_map}
use Rattle.std.specs.List.{AllByRecursion, find, list_all}
use Rattle.std.proofs.lemmas.Bool.{and_parts, eqb-true, eq-eqb, or_cases}
use Rattle.flow_base.specs.Guests.{is_inside}
use Rattle.rv32im_machine.specs.State.{Setting, State}
use Rattle.rv32im_machine.specs.Rows.{walk_of}
use Rattle.enclosure_regions.specs.declared.break_kinds.Break.{Break}
use Rattle.enclosure_regions.specs.declared.break_kinds.Place.{Place}
use Rattle.enclosure_regions.specs.declared.region_parts.Region.{Region}
use Rattle.enclosure_regions.specs.Breaks.{has_changed, register_changed}
use Rattle.enclosure_regions.specs.Orders.{all_registers}
use Rattle.enclosure_regions.specs.Turns.{start_of}
use Rattle.region_machine.specs.Breaking.{Breaks, kind_break}
use Rattle.region_machine.specs.Enclosures.{Kind, Enters, Leaves, Steps, kind_of}
use Rattle.region_machine.specs.Within.{are_inside}
use Rattle.region_learn.specs.LearnAnswers.{call_in, first_call}
use Rattle.region_learn.specs.Learnt.{is_kept}
use Rattle.region_learn.specs.Minimal.{RunsBroken}
use Rattle.region_learn.specs.Written.{Run, Written, bare, is_step_in, some_turn, state_after, walk_writes, writes_in}
use Rattle.region_learn.proofs.EdgesAlike.{bare_kind, kind_bare}
use Rattle.region_learn.proofs.UnbrokenRuns.{IsKnown, declares, in_has, kept_unchanged}
use Rattle.region_learn.proofs.UnbrokenRuns.{kind_has, no_call, none_found, none_outside, place_declared}
use Rattle.region_learn.proofs.UnbrokenRuns.{quiet_walk, setting_after, some_true}
use Rattle.region_learn.proofs.BrokenRuns.{broken_run}
use Rattle.region_learn.proofs.WeakerRuns.{DeclaresBut, Fate, IsBroken, LosesTo, walk_breaks, walk_fate}

-- ---- weaker regions

pub record IsWeaker (run : Run) (number : ℕ) (lost : Place → Type 0) (place : Place) (region weak : Region) : Type 0 where
  pub edges : bare weak ≡ bare region
  pub known : IsKnown run region
  pub keep : (test : ℕ → Bool) → find test region.keep ≡ None → find test weak.keep ≡ None
  pub inside : (kept : List ℕ) → are_inside weak.ranges kept run.start.setting.base ≡ true
  pub others : (kept : List ℕ) (other : Place) → declares region kept other ≡ true →
      DeclaresBut number lost weak kept other
  pub lacks : weak.id ≡ number → (kept : List ℕ) → declares weak kept place ≡ false

abbrev pub HasStronger : Run → ℕ → (Place → Type 0) → Place → Region → Type 0
HasStronger run number lost place weak = (region : Region) × IsWeaker run number lost place region weak

pub enter_none : (run : Run) (weak : Region) (state : State) →
    ((kept : List ℕ) → are_inside weak.ranges kept run.start.setting.base ≡ true) →
    state.setting ≡ run.start.setting → kind_break (Enters weak) state ≡ None
enter_none run weak state inside same =
    let base = state.setting.base in
    let all : list_all (λ range. is_inside base (start_of state.store.registers range) range.length) weak.ranges ≡ true =
    subst (λ (s : Setting). list_all (λ range. is_inside s.base (start_of state.store.registers range) range.length)
    weak.ranges ≡ true) (sym same) (inside state.store.registers) in
    ap (option_map (λ range. Break.RangeOutside weak.id range))
    (none_outside (λ range. is_inside base (start_of state.store.registers range) range.length) 0 weak.ranges all)

leave_none : (run : Run) (number : ℕ) (lost : Place → Type 0) (place : Place) (region weak : Region) (turn : ℕ) → turn < run.turns →
    IsWeaker run number lost place region weak →
    kind_of run.regions (state_after run.regions turn run.start).control ≡ Leaves (bare weak) →
    kind_break (Leaves weak) (state_after run.regions turn run.start) ≡ None
leave_none run number lost place region weak turn below weaker kind =
    let state = state_after run.regions turn run.start in
    let test = has_changed state.store.kept state.store.registers in
    let strong : kind_of run.regions state.control ≡ Leaves (bare region) =
    kind ∙ ap (λ (r : Region). Leaves r) weaker.edges in
    let none : find test region.keep ≡ None =
    ap (find test) weaker.known.learnt.keep
    ∙ none_found test (is_kept run region.id) all_registers (kept_unchanged run region turn below strong) in
    ap (option_map (register_changed weak state.store.kept state.store.registers)) (weaker.keep test none)

step_fate : (run : Run) (number : ℕ) (lost : Place → Type 0) (place : Place) (region weak : Region) (turn : ℕ) → turn < run.turns →
    IsWeaker run number lost place region weak → first_call run.regions run.turns run.start ≡ None →
    kind_of run.regions (state_after run.regions turn run.start).control ≡ Steps (Some (bare weak)) →
    Fate (LosesTo number lost) (kind_break (Steps (Some weak)) (state_after run.regions turn run.start))
step_fate run number lost place region weak turn below weaker none kind =
    let state = state_after run.regions turn run.start in
    let quiet = quiet_walk (bare weak) state (ap (λ (k : Kind). call_in k state) (sym kind)
    ∙ no_call run.regions run.start turn run.turns below none) in
    let same : weak.id ≡ region.id = ap (λ (r : Region). r.id) weaker.edges in
    let inside : is_step_in region.id (kind_of run.regions state.control) ≡ true =
    ap (is_step_in region.id) kind ∙ eq-eqb weak.id region.id same in
    walk_fate number lost weak state.store.kept state.control.pc (walk_of state) quiet
    (λ q writes. weaker.others state.store.kept q
    (place_declared run region state.store.kept q weaker.known
    (some_true (writes_in run.regions region.id q) run.regions run.start turn run.turns below
    (ap (λ (b : Bool). b && walk_writes q (walk_of state)) inside ∙ writes))))

kind_fate : (run : Run) (number : ℕ) (lost : Place → Type 0) (place : Place) (turn : ℕ) (kind : Kind) → turn < run.turns →
    first_call run.regions run.turns run.start ≡ None →
    kind_of run.regions (state_after run.regions turn run.start).control ≡ bare_kind kind →
    kind_has (HasStronger run number lost place) kind →
    Fate (LosesTo number lost) (kind_break kind (state_after run.regions turn run.start))
kind_fate run number lost place turn (Enters weak) below none kind has =
    subst (Fate (LosesTo number lost))
    (sym (enter_none run weak (state_after run.regions turn run.start) has.1.inside
    (setting_after run.regions turn run.start))) tt
kind_fate run number lost place turn (Leaves weak) below none kind has =
    subst (Fate (LosesTo number lost)) (sym (leave_none run number lost place has.0 weak turn below has.1 kind)) tt
kind_fate run number lost place turn (Steps None) below none kind has = tt
kind_fate run number lost place turn (Steps (Some weak)) below none kind has =
    step_fate run number lost place has.0 weak turn below has.1 none kind

pub kinds_same : (run : Run) (weaker : List Region) (turn : ℕ) → map bare weaker ≡ run.regions →
    kind_of run.regions (state_after run.regions turn run.start).control
    ≡ bare_kind (kind_of weaker (state_after run.regions turn run.start).control)
kinds_same run weaker turn same =
    let control = (state_after run.regions turn run.start).control in
    ap (λ (l : List Region). kind_of l control) (sym same) ∙ kind_bare weaker control

turn_fate : (run : Run) (number : ℕ) (lost : Place → Type 0) (place : Place) (weaker : List Region) (turn : ℕ) → turn < run.turns →
    first_call run.regions run.turns run.start ≡ None → map bare weaker ≡ run.regions →
    AllByRecursion (HasStronger run number lost place) weaker →
    Fate (LosesTo number lost) (Breaks weaker (state_after run.regions turn run.start))
turn_fate run number lost place weaker turn below none same has =
    let control = (state_after run.regions turn run.start).control in
    kind_fate run number lost place turn (kind_of weaker control) below none (kinds_same run weaker turn same)
    (in_has (HasStronger run number lost place) control.mode weaker control has)

-- ---- the turn of the write

pub written_at : (test : State → Bool) (regions : List Region) (start : State) (turns : ℕ) →
    some_turn test regions turns start ≡ true →
    (turn : ℕ) × (turn < turns) × (test (state_after regions turn start) ≡ true)
unfolding some_turn
written_at test regions start zero h = absurd (cc)
written_at test regions start (suc turns) h =
    elim (or_cases (some_turn test regions turns start) (test (state_after regions turns start)) h) [
      | inl before ↦
          let found = written_at test regions start turns before in
          let low = found.1 in
          (found.0, omega (arith, low), found.2)
      | inr last ↦ (turns, omega arith, last)
    ]

kind_broken : (run : Run) (number : ℕ) (lost : Place → Type 0) (place : Place) (kind : Kind) (state : State) →
    is_step_in number (bare_kind kind) ≡ true → walk_writes place (walk_of state) ≡ true →
    kind_has (HasStronger run number lost place) kind → IsBroken (kind_break kind state)
kind_broken run number lost place (Enters weak) state is writes has = absurd (cc)
kind_broken run number lost place (Leaves weak) state is writes has = absurd (cc)
kind_broken run number lost place (Steps None) state is writes has = absurd (cc)
kind_broken run number lost place (Steps (Some weak)) state is writes has =
    walk_breaks weak state.store.kept state.control.pc place (walk_of state)
    (has.1.lacks (eqb-true weak.id number is) state.store.kept) writes

turn_broken : (run : Run) (number : ℕ) (lost : Place → Type 0) (place : Place) (weaker : List Region) (turn : ℕ) →
    map bare weaker ≡ run.regions → AllByRecursion (HasStronger run number lost place) weaker →
    writes_in run.regions number place (state_after run.regions turn run.start) ≡ true →
    IsBroken (Breaks weaker (state_after run.regions turn run.start))
turn_broken run number lost place weaker turn same has writes =
    let state = state_after run.regions turn run.start in
    let parts = and_parts (is_step_in number (kind_of run.regions state.control)) (walk_writes place (walk_of state)) writes in
    kind_broken run number lost place (kind_of weaker state.control) state
    (sym (ap (is_step_in number) (kinds_same run weaker turn same)) ∙ parts.0) parts.1
    (in_has (HasStronger run number lost place) state.control.mode weaker state.control has)

-- a run with a weaker declaration is broken by the write of what it lacks
pub weaker_breaks : (run : Run) (number : ℕ) (lost : Place → Type 0) (place : Place) (weaker : List Region) →
    first_call run.regions run.turns run.start ≡ None → map bare weaker ≡ run.regions →
    AllByRecursion (HasStronger run number lost place) weaker → Written run number place ≡ true →
    RunsBroken (LosesTo number lost) weaker run.turns run.start
weaker_breaks run number lost place weaker none same has written =
    let found = written_at (writes_in run.regions number place) run.regions run.start run.turns written in
    broken_run (LosesTo number lost) run weaker found.0 found.1 same
    (λ turn below. turn_fate run number lost place weaker turn below none same has)
    (turn_broken run number lost place weaker found.0 same has found.2)
