-- The real run with the least declaration breaks no region.
use Rattle.std.proofs.Common.{◌≡◌, ◌∙◌, ◌+◌, ◌≤◌, ◌<◌, ◌==◌, ◌&&◌, ◌||◌, ◌⊎◌, not, ℕ, zero, suc, Bool, true, false, List, [], ◌∷◌, Option, Some, None, map}
use Rattle.std.proofs.Common.{refl, sym, ap, subst, arith, inl, inr, below_more, below_none}
use Rattle.std.specs.Prelude.{option_map}
use Rattle.std.specs.List.{AllByRecursion, filter, find, list_all, position_from}
use Rattle.std.proofs.lemmas.Bool.{and_parts, cases_Bool, cases_lt, cond-false, cond-true, eq-eqb, or_left, or_parts, or_right}
use Rattle.std.proofs.lemmas.Grind.{common_steps}
use Rattle.flow_base.specs.Guests.{is_inside}
use Rattle.flow_base.specs.declared.points.Slot.{Slot}
use Rattle.flow_base.specs.declared.points.Slot.TheVariants.{First as FirstSlot, Second as SecondSlot, Address, Result}
use Rattle.flow_base.specs.declared.points.Slot.TheVariants.{Decision, Number, Arg0, Arg1, Arg2, SecretIn, ByteOut}
use Rattle.flow_base.specs.declared.points.Slot.TheVariants.{Status, OutReg, OutRange}
use Rattle.rv32im_machine.specs.declared.stepping.Stepped.{Stepped}
use Rattle.rv32im_machine.specs.declared.stepping.Stepped.TheVariants.{Ran, Exited, Stopped}
use Rattle.rv32im_machine.specs.declared.language.Place.{Place as MachinePlace}
use Rattle.rv32im_machine.specs.declared.language.Place.TheVariants.{Register, Byte as MachineByte, First, Second}
use Rattle.rv32im_machine.specs.declared.language.Aim.{Aim}
use Rattle.rv32im_machine.specs.declared.language.Aim.TheVariants.{Put, Decide, Give}
use Rattle.rv32im_machine.specs.State.{Control, Setting, State, Store}
use Rattle.rv32im_machine.specs.Language.{Ended, Held, Looked, Moved, Passed, Restored, Saved, Walk}
use Rattle.rv32im_machine.specs.Language.{Turn, Looks, Passes, Decides, Gives, Moves, Saves, Restores, Ends, walked}
use Rattle.rv32im_machine.specs.Folds.{real_end}
use Rattle.rv32im_machine.specs.Rows.{walk_of}
use Rattle.enclosure_regions.specs.declared.break_kinds.Break.{Break}
use Rattle.enclosure_regions.specs.declared.break_kinds.Place.{Place}
use Rattle.enclosure_regions.specs.declared.break_kinds.Place.TheVariants.{Reg, Byte}
use Rattle.enclosure_regions.specs.declared.region_parts.Range.{Range}
use Rattle.enclosure_regions.specs.declared.region_parts.Region.{Region}
use Rattle.enclosure_regions.specs.Breaks.{declares_byte, declares_register, has_changed}
use Rattle.enclosure_regions.specs.Breaks.{register_changed}
use Rattle.enclosure_regions.specs.Orders.{all_registers}
use Rattle.enclosure_regions.specs.Turns.{start_of}
use Rattle.region_machine.specs.Breaking.{Breaks, aim_break, kind_break, place_break, slot_break, walk_break}
use Rattle.region_machine.specs.Enclosures.{Enclosures, Kind, Enters, Leaves, Steps, kind_in, kind_of, kind_outside}
use Rattle.region_machine.specs.Enclosures.{kind_within, region_entered_at, region_numbered}
use Rattle.region_machine.specs.Guests.{guest_walk, kind_walk}
use Rattle.region_machine.specs.Runs.{Place as RunPlace, fresh, Real, turn_unless, unbroken_turn}
use Rattle.region_learn.specs.declared.faults.LearnFault.{LearnFault}
use Rattle.region_learn.specs.LearnAnswers.{Grants, call_in, first_call, no_exit}
use Rattle.region_learn.specs.Learnt.{IsLearnt, is_kept, is_out}
use Rattle.region_learn.specs.Unbroken.{IsTight, RunsUnbroken}
use Rattle.region_learn.specs.Written.{Changed, Run, Written, bare, is_leave_of, is_number_slot, is_written_place, is_step_in, leaves_changed}
use Rattle.region_learn.specs.Written.{puts_into, some_turn, state_after, walk_calls, walk_writes, writes_in}
use Rattle.region_learn.proofs.EdgesAlike.{bare_kind, edges_alike, kind_bare}
use Rattle.flow_base.specs.Listed.{is_listed}
use Rattle.std.specs.Option.{option_or}

-- ---- a step inside a region

abbrev pub declares : Region → List ℕ → Place → Bool
declares region kept (Reg register) = declares_register region register
declares region kept (Byte address) = declares_byte region kept address

place_unbroken : (region : Region) (kept : List ℕ) (pc : ℕ) (place : MachinePlace) →
    ((other : Place) → is_written_place other place ≡ true → declares region kept other ≡ true) →
    place_break region kept pc place ≡ None
place_unbroken region kept pc (Register register) h =
    cond-true (declares_register region register) None
    (Some (Break.UndeclaredWrite region.id pc (Reg register)))
    (h (Reg register) (eq-eqb register register refl))
place_unbroken region kept pc (MachineByte address) h =
    cond-true (declares_byte region kept address) None
    (Some (Break.UndeclaredWrite region.id pc (Byte address)))
    (h (Byte address) (eq-eqb address address refl))
place_unbroken region kept pc First h = refl
place_unbroken region kept pc Second h = refl

pub slot_unbroken : (region : Region) (pc : ℕ) (slot : Slot) → is_number_slot slot ≡ false → slot_break region pc slot ≡ None
slot_unbroken region pc Number h = absurd (cc)
slot_unbroken region pc FirstSlot h = refl
slot_unbroken region pc SecondSlot h = refl
slot_unbroken region pc Address h = refl
slot_unbroken region pc Result h = refl
slot_unbroken region pc Decision h = refl
slot_unbroken region pc Arg0 h = refl
slot_unbroken region pc Arg1 h = refl
slot_unbroken region pc Arg2 h = refl
slot_unbroken region pc SecretIn h = refl
slot_unbroken region pc ByteOut h = refl
slot_unbroken region pc Status h = refl
slot_unbroken region pc (OutReg register) h = refl
slot_unbroken region pc (OutRange range) h = refl

aim_unbroken : (region : Region) (kept : List ℕ) (pc : ℕ) (slot : Slot) (aim : Aim) → is_number_slot slot ≡ false →
    ((other : Place) → puts_into other aim ≡ true → declares region kept other ≡ true) →
    aim_break region kept pc slot aim ≡ None
aim_unbroken region kept pc slot (Put place) quiet h = place_unbroken region kept pc place h
aim_unbroken region kept pc slot Decide quiet h = slot_unbroken region pc slot quiet
aim_unbroken region kept pc slot (Give place) quiet h = refl

first_none : (first later : Option Break) → first ≡ None → later ≡ None → option_or first later ≡ None
first_none first later e h = ap (λ (b : Option Break). option_or b later) e ∙ h

pub walk_unbroken : (region : Region) (kept : List ℕ) (pc : ℕ) (walk : Walk) → walk_calls walk ≡ false →
    ((place : Place) → walk_writes place walk ≡ true → declares region kept place ≡ true) →
    walk_break region kept pc walk ≡ None
unfolding walk_break walk_calls walk_writes
walk_unbroken region kept pc (Looked seen value walk) quiet h = walk_unbroken region kept pc walk quiet h
walk_unbroken region kept pc (Passed passing go) quiet h =
    let parts = or_parts (is_number_slot passing.point.slot) (walk_calls (go passing.value)) quiet in
    first_none (aim_break region kept pc passing.point.slot passing.aim) (walk_break region kept pc (go passing.value))
    (aim_unbroken region kept pc passing.point.slot passing.aim parts.0
    (λ other puts. h other (or_left (puts_into other passing.aim) (walk_writes other (go passing.value)) puts)))
    (walk_unbroken region kept pc (go passing.value) parts.1
    (λ place writes. h place (or_right (puts_into place passing.aim) (walk_writes place (go passing.value)) writes)))
walk_unbroken region kept pc (Moved other shape source value walk) quiet h =
    first_none (place_break region kept pc other) (walk_break region kept pc walk)
    (place_unbroken region kept pc other (λ place puts. h place (or_left (is_written_place place other) (walk_writes place walk) puts)))
    (walk_unbroken region kept pc walk quiet
    (λ place writes. h place (or_right (is_written_place place other) (walk_writes place walk) writes)))
walk_unbroken region kept pc (Saved walk) quiet h = walk_unbroken region kept pc walk quiet h
walk_unbroken region kept pc (Restored registers walk back) quiet h = walk_unbroken region kept pc walk quiet h
walk_unbroken region kept pc (Ended state) quiet h = refl

-- ---- what a run says of each of its turns

pub some_true : (test : State → Bool) (regions : List Region) (start : State) (turn turns : ℕ) → turn < turns →
    test (state_after regions turn start) ≡ true → some_turn test regions turns start ≡ true
unfolding some_turn
some_true test regions start turn zero below h = absurd (omega arith)
some_true test regions start turn (suc turns) below h = elim (cases_lt turn turns) [
  | inl before ↦
      or_left (some_turn test regions turns start) (test (state_after regions turns start))
      (some_true test regions start turn turns before h)
  | inr last ↦
      let e : turn ≡ turns = omega (arith, below, last) in
      or_right (some_turn test regions turns start) (test (state_after regions turns start))
      (ap (λ (n : ℕ). test (state_after regions n start)) (sym e) ∙ h)
]

true_false : ◌≡◌ {A = Bool} true false → ⊥
true_false e = cc

pub none_true : (test : State → Bool) (regions : List Region) (start : State) (turn turns : ℕ) → turn < turns →
    some_turn test regions turns start ≡ false → test (state_after regions turn start) ≡ false
none_true test regions start turn turns below h = elim (cases_Bool (test (state_after regions turn start))) [
  | inl holds ↦ absurd (true_false (sym (some_true test regions start turn turns below holds) ∙ h))
  | inr fails ↦ fails
]

pub fault_none : (first later : Option LearnFault) → option_or first later ≡ None → (first ≡ None) × (later ≡ None)
fault_none None later h = (refl, h)
fault_none (Some fault) later h = absurd (cc)

pub no_call : (regions : List Region) (start : State) (turn turns : ℕ) → turn < turns →
    first_call regions turns start ≡ None →
    call_in (kind_of regions (state_after regions turn start).control) (state_after regions turn start) ≡ None
unfolding first_call
no_call regions start turn zero below h = absurd (omega arith)
no_call regions start turn (suc turns) below h =
    let state = state_after regions turns start in
    let parts = fault_none (first_call regions turns start) (call_in (kind_of regions state.control) state) h in
    elim (cases_lt turn turns) [
      | inl before ↦ no_call regions start turn turns before parts.0
      | inr last ↦
          let e : turn ≡ turns = omega (arith, below, last) in
          ap (λ (n : ℕ). call_in (kind_of regions (state_after regions n start).control) (state_after regions n start)) e
          ∙ parts.1
    ]

pub quiet_walk : (region : Region) (state : State) → call_in (Steps (Some region)) state ≡ None →
    walk_calls (walk_of state) ≡ false
quiet_walk region state h = elim (cases_Bool (walk_calls (walk_of state))) [
  | inl calls ↦
      let e : call_in (Steps (Some region)) state ≡ Some (LearnFault.Call region.id state.control.pc) =
      cond-true (walk_calls (walk_of state)) (Some (LearnFault.Call region.id state.control.pc)) None calls in
      let both = sym e ∙ h in absurd (cc)
  | inr quiet ↦ quiet
]

-- ---- every turn keeps what a run began with

setting_end : (setting : Setting) (secret : List ℕ) (turn : Turn) (store : Store) (held : Held) →
    (real_end (walked setting secret turn store held)).setting ≡ setting
unfolding real_end walked
setting_end setting secret (Looks seen go) store held = setting_end setting secret (go _) _ _
setting_end setting secret (Passes point place making sources turn) store held = setting_end setting secret turn _ _
setting_end setting secret (Decides point making sources go) store held = setting_end setting secret (go _) _ _
setting_end setting secret (Gives point place turn) store held = setting_end setting secret turn _ _
setting_end setting secret (Moves place shape source turn) store held = setting_end setting secret turn _ _
setting_end setting secret (Saves turn) store held = setting_end setting secret turn _ _
setting_end setting secret (Restores registers turn) store held = setting_end setting secret turn _ _
setting_end setting secret (Ends control) store held = refl

kind_setting : (kind : Kind) (state : State) → (real_end (kind_walk kind state)).setting ≡ state.setting
kind_setting (Enters region) state = setting_end state.setting state.secret _ _ _
kind_setting (Leaves region) state = setting_end state.setting state.secret _ _ _
kind_setting (Steps inside) state = setting_end state.setting state.secret _ _ _

pub setting_after : (regions : List Region) (turns : ℕ) (start : State) →
    (state_after regions turns start).setting ≡ start.setting
unfolding state_after
setting_after regions zero start = refl
setting_after regions (suc turns) start =
    kind_setting (kind_of regions (state_after regions turns start).control) (state_after regions turns start)
    ∙ setting_after regions turns start

-- ---- registers that are picked

not_one : 1 ≤ 0 → ⊥
not_one low = omega arith

listed : (register : ℕ) → register < 32 → 1 ≤ register → is_listed all_registers register ≡ true
unfolding all_registers
listed =
    (below_more (λ k. 1 ≤ k → is_listed all_registers k ≡ true) 31
    (below_more (λ k. 1 ≤ k → is_listed all_registers k ≡ true) 30
    (below_more (λ k. 1 ≤ k → is_listed all_registers k ≡ true) 29
    (below_more (λ k. 1 ≤ k → is_listed all_registers k ≡ true) 28
    (below_more (λ k. 1 ≤ k → is_listed all_registers k ≡ true) 27
    (below_more (λ k. 1 ≤ k → is_listed all_registers k ≡ true) 26
    (below_more (λ k. 1 ≤ k → is_listed all_registers k ≡ true) 25
    (below_more (λ k. 1 ≤ k → is_listed all_registers k ≡ true) 24
    (below_more (λ k. 1 ≤ k → is_listed all_registers k ≡ true) 23
    (below_more (λ k. 1 ≤ k → is_listed all_registers k ≡ true) 22
    (below_more (λ k. 1 ≤ k → is_listed all_registers k ≡ true) 21
    (below_more (λ k. 1 ≤ k → is_listed all_registers k ≡ true) 20
    (below_more (λ k. 1 ≤ k → is_listed all_registers k ≡ true) 19
    (below_more (λ k. 1 ≤ k → is_listed all_registers k ≡ true) 18
    (below_more (λ k. 1 ≤ k → is_listed all_registers k ≡ true) 17
    (below_more (λ k. 1 ≤ k → is_listed all_registers k ≡ true) 16
    (below_more (λ k. 1 ≤ k → is_listed all_registers k ≡ true) 15
    (below_more (λ k. 1 ≤ k → is_listed all_registers k ≡ true) 14
    (below_more (λ k. 1 ≤ k → is_listed all_registers k ≡ true) 13
    (below_more (λ k. 1 ≤ k → is_listed all_registers k ≡ true) 12
    (below_more (λ k. 1 ≤ k → is_listed all_registers k ≡ true) 11
    (below_more (λ k. 1 ≤ k → is_listed all_registers k ≡ true) 10
    (below_more (λ k. 1 ≤ k → is_listed all_registers k ≡ true) 9
    (below_more (λ k. 1 ≤ k → is_listed all_registers k ≡ true) 8
    (below_more (λ k. 1 ≤ k → is_listed all_registers k ≡ true) 7
    (below_more (λ k. 1 ≤ k → is_listed all_registers k ≡ true) 6
    (below_more (λ k. 1 ≤ k → is_listed all_registers k ≡ true) 5
    (below_more (λ k. 1 ≤ k → is_listed all_registers k ≡ true) 4
    (below_more (λ k. 1 ≤ k → is_listed all_registers k ≡ true) 3
    (below_more (λ k. 1 ≤ k → is_listed all_registers k ≡ true) 2
    (below_more (λ k. 1 ≤ k → is_listed all_registers k ≡ true) 1
    (below_more (λ k. 1 ≤ k → is_listed all_registers k ≡ true) 0
    (below_none (λ k. 1 ≤ k → is_listed all_registers k ≡ true))
    (λ low. absurd (not_one low)))
    (λ low. refl))
    (λ low. refl))
    (λ low. refl))
    (λ low. refl))
    (λ low. refl))
    (λ low. refl))
    (λ low. refl))
    (λ low. refl))
    (λ low. refl))
    (λ low. refl))
    (λ low. refl))
    (λ low. refl))
    (λ low. refl))
    (λ low. refl))
    (λ low. refl))
    (λ low. refl))
    (λ low. refl))
    (λ low. refl))
    (λ low. refl))
    (λ low. refl))
    (λ low. refl))
    (λ low. refl))
    (λ low. refl))
    (λ low. refl))
    (λ low. refl))
    (λ low. refl))
    (λ low. refl))
    (λ low. refl))
    (λ low. refl))
    (λ low. refl))
    (λ low. refl))

pub pick_stands : (pick : ℕ → Bool) (register : ℕ) (xs : List ℕ) → pick register ≡ true → is_listed xs register ≡ true →
    is_listed (filter pick xs) register ≡ true
pick_stands pick register [] p h = h
pick_stands pick register (x ∷ xs) p h = grind (arith, common_steps, pick_stands pick register xs p)

pub none_found : (test pick : ℕ → Bool) (xs : List ℕ) → ((x : ℕ) → pick x ≡ true → test x ≡ false) →
    find test (filter pick xs) ≡ None
none_found test pick [] h = refl
none_found test pick (x ∷ xs) h = grind (arith, common_steps, h x, none_found test pick xs h)

-- ---- the break of a turn

pub none_outside : (test : Range → Bool) (place : ℕ) (ranges : List Range) → list_all test ranges ≡ true →
    position_from (λ range. not (test range)) place ranges ≡ None
none_outside test place [] h = refl
none_outside test place (range ∷ ranges) h =
    let parts = and_parts (test range) (list_all test ranges) h in
    let inside : not (test range) ≡ false = ap not parts.0 in
    cond-false (not (test range)) (Some place) (position_from (λ range. not (test range)) (place + 1) ranges) inside
    ∙ none_outside test (place + 1) ranges parts.1

pub record IsKnown (run : Run) (region : Region) : Type 0 where
  pub learnt : IsLearnt run region
  pub tight : IsTight run region

enter_unbroken : (run : Run) (region : Region) (state : State) → IsKnown run region →
    state.setting ≡ run.start.setting → kind_break (Enters region) state ≡ None
enter_unbroken run region state known same =
    let base = state.setting.base in
    let inside : list_all (λ range. is_inside base (start_of state.store.registers range) range.length) region.ranges
    ≡ true =
    subst (λ (s : Setting). list_all (λ range. is_inside s.base (start_of state.store.registers range) range.length)
    region.ranges ≡ true) (sym same) (known.tight.inside state.store.registers) in
    ap (option_map (λ range. Break.RangeOutside region.id range))
    (none_outside (λ range. is_inside base (start_of state.store.registers range) range.length) 0 region.ranges inside)

h_true : (b : Bool) → b ≡ true → (b && true) ≡ true
h_true true h = refl
h_true false h = h

false_if_not : (b : Bool) → not b ≡ true → b ≡ false
false_if_not true h = absurd (cc)
false_if_not false h = refl

pub kept_unchanged : (run : Run) (region : Region) (turn : ℕ) → turn < run.turns →
    kind_of run.regions (state_after run.regions turn run.start).control ≡ Leaves (bare region) →
    (register : ℕ) → is_kept run region.id register ≡ true →
    has_changed (state_after run.regions turn run.start).store.kept
    (state_after run.regions turn run.start).store.registers register ≡ false
kept_unchanged run region turn below kind register kept =
    let state = state_after run.regions turn run.start in
    let unchanged : Changed run region.id register ≡ false =
    false_if_not (Changed run region.id register)
    (and_parts (Written run region.id (Reg register)) (not (Changed run region.id register)) kept).1 in
    let here : leaves_changed run.regions region.id register state ≡ false =
    none_true (leaves_changed run.regions region.id register) run.regions run.start turn run.turns below unchanged in
    let leaves : is_leave_of region.id (kind_of run.regions state.control) ≡ true =
    ap (is_leave_of region.id) kind ∙ eq-eqb region.id region.id refl in
    sym (ap (λ (b : Bool). b && has_changed state.store.kept state.store.registers register) leaves) ∙ here

leave_unbroken : (run : Run) (region : Region) (turn : ℕ) → turn < run.turns → IsKnown run region →
    kind_of run.regions (state_after run.regions turn run.start).control ≡ Leaves (bare region) →
    kind_break (Leaves region) (state_after run.regions turn run.start) ≡ None
leave_unbroken run region turn below known kind =
    let state = state_after run.regions turn run.start in
    let none : find (λ register. has_changed state.store.kept state.store.registers register) region.keep ≡ None =
    ap (find (λ register. has_changed state.store.kept state.store.registers register)) known.learnt.keep
    ∙ none_found (has_changed state.store.kept state.store.registers) (is_kept run region.id) all_registers
    (kept_unchanged run region turn below kind) in
    ap (option_map (register_changed region state.store.kept state.store.registers)) none

out_or_kept : (written changed : Bool) → written ≡ true →
    ((written && changed) ≡ true) ⊎ ((written && not changed) ≡ true)
out_or_kept written true h = inl (h_true written h)
out_or_kept written false h = inr (h_true written h)

register_declared : (run : Run) (region : Region) (register : ℕ) → IsKnown run region →
    Written run region.id (Reg register) ≡ true → declares_register region register ≡ true
register_declared run region register known written = elim (cases_lt register 32) [
  | inl below ↦ elim (cases_lt register 1) [
    | inl none ↦
        let e : register ≡ 0 = omega (arith, none) in
        or_left (register == 0) (is_listed region.outs register || is_listed region.keep register)
        (eq-eqb register 0 e)
    | inr some ↦
        let all = listed register below some in
        or_right (register == 0) (is_listed region.outs register || is_listed region.keep register)
        (elim (out_or_kept (Written run region.id (Reg register)) (Changed run region.id register) written) [
          | inl out ↦
              or_left (is_listed region.outs register) (is_listed region.keep register)
              (ap (λ (l : List ℕ). is_listed l register) known.learnt.outs
              ∙ pick_stands (is_out run region.id) register all_registers out all)
          | inr kept ↦
              or_right (is_listed region.outs register) (is_listed region.keep register)
              (ap (λ (l : List ℕ). is_listed l register) known.learnt.keep
              ∙ pick_stands (is_kept run region.id) register all_registers kept all)
        ])
  ]
  | inr high ↦ absurd (true_false (sym written ∙ known.tight.registers register high))
]

pub place_declared : (run : Run) (region : Region) (kept : List ℕ) (place : Place) → IsKnown run region →
    Written run region.id place ≡ true → declares region kept place ≡ true
place_declared run region kept (Reg register) known written = register_declared run region register known written
place_declared run region kept (Byte address) known written =
    known.tight.bytes kept address ∙ (known.learnt.bytes address ∙ written)

step_unbroken : (run : Run) (region : Region) (turn : ℕ) → turn < run.turns → IsKnown run region →
    first_call run.regions run.turns run.start ≡ None →
    kind_of run.regions (state_after run.regions turn run.start).control ≡ Steps (Some (bare region)) →
    kind_break (Steps (Some region)) (state_after run.regions turn run.start) ≡ None
step_unbroken run region turn below known none kind =
    let state = state_after run.regions turn run.start in
    let quiet : walk_calls (walk_of state) ≡ false =
    quiet_walk (bare region) state (ap (λ (k : Kind). call_in k state) (sym kind)
    ∙ no_call run.regions run.start turn run.turns below none) in
    let inside : is_step_in region.id (kind_of run.regions state.control) ≡ true =
    ap (is_step_in region.id) kind ∙ eq-eqb region.id region.id refl in
    walk_unbroken region state.store.kept state.control.pc (walk_of state) quiet
    (λ place writes. place_declared run region state.store.kept place known
    (some_true (writes_in run.regions region.id place) run.regions run.start turn run.turns below
    (ap (λ (b : Bool). b && walk_writes place (walk_of state)) inside ∙ writes)))

-- ---- each region of a turn is known

abbrev pub option_has : (P : Region → Type 0) → Option Region → Type 0
option_has P None = Unit {0}
option_has P (Some region) = P region

abbrev pub kind_has : (P : Region → Type 0) → Kind → Type 0
kind_has P (Enters region) = P region
kind_has P (Leaves region) = P region
kind_has P (Steps None) = Unit {0}
kind_has P (Steps (Some region)) = P region

found_has : (P : Region → Type 0) (test : Region → Bool) (regions : List Region) → AllByRecursion P regions →
    option_has P (find test regions)
found_has P test [] h = tt
found_has P test (region ∷ regions) h = elim (cases_Bool (test region)) [
  | inl here ↦
      subst (option_has P) (sym (cond-true (test region) (Some region) (find test regions) here)) h.0
  | inr later ↦
      subst (option_has P) (sym (cond-false (test region) (Some region) (find test regions) later))
      (found_has P test regions h.1)
]

numbered_has : (P : Region → Type 0) (regions : List Region) (number : ℕ) → AllByRecursion P regions →
    option_has P (region_numbered regions number)
numbered_has P regions number h = elim (cases_Bool (number == 0)) [
  | inl none ↦
      subst (option_has P) (sym (cond-true (number == 0) None (find (λ region. region.id == number) regions) none)) tt
  | inr some ↦
      subst (option_has P) (sym (cond-false (number == 0) None (find (λ region. region.id == number) regions) some))
      (found_has P (λ region. region.id == number) regions h)
]

outside_has : (P : Region → Type 0) (found : Option Region) → option_has P found → kind_has P (kind_outside found)
outside_has P None h = tt
outside_has P (Some region) h = h

within_has : (P : Region → Type 0) (regions : List Region) (inside : Option Region) (pc : ℕ) → option_has P inside →
    AllByRecursion P regions → kind_has P (kind_within regions inside pc)
within_has P regions None pc h all =
    outside_has P (region_entered_at regions pc) (found_has P (λ region. region.enter == pc) regions all)
within_has P regions (Some region) pc h all = elim (cases_Bool (region.leave == pc)) [
  | inl at ↦ subst (kind_has P) (sym (cond-true (region.leave == pc) (Leaves region) (Steps (Some region)) at)) h
  | inr off ↦ subst (kind_has P) (sym (cond-false (region.leave == pc) (Leaves region) (Steps (Some region)) off)) h
]

pub in_has : (P : Region → Type 0) (mode : Stepped) (regions : List Region) (control : Control) → AllByRecursion P regions →
    kind_has P (kind_in mode regions control)
in_has P Ran regions control h =
    within_has P regions (region_numbered regions control.region) control.pc
    (numbered_has P regions control.region h) h
in_has P (Exited status) regions control h = tt
in_has P (Stopped fault) regions control h = tt

-- ---- the run

kind_unbroken : (run : Run) (turn : ℕ) (kind : Kind) → turn < run.turns →
    first_call run.regions run.turns run.start ≡ None →
    kind_of run.regions (state_after run.regions turn run.start).control ≡ bare_kind kind →
    kind_has (IsKnown run) kind → kind_break kind (state_after run.regions turn run.start) ≡ None
kind_unbroken run turn (Enters region) below none kind known =
    enter_unbroken run region (state_after run.regions turn run.start) known
    (setting_after run.regions turn run.start)
kind_unbroken run turn (Leaves region) below none kind known = leave_unbroken run region turn below known kind
kind_unbroken run turn (Steps None) below none kind known = refl
kind_unbroken run turn (Steps (Some region)) below none kind known =
    step_unbroken run region turn below known none kind

turn_unbroken : (run : Run) (regions : List Region) (turn : ℕ) → turn < run.turns →
    first_call run.regions run.turns run.start ≡ None → map bare regions ≡ run.regions →
    AllByRecursion (IsKnown run) regions → Breaks regions (state_after run.regions turn run.start) ≡ None
turn_unbroken run regions turn below none same known =
    let control = (state_after run.regions turn run.start).control in
    kind_unbroken run turn (kind_of regions control) below none
    (ap (λ (l : List Region). kind_of l control) (sym same) ∙ kind_bare regions control)
    (in_has (IsKnown run) control.mode regions control known)

pub record IsSound (run : Run) (turns : ℕ) (place : RunPlace) : Type 0 where
  pub unbroken : place.broken ≡ None
  pub state : place.state ≡ state_after run.regions turns run.start

sound_turn : (run : Run) (enclosures : Enclosures) (turns : ℕ) (place : RunPlace) → turns < run.turns →
    first_call run.regions run.turns run.start ≡ None → map bare enclosures.regions ≡ run.regions →
    AllByRecursion (IsKnown run) enclosures.regions → IsSound run turns place →
    IsSound run (suc turns) (unbroken_turn enclosures place)
unfolding state_after
sound_turn run enclosures turns place below none same known sound =
    let regions = enclosures.regions in
    let state = state_after run.regions turns run.start in
    record {
      unbroken = ap (λ (s : State). Breaks regions s) sound.state
          ∙ turn_unbroken run regions turns below none same known;
      state = ap (λ (s : State). real_end (guest_walk regions s)) sound.state
          ∙ (sym (edges_alike regions state) ∙ ap (λ (l : List Region). real_end (guest_walk l state)) same);
    }

sound_after : (run : Run) (enclosures : Enclosures) (turns : ℕ) → turns ≤ run.turns →
    first_call run.regions run.turns run.start ≡ None → map bare enclosures.regions ≡ run.regions →
    AllByRecursion (IsKnown run) enclosures.regions →
    IsSound run turns (Real enclosures turns (fresh run.start))
unfolding Real state_after
sound_after run enclosures zero le none same known = record { unbroken = refl; state = refl }
sound_after run enclosures (suc turns) le none same known =
    let place = Real enclosures turns (fresh run.start) in
    let sound = sound_after run enclosures turns (omega arith) none same known in
    subst (λ (b : Option Break). IsSound run (suc turns) (turn_unless b enclosures place)) (sym sound.unbroken)
    (sound_turn run enclosures turns place (omega arith) none same known sound)

exit_of : (turns : ℕ) (mode : Stepped) → no_exit turns mode ≡ None → (status : ℕ) × (mode ≡ Exited status)
exit_of turns Ran h = absurd (cc)
exit_of turns (Exited status) h = (status, refl)
exit_of turns (Stopped fault) h = absurd (cc)

pub both_known : (run : Run) (regions : List Region) → AllByRecursion (IsLearnt run) regions →
    AllByRecursion (IsTight run) regions → AllByRecursion (IsKnown run) regions
both_known run [] learnt tight = tt
both_known run (region ∷ regions) learnt tight =
    (record { learnt = learnt.0; tight = tight.0 }, both_known run regions learnt.1 tight.1)

pub runs_unbroken : (run : Run) (regions : List Region) → Grants run regions → AllByRecursion (IsTight run) regions →
    RunsUnbroken regions run.turns run.start
runs_unbroken run regions grants tight skip =
    let parts = fault_none (first_call run.regions run.turns run.start)
    (no_exit run.turns (state_after run.regions run.turns run.start).control.mode) grants.exits in
    let sound = sound_after run (record { regions = regions; skip = skip }) run.turns (omega arith) parts.0
    grants.learnt.same (both_known run regions grants.learnt.each tight) in
    let exit = exit_of run.turns (state_after run.regions run.turns run.start).control.mode parts.1 in
    record {
      unbroken = sound.unbroken;
      status = exit.0;
      exited = ap (λ (s : State). s.control.mode) sound.state ∙ exit.1;
    }
