-- The leave of a region that the replay has run: the kept registers get back their values and labels of the entry, and
-- the outputs pass.
use Rattle.std.proofs.Common.{◌≡◌, ℕ, zero, suc, ◌+◌, ◌<◌, ◌≤◌, ◌≢◌, ◌⊎◌, inl, inr, ⊎_elim, Bool, true, false}
use Rattle.std.proofs.Common.{List, [], ◌∷◌, ◌++◌, length, Option, Some, None, refl, sym, ap, ap₂, subst, ◌∙◌, arith}
use Rattle.std.specs.Prelude.{◌-◌, ◌==◌, ◌||◌, nat_le, not, if◌then◌else◌, slice_index, slice_set, option_map}
use Rattle.std.specs.List.{find, list_all}
use Rattle.std.proofs.lemmas.Bool.{cases_lt, eqb-true, leb-true, and_parts}
use Rattle.std.proofs.lemmas.List.{get_or-set_same, get_or-set_other, get_or_past, length-set}
use Rattle.flow_base.specs.Guests.{is_inside}
use Rattle.flow_base.specs.declared.points.Point.{Point}
use Rattle.enclosure_regions.specs.declared.region_parts.Range.{Range}
use Rattle.enclosure_regions.specs.declared.region_parts.Region.{Region}
use Rattle.enclosure_regions.specs.Breaks.{has_changed, changed_register, register_changed, keep_break}
use Rattle.enclosure_regions.specs.Regions.{is_register}
use Rattle.enclosure_regions.specs.Turns.{start_of}
use Rattle.rv32im_machine.specs.declared.language.Place.{Place}
use Rattle.rv32im_machine.specs.declared.language.Place.TheVariants.{Register, Byte, First, Second}
use Rattle.rv32im_machine.specs.State.{Setting, Control, Store, entered, with_register, restored}
use Rattle.rv32im_machine.specs.Language.{Ends, Walk, Restored, walked, none_held, at_place}
use Rattle.rv32im_machine.specs.Folds.{real_end}
use Rattle.region_machine.specs.Guests.{gives, leave}
use Rattle.region_machine.specs.Runs.{passed}
use Rattle.region_machine.specs.Within.{are_inside}
use Rattle.replay_machine.specs.Runs.{Masks, replayed}
use Rattle.lockstep_replay.specs.Crossing.{crossing}
use Rattle.shadow_masks.specs.Writes.{LabelMap}
use Rattle.run_labels.specs.TurnLabels.{TurnLabels, label_at, at_start, restore_labels}
use Rattle.run_labels.specs.Traces.{traced, labels_in, events_in, secret_look, EachAnswer}
use Rattle.acceptance_law.specs.Sides.{NamedSide}
use Rattle.acceptance_law.specs.Inputs.{IsProperPlace, place_limit}
use Rattle.acceptance_law.proofs.WritesKeepRelation.{Close, close_refl, Beside, not_alike, apart_of}
use Rattle.acceptance_law.proofs.Turns.{SameCounts}
use Rattle.acceptance_law.proofs.TurnsKeepRelation.{CoveredTurn, KeptTurn}
use Rattle.acceptance_law.proofs.Outputs.{Output, AreOutputs, given}
use Rattle.acceptance_law.proofs.RegionOutputsPass.{waiting_of, given_kept, gives_given, outputs_of, register_outputs}
use Rattle.acceptance_law.proofs.RegionOutputsPass.{byte_outputs, range_outputs}
use Rattle.acceptance_law.proofs.Entering.{SameStarts}
use Rattle.acceptance_law.proofs.InsideMemory.{inside_begins}
use Rattle.flow_base.specs.Listed.{is_listed}

-- ---- the outputs of a region

pub same_outputs : (registers others : List ℕ) (number : ℕ) (ranges : List Range) → SameStarts ranges registers others →
    range_outputs registers number ranges ≡ range_outputs others number ranges
unfolding range_outputs
same_outputs registers others number [] h = refl
same_outputs registers others number (range ∷ ranges) h =
    ap₂ (λ start rest. byte_outputs number start range.length ++ rest) h.0
    (same_outputs registers others (number + 1) ranges h.1)

outputs_append : (base : ℕ) (first later : List Output) → AreOutputs base first → AreOutputs base later →
    AreOutputs base (first ++ later)
outputs_append base [] later h k = k
outputs_append base (o ∷ first) later h k = (h.0, outputs_append base first later h.1 k)

registers_are : (base : ℕ) (registers : List ℕ) → list_all is_register registers ≡ true →
    AreOutputs base (register_outputs registers)
unfolding register_outputs
registers_are base [] h = tt
registers_are base (register ∷ registers) h =
    let parts = and_parts (is_register register) (list_all is_register registers) h in
    let some = leb-true 1 register (and_parts (nat_le 1 register) (nat_le register 31) parts.0).0 in
    ((λ none. omega (arith, some, none)), registers_are base registers parts.1)

bytes_are : (base number address count : ℕ) → base ≤ address → AreOutputs base (byte_outputs number address count)
unfolding byte_outputs
bytes_are base number address zero from = tt
bytes_are base number address (suc count) from =
    (from, bytes_are base number (address + 1) count (omega (arith, from)))

inside_are : (base number address count : ℕ) → is_inside base address count ≡ true →
    AreOutputs base (byte_outputs number address count)
unfolding byte_outputs
inside_are base number address zero inside = tt
inside_are base number address (suc count) inside =
    bytes_are base number address (suc count) (inside_begins base address (suc count) (omega arith) inside)

ranges_are : (base : ℕ) (registers : List ℕ) (number : ℕ) (ranges : List Range) →
    are_inside ranges registers base ≡ true → AreOutputs base (range_outputs registers number ranges)
unfolding range_outputs
ranges_are base registers number [] h = tt
ranges_are base registers number (range ∷ ranges) h =
    let parts = and_parts (is_inside base (start_of registers range) range.length)
    (are_inside ranges registers base) h
    in
    outputs_append base (byte_outputs number (start_of registers range) range.length)
    (range_outputs registers (number + 1) ranges)
    (inside_are base number (start_of registers range) range.length parts.0)
    (ranges_are base registers (number + 1) ranges parts.1)

pub outputs_are : (base : ℕ) (region : Region) (registers : List ℕ) → list_all is_register region.outs ≡ true →
    are_inside region.ranges registers base ≡ true → AreOutputs base (outputs_of region registers)
outputs_are base region registers outs inside =
    outputs_append base (register_outputs region.outs) (range_outputs registers 0 region.ranges)
    (registers_are base region.outs outs) (ranges_are base registers 0 region.ranges inside)

pub zero_unlisted : (registers : List ℕ) → list_all is_register registers ≡ true → is_listed registers 0 ≡ false
zero_unlisted [] h = refl
zero_unlisted (register ∷ registers) h =
    pick (register == 0) refl
    (zero_unlisted registers (and_parts (is_register register) (list_all is_register registers) h).1)
  where
    pick : (t : Bool) → (register == 0) ≡ t → is_listed registers 0 ≡ false → (t || is_listed registers 0) ≡ false
    pick true e later =
        let parts = and_parts (is_register register) (list_all is_register registers) h in
        let some = leb-true 1 register (and_parts (nat_le 1 register) (nat_le register 31) parts.0).0 in
        let none = eqb-true register 0 e in absurd (omega (arith, some, none))
    pick false e later = later

-- ---- kept registers

pub none_mapped : {A B : Type 0} (f : A → B) (found : Option A) → option_map f found ≡ None → found ≡ None
none_mapped f None e = refl
none_mapped f (Some x) e = absurd (cc)

unchanged_found : (before after : List ℕ) (keep : List ℕ) (q : ℕ) →
    find (λ register. has_changed before after register) keep ≡ None → is_listed keep q ≡ true →
    slice_index before q ≡ slice_index after q
unchanged_found before after [] q none listed = absurd (not_alike listed refl)
unchanged_found before after (register ∷ keep) q none listed =
    pick (slice_index before register == slice_index after register) refl (register == q) refl
    (λ found also. unchanged_found before after keep q found also)
  where
    rest : (slice_index before register == slice_index after register) ≡ true →
        find (λ other. has_changed before after other) keep ≡ None
    rest e =
        sym (ap (λ t. if not t then Some register else find (λ other. has_changed before after other) keep) e)
        ∙ none

    changed : (slice_index before register == slice_index after register) ≡ false → Some register ≡ None
    changed e =
        sym (ap (λ t. if not t then Some register else find (λ other. has_changed before after other) keep) e) ∙ none

    later : (register == q) ≡ false → is_listed keep q ≡ true
    later e = sym (ap (λ t. t || is_listed keep q) e) ∙ listed

    pick : (t : Bool) → (slice_index before register == slice_index after register) ≡ t → (s : Bool) →
        (register == q) ≡ s →
        (find (λ other. has_changed before after other) keep ≡ None → is_listed keep q ≡ true →
        slice_index before q ≡ slice_index after q) → slice_index before q ≡ slice_index after q
    pick true same true here more =
        subst (λ k. slice_index before k ≡ slice_index after k) (eqb-true register q here)
        (eqb-true (slice_index before register) (slice_index after register) same)
    pick true same false other more = more (rest same) (later other)
    pick false differ s e more = let wrong = changed differ in absurd (cc)

-- a leave that breaks nothing finds the kept registers as they were
pub kept_same : (region : Region) (before after : List ℕ) (q : ℕ) → keep_break region before after ≡ None →
    is_listed region.keep q ≡ true → slice_index before q ≡ slice_index after q
kept_same region before after q none listed =
    unchanged_found before after region.keep q
    (none_mapped (register_changed region before after) (changed_register region before after) none) listed

-- ---- what is put back

pub record PutBack (keep : List ℕ) (store changed : Store) : Type 0 where
  pub kept : changed.kept ≡ store.kept
  pub memory : changed.memory ≡ store.memory
  pub count : length changed.registers ≡ length store.registers
  pub listed : (q : ℕ) → is_listed keep q ≡ true → q ≢ 0 → q < length store.registers →
      slice_index changed.registers q ≡ slice_index store.kept q
  pub others : (q : ℕ) → is_listed keep q ≡ false → slice_index changed.registers q ≡ slice_index store.registers q

pub put_back : (keep : List ℕ) (store : Store) → PutBack keep store (restored keep store)
unfolding restored with_register
put_back [] store = record {
  kept = refl;
  memory = refl;
  count = refl;
  listed = λ q listed some below. absurd (not_alike listed refl);
  others = λ q none. refl;
}
put_back (r ∷ keep) store =
    let rest = put_back keep (with_register r (slice_index store.kept r) store) in record {
      kept = rest.kept;
      memory = rest.memory;
      count = rest.count ∙ counted (r == 0);
      listed = listed rest;
      others = λ q none. rest.others q (unlisted q none).1 ∙ elsewhere (r == 0) q (apart_of r q (unlisted q none).0);
    }
  where
    counted : (t : Bool) → length (if t then store.registers else slice_set store.registers r
        (slice_index store.kept r))
        ≡ length store.registers
    counted true = refl
    counted false = length-set store.registers r (slice_index store.kept r)

    elsewhere : (t : Bool) (q : ℕ) → r ≢ q →
        slice_index (if t then store.registers else slice_set store.registers r (slice_index store.kept r)) q
        ≡ slice_index store.registers q
    elsewhere true q other = refl
    elsewhere false q other =
        get_or-set_other store.registers r q (slice_index store.kept r) 0 (λ same. other (sym same))

    here : (t : Bool) → (r == 0) ≡ t → (q : ℕ) → r ≡ q → q ≢ 0 → q < length store.registers →
        slice_index (if t then store.registers else slice_set store.registers r (slice_index store.kept r)) q
        ≡ slice_index store.kept q
    here true e q same some below = absurd (some (sym same ∙ eqb-true r 0 e))
    here false e q same some below =
        subst (λ k. slice_index (slice_set store.registers r (slice_index store.kept r)) k ≡ slice_index store.kept k)
        same (get_or-set_same store.registers r (slice_index store.kept r) 0 (subst (λ k. k < length store.registers)
        (sym same) below))

    either : (s : Bool) (t : Bool) → (s || t) ≡ true → (t ≡ true) ⊎ ((t ≡ false) × (s ≡ true))
    either s true e = inl refl
    either true false e = inr (refl, refl)
    either false false e = absurd (not_alike e refl)

    neither : (s t : Bool) → (s || t) ≡ false → (s ≡ false) × (t ≡ false)
    neither false t e = (refl, e)
    neither true t e = absurd (not_alike refl e)

    unlisted : (q : ℕ) → is_listed (r ∷ keep) q ≡ false → ((r == q) ≡ false) × (is_listed keep q ≡ false)
    unlisted q e = neither (r == q) (is_listed keep q) e

    listed : (rest : PutBack keep (record store {
      registers = if r == 0 then store.registers else slice_set store.registers r (slice_index store.kept r);
    }) (restored keep (record store {
      registers = if r == 0 then store.registers else slice_set store.registers r (slice_index store.kept r);
    }))) (q : ℕ) → is_listed (r ∷ keep) q ≡ true → q ≢ 0 → q < length store.registers →
        slice_index (restored keep (record store {
          registers = if r == 0 then store.registers else slice_set store.registers r (slice_index store.kept r);
        })).registers q ≡ slice_index store.kept q
    listed rest q e some below = ⊎_elim
        (λ later. rest.listed q later some (subst (λ n. q < n) (sym (counted (r == 0))) below))
        (λ only. rest.others q only.0 ∙ here (r == 0) refl q (eqb-true r q only.1) some below)
        (either (r == q) (is_listed keep q) e)

-- ---- the kept registers beside each other

-- what is kept of the entry of a region, in the two runs, with the labels
pub record KeptBeside (side : NamedSide) (labels : LabelMap) (real copy : Store) : Type 0 where
  pub close : (register : ℕ) →
      Close side (labels.kept register) (slice_index real.kept register) (slice_index copy.kept register)
  pub real_limit : (register : ℕ) → slice_index real.kept register ≤ 4294967295
  pub copy_limit : (register : ℕ) → slice_index copy.kept register ≤ 4294967295
  pub label_limit : (register : ℕ) → (labels.kept register).mask ≤ 4294967295

-- the registers are put back in the replay, with their labels of the entry
pub restored_beside : (side : NamedSide) (base : ℕ) (labels : LabelMap) (real copy : Store) (keep : List ℕ) →
    is_listed keep 0 ≡ false →
    ((q : ℕ) → is_listed keep q ≡ true → slice_index real.kept q ≡ slice_index real.registers q) →
    KeptBeside side labels real copy → Beside side base (at_start labels) real none_held copy none_held →
    Beside side base (restore_labels keep (at_start labels)) real none_held (restored keep copy) none_held
restored_beside side base labels real copy keep zeroth same kept beside = record {
  places = places;
  registers = beside.registers ∙ sym back.count;
  memory = beside.memory ∙ sym (ap length back.memory);
  real_limits = beside.real_limits;
  copy_limits = copy_limits;
  label_limits = label_limits;
}
  where
    back : PutBack keep copy (restored keep copy)
    back = put_back keep copy

    some : (q : ℕ) → is_listed keep q ≡ true → q ≢ 0
    some q e none = not_alike e (subst (λ k. is_listed keep k ≡ false) (sym none) zeroth)

    register_close : (q : ℕ) (t : Bool) → is_listed keep q ≡ t →
        Close side (if t then labels.kept q else labels.registers q) (slice_index real.registers q)
        (slice_index (restored keep copy).registers q)
    register_close q false e =
        subst (λ v. Close side (labels.registers q) (slice_index real.registers q) v) (sym (back.others q e))
        (beside.places (Register q) tt)
    register_close q true e = ⊎_elim
        (λ below.
        subst (λ v. Close side (labels.kept q) v (slice_index (restored keep copy).registers q)) (same q e)
        (subst (λ v. Close side (labels.kept q) (slice_index real.kept q) v)
        (sym (back.listed q e (some q e) below)) (kept.close q)))
        (λ past.
        let past_real : length real.registers ≤ q = subst (λ n. n ≤ q) (sym beside.registers) past in
        let past_back : length (restored keep copy).registers ≤ q = subst (λ n. n ≤ q) (sym back.count) past in
        subst (λ v. Close side (labels.kept q) v (slice_index (restored keep copy).registers q))
        (sym (get_or_past real.registers q 0 past_real))
        (subst (λ v. Close side (labels.kept q) 0 v) (sym (get_or_past (restored keep copy).registers q 0 past_back))
        (close_refl side (labels.kept q) 0)))
        (cases_lt q (length copy.registers))

    places : (place : Place) → IsProperPlace base place →
        Close side (label_at (restore_labels keep (at_start labels)) place) (at_place base real none_held place)
        (at_place base (restored keep copy) none_held place)
    places (Register q) is = register_close q (is_listed keep q) refl
    places (Byte a) is =
        subst (λ m. Close side (labels.bytes a) (at_place base real none_held (Byte a)) (slice_index m (a - base)))
        (sym back.memory) (beside.places (Byte a) is)
    places First is = beside.places First is
    places Second is = beside.places Second is

    register_limit : (q : ℕ) (t : Bool) → is_listed keep q ≡ t →
        slice_index (restored keep copy).registers q ≤ 4294967295
    register_limit q false e = subst (λ v. v ≤ 4294967295) (sym (back.others q e)) (beside.copy_limits (Register q))
    register_limit q true e = ⊎_elim
        (λ below. subst (λ v. v ≤ 4294967295) (sym (back.listed q e (some q e) below)) (kept.copy_limit q))
        (λ past.
        let past_back : length (restored keep copy).registers ≤ q = subst (λ n. n ≤ q) (sym back.count) past in
        subst (λ v. v ≤ 4294967295) (sym (get_or_past (restored keep copy).registers q 0 past_back)) (omega arith))
        (cases_lt q (length copy.registers))

    copy_limits : (place : Place) → at_place base (restored keep copy) none_held place ≤ place_limit place
    copy_limits (Register q) = register_limit q (is_listed keep q) refl
    copy_limits (Byte a) =
        subst (λ m. slice_index m (a - base) ≤ 255) (sym back.memory) (beside.copy_limits (Byte a))
    copy_limits First = omega arith
    copy_limits Second = omega arith

    tag_limit : (q : ℕ) (t : Bool) → (if t then labels.kept q else labels.registers q).mask ≤ 4294967295
    tag_limit q true = kept.label_limit q
    tag_limit q false = beside.label_limits (Register q)

    label_limits : (place : Place) → (label_at (restore_labels keep (at_start labels)) place).mask ≤ place_limit place
    label_limits (Register q) = tag_limit q (is_listed keep q)
    label_limits (Byte a) = beside.label_limits (Byte a)
    label_limits First = beside.label_limits First
    label_limits Second = beside.label_limits Second

-- ---- the leave

module _ (side : NamedSide) (skip : List ℕ) (masks : Masks) (setting : Setting) (secret other : List ℕ) (number : ℕ)
    (region : Region) where
  -- what is known of a leave is known of what follows its first node
  pub leave_covered : (labels : TurnLabels) (answers : List ℕ) (all : List Point) (keep : List ℕ) (walk back : Walk) →
      CoveredTurn side skip masks number labels answers all (Restored keep walk back) →
      CoveredTurn side skip masks number (restore_labels keep labels) answers all walk
  unfolding traced
  leave_covered labels answers all keep walk back covered = record {
    sound = covered.sound;
    looks = covered.looks;
    closed = covered.closed;
    contained = covered.contained;
  }

  pub leave_kept_of : (labels : TurnLabels) (answers : List ℕ) (keep others : List ℕ) (walk back copied put : Walk)
      (copy changed : Store) (past all : List Point) → changed.kept ≡ copy.kept →
      KeptTurn side skip masks setting other (restore_labels keep labels) answers walk put changed past all →
      KeptTurn side skip masks setting other labels answers (Restored keep walk back) (Restored others copied put) copy
      past all
  unfolding replayed crossing passed real_end traced
  leave_kept_of labels answers keep others walk back copied put copy changed past all same kept = record {
    store = kept.store;
    uses = kept.uses;
    beside = kept.beside;
    counts = kept.counts;
    kept = kept.kept ∙ same;
  }

  -- a region that the replay has run is left
  pub leave_kept : (control : Control) (labels : LabelMap) (answers : List ℕ) (real copy : Store)
      (past all : List Point) →
      list_all is_register region.outs ≡ true → list_all is_register region.keep ≡ true →
      are_inside region.ranges real.kept setting.base ≡ true → SameStarts region.ranges real.kept copy.kept →
      keep_break region real.kept real.registers ≡ None → KeptBeside side labels real copy →
      Beside side setting.base (at_start labels) real none_held copy none_held → SameCounts skip past all →
      CoveredTurn side skip masks number (at_start labels) answers all
      (walked setting secret (leave region real.kept control) real none_held) →
      KeptTurn side skip masks setting other (at_start labels) answers
      (walked setting secret (leave region real.kept control) real none_held)
      (walked setting other (leave region copy.kept control) copy none_held) copy past all
  unfolding walked
  leave_kept control labels answers real copy past all outs keeps inside starts unbroken kept beside counts covered =
      let os = outputs_of region real.kept in
      let end = Ends (entered 0 control) in
      let real_gives : gives region real.kept end ≡ given region os end = gives_given region real.kept end in
      let same_os : outputs_of region copy.kept ≡ os =
      ap (λ later. register_outputs region.outs ++ later) (sym
      (same_outputs real.kept copy.kept 0 region.ranges starts))
      in
      let copy_gives : gives region copy.kept end ≡ given region os end =
      gives_given region copy.kept end ∙ ap (λ all_outputs. given region all_outputs end) same_os in
      let back = restored_beside side setting.base labels real copy region.keep
      (zero_unlisted region.keep keeps)
      (λ q listed. kept_same region real.kept real.registers q unbroken listed) kept beside in
      let known = leave_covered (at_start labels) answers all region.keep
      (walked setting secret (gives region real.kept end) real none_held)
      (walked setting secret (gives region real.kept end) (restored region.keep real) none_held) covered in
      let given_known = subst (λ t. CoveredTurn side skip masks number (restore_labels region.keep (at_start labels))
      answers all (walked setting secret t real none_held)) real_gives known in
      let result = given_kept side skip masks setting secret other number region os (entered 0 control)
      (restore_labels region.keep (at_start labels)) answers real none_held (restored region.keep copy) none_held past
      all (outputs_are setting.base region real.kept outs inside)
      (waiting_of side region.id setting.base os (restore_labels region.keep (at_start labels)) real none_held
      (restored region.keep copy) none_held back) counts given_known in
      leave_kept_of (at_start labels) answers region.keep region.keep
      (walked setting secret (gives region real.kept end) real none_held)
      (walked setting secret (gives region real.kept end) (restored region.keep real) none_held)
      (walked setting other (gives region copy.kept end) copy none_held)
      (walked setting other (gives region copy.kept end) (restored region.keep copy) none_held) copy
      (restored region.keep copy) past all (put_back region.keep copy).kept
      (subst (λ t. KeptTurn side skip masks setting other (restore_labels region.keep (at_start labels)) answers
      (walked setting secret (gives region real.kept end) real none_held)
      (walked setting other t (restored region.keep copy) none_held) (restored region.keep copy) past all)
      (sym copy_gives)
      (subst (λ t. KeptTurn side skip masks setting other (restore_labels region.keep (at_start labels)) answers
      (walked setting secret t real none_held)
      (walked setting other (given region os end) (restored region.keep copy) none_held) (restored region.keep copy)
      past all) (sym real_gives) result))
