-- A skipped region: the replay clears its outputs at once, and they pass beside those of the real run's leave.
use Rattle.std.proofs.Common.{◌≡◌, ℕ, zero, suc, ◌+◌, ◌-◌, ◌<◌, ◌≤◌, ◌⊎◌, inl, inr, ⊎_elim, Bool, true, false}
use Rattle.std.proofs.Common.{List, [], ◌∷◌, ◌++◌, length, refl, sym, ap, subst, ◌∙◌, arith}
use Rattle.std.specs.Prelude.{◌==◌, ◌||◌, nat_le, if◌then◌else◌, slice_index, slice_set}
use Rattle.std.specs.List.{list_any}
use Rattle.std.proofs.lemmas.Bool.{cases_lt, cases_Bool, eqb-true, leb-true, ltb-true, and_parts}
use Rattle.std.proofs.lemmas.List.{get_or-set_same, get_or-set_other, set_past, get_or_past}
use Rattle.flow_base.specs.declared.points.Point.{Point}
use Rattle.enclosure_regions.specs.declared.region_parts.Range.{Range}
use Rattle.enclosure_regions.specs.declared.region_parts.Region.{Region}
use Rattle.enclosure_regions.specs.Breaks.{has_byte, declares_byte}
use Rattle.enclosure_regions.specs.Turns.{start_of}
use Rattle.rv32im_machine.specs.declared.language.Place.{Place}
use Rattle.rv32im_machine.specs.declared.language.Place.TheVariants.{Register, Byte, First, Second}
use Rattle.rv32im_machine.specs.declared.language.Source.TheVariants.{Constant}
use Rattle.rv32im_machine.specs.declared.language.Shape.TheVariants.{Copied}
use Rattle.rv32im_machine.specs.State.{Setting, Control, Store, moved_to, with_register, with_byte}
use Rattle.rv32im_machine.specs.Language.{Turn, Ends, Moves, walked, Held, none_held, at_place, put, hold}
use Rattle.region_machine.specs.Guests.{gives, clears_registers, clears_bytes, clears_ranges, skip}
use Rattle.replay_machine.specs.Runs.{Masks, replayed}
use Rattle.acceptance_law.specs.Inputs.{IsProperPlace, place_limit}
use Rattle.acceptance_law.proofs.WritesKeepRelation.{put_limits, put_registers, put_memory, put_kept, not_alike, apart_of}
use Rattle.acceptance_law.proofs.Outputs.{Output, OfRegister, OfByte, output_place, IsOutput, AreOutputs, IsAmong, given}
use Rattle.acceptance_law.proofs.RegionOutputsPass.{gives_given, outputs_of, register_outputs, byte_outputs}
use Rattle.acceptance_law.proofs.RegionOutputsPass.{range_outputs}
use Rattle.flow_base.specs.Listed.{is_listed}

-- ---- outputs become 0

unfoldable pub zeroed : List Output → Turn → Turn
zeroed [] turn = turn
zeroed (o ∷ os) turn = Moves (output_place o) Copied (Constant 0) (zeroed os turn)

unfoldable pub cleared : ℕ → List Output → Store → Store
cleared base [] store = store
cleared base (o ∷ os) store = cleared base os (put base (output_place o) 0 store)

zeroed_append : (first later : List Output) (turn : Turn) → zeroed (first ++ later) turn ≡ zeroed first
    (zeroed later turn)
unfolding zeroed
zeroed_append [] later turn = refl
zeroed_append (o ∷ first) later turn =
    ap (λ t. Moves (output_place o) Copied (Constant 0) t) (zeroed_append first later turn)

registers_zeroed : (registers : List ℕ) (turn : Turn) →
    clears_registers registers turn ≡ zeroed (register_outputs registers) turn
unfolding clears_registers zeroed register_outputs
registers_zeroed [] turn = refl
registers_zeroed (register ∷ registers) turn =
    ap (λ t. Moves (Register register) Copied (Constant 0) t) (registers_zeroed registers turn)

bytes_zeroed : (number address count : ℕ) (turn : Turn) →
    clears_bytes address count turn ≡ zeroed (byte_outputs number address count) turn
unfolding clears_bytes zeroed byte_outputs
bytes_zeroed number address zero turn = refl
bytes_zeroed number address (suc count) turn =
    ap (λ t. Moves (Byte address) Copied (Constant 0) t) (bytes_zeroed number (address + 1) count turn)

ranges_zeroed : (registers : List ℕ) (number : ℕ) (ranges : List Range) (turn : Turn) →
    clears_ranges registers ranges turn ≡ zeroed (range_outputs registers number ranges) turn
unfolding clears_ranges zeroed range_outputs
ranges_zeroed registers number [] turn = refl
ranges_zeroed registers number (range ∷ ranges) turn =
    bytes_zeroed number (start_of registers range) range.length (clears_ranges registers ranges turn)
    ∙ ap (λ t. zeroed (byte_outputs number (start_of registers range) range.length) t)
    (ranges_zeroed registers (number + 1) ranges turn)
    ∙ sym (zeroed_append (byte_outputs number (start_of registers range) range.length)
    (range_outputs registers (number + 1) ranges) turn)

pub skip_zeroed : (region : Region) (registers : List ℕ) (control : Control) →
    skip region registers control
    ≡ zeroed (outputs_of region registers) (given region (outputs_of region registers)
    (Ends (moved_to region.leave control)))
skip_zeroed region registers control =
    let end = Ends (moved_to region.leave control) in
    registers_zeroed region.outs (clears_ranges registers region.ranges (gives region registers end))
    ∙ ap (λ t. zeroed (register_outputs region.outs) t)
    (ranges_zeroed registers 0 region.ranges (gives region registers end))
    ∙ sym (zeroed_append (register_outputs region.outs) (range_outputs registers 0 region.ranges)
    (gives region registers end))
    ∙ ap (λ t. zeroed (outputs_of region registers) t) (gives_given region registers end)

held_still : (o : Output) (value : ℕ) (held : Held) → hold (output_place o) value held ≡ held
held_still (OfRegister register) value held = refl
held_still (OfByte range address) value held = refl

pub zeroed_replayed : (masks : Masks) (past : List Point) (setting : Setting) (secret : List ℕ) (os : List Output)
    (turn : Turn) (store : Store) (held : Held) →
    replayed masks past (walked setting secret (zeroed os turn) store held)
    ≡ replayed masks past (walked setting secret turn (cleared setting.base os store) held)
unfolding zeroed cleared replayed walked
zeroed_replayed masks past setting secret [] turn store held = refl
zeroed_replayed masks past setting secret (o ∷ os) turn store held =
    ap (λ h. replayed masks past (walked setting secret (zeroed os turn) (put setting.base (output_place o) 0 store) h))
    (held_still o 0 held)
    ∙ zeroed_replayed masks past setting secret os turn (put setting.base (output_place o) 0 store) held

-- ---- what is cleared

-- an output's place that becomes 0 is 0, and each other place as before
zero_case : (base : ℕ) (o : Output) (store : Store) (q : Place) → IsOutput base o → IsProperPlace base q →
    ((output_place o ≡ q) × (at_place base (put base (output_place o) 0 store) none_held q ≡ 0))
    ⊎ (at_place base (put base (output_place o) 0 store) none_held q ≡ at_place base store none_held q)
unfolding with_register with_byte
zero_case base (OfRegister r) store (Register q) is iq = pick (q == r) refl (r == 0) refl
  where
    pick : (t : Bool) → (q == r) ≡ t → (s : Bool) → (r == 0) ≡ s →
        ((Register r ≡ Register q)
        × (slice_index (if s then store.registers else slice_set store.registers r 0) q ≡ 0))
        ⊎ (slice_index (if s then store.registers else slice_set store.registers r 0) q
        ≡ slice_index store.registers q)
    pick t e true zeroth = inr refl
    pick false e false away = inr (get_or-set_other store.registers r q 0 0 (apart_of q r e))
    pick true e false away =
        let same = eqb-true q r e in
        inl (
          ap (λ k. Register k) (sym same),
          ⊎_elim
              (λ below. ap (λ k. slice_index (slice_set store.registers r 0) k) same
              ∙ get_or-set_same store.registers r 0 0 below)
              (λ past. ap (λ xs. slice_index xs q) (set_past store.registers r 0 past)
              ∙ ap (λ k. slice_index store.registers k) same ∙ get_or_past store.registers r 0 past)
              (cases_lt r (length store.registers)),
        )
zero_case base (OfRegister r) store (Byte q) is iq = inr refl
zero_case base (OfRegister r) store First is iq = inr refl
zero_case base (OfRegister r) store Second is iq = inr refl
zero_case base (OfByte n p) store (Byte q) is iq = pick (q == p) refl
  where
    pick : (t : Bool) → (q == p) ≡ t →
        ((Byte p ≡ Byte q) × (slice_index (slice_set store.memory (p - base) 0) (q - base) ≡ 0))
        ⊎ (slice_index (slice_set store.memory (p - base) 0) (q - base) ≡ slice_index store.memory (q - base))
    pick false e =
        inr (get_or-set_other store.memory (p - base) (q - base) 0 0
        (λ same. apart_of q p e (omega (arith, same, is, iq))))
    pick true e =
        let same = eqb-true q p e in
        inl (
          ap (λ k. Byte k) (sym same),
          ⊎_elim
              (λ below. ap (λ k. slice_index (slice_set store.memory (p - base) 0) (k - base)) same
              ∙ get_or-set_same store.memory (p - base) 0 0 below)
              (λ past. ap (λ xs. slice_index xs (q - base)) (set_past store.memory (p - base) 0 past)
              ∙ ap (λ k. slice_index store.memory (k - base)) same ∙ get_or_past store.memory (p - base) 0 past)
              (cases_lt (p - base) (length store.memory)),
        )
zero_case base (OfByte n p) store (Register q) is iq = inr refl
zero_case base (OfByte n p) store First is iq = inr refl
zero_case base (OfByte n p) store Second is iq = inr refl

pub cleared_case : (base : ℕ) (os : List Output) (store : Store) (q : Place) → AreOutputs base os → IsProperPlace base q →
    (IsAmong os q × (at_place base (cleared base os store) none_held q ≡ 0))
    ⊎ (at_place base (cleared base os store) none_held q ≡ at_place base store none_held q)
unfolding cleared IsAmong
cleared_case base [] store q are iq = inr refl
cleared_case base (o ∷ os) store q are iq = ⊎_elim
    (λ later. inl (inr later.0, later.1))
    (λ same. ⊎_elim (λ here. inl (inl here.0, same ∙ here.1)) (λ still. inr (same ∙ still))
    (zero_case base o store q are.0 iq))
    (cleared_case base os (put base (output_place o) 0 store) q are.1 iq)

cleared_stays : (base : ℕ) (os : List Output) (store : Store) (q : Place) → AreOutputs base os → IsProperPlace base q →
    at_place base store none_held q ≡ 0 → at_place base (cleared base os store) none_held q ≡ 0
cleared_stays base os store q are iq e =
    ⊎_elim (λ a. a.1) (λ same. same ∙ e) (cleared_case base os store q are iq)

-- an output's own place is 0 afterwards
own_zero : (base : ℕ) (o : Output) (store : Store) → IsOutput base o →
    at_place base (put base (output_place o) 0 store) none_held (output_place o) ≡ 0
unfolding with_register with_byte
own_zero base (OfRegister r) store is = pick (r == 0) refl
  where
    pick : (s : Bool) → (r == 0) ≡ s → slice_index (if s then store.registers else slice_set store.registers r 0) r ≡ 0
    pick true e = absurd (is (eqb-true r 0 e))
    pick false e = ⊎_elim
        (λ below. get_or-set_same store.registers r 0 0 below)
        (λ past. ap (λ xs. slice_index xs r) (set_past store.registers r 0 past)
        ∙ get_or_past store.registers r 0 past)
        (cases_lt r (length store.registers))
own_zero base (OfByte n p) store is = ⊎_elim
    (λ below. get_or-set_same store.memory (p - base) 0 0 below)
    (λ past. ap (λ xs. slice_index xs (p - base)) (set_past store.memory (p - base) 0 past)
    ∙ get_or_past store.memory (p - base) 0 past)
    (cases_lt (p - base) (length store.memory))

pub cleared_among : (base : ℕ) (os : List Output) (store : Store) (q : Place) → AreOutputs base os → IsProperPlace base q →
    IsAmong os q → at_place base (cleared base os store) none_held q ≡ 0
unfolding cleared IsAmong
cleared_among base [] store q are iq among = absurd among
cleared_among base (o ∷ os) store q are iq (inl e) =
    cleared_stays base os (put base (output_place o) 0 store) q are.1 iq
    (subst (λ p. at_place base (put base (output_place o) 0 store) none_held p ≡ 0) e (own_zero base o store are.0))
cleared_among base (o ∷ os) store q are iq (inr among) =
    cleared_among base os (put base (output_place o) 0 store) q are.1 iq among

pub cleared_registers : (base : ℕ) (os : List Output) (store : Store) →
    length (cleared base os store).registers ≡ length store.registers
unfolding cleared
cleared_registers base [] store = refl
cleared_registers base (o ∷ os) store =
    cleared_registers base os (put base (output_place o) 0 store) ∙ put_registers base (output_place o) 0 store

pub cleared_memory : (base : ℕ) (os : List Output) (store : Store) →
    length (cleared base os store).memory ≡ length store.memory
unfolding cleared
cleared_memory base [] store = refl
cleared_memory base (o ∷ os) store =
    cleared_memory base os (put base (output_place o) 0 store) ∙ put_memory base (output_place o) 0 store

pub cleared_kept : (base : ℕ) (os : List Output) (store : Store) → (cleared base os store).kept ≡ store.kept
unfolding cleared
cleared_kept base [] store = refl
cleared_kept base (o ∷ os) store =
    cleared_kept base os (put base (output_place o) 0 store) ∙ put_kept base (output_place o) 0 store

none_limit : (o : Output) → 0 ≤ place_limit (output_place o)
none_limit (OfRegister register) = omega arith
none_limit (OfByte range address) = omega arith

pub cleared_limits : (base : ℕ) (os : List Output) (store : Store) →
    ((q : Place) → at_place base store none_held q ≤ place_limit q) → (q : Place) →
    at_place base (cleared base os store) none_held q ≤ place_limit q
unfolding cleared
cleared_limits base [] store limits q = limits q
cleared_limits base (o ∷ os) store limits q =
    cleared_limits base os (put base (output_place o) 0 store)
    (λ p. subst (λ h. at_place base (put base (output_place o) 0 store) h p ≤ place_limit p) (held_still o 0 none_held)
    (put_limits base (output_place o) 0 store none_held (none_limit o) p (limits p))) q

-- ---- which places are outputs

among_left : (first later : List Output) (q : Place) → IsAmong first q → IsAmong (first ++ later) q
unfolding IsAmong
among_left [] later q h = absurd h
among_left (o ∷ first) later q (inl e) = inl e
among_left (o ∷ first) later q (inr h) = inr (among_left first later q h)

among_right : (first later : List Output) (q : Place) → IsAmong later q → IsAmong (first ++ later) q
unfolding IsAmong
among_right [] later q h = h
among_right (o ∷ first) later q h = inr (among_right first later q h)

or_cases : (s t : Bool) → (s || t) ≡ true → (s ≡ true) ⊎ (t ≡ true)
or_cases true t e = inl refl
or_cases false t e = inr e

registers_among : (registers : List ℕ) (q : ℕ) → is_listed registers q ≡ true →
    IsAmong (register_outputs registers) (Register q)
unfolding IsAmong register_outputs
registers_among [] q e = absurd (not_alike e refl)
registers_among (register ∷ registers) q e = ⊎_elim
    (λ here. inl (ap (λ k. Register k) (eqb-true register q here)))
    (λ later. inr (registers_among registers q later))
    (or_cases (register == q) (is_listed registers q) e)

bytes_among : (number address count q : ℕ) → address ≤ q → q < address + count →
    IsAmong (byte_outputs number address count) (Byte q)
unfolding IsAmong byte_outputs
bytes_among number address zero q from to = absurd (omega (arith, from, to))
bytes_among number address (suc count) q from to = ⊎_elim
    (λ here. inl (ap (λ k. Byte k) (eqb-true address q here)))
    (λ other. let away = apart_of address q other in
    inr (bytes_among number (address + 1) count q (omega (arith, from, away)) (omega (arith, to))))
    (cases_Bool (address == q))

ranges_among : (registers : List ℕ) (number : ℕ) (ranges : List Range) (q : ℕ) →
    list_any (λ range. has_byte (start_of registers range) range.length q) ranges ≡ true →
    IsAmong (range_outputs registers number ranges) (Byte q)
unfolding range_outputs
ranges_among registers number [] q e = absurd (not_alike e refl)
ranges_among registers number (range ∷ ranges) q e = ⊎_elim
    (λ here. let parts = and_parts (nat_le (start_of registers range) q) _ here in
    among_left (byte_outputs number (start_of registers range) range.length)
    (range_outputs registers (number + 1) ranges) (Byte q)
    (bytes_among number (start_of registers range) range.length q (leb-true (start_of registers range) q parts.0)
    (ltb-true q (start_of registers range + range.length) parts.1)))
    (λ later. among_right (byte_outputs number (start_of registers range) range.length)
    (range_outputs registers (number + 1) ranges) (Byte q) (ranges_among registers (number + 1) ranges q later))
    (or_cases (has_byte (start_of registers range) range.length q) _ e)

pub outs_among : (region : Region) (registers : List ℕ) (q : ℕ) → is_listed region.outs q ≡ true →
    IsAmong (outputs_of region registers) (Register q)
outs_among region registers q e =
    among_left (register_outputs region.outs) (range_outputs registers 0 region.ranges) (Register q)
    (registers_among region.outs q e)

pub range_among : (region : Region) (registers : List ℕ) (q : ℕ) → declares_byte region registers q ≡ true →
    IsAmong (outputs_of region registers) (Byte q)
range_among region registers q e =
    among_right (register_outputs region.outs) (range_outputs registers 0 region.ranges) (Byte q)
    (ranges_among registers 0 region.ranges q e)
