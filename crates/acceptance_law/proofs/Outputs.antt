-- The outputs of a region at its leave, each of which passes and is put back; a skipped region's wait in the replay
-- as 0.
use Rattle.std.proofs.Common.{◌≡◌, ℕ, ◌-◌, ◌<◌, ◌≤◌, Bool, true, false, List, [], ◌∷◌, length}
use Rattle.std.proofs.Common.{refl, sym, ap, subst, arith, ◌⊎◌, inl, inr, ◌≢◌}
use Rattle.std.specs.Prelude.{◌==◌, ◌&&◌, nat_lt, if◌then◌else◌, slice_index, slice_set}
use Rattle.std.specs.List.{AllByRecursion}
use Rattle.std.proofs.lemmas.Bool.{eqb-true, eq-eqb, lt-ltb, and_parts, and_from}
use Rattle.std.proofs.lemmas.List.{get_or-set_other}
use Rattle.flow_base.specs.declared.points.Slot.{Slot}
use Rattle.flow_base.specs.declared.points.Slot.TheVariants.{OutReg, OutRange}
use Rattle.rv32im_machine.specs.declared.language.Place.{Place}
use Rattle.rv32im_machine.specs.declared.language.Place.TheVariants.{Register, Byte, First, Second}
use Rattle.rv32im_machine.specs.State.{Store, with_register, with_byte}
use Rattle.region_machine.specs.Guests.{output_point}
use Rattle.enclosure_regions.specs.declared.region_parts.Region.{Region}
use Rattle.rv32im_machine.specs.Language.{Turn, Gives, Held, at_place, put, hold}
use Rattle.shadow_masks.specs.declared.labels.Label.{Label}
use Rattle.run_labels.specs.TurnLabels.{TurnLabels, label_at, put_label}
use Rattle.acceptance_law.specs.Sides.{NamedSide}
use Rattle.acceptance_law.specs.Inputs.{IsProperPlace}
use Rattle.acceptance_law.proofs.WritesKeepRelation.{Close, set_hit, not_alike, apart_of}

-- ---- the outputs of a region as a list

pub data Output : Type 0 where
  OfRegister : ℕ → Output
  -- a byte of the range with this number
  OfByte : ℕ → ℕ → Output

abbrev pub output_slot : Output → Slot
output_slot (OfRegister register) = OutReg register
output_slot (OfByte range address) = OutRange range

abbrev pub output_place : Output → Place
output_place (OfRegister register) = Register register
output_place (OfByte range address) = Byte address

-- x0 is no output, and bytes do not lie below guest memory
abbrev pub IsOutput : ℕ → Output → Type 0
IsOutput base (OfRegister register) = register ≢ 0
IsOutput base (OfByte range address) = base ≤ address

abbrev pub AreOutputs : ℕ → List Output → Type 0
AreOutputs base os = AllByRecursion (IsOutput base) os

unfoldable pub IsAmong : List Output → Place → Type 0
IsAmong [] place = ⊥
IsAmong (o ∷ os) place = (output_place o ≡ place) ⊎ IsAmong os place

unfoldable pub given : Region → List Output → Turn → Turn
given region [] turn = turn
given region (o ∷ os) turn = Gives (output_point region (output_slot o)) (output_place o) (given region os turn)

-- ---- one write to an output

module _ (side : NamedSide) (label : Label) (labels : ℕ → Label) (xs ys : List ℕ) (r a b q : ℕ) (some : r ≢ 0) where
  written : List ℕ → ℕ → List ℕ
  written zs value = if r == 0 then zs else slice_set zs r value

  register_hit : length xs ≡ length ys → Close side label a b → q ≡ r →
      Close side (if nat_lt 0 q && q == r then label else labels q)
      (slice_index (if r == 0 then xs else slice_set xs r a) q)
      (slice_index (if r == 0 then ys else slice_set ys r b) q)
  register_hit same new is = pick (r == 0) refl (nat_lt 0 q && q == r) refl
    where
      pick : (s : Bool) → (r == 0) ≡ s → (t : Bool) → (nat_lt 0 q && q == r) ≡ t →
          Close side (if t then label else labels q)
          (slice_index (if s then xs else slice_set xs r a) q) (slice_index (if s then ys else slice_set ys r b) q)
      pick true zeroth t e = absurd (some (eqb-true r 0 zeroth))
      pick false away true e = set_hit side label xs ys r a b q is same new
      pick false away false e =
          let more : 0 < q = omega (arith, is, some) in
          absurd (not_alike (and_from (nat_lt 0 q) (q == r) (lt-ltb 0 q more) (eq-eqb q r is)) e)

  register_miss : q ≢ r → ((if nat_lt 0 q && q == r then label else labels q) ≡ labels q)
      × (slice_index (if r == 0 then xs else slice_set xs r a) q ≡ slice_index xs q)
      × (slice_index (if r == 0 then ys else slice_set ys r b) q ≡ slice_index ys q)
  register_miss other = pick (r == 0) refl (nat_lt 0 q && q == r) refl
    where
      pick : (s : Bool) → (r == 0) ≡ s → (t : Bool) → (nat_lt 0 q && q == r) ≡ t →
          ((if t then label else labels q) ≡ labels q)
          × (slice_index (if s then xs else slice_set xs r a) q ≡ slice_index xs q)
          × (slice_index (if s then ys else slice_set ys r b) q ≡ slice_index ys q)
      pick true zeroth t e = absurd (some (eqb-true r 0 zeroth))
      pick false away true e = absurd (other (eqb-true q r (and_parts (nat_lt 0 q) (q == r) e).1))
      pick false away false e = (refl, get_or-set_other xs r q a 0 other, get_or-set_other ys r q b 0 other)

-- ---- what waits for its output to pass

module _ (side : NamedSide) (region : ℕ) where
  -- the values are close, or the place is that of an output of a region whose relay is in the side, and still 0 in the
  -- replay
  abbrev pub Waits : List Output → Place → Label → ℕ → ℕ → Type 0
  Waits os place label real copy =
      (IsAmong os place × (copy ≡ 0) × (side.relay region ≡ true)) ⊎ Close side label real copy

  -- a place that the output is not waits for the others, as it did
  elsewhere : (o : Output) (os : List Output) (q : Place) (l : Label) (a b : ℕ) → (output_place o ≡ q → ⊥) →
      Waits (o ∷ os) q l a b → Waits os q l a b
  unfolding IsAmong
  elsewhere o os q l a b other (inl (inl e, zeroth, relay)) = absurd (other e)
  elsewhere o os q l a b other (inl (inr among, zeroth, relay)) = inl (among, zeroth, relay)
  elsewhere o os q l a b other (inr close) = inr close

  pub waits_put : (base : ℕ) (o : Output) (os : List Output) (label : Label) (a b : ℕ) (labels : TurnLabels)
      (real : Store) (held : Held) (copy : Store) (taken : Held) → IsOutput base o → Close side label a b →
      length real.registers ≡ length copy.registers → length real.memory ≡ length copy.memory →
      (q : Place) → IsProperPlace base q →
      Waits (o ∷ os) q (label_at labels q) (at_place base real held q) (at_place base copy taken q) →
      Waits os q (label_at (put_label (output_place o) label labels) q)
      (at_place base (put base (output_place o) a real) (hold (output_place o) a held) q)
      (at_place base (put base (output_place o) b copy) (hold (output_place o) b taken) q)
  unfolding with_register with_byte
  waits_put base (OfRegister r) os label a b labels real held copy taken is new n m (Register q) iq wait =
      pick (q == r) refl
    where
      pick : (t : Bool) → (q == r) ≡ t →
          Waits os (Register q) (if nat_lt 0 q && q == r then label else labels.map.registers q)
          (slice_index (if r == 0 then real.registers else slice_set real.registers r a) q)
          (slice_index (if r == 0 then copy.registers else slice_set copy.registers r b) q)
      pick true e =
          inr (register_hit side label labels.map.registers real.registers copy.registers r a b q is n new
          (eqb-true q r e))
      pick false e =
          let other = apart_of q r e in
          let kept = register_miss side label labels.map.registers real.registers copy.registers r a b q is other in
          let old = elsewhere (OfRegister r) os (Register q) _ _ _ (λ same. other (cc)) wait in
          subst (λ l. Waits os (Register q) l (slice_index (if r == 0 then real.registers
          else slice_set real.registers r a) q) (slice_index (if r == 0 then copy.registers
          else slice_set copy.registers r b) q)) (sym kept.0)
          (subst (λ v. Waits os (Register q) (labels.map.registers q) v (slice_index (if r == 0 then copy.registers
          else slice_set copy.registers r b) q)) (sym kept.1)
          (subst (λ v. Waits os (Register q) (labels.map.registers q) (slice_index real.registers q) v) (sym kept.2)
          old))
  waits_put base (OfRegister r) os label a b labels real held copy taken is new n m (Byte q) iq wait =
      elsewhere (OfRegister r) os (Byte q) _ _ _ (λ same. absurd (cc)) wait
  waits_put base (OfRegister r) os label a b labels real held copy taken is new n m First iq wait =
      elsewhere (OfRegister r) os First _ _ _ (λ same. absurd (cc)) wait
  waits_put base (OfRegister r) os label a b labels real held copy taken is new n m Second iq wait =
      elsewhere (OfRegister r) os Second _ _ _ (λ same. absurd (cc)) wait
  waits_put base (OfByte k p) os label a b labels real held copy taken is new n m (Byte q) iq wait =
      pick (q == p) refl
    where
      pick : (t : Bool) → (q == p) ≡ t →
          Waits os (Byte q) (if t then label else labels.map.bytes q)
          (slice_index (slice_set real.memory (p - base) a) (q - base))
          (slice_index (slice_set copy.memory (p - base) b) (q - base))
      pick true e =
          inr (set_hit side label real.memory copy.memory (p - base) a b (q - base)
          (ap (λ i. i - base) (eqb-true q p e)) m new)
      pick false e =
          let other = apart_of q p e in
          let away : (q - base) ≢ (p - base) = λ same. other (omega (arith, same, is, iq)) in
          let old = elsewhere (OfByte k p) os (Byte q) _ _ _ (λ same. other (cc)) wait in
          subst (λ v. Waits os (Byte q) (labels.map.bytes q) v (slice_index (slice_set copy.memory (p - base) b)
          (q - base))) (sym (get_or-set_other real.memory (p - base) (q - base) a 0 away))
          (subst (λ v. Waits os (Byte q) (labels.map.bytes q) (slice_index real.memory (q - base)) v)
          (sym (get_or-set_other copy.memory (p - base) (q - base) b 0 away)) old)
  waits_put base (OfByte k p) os label a b labels real held copy taken is new n m (Register q) iq wait =
      elsewhere (OfByte k p) os (Register q) _ _ _ (λ same. absurd (cc)) wait
  waits_put base (OfByte k p) os label a b labels real held copy taken is new n m First iq wait =
      elsewhere (OfByte k p) os First _ _ _ (λ same. absurd (cc)) wait
  waits_put base (OfByte k p) os label a b labels real held copy taken is new n m Second iq wait =
      elsewhere (OfByte k p) os Second _ _ _ (λ same. absurd (cc)) wait
