-- The relation of a real run with its labels to a replay within a turn, and how writes keep it.
use Rattle.std.proofs.Common.{◌≡◌, ℕ, ◌-◌, ◌<◌, ◌≤◌, ◌≢◌, ◌⊎◌, inl, inr, ⊎_elim}
use Rattle.std.proofs.Common.{Bool, true, false, List, length, refl, sym, ap, subst, ◌∙◌, arith}
use Rattle.std.specs.Prelude.{◌==◌, ◌&&◌, nat_lt, if◌then◌else◌, slice_index, slice_set}
use Rattle.std.proofs.lemmas.Bool.{cases_lt, cases_Bool, eqb-true, eq-eqb, ltb-true, lt-ltb, and_parts, and_from}
use Rattle.std.proofs.lemmas.List.{get_or-set_same, get_or-set_other, set_past, get_or_past, length-set}
use Rattle.flow_base.specs.Words.{Agree}
use Rattle.flow_base.specs.declared.points.Point.{Point}
use Rattle.rv32im_machine.specs.declared.language.Place.{Place}
use Rattle.rv32im_machine.specs.declared.language.Place.TheVariants.{Register, Byte, First, Second}
use Rattle.rv32im_machine.specs.State.{Store, with_register, with_byte}
use Rattle.rv32im_machine.specs.Language.{Held, at_place, put, hold, none_held}
use Rattle.shadow_masks.specs.declared.labels.Label.{Label}
use Rattle.shadow_masks.specs.Labels.{clean}
use Rattle.shadow_masks.specs.Pages.{label_of}
use Rattle.run_labels.specs.TurnLabels.{TurnLabels, label_at, put_label, at_start}
use Rattle.acceptance_law.specs.Sides.{NamedSide}
use Rattle.acceptance_law.specs.Inputs.{IsProperPlace, place_limit}
use Rattle.acceptance_law.proofs.AgreeOutsideMask.{agree_refl, agree_zero}

-- two values agree outside a label's mask, and are equal where the second half of its point is outside the side
abbrev pub Close : NamedSide → Label → ℕ → ℕ → Type 0
Close side label real copy = Agree label.mask real copy × (side.second label.point ≡ false → real ≡ copy)

pub close_refl : (side : NamedSide) (label : Label) (value : ℕ) → Close side label value value
close_refl side label value = (agree_refl label.mask value, λ outside. refl)

-- where no bit may depend on the secret the values are equal
pub close_equal : (side : NamedSide) (label : Label) (real copy : ℕ) → label.mask ≡ 0 → Close side label real copy →
    real ≡ copy
close_equal side label real copy none close = agree_zero real copy (subst (λ m. Agree m real copy) none close.0)

pub close_label_of : (side : NamedSide) (mask : ℕ) (point : Point) (real copy : ℕ) → Agree mask real copy →
    (side.second point ≡ false → real ≡ copy) → Close side (label_of mask point) real copy
close_label_of side mask point real copy agree equal = pick (mask == 0) refl
  where
    pick : (t : Bool) → (mask == 0) ≡ t → Close side (if t then clean else record { mask = mask; point = point }) real
        copy
    pick true e =
        let none : mask ≡ 0 = eqb-true mask 0 e in
        let same : real ≡ copy = agree_zero real copy (subst (λ m. Agree m real copy) none agree) in
        subst (λ value. Close side clean real value) same (close_refl side clean real)
    pick false e = (agree, equal)

-- the two sides of a turn: the real values with their labels, and the replay's values
pub record Beside (side : NamedSide) (base : ℕ) (labels : TurnLabels) (real : Store) (held : Held) (copy : Store)
    (taken : Held) : Type 0 where
  pub places : (place : Place) → IsProperPlace base place →
      Close side (label_at labels place) (at_place base real held place) (at_place base copy taken place)
  pub registers : length real.registers ≡ length copy.registers
  pub memory : length real.memory ≡ length copy.memory
  pub real_limits : (place : Place) → at_place base real held place ≤ place_limit place
  pub copy_limits : (place : Place) → at_place base copy taken place ≤ place_limit place
  pub label_limits : (place : Place) → (label_at labels place).mask ≤ place_limit place

-- ---- a list that is written

-- a number of a list that is written is the one that is written or the one that was there
pub set_either : (xs : List ℕ) (i value j : ℕ) →
    (slice_index (slice_set xs i value) j ≡ value) ⊎ (slice_index (slice_set xs i value) j ≡ slice_index xs j)
set_either xs i value j = elim (cases_Bool (j == i)) [
  | inl e ↦ ⊎_elim
      (λ inside. inl (ap (λ k. slice_index (slice_set xs i value) k) (eqb-true j i e)
      ∙ get_or-set_same xs i value 0 inside))
      (λ past. inr (ap (λ ys. slice_index ys j) (set_past xs i value past)))
      (cases_lt i (length xs))
  | inr e ↦ inr (get_or-set_other xs i j value 0 (λ same. absurd (apart (eq-eqb j i same) e)))
]
  where
    apart : {t : Bool} → t ≡ true → t ≡ false → ⊥
    apart p q = cc

pub set_hit : (side : NamedSide) (label : Label) (xs ys : List ℕ) (i a b j : ℕ) → j ≡ i → length xs ≡ length ys →
    Close side label a b → Close side label (slice_index (slice_set xs i a) j) (slice_index (slice_set ys i b) j)
set_hit side label xs ys i a b j is same new =
    subst (λ k. Close side label (slice_index (slice_set xs i a) k) (slice_index (slice_set ys i b) k)) (sym is)
    (⊎_elim
    (λ inside.
    subst (λ v. Close side label v (slice_index (slice_set ys i b) i)) (sym (get_or-set_same xs i a 0 inside))
    (subst (λ v. Close side label a v) (sym (get_or-set_same ys i b 0 (subst (λ n. i < n) same inside))) new))
    (λ past.
    let none : slice_index (slice_set xs i a) i ≡ 0 =
    ap (λ zs. slice_index zs i) (set_past xs i a past) ∙ get_or_past xs i 0 past in
    let past' : length ys ≤ i = subst (λ n. n ≤ i) same past in
    let none' : slice_index (slice_set ys i b) i ≡ 0 =
    ap (λ zs. slice_index zs i) (set_past ys i b past') ∙ get_or_past ys i 0 past' in
    subst (λ v. Close side label v (slice_index (slice_set ys i b) i)) (sym none)
    (subst (λ v. Close side label 0 v) (sym none') (close_refl side label 0)))
    (cases_lt i (length xs)))

pub set_close : (side : NamedSide) (label old : Label) (xs ys : List ℕ) (i a b j : ℕ) (t : Bool) →
    (t ≡ true → j ≡ i) → (t ≡ false → j ≢ i) → length xs ≡ length ys → Close side label a b →
    Close side old (slice_index xs j) (slice_index ys j) →
    Close side (if t then label else old) (slice_index (slice_set xs i a) j) (slice_index (slice_set ys i b) j)
set_close side label old xs ys i a b j true is other same new close =
    set_hit side label xs ys i a b j (is refl) same new
set_close side label old xs ys i a b j false is other same new close =
    subst (λ v. Close side old v (slice_index (slice_set ys i b) j)) (sym (get_or-set_other xs i j a 0 (other refl)))
    (subst (λ v. Close side old (slice_index xs j) v) (sym (get_or-set_other ys i j b 0 (other refl))) close)

-- ---- one write

pub not_alike : {t : Bool} → t ≡ true → t ≡ false → ⊥
not_alike p q = cc

pub apart_of : (a b : ℕ) → (a == b) ≡ false → a ≢ b
apart_of a b e same = not_alike (eq-eqb a b same) e

-- a write to x0 is dropped, and its label stays
register_close : (side : NamedSide) (label : Label) (labels : ℕ → Label) (xs ys : List ℕ) (r a b q : ℕ) →
    length xs ≡ length ys → Close side label a b → Close side (labels q) (slice_index xs q) (slice_index ys q) →
    Close side (if nat_lt 0 q && q == r then label else labels q)
    (slice_index (if r == 0 then xs else slice_set xs r a) q) (slice_index (if r == 0 then ys else slice_set ys r b) q)
register_close side label labels xs ys r a b q same new close = pick (r == 0) refl
  where
    none : r ≡ 0 → (t : Bool) → (nat_lt 0 q && q == r) ≡ t → Close side (if t then label else labels q)
        (slice_index xs q) (slice_index ys q)
    none e false is = close
    none e true is =
        let both = and_parts (nat_lt 0 q) (q == r) is in
        absurd (omega (arith, e, ltb-true 0 q both.0, eqb-true q r both.1))

    other : (r == 0) ≡ false → (nat_lt 0 q && q == r) ≡ false → q ≢ r
    other e is alike =
        let some : r ≢ 0 = apart_of r 0 e in
        let more : 0 < q = omega (arith, alike, some) in
        not_alike (and_from (nat_lt 0 q) (q == r) (lt-ltb 0 q more) (eq-eqb q r alike)) is

    pick : (s : Bool) → (r == 0) ≡ s → Close side (if nat_lt 0 q && q == r then label else labels q)
        (slice_index (if s then xs else slice_set xs r a) q) (slice_index (if s then ys else slice_set ys r b) q)
    pick true e = none (eqb-true r 0 e) (nat_lt 0 q && q == r) refl
    pick false e =
        set_close side label (labels q) xs ys r a b q (nat_lt 0 q && q == r)
        (λ is. eqb-true q r (and_parts (nat_lt 0 q) (q == r) is).1) (λ is. other e is) same new close

pub put_close : (side : NamedSide) (base : ℕ) (p : Place) (label : Label) (a b : ℕ) (labels : TurnLabels)
    (real : Store) (held : Held) (copy : Store) (taken : Held) → IsProperPlace base p → Close side label a b →
    length real.registers ≡ length copy.registers → length real.memory ≡ length copy.memory →
    (q : Place) → IsProperPlace base q →
    Close side (label_at labels q) (at_place base real held q) (at_place base copy taken q) →
    Close side (label_at (put_label p label labels) q) (at_place base (put base p a real) (hold p a held) q)
    (at_place base (put base p b copy) (hold p b taken) q)
unfolding with_register with_byte
put_close side base (Register r) label a b labels real held copy taken is new n m (Register q) iq close =
    register_close side label labels.map.registers real.registers copy.registers r a b q n new close
put_close side base (Register r) label a b labels real held copy taken is new n m (Byte q) iq close = close
put_close side base (Register r) label a b labels real held copy taken is new n m First iq close = close
put_close side base (Register r) label a b labels real held copy taken is new n m Second iq close = close
put_close side base (Byte p) label a b labels real held copy taken is new n m (Register q) iq close = close
put_close side base (Byte p) label a b labels real held copy taken is new n m (Byte q) iq close =
    set_close side label (labels.map.bytes q) real.memory copy.memory (p - base) a b (q - base) (q == p)
    (λ e. ap (λ k. k - base) (eqb-true q p e))
    (λ e same. apart_of q p e (omega (arith, is, iq, same))) m new close
put_close side base (Byte p) label a b labels real held copy taken is new n m First iq close = close
put_close side base (Byte p) label a b labels real held copy taken is new n m Second iq close = close
put_close side base First label a b labels real held copy taken is new n m (Register q) iq close = close
put_close side base First label a b labels real held copy taken is new n m (Byte q) iq close = close
put_close side base First label a b labels real held copy taken is new n m First iq close = new
put_close side base First label a b labels real held copy taken is new n m Second iq close = close
put_close side base Second label a b labels real held copy taken is new n m (Register q) iq close = close
put_close side base Second label a b labels real held copy taken is new n m (Byte q) iq close = close
put_close side base Second label a b labels real held copy taken is new n m First iq close = close
put_close side base Second label a b labels real held copy taken is new n m Second iq close = new

-- ---- limits

limit_either : (xs : List ℕ) (i value j limit : ℕ) → value ≤ limit → slice_index xs j ≤ limit →
    slice_index (slice_set xs i value) j ≤ limit
limit_either xs i value j limit new old = ⊎_elim
    (λ e. subst (λ v. v ≤ limit) (sym e) new) (λ e. subst (λ v. v ≤ limit) (sym e) old) (set_either xs i value j)

limit_unless : (t : Bool) (xs ys : List ℕ) (j limit : ℕ) → slice_index xs j ≤ limit → slice_index ys j ≤ limit →
    slice_index (if t then xs else ys) j ≤ limit
limit_unless true xs ys j limit p q = p
limit_unless false xs ys j limit p q = q

pub put_limits : (base : ℕ) (p : Place) (value : ℕ) (store : Store) (held : Held) → value ≤ place_limit p →
    (q : Place) → at_place base store held q ≤ place_limit q →
    at_place base (put base p value store) (hold p value held) q ≤ place_limit q
unfolding with_register with_byte
put_limits base (Register r) value store held new (Register q) old =
    limit_unless (r == 0) store.registers (slice_set store.registers r value) q 4294967295 old
    (limit_either store.registers r value q 4294967295 new old)
put_limits base (Register r) value store held new (Byte q) old = old
put_limits base (Register r) value store held new First old = old
put_limits base (Register r) value store held new Second old = old
put_limits base (Byte p) value store held new (Register q) old = old
put_limits base (Byte p) value store held new (Byte q) old =
    limit_either store.memory (p - base) value (q - base) 255 new old
put_limits base (Byte p) value store held new First old = old
put_limits base (Byte p) value store held new Second old = old
put_limits base First value store held new (Register q) old = old
put_limits base First value store held new (Byte q) old = old
put_limits base First value store held new First old = new
put_limits base First value store held new Second old = old
put_limits base Second value store held new (Register q) old = old
put_limits base Second value store held new (Byte q) old = old
put_limits base Second value store held new First old = old
put_limits base Second value store held new Second old = new

label_if : (t : Bool) (label old : Label) (limit : ℕ) → label.mask ≤ limit → old.mask ≤ limit →
    (if t then label else old).mask ≤ limit
label_if true label old limit p q = p
label_if false label old limit p q = q

pub put_label_limits : (p : Place) (label : Label) (labels : TurnLabels) → label.mask ≤ place_limit p →
    (q : Place) → (label_at labels q).mask ≤ place_limit q → (label_at
    (put_label p label labels) q).mask ≤ place_limit q
put_label_limits (Register r) label labels new (Register q) old =
    label_if (nat_lt 0 q && q == r) label (labels.map.registers q) 4294967295 new old
put_label_limits (Register r) label labels new (Byte q) old = old
put_label_limits (Register r) label labels new First old = old
put_label_limits (Register r) label labels new Second old = old
put_label_limits (Byte p) label labels new (Register q) old = old
put_label_limits (Byte p) label labels new (Byte q) old = label_if (q == p) label (labels.map.bytes q) 255 new old
put_label_limits (Byte p) label labels new First old = old
put_label_limits (Byte p) label labels new Second old = old
put_label_limits First label labels new (Register q) old = old
put_label_limits First label labels new (Byte q) old = old
put_label_limits First label labels new First old = new
put_label_limits First label labels new Second old = old
put_label_limits Second label labels new (Register q) old = old
put_label_limits Second label labels new (Byte q) old = old
put_label_limits Second label labels new First old = old
put_label_limits Second label labels new Second old = new

-- ---- what stays

length_unless : (t : Bool) (xs ys : List ℕ) → length xs ≡ length ys → length (if t then xs else ys) ≡ length xs
length_unless true xs ys e = refl
length_unless false xs ys e = sym e

pub put_registers : (base : ℕ) (p : Place) (value : ℕ) (store : Store) →
    length (put base p value store).registers ≡ length store.registers
unfolding with_register with_byte
put_registers base (Register r) value store =
    length_unless (r == 0) store.registers (slice_set store.registers r value)
    (sym (length-set store.registers r value))
put_registers base (Byte p) value store = refl
put_registers base First value store = refl
put_registers base Second value store = refl

pub put_memory : (base : ℕ) (p : Place) (value : ℕ) (store : Store) →
    length (put base p value store).memory ≡ length store.memory
unfolding with_register with_byte
put_memory base (Register r) value store = refl
put_memory base (Byte p) value store = length-set store.memory (p - base) value
put_memory base First value store = refl
put_memory base Second value store = refl

pub put_kept : (base : ℕ) (p : Place) (value : ℕ) (store : Store) → (put base p value store).kept ≡ store.kept
unfolding with_register with_byte
put_kept base (Register r) value store = refl
put_kept base (Byte p) value store = refl
put_kept base First value store = refl
put_kept base Second value store = refl

pub put_label_kept : (p : Place) (label : Label) (labels : TurnLabels) →
    (put_label p label labels).map.kept ≡ labels.map.kept
put_label_kept (Register r) label labels = refl
put_label_kept (Byte p) label labels = refl
put_label_kept First label labels = refl
put_label_kept Second label labels = refl

-- ---- the relation

pub put_beside : (side : NamedSide) (base : ℕ) (p : Place) (label : Label) (a b : ℕ) (labels : TurnLabels)
    (real : Store) (held : Held) (copy : Store) (taken : Held) → IsProperPlace base p → Close side label a b →
    a ≤ place_limit p → b ≤ place_limit p → label.mask ≤ place_limit p →
    Beside side base labels real held copy taken →
    Beside side base (put_label p label labels) (put base p a real) (hold p a held) (put base p b copy) (hold p b taken)
put_beside side base p label a b labels real held copy taken is new la lb lm old = record {
  places = λ q iq. put_close side base p label a b labels real held copy taken is new old.registers old.memory q iq
      (old.places q iq);
  registers = put_registers base p a real ∙ old.registers ∙ sym (put_registers base p b copy);
  memory = put_memory base p a real ∙ old.memory ∙ sym (put_memory base p b copy);
  real_limits = λ q. put_limits base p a real held la q (old.real_limits q);
  copy_limits = λ q. put_limits base p b copy taken lb q (old.copy_limits q);
  label_limits = λ q. put_label_limits p label labels lm q (old.label_limits q);
}

-- a turn begins with no operand
pub fresh_beside : (side : NamedSide) (base : ℕ) (labels : TurnLabels) (real : Store) (held : Held) (copy : Store)
    (taken : Held) → Beside side base labels real held copy taken →
    Beside side base (at_start labels.map) real none_held copy none_held
fresh_beside side base labels real held copy taken old = record {
  places = places;
  registers = old.registers;
  memory = old.memory;
  real_limits = limits real held old.real_limits;
  copy_limits = limits copy taken old.copy_limits;
  label_limits = label_limits;
}
  where
    places : (q : Place) → IsProperPlace base q →
        Close side (label_at (at_start labels.map) q) (at_place base real none_held q) (at_place base copy none_held q)
    places (Register q) iq = old.places (Register q) iq
    places (Byte q) iq = old.places (Byte q) iq
    places First iq = close_refl side clean 0
    places Second iq = close_refl side clean 0

    limits : (store : Store) (h : Held) → ((q : Place) → at_place base store h q ≤ place_limit q) →
        (q : Place) → at_place base store none_held q ≤ place_limit q
    limits store h l (Register q) = l (Register q)
    limits store h l (Byte q) = l (Byte q)
    limits store h l First = omega arith
    limits store h l Second = omega arith

    label_limits : (q : Place) → (label_at (at_start labels.map) q).mask ≤ place_limit q
    label_limits (Register q) = old.label_limits (Register q)
    label_limits (Byte q) = old.label_limits (Byte q)
    label_limits First = omega arith
    label_limits Second = omega arith
