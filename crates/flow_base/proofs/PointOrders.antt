-- Points are the same where they are one, and points with slots that turns pass are ordered by the numbers of the slots.
use Rattle.std.proofs.Common.{◌≡◌, ℕ, ◌+◌, ◌<◌, ◌≤◌, ◌==◌, Bool, true, false, refl, sym, ap, ◌∙◌, arith, cond}
use Rattle.std.proofs.Common.{nat_lt, nat_le, nat_eq, inl, inr}
use Rattle.std.specs.Cmp.{IsTotalOrder}
use Rattle.std.specs.Ordering.{is_eq, is_lt, ordering_then, ordering_reverse, nat_cmp}
use Rattle.std.specs.declared.cmp.Ordering.{Ordering}
use Rattle.std.specs.declared.cmp.Ordering.TheVariants.{Less, Equal, Greater}
use Rattle.std.proofs.lemmas.Bool.{and_parts, cases_Bool, cases_order, cond-false, cond-true, eq-eqb, leb-true, le-ltb}
use Rattle.std.proofs.lemmas.Bool.{lt-ltb, ne_eqb}
use Rattle.std.proofs.lemmas.Cmp.{tied_itself}
use Rattle.flow_base.specs.declared.points.Point.{Point}
use Rattle.flow_base.specs.declared.points.Slot.{Slot}
use Rattle.flow_base.specs.declared.points.Slot.TheVariants.{First, Second, Address, Result, Decision, Number, Arg0, Arg1}
use Rattle.flow_base.specs.declared.points.Slot.TheVariants.{Arg2, SecretIn, ByteOut, Status, OutReg, OutRange}
use Rattle.flow_base.specs.contracts.points.SlotOrd.TheImpl as slot_ord
use Rattle.flow_base.specs.contracts.points.PointOrd.TheImpl.Laws.{total-law}
use Rattle.flow_base.specs.Points.{is_slot, slot_number}
use Rattle.flow_base.specs.PointOrders.{is_below, is_same, point_cmp}

abbrev pub slot_cmp : Slot → Slot → Ordering
slot_cmp = (slot_ord.ghosts).cmp

pub point_total : IsTotalOrder point_cmp
point_total = total-law

pub is_equal : (o : Ordering) → is_eq o ≡ true → o ≡ Equal
is_equal Less e = absurd (cc)
is_equal Equal e = refl
is_equal Greater e = absurd (cc)

-- ---- the same

pub nat_equal : (a b : ℕ) → nat_cmp a b ≡ Equal → a ≡ b
nat_equal a b e = elim (cases_order a b) [
  | inl same ↦ same
  | inr (inl less) ↦
      let no : nat_cmp a b ≡ Less = cond-true (nat_lt a b) Less _ (lt-ltb a b less) in absurd (cc)
  | inr (inr more) ↦
      let no : nat_cmp a b ≡ Greater = cond-false (nat_lt a b) Less _ (le-ltb a b (omega arith))
      ∙ cond-false (nat_eq a b) Equal Greater (ne_eqb a b (λ s. omega (arith, s, more))) in absurd (cc)
]

-- one look tells that an order is not Equal
differs : (o : Ordering) → is_eq o ≡ false → o ≡ Equal → ⊥
differs Less other e = cc
differs Equal other e = cc
differs Greater other e = cc

slot_equal : (s t : Slot) → slot_cmp s t ≡ Equal → s ≡ t
slot_equal First First e = refl
slot_equal First t e = absurd (differs (slot_cmp First t) refl e)
slot_equal Second Second e = refl
slot_equal Second t e = absurd (differs (slot_cmp Second t) refl e)
slot_equal Address Address e = refl
slot_equal Address t e = absurd (differs (slot_cmp Address t) refl e)
slot_equal Result Result e = refl
slot_equal Result t e = absurd (differs (slot_cmp Result t) refl e)
slot_equal Decision Decision e = refl
slot_equal Decision t e = absurd (differs (slot_cmp Decision t) refl e)
slot_equal Number Number e = refl
slot_equal Number t e = absurd (differs (slot_cmp Number t) refl e)
slot_equal Arg0 Arg0 e = refl
slot_equal Arg0 t e = absurd (differs (slot_cmp Arg0 t) refl e)
slot_equal Arg1 Arg1 e = refl
slot_equal Arg1 t e = absurd (differs (slot_cmp Arg1 t) refl e)
slot_equal Arg2 Arg2 e = refl
slot_equal Arg2 t e = absurd (differs (slot_cmp Arg2 t) refl e)
slot_equal SecretIn SecretIn e = refl
slot_equal SecretIn t e = absurd (differs (slot_cmp SecretIn t) refl e)
slot_equal ByteOut ByteOut e = refl
slot_equal ByteOut t e = absurd (differs (slot_cmp ByteOut t) refl e)
slot_equal Status Status e = refl
slot_equal Status t e = absurd (differs (slot_cmp Status t) refl e)
slot_equal (OutReg n) (OutReg m) e = ap (λ k. OutReg k) (nat_equal n m e)
slot_equal (OutReg n) t e = absurd (differs (slot_cmp (OutReg n) t) refl e)
slot_equal (OutRange n) (OutRange m) e = ap (λ k. OutRange k) (nat_equal n m e)
slot_equal (OutRange n) t e = absurd (differs (slot_cmp (OutRange n) t) refl e)

then_both : (o r : Ordering) → ordering_then o r ≡ Equal → (o ≡ Equal) × (r ≡ Equal)
then_both Less r e = absurd (cc)
then_both Equal r e = (refl, e)
then_both Greater r e = absurd (cc)

-- points that are the same are one
pub one_if_same : (p q : Point) → is_same p q ≡ true → p ≡ q
one_if_same p q same =
    let whole = then_both _ _ (is_equal (point_cmp p q) same) in
    let later = then_both _ _ whole.1 in
    let region : p.region ≡ q.region = nat_equal p.region q.region whole.0 in
    let address : p.address ≡ q.address = nat_equal p.address q.address later.0 in
    let slot : p.slot ≡ q.slot = slot_equal p.slot q.slot later.1 in
    ap (λ (n : ℕ). record { region = n; address = p.address; slot = p.slot }) region
    ∙ (ap (λ (n : ℕ). record { region = q.region; address = n; slot = p.slot }) address
    ∙ ap (λ (s : Slot). record { region = q.region; address = q.address; slot = s }) slot)

pub same_self : (p : Point) → is_same p p ≡ true
same_self p = ap is_eq (tied_itself point_total p)

pub one_same : (p q : Point) → p ≡ q → is_same p q ≡ true
one_same p q one = ap (λ (x : Point). is_same p x) (sym one) ∙ same_self p

-- ---- numbers

less_number : (l e : Bool) → is_lt (cond l Less (cond e Equal Greater)) ≡ l
less_number true e = refl
less_number false true = refl
less_number false false = refl

pub is_lt_number : (n m : ℕ) → is_lt (nat_cmp n m) ≡ nat_lt n m
is_lt_number n m = less_number (nat_lt n m) (n == m)

nat_less : (n m : ℕ) → n < m → nat_cmp n m ≡ Less
nat_less n m less = cond-true (nat_lt n m) Less _ (lt-ltb n m less)

nat_more : (n m : ℕ) → m < n → nat_cmp n m ≡ Greater
nat_more n m more = cond-false (nat_lt n m) Less _ (le-ltb n m (omega arith))
    ∙ cond-false (nat_eq n m) Equal Greater (ne_eqb n m (λ s. omega (arith, s, more)))

shifted : (k n m : ℕ) → nat_cmp n m ≡ nat_cmp (k + n) (k + m)
shifted k n m = elim (cases_order n m) [
  | inl same ↦
      ap (λ i. nat_cmp n i) (sym same)
      ∙ (nat_same n ∙ (sym (nat_same (k + n)) ∙ ap (λ i. nat_cmp (k + n) (k + i)) same))
  | inr (inl less) ↦ nat_less n m less ∙ sym (nat_less (k + n) (k + m) (omega (arith, less)))
  | inr (inr more) ↦ nat_more n m more ∙ sym (nat_more (k + n) (k + m) (omega (arith, more)))
]
  where
    nat_same : (n : ℕ) → nat_cmp n n ≡ Equal
    nat_same n =
        cond-false (nat_lt n n) Less _ (le-ltb n n (omega arith))
        ∙ cond-true (nat_eq n n) Equal Greater (eq-eqb n n refl)

-- the numbers of registers come after all others, those of ranges after these
first_register : (register : ℕ) → is_slot (OutReg register) ≡ true → 1 ≤ register
first_register register valid =
    leb-true 1 register (and_parts (nat_le 1 register) (nat_le register 31) valid).0

last_register : (register : ℕ) → is_slot (OutReg register) ≡ true → register ≤ 31
last_register register valid =
    leb-true register 31 (and_parts (nat_le 1 register) (nat_le register 31) valid).1

to_register : (k register : ℕ) → k ≤ 12 → is_slot (OutReg register) ≡ true → Less ≡ nat_cmp k (12 + register)
to_register k register small valid =
    let first : 1 ≤ register = first_register register valid in
    sym (nat_less k (12 + register) (omega (arith, small, first)))

from_register : (k register : ℕ) → k ≤ 12 → is_slot (OutReg register) ≡ true → Greater ≡ nat_cmp (12 + register) k
from_register k register small valid =
    let first : 1 ≤ register = first_register register valid in
    sym (nat_more (12 + register) k (omega (arith, small, first)))

to_range : (k range : ℕ) → k ≤ 12 → Less ≡ nat_cmp k (44 + range)
to_range k range small = sym (nat_less k (44 + range) (omega (arith, small)))

from_range : (k range : ℕ) → k ≤ 12 → Greater ≡ nat_cmp (44 + range) k
from_range k range small = sym (nat_more (44 + range) k (omega (arith, small)))

-- slots are ordered by their numbers
pub slots_numbered : (s t : Slot) → is_slot s ≡ true → is_slot t ≡ true →
    slot_cmp s t ≡ nat_cmp (slot_number s) (slot_number t)
slots_numbered First (OutReg m) a b = to_register 1 m (omega arith) b
slots_numbered First (OutRange m) a b = to_range 1 m (omega arith)
slots_numbered First t a b = refl
slots_numbered Second (OutReg m) a b = to_register 2 m (omega arith) b
slots_numbered Second (OutRange m) a b = to_range 2 m (omega arith)
slots_numbered Second t a b = refl
slots_numbered Address (OutReg m) a b = to_register 3 m (omega arith) b
slots_numbered Address (OutRange m) a b = to_range 3 m (omega arith)
slots_numbered Address t a b = refl
slots_numbered Result (OutReg m) a b = to_register 4 m (omega arith) b
slots_numbered Result (OutRange m) a b = to_range 4 m (omega arith)
slots_numbered Result t a b = refl
slots_numbered Decision (OutReg m) a b = to_register 5 m (omega arith) b
slots_numbered Decision (OutRange m) a b = to_range 5 m (omega arith)
slots_numbered Decision t a b = refl
slots_numbered Number (OutReg m) a b = to_register 6 m (omega arith) b
slots_numbered Number (OutRange m) a b = to_range 6 m (omega arith)
slots_numbered Number t a b = refl
slots_numbered Arg0 (OutReg m) a b = to_register 7 m (omega arith) b
slots_numbered Arg0 (OutRange m) a b = to_range 7 m (omega arith)
slots_numbered Arg0 t a b = refl
slots_numbered Arg1 (OutReg m) a b = to_register 8 m (omega arith) b
slots_numbered Arg1 (OutRange m) a b = to_range 8 m (omega arith)
slots_numbered Arg1 t a b = refl
slots_numbered Arg2 (OutReg m) a b = to_register 9 m (omega arith) b
slots_numbered Arg2 (OutRange m) a b = to_range 9 m (omega arith)
slots_numbered Arg2 t a b = refl
slots_numbered SecretIn (OutReg m) a b = to_register 10 m (omega arith) b
slots_numbered SecretIn (OutRange m) a b = to_range 10 m (omega arith)
slots_numbered SecretIn t a b = refl
slots_numbered ByteOut (OutReg m) a b = to_register 11 m (omega arith) b
slots_numbered ByteOut (OutRange m) a b = to_range 11 m (omega arith)
slots_numbered ByteOut t a b = refl
slots_numbered Status (OutReg m) a b = to_register 12 m (omega arith) b
slots_numbered Status (OutRange m) a b = to_range 12 m (omega arith)
slots_numbered Status t a b = refl
slots_numbered (OutReg n) (OutReg m) a b = shifted 12 n m
slots_numbered (OutReg n) (OutRange m) a b =
    let last : n ≤ 31 = last_register n a in sym (nat_less (12 + n) (44 + m) (omega (arith, last)))
slots_numbered (OutReg n) t a b = from_register (slot_number t) n (omega arith) a
slots_numbered (OutRange n) (OutRange m) a b = shifted 44 n m
slots_numbered (OutRange n) (OutReg m) a b =
    let last : m ≤ 31 = last_register m b in sym (nat_more (44 + n) (12 + m) (omega (arith, last)))
slots_numbered (OutRange n) t a b = from_range (slot_number t) n (omega arith)

pub points_numbered : (p q : Point) → is_slot p.slot ≡ true → is_slot q.slot ≡ true →
    point_cmp p q
    ≡ ordering_then (nat_cmp p.region q.region)
    (ordering_then (nat_cmp p.address q.address) (nat_cmp (slot_number p.slot) (slot_number q.slot)))
points_numbered p q a b =
    ap (λ slots. ordering_then (nat_cmp p.region q.region) (ordering_then (nat_cmp p.address q.address) slots))
    (slots_numbered p.slot q.slot a b)

-- ---- the order

less : (o : Ordering) → is_lt o ≡ true → o ≡ Less
less Less e = refl
less Equal e = absurd (cc)
less Greater e = absurd (cc)

pub below_trans : (a b c : Point) → is_below a b ≡ true → is_below b c ≡ true → is_below a c ≡ true
below_trans a b c first second =
    ap is_lt (point_total.trans a b c (less (point_cmp a b) first) (less (point_cmp b c) second))

pub below_other : (a b : Point) → is_below a b ≡ true → is_same a b ≡ false
below_other a b below = ap is_eq (less (point_cmp a b) below)

pub other_sym : (a b : Point) → is_same a b ≡ false → is_same b a ≡ false
other_sym a b other = elim (cases_Bool (is_same b a)) [
  | inl same ↦ let turned : is_same a b ≡ true = one_same a b (sym (one_if_same b a same)) in absurd (cc)
  | inr apart ↦ apart
]

-- of two points that are not the same one is below the other
pub below_total : (c p : Point) → is_same c p ≡ false → is_below p c ≡ false → is_below c p ≡ true
below_total c p other high = pick (point_cmp c p) refl
  where
    pick : (o : Ordering) → point_cmp c p ≡ o → is_below c p ≡ true
    pick Less e = ap is_lt e
    pick Equal e = let same : is_same c p ≡ true = ap is_eq e in absurd (cc)
    pick Greater e =
        let turned : is_below p c ≡ true = ap is_lt (point_total.antisymm p c ∙ ap ordering_reverse e) in absurd (cc)
