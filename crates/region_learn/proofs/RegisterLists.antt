-- Registers in order are those that are picked.
use Rattle.std.proofs.Common.{◌≡◌, ◌∙◌, ℕ, ◌<◌, ◌≤◌, ◌==◌, ◌||◌, nat_le, nat_lt, true, false, List, [], ◌∷◌, ◌++◌}
use Rattle.std.proofs.Common.{Some, None, refl, ap, sym, arith, inl, inr, append_assoc, append-nil}
use Rattle.std.specs.Prelude.{option_and_then, map}
use Rattle.std.specs.List.{filter, find, list_all}
use Rattle.std.proofs.lemmas.Grind.{common_steps}
use Rattle.std.proofs.lemmas.Bool.{agree_below_at, and_parts, leb-true, cases_Bool, cond-true, cond-false}
use Rattle.std.proofs.lemmas.Bool.{cases_order, or_left, eq-eqb, both_ways, and_from, lt-ltb}
use Rattle.serde_json.specs.View.{items_of}
use Rattle.enclosure_regions.specs.Orders.{all_registers, in_order, lowest_twice, stands_twice, times}
use Rattle.enclosure_regions.specs.Regions.{are_apart, are_registers, ascends_above, is_register}
use Rattle.enclosure_regions.specs.Shapes.{registers_onto, registers_at}
use Rattle.region_learn.specs.RegionTexts.{register_data, registers_data}
use Rattle.region_learn.proofs.RegisterTexts.{register_own}
use Rattle.flow_base.specs.Listed.{is_listed}

-- ---- they are read

registers_put_onto : (registers found : List ℕ) → list_all is_register registers ≡ true →
    registers_onto found (items_of (map register_data registers)) ≡ Some (found ++ registers)
registers_put_onto [] found known = ap Some (sym (append-nil found))
registers_put_onto (register ∷ registers) found known =
    let parts = and_parts (is_register register) (list_all is_register registers) known in
    ap (option_and_then (λ (r : ℕ). registers_onto (found ++ r ∷ []) (items_of (map register_data registers))))
    (register_own register parts.0)
    ∙ registers_put_onto registers (found ++ register ∷ []) parts.1
    ∙ ap Some (append_assoc found (register ∷ []) registers)

pub registers_own : (registers : List ℕ) → list_all is_register registers ≡ true →
    registers_at (registers_data registers) ≡ Some registers
registers_own registers known = registers_put_onto registers [] known

-- ---- they are picked

all_ascend : ascends_above 0 all_registers ≡ true
unfolding all_registers
all_ascend = refl

listed : (register : ℕ) → is_register register ≡ true → is_listed all_registers register ≡ true
unfolding all_registers
listed register known =
    let small : register < 32 =
    omega (arith, leb-true register 31 (and_parts (nat_le 1 register) (nat_le register 31) known).1) in
    agree_below_at (λ (r : ℕ). is_listed all_registers r) is_register 32 register refl small ∙ known

all_listed : (registers : List ℕ) → list_all is_register registers ≡ true →
    list_all (λ r. is_listed all_registers r) registers ≡ true
all_listed [] known = refl
all_listed (register ∷ registers) known = grind (arith, common_steps, listed register, all_listed registers)

none_below : (lowest : ℕ) (numbers : List ℕ) (number : ℕ) → ascends_above lowest numbers ≡ true → number ≤ lowest →
    is_listed numbers number ≡ false
none_below lowest [] number known le = refl
none_below lowest (first ∷ numbers) number known le =
    grind (arith, common_steps, none_below first numbers number)

none_picked : (all : List ℕ) → filter (λ (r : ℕ). is_listed [] r) all ≡ []
none_picked [] = refl
none_picked (first ∷ all) = none_picked all

-- the first number is picked from none that is above it
first_aside : (first : ℕ) (numbers : List ℕ) (lowest : ℕ) (all : List ℕ) → ascends_above lowest all ≡ true →
    first ≤ lowest →
    filter (λ (r : ℕ). is_listed (first ∷ numbers) r) all ≡ filter (λ (r : ℕ). is_listed numbers r) all
first_aside first numbers lowest [] known le = refl
first_aside first numbers lowest (other ∷ all) known le =
    grind (arith, common_steps, first_aside first numbers other all)

others_stand : (first : ℕ) (all numbers : List ℕ) (lowest : ℕ) → first ≤ lowest →
    ascends_above lowest numbers ≡ true → list_all (λ r. is_listed (first ∷ all) r) numbers ≡ true →
    list_all (λ r. is_listed all r) numbers ≡ true
others_stand first all [] lowest le known stand = refl
others_stand first all (number ∷ numbers) lowest le known stand =
    grind (arith, common_steps, others_stand first all numbers number)

stands_behind : (first number : ℕ) (all : List ℕ) → number < first → is_listed (first ∷ all) number ≡ true →
    is_listed all number ≡ true
stands_behind first number all below stands = grind (arith, common_steps)

picked : (all numbers : List ℕ) (low lowest : ℕ) → ascends_above low all ≡ true →
    ascends_above lowest numbers ≡ true → list_all (λ r. is_listed all r) numbers ≡ true →
    filter (λ (r : ℕ). is_listed numbers r) all ≡ numbers
picked all [] low lowest ascend known stand = none_picked all
picked [] (number ∷ numbers) low lowest ascend known stand = absurd cc
picked (first ∷ all) (number ∷ numbers) low lowest ascend known stand =
    let above = and_parts (nat_lt low first) (ascends_above first all) ascend in
    let more = and_parts (nat_lt lowest number) (ascends_above number numbers) known in
    let stands = and_parts (is_listed (first ∷ all) number) (list_all (λ r. is_listed (first ∷ all) r) numbers) stand in
    elim (cases_order number first) [
      | inl same ↦
          cond-true (number == first || is_listed numbers first) _ _
          (or_left (number == first) (is_listed numbers first) (eq-eqb number first same))
          ∙ ap (λ (l : List ℕ). first ∷ l) (first_aside number numbers first all above.1 (omega (arith, same))
          ∙ picked all numbers first number above.1 more.1
          (others_stand first all numbers number (omega (arith, same)) more.1 stands.1))
          ∙ ap (λ (n : ℕ). n ∷ numbers) (sym same)
      | inr (inl below) ↦ absurd (both_ways (is_listed all number)
          (none_below first all number above.1 (omega (arith, below)))
          (stands_behind first number all (omega (arith, below)) stands.0))
      | inr (inr greater) ↦
          let ascends : ascends_above first (number ∷ numbers) ≡ true =
          and_from (nat_lt first number) (ascends_above number numbers) (lt-ltb first number greater) more.1 in
          cond-false (number == first || is_listed numbers first) _ _
          (none_below first (number ∷ numbers) first ascends (omega arith))
          ∙ picked all (number ∷ numbers) first lowest above.1 known
          (others_stand first all (number ∷ numbers) first (omega arith) ascends stand)
    ]

pub in_order_own : (registers : List ℕ) → are_registers registers ≡ true → in_order registers ≡ registers
in_order_own registers known =
    let parts = and_parts (list_all is_register registers) (ascends_above 0 registers) known in
    picked all_registers registers 0 0 all_ascend parts.1 (all_listed registers parts.0)

-- ---- none stands twice

never : (numbers : List ℕ) (number : ℕ) → is_listed numbers number ≡ false → times numbers number ≡ 0
never [] number none = refl
never (first ∷ numbers) number none = grind (arith, common_steps, never numbers number)

once : (lowest : ℕ) (numbers : List ℕ) (number : ℕ) → ascends_above lowest numbers ≡ true → times numbers number ≤ 1
once lowest [] number known = omega arith
once lowest (first ∷ numbers) number known =
    grind (arith, common_steps, once first numbers number, never numbers number, none_below first numbers number)

apart_at : (outs keep : List ℕ) (number : ℕ) → are_apart outs keep ≡ true → is_listed outs number ≡ true →
    is_listed keep number ≡ false
apart_at [] keep number apart stands = absurd cc
apart_at (first ∷ outs) keep number apart stands = grind (arith, common_steps, apart_at outs keep number)

not_twice : (outs keep : List ℕ) (number : ℕ) → ascends_above 0 outs ≡ true → ascends_above 0 keep ≡ true →
    are_apart outs keep ≡ true → stands_twice outs keep number ≡ false
not_twice outs keep number first second apart =
    let one = once 0 outs number first in
    let other = once 0 keep number second in
    elim (cases_Bool (is_listed outs number)) [
      | inl stands ↦ let none = never keep number (apart_at outs keep number apart stands) in grind (arith, common_steps)
      | inr none ↦ let none2 = never outs number none in grind (arith, common_steps)
    ]

none_twice : (outs keep all : List ℕ) → ((number : ℕ) → stands_twice outs keep number ≡ false) →
    find (stands_twice outs keep) all ≡ None
none_twice outs keep [] h = refl
none_twice outs keep (first ∷ all) h =
    cond-false (stands_twice outs keep first) _ _ (h first) ∙ none_twice outs keep all h

pub lowest_twice_none : (outs keep : List ℕ) → are_registers outs ≡ true → are_registers keep ≡ true →
    are_apart outs keep ≡ true → lowest_twice outs keep ≡ None
lowest_twice_none outs keep first second apart =
    let outs-known = and_parts (list_all is_register outs) (ascends_above 0 outs) first in
    let keep-known = and_parts (list_all is_register keep) (ascends_above 0 keep) second in
    none_twice outs keep all_registers (λ number. not_twice outs keep number outs-known.1 keep-known.1 apart)
