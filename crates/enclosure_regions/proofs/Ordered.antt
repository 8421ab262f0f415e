-- Registers that are picked from all registers ascend, and where none stands twice the two lists are apart.
use Rattle.std.proofs.Common.{◌≡◌, ◌≤◌, ℕ, Bool, List, [], ◌∷◌, None, IsTrue, refl, arith, ◌≢◌}
use Rattle.std.proofs.lemmas.Grind.{common_steps}
use Rattle.std.specs.List.{filter, find, list_all}
use Rattle.enclosure_regions.specs.declared.orders.TheConstants.{ALL_REGISTERS}
use Rattle.enclosure_regions.specs.declared.region_parts.Region.{Region}
use Rattle.enclosure_regions.specs.RegionItems.{is_written}
use Rattle.enclosure_regions.specs.Orders.{all_registers, ordered, stands_twice, times, lowest_twice, in_order}
use Rattle.enclosure_regions.specs.Regions.{are_apart, are_registers, ascends_above, is_region, is_register}
use Rattle.flow_base.specs.Listed.{is_listed}

pub table : ALL_REGISTERS ≡ all_registers
unfolding all_registers
table = refl

all_are : IsTrue (are_registers all_registers)
unfolding all_registers
all_are = refl

-- ---- what is picked

filter_all : (test pick : ℕ → Bool) (xs : List ℕ) → IsTrue (list_all test xs) → IsTrue (list_all test (filter pick xs))
filter_all test pick [] h = h
filter_all test pick (x ∷ xs) h = grind (arith, common_steps, filter_all test pick xs)

lower : (a b : ℕ) (xs : List ℕ) → a ≤ b → IsTrue (ascends_above b xs) → IsTrue (ascends_above a xs)
lower a b [] le h = refl
lower a b (x ∷ xs) le h = grind (arith, common_steps)

ascends : (pick : ℕ → Bool) (lowest : ℕ) (xs : List ℕ) → IsTrue (ascends_above lowest xs)
    → IsTrue (ascends_above lowest (filter pick xs))
ascends pick lowest [] h = refl
ascends pick lowest (x ∷ xs) h = grind (arith, common_steps, lower, ascends pick lowest xs, ascends pick x xs)

pub picked : (registers : List ℕ) → IsTrue (are_registers (in_order registers))
picked registers =
    grind (
      arith,
      common_steps,
      all_are,
      filter_all is_register (is_listed registers) all_registers,
      ascends (is_listed registers) 0 all_registers,
    )

-- ---- twice

stands_times : (r : ℕ) (xs : List ℕ) → IsTrue (is_listed xs r) → 1 ≤ times xs r
stands_times r [] h = grind arith
stands_times r (x ∷ xs) h = grind (arith, common_steps, stands_times r xs)

stands_picked : (pick : ℕ → Bool) (r : ℕ) (xs : List ℕ) → IsTrue (is_listed (filter pick xs) r) → IsTrue (pick r)
stands_picked pick r [] h = grind arith
stands_picked pick r (x ∷ xs) h = grind (arith, common_steps, stands_picked pick r xs)

apart_of : (outs keep ys xs : List ℕ) → find (stands_twice outs keep) xs ≡ None
    → IsTrue (are_apart (filter (is_listed outs) xs) (filter (is_listed keep) ys))
apart_of outs keep ys [] h = refl
apart_of outs keep ys (x ∷ xs) h =
    grind (
      arith,
      common_steps,
      stands_times x outs,
      stands_times x keep,
      stands_picked (is_listed keep) x ys,
      apart_of outs keep ys xs,
    )

pub apart : (outs keep : List ℕ) → lowest_twice outs keep ≡ None → IsTrue (are_apart (in_order outs) (in_order keep))
apart outs keep h = apart_of outs keep all_registers all_registers h

pub ordered_rules : (region : Region) → IsTrue (is_written region) → region.enter ≢ region.leave
    → lowest_twice region.outs region.keep ≡ None → IsTrue (is_region (ordered region))
ordered_rules region written differ none =
    grind (arith, common_steps, picked region.outs, picked region.keep, apart region.outs region.keep none)
