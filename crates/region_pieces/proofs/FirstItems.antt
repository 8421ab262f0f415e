-- A list with its first item and the rest of it, as a slice pattern reads them; and what the parts of a region keep.
use Rattle.std.proofs.Common.{◌≡◌, ℕ, ◌+◌, ◌-◌, ◌<◌, ◌≤◌, List, [], ◌∷◌, Bool, true, length, get_or, take, drop, ◌&&◌}
use Rattle.std.proofs.Common.{ap, ◌∙◌, arith, not, nat_le, ◌==◌}
use Rattle.std.specs.List.{list_all}
use Rattle.std.proofs.lemmas.Bool.{and_parts, leb-true}
use Rattle.std.proofs.lemmas.List.{take_rest, length-drop}
use Rattle.enclosure_regions.specs.declared.region_parts.Region.{Region}
use Rattle.enclosure_regions.specs.Regions.{are_apart, are_ranges, are_registers, is_code_address, is_range, is_region}
use Rattle.enclosure_regions.specs.Regions.{is_register}
use Rattle.flow_base.specs.Points.{is_region_number}

abbrev pub rest_of : {X : Type 0} → List X → List X
rest_of xs = take (length xs - 1) (drop 1 xs)

pub rest_length : {X : Type 0} (xs : List X) → 1 ≤ length xs → length (rest_of xs) + 1 ≡ length xs
rest_length xs some = omega (arith, ap length (take_rest xs 1), length-drop 1 xs)

pub rest_falls : {X : Type 0} (xs : List X) (t : ℕ) → length xs ≡ t → 1 ≤ length xs → length (rest_of xs) < t
rest_falls xs t e some = omega (arith, rest_length xs some)

pub first_all : {X : Type 0} (test : X → Bool) (xs : List X) (d : X) → 1 ≤ length xs → list_all test xs ≡ true →
    test (get_or xs 0 d) ≡ true
first_all test [] d some all = absurd (omega arith)
first_all test (x ∷ xs) d some all = (and_parts (test x) (list_all test xs) all).0

pub rest_all : {X : Type 0} (test : X → Bool) (xs : List X) → 1 ≤ length xs → list_all test xs ≡ true →
    list_all test (rest_of xs) ≡ true
rest_all test [] some all = absurd (omega arith)
rest_all test (x ∷ xs) some all =
    ap (list_all test) (take_rest (x ∷ xs) 1) ∙ (and_parts (test x) (list_all test xs) all).1

-- ---- the parts of a region

parts_of : (region : Region) → is_region region ≡ true →
    (are_registers region.outs && (are_registers region.keep && (are_apart region.outs region.keep
    && are_ranges region.ranges))) ≡ true
parts_of region rules =
    let number = and_parts (is_region_number region.id) _ rules in
    let enter = and_parts (is_code_address region.enter) _ number.1 in
    let leave = and_parts (is_code_address region.leave) _ enter.1 in
    (and_parts (not (region.enter == region.leave)) _ leave.1).1

pub outs_registers : (region : Region) → is_region region ≡ true → list_all is_register region.outs ≡ true
outs_registers region rules =
    let outs = and_parts (are_registers region.outs) _ (parts_of region rules) in
    (and_parts (list_all is_register region.outs) _ outs.0).0

pub keep_registers : (region : Region) → is_region region ≡ true → list_all is_register region.keep ≡ true
keep_registers region rules =
    let outs = and_parts (are_registers region.outs) _ (parts_of region rules) in
    let keep = and_parts (are_registers region.keep) _ outs.1 in
    (and_parts (list_all is_register region.keep) _ keep.0).0

ranges_of : (region : Region) → is_region region ≡ true → are_ranges region.ranges ≡ true
ranges_of region rules =
    let outs = and_parts (are_registers region.outs) _ (parts_of region rules) in
    let keep = and_parts (are_registers region.keep) _ outs.1 in
    (and_parts (are_apart region.outs region.keep) _ keep.1).1

pub ranges_ranges : (region : Region) → is_region region ≡ true → list_all is_range region.ranges ≡ true
ranges_ranges region rules = (and_parts (list_all is_range region.ranges) _ (ranges_of region rules)).0

pub register_small : (register : ℕ) → is_register register ≡ true → register < 32
register_small register is =
    let most = leb-true register 31 (and_parts (nat_le 1 register) _ is).1 in omega (arith, most)
