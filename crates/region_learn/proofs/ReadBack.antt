-- The regions that are written are read.
use Rattle.std.proofs.Common.{◌≡◌, ◌∙◌, ℕ, suc, ◌%◌, ◌==◌, ◌&&◌, ◌^◌, not, nat_le, nat_lt, true, false, List, [], ◌∷◌}
use Rattle.std.proofs.Common.{◌++◌, length}
use Rattle.std.proofs.Common.{Option, Some, Ok, Result, refl, ap, sym, arith, append_assoc, append-nil}
use Rattle.std.specs.Prelude.{option_and_then, map}
use Rattle.std.specs.List.{list_all}
use Rattle.std.proofs.lemmas.Grind.{common_steps}
use Rattle.std.proofs.lemmas.Bool.{and_parts, cond-true, cond-false, ltb-true, not-true}
use Rattle.serde_json.specs.View.{items_of}
use Rattle.serde_json.proofs.OnLiterals.{serde_json_on_literals}
use Rattle.enclosure_regions.specs.declared.region_faults.RegionFault.{RegionFault}
use Rattle.enclosure_regions.specs.declared.region_parts.Range.{Range}
use Rattle.enclosure_regions.specs.declared.region_parts.Region.{Region}
use Rattle.enclosure_regions.specs.Orders.{in_order, ordered}
use Rattle.enclosure_regions.specs.Reading.{count_of, few_regions, items_in, placed_behind, regions_in, regions_onto}
use Rattle.enclosure_regions.specs.Reading.{without_twice, written_behind, ◌>>◌}
use Rattle.enclosure_regions.specs.RegionItems.{written_in, id_if, place_if}
use Rattle.enclosure_regions.specs.RangeItems.{ranges_if}
use Rattle.enclosure_regions.specs.Regions.{are_apart, are_distinct, are_ranges, are_regions, are_registers}
use Rattle.enclosure_regions.specs.Regions.{ascends_above, enters_of, ids_of}
use Rattle.enclosure_regions.specs.Regions.{is_code_address, is_region, is_register}
use Rattle.enclosure_regions.specs.Shapes.{registers_if}
use Rattle.region_learn.specs.RegionTexts.{address_data, ranges_data, region_data, regions_data, registers_data, whole}
use Rattle.region_learn.proofs.PlaceTexts.{place_own}
use Rattle.region_learn.proofs.RangeTexts.{number_own, ranges_own}
use Rattle.region_learn.proofs.RegisterLists.{in_order_own, lowest_twice_none, registers_own}
use Rattle.flow_base.specs.Points.{is_region_number}
use Rattle.flow_base.specs.Listed.{is_listed}

-- ---- one region

-- a region of these parts, where each is there
abbrev gathered : Option ℕ → Option ℕ → Option ℕ → Option (List ℕ) → Option (List ℕ) → Option (List Range) →
    Option Region
gathered id enter leave outs keep ranges =
    option_and_then (λ (a : ℕ). option_and_then (λ (b : ℕ). option_and_then (λ (c : ℕ).
    option_and_then (λ (d : List ℕ). option_and_then (λ (e : List ℕ). option_and_then (λ (f : List Range).
    Some (record { id = a; enter = b; leave = c; outs = d; keep = e; ranges = f })) ranges) keep) outs) leave) enter) id

gathered_parts : (region : Region) → written_in (region_data region) ≡
    gathered (id_if (Some (whole region.id))) (place_if (Some (address_data region.enter)))
    (place_if (Some (address_data region.leave))) (registers_if (Some (registers_data region.outs)))
    (registers_if (Some (registers_data region.keep))) (ranges_if (Some (ranges_data region.ranges)))
unfolding written_in serde_json_on_literals
gathered_parts region = refl

gathered_all : (id enter leave : Option ℕ) (outs keep : Option (List ℕ)) (ranges : Option (List Range))
    (region : Region) → id ≡ Some region.id → enter ≡ Some region.enter → leave ≡ Some region.leave →
    outs ≡ Some region.outs → keep ≡ Some region.keep → ranges ≡ Some region.ranges →
    gathered id enter leave outs keep ranges ≡ Some region
gathered_all id enter leave outs keep ranges region a b c d e f = rw (a, b, c, d, e, f) refl

-- what is known of a region
record IsKnown (region : Region) : Type 0 where
  pub id : is_region_number region.id ≡ true
  pub enter : is_code_address region.enter ≡ true
  pub leave : is_code_address region.leave ≡ true
  pub differ : (region.enter == region.leave) ≡ false
  pub outs : are_registers region.outs ≡ true
  pub keep : are_registers region.keep ≡ true
  pub apart : are_apart region.outs region.keep ≡ true
  pub ranges : are_ranges region.ranges ≡ true

known_region : (region : Region) → is_region region ≡ true → IsKnown region
known_region region known =
    let last = are_apart region.outs region.keep && are_ranges region.ranges in
    let last2 = are_registers region.keep && last in
    let last3 = are_registers region.outs && last2 in
    let last4 = not (region.enter == region.leave) && last3 in
    let last5 = is_code_address region.leave && last4 in
    let last6 = is_code_address region.enter && last5 in
    let a = and_parts (is_region_number region.id) last6 known in
    let b = and_parts (is_code_address region.enter) last5 a.1 in
    let c = and_parts (is_code_address region.leave) last4 b.1 in
    let d = and_parts (not (region.enter == region.leave)) last3 c.1 in
    let e = and_parts (are_registers region.outs) last2 d.1 in
    let f = and_parts (are_registers region.keep) last e.1 in
    let g = and_parts (are_apart region.outs region.keep) (are_ranges region.ranges) f.1 in
    record {
      id = a.0;
      enter = b.0;
      leave = c.0;
      differ = not-true (region.enter == region.leave) d.0;
      outs = e.0;
      keep = f.0;
      apart = g.0;
      ranges = g.1;
    }

place_read : (address : ℕ) → is_code_address address ≡ true → place_if (Some (address_data address)) ≡ Some address
place_read address known =
    let parts = and_parts (nat_lt address (2 ^ 32)) (address % 4 == 0) known in
    place_own address (ltb-true address 4294967296 parts.0) parts.1

some_registers : (registers : List ℕ) → are_registers registers ≡ true → list_all is_register registers ≡ true
some_registers registers known = (and_parts (list_all is_register registers) (ascends_above 0 registers) known).0

region_written : (region : Region) → IsKnown region → written_in (region_data region) ≡ Some region
region_written region known =
    gathered_parts region
    ∙ gathered_all _ _ _ _ _ _ region (number_own 1 65535 region.id known.id) (place_read region.enter known.enter)
    (place_read region.leave known.leave) (registers_own region.outs (some_registers region.outs known.outs))
    (registers_own region.keep (some_registers region.keep known.keep)) (ranges_own region.ranges known.ranges)

ordered_own : (region : Region) → IsKnown region → ordered region ≡ region
ordered_own region known =
    ap (λ (l : List ℕ). record region { outs = l; keep = in_order region.keep }) (in_order_own region.outs known.outs)
    ∙ ap (λ (l : List ℕ). record region { outs = region.outs; keep = l }) (in_order_own region.keep known.keep)

region_placed : (found : List Region) (region : Region) → IsKnown region →
    is_listed (ids_of found) region.id ≡ false → is_listed (enters_of found) region.enter ≡ false →
    placed_behind found region ≡ Ok region
region_placed found region known new_id new_enter =
    cond-false (is_listed (ids_of found) region.id) _ _ new_id
    ∙ cond-false (region.enter == region.leave) _ _ known.differ
    ∙ ap (without_twice found region) (lowest_twice_none region.outs region.keep known.outs known.keep known.apart)
    ∙ cond-false (is_listed (enters_of found) region.enter) _ _ new_enter
    ∙ ap Ok (ordered_own region known)

-- ---- numbers that are new

stands_longer : (xs : List ℕ) (x y : ℕ) → is_listed xs x ≡ false → (y == x) ≡ false →
    is_listed (xs ++ y ∷ []) x ≡ false
stands_longer [] x y none other = grind (arith, common_steps)
stands_longer (z ∷ xs) x y none other = grind (arith, common_steps, stands_longer xs x y)

apart_longer : (xs ys : List ℕ) (y : ℕ) → are_apart xs ys ≡ true → is_listed xs y ≡ false →
    are_apart xs (ys ++ y ∷ []) ≡ true
apart_longer [] ys y apart none = refl
apart_longer (x ∷ xs) ys y apart none = grind (arith, common_steps, stands_longer ys x y, apart_longer xs ys y)

apart_none : (xs : List ℕ) → are_apart xs [] ≡ true
apart_none [] = refl
apart_none (x ∷ xs) = apart_none xs

ids_longer : (regions : List Region) (region : Region) →
    ids_of (regions ++ region ∷ []) ≡ ids_of regions ++ region.id ∷ []
ids_longer [] region = refl
ids_longer (other ∷ regions) region = ap (λ ids. other.id ∷ ids) (ids_longer regions region)

enters_longer : (regions : List Region) (region : Region) →
    enters_of (regions ++ region ∷ []) ≡ enters_of regions ++ region.enter ∷ []
enters_longer [] region = refl
enters_longer (other ∷ regions) region = ap (λ enters. other.enter ∷ enters) (enters_longer regions region)

-- ---- all regions

-- what is known of regions after those found
record AreNew (found regions : List Region) : Type 0 where
  pub each : list_all is_region regions ≡ true
  pub ids : are_distinct (ids_of regions) ≡ true
  pub enters : are_distinct (enters_of regions) ≡ true
  pub new_ids : are_apart (ids_of regions) (ids_of found) ≡ true
  pub new_enters : are_apart (enters_of regions) (enters_of found) ≡ true

one_more : (found : List Region) (region : Region) (regions : List Region) → AreNew found (region ∷ regions) →
    AreNew (found ++ region ∷ []) regions
one_more found region regions new =
    let ids = and_parts (not (is_listed (ids_of regions) region.id)) (are_distinct (ids_of regions)) new.ids in
    let enters = and_parts (not (is_listed (enters_of regions) region.enter)) (are_distinct (enters_of regions))
    new.enters in
    let new_ids = and_parts (not (is_listed (ids_of found) region.id)) (are_apart (ids_of regions) (ids_of found))
    new.new_ids in
    let new_enters = and_parts (not (is_listed (enters_of found) region.enter))
    (are_apart (enters_of regions) (enters_of found)) new.new_enters in
    record {
      each = (and_parts (is_region region) (list_all is_region regions) new.each).1;
      ids = ids.1;
      enters = enters.1;
      new_ids = ap (are_apart (ids_of regions)) (ids_longer found region)
          ∙ apart_longer (ids_of regions) (ids_of found) region.id new_ids.1
          (not-true (is_listed (ids_of regions) region.id) ids.0);
      new_enters = ap (are_apart (enters_of regions)) (enters_longer found region)
          ∙ apart_longer (enters_of regions) (enters_of found) region.enter new_enters.1
          (not-true (is_listed (enters_of regions) region.enter) enters.0);
    }

onto : (regions found : List Region) → AreNew found regions →
    regions_onto found (items_of (map region_data regions)) ≡ Ok (found ++ regions)
onto [] found new = ap (λ (l : List Region). Ok l) (sym (append-nil found))
onto (region ∷ regions) found new =
    let known = known_region region (and_parts (is_region region) (list_all is_region regions) new.each).0 in
    let new_id = and_parts (not (is_listed (ids_of found) region.id)) (are_apart (ids_of regions) (ids_of found))
    new.new_ids in
    let new_enter = and_parts (not (is_listed (enters_of found) region.enter))
    (are_apart (enters_of regions) (enters_of found)) new.new_enters in
    let placed : written_behind found (written_in (region_data region)) ≡ Ok region =
    ap (written_behind found) (region_written region known)
    ∙ region_placed found region known (not-true (is_listed (ids_of found) region.id) new_id.0)
    (not-true (is_listed (enters_of found) region.enter) new_enter.0) in
    ap (λ (r : Result Region RegionFault).
    r >> λ (next : Region). regions_onto (found ++ next ∷ []) (items_of (map region_data regions))) placed
    ∙ onto regions (found ++ region ∷ []) (one_more found region regions new)
    ∙ ap (λ (l : List Region). Ok l) (append_assoc found (region ∷ []) regions)

counted : (regions : List Region) → count_of (items_of (map region_data regions)) ≡ length regions
counted [] = refl
counted (region ∷ regions) = ap suc (counted regions)

-- the one key of the file
items_own : (regions : List Region) → items_in (regions_data regions) ≡ Some (items_of (map region_data regions))
unfolding serde_json_on_literals
items_own regions = refl

pub regions_read_back : (regions : List Region) → are_regions regions ≡ true →
    regions_in (regions_data regions) ≡ Ok regions
regions_read_back regions known =
    let distinct = are_distinct (ids_of regions) && are_distinct (enters_of regions) in
    let few = and_parts (nat_le (length regions) 256) (list_all is_region regions && distinct) known in
    let each = and_parts (list_all is_region regions) distinct few.1 in
    let apart = and_parts (are_distinct (ids_of regions)) (are_distinct (enters_of regions)) each.1 in
    ap few_regions (items_own regions)
    ∙ cond-true (nat_le (count_of (items_of (map region_data regions))) 256) _ _
    (ap (λ (n : ℕ). nat_le n 256) (counted regions) ∙ few.0)
    ∙ onto regions [] (record {
      each = each.0;
      ids = apart.0;
      enters = apart.1;
      new_ids = apart_none (ids_of regions);
      new_enters = apart_none (enters_of regions);
    })
