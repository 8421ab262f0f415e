-- Regions with one more keep the rules where the new one does and its number and enter address are new.
use Rattle.std.proofs.Common.{◌≡◌, ◌==◌, ◌<◌, ℕ, suc, false, List, [], ◌∷◌, ◌++◌, length, IsTrue, refl, arith, ap}
use Rattle.std.proofs.Common.{length-append}
use Rattle.std.proofs.lemmas.Grind.{common_steps}
use Rattle.std.specs.List.{list_all}
use Rattle.serde_json.specs.View.{items_view}
use Rattle.serde_json.specs.declared.value.Value.{Value}
use Rattle.enclosure_regions.specs.declared.region_parts.Region.{Region}
use Rattle.enclosure_regions.specs.Regions.{are_distinct, are_regions, enters_of, ids_of, is_region}
use Rattle.enclosure_regions.specs.Reading.{count_of}
use Rattle.flow_base.specs.Listed.{is_listed}

stands_longer : (xs : List ℕ) (x y : ℕ) → is_listed xs x ≡ false → (y == x) ≡ false → is_listed (xs ++ y ∷ []) x ≡ false
stands_longer [] x y none other = grind (arith, common_steps)
stands_longer (z ∷ xs) x y none other = grind (arith, common_steps, stands_longer xs x y)

distinct_longer : (xs : List ℕ) (y : ℕ) → IsTrue (are_distinct xs) → is_listed xs y ≡ false
    → IsTrue (are_distinct (xs ++ y ∷ []))
distinct_longer [] y h none = refl
distinct_longer (x ∷ xs) y h none = grind (arith, common_steps, stands_longer xs x y, distinct_longer xs y)

all_longer : (regions : List Region) (region : Region) → IsTrue (list_all is_region regions) → IsTrue (is_region region)
    → IsTrue (list_all is_region (regions ++ region ∷ []))
all_longer [] region h one = grind (arith, common_steps)
all_longer (other ∷ regions) region h one = grind (arith, common_steps, all_longer regions region)

ids_longer : (regions : List Region) (region : Region)
    → ids_of (regions ++ region ∷ []) ≡ ids_of regions ++ region.id ∷ []
ids_longer [] region = refl
ids_longer (other ∷ regions) region = ap (λ ids. other.id ∷ ids) (ids_longer regions region)

enters_longer : (regions : List Region) (region : Region)
    → enters_of (regions ++ region ∷ []) ≡ enters_of regions ++ region.enter ∷ []
enters_longer [] region = refl
enters_longer (other ∷ regions) region = ap (λ enters. other.enter ∷ enters) (enters_longer regions region)

pub longer : (regions : List Region) (region : Region) → length regions < 256 → IsTrue (are_regions regions)
    → IsTrue (is_region region) → is_listed (ids_of regions) region.id ≡ false
    → is_listed (enters_of regions) region.enter ≡ false → IsTrue (are_regions (regions ++ region ∷ []))
longer regions region few h one new_id new_enter =
    grind (
      arith,
      common_steps,
      length-append regions (region ∷ []),
      all_longer regions region,
      ids_longer regions region,
      enters_longer regions region,
      distinct_longer (ids_of regions) region.id,
      distinct_longer (enters_of regions) region.enter,
    )

pub counted_view : (values : List Value) → count_of (items_view values) ≡ length values
counted_view [] = refl
counted_view (value ∷ values) = ap suc (counted_view values)
