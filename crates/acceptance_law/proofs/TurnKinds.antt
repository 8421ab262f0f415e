-- What the kind of a turn says of the entered region, and the rules of the regions of a list.
use Rattle.std.proofs.Common.{◌≡◌, ℕ, Bool, true, false, List, [], ◌∷◌, Option, Some, None, refl, ap, subst, ◌∙◌}
use Rattle.std.specs.Prelude.{◌==◌, not, if◌then◌else◌}
use Rattle.std.specs.List.{AllByRecursion, find, list_all}
use Rattle.std.proofs.lemmas.Bool.{eqb-true, and_parts}
use Rattle.enclosure_regions.specs.declared.region_parts.Region.{Region}
use Rattle.enclosure_regions.specs.Regions.{are_regions, is_region, is_code_address, are_registers}
use Rattle.enclosure_regions.specs.Regions.{is_register}
use Rattle.rv32im_machine.specs.declared.stepping.Stepped.{Stepped}
use Rattle.rv32im_machine.specs.declared.stepping.Stepped.TheVariants.{Ran, Exited, Stopped}
use Rattle.rv32im_machine.specs.State.{Control}
use Rattle.region_machine.specs.Enclosures.{Kind, Enters, Leaves, Steps, kind_in, kind_within, kind_outside}
use Rattle.region_machine.specs.Enclosures.{region_numbered, region_entered_at, is_enclosed_kind}
use Rattle.acceptance_law.specs.Sides.{NamedSide}
use Rattle.acceptance_law.proofs.StepsKeepStanding.{HasRules, SkipsRelays}
use Rattle.flow_base.specs.Listed.{is_listed}
use Rattle.flow_base.specs.Points.{is_region_number}

-- ---- kinds

outside_enters : (found : Option Region) (region : Region) → kind_outside found ≡ Enters region → found ≡ Some region
outside_enters None region e = absurd (cc)
outside_enters (Some first) region e = let same : first ≡ region = cc in ap (λ (r : Region). Some r) same

outside_leaves : (found : Option Region) (region : Region) → kind_outside found ≡ Leaves region → ⊥
outside_leaves None region e = cc
outside_leaves (Some first) region e = cc

outside_steps : (found : Option Region) (region : Region) → kind_outside found ≡ Steps (Some region) → ⊥
outside_steps None region e = cc
outside_steps (Some first) region e = cc

inside_kind : (t : Bool) (inside region : Region) → (if t then Leaves inside else Steps
    (Some inside)) ≡ Enters region → ⊥
inside_kind true inside region e = cc
inside_kind false inside region e = cc

within_enters : (regions : List Region) (inside : Option Region) (pc : ℕ) (region : Region) →
    kind_within regions inside pc ≡ Enters region → inside ≡ None
within_enters regions None pc region e = refl
within_enters regions (Some inside) pc region e = absurd (inside_kind (inside.leave == pc) inside region e)

leaves_kind : (t : Bool) (inside region : Region) → (if t then Leaves inside else Steps (Some inside)) ≡ Leaves region →
    Some inside ≡ Some region
leaves_kind true inside region e = cc
leaves_kind false inside region e = absurd (cc)

steps_kind : (t : Bool) (inside region : Region) →
    (if t then Leaves inside else Steps (Some inside)) ≡ Steps (Some region) → Some inside ≡ Some region
steps_kind true inside region e = absurd (cc)
steps_kind false inside region e = cc

within_leaves : (regions : List Region) (inside : Option Region) (pc : ℕ) (region : Region) →
    kind_within regions inside pc ≡ Leaves region → inside ≡ Some region
within_leaves regions None pc region e = absurd (outside_leaves (region_entered_at regions pc) region e)
within_leaves regions (Some inside) pc region e = leaves_kind (inside.leave == pc) inside region e

within_steps : (regions : List Region) (inside : Option Region) (pc : ℕ) (region : Region) →
    kind_within regions inside pc ≡ Steps (Some region) → inside ≡ Some region
within_steps regions None pc region e = absurd (outside_steps (region_entered_at regions pc) region e)
within_steps regions (Some inside) pc region e = steps_kind (inside.leave == pc) inside region e

pub enters_outside : (mode : Stepped) (regions : List Region) (control : Control) (region : Region) →
    kind_in mode regions control ≡ Enters region → (mode ≡ Ran) × (region_numbered regions control.region ≡ None)
enters_outside Ran regions control region e =
    (refl, within_enters regions (region_numbered regions control.region) control.pc region e)
enters_outside (Exited status) regions control region e = absurd (cc)
enters_outside (Stopped fault) regions control region e = absurd (cc)

pub leaves_inside : (mode : Stepped) (regions : List Region) (control : Control) (region : Region) →
    kind_in mode regions control ≡ Leaves region → region_numbered regions control.region ≡ Some region
leaves_inside Ran regions control region e =
    within_leaves regions (region_numbered regions control.region) control.pc region e
leaves_inside (Exited status) regions control region e = absurd (cc)
leaves_inside (Stopped fault) regions control region e = absurd (cc)

pub steps_inside : (mode : Stepped) (regions : List Region) (control : Control) (region : Region) →
    kind_in mode regions control ≡ Steps (Some region) → region_numbered regions control.region ≡ Some region
steps_inside Ran regions control region e =
    within_steps regions (region_numbered regions control.region) control.pc region e
steps_inside (Exited status) regions control region e = absurd (cc)
steps_inside (Stopped fault) regions control region e = absurd (cc)

-- while it runs, a guest inside a region leaves it or steps in it
pub inside_turn : (mode : Stepped) (regions : List Region) (control : Control) (region : Region) → mode ≡ Ran →
    region_numbered regions control.region ≡ Some region →
    kind_in mode regions control ≡ (if region.leave == control.pc then Leaves region else Steps (Some region))
inside_turn mode regions control region ran numbered =
    ap (λ m. kind_in m regions control) ran ∙ ap (λ found. kind_within regions found control.pc) numbered

-- where no region is skipped none is enclosed
pub none_enclosed : (regions : List Region) (kind : Kind) →
    is_enclosed_kind (record { regions = regions; skip = [] }) kind ≡ false
none_enclosed regions (Enters region) = refl
none_enclosed regions (Leaves region) = refl
none_enclosed regions (Steps None) = refl
none_enclosed regions (Steps (Some region)) = refl

-- ---- regions that are found

found_rules : (test : Region → Bool) (regions : List Region) (region : Region) → list_all is_region regions ≡ true →
    find test regions ≡ Some region → is_region region ≡ true
found_rules test [] region rules e = absurd (cc)
found_rules test (first ∷ regions) region rules e =
    pick (test first) e
    (λ later. found_rules test regions region (and_parts (is_region first) (list_all is_region regions) rules).1 later)
  where
    pick : (t : Bool) → (if t then Some first else find test regions) ≡ Some region →
        (find test regions ≡ Some region → is_region region ≡ true) → is_region region ≡ true
    pick true here later =
        let same : first ≡ region = cc in
        subst (λ (r : Region). is_region r ≡ true) same
        (and_parts (is_region first) (list_all is_region regions) rules).0
    pick false there later = later there

-- what holds of all numbers holds of those of regions
pub all_regions : (P : ℕ → Type 0) → ((number : ℕ) → P number) → (regions : List Region) →
    AllByRecursion (λ region. P region.id) regions
all_regions P all [] = tt
all_regions P all (region ∷ regions) = (all region.id, all_regions P all regions)

-- what holds of all regions holds of one that is found
found_has : (P : Region → Type 0) (test : Region → Bool) (regions : List Region) (region : Region) →
    AllByRecursion P regions → find test regions ≡ Some region → P region
found_has P test [] region all e = absurd (cc)
found_has P test (first ∷ regions) region all e =
    pick (test first) e (λ later. found_has P test regions region all.1 later)
  where
    pick : (t : Bool) → (if t then Some first else find test regions) ≡ Some region →
        (find test regions ≡ Some region → P region) → P region
    pick true here later =
        let same : first ≡ region = cc in
        subst (λ (r : Region). P r) same all.0
    pick false there later = later there

found_id : (regions : List Region) (number : ℕ) (region : Region) →
    find (λ region. region.id == number) regions ≡ Some region → region.id ≡ number
found_id [] number region e = absurd (cc)
found_id (first ∷ regions) number region e =
    pick (first.id == number) refl e (λ later. found_id regions number region later)
  where
    pick : (t : Bool) → (first.id == number) ≡ t →
        (if t then Some first else find (λ region. region.id == number) regions) ≡ Some region →
        (find (λ region. region.id == number) regions ≡ Some region → region.id ≡ number) → region.id ≡ number
    pick true is here later =
        let same : first ≡ region = cc in
        subst (λ (r : Region). r.id ≡ number) same (eqb-true first.id number is)
    pick false is there later = later there

pub rules_of : (region : Region) → is_region region ≡ true → HasRules region
rules_of region rules =
    let one = and_parts (is_region_number region.id) _ rules in
    let two = and_parts (is_code_address region.enter) _ one.1 in
    let three = and_parts (is_code_address region.leave) _ two.1 in
    let four = and_parts (not (region.enter == region.leave)) _ three.1 in
    let five = and_parts (are_registers region.outs) _ four.1 in
    let six = and_parts (are_registers region.keep) _ five.1 in
    record {
      outs = (and_parts (list_all is_register region.outs) _ five.0).0;
      keeps = (and_parts (list_all is_register region.keep) _ six.0).0;
    }

pub all_rules : (regions : List Region) → are_regions regions ≡ true → list_all is_region regions ≡ true
all_rules regions rules = (and_parts _ _ (and_parts _ _ rules).1).0

numbered_found : (regions : List Region) (number : ℕ) (region : Region) → region_numbered regions number ≡ Some region →
    find (λ region. region.id == number) regions ≡ Some region
numbered_found regions number region e = pick (number == 0) e
  where
    pick : (t : Bool) → (if t then None else find (λ region. region.id == number) regions) ≡ Some region →
        find (λ region. region.id == number) regions ≡ Some region
    pick true is = absurd (cc)
    pick false is = is

pub numbered_rules : (regions : List Region) (number : ℕ) (region : Region) → are_regions regions ≡ true →
    region_numbered regions number ≡ Some region → HasRules region
numbered_rules regions number region rules e =
    rules_of region (found_rules (λ region. region.id == number) regions region (all_rules regions rules)
    (numbered_found regions number region e))

pub numbered_id : (regions : List Region) (number : ℕ) (region : Region) →
    region_numbered regions number ≡ Some region →
    region.id ≡ number
numbered_id regions number region e = found_id regions number region (numbered_found regions number region e)

-- the relays of all regions are those of the regions that are entered
pub skips_relays : (side : NamedSide) (skip : List ℕ) (regions : List Region) →
    AllByRecursion (λ region. is_listed skip region.id ≡ side.relay region.id) regions →
    SkipsRelays side skip regions
skips_relays side skip regions all number region e =
    subst (λ n. is_listed skip n ≡ side.relay n) (numbered_id regions number region e)
    (found_has (λ region. is_listed skip region.id ≡ side.relay region.id) (λ region. region.id == number) regions
    region all (numbered_found regions number region e))
