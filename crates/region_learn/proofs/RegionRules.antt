-- The rules of regions that have the numbers and addresses of others.
use Rattle.std.proofs.Common.{◌≡◌, ◌∙◌, ◌+◌, ◌≤◌, ◌<◌, ◌^◌, ◌==◌, ◌&&◌, not, ℕ, Bool, true, false, List, [], ◌∷◌, length, map, Option, Some, None}
use Rattle.std.proofs.Common.{refl, sym, ap, subst, arith, IsTrue, inl, inr}
use Rattle.std.specs.Prelude.{nat_le, nat_lt, sum_by}
use Rattle.std.specs.List.{AllByRecursion, filter, list_all}
use Rattle.std.proofs.lemmas.Bool.{and_parts, and_from, cases_Bool}
use Rattle.std.proofs.lemmas.Grind.{common_steps}
use Rattle.std.proofs.lemmas.List.Sums.{sum_by-cons}
use Rattle.enclosure_regions.specs.declared.region_parts.Range.{Range}
use Rattle.enclosure_regions.specs.declared.region_parts.Region.{Region}
use Rattle.enclosure_regions.specs.Orders.{all_registers}
use Rattle.enclosure_regions.specs.Regions.{are_apart, are_distinct, are_ranges, are_regions, are_registers, ascends_above}
use Rattle.enclosure_regions.specs.Regions.{enters_of, ids_of, is_code_address, is_range, is_region}
use Rattle.enclosure_regions.specs.Regions.{is_register}
use Rattle.region_learn.specs.Private.Declarations.{IsDraft, kept_bit, out_bit}
use Rattle.enclosure_regions.specs.Regions.{is_base_register}
use Rattle.region_learn.specs.declared.faults.LearnFault.{LearnFault}
use Rattle.region_learn.specs.declared.faults.LearnFault.TheVariants.{Bytes, Ranges}
use Rattle.region_learn.specs.LearnAnswers.{byte_count, counted, region_fault, regions_fault}
use Rattle.region_learn.specs.Learnt.{AreSpread}
use Rattle.region_learn.specs.Private.Marks.{has_bit}
use Rattle.region_learn.specs.Private.Spans.{End}
use Rattle.region_learn.specs.Written.{bare}
use Rattle.flow_base.specs.Points.{is_region_number}
use Rattle.flow_base.specs.Listed.{is_listed}
use Rattle.std.specs.Option.{option_or}

-- ---- numbers and addresses

abbrev Edges : Region → Type 0
Edges region =
    (is_region_number region.id ≡ true) × (is_code_address region.enter ≡ true) × (is_code_address region.leave ≡ true)
    × (not (region.enter == region.leave) ≡ true)

edges_of : (region : Region) → is_region region ≡ true → Edges region
edges_of region h =
    let a = and_parts _ _ h in
    let b = and_parts _ _ a.1 in
    let c = and_parts _ _ b.1 in
    let d = and_parts _ _ c.1 in
    (a.0, b.0, c.0, d.0)

with_edges : (region : Region) → Edges region → are_registers region.outs ≡ true → are_registers region.keep ≡ true →
    are_apart region.outs region.keep ≡ true → are_ranges region.ranges ≡ true → is_region region ≡ true
with_edges region edges outs keep apart ranges =
    and_from _ _ edges.0 (and_from _ _ edges.1 (and_from _ _ edges.2 (and_from _ _ edges.3
    (and_from _ _ outs (and_from _ _ keep (and_from _ _ apart ranges))))))

bare_rules : (regions : List Region) → list_all is_region regions ≡ true → list_all is_region (map bare regions) ≡ true
bare_rules [] h = refl
bare_rules (region ∷ regions) h =
    let parts = and_parts (is_region region) (list_all is_region regions) h in
    and_from _ _ (with_edges (bare region) (edges_of region parts.0) refl refl refl refl) (bare_rules regions parts.1)

ids_bare : (regions : List Region) → ids_of (map bare regions) ≡ ids_of regions
ids_bare [] = refl
ids_bare (region ∷ regions) = ap (λ (l : List ℕ). region.id ∷ l) (ids_bare regions)

enters_bare : (regions : List Region) → enters_of (map bare regions) ≡ enters_of regions
enters_bare [] = refl
enters_bare (region ∷ regions) = ap (λ (l : List ℕ). region.enter ∷ l) (enters_bare regions)

count_bare : (regions : List Region) → length (map bare regions) ≡ length regions
count_bare [] = refl
count_bare (region ∷ regions) = let e = count_bare regions in omega (arith, e)

list_rules : (first second : List Region) → length second ≡ length first → ids_of second ≡ ids_of first →
    enters_of second ≡ enters_of first → are_regions first ≡ true → list_all is_region second ≡ true →
    are_regions second ≡ true
list_rules first second count ids enters h rules =
    let a = and_parts (nat_le (length first) 256) _ h in
    let b = and_parts (list_all is_region first) _ a.1 in
    let c = and_parts (are_distinct (ids_of first)) (are_distinct (enters_of first)) b.1 in
    and_from (nat_le (length second) 256) _ (ap (λ (n : ℕ). nat_le n 256) count ∙ a.0)
    (and_from (list_all is_region second) _ rules
    (and_from (are_distinct (ids_of second)) (are_distinct (enters_of second)) (ap are_distinct ids ∙ c.0)
    (ap are_distinct enters ∙ c.1)))

pub bare_regions_rules : (regions : List Region) → are_regions regions ≡ true → are_regions (map bare regions) ≡ true
bare_regions_rules regions h =
    let rules = (and_parts (list_all is_region regions) _ (and_parts (nat_le (length regions) 256) _ h).1).0 in
    list_rules regions (map bare regions) (count_bare regions) (ids_bare regions) (enters_bare regions) h
    (bare_rules regions rules)

-- ---- registers that are picked

all_are : IsTrue (are_registers all_registers)
unfolding all_registers
all_are = refl

filter_all : (test pick : ℕ → Bool) (xs : List ℕ) → IsTrue (list_all test xs) → IsTrue (list_all test (filter pick xs))
filter_all test pick [] h = h
filter_all test pick (x ∷ xs) h = grind (arith, common_steps, filter_all test pick xs)

lower : (a b : ℕ) (xs : List ℕ) → a ≤ b → IsTrue (ascends_above b xs) → IsTrue (ascends_above a xs)
lower a b [] le h = refl
lower a b (x ∷ xs) le h = grind (arith, common_steps)

ascends : (pick : ℕ → Bool) (lowest : ℕ) (xs : List ℕ) → IsTrue (ascends_above lowest xs)
    → IsTrue (ascends_above lowest (filter pick xs))
ascends pick lowest [] h = refl
ascends pick lowest (x ∷ xs) h = grind (arith, common_steps, lower, ascends pick lowest xs, ascends pick x xs)

pub picked : (pick : ℕ → Bool) → IsTrue (are_registers (filter pick all_registers))
picked pick =
    grind (arith, common_steps, all_are, filter_all is_register pick all_registers, ascends pick 0 all_registers)

pub stands_picked : (pick : ℕ → Bool) (r : ℕ) (xs : List ℕ) → IsTrue (is_listed (filter pick xs) r) → IsTrue (pick r)
stands_picked pick r [] h = grind arith
stands_picked pick r (x ∷ xs) h = grind (arith, common_steps, stands_picked pick r xs)

apart_of : (first second : ℕ → Bool) (ys xs : List ℕ) → ((r : ℕ) → first r ≡ true → second r ≡ false) →
    IsTrue (are_apart (filter first xs) (filter second ys))
apart_of first second ys [] h = refl
apart_of first second ys (x ∷ xs) h =
    grind (arith, common_steps, stands_picked second x ys, h x, apart_of first second ys xs h)

not_both : (written changed : Bool) → (written && changed) ≡ true → (written && not changed) ≡ false
not_both true true h = refl
not_both true false h = absurd (cc)
not_both false changed h = refl

pub apart : (first second : ℕ → Bool) → ((r : ℕ) → first r ≡ true → second r ≡ false) →
    are_apart (filter first all_registers) (filter second all_registers) ≡ true
apart first second h = apart_of first second all_registers all_registers h

pub out_not_kept : (written changed register : ℕ) → out_bit written changed register ≡ true →
    kept_bit written changed register ≡ false
out_not_kept written changed register h = not_both (has_bit written register) (has_bit changed register) h

-- ---- ranges

le_true : (a b : ℕ) → a ≤ b → nat_le a b ≡ true
le_true a b h = grind (arith, common_steps)

lt_true : (a b : ℕ) → a < b → nat_lt a b ≡ true
lt_true a b h = grind (arith, common_steps)

range_rules : (lowest : ℕ) (ranges : List Range) → AreSpread lowest ranges → End 4294967295 ranges →
    sum_by (λ range. range.length) ranges ≤ 65536 → list_all is_range ranges ≡ true
range_rules lowest [] h end few = refl
range_rules lowest (range ∷ ranges) h end few =
    let one : 1 ≤ range.length = h.2 in
    let high : range.offset + range.length ≤ 4294967295 = end.0 in
    let total : range.length + sum_by (λ (r : Range). r.length) ranges ≤ 65536 =
    subst (λ (n : ℕ). n ≤ 65536) (sum_by-cons (λ (r : Range). r.length) range ranges) few in
    and_from _ _ (and_from _ _ (ap is_base_register h.0)
    (and_from _ _ (lt_true range.offset (2 ^ 32) (omega (arith, one, high)))
    (and_from _ _ (le_true 1 range.length one) (le_true range.length 65536 (omega (arith, total))))))
    (range_rules (range.offset + range.length + 1) ranges h.3 end.1 (omega (arith, total)))

few_ranges : (region : Region) → region_fault region ≡ None →
    (nat_le (length region.ranges) 64 ≡ true) × (nat_le (byte_count region) 65536 ≡ true)
few_ranges region h = elim (cases_Bool (nat_le (length region.ranges) 64)) [
  | inl few ↦ elim (cases_Bool (nat_le (byte_count region) 65536)) [
    | inl small ↦ (few, small)
    | inr large ↦
        let e : region_fault region ≡ Some (Bytes region.id (counted (byte_count region))) = rw (few, large) refl in
        let both = sym e ∙ h in absurd (cc)
  ]
  | inr many ↦
      let e : region_fault region ≡ Some (Ranges region.id (counted (length region.ranges))) = rw many refl in
      let both = sym e ∙ h in absurd (cc)
]

le_of : (a b : ℕ) → nat_le a b ≡ true → a ≤ b
le_of a b h = grind (arith, common_steps)

draft_region : (region : Region) → Edges region → IsDraft region → region_fault region ≡ None → is_region region ≡ true
draft_region region edges draft h =
    let few = few_ranges region h in
    with_edges region edges draft.outs draft.keep draft.apart
    (and_from _ _ (range_rules 0 region.ranges draft.spans.spread draft.spans.end
    (le_of (byte_count region) 65536 few.1)) (and_from _ _ few.0 few.1))

first_none : (first later : Option LearnFault) → option_or first later ≡ None → (first ≡ None) × (later ≡ None)
first_none None later h = (refl, h)
first_none (Some fault) later h = absurd (cc)

draft_all : (regions : List Region) → list_all is_region (map bare regions) ≡ true → AllByRecursion IsDraft regions →
    regions_fault regions ≡ None → list_all is_region regions ≡ true
draft_all [] rules drafts h = refl
draft_all (region ∷ regions) rules drafts h =
    let parts = and_parts (is_region (bare region)) (list_all is_region (map bare regions)) rules in
    let faults = first_none (region_fault region) (regions_fault regions) h in
    and_from _ _ (draft_region region (edges_of (bare region) parts.0) drafts.0 faults.0)
    (draft_all regions parts.1 drafts.1 faults.1)

pub draft_rules : (regions declared : List Region) → map bare declared ≡ regions → are_regions regions ≡ true →
    AllByRecursion IsDraft declared → regions_fault declared ≡ None → are_regions declared ≡ true
draft_rules regions declared same h drafts faults =
    let rules : are_regions (map bare declared) ≡ true = subst (λ (l : List Region). are_regions l ≡ true) (sym same) h in
    let all = (and_parts (list_all is_region (map bare declared)) _
    (and_parts (nat_le (length (map bare declared)) 256) _ rules).1).0 in
    list_rules (map bare declared) declared (sym (count_bare declared)) (sym (ids_bare declared))
    (sym (enters_bare declared)) rules (draft_all declared all drafts faults)
