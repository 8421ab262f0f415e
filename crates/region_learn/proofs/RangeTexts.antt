-- The ranges that are written are read.
use Rattle.std.proofs.Common.{◌≡◌, ◌∙◌, ℕ, ◌<◌, ◌&&◌, ◌^◌, nat_le, nat_lt, true, List, [], ◌∷◌, ◌++◌, length}
use Rattle.std.proofs.Common.{Option, Some, None, refl, ap, sym, arith, append_assoc, append-nil}
use Rattle.std.specs.Prelude.{option_and_then, option_map, map, sum_by, pos}
use Rattle.std.specs.List.{list_all}
use Rattle.std.proofs.lemmas.Bool.{and_parts, cond-true, lt-ltb, ltb-true}
use Rattle.serde_json.specs.View.{items_of}
use Rattle.serde_json.proofs.OnLiterals.{serde_json_on_literals}
use Rattle.enclosure_regions.specs.declared.region_parts.Range.{Range}
use Rattle.enclosure_regions.specs.RangeItems.{few, range_at, ranges_at, ranges_onto, with_base, with_length}
use Rattle.enclosure_regions.specs.RangeItems.{with_offset}
use Rattle.enclosure_regions.specs.Regions.{are_ranges, is_base_register, is_range}
use Rattle.enclosure_regions.specs.Shapes.{number_within, register_at, word_at}
use Rattle.enclosure_regions.specs.Words.{word_of}
use Rattle.region_learn.specs.RegionTexts.{range_data, ranges_data, register_data, whole}
use Rattle.region_learn.proofs.RegisterTexts.{register_own}

-- ---- numbers

pub number_own : (lowest highest number : ℕ) → (nat_le lowest number && nat_le number highest) ≡ true →
    number_within lowest highest (whole number) ≡ Some number
number_own lowest highest number known = cond-true (nat_le lowest number && nat_le number highest) _ _ known

offset_own : (offset : ℕ) → offset < 4294967296 → word_at (whole offset) ≡ Some offset
offset_own offset small =
    ap (option_and_then word_of) (cond-true (nat_lt offset (2 ^ 63)) (Some (pos offset)) None
    (lt-ltb offset (2 ^ 63) (omega arith)))
    ∙ cond-true (nat_lt offset 4294967296) _ _ (lt-ltb offset 4294967296 small)

-- ---- one range

bare_range : (offset count : ℕ) → range_at (range_data (record { base = None; offset = offset; length = count })) ≡
    with_offset None (word_at (whole offset)) (number_within 1 65536 (whole count))
unfolding serde_json_on_literals
bare_range offset count = refl

based_range : (register offset count : ℕ) →
    range_at (range_data (record { base = Some register; offset = offset; length = count })) ≡
    with_base (option_map Some (register_at (register_data register))) (word_at (whole offset))
    (number_within 1 65536 (whole count))
unfolding serde_json_on_literals
based_range register offset count = refl

parts_own : (base : Option ℕ) (offset count : ℕ) → is_base_register base ≡ true → offset < 4294967296 →
    (nat_le 1 count && nat_le count 65536) ≡ true →
    range_at (range_data (record { base = base; offset = offset; length = count })) ≡
    Some (record { base = base; offset = offset; length = count })
parts_own None offset count known small fits =
    bare_range offset count
    ∙ ap (λ (o : Option ℕ). with_offset None o (number_within 1 65536 (whole count))) (offset_own offset small)
    ∙ ap (with_length None offset) (number_own 1 65536 count fits)
parts_own (Some register) offset count known small fits =
    based_range register offset count
    ∙ ap (λ (r : Option ℕ). with_base (option_map Some r) (word_at (whole offset)) (number_within 1 65536 (whole count)))
    (register_own register known)
    ∙ ap (λ (o : Option ℕ). with_offset (Some register) o (number_within 1 65536 (whole count))) (offset_own offset small)
    ∙ ap (with_length (Some register) offset) (number_own 1 65536 count fits)

range_own : (range : Range) → is_range range ≡ true → range_at (range_data range) ≡ Some range
range_own range known =
    let first = and_parts (is_base_register range.base)
    (nat_lt range.offset (2 ^ 32) && (nat_le 1 range.length && nat_le range.length 65536)) known in
    let second = and_parts (nat_lt range.offset (2 ^ 32)) (nat_le 1 range.length && nat_le range.length 65536) first.1 in
    parts_own range.base range.offset range.length first.0 (ltb-true range.offset 4294967296 second.0) second.1

-- ---- all ranges

ranges_put_onto : (ranges found : List Range) → list_all is_range ranges ≡ true →
    ranges_onto found (items_of (map range_data ranges)) ≡ Some (found ++ ranges)
ranges_put_onto [] found known = ap Some (sym (append-nil found))
ranges_put_onto (range ∷ ranges) found known =
    let parts = and_parts (is_range range) (list_all is_range ranges) known in
    ap (option_and_then (λ (r : Range). ranges_onto (found ++ r ∷ []) (items_of (map range_data ranges))))
    (range_own range parts.0)
    ∙ ranges_put_onto ranges (found ++ range ∷ []) parts.1
    ∙ ap Some (append_assoc found (range ∷ []) ranges)

pub ranges_own : (ranges : List Range) → are_ranges ranges ≡ true → ranges_at (ranges_data ranges) ≡ Some ranges
ranges_own ranges known =
    let few_ranges = nat_le (length ranges) 64 && nat_le (sum_by (λ (range : Range). range.length) ranges) 65536 in
    let parts = and_parts (list_all is_range ranges) few_ranges known in
    ap (option_and_then few) (ranges_put_onto ranges [] parts.0) ∙ cond-true few_ranges (Some ranges) None parts.1
