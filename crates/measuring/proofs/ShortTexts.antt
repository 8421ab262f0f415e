-- A cut of version 1 with few points and few runs of masks has a short text, and so has its fold.
use Rattle.std.proofs.Common.{◌≡◌, ℕ, ◌+◌, ◌*◌, ◌<◌, ◌≤◌, length, nat_le, nat_lt, true, List, [], ◌∷◌, arith}
use Rattle.std.specs.List.{list_all}
use Rattle.std.proofs.lemmas.Bool.{and_parts, leb-true, ltb-true}
use Rattle.cut_file.proofs.FoldLengths.{fold_short}
use Rattle.cut_file.proofs.TextLengths.{text_short}
use Rattle.cut_file.specs.Cuts.{CutPicture, are_points_of, are_regions, is_cut_picture, is_version, is_word}
use Rattle.cut_file.specs.Cuts.{neighbours_pass}
use Rattle.cut_file.specs.Folds.{IsFold}
use Rattle.cut_file.specs.TextLengths.{byte_bound, listed_runs}
use Rattle.cut_file.specs.Texts.{cut_text}
use Rattle.acceptance_law.specs.RunLaws.{HasFewRuns}
use Rattle.flow_base.specs.Points.{is_region_number}

-- ---- regions that ascend are not more than there are

region_range : (region : ℕ) → is_region_number region ≡ true → (1 ≤ region) × (region ≤ 65535)
region_range region known =
    let both = and_parts (nat_le 1 region) (nat_le region 65535) known in
    (leb-true _ _ both.0, leb-true _ _ both.1)

regions_from : (region : ℕ) (skip : List ℕ) → list_all is_region_number (region ∷ skip) ≡ true →
    neighbours_pass nat_lt (region ∷ skip) ≡ true → region + length (region ∷ skip) ≤ 65536
regions_from region [] all ascend =
    let both = and_parts (is_region_number region) (list_all is_region_number []) all in
    let range = region_range region both.0 in
    let most : region ≤ 65535 = range.1 in
    omega (arith, most)
regions_from region (next ∷ skip) all ascend =
    let both = and_parts (is_region_number region) (list_all is_region_number (next ∷ skip)) all in
    let order = and_parts (nat_lt region next) (neighbours_pass nat_lt (next ∷ skip)) ascend in
    let inner = regions_from next skip both.1 order.1 in
    let less : region < next = ltb-true _ _ order.0 in
    omega (arith, inner, less)

regions_few : (skip : List ℕ) → are_regions skip ≡ true → length skip ≤ 65535
regions_few [] known = omega arith
regions_few (region ∷ skip) known =
    let both = and_parts (list_all is_region_number (region ∷ skip)) (neighbours_pass nat_lt (region ∷ skip)) known in
    let first = and_parts (is_region_number region) (list_all is_region_number skip) both.0 in
    let range = region_range region first.0 in
    let some : 1 ≤ region = range.0 in
    let whole = regions_from region skip both.0 both.1 in
    omega (arith, some, whole)

pub skip_few : (cut : CutPicture) → is_cut_picture cut ≡ true → length cut.skip ≤ 65535
skip_few cut valid =
    let known = and_parts (is_version cut.version) _ valid in
    let short = and_parts (nat_le cut.secret_len 65536) _ known.1 in
    let bits = and_parts (is_word cut.bits) _ short.1 in
    let lists = and_parts (are_regions cut.skip) (are_points_of cut.version cut.points) bits.1 in
    regions_few cut.skip lists.0

-- ---- the texts

bound_small : (bits : ℕ) (cut : CutPicture) → is_cut_picture cut ≡ true → bits ≤ 524288 → HasFewRuns bits cut →
    byte_bound cut ≤ 67108864
bound_small bits cut valid small few =
    let skip = skip_few cut valid in
    let points : length cut.points ≤ bits = few.points in
    let runs : listed_runs cut.points ≤ 2 * bits + length cut.points = few.runs in
    omega (arith, skip, small, points, runs)

pub own_text : (bits : ℕ) (cut : CutPicture) → is_cut_picture cut ≡ true → cut.version ≡ 1 → bits ≤ 524288 →
    HasFewRuns bits cut → length (cut_text cut) ≤ 67108864
own_text bits cut valid first small few =
    let whole = text_short cut valid first in
    let bound = bound_small bits cut valid small few in
    omega (arith, whole, bound)

pub fold_text : (bits : ℕ) (cut folded : CutPicture) → is_cut_picture cut ≡ true → cut.version ≡ 1 → bits ≤ 524288 →
    HasFewRuns bits cut → is_cut_picture folded ≡ true → IsFold cut folded → length (cut_text folded) ≤ 67108864
fold_text bits cut folded valid first small few own made =
    let whole = fold_short cut folded valid first own made in
    let bound = bound_small bits cut valid small few in
    omega (arith, whole, bound)
