-- How long the text of a cut is: words, lines, and then all lines.
use Rattle.std.proofs.Common.{◌≡◌, ℕ, suc, ◌+◌, ◌*◌, ◌<◌, ◌≤◌, ◌==◌, nat_le, length, Bool, true, false}
use Rattle.std.proofs.Common.{List, [], ◌∷◌, ◌++◌, codes, map, refl, ap, subst, arith}
use Rattle.std.proofs.Common.{append_assoc, length-append, if◌then◌else◌}
use Rattle.std.specs.Fmt.{decimal}
use Rattle.std.specs.List.{list_all}
use Rattle.std.proofs.lemmas.Bool.{and_parts, leb-true, ltb-true}
use Rattle.std.proofs.lemmas.List.Sums.{sum_by-cons}
use Rattle.std.proofs.lemmas.Fmt.{length-decimal-le}
use Rattle.flow_base.specs.HexWords.{hex_word}
use Rattle.flow_base.specs.Points.{is_slot, slot_text, is_region_number}
use Rattle.flow_base.specs.declared.points.Slot.{Slot}
use Rattle.flow_base.specs.declared.points.Slot.TheVariants as slots
use Rattle.cut_file.specs.declared.points.CutPoint.{CutPoint}
use Rattle.cut_file.specs.declared.points.Run.{Run}
use Rattle.cut_file.specs.declared.lines.Line.{Line}
use Rattle.cut_file.specs.declared.lines.Line.TheVariants.{Version, Secret, Bits, Skip, Point, End}
use Rattle.cut_file.specs.Cuts.{CutPicture, are_points_of, are_regions, are_runs, have_other_masks, is_cut_point}
use Rattle.cut_file.specs.Cuts.{is_point, is_point_of, is_rest, is_run, is_single, is_cut_picture, is_version}
use Rattle.cut_file.specs.Cuts.{is_word, neighbours_pass, stands_before}
use Rattle.cut_file.specs.Texts.{cut_text, separated, line_text, lines_text, point_words, rest_text, run_text}
use Rattle.cut_file.specs.TextLengths.{byte_bound, listed_runs}
use Rattle.cut_file.proofs.Following.{points_all}

-- ---- words

number_length : (number : ℕ) → number < 4294967296 → length (decimal number) ≤ 10
number_length number small = length-decimal-le 10 number (omega arith) (omega arith) (omega arith)

region_length : (number : ℕ) → number ≤ 65535 → length (decimal number) ≤ 5
region_length number small = length-decimal-le 5 number (omega arith) (omega arith) (omega arith)

place_length : (number : ℕ) → number < 64 → length (decimal number) ≤ 2
place_length number small = length-decimal-le 2 number (omega arith) (omega arith) (omega arith)

slot_length : (slot : Slot) → is_slot slot ≡ true → length (slot_text slot) ≤ 3
slot_length slots.First known = omega arith
slot_length slots.Second known = omega arith
slot_length slots.Address known = omega arith
slot_length slots.Result known = omega arith
slot_length slots.Decision known = omega arith
slot_length slots.Number known = omega arith
slot_length slots.Arg0 known = omega arith
slot_length slots.Arg1 known = omega arith
slot_length slots.Arg2 known = omega arith
slot_length slots.SecretIn known = omega arith
slot_length slots.ByteOut known = omega arith
slot_length slots.Status known = omega arith
slot_length (slots.OutReg register) known =
    let small : register < 64 = grind arith in
    let digits = place_length register small in
    omega (arith, digits)
slot_length (slots.OutRange range) known =
    let small : range < 64 = grind arith in
    let digits = place_length range small in
    omega (arith, digits)

run_length : (run : Run) → is_run run ≡ true → length (run_text run) ≤ 21
run_length run known =
    let small : run.count < 4294967296 = grind arith in
    let digits = number_length run.count small in
    let whole = length-append (decimal run.count) (42 ∷ hex_word run.mask) in
    omega (arith, digits, whole)

rest_by : Bool → Run → List ℕ
rest_by counted run = if counted then run_text run else hex_word run.mask

rest_by_length : (counted : Bool) (run : Run) → is_run run ≡ true → length (rest_by counted run) ≤ 21
unfolding rest_by
rest_by_length true run known = run_length run known
rest_by_length false run known = omega arith

rest_length : (version : ℕ) (run : Run) → is_run run ≡ true → length (rest_text version run) ≤ 21
unfolding rest_by
rest_length version run known = rest_by_length (version == 2) run known

-- ---- words with a separator

-- the bytes of words and of a separator after each
spread : List (List ℕ) → ℕ
spread [] = 0
spread (word ∷ words) = suc (length word) + spread words

joined_length : (separator : ℕ) (words : List (List ℕ)) → length (separated separator words) ≤ spread words
unfolding spread
joined_length separator [] = omega arith
joined_length separator (word ∷ []) = omega arith
joined_length separator (word ∷ (next ∷ words)) =
    let inner = joined_length separator (next ∷ words) in
    let whole = length-append word (separator ∷ separated separator (next ∷ words)) in
    omega (arith, inner, whole)

spread_append : (first second : List (List ℕ)) → spread (first ++ second) ≡ spread first + spread second
unfolding spread
spread_append [] second = omega arith
spread_append (word ∷ first) second =
    let inner = spread_append first second in
    omega (arith, inner)

spread_runs : (text : Run → List ℕ) (runs : List Run) → ((run : Run) → is_run run ≡ true → length (text run) ≤ 21) →
    list_all is_run runs ≡ true → spread (map text runs) ≤ 22 * length runs
unfolding spread
spread_runs text [] short all = omega arith
spread_runs text (run ∷ runs) short all =
    let both = and_parts (is_run run) (list_all is_run runs) all in
    let own = short run both.0 in
    let inner = spread_runs text runs short both.1 in
    omega (arith, own, inner)

-- ---- lines

point_words_length : (version : ℕ) (point : CutPoint) → is_cut_point point ≡ true →
    spread (point_words version point) ≤ 26 + 22 * (length point.runs + length point.rest)
unfolding spread
point_words_length version point known =
    let whole = and_parts (is_point point.point) _ known in
    let place = and_parts (nat_le point.point.region 65535) _ whole.0 in
    let slot = and_parts (is_word point.point.address) (is_slot point.point.slot) place.1 in
    let lists = and_parts (are_runs point.runs) (is_rest point.rest) whole.1 in
    let listed = and_parts (list_all is_run point.runs) (neighbours_pass have_other_masks point.runs) lists.0 in
    let pattern = and_parts (nat_le 1 (length point.rest)) (are_runs point.rest) lists.1 in
    let rest = and_parts (list_all is_run point.rest) (neighbours_pass have_other_masks point.rest) pattern.1 in
    let near : point.point.region ≤ 65535 = leb-true _ _ place.0 in
    let region = region_length point.point.region near in
    let letters = slot_length point.point.slot slot.1 in
    let runs = spread_runs run_text point.runs run_length listed.0 in
    let others = spread_runs (rest_text version) point.rest (rest_length version) rest.0 in
    let split = spread_append (map run_text point.runs) (codes "rest" ∷ map (rest_text version) point.rest) in
    omega (arith, region, letters, runs, others, split)

point_line_length : (version : ℕ) (point : CutPoint) → is_cut_point point ≡ true →
    length (line_text version (Point point)) ≤ 32 + 22 * (length point.runs + length point.rest)
point_line_length version point known =
    let words = point_words_length version point known in
    let whole = joined_length 32 (point_words version point) in
    omega (arith, words, whole)

-- the bytes of the lines of points at most, each with its line feed
unfoldable pub point_bytes : List CutPoint → ℕ
point_bytes [] = 0
point_bytes (point ∷ points) = 33 + 22 * (length point.runs + length point.rest) + point_bytes points

points_length : (version : ℕ) (points : List CutPoint) (more : List Line) → list_all is_cut_point points ≡ true →
    length (lines_text version (map Point points ++ more)) ≤ point_bytes points + length (lines_text version more)
unfolding point_bytes
points_length version [] more all = omega arith
points_length version (point ∷ points) more all =
    let both = and_parts (is_cut_point point) (list_all is_cut_point points) all in
    let own = point_line_length version point both.0 in
    let inner = points_length version points more both.1 in
    let whole = length-append (line_text version (Point point)) (10 ∷ lines_text version (map Point points ++ more)) in
    omega (arith, own, inner, whole)

skips_length : (version : ℕ) (skip : List ℕ) (more : List Line) → list_all is_region_number skip ≡ true →
    length (lines_text version (map Skip skip ++ more)) ≤ 11 * length skip + length (lines_text version more)
skips_length version [] more all = omega arith
skips_length version (region ∷ skip) more all =
    let both = and_parts (is_region_number region) (list_all is_region_number skip) all in
    let range = and_parts (nat_le 1 region) (nat_le region 65535) both.0 in
    let own = region_length region (leb-true _ _ range.1) in
    let inner = skips_length version skip more both.1 in
    let whole = length-append (line_text version (Skip region)) (10 ∷ lines_text version (map Skip skip ++ more)) in
    omega (arith, own, inner, whole)

-- ---- all lines

head_length : (version secret_len bits : ℕ) (more : List Line) → version < 64 → secret_len ≤ 65536 →
    bits < 4294967296 →
    length (lines_text version (Version version ∷ (Secret secret_len ∷ (Bits bits ∷ more)))) ≤
    60 + length (lines_text version more)
head_length version secret_len bits more known short word =
    let first = place_length version known in
    let second = number_length secret_len (omega (arith, short)) in
    let third = number_length bits word in
    let last = length-append (line_text version (Bits bits)) (10 ∷ lines_text version more) in
    let middle = length-append (line_text version (Secret secret_len)) (10 ∷ lines_text version (Bits bits ∷ more)) in
    let whole = length-append (line_text version (Version version)) (10 ∷ lines_text version
    (Secret secret_len ∷ (Bits bits ∷ more))) in
    omega (arith, first, second, third, last, middle, whole)

version_small : (version : ℕ) → is_version version ≡ true → version < 64
version_small version known = grind arith

pub cut_length : (cut : CutPicture) → is_cut_picture cut ≡ true →
    length (cut_text cut) ≤ 64 + 11 * length cut.skip + point_bytes cut.points
cut_length cut valid =
    let known = and_parts (is_version cut.version) _ valid in
    let short = and_parts (nat_le cut.secret_len 65536) _ known.1 in
    let bits = and_parts (is_word cut.bits) _ short.1 in
    let lists = and_parts (are_regions cut.skip) (are_points_of cut.version cut.points) bits.1 in
    let skip = and_parts (list_all is_region_number cut.skip) _ lists.0 in
    let points = and_parts (list_all (is_point_of cut.version) cut.points) _ lists.1 in
    let head = head_length cut.version cut.secret_len cut.bits ((map Skip cut.skip ++ map Point cut.points) ++
    (End ∷ [])) (version_small cut.version known.0) (leb-true _ _ short.0) (ltb-true _ _ bits.0) in
    let skips = skips_length cut.version cut.skip (map Point cut.points ++ (End ∷ [])) skip.0 in
    let lines = points_length cut.version cut.points (End ∷ []) (points_all cut.version cut.points points.0) in
    let order : length (lines_text cut.version ((map Skip cut.skip ++ map Point cut.points) ++ (End ∷ []))) ≡
    length (lines_text cut.version (map Skip cut.skip ++ (map Point cut.points ++ (End ∷ [])))) =
    ap (λ (l : List Line). length (lines_text cut.version l))
    (append_assoc (map Skip cut.skip) (map Point cut.points) (End ∷ [])) in
    omega (arith, head, skips, lines, order)

-- ---- version 1, in which a pattern is one run

single_length : (rest : List Run) → is_single rest ≡ true → length rest ≡ 1
single_length [] known = absurd cc
single_length (run ∷ []) known = refl
single_length (run ∷ (next ∷ runs)) known = absurd cc

pub single_rest : (point : CutPoint) → is_point_of 1 point ≡ true → length point.rest ≡ 1
single_rest point known =
    single_length point.rest (and_parts (is_cut_point point) (is_single point.rest) known).1

single_bytes : (points : List CutPoint) → list_all (is_point_of 1) points ≡ true →
    point_bytes points ≤ 55 * length points + 22 * listed_runs points
unfolding point_bytes
single_bytes [] all = omega arith
single_bytes (point ∷ points) all =
    let both = and_parts (is_point_of 1 point) (list_all (is_point_of 1) points) all in
    let own = single_rest point both.0 in
    let inner = single_bytes points both.1 in
    let count = sum_by-cons (λ (p : CutPoint). length p.runs) point points in
    omega (arith, own, inner, count)

pub points_of : (cut : CutPicture) → is_cut_picture cut ≡ true → list_all (is_point_of cut.version) cut.points ≡ true
points_of cut valid =
    let known = and_parts (is_version cut.version) _ valid in
    let short = and_parts (nat_le cut.secret_len 65536) _ known.1 in
    let bits = and_parts (is_word cut.bits) _ short.1 in
    let lists = and_parts (are_regions cut.skip) (are_points_of cut.version cut.points) bits.1 in
    (and_parts (list_all (is_point_of cut.version) cut.points) (neighbours_pass stands_before cut.points) lists.1).0

pub text_short : (cut : CutPicture) → is_cut_picture cut ≡ true → cut.version ≡ 1 → length (cut_text cut) ≤ byte_bound cut
text_short cut valid first =
    let single = subst (λ (n : ℕ). list_all (is_point_of n) cut.points ≡ true) first (points_of cut valid) in
    let lines = single_bytes cut.points single in
    let whole = cut_length cut valid in
    omega (arith, lines, whole)
