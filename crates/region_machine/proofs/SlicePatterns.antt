-- A list with its first item and the rest of it, as a slice pattern reads them; and what the recursions over the parts
-- of a region do at them.
use Rattle.std.proofs.Common.{◌≡◌, ℕ, ◌+◌, ◌-◌, ◌<◌, ◌≤◌, List, [], ◌∷◌, Bool, true, length, get_or, take, drop, ◌&&◌}
use Rattle.std.proofs.Common.{ap, sym, refl, ◌∙◌, arith, false, not, nat_le, ◌==◌, Result, Ok, Err, Some, None}
use Rattle.std.specs.List.{find, list_all}
use Rattle.std.proofs.lemmas.Bool.{and_parts, cond-false, leb-true}
use Rattle.std.proofs.lemmas.List.{take_rest, length-drop}
use Rattle.flow_base.specs.declared.points.Slot.TheVariants.{OutReg}
use Rattle.rv32im_machine.specs.declared.language.Place.TheVariants.{Register}
use Rattle.rv32im_machine.specs.declared.language.Source.TheVariants.{Constant}
use Rattle.rv32im_machine.specs.declared.language.Shape.TheVariants.{Copied}
use Rattle.rv32im_machine.specs.State.{State}
use Rattle.rv32im_machine.specs.Language.{Turn, Gives, Moves}
use Rattle.rv32im_machine.specs.Playing.{Played, Halted, Goes}
use Rattle.enclosure_regions.specs.declared.region_parts.Range.{Range}
use Rattle.enclosure_regions.specs.declared.region_parts.Region.{Region}
use Rattle.enclosure_regions.specs.Regions.{are_apart, are_ranges, are_registers, is_code_address, is_range, is_region}
use Rattle.enclosure_regions.specs.Regions.{is_register}
use Rattle.enclosure_regions.specs.Turns.{start_of}
use Rattle.region_machine.specs.Guests.{clears_bytes, clears_ranges, clears_registers, gives, gives_bytes}
use Rattle.region_machine.specs.Guests.{gives_ranges, gives_registers, looks, looks_at, output_point}
use Rattle.region_machine.specs.Within.{are_inside}
use Rattle.flow_base.specs.Points.{is_region_number}

-- the items after the first
abbrev pub rest_of : {X : Type 0} → List X → List X
rest_of xs = take (length xs - 1) (drop 1 xs)

pub rest_length : {X : Type 0} (xs : List X) → 1 ≤ length xs → length (rest_of xs) + 1 ≡ length xs
rest_length xs some = omega (arith, ap length (take_rest xs 1), length-drop 1 xs)

pub rest_falls : {X : Type 0} (xs : List X) (t : ℕ) → length xs ≡ t → 1 ≤ length xs → length (rest_of xs) < t
rest_falls xs t e some = omega (arith, rest_length xs some)

pub first_all : {X : Type 0} (test : X → Bool) (xs : List X) (d : X) → 1 ≤ length xs → list_all test xs ≡ true →
    test (get_or xs 0 d) ≡ true
first_all test [] d some all = absurd (omega arith)
first_all test (x ∷ xs) d some all = (and_parts (test x) (list_all test xs) all).0

pub rest_all : {X : Type 0} (test : X → Bool) (xs : List X) → 1 ≤ length xs → list_all test xs ≡ true →
    list_all test (rest_of xs) ≡ true
rest_all test [] some all = absurd (omega arith)
rest_all test (x ∷ xs) some all =
    ap (list_all test) (take_rest (x ∷ xs) 1) ∙ (and_parts (test x) (list_all test xs) all).1

pub find_none : {X : Type 0} (test : X → Bool) (xs : List X) → length xs < 1 → None ≡ find test xs
find_none test [] none = refl
find_none test (x ∷ xs) none = absurd (omega arith)

pub find_rest : {X : Type 0} (test : X → Bool) (xs : List X) (x : X) → 1 ≤ length xs → x ≡ get_or xs 0 x →
    test x ≡ false → find test (rest_of xs) ≡ find test xs
find_rest test [] x some is other = absurd (omega arith)
find_rest test (y ∷ ys) x some is other =
    ap (find test) (take_rest (y ∷ ys) 1)
    ∙ sym (cond-false (test y) (Some y) (find test ys) (ap test (sym is) ∙ other))

-- what may be played before an answer may be played before what leads to it
pub goes_before : {A Stop Tape : Type 0} (result : Result A Stop) (after : A → Played Stop Tape → Type 0)
    (middle before : Played Stop Tape → Type 0) → ((out : Played Stop Tape) → middle out → before out) →
    Goes result after middle → Goes result after before
goes_before (Ok answer) after middle before leads goes = λ out h. leads out (goes out h)
goes_before (Err stop) after middle before leads goes = leads (Halted stop) goes

-- ---- the outputs

pub gives_registers_none : (region : Region) (registers : List ℕ) (turn : Turn) → length registers < 1 →
    gives_registers region registers turn ≡ turn
unfolding gives_registers
gives_registers_none region [] turn none = refl
gives_registers_none region (register ∷ registers) turn none = absurd (omega arith)

pub gives_registers_more : (region : Region) (registers : List ℕ) (turn : Turn) → 1 ≤ length registers →
    gives_registers region registers turn
    ≡ Gives (output_point region (OutReg (get_or registers 0 0))) (Register (get_or registers 0 0))
    (gives_registers region (rest_of registers) turn)
unfolding gives_registers
gives_registers_more region [] turn some = absurd (omega arith)
gives_registers_more region (register ∷ registers) turn some =
    ap (λ rest. Gives (output_point region (OutReg register)) (Register register) (gives_registers region rest turn))
    (sym (take_rest (register ∷ registers) 1))

pub gives_ranges_none : (region : Region) (registers : List ℕ) (number : ℕ) (ranges : List Range) (turn : Turn) →
    length ranges < 1 → gives_ranges region registers number ranges turn ≡ turn
unfolding gives_ranges
gives_ranges_none region registers number [] turn none = refl
gives_ranges_none region registers number (range ∷ ranges) turn none = absurd (omega arith)

pub gives_ranges_more : (region : Region) (registers : List ℕ) (number start : ℕ) (ranges : List Range) (d : Range)
    (turn : Turn) → 1 ≤ length ranges → start ≡ start_of registers (get_or ranges 0 d) →
    gives_ranges region registers number ranges turn
    ≡ gives_bytes region number start (get_or ranges 0 d).length
    (gives_ranges region registers (number + 1) (rest_of ranges) turn)
unfolding gives_ranges
gives_ranges_more region registers number start [] d turn some e = absurd (omega arith)
gives_ranges_more region registers number start (range ∷ ranges) d turn some e =
    ap (λ rest. gives_bytes region number (start_of registers range) range.length
    (gives_ranges region registers (number + 1) rest turn)) (sym (take_rest (range ∷ ranges) 1))
    ∙ ap (λ from. gives_bytes region number from range.length
    (gives_ranges region registers (number + 1) (rest_of (range ∷ ranges)) turn)) (sym e)

-- ---- the places that are cleared

pub clears_registers_none : (registers : List ℕ) (turn : Turn) → length registers < 1 →
    clears_registers registers turn ≡ turn
unfolding clears_registers
clears_registers_none [] turn none = refl
clears_registers_none (register ∷ registers) turn none = absurd (omega arith)

pub clears_registers_more : (registers : List ℕ) (turn : Turn) → 1 ≤ length registers →
    clears_registers registers turn
    ≡ Moves (Register (get_or registers 0 0)) Copied (Constant 0) (clears_registers (rest_of registers) turn)
unfolding clears_registers
clears_registers_more [] turn some = absurd (omega arith)
clears_registers_more (register ∷ registers) turn some =
    ap (λ rest. Moves (Register register) Copied (Constant 0) (clears_registers rest turn))
    (sym (take_rest (register ∷ registers) 1))

pub clears_ranges_none : (registers : List ℕ) (ranges : List Range) (turn : Turn) → length ranges < 1 →
    clears_ranges registers ranges turn ≡ turn
unfolding clears_ranges
clears_ranges_none registers [] turn none = refl
clears_ranges_none registers (range ∷ ranges) turn none = absurd (omega arith)

pub clears_ranges_more : (registers : List ℕ) (start : ℕ) (ranges : List Range) (d : Range) (turn : Turn) →
    1 ≤ length ranges → start ≡ start_of registers (get_or ranges 0 d) →
    clears_ranges registers ranges turn
    ≡ clears_bytes start (get_or ranges 0 d).length (clears_ranges registers (rest_of ranges) turn)
unfolding clears_ranges
clears_ranges_more registers start [] d turn some e = absurd (omega arith)
clears_ranges_more registers start (range ∷ ranges) d turn some e =
    ap (λ rest. clears_bytes (start_of registers range) range.length (clears_ranges registers rest turn))
    (sym (take_rest (range ∷ ranges) 1))
    ∙ ap (λ from. clears_bytes from range.length (clears_ranges registers (rest_of (range ∷ ranges)) turn)) (sym e)

-- ---- the looks of an entry

pub looks_none : (ranges : List Range) (turn : Turn) → length ranges < 1 → looks ranges turn ≡ turn
unfolding looks
looks_none [] turn none = refl
looks_none (range ∷ ranges) turn none = absurd (omega arith)

pub looks_more : (ranges : List Range) (d : Range) (turn : Turn) → 1 ≤ length ranges →
    looks ranges turn ≡ looks_at (get_or ranges 0 d).base (looks (rest_of ranges) turn)
unfolding looks
looks_more [] d turn some = absurd (omega arith)
looks_more (range ∷ ranges) d turn some =
    ap (λ rest. looks_at range.base (looks rest turn)) (sym (take_rest (range ∷ ranges) 1))

-- ---- the parts of a region

parts_of : (region : Region) → is_region region ≡ true →
    (are_registers region.outs && (are_registers region.keep && (are_apart region.outs region.keep
    && are_ranges region.ranges))) ≡ true
parts_of region rules =
    let number = and_parts (is_region_number region.id) _ rules in
    let enter = and_parts (is_code_address region.enter) _ number.1 in
    let leave = and_parts (is_code_address region.leave) _ enter.1 in
    (and_parts (not (region.enter == region.leave)) _ leave.1).1

pub outs_registers : (region : Region) → is_region region ≡ true → list_all is_register region.outs ≡ true
outs_registers region rules =
    let outs = and_parts (are_registers region.outs) _ (parts_of region rules) in
    (and_parts (list_all is_register region.outs) _ outs.0).0

ranges_of : (region : Region) → is_region region ≡ true → are_ranges region.ranges ≡ true
ranges_of region rules =
    let outs = and_parts (are_registers region.outs) _ (parts_of region rules) in
    let keep = and_parts (are_registers region.keep) _ outs.1 in
    (and_parts (are_apart region.outs region.keep) _ keep.1).1

pub ranges_ranges : (region : Region) → is_region region ≡ true → list_all is_range region.ranges ≡ true
ranges_ranges region rules = (and_parts (list_all is_range region.ranges) _ (ranges_of region rules)).0

pub ranges_few : (region : Region) → is_region region ≡ true → length region.ranges ≤ 64
ranges_few region rules =
    let ranges = and_parts (list_all is_range region.ranges) _ (ranges_of region rules) in
    leb-true (length region.ranges) 64 (and_parts (nat_le (length region.ranges) 64) _ ranges.1).0

pub inside_kept : (ranges same : List Range) (registers : List ℕ) (before after : State) → ranges ≡ same →
    after.setting ≡ before.setting → are_inside same registers before.setting.base ≡ true →
    are_inside ranges registers after.setting.base ≡ true
inside_kept ranges same registers before after e k inside =
    ap (λ these. are_inside these registers after.setting.base) e
    ∙ ap (λ setting. are_inside same registers setting.base) k ∙ inside

pub gives_parts : (region : Region) (registers outs : List ℕ) (ranges : List Range) (turn : Turn) →
    outs ≡ region.outs → ranges ≡ region.ranges →
    gives region registers turn ≡ gives_registers region outs (gives_ranges region registers 0 ranges turn)
gives_parts region registers outs ranges turn e k =
    ap (λ these. gives_registers region these (gives_ranges region registers 0 region.ranges turn)) (sym e)
    ∙ ap (λ these. gives_registers region outs (gives_ranges region registers 0 these turn)) (sym k)
