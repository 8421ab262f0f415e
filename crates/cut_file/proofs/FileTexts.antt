-- The text of a cut is read as that cut, and a file with a fault answers that fault.
use Rattle.std.proofs.Common.{◌≡◌, ℕ, suc, ◌+◌, ◌-◌, ◌≤◌, ◌==◌, nat_lt, Bool, true, false, List, []}
use Rattle.std.proofs.Common.{◌∷◌, ◌++◌, length, Option, Some, Result, Ok, Err, if◌then◌else◌, inl, inr, refl}
use Rattle.std.proofs.Common.{sym, ◌∙◌, ap, append_assoc, arith, length-append}
use Rattle.std.specs.Prelude.{map}
use Rattle.std.specs.List.{list_all}
use Rattle.std.proofs.lemmas.Bool.{and_parts, and_from, cond-false}
use Rattle.std.proofs.lemmas.List.{append-nil, length-map}
use Rattle.cut_file.specs.declared.faults.CutFault.{CutFault}
use Rattle.cut_file.specs.declared.faults.CutFault.TheVariants as faults
use Rattle.cut_file.specs.declared.lines.Line.{Line}
use Rattle.cut_file.specs.declared.lines.Line.TheVariants.{Version, Secret, Bits, Skip, Point, End}
use Rattle.cut_file.specs.declared.points.CutPoint.{CutPoint}
use Rattle.cut_file.specs.Cuts.{CutPicture, are_points_of, are_regions, is_empty, is_point_of, is_cut_picture}
use Rattle.cut_file.specs.Cuts.{is_version, is_word, stands_before}
use Rattle.cut_file.specs.Faults.{FirstCutFault, HasLine, IsOpen, MayStand, Stands}
use Rattle.cut_file.specs.Fronts.{Front, followed, front_text, is_front, is_whole, lines_before, version_of}
use Rattle.cut_file.specs.Fronts.Front.{Nothing, Versioned, Sized, Listed, Whole}
use Rattle.cut_file.specs.Private.Reading.{◌>>◌, Read, cut_in, is_in_order, lines_in, or_fault, parts, unfit}
use Rattle.cut_file.specs.Private.Reading.{unless_whole, whole_cut, with_line, with_text}
use Rattle.cut_file.specs.Texts.{CutText, cut_text, is_line, separated, line_text, lines_text, open_lines}
use Rattle.cut_file.proofs.FileReads.{TextAnswer, feed_byte, text_answer}
use Rattle.cut_file.proofs.Following.{is_kept, kept_step}
use Rattle.cut_file.proofs.Fronts.{next_ordered}
use Rattle.cut_file.proofs.LineTexts.{line_clean, line_own}
use Rattle.cut_file.proofs.Parts.{joined_parts, parts_front, parts_last, parts_some, has_byte}
use Rattle.cut_file.proofs.Pieces.{lines_append}
use Rattle.flow_base.specs.Points.{is_region_number}

abbrev pub fine : {A : Type 0} → A → Result A CutFault
fine value = Ok value

abbrev pub faulty : {A : Type 0} → CutFault → Result A CutFault
faulty fault = Err fault

-- ---- one line

-- what a line answers whose form may stand there
known_text : (number : ℕ) (front next : Front) (line : Line) → is_front front ≡ true →
    is_line (version_of front) line ≡ true → followed front line ≡ Some next →
    with_text number front (line_text (version_of front) line) ≡ (if is_front next then fine next else faulty
    (faults.Order number))
unfolding with_text with_line
known_text number front next line ordered known follows =
    ap (λ (o : Option Line). or_fault o (unfit number) >> λ line. with_line number front line)
    (line_own (version_of front) line known)
    ∙ ap (λ (o : Option Front). or_fault o (unfit number) >> λ longer. if is_in_order front line then fine longer else
    faulty (faults.Order number)) follows
    ∙ ap (λ (b : Bool). if b then fine next else faulty (faults.Order number))
    (sym (next_ordered front line next ordered known follows))

stands_text : (number : ℕ) (front next : Front) (text : List ℕ) (test : Bool) → is_front front ≡ true →
    Stands front text next → is_front next ≡ test →
    with_text number front text ≡ (if test then fine next else faulty (faults.Order number))
stands_text number front next text test ordered stands is =
    ap (with_text number front) stands.is
    ∙ known_text number front next stands.line ordered stands.known stands.follows
    ∙ ap (λ (b : Bool). if b then fine next else faulty (faults.Order number)) is

unfit_answer : (number : ℕ) (front : Front) (text : List ℕ) (answer : Result Front CutFault) →
    TextAnswer number front text answer → (MayStand front text → ⊥) → answer ≡ faulty (unfit number)
unfit_answer number front text (Ok next) told unfits = absurd (unfits (next, told.0))
unfit_answer number front text (Err fault) told unfits = elim told [
  | inl late ↦ absurd (unfits (late.1.0, late.1.1))
  | inr other ↦ ap (λ (f : CutFault). faulty f) other.0
]

lines_cons : (number : ℕ) (front : Front) (text : List ℕ) (texts : List (List ℕ)) → is_empty texts ≡ false →
    lines_in number front (text ∷ texts)
    ≡ (with_text number front text >> λ longer. unless_whole longer texts (lines_in (number + 1) longer texts))
unfolding lines_in
lines_cons number front text [] some = absurd cc
lines_cons number front text (next ∷ texts) some = refl

pub unless_open : (front : Front) (texts : List (List ℕ)) (read : Read) → is_whole front ≡ false →
    unless_whole front texts read ≡ read
unless_open Nothing texts read goes_on = refl
unless_open (Versioned version) texts read goes_on = refl
unless_open (Sized version secret_len) texts read goes_on = refl
unless_open (Listed cut) texts read goes_on = refl
unless_open (Whole cut) texts read is_open = absurd cc

abbrev pub going : ℕ → List (List ℕ) → Result Front CutFault → Read
going number texts answer = answer >> λ longer. unless_whole longer texts (lines_in (number + 1) longer texts)

pub lines_go : (number : ℕ) (front next : Front) (text : List ℕ) (texts : List (List ℕ)) → is_empty texts ≡ false →
    with_text number front text ≡ fine next → is_whole next ≡ false →
    lines_in number front (text ∷ texts) ≡ lines_in (number + 1) next texts
lines_go number front next text texts some is is_open =
    lines_cons number front text texts some ∙ ap (going number texts) is
    ∙ unless_open next texts (lines_in (number + 1) next texts) is_open

pub lines_end : (number : ℕ) (front : Front) (cut : CutPicture) (text : List ℕ) (texts : List (List ℕ)) →
    is_empty texts ≡ false → with_text number front text ≡ fine (Whole cut) →
    lines_in number front (text ∷ texts) ≡ fine (cut, texts)
lines_end number front cut text texts some is =
    lines_cons number front text texts some ∙ ap (going number texts) is

pub lines_fail : (number : ℕ) (front : Front) (text : List ℕ) (texts : List (List ℕ)) (fault : CutFault) →
    is_empty texts ≡ false → with_text number front text ≡ faulty fault →
    lines_in number front (text ∷ texts) ≡ faulty fault
lines_fail number front text texts fault some is =
    lines_cons number front text texts some ∙ ap (going number texts) is

-- ---- lines in order

over : (number : ℕ) (front next : Front) (line : Line) (tail : List (List ℕ)) → is_front front ≡ true →
    is_line (version_of front) line ≡ true → followed front line ≡ Some next → IsOpen next →
    is_empty tail ≡ false →
    lines_in number front (line_text (version_of front) line ∷ tail) ≡ lines_in (number + 1) next tail
over number front next line tail ordered known follows is_open some =
    lines_go number front next (line_text (version_of front) line) tail some
    (known_text number front next line ordered known follows
    ∙ ap (λ (b : Bool). if b then fine next else faulty (faults.Order number)) is_open.ordered) is_open.goes_on

-- items of one kind, each with a line after those of the items before it
record IsKind {A : Type 0} (version : ℕ) (form : A → Line) (front : List A → Front) (each : A → Bool)
    (test : A → A → Bool) : Type 0 where
  pub known : (item : A) → each item ≡ true → is_line version (form item) ≡ true
  pub same : (items : List A) → version_of (front items) ≡ version
  pub follows : (items : List A) (item : A) →
      followed (front items) (form item) ≡ Some (front (items ++ (item ∷ [])))
  pub is_open : (items : List A) → is_kept each test items ≡ true → IsOpen (front items)

some_behind : (first second : List (List ℕ)) → is_empty second ≡ false → is_empty (first ++ second) ≡ false
some_behind [] second some = some
some_behind (line ∷ first) second some = refl

items_own : {A : Type 0} (version : ℕ) (form : A → Line) (front : List A → Front) (each : A → Bool)
    (test : A → A → Bool) → IsKind version form front each test → (more done : List A) (number : ℕ)
    (tail : List (List ℕ)) → is_kept each test done ≡ true → is_kept each test (done ++ more) ≡ true →
    is_empty tail ≡ false →
    lines_in number (front done) (map (line_text version) (map form more) ++ tail)
    ≡ lines_in (number + length more) (front (done ++ more)) tail
items_own version form front each test kind [] done number tail before kept some =
    let same : number ≡ number + 0 = omega arith in
    ap (λ (n : ℕ). lines_in n (front done) tail) same
    ∙ ap (λ l. lines_in (number + 0) (front l) tail) (sym (append-nil done))
items_own version form front each test kind (item ∷ more) done number tail before kept some =
    let step = kept_step each test done item more kept in
    let same : done ++ (item ∷ more) ≡ (done ++ (item ∷ [])) ++ more = sym (append_assoc done (item ∷ []) more) in
    let count : (number + 1) + length more ≡ number + length (item ∷ more) = omega arith in
    let here = kind.is_open done before in
    let next = kind.is_open (done ++ (item ∷ [])) step.kept in
    let is = kind.same done in
    let known = ap (λ (v : ℕ). is_line v (form item)) is ∙ kind.known item step.own in
    let texts : List (List ℕ) = map (line_text version) (map form more) ++ tail in
    ap (λ (v : ℕ). lines_in number (front done) (line_text v (form item) ∷ texts)) (sym is)
    ∙ over number (front done) (front (done ++ (item ∷ []))) (form item) texts here.ordered known
    (kind.follows done item) next (some_behind (map (line_text version) (map form more)) tail some)
    ∙ items_own version form front each test kind more (done ++ (item ∷ [])) (number + 1) tail step.kept
    (ap (is_kept each test) (sym same) ∙ kept) some
    ∙ ap (λ (n : ℕ). lines_in n (front ((done ++ (item ∷ [])) ++ more)) tail) count
    ∙ ap (λ l. lines_in (number + length (item ∷ more)) (front l) tail) (sym same)

record IsHead (version secret_len bits : ℕ) : Type 0 where
  pub known : is_version version ≡ true
  pub short : is_line version (Secret secret_len) ≡ true
  pub word : is_word bits ≡ true

abbrev of_lists : CutPicture → List ℕ → List CutPoint → Front
of_lists cut skip points = Listed (record cut { skip = skip; points = points })

skip_kind : (cut : CutPicture) → IsHead cut.version cut.secret_len cut.bits →
    IsKind cut.version (λ r. Skip r) (λ l. of_lists cut l []) is_region_number nat_lt
skip_kind cut head = record {
  known = λ region own. own;
  same = λ skip. refl;
  follows = λ skip region. refl;
  is_open = λ skip kept. record {
    ordered = and_from _ _ head.known (and_from _ _ head.short (and_from _ _ head.word (and_from _ _ kept refl)));
    goes_on = refl;
  };
}

point_kind : (cut : CutPicture) → IsHead cut.version cut.secret_len cut.bits → are_regions cut.skip ≡ true →
    IsKind cut.version (λ p. Point p) (λ l. of_lists cut cut.skip l) (is_point_of cut.version) stands_before
point_kind cut head skip = record {
  known = λ point own. own;
  same = λ points. refl;
  follows = λ points point. refl;
  is_open = λ points kept. record {
    ordered = and_from _ _ head.known (and_from _ _ head.short (and_from _ _ head.word (and_from _ _ skip kept)));
    goes_on = refl;
  };
}

map_over_both : {A B : Type 0} (f : A → B) (first second : List A) → map f (first ++ second) ≡ map f first ++ map f second
map_over_both f [] second = refl
map_over_both f (item ∷ first) second = ap (λ l. f item ∷ l) (map_over_both f first second)

-- the regions and points after the first three lines
lists_own : (cut : CutPicture) (tail : List (List ℕ)) → IsHead cut.version cut.secret_len cut.bits →
    are_regions cut.skip ≡ true → are_points_of cut.version cut.points ≡ true → is_empty tail ≡ false →
    lines_in 4 (of_lists cut [] []) (map (line_text cut.version) (map Skip cut.skip ++ map Point cut.points) ++ tail)
    ≡ lines_in (suc (length (open_lines cut))) (Listed cut) tail
lists_own cut tail head skip points some =
    let skips : List (List ℕ) = map (line_text cut.version) (map Skip cut.skip) in
    let others : List (List ℕ) = map (line_text cut.version) (map Point cut.points) in
    let lines = length-append (map Skip cut.skip) (map Point cut.points) in
    let first = length-map cut.skip Skip in
    let second = length-map cut.points Point in
    let count : (4 + length cut.skip) + length cut.points ≡ suc (length (open_lines cut)) = omega
    (arith, lines, first, second) in
    ap (λ (l : List (List ℕ)). lines_in 4 (of_lists cut [] []) (l ++ tail)) (map_over_both (line_text cut.version)
    (map Skip cut.skip) (map Point cut.points))
    ∙ ap (lines_in 4 (of_lists cut [] [])) (append_assoc skips others tail)
    ∙ items_own cut.version (λ r. Skip r) (λ l. of_lists cut l []) is_region_number nat_lt (skip_kind cut head) cut.skip [] 4
    (others ++ tail) refl skip (some_behind others tail some)
    ∙ items_own cut.version (λ p. Point p) (λ l. of_lists cut cut.skip l) (is_point_of cut.version) stands_before
    (point_kind cut head skip) cut.points [] (4 + length cut.skip) tail refl points some
    ∙ ap (λ (n : ℕ). lines_in n (Listed cut) tail) count

abbrev texts_of : Front → List (List ℕ)
texts_of front = map (line_text (version_of front)) (lines_before front)

front_own : (front : Front) (tail : List (List ℕ)) → IsOpen front → is_empty tail ≡ false →
    lines_in 1 Nothing (texts_of front ++ tail) ≡ lines_in (suc (length (lines_before front))) front tail
front_own Nothing tail is_open some = refl
front_own (Versioned version) tail is_open some =
    over 1 Nothing (Versioned version) (Version version) tail refl is_open.ordered refl is_open some
front_own (Sized version secret_len) tail is_open some =
    let both = and_parts (is_version version) _ is_open.ordered in
    let first : IsOpen (Versioned version) = record { ordered = both.0; goes_on = refl } in
    over 1 Nothing (Versioned version) (Version version) (line_text version (Secret secret_len) ∷ tail) refl both.0 refl
    first refl
    ∙ over 2 (Versioned version) (Sized version secret_len) (Secret secret_len) tail both.0 both.1 refl is_open some
front_own (Listed cut) tail is_open some =
    let known = and_parts (is_version cut.version) _ is_open.ordered in
    let short = and_parts (is_line cut.version (Secret cut.secret_len)) _ known.1 in
    let bits = and_parts (is_word cut.bits) _ short.1 in
    let lists = and_parts (are_regions cut.skip) (are_points_of cut.version cut.points) bits.1 in
    let head : IsHead cut.version cut.secret_len cut.bits =
    record { known = known.0; short = short.0; word = bits.0 } in
    let first : IsOpen (Versioned cut.version) = record { ordered = known.0; goes_on = refl } in
    let second : IsOpen (Sized cut.version cut.secret_len) =
    record { ordered = and_from _ _ known.0 short.0; goes_on = refl } in
    let third : IsOpen (of_lists cut [] []) = record {
      ordered = and_from _ _ known.0 (and_from _ _ short.0 (and_from _ _ bits.0 refl));
      goes_on = refl;
    } in
    let last : List (List ℕ) = map (line_text cut.version) (map Skip cut.skip ++ map Point cut.points) ++ tail in
    over 1 Nothing (Versioned cut.version) (Version cut.version) (line_text cut.version (Secret cut.secret_len) ∷
    (line_text cut.version (Bits cut.bits) ∷ last)) refl known.0 refl first refl
    ∙ over 2 (Versioned cut.version) (Sized cut.version cut.secret_len) (Secret cut.secret_len)
    (line_text cut.version (Bits cut.bits) ∷ last) known.0 short.0 refl second refl
    ∙ over 3 (Sized cut.version cut.secret_len) (of_lists cut [] []) (Bits cut.bits) last second.ordered bits.0 refl
    third (some_behind (map (line_text cut.version) (map Skip cut.skip ++ map Point cut.points)) tail some)
    ∙ lists_own cut tail head lists.0 lists.1 some
front_own (Whole cut) tail is_open some = let closed = is_open.goes_on in absurd cc

-- ---- the text of lines

all_append : {A : Type 0} (test : A → Bool) (first second : List A) → list_all test first ≡ true →
    list_all test second ≡ true → list_all test (first ++ second) ≡ true
all_append test [] second e f = f
all_append test (item ∷ first) second e f =
    let both = and_parts (test item) (list_all test first) e in
    and_from _ _ both.0 (all_append test first second both.1 f)

all_map : {A B : Type 0} (form : A → B) (each : A → Bool) (test : B → Bool) (items : List A) →
    ((item : A) → each item ≡ true → test (form item) ≡ true) → list_all each items ≡ true →
    list_all test (map form items) ≡ true
all_map form each test [] known all = refl
all_map form each test (item ∷ items) known all =
    let both = and_parts (each item) (list_all each items) all in
    and_from _ _ (known item both.0) (all_map form each test items known both.1)

lines_known : (front : Front) → IsOpen front → list_all (is_line (version_of front)) (lines_before front) ≡ true
lines_known Nothing goes_on = refl
lines_known (Versioned version) is_open = and_from _ _ is_open.ordered refl
lines_known (Sized version secret_len) is_open =
    let both = and_parts (is_version version) _ is_open.ordered in
    and_from _ _ both.0 (and_from _ _ both.1 refl)
lines_known (Listed cut) is_open =
    let known = and_parts (is_version cut.version) _ is_open.ordered in
    let short = and_parts (is_line cut.version (Secret cut.secret_len)) _ known.1 in
    let bits = and_parts (is_word cut.bits) _ short.1 in
    let lists = and_parts (are_regions cut.skip) (are_points_of cut.version cut.points) bits.1 in
    let skips = and_parts (list_all is_region_number cut.skip) _ lists.0 in
    let points = and_parts (list_all (is_point_of cut.version) cut.points) _ lists.1 in
    and_from _ _ known.0 (and_from _ _ short.0 (and_from _ _ bits.0
    (all_append (is_line cut.version) (map Skip cut.skip) (map Point cut.points)
    (all_map (λ r. Skip r) is_region_number (is_line cut.version) cut.skip (λ region own. own) skips.0)
    (all_map (λ p. Point p) (is_point_of cut.version) (is_line cut.version) cut.points (λ point own. own) points.0))))
lines_known (Whole cut) is_open = let closed = is_open.goes_on in absurd cc

parts_lines : (version : ℕ) (lines : List Line) (rest : List ℕ) → list_all (is_line version) lines ≡ true →
    parts 10 (lines_text version lines ++ rest) ≡ map (line_text version) lines ++ parts 10 rest
parts_lines version [] rest known = refl
parts_lines version (line ∷ lines) rest known =
    let both = and_parts (is_line version line) (list_all (is_line version) lines) known in
    ap (parts 10) (append_assoc (line_text version line) (10 ∷ lines_text version lines) rest)
    ∙ parts_front 10 (line_text version line) (lines_text version lines ++ rest) (line_clean version line both.0)
    ∙ ap (λ (l : List (List ℕ)). line_text version line ∷ l) (parts_lines version lines rest both.1)

-- what is read of a file that begins with lines in order
file_front : (file : List ℕ) (front : Front) (rest : List ℕ) → IsOpen front → file ≡ front_text front ++ rest →
    lines_in 1 Nothing (parts 10 file) ≡ lines_in (suc (length (lines_before front))) front (parts 10 rest)
file_front file front rest is_open is =
    ap (λ (l : List ℕ). lines_in 1 Nothing (parts 10 l)) is
    ∙ ap (lines_in 1 Nothing) (parts_lines (version_of front) (lines_before front) rest (lines_known front is_open))
    ∙ front_own front (parts 10 rest) is_open (parts_some 10 rest)

-- ---- the whole file

abbrev pub finish : List ℕ → Read → Result CutPicture CutFault
finish file read = read >> λ whole. whole_cut (length file) whole.0 (separated 10 whole.1)

pub file_finish : (file : List ℕ) (read : Read) → lines_in 1 Nothing (parts 10 file) ≡ read → cut_in file ≡ finish file read
unfolding cut_in
file_finish file read is = ap (finish file) is

ended_own : (file : List ℕ) (cut : CutPicture) (rest : List ℕ) → is_cut_picture cut ≡ true → file ≡ cut_text cut ++ rest →
    cut_in file ≡ whole_cut (length file) cut rest
ended_own file cut rest valid is =
    let number : ℕ = suc (length (open_lines cut)) in
    let is_open : IsOpen (Listed cut) = record { ordered = valid; goes_on = refl } in
    let last = line_text cut.version End in
    let split : file ≡ front_text (Listed cut) ++ (last ++ (10 ∷ rest)) =
    is ∙ ap (λ (l : List ℕ). l ++ rest) (lines_append cut.version (open_lines cut) (End ∷ []))
    ∙ append_assoc (front_text (Listed cut)) (last ++ (10 ∷ [])) rest in
    let answer : with_text number (Listed cut) last ≡ fine (Whole cut) =
    known_text number (Listed cut) (Whole cut) End valid refl refl
    ∙ ap (λ (b : Bool). if b then fine (Whole cut) else faulty (faults.Order number)) valid in
    file_finish file (fine (cut, parts 10 rest)) (file_front file (Listed cut) (last ++ (10 ∷ rest)) is_open split
    ∙ ap (lines_in number (Listed cut)) (parts_front 10 last rest refl)
    ∙ lines_end number (Listed cut) cut last (parts 10 rest) (parts_some 10 rest) answer)
    ∙ ap (whole_cut (length file) cut) (joined_parts 10 rest)

pub cut_own : (file : List ℕ) (cut : CutPicture) → CutText file cut → cut_in file ≡ fine cut
cut_own file cut known = ended_own file cut [] known.valid (known.text ∙ sym (append-nil (cut_text cut)))

-- ---- a file with a fault answers it

line_fails : (file : List ℕ) (front : Front) (text : List ℕ) (fault : CutFault) → HasLine file front text →
    with_text (suc (length (lines_before front))) front text ≡ faulty fault → cut_in file ≡ faulty fault
line_fails file front text fault here answer =
    let number : ℕ = suc (length (lines_before front)) in
    file_finish file (faulty fault) (file_front file front (text ++ (10 ∷ here.more)) here.before here.is
    ∙ ap (lines_in number front) (parts_front 10 text here.more (sym (feed_byte text) ∙ here.whole))
    ∙ lines_fail number front text (parts 10 here.more) fault (parts_some 10 here.more) answer)

unfit_own : (file : List ℕ) (front : Front) (text : List ℕ) → HasLine file front text → (MayStand front text → ⊥) →
    cut_in file ≡ faulty (unfit (suc (length (lines_before front))))
unfit_own file front text here unfits =
    let number : ℕ = suc (length (lines_before front)) in
    line_fails file front text (unfit number) here (unfit_answer number front text (with_text number front text)
    (text_answer number front text here.before.ordered) unfits)

late_own : (file : List ℕ) (front next : Front) (text : List ℕ) → HasLine file front text → Stands front text next →
    is_front next ≡ false → cut_in file ≡ faulty (faults.Order (suc (length (lines_before front))))
late_own file front next text here stands late =
    let number : ℕ = suc (length (lines_before front)) in
    line_fails file front text (faults.Order number) here
    (stands_text number front next text false here.before.ordered stands late)

last_line : (number : ℕ) (front : Front) (text : List ℕ) → has_byte 10 text ≡ false →
    lines_in number front (parts 10 text) ≡ faulty faults.Truncated
unfolding lines_in
last_line number front text clean = ap (lines_in number front) (parts_last 10 text clean)

later_line : (number : ℕ) → 2 ≤ number → unfit number ≡ faults.Line number
later_line number late =
    let other : (number == 1) ≡ false = grind arith in
    cond-false (number == 1) faults.Version (faults.Line number) other

pub fault_own : (fault : CutFault) (file : List ℕ) → (fault ≡ faults.Memory → ⊥) → FirstCutFault file fault →
    cut_in file ≡ faulty fault
fault_own faults.Version file free known = unfit_own file Nothing known.0 known.1 known.2
fault_own (faults.Line number) file free known =
    unfit_own file known.0 known.1 known.2 known.3
    ∙ ap (λ (n : ℕ). faulty (unfit n)) (sym known.4)
    ∙ ap (λ (f : CutFault). faulty f) (later_line number known.5)
fault_own (faults.Order number) file free known =
    late_own file known.0 known.3.0 known.1 known.2 known.3.1 known.3.2
    ∙ ap (λ (n : ℕ). faulty (faults.Order n)) (sym known.4)
fault_own faults.Truncated file free known =
    let number : ℕ = suc (length (lines_before known.0)) in
    file_finish file (faulty faults.Truncated) (file_front file known.0 known.1 known.2 known.4
    ∙ last_line number known.0 known.1 (sym (feed_byte known.1) ∙ known.3))
fault_own (faults.Trailing offset) file free known =
    let rest : List ℕ = known.1 ∷ known.2 in
    let size : length file ≡ length (cut_text known.0) + length rest = ap length known.4
    ∙ length-append (cut_text known.0) rest in
    let place : length file - length rest ≡ offset = omega (arith, size, known.5) in
    ended_own file known.0 rest known.3 known.4 ∙ ap (λ (n : ℕ). faulty {A = CutPicture} (faults.Trailing n)) place
fault_own faults.Memory file free known = absurd (free refl)

-- ---- one answer

value_or : {A : Type 0} → A → Result A CutFault → A
value_or other (Ok value) = value
value_or other (Err fault) = other

fault_or : {A : Type 0} → CutFault → Result A CutFault → CutFault
fault_or other (Ok value) = other
fault_or other (Err fault) = fault

pub fine_same : {A : Type 0} (a b : A) → fine a ≡ fine b → a ≡ b
unfolding value_or
fine_same a b e = ap (value_or a) e

pub faulty_same : {A : Type 0} (a b : CutFault) → faulty {A = A} a ≡ faulty {A = A} b → a ≡ b
unfolding fault_or
faulty_same a b e = ap (fault_or a) e

pub one_cut : (file : List ℕ) (first second : CutPicture) → CutText file first → CutText file second → first ≡ second
one_cut file first second a b = fine_same first second (sym (cut_own file first a) ∙ cut_own file second b)

pub one_fault : (file : List ℕ) (first second : CutFault) → (first ≡ faults.Memory → ⊥) →
    (second ≡ faults.Memory → ⊥) → FirstCutFault file first → FirstCutFault file second → first ≡ second
one_fault file first second a b known other = faulty_same {A = CutPicture} first second (sym
    (fault_own first file a known) ∙ fault_own second file b other)

pub cut_no_fault : (file : List ℕ) (cut : CutPicture) (fault : CutFault) → CutText file cut →
    (fault ≡ faults.Memory → ⊥) → FirstCutFault file fault → ⊥
cut_no_fault file cut fault text free known =
    let e : fine cut ≡ faulty fault = sym (cut_own file cut text) ∙ fault_own fault file free known in
    absurd cc
