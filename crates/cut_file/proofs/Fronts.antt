-- Lines in order with one more.
use Rattle.std.proofs.Common.{◌≡◌, ℕ, ◌&&◌, nat_le, nat_lt, Bool, true, false, List, [], ◌∷◌, ◌++◌, inl, inr}
use Rattle.std.proofs.Common.{Option, Some, None, refl, sym, ◌∙◌, ap, subst, append_assoc}
use Rattle.std.specs.Prelude.{map}
use Rattle.std.specs.List.{list_all}
use Rattle.std.proofs.lemmas.Bool.{and_parts, and_from, cases_Bool, cond-false, cond-true}
use Rattle.std.proofs.lemmas.List.{append-nil}
use Rattle.cut_file.specs.declared.lines.Line.{Line}
use Rattle.cut_file.specs.declared.lines.Line.TheVariants.{Version, Secret, Bits, Skip, Point, End}
use Rattle.cut_file.specs.declared.points.CutPoint.{CutPoint}
use Rattle.cut_file.specs.Cuts.{CutPicture, are_points_of, are_regions, is_empty, is_point_of, is_cut_picture}
use Rattle.cut_file.specs.Cuts.{is_version, is_word, neighbours_pass, stands_before}
use Rattle.cut_file.specs.Fronts.{Front, bare_cut, followed, front_text, is_front, lines_before, version_of}
use Rattle.cut_file.specs.Fronts.Front.{Nothing, Versioned, Sized, Listed, Whole}
use Rattle.cut_file.specs.Private.Reading.{is_in_order, may_follow}
use Rattle.cut_file.specs.Texts.{is_line, line_text, lines_text, open_lines}
use Rattle.cut_file.proofs.Following.{all_push, neighbours_push}
use Rattle.cut_file.proofs.Pieces.{lines_append}
use Rattle.cut_file.proofs.Steps.{not_both, the_same}
use Rattle.flow_base.specs.Points.{is_region_number}

abbrev pub some_front : Front → Option Front
some_front front = Some front

-- ---- the lines and their text

-- the next lines are these with one more
pub record IsNext (front : Front) (line : Line) (next : Front) : Type 0 where
  pub lines : lines_before next ≡ lines_before front ++ (line ∷ [])
  pub text : front_text next ≡ front_text front ++ (line_text (version_of front) line ++ (10 ∷ []))

same_next : (found next front : Front) (line : Line) → some_front found ≡ Some next →
    lines_before found ≡ lines_before front ++ (line ∷ []) →
    front_text found ≡ front_text front ++ (line_text (version_of front) line ++ (10 ∷ [])) → IsNext front line next
same_next found next front line e lines text =
    subst (IsNext front line) (the_same found next e) (record { lines = lines; text = text })

map_push : {A B : Type 0} (f : A → B) (items : List A) (item : A) →
    map f (items ++ (item ∷ [])) ≡ map f items ++ (f item ∷ [])
map_push f [] item = refl
map_push f (first ∷ items) item = ap (λ l. f first ∷ l) (map_push f items item)

pub is_nothing : {A : Type 0} (items : List A) → is_empty items ≡ true → items ≡ []
is_nothing [] e = refl
is_nothing (first ∷ others) e = absurd cc

abbrev head_lines : CutPicture → List Line
head_lines cut = Version cut.version ∷ (Secret cut.secret_len ∷ (Bits cut.bits ∷ []))

skip_longer : (cut : CutPicture) (region : ℕ) → cut.points ≡ [] →
    open_lines (record cut { skip = cut.skip ++ (region ∷ []) }) ≡ open_lines cut ++ (Skip region ∷ [])
skip_longer cut region none =
    ap (λ (l : List CutPoint). head_lines cut ++ (map Skip (cut.skip ++ (region ∷ [])) ++ map Point l)) none
    ∙ ap (λ (l : List Line). head_lines cut ++ l) (append-nil (map Skip (cut.skip ++ (region ∷ [])))
    ∙ map_push Skip cut.skip region
    ∙ ap (λ (l : List Line). l ++ (Skip region ∷ [])) (sym (append-nil (map Skip cut.skip))))
    ∙ ap (λ (l : List CutPoint). (head_lines cut ++ (map Skip cut.skip ++ map Point l)) ++ (Skip region ∷ []))
    (sym none)

point_longer : (cut : CutPicture) (point : CutPoint) →
    open_lines (record cut { points = cut.points ++ (point ∷ []) }) ≡ open_lines cut ++ (Point point ∷ [])
point_longer cut point =
    ap (λ (l : List Line). head_lines cut ++ (map Skip cut.skip ++ l)) (map_push Point cut.points point)
    ∙ ap (λ (l : List Line). head_lines cut ++ l) (sym (append_assoc (map Skip cut.skip) (map Point cut.points)
    (Point point ∷ [])))

pub next_lines : (front : Front) (line : Line) (next : Front) → followed front line ≡ Some next →
    IsNext front line next
next_lines Nothing (Version number) next e = same_next (Versioned number) next Nothing (Version number) e refl refl
next_lines Nothing (Secret number) next e = absurd cc
next_lines Nothing (Bits number) next e = absurd cc
next_lines Nothing (Skip region) next e = absurd cc
next_lines Nothing (Point point) next e = absurd cc
next_lines Nothing End next e = absurd cc
next_lines (Versioned version) (Version number) next e = absurd cc
next_lines (Versioned version) (Secret number) next e =
    same_next (Sized version number) next (Versioned version) (Secret number) e refl
    (lines_append version (Version version ∷ []) (Secret number ∷ []))
next_lines (Versioned version) (Bits number) next e = absurd cc
next_lines (Versioned version) (Skip region) next e = absurd cc
next_lines (Versioned version) (Point point) next e = absurd cc
next_lines (Versioned version) End next e = absurd cc
next_lines (Sized version secret_len) (Version number) next e = absurd cc
next_lines (Sized version secret_len) (Secret number) next e = absurd cc
next_lines (Sized version secret_len) (Bits number) next e =
    same_next (Listed (bare_cut version secret_len number)) next (Sized version secret_len) (Bits number) e refl
    (lines_append version (Version version ∷ (Secret secret_len ∷ [])) (Bits number ∷ []))
next_lines (Sized version secret_len) (Skip region) next e = absurd cc
next_lines (Sized version secret_len) (Point point) next e = absurd cc
next_lines (Sized version secret_len) End next e = absurd cc
next_lines (Listed cut) (Version number) next e = absurd cc
next_lines (Listed cut) (Secret number) next e = absurd cc
next_lines (Listed cut) (Bits number) next e = absurd cc
next_lines (Listed cut) (Skip region) next e = elim (cases_Bool (is_empty cut.points)) [
  | inl none ↦
      let longer : CutPicture = record cut { skip = cut.skip ++ (region ∷ []) } in
      let lines = skip_longer cut region (is_nothing cut.points none) in
      same_next (Listed longer) next (Listed cut) (Skip region) (sym (cond-true (is_empty cut.points)
      (some_front (Listed longer)) None none) ∙ e) lines
      (ap (lines_text cut.version) lines ∙ lines_append cut.version (open_lines cut) (Skip region ∷ []))
  | inr some ↦ absurd (not_both (followed (Listed cut) (Skip region)) next (cond-false (is_empty cut.points)
      (some_front (Listed (record cut { skip = cut.skip ++ (region ∷ []) }))) None some) e)
]
next_lines (Listed cut) (Point point) next e =
    let lines = point_longer cut point in
    same_next (Listed (record cut { points = cut.points ++ (point ∷ []) })) next (Listed cut) (Point point) e lines
    (ap (lines_text cut.version) lines ∙ lines_append cut.version (open_lines cut) (Point point ∷ []))
next_lines (Listed cut) End next e =
    same_next (Whole cut) next (Listed cut) End e refl (lines_append cut.version (open_lines cut) (End ∷ []))
next_lines (Whole cut) (Version number) next e = absurd cc
next_lines (Whole cut) (Secret number) next e = absurd cc
next_lines (Whole cut) (Bits number) next e = absurd cc
next_lines (Whole cut) (Skip region) next e = absurd cc
next_lines (Whole cut) (Point point) next e = absurd cc
next_lines (Whole cut) End next e = absurd cc

-- ---- their order

same_order : (found next : Front) (test : Bool) → some_front found ≡ Some next → is_front found ≡ test →
    is_front next ≡ test
same_order found next test e is = ap is_front (sym (the_same found next e)) ∙ is

-- items that are kept, with one more
kept_push : {A : Type 0} (each : A → Bool) (test : A → A → Bool) (items : List A) (item : A) →
    (list_all each items && neighbours_pass test items) ≡ true → each item ≡ true →
    (list_all each (items ++ (item ∷ [])) && neighbours_pass test (items ++ (item ∷ []))) ≡ may_follow test items item
kept_push each test items item kept own =
    let both = and_parts (list_all each items) (neighbours_pass test items) kept in
    rw (all_push each items item, neighbours_push test items item, both.0, own, both.1) refl

and_true : (test : Bool) → (test && true) ≡ test
and_true true = refl
and_true false = refl

skip_ordered : (cut : CutPicture) (region : ℕ) → is_cut_picture cut ≡ true → is_region_number region ≡ true →
    is_cut_picture (record cut { skip = cut.skip ++ (region ∷ []) }) ≡ may_follow nat_lt cut.skip region
skip_ordered cut region valid own =
    let version = and_parts (is_version cut.version) _ valid in
    let short = and_parts (nat_le cut.secret_len 65536) _ version.1 in
    let bits = and_parts (is_word cut.bits) _ short.1 in
    let lists = and_parts (are_regions cut.skip) (are_points_of cut.version cut.points) bits.1 in
    let pushed = kept_push is_region_number nat_lt cut.skip region lists.0 own in
    rw (version.0, short.0, bits.0, lists.1, pushed) (and_true (may_follow nat_lt cut.skip region))

point_ordered : (cut : CutPicture) (point : CutPoint) → is_cut_picture cut ≡ true → is_point_of cut.version point ≡ true →
    is_cut_picture (record cut { points = cut.points ++ (point ∷ []) }) ≡ may_follow stands_before cut.points point
point_ordered cut point valid own =
    let version = and_parts (is_version cut.version) _ valid in
    let short = and_parts (nat_le cut.secret_len 65536) _ version.1 in
    let bits = and_parts (is_word cut.bits) _ short.1 in
    let lists = and_parts (are_regions cut.skip) (are_points_of cut.version cut.points) bits.1 in
    let pushed = kept_push (is_point_of cut.version) stands_before cut.points point lists.1 own in
    rw (version.0, short.0, bits.0, lists.0, pushed) refl

-- the next lines are in order where the line exceeds the one of its kind before it
pub next_ordered : (front : Front) (line : Line) (next : Front) → is_front front ≡ true →
    is_line (version_of front) line ≡ true → followed front line ≡ Some next →
    is_front next ≡ is_in_order front line
next_ordered Nothing (Version number) next front line e = same_order _ next _ e line
next_ordered Nothing (Secret number) next front line e = absurd cc
next_ordered Nothing (Bits number) next front line e = absurd cc
next_ordered Nothing (Skip region) next front line e = absurd cc
next_ordered Nothing (Point point) next front line e = absurd cc
next_ordered Nothing End next front line e = absurd cc
next_ordered (Versioned version) (Version number) next front line e = absurd cc
next_ordered (Versioned version) (Secret number) next front line e = same_order _ next _ e (and_from _ _ front line)
next_ordered (Versioned version) (Bits number) next front line e = absurd cc
next_ordered (Versioned version) (Skip region) next front line e = absurd cc
next_ordered (Versioned version) (Point point) next front line e = absurd cc
next_ordered (Versioned version) End next front line e = absurd cc
next_ordered (Sized version secret_len) (Version number) next front line e = absurd cc
next_ordered (Sized version secret_len) (Secret number) next front line e = absurd cc
next_ordered (Sized version secret_len) (Bits number) next front line e =
    let both = and_parts (is_version version) (nat_le secret_len 65536) front in
    same_order _ next _ e (and_from _ _ both.0 (and_from _ _ both.1 (and_from _ _ line refl)))
next_ordered (Sized version secret_len) (Skip region) next front line e = absurd cc
next_ordered (Sized version secret_len) (Point point) next front line e = absurd cc
next_ordered (Sized version secret_len) End next front line e = absurd cc
next_ordered (Listed cut) (Version number) next front line e = absurd cc
next_ordered (Listed cut) (Secret number) next front line e = absurd cc
next_ordered (Listed cut) (Bits number) next front line e = absurd cc
next_ordered (Listed cut) (Skip region) next front line e = elim (cases_Bool (is_empty cut.points)) [
  | inl none ↦
      let longer : CutPicture = record cut { skip = cut.skip ++ (region ∷ []) } in
      same_order (Listed longer) next (may_follow nat_lt cut.skip region) (sym (cond-true (is_empty cut.points)
      (some_front (Listed longer)) None none) ∙ e) (skip_ordered cut region front line)
  | inr some ↦ absurd (not_both (followed (Listed cut) (Skip region)) next (cond-false (is_empty cut.points)
      (some_front (Listed (record cut { skip = cut.skip ++ (region ∷ []) }))) None some) e)
]
next_ordered (Listed cut) (Point point) next front line e = same_order _ next _ e (point_ordered cut point front line)
next_ordered (Listed cut) End next front line e = same_order _ next _ e front
next_ordered (Whole cut) (Version number) next front line e = absurd cc
next_ordered (Whole cut) (Secret number) next front line e = absurd cc
next_ordered (Whole cut) (Bits number) next front line e = absurd cc
next_ordered (Whole cut) (Skip region) next front line e = absurd cc
next_ordered (Whole cut) (Point point) next front line e = absurd cc
next_ordered (Whole cut) End next front line e = absurd cc
