-- What is read of a file is so: the cut whose text it is, or its first fault.
use Rattle.std.proofs.Common.{◌≡◌, ◌⊎◌, ℕ, suc, ◌+◌, ◌-◌, ◌≤◌, ◌==◌, ◌||◌, not, Bool, true, false, List, [], ◌∷◌, ◌++◌}
use Rattle.std.proofs.Common.{length, Option, Some, None, Result, Ok, Err, if◌then◌else◌, inl, inr, refl, sym, ◌∙◌, ap}
use Rattle.std.proofs.Common.{subst, append_assoc, arith, length-append}
use Rattle.std.proofs.lemmas.Bool.{and_parts, cond-false, not-true}
use Rattle.std.proofs.lemmas.List.{append-nil}
use Rattle.cut_file.specs.declared.faults.CutFault.{CutFault}
use Rattle.cut_file.specs.declared.faults.CutFault.TheVariants as faults
use Rattle.cut_file.specs.declared.lines.Line.{Line}
use Rattle.cut_file.specs.Cuts.{CutPicture, is_empty, is_cut_picture}
use Rattle.cut_file.specs.Faults.{FirstCutFault, HasLine, IsOpen, IsOutOfOrder, MayStand, Stands, has_feed}
use Rattle.cut_file.specs.Fronts.{Front, followed, front_text, is_front, is_whole, lines_before, version_of}
use Rattle.cut_file.specs.Fronts.Front.{Nothing, Versioned, Sized, Listed, Whole}
use Rattle.cut_file.specs.Private.Reading.{◌>>◌, Read, cut_in, is_in_order, line_in, lines_in, or_fault, parts, unfit}
use Rattle.cut_file.specs.Private.Reading.{unless_whole, whole_cut, with_line, with_text}
use Rattle.cut_file.specs.Texts.{CutText, cut_text, separated}
use Rattle.cut_file.proofs.Fronts.{next_lines, next_ordered}
use Rattle.cut_file.proofs.LineTexts.{line_found, line_own}
use Rattle.cut_file.proofs.Parts.{clean_words, has_byte, joined_parts, parts_clean, parts_some}
use Rattle.cut_file.proofs.Steps.{not_both, the_same}

pub feed_byte : (bytes : List ℕ) → has_feed bytes ≡ has_byte 10 bytes
feed_byte [] = refl
feed_byte (byte ∷ bytes) = ap (λ (b : Bool). (byte == 10) || b) (feed_byte bytes)

-- ---- a line

-- what the line of that number and text answers is so
abbrev pub TextAnswer : ℕ → Front → List ℕ → Result Front CutFault → Type 0
TextAnswer number front text (Ok next) = Stands front text next × (is_front next ≡ true)
TextAnswer number front text (Err fault) =
    ((fault ≡ faults.Order number) × IsOutOfOrder front text) ⊎ ((fault ≡ unfit number) × (MayStand front text → ⊥))

order_answer : (number : ℕ) (front : Front) (text : List ℕ) (next : Front) (test : Bool) → Stands front text next →
    is_front next ≡ test → TextAnswer number front text (if test then Ok next else Err (faults.Order number))
order_answer number front text next true stands ordered = (stands, ordered)
order_answer number front text next false stands ordered = inl (refl, (next, stands, ordered))

next_answer : (number : ℕ) (front : Front) (text : List ℕ) (line : Line) (next : Option Front) →
    is_front front ≡ true → line_in (version_of front) text ≡ Some line → followed front line ≡ next →
    TextAnswer number front text (or_fault next (unfit number) >> λ longer.
    if is_in_order front line then Ok longer else Err (faults.Order number))
next_answer number front text line None ordered is follows =
    inr (
      refl,
      λ stands.
          let again = ap (line_in (version_of front)) stands.1.is ∙ line_own (version_of front) stands.1.line
          stands.1.known in
          let same = the_same line stands.1.line (sym is ∙ again) in
          not_both (followed front line) stands.0 follows (ap (followed front) same ∙ stands.1.follows),
    )
next_answer number front text line (Some next) ordered is follows =
    let own = line_found (version_of front) text line is in
    order_answer number front text next (is_in_order front line)
    (record { line = line; known = own.known; is = own.is; follows = follows })
    (next_ordered front line next ordered own.known follows)

line_answer : (number : ℕ) (front : Front) (text : List ℕ) (found : Option Line) → is_front front ≡ true →
    line_in (version_of front) text ≡ found →
    TextAnswer number front text (or_fault found (unfit number) >> λ line. with_line number front line)
unfolding with_line
line_answer number front text None ordered is =
    inr (
      refl,
      λ stands. not_both (line_in (version_of front) text) stands.1.line is
          (ap (line_in (version_of front)) stands.1.is ∙ line_own (version_of front) stands.1.line stands.1.known),
    )
line_answer number front text (Some line) ordered is =
    next_answer number front text line (followed front line) ordered is refl

pub text_answer : (number : ℕ) (front : Front) (text : List ℕ) → is_front front ≡ true →
    TextAnswer number front text (with_text number front text)
unfolding with_text
text_answer number front text ordered =
    line_answer number front text (line_in (version_of front) text) ordered refl

-- ---- the lines up to the last

-- these lines of the file are read, and the next has that number
record IsAt (file : List ℕ) (number : ℕ) (front : Front) (texts : List (List ℕ)) : Type 0 where
  pub before : IsOpen front
  pub count : number ≡ suc (length (lines_before front))
  pub clean : clean_words 10 texts ≡ true
  pub is : file ≡ front_text front ++ separated 10 texts

abbrev FileAnswer : List ℕ → Read → Type 0
FileAnswer file (Ok read) = (is_cut_picture read.0 ≡ true) × (file ≡ cut_text read.0 ++ separated 10 read.1)
FileAnswer file (Err fault) = FirstCutFault file fault

later_fault : (file : List ℕ) (number : ℕ) → 2 ≤ number → FirstCutFault file (faults.Line number) →
    FirstCutFault file (unfit number)
later_fault file number late known =
    let other : (number == 1) ≡ false = grind arith in
    subst (FirstCutFault file) (sym (cond-false (number == 1) faults.Version (faults.Line number) other)) known

unfit_fault : (front : Front) (file : List ℕ) (number : ℕ) (text : List ℕ) → HasLine file front text →
    (MayStand front text → ⊥) → number ≡ suc (length (lines_before front)) → FirstCutFault file (unfit number)
unfit_fault Nothing file number text here stands count =
    subst (λ (n : ℕ). FirstCutFault file (unfit n)) (sym count) (text, here, stands)
unfit_fault (Versioned version) file number text here stands count =
    later_fault file number (omega (arith, count))
    (Versioned version, text, here, stands, count, omega (arith, count))
unfit_fault (Sized version secret_len) file number text here stands count =
    later_fault file number (omega (arith, count))
    (Sized version secret_len, text, here, stands, count, omega (arith, count))
unfit_fault (Listed cut) file number text here stands count =
    later_fault file number (omega (arith, count)) (Listed cut, text, here, stands, count, omega (arith, count))
unfit_fault (Whole cut) file number text here stands count =
    later_fault file number (omega (arith, count)) (Whole cut, text, here, stands, count, omega (arith, count))

-- a line goes from what is left to what is read
line_over : (front longer : Front) (text rest : List ℕ) → Stands front text longer →
    front_text front ++ (text ++ (10 ∷ rest)) ≡ front_text longer ++ rest
line_over front longer text rest stands =
    let next = next_lines front stands.line longer stands.follows in
    ap (λ (l : List ℕ). front_text front ++ l) (sym (append_assoc text (10 ∷ []) rest))
    ∙ sym (append_assoc (front_text front) (text ++ (10 ∷ [])) rest)
    ∙ ap (λ (l : List ℕ). (front_text front ++ (l ++ (10 ∷ []))) ++ rest) stands.is
    ∙ ap (λ (l : List ℕ). l ++ rest) (sym next.text)

at_next : (file : List ℕ) (number : ℕ) (front longer : Front) (text next : List ℕ) (texts : List (List ℕ)) →
    IsAt file number front (text ∷ (next ∷ texts)) → Stands front text longer → is_front longer ≡ true →
    is_whole longer ≡ false → IsAt file (number + 1) longer (next ∷ texts)
at_next file number front longer text next texts at stands ordered goes_on =
    let lines = next_lines front stands.line longer stands.follows in
    let count : length (lines_before longer) ≡ length (lines_before front) + 1 =
    ap length lines.lines ∙ length-append (lines_before front) (stands.line ∷ []) in
    let counted = at.count in
    record {
      before = record { ordered = ordered; goes_on = goes_on };
      count = omega (arith, count, counted);
      clean = (and_parts (not (has_byte 10 text)) (clean_words 10 (next ∷ texts)) at.clean).1;
      is = at.is ∙ line_over front longer text (separated 10 (next ∷ texts)) stands;
    }

has_line : (file : List ℕ) (number : ℕ) (front : Front) (text next : List ℕ) (texts : List (List ℕ)) →
    IsAt file number front (text ∷ (next ∷ texts)) → HasLine file front text
has_line file number front text next texts at = record {
  before = at.before;
  whole = feed_byte text ∙ not-true _ (and_parts (not (has_byte 10 text)) (clean_words 10 (next ∷ texts)) at.clean).0;
  more = separated 10 (next ∷ texts);
  is = at.is;
}

step_answer : (file : List ℕ) (number : ℕ) (front : Front) (text next : List ℕ) (texts : List (List ℕ))
    (answer : Result Front CutFault) → IsAt file number front (text ∷ (next ∷ texts)) →
    TextAnswer number front text answer →
    ((longer : Front) → IsAt file (number + 1) longer (next ∷ texts) →
    FileAnswer file (lines_in (number + 1) longer (next ∷ texts))) →
    FileAnswer file (answer >> λ longer. unless_whole longer (next ∷ texts)
    (lines_in (number + 1) longer (next ∷ texts)))
step_answer file number front text next texts (Ok Nothing) at told more =
    more Nothing (at_next file number front Nothing text next texts at told.0 told.1 refl)
step_answer file number front text next texts (Ok (Versioned version)) at told more =
    more _ (at_next file number front (Versioned version) text next texts at told.0 told.1 refl)
step_answer file number front text next texts (Ok (Sized version secret_len)) at told more =
    more _ (at_next file number front (Sized version secret_len) text next texts at told.0 told.1 refl)
step_answer file number front text next texts (Ok (Listed cut)) at told more =
    more _ (at_next file number front (Listed cut) text next texts at told.0 told.1 refl)
step_answer file number front text next texts (Ok (Whole cut)) at told more =
    (told.1, at.is ∙ line_over front (Whole cut) text (separated 10 (next ∷ texts)) told.0)
step_answer file number front text next texts (Err fault) at told more =
    let here = has_line file number front text next texts at in
    elim told [
      | inl late ↦ subst (FirstCutFault file) (sym late.0) (front, text, here, late.1, at.count)
      | inr other ↦ subst (FirstCutFault file) (sym other.0) (unfit_fault front file number text here other.1 at.count)
    ]

lines_answer : (texts : List (List ℕ)) (file : List ℕ) (number : ℕ) (front : Front) → IsAt file number front texts →
    is_empty texts ≡ false → FileAnswer file (lines_in number front texts)
unfolding lines_in
lines_answer [] file number front at some = absurd cc
lines_answer (text ∷ []) file number front at some =
    (front, text, at.before, feed_byte text ∙ not-true _ (and_parts (not (has_byte 10 text)) true at.clean).0, at.is)
lines_answer (text ∷ (next ∷ texts)) file number front at some =
    step_answer file number front text next texts (with_text number front text) at
    (text_answer number front text at.before.ordered)
    (λ longer further. lines_answer (next ∷ texts) file (number + 1) longer further refl)

-- ---- the whole file

-- what a file answers is so
abbrev pub CutAnswer : List ℕ → Result CutPicture CutFault → Type 0
CutAnswer file (Ok cut) = CutText file cut
CutAnswer file (Err fault) = FirstCutFault file fault

trailing_place : (text rest : List ℕ) → length (text ++ rest) - length rest ≡ length text
trailing_place text rest = omega (arith, length-append text rest)

rest_answer : (file : List ℕ) (cut : CutPicture) (rest : List ℕ) → is_cut_picture cut ≡ true →
    file ≡ cut_text cut ++ rest → CutAnswer file (whole_cut (length file) cut rest)
rest_answer file cut [] valid is = record { valid = valid; text = is ∙ append-nil (cut_text cut) }
rest_answer file cut (byte ∷ rest) valid is = (
  cut,
  byte,
  rest,
  valid,
  is,
  ap (λ (l : List ℕ). length l - length (byte ∷ rest)) is ∙ trailing_place (cut_text cut) (byte ∷ rest),
)

read_answer : (file : List ℕ) (read : Read) → FileAnswer file read →
    CutAnswer file (read >> λ whole. whole_cut (length file) whole.0 (separated 10 whole.1))
read_answer file (Ok read) known = rest_answer file read.0 (separated 10 read.1) known.0 known.1
read_answer file (Err fault) known = known

pub cut_answer : (file : List ℕ) → CutAnswer file (cut_in file)
unfolding cut_in
cut_answer file =
    read_answer file (lines_in 1 Nothing (parts 10 file)) (lines_answer (parts 10 file) file 1 Nothing (record {
      before = record { ordered = refl; goes_on = refl };
      count = refl;
      clean = parts_clean 10 file;
      is = sym (joined_parts 10 file);
    }) (parts_some 10 file))
