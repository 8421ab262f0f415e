-- A file that is read to its end is the text of what is drafted, and one that is not has its first failure there.
use Rattle.std.proofs.Common.{◌≡◌, ℕ, zero, suc, ◌+◌, ◌-◌, ◌≤◌, ◌<◌, ◌==◌, ◌&&◌, true, false, List, [], ◌∷◌}
use Rattle.std.proofs.Common.{◌++◌, ◌^◌, map}
use Rattle.std.proofs.lemmas.List.{length-map}
use Rattle.std.proofs.Common.{length, length-append, take, drop, Option, Some, None, refl, sym, ap, ◌∙◌}
use Rattle.std.proofs.Common.{append_assoc, append-nil, arith}
use Rattle.std.specs.Prelude.{option_and_then}
use Rattle.std.specs.List.{list_all}
use Rattle.std.proofs.lemmas.Bool.{and_from, and_parts}
use Rattle.std.proofs.Math.Seq.{take-append_seam}
use Rattle.std.proofs.lemmas.List.{length-take-le, take-append-drop}
use Rattle.flow_certificate.specs.declared.drafts.Draft.{Draft}
use Rattle.flow_certificate.specs.declared.drafts.Stage.{Stage}
use Rattle.flow_certificate.specs.declared.drafts.Stage.TheVariants as stages
use Rattle.flow_certificate.specs.declared.lines.Line.{Line}
use Rattle.flow_certificate.specs.declared.lines.Line.TheVariants.{Version, Value, Point, Relay, Link, End}
use Rattle.flow_certificate.specs.Certificates.{BeginsWith, CertText, IsFirstFailure, Picture, is_certificate_picture, lines_of}
use Rattle.flow_certificate.specs.Certificates.{lines_text, makes_graph, open_lines}
use Rattle.flow_certificate.specs.Private.Drafts.{IsDraft, blank, lines_in, sketch_of, step, steps}
use Rattle.flow_certificate.specs.Private.Guessing.{line_in}
use Rattle.flow_certificate.specs.Lines.{is_line, line_text}
use Rattle.flow_certificate.specs.Private.Reading.{IsReading, is_whole}
use Rattle.flow_certificate.proofs.DraftedPictures.{drafted, whole}
use Rattle.flow_certificate.proofs.Guesses.{line_found, line_own, pair_same}
use Rattle.flow_certificate.proofs.LastItems.{all_middle, all_push}
use Rattle.flow_certificate.proofs.Prefixes.{front_of, text_append, text_more, text_none, whole_longer}
use Rattle.flow_certificate.proofs.DraftSteps.{sketch_same, steps_append, steps_one, steps_whole}

whole_is : (stage : Stage) → is_whole stage ≡ true → stage ≡ stages.Whole
whole_is stages.Nothing is = absurd cc
whole_is stages.Version is = absurd cc
whole_is stages.Open is = absurd cc
whole_is stages.Whole is = refl

all_take : (lines : List Line) (n : ℕ) → list_all is_line lines ≡ true → list_all is_line (take n lines) ≡ true
all_take lines zero all = refl
all_take [] (suc n) all = refl
all_take (line ∷ lines) (suc n) all =
    let parts = and_parts (is_line line) (list_all is_line lines) all in
    and_from (is_line line) (list_all is_line (take n lines)) parts.0 (all_take lines n parts.1)

-- the text of a line has a byte, before its line feed
line_some : (line : Line) → 1 ≤ length (line_text line)
unfolding line_text
line_some Version = omega arith
line_some (Value value) = omega arith
line_some (Point line) = omega arith
line_some (Relay line) = omega arith
line_some (Link line) = omega arith
line_some End = omega arith

-- ---- the loop

pub reading_first : (file : List ℕ) (draft : Draft) → sketch_of draft ≡ blank → IsDraft draft →
    IsReading file file draft 1
reading_first file draft none is = record {
  lines = [];
  known = refl;
  drafted = ap (λ s. Some s) (sym none);
  text = ap (λ (l : List ℕ). l ++ file) (sym text_none);
  counted = refl;
  shorter = omega arith;
  is_draft = is;
}

pub reading_more : (file rest more : List ℕ) (draft next : Draft) (number : ℕ) (line : Line) →
    IsReading file rest draft number → line_in rest ≡ Some (line, more) →
    step (sketch_of draft) line ≡ Some (sketch_of next) → IsDraft next → IsReading file more next (number + 1)
reading_more file rest more draft next number line reading found taken is =
    let one = line_found rest line more found in
    let counted = reading.counted in
    let shorter = reading.shorter in
    let some = line_some line in
    let size : length rest ≡ length (line_text line) + (length more + 1) = ap length one.text
    ∙ (length-append (line_text line) (10 ∷ more) ∙ omega arith) in
    record {
      lines = reading.lines ++ (line ∷ []);
      known = all_push is_line reading.lines line reading.known one.known;
      drafted = steps_one (sketch_of draft) line (sketch_of next) reading.lines reading.drafted taken;
      text = reading.text ∙ (ap (λ (l : List ℕ). lines_text reading.lines ++ l) one.text
          ∙ (sym (append_assoc (lines_text reading.lines) (line_text line ++ (10 ∷ [])) more
          ∙ ap (λ (l : List ℕ). lines_text reading.lines ++ l) (append_assoc (line_text line) (10 ∷ []) more))
          ∙ ap (λ (l : List ℕ). l ++ more) (sym (text_append reading.lines (line ∷ [])
          ∙ ap (λ (l : List ℕ). lines_text reading.lines ++ l) (text_more line []
          ∙ ap (λ (l : List ℕ). line_text line ++ (10 ∷ l)) text_none)))));
      counted = let long : length (reading.lines ++ (line ∷ [])) ≡ length reading.lines + 1 = length-append
          reading.lines (line ∷ []) in omega (arith, counted, long);
      shorter = omega (arith, shorter, some, size);
      is_draft = is;
    }

-- the whole file is read
pub reading_done : (file rest : List ℕ) (draft : Draft) (number : ℕ) → IsReading file rest draft number →
    is_whole draft.stage ≡ true → rest ≡ [] → CertText file ((sketch_of draft).picture)
reading_done file rest draft number reading end none =
    let made = steps_whole reading.lines (sketch_of draft) reading.known reading.drafted in
    let lines : lines_of (sketch_of draft).picture ≡ reading.lines =
    ap (λ (stage : Stage). lines_in stage (sketch_of draft).picture) (sym (whole_is draft.stage end))
    ∙ made.lines_are in
    record {
      valid = and_from (list_all is_line (lines_of (sketch_of draft).picture)) (makes_graph (sketch_of draft).picture)
          (ap (list_all is_line) lines ∙ reading.known) made.made;
      text = reading.text ∙ (ap (λ (l : List ℕ). lines_text reading.lines ++ l) none
          ∙ (append-nil (lines_text reading.lines) ∙ ap lines_text (sym lines)));
    }

-- ---- a first failure

-- some certificate goes on from these lines
record GoesOn (lines : List Line) : Type 0 where
  picture : Picture
  valid : is_certificate_picture picture ≡ true
  tail : List Line
  split : lines_of picture ≡ lines ++ tail

abbrev bare : Picture
bare = record { value = 0; points = []; relays = []; links = [] }

goes_on_so : (lines : List Line) (stage : Stage) (picture : Picture) → lines_in stage picture ≡ lines →
    makes_graph picture ≡ true → list_all is_line lines ≡ true → GoesOn lines
goes_on_so lines stages.Nothing picture are made known = record {
  picture = bare;
  valid = refl;
  tail = Version ∷ (Value 0 ∷ (End ∷ []));
  split = ap (λ (ls : List Line). ls ++ (Version ∷ (Value 0 ∷ (End ∷ [])))) are;
}
goes_on_so lines stages.Version picture are made known = record {
  picture = bare;
  valid = refl;
  tail = Value 0 ∷ (End ∷ []);
  split = ap (λ (ls : List Line). ls ++ (Value 0 ∷ (End ∷ []))) are;
}
goes_on_so lines stages.Open picture are made known = record {
  picture = picture;
  valid = and_from (list_all is_line (lines_of picture)) (makes_graph picture) (all_push is_line (open_lines picture)
      End (ap (list_all is_line) are ∙ known) refl) made;
  tail = End ∷ [];
  split = ap (λ (ls : List Line). ls ++ (End ∷ [])) are;
}
goes_on_so lines stages.Whole picture are made known = record {
  picture = picture;
  valid = and_from (list_all is_line (lines_of picture)) (makes_graph picture) (ap (list_all is_line) are ∙ known)
      made;
  tail = [];
  split = are ∙ sym (append-nil lines);
}

-- no line may come next
abbrev pub IsStuck : Draft → List ℕ → Type 0
IsStuck draft rest = (line : Line) (more : List ℕ) → line_in rest ≡ Some (line, more) →
    step (sketch_of draft) line ≡ None

no_next : (draft : Draft) (lines more : List Line) (rest other : List ℕ) (picture : Picture) (line : Line) →
    steps blank lines ≡ Some (sketch_of draft) → makes_graph picture ≡ true →
    lines_of picture ≡ lines ++ (line ∷ more) → is_line line ≡ true → rest ≡ line_text line ++ (10 ∷ other) →
    IsStuck draft rest → ⊥
no_next draft lines more rest other picture line so_far made split known text stuck =
    let none = stuck line other (ap line_in text ∙ line_own line other known) in
    let whole_way : steps blank (lines_of picture) ≡ None = ap (steps blank) split ∙ (steps_append blank lines
    (line ∷ more) ∙ (ap (option_and_then (λ s. steps s (line ∷ more))) so_far
    ∙ ap (option_and_then (λ s. steps s more)) none)) in
    let both : None ≡ Some (whole picture) = sym whole_way ∙ drafted picture made in
    absurd cc

ends_here : (draft : Draft) (lines more tail : List Line) (rest other : List ℕ) (picture : Picture) (line : Line) →
    steps blank lines ≡ Some (sketch_of draft) → is_certificate_picture picture ≡ true →
    lines_of picture ≡ lines ++ (line ∷ (more ++ tail)) → rest ≡ lines_text (line ∷ more) ++ other →
    IsStuck draft rest → ⊥
ends_here draft lines more tail rest other picture line so_far valid split text stuck =
    let parts = and_parts (list_all is_line (lines_of picture)) (makes_graph picture) valid in
    let known = all_middle is_line lines (more ++ tail) line (ap (list_all is_line) (sym split) ∙ parts.0) in
    no_next draft lines (more ++ tail) rest (lines_text more ++ other) picture line so_far parts.1 split known
    (text ∙ (ap (λ (l : List ℕ). l ++ other) (text_more line more) ∙ append_assoc (line_text line)
    (10 ∷ lines_text more) other)) stuck

fails_by : (draft : Draft) (lines more : List Line) (rest other : List ℕ) (number : ℕ) (picture : Picture) →
    steps blank lines ≡ Some (sketch_of draft) → is_certificate_picture picture ≡ true → number ≡ length lines + 1 →
    length (take number (lines_of picture)) ≡ number → take number (lines_of picture) ≡ lines ++ more →
    rest ≡ lines_text more ++ other → IsStuck draft rest → ⊥
fails_by draft lines [] rest other number picture so_far valid counted size split text stuck =
    let few : length (take number (lines_of picture)) ≡ length lines = ap length split ∙ ap length (append-nil lines) in
    absurd (omega (arith, few, size, counted))
fails_by draft lines (line ∷ more) rest other number picture so_far valid counted size split text stuck =
    let tail = drop number (lines_of picture) in
    ends_here draft lines more (drop number (lines_of picture)) rest other picture line so_far valid
    (sym (take-append-drop number (lines_of picture)) ∙ (ap (λ (ls : List Line). ls ++ drop number
    (lines_of picture)) split ∙ append_assoc lines (line ∷ more) (drop number (lines_of picture)))) text stuck

fails_at : (file rest : List ℕ) (draft : Draft) (number : ℕ) → IsReading file rest draft number →
    IsStuck draft rest → (picture : Picture) → BeginsWith file number picture → ⊥
fails_at file rest draft number reading stuck picture begins =
    let parts = and_parts (list_all is_line (lines_of picture)) (makes_graph picture) begins.valid in
    let all = all_take (lines_of picture) number parts.0 in
    let size : length (take number (lines_of picture)) ≡ number = length-take-le number (lines_of picture)
    begins.count in
    let counted = reading.counted in
    let front = front_of reading.lines (take number (lines_of picture)) rest begins.rest reading.known all
    (omega (arith, size, counted)) (sym reading.text ∙ begins.text) in
    fails_by draft reading.lines front.more rest begins.rest number picture reading.drafted begins.valid counted size
    front.lines front.text stuck

ends_by : (draft : Draft) (lines more : List Line) (rest : List ℕ) (picture : Picture) →
    steps blank lines ≡ Some (sketch_of draft) → is_certificate_picture picture ≡ true → lines_of picture ≡ lines ++ more →
    rest ≡ lines_text more ++ [] → IsStuck draft rest → (is_whole draft.stage ≡ true → rest ≡ [] → ⊥) → ⊥
ends_by draft lines [] rest picture so_far valid split text stuck going =
    let parts = and_parts (list_all is_line (lines_of picture)) (makes_graph picture) valid in
    let same = sketch_same (sketch_of draft) (whole picture) (sym so_far ∙ (ap (steps blank) (sym (split
    ∙ append-nil lines)) ∙ drafted picture parts.1)) in
    going (ap (λ s. is_whole s.stage) same) (text ∙ ap (λ (l : List ℕ). l ++ []) text_none)
ends_by draft lines (line ∷ more) rest picture so_far valid split text stuck going =
    ends_here draft lines more [] rest [] picture line so_far valid
    (split ∙ ap (λ (ls : List Line). lines ++ (line ∷ ls)) (sym (append-nil more))) text stuck

no_text_at : (file rest : List ℕ) (draft : Draft) (number : ℕ) → IsReading file rest draft number →
    IsStuck draft rest → (is_whole draft.stage ≡ true → rest ≡ [] → ⊥) → (picture : Picture) →
    CertText file picture → ⊥
no_text_at file rest draft number reading stuck going picture text =
    let parts = and_parts (list_all is_line (lines_of picture)) (makes_graph picture) text.valid in
    let both = sym reading.text ∙ text.text in
    let few = whole_longer reading.lines (lines_of picture) rest reading.known parts.0 both in
    let front = front_of reading.lines (lines_of picture) rest [] reading.known parts.0 few
    (both ∙ sym (append-nil (lines_text (lines_of picture)))) in
    ends_by draft reading.lines front.more rest picture reading.drafted text.valid front.lines front.text stuck going

begins_before : (file rest : List ℕ) (number : ℕ) (lines : List Line) → file ≡ lines_text lines ++ rest →
    number ≡ length lines + 1 → (on : GoesOn lines) → BeginsWith file (number - 1) on.picture
begins_before file rest number lines text counted on =
    let size : number - 1 ≡ length lines = omega (arith, counted) in
    let long : length (lines_of on.picture) ≡ length lines + length on.tail = ap length on.split
    ∙ length-append lines on.tail in
    record {
      valid = on.valid;
      count = omega (arith, size, long);
      rest = rest;
      text = text ∙ ap (λ (ls : List Line). lines_text ls ++ rest) (sym (ap (λ (n : ℕ). take n (lines_of on.picture))
          size ∙ (ap (take (length lines)) on.split ∙ take-append_seam lines on.tail)));
    }

pub reading_fails : (file rest : List ℕ) (draft : Draft) (number : ℕ) → IsReading file rest draft number →
    IsStuck draft rest → (is_whole draft.stage ≡ true → rest ≡ [] → ⊥) → IsFirstFailure file number
reading_fails file rest draft number reading stuck going =
    let made = steps_whole reading.lines (sketch_of draft) reading.known reading.drafted in
    let on = goes_on_so reading.lines draft.stage ((sketch_of draft).picture) made.lines_are made.made reading.known in
    let counted = reading.counted in
    record {
      counted = omega (arith, counted);
      before = on.picture;
      begins = begins_before file rest number reading.lines reading.text reading.counted on;
      fails = fails_at file rest draft number reading stuck;
      no_text = no_text_at file rest draft number reading stuck going;
    }

-- where no line stands in front, none may come next
pub stuck_none : (draft : Draft) (rest : List ℕ) → line_in rest ≡ None → IsStuck draft rest
stuck_none draft rest none line more found =
    let both : ◌≡◌ {A = Option (Line × List ℕ)} None (Some (line, more)) = sym none ∙ found in absurd cc

-- where the line in front may not come next, none may
pub stuck_there : (draft : Draft) (rest more : List ℕ) (line : Line) → line_in rest ≡ Some (line, more) →
    step (sketch_of draft) line ≡ None → IsStuck draft rest
stuck_there draft rest more line found refused other behind also =
    let same = pair_same other line behind more (sym also ∙ found) in
    ap (step (sketch_of draft)) same.0 ∙ refused

-- a file in whose front a line stands is not at its end
pub line_stands : (rest more : List ℕ) (line : Line) → line_in rest ≡ Some (line, more) → rest ≡ [] → ⊥
line_stands rest more line found none =
    let one = line_found rest line more found in
    let size : length rest ≡ length (line_text line) + (length more + 1) = ap length one.text
    ∙ (length-append (line_text line) (10 ∷ more) ∙ omega arith) in
    let empty : length rest ≡ 0 = ap length none in
    omega (arith, size, empty)

pub line_shorter : (rest more : List ℕ) (line : Line) → line_in rest ≡ Some (line, more) → length more + 2 ≤ length rest
line_shorter rest more line found =
    let one = line_found rest line more found in
    let size : length rest ≡ length (line_text line) + (length more + 1) = ap length one.text
    ∙ (length-append (line_text line) (10 ∷ more) ∙ omega arith) in
    let some = line_some line in
    omega (arith, some, size)

pub none_left : (rest : List ℕ) → (length rest == 0) ≡ true → rest ≡ []
none_left [] none = refl
none_left (byte ∷ rest) none = absurd (grind arith)

pub none_there : (stage : Stage) (rest : List ℕ) → (is_whole stage && (length rest == 0)) ≡ false →
    is_whole stage ≡ true → rest ≡ [] → ⊥
none_there stage rest going whole none =
    let done : (is_whole stage && (length rest == 0)) ≡ true = and_from (is_whole stage) (length rest == 0) whole
    (ap (λ (l : List ℕ). length l == 0) none) in
    let both : true ≡ false = sym done ∙ going in
    absurd cc

pub points_few : (file rest : List ℕ) (draft : Draft) (number : ℕ) → IsReading file rest draft number →
    is_whole draft.stage ≡ true → length file < 2 ^ 32 → length draft.points < 2 ^ 32
points_few file rest draft number reading end small =
    let made = steps_whole reading.lines (sketch_of draft) reading.known reading.drafted in
    let lines : lines_of (sketch_of draft).picture ≡ reading.lines =
    ap (λ (stage : Stage). lines_in stage (sketch_of draft).picture) (sym (whole_is draft.stage end))
    ∙ made.lines_are in
    let count : length (lines_of (sketch_of draft).picture) ≡ length reading.lines = ap length lines in
    let whole_count = length-append (open_lines (sketch_of draft).picture) (End ∷ []) in
    let parts = length-append (map Point draft.points) (map Relay draft.relays ++ map Link draft.links) in
    let points : length (map Point draft.points) ≡ length draft.points = length-map draft.points Point in
    let open_count : length (open_lines (sketch_of draft).picture) ≡ 2 + length (map Point draft.points ++ (map Relay
    draft.relays ++ map Link draft.links)) = omega arith in
    let counted = reading.counted in
    let shorter = reading.shorter in
    omega (arith, count, whole_count, parts, points, open_count, counted, shorter, small)
