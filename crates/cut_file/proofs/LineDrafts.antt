-- What the code has read, by the lines that it stands for.
use Rattle.std.proofs.Common.{◌≡◌, ℕ, ◌+◌, ◌-◌, ◌==◌, length, Bool, true, false, List, [], ◌∷◌, IsTrue, Option, Some, None}
use Rattle.std.proofs.Common.{Result, Ok, Err, if◌then◌else◌, refl, sym, ◌∙◌, ap}
use Rattle.std.specs.Prelude.{IfOk}
use Rattle.cut_file.specs.declared.cuts.Cut.{Cut}
use Rattle.cut_file.specs.declared.drafts.Draft.{Draft}
use Rattle.cut_file.specs.declared.drafts.Draft.TheVariants as drafts
use Rattle.cut_file.specs.declared.faults.CutFault.{CutFault}
use Rattle.cut_file.specs.declared.faults.CutFault.TheVariants as faults
use Rattle.cut_file.specs.declared.lines.Line.{Line}
use Rattle.cut_file.specs.Cuts.{CutPicture, is_empty}
use Rattle.cut_file.specs.Fronts.{Front, followed, is_front, is_whole, version_of}
use Rattle.cut_file.specs.Fronts.Front.{Nothing, Whole}
use Rattle.cut_file.specs.Pictures.{front_of}
use Rattle.cut_file.specs.Private.Reading.{◌>>◌, cut_in, divided, is_in_order, lines_in, or_fault, parts, unfit}
use Rattle.cut_file.specs.Private.Reading.{whole_cut, with_line, with_text}
use Rattle.cut_file.specs.Texts.{is_line}
use Rattle.cut_file.proofs.FileTexts.{file_finish, fine, fine_same, faulty, lines_end, lines_fail, lines_go}
use Rattle.cut_file.proofs.Following.{is_true}
use Rattle.cut_file.proofs.Fronts.{next_ordered}
use Rattle.cut_file.proofs.Parts.{joined_parts, parts_alone, parts_divided, parts_some}

pub always_ok : (answer : Result Draft CutFault) (P : Type 0) → P → IfOk answer (λ _. P)
always_ok (Ok draft) P known = known
always_ok (Err fault) P known = tt

chosen : (test : Bool) (longer next : Front) (number : ℕ) →
    (if test then fine longer else faulty (faults.Order number)) ≡ fine next → is_front longer ≡ test →
    is_front next ≡ true
chosen true longer next number e ordered = ap is_front (sym (fine_same longer next e)) ∙ ordered
chosen false longer next number e ordered = absurd cc

next_from : (number : ℕ) (front : Front) (line : Line) (found : Option Front) (next : Front) →
    is_front front ≡ true → is_line (version_of front) line ≡ true → followed front line ≡ found →
    (or_fault found (unfit number) >> λ longer.
    if is_in_order front line then fine longer else faulty (faults.Order number)) ≡ fine next → is_front next ≡ true
next_from number front line None next ordered known follows e = absurd cc
next_from number front line (Some longer) next ordered known follows e =
    chosen (is_in_order front line) longer next number e (next_ordered front line longer ordered known follows)

next_known : (number : ℕ) (front : Front) (line : Line) (next : Front) → is_front front ≡ true →
    is_line (version_of front) line ≡ true → with_line number front line ≡ fine next → is_front next ≡ true
unfolding with_line
next_known number front line next ordered known e =
    next_from number front line (followed front line) next ordered known refl e

-- a line more leaves the lines in order
pub next_ok : (number : ℕ) (front : Front) (line : Line) (answer : Result Draft CutFault) → is_front front ≡ true →
    is_line (version_of front) line ≡ true →
    IfOk answer (λ longer. with_line number front line ≡ Ok (front_of longer)) →
    IfOk answer (λ longer. IsTrue (is_front (front_of longer)))
next_ok number front line (Ok draft) ordered known ok =
    is_true _ (next_known number front line (front_of draft) ordered known ok)
next_ok number front line (Err fault) ordered known ok = tt

-- ---- as the file is divided

pub goes_on_so : (number : ℕ) (front next : Front) (bytes text more : List ℕ) → divided 10 bytes ≡ Some (text, more) →
    with_text number front text ≡ fine next → is_whole next ≡ false →
    lines_in number front (parts 10 bytes) ≡ lines_in (number + 1) next (parts 10 more)
goes_on_so number front next bytes text more split is goes_on =
    ap (lines_in number front) (parts_divided 10 bytes text more split)
    ∙ lines_go number front next text (parts 10 more) (parts_some 10 more) is goes_on

pub ends_here : (number : ℕ) (front : Front) (cut : CutPicture) (bytes text more : List ℕ) →
    divided 10 bytes ≡ Some (text, more) → with_text number front text ≡ fine (Whole cut) →
    lines_in number front (parts 10 bytes) ≡ fine (cut, parts 10 more)
ends_here number front cut bytes text more split is =
    ap (lines_in number front) (parts_divided 10 bytes text more split)
    ∙ lines_end number front cut text (parts 10 more) (parts_some 10 more) is

pub fails_here : (number : ℕ) (front : Front) (fault : CutFault) (bytes text more : List ℕ) →
    divided 10 bytes ≡ Some (text, more) → with_text number front text ≡ faulty fault →
    lines_in number front (parts 10 bytes) ≡ faulty fault
fails_here number front fault bytes text more split is =
    ap (lines_in number front) (parts_divided 10 bytes text more split)
    ∙ lines_fail number front text (parts 10 more) fault (parts_some 10 more) is

pub cut_off : (number : ℕ) (front : Front) (bytes : List ℕ) → divided 10 bytes ≡ None →
    lines_in number front (parts 10 bytes) ≡ faulty faults.Truncated
unfolding lines_in
cut_off number front bytes none = ap (lines_in number front) (parts_alone 10 bytes none)

pub not_whole : (draft : Draft) → ((cut : Cut) → draft ≡ drafts.Whole cut → ⊥) → is_whole (front_of draft) ≡ false
not_whole drafts.Nothing other = refl
not_whole (drafts.Versioned version) other = refl
not_whole (drafts.Sized version secret_len) other = refl
not_whole (drafts.Listed cut) other = refl
not_whole (drafts.Whole cut) other = absurd (other cut refl)

-- ---- bytes after the last line

rest_read : (size : ℕ) (cut : CutPicture) (rest : List ℕ) → is_empty rest ≡ false →
    whole_cut size cut rest ≡ faulty (faults.Trailing (size - length rest))
rest_read size cut [] some = absurd cc
rest_read size cut (byte ∷ rest) some = refl

pub trailing_read : (file : List ℕ) (cut : CutPicture) (rest : List ℕ) →
    lines_in 1 Nothing (parts 10 file) ≡ fine (cut, parts 10 rest) → is_empty rest ≡ false →
    cut_in file ≡ faulty (faults.Trailing (length file - length rest))
trailing_read file cut rest read some =
    file_finish file (fine (cut, parts 10 rest)) read
    ∙ ap (whole_cut (length file) cut) (joined_parts 10 rest)
    ∙ rest_read (length file) cut rest some

pub some_length : (bytes : List ℕ) → (length bytes == 0) ≡ false → is_empty bytes ≡ false
some_length [] e = absurd cc
some_length (byte ∷ bytes) e = refl
