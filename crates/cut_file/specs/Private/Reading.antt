-- How the text of a cut is read, line by line and word by word.
use Rattle.std.specs.Prelude.{ℕ, ◌+◌, ◌-◌, ◌==◌, nat_le, nat_lt, List, [], ◌∷◌, ◌++◌, codes, length}
use Rattle.std.specs.Prelude.{Bool, true, Option, Some, None, option_and_then, option_map}
use Rattle.std.specs.Prelude.{Result, Ok, Err}
use Rattle.std.specs.Prelude.{if◌then◌else◌}
use Rattle.std.specs.Borrow.{Bor}
use Rattle.std.specs.Str.{bytes_eq}
use Rattle.flow_base.specs.declared.points.Point.{Point}
use Rattle.cut_file.specs.declared.points.CutPoint.{CutPoint}
use Rattle.cut_file.specs.declared.points.Run.{Run}
use Rattle.cut_file.specs.declared.faults.CutFault.{CutFault}
use Rattle.cut_file.specs.declared.faults.CutFault.TheVariants as faults
use Rattle.cut_file.specs.declared.lines.Line.{Line}
use Rattle.cut_file.specs.declared.lines.Line.TheVariants as forms
use Rattle.cut_file.specs.Cuts.{CutPicture, have_other_masks, is_empty, is_version, is_word, stands_before}
use Rattle.cut_file.specs.Fronts.{Front, followed, version_of}
use Rattle.cut_file.specs.Fronts.Front.{Nothing, Versioned, Sized, Listed, Whole}
use Rattle.flow_base.specs.TextPieces.{after_text}
use Rattle.flow_base.specs.TextWords.{number_in, slot_in, word_in}
use Rattle.cut_file.specs.Texts.{separated}
use Rattle.flow_base.specs.Points.{is_region_number}

-- ---- parts

-- the bytes in front of a separator and those after it
abbrev pub with_byte : ℕ → Option (List ℕ × List ℕ) → Option (List ℕ × List ℕ)
with_byte byte None = None
with_byte byte (Some p) = Some (byte ∷ p.0, p.1)

abbrev pub divided : ℕ → List ℕ → Option (List ℕ × List ℕ)
divided separator [] = None
divided separator (byte ∷ bytes) =
    if byte == separator then Some ([], bytes) else with_byte byte (divided separator bytes)

-- the parts between separators, one more than there are separators
abbrev pub onto_first : ℕ → List (List ℕ) → List (List ℕ)
onto_first byte [] = (byte ∷ []) ∷ []
onto_first byte (part ∷ parts) = (byte ∷ part) ∷ parts

abbrev pub parts : ℕ → List ℕ → List (List ℕ)
parts separator [] = [] ∷ []
parts separator (byte ∷ bytes) =
    if byte == separator then [] ∷ parts separator bytes else onto_first byte (parts separator bytes)

-- the first of a list, and the others
abbrev pub first_of : List (List ℕ) → Option (List ℕ)
first_of [] = None
first_of (first ∷ others) = Some first

abbrev pub others_of : List (List ℕ) → List (List ℕ)
others_of [] = []
others_of (first ∷ others) = others

-- the words of what is left of a line
abbrev pub words_left : Option (Bor (List ℕ)) → List (List ℕ)
words_left None = []
words_left (Some rest) = parts 32 rest.now

-- ---- words

-- the first that there is
abbrev pub or_else : {A : Type 0} → Option A → Option A → Option A
or_else None other = other
or_else (Some value) other = Some value

-- what there is, where it passes a test
infixl 10 ◌>>=◌
abbrev pub ◌>>=◌ : {A B : Type 0} → Option A → (A → Option B) → Option B
o >>= f = option_and_then f o

-- a count, * and a mask
unfoldable pub run_in : List ℕ → Option Run
run_in bytes = do
  halves ← divided 42 bytes
  count ← number_in halves.0
  mask ← word_in halves.1
  if nat_le 1 count then Some (record { count = count; mask = mask }) else None

-- ---- lines

-- the number of a word after a wanted text
abbrev pub number_behind : List ℕ → List ℕ → Option ℕ
number_behind wanted text = after_text wanted text >>= λ digits. number_in digits

-- such a number that passes a test
abbrev pub tested_number : List ℕ → (ℕ → Bool) → List ℕ → Option ℕ
tested_number wanted test text = number_behind wanted text >>= λ number. if test number then Some number else None

abbrev pub is_short : ℕ → Bool
is_short length = nat_le length 65536

-- the point of the first three words
unfoldable pub place_in : List (List ℕ) → Option Point
place_in words = do
  first ← first_of words
  region ← number_in first
  second ← first_of (others_of words)
  address ← word_in second
  third ← first_of (others_of (others_of words))
  slot ← slot_in third
  if nat_le region 65535 then Some (record { region = region; address = address; slot = slot }) else None

-- an item may stand after these
abbrev pub may_follow : {A : Type 0} → (A → A → Bool) → List A → A → Bool
may_follow test [] item = true
may_follow test (first ∷ []) item = test first item
may_follow test (first ∷ (second ∷ others)) item = may_follow test (second ∷ others) item

-- the runs of the words before "rest", after those of the words before them, and the words after "rest"
unfoldable pub runs_in : List Run → List (List ℕ) → Option (List Run × List (List ℕ))
runs_in runs [] = None
runs_in runs (word ∷ words) =
    if bytes_eq word (codes "rest") then Some (runs, words)
    else option_and_then
    (λ run. if may_follow have_other_masks runs run then runs_in (runs ++ run ∷ []) words else None) (run_in word)

-- the mask of the one word
unfoldable pub only_mask_in : List (List ℕ) → Option ℕ
only_mask_in [] = None
only_mask_in (word ∷ []) = word_in word
only_mask_in (word ∷ (next ∷ words)) = None

-- that mask for one visit
unfoldable pub single_in : List (List ℕ) → Option (List Run)
single_in words = do
  mask ← only_mask_in words
  Some (record { count = 1; mask = mask } ∷ [])

-- the runs of all words, after those of the words before them
unfoldable pub pattern_in : List Run → List (List ℕ) → Option (List Run)
pattern_in runs [] = if is_empty runs then None else Some runs
pattern_in runs (word ∷ words) =
    option_and_then
    (λ run. if may_follow have_other_masks runs run then pattern_in (runs ++ run ∷ []) words else None) (run_in word)

-- the pattern of the words after "rest"
unfoldable pub rest_in : ℕ → List (List ℕ) → Option (List Run)
rest_in version words = if version == 2 then pattern_in [] words else single_in words

unfoldable pub point_in_words : ℕ → List (List ℕ) → Option CutPoint
point_in_words version words = do
  point ← place_in words
  runs ← runs_in [] (others_of (others_of (others_of words)))
  rest ← rest_in version runs.1
  Some (record { point = point; runs = runs.0; rest = rest })

unfoldable pub point_in : ℕ → List ℕ → Option CutPoint
point_in version line = do
  words ← after_text (codes "point ") line
  point_in_words version (parts 32 words)

-- the line of a number that has this text
unfoldable pub number_line_in : List ℕ → Option Line
number_line_in text =
    or_else (option_map forms.Version (tested_number (codes "flowcheck-cut ") is_version text))
    (or_else (option_map forms.Secret (tested_number (codes "secret ") is_short text))
    (or_else (option_map forms.Bits (tested_number (codes "bits ") is_word text))
    (option_map forms.Skip (tested_number (codes "skip ") is_region_number text))))

abbrev pub end_in : List ℕ → Option Line
end_in text = if bytes_eq text (codes "end") then Some forms.End else None

-- the line that has this text, in a cut of that version
unfoldable pub line_in : ℕ → List ℕ → Option Line
line_in version text =
    or_else (number_line_in text) (or_else (option_map forms.Point (point_in version text)) (end_in text))

-- ---- the file

infixl 10 ◌>>◌
abbrev pub ◌>>◌ : {A B : Type 0} → Result A CutFault → (A → Result B CutFault) → Result B CutFault
(Ok x) >> f = f x
(Err fault) >> f = Err fault

abbrev pub or_fault : {A : Type 0} → Option A → CutFault → Result A CutFault
or_fault None fault = Err fault
or_fault (Some x) fault = Ok x

-- the fault of the line of that number where its form may not stand there
abbrev pub unfit : ℕ → CutFault
unfit number = if number == 1 then faults.Version else faults.Line number

-- the line exceeds the line of its kind before it
abbrev pub is_in_order : Front → Line → Bool
is_in_order (Listed cut) (forms.Skip region) = may_follow nat_lt cut.skip region
is_in_order (Listed cut) (forms.Point point) = may_follow stands_before cut.points point
is_in_order _ _ = true

-- the lines with one more, of that number
unfoldable pub with_line : ℕ → Front → Line → Result Front CutFault
with_line number front line =
    or_fault (followed front line) (unfit number) >> λ next.
    if is_in_order front line then Ok next else Err (faults.Order number)

-- the lines with the line of that number and text
unfoldable pub with_text : ℕ → Front → List ℕ → Result Front CutFault
with_text number front text =
    or_fault (line_in (version_of front) text) (unfit number) >> λ line.
    with_line number front line

-- the cut, and the parts of the file after its last line
abbrev pub Read : Type 0
Read = Result (CutPicture × List (List ℕ)) CutFault

-- what is read where these lines are whole, and else what is read of those after them
abbrev pub unless_whole : Front → List (List ℕ) → Read → Read
unless_whole Nothing texts read = read
unless_whole (Versioned version) texts read = read
unless_whole (Sized version secret_len) texts read = read
unless_whole (Listed cut) texts read = read
unless_whole (Whole cut) texts read = Ok (cut, texts)

-- the cut of these lines and of those with these texts, the first of which has that number
unfoldable pub lines_in : ℕ → Front → List (List ℕ) → Read
lines_in number front [] = Err faults.Truncated
lines_in number front (text ∷ []) = Err faults.Truncated
lines_in number front (text ∷ (next ∷ texts)) =
    with_text number front text >> λ longer.
    unless_whole longer (next ∷ texts) (lines_in (number + 1) longer (next ∷ texts))

-- the cut, where nothing is left of the file
abbrev pub whole_cut : ℕ → CutPicture → List ℕ → Result CutPicture CutFault
whole_cut size cut [] = Ok cut
whole_cut size cut (byte ∷ bytes) = Err (faults.Trailing (size - length (byte ∷ bytes)))

-- the cut of a file, or its first fault
unfoldable pub cut_in : List ℕ → Result CutPicture CutFault
cut_in file =
    lines_in 1 Nothing (parts 10 file) >> λ whole.
    whole_cut (length file) whole.0 (separated 10 whole.1)
