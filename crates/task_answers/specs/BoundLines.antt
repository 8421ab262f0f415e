-- The texts of a bound. Numbers are decimal; bits and bytes are hexadecimal digits, `-` where there are none.
use Rattle.std.specs.Prelude.{ℕ, ◌+◌, ◌==◌, Bool, true, false, List, [], ◌∷◌, ◌++◌, length, codes, Option, Some, None}
use Rattle.std.specs.Prelude.{if◌then◌else◌}
use Rattle.std.specs.Fmt.{decimal}
use Rattle.hex.specs.Hex.{encode_lower}
use Rattle.crossing_bits.specs.HexText.{hex_of}
use Rattle.every_secret.specs.declared.patterns.Pattern.{Pattern}
use Rattle.every_secret.specs.declared.whys.UnclearWhy.{UnclearWhy}
use Rattle.every_secret.specs.BoundTexts.{path_stop_text, too_many_text, unclear_text}
use Rattle.every_secret.specs.Bounds.{Halt, Summary, counted, free_bits, output_count}

abbrev pub hex_bytes : List ℕ → List ℕ
hex_bytes [] = codes "-"
hex_bytes (byte ∷ bytes) = encode_lower (byte ∷ bytes)

-- the choices of a path
abbrev pub path_text : List Bool → List ℕ
path_text bits = codes " path " ++ (hex_of bits ++ (codes " bits " ++ decimal (length bits)))

-- the path that is unclear, and why
abbrev pub unclear_line : List Bool → UnclearWhy → List ℕ
unclear_line bits why = codes "unclear" ++ (path_text bits ++ (codes " " ++ (unclear_text why ++ codes "\n")))

-- so many walks were made, the last along this string, and a path is left
abbrev pub too_many_line : List Bool → ℕ → List ℕ
too_many_line bits walks = codes "unclear" ++ (path_text bits ++ (codes " " ++ (too_many_text walks ++ codes "\n")))

-- the masks of a pattern with so many free bits
abbrev pub mask_text : ℕ → Pattern → List ℕ
mask_text free pattern =
    if free == 0 then []
    else codes " mask " ++ (hex_bytes pattern.byte_masks ++ (codes " " ++ encode_lower (pattern.status_mask ∷ [])))

-- the end of its line
abbrev pub status_text : ℕ → Pattern → List ℕ
status_text free pattern =
    codes " status " ++ (decimal pattern.status ++ (mask_text free pattern ++ codes "\n"))

-- the pattern with this number
abbrev pub pattern_line : ℕ → Pattern → List ℕ
pattern_line number pattern =
    codes "output " ++ (decimal number ++ (codes " free " ++ (decimal (free_bits pattern) ++ (codes " bytes "
    ++ (hex_bytes pattern.bytes ++ status_text (free_bits pattern) pattern)))))

abbrev pub pattern_lines : ℕ → List Pattern → List ℕ
pattern_lines number [] = []
pattern_lines number (pattern ∷ patterns) = pattern_line number pattern ++ pattern_lines (number + 1) patterns

-- the first path that stops, if one does
abbrev pub stop_line : Option Halt → List ℕ
stop_line None = []
stop_line (Some halt) =
    codes "stopped" ++ (path_text halt.bits ++ (codes " " ++ (path_stop_text halt.stop ++ codes "\n")))

-- a line for each pattern, counted from 1, and one for the first path that stops
abbrev pub listing : Bool → Summary → List ℕ
listing listed found = if listed then pattern_lines 1 found.patterns ++ stop_line found.first_stop else []

-- a number, or a dash where none is told
abbrev pub count_text : Option ℕ → List ℕ
count_text None = codes "-"
count_text (Some count) = decimal count

-- paths, stops and outputs, each a dash where there are 2^64 or more
abbrev pub paths_text : Summary → List ℕ
paths_text found =
    codes " paths " ++ (count_text found.paths ++ (codes " stopped " ++ (count_text found.stopped ++ (codes " outputs "
    ++ count_text (counted (output_count found.patterns))))))

-- how many bytes the public input has, where they are not known
abbrev pub public_text : Bool → ℕ → List ℕ
public_text true count = codes " public " ++ decimal count
public_text false count = []

-- the bound: the length of the secrets, that of public inputs if they are not known, how many regions are listed, paths,
-- stops and outputs, and for how many outputs the bits suffice
abbrev pub bounded_line : ℕ → List ℕ → ℕ → Summary → ℕ → List ℕ
bounded_line secret_length public regions found bits =
    codes "bounded secret " ++ (decimal secret_length ++ (public ++ (codes " regions " ++ (decimal regions
    ++ (paths_text found ++ (codes " bits " ++ (decimal bits ++ codes "\n")))))))
