-- A text cut at a byte.
use Rattle.std.proofs.Common.{◌≡◌, ℕ, ◌+◌, ◌<◌, ◌==◌, Bool, true, false, List, [], ◌∷◌, length, take, drop, Option}
use Rattle.std.proofs.Common.{Some, None, option_map, cond, refl, ap, ◌∙◌, arith}
use Rattle.std.proofs.lemmas.Grind.{common_steps}
use Rattle.std.specs.List.{position, onto_first, slice_split}
use Rattle.rv32im_asm.specs.Lines.{cut_at, lines_of}

-- the place of the first byte of a value
abbrev pub place_in : ℕ → List ℕ → Option ℕ
place_in value text = position (λ byte. byte == value) text

pub place_in_yes : (value byte : ℕ) (rest : List ℕ) → (byte == value) ≡ true → place_in value (byte ∷ rest) ≡ Some 0
place_in_yes value byte rest same = grind (arith, common_steps)

pub place_in_no : (value byte : ℕ) (rest : List ℕ) → (byte == value) ≡ false
    → place_in value (byte ∷ rest) ≡ option_map (λ place. place + 1) (place_in value rest)
place_in_no value byte rest other = grind (arith, common_steps)

-- the parts at a place
abbrev pub parts_at : List ℕ → ℕ → List ℕ × List ℕ
parts_at text place = (take place text, drop (place + 1) text)

place_more : (value byte : ℕ) (rest : List ℕ) (found : Option ℕ) → (byte == value) ≡ false
    → cut_at value rest ≡ option_map (parts_at rest) found
    → cut_at value (byte ∷ rest) ≡ option_map (parts_at (byte ∷ rest)) (option_map (λ place. place + 1) found)
place_more value byte rest None other known = rw (other, known) refl
place_more value byte rest (Some place) other known = grind (arith, common_steps)

place_step : (b : Bool) (value byte : ℕ) (rest : List ℕ) → (byte == value) ≡ b
    → cut_at value rest ≡ option_map (parts_at rest) (place_in value rest)
    → cut_at value (byte ∷ rest) ≡ option_map (parts_at (byte ∷ rest)) (place_in value (byte ∷ rest))
place_step true value byte rest same known = rw (place_in_yes value byte rest same) (grind (arith, common_steps))
place_step false value byte rest other known =
    rw (place_in_no value byte rest other) (place_more value byte rest (place_in value rest) other known)

pub cut_at_place : (value : ℕ) (text : List ℕ)
    → cut_at value text ≡ option_map (λ place. (take place text, drop (place + 1) text)) (position
    (λ byte. byte == value) text)
cut_at_place value [] = refl
cut_at_place value (byte ∷ rest) = place_step (byte == value) value byte rest refl (cut_at_place value rest)

pub ruleset cuts = (cut_at_place)

-- ---- lines

-- the lines of a text that is cut at its first line feed
abbrev pub lines_in : List ℕ → Option (List ℕ × List ℕ) → List (List ℕ)
lines_in text None = text ∷ []
lines_in text (Some parts) = parts.0 ∷ lines_of parts.1

onto_line : (byte : ℕ) (rest : List ℕ) (found : Option (List ℕ × List ℕ))
    → onto_first byte (lines_in rest found)
    ≡ lines_in (byte ∷ rest) (option_map (λ parts. (byte ∷ parts.0, parts.1)) found)
onto_line byte rest None = refl
onto_line byte rest (Some parts) = refl

line_step : (b : Bool) (byte next : ℕ) (rest : List ℕ) → lines_of (next ∷ rest)
    ≡ lines_in (next ∷ rest) (cut_at 10 (next ∷ rest))
    → cond b ([] ∷ lines_of (next ∷ rest)) (onto_first byte (lines_of (next ∷ rest)))
    ≡ lines_in (byte ∷ (next ∷ rest)) (cond b (Some ([], next ∷ rest))
    (option_map (λ parts. (byte ∷ parts.0, parts.1)) (cut_at 10 (next ∷ rest))))
line_step true byte next rest known = refl
line_step false byte next rest known =
    ap (onto_first byte) known ∙ onto_line byte (next ∷ rest) (cut_at 10 (next ∷ rest))

last_line : (b : Bool) (byte : ℕ)
    → cond b ([] ∷ []) ((byte ∷ []) ∷ []) ≡ lines_in (byte ∷ []) (cond b (Some ([], [])) None)
last_line true byte = refl
last_line false byte = refl

pub lines_of_cut : (byte : ℕ) (rest : List ℕ) → lines_of (byte ∷ rest)
    ≡ lines_in (byte ∷ rest) (cut_at 10 (byte ∷ rest))
lines_of_cut byte [] = last_line (byte == 10) byte
lines_of_cut byte (next ∷ rest) = line_step (byte == 10) byte next rest (lines_of_cut next rest)

pub lines_of_some : (text front back : List ℕ) → cut_at 10 text ≡ Some (front, back) → lines_of text
    ≡ front ∷ lines_of back
lines_of_some [] front back h = absurd (grind arith)
lines_of_some (byte ∷ rest) front back h = lines_of_cut byte rest ∙ ap (lines_in (byte ∷ rest)) h

pub lines_of_none : (text : List ℕ) → cut_at 10 text ≡ None → 0 < length text → lines_of text ≡ text ∷ []
lines_of_none [] h some = absurd (omega arith)
lines_of_none (byte ∷ rest) h some = lines_of_cut byte rest ∙ ap (lines_in (byte ∷ rest)) h

pub ruleset first_lines = (lines_of_some, lines_of_none)

-- ---- operands

-- the parts of a text that is cut at its first comma
abbrev pub commas_in : List ℕ → Option (List ℕ × List ℕ) → List (List ℕ)
commas_in text None = text ∷ []
commas_in text (Some parts) = parts.0 ∷ slice_split (λ byte. byte == 44) parts.1

onto_part : (byte : ℕ) (rest : List ℕ) (found : Option (List ℕ × List ℕ))
    → onto_first byte (commas_in rest found)
    ≡ commas_in (byte ∷ rest) (option_map (λ parts. (byte ∷ parts.0, parts.1)) found)
onto_part byte rest None = refl
onto_part byte rest (Some parts) = refl

comma_step : (b : Bool) (byte : ℕ) (rest : List ℕ) → slice_split (λ byte. byte == 44) rest
    ≡ commas_in rest (cut_at 44 rest)
    → cond b ([] ∷ slice_split (λ byte. byte == 44) rest) (onto_first byte (slice_split (λ byte. byte == 44) rest))
    ≡ commas_in (byte ∷ rest) (cond b (Some ([], rest)) (option_map (λ parts. (byte ∷ parts.0, parts.1))
    (cut_at 44 rest)))
comma_step true byte rest known = refl
comma_step false byte rest known = ap (onto_first byte) known ∙ onto_part byte rest (cut_at 44 rest)

pub commas_cut : (text : List ℕ) → slice_split (λ byte. byte == 44) text ≡ commas_in text (cut_at 44 text)
commas_cut [] = refl
commas_cut (byte ∷ rest) = comma_step (byte == 44) byte rest (commas_cut rest)
