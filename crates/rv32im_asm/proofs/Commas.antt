-- The operands of a text that is cut at its commas.
use Rattle.std.proofs.Common.{◌≡◌, ◌≢◌, ℕ, ◌==◌, List, [], ◌∷◌, map, Option, Some, None, refl, ap, ◌∙◌, arith}
use Rattle.std.proofs.lemmas.Grind.{common_steps}
use Rattle.std.specs.List.{slice_split}
use Rattle.rv32im_asm.specs.Lines.{cut_at, operands_in, one_of, two_of, three_of, trimmed}
use Rattle.rv32im_asm.proofs.Cuts.{commas_cut, commas_in}

-- the parts at commas
abbrev pub parts_of : List ℕ → List (List ℕ)
parts_of text = slice_split (λ byte. byte == 44) text

pub parts_none : (text : List ℕ) → cut_at 44 text ≡ None → parts_of text ≡ text ∷ []
parts_none text h = commas_cut text ∙ ap (commas_in text) h

pub parts_some : (text front back : List ℕ) → cut_at 44 text ≡ Some (front, back) → parts_of text
    ≡ front ∷ parts_of back
parts_some text front back h = commas_cut text ∙ ap (commas_in text) h

-- a text has a part
abbrev pub Part : List ℕ → Type 0
Part text = (first : List ℕ) × (more : List (List ℕ)) × (parts_of text ≡ first ∷ more)

some_part : (text : List ℕ) (found : Option (List ℕ × List ℕ)) → cut_at 44 text ≡ found → Part text
some_part text None h = (text, [], parts_none text h)
some_part text (Some parts) h = (parts.0, parts_of parts.1, parts_some text parts.0 parts.1 h)

pub part_of : (text : List ℕ) → Part text
part_of text = some_part text (cut_at 44 text) refl

-- the operands of a text with a comma
pub operands_some : (text front back : List ℕ) → cut_at 44 text ≡ Some (front, back)
    → operands_in text ≡ trimmed front ∷ map trimmed (parts_of back)
operands_some [] front back h = absurd (grind (arith, common_steps))
operands_some (byte ∷ rest) front back h = ap (map trimmed) (parts_some (byte ∷ rest) front back h)

-- of a text without
pub operands_none : (byte : ℕ) (rest : List ℕ) → cut_at 44 (byte ∷ rest) ≡ None
    → operands_in (byte ∷ rest) ≡ trimmed (byte ∷ rest) ∷ []
operands_none byte rest h = ap (map trimmed) (parts_none (byte ∷ rest) h)

-- ---- one, two and three operands

pub one_none : (text : List ℕ) → cut_at 44 text ≡ None → text ≢ [] → one_of (operands_in text) ≡ Some (trimmed text)
one_none [] h some = absurd (some refl)
one_none (byte ∷ rest) h some = ap one_of (operands_none byte rest h)

pub one_some : (text front back : List ℕ) → cut_at 44 text ≡ Some (front, back) → one_of (operands_in text) ≡ None
one_some text front back h =
    let (first, more, parts) = part_of back in
    ap one_of (operands_some text front back h ∙ ap (λ others. trimmed front ∷ map trimmed others) parts)

pub two_none : (text : List ℕ) → cut_at 44 text ≡ None → two_of (operands_in text) ≡ None
two_none [] h = refl
two_none (byte ∷ rest) h = ap two_of (operands_none byte rest h)

pub two_last : (text first second : List ℕ) → cut_at 44 text ≡ Some (first, second) → cut_at 44 second ≡ None
    → two_of (operands_in text) ≡ Some (trimmed first, trimmed second)
two_last text first second h last =
    ap two_of (operands_some text first second h ∙ ap (λ others. trimmed first ∷ map trimmed others)
    (parts_none second last))

two_more : (text first second : List ℕ) (found : Option (List ℕ × List ℕ)) → cut_at 44 text ≡ Some (first, second)
    → cut_at 44 second ≡ found → found ≢ None → two_of (operands_in text) ≡ None
two_more text first second None h is more = absurd (more refl)
two_more text first second (Some parts) h is more =
    let (third, others, last) = part_of parts.1 in
    ap two_of (operands_some text first second h ∙ ap (λ others. trimmed first ∷ map trimmed others)
    (parts_some second parts.0 parts.1 is ∙ ap (λ others. parts.0 ∷ others) last))

pub more_than_two : (text first second : List ℕ) → cut_at 44 text ≡ Some (first, second) → cut_at 44 second ≢ None
    → two_of (operands_in text) ≡ None
more_than_two text first second h more = two_more text first second (cut_at 44 second) h refl more

pub three_none : (text : List ℕ) → cut_at 44 text ≡ None → three_of (operands_in text) ≡ None
three_none [] h = refl
three_none (byte ∷ rest) h = ap three_of (operands_none byte rest h)

pub three_two : (text first rest : List ℕ) → cut_at 44 text ≡ Some (first, rest) → cut_at 44 rest ≡ None
    → three_of (operands_in text) ≡ None
three_two text first rest h last =
    ap three_of (operands_some text first rest h ∙ ap (λ others. trimmed first ∷ map trimmed others)
    (parts_none rest last))

pub three_last : (text first rest second third : List ℕ) → cut_at 44 text ≡ Some (first, rest)
    → cut_at 44 rest ≡ Some (second, third) → cut_at 44 third ≡ None
    → three_of (operands_in text) ≡ Some (trimmed first, trimmed second, trimmed third)
three_last text first rest second third h next last =
    ap three_of (operands_some text first rest h ∙ ap (λ others. trimmed first ∷ map trimmed others)
    (parts_some rest second third next ∙ ap (λ others. second ∷ others) (parts_none third last)))

three_more : (text first rest second third : List ℕ) (found : Option (List ℕ × List ℕ)) → cut_at 44 text
    ≡ Some (first, rest)
    → cut_at 44 rest ≡ Some (second, third) → cut_at 44 third ≡ found → found ≢ None → three_of (operands_in text)
    ≡ None
three_more text first rest second third None h next is more = absurd (more refl)
three_more text first rest second third (Some parts) h next is more =
    let (fourth, others, last) = part_of parts.1 in
    ap three_of (operands_some text first rest h ∙ ap (λ others. trimmed first ∷ map trimmed others)
    (parts_some rest second third next ∙ ap (λ others. second ∷ others)
    (parts_some third parts.0 parts.1 is ∙ ap (λ others. parts.0 ∷ others) last)))

pub more_than_three : (text first rest second third : List ℕ) → cut_at 44 text ≡ Some (first, rest)
    → cut_at 44 rest ≡ Some (second, third) → cut_at 44 third ≢ None → three_of (operands_in text) ≡ None
more_than_three text first rest second third h next more =
    three_more text first rest second third (cut_at 44 third) h next refl more
