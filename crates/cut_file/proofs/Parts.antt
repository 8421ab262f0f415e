-- How bytes are divided at separators.
use Rattle.std.proofs.Common.{◌≡◌, ℕ, ◌==◌, ◌||◌, Bool, true, false, List, [], ◌∷◌, ◌++◌, Option, Some, None}
use Rattle.std.proofs.Common.{if◌then◌else◌, refl, sym, ap, ◌∙◌, arith}
use Rattle.std.proofs.Common.{◌&&◌, not, inl, inr, eq-eqb}
use Rattle.std.proofs.lemmas.Bool.{and_parts, cases_Bool, cond-false, cond-true, eqb-true, not-true, or_from}
use Rattle.std.proofs.lemmas.Bool.{or_parts}
use Rattle.cut_file.specs.Texts.{separated}
use Rattle.cut_file.specs.Cuts.{is_empty}
use Rattle.cut_file.specs.Private.Reading.{divided, with_byte, onto_first, parts}

-- the halves after bytes without a separator
abbrev pub with_front : List ℕ → Option (List ℕ × List ℕ) → Option (List ℕ × List ℕ)
with_front front None = None
with_front front (Some p) = Some (front ++ p.0, p.1)

-- no byte is the separator
abbrev pub has_byte : ℕ → List ℕ → Bool
has_byte separator [] = false
has_byte separator (byte ∷ bytes) = (byte == separator) || has_byte separator bytes

pub parts_alone : (separator : ℕ) (bytes : List ℕ) → divided separator bytes ≡ None →
    parts separator bytes ≡ bytes ∷ []
parts_alone separator [] e = refl
parts_alone separator (byte ∷ bytes) e = grind (arith, parts_alone separator bytes)

with_parts : (byte : ℕ) (halves : Option (List ℕ × List ℕ)) (front rest : List ℕ) →
    with_byte byte halves ≡ Some (front, rest) →
    (inner : List ℕ) × (halves ≡ Some (inner, rest)) × (front ≡ byte ∷ inner)
with_parts byte None front rest e = absurd (grind arith)
with_parts byte (Some p) front rest e = (p.0, grind arith, grind arith)

abbrev pub some_halves : List ℕ → List ℕ → Option (List ℕ × List ℕ)
some_halves front rest = Some (front, rest)

front_of : Option (List ℕ × List ℕ) → List ℕ
front_of None = []
front_of (Some p) = p.0

rest_of : Option (List ℕ × List ℕ) → List ℕ
rest_of None = []
rest_of (Some p) = p.1

pub halves_same : (a b c d : List ℕ) → some_halves a b ≡ some_halves c d → (a ≡ c) × (b ≡ d)
unfolding front_of rest_of
halves_same a b c d e = (ap front_of e, ap rest_of e)

parts_divided_cons : (is : Bool) (separator byte : ℕ) (bytes front rest : List ℕ) →
    ((inner : List ℕ) → divided separator bytes ≡ Some (inner, rest) →
    parts separator bytes ≡ inner ∷ parts separator rest) →
    (if is then Some ([], bytes) else with_byte byte (divided separator bytes)) ≡ Some (front, rest) →
    (if is then [] ∷ parts separator bytes else onto_first byte
    (parts separator bytes)) ≡ front ∷ parts separator rest
parts_divided_cons true separator byte bytes front rest more e =
    let same = halves_same [] bytes front rest e in
    ap (λ (l : List ℕ). l ∷ parts separator bytes) same.0 ∙ ap (λ (l : List ℕ). front ∷ parts separator l) same.1
parts_divided_cons false separator byte bytes front rest more e =
    let w = with_parts byte (divided separator bytes) front rest e in
    rw (more w.0 w.1) (ap (λ (l : List ℕ). l ∷ parts separator rest) (sym w.2))

pub parts_divided : (separator : ℕ) (bytes front rest : List ℕ) → divided separator bytes ≡ Some (front, rest) →
    parts separator bytes ≡ front ∷ parts separator rest
parts_divided separator [] front rest e = absurd (grind arith)
parts_divided separator (byte ∷ bytes) front rest e =
    parts_divided_cons (byte == separator) separator byte bytes front rest
    (λ (inner : List ℕ) h. parts_divided separator bytes inner rest h) e

-- ---- parts and their texts

-- no part has the separator
abbrev pub clean_words : ℕ → List (List ℕ) → Bool
clean_words separator [] = true
clean_words separator (part ∷ others) = not (has_byte separator part) && clean_words separator others

onto_clean : (separator byte : ℕ) (others : List (List ℕ)) → (byte == separator) ≡ false →
    clean_words separator others ≡ true →
    clean_words separator (onto_first byte others) ≡ true
onto_clean separator byte [] other clean = rw other refl
onto_clean separator byte (part ∷ others) other clean = rw other clean

pub parts_clean : (separator : ℕ) (bytes : List ℕ) → clean_words separator (parts separator bytes) ≡ true
parts_clean separator [] = refl
parts_clean separator (byte ∷ bytes) =
    elim (cases_Bool (byte == separator)) [
      | inl is ↦ rw is (parts_clean separator bytes)
      | inr other ↦ rw other (onto_clean separator byte (parts separator bytes) other (parts_clean separator bytes))
    ]

joined_onto : (separator byte : ℕ) (others : List (List ℕ)) → separated separator
    (onto_first byte others) ≡ byte ∷ separated separator others
joined_onto separator byte [] = refl
joined_onto separator byte (part ∷ []) = refl
joined_onto separator byte (part ∷ (next ∷ others)) = refl

joined_second : (separator byte : ℕ) (others : List (List ℕ)) →
    separated separator ([] ∷ onto_first byte others) ≡ separator ∷ separated separator (onto_first byte others)
joined_second separator byte [] = refl
joined_second separator byte (part ∷ others) = refl

joined_empty : (separator : ℕ) (bytes : List ℕ) → separated separator
    ([] ∷ parts separator bytes) ≡ separator ∷ separated separator (parts separator bytes)
joined_empty separator [] = refl
joined_empty separator (byte ∷ bytes) =
    elim (cases_Bool (byte == separator)) [
      | inl is ↦ rw is refl
      | inr other ↦ rw other (joined_second separator byte (parts separator bytes))
    ]

pub joined_parts : (separator : ℕ) (bytes : List ℕ) → separated separator (parts separator bytes) ≡ bytes
joined_parts separator [] = refl
joined_parts separator (byte ∷ bytes) =
    elim (cases_Bool (byte == separator)) [
      | inl is ↦ rw is (joined_empty separator bytes ∙ ap (λ (l : List ℕ). separator ∷ l)
          (joined_parts separator bytes)
          ∙ ap (λ (b : ℕ). b ∷ bytes) (sym (eqb-true byte separator is)))
      | inr other ↦ rw other (joined_onto separator byte (parts separator bytes)
          ∙ ap (λ (l : List ℕ). byte ∷ l) (joined_parts separator bytes))
    ]

-- there is a part
onto_some : (byte : ℕ) (others : List (List ℕ)) → is_empty (onto_first byte others) ≡ false
onto_some byte [] = refl
onto_some byte (part ∷ others) = refl

some_either : (test : Bool) (byte : ℕ) (others : List (List ℕ)) →
    is_empty (if test then [] ∷ others else onto_first byte others) ≡ false
some_either true byte others = refl
some_either false byte others = onto_some byte others

pub parts_some : (separator : ℕ) (bytes : List ℕ) → is_empty (parts separator bytes) ≡ false
parts_some separator [] = refl
parts_some separator (byte ∷ bytes) = some_either (byte == separator) byte (parts separator bytes)

-- a clean part in front of a separator is the first part
pub parts_front : (separator : ℕ) (part rest : List ℕ) → has_byte separator part ≡ false →
    parts separator (part ++ (separator ∷ rest)) ≡ part ∷ parts separator rest
parts_front separator [] rest clean = rw (eq-eqb separator separator refl) refl
parts_front separator (byte ∷ part) rest clean =
    let both = or_parts (byte == separator) (has_byte separator part) clean in
    rw both.0 (ap (onto_first byte) (parts_front separator part rest both.1))

pub parts_last : (separator : ℕ) (part : List ℕ) → has_byte separator part ≡ false → parts separator part ≡ part ∷ []
parts_last separator [] clean = refl
parts_last separator (byte ∷ part) clean =
    let both = or_parts (byte == separator) (has_byte separator part) clean in
    rw both.0 (ap (onto_first byte) (parts_last separator part both.1))

pub parts_joined : (separator : ℕ) (word : List ℕ) (words : List (List ℕ)) →
    clean_words separator (word ∷ words) ≡ true →
    parts separator (separated separator (word ∷ words)) ≡ word ∷ words
parts_joined separator word [] clean =
    let both = and_parts (not (has_byte separator word)) _ clean in
    parts_last separator word (not-true _ both.0)
parts_joined separator word (next ∷ words) clean =
    let both = and_parts (not (has_byte separator word)) _ clean in
    parts_front separator word (separated separator (next ∷ words)) (not-true _ both.0)
    ∙ ap (λ (l : List (List ℕ)). word ∷ l) (parts_joined separator next words both.1)

-- ---- the first separator

pub record IsDivided (separator : ℕ) (bytes front rest : List ℕ) : Type 0 where
  pub whole : bytes ≡ front ++ (separator ∷ rest)
  pub clean : has_byte separator front ≡ false

pub divided_own : (separator : ℕ) (front rest : List ℕ) → has_byte separator front ≡ false →
    divided separator (front ++ (separator ∷ rest)) ≡ Some (front, rest)
divided_own separator [] rest clean = rw (eq-eqb separator separator refl) refl
divided_own separator (byte ∷ front) rest clean =
    let both = or_parts (byte == separator) (has_byte separator front) clean in
    rw (both.0, divided_own separator front rest both.1) refl

pub divided_found : (separator : ℕ) (bytes front rest : List ℕ) → divided separator bytes ≡ Some (front, rest) →
    IsDivided separator bytes front rest
divided_found separator [] front rest e = absurd cc
divided_found separator (byte ∷ bytes) front rest e =
    elim (cases_Bool (byte == separator)) [
      | inl is ↦
          let here : some_halves [] bytes ≡ some_halves front rest = sym (cond-true (byte == separator)
          (some_halves [] bytes) (with_byte byte (divided separator bytes)) is) ∙ e in
          let same = halves_same [] bytes front rest here in
          record {
            whole = ap (λ (b : ℕ). b ∷ bytes) (eqb-true byte separator is) ∙ ap (λ (l : List ℕ). separator ∷ l) same.1
                ∙ ap (λ (l : List ℕ). l ++ (separator ∷ rest)) same.0;
            clean = ap (has_byte separator) (sym same.0);
          }
      | inr other ↦
          let there : with_byte byte (divided separator bytes) ≡ some_halves front rest = sym (cond-false
          (byte == separator) (some_halves [] bytes) (with_byte byte (divided separator bytes)) other) ∙ e in
          let w = with_parts byte (divided separator bytes) front rest there in
          let inner = divided_found separator bytes w.0 rest w.1 in
          record {
            whole = ap (λ (l : List ℕ). byte ∷ l) inner.whole
                ∙ ap (λ (l : List ℕ). l ++ (separator ∷ rest)) (sym w.2);
            clean = ap (has_byte separator) w.2 ∙ or_from _ _ other inner.clean;
          }
    ]

pub divided_none : (separator : ℕ) (bytes : List ℕ) → divided separator bytes ≡ None →
    has_byte separator bytes ≡ false
divided_none separator [] e = refl
divided_none separator (byte ∷ bytes) e = grind (arith, divided_none separator bytes)

pub none_divided : (separator : ℕ) (bytes : List ℕ) → has_byte separator bytes ≡ false →
    divided separator bytes ≡ None
none_divided separator [] clean = refl
none_divided separator (byte ∷ bytes) clean =
    let both = or_parts (byte == separator) (has_byte separator bytes) clean in
    rw (both.0, none_divided separator bytes both.1) refl
