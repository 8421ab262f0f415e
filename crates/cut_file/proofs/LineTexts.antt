-- The text of a line is read as that line, and as no other.
use Rattle.std.proofs.Common.{◌≡◌, ℕ, ◌<◌, ◌≤◌, length, Bool, true, false, List}
use Rattle.std.proofs.Common.{◌++◌, codes, if◌then◌else◌, inl, inr}
use Rattle.std.proofs.Common.{Option, Some, None, refl, sym, ◌∙◌, ap, subst, arith}
use Rattle.std.specs.Prelude.{option_map}
use Rattle.std.specs.Fmt.{decimal}
use Rattle.std.specs.Str.{bytes_eq}
use Rattle.std.proofs.lemmas.Slice.Eq.{bytes_eq-Decides}
use Rattle.cut_file.specs.declared.lines.Line.{Line}
use Rattle.cut_file.specs.declared.lines.Line.TheVariants as forms
use Rattle.flow_base.specs.TextPieces.{after_text}
use Rattle.flow_base.specs.TextWords.{number_in}
use Rattle.flow_base.proofs.NumberTexts.{number-found, number-own}
use Rattle.flow_base.proofs.WantedTexts.{after-found, after-own}
use Rattle.cut_file.specs.declared.points.CutPoint.{CutPoint}
use Rattle.cut_file.specs.Cuts.{is_version, is_word}
use Rattle.cut_file.specs.Texts.{is_line, line_text}
use Rattle.cut_file.specs.Private.Reading.{is_short, line_in, number_behind}
use Rattle.cut_file.specs.Private.Reading.{number_line_in, point_in, tested_number}
use Rattle.cut_file.proofs.NoSeparators.{clean-append, decimal-clean}
use Rattle.cut_file.proofs.Parts.{has_byte}
use Rattle.cut_file.proofs.PointLines.{point-found, point-own, point_line-clean}
use Rattle.cut_file.proofs.Steps.{else-found, kept-found, map-found, then-found, then-own}
use Rattle.flow_base.specs.Points.{is_region_number}

pub record IsLineOf (version : ℕ) (text : List ℕ) (line : Line) : Type 0 where
  pub known : is_line version line ≡ true
  pub is : text ≡ line_text version line

-- ---- lines of a number

-- a form whose text is a wanted text with a number that passes a test
record IsNumberForm (form : ℕ → Line) (wanted : List ℕ) (test : ℕ → Bool) (version : ℕ) : Type 0 where
  pub text : (number : ℕ) → line_text version (form number) ≡ wanted ++ decimal number
  pub known : (number : ℕ) → is_line version (form number) ≡ test number
  pub small : (number : ℕ) → test number ≡ true → number < 4294967296

version-form : (version : ℕ) → IsNumberForm (λ n. forms.Version n) (codes "flowcheck-cut ") is_version version
version-form version =
    record { text = λ number. refl; known = λ number. refl; small = λ number known. grind arith }

secret-form : (version : ℕ) → IsNumberForm (λ n. forms.Secret n) (codes "secret ") is_short version
secret-form version =
    record { text = λ number. refl; known = λ number. refl; small = λ number known. grind arith }

bits-form : (version : ℕ) → IsNumberForm (λ n. forms.Bits n) (codes "bits ") is_word version
bits-form version =
    record { text = λ number. refl; known = λ number. refl; small = λ number known. grind arith }

skip-form : (version : ℕ) → IsNumberForm (λ n. forms.Skip n) (codes "skip ") is_region_number version
skip-form version =
    record { text = λ number. refl; known = λ number. refl; small = λ number known. grind arith }

abbrev keep : (ℕ → Bool) → ℕ → Option ℕ
keep test number = if test number then Some number else None

number-line_found : (form : ℕ → Line) (wanted : List ℕ) (test : ℕ → Bool) (version : ℕ) (text : List ℕ) (line : Line) →
    IsNumberForm form wanted test version → option_map form (tested_number wanted test text) ≡ Some line →
    IsLineOf version text line
number-line_found form wanted test version text line own e =
    let found = map-found form (tested_number wanted test text) line e in
    let tested = then-found (number_behind wanted text) (keep test) found.0 found.1 in
    let behind = then-found (after_text wanted text) number_in tested.value tested.is in
    let number = number-found behind.value tested.value behind.then_is in
    subst (IsLineOf version text) found.2 (kept-found (test tested.value) tested.value found.0
    (λ n. IsLineOf version text (form n)) tested.then_is (λ known. record {
      known = own.known tested.value ∙ known;
      is = after-found wanted text behind.value behind.is ∙ (ap (λ (l : List ℕ). wanted ++ l) number.text
          ∙ sym (own.text tested.value));
    }))

number-tested : (wanted : List ℕ) (test : ℕ → Bool) (number : ℕ) → test number ≡ true → number < 4294967296 →
    tested_number wanted test (wanted ++ decimal number) ≡ Some number
number-tested wanted test number known small =
    let behind : number_behind wanted (wanted ++ decimal number) ≡ Some number =
    then-own (after_text wanted (wanted ++ decimal number)) number_in (decimal number)
    (after-own wanted (decimal number)) ∙ number-own number small in
    then-own (number_behind wanted (wanted ++ decimal number)) (keep test) number behind ∙ rw known refl

number-clean : (form : ℕ → Line) (wanted : List ℕ) (test : ℕ → Bool) (version number : ℕ) →
    IsNumberForm form wanted test version → has_byte 10 wanted ≡ false → is_line version (form number) ≡ true →
    has_byte 10 (line_text version (form number)) ≡ false
number-clean form wanted test version number own clean known =
    ap (has_byte 10) (own.text number)
    ∙ clean-append 10 wanted (decimal number) clean (decimal-clean 10 number (omega arith)
    (own.small number (sym (own.known number) ∙ known)))

-- ---- each form

pub line-found : (version : ℕ) (text : List ℕ) (line : Line) → line_in version text ≡ Some line →
    IsLineOf version text line
unfolding line_in number_line_in
line-found version text line e = elim (else-found _ _ line e) [
  | inl number ↦ elim (else-found _ _ line number) [
    | inl is ↦ number-line_found _ _ _ version text line (version-form version) is
    | inr others ↦ elim (else-found _ _ line others) [
      | inl is ↦ number-line_found _ _ _ version text line (secret-form version) is
      | inr more ↦ elim (else-found _ _ line more) [
        | inl is ↦ number-line_found _ _ _ version text line (bits-form version) is
        | inr is ↦ number-line_found _ _ _ version text line (skip-form version) is
      ]
    ]
  ]
  | inr other ↦ elim (else-found _ _ line other) [
    | inl is ↦
        let found = map-found (λ p. forms.Point p) (point_in version text) line is in
        let own = point-found version text found.0 found.1 in
        subst (IsLineOf version text) found.2 (record { known = own.known; is = own.text })
    | inr is ↦ kept-found (bytes_eq text (codes "end")) forms.End line (IsLineOf version text) is (λ end. record {
      known = refl;
      is = (bytes_eq-Decides text (codes "end")).0 end;
    })
  ]
]

-- the text of the line of a point is not that of a number
no-number : (version : ℕ) (point : CutPoint) → number_line_in (line_text version (forms.Point point)) ≡ None
unfolding number_line_in
no-number version point = refl

pub line-own : (version : ℕ) (line : Line) → is_line version line ≡ true →
    line_in version (line_text version line) ≡ Some line
unfolding line_in number_line_in point_in
line-own version (forms.Version number) known =
    let own = number-tested (codes "flowcheck-cut ") is_version number known
    ((version-form version).small number known) in
    rw own refl
line-own version (forms.Secret number) known =
    let own = number-tested (codes "secret ") is_short number known ((secret-form version).small number known) in
    rw own refl
line-own version (forms.Bits number) known =
    let own = number-tested (codes "bits ") is_word number known ((bits-form version).small number known) in
    rw own refl
line-own version (forms.Skip number) known =
    let own = number-tested (codes "skip ") is_region_number number known ((skip-form version).small number known) in
    rw own refl
line-own version (forms.Point point) known =
    let own = point-own version point known in
    rw own refl
line-own version forms.End known = refl

pub line-clean : (version : ℕ) (line : Line) → is_line version line ≡ true →
    has_byte 10 (line_text version line) ≡ false
line-clean version (forms.Version number) known = number-clean _ _ _ version number (version-form version) refl known
line-clean version (forms.Secret number) known = number-clean _ _ _ version number (secret-form version) refl known
line-clean version (forms.Bits number) known = number-clean _ _ _ version number (bits-form version) refl known
line-clean version (forms.Skip number) known = number-clean _ _ _ version number (skip-form version) refl known
line-clean version (forms.Point point) known = point_line-clean version point known
line-clean version forms.End known = refl

pub line-long : (version : ℕ) (line : Line) → 1 ≤ length (line_text version line)
line-long version (forms.Version number) = omega arith
line-long version (forms.Secret number) = omega arith
line-long version (forms.Bits number) = omega arith
line-long version (forms.Skip number) = omega arith
line-long version (forms.Point point) = omega arith
line-long version forms.End = omega arith
