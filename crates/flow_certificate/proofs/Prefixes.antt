-- A text has one list of lines in front.
use Rattle.std.proofs.Common.{◌≡◌, ◌≢◌, ℕ, suc, ◌+◌, ◌≤◌, true, List, [], ◌∷◌, ◌++◌, length}
use Rattle.std.proofs.Common.{length-append, refl, sym, ap, ◌∙◌, append_assoc, arith}
use Rattle.std.specs.List.{list_all}
use Rattle.std.proofs.lemmas.Bool.{and_parts}
use Rattle.flow_certificate.specs.declared.lines.Line.{Line}
use Rattle.flow_certificate.specs.Certificates.{lines_text}
use Rattle.flow_certificate.specs.Private.Guessing.{line_in}
use Rattle.flow_certificate.specs.Lines.{is_line, line_text}
use Rattle.flow_certificate.proofs.Guesses.{line_own, pair_same}

pub text_none : lines_text [] ≡ []
unfolding lines_text
text_none = refl

pub text_more : (line : Line) (lines : List Line) → lines_text (line ∷ lines) ≡ line_text line ++ (10 ∷ lines_text lines)
unfolding lines_text
text_more line lines = refl

pub text_append : (first second : List Line) → lines_text (first ++ second) ≡ lines_text first ++ lines_text second
unfolding lines_text
text_append [] second = refl
text_append (line ∷ first) second =
    ap (λ (l : List ℕ). line_text line ++ (10 ∷ l)) (text_append first second)
    ∙ sym (append_assoc (line_text line) (10 ∷ lines_text first) (lines_text second))

-- one line in front
pub record AreSame (a b : Line) (x y : List ℕ) : Type 0 where
  pub line : a ≡ b
  pub rest : x ≡ y

pub lines_same : (a b : Line) (x y : List ℕ) → is_line a ≡ true → is_line b ≡ true →
    line_text a ++ (10 ∷ x) ≡ line_text b ++ (10 ∷ y) → AreSame a b x y
lines_same a b x y first second e =
    let both = sym (line_own a x first) ∙ (ap line_in e ∙ line_own b y second) in
    let same = pair_same a b x y both in
    record { line = same.0; rest = same.1 }

-- the text of lines does not end before they do
text_some : (line : Line) (lines : List Line) (rest : List ℕ) → [] ≢ lines_text (line ∷ lines) ++ rest
text_some line lines rest e =
    let split = text_more line lines in
    let count : length (lines_text (line ∷ lines) ++ rest) ≡ 0 = ap length (sym e) in
    let size : length (lines_text (line ∷ lines) ++ rest) ≡ length (line_text line) + suc (length (lines_text lines))
    + length rest = ap (λ (l : List ℕ). length (l ++ rest)) split ∙ (length-append (line_text line ++ (10 ∷ lines_text
    lines)) rest ∙ ap (λ n. n + length rest) (length-append (line_text line) (10 ∷ lines_text lines))) in
    omega (arith, count, size)

-- lines that begin a text are the first of others that begin it, if there are as many of these
pub record IsFront (short long : List Line) (rest other : List ℕ) : Type 0 where
  pub more : List Line
  pub lines : long ≡ short ++ more
  pub text : rest ≡ lines_text more ++ other

pub front_of : (short long : List Line) (rest other : List ℕ) → list_all is_line short ≡ true →
    list_all is_line long ≡ true → length short ≤ length long →
    lines_text short ++ rest ≡ lines_text long ++ other → IsFront short long rest other
unfolding lines_text
front_of [] long rest other first second few e = record { more = long; lines = refl; text = e }
front_of (a ∷ short) [] rest other first second few e = absurd (omega arith)
front_of (a ∷ short) (b ∷ long) rest other first second few e =
    let one = and_parts (is_line a) (list_all is_line short) first in
    let two = and_parts (is_line b) (list_all is_line long) second in
    let both = sym (append_assoc (line_text a) (10 ∷ lines_text short) rest) ∙ (e ∙ append_assoc (line_text b)
    (10 ∷ lines_text long) other) in
    let same = lines_same a b (lines_text short ++ rest) (lines_text long ++ other) one.0 two.0 both in
    let inner = front_of short long rest other one.1 two.1 (omega arith) same.rest in
    record {
      more = inner.more;
      lines = ap (λ (l : Line). l ∷ long) (sym same.line) ∙ ap (λ (ls : List Line). a ∷ ls) inner.lines;
      text = inner.text;
    }

-- a whole text is not shorter than lines that begin it
pub whole_longer : (short long : List Line) (rest : List ℕ) → list_all is_line short ≡ true →
    list_all is_line long ≡ true → lines_text short ++ rest ≡ lines_text long → length short ≤ length long
unfolding lines_text
whole_longer [] long rest first second e = omega arith
whole_longer (a ∷ short) [] rest first second e = absurd (text_some a short rest (sym e))
whole_longer (a ∷ short) (b ∷ long) rest first second e =
    let one = and_parts (is_line a) (list_all is_line short) first in
    let two = and_parts (is_line b) (list_all is_line long) second in
    let both = sym (append_assoc (line_text a) (10 ∷ lines_text short) rest) ∙ e in
    let same = lines_same a b (lines_text short ++ rest) (lines_text long) one.0 two.0 both in
    let inner : length short ≤ length long = whole_longer short long rest one.1 two.1 same.rest in
    omega (arith, inner)
