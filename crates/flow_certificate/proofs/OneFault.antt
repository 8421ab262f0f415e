-- A file has at most one line that is the first to fail.
use Rattle.std.proofs.Common.{◌≡◌, ◌≢◌, ℕ, zero, suc, ◌-◌, ◌≤◌, ◌<◌, ◌++◌, List, [], ◌∷◌, refl, sym, ap, ◌∙◌, append_assoc, arith, take}
use Rattle.flow_certificate.specs.declared.faults.FormFault.{FormFault}
use Rattle.flow_certificate.specs.declared.faults.FormFault.TheVariants as faults
use Rattle.flow_certificate.specs.declared.lines.Line.{Line}
use Rattle.flow_certificate.specs.Certificates.{BeginsWith, IsFirstFailure, IsFormFault, Picture, lines_of, lines_text}
use Rattle.flow_certificate.specs.Lines.{line_text}

-- what follows the first n lines of a text that begins with more of them
record Follows (lines : List Line) (n : ℕ) (text : List ℕ) : Type 0 where
  more : List ℕ
  is : text ≡ lines_text (take n lines) ++ more

follows : (lines : List Line) (n k : ℕ) (rest : List ℕ) → n ≤ k → Follows lines n (lines_text (take k lines) ++ rest)
unfolding lines_text
follows lines zero k rest few = record { more = lines_text (take k lines) ++ rest; is = refl }
follows lines (suc n) zero rest few = absurd (omega (arith, few))
follows [] (suc n) (suc k) rest few = record { more = rest; is = refl }
follows (line ∷ lines) (suc n) (suc k) rest few =
    let go = follows lines n k rest (omega (arith, few)) in
    record {
      more = go.more;
      is = append_assoc (line_text line) (10 ∷ lines_text (take k lines)) rest
          ∙ (ap (λ (l : List ℕ). line_text line ++ (10 ∷ l)) go.is
          ∙ sym (append_assoc (line_text line) (10 ∷ lines_text (take n lines)) go.more));
    }

-- a file that begins with some lines begins with fewer of them
begins_fewer : (file : List ℕ) (n k : ℕ) (picture : Picture) → n ≤ k → BeginsWith file k picture →
    BeginsWith file n picture
begins_fewer file n k picture few begins =
    let go = follows (lines_of picture) n k begins.rest few in
    record {
      valid = begins.valid;
      count = omega (arith, few, begins.count);
      rest = go.more;
      text = begins.text ∙ go.is;
    }

not_earlier : (file : List ℕ) (n m : ℕ) → IsFirstFailure file n → IsFirstFailure file m → n < m → ⊥
not_earlier file n m first second earlier =
    first.fails second.before (begins_fewer file n (m - 1) second.before (omega (arith, earlier)) second.begins)

pub one_failure : (file : List ℕ) (n m : ℕ) → IsFirstFailure file n → IsFirstFailure file m → n ≡ m
one_failure file n m first second =
    let not_below : n < m → ⊥ = not_earlier file n m first second in
    let not_above : m < n → ⊥ = not_earlier file m n second first in
    omega arith

pub one_form_fault : (file : List ℕ) (a b : FormFault) → IsFormFault file a → IsFormFault file b →
    a ≢ faults.Memory → b ≢ faults.Memory → a ≡ b
one_form_fault file (faults.Line n) (faults.Line m) first second free other =
    ap (λ (line : ℕ). faults.Line line) (one_failure file n m first second)
one_form_fault file (faults.Line n) faults.Memory first second free other = absurd (other refl)
one_form_fault file faults.Memory b first second free other = absurd (free refl)
