-- A text is that of one certificate.
use Rattle.std.proofs.Common.{◌≡◌, ℕ, ◌≤◌, ◌++◌, List, [], ◌∷◌, length, length-append, sym, ap, ◌∙◌}
use Rattle.std.proofs.Common.{append-nil, arith}
use Rattle.std.specs.List.{list_all}
use Rattle.std.proofs.lemmas.Bool.{and_parts}
use Rattle.flow_certificate.specs.declared.lines.Line.{Line}
use Rattle.flow_certificate.specs.Certificates.{CertText, Picture, lines_of, lines_text, makes_graph}
use Rattle.flow_certificate.specs.Private.Drafts.{Sketch, blank, steps}
use Rattle.flow_certificate.specs.Lines.{is_line}
use Rattle.flow_certificate.proofs.DraftedPictures.{drafted, whole}
use Rattle.flow_certificate.proofs.Prefixes.{front_of, whole_longer}
use Rattle.flow_certificate.proofs.DraftSteps.{sketch_same}

no_more : (lines more : List Line) → length (lines ++ more) ≤ length lines → lines ++ more ≡ lines
no_more lines [] few = append-nil lines
no_more lines (line ∷ more) few =
    let size = length-append lines (line ∷ more) in absurd (omega (arith, size, few))

pub texts_one : (file : List ℕ) (first second : Picture) → CertText file first → CertText file second → first ≡ second
texts_one file first second one two =
    let a = and_parts (list_all is_line (lines_of first)) (makes_graph first) one.valid in
    let b = and_parts (list_all is_line (lines_of second)) (makes_graph second) two.valid in
    let texts : lines_text (lines_of first) ≡ lines_text (lines_of second) = sym one.text ∙ two.text in
    let few : length (lines_of first) ≤ length (lines_of second) = whole_longer (lines_of first) (lines_of second) []
    a.0 b.0 (append-nil (lines_text (lines_of first)) ∙ texts) in
    let back : length (lines_of second) ≤ length (lines_of first) = whole_longer (lines_of second) (lines_of first) []
    b.0 a.0 (append-nil (lines_text (lines_of second)) ∙ sym texts) in
    let front = front_of (lines_of first) (lines_of second) [] [] a.0 b.0 few
    (ap (λ (l : List ℕ). l ++ []) texts) in
    let long : length (lines_of second) ≡ length (lines_of first ++ front.more) = ap length front.lines in
    let lines : lines_of second ≡ lines_of first = front.lines ∙ no_more (lines_of first) front.more
    (omega (arith, long, back)) in
    let sketches = sketch_same (whole first) (whole second) (sym (drafted first a.1) ∙ (ap (steps blank) (sym lines)
    ∙ drafted second b.1)) in
    ap (λ (s : Sketch). s.picture) sketches
