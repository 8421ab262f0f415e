-- The text of a line is guessed as that line, whatever stands after its line feed.
use Rattle.std.proofs.Common.{◌≡◌, ℕ, ◌^◌, ◌<◌, ◌==◌, nat_lt, Bool, true, false}
use Rattle.std.proofs.Common.{List, [], ◌∷◌, ◌++◌, codes, slice_index, if◌then◌else◌, refl, sym}
use Rattle.std.proofs.Common.{◌∙◌, ap, subst, append_assoc, arith, Option, Some, None}
use Rattle.std.specs.Prelude.{option_map}
use Rattle.std.specs.Fmt.{decimal}
use Rattle.std.proofs.lemmas.Bool.{and_parts, ltb-true}
use Rattle.flow_base.specs.HexWords.{hex_digits, hex_word}
use Rattle.flow_base.specs.Points.{is_slot, slot_text}
use Rattle.flow_base.specs.TextPieces.{after_text}
use Rattle.flow_base.specs.TextWords.{is_digit, number_at, slot_at, word_at}
use Rattle.flow_base.proofs.NumberTexts.{number_first}
use Rattle.flow_base.proofs.SlotTexts.{slot_first}
use Rattle.flow_base.proofs.WantedTexts.{after_found, after_own}
use Rattle.flow_base.proofs.WordTexts.{word_first}
use Rattle.flow_base.specs.declared.points.Slot.{Slot}
use Rattle.flow_graph.specs.declared.ends.End.{End}
use Rattle.flow_graph.specs.declared.ends.End.TheVariants as ends
use Rattle.flow_certificate.specs.Private.Guessing.{below, end_at, guess, half_of, line_in, link_at, point_at, relay_at}
use Rattle.flow_certificate.specs.Private.Guessing.{with_line}
use Rattle.flow_certificate.specs.Keeping.{is_number, is_certificate_point, is_region_or_outside}
use Rattle.flow_certificate.specs.Lines.{half_text, inside_text, is_end, is_line, line_text, link_text, point_text}
use Rattle.flow_certificate.specs.Lines.{relay_text}
use Rattle.flow_certificate.specs.declared.lines.Line.{Line}
use Rattle.flow_certificate.specs.declared.lines.Line.TheVariants as forms
use Rattle.flow_certificate.specs.declared.lines.LinkLine.{LinkLine}
use Rattle.flow_certificate.specs.declared.lines.PointLine.{PointLine}
use Rattle.flow_certificate.specs.declared.lines.RelayLine.{RelayLine}
use Rattle.max_flow.specs.declared.answers.Half.{Half}
use Rattle.max_flow.specs.declared.answers.Half.TheVariants.{Both, FirstOnly, SecondOnly, Neither}
use Rattle.flow_certificate.specs.VerdictTexts.{end_text}

-- ---- parts of a line

number_own : (number byte : ℕ) (rest : List ℕ) → number < 2 ^ 48 → is_digit byte ≡ false →
    number_at (decimal number ++ (byte ∷ rest)) ≡ (number, byte ∷ rest)
number_own number byte rest small other = number_first number (byte ∷ rest) small other

word_own : (word : ℕ) (rest : List ℕ) → nat_lt word (2 ^ 32) ≡ true → word_at (hex_digits word ++ rest) ≡ word
word_own word rest known = word_first word rest (ltb-true word (2 ^ 32) known)

slot_own : (slot : Slot) (byte : ℕ) (rest : List ℕ) → is_slot slot ≡ true → is_digit byte ≡ false →
    slot_at (slot_text slot ++ (byte ∷ rest)) ≡ (slot, byte ∷ rest)
slot_own slot byte rest known other = slot_first slot (byte ∷ rest) known other

pub below_own : (limit number : ℕ) → nat_lt number limit ≡ true → below limit number ≡ number
below_own limit number small = rw small refl

pub end_own : (end : End) (byte : ℕ) (rest : List ℕ) → is_end end ≡ true → is_digit byte ≡ false →
    end_at (end_text end ++ (byte ∷ rest)) ≡ (end, byte ∷ rest)
unfolding end_at
end_own ends.Source byte rest known other = refl
end_own (ends.Point index) byte rest known other =
    let small : index < 4294967296 = ltb-true index (2 ^ 32) known in
    rw (number_own index byte rest (omega arith) other, below_own 4294967296 index known) refl
end_own (ends.Relay region) byte rest known other =
    let small : region < 65536 = ltb-true region 65536 known in
    rw (number_own region byte rest (omega arith) other, below_own 65536 region known) refl
end_own ends.Sink byte rest known other = refl

-- ---- lines

half_own : (half : Half) (rest : List ℕ) → half_of (slice_index (codes " side " ++ (half_text half ++ rest)) 6) ≡ half
half_own Both rest = refl
half_own FirstOnly rest = refl
half_own SecondOnly rest = refl
half_own Neither rest = refl

inside_own : (inside : Bool) (rest : List ℕ) →
    (slice_index (codes " side " ++ (inside_text inside ++ rest)) 6 == 115) ≡ inside
inside_own true rest = refl
inside_own false rest = refl

small_of : (number : ℕ) → is_number number ≡ true → number < 2 ^ 48
small_of number known = ltb-true number (2 ^ 48) known

link_split : (line : LinkLine) (rest : List ℕ) →
    link_text line ++ rest ≡ codes "link " ++ (end_text line.link.source ++ (codes " " ++ (end_text line.link.target
    ++ (codes " flow " ++ (decimal line.flow ++ rest)))))
link_split line rest = simp append_assoc

link_own : (line : LinkLine) (rest : List ℕ) → is_line (forms.Link line) ≡ true →
    link_at (end_text line.link.source ++ (codes " " ++ (end_text line.link.target ++ (codes " flow "
    ++ (decimal line.flow ++ (10 ∷ rest)))))) ≡ line
unfolding link_at
link_own line rest known =
    let parts = and_parts (is_end line.link.source) _ known in
    let more = and_parts (is_end line.link.target) (is_number line.flow) parts.1 in
    let behind : List ℕ = codes "flow " ++ (decimal line.flow ++ (10 ∷ rest)) in
    let source = end_own line.link.source 32 (end_text line.link.target ++ (32 ∷ (codes "flow " ++ (decimal line.flow
    ++ (10 ∷ rest))))) parts.0 refl in
    let target = end_own line.link.target 32 (codes "flow " ++ (decimal line.flow ++ (10 ∷ rest))) more.0 refl in
    let flow = number_own line.flow 10 rest (small_of line.flow more.1) refl in
    rw (source, target, flow) refl

relay_split : (line : RelayLine) (rest : List ℕ) →
    relay_text line ++ rest ≡ codes "relay " ++ (decimal line.region ++ (codes " side " ++ (inside_text line.inside
    ++ rest)))
relay_split line rest = simp append_assoc

relay_own : (line : RelayLine) (rest : List ℕ) → is_line (forms.Relay line) ≡ true →
    relay_at (decimal line.region ++ (codes " side " ++ (inside_text line.inside ++ rest))) ≡ line
unfolding relay_at
relay_own line rest known =
    let small : line.region < 65536 = ltb-true line.region 65536 known in
    let region = number_own line.region 32 (codes "side " ++ (inside_text line.inside ++ rest)) (omega arith) refl in
    rw (region, below_own 65536 line.region known, inside_own line.inside rest) refl

-- the line of a point after its first word
abbrev point_tail : PointLine → List ℕ → List ℕ
point_tail line rest =
    decimal line.point.region ++ (32 ∷ (hex_word line.point.address ++ (32 ∷ (slot_text line.point.slot
    ++ (codes " capacity " ++ (decimal line.capacity ++ (codes " flow " ++ (decimal line.flow ++ (codes " side "
    ++ (half_text line.half ++ rest))))))))))

point_split : (line : PointLine) (rest : List ℕ) → point_text line ++ rest ≡ codes "point " ++ point_tail line rest
point_split line rest = simp append_assoc

point_own : (line : PointLine) (rest : List ℕ) → is_line (forms.Point line) ≡ true →
    point_at (point_tail line rest) ≡ line
unfolding point_at
point_own line rest known =
    let place = and_parts (is_certificate_point line.point) _ known in
    let address = and_parts (is_region_or_outside line.point.region) _ place.0 in
    let slot_known = and_parts (nat_lt line.point.address (2 ^ 32)) (is_slot line.point.slot) address.1 in
    let some = and_parts (nat_lt 0 line.capacity) _ place.1 in
    let numbers = and_parts (is_number line.capacity) (is_number line.flow) some.1 in
    let region_small : line.point.region < 65536 = ltb-true line.point.region 65536 address.0 in
    let half_part : List ℕ = codes "side " ++ (half_text line.half ++ rest) in
    let region = number_own line.point.region 32 (hex_word line.point.address ++ (32 ∷ (slot_text line.point.slot
    ++ (codes " capacity " ++ (decimal line.capacity ++ (codes " flow " ++ (decimal line.flow ++ (codes " side "
    ++ (half_text line.half ++ rest))))))))) (omega arith) refl in
    let word = word_own line.point.address (32 ∷ (slot_text line.point.slot ++ (codes " capacity "
    ++ (decimal line.capacity ++ (codes " flow " ++ (decimal line.flow ++ (codes " side " ++ (half_text line.half
    ++ rest)))))))) slot_known.0 in
    let slot = slot_own line.point.slot 32 (codes "capacity " ++ (decimal line.capacity ++ (codes " flow "
    ++ (decimal line.flow ++ (codes " side " ++ (half_text line.half ++ rest)))))) slot_known.1 refl in
    let capacity = number_own line.capacity 32 (codes "flow " ++ (decimal line.flow ++ (codes " side "
    ++ (half_text line.half ++ rest)))) (small_of line.capacity numbers.0) refl in
    let flow = number_own line.flow 32 (codes "side " ++ (half_text line.half ++ rest)) (small_of line.flow numbers.1)
    refl in
    rw (
      region,
      below_own 65536 line.point.region address.0,
      word,
      slot,
      capacity,
      flow,
      half_own line.half rest,
    ) refl

pub guess_own : (line : Line) (rest : List ℕ) → is_line line ≡ true → guess (line_text line ++ (10 ∷ rest)) ≡ line
unfolding guess line_text
guess_own forms.Version rest known = refl
guess_own (forms.Value value) rest known =
    let number = number_own value 10 rest (small_of value known) refl in
    rw number refl
guess_own (forms.Point line) rest known =
    ap guess (point_split line (10 ∷ rest)) ∙ ap forms.Point (point_own line (10 ∷ rest) known)
guess_own (forms.Relay line) rest known =
    ap guess (relay_split line (10 ∷ rest)) ∙ ap forms.Relay (relay_own line (10 ∷ rest) known)
guess_own (forms.Link line) rest known =
    ap guess (link_split line (10 ∷ rest)) ∙ ap forms.Link (link_own line rest known)
guess_own forms.End rest known = refl

-- ---- both ways

abbrev a_line : Line × List ℕ → Option (Line × List ℕ)
a_line p = Some p

line_or : Line × List ℕ → Option (Line × List ℕ) → Line × List ℕ
line_or other None = other
line_or other (Some p) = p

pub pair_same : (a b : Line) (x y : List ℕ) → a_line (a, x) ≡ a_line (b, y) → (a ≡ b) × (x ≡ y)
unfolding line_or
pair_same a b x y e =
    let same : (a, x) ≡ (b, y) = ap (line_or (a, x)) e in
    (ap (λ p. p.0) same, ap (λ p. p.1) same)

-- the text of a line is read as that line
pub line_own : (line : Line) (rest : List ℕ) → is_line line ≡ true →
    line_in (line_text line ++ (10 ∷ rest)) ≡ Some (line, rest)
unfolding line_in
line_own line rest known =
    let found = guess_own line rest known in
    let after : after_text (line_text line ++ (10 ∷ [])) (line_text line ++ (10 ∷ rest)) ≡ Some rest =
    ap (after_text (line_text line ++ (10 ∷ []))) (sym (append_assoc (line_text line) (10 ∷ []) rest))
    ∙ after_own (line_text line ++ (10 ∷ [])) rest in
    rw (found, known, after) refl

-- what is read was written
pub record IsLineOf (bytes : List ℕ) (line : Line) (rest : List ℕ) : Type 0 where
  pub known : is_line line ≡ true
  pub text : bytes ≡ line_text line ++ (10 ∷ rest)

line_from : (known : Bool) (line : Line) (bytes : List ℕ) (found : Option (List ℕ)) (answer : Line) (rest : List ℕ) →
    is_line line ≡ known → after_text (line_text line ++ (10 ∷ [])) bytes ≡ found →
    (if known then option_map (with_line line) found else None) ≡ Some (answer, rest) → IsLineOf bytes answer rest
line_from false line bytes found answer rest is after e = absurd cc
line_from true line bytes None answer rest is after e = absurd cc
line_from true line bytes (Some more) answer rest is after e =
    let same = pair_same line answer more rest e in
    subst (λ (l : Line). IsLineOf bytes l rest) same.0 (subst (λ (r : List ℕ). IsLineOf bytes line r) same.1
    (record {
      known = is;
      text = after_found (line_text line ++ (10 ∷ [])) bytes more after ∙ append_assoc
          (line_text line) (10 ∷ []) more;
    }))

pub line_found : (bytes : List ℕ) (answer : Line) (rest : List ℕ) → line_in bytes ≡ Some (answer, rest) →
    IsLineOf bytes answer rest
unfolding line_in
line_found bytes answer rest e =
    line_from (is_line (guess bytes)) (guess bytes) bytes (after_text (line_text (guess bytes) ++ (10 ∷ [])) bytes)
    answer rest refl refl e
