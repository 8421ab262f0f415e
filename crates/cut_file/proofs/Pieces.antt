-- The pieces of a text that is written.
use Rattle.std.proofs.Common.{◌≡◌, ℕ, suc, ◌+◌, ◌<◌, List, [], ◌∷◌, ◌++◌, codes, length, drop, get_or, refl, sym, ap}
use Rattle.std.proofs.Common.{◌∙◌, append_assoc, add-one, drop-cons}
use Rattle.std.specs.Prelude.{map}
use Rattle.std.specs.Fmt.{decimal}
use Rattle.std.proofs.lemmas.List.{append-nil}
use Rattle.cut_file.specs.declared.points.CutPoint.{CutPoint}
use Rattle.cut_file.specs.declared.points.Run.{Run}
use Rattle.cut_file.specs.Cuts.{CutPicture}
use Rattle.flow_base.specs.HexWords.{hex_word}
use Rattle.flow_base.specs.Points.{point_text, slot_text}
use Rattle.cut_file.specs.declared.lines.Line.{Line}
use Rattle.cut_file.specs.declared.lines.Line.TheVariants.{Version, Secret, Bits, Skip, Point, End}
use Rattle.cut_file.specs.Texts.{cut_text, separated, line_text, lines_text, rest_text, run_text}
use Rattle.cut_file.specs.Private.Writing.{later_lines, led, point_pieces}

pub joined_led : (word : List ℕ) (words : List (List ℕ)) → separated 32 (word ∷ words) ≡ word ++ led words
joined_led word [] = sym (append-nil word)
joined_led word (next ∷ words) = ap (λ (l : List ℕ). word ++ (32 ∷ l)) (joined_led next words)

led_append : (first second : List (List ℕ)) → led (first ++ second) ≡ led first ++ led second
led_append [] second = refl
led_append (word ∷ first) second =
    ap (λ (l : List ℕ). 32 ∷ (word ++ l)) (led_append first second)
    ∙ sym (append_assoc (32 ∷ word) (led first) (led second))

pub lines_append : (version : ℕ) (first second : List Line) →
    lines_text version (first ++ second) ≡ lines_text version first ++ lines_text version second
lines_append version [] second = refl
lines_append version (line ∷ first) second =
    ap (λ (l : List ℕ). line_text version line ++ (10 ∷ l)) (lines_append version first second)
    ∙ sym (append_assoc (line_text version line) (10 ∷ lines_text version first) (lines_text version second))

-- the line of a point, and what comes after it, in the pieces that are written
pub pieces_of_point : (version : ℕ) (point : CutPoint) →
    line_text version (Point point) ++ codes "\n" ≡ point_pieces version point
pieces_of_point version point =
    let region = decimal point.point.region in
    let address = hex_word point.point.address in
    let slot = slot_text point.point.slot in
    let place : List ℕ = point_text point.point in
    let runs : List (List ℕ) = map run_text point.runs in
    let pattern : List (List ℕ) = map (rest_text version) point.rest in
    let last : List ℕ = codes " rest" ++ led pattern in
    let more : List ℕ = led runs ++ last in
    let words = joined_led region (address ∷ (slot ∷ (runs ++ (codes "rest" ∷ pattern)))) in
    let inner : led (runs ++ (codes "rest" ∷ pattern)) ≡ more = led_append runs (codes "rest" ∷ pattern) in
    let front : region ++ (codes " " ++ (address ++ (codes " " ++ (slot ++ more)))) ≡ place ++ more =
    sym (append_assoc region (codes " " ++ (address ++ (codes " " ++ slot))) more
    ∙ ap (λ (l : List ℕ). region ++ (codes " " ++ l)) (append_assoc address (codes " " ++ slot) more)) in
    ap (λ (l : List ℕ). (codes "point " ++ l) ++ codes "\n") words
    ∙ ap (λ (l : List ℕ). (codes "point " ++ (region ++ (codes " " ++ (address ++ (codes " " ++ (slot ++ l))))))
    ++ codes "\n") inner
    ∙ ap (λ (l : List ℕ). (codes "point " ++ l) ++ codes "\n") front
    ∙ ap (λ (l : List ℕ). codes "point " ++ l) (append_assoc place more (codes "\n"))
    ∙ ap (λ (l : List ℕ). codes "point " ++ (place ++ l)) (append_assoc (led runs) last (codes "\n"))

-- one more piece of runs
pub runs_step : (piece : Run → List ℕ) (runs : List Run) (index : ℕ) (other : Run) (text whole : List ℕ) →
    index < length runs → text ++ led (map piece (drop index runs)) ≡ whole →
    (text ++ (32 ∷ piece (get_or runs index other))) ++ led (map piece (drop (index + 1) runs)) ≡ whole
runs_step piece runs index other text whole inside known =
    let tail : drop index runs ≡ get_or runs index other ∷ drop
    (suc index) runs = drop-cons runs index other inside in
    rw add-one (append_assoc text (32 ∷ piece (get_or runs index other)) (led (map piece (drop (suc index) runs)))
    ∙ ap (λ (l : List Run). text ++ led (map piece l)) (sym tail) ∙ known)

-- one more line of items
pub lines_step : {A : Type 0} (version : ℕ) (form : A → Line) (items : List A) (index : ℕ) (other : A)
    (text piece whole : List ℕ) → index < length items →
    line_text version (form (get_or items index other)) ++ (10 ∷ []) ≡ piece →
    text ++ lines_text version (map form (drop index items)) ≡ whole →
    (text ++ piece) ++ lines_text version (map form (drop (index + 1) items)) ≡ whole
lines_step version form items index other text piece whole inside is known =
    let here = line_text version (form (get_or items index other)) in
    let tail : drop index items ≡ get_or items index other ∷ drop (suc index) items =
    drop-cons items index other inside in
    let more = lines_text version (map form (drop (suc index) items)) in
    rw add-one (append_assoc text piece more
    ∙ ap (λ (l : List ℕ). text ++ (l ++ more)) (sym is)
    ∙ ap (λ (l : List ℕ). text ++ l) (append_assoc here (10 ∷ []) more)
    ∙ ap (λ l. text ++ lines_text version (map form l)) (sym tail) ∙ known)

-- the lines after the first three, in the pieces that are written
pub later_pieces : (version : ℕ) (cut : CutPicture) →
    lines_text version (later_lines cut)
    ≡ lines_text version (map Skip cut.skip) ++ (lines_text version (map Point cut.points) ++ codes "end\n")
later_pieces version cut =
    let skips : List Line = map Skip cut.skip in
    let points : List Line = map Point cut.points in
    lines_append version skips (points ++ (End ∷ []))
    ∙ ap (λ (l : List ℕ). lines_text version skips ++ l) (lines_append version points (End ∷ []))

-- the text of a cut in the pieces that are written
pub cut_pieces : (cut : CutPicture) →
    lines_text cut.version (Version cut.version ∷ (Secret cut.secret_len ∷ (Bits cut.bits ∷ [])))
    ++ lines_text cut.version (later_lines cut)
    ≡ cut_text cut
cut_pieces cut =
    let head : List Line = Version cut.version ∷ (Secret cut.secret_len ∷ (Bits cut.bits ∷ [])) in
    sym (lines_append cut.version head (later_lines cut))
    ∙ ap (λ (l : List Line). lines_text cut.version (head ++ l)) (sym (append_assoc (map Skip cut.skip)
    (map Point cut.points) (End ∷ [])))
