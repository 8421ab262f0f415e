use Rattle.std.proofs.Common.{◌≡◌, List, ℕ, codes, ap, ◌++◌, ◌∙◌}
use Rattle.std.specs.Fmt.{decimal}
use Rattle.flow_base.specs.HexWords.{hex_word}
use Rattle.flow_base.proofs.JoinedPieces.{joins}
use Rattle.flow_certificate.proofs.line_texts.put_place.Goals as goal

pub returns : goal.returns
returns c =
    let point = c.args.point.now in
    let region : c.put_number.new.text.items ≡ c.args.text.now.items ++ decimal point.region =
    c.in_ok-put_number.ensures.ok ∙ ap (λ (n : ℕ). c.args.text.now.items ++ decimal n) c.from.ensures in
    let address : c.put-2.new.text.items ≡ c.put.new.text.items ++ hex_word point.address =
    c.in_ok-put-2.ensures.ok ∙ ap (λ (l : List ℕ). c.put.new.text.items ++ l) c.hex_word.ensures in
    joins _ (decimal point.region) _ _ _ region
    (joins _ (codes " ") _ _ _ c.in_ok-put.ensures.ok
    (joins _ (hex_word point.address) _ _ _ address
    (joins _ (codes " ") _ _ _ c.in_ok-put-3.ensures.ok c.in_ok-put_slot.ensures.ok)))
