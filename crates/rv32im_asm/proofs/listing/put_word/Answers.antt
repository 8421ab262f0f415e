use Rattle.std.proofs.Common.{◌≡◌, List, ℕ, codes, ap, ◌++◌, ◌∙◌}
use Rattle.std.proofs.lemmas.Result.{on_ok_weaker}
use Rattle.flow_base.specs.HexWords.{hex_digits, hex_word}
use Rattle.flow_base.proofs.JoinedPieces.{joins}
use Rattle.rv32im_asm.proofs.listing.put_word.Goals as goal

pub returns : goal.returns
returns c =
    let place : c.put.new.text.items ≡ c.args.text.now.items ++ hex_word c.args.address =
    c.in_ok-put.ensures.ok ∙ ap (λ (l : List ℕ). c.args.text.now.items ++ l) c.hex_word.ensures in
    let word : c.put-3.new.text.items ≡ c.put-2.new.text.items ++ hex_digits c.args.word =
    c.in_ok-put-3.ensures.ok ∙ ap (λ (l : List ℕ). c.put-2.new.text.items ++ l) c.hex_digits.ensures in
    on_ok_weaker c.put-4.result (λ last.
    joins _ (hex_word c.args.address) _ _ _ place
    (joins _ (codes " ") _ _ _ c.in_ok-put-2.ensures.ok
    (joins _ (hex_digits c.args.word) _ _ _ word last))) c.put-4.ensures.ok
