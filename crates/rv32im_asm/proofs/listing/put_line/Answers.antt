use Rattle.std.proofs.Common.{◌≡◌, List, ℕ, codes, ap, ◌++◌, ◌∙◌}
use Rattle.std.proofs.lemmas.Result.{on_ok_weaker}
use Rattle.flow_base.specs.HexWords.{hex_digits, hex_word}
use Rattle.flow_base.proofs.JoinedPieces.{joins}
use Rattle.rv32im_asm.specs.Listing.{word_text}
use Rattle.rv32im_asm.proofs.listing.put_line.Goals as goal

pub returns : goal.returns
returns c =
    let front : List ℕ = hex_word c.args.address ++ (codes " " ++ (hex_digits c.args.word ++ codes " ")) in
    let shown : c.put.new.text.items ≡ c.put_word.new.text.items ++ word_text c.args.word =
    c.in_ok-put.ensures.ok
    ∙ ap (λ (l : List ℕ). c.put_word.new.text.items ++ l) (c.as_slice.ensures ∙ c.in_ok-shown.ensures) in
    on_ok_weaker c.put-2.result (λ last.
    joins _ front _ _ _ c.in_ok-put_word.ensures (joins _ (word_text c.args.word) _ _ _ shown last)) c.put-2.ensures.ok
