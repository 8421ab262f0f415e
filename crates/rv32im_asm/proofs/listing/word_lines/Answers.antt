use Rattle.std.proofs.Common.{rules, refl, ◌++◌, ℕ, List, sym, ap, ◌∙◌, arith}
use Rattle.std.proofs.lemmas.List.{append-nil}
use Rattle.rv32im_asm.proofs.Listings.{lines_short, lines_after}
use Rattle.rv32im_asm.proofs.listing.word_lines.Goals as goal

pub loop-rest-preserved : goal.loop-rest-preserved
loop-rest-preserved c =
    record {
      fits = omega arith;
      text = lines_after _ _ _ _ _ _ _ _ c.in-len4-up.len_at_least
          (search rules) refl c.in_ok-put_line.ensures c.loop-rest.invariant.text;
    }

pub returns : goal.returns
returns c =
    let none = lines_short c.loop-rest.place c.loop-rest.rest.now (omega arith) in
    sym (append-nil _) ∙ ap (λ (rest : List ℕ). c.loop-rest.text.items ++ rest) (sym none) ∙ c.loop-rest.invariant.text
