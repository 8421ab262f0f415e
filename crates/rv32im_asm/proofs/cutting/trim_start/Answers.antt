use Rattle.std.proofs.Common.{◌≡◌, ◌<◌, ℕ, zero, suc, true, false, List, [], ◌∷◌, length, drop, get_or, refl, sym, ◌∙◌}
use Rattle.std.proofs.Common.{arith, rules}
use Rattle.std.proofs.lemmas.Bool.{cond-true, cond-false}
use Rattle.std.proofs.lemmas.List.{take_rest}
use Rattle.rv32im_asm.specs.Lines.{is_blank, without_blanks_before}
use Rattle.rv32im_asm.proofs.cutting.trim_start.Goals as goal

-- what is left of a text begins at the first byte that is no blank, or at its end
from_first : (text : List ℕ) (start : ℕ) → ((place : ℕ) → place < start → is_blank (get_or text place 0) ≡ true)
    → (start < length text → is_blank (get_or text start 0) ≡ false)
    → drop start text ≡ without_blanks_before text
from_first [] zero blanks other = refl
from_first [] (suc start) blanks other = refl
from_first (byte ∷ text) zero blanks other = sym (cond-false _ _ _ (other (omega arith)))
from_first (byte ∷ text) (suc start) blanks other =
    from_first text start (λ place before. blanks (suc place) (omega (arith, before)))
    (λ within. other (omega (arith, within)))
    ∙ sym (cond-true _ _ _ (blanks 0 (omega arith)))

pub returns-in-Some : goal.returns-in-Some
returns-in-Some c = rw take_rest (from_first c.args.text.now c.in-Some.start (search rules) (search rules))

pub returns-in-None : goal.returns-in-None
returns-in-None c =
    let text = c.args.text.now in
    rw take_rest (from_first text (length text) (search rules) (λ past. absurd (omega (arith, past))))
