use Rattle.std.proofs.Common.{◌≡◌, ◌<◌, ℕ, zero, suc, true, false, List, [], ◌∷◌, length, take, get_or, refl, sym, ap, ◌∙◌}
use Rattle.std.proofs.Common.{add-one, arith, rules}
use Rattle.std.proofs.lemmas.Bool.{cond-true, cond-false}
use Rattle.std.proofs.lemmas.List.Elements.{All-from_get_or}
use Rattle.std.proofs.lemmas.List.Folds.{list_all_at}
use Rattle.std.proofs.lemmas.List.Sums.{list_all-from_AllPass}
use Rattle.rv32im_asm.specs.Lines.{is_blank, without_blanks_after}
use Rattle.rv32im_asm.proofs.cutting.trim_end.Goals as goal

-- nothing is left of blanks
none_left : (text : List ℕ) → ((place : ℕ) → place < length text → is_blank (get_or text place 0) ≡ true)
    → [] ≡ without_blanks_after text
none_left [] blanks = refl
none_left (byte ∷ text) blanks =
    sym (cond-true _ _ _ (list_all-from_AllPass is_blank (byte ∷ text) (All-from_get_or (λ value. is_blank value ≡ true) (byte ∷ text) 0 blanks)))

-- what is left of a text ends with the last byte that is no blank
to_last : (text : List ℕ) (last : ℕ) → last < length text → is_blank (get_or text last 0) ≡ false
    → ((place : ℕ) → last < place → place < length text → is_blank (get_or text place 0) ≡ true)
    → take (suc last) text ≡ without_blanks_after text
to_last [] last inside other blanks = absurd (omega (arith, inside))
to_last (byte ∷ text) zero inside other blanks =
    ap (λ rest. byte ∷ rest) (none_left text (λ place before. blanks (suc place) (omega arith) (omega (arith, before))))
    ∙ sym (cond-false _ _ _ (list_all_at is_blank (byte ∷ text) 0 0 inside other))
to_last (byte ∷ text) (suc last) inside other blanks =
    ap (λ rest. byte ∷ rest) (to_last text last (omega (arith, inside)) other (λ place behind before.
    blanks (suc place) (omega (arith, behind)) (omega (arith, before))))
    ∙ sym (cond-false _ _ _ (list_all_at is_blank (byte ∷ text) (suc last) 0 inside other))

pub returns-in-Some : goal.returns-in-Some
returns-in-Some c =
    rw add-one (to_last c.args.text.now c.in-Some.last (search rules) (search rules) (search rules))

pub returns-in-None : goal.returns-in-None
returns-in-None c = none_left c.args.text.now (search rules)
