-- Texts of lines, one for each item of a list.
use Rattle.std.proofs.Common.{◌≡◌, ◌∙◌, ◌+◌, ◌<◌, ◌++◌, ℕ, List, ◌∷◌, ap, append_assoc, drop, get_or, length, sym}
use Rattle.std.proofs.lemmas.List.{drop_more}

-- the line of the item at an index, and the lines after it, are the lines from it on
pub lines_step : {A : Type 0} (line : A → List ℕ) (lines : List A → List ℕ) →
    ((item : A) (items : List A) → lines (item ∷ items) ≡ line item ++ lines items) →
    (text whole : List ℕ) (items : List A) (i : ℕ) (other : A) → i < length items →
    text ++ lines (drop i items) ≡ whole → (text ++ line (get_or items i other)) ++ lines (drop (i + 1) items) ≡ whole
lines_step line lines each text whole items i other within so_far =
    let item = get_or items i other in
    let more = drop (i + 1) items in
    append_assoc text (line item) (lines more)
    ∙ (ap (λ (l : List ℕ). text ++ l) (sym (ap lines (drop_more items i other within) ∙ each item more)) ∙ so_far)
