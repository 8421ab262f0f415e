-- Lists that are mapped to one list.
use Rattle.std.proofs.Common.{◌≡◌, ◌∙◌, ◌+◌, ◌<◌, ◌++◌, ℕ, List, [], ◌∷◌, ap, get_or, length, map, sym, take}
use Rattle.std.proofs.lemmas.List.{map_push, take_more}

-- one item more on both sides
pub mapped_more : {A B C : Type 0} (f : A → C) (g : B → C) (made : List A) (one : A) (items : List B) (i : ℕ)
    (other : B) → i < length items → map f made ≡ map g (take i items) → f one ≡ g (get_or items i other) →
    map f (made ++ one ∷ []) ≡ map g (take (i + 1) items)
mapped_more f g made one items i other within so_far same =
    map_push f made one
    ∙ (ap (λ l. l ++ f one ∷ []) so_far ∙ ap (λ c. map g (take i items) ++ c ∷ []) same)
    ∙ sym (ap (map g) (take_more items i other within) ∙ map_push g (take i items) (get_or items i other))
