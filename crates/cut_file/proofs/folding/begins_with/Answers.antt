use Rattle.std.proofs.Common.{◌≡◌, ◌==◌, ◌&&◌, ℕ, List, [], ◌∷◌, refl, ap, ◌∙◌}
use Rattle.std.specs.Cmp.{nat_eq_equiv}
use Rattle.std.specs.List.{starts_with}
use Rattle.cut_file.specs.Folds.{begins_with}
use Rattle.cut_file.proofs.folding.begins_with.Goals as goal

-- the library's word for a list that begins with another says the same
starts_begins : (masks wanted : List ℕ) → starts_with (λ a b. a == b) masks wanted ≡ begins_with masks wanted
starts_begins masks [] = refl
starts_begins [] (first ∷ wanted) = refl
starts_begins (mask ∷ masks) (first ∷ wanted) =
    ap (λ same. same && starts_with (λ a b. a == b) masks wanted) (nat_eq_equiv.symm first mask)
    ∙ ap (λ more. (mask == first) && more) (starts_begins masks wanted)

pub returns : goal.returns
returns c = c.starts_with.ensures.value ∙ starts_begins c.args.masks.now c.args.wanted.now
