-- The rest after a wanted text is what makes the text whole again, and what `strip_prefix` gives.
use Rattle.std.proofs.Common.{◌≡◌, ◌≢◌, ◌==◌, ◌+◌, ℕ, true, false, List, [], ◌∷◌, ◌++◌, length, take, drop, Option, Some, None}
use Rattle.std.proofs.Common.{refl, sym, ap, ◌∙◌, arith}
use Rattle.std.specs.Prelude.{option_map}
use Rattle.std.specs.Borrow.{Bor}
use Rattle.std.specs.Cmp.Lexicographic.{pointwise}
use Rattle.std.specs.Option.{MatchOption}
use Rattle.std.proofs.lemmas.Bool.Decides.{Decides-eqb}
use Rattle.std.proofs.lemmas.Slice.Eq.{strip_prefix_is}
use Rattle.flow_base.specs.TextPieces.{after_text}

abbrev a_rest : List ℕ → Option (List ℕ)
a_rest rest = Some rest

rest_or : List ℕ → Option (List ℕ) → List ℕ
rest_or other None = other
rest_or other (Some rest) = rest

same_rest : (a b : List ℕ) → a_rest a ≡ a_rest b → a ≡ b
unfolding rest_or
same_rest a b e = ap (rest_or a) e

pub after_found : (wanted bytes rest : List ℕ) → after_text wanted bytes ≡ Some rest → bytes ≡ wanted ++ rest
after_found [] bytes rest e = same_rest bytes rest e
after_found (first ∷ wanted) [] rest e = absurd cc
after_found (first ∷ wanted) (byte ∷ more) rest e = grind (arith, after_found wanted more rest)

pub after_own : (wanted rest : List ℕ) → after_text wanted (wanted ++ rest) ≡ Some rest
after_own [] rest = refl
after_own (first ∷ wanted) rest = grind (arith, after_own wanted rest)

after_none : (wanted bytes : List ℕ) (found : Option (List ℕ)) → after_text wanted bytes ≡ found →
    ((rest : List ℕ) → bytes ≢ wanted ++ rest) → found ≡ None
after_none wanted bytes None e never = refl
after_none wanted bytes (Some rest) e never = absurd (never rest (after_found wanted bytes rest e))

pub stripped_prefix : (wanted bytes : List ℕ) (found : Option (Bor (List ℕ))) →
    MatchOption found (pointwise (λ a b. a == b) (take (length wanted) bytes) wanted ≡ false)
    (λ rest. (pointwise (λ a b. a == b) (take (length wanted) bytes) wanted ≡ true) ×
    (rest.now ≡ drop (length wanted) bytes) × (length rest.now + length wanted ≡ length bytes)) →
    option_map (λ rest. rest.now) found ≡ after_text wanted bytes
stripped_prefix wanted bytes None is =
    sym (after_none wanted bytes (after_text wanted bytes) refl (strip_prefix_is Decides-eqb bytes wanted None is))
stripped_prefix wanted bytes (Some rest) is =
    sym (ap (after_text wanted) (strip_prefix_is Decides-eqb bytes wanted (Some rest) is) ∙ after_own wanted rest.now)
