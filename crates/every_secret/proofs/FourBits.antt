-- The number of four bits has these bits under the mask of four places.
use Rattle.std.proofs.Common.{◌≡◌, ◌+◌, ◌*◌, ◌++◌, Bool, true, false, List, [], ◌∷◌, refl, sym, ap, ◌∙◌, append_assoc}
use Rattle.flow_base.specs.Words.{bit_count, bits_below, bits_under, count_below, number_of_bit}

pub four_bits : (first second third fourth : Bool) →
    bits_under (number_of_bit first + 2 * number_of_bit second + 4 * number_of_bit third + 8 * number_of_bit fourth) 15
    ≡ first ∷ second ∷ third ∷ fourth ∷ []
unfolding bits_below
four_bits false false false false = refl
four_bits false false false true = refl
four_bits false false true false = refl
four_bits false false true true = refl
four_bits false true false false = refl
four_bits false true false true = refl
four_bits false true true false = refl
four_bits false true true true = refl
four_bits true false false false = refl
four_bits true false false true = refl
four_bits true false true false = refl
four_bits true false true true = refl
four_bits true true false false = refl
four_bits true true false true = refl
four_bits true true true false = refl
four_bits true true true true = refl

pub count_four : bit_count 15 ≡ 4
unfolding count_below
count_four = refl

-- a string that is longer by what is put at the end
pub append_more : (old front longer now more : List Bool) → now ≡ old ++ front → longer ≡ front ++ more →
    now ++ more ≡ old ++ longer
append_more old front longer now more is long =
    ap (λ s. s ++ more) is ∙ (append_assoc old front more ∙ ap (λ s. old ++ s) (sym long))
