-- Where outputs begin alike, they differ first where the rest does.
use Rattle.std.proofs.Common.{◌≡◌, ℕ, zero, suc, ◌+◌, ◌≤◌, ◌==◌, List, [], ◌∷◌, length, take, drop, ap, ◌∙◌, true, refl}
use Rattle.std.proofs.Common.{arith, eq-eqb}
use Rattle.lockstep_replay.specs.Differences.{byte_difference}

pub byte_difference_drop : (n index : ℕ) (a b : List ℕ) → n ≤ length a → n ≤ length b → take n a ≡ take n b →
    byte_difference (index + n) (drop n a) (drop n b) ≡ byte_difference index a b
byte_difference_drop zero index a b h k e = ap (λ i. byte_difference i a b) (omega arith)
byte_difference_drop (suc n) index [] b h k e = absurd (omega arith)
byte_difference_drop (suc n) index (x ∷ a) [] h k e = absurd (omega arith)
byte_difference_drop (suc n) index (x ∷ a) (y ∷ b) h k e =
    let same : x ≡ y = cc in
    let rest : take n a ≡ take n b = cc in
    let test : (x == y) ≡ true = eq-eqb x y same in
    let sum : index + suc n ≡ suc index + n = omega arith in
    ap (λ i. byte_difference i (drop n a) (drop n b)) sum
    ∙ (byte_difference_drop n (suc index) a b (omega arith) (omega arith) rest ∙ rw test refl)

pub byte_difference_from : (n : ℕ) (a b : List ℕ) → n ≤ length a → n ≤ length b → take n a ≡ take n b →
    byte_difference n (drop n a) (drop n b) ≡ byte_difference 0 a b
byte_difference_from n a b h k e =
    ap (λ i. byte_difference i (drop n a) (drop n b)) (omega arith) ∙ byte_difference_drop n 0 a b h k e
