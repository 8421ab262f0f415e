-- What holds below a number, and of the number itself.
use Rattle.std.proofs.Common.{◌≡◌, ◌∙◌, ◌+◌, ◌==◌, ◌&&◌, ◌||◌, ℕ, Bool, true, false, List, [], ◌∷◌, length, nat_lt}
use Rattle.std.proofs.Common.{refl, sym, ap, arith}
use Rattle.std.proofs.Math.Bool.{or_assoc}
use Rattle.std.proofs.lemmas.Bool.{eqb-true}
use Rattle.std.proofs.lemmas.Grind.{common_steps}

pub nil_of : {X : Type 0} (xs : List X) → length xs ≡ 0 → xs ≡ []
nil_of [] e = refl
nil_of (x ∷ xs) e = absurd (omega (arith, e))

below : (k n : ℕ) → (nat_lt k (n + 1)) ≡ (nat_lt k n || (k == n))
below k n = grind (arith, common_steps)

spread : (a b x y : Bool) → (b ≡ true → x ≡ y) → ((a || b) && x) ≡ ((a && x) || (b && y))
spread true true true y h = refl
spread true true false y h = h refl
spread true false x y h = elim x as (λ v. (true && v) ≡ ((true && v) || false)) [ true ↦ refl | false ↦ refl ]
spread false true x y h = h refl
spread false false x y h = refl

-- one number more below the bound
pub below_more : (test : ℕ → Bool) (before now old : Bool) (k n : ℕ) → old ≡ (before || (nat_lt k n && test k)) →
    now ≡ (old || ((k == n) && test n)) → now ≡ (before || (nat_lt k (n + 1) && test k))
below_more test before now old k n e h =
    h
    ∙ (ap (λ (b : Bool). b || ((k == n) && test n)) e
    ∙ (or_assoc before (nat_lt k n && test k) ((k == n) && test n)
    ∙ ap (λ (b : Bool). before || b) (sym (ap (λ (b : Bool). b && test k) (below k n)
    ∙ spread (nat_lt k n) (k == n) (test k) (test n) (λ same. ap test (eqb-true k n same))))))
