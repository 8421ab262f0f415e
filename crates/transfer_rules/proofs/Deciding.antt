-- The tables that decide what an answer is.
use Rattle.std.proofs.Common.{◌≡◌, ℕ, ◌≤◌, ◌<◌, inl, inr, sym, ◌∙◌, ⊎_elim, arith}
use Rattle.std.proofs.lemmas.Bool.{cases_lt}
use Rattle.transfer_rules.specs.Tables.{IsByTable, IsDeciding, Table}

-- by such a table two masks, or what is made of masks, are one
pub one_by_table :
    {X : Type 0} (table : ℕ) (wanted : Table → X) (first second : X) → IsDeciding table →
    IsByTable table wanted first → IsByTable table wanted second → first ≡ second
one_by_table table wanted first second deciding by also =
    ⊎_elim (λ (one : table ≡ 1). by.0 one ∙ sym (also.0 one))
    (⊎_elim (λ (two : table ≡ 2). by.1 two ∙ sym (also.1 two)) (λ (three : table ≡ 3). by.2 three ∙ sym (also.2 three)))
    deciding

-- they are the tables from 1 to 3
pub deciding_within : (table : ℕ) → 1 ≤ table → table ≤ 3 → IsDeciding table
deciding_within table first last = ⊎_elim
    (λ (few : table < 2). inl (omega (arith, first, few)))
    (λ (more : 2 ≤ table). inr (⊎_elim
    (λ (two : table < 3). inl (omega (arith, more, two)))
    (λ (three : 3 ≤ table). inr (omega (arith, last, three)))
    (cases_lt table 3)))
    (cases_lt table 2)
