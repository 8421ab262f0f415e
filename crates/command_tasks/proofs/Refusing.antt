-- The fault of a file that a refusal tells.
use Rattle.std.proofs.Common.{◌≡◌, ◌≢◌, ◌∙◌, Result, Err, IfErr, ap, sym, subst}
use Rattle.command_tasks.specs.declared.refusals.Refusal.{Refusal}
use Rattle.command_tasks.specs.declared.refusals.Refusal.TheVariants.{Memory}
use Rattle.command_tasks.specs.Refusals.{IsRefusedBy}

-- where memory is not short, neither was it where the file was read
pub told_fault : {A F : Type 0} (room : F) (made : F → Refusal) (fault : F) (refusal : Refusal) (result : Result A Refusal) →
    result ≡ Err refusal → ((fault ≡ room → refusal ≡ Memory) × (fault ≢ room → refusal ≡ made fault)) →
    result ≢ Err Memory → (fault ≢ room) × (result ≡ Err (made fault))
told_fault room made fault refusal result is law known =
    let apart : fault ≢ room = λ e. known (is ∙ ap (λ r. Err r) (law.0 e)) in
    (apart, is ∙ ap (λ r. Err r) (law.1 apart))

-- what is refused by a fault, which is the first
pub refused_first : {A F : Type 0} (First : F → Type 0) (room : F) (made : F → Refusal) (fault : F) (refusal : Refusal)
    (result : Result A Refusal) → result ≡ Err refusal →
    ((fault ≡ room → refusal ≡ Memory) × (fault ≢ room → refusal ≡ made fault)) → (fault ≢ room → First fault) →
    IfErr result (λ r. r ≢ Memory → IsRefusedBy First made r)
refused_first First room made fault refusal result is law first =
    subst (λ r. IfErr r (λ x. x ≢ Memory → IsRefusedBy First made x)) (sym is)
    (λ known. let apart : fault ≢ room = λ e. known (law.0 e) in (fault, first apart, law.1 apart))

-- what is handed on
pub handed_on : {A : Type 0} (P : Refusal → Type 0) (refusal : Refusal) (result : Result A Refusal) →
    result ≡ Err refusal → (refusal ≢ Memory → P refusal) → IfErr result (λ r. r ≢ Memory → P r)
handed_on P refusal result is h = subst (λ r. IfErr r (λ x. x ≢ Memory → P x)) (sym is) h

pub known_refusal : {A : Type 0} (refusal : Refusal) (result : Result A Refusal) → result ≡ Err refusal →
    result ≢ Err Memory → refusal ≢ Memory
known_refusal refusal result is known = λ e. known (is ∙ ap (λ r. Err r) e)

same_refusal : {A : Type 0} (a b : Refusal) (result : Result A Refusal) → result ≡ Err a → result ≡ Err b → a ≡ b
same_refusal a b result e f = cc

pub err_apart : {A : Type 0} (refusal : Refusal) (result : Result A Refusal) → result ≡ Err refusal →
    refusal ≢ Memory → result ≢ Err Memory
err_apart refusal result is apart = λ e. apart (same_refusal refusal Memory result is e)
