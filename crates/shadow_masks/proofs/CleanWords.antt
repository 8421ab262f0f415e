-- A look at a word whose bytes are clean.
use Rattle.std.proofs.Common.{◌≡◌, ℕ, ◌+◌, ◌==◌, ◌&&◌, Some, None, refl, ap, ◌∙◌, arith, if◌then◌else◌}
use Rattle.shadow_masks.specs.declared.labels.Label.{Label}
use Rattle.shadow_masks.specs.Labels.{clean}
use Rattle.shadow_masks.specs.Pages.{AreClean}

pub clean_word : {A : Type 0} (look : A) (bytes : ℕ → Label) (address : ℕ) → AreClean bytes address 4 →
    None ≡ (if ((bytes address).mask == 0) && (((bytes (address + 1)).mask == 0)
    && (((bytes (address + 2)).mask == 0) && ((bytes (address + 3)).mask == 0)))
    then None else Some look)
clean_word look bytes address are =
    let here : address ≡ address + 0 = omega arith in
    let first : bytes address ≡ clean = ap bytes here ∙ are 0 (omega arith) in
    let second : bytes (address + 1) ≡ clean = are 1 (omega arith) in
    let third : bytes (address + 2) ≡ clean = are 2 (omega arith) in
    let fourth : bytes (address + 3) ≡ clean = are 3 (omega arith) in
    rw (first, second, third, fourth) refl
