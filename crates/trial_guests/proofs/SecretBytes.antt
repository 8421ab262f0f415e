-- The bytes of a secret, one after the other.
use Rattle.std.proofs.Common.{◌≡◌, ◌∙◌, ◌/◌, ◌++◌, ℕ, zero, suc, List, [], ◌∷◌, ap, append_assoc, length, refl, subst}
use Rattle.trial_guests.specs.Secrets.{bytes_behind, next}

-- a byte more, and one fewer that is left
pub secret_step : (bytes whole : List ℕ) (count fewer state : ℕ) → count ≡ suc fewer →
    bytes ++ bytes_behind count state ≡ whole →
    (bytes ++ next state / 16777216 ∷ []) ++ bytes_behind fewer (next state) ≡ whole
secret_step bytes whole count fewer state one so_far =
    append_assoc bytes (next state / 16777216 ∷ []) (bytes_behind fewer (next state))
    ∙ subst (λ n. bytes ++ bytes_behind n state ≡ whole) one so_far

-- at the end no byte is left
pub secret_end : (bytes whole : List ℕ) (count state : ℕ) → count ≡ 0 → bytes ++ bytes_behind count state ≡ whole →
    bytes ++ [] ≡ whole
secret_end bytes whole count state none so_far = subst (λ n. bytes ++ bytes_behind n state ≡ whole) none so_far

pub length_bytes_behind : (count state : ℕ) → length (bytes_behind count state) ≡ count
length_bytes_behind zero state = refl
length_bytes_behind (suc count) state = ap suc (length_bytes_behind count (next state))
