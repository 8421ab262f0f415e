-- Where a key stands among entries, and what becomes of them where a value is written.
use Rattle.std.specs.Prelude.{◌≡◌, ℕ, Bool, true, cond, List, Some, slice_get}
use Rattle.std.specs.Map.{lookup}
use Rattle.indexmap.specs.IndexMap.{set_value_at}

-- the key has this value now, and each other key what it had
abbrev pub Puts : {K V : Type 0} → (K → K → Bool) → List (K × V) → List (K × V) → K → V → Type 0
Puts {K = K} is_same old new key value =
    (q : K) → lookup (is_same q) new ≡ cond (is_same key q) (Some value) (lookup (is_same q) old)

-- the key stands at this index; a value that is written there becomes the key's, and no other's
pub record StandsAt {K V : Type 0} (is_same : K → K → Bool) (entries : List (K × V)) (key : K) (index : ℕ) : Type 0 where
  pub stored : K
  pub value : V
  pub same : is_same key stored ≡ true
  pub at : slice_get entries index ≡ Some (stored, value)
  pub found : lookup (is_same key) entries ≡ Some value
  pub written : (after : V) → Puts is_same entries (set_value_at entries index after) key after
