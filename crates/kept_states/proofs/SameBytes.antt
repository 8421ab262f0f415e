-- Bytes that are tested as the same are the same.
use Rattle.std.proofs.Common.{◌≡◌, ℕ, Bool, true, List, sym, ◌∙◌}
use Rattle.std.specs.Str.{bytes_eq}
use Rattle.std.proofs.lemmas.Slice.Eq.{bytes_eq-Decides}

pub bytes_same : (xs ys : List ℕ) (same : Bool) → same ≡ bytes_eq xs ys → same ≡ true → xs ≡ ys
bytes_same xs ys same is tested = (bytes_eq-Decides xs ys).0 (sym is ∙ tested)
