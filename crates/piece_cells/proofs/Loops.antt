-- What holds up to one index more, after a write to it.
use Rattle.std.proofs.Common.{◌≢◌, ℕ, ◌+◌, ◌<◌, List, length, get_or, slice_set, sym, subst, arith, below_more, false}
use Rattle.std.specs.Prelude.{IsTrue}
use Rattle.std.proofs.Common.{get_or-set_other, get_or-set_same}
use Rattle.piece_cells.specs.Cells.{Holds}
use Rattle.piece_cells.specs.declared.byte_sets.ByteSet.{ByteSet}

-- a word is written
pub set_more : (P : ℕ → ℕ → Type 0) (words : List ℕ) (i v : ℕ) → i < length words →
    ((k : ℕ) → k < i → P k (get_or words k 0)) → P i v →
    (k : ℕ) → k < i + 1 → P k (get_or (slice_set words i v) k 0)
set_more P words i v inside before here = below_more _ _
    (λ k h.
    let ne : k ≢ i = omega arith in
    subst (P k) (sym (get_or-set_other words i k v 0 ne)) (before k h))
    (subst (P i) (sym (get_or-set_same words i v 0 inside)) here)

-- a set grows
pub holds_more : (P : ℕ → Type 0) (old new : ByteSet) (i : ℕ) → i < 256 →
    ((k : ℕ) → k < i → P k → Holds old k) → ((k : ℕ) → k < 256 → Holds old k → Holds new k) → (P i → Holds new i) →
    (k : ℕ) → k < i + 1 → P k → Holds new k
holds_more P old new i inside before kept here =
    below_more (λ k. P k → Holds new k) i (λ k h p. kept k (omega arith) (before k h p)) here

-- no test that failed has succeeded
pub never : IsTrue false → ⊥
never so = grind arith
