-- How much more an edge can bring, and what sets no more flow leaves.
use Rattle.std.specs.Prelude.{◌≡◌, ℕ, ◌+◌, ◌-◌, ◌^◌, ◌≤◌, ◌<◌, ◌==◌, nat_lt, cond, Bool, true}
use Rattle.std.specs.Prelude.{List, length, slice_index}
use Rattle.max_flow.specs.Private.Networks.{Net, IsSide, capacity_of}

-- how much an edge can hold at most: an open one as much as a number can
unfoldable pub bound : List ℕ → ℕ → ℕ
bound limits i = cond (nat_lt i (length limits)) (slice_index limits i) (2 ^ 64 - 1)

-- numbers that fit in 32 bits
abbrev pub AreFew : List ℕ → Type 0
AreFew numbers = (i : ℕ) → i < length numbers → slice_index numbers i < 2 ^ 32

-- a flow that is also within what numbers hold on the open edges
pub record IsBounded (net : Net) (flow : List ℕ) : Type 0 where
  pub count : length flow ≡ length net.tails
  pub top : (i : ℕ) → i < length net.tails → slice_index flow i ≤ bound net.limits i

-- a set that no edge with room leaves, and that no edge with flow enters
pub record IsClosed (net : Net) (flow : List ℕ) (s : ℕ → Bool) : Type 0 where
  pub forward : (i : ℕ) → i < length net.tails → slice_index flow i < bound net.limits i → s (slice_index net.tails i)
      ≡ true → s (slice_index net.heads i) ≡ true
  pub backward : (i : ℕ) → i < length net.tails → 0 < slice_index flow i → s (slice_index net.heads i) ≡ true →
      s (slice_index net.tails i) ≡ true

-- some side is small enough for the numbers at hand
pub record HasSmallSide (net : Net) : Type 0 where
  pub first : ℕ → Bool
  pub is_side : IsSide net first
  pub small : capacity_of net first < 2 ^ 64 - 1

-- every side of at most this capacity has the whole of the set
pub record IsLeast (net : Net) (value : ℕ) (s : ℕ → Bool) : Type 0 where
  pub contained : (other : ℕ → Bool) → IsSide net other → capacity_of net other ≤ value → (v : ℕ) → v < net.nodes →
      s v ≡ true → other v ≡ true

-- how much more an edge can bring to its end v: room that is left, or flow that is taken back
abbrev pub room_into : Net → List ℕ → ℕ → ℕ → ℕ
room_into net flow e v = cond (slice_index net.heads e == v) (bound net.limits e - slice_index flow e)
    (slice_index flow e)

abbrev pub other_end : Net → ℕ → ℕ → ℕ
other_end net e v = cond (slice_index net.heads e == v) (slice_index net.tails e) (slice_index net.heads e)

-- the flow of an edge that brings d more to its end v
abbrev pub pushed : Net → List ℕ → ℕ → ℕ → ℕ → ℕ
pushed net flow e v d = cond (slice_index net.heads e == v) (slice_index flow e + d) (slice_index flow e - d)
