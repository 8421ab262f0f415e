-- The edges at each node, as chains: from the last edge at the node back to the first.
use Rattle.std.specs.Prelude.{◌≡◌, ℕ, ◌-◌, ◌≤◌, ◌<◌, ◌≢◌, List, length, slice_index}

-- c is 0 where no item below k has the key v, and otherwise one more than the last such item
pub record IsLast (keys : List ℕ) (k v c : ℕ) : Type 0 where
  pub within : c ≤ k
  pub above : (i : ℕ) → c ≤ i → i < k → slice_index keys i ≢ v
  pub here : 0 < c → slice_index keys (c - 1) ≡ v

-- for each node the last of the first k items with its key, and for each of these the one before it
pub record AreChains (keys : List ℕ) (k nodes : ℕ) (first next : List ℕ) : Type 0 where
  pub firsts : length first ≡ nodes
  pub nexts : length next ≡ length keys
  pub starts : (v : ℕ) → v < nodes → IsLast keys k v (slice_index first v)
  pub goes_on : (i : ℕ) → i < k → IsLast keys i (slice_index keys i) (slice_index next i)
