-- A network: nodes by number, 0 the source and 1 the sink, and edges between them by index. The first edges have limits,
-- and the others are open, which means without a bound.
use Rattle.std.specs.Prelude.{◌≡◌, ℕ, zero, suc, ◌+◌, ◌≤◌, ◌<◌, ◌≢◌, ◌==◌, ◌&&◌, cond, not, Bool, true, false}
use Rattle.std.specs.Prelude.{List, length, slice_index}

pub record Net : Type 0 where
  pub nodes : ℕ
  -- where each edge comes from, and where it leads to
  pub tails : List ℕ
  pub heads : List ℕ
  pub limits : List ℕ

-- f 0 + f 1 + .. + f (n - 1)
unfoldable pub sum_below : ℕ → (ℕ → ℕ) → ℕ
sum_below zero f = 0
sum_below (suc n) f = sum_below n f + f n

-- the sum of the numbers whose key is this node
unfoldable pub at_node : List ℕ → List ℕ → ℕ → ℕ
at_node keys numbers v = sum_below (length keys) (λ i. cond (slice_index keys i == v) (slice_index numbers i) 0)

pub record IsNet (net : Net) : Type 0 where
  pub same : length net.heads ≡ length net.tails
  pub limited : length net.limits ≤ length net.tails
  pub some : 2 ≤ net.nodes
  pub tails_inside : (i : ℕ) → i < length net.tails → slice_index net.tails i < net.nodes
  pub heads_inside : (i : ℕ) → i < length net.tails → slice_index net.heads i < net.nodes
  pub not_into_source : (i : ℕ) → i < length net.tails → slice_index net.heads i ≢ 0

-- a feasible flow: a number for each edge, within its limit, and at each node other than the source and the sink as
-- much flows in as flows out
pub record IsFlow (net : Net) (flow : List ℕ) : Type 0 where
  pub count : length flow ≡ length net.tails
  pub within : (i : ℕ) → i < length net.limits → slice_index flow i ≤ slice_index net.limits i
  pub balanced : (v : ℕ) → 2 ≤ v → v < net.nodes → at_node net.heads flow v ≡ at_node net.tails flow v

-- what flows out of the source
abbrev pub source_flow : Net → List ℕ → ℕ
source_flow net flow = at_node net.tails flow 0

-- a set of nodes with the source and without the sink that no open edge leaves
pub record IsSide (net : Net) (side : ℕ → Bool) : Type 0 where
  pub source : side 0 ≡ true
  pub sink : side 1 ≡ false
  pub closed : (i : ℕ) → length net.limits ≤ i → i < length net.tails → side (slice_index net.tails i) ≡ true →
      side (slice_index net.heads i) ≡ true

-- the edge leads out of the set
abbrev pub leaves : Net → (ℕ → Bool) → ℕ → Bool
leaves net side i = side (slice_index net.tails i) && not (side (slice_index net.heads i))

-- the sum of the limits of the edges that leave the set
unfoldable pub capacity_of : Net → (ℕ → Bool) → ℕ
capacity_of net side = sum_below (length net.limits) (λ i. cond (leaves net side i) (slice_index net.limits i) 0)
