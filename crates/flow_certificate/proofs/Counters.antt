-- Counters, edge by edge.
use Rattle.std.proofs.Common.{◌≡◌, ℕ, zero, suc, ◌+◌, ◌*◌, ◌^◌, ◌≤◌, ◌<◌, cond, eqb, Bool, true, false, List, [], ◌∷◌}
use Rattle.std.proofs.Common.{length, map, get_or, slice_index, refl, ap, ◌∙◌, subst, arith, add-one}
use Rattle.flow_graph.specs.declared.ends.Arc.{Arc}
use Rattle.max_flow.specs.Building.{head_of, tail_of}
use Rattle.max_flow.proofs.Sums.{sum_none, sum_suc}
use Rattle.flow_certificate.specs.Private.Sums.{AreAdded, AreSmall, HaveRoom, brought, given, heads_of, tails_of}

pub brought_none : (keys flows : List ℕ) (node : ℕ) → brought keys flows 0 node ≡ 0
unfolding brought
brought_none keys flows node = sum_none (λ i. cond (eqb (slice_index keys i) node) (slice_index flows i) 0)

pub brought_more : (keys flows : List ℕ) (n node : ℕ) →
    brought keys flows (n + 1) node ≡ brought keys flows n node + given (slice_index keys n) (slice_index flows n) node
unfolding brought
brought_more keys flows n node = sum_suc n (λ i. cond (eqb (slice_index keys i) node) (slice_index flows i) 0)

given_small : (test : Bool) (amount : ℕ) → amount < 2 ^ 48 → cond test amount 0 < 2 ^ 48
given_small true amount small = small
given_small false amount small = omega arith

pub brought_small : (keys flows : List ℕ) (n node : ℕ) → AreSmall flows → brought keys flows n node ≤ n * 2 ^ 48
brought_small keys flows zero node small =
    let none : brought keys flows 0 node ≡ 0 = brought_none keys flows node in omega (arith, none)
brought_small keys flows (suc n) node small =
    let more : brought keys flows (n + 1) node ≡ brought keys flows n node + given (slice_index keys n)
    (slice_index flows n) node = brought_more keys flows n node in
    let earlier : brought keys flows n node ≤ n * 2 ^ 48 = brought_small keys flows n node small in
    let here : given (slice_index keys n) (slice_index flows n) node < 2 ^ 48 =
    given_small (eqb (slice_index keys n) node) (slice_index flows n) (small n) in
    let whole : brought keys flows (n + 1) node ≤ (n + 1) * 2 ^ 48 = omega (arith, more, earlier, here) in
    subst (λ (m : ℕ). brought keys flows m node ≤ m * 2 ^ 48) (add-one n) whole

pub added_none : (base : ℕ) (keys flows sums : List ℕ) → AreAdded base (brought keys flows 0) sums sums
added_none base keys flows sums = record {
  count = refl;
  each = λ k below. let none : brought keys flows 0 (base + k) ≡ 0 = brought_none keys flows (base + k) in
      omega (arith, none);
}

pub added_more : (base : ℕ) (keys flows : List ℕ) (n key amount : ℕ) (old mid new : List ℕ) →
    key ≡ slice_index keys n → amount ≡ slice_index flows n → AreAdded base (brought keys flows n) old mid →
    AreAdded base (given key amount) mid new → AreAdded base (brought keys flows (n + 1)) old new
added_more base keys flows n key amount old mid new key_is amount_is first second = record {
  count = second.count ∙ first.count;
  each = λ k below.
      let count : length mid ≡ length old = first.count in
      let one : slice_index mid k ≡ slice_index old k + brought keys flows n (base + k) = first.each k below in
      let two : slice_index new k ≡ slice_index mid k + given key amount (base + k) =
      second.each k (omega (arith, count, below)) in
      let same : given key amount (base + k) ≡ given (slice_index keys n) (slice_index flows n) (base + k) =
      ap (λ (v : ℕ). given v amount (base + k)) key_is ∙ ap (λ (v : ℕ). given (slice_index keys n) v (base + k))
      amount_is in
      let more : brought keys flows (n + 1) (base + k) ≡ brought keys flows n (base + k) + given (slice_index keys n)
      (slice_index flows n) (base + k) = brought_more keys flows n (base + k) in
      omega (arith, one, two, same, more);
}

pub added_room : (base : ℕ) (keys flows : List ℕ) (n : ℕ) (old sums : List ℕ) → n < 2 ^ 64 → AreSmall flows →
    HaveRoom old → AreAdded base (brought keys flows n) old sums →
    (k : ℕ) → k < length sums → slice_index sums k < 2 ^ 127
added_room base keys flows n old sums few small room added k below =
    let count : length sums ≡ length old = added.count in
    let inside : k < length old = omega (arith, count, below) in
    let first : slice_index old k < 2 ^ 120 = room k inside in
    let more : slice_index sums k ≡ slice_index old k + brought keys flows n (base + k) = added.each k inside in
    let most : brought keys flows n (base + k) ≤ n * 2 ^ 48 = brought_small keys flows n (base + k) small in
    omega (arith, first, more, most, few)

mapped_at : (f : Arc → ℕ) (links : List Arc) (i : ℕ) (other : Arc) → i < length links →
    get_or (map f links) i 0 ≡ f (get_or links i other)
mapped_at f [] i other below = absurd (omega arith)
mapped_at f (link ∷ links) zero other below = refl
mapped_at f (link ∷ links) (suc i) other below = mapped_at f links i other (omega arith)

pub tails_of_at : (count : ℕ) (links : List Arc) (i : ℕ) (other : Arc) → i < length links →
    slice_index (tails_of count links) i ≡ tail_of count ((get_or links i other).source)
tails_of_at count links i other below = mapped_at (λ link. tail_of count link.source) links i other below

pub heads_of_at : (count : ℕ) (links : List Arc) (i : ℕ) (other : Arc) → i < length links →
    slice_index (heads_of count links) i ≡ head_of count ((get_or links i other).target)
heads_of_at count links i other below = mapped_at (λ link. head_of count link.target) links i other below
