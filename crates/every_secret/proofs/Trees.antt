-- The tree of paths, walked in order.
use Rattle.std.proofs.Common.{◌≡◌, ℕ, zero, suc, ◌+◌, ◌≤◌, ◌<◌, ◌++◌, List, [], ◌∷◌, Bool, true, false, Option, Some, None}
use Rattle.std.proofs.Common.{refl, sym, ap, ap₂, ◌∙◌, subst, drop, take, length, map, replicate, arith, inl, inr}
use Rattle.std.specs.Prelude.{◌-◌, IfSome, if◌then◌else◌, option_map}
use Rattle.std.proofs.Common.{add-one, get_or}
use Rattle.std.proofs.Math.Seq.{take-suc}
use Rattle.flow_base.specs.Words.{bits_below, bits_under, number_of_bit}
use Rattle.crossing_bits.specs.Askers.{Asker, Asks, Fed', Over, Short, feed}
use Rattle.crossing_bits.proofs.Feeding.{feed_enough, feed_few, le_or_lt}
use Rattle.every_secret.specs.declared.path_ends.PathEnd.{PathEnd}
use Rattle.every_secret.specs.Private.Orders.{Come, descend, first_from, later}
use Rattle.every_secret.specs.Paths.{Fork, Leaf, Opens, Tree, behind, forks, next_or, next_string, paths_of, tree_of}

pub opens_none : (tree : Tree) → Opens tree []
opens_none (Leaf e) = tt
opens_none (Fork first second) = tt

-- ---- one path after another

pub first_later : (tree : Tree) → paths_of tree ≡ first_from tree [] ∷ later tree (first_from tree []).bits
unfolding paths_of
first_later (Leaf e) = refl
first_later (Fork first second) =
    ap (λ ps. map (behind false) ps ++ map (behind true) (paths_of second)) (first_later first)

last_path : (tree : Tree) (bits : List Bool) (e : PathEnd) → descend tree bits ≡ Some (record { ends = e; rest = [] }) →
    next_string bits ≡ None → later tree bits ≡ []
last_path (Leaf x) bits e comes none = refl
last_path (Fork first second) [] e comes none = refl
last_path (Fork first second) (false ∷ bits) e comes none = by (next_string bits) none
  where
    by : (next : Option (List Bool)) → next_or false next ≡ None → later (Fork first second) (false ∷ bits) ≡ []
    by None h = absurd (cc)
    by (Some next) h = absurd (cc)
last_path (Fork first second) (true ∷ bits) e comes none =
    by (next_string bits) refl none (λ is. last_path second bits e comes is)
  where
    by : (next : Option (List Bool)) → next_string bits ≡ next → next_or true next ≡ None →
        (next_string bits ≡ None → later second bits ≡ []) → later (Fork first second) (true ∷ bits) ≡ []
    by None is h inner = ap (λ ps. map (behind true) ps) (inner is)
    by (Some next) is h inner = absurd (cc)

-- the paths after one begin with the first that begins with the next string
pub record Follows (tree : Tree) (bits next : List Bool) : Type 0 where
  pub opens : Opens tree next
  pub later_is : later tree bits ≡ first_from tree next ∷ later tree (first_from tree next).bits

pub no_later : (tree : Tree) (bits : List Bool) (e : PathEnd) →
    descend tree bits ≡ Some (record { ends = e; rest = [] }) → next_string bits ≡ None → later tree bits ≡ []
no_later tree bits e comes none = last_path tree bits e comes none

pub next_path : (tree : Tree) (bits next : List Bool) (e : PathEnd) →
    descend tree bits ≡ Some (record { ends = e; rest = [] }) → next_string bits ≡ Some next → Follows tree bits next
next_path (Leaf x) [] next e comes is = absurd (cc)
next_path (Leaf x) (bit ∷ bits) next e comes is =
    let one : Come = record { ends = x; rest = bit ∷ bits } in
    let two : Come = record { ends = e; rest = [] } in
    let left : one ≡ two = cc in
    let rest : bit ∷ bits ≡ [] = ap (λ (c : Come). c.rest) left in
    absurd (cc)
next_path (Fork first second) [] next e comes is = absurd (cc)
next_path (Fork first second) (false ∷ bits) next e comes is =
    by (next_string bits) refl is (λ more at. next_path first bits more e comes at)
  where
    by : (found : Option (List Bool)) → next_string bits ≡ found → next_or false found ≡ Some next →
        ((more : List Bool) → next_string bits ≡ Some more → Follows first bits more) →
        Follows (Fork first second) (false ∷ bits) next
    by (Some more) at h goes =
        let same : false ∷ more ≡ next = cc in
        let inner = goes more at in
        subst (λ n. Follows (Fork first second) (false ∷ bits) n) same (record {
          opens = inner.opens;
          later_is = ap (λ ps. map (behind false) ps ++ map (behind true) (paths_of second)) inner.later_is;
        })
    by None at h goes =
        let same : true ∷ [] ≡ next = cc in
        subst (λ n. Follows (Fork first second) (false ∷ bits) n) same (record {
          opens = opens_none second;
          later_is = ap (λ ps. map (behind false) ps ++ map (behind true) (paths_of second))
              (last_path first bits e comes at)
              ∙ ap (λ ps. map (behind true) ps) (first_later second);
        })
next_path (Fork first second) (true ∷ bits) next e comes is =
    by (next_string bits) refl is (λ more at. next_path second bits more e comes at)
  where
    by : (found : Option (List Bool)) → next_string bits ≡ found → next_or true found ≡ Some next →
        ((more : List Bool) → next_string bits ≡ Some more → Follows second bits more) →
        Follows (Fork first second) (true ∷ bits) next
    by (Some more) at h goes =
        let same : true ∷ more ≡ next = cc in
        let inner = goes more at in
        subst (λ n. Follows (Fork first second) (true ∷ bits) n) same (record {
          opens = inner.opens;
          later_is = ap (λ ps. map (behind true) ps) inner.later_is;
        })
    by None at h goes = absurd (cc)

-- ---- the next string, by its last bit

pub next_of_zero : (bits : List Bool) → next_string (bits ++ false ∷ []) ≡ Some (bits ++ true ∷ [])
next_of_zero [] = refl
next_of_zero (bit ∷ bits) = ap (λ next. next_or bit next) (next_of_zero bits)

pub next_of_one : (bits : List Bool) → next_string (bits ++ true ∷ []) ≡ next_string bits
next_of_one [] = refl
next_of_one (bit ∷ bits) = ap (λ next. next_or bit next) (next_of_one bits)

-- the last 0 so far, with one bit more
pub zero_step : (bits : List Bool) (place : ℕ) (last : Option ℕ) → place < length bits →
    option_map (λ p. take p bits ++ true ∷ []) last ≡ next_string (take place bits) → (bit : Bool) →
    get_or bits place false ≡ bit →
    option_map (λ p. take p bits ++ true ∷ []) (if bit then last else Some place) ≡ next_string (take (place + 1) bits)
zero_step bits place last below h bit is =
    by bit (ap (λ n. take n bits) (add-one place) ∙ (take-suc bits place false below ∙ ap (λ b. take place bits ++ b ∷ []) is))
  where
    by : (b : Bool) → take (place + 1) bits ≡ take place bits ++ b ∷ [] →
        option_map (λ p. take p bits ++ true ∷ []) (if b then last else Some place) ≡ next_string (take (place + 1) bits)
    by true e = h ∙ sym (ap (λ s. next_string s) e ∙ next_of_one (take place bits))
    by false e = sym (ap (λ s. next_string s) e ∙ next_of_zero (take place bits))

pub zero_within : (last : Option ℕ) (place : ℕ) (bit : Bool) → IfSome last (λ p. p < place) →
    IfSome (if bit then last else Some place) (λ p. p < place + 1)
zero_within None place true h = tt
zero_within (Some p) place true h = omega (arith, h)
zero_within last place false h = omega arith

-- a bit as the lowest of a number
pub bit_under : (bit : Bool) → bits_under (number_of_bit bit) 1 ≡ bit ∷ []
unfolding bits_below
bit_under true = refl
bit_under false = refl

-- ---- a walk of a string that goes on with zeros

-- it uses the string up, and is the first path that begins with it
pub record IsFirst (tree : Tree) (bits : List Bool) (count : ℕ) (come : Come) : Type 0 where
  pub used : come.rest ≡ []
  pub first : first_from tree bits ≡ record { bits = bits ++ replicate count false; ends = come.ends }

leaf_first : (x : PathEnd) (count : ℕ) (come : Come) →
    Some (record { ends = x; rest = replicate count false }) ≡ Some come → (0 < count → come.rest ≡ []) →
    IsFirst (Leaf x) [] count come
leaf_first x zero come comes whole =
    let same : (record { ends = x; rest = [] }) ≡ come = cc in
    subst (λ c. IsFirst (Leaf x) [] zero c) same (record { used = refl; first = refl })
leaf_first x (suc count) come comes whole =
    let same : (record { ends = x; rest = false ∷ replicate count false }) ≡ come = cc in
    let rest : false ∷ replicate count false ≡ [] = ap (λ (c : Come). c.rest) same ∙ whole (omega arith) in
    absurd (cc)

pub walked_first : (tree : Tree) (bits : List Bool) (count : ℕ) (come : Come) → Opens tree bits →
    descend tree (bits ++ replicate count false) ≡ Some come → (0 < count → come.rest ≡ []) →
    IsFirst tree bits count come
walked_first (Leaf x) [] count come opens comes whole = leaf_first x count come comes whole
walked_first (Leaf x) (bit ∷ bits) count come opens comes whole = absurd opens
walked_first (Fork first second) [] zero come opens comes whole = absurd (cc)
walked_first (Fork first second) [] (suc count) come opens comes whole =
    let inner = walked_first first [] count come (opens_none first) comes (λ some. whole (omega arith)) in
    record { used = inner.used; first = ap (λ p. behind false p) inner.first }
walked_first (Fork first second) (false ∷ bits) count come opens comes whole =
    let inner = walked_first first bits count come opens comes whole in
    record { used = inner.used; first = ap (λ p. behind false p) inner.first }
walked_first (Fork first second) (true ∷ bits) count come opens comes whole =
    let inner = walked_first second bits count come opens comes whole in
    record { used = inner.used; first = ap (λ p. behind true p) inner.first }

-- ---- the tree of an asker

pub forks_descend : (count : ℕ) (next : List Bool → Tree) (bits : List Bool) → count ≤ length bits →
    descend (forks count next) bits ≡ descend (next (take count bits)) (drop count bits)
forks_descend zero next bits enough = refl
forks_descend (suc count) next [] enough = absurd (omega (arith, enough))
forks_descend (suc count) next (false ∷ bits) enough =
    forks_descend count (λ more. next (false ∷ more)) bits (omega (arith, enough))
forks_descend (suc count) next (true ∷ bits) enough =
    forks_descend count (λ more. next (true ∷ more)) bits (omega (arith, enough))

pub fed_descends : (asker : Asker PathEnd) (bits : List Bool) (e : PathEnd) (rest : List Bool) →
    feed asker bits ≡ Fed' e rest → descend (tree_of asker) bits ≡ Some (record { ends = e; rest = rest })
unfolding tree_of
fed_descends (Over x) bits e rest h =
    let one : x ≡ e = cc in
    let two : bits ≡ rest = cc in
    ap₂ (λ a b. Some (record { ends = a; rest = b })) one two
fed_descends (Asks count go) bits e rest h = elim (le_or_lt count (length bits)) [
  | inl enough ↦
      forks_descend count (λ more. tree_of (go more)) bits enough
      ∙ fed_descends (go (take count bits)) (drop count bits) e rest (sym (feed_enough count go bits enough) ∙ h)
  | inr few ↦
      let short : feed (Asks count go) bits ≡ Short (count - length bits) = feed_few count go bits few in absurd (cc)
]
