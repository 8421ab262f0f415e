-- What comes of an asker that was fed, taken apart.
use Rattle.std.proofs.Common.{◌≡◌, ℕ, ◌-◌, inl, inr, List, length, take, drop, refl, sym, ◌∙◌, Bool}
use Rattle.crossing_bits.specs.Askers.{Asker, Asks, Fed, Fed', Short, feed, then_ask}
use Rattle.crossing_bits.proofs.Feeding.{le_or_lt, feed_enough, feed_few, feed_then, feed_then_short}

-- an asker that is over after a string was given its first bits
pub feed_back :
    {A : Type 0} (n : ℕ) (go : List Bool → Asker A) (bits : List Bool) (x : A) (rest : List Bool) →
    feed (Asks n go) bits ≡ Fed' x rest → feed (go (take n bits)) (drop n bits) ≡ Fed' x rest
feed_back n go bits x rest h = elim (le_or_lt n (length bits)) [
  | inl enough ↦ sym (feed_enough n go bits enough) ∙ h
  | inr few ↦ let short : feed (Asks n go) bits ≡ Short (n - length bits) = feed_few n go bits few in absurd (cc)
]

-- where both are over, the first was, and what follows took what it left
pub record Between {A B : Type 0} (asker : Asker A) (next : A → Asker B) (bits : List Bool) (y : B)
    (rest : List Bool) : Type 0 where
  pub value : A
  pub left : List Bool
  pub first : feed asker bits ≡ Fed' value left
  pub second : feed (next value) left ≡ Fed' y rest

between_fed :
    {A B : Type 0} (asker : Asker A) (next : A → Asker B) (bits : List Bool) (y : B) (rest : List Bool) (fed : Fed A) →
    feed asker bits ≡ fed → feed (then_ask asker next) bits ≡ Fed' y rest → Between asker next bits y rest
between_fed asker next bits y rest (Fed' x left) e h =
    record { value = x; left = left; first = e; second = sym (feed_then asker next bits x left e) ∙ h }
between_fed asker next bits y rest (Short m) e h =
    let short : feed (then_ask asker next) bits ≡ Short m = feed_then_short asker next bits m e in absurd (cc)

pub between :
    {A B : Type 0} (asker : Asker A) (next : A → Asker B) (bits : List Bool) (y : B) (rest : List Bool) →
    feed (then_ask asker next) bits ≡ Fed' y rest → Between asker next bits y rest
between asker next bits y rest h = between_fed asker next bits y rest (feed asker bits) refl h
