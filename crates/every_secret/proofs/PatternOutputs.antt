-- For how many outputs patterns stand: a pattern for no more than there are strings of its free bits.
use Rattle.std.proofs.Common.{◌≡◌, ◌⊎◌, inl, inr, ⊎_elim, ℕ, zero, suc, ◌+◌, ◌/◌, ◌%◌, ◌^◌, ◌≤◌, ◌<◌, ◌++◌, List, [], ◌∷◌, Bool}
use Rattle.std.proofs.Common.{refl, sym, ap₂, ◌∙◌, length, drop, map, arith, length-append}
use Rattle.std.specs.Prelude.{◌==◌}
use Rattle.std.specs.Int.{bit_at}
use Rattle.std.specs.List.{AllByRecursion}
use Rattle.std.proofs.lemmas.Bool.{cases_lt}
use Rattle.std.proofs.lemmas.List.{length-map, take_all}
use Rattle.std.proofs.lemmas.Nat.Bits.{bit_at-lt, bit_at_above, bit_at_lowest, bit_at-suc, same_from_bits}
use Rattle.flow_base.specs.declared.outputs.Output.{Output}
use Rattle.flow_base.specs.Words.{Agree, bits_below, bits_under}
use Rattle.crossing_bits.specs.Askers.{Asker, AllDifferent, Asks, Fed', IsReached, Over}
use Rattle.crossing_bits.proofs.Feeding.{feed_enough}
use Rattle.crossing_bits.proofs.Outputs.{outputs_few}
use Rattle.crossing_bits.proofs.Places.{length_bits_under, parity}
use Rattle.every_secret.specs.declared.patterns.Pattern.{Pattern}
use Rattle.every_secret.specs.Bounds.{free_bits, free_count, output_count}
use Rattle.every_secret.specs.Listed.{AgreeEach, IsListed, NoneLeft, OneMore, StandsFor}

-- ---- a value by its bits under a mask

bits_odd : (places value mask : ℕ) → mask % 2 ≡ 1 →
    bits_below (suc places) value mask ≡ (value % 2 == 1) ∷ bits_below places (value / 2) (mask / 2)
unfolding bits_below
bits_odd places value mask odd = rw odd refl

bits_even : (places value mask : ℕ) → mask % 2 ≡ 0 →
    bits_below (suc places) value mask ≡ bits_below places (value / 2) (mask / 2)
unfolding bits_below
bits_even places value mask even = rw even refl

same_digit : (a b : ℕ) → a < 2 → b < 2 → (a == 1) ≡ (b == 1) → a ≡ b
same_digit zero zero p q same = refl
same_digit zero (suc zero) p q same = absurd (cc)
same_digit (suc zero) zero p q same = absurd (cc)
same_digit (suc zero) (suc zero) p q same = refl
same_digit (suc (suc a)) b p q same = absurd (omega (arith, p))
same_digit a (suc (suc b)) p q same = absurd (omega (arith, q))

head_same : (a b : Bool) (rest more : List Bool) → a ∷ rest ≡ b ∷ more → (a ≡ b) × (rest ≡ more)
head_same a b rest more same = (cc, cc)

-- values with the same bits under a mask have the same bit at each of its places
same_bit : (places mask first second i : ℕ) → bits_below places first mask ≡ bits_below places second mask →
    i < places → bit_at mask i ≡ 1 → bit_at first i ≡ bit_at second i
same_bit zero mask first second i same below one = absurd (omega (arith, below))
same_bit (suc places) mask first second zero same below one =
    let odd : mask % 2 ≡ 1 = sym (bit_at_lowest mask) ∙ one in
    let both = head_same (first % 2 == 1) (second % 2 == 1) (bits_below places (first / 2) (mask / 2))
    (bits_below places (second / 2) (mask / 2))
    (sym (bits_odd places first mask odd) ∙ same ∙ bits_odd places second mask odd) in
    bit_at_lowest first ∙ same_digit (first % 2) (second % 2) (omega arith) (omega arith) both.0
    ∙ sym (bit_at_lowest second)
same_bit (suc places) mask first second (suc i) same below one =
    bit_at-suc first i
    ∙ same_bit places (mask / 2) (first / 2) (second / 2) i rest (omega (arith, below)) (sym (bit_at-suc mask i) ∙ one)
    ∙ sym (bit_at-suc second i)
  where
    rest : bits_below places (first / 2) (mask / 2) ≡ bits_below places (second / 2) (mask / 2)
    rest = elim (parity mask) [
      | inl even ↦ sym (bits_even places first mask even) ∙ same ∙ bits_even places second mask even
      | inr odd ↦ (head_same (first % 2 == 1) (second % 2 == 1) (bits_below places (first / 2) (mask / 2))
          (bits_below places (second / 2) (mask / 2))
          (sym (bits_odd places first mask odd) ∙ same ∙ bits_odd places second mask odd)).1
    ]

value_same : (mask base first second : ℕ) → mask < 2 ^ 32 → Agree mask first base → Agree mask second base →
    bits_under first mask ≡ bits_under second mask → first ≡ second
value_same mask base first second word one other same =
    same_from_bits first second (λ i. pick i (bit_at mask i) (bit_at-lt mask i) refl)
  where
    pick : (i bit : ℕ) → bit < 2 → bit_at mask i ≡ bit → bit_at first i ≡ bit_at second i
    pick i zero small is = one i is ∙ sym (other i is)
    pick i (suc zero) small is =
        ⊎_elim (λ below. same_bit 32 mask first second i same below is)
        (λ above. let none : bit_at mask i ≡ 0 = bit_at_above mask 32 i word above in absurd (omega (arith, none, is)))
        (cases_lt i 32)
    pick i (suc (suc bit)) small is = absurd (omega (arith, small))

-- ---- an output by its free bits

abbrev pub bits_of : List ℕ → List ℕ → List Bool
bits_of [] values = []
bits_of (mask ∷ masks) [] = []
bits_of (mask ∷ masks) (value ∷ values) = bits_under value mask ++ bits_of masks values

length_bits_of : {masks reals copies : List ℕ} → AgreeEach masks reals copies →
    length (bits_of masks reals) ≡ free_count masks
length_bits_of NoneLeft = refl
length_bits_of (OneMore {mask = mask} {real = real} {masks = masks} {reals = reals} first rest) =
    let both = length-append (bits_under real mask) (bits_of masks reals) in
    omega (arith, both, length_bits_under real mask, length_bits_of rest)

parts : (a b c d : List Bool) → length a ≡ length b → a ++ c ≡ b ++ d → (a ≡ b) × (c ≡ d)
parts [] [] c d long same = (refl, same)
parts [] (y ∷ b) c d long same = absurd (omega (arith, long))
parts (x ∷ a) [] c d long same = absurd (omega (arith, long))
parts (x ∷ a) (y ∷ b) c d long same =
    let heads = head_same x y (a ++ c) (b ++ d) same in
    let both = parts a b c d (omega (arith, long)) heads.1 in
    (ap₂ (λ u v. u ∷ v) heads.0 both.0, both.1)

abbrev pub AreWords : List ℕ → Type 0
AreWords masks = AllByRecursion (λ mask. mask < 2 ^ 32) masks

values_same : {masks firsts copies : List ℕ} → AgreeEach masks firsts copies → (seconds : List ℕ) →
    AgreeEach masks seconds copies → AreWords masks → bits_of masks firsts ≡ bits_of masks seconds → firsts ≡ seconds
values_same NoneLeft seconds NoneLeft words same = refl
values_same (OneMore first rest) [] other words same = elim other [ ]
values_same (OneMore {mask = mask} {real = one} {copy = base} {masks = masks} {reals = ones} first rest)
    (two ∷ twos) (OneMore other more) words same =
    let long : length (bits_under one mask) ≡ length (bits_under two mask) =
    length_bits_under one mask ∙ sym (length_bits_under two mask) in
    let both = parts (bits_under one mask) (bits_under two mask) (bits_of masks ones) (bits_of masks twos) long same in
    ap₂ (λ u v. u ∷ v) (value_same mask base one two words.0 first other both.0)
    (values_same rest twos more words.1 both.1)

-- the masks of a pattern are words
pub record HasWords (pattern : Pattern) : Type 0 where
  pub bytes : AreWords pattern.byte_masks
  pub status : pattern.status_mask < 2 ^ 32

abbrev pub free_string : Pattern → Output → List Bool
free_string pattern output = bits_of pattern.byte_masks output.bytes ++ bits_under output.status pattern.status_mask

long_string : (pattern : Pattern) (output : Output) → StandsFor pattern output →
    length (free_string pattern output) ≡ free_bits pattern
long_string pattern output stands =
    let both = length-append (bits_of pattern.byte_masks output.bytes) (bits_under output.status pattern.status_mask) in
    omega (arith, both, length_bits_of stands.bytes, length_bits_under output.status pattern.status_mask)

output_same : (pattern : Pattern) (first second : Output) → HasWords pattern → StandsFor pattern first →
    StandsFor pattern second → free_string pattern first ≡ free_string pattern second → first ≡ second
output_same pattern first second words one two same =
    let both = parts (bits_of pattern.byte_masks first.bytes) (bits_of pattern.byte_masks second.bytes)
    (bits_under first.status pattern.status_mask) (bits_under second.status pattern.status_mask)
    (length_bits_of one.bytes ∙ sym (length_bits_of two.bytes)) same in
    ap₂ (λ bytes status. record { bytes = bytes; status = status })
    (values_same one.bytes second.bytes two.bytes words.bytes both.0)
    (value_same pattern.status_mask pattern.status first.status second.status words.status one.status two.status both.1)

-- ---- the outputs of one pattern

strings_apart : (pattern : Pattern) (output : Output) (outputs : List Output) → HasWords pattern →
    StandsFor pattern output → AllByRecursion (StandsFor pattern) outputs →
    AllByRecursion (λ other. output ≡ other → ⊥) outputs →
    AllByRecursion (λ string. free_string pattern output ≡ string → ⊥) (map (free_string pattern) outputs)
strings_apart pattern output [] words one all different = tt
strings_apart pattern output (other ∷ outputs) words one (two, all) (apart, different) = (
  λ same. apart (output_same pattern output other words one two same),
  strings_apart pattern output outputs words one all different,
)

strings_different : (pattern : Pattern) (outputs : List Output) → HasWords pattern →
    AllByRecursion (StandsFor pattern) outputs → AllDifferent outputs → AllDifferent (map (free_string pattern) outputs)
strings_different pattern [] words all different = tt
strings_different pattern (output ∷ outputs) words (one, all) (apart, different) =
    (strings_apart pattern output outputs words one all apart, strings_different pattern outputs words all different)

-- it asks for so many bits and comes to them
abbrev pub all_bits : ℕ → Asker (List Bool)
all_bits count = Asks count (λ bits. Over bits)

drop_all : (n : ℕ) (bits : List Bool) → length bits ≡ n → drop n bits ≡ []
drop_all zero [] long = refl
drop_all zero (bit ∷ bits) long = absurd (omega (arith, long))
drop_all (suc n) [] long = absurd (omega (arith, long))
drop_all (suc n) (bit ∷ bits) long = drop_all n bits (omega (arith, long))

reached : (count : ℕ) (bits : List Bool) → length bits ≡ count → IsReached (all_bits count) count bits
reached count bits long = (
  bits,
  (
    omega (arith, long),
    feed_enough count (λ more. Over more) bits (omega (arith, long))
        ∙ ap₂ (λ taken left. Fed' taken left) (take_all count bits (omega (arith, long))) (drop_all count bits long),
  ),
)

strings_reached : (pattern : Pattern) (outputs : List Output) → AllByRecursion (StandsFor pattern) outputs →
    AllByRecursion (IsReached (all_bits (free_bits pattern)) (free_bits pattern)) (map (free_string pattern) outputs)
strings_reached pattern [] all = tt
strings_reached pattern (output ∷ outputs) (one, all) = (
  reached (free_bits pattern) (free_string pattern output) (long_string pattern output one),
  strings_reached pattern outputs all,
)

few_of_one : (pattern : Pattern) (outputs : List Output) → HasWords pattern →
    AllByRecursion (StandsFor pattern) outputs → AllDifferent outputs → length outputs ≤ 2 ^ free_bits pattern
few_of_one pattern outputs words all different =
    let few = outputs_few (List Bool) (all_bits (free_bits pattern)) (free_bits pattern)
    (map (free_string pattern) outputs) (strings_different pattern outputs words all different)
    (strings_reached pattern outputs all) in
    let same = length-map outputs (free_string pattern) in
    omega (arith, few, same)

-- ---- of outputs with one of two facts those with the first, and the others

module _ (First Second : Output → Type 0) where
  abbrev pub Either : Output → Type 0
  Either output = First output ⊎ Second output

  abbrev pub firsts : (outputs : List Output) → AllByRecursion Either outputs → List Output
  firsts [] all = []
  firsts (output ∷ outputs) (inl one, all) = output ∷ firsts outputs all
  firsts (output ∷ outputs) (inr one, all) = firsts outputs all

  abbrev pub others : (outputs : List Output) → AllByRecursion Either outputs → List Output
  others [] all = []
  others (output ∷ outputs) (inl one, all) = others outputs all
  others (output ∷ outputs) (inr one, all) = output ∷ others outputs all

  all_counted : (outputs : List Output) (all : AllByRecursion Either outputs) →
      length outputs ≡ length (firsts outputs all) + length (others outputs all)
  all_counted [] all = refl
  all_counted (output ∷ outputs) (inl one, all) = let rest = all_counted outputs all in omega (arith, rest)
  all_counted (output ∷ outputs) (inr one, all) = let rest = all_counted outputs all in omega (arith, rest)

  are_first : (outputs : List Output) (all : AllByRecursion Either outputs) →
      AllByRecursion First (firsts outputs all)
  are_first [] all = tt
  are_first (output ∷ outputs) (inl one, all) = (one, are_first outputs all)
  are_first (output ∷ outputs) (inr one, all) = are_first outputs all

  are_second : (outputs : List Output) (all : AllByRecursion Either outputs) →
      AllByRecursion Second (others outputs all)
  are_second [] all = tt
  are_second (output ∷ outputs) (inl one, all) = are_second outputs all
  are_second (output ∷ outputs) (inr one, all) = (one, are_second outputs all)

  module _ (Fact : Output → Type 0) where
    firsts_keep : (outputs : List Output) (all : AllByRecursion Either outputs) → AllByRecursion Fact outputs →
        AllByRecursion Fact (firsts outputs all)
    firsts_keep [] all facts = tt
    firsts_keep (output ∷ outputs) (inl one, all) (fact, facts) = (fact, firsts_keep outputs all facts)
    firsts_keep (output ∷ outputs) (inr one, all) (fact, facts) = firsts_keep outputs all facts

    others_keep : (outputs : List Output) (all : AllByRecursion Either outputs) → AllByRecursion Fact outputs →
        AllByRecursion Fact (others outputs all)
    others_keep [] all facts = tt
    others_keep (output ∷ outputs) (inl one, all) (fact, facts) = others_keep outputs all facts
    others_keep (output ∷ outputs) (inr one, all) (fact, facts) = (fact, others_keep outputs all facts)

  firsts_different : (outputs : List Output) (all : AllByRecursion Either outputs) → AllDifferent outputs →
      AllDifferent (firsts outputs all)
  firsts_different [] all different = tt
  firsts_different (output ∷ outputs) (inl one, all) (apart, different) =
      (firsts_keep (λ other. output ≡ other → ⊥) outputs all apart, firsts_different outputs all different)
  firsts_different (output ∷ outputs) (inr one, all) (apart, different) = firsts_different outputs all different

  others_different : (outputs : List Output) (all : AllByRecursion Either outputs) → AllDifferent outputs →
      AllDifferent (others outputs all)
  others_different [] all different = tt
  others_different (output ∷ outputs) (inl one, all) (apart, different) = others_different outputs all different
  others_different (output ∷ outputs) (inr one, all) (apart, different) =
      (others_keep (λ other. output ≡ other → ⊥) outputs all apart, others_different outputs all different)

-- ---- the outputs of several patterns

pub few_outputs : (patterns : List Pattern) (outputs : List Output) → AllByRecursion HasWords patterns →
    AllDifferent outputs → AllByRecursion (IsListed patterns) outputs → length outputs ≤ output_count patterns
few_outputs [] [] words different all = omega arith
few_outputs [] (output ∷ outputs) words different all = absurd all.0
few_outputs (pattern ∷ patterns) outputs (word, words) different all =
    let one = few_of_one pattern (firsts (StandsFor pattern) (IsListed patterns) outputs all) word
    (are_first (StandsFor pattern) (IsListed patterns) outputs all)
    (firsts_different (StandsFor pattern) (IsListed patterns) outputs all different) in
    let more = few_outputs patterns (others (StandsFor pattern) (IsListed patterns) outputs all) words
    (others_different (StandsFor pattern) (IsListed patterns) outputs all different)
    (are_second (StandsFor pattern) (IsListed patterns) outputs all) in
    let both = all_counted (StandsFor pattern) (IsListed patterns) outputs all in
    omega (arith, one, more, both)
