-- A string that grows by zeros while its bits are taken.
use Rattle.std.proofs.Common.{◌≡◌, ◌≤◌, ◌<◌, ◌+◌, ℕ, zero, suc, List, [], ◌∷◌, ◌++◌, length, drop, take, replicate, false, Bool}
use Rattle.std.proofs.Common.{refl, sym, ap, ◌∙◌, arith, append_assoc, append-nil, ⊎_elim, ◌-◌, zero-add}
use Rattle.std.proofs.lemmas.Bool.{cases_lt}
use Rattle.std.proofs.lemmas.List.{length-append, length-drop, replicate-append-replicate, drop-append-le, take-append-le}
use Rattle.std.proofs.Math.Seq.{drop-nil}
use Rattle.flow_base.specs.Words.{bit_count, bits_below, bits_under, count_below}
use Rattle.crossing_bits.specs.Askers.{Asker, Asks, feed}
use Rattle.crossing_bits.proofs.Feeding.{feed_enough}
use Rattle.crossing_bits.specs.Strings.{Stream}
use Rattle.every_secret.specs.Private.Walking.{lengthens_none}
use Rattle.every_secret.specs.Private.Tapes.{Lengthens, Takes}

-- the beginning of what is left is not changed by what comes after it
take_drop_front : {A : Type 0} (n t : ℕ) (xs ys : List A) → t + n ≤ length xs →
    take n (drop t (xs ++ ys)) ≡ take n (drop t xs)
take_drop_front n t xs ys h =
    let long : length (drop t xs) ≡ length xs - t = length-drop t xs in
    ap (λ s. take n s) (drop-append-le t xs ys (omega (arith, h)))
    ∙ take-append-le n (drop t xs) ys (omega (arith, h, long))

drop_drop : {A : Type 0} (n t : ℕ) (xs : List A) → drop n (drop t xs) ≡ drop (t + n) xs
drop_drop n zero xs = ap (λ m. drop m xs) (sym (zero-add n))
drop_drop n (suc t) [] = drop-nil n ∙ sym (drop-nil (suc t + n))
drop_drop n (suc t) (x ∷ xs) =
    let e : suc t + n ≡ suc (t + n) = omega arith in
    drop_drop n t xs ∙ ap (λ m. drop m (x ∷ xs)) (sym e)

length_drop_enough : {A : Type 0} (n t : ℕ) (xs : List A) → t + n ≤ length xs → n ≤ length (drop t xs)
length_drop_enough n t xs h =
    let long : length (drop t xs) ≡ length xs - t = length-drop t xs in omega (arith, h, long)

-- two growths after one another
pub lengthens_more : (first second third : Stream) → Lengthens first second → Lengthens second third →
    Lengthens first third
lengthens_more first second third one two = record {
  count = one.count + two.count;
  bits = two.bits ∙ (ap (λ s. s ++ replicate two.count false) one.bits
      ∙ (append_assoc first.bits (replicate one.count false) (replicate two.count false)
      ∙ ap (λ s. first.bits ++ s) (replicate-append-replicate one.count two.count false)));
  taken = let a = one.taken in let b = two.taken in omega (arith, a, b);
  within = λ h. two.within (one.within h);
  whole = λ some. ⊎_elim (λ grown. two.whole grown) (λ still. same (omega (arith, still)) (omega (arith, some, still)))
      (cases_lt 0 two.count);
}
  where
    same : two.count ≡ 0 → 0 < one.count → third.taken ≡ length third.bits
    same none some =
        let e : third.bits ≡ second.bits =
        two.bits ∙ ap (λ n. second.bits ++ replicate n false) none ∙ append-nil second.bits in
        let full : second.taken ≡ length second.bits = one.whole some in
        let at_most : third.taken ≤ length third.bits = two.within (omega (arith, full)) in
        let at_least = two.taken in
        let as_long : length third.bits ≡ length second.bits = ap (λ s. length s) e in
        omega (arith, full, at_most, at_least, as_long)

-- an asker takes its bits of a string that grows later
pub feeds_taken : {A : Type 0} (count : ℕ) (go : List Bool → Asker A) (before mid after : Stream) →
    Takes count before mid → Lengthens mid after →
    feed (Asks count go) (drop before.taken after.bits)
    ≡ feed (go (take count (drop before.taken mid.bits))) (drop mid.taken after.bits)
feeds_taken count go before mid after takes longer =
    let grown : length after.bits ≡ length mid.bits + length (replicate longer.count false) =
    ap (λ s. length s) longer.bits ∙ length-append mid.bits (replicate longer.count false) in
    let fits = takes.enough in
    let enough : count ≤ length (drop before.taken after.bits) =
    length_drop_enough count before.taken after.bits (omega (arith, grown, fits)) in
    let front : take count (drop before.taken after.bits) ≡ take count (drop before.taken mid.bits) =
    ap (λ s. take count (drop before.taken s)) longer.bits
    ∙ take_drop_front count before.taken mid.bits (replicate longer.count false) fits in
    let rest : drop count (drop before.taken after.bits) ≡ drop mid.taken after.bits =
    drop_drop count before.taken after.bits ∙ ap (λ n. drop n after.bits) (sym takes.taken) in
    feed_enough count go (drop before.taken after.bits) enough
    ∙ (ap (λ s. feed (go s) (drop count (drop before.taken after.bits))) front
    ∙ ap (λ s. feed (go (take count (drop before.taken mid.bits))) s) rest)

-- nothing is taken
pub takes_none : (count : ℕ) (stream : Stream) → count ≡ 0 → stream.taken ≤ length stream.bits →
    Takes count stream stream
takes_none count stream none within =
    record { longer = lengthens_none stream; enough = omega (arith, none, within); taken = omega (arith, none) }

-- one bit of 0
pub count_one : bit_count 1 ≡ 1
unfolding count_below
count_one = refl

pub bits_one : bits_under 0 1 ≡ false ∷ []
unfolding bits_below
bits_one = refl
