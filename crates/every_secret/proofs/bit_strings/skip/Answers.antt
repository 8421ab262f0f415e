use Rattle.std.proofs.Common.{◌≡◌, ◌+◌, ◌<◌, ◌-◌, ◌∙◌, ap, Bool, List, drop, length, length-drop, arith}
use Rattle.std.specs.Prelude.{IfNone, OnSome, Option, Some, None}
use Rattle.flow_base.specs.Words.{bit_count}
use Rattle.every_secret.proofs.Strings.{count_one}
use Rattle.every_secret.proofs.bit_strings.skip.Goals as goal

taken_one : {A : Type 0} (word : Option A) (P Q : Type 0) → IfNone word Q → OnSome word P → (Q → ⊥) → P
taken_one (Some x) P Q none some absent = some
taken_one None P Q none some absent = absurd (absent none)

pub loop-preserved : goal.loop-preserved
loop-preserved c =
    let stream = c.loop.bits in
    let long : length (drop stream.taken stream.bits) ≡ length stream.bits - stream.taken =
    length-drop stream.taken stream.bits in
    let same : length stream.bits ≡ length c.args.bits.now.bits =
    ap (λ (s : List Bool). length s) c.loop.invariant.bits in
    let taken : c.take_masked.new.self.taken ≡ stream.taken + bit_count 1 =
    taken_one c.take_masked.result (c.take_masked.new.self.taken ≡ stream.taken + bit_count 1)
    (length (drop stream.taken stream.bits) < bit_count 1) c.take_masked.ensures.short c.take_masked.ensures.taken
    (λ few. omega (arith, few, long, same, count_one, c.loop.invariant.taken, c.loop-test.true, c.requires)) in record {
      bits = c.take_masked.ensures.bits ∙ c.loop.invariant.bits;
      taken = omega (arith, taken, count_one, c.loop.invariant.taken);
    }
