use Rattle.std.proofs.Common.{◌<◌, ◌+◌, ◌++◌, List, Bool, take, false, get_or, length, length-append, sym, ap, ◌∙◌, arith, add-one}
use Rattle.std.proofs.Math.Seq.{take-suc}
use Rattle.std.proofs.lemmas.List.{length-take-le}
use Rattle.flow_base.specs.Words.{bits_under}
use Rattle.every_secret.proofs.FourBits.{append_more}
use Rattle.every_secret.proofs.Strings.{count_one}
use Rattle.every_secret.proofs.Trees.{bit_under}
use Rattle.every_secret.proofs.bit_strings.push_each.Goals as goal

pub push_masked-requires : goal.push_masked-requires
push_masked-requires c =
    let old = c.args.string.now.bits in
    let front = take c.loop-bit.bit-index c.args.bits.now in
    let long = ap (λ (s : List Bool). length s) c.loop-bit.invariant.bits in
    let both = length-append old front in
    let short = length-take-le c.loop-bit.bit-index c.args.bits.now (omega (arith, c.loop-bit-test.true)) in
    omega (arith, count_one, long, both, short, c.requires, c.loop-bit-test.true)

pub loop-bit-preserved : goal.loop-bit-preserved
loop-bit-preserved c =
    let bits = c.args.bits.now in
    let index = c.loop-bit.bit-index in
    let below : index < length bits = omega arith in record {
      bits = c.in_ok-push_masked.ensures.pushed
          ∙ (append_more c.args.string.now.bits (take index bits) (take (index + 1) bits) c.loop-bit.string.bits _
          c.loop-bit.invariant.bits ((ap (λ n. take n bits) (add-one index) ∙ take-suc bits index false below)
          ∙ ap (λ s. take index bits ++ s) (sym (ap (λ n. bits_under n 1) c.from.ensures ∙ bit_under (get_or bits index false)))));
      taken = c.in_ok-push_masked.ensures.taken ∙ c.loop-bit.invariant.taken;
    }
