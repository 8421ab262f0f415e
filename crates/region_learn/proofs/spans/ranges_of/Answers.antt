use Rattle.std.proofs.Common.{◌≡◌, ◌∙◌, ◌*◌, ℕ, ap, arith}
use Rattle.region_learn.specs.Private.Spans.{in_memory}
use Rattle.region_learn.proofs.ScannedSpans.{all_memory}
use Rattle.region_learn.proofs.spans.ranges_of.Goals as goal

pub returns-clause-bytes : goal.returns-clause-bytes
returns-clause-bytes c = λ other.
    let last : c.loop-index.index * 4096 ≡ 16777216 =
    omega (arith, c.loop-index-test.false, c.loop-index.auto.index-end, c.count-index-end.ensures.count) in
    c.loop-index.invariant.bytes other
    ∙ (ap (λ (n : ℕ). in_memory c.args.marks.now c.args.base n other) last
    ∙ all_memory c.args.marks.now c.args.base other c.count-index-end.ensures.pages)
