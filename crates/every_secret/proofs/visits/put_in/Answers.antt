use Rattle.std.proofs.Common.{◌≡◌, ◌∙◌, refl, sym, ap, arith}
use Rattle.std.specs.Prelude.{drop, take}
use Rattle.flow_base.specs.Words.{patched}
use Rattle.crossing_bits.proofs.Places.{count_zero, patched_zero}
use Rattle.every_secret.specs.declared.shown.Shown.{Shown}
use Rattle.every_secret.specs.declared.shown.Shown.TheVariants.{Nothing, WrittenByte, ExitStatus}
use Rattle.every_secret.specs.Shown.{asked_for}
use Rattle.every_secret.proofs.Strings.{takes_none}
use Rattle.every_secret.proofs.visits.put_in.Goals as goal

-- where no bit may differ none is asked for
none_asked : (shown : Shown) → asked_for shown 0 ≡ 0
none_asked Nothing = count_zero 32
none_asked WrittenByte = refl
none_asked ExitStatus = refl

pub returns-then-differing-eq0-clause-takes : goal.returns-then-differing-eq0-clause-takes
returns-then-differing-eq0-clause-takes c =
    takes_none (asked_for c.args.shown c.args.differing) c.args.bits.now
    (ap (λ mask. asked_for c.args.shown mask) c.if-differing-eq0.true ∙ none_asked c.args.shown)
    (omega (arith, c.left.ensures.within))

pub returns-then-differing-eq0-clause-value : goal.returns-then-differing-eq0-clause-value
returns-then-differing-eq0-clause-value c =
    let bits = c.args.bits.now in
    sym (ap (λ mask. patched c.args.value mask (take (asked_for c.args.shown c.args.differing) (drop bits.taken bits.bits)))
    c.if-differing-eq0.true
    ∙ patched_zero 32 c.args.value (take (asked_for c.args.shown c.args.differing) (drop bits.taken bits.bits))
    (omega (arith, c.ranges.value.fits)))

pub returns-in-WrittenByte-clause-takes : goal.returns-in-WrittenByte-clause-takes
returns-in-WrittenByte-clause-takes c =
    takes_none (asked_for c.args.shown c.args.differing) c.args.bits.now
    (ap (λ shown. asked_for shown c.args.differing) c.in-WrittenByte.is) (omega (arith, c.left.ensures.within))

pub returns-in-ExitStatus-clause-takes : goal.returns-in-ExitStatus-clause-takes
returns-in-ExitStatus-clause-takes c =
    takes_none (asked_for c.args.shown c.args.differing) c.args.bits.now
    (ap (λ shown. asked_for shown c.args.differing) c.in-ExitStatus.is) (omega (arith, c.left.ensures.within))
