use Rattle.std.proofs.Common.{◌++◌, take, true, ap, ap₂, ◌∙◌, arith, length}
use Rattle.std.proofs.lemmas.List.{length-take-le}
use Rattle.every_secret.proofs.Strings.{count_one}
use Rattle.every_secret.proofs.Trees.{bit_under}
use Rattle.every_secret.proofs.bit_strings.turned.Goals as goal

pub push_masked-requires : goal.push_masked-requires
push_masked-requires c =
    let long = ap (λ s. length s) c.in_ok-next.ensures.bits in
    let same = ap (λ s. length s) c.as_slice.ensures in
    let front = length-take-le c.args.place c.as_slice.result.now (omega (arith, same, c.requires)) in
    omega (arith, count_one, long, front, c.count.ensures, c.requires)

pub returns-clause-bits : goal.returns-clause-bits
returns-clause-bits c =
    c.in_ok-push_masked.ensures.pushed
    ∙ ap₂ (λ s t. s ++ t) (c.in_ok-next.ensures.bits ∙ ap (λ s. take c.args.place s) c.as_slice.ensures) (bit_under true)
