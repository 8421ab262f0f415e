use Rattle.std.proofs.Common.{◌≡◌, ◌+◌, ◌-◌, ◌++◌, ◌∷◌, [], replicate, false, sym, ap, ap₂, ◌∙◌, arith, append_assoc, length}
use Rattle.std.proofs.lemmas.List.{length-append, length-replicate, replicate_more}
use Rattle.every_secret.proofs.Strings.{bits_one, count_one}
use Rattle.every_secret.proofs.visits.lengthen.Goals as goal

pub push_masked-requires : goal.push_masked-requires
push_masked-requires c = omega (arith, count_one, c.count.ensures, c.if-count-eq4294967295.false)

pub loop-preserved : goal.loop-preserved
loop-preserved c =
    let n = c.loop.counter - c.left-left.result in
    let later : c.loop.counter + 1 - c.left-left.result ≡ n + 1 = omega arith in record {
      within = omega arith;
      taken = c.in_ok-push_masked.ensures.taken ∙ c.loop.invariant.taken;
      grown = c.in_ok-push_masked.ensures.pushed
          ∙ (ap₂ (λ s t. s ++ t) c.loop.invariant.grown bits_one
          ∙ (append_assoc c.args.bits.now.bits (replicate n false) (false ∷ [])
          ∙ ap (λ s. c.args.bits.now.bits ++ s) (replicate_more n false ∙ sym (ap (λ k. replicate k false) later))));
    }

pub returns-clause-grown : goal.returns-clause-grown
returns-clause-grown c =
    let n = c.loop.counter - c.left-left.result in
    let long : length c.loop.bits.bits ≡ length c.args.bits.now.bits + n =
    ap (λ s. length s) c.loop.invariant.grown
    ∙ (length-append c.args.bits.now.bits (replicate n false)
    ∙ ap (λ k. length c.args.bits.now.bits + k) (length-replicate n false)) in
    (n, (c.loop.invariant.grown, λ some. omega (arith, long, c.left-left.ensures.within, c.loop.invariant.taken, c.loop.invariant.within)))
