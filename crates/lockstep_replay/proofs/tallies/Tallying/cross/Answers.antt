use Rattle.std.proofs.Common.{◌≡◌, ◌∙◌, [], ap, append-nil, arith, refl, sym}
use Rattle.flow_base.specs.Words.{bits_under}
use Rattle.crossing_bits.proofs.Places.{bits_of_zero}
use Rattle.replay_machine.specs.Runs.{mask_at}
use Rattle.lockstep_replay.proofs.tallies.Tallying.cross.Goals as goal

pub returns-then-mask-eq0-clause-tally : goal.returns-then-mask-eq0-clause-tally
returns-then-mask-eq0-clause-tally c = λ masks past ahead.
    let none : bits_under c.args.value (mask_at masks past c.args.point) ≡ [] =
    ap (λ mask. bits_under c.args.value mask)
    (sym (c.next-mask.ensures.mask masks past ahead) ∙ c.if-mask-eq0.true) ∙ bits_of_zero c.args.value in
    rw none (record {
      budget = refl;
      needed = omega (arith, c.args.self.now.word);
      kept = λ fits. sym (append-nil c.args.self.now.bits.bits);
      taken = refl;
    })

pub returns-clause-tally : goal.returns-clause-tally
returns-clause-tally c = λ masks past ahead.
    rw (sym (c.next-mask.ensures.mask masks past ahead)) (record {
      budget = refl;
      needed = c.keep-self.ensures.needed;
      kept = c.keep-self.ensures.pushed;
      taken = c.keep-self.ensures.taken;
    })
