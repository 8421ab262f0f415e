use Rattle.std.proofs.Common.{◌≡◌, ◌∙◌, ◌+◌, ◌-◌, ◌/◌, [], ◌∷◌, ap, arith, length, length-append}
use Rattle.trial_guests.specs.Secrets.{next, secret_of}
use Rattle.trial_guests.proofs.SecretBytes.{secret_step}
use Rattle.trial_guests.proofs.secrets.secret.Goals as goal

pub loop-preserved : goal.loop-preserved
loop-preserved c =
    let count = c.length_of-count.result in
    let step = secret_step c.loop.bytes.items (secret_of c.args.number) (count - c.loop.counter)
    (count - (c.loop.counter + 1)) c.loop.state (omega (arith, c.loop-test.true)) c.loop.invariant.bytes in
    let state : c.next-state.result ≡ next c.loop.state = c.next-state.ensures in
    record {
      bytes = rw (c.in_ok-put.ensures, state) step;
      counted =
          ap length c.in_ok-put.ensures ∙ length-append c.loop.bytes.items (c.next-state.result / 16777216 ∷ [])
          ∙ ap (λ n. n + 1) c.loop.invariant.counted;
    }
