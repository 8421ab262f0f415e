use Rattle.std.proofs.Common.{◌+◌, arith, take, drop, length-take}
use Rattle.many_runs.proofs.RecordedRuns.{parted}
use Rattle.many_runs.proofs.following_all.common_length.Goals as goal

pub returns-then-got-first-clause-err : goal.returns-then-got-first-clause-err
returns-then-got-first-clause-err c = record {
  earlier = take c.loop-index.index c.args.secrets.now;
  secret = c.index-secrets-index.result;
  later = drop (c.loop-index.index + 1) c.args.secrets.now;
  secrets_are = parted c.args.secrets.now c.loop-index.index c.index-secrets-index.result c.loop-index-test.true
      c.index-secrets-index.is;
  counted = omega (arith, length-take c.loop-index.index c.args.secrets.now);
  first_is = c.loop-index.invariant.first_is;
  alike = c.loop-index.invariant.alike;
  got_is = c.len-got.ensures;
  other = c.if-got-first.true;
}
