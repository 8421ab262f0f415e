use Rattle.std.proofs.Common.{◌≡◌, ◌-◌, ◌++◌, length}
use Rattle.trial_guests.specs.Secrets.{bytes_behind, secret_of}
use Rattle.trial_guests.proofs.secrets.secret.Given as goal

abbrev pub invariant-loop : goal.invariant-loop
invariant-loop l = record {
  bytes : l.bytes.items ++ bytes_behind (l.count - l.counter) l.state ≡ secret_of l.number;
  counted : length l.bytes.items ≡ l.counter;
}
