use Rattle.std.proofs.Common.{◌≡◌, ◌<◌, ◌++◌, ◌∷◌, [], take, true}
use Rattle.std.specs.Prelude.{IfSome, option_map}
use Rattle.every_secret.specs.Paths.{next_string}
use Rattle.every_secret.proofs.bit_strings.last_zero.Given as goal

abbrev pub invariant-loop-place : goal.invariant-loop-place
invariant-loop-place l = record {
  next : option_map (λ place. take place l.bits ++ true ∷ []) l.last ≡ next_string (take l.place l.bits);
  within : IfSome l.last (λ place. place < l.place);
}
