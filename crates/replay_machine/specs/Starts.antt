-- Where a replay begins.
use Rattle.std.specs.Prelude.{ℕ, List}
use Rattle.elf32_loader.specs.Pictures.{Picture}
use Rattle.rv32im_machine.specs.Start.{start, zeros}
use Rattle.region_machine.specs.Starts.{output_limit}
use Rattle.replay_machine.specs.Runs.{ReplayPlace, replay_fresh}

-- the replay knows the length of the secret alone: it starts on zeros
abbrev pub replay_guest : Picture → List ℕ → ℕ → ReplayPlace
replay_guest picture public_input secret_length =
    replay_fresh (start picture public_input (zeros secret_length) output_limit)
