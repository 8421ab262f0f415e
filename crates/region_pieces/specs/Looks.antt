-- At which addresses loads and stores look at bytes of guest memory alone.
use Rattle.std.specs.Prelude.{ℕ, ◌<◌, IsTrue, List, length, slice_index}
use Rattle.flow_base.specs.Guests.{is_inside}
use Rattle.rv32im_decode.specs.declared.instructions.LoadKind.{LoadKind}
use Rattle.rv32im_decode.specs.declared.instructions.StoreKind.{StoreKind}
use Rattle.rv32im_decode.specs.Operations.{load_size, store_size}

-- so many bytes from each of the addresses on are bytes of guest memory
abbrev pub AreInside : ℕ → ℕ → List ℕ → Type 0
AreInside base count addresses =
    (index : ℕ) → index < length addresses → IsTrue (is_inside base (slice_index addresses index) count)

abbrev pub AreLoadable : ℕ → LoadKind → List ℕ → Type 0
AreLoadable base kind addresses = AreInside base (load_size kind) addresses

abbrev pub AreStorable : ℕ → StoreKind → List ℕ → Type 0
AreStorable base kind addresses = AreInside base (store_size kind) addresses
