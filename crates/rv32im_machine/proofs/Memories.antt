-- Bytes inside guest memory, for whoever keeps something of them.
use Rattle.std.proofs.Common.{ℕ, subst, sym}
use Rattle.std.specs.Prelude.{IsTrue, Option, Some, None}
use Rattle.flow_base.specs.Guests.{is_inside}
use Rattle.rv32im_machine.specs.Playing.{Knows, InMemory}

-- what lies inside the memory of the guest lies inside the memory that is known
pub known_inside : (memory : Option ℕ) (base address count : ℕ) → Knows memory base →
    IsTrue (is_inside base address count) → InMemory memory address count
known_inside None base address count known inside = tt
known_inside (Some b) base address count known inside = subst (λ b. IsTrue (is_inside b address count)) (sym known) inside
