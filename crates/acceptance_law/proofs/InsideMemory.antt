-- Bytes that are inside guest memory begin at its base or above.
use Rattle.std.proofs.Common.{◌≡◌, ℕ, ◌+◌, ◌<◌, ◌≤◌, ◌^◌, true, arith, inl, inr}
use Rattle.std.specs.Prelude.{◌==◌, ◌&&◌, nat_le}
use Rattle.std.proofs.lemmas.Bool.{and_parts, eqb-true, leb-true, or_cases}
use Rattle.flow_base.specs.Guests.{is_inside, memory_size}

pub inside_begins : (base address count : ℕ) → 0 < count → is_inside base address count ≡ true → base ≤ address
inside_begins base address count some inside =
    elim (or_cases (count == 0) (nat_le base address && (nat_le (address + count) (base + memory_size)
    && nat_le (address + count) (2 ^ 32))) inside) [
      | inl none ↦ absurd (let e : count ≡ 0 = eqb-true count 0 none in omega (arith, e, some))
      | inr there ↦ leb-true base address (and_parts (nat_le base address) _ there).0
    ]
