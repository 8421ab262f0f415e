use Rattle.std.proofs.Common.{◌≢◌, ℕ, ◌+◌, ◌<◌, ◌≤◌, arith}
use Rattle.std.specs.Prelude.{max}
use Rattle.std.proofs.lemmas.Bool.Decides.{nat_tests}
use Rattle.elf32_loader.proofs.searching.share_memory.Goals as goal

-- two ranges that begin before each other's end share an address
shared : (a m b n : ℕ) → m ≢ 0 → n ≢ 0 → a < b + n → b < a + m → (x : ℕ) × (a ≤ x × x < a + m) × (b ≤ x × x < b + n)
shared a m b n some other before after = (max a b, (omega arith, omega arith), (omega arith, omega arith))

pub returns-then-from-second_end : goal.returns-then-from-second_end
returns-then-from-second_end c = (
  λ test.
      let first = c.args.first.now in
      let second = c.args.second.now in
      let after : second.address < first.address + first.memory_size = grind (arith, nat_tests) in
      shared first.address first.memory_size second.address second.memory_size c.requires.first c.requires.second
      (omega arith) after,
  λ there. grind (arith, nat_tests),
)
