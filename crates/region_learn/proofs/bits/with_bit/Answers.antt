use Rattle.std.proofs.Common.{◌≡◌, ◌∙◌, ◌*◌, ◌%◌, ◌^◌, ℕ, ap, bit_or}
use Rattle.std.proofs.lemmas.Nat.{one_shl}
use Rattle.region_learn.specs.Private.Marks.{has_bit}
use Rattle.region_learn.proofs.MarkedCells as cells
use Rattle.region_learn.proofs.bits.with_bit.Goals as goal

pub returns : goal.returns
returns c = λ other.
    let shifted : (1 * 2 ^ c.args.index) % 2 ^ 32 ≡ 2 ^ c.args.index = one_shl c.args.index 32 c.requires in
    ap (λ (bit : ℕ). has_bit (bit_or c.args.word bit) other) shifted ∙ cells.with_bit c.args.word c.args.index other
