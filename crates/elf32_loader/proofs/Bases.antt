-- A program file has one base.
use Rattle.std.proofs.Common.{◌≡◌, ℕ, List, ap, sym, ◌∙◌, arith}
use Rattle.elf32_loader.specs.FaultTable.{IsFileBase}
use Rattle.elf32_loader.specs.Headers.{header_at}
use Rattle.elf32_loader.specs.Segments.{rounded_down}

pub same_base : (file : List ℕ) (one other : ℕ) → IsFileBase file one → IsFileBase file other → one ≡ other
same_base file one other is_one is_other =
    let same : (header_at file is_one.0).address ≡ (header_at file is_other.0).address =
    omega (arith, is_one.1.1 is_other.0 is_other.1.0, is_other.1.1 is_one.0 is_one.1.0) in
    is_one.2 ∙ ap rounded_down same ∙ sym is_other.2
