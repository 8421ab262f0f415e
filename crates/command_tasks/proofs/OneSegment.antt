-- What is assembled has one segment.
use Rattle.std.proofs.Common.{◌≡◌, ℕ, List, [], ◌∷◌, length, Result, Ok, Err, refl, subst}
use Rattle.elf32_loader.specs.Pictures.{Picture}
use Rattle.rv32im_asm.specs.declared.fault.AsmFault.{AsmFault}
use Rattle.rv32im_asm.specs.Assembling.{one_segment, program_of}

pub one_segment_alone : (program : Result (List ℕ) AsmFault) (picture : Picture) → program_of program ≡ Ok picture →
    length picture.segments ≡ 1
one_segment_alone (Err fault) picture e = cc
one_segment_alone (Ok []) picture e = cc
one_segment_alone (Ok (byte ∷ bytes)) picture e =
    let same : one_segment (byte ∷ bytes) ≡ picture = cc in
    subst (λ (p : Picture). length p.segments ≡ 1) same refl
