-- The bytes of an operation are as many as its size.
use Rattle.std.proofs.Common.{◌≡◌, ℕ, ℤ, Bool, true, false, List, length, replicate, Option, Some, None}
use Rattle.std.proofs.Common.{IfSome, option_map, if◌then◌else◌, refl, sym}
use Rattle.std.proofs.lemmas.List.{length-replicate}
use Rattle.rv32im_asm.specs.Encodings.{bytes_with}
use Rattle.rv32im_asm.specs.Sizes.{size_with}
use Rattle.rv32im_asm.specs.Private.Pieces.{bytes_in}
use Rattle.rv32im_asm.specs.declared.pieces.Piece.{Piece}
use Rattle.rv32im_asm.specs.declared.statements.Operation.{Operation}
use Rattle.rv32im_asm.specs.declared.statements.Operation.TheVariants as the

-- bytes of this number
whole : (all bytes : List ℕ) (n : ℕ) → n ≡ length all → Some all ≡ Some bytes → Some n ≡ Some (length bytes)
whole all bytes n count same = cc

-- the same where a number has to fit
fitting : (fits : Bool) (all bytes : List ℕ) (n : ℕ) → n ≡ length all → (if fits then Some all else None) ≡ Some bytes →
    Some n ≡ Some (length bytes)
fitting true all bytes n count same = whole all bytes n count same
fitting false all bytes n count same = absurd (cc)

zeros : (fits : Bool) (n : ℕ) (bytes : List ℕ) → (if fits then Some (replicate n 0) else None) ≡ Some bytes →
    (if fits then Some n else None) ≡ Some (length bytes)
zeros true n bytes same = whole (replicate n 0) bytes n (sym (length-replicate n 0)) same
zeros false n bytes same = absurd (cc)

sized : (operation : Operation) (number : ℤ) (bytes : List ℕ) → bytes_with operation number ≡ Some bytes →
    size_with operation number ≡ Some (length bytes)
sized the.Nothing number bytes same = whole _ bytes 0 refl same
sized (the.Op kind rd rs1 rs2) number bytes same = whole _ bytes 4 refl same
sized the.Ecall number bytes same = whole _ bytes 4 refl same
sized the.Ebreak number bytes same = whole _ bytes 4 refl same
sized (the.Immediate kind rd rs1) number bytes same = fitting _ _ bytes 4 refl same
sized (the.Load kind rd rs1) number bytes same = fitting _ _ bytes 4 refl same
sized (the.Store kind rs1 rs2) number bytes same = fitting _ _ bytes 4 refl same
sized (the.Jalr rd rs1) number bytes same = fitting _ _ bytes 4 refl same
sized (the.Lui rd) number bytes same = fitting _ _ bytes 4 refl same
sized (the.Auipc rd) number bytes same = fitting _ _ bytes 4 refl same
sized (the.Fence rd rs1) number bytes same = fitting _ _ bytes 4 refl same
sized (the.Branch kind rs1 rs2) number bytes same = fitting _ _ bytes 4 refl same
sized (the.Jal rd) number bytes same = fitting _ _ bytes 4 refl same
sized (the.Constant rd) number bytes same = whole _ bytes 8 refl same
sized the.Word number bytes same = whole _ bytes 4 refl same
sized the.Byte number bytes same = fitting _ _ bytes 1 refl same
sized the.Zero number bytes same = zeros _ _ bytes same

pub sized_piece : (operation : Operation) (number : ℤ) (found : Option Piece) →
    option_map bytes_in found ≡ bytes_with operation number →
    IfSome found (λ piece. size_with operation number ≡ Some (length (bytes_in piece)))
sized_piece operation number None same = tt
sized_piece operation number (Some piece) same = sized operation number (bytes_in piece) (sym same)
