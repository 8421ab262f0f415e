-- How many bytes the code of a number's program has.
use Rattle.std.proofs.Common.{◌≡◌, ◌+◌, ◌*◌, ◌++◌, ℕ, zero, suc, List, [], ◌∷◌, arith, length, length-append, refl}
use Rattle.std.specs.Int.{to_le_bytes, w32}
use Rattle.rv32im_decode.specs.declared.instructions.Instr.{Instr}
use Rattle.rv32im_decode.specs.Encoding.{encoded}
use Rattle.trial_guests.specs.Programs.{closing, code_of, masking, maskings, opening, program_of, width_of}
use Rattle.trial_guests.specs.Secrets.{length_of}

-- each word has four bytes
length_of_code : (instrs : List Instr) → length (code_of instrs) ≡ 4 * length instrs
length_of_code [] = refl
length_of_code (instr ∷ instrs) =
    let word : length (to_le_bytes w32 (encoded instr)) ≡ 4 = refl in
    let here = length-append (to_le_bytes w32 (encoded instr)) (code_of instrs) in
    omega (arith, here, word, length_of_code instrs)

length_of_maskings : (count number index : ℕ) → length (maskings count number index) ≡ 3 * count
length_of_maskings zero number index = refl
length_of_maskings (suc count) number index =
    let here = length-append (masking index (width_of number index)) (maskings count number (index + 1)) in
    omega (arith, here, length_of_maskings count number (index + 1))

pub length_of_program : (number : ℕ) → length (code_of (program_of number)) ≡ 4 * (12 + 3 * length_of number)
length_of_program number =
    let middle = maskings (length_of number) number 0 in
    let whole = length-append opening (middle ++ closing) in
    let behind = length-append middle closing in
    omega (arith, length_of_code (program_of number), whole, behind, length_of_maskings (length_of number) number 0)
