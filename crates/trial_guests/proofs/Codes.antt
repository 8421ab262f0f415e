-- The code of instructions, one after the other.
use Rattle.std.proofs.Common.{◌≡◌, ◌∙◌, ◌+◌, ◌++◌, ℕ, suc, List, [], ◌∷◌, ap, append_assoc, refl, subst, sym}
use Rattle.std.specs.Int.{to_le_bytes, w32}
use Rattle.rv32im_decode.specs.declared.instructions.Instr.{Instr}
use Rattle.rv32im_decode.specs.Encoding.{encoded}
use Rattle.trial_guests.specs.Programs.{code_of, masking, maskings, width_of}

pub code_of_append : (first second : List Instr) → code_of (first ++ second) ≡ code_of first ++ code_of second
code_of_append [] second = refl
code_of_append (instr ∷ first) second =
    ap (λ (l : List ℕ). to_le_bytes w32 (encoded instr) ++ l) (code_of_append first second)
    ∙ sym (append_assoc (to_le_bytes w32 (encoded instr)) (code_of first) (code_of second))

-- an instruction more
pub instr_step : (code whole : List ℕ) (instr : Instr) (rest : List Instr) → code ++ code_of (instr ∷ rest) ≡ whole →
    (code ++ to_le_bytes w32 (encoded instr)) ++ code_of rest ≡ whole
instr_step code whole instr rest so_far =
    append_assoc code (to_le_bytes w32 (encoded instr)) (code_of rest) ∙ so_far

-- the instructions of a byte more, and one byte fewer that is left
pub masking_step : (code whole : List ℕ) (number index count fewer : ℕ) → count ≡ suc fewer →
    code ++ code_of (maskings count number index) ≡ whole →
    (code ++ code_of (masking index (width_of number index))) ++ code_of (maskings fewer number (index + 1)) ≡ whole
masking_step code whole number index count fewer one so_far =
    let here = masking index (width_of number index) in
    let more = maskings fewer number (index + 1) in
    append_assoc code (code_of here) (code_of more)
    ∙ (ap (λ (l : List ℕ). code ++ l) (sym (code_of_append here more))
    ∙ subst (λ n. code ++ code_of (maskings n number index) ≡ whole) one so_far)

-- at the end no instruction is left
pub masking_end : (code whole : List ℕ) (number index count : ℕ) → count ≡ 0 →
    code ++ code_of (maskings count number index) ≡ whole → code ++ [] ≡ whole
masking_end code whole number index count none so_far =
    subst (λ n. code ++ code_of (maskings n number index) ≡ whole) none so_far

pub three_parts : (first second third : List Instr) →
    code_of (first ++ (second ++ third)) ≡ code_of first ++ (code_of second ++ code_of third)
three_parts first second third =
    code_of_append first (second ++ third) ∙ ap (λ (l : List ℕ). code_of first ++ l) (code_of_append second third)
