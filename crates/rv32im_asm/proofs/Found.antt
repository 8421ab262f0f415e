-- A search through a table.
use Rattle.std.proofs.Common.{◌≡◌, ℕ, Bor, Bool, true, false, List, [], ◌∷◌, Option, Some, None, map, cond, option_map}
use Rattle.std.proofs.Common.{refl, ap, ◌∙◌}
use Rattle.std.specs.List.{find}
use Rattle.std.specs.Map.{lookup}
use Rattle.std.specs.Str.{bytes_eq}
use Rattle.rv32im_asm.specs.declared.statements.Mnemonic.{Mnemonic}

found_step : (passes : Bool) (row : Bor (List ℕ) × Mnemonic) (found : Option (Bor (List ℕ) × Mnemonic))
    (rest : Option Mnemonic) → option_map (λ other. other.1) found ≡ rest
    → option_map (λ other. other.1) (cond passes (Some row) found) ≡ cond passes (Some row.1) rest
found_step true row found rest same = refl
found_step false row found rest same = same

-- what the first row of a word stands for is what is looked up
found_lookup : (rows : List (Bor (List ℕ) × Mnemonic)) (word : List ℕ)
    → option_map (λ row. row.1) (find (λ row. bytes_eq row.0.now word) rows)
    ≡ lookup (λ name. bytes_eq name word) (map (λ row. (row.0.now, row.1)) rows)
found_lookup [] word = refl
found_lookup (row ∷ rows) word =
    found_step (bytes_eq row.0.now word) row (find (λ other. bytes_eq other.0.now word) rows) _ (found_lookup rows word)

read_first : (first : Option (Bor (Bor (List ℕ) × Mnemonic)))
    → option_map (λ row. row.now.1) first ≡ option_map (λ row. row.1) (option_map (λ row. row.now) first)
read_first None = refl
read_first (Some row) = refl

pub first_lookup : (rows : List (Bor (List ℕ) × Mnemonic)) (word : List ℕ)
    (first : Option (Bor (Bor (List ℕ) × Mnemonic)))
    → option_map (λ row. row.now) first ≡ find (λ row. bytes_eq row.0.now word) rows
    → option_map (λ row. row.now.1) first
    ≡ lookup (λ name. bytes_eq name word) (map (λ row. (row.0.now, row.1)) rows)
first_lookup rows word first same =
    read_first first ∙ (ap (option_map (λ row. row.1)) same ∙ found_lookup rows word)
