use Rattle.std.proofs.Common.{◌≡◌, Bor, List, ℕ, map, option_map, arith, rules, tests}
use Rattle.std.proofs.lemmas.Grind.{common_steps}
use Rattle.std.proofs.lemmas.Iterator.{YieldsList-from_slice}
use Rattle.std.proofs.lemmas.Iterator.Search.{find_from_yields_List}
use Rattle.std.specs.Map.{lookup}
use Rattle.std.specs.Str.{bytes_eq}
use Rattle.rv32im_asm.specs.declared.statements.Mnemonic.{Mnemonic}
use Rattle.rv32im_asm.proofs.Found.{first_lookup}
use Rattle.rv32im_asm.proofs.first_words.find.Goals as goal

pub returns : goal.returns
returns c =
    let first : option_map (λ row. row.now.1) c.find.result
    ≡ lookup (λ name. bytes_eq name c.args.word.now) (map (λ row. (row.0.now, row.1)) c.args.table.now) =
    first_lookup c.args.table.now c.args.word.now c.find.result
    (find_from_yields_List (λ (row : Bor (List ℕ) × Mnemonic). bytes_eq row.0.now c.args.word.now) _ _ _
    c.find.ensures.ran (YieldsList-from_slice c.args.table.now cc) (λ x b q k. search (rules, tests))) in
    grind (arith, common_steps, first)
