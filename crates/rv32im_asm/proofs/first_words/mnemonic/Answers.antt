use Rattle.std.proofs.Common.{ap, ◌∙◌}
use Rattle.std.specs.Map.{lookup}
use Rattle.std.specs.Str.{bytes_eq}
use Rattle.rv32im_asm.proofs.Tables.{first_words_table}
use Rattle.rv32im_asm.proofs.first_words.mnemonic.Goals as goal

pub returns : goal.returns
returns c = c.find.ensures ∙ ap (λ rows. lookup (λ name. bytes_eq name c.args.word.now) rows) first_words_table
