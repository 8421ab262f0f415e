-- The table of the code is that of the definition.
use Rattle.std.proofs.Common.{◌≡◌, map, refl}
use Rattle.rv32im_asm.specs.FirstWords.{first_words}
use Rattle.rv32im_asm.specs.declared.first_words.TheConstants.{FIRST_WORDS}

pub first_words_table : map (λ row. (row.0.now, row.1)) FIRST_WORDS ≡ first_words
unfolding first_words
first_words_table = refl
