use Rattle.crossing_bits.proofs.Places.{agree_law}
use Rattle.crossing_bits.proofs.laws.patched_words_agree.Goals as goal

pub returns : goal.returns
returns c = agree_law
