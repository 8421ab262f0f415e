use Rattle.std.proofs.Common.{arith}
use Rattle.rv32im_decode.proofs.DecodedWords.{decoded_told}
use Rattle.rv32im_decode.proofs.decoding.decode.Goals as goal

pub returns-clause-told : goal.returns-clause-told
returns-clause-told c = rw c.decode_by_opcode.ensures (decoded_told c.args.word (omega arith))
