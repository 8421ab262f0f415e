-- The instruction of a word is the one in range that has the word.
use Rattle.std.proofs.Common.{◌≡◌, ℕ, ◌<◌, ◌^◌, sym, subst}
use Rattle.std.specs.Prelude.{IfSome}
use Rattle.rv32im_decode.specs.Encoding.{IsDecoded}
use Rattle.rv32im_decode.specs.Decoding.{decoded}
use Rattle.rv32im_decode.proofs.Decodes.{IsOf, decoded_is}
use Rattle.rv32im_decode.proofs.Encodes.{encoded_decodes}

pub decoded_told : (word : ℕ) → word < 2 ^ 32 → IsDecoded word (decoded word)
decoded_told word below instr = (
  λ e. subst (λ found. IfSome found (IsOf word)) e (decoded_is word below),
  λ is. encoded_decodes instr word is.0 (sym is.1),
)
