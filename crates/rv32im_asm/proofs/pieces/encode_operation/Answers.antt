use Rattle.std.proofs.Common.{◌≡◌, option_map, rules}
use Rattle.rv32im_asm.specs.Encodings.{bytes_with}
use Rattle.rv32im_asm.specs.Private.Pieces.{bytes_in}
use Rattle.rv32im_asm.proofs.PieceSizes.{sized_piece}
use Rattle.rv32im_asm.proofs.pieces.encode_operation.Goals as goal

pub returns-clause-size : goal.returns-clause-size
returns-clause-size c =
    let exact : option_map bytes_in c.piece_of.result ≡ bytes_with c.args.operation c.args.number = search rules in
    sized_piece c.args.operation c.args.number c.piece_of.result exact
