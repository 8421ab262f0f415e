use Rattle.std.proofs.Common.{◌≡◌, ◌/◌, ◌^◌, ◌*◌, ◌%◌, length, arith, rules}
use Rattle.piece_cells.proofs.ByteSets.{insert_keeps, insert_has}
use Rattle.piece_cells.proofs.byte_sets.ByteSet.insert.Goals as goal

pub returns-clause-kept : goal.returns-clause-kept
returns-clause-kept c = λ k inside holds.
    let four : length c.args.self.now.words ≡ 4 = search rules in
    insert_keeps c.args.self.now.words (c.args.byte / 64) (1 * 2 ^ (c.args.byte % 64) % 2 ^ 64) k (omega arith) holds

pub returns-clause-new : goal.returns-clause-new
returns-clause-new c =
    let four : length c.args.self.now.words ≡ 4 = search rules in
    insert_has c.args.self.now.words c.args.byte (omega arith)
