use Rattle.std.proofs.Common.{◌≡◌, length, arith, ◌∙◌}
use Rattle.replay_machine.proofs.MasksAhead.{index_high, found_mask, found_moves, found_point, found_width, from_zero}
use Rattle.replay_machine.proofs.cut_tables.pass_at.Goals as goal

pub index_mut-requires : goal.index_mut-requires
index_mut-requires c =
    let high = index_high 0 c.args.points.now.items c.args.point c.args.index c.requires.found in
    omega (arith, high, c.requires.length, c.args.points.now.ok)

pub index-requires : goal.index-requires
index-requires c =
    let high = index_high 0 c.args.points.now.items c.args.point c.args.index c.requires.found in
    omega (arith, high, c.args.points.now.ok)

pub pass-requires : goal.pass-requires
pass-requires c =
    found_point c.args.points.now.items c.args.index c.args.point c.index.result.now c.requires.found
    c.requires.points c.index.ensures

pub returns-clause-mask : goal.returns-clause-mask
returns-clause-mask c =
    let long : length c.args.cursors.now.items ≡ length c.args.points.now.items =
    omega (arith, c.requires.length, c.args.points.now.ok, c.args.cursors.now.ok) in
    c.pass.ensures.mask
    ∙ found_mask 0 c.args.index c.args.points.now.items c.args.cursors.now.items c.args.point c.index.result.now
    c.index_mut.result.now 1
    (from_zero c.args.points.now.items c.args.point c.args.index c.requires.found) long c.index.ensures
    c.index_mut.ensures.value

pub returns-clause-width : goal.returns-clause-width
returns-clause-width c =
    found_width c.args.index c.args.points.now.items c.args.point c.index.result.now c.pass.result c.requires.found
    c.index.ensures
    (found_point c.args.points.now.items c.args.index c.args.point c.index.result.now c.requires.found
    c.requires.points c.index.ensures)
    c.requires.slot c.pass.ensures.width

pub returns-clause-moves : goal.returns-clause-moves
returns-clause-moves c =
    let long : length c.args.cursors.now.items ≡ length c.args.points.now.items =
    omega (arith, c.requires.length, c.args.points.now.ok, c.args.cursors.now.ok) in
    found_moves 0 c.args.index c.args.points.now.items c.args.cursors.now.items c.args.point c.index.result.now
    c.index_mut.result.now c.pass.new.self
    (from_zero c.args.points.now.items c.args.point c.args.index c.requires.found) long c.index.ensures
    c.index_mut.ensures.value c.pass.ensures.later
