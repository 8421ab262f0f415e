use Rattle.std.proofs.Common.{◌≡◌, Some, ◌+◌, ◌-◌, drop, take, sym, ◌∙◌, ap, option_map, arith, length}
use Rattle.std.proofs.lemmas.Grind.{common_steps}
use Rattle.std.proofs.lemmas.List.{take_all}
use Rattle.rv32im_asm.proofs.Cuts.{cut_at_place, place_in, parts_at}
use Rattle.rv32im_asm.proofs.cutting.cut_at.Goals as goal

pub returns-clause-parts : goal.returns-clause-parts
returns-clause-parts c =
    let found : place_in c.args.value c.args.text.now ≡ Some c.in_ok-place.place = grind (arith, common_steps) in
    let parts = cut_at_place c.args.value c.args.text.now ∙ ap (option_map (parts_at c.args.text.now)) found in
    let back : take (length c.args.text.now - (c.in_ok-place.place + 1)) (drop
    (c.in_ok-place.place + 1) c.args.text.now)
    ≡ drop (c.in_ok-place.place + 1) c.args.text.now =
    take_all (length c.args.text.now - (c.in_ok-place.place + 1)) (drop (c.in_ok-place.place + 1) c.args.text.now)
    (grind (arith, common_steps)) in
    rw back (sym parts)
