use Rattle.std.proofs.Common.{◌≡◌, None, Some, arith}
use Rattle.std.proofs.lemmas.Grind.{common_steps}
use Rattle.std.proofs.lemmas.Map.Text.{btree_map_updates_str}
use Rattle.rv32im_asm.specs.Private.Labels.{places_in}
use Rattle.rv32im_asm.proofs.LabelSteps.{noted_after}
use Rattle.rv32im_asm.proofs.labels.Labels.add.Goals as goal

pub returns-in-Ok : goal.returns-in-Ok
returns-in-Ok c = λ name.
    let none : places_in c.args.self.now c.args.label.now ≡ None = grind (arith, common_steps) in
    noted_after c.args.label.now name c.args.place (places_in c.args.self.now) _ none
    (btree_map_updates_str c.args.label.now c.args.self.now.places c.insert.new.self
    (Some c.args.place) c.in-Ok.ensures.updates name)
