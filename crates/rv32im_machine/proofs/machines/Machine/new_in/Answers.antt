use Rattle.std.proofs.Common.{rules, ◌≡◌, ℕ, List, IsTrue, ap, ◌∙◌}
use Rattle.elf32_loader.specs.declared.segments.Segment.{Segment}
use Rattle.elf32_loader.specs.Images.{image_picture}
use Rattle.elf32_loader.specs.Segments.{are_inside, is_ascending}
use Rattle.rv32im_machine.specs.Start.{first_memory, laid}
use Rattle.rv32im_machine.specs.State.{State}
use Rattle.rv32im_machine.proofs.Laying.{holds_image}
use Rattle.rv32im_machine.proofs.machines.Machine.new_in.Goals as goal

pub returns-clause-memory : goal.returns-clause-memory
unfolding first_memory
returns-clause-memory c =
    let memory : c.at_start.result.store.memory ≡ first_memory (image_picture c.args.image.now) =
    ap (λ (state : State). state.store.memory) c.at_start.ensures
    ∙ c.lay_segments.ensures
    ∙ ap (λ (segments : List Segment). laid c.args.image.now.base segments c.clear.new.self) c.as_slice.ensures
    ∙ ap (λ (bytes : List ℕ). laid c.args.image.now.base c.args.image.now.segments bytes) c.clear.ensures in
    let ascends : IsTrue (is_ascending c.args.image.now.segments) = search rules in
    let inside : IsTrue (are_inside c.args.image.now.base c.args.image.now.segments) = search rules in
    holds_image (image_picture c.args.image.now) c.at_start.result ascends inside memory
