use Rattle.std.proofs.Common.{◌∙◌, [], ◌++◌, option_map, sym, arith}
use Rattle.command_tasks.specs.Guests.{region_wants}
use Rattle.command_tasks.specs.Loading.{want}
use Rattle.command_tasks.specs.declared.kinds.FileKind.TheVariants as kinds
use Rattle.command_tasks.proofs.Others.{is_some_mapped, within_behind_three}
use Rattle.command_tasks.proofs.layouts.files_of_all_secrets.Goals as goal

pub unreachable-requires-in_default-secrets : goal.unreachable-requires-in_default-secrets
unreachable-requires-in_default-secrets c =
    let all = c.args.all.now in
    let name = option_map (λ word. word.now) all.guest.regions in
    let count = c.others_of.ensures.count name []
    (is_some_mapped (λ word. word.now) all.guest.regions ∙ sym c.is_some.ensures)
    (within_behind_three (want all.guest.program.now kinds.Program) (want all.guest.public_input.now kinds.PublicInput)
    (want all.cut.now kinds.Cut) (region_wants name ++ []) c.args.files.now c.requires.within) in
    let some = c.in_default-secrets.len_at_least in
    omega (arith, count, some)
