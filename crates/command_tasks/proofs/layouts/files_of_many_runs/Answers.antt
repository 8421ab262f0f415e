use Rattle.std.proofs.Common.{◌∙◌, ◌++◌, map, option_map, sym}
use Rattle.command_tasks.specs.Guests.{region_wants, secret_wants}
use Rattle.command_tasks.specs.Loading.{want}
use Rattle.command_tasks.specs.declared.kinds.FileKind.TheVariants as kinds
use Rattle.command_tasks.proofs.Others.{is_some_mapped, within_behind}
use Rattle.command_tasks.proofs.layouts.files_of_many_runs.Goals as goal

pub others_of-requires : goal.others_of-requires
others_of-requires c =
    let guest = c.args.runs.now.guest in
    let name = option_map (λ word. word.now) guest.regions in
    let names = map (λ word. word.now) c.args.runs.now.secrets in
    record {
      within = (
        name,
        names,
        is_some_mapped (λ word. word.now) guest.regions ∙ sym c.is_some.ensures,
        within_behind (want guest.program.now kinds.Program) (want guest.public_input.now kinds.PublicInput) (region_wants name ++ secret_wants names) c.args.files.now c.requires.within,
      );
    }
