-- The files of a guest, by their bytes.
use Rattle.std.specs.Prelude.{option_map}
use Rattle.command_tasks.specs.declared.guests.GuestFiles.{GuestFiles as LoadedGuest}
use Rattle.command_line.specs.CommandLines.{GuestFiles}

abbrev pub files_in : LoadedGuest → GuestFiles
files_in files = record {
  program = files.program.now;
  public_input = files.public_input.now;
  region_file = option_map (λ bytes. bytes.now) files.regions;
}
