-- What the words of a command line name.
use Rattle.std.specs.Prelude.{map, option_map}
use Rattle.command_line.specs.declared.commands.CommandWords.{CommandWords}
use Rattle.command_line.specs.declared.commands.CommandWords.TheVariants as words
use Rattle.command_line.specs.declared.guests.GuestWords.{GuestWords}
use Rattle.command_line.specs.declared.option_words.OptionWord.{OptionWord}
use Rattle.command_line.specs.declared.parts.Parts.{Parts as PartedWords}
use Rattle.command_line.specs.Parts.{Named, Parts}
use Rattle.command_line.specs.CommandLines.{GuestFiles, Command, Checks, Tells, Assembles, Lists}
use Rattle.command_line.specs.CommandLines.{Bounds, MeasuresAll, Verifies, Migrates, Tries}

abbrev pub named_in : OptionWord → Named
named_in word = record { name = word.name.now; value = option_map (λ value. value.now) word.value }

abbrev pub parts_in : PartedWords → Parts
parts_in parts = record {
  plain = map (λ word. word.now) parts.plain;
  options = map named_in parts.options;
  waiting = option_map (λ word. word.now) parts.waiting;
}

abbrev pub guest_of : GuestWords → GuestFiles
guest_of words = record {
  program = words.program.now;
  public_input = words.public_input.now;
  region_file = option_map (λ word. word.now) words.regions;
}

abbrev pub command_of : CommandWords → Command
command_of (words.Check check) =
    Checks (guest_of check.guest) check.cut.now (map (λ word. word.now) check.secrets) check.settings
command_of (words.Bound all) = Bounds (guest_of all.guest) all.cut.now all.settings
command_of (words.Tell telling run) = Tells telling (guest_of run.guest) run.secret.now run.settings
command_of (words.MeasureAll version runs) =
    MeasuresAll version (guest_of runs.guest) (map (λ word. word.now) runs.secrets) runs.settings
command_of (words.Assemble source) = Assembles source.now
command_of (words.List program) = Lists program.now
command_of (words.Verify certificate) = Verifies certificate.now
command_of (words.Migrate cut) = Migrates cut.now
command_of (words.Trial number) = Tries number
