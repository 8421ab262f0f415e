-- The names of commands that are looked at last.
use Rattle.std.specs.Prelude.{ℕ, List, codes, Option, None, Some, if◌then◌else◌}
use Rattle.std.specs.Str.{bytes_eq}
use Rattle.command_line.specs.declared.names.CommandName.{CommandName}
use Rattle.command_line.specs.declared.names.CommandName.TheVariants as names

-- the command that a word is the name of, of the last six
abbrev pub late_named_by : List ℕ → Option CommandName
late_named_by word =
    if bytes_eq word (codes "learn") then Some names.Learn
    else if bytes_eq word (codes "asm") then Some names.Assemble
    else if bytes_eq word (codes "list") then Some names.List
    else if bytes_eq word (codes "verify") then Some names.Verify
    else if bytes_eq word (codes "migrate") then Some names.Migrate
    else if bytes_eq word (codes "trial") then Some names.Trial
    else None
