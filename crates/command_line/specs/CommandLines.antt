-- The command lines that are understood: a row for each command. The words after the command are parted into options
-- and other words (see Parts).
use Rattle.std.specs.Prelude.{◌≡◌, ℕ, true, List, [], ◌∷◌, length, codes, Option, None, Some, option_map, option_and_then}
use Rattle.std.specs.Prelude.{◌&&◌, nat_le, if◌then◌else◌, Bool}
use Rattle.std.specs.Fmt.{decimal}
use Rattle.std.specs.Str.{bytes_eq}
use Rattle.std.specs.Str.Parse.{digits_value}
use Rattle.command_line.specs.declared.names.CommandName.{CommandName}
use Rattle.command_line.specs.declared.names.CommandName.TheVariants as names
use Rattle.command_line.specs.declared.judgings.Judging.{Judging}
use Rattle.command_line.specs.declared.judgings.Judging.TheVariants.{Replay, Masks}
use Rattle.command_line.specs.declared.settings.BoundSettings.{BoundSettings}
use Rattle.command_line.specs.declared.settings.CheckSettings.{CheckSettings}
use Rattle.command_line.specs.declared.settings.RunSettings.{RunSettings}
use Rattle.command_line.specs.declared.tellings.Telling.{Telling}
use Rattle.command_line.specs.declared.tellings.Telling.TheVariants.{CutText, Certificate, Report, Declaration}
use Rattle.command_line.specs.Parts.{Named, are_taken, has_option, parts_of, option_value}

-- ---- what commands name

-- a guest by its files: by their names, or as they are loaded
pub record GuestFiles : Type 0 where
  pub program : List ℕ
  pub public_input : List ℕ
  pub region_file : Option (List ℕ)

-- A command, by the names of its files: secrets of a guest that are to be judged by a cut, all secrets whose outputs are
-- to be bounded by one, what is to be told of a run on a secret, the one cut of runs on secrets in a version of its text,
-- the program file of a source, the listing of a program, the verdict on a certificate, a cut in version 2, or a trial of
-- the tool by a number.
pub data Command : Type 0 where
  Checks : GuestFiles → List ℕ → List (List ℕ) → CheckSettings → Command
  Bounds : GuestFiles → List ℕ → BoundSettings → Command
  Tells : Telling → GuestFiles → List ℕ → RunSettings → Command
  MeasuresAll : ℕ → GuestFiles → List (List ℕ) → RunSettings → Command
  Assembles : List ℕ → Command
  Lists : List ℕ → Command
  Verifies : List ℕ → Command
  Migrates : List ℕ → Command
  Tries : ℕ → Command

-- ---- numbers

abbrev pub highest_budget : ℕ
highest_budget = 1048576

-- the number whose text in decimal a word is, where it is within a range
abbrev pub number_within : ℕ → ℕ → List ℕ → Option ℕ
number_within lowest highest word =
    if bytes_eq word (decimal (digits_value 10 word))
    && (nat_le lowest (digits_value 10 word) && nat_le (digits_value 10 word) highest)
    then Some (digits_value 10 word)
    else None

-- that of the value of an option, and without the option another
abbrev pub number_or : ℕ → ℕ → ℕ → Option (List ℕ) → Option ℕ
number_or other lowest highest None = Some other
number_or other lowest highest (Some word) = number_within lowest highest word

abbrev pub turns_of : List Named → Option ℕ
turns_of options = number_or 1000000 1 20000000 (option_value (codes "--turns") options)

-- a version of a cut's text
abbrev pub version_of : List Named → Option ℕ
version_of options = number_or 1 1 2 (option_value (codes "--cut") options)

-- a table of mask rules
abbrev pub table_of : List Named → Option ℕ
table_of options = number_or 1 1 3 (option_value (codes "--rules") options)

abbrev pub paths_of : List Named → Option ℕ
paths_of options = number_or 65536 1 1048576 (option_value (codes "--paths") options)

-- a table of mask rules is 1, 2 or 3
abbrev pub has_table : Judging → Bool
has_table Replay = true
has_table (Masks table) = nat_le 1 table && nat_le table 3

-- ---- what is said beside files

abbrev pub where_so : {A : Type 0} → Bool → Option A → Option A
where_so test found = if test then found else None

-- with a word of bits
abbrev pub check_settings : Judging → List ℕ → List Named → Option CheckSettings
check_settings judging bits options =
    option_and_then (λ budget. option_map (λ turns. record { budget = budget; turns = turns; judging = judging })
    (turns_of options)) (number_within 0 highest_budget bits)

abbrev pub run_settings : List Named → Option RunSettings
run_settings options =
    option_and_then (λ turns. option_map (λ table. record { turns = turns; table = table }) (table_of options))
    (turns_of options)

-- with a word of bits
abbrev pub bound_settings : List ℕ → List Named → Option BoundSettings
bound_settings bits options =
    option_and_then (λ budget. option_and_then (λ (run : RunSettings). option_map (λ paths. record {
      budget = budget;
      turns = run.turns;
      table = run.table;
      paths = paths;
      any_public = has_option (codes "--any-public") options;
      listed = has_option (codes "--list") options;
    }) (paths_of options)) (run_settings options)) (number_within 0 highest_budget bits)

-- ---- what stands after each name of a command

-- with the region file that the options name
abbrev pub guest_in : List ℕ → List ℕ → List Named → GuestFiles
guest_in program public_input options = record {
  program = program;
  public_input = public_input;
  region_file = option_value (codes "--regions") options;
}

-- 1 to 64 secrets
abbrev pub are_few : List (List ℕ) → Bool
are_few secrets = nat_le 1 (length secrets) && nat_le (length secrets) 64

-- PROG PUBLIC CUT BUDGET SECRET..
abbrev pub check_in : Judging → List (List ℕ) → List Named → Option Command
check_in judging (program ∷ (public_input ∷ (cut ∷ (bits ∷ secrets)))) options =
    where_so (are_few secrets) (option_map (λ settings. Checks (guest_in program public_input options) cut secrets settings)
    (check_settings judging bits options))
check_in judging words options = None

-- PROG PUBLIC SECRET
abbrev pub run_in : Telling → List (List ℕ) → List Named → Option Command
run_in telling (program ∷ (public_input ∷ (secret ∷ []))) options =
    option_map (λ settings. Tells telling (guest_in program public_input options) secret settings) (run_settings options)
run_in telling words options = None

-- PROG PUBLIC CUT BUDGET
abbrev pub bound_in : List (List ℕ) → List Named → Option Command
bound_in (program ∷ (public_input ∷ (cut ∷ (bits ∷ [])))) options =
    option_map (λ settings. Bounds (guest_in program public_input options) cut settings) (bound_settings bits options)
bound_in words options = None

-- PROG PUBLIC SECRET..
abbrev pub many_runs_in : ℕ → List (List ℕ) → List Named → Option Command
many_runs_in version (program ∷ (public_input ∷ secrets)) options =
    where_so (are_few secrets) (option_map (λ settings. MeasuresAll version (guest_in program public_input options) secrets
    settings) (run_settings options))
many_runs_in version words options = None

-- PROG PUBLIC SECRET FILE, where FILE is the region file
abbrev pub learning_in : List (List ℕ) → List Named → Option Command
learning_in (program ∷ (public_input ∷ (secret ∷ (file ∷ [])))) options =
    option_map (λ settings. Tells Declaration
    (record { program = program; public_input = public_input; region_file = Some file }) secret settings)
    (run_settings options)
learning_in words options = None

-- the options of every command of a guest, and those that every measured run may have
abbrev pub guest_options : List (List ℕ)
guest_options = codes "--turns" ∷ codes "--regions" ∷ []

abbrev pub run_options : List (List ℕ)
run_options = codes "--rules" ∷ guest_options

-- The command that stands after a name, by its words that are no options, and its options. No option stands there but
-- those that are named here, with a value, and these flags.
abbrev pub row_of : CommandName → List (List ℕ) → List Named → Option Command
row_of names.Check plain options = where_so (are_taken guest_options [] options) (check_in Replay plain options)
row_of names.Taint plain options =
    where_so (are_taken run_options [] options)
    (option_and_then (λ table. check_in (Masks table) plain options) (table_of options))
row_of names.Bound plain options =
    where_so (are_taken (codes "--paths" ∷ run_options) (codes "--any-public" ∷ codes "--list" ∷ []) options)
    (bound_in plain options)
row_of names.Measure plain options =
    where_so (are_taken (codes "--cut" ∷ run_options) [] options)
    (option_and_then (λ version. run_in (CutText version) plain options) (version_of options))
row_of names.MeasureAll plain options =
    where_so (are_taken (codes "--cut" ∷ run_options) [] options)
    (option_and_then (λ version. many_runs_in version plain options) (version_of options))
row_of names.Graph plain options = where_so (are_taken run_options [] options) (run_in Certificate plain options)
row_of names.Report plain options =
    where_so (are_taken run_options (codes "--json" ∷ []) options)
    (run_in (Report (has_option (codes "--json") options)) plain options)
row_of names.Learn plain options = where_so (are_taken (codes "--turns" ∷ []) [] options) (learning_in plain options)
row_of names.Assemble (file ∷ []) [] = Some (Assembles file)
row_of names.List (file ∷ []) [] = Some (Lists file)
row_of names.Verify (file ∷ []) [] = Some (Verifies file)
row_of names.Migrate (file ∷ []) [] = Some (Migrates file)
row_of names.Trial (word ∷ []) [] = option_map (λ number. Tries number) (number_within 0 4294967295 word)
row_of name plain options = None

-- ---- a command line

-- the command that a word is the name of
abbrev pub named_by : List ℕ → Option CommandName
named_by word =
    if bytes_eq word (codes "check") then Some names.Check
    else if bytes_eq word (codes "taint") then Some names.Taint
    else if bytes_eq word (codes "bound") then Some names.Bound
    else if bytes_eq word (codes "measure") then Some names.Measure
    else if bytes_eq word (codes "measure-all") then Some names.MeasureAll
    else if bytes_eq word (codes "graph") then Some names.Graph
    else if bytes_eq word (codes "report") then Some names.Report
    else if bytes_eq word (codes "learn") then Some names.Learn
    else if bytes_eq word (codes "asm") then Some names.Assemble
    else if bytes_eq word (codes "list") then Some names.List
    else if bytes_eq word (codes "verify") then Some names.Verify
    else if bytes_eq word (codes "migrate") then Some names.Migrate
    else if bytes_eq word (codes "trial") then Some names.Trial
    else None

-- the command that words name
abbrev pub command_in : List (List ℕ) → Option Command
command_in [] = None
command_in (first ∷ others) =
    option_and_then (λ name. option_and_then (λ parts. row_of name parts.plain parts.options) (parts_of others))
    (named_by first)

-- the words are this command line
abbrev pub IsCommand : List (List ℕ) → Command → Type 0
IsCommand words command = command_in words ≡ Some command

-- the words are no command line
abbrev pub IsNoCommand : List (List ℕ) → Type 0
IsNoCommand words = command_in words ≡ None
