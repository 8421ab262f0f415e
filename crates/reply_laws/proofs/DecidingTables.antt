-- The table of mask rules of a command line is one of three, and so is that of its task: it decides.
use Rattle.std.proofs.Common.{◌≡◌, ◌&&◌, ℕ, List, [], ◌∷◌, Bool, true, false, codes, Option, Some, None, IfSome, option_map, refl, inl, sym, subst, if◌then◌else◌}
use Rattle.std.specs.Prelude.{nat_le, option_and_then}
use Rattle.std.proofs.lemmas.Bool.{and_parts, leb-true}
use Rattle.std.specs.Fmt.{decimal}
use Rattle.std.specs.Str.{bytes_eq}
use Rattle.std.specs.Str.Parse.{digits_value}
use Rattle.command_line.specs.declared.names.CommandName.{CommandName}
use Rattle.command_line.specs.declared.names.CommandName.TheVariants as names
use Rattle.command_line.specs.declared.judgings.Judging.{Judging}
use Rattle.command_line.specs.declared.judgings.Judging.TheVariants.{Replay, Masks}
use Rattle.command_line.specs.declared.settings.CheckSettings.{CheckSettings}
use Rattle.command_line.specs.declared.settings.RunSettings.{RunSettings}
use Rattle.command_line.specs.declared.tellings.Telling.{Telling}
use Rattle.command_line.specs.declared.tellings.Telling.TheVariants.{CutText, Certificate, Report}
use Rattle.command_line.specs.CommandLines.{Command, Checks, Bounds, Tells, MeasuresAll, Assembles, Lists, Verifies, Migrates, Tries}
use Rattle.command_line.specs.CommandLines.{IsCommand, are_few, bound_in, bound_settings, check_in, check_settings, command_in}
use Rattle.command_line.specs.CommandLines.{learning_in, many_runs_in, named_by, number_or, number_within, row_of, run_in, run_settings}
use Rattle.command_line.specs.CommandLines.{table_of, turns_of, version_of}
use Rattle.command_line.specs.Parts.{Named, has_option, option_value, parts_of}
use Rattle.command_tasks.specs.Tasks.{Task, JudgeSecrets, TellRun, MeasureAll, IsTaskOf}
use Rattle.transfer_rules.specs.Tables.{IsDeciding}
use Rattle.transfer_rules.proofs.Deciding.{deciding_within}

-- ---- what may be found

then_holds : {A B : Type 0} (Q : B → Type 0) (f : A → Option B) (x : Option A) → ((a : A) → IfSome (f a) Q) →
    IfSome (option_and_then f x) Q
then_holds Q f None step = tt
then_holds Q f (Some a) step = step a

found_holds : {A B : Type 0} (P : A → Type 0) (Q : B → Type 0) (f : A → Option B) (x : Option A) → IfSome x P →
    ((a : A) → P a → IfSome (f a) Q) → IfSome (option_and_then f x) Q
found_holds P Q f None h step = tt
found_holds P Q f (Some a) h step = step a h

mapped_holds : {A B : Type 0} (P : A → Type 0) (Q : B → Type 0) (f : A → B) (x : Option A) → IfSome x P →
    ((a : A) → P a → Q (f a)) → IfSome (option_map f x) Q
mapped_holds P Q f None h step = tt
mapped_holds P Q f (Some a) h step = step a h

so_holds : {A : Type 0} (Q : A → Type 0) (test : Bool) (x : Option A) → IfSome x Q → IfSome (if test then x else None) Q
so_holds Q true x h = h
so_holds Q false x h = tt

any : {A : Type 0} (x : Option A) → IfSome x (λ a. Unit {0})
any None = tt
any (Some a) = tt

-- ---- tables

within : (test : Bool) (word : List ℕ) → (bytes_eq word (decimal (digits_value 10 word))
    && (nat_le 1 (digits_value 10 word) && nat_le (digits_value 10 word) 3)) ≡ test →
    IfSome (if test then Some (digits_value 10 word) else None) IsDeciding
within true word e =
    let both = and_parts (bytes_eq word (decimal (digits_value 10 word)))
    (nat_le 1 (digits_value 10 word) && nat_le (digits_value 10 word) 3) e in
    let range = and_parts (nat_le 1 (digits_value 10 word)) (nat_le (digits_value 10 word) 3) both.1 in
    deciding_within (digits_value 10 word) (leb-true 1 (digits_value 10 word) range.0)
    (leb-true (digits_value 10 word) 3 range.1)
within false word e = tt

number_decides : (value : Option (List ℕ)) → IfSome (number_or 1 1 3 value) IsDeciding
number_decides None = inl refl
number_decides (Some word) =
    within (bytes_eq word (decimal (digits_value 10 word))
    && (nat_le 1 (digits_value 10 word) && nat_le (digits_value 10 word) 3)) word refl

table_decides : (options : List Named) → IfSome (table_of options) IsDeciding
table_decides options = number_decides (option_value (codes "--rules") options)

abbrev made_settings : ℕ → ℕ → RunSettings
made_settings turns table = record { turns = turns; table = table }

settings_decide : (options : List Named) → IfSome (run_settings options) (λ settings. IsDeciding settings.table)
settings_decide options =
    then_holds (λ settings. IsDeciding settings.table)
    (λ turns. option_map (λ table. made_settings turns table) (table_of options)) (turns_of options)
    (λ turns. mapped_holds IsDeciding (λ settings. IsDeciding settings.table) (λ table. made_settings turns table)
    (table_of options) (table_decides options) (λ table h. h))

-- a table of mask rules by which secrets are judged decides
abbrev pub DecidesBy : Judging → Type 0
DecidesBy Replay = Unit {0}
DecidesBy (Masks table) = IsDeciding table

-- the table of a command that asks mask rules decides
abbrev DecidesCommand : Command → Type 0
DecidesCommand (Checks guest cut secrets settings) = DecidesBy settings.judging
DecidesCommand (Tells telling guest secret settings) = IsDeciding settings.table
DecidesCommand (MeasuresAll version guest secrets settings) = IsDeciding settings.table
DecidesCommand command = Unit {0}

abbrev judging_settings : Judging → ℕ → ℕ → CheckSettings
judging_settings judging budget turns = record { budget = budget; turns = turns; judging = judging }

judged_settings : (judging : Judging) (bits : List ℕ) (options : List Named) → DecidesBy judging →
    IfSome (check_settings judging bits options) (λ settings. DecidesBy settings.judging)
judged_settings judging bits options known =
    then_holds (λ settings. DecidesBy settings.judging)
    (λ budget. option_map (λ turns. judging_settings judging budget turns) (turns_of options)) (number_within 0 1048576 bits)
    (λ budget. mapped_holds (λ turns. Unit {0}) (λ settings. DecidesBy settings.judging)
    (λ turns. judging_settings judging budget turns) (turns_of options) (any (turns_of options)) (λ turns h. known))

-- ---- rows

check_decides : (judging : Judging) (plain : List (List ℕ)) (options : List Named) → DecidesBy judging →
    IfSome (check_in judging plain options) DecidesCommand
check_decides judging (program ∷ (public_input ∷ (cut ∷ (bits ∷ secrets)))) options known =
    so_holds DecidesCommand (are_few secrets) _
    (mapped_holds (λ settings. DecidesBy settings.judging) DecidesCommand _
    (check_settings judging bits options) (judged_settings judging bits options known) (λ settings h. h))
check_decides judging words options known = tt

run_decides : (telling : Telling) (plain : List (List ℕ)) (options : List Named) →
    IfSome (run_in telling plain options) DecidesCommand
run_decides telling (program ∷ (public_input ∷ (secret ∷ []))) options =
    mapped_holds (λ settings. IsDeciding settings.table) DecidesCommand _ (run_settings options)
    (settings_decide options) (λ settings h. h)
run_decides telling words options = tt

learning_decides : (plain : List (List ℕ)) (options : List Named) → IfSome (learning_in plain options) DecidesCommand
learning_decides (program ∷ (public_input ∷ (secret ∷ (file ∷ [])))) options =
    mapped_holds (λ settings. IsDeciding settings.table) DecidesCommand _ (run_settings options)
    (settings_decide options) (λ settings h. h)
learning_decides words options = tt

many_decide : (version : ℕ) (plain : List (List ℕ)) (options : List Named) →
    IfSome (many_runs_in version plain options) DecidesCommand
many_decide version (program ∷ (public_input ∷ secrets)) options =
    so_holds DecidesCommand (are_few secrets) _
    (mapped_holds (λ settings. IsDeciding settings.table) DecidesCommand _
    (run_settings options) (settings_decide options) (λ settings h. h))
many_decide version words options = tt

bound_decides : (plain : List (List ℕ)) (options : List Named) → IfSome (bound_in plain options) DecidesCommand
bound_decides (program ∷ (public_input ∷ (cut ∷ (bits ∷ [])))) options =
    mapped_holds (λ settings. Unit {0}) DecidesCommand _ (bound_settings bits options) (any (bound_settings bits options))
    (λ settings h. tt)
bound_decides words options = tt

row_decides : (name : CommandName) (plain : List (List ℕ)) (options : List Named) →
    IfSome (row_of name plain options) DecidesCommand
row_decides names.Check plain options = so_holds DecidesCommand _ _ (check_decides Replay plain options tt)
row_decides names.Taint plain options =
    so_holds DecidesCommand _ _
    (found_holds IsDeciding DecidesCommand (λ table. check_in (Masks table) plain options) (table_of options)
    (table_decides options) (λ table known. check_decides (Masks table) plain options known))
row_decides names.Bound plain options = so_holds DecidesCommand _ _ (bound_decides plain options)
row_decides names.Measure plain options =
    so_holds DecidesCommand _ _
    (then_holds DecidesCommand (λ version. run_in (CutText version) plain options) (version_of options)
    (λ version. run_decides (CutText version) plain options))
row_decides names.MeasureAll plain options =
    so_holds DecidesCommand _ _
    (then_holds DecidesCommand (λ version. many_runs_in version plain options) (version_of options)
    (λ version. many_decide version plain options))
row_decides names.Graph plain options = so_holds DecidesCommand _ _ (run_decides Certificate plain options)
row_decides names.Report plain options =
    so_holds DecidesCommand _ _ (run_decides (Report (has_option (codes "--json") options)) plain options)
row_decides names.Learn plain options = so_holds DecidesCommand _ _ (learning_decides plain options)
row_decides names.Assemble (file ∷ []) [] = tt
row_decides names.List (file ∷ []) [] = tt
row_decides names.Verify (file ∷ []) [] = tt
row_decides names.Migrate (file ∷ []) [] = tt
row_decides names.Trial (word ∷ []) [] =
    mapped_holds (λ number. Unit {0}) DecidesCommand (λ number. Tries number) (number_within 0 4294967295 word)
    (any (number_within 0 4294967295 word)) (λ number h. tt)
row_decides name plain options = tt

words_decide : (words : List (List ℕ)) → IfSome (command_in words) DecidesCommand
words_decide [] = tt
words_decide (first ∷ others) =
    then_holds DecidesCommand _ (named_by first)
    (λ name. then_holds DecidesCommand _ (parts_of others) (λ parts. row_decides name parts.plain parts.options))

-- ---- tasks

-- the table of a task that asks mask rules decides
abbrev pub Decides : Task → Type 0
Decides (JudgeSecrets task) = DecidesBy task.settings.judging
Decides (TellRun telling run) = IsDeciding run.settings.table
Decides (MeasureAll version runs) = IsDeciding runs.settings.table
Decides task = Unit {0}

decides_task : (files : List (List ℕ)) (command : Command) (task : Task) → DecidesCommand command →
    IsTaskOf command files task → Decides task
decides_task files (Checks guest cut secrets settings) task known (x, is, same, e) =
    subst Decides (sym e) (subst (λ s. DecidesBy s.judging) (sym same) known)
decides_task files (Bounds guest cut settings) task known (x, is, same, e) = subst Decides (sym e) tt
decides_task files (Tells telling guest secret settings) task known (x, is, same, e) =
    subst Decides (sym e) (subst (λ s. IsDeciding s.table) (sym same) known)
decides_task files (MeasuresAll version guest secrets settings) task known (x, is, same, e) =
    subst Decides (sym e) (subst (λ s. IsDeciding s.table) (sym same) known)
decides_task files (Assembles source) task known (file, x, are, is, e) = subst Decides (sym e) tt
decides_task files (Lists program) task known (file, x, are, is, e) = subst Decides (sym e) tt
decides_task files (Verifies certificate) task known (file, x, y, are, is, e) = subst Decides (sym e) tt
decides_task files (Migrates cut) task known (file, x, are, is, e) = subst Decides (sym e) tt
decides_task files (Tries number) task known e = subst Decides (sym e) tt

pub task_decides : (words files : List (List ℕ)) (command : Command) (task : Task) → IsCommand words command →
    IsTaskOf command files task → Decides task
task_decides words files command task named is =
    decides_task files command task (subst (λ found. IfSome found DecidesCommand) named (words_decide words)) is
