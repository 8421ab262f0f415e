-- All secrets of a guest, whose outputs are bounded by a cut.
use Rattle.std.specs.Prelude.{◌≡◌, ◌⊎◌, ◌==◌, ◌++◌, ℕ, Bool, List, length, Ok, if◌then◌else◌}
use Rattle.transfer_rules.specs.Table1.{mask_by_table_1}
use Rattle.transfer_rules.specs.Table2.{mask_by_table_2}
use Rattle.transfer_rules.specs.Table3.{mask_by_table_3}
use Rattle.every_secret.specs.Bounds.{BoundOf, HasMorePaths, IsBounded, IsLeastPower, IsUnclear, TreeAnswer}
use Rattle.every_secret.specs.Bounds.{Summary, output_count, summary_of}
use Rattle.every_secret.specs.declared.public_inputs.PublicInput.{PublicInput}
use Rattle.every_secret.specs.declared.public_inputs.PublicInput.TheVariants.{Given, Any}
use Rattle.every_secret.specs.AnyPublic.{TellsOf, seen_task}
use Rattle.every_secret.specs.Paths.{Tree, tree_of}
use Rattle.every_secret.specs.Replays.{MaskedReplay}
use Rattle.every_secret.specs.Rules.{Rules, rules_of}
use Rattle.lockstep_replay.specs.Tasks.{Limits}
use Rattle.command_tasks.specs.declared.statuses.Status.TheVariants.{Done, Rejected}
use Rattle.command_tasks.specs.Tasks.{AllSecretsTask}
use Rattle.task_answers.specs.Replies.{Answer}
use Rattle.task_answers.specs.Checks.{judged_by}
use Rattle.task_answers.specs.BoundLines.{bounded_line, listing, public_text, too_many_line, unclear_line}

-- the mask rules of tables 1 and 2, and for every other number those of table 3, where so much is known of the public
-- input
abbrev pub rules_by : ℕ → PublicInput → Rules
rules_by table public =
    if table == 1 then rules_of mask_by_table_1 public
    else (if table == 2 then rules_of mask_by_table_2 public else rules_of mask_by_table_3 public)

-- what is known of the public input: its bytes, or how many they are
abbrev pub public_of : AllSecretsTask → PublicInput
public_of all = if all.settings.any_public then Any else Given

-- the limits of bits and of turns
abbrev pub bound_limits : AllSecretsTask → Limits
bound_limits all = record { budget = all.settings.budget; turns = all.settings.turns }

-- the bound for all secrets, or for all pairs of a public input and a secret
abbrev pub bound_of : AllSecretsTask → TreeAnswer
bound_of all =
    BoundOf (rules_by all.settings.table (public_of all)) (seen_task (public_of all) (judged_by all.guest all.cut))
    (bound_limits all)

-- the tree of all paths
abbrev pub tree_in : AllSecretsTask → Tree
tree_in all =
    tree_of (MaskedReplay (rules_by all.settings.table (public_of all))
    (seen_task (public_of all) (judged_by all.guest all.cut)) (bound_limits all))

-- the text of what is found, where so many bits suffice for the outputs
abbrev pub bounded_text : AllSecretsTask → Summary → ℕ → List ℕ
bounded_text all found bits =
    listing all.settings.listed found
    ++ bounded_line all.cut.secret_len (public_text all.settings.any_public (length all.guest.public_input))
    (length all.guest.regions) found bits

-- what is found tells of all secrets, or pairs, and its text has the least number of bits for its outputs
abbrev pub AnswersBound : AllSecretsTask → TreeAnswer → Answer → Type 0
AnswersBound all (IsBounded found) answer =
    TellsOf (public_of all) (judged_by all.guest all.cut) (bound_limits all) (IsBounded found)
    × ((bits : ℕ) × IsLeastPower (output_count found.patterns) bits
    × (answer ≡ Ok (record { status = Done; text = bounded_text all (summary_of found) bits })))
AnswersBound all (IsUnclear bits why) answer =
    answer ≡ Ok (record { status = Rejected; text = unclear_line bits why })

-- there are more paths than walks may be made, and the text has a string with which a path begins
abbrev pub AnswersTooMany : AllSecretsTask → Answer → Type 0
AnswersTooMany all answer =
    (bits : List Bool) × HasMorePaths (tree_in all) all.settings.paths bits
    × (answer ≡ Ok (record { status = Rejected; text = too_many_line bits all.settings.paths }))

abbrev pub AnswersAllSecrets : AllSecretsTask → Answer → Type 0
AnswersAllSecrets all answer = AnswersBound all (bound_of all) answer ⊎ AnswersTooMany all answer
