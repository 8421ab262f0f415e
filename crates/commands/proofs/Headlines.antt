-- The headlines follow from what the files of a command spell.
use Rattle.std.proofs.Common.{◌≡◌, ◌≤◌, ◌∙◌, ◌*◌, ◌==◌, ℕ, List, [], ◌∷◌, length, Bool, true, false, Option, Ok, refl, sym, ap, subst, arith}
use Rattle.std.specs.List.{AllByRecursion}
use Rattle.flow_base.specs.Loads.{Told}
use Rattle.cut_file.specs.Cuts.{CutPicture}
use Rattle.cut_file.specs.Folds.{IsFold}
use Rattle.cut_file.specs.Pictures.{cut_picture}
use Rattle.cut_file.specs.Texts.{CutText as IsTextOfCut, cut_text}
use Rattle.lockstep_replay.specs.Tasks.{Task as JudgedTask, Limits}
use Rattle.lockstep_replay.specs.Verdicts.{Judgement, Accepts, Rejects, First}
use Rattle.lockstep_replay.proofs.Bounds.{done_law, bound_law}
use Rattle.lockstep_replay.proofs.Accepting.{accepted_law}
use Rattle.lockstep_replay.proofs.Judging.{rejected_law}
use Rattle.lockstep_replay.proofs.Causes.{causes_law}
use Rattle.many_runs.specs.declared.many.Many.{Many}
use Rattle.many_runs.specs.Accepting.{HasAccepted}
use Rattle.measuring.specs.declared.measured.Measured.{Measured}
use Rattle.command_line.specs.declared.settings.RunSettings.{RunSettings}
use Rattle.command_line.specs.declared.tellings.Telling.{Telling}
use Rattle.command_line.specs.declared.tellings.Telling.TheVariants.{CutText}
use Rattle.command_line.specs.CommandLines.{GuestFiles, Command, Bounds, Checks, Tells, MeasuresAll, Assembles, Lists, Verifies, Migrates, Tries}
use Rattle.command_tasks.specs.Tasks.{RunTask, ManyRunsTask, Task, AreRunFiles, IsTaskOf, wants_of}
use Rattle.command_tasks.specs.Loading.{Loads}
use Rattle.task_answers.specs.Replies.{Answer}
use Rattle.task_answers.specs.Checks.{judged_by, limits_of}
use Rattle.task_answers.specs.Runs.{IsMeasured}
use Rattle.task_answers.specs.CutTexts.{IsCutText, IsInVersion}
use Rattle.task_answers.specs.Many.{AreMeasured}
use Rattle.commands.specs.Clauses.{Carries, TellingCarries}
use Rattle.commands.specs.Headline.{Headline, Says}
use Rattle.commands.specs.MeasuredHeadline.{MeasuredHeadline}
use Rattle.commands.specs.Replies.{IsAnswered}
use Rattle.commands.proofs.ShortSecrets.{secret_short}

-- ---- a check

says : (task : JudgedTask) (limits : Limits) (secret : List ℕ) (judgement : Judgement) →
    First task limits secret ≡ judgement → Says task limits secret judgement
says task limits secret (Accepts bits output) e =
    let law = accepted_law task limits secret bits output e in
    record {
      accept = law.0;
      crossing = rw law.1 refl;
      few = rw law.1 law.0.within;
      replay = rw law.1 (done_law task limits secret output law.0);
      real = law.0.exits;
    }
says task limits secret (Rejects why) e = record {
  refused = rejected_law task limits secret why e;
  cause = causes_law task limits secret why e;
  first = e;
}

headline : (task : JudgedTask) (limits : Limits) → Headline task limits
headline task limits = record {
  say = λ secret. says task limits secret (First task limits secret) refl;
  bound = λ outputs different each. bound_law task limits outputs each different;
}

-- ---- a measured run

accepted_in : (run : RunTask) (measured : Measured) (version : ℕ) (cut : CutPicture) → IsMeasured run measured →
    IsInVersion version (cut_picture measured.cut) cut → (b : Bool) → (version == 2) ≡ b →
    HasAccepted (judged_by run.guest cut) (record { budget = measured.value; turns = run.settings.turns }) run.secret
accepted_in run measured version cut is in_version true e =
    (measured.output, is.folds cut (rw e at in_version))
accepted_in run measured version cut is in_version false e =
    let same : cut ≡ cut_picture measured.cut = rw e at in_version in
    subst (λ c. HasAccepted (judged_by run.guest c) (record { budget = measured.value; turns = run.settings.turns }) run.secret)
    (sym same) (measured.output, is.accepted)

bits_in : (run : RunTask) (measured : Measured) (version : ℕ) (cut : CutPicture) → IsMeasured run measured →
    IsInVersion version (cut_picture measured.cut) cut → (b : Bool) → (version == 2) ≡ b → cut.bits ≡ measured.value
bits_in run measured version cut is in_version true e =
    let fold : IsFold (cut_picture measured.cut) cut = rw e at in_version in fold.bits ∙ is.measures.measure.cut.bits
bits_in run measured version cut is in_version false e =
    let same : cut ≡ cut_picture measured.cut = rw e at in_version in
    ap (λ (c : CutPicture). c.bits) same ∙ is.measures.measure.cut.bits

short_in : (run : RunTask) (measured : Measured) (version : ℕ) (text : List ℕ) (cut : CutPicture) →
    IsMeasured run measured → IsInVersion version (cut_picture measured.cut) cut → IsTextOfCut text cut → (b : Bool) →
    (version == 2) ≡ b → length text ≤ 67108864
short_in run measured version text cut is in_version spells true e =
    let fold : IsFold (cut_picture measured.cut) cut = rw e at in_version in
    rw spells.text (is.short.fold cut spells.valid fold)
short_in run measured version text cut is in_version spells false e =
    let same : cut ≡ cut_picture measured.cut = rw e at in_version in
    rw spells.text (subst (λ c. length (cut_text c) ≤ 67108864) (sym same) is.short.text)

low_bits : (bits value secret : ℕ) → bits ≡ value → value ≤ 8 * secret → secret ≤ 65536 → bits ≤ 1048576
low_bits bits value secret e few short = omega arith

cut_headline : (source : Option Told) (version : ℕ) (telling : Telling) (guest : GuestFiles) (secret : List ℕ) (settings : RunSettings) (files : List (List ℕ)) (task : RunTask)
    (measured : Measured) (text : List ℕ) → Loads source (wants_of (Tells telling guest secret settings)) (Ok files) →
    AreRunFiles guest files task.guest (task.secret ∷ []) → IsMeasured task measured → (printed : IsCutText version (cut_picture measured.cut) text) →
    MeasuredHeadline task.guest (task.secret ∷ []) task.settings.turns measured.value printed.cut text
cut_headline source version telling guest secret settings files task measured text loads is measure printed =
    let bits = bits_in task measured version printed.cut measure printed.in_version (version == 2) refl in
    record {
      bits = bits;
      accepted = (
        subst (λ v. HasAccepted (judged_by task.guest printed.cut) (record { budget = v; turns = task.settings.turns }) task.secret)
            (sym bits) (accepted_in task measured version printed.cut measure printed.in_version (version == 2) refl),
        tt,
      );
      budget =
          low_bits printed.cut.bits measured.value (length task.secret) bits measure.few
          (secret_short guest secret task.secret files is.guest_files is.are loads.0);
      short =
          short_in task measured version text printed.cut measure printed.in_version printed.is_text (version == 2) refl;
    }

told_headline : (source : Option Told) (telling : Telling) (guest : GuestFiles) (secret : List ℕ) (settings : RunSettings) (files : List (List ℕ)) (task : RunTask)
    (text : List ℕ) → Loads source (wants_of (Tells telling guest secret settings)) (Ok files) → AreRunFiles guest files task.guest (task.secret ∷ []) →
    TellingCarries telling task text
told_headline source (CutText version) guest secret settings files task text loads is = λ measured measure printed.
    cut_headline source version (CutText version) guest secret settings files task measured text loads is measure printed
told_headline source telling guest secret settings files task text loads is = tt

-- ---- several runs

accepted_all_in : (runs : ManyRunsTask) (many : Many) (version : ℕ) (cut : CutPicture) → AreMeasured runs many →
    IsInVersion version (cut_picture many.cut) cut → (b : Bool) → (version == 2) ≡ b →
    AllByRecursion (HasAccepted (judged_by runs.guest cut) (record { budget = many.value; turns = runs.settings.turns })) runs.secrets
accepted_all_in runs many version cut are in_version true e = are.folds cut (rw e at in_version)
accepted_all_in runs many version cut are in_version false e =
    let same : cut ≡ cut_picture many.cut = rw e at in_version in
    subst (λ c. AllByRecursion (HasAccepted (judged_by runs.guest c) (record { budget = many.value; turns = runs.settings.turns }))
    runs.secrets) (sym same) are.accepted

bits_all_in : (runs : ManyRunsTask) (many : Many) (version : ℕ) (cut : CutPicture) → AreMeasured runs many →
    IsInVersion version (cut_picture many.cut) cut → (b : Bool) → (version == 2) ≡ b → cut.bits ≡ many.value
bits_all_in runs many version cut are in_version true e =
    let fold : IsFold (cut_picture many.cut) cut = rw e at in_version in fold.bits ∙ are.measures.measure.cut.bits
bits_all_in runs many version cut are in_version false e =
    let same : cut ≡ cut_picture many.cut = rw e at in_version in
    ap (λ (c : CutPicture). c.bits) same ∙ are.measures.measure.cut.bits

short_all_in : (runs : ManyRunsTask) (many : Many) (version : ℕ) (text : List ℕ) (cut : CutPicture) →
    AreMeasured runs many → IsInVersion version (cut_picture many.cut) cut → IsTextOfCut text cut → (b : Bool) →
    (version == 2) ≡ b → length text ≤ 67108864
short_all_in runs many version text cut are in_version spells true e =
    let fold : IsFold (cut_picture many.cut) cut = rw e at in_version in
    rw spells.text (are.short.fold cut spells.valid fold)
short_all_in runs many version text cut are in_version spells false e =
    let same : cut ≡ cut_picture many.cut = rw e at in_version in
    rw spells.text (subst (λ c. length (cut_text c) ≤ 67108864) (sym same) are.short.text)

low_as_budget : (bits value : ℕ) → bits ≡ value → value ≤ 1048576 → bits ≤ 1048576
low_as_budget bits value e low = omega arith

many_headline : (version : ℕ) (task : ManyRunsTask) (many : Many) (text : List ℕ) → AreMeasured task many →
    (printed : IsCutText version (cut_picture many.cut) text) →
    MeasuredHeadline task.guest task.secrets task.settings.turns many.value printed.cut text
many_headline version task many text are printed =
    let bits = bits_all_in task many version printed.cut are printed.in_version (version == 2) refl in
    record {
      bits = bits;
      accepted =
          subst (λ v. AllByRecursion (HasAccepted (judged_by task.guest printed.cut)
          (record { budget = v; turns = task.settings.turns })) task.secrets) (sym bits)
          (accepted_all_in task many version printed.cut are printed.in_version (version == 2) refl);
      budget = low_as_budget printed.cut.bits many.value bits are.measures.budget;
      short =
          short_all_in task many version text printed.cut are printed.in_version printed.is_text (version == 2) refl;
    }

-- ---- every command

task_headline : (source : Option Told) (command : Command) (files : List (List ℕ)) (task : Task) (text : List ℕ) →
    Loads source (wants_of command) (Ok files) → IsTaskOf command files task → Carries task text
task_headline source (Checks guest cut secrets settings) files task text loads (x, is, same, e) =
    subst (λ t. Carries t text) (sym e) (headline (judged_by x.guest x.cut) (limits_of x))
task_headline source (Bounds guest cut settings) files task text loads (x, is, same, e) = subst (λ t. Carries t text) (sym e) tt
task_headline source (Tells telling guest secret settings) files task text loads (x, is, same, e) =
    subst (λ t. Carries t text) (sym e) (told_headline source telling guest secret settings files x text loads is)
task_headline source (MeasuresAll version guest secrets settings) files task text loads (x, is, same, e) =
    subst (λ t. Carries t text) (sym e) (λ many are printed. many_headline version x many text are printed)
task_headline source (Assembles file) files task text loads (x, y, are, is, e) = subst (λ t. Carries t text) (sym e) tt
task_headline source (Lists file) files task text loads (x, y, are, is, e) = subst (λ t. Carries t text) (sym e) tt
task_headline source (Verifies file) files task text loads (x, y, z, are, is, e) =
    subst (λ t. Carries t text) (sym e) tt
task_headline source (Migrates file) files task text loads (x, y, are, is, e) = subst (λ t. Carries t text) (sym e) tt
task_headline source (Tries number) files task text loads e = subst (λ t. Carries t text) (sym e) tt

pub headline_of : (source : Option Told) (words : List (List ℕ)) (answer : Answer) (text : List ℕ) →
    (it : IsAnswered source words answer) → Carries it.task text
headline_of source words answer text it =
    task_headline source it.command it.files it.task text it.loads it.spelled
