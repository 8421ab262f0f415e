-- What a command line and its files ask for.
use Rattle.std.specs.Prelude.{◌≡◌, ◌⊎◌, ℕ, List, [], ◌∷◌, Ok}
use Rattle.elf32_loader.specs.Pictures.{Picture}
use Rattle.elf32_loader.specs.Programs.{IsImage}
use Rattle.cut_file.specs.Cuts.{CutPicture}
use Rattle.cut_file.specs.Texts.{CutText}
use Rattle.flow_graph.specs.declared.graphs.Graph.{Graph}
use Rattle.max_flow.specs.declared.answers.Solved.{Solved}
use Rattle.rv32im_asm.specs.Assembling.{assembled}
use Rattle.command_line.specs.declared.settings.BoundSettings.{BoundSettings}
use Rattle.command_line.specs.declared.settings.CheckSettings.{CheckSettings}
use Rattle.command_line.specs.declared.settings.RunSettings.{RunSettings}
use Rattle.command_line.specs.declared.tellings.Telling.{Telling}
use Rattle.command_line.specs.CommandLines.{Assembles, Bounds, Checks, Command, GuestFiles, Lists, MeasuresAll}
use Rattle.command_line.specs.CommandLines.{Migrates, Tells as TellsOf, Tries, Verifies}
use Rattle.command_tasks.specs.declared.kinds.FileKind.TheVariants as kinds
use Rattle.command_tasks.specs.declared.refusals.Refusal.{Refusal}
use Rattle.command_tasks.specs.CertificateFiles.{IsCertificate}
use Rattle.command_tasks.specs.Guests.{Guest, AreGuestFiles, IsGuest, IsGuestRefusal, guest_wants}
use Rattle.command_tasks.specs.Loading.{Want, want}
use Rattle.command_tasks.specs.Refusals.{IsCertificateRefusal, IsCutRefusal, IsProgramRefusal, IsSourceRefusal}

-- secrets of a guest that are to be judged by a cut
pub record CheckTask : Type 0 where
  pub guest : Guest
  pub cut : CutPicture
  pub secrets : List (List ℕ)
  pub settings : CheckSettings

-- all secrets of a guest, whose outputs are to be bounded by a cut
pub record AllSecretsTask : Type 0 where
  pub guest : Guest
  pub cut : CutPicture
  pub settings : BoundSettings

-- a run of a guest that is to be told of
pub record RunTask : Type 0 where
  pub guest : Guest
  pub secret : List ℕ
  pub settings : RunSettings

-- runs of a guest that are to be measured together
pub record ManyRunsTask : Type 0 where
  pub guest : Guest
  pub secrets : List (List ℕ)
  pub settings : RunSettings

-- to judge secrets, to bound the outputs of all secrets, to tell of a run, to tell the one cut of several runs in a
-- version, to write the program file of an image, to list a program, to verify a certificate, to write a cut in
-- version 2, or to try the tool by a number
pub data Task : Type 0 where
  JudgeSecrets : CheckTask → Task
  BoundAll : AllSecretsTask → Task
  TellRun : Telling → RunTask → Task
  MeasureAll : ℕ → ManyRunsTask → Task
  WriteProgram : Picture → Task
  ListProgram : Picture → Task
  VerifyCertificate : Graph → Solved → Task
  MigrateCut : CutPicture → Task
  TryNumber : ℕ → Task

-- ---- the files of a command

-- in the order of its loads
abbrev pub wants_of : Command → List Want
wants_of (Checks guest cut secrets settings) = guest_wants guest (want cut kinds.Cut ∷ []) secrets
wants_of (Bounds guest cut settings) = guest_wants guest (want cut kinds.Cut ∷ []) []
wants_of (TellsOf telling guest secret settings) = guest_wants guest [] (secret ∷ [])
wants_of (MeasuresAll version guest secrets settings) = guest_wants guest [] secrets
wants_of (Assembles source) = want source kinds.Source ∷ []
wants_of (Lists program) = want program kinds.Program ∷ []
wants_of (Verifies certificate) = want certificate kinds.Certificate ∷ []
wants_of (Migrates cut) = want cut kinds.Cut ∷ []
wants_of (Tries number) = []

-- the files of a guest, a cut and secrets, which are well formed, and are these
pub record AreCutFiles (names : GuestFiles) (files : List (List ℕ)) (guest : Guest) (cut : CutPicture)
    (secrets : List (List ℕ)) : Type 0 where
  pub guest_files : GuestFiles
  pub cut_file : List ℕ
  pub are : AreGuestFiles names files guest_files (cut_file ∷ []) secrets
  pub is_guest : IsGuest guest_files guest
  pub is_cut : CutText cut_file cut

-- the files of a guest and secrets, which are well formed, and are these
pub record AreRunFiles (names : GuestFiles) (files : List (List ℕ)) (guest : Guest) (secrets : List (List ℕ)) :
    Type 0 where
  pub guest_files : GuestFiles
  pub are : AreGuestFiles names files guest_files [] secrets
  pub is_guest : IsGuest guest_files guest

-- what is wrong with the files of a guest and a cut: the first fault of the guest, and then of the cut
pub record IsCutFilesRefusal (names : GuestFiles) (files : List (List ℕ)) (refusal : Refusal) : Type 0 where
  pub guest_files : GuestFiles
  pub cut_file : List ℕ
  pub secrets : List (List ℕ)
  pub are : AreGuestFiles names files guest_files (cut_file ∷ []) secrets
  pub first :
      IsGuestRefusal guest_files refusal
      ⊎ ((guest : Guest) × IsGuest guest_files guest × IsCutRefusal cut_file refusal)

-- what is wrong with the files of a guest and secrets: the first fault of the guest
pub record IsGuestFilesRefusal (names : GuestFiles) (files : List (List ℕ)) (refusal : Refusal) : Type 0 where
  pub guest_files : GuestFiles
  pub secrets : List (List ℕ)
  pub are : AreGuestFiles names files guest_files [] secrets
  pub first : IsGuestRefusal guest_files refusal

-- The files of a command are well formed, and with its words they are this task.
abbrev pub IsTaskOf : Command → List (List ℕ) → Task → Type 0
IsTaskOf (Checks guest cut secrets settings) files task =
    (it : CheckTask) × AreCutFiles guest files it.guest it.cut it.secrets × (it.settings ≡ settings)
    × (task ≡ JudgeSecrets it)
IsTaskOf (Bounds guest cut settings) files task =
    (it : AllSecretsTask) × AreCutFiles guest files it.guest it.cut [] × (it.settings ≡ settings)
    × (task ≡ BoundAll it)
IsTaskOf (TellsOf telling guest secret settings) files task =
    (it : RunTask) × AreRunFiles guest files it.guest (it.secret ∷ []) × (it.settings ≡ settings)
    × (task ≡ TellRun telling it)
IsTaskOf (MeasuresAll version guest secrets settings) files task =
    (it : ManyRunsTask) × AreRunFiles guest files it.guest it.secrets × (it.settings ≡ settings)
    × (task ≡ MeasureAll version it)
IsTaskOf (Assembles source) files task =
    (file : List ℕ) × (picture : Picture) × (files ≡ file ∷ []) × (assembled file ≡ Ok picture)
    × (task ≡ WriteProgram picture)
IsTaskOf (Lists program) files task =
    (file : List ℕ) × (picture : Picture) × (files ≡ file ∷ []) × IsImage file picture × (task ≡ ListProgram picture)
IsTaskOf (Verifies certificate) files task =
    (file : List ℕ) × (graph : Graph) × (solved : Solved) × (files ≡ file ∷ []) × IsCertificate file graph solved
    × (task ≡ VerifyCertificate graph solved)
IsTaskOf (Migrates cut) files task =
    (file : List ℕ) × (picture : CutPicture) × (files ≡ file ∷ []) × CutText file picture
    × (task ≡ MigrateCut picture)
IsTaskOf (Tries number) files task = task ≡ TryNumber number

-- What is wrong with the first of its files that is malformed.
abbrev pub IsFormRefusal : Command → List (List ℕ) → Refusal → Type 0
IsFormRefusal (Checks guest cut secrets settings) files refusal = IsCutFilesRefusal guest files refusal
IsFormRefusal (Bounds guest cut settings) files refusal = IsCutFilesRefusal guest files refusal
IsFormRefusal (TellsOf telling guest secret settings) files refusal = IsGuestFilesRefusal guest files refusal
IsFormRefusal (MeasuresAll version guest secrets settings) files refusal = IsGuestFilesRefusal guest files refusal
IsFormRefusal (Assembles source) files refusal =
    (file : List ℕ) × (files ≡ file ∷ []) × IsSourceRefusal file refusal
IsFormRefusal (Lists program) files refusal = (file : List ℕ) × (files ≡ file ∷ []) × IsProgramRefusal file refusal
IsFormRefusal (Verifies certificate) files refusal =
    (file : List ℕ) × (files ≡ file ∷ []) × IsCertificateRefusal file refusal
IsFormRefusal (Migrates cut) files refusal = (file : List ℕ) × (files ≡ file ∷ []) × IsCutRefusal file refusal
IsFormRefusal (Tries number) files refusal = ⊥
