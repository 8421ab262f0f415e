-- With the words of a command, its files are of one task; and where they are, none of them is malformed.
use Rattle.std.proofs.Common.{◌≡◌, ◌∙◌, inl, inr, ℕ, List, [], ◌∷◌, Result, Ok, Err, refl, sym, ap, subst}
use Rattle.elf32_loader.specs.Pictures.{Picture}
use Rattle.flow_certificate.specs.declared.faults.FormFault.{FormFault}
use Rattle.flow_certificate.specs.declared.faults.FormFault.TheVariants.{Line, Memory as NoRoomForCertificate}
use Rattle.flow_certificate.specs.Certificates.{IsFormFault}
use Rattle.flow_certificate.specs.Pictures.{certificate_picture}
use Rattle.flow_certificate.proofs.OneFault.{one_form_fault}
use Rattle.flow_graph.specs.declared.graphs.Graph.{Graph}
use Rattle.max_flow.specs.declared.answers.Solved.{Solved}
use Rattle.cut_file.specs.Cuts.{CutPicture}
use Rattle.cut_file.specs.Texts.{CutText}
use Rattle.cut_file.proofs.FileTexts.{one_cut}
use Rattle.elf32_loader.specs.Programs.{IsImage}
use Rattle.elf32_loader.proofs.Unique.{same_image}
use Rattle.rv32im_asm.specs.declared.fault.AsmFault.{AsmFault}
use Rattle.rv32im_asm.specs.Assembling.{assembled}
use Rattle.command_line.specs.CommandLines.{Bounds, GuestFiles, Command, Checks, Tells, MeasuresAll, Assembles, Lists, Verifies, Migrates, Tries}
use Rattle.command_line.specs.declared.settings.BoundSettings.{BoundSettings}
use Rattle.command_line.specs.declared.settings.CheckSettings.{CheckSettings}
use Rattle.command_line.specs.declared.settings.RunSettings.{RunSettings}
use Rattle.command_tasks.specs.declared.refusals.Refusal.{Refusal}
use Rattle.command_tasks.specs.declared.refusals.Refusal.TheVariants.{Certificate, Source}
use Rattle.command_tasks.specs.Tasks.{AllSecretsTask, CheckTask, ManyRunsTask, RunTask, Task, BoundAll}
use Rattle.command_tasks.specs.Tasks.{AreCutFiles, AreRunFiles, JudgeSecrets, TellRun, MeasureAll, WriteProgram, ListProgram}
use Rattle.command_tasks.specs.Tasks.{VerifyCertificate, MigrateCut, IsCutFilesRefusal, IsFormRefusal}
use Rattle.command_tasks.specs.Tasks.{IsGuestFilesRefusal, IsTaskOf}
use Rattle.command_tasks.specs.Guests.{AreGuestFiles, Guest, IsGuest, IsGuestRefusal}
use Rattle.command_tasks.specs.Refusals.{IsCutRefusal, IsProgramRefusal}
use Rattle.command_tasks.specs.CertificateFiles.{IsCertificate}
use Rattle.commands.proofs.FormStatuses.{FirstRefusal}
use Rattle.commands.proofs.Readings.{IsReading}
use Rattle.reply_laws.proofs.OneCertificate.{one_certificate}
use Rattle.reply_laws.proofs.OneGuest.{RegionLaws, cut_reading, guest_reading, program_reading, same_check_files}
use Rattle.reply_laws.proofs.OneGuest.{same_run_files}

-- ---- a guest and a cut

-- what files are of
record SameCut (a b : Guest) (cut other : CutPicture) (list more : List (List ℕ)) : Type 0 where
  guests : a ≡ b
  cuts : cut ≡ other
  secrets : list ≡ more

same_cut_files : RegionLaws → (names : GuestFiles) (files : List (List ℕ)) (a b : Guest) (cut other : CutPicture)
    (secrets more : List (List ℕ)) → AreCutFiles names files a cut secrets → AreCutFiles names files b other more →
    SameCut a b cut other secrets more
same_cut_files laws names files a b cut other secrets more one two =
    let same = same_check_files names files one.guest_files two.guest_files one.cut_file two.cut_file secrets more one.are
    two.are in
    record {
      guests = (guest_reading laws two.guest_files).one a b (subst (λ f. IsGuest f a) same.guests one.is_guest) two.is_guest;
      cuts = one_cut two.cut_file cut other (rw same.cuts at one.is_cut) two.is_cut;
      secrets = same.secrets;
    }

abbrev made_check : Guest → CutPicture → List (List ℕ) → CheckSettings → CheckTask
made_check guest cut secrets settings = record { guest = guest; cut = cut; secrets = secrets; settings = settings }

same_check : (a b : CheckTask) → SameCut a.guest b.guest a.cut b.cut a.secrets b.secrets → a.settings ≡ b.settings → a ≡ b
same_check a b same settings =
    ap (λ v. made_check v a.cut a.secrets a.settings) same.guests
    ∙ (ap (λ v. made_check b.guest v a.secrets a.settings) same.cuts
    ∙ (ap (λ v. made_check b.guest b.cut v a.settings) same.secrets
    ∙ ap (λ v. made_check b.guest b.cut b.secrets v) settings))

abbrev made_all : Guest → CutPicture → BoundSettings → AllSecretsTask
made_all guest cut settings = record { guest = guest; cut = cut; settings = settings }

same_all : (a b : AllSecretsTask) → SameCut a.guest b.guest a.cut b.cut [] [] → a.settings ≡ b.settings → a ≡ b
same_all a b same settings =
    ap (λ v. made_all v a.cut a.settings) same.guests
    ∙ (ap (λ v. made_all b.guest v a.settings) same.cuts ∙ ap (λ v. made_all b.guest b.cut v) settings)

no_first_fault : RegionLaws → (guest_files : GuestFiles) (cut_file : List ℕ) (guest : Guest) (cut : CutPicture)
    (refusal : Refusal) → IsGuest guest_files guest → CutText cut_file cut →
    FirstRefusal guest_files cut_file refusal → ⊥
no_first_fault laws guest_files cut_file guest cut refusal is_guest is_cut (inl first) =
    (guest_reading laws guest_files).none guest refusal is_guest first
no_first_fault laws guest_files cut_file guest cut refusal is_guest is_cut (inr (other, also, first)) =
    (cut_reading cut_file).none cut refusal is_cut first

-- where the files are a guest and a cut, nothing is wrong with them
no_cut_fault : RegionLaws → (names : GuestFiles) (files : List (List ℕ)) (guest_files : GuestFiles) (cut_file : List ℕ)
    (secrets : List (List ℕ)) (guest : Guest) (cut : CutPicture) (refusal : Refusal) →
    AreGuestFiles names files guest_files (cut_file ∷ []) secrets → IsGuest guest_files guest → CutText cut_file cut →
    IsCutFilesRefusal names files refusal → ⊥
no_cut_fault laws names files guest_files cut_file secrets guest cut refusal are is_guest is_cut refused =
    let same = same_check_files names files refused.guest_files guest_files refused.cut_file cut_file refused.secrets secrets
    refused.are are in
    let first : FirstRefusal guest_files refused.cut_file refusal = subst (λ f. FirstRefusal f refused.cut_file
    refusal) same.guests refused.first in
    no_first_fault laws guest_files cut_file guest cut refusal is_guest is_cut
    (subst (λ c. FirstRefusal guest_files c refusal) same.cuts first)

one_first : RegionLaws → (guest_files : GuestFiles) (cut_file : List ℕ) (first second : Refusal) →
    FirstRefusal guest_files cut_file first → FirstRefusal guest_files cut_file second → first ≡ second
one_first laws guest_files cut_file first second (inl is) (inl also) =
    (guest_reading laws guest_files).refused first second is also
one_first laws guest_files cut_file first second (inl is) (inr (guest, alike, also)) =
    absurd ((guest_reading laws guest_files).none guest first alike is)
one_first laws guest_files cut_file first second (inr (guest, alike, is)) (inl also) =
    absurd ((guest_reading laws guest_files).none guest second alike also)
one_first laws guest_files cut_file first second (inr (guest, alike, is)) (inr (other, same, also)) =
    (cut_reading cut_file).refused first second is also

one_cut_fault : RegionLaws → (names : GuestFiles) (files : List (List ℕ)) (first second : Refusal) →
    IsCutFilesRefusal names files first → IsCutFilesRefusal names files second → first ≡ second
one_cut_fault laws names files first second one other =
    let same = same_check_files names files one.guest_files other.guest_files one.cut_file other.cut_file one.secrets
    other.secrets one.are other.are in
    let here : FirstRefusal other.guest_files one.cut_file first = subst (λ f. FirstRefusal f one.cut_file first)
    same.guests one.first in
    one_first laws other.guest_files other.cut_file first second
    (subst (λ c. FirstRefusal other.guest_files c first) same.cuts here) other.first

one_run_fault : RegionLaws → (names : GuestFiles) (files : List (List ℕ)) (first second : Refusal) →
    IsGuestFilesRefusal names files first → IsGuestFilesRefusal names files second → first ≡ second
one_run_fault laws names files first second one other =
    let same = same_run_files names files one.guest_files other.guest_files one.secrets other.secrets one.are other.are in
    (guest_reading laws other.guest_files).refused first second
    (subst (λ f. IsGuestRefusal f first) same.guests one.first) other.first

-- ---- a guest alone

-- what files are of
record SameRun (a b : Guest) (list more : List (List ℕ)) : Type 0 where
  guests : a ≡ b
  secrets : list ≡ more

same_guest_files : RegionLaws → (names : GuestFiles) (files : List (List ℕ)) (a b : Guest) (secrets more : List (List ℕ)) →
    AreRunFiles names files a secrets → AreRunFiles names files b more → SameRun a b secrets more
same_guest_files laws names files a b secrets more one two =
    let same = same_run_files names files one.guest_files two.guest_files secrets more one.are two.are in
    record {
      guests = (guest_reading laws two.guest_files).one a b (subst (λ f. IsGuest f a) same.guests one.is_guest) two.is_guest;
      secrets = same.secrets;
    }

first_item : (a b : List ℕ) → a ∷ [] ≡ b ∷ [] → a ≡ b
first_item a b e = cc

abbrev made_run : Guest → List ℕ → RunSettings → RunTask
made_run guest secret settings = record { guest = guest; secret = secret; settings = settings }

same_run : (a b : RunTask) → SameRun a.guest b.guest (a.secret ∷ []) (b.secret ∷ []) → a.settings ≡ b.settings → a ≡ b
same_run a b same settings =
    ap (λ v. made_run v a.secret a.settings) same.guests
    ∙ (ap (λ v. made_run b.guest v a.settings) (first_item a.secret b.secret same.secrets)
    ∙ ap (λ v. made_run b.guest b.secret v) settings)

abbrev made_runs : Guest → List (List ℕ) → RunSettings → ManyRunsTask
made_runs guest secrets settings = record { guest = guest; secrets = secrets; settings = settings }

same_runs : (a b : ManyRunsTask) → SameRun a.guest b.guest a.secrets b.secrets → a.settings ≡ b.settings → a ≡ b
same_runs a b same settings =
    ap (λ v. made_runs v a.secrets a.settings) same.guests
    ∙ (ap (λ v. made_runs b.guest v a.settings) same.secrets ∙ ap (λ v. made_runs b.guest b.secrets v) settings)

-- where the files are a guest, nothing is wrong with them
no_run_fault : RegionLaws → (names : GuestFiles) (files : List (List ℕ)) (guest_files : GuestFiles)
    (secrets : List (List ℕ)) (guest : Guest) (refusal : Refusal) → AreGuestFiles names files guest_files [] secrets →
    IsGuest guest_files guest → IsGuestFilesRefusal names files refusal → ⊥
no_run_fault laws names files guest_files secrets guest refusal are is_guest refused =
    let same = same_run_files names files refused.guest_files guest_files refused.secrets secrets refused.are are in
    (guest_reading laws guest_files).none guest refusal is_guest
    (subst (λ f. IsGuestRefusal f refusal) same.guests refused.first)

-- ---- a certificate

no_form_fault : (file : List ℕ) (graph : Graph) (solved : Solved) (fault : FormFault) →
    IsCertificate file graph solved → IsFormFault file fault → (fault ≡ NoRoomForCertificate → ⊥) → ⊥
no_form_fault file graph solved (Line line) is first room = first.no_text (certificate_picture graph solved) is.text
no_form_fault file graph solved NoRoomForCertificate is first room = room refl

-- ---- every command

one_file : (files : List (List ℕ)) (a b : List ℕ) → files ≡ a ∷ [] → files ≡ b ∷ [] → a ≡ b
one_file files a b one other = first_item a b (sym one ∙ other)

same_ok : (a b : Picture) (result : Result Picture AsmFault) → result ≡ Ok a → result ≡ Ok b → a ≡ b
same_ok a b result e f = cc

ok_err : (a : Picture) (fault : AsmFault) (result : Result Picture AsmFault) → result ≡ Ok a → result ≡ Err fault → ⊥
ok_err a fault result e f = cc

same_task : RegionLaws → (command : Command) (files : List (List ℕ)) (a b : Task) → IsTaskOf command files a →
    IsTaskOf command files b → a ≡ b
same_task laws (Checks guest cut secrets settings) files a b (x, one, first, e) (y, other, second, f) =
    let same = same_cut_files laws guest files x.guest y.guest x.cut y.cut x.secrets y.secrets one other in
    e ∙ (ap (λ v. JudgeSecrets v) (same_check x y same (first ∙ sym second)) ∙ sym f)
same_task laws (Bounds guest cut settings) files a b (x, one, first, e) (y, other, second, f) =
    let same = same_cut_files laws guest files x.guest y.guest x.cut y.cut [] [] one other in
    e ∙ (ap (λ v. BoundAll v) (same_all x y same (first ∙ sym second)) ∙ sym f)
same_task laws (Tells telling guest secret settings) files a b (x, one, first, e) (y, other, second, f) =
    let same = same_guest_files laws guest files x.guest y.guest (x.secret ∷ []) (y.secret ∷ []) one other in
    e ∙ (ap (λ v. TellRun telling v) (same_run x y same (first ∙ sym second)) ∙ sym f)
same_task laws (MeasuresAll version guest secrets settings) files a b (x, one, first, e) (y, other, second, f) =
    let same = same_guest_files laws guest files x.guest y.guest x.secrets y.secrets one other in
    e ∙ (ap (λ v. MeasureAll version v) (same_runs x y same (first ∙ sym second)) ∙ sym f)
same_task laws (Assembles source) files a b (file, x, are, one, e) (also, y, alike, other, f) =
    let here : assembled also ≡ Ok x = ap assembled (one_file files also file alike are) ∙ one in
    e ∙ (ap (λ v. WriteProgram v) (same_ok x y (assembled also) here other) ∙ sym f)
same_task laws (Lists program) files a b (file, x, are, one, e) (also, y, alike, other, f) =
    let here : IsImage also x = subst (λ v. IsImage v x) (one_file files file also are alike) one in
    e ∙ (ap (λ v. ListProgram v) (same_image also x y here other) ∙ sym f)
same_task laws (Verifies certificate) files a b (file, graph, solved, are, one, e) (also, network, flows, alike, other, f) =
    let here : IsCertificate also graph solved = subst (λ v. IsCertificate v graph solved)
    (one_file files file also are alike) one in
    let same = one_certificate also graph network solved flows here other in
    e ∙ (ap (λ v. VerifyCertificate v solved) same.graphs ∙ (ap (λ v. VerifyCertificate network v) same.solutions ∙ sym f))
same_task laws (Migrates cut) files a b (file, x, are, one, e) (also, y, alike, other, f) =
    let here : CutText also x = subst (λ v. CutText v x) (one_file files file also are alike) one in
    e ∙ (ap (λ v. MigrateCut v) (one_cut also x y here other) ∙ sym f)
same_task laws (Tries number) files a b e f = e ∙ sym f

no_task_fault : RegionLaws → (command : Command) (files : List (List ℕ)) (task : Task) (refusal : Refusal) →
    IsTaskOf command files task → IsFormRefusal command files refusal → ⊥
no_task_fault laws (Checks guest cut secrets settings) files task refusal (x, is, same, e) refused =
    no_cut_fault laws guest files is.guest_files is.cut_file x.secrets x.guest x.cut refusal is.are is.is_guest is.is_cut
    refused
no_task_fault laws (Bounds guest cut settings) files task refusal (x, is, same, e) refused =
    no_cut_fault laws guest files is.guest_files is.cut_file [] x.guest x.cut refusal is.are is.is_guest is.is_cut refused
no_task_fault laws (Tells telling guest secret settings) files task refusal (x, is, same, e) refused =
    no_run_fault laws guest files is.guest_files (x.secret ∷ []) x.guest refusal is.are is.is_guest refused
no_task_fault laws (MeasuresAll version guest secrets settings) files task refusal (x, is, same, e) refused =
    no_run_fault laws guest files is.guest_files x.secrets x.guest refusal is.are is.is_guest refused
no_task_fault laws (Assembles source) files task refusal (file, x, are, is, e) (also, alike, (fault, first, f)) =
    ok_err x fault (assembled also) (ap assembled (one_file files also file alike are) ∙ is) first
no_task_fault laws (Lists program) files task refusal (file, x, are, is, e) (also, alike, first) =
    (program_reading file).none x refusal is
    (subst (λ v. IsProgramRefusal v refusal) (one_file files also file alike are) first)
no_task_fault laws (Verifies certificate) files task refusal (file, graph, solved, are, is, e) (also, alike, (fault, first, f)) =
    no_form_fault also graph solved fault
    (subst (λ v. IsCertificate v graph solved) (one_file files file also are alike) is) first.0 first.1
no_task_fault laws (Migrates cut) files task refusal (file, x, are, is, e) (also, alike, first) =
    (cut_reading file).none x refusal is
    (subst (λ v. IsCutRefusal v refusal) (one_file files also file alike are) first)
no_task_fault laws (Tries number) files task refusal e refused = refused

err_err : (a b : AsmFault) (result : Result Picture AsmFault) → result ≡ Err a → result ≡ Err b → a ≡ b
err_err a b result e f = cc

one_task_form_fault : RegionLaws → (command : Command) (files : List (List ℕ)) (first second : Refusal) →
    IsFormRefusal command files first → IsFormRefusal command files second → first ≡ second
one_task_form_fault laws (Checks guest cut secrets settings) files first second one other =
    one_cut_fault laws guest files first second one other
one_task_form_fault laws (Bounds guest cut settings) files first second one other =
    one_cut_fault laws guest files first second one other
one_task_form_fault laws (Tells telling guest secret settings) files first second one other =
    one_run_fault laws guest files first second one other
one_task_form_fault laws (MeasuresAll version guest secrets settings) files first second one other =
    one_run_fault laws guest files first second one other
one_task_form_fault laws (Assembles source) files first second (file, are, (fault, is, e)) (also, alike, (other, was, f)) =
    let here : assembled also ≡ Err fault = ap assembled (one_file files also file alike are) ∙ is in
    e ∙ (ap (λ x. Source x) (err_err fault other (assembled also) here was) ∙ sym f)
one_task_form_fault laws (Lists program) files first second (file, are, is) (also, alike, was) =
    (program_reading also).refused first second
    (subst (λ v. IsProgramRefusal v first) (one_file files file also are alike) is) was
one_task_form_fault laws (Verifies certificate) files first second (file, are, (fault, is, e)) (also, alike, (other, was, f)) =
    let here : IsFormFault also fault = subst (λ v. IsFormFault v fault) (one_file files file also are alike) is.0 in
    e ∙ (ap (λ x. Certificate x) (one_form_fault also fault other here was.0 is.1 was.1) ∙ sym f)
one_task_form_fault laws (Migrates cut) files first second (file, are, is) (also, alike, was) =
    (cut_reading also).refused first second
    (subst (λ v. IsCutRefusal v first) (one_file files file also are alike) is) was
one_task_form_fault laws (Tries number) files first second one other = absurd one

pub task_reading : RegionLaws → (command : Command) (files : List (List ℕ)) →
    IsReading Task (IsTaskOf command files) (IsFormRefusal command files)
task_reading laws command files = record {
  one = same_task laws command files;
  none = no_task_fault laws command files;
  refused = one_task_form_fault laws command files;
}
