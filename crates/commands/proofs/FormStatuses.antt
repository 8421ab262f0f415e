-- The status of what is wrong with a file of a command.
use Rattle.std.proofs.Common.{◌≡◌, ◌⊎◌, inl, inr, ℕ, List, Option, Some, None, Err, ap}
use Rattle.command_line.specs.CommandLines.{Bounds, Command, Checks, GuestFiles, Tells, MeasuresAll, Assembles, Lists, Verifies, Migrates, Tries}
use Rattle.command_tasks.specs.declared.refusals.Refusal.{Refusal}
use Rattle.command_tasks.specs.Guests.{Guest, IsGuest, IsGuestRefusal}
use Rattle.command_tasks.specs.Refusals.{IsCutRefusal, IsRegionsRefusal}
use Rattle.command_tasks.specs.Tasks.{IsFormRefusal}
use Rattle.commands.proofs.Readings.{status_of}

regions_status : (file : Option (List ℕ)) (refusal : Refusal) → IsRegionsRefusal file refusal →
    status_of (Err refusal) ≡ 3
regions_status None refusal is = absurd is
regions_status (Some file) refusal (fault, first, e) = ap (λ r. status_of (Err r)) e

guest_status : (files : GuestFiles) (refusal : Refusal) → IsGuestRefusal files refusal →
    status_of (Err refusal) ≡ 3
guest_status files refusal (inl (fault, first, e)) = ap (λ r. status_of (Err r)) e
guest_status files refusal (inr (picture, image, first)) = regions_status files.region_file refusal first

-- what is wrong with the files of a guest and a cut
abbrev pub FirstRefusal : GuestFiles → List ℕ → Refusal → Type 0
FirstRefusal guest_files cut_file refusal =
    IsGuestRefusal guest_files refusal ⊎ ((guest : Guest) × IsGuest guest_files guest × IsCutRefusal cut_file refusal)

first_status : (guest_files : GuestFiles) (cut_file : List ℕ) (refusal : Refusal) →
    FirstRefusal guest_files cut_file refusal → status_of (Err refusal) ≡ 3
first_status guest_files cut_file refusal (inl first) = guest_status guest_files refusal first
first_status guest_files cut_file refusal (inr (guest, also, (fault, first, e))) = ap (λ r. status_of (Err r)) e

pub form_status : (command : Command) (files : List (List ℕ)) (refusal : Refusal) →
    IsFormRefusal command files refusal → status_of (Err refusal) ≡ 3
form_status (Checks guest cut secrets settings) files refusal is = first_status is.guest_files is.cut_file refusal is.first
form_status (Bounds guest cut settings) files refusal is = first_status is.guest_files is.cut_file refusal is.first
form_status (Tells telling guest secret settings) files refusal is = guest_status is.guest_files refusal is.first
form_status (MeasuresAll version guest secrets settings) files refusal is = guest_status is.guest_files refusal is.first
form_status (Assembles source) files refusal (file, are, (fault, first, e)) = ap (λ r. status_of (Err r)) e
form_status (Lists program) files refusal (file, are, (fault, first, e)) = ap (λ r. status_of (Err r)) e
form_status (Verifies certificate) files refusal (file, are, (fault, first, e)) = ap (λ r. status_of (Err r)) e
form_status (Migrates cut) files refusal (file, are, (fault, first, e)) = ap (λ r. status_of (Err r)) e
form_status (Tries number) files refusal is = absurd is
