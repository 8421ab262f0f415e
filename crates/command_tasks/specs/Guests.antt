-- A guest, and the files of which it is read.
use Rattle.std.specs.Prelude.{◌≡◌, ◌⊎◌, ℕ, List, [], ◌∷◌, ◌++◌, Option, None, Some, is_some}
use Rattle.elf32_loader.specs.Pictures.{Picture}
use Rattle.elf32_loader.specs.Programs.{IsImage}
use Rattle.enclosure_regions.specs.declared.region_parts.Region.{Region}
use Rattle.enclosure_regions.specs.Reading.{Spells}
use Rattle.command_line.specs.CommandLines.{GuestFiles}
use Rattle.command_tasks.specs.declared.kinds.FileKind.TheVariants as kinds
use Rattle.command_tasks.specs.declared.refusals.Refusal.{Refusal}
use Rattle.command_tasks.specs.Loading.{Want, want}
use Rattle.command_tasks.specs.Refusals.{IsProgramRefusal, IsRegionsRefusal}

-- its image, its public input, and its regions
pub record Guest : Type 0 where
  pub program : Picture
  pub public_input : List ℕ
  pub regions : List Region

-- the regions that a region file spells; none without a file
abbrev pub AreRegions : Option (List ℕ) → List Region → Type 0
AreRegions None regions = regions ≡ []
AreRegions (Some file) regions = Spells file regions

-- the files are well formed, and they are this guest
pub record IsGuest (files : GuestFiles) (guest : Guest) : Type 0 where
  pub program : IsImage files.program guest.program
  pub public_input : files.public_input ≡ guest.public_input
  pub regions : AreRegions files.region_file guest.regions

-- what is wrong with them: the first fault of the program, and then of the region file
abbrev pub IsGuestRefusal : GuestFiles → Refusal → Type 0
IsGuestRefusal files refusal =
    IsProgramRefusal files.program refusal
    ⊎ ((picture : Picture) × IsImage files.program picture × IsRegionsRefusal files.region_file refusal)

-- ---- files in the order of their loads

-- the region file, where one is named, before others
abbrev pub and_others : Option (List ℕ) → List (List ℕ) → List (List ℕ)
and_others None others = others
and_others (Some region_file) others = region_file ∷ others

-- the region file, where one is named
abbrev pub region_wants : Option (List ℕ) → List Want
region_wants None = []
region_wants (Some name) = want name kinds.Regions ∷ []

abbrev pub secret_wants : List (List ℕ) → List Want
secret_wants [] = []
secret_wants (name ∷ names) = want name kinds.Secret ∷ secret_wants names

-- the program and the public input, some more files, the region file where one is named, and secrets
abbrev pub guest_wants : GuestFiles → List Want → List (List ℕ) → List Want
guest_wants guest more secrets =
    want guest.program kinds.Program ∷ want guest.public_input kinds.PublicInput
    ∷ more ++ (region_wants guest.region_file ++ secret_wants secrets)

-- the files of a guest, some more files, and secrets, in the order of these loads; the region file is there exactly
-- where it is named
pub record AreGuestFiles (names : GuestFiles) (files : List (List ℕ)) (guest : GuestFiles)
    (more secrets : List (List ℕ)) : Type 0 where
  pub are : files ≡ guest.program ∷ guest.public_input ∷ more ++ and_others guest.region_file secrets
  pub named : is_some guest.region_file ≡ is_some names.region_file
