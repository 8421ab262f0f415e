-- The files of a guest are of one guest, and those of a command are in one order.
use Rattle.std.proofs.Common.{◌≡◌, ◌∙◌, inl, inr, ℕ, List, [], ◌∷◌, Option, Some, None, is_some, refl, sym, ap}
use Rattle.std.proofs.lemmas.Bool.{false≢true}
use Rattle.elf32_loader.specs.Pictures.{Picture}
use Rattle.elf32_loader.specs.Programs.{IsImage}
use Rattle.elf32_loader.proofs.Faults.{no_image}
use Rattle.elf32_loader.proofs.OneFault.{one_first_fault}
use Rattle.elf32_loader.proofs.Unique.{same_image}
use Rattle.enclosure_regions.specs.declared.region_parts.Region.{Region}
use Rattle.enclosure_regions.specs.FileLaws.{FaultsAreOne, FilesAreOne, SpelledHaveNoFault}
use Rattle.cut_file.specs.Cuts.{CutPicture}
use Rattle.cut_file.specs.Texts.{CutText}
use Rattle.cut_file.proofs.FileTexts.{cut_no_fault, one_cut, one_fault}
use Rattle.command_line.specs.CommandLines.{GuestFiles}
use Rattle.command_tasks.specs.declared.refusals.Refusal.{Refusal}
use Rattle.command_tasks.specs.declared.refusals.Refusal.TheVariants.{Program, Regions, Cut}
use Rattle.command_tasks.specs.Guests.{Guest, AreGuestFiles, AreRegions, IsGuest, IsGuestRefusal}
use Rattle.command_tasks.specs.Guests.{and_others}
use Rattle.command_tasks.specs.Refusals.{IsCutRefusal, IsProgramRefusal, IsRegionsRefusal}
use Rattle.commands.proofs.Readings.{IsReading}

-- a region file has one reading, and no fault beside it
pub record RegionLaws : Type 0 where
  pub one : FilesAreOne
  pub none : SpelledHaveNoFault
  pub faults : FaultsAreOne

-- ---- texts

pub program_reading : (file : List ℕ) → IsReading Picture (IsImage file) (IsProgramRefusal file)
program_reading file = record {
  one = λ a b is also. same_image file a b is also;
  none = λ a refusal is (fault, first, e). no_image file fault first a is;
  refused = λ first second (fault, is, e) (other, also, f).
      e ∙ (ap (λ x. Program x) (one_first_fault file fault other is also) ∙ sym f);
}

pub cut_reading : (file : List ℕ) → IsReading CutPicture (CutText file) (IsCutRefusal file)
cut_reading file = record {
  one = λ a b is also. one_cut file a b is also;
  none = λ a refusal is (fault, first, e). cut_no_fault file a fault is first.1 first.0;
  refused = λ first second (fault, is, e) (other, also, f).
      e ∙ (ap (λ x. Cut x) (one_fault file fault other is.1 also.1 is.0 also.0) ∙ sym f);
}

same_regions : RegionLaws → (file : Option (List ℕ)) (first second : List Region) → AreRegions file first →
    AreRegions file second → first ≡ second
same_regions laws None first second one other = one ∙ sym other
same_regions laws (Some file) first second one other = laws.one file first second one other

no_regions_fault : RegionLaws → (file : Option (List ℕ)) (regions : List Region) (refusal : Refusal) →
    AreRegions file regions → IsRegionsRefusal file refusal → ⊥
no_regions_fault laws None regions refusal are is = is
no_regions_fault laws (Some file) regions refusal are (fault, first, e) = laws.none file regions fault are first.0

one_regions_fault : RegionLaws → (file : Option (List ℕ)) (first second : Refusal) → IsRegionsRefusal file first →
    IsRegionsRefusal file second → first ≡ second
one_regions_fault laws None first second is also = absurd is
one_regions_fault laws (Some file) first second (fault, is, e) (other, also, f) =
    e ∙ (ap (λ x. Regions x) (laws.faults file fault other is.0 also.0) ∙ sym f)

-- ---- a guest

abbrev made_guest : Picture → List ℕ → List Region → Guest
made_guest program public_input regions = record {
  program = program;
  public_input = public_input;
  regions = regions;
}

same_guest : RegionLaws → (files : GuestFiles) (a b : Guest) → IsGuest files a → IsGuest files b → a ≡ b
same_guest laws files a b one other =
    ap (λ v. made_guest v a.public_input a.regions) (same_image files.program a.program b.program one.program other.program)
    ∙ (ap (λ v. made_guest b.program v a.regions) (sym one.public_input ∙ other.public_input)
    ∙ ap (λ v. made_guest b.program b.public_input v)
    (same_regions laws files.region_file a.regions b.regions one.regions other.regions))

no_guest_fault : RegionLaws → (files : GuestFiles) (guest : Guest) (refusal : Refusal) → IsGuest files guest →
    IsGuestRefusal files refusal → ⊥
no_guest_fault laws files guest refusal is (inl (fault, first, e)) = no_image files.program fault first guest.program is.program
no_guest_fault laws files guest refusal is (inr (picture, image, first)) =
    no_regions_fault laws files.region_file guest.regions refusal is.regions first

one_guest_fault : RegionLaws → (files : GuestFiles) (first second : Refusal) → IsGuestRefusal files first →
    IsGuestRefusal files second → first ≡ second
one_guest_fault laws files first second (inl is) (inl also) = (program_reading files.program).refused first second is also
one_guest_fault laws files first second (inl is) (inr (picture, image, also)) =
    absurd ((program_reading files.program).none picture first image is)
one_guest_fault laws files first second (inr (picture, image, is)) (inl also) =
    absurd ((program_reading files.program).none picture second image also)
one_guest_fault laws files first second (inr (picture, image, is)) (inr (other, alike, also)) =
    one_regions_fault laws files.region_file first second is also

pub guest_reading : RegionLaws → (files : GuestFiles) → IsReading Guest (IsGuest files) (IsGuestRefusal files)
guest_reading laws files = record {
  one = same_guest laws files;
  none = no_guest_fault laws files;
  refused = one_guest_fault laws files;
}

-- ---- the order of files

-- the files that a name of a region file, or none, stands for
pub record SameOthers (file other : Option (List ℕ)) (rest more : List (List ℕ)) : Type 0 where
  pub files : file ≡ other
  pub others : rest ≡ more

pub same_others : (file other : Option (List ℕ)) (rest more : List (List ℕ)) → is_some file ≡ is_some other →
    and_others file rest ≡ and_others other more → SameOthers file other rest more
same_others None None rest more e are = record { files = refl; others = are }
same_others None (Some file) rest more e are = absurd (false≢true e)
same_others (Some file) None rest more e are = absurd (false≢true (sym e))
same_others (Some file) (Some other) rest more e are =
    let same : file ≡ other = cc in
    let rests : rest ≡ more = cc in
    record { files = ap (λ f. Some f) same; others = rests }

abbrev made_files : List ℕ → List ℕ → Option (List ℕ) → GuestFiles
made_files program public_input region_file = record {
  program = program;
  public_input = public_input;
  region_file = region_file;
}

same_files : (a b : GuestFiles) → a.program ≡ b.program → a.public_input ≡ b.public_input →
    a.region_file ≡ b.region_file → a ≡ b
same_files a b program public_input region_file =
    ap (λ v. made_files v a.public_input a.region_file) program
    ∙ (ap (λ v. made_files b.program v a.region_file) public_input
    ∙ ap (λ v. made_files b.program b.public_input v) region_file)

-- of a guest and a cut
pub record SameCheckFiles (a b : GuestFiles) (cut other : List ℕ) (rest more : List (List ℕ)) : Type 0 where
  pub guests : a ≡ b
  pub cuts : cut ≡ other
  pub secrets : rest ≡ more

pub same_check_files : (names : GuestFiles) (files : List (List ℕ)) (a b : GuestFiles) (cut other : List ℕ)
    (rest more : List (List ℕ)) → AreGuestFiles names files a (cut ∷ []) rest →
    AreGuestFiles names files b (other ∷ []) more → SameCheckFiles a b cut other rest more
same_check_files names files a b cut other rest more one two =
    let are : a.program ∷ a.public_input ∷ cut ∷ and_others a.region_file rest
    ≡ b.program ∷ b.public_input ∷ other ∷ and_others b.region_file more = sym one.are ∙ two.are in
    let program : a.program ≡ b.program = cc in
    let public_input : a.public_input ≡ b.public_input = cc in
    let cuts : cut ≡ other = cc in
    let others : and_others a.region_file rest ≡ and_others b.region_file more = cc in
    let same = same_others a.region_file b.region_file rest more (one.named ∙ sym two.named) others in
    record { guests = same_files a b program public_input same.files; cuts = cuts; secrets = same.others }

-- of a guest alone
pub record SameRunFiles (a b : GuestFiles) (rest more : List (List ℕ)) : Type 0 where
  pub guests : a ≡ b
  pub secrets : rest ≡ more

pub same_run_files : (names : GuestFiles) (files : List (List ℕ)) (a b : GuestFiles) (rest more : List (List ℕ)) →
    AreGuestFiles names files a [] rest → AreGuestFiles names files b [] more → SameRunFiles a b rest more
same_run_files names files a b rest more one two =
    let are : a.program ∷ a.public_input ∷ and_others a.region_file rest
    ≡ b.program ∷ b.public_input ∷ and_others b.region_file more = sym one.are ∙ two.are in
    let program : a.program ≡ b.program = cc in
    let public_input : a.public_input ≡ b.public_input = cc in
    let others : and_others a.region_file rest ≡ and_others b.region_file more = cc in
    let same = same_others a.region_file b.region_file rest more (one.named ∙ sym two.named) others in
    record { guests = same_files a b program public_input same.files; secrets = same.others }
