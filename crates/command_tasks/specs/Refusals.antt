-- The statuses and the texts of refusals. Out of memory is never printed.
use Rattle.std.specs.Prelude.{◌≡◌, ◌≢◌, ℕ, List, ◌++◌, codes, Option, None, Some, Err}
use Rattle.std.specs.Fmt.{decimal}
use Rattle.elf32_loader.specs.declared.fault.ElfFault.{ElfFault}
use Rattle.elf32_loader.specs.declared.fault.ElfFault.TheVariants.{Memory as NoRoomForProgram}
use Rattle.elf32_loader.specs.Fault.{program_fault_text}
use Rattle.elf32_loader.specs.FirstFault.{IsFirstFault}
use Rattle.cut_file.specs.declared.faults.CutFault.{CutFault}
use Rattle.cut_file.specs.declared.faults.CutFault.TheVariants.{Memory as NoRoomForCut}
use Rattle.cut_file.specs.FaultTexts.{cut_fault_text}
use Rattle.cut_file.specs.Faults.{FirstCutFault}
use Rattle.enclosure_regions.specs.declared.region_faults.RegionFault.{RegionFault}
use Rattle.enclosure_regions.specs.declared.region_faults.RegionFault.TheVariants.{Memory as NoRoomForRegions}
use Rattle.enclosure_regions.specs.Reading.{FirstRegionFault}
use Rattle.enclosure_regions.specs.Texts.{region_fault_text}
use Rattle.rv32im_asm.specs.declared.fault.AsmFault.{AsmFault}
use Rattle.rv32im_asm.specs.declared.fault.AsmFault.TheVariants.{Memory as NoRoomForSource}
use Rattle.rv32im_asm.specs.Assembling.{assembled}
use Rattle.rv32im_asm.specs.FaultTexts.{source_fault_text}
use Rattle.flow_certificate.specs.declared.faults.FormFault.{FormFault}
use Rattle.flow_certificate.specs.declared.faults.FormFault.TheVariants.{Memory as NoRoomForCertificate}
use Rattle.flow_certificate.specs.Certificates.{IsFormFault}
use Rattle.flow_certificate.specs.VerdictTexts.{form_fault_text}
use Rattle.run_labels.specs.declared.faults.MeasureFault.{MeasureFault}
use Rattle.run_labels.specs.declared.faults.MeasureFault.TheVariants.{Memory as NoRoomForRun}
use Rattle.many_runs.specs.declared.faults.ManyFault.{ManyFault}
use Rattle.many_runs.specs.declared.faults.ManyFault.TheVariants.{Memory as NoRoomForRuns}
use Rattle.many_runs.specs.Faults.{many_fault_text}
use Rattle.region_learn.specs.declared.faults.LearnFault.{LearnFault}
use Rattle.region_learn.specs.declared.faults.LearnFault.TheVariants.{Memory as NoRoomForLearning}
use Rattle.region_learn.specs.Faults.{learn_fault_text}
use Rattle.run_labels.specs.Faults.{run_fault_text}
use Rattle.command_tasks.specs.declared.refusals.Refusal.{Refusal}
use Rattle.command_tasks.specs.declared.refusals.Refusal.TheVariants.{Usage, Program, Regions, Cut, Source, Load}
use Rattle.command_tasks.specs.declared.refusals.Refusal.TheVariants.{Certificate, Run, Runs, Learn, TooLarge, Memory}
use Rattle.command_tasks.specs.declared.statuses.Status.{Status}
use Rattle.command_tasks.specs.declared.statuses.Status.TheVariants as statuses

abbrev pub refusal_status : Refusal → Status
refusal_status Usage = statuses.Usage
refusal_status (Program fault) = statuses.Malformed
refusal_status (Regions fault) = statuses.Malformed
refusal_status (Cut fault) = statuses.Malformed
refusal_status (Source fault) = statuses.Malformed
refusal_status (Certificate fault) = statuses.Malformed
refusal_status (Run fault) = statuses.RunRefused
refusal_status (Runs fault) = statuses.RunRefused
refusal_status (Learn fault) = statuses.RunRefused
refusal_status (Load name) = statuses.LoadFailed
refusal_status (TooLarge name number) = statuses.TooLarge
refusal_status Memory = statuses.NoMemory

abbrev pub refusal_text : Refusal → List ℕ
refusal_text Usage = codes "refused 2 usage"
refusal_text (Program fault) = codes "refused 3 program " ++ program_fault_text fault
refusal_text (Regions fault) = codes "refused 3 regions " ++ region_fault_text fault
refusal_text (Cut fault) = codes "refused 3 cut " ++ cut_fault_text fault
refusal_text (Source fault) = codes "refused 3 source " ++ source_fault_text fault
refusal_text (Certificate fault) = codes "refused 3 certificate " ++ form_fault_text fault
refusal_text (Run fault) = codes "refused 4 " ++ run_fault_text fault
refusal_text (Runs fault) = codes "refused 4 " ++ many_fault_text fault
refusal_text (Learn fault) = codes "refused 4 " ++ learn_fault_text fault
refusal_text (Load name) = codes "refused 5 load " ++ name
refusal_text (TooLarge name number) = codes "refused 6 too-large " ++ (name ++ (codes " " ++ decimal number))
refusal_text Memory = codes "memory"

-- the refusal by a fault of a file; out of memory stays what it is
abbrev pub RefusesProgram : ElfFault → Refusal → Type 0
RefusesProgram fault refusal =
    (fault ≡ NoRoomForProgram → refusal ≡ Memory) × (fault ≢ NoRoomForProgram → refusal ≡ Program fault)

abbrev pub RefusesRegions : RegionFault → Refusal → Type 0
RefusesRegions fault refusal =
    (fault ≡ NoRoomForRegions → refusal ≡ Memory) × (fault ≢ NoRoomForRegions → refusal ≡ Regions fault)

abbrev pub RefusesCut : CutFault → Refusal → Type 0
RefusesCut fault refusal = (fault ≡ NoRoomForCut → refusal ≡ Memory) × (fault ≢ NoRoomForCut → refusal ≡ Cut fault)

abbrev pub RefusesSource : AsmFault → Refusal → Type 0
RefusesSource fault refusal =
    (fault ≡ NoRoomForSource → refusal ≡ Memory) × (fault ≢ NoRoomForSource → refusal ≡ Source fault)

abbrev pub RefusesCertificate : FormFault → Refusal → Type 0
RefusesCertificate fault refusal =
    (fault ≡ NoRoomForCertificate → refusal ≡ Memory) × (fault ≢ NoRoomForCertificate → refusal ≡ Certificate fault)

abbrev pub RefusesRun : MeasureFault → Refusal → Type 0
RefusesRun fault refusal = (fault ≡ NoRoomForRun → refusal ≡ Memory) × (fault ≢ NoRoomForRun → refusal ≡ Run fault)

abbrev pub RefusesRuns : ManyFault → Refusal → Type 0
RefusesRuns fault refusal =
    (fault ≡ NoRoomForRuns → refusal ≡ Memory) × (fault ≢ NoRoomForRuns → refusal ≡ Runs fault)

abbrev pub RefusesLearning : LearnFault → Refusal → Type 0
RefusesLearning fault refusal =
    (fault ≡ NoRoomForLearning → refusal ≡ Memory) × (fault ≢ NoRoomForLearning → refusal ≡ Learn fault)

-- ---- what is wrong with what is read

-- the refusal by this fault, which is the first
abbrev pub IsRefusedBy : {F : Type 0} → (F → Type 0) → (F → Refusal) → Refusal → Type 0
IsRefusedBy {F = F} IsFirst refused refusal = (fault : F) × IsFirst fault × (refusal ≡ refused fault)

abbrev pub IsProgramRefusal : List ℕ → Refusal → Type 0
IsProgramRefusal file refusal = IsRefusedBy (λ fault. IsFirstFault file fault) Program refusal

abbrev pub IsCutRefusal : List ℕ → Refusal → Type 0
IsCutRefusal file refusal = IsRefusedBy (λ fault. FirstCutFault file fault × (fault ≢ NoRoomForCut)) Cut refusal

abbrev pub IsSourceRefusal : List ℕ → Refusal → Type 0
IsSourceRefusal file refusal = IsRefusedBy (λ fault. assembled file ≡ Err fault) Source refusal

abbrev pub IsCertificateRefusal : List ℕ → Refusal → Type 0
IsCertificateRefusal file refusal =
    IsRefusedBy (λ fault. IsFormFault file fault × (fault ≢ NoRoomForCertificate)) Certificate refusal

-- of the region file, where one is named
abbrev pub IsRegionsRefusal : Option (List ℕ) → Refusal → Type 0
IsRegionsRefusal None refusal = ⊥
IsRegionsRefusal (Some file) refusal =
    IsRefusedBy (λ fault. FirstRegionFault file fault × (fault ≢ NoRoomForRegions)) Regions refusal
