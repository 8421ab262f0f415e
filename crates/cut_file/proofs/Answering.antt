-- What reading answers, as the text and its faults tell it.
use Rattle.std.proofs.Common.{◌≡◌, ◌≢◌, List, ℕ, Result, Ok, Err, sym, ◌∙◌, ap, subst}
use Rattle.std.specs.Prelude.{IfOk, IfErr}
use Rattle.cut_file.specs.declared.cuts.Cut.{Cut}
use Rattle.cut_file.specs.declared.faults.CutFault.{CutFault}
use Rattle.cut_file.specs.declared.faults.CutFault.TheVariants.{Version, Line, Order, Truncated, Trailing, Memory}
use Rattle.cut_file.specs.Cuts.{CutPicture}
use Rattle.cut_file.specs.Texts.{CutText}
use Rattle.cut_file.specs.Faults.{FirstCutFault}
use Rattle.cut_file.specs.Pictures.{cut_picture}
use Rattle.cut_file.specs.Private.Reading.{cut_in}
use Rattle.cut_file.proofs.FileReads.{CutAnswer, cut_answer}
use Rattle.cut_file.proofs.FileTexts.{cut_own, fault_own, faulty, faulty_same, fine}

abbrev pub ReadsFile : List ℕ → Result Cut CutFault → Type 0
ReadsFile file answer = IfOk answer (λ cut. cut_in file ≡ Ok (cut_picture cut))

abbrev pub RefusesFile : List ℕ → Result Cut CutFault → Type 0
RefusesFile file answer = IfErr answer (λ fault. fault ≢ Memory → cut_in file ≡ Err fault)

pub answers_text : (file : List ℕ) (answer : Result Cut CutFault) → ReadsFile file answer →
    IfOk answer (λ cut. CutText file (cut_picture cut))
answers_text file (Ok cut) ok = subst (CutAnswer file) ok (cut_answer file)
answers_text file (Err fault) ok = tt

fault_first : (fault : CutFault) (file : List ℕ) → (fault ≢ Memory → cut_in file ≡ Err fault) →
    FirstCutFault file fault
fault_first Version file err = subst (CutAnswer file) (err (λ e. cc)) (cut_answer file)
fault_first (Line number) file err = subst (CutAnswer file) (err (λ e. cc)) (cut_answer file)
fault_first (Order number) file err = subst (CutAnswer file) (err (λ e. cc)) (cut_answer file)
fault_first Truncated file err = subst (CutAnswer file) (err (λ e. cc)) (cut_answer file)
fault_first (Trailing offset) file err = subst (CutAnswer file) (err (λ e. cc)) (cut_answer file)
fault_first Memory file err = tt

pub answers_fault : (file : List ℕ) (answer : Result Cut CutFault) → RefusesFile file answer →
    IfErr answer (λ fault. FirstCutFault file fault)
answers_fault file (Ok cut) err = tt
answers_fault file (Err fault) err = fault_first fault file err

differ : (cut : CutPicture) (fault : CutFault) → fine cut ≡ faulty fault → ⊥
differ cut fault e = cc

pub answers_refused : (file : List ℕ) (answer : Result Cut CutFault) → RefusesFile file answer →
    IfErr answer (λ fault. fault ≢ Memory → (cut : CutPicture) → ¬ CutText file cut)
answers_refused file (Ok cut) err = tt
answers_refused file (Err fault) err = λ free cut text. differ cut fault (sym (cut_own file cut text) ∙ err free)

abbrev failed : CutFault → Result Cut CutFault
failed fault = Err fault

pub answers_only : (file : List ℕ) (answer : Result Cut CutFault) (fault : CutFault) → ReadsFile file answer →
    RefusesFile file answer →
    FirstCutFault file fault → fault ≢ Memory → answer ≢ Err Memory → answer ≡ Err fault
answers_only file (Ok cut) fault ok err known free fits = absurd (differ (cut_picture cut) fault (sym ok
    ∙ fault_own fault file free known))
answers_only file (Err other) fault ok err known free fits =
    let told : cut_in file ≡ Err other = err (λ e. fits (ap failed e)) in
    ap failed (faulty_same {A = CutPicture} other fault (sym told ∙ fault_own fault file free known))
