-- A cut has one text in a version.
use Rattle.std.proofs.Common.{◌≡◌, ◌==◌, ◌∙◌, ℕ, List, Bool, true, false, sym, ap}
use Rattle.std.specs.Prelude.{MatchBool}
use Rattle.cut_file.specs.Cuts.{CutPicture, is_cut_picture}
use Rattle.cut_file.specs.Folds.{IsFold}
use Rattle.cut_file.specs.Texts.{cut_text}
use Rattle.cut_file.proofs.OneFold.{one_fold}
use Rattle.task_answers.specs.CutTexts.{IsCutText}

one_in_version : (is_fold : Bool) (cut one other : CutPicture) → is_cut_picture one ≡ true → is_cut_picture other ≡ true →
    MatchBool is_fold (IsFold cut one) (one ≡ cut) → MatchBool is_fold (IsFold cut other) (other ≡ cut) → one ≡ other
one_in_version true cut one other valid also is second = one_fold cut one other valid also is second
one_in_version false cut one other valid also is second = is ∙ sym second

pub one_cut_text : (version : ℕ) (measured : CutPicture) (text other : List ℕ) → IsCutText version measured text →
    IsCutText version measured other → text ≡ other
one_cut_text version measured text other is also =
    let cut : is.cut ≡ also.cut = one_in_version (version == 2) measured is.cut also.cut is.is_text.valid
    also.is_text.valid is.in_version also.in_version in
    is.is_text.text ∙ (ap cut_text cut ∙ sym also.is_text.text)
