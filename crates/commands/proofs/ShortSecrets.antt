-- The secret of a run that is loaded is short.
use Rattle.std.proofs.Common.{◌≡◌, ◌≤◌, ◌++◌, ℕ, List, [], ◌∷◌, length, Option, Some, None, is_some, sym, subst}
use Rattle.std.proofs.lemmas.Bool.{false≢true}
use Rattle.command_line.specs.CommandLines.{GuestFiles}
use Rattle.command_tasks.specs.Guests.{AreGuestFiles, and_others, guest_wants, region_wants, secret_wants}
use Rattle.command_tasks.specs.Loading.{AreWithin}

pub secret_short : (names : GuestFiles) (name secret : List ℕ) (files : List (List ℕ)) (guest : GuestFiles) →
    AreGuestFiles names files guest [] (secret ∷ []) → AreWithin (guest_wants names [] (name ∷ [])) files →
    length secret ≤ 65536
secret_short names name secret files guest are within =
    behind names.region_file guest.region_file are.named
    (subst (λ fs. AreWithin (guest_wants names [] (name ∷ [])) fs) are.are within).1.1
  where
    behind : (wanted file : Option (List ℕ)) → is_some file ≡ is_some wanted →
        AreWithin (region_wants wanted ++ secret_wants (name ∷ [])) (and_others file (secret ∷ [])) →
        length secret ≤ 65536
    behind None None named h = h.0
    behind None (Some file) named h = absurd (false≢true (sym named))
    behind (Some wanted) None named h = absurd (false≢true named)
    behind (Some wanted) (Some file) named h = h.1.0
