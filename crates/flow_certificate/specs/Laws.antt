-- What holds of all texts of certificates.
use Rattle.std.specs.Prelude.{◌≡◌, ℕ, List}
use Rattle.flow_certificate.specs.Certificates.{CertText, IsFirstFailure, Picture}

-- a text is that of one certificate: what is written is read again as it was
abbrev pub TextsAreOne : Type 0
TextsAreOne = (file : List ℕ) (first second : Picture) → CertText file first → CertText file second → first ≡ second

-- a text has no line that fails
abbrev pub TextsHaveNoFailure : Type 0
TextsHaveNoFailure = (file : List ℕ) (picture : Picture) (n : ℕ) → CertText file picture → ¬ IsFirstFailure file n
