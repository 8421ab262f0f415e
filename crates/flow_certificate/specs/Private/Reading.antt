-- How far a file is read.
use Rattle.std.specs.Prelude.{◌≡◌, ℕ, ◌+◌, ◌*◌, ◌≤◌, Bool, true, false, List, ◌++◌, length, Some}
use Rattle.std.specs.List.{list_all}
use Rattle.flow_certificate.specs.declared.drafts.Draft.{Draft}
use Rattle.flow_certificate.specs.declared.drafts.Stage.{Stage}
use Rattle.flow_certificate.specs.declared.drafts.Stage.TheVariants as stages
use Rattle.flow_certificate.specs.declared.lines.Line.{Line}
use Rattle.flow_certificate.specs.Certificates.{CertText, lines_text}
use Rattle.flow_certificate.specs.Private.Drafts.{IsDraft, blank, sketch_of, steps}
use Rattle.flow_certificate.specs.Lines.{is_line}

-- the file begins with lines from which the draft is made, each of two bytes or more, and the next line has this number
pub record IsReading (file rest : List ℕ) (draft : Draft) (number : ℕ) : Type 0 where
  pub lines : List Line
  pub known : list_all is_line lines ≡ true
  pub drafted : steps blank lines ≡ Some (sketch_of draft)
  pub text : file ≡ lines_text lines ++ rest
  pub counted : number ≡ length lines + 1
  pub shorter : 2 * number + length rest ≤ length file + 2
  pub is_draft : IsDraft draft

abbrev pub is_whole : Stage → Bool
is_whole stages.Nothing = false
is_whole stages.Version = false
is_whole stages.Open = false
is_whole stages.Whole = true

-- the draft is made from the whole file
pub record IsWholeDraft (file : List ℕ) (draft : Draft) : Type 0 where
  pub text : CertText file ((sketch_of draft).picture)
  pub is_draft : IsDraft draft
