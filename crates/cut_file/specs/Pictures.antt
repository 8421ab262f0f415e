-- The picture of a cut, and of the lines that have been read.
use Rattle.cut_file.specs.declared.cuts.Cut.{Cut}
use Rattle.cut_file.specs.declared.drafts.Draft.{Draft}
use Rattle.cut_file.specs.declared.drafts.Draft.TheVariants as drafts
use Rattle.cut_file.specs.Cuts.{CutPicture}
use Rattle.cut_file.specs.Fronts.{Front}
use Rattle.cut_file.specs.Fronts.Front.{Nothing, Versioned, Sized, Listed, Whole}

abbrev pub cut_picture : Cut → CutPicture
cut_picture cut = record {
  version = cut.version;
  secret_len = cut.secret_len;
  bits = cut.bits;
  skip = cut.skip;
  points = cut.points;
}

abbrev pub front_of : Draft → Front
front_of drafts.Nothing = Nothing
front_of (drafts.Versioned version) = Versioned version
front_of (drafts.Sized version secret_len) = Sized version secret_len
front_of (drafts.Listed cut) = Listed (cut_picture cut)
front_of (drafts.Whole cut) = Whole (cut_picture cut)
