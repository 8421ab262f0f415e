-- The lines of a cut in order, up to any of them.
use Rattle.std.specs.Prelude.{ℕ, ◌&&◌, nat_le, if◌then◌else◌, Bool, true, false, List, [], ◌∷◌, ◌++◌}
use Rattle.std.specs.Prelude.{Option, Some, None}
use Rattle.cut_file.specs.declared.lines.Line.{Line}
use Rattle.cut_file.specs.declared.lines.Line.TheVariants.{Version, Secret, Bits, Skip, Point, End}
use Rattle.cut_file.specs.Cuts.{CutPicture, is_empty, is_cut_picture, is_version}
use Rattle.cut_file.specs.Texts.{cut_lines, lines_text, open_lines}

-- no line, the first, the first two, at least three but not the last, or all
pub data Front : Type 0 where
  Nothing : Front
  Versioned : (version : ℕ) → Front
  Sized : (version secret_len : ℕ) → Front
  Listed : (cut : CutPicture) → Front
  Whole : (cut : CutPicture) → Front

-- the version of the cut; before its line, any
abbrev pub version_of : Front → ℕ
version_of Nothing = 1
version_of (Versioned version) = version
version_of (Sized version secret_len) = version
version_of (Listed cut) = cut.version
version_of (Whole cut) = cut.version

abbrev pub lines_before : Front → List Line
lines_before Nothing = []
lines_before (Versioned version) = Version version ∷ []
lines_before (Sized version secret_len) = Version version ∷ (Secret secret_len ∷ [])
lines_before (Listed cut) = open_lines cut
lines_before (Whole cut) = cut_lines cut

abbrev pub front_text : Front → List ℕ
front_text front = lines_text (version_of front) (lines_before front)

-- each line is in its range, and exceeds the line of its kind before it
abbrev pub is_front : Front → Bool
is_front Nothing = true
is_front (Versioned version) = is_version version
is_front (Sized version secret_len) = is_version version && nat_le secret_len 65536
is_front (Listed cut) = is_cut_picture cut
is_front (Whole cut) = is_cut_picture cut

abbrev pub is_whole : Front → Bool
is_whole Nothing = false
is_whole (Versioned version) = false
is_whole (Sized version secret_len) = false
is_whole (Listed cut) = false
is_whole (Whole cut) = true

-- a cut without regions and points
abbrev pub bare_cut : ℕ → ℕ → ℕ → CutPicture
bare_cut version secret_len bits = record {
  version = version;
  secret_len = secret_len;
  bits = bits;
  skip = [];
  points = [];
}

-- the lines with one more, where one of its form may stand after them. A skip may not stand after a point
abbrev pub followed : Front → Line → Option Front
followed Nothing (Version version) = Some (Versioned version)
followed (Versioned version) (Secret secret_len) = Some (Sized version secret_len)
followed (Sized version secret_len) (Bits bits) = Some (Listed (bare_cut version secret_len bits))
followed (Listed cut) (Skip region) =
    if is_empty cut.points then Some (Listed (record cut { skip = cut.skip ++ (region ∷ []) })) else None
followed (Listed cut) (Point cut_point) = Some (Listed (record cut { points = cut.points ++ (cut_point ∷ []) }))
followed (Listed cut) End = Some (Whole cut)
followed _ _ = None
