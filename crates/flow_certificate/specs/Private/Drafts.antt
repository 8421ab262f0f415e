-- How the lines of a certificate follow each other.
use Rattle.std.specs.Prelude.{◌≡◌, ◌==◌, ◌&&◌, Bool, true, false, List, [], ◌∷◌, ◌++◌, length, map, if◌then◌else◌}
use Rattle.std.specs.Prelude.{Option, Some, None, option_and_then}
use Rattle.std.specs.Ordering.{is_lt, nat_cmp}
use Rattle.std.specs.declared.cmp.Ordering.{Ordering}
use Rattle.flow_base.specs.PointOrders.{point_cmp}
use Rattle.flow_graph.specs.Graphs.{are_relays, arc_cmp, is_link}
use Rattle.flow_certificate.specs.declared.drafts.Draft.{Draft}
use Rattle.flow_certificate.specs.declared.drafts.Stage.{Stage}
use Rattle.flow_certificate.specs.declared.drafts.Stage.TheVariants as stages
use Rattle.flow_certificate.specs.declared.lines.Line.{Line}
use Rattle.flow_certificate.specs.declared.lines.Line.TheVariants.{Version, Value, Point, Relay, Link, End}
use Rattle.flow_certificate.specs.declared.lines.LinkLine.{LinkLine}
use Rattle.flow_certificate.specs.declared.lines.PointLine.{PointLine}
use Rattle.flow_certificate.specs.declared.lines.RelayLine.{RelayLine}
use Rattle.flow_certificate.specs.Certificates.{Picture, lines_of, open_lines, region_of}

-- the first lines of a certificate, and how far they come
pub record Sketch : Type 0 where
  pub stage : Stage
  pub picture : Picture

abbrev pub is_nothing : Stage → Bool
is_nothing stages.Nothing = true
is_nothing stages.Version = false
is_nothing stages.Open = false
is_nothing stages.Whole = false

abbrev pub is_version : Stage → Bool
is_version stages.Nothing = false
is_version stages.Version = true
is_version stages.Open = false
is_version stages.Whole = false

abbrev pub is_open : Stage → Bool
is_open stages.Nothing = false
is_open stages.Version = false
is_open stages.Open = true
is_open stages.Whole = false

abbrev pub is_empty : {A : Type 0} → List A → Bool
is_empty items = length items == 0

-- an item comes after the last of these
abbrev pub may_follow : {A : Type 0} → (A → A → Ordering) → List A → A → Bool
may_follow cmp [] item = true
may_follow cmp (first ∷ []) item = is_lt (cmp first item)
may_follow cmp (first ∷ (second ∷ others)) item = may_follow cmp (second ∷ others) item

abbrev pub point_line_cmp : PointLine → PointLine → Ordering
point_line_cmp first second = point_cmp first.point second.point

abbrev pub link_line_cmp : LinkLine → LinkLine → Ordering
link_line_cmp first second = arc_cmp first.link second.link

abbrev pub is_bare : Picture → Bool
is_bare picture = is_empty picture.points && (is_empty picture.relays && is_empty picture.links)

abbrev pub may_add_point : Sketch → PointLine → Bool
may_add_point sketch line =
    is_open sketch.stage && (is_empty sketch.picture.relays && (is_empty sketch.picture.links
    && may_follow point_line_cmp sketch.picture.points line))

abbrev pub may_add_relay : Sketch → RelayLine → Bool
may_add_relay sketch line =
    is_open sketch.stage && (is_empty sketch.picture.links
    && may_follow nat_cmp (map region_of sketch.picture.relays) line.region)

abbrev pub may_add_link : Sketch → LinkLine → Bool
may_add_link sketch line =
    is_open sketch.stage && (may_follow link_line_cmp sketch.picture.links line
    && is_link (length sketch.picture.points) (map region_of sketch.picture.relays) line.link)

abbrev pub with_point : Picture → PointLine → Picture
with_point picture line = record picture { points = picture.points ++ (line ∷ []) }

abbrev pub with_relay : Picture → RelayLine → Picture
with_relay picture line = record picture { relays = picture.relays ++ (line ∷ []) }

abbrev pub with_link : Picture → LinkLine → Picture
with_link picture line = record picture { links = picture.links ++ (line ∷ []) }

-- the sketch with one more line, where it may stand there
unfoldable pub step : Sketch → Line → Option Sketch
step sketch Version = if is_nothing sketch.stage then Some (record sketch { stage = stages.Version }) else None
step sketch (Value value) =
    if is_version sketch.stage && is_bare sketch.picture
    then Some (record { stage = stages.Open; picture = record sketch.picture { value = value } }) else None
step sketch (Point line) =
    if may_add_point sketch line then Some (record sketch { picture = with_point sketch.picture line }) else None
step sketch (Relay line) =
    if may_add_relay sketch line then Some (record sketch { picture = with_relay sketch.picture line }) else None
step sketch (Link line) =
    if may_add_link sketch line then Some (record sketch { picture = with_link sketch.picture line }) else None
step sketch End = if is_open sketch.stage then Some (record sketch { stage = stages.Whole }) else None

-- the sketch with more lines
abbrev pub steps : Sketch → List Line → Option Sketch
steps sketch [] = Some sketch
steps sketch (line ∷ lines) = option_and_then (λ next. steps next lines) (step sketch line)

-- the sketch of no lines
abbrev pub blank : Sketch
blank = record { stage = stages.Nothing; picture = record { value = 0; points = []; relays = []; links = [] } }

-- the lines of a sketch
abbrev pub lines_in : Stage → Picture → List Line
lines_in stages.Nothing picture = []
lines_in stages.Version picture = Version ∷ []
lines_in stages.Open picture = open_lines picture
lines_in stages.Whole picture = lines_of picture

-- ---- drafts

abbrev pub sketch_of : Draft → Sketch
sketch_of draft = record {
  stage = draft.stage;
  picture = record {
    value = draft.value;
    points = draft.points;
    relays = draft.relays;
    links = draft.links;
  };
}

-- what comes of a line: the new sketch where it is taken
abbrev pub taken : Bool → Sketch → Option Sketch
taken true sketch = Some sketch
taken false sketch = None

-- the regions are those of the relays, and ascend
pub record IsDraft (draft : Draft) : Type 0 where
  pub same : draft.regions ≡ map region_of draft.relays
  pub ascend : are_relays draft.regions ≡ true
