-- What is drafted from lines has these lines, and makes a graph.
use Rattle.std.proofs.Common.{◌≡◌, ℕ, ◌&&◌, Bool, true, false, List, [], ◌∷◌, ◌++◌, length, map, if◌then◌else◌}
use Rattle.std.proofs.Common.{Option, Some, None, refl, sym, ap, ◌∙◌, subst, append_assoc, append-nil, arith}
use Rattle.std.specs.Prelude.{option_and_then}
use Rattle.std.specs.List.{list_all}
use Rattle.std.specs.Ordering.{nat_cmp}
use Rattle.std.proofs.lemmas.Bool.{and_from, and_parts}
use Rattle.std.proofs.lemmas.List.{length-map}
use Rattle.flow_graph.specs.Graphs.{arc_cmp, are_arcs, are_points, are_relays, ascend, has_capacity, is_link}
use Rattle.flow_graph.specs.Graphs.{node_cmp}
use Rattle.flow_certificate.specs.declared.drafts.Stage.{Stage}
use Rattle.flow_certificate.specs.declared.drafts.Stage.TheVariants as stages
use Rattle.flow_certificate.specs.declared.lines.Line.{Line}
use Rattle.flow_certificate.specs.declared.lines.Line.TheVariants.{Version, Value, Point, Relay, Link, End}
use Rattle.flow_certificate.specs.declared.lines.LinkLine.{LinkLine}
use Rattle.flow_certificate.specs.declared.lines.PointLine.{PointLine}
use Rattle.flow_certificate.specs.declared.lines.RelayLine.{RelayLine}
use Rattle.flow_certificate.specs.Certificates.{Picture, arc_of, makes_graph, node_of, open_lines, region_of}
use Rattle.flow_certificate.specs.Private.Drafts.{Sketch, blank, is_bare, is_empty, is_nothing, is_open, is_version, lines_in}
use Rattle.flow_certificate.specs.Private.Drafts.{link_line_cmp, may_add_link, may_add_point, may_add_relay, may_follow}
use Rattle.flow_certificate.specs.Private.Drafts.{point_line_cmp, step, steps, with_link, with_point, with_relay}
use Rattle.flow_certificate.specs.Keeping.{is_number, is_certificate_point}
use Rattle.flow_certificate.specs.Lines.{is_line}
use Rattle.flow_certificate.proofs.LastItems.{all_push, ascend_push, follow_map, map_over_both}

-- ---- what a step tells

abbrev a_sketch : Sketch → Option Sketch
a_sketch s = Some s

sketch_or : Sketch → Option Sketch → Sketch
sketch_or other None = other
sketch_or other (Some s) = s

pub sketch_same : (a b : Sketch) → a_sketch a ≡ a_sketch b → a ≡ b
unfolding sketch_or
sketch_same a b e = ap (sketch_or a) e

kept : (test : Bool) (next answer : Sketch) (P : Sketch → Type 0) → (if test then Some next else None) ≡ Some answer →
    (test ≡ true → P next) → P answer
kept true next answer P e own = subst P (sketch_same next answer e) (own refl)
kept false next answer P e own = absurd cc

empty_is : {A : Type 0} (items : List A) → is_empty items ≡ true → items ≡ []
empty_is [] none = refl
empty_is (item ∷ items) none = absurd (grind arith)

nothing_is : (stage : Stage) → is_nothing stage ≡ true → stage ≡ stages.Nothing
nothing_is stages.Nothing is = refl
nothing_is stages.Version is = absurd cc
nothing_is stages.Open is = absurd cc
nothing_is stages.Whole is = absurd cc

version_is : (stage : Stage) → is_version stage ≡ true → stage ≡ stages.Version
version_is stages.Nothing is = absurd cc
version_is stages.Version is = refl
version_is stages.Open is = absurd cc
version_is stages.Whole is = absurd cc

open_is : (stage : Stage) → is_open stage ≡ true → stage ≡ stages.Open
open_is stages.Nothing is = absurd cc
open_is stages.Version is = absurd cc
open_is stages.Open is = refl
open_is stages.Whole is = absurd cc

-- what a step from one sketch by a line leaves
pub record IsStep (before : Sketch) (line : Line) (after : Sketch) : Type 0 where
  pub lines : lines_in after.stage after.picture ≡ lines_in before.stage before.picture ++ (line ∷ [])
  pub made : makes_graph before.picture ≡ true → is_line line ≡ true → makes_graph after.picture ≡ true

-- a picture of these parts
abbrev pictured : ℕ → List PointLine → List RelayLine → List LinkLine → Picture
pictured value points relays links = record { value = value; points = points; relays = relays; links = links }

point_lines : (value : ℕ) (points : List PointLine) (line : PointLine) →
    open_lines (pictured value (points ++ (line ∷ [])) [] []) ≡ open_lines (pictured value points [] [])
    ++ (Point line ∷ [])
point_lines value points line =
    ap (λ (ls : List Line). Version ∷ (Value value ∷ ls)) (append-nil (map Point (points ++ (line ∷ [])))
    ∙ (map_over_both Point points (line ∷ [])
    ∙ ap (λ (ls : List Line). ls ++ (Point line ∷ [])) (sym (append-nil (map Point points)))))

relay_lines : (value : ℕ) (points : List PointLine) (relays : List RelayLine) (line : RelayLine) →
    open_lines (pictured value points (relays ++ (line ∷ [])) []) ≡ open_lines (pictured value points relays [])
    ++ (Relay line ∷ [])
relay_lines value points relays line =
    ap (λ (ls : List Line). Version ∷ (Value value ∷ ls))
    (ap (λ (ls : List Line). map Point points ++ ls) (append-nil (map Relay (relays ++ (line ∷ [])))
    ∙ (map_over_both Relay relays (line ∷ [])
    ∙ ap (λ (ls : List Line). ls ++ (Relay line ∷ [])) (sym (append-nil (map Relay relays)))))
    ∙ sym (append_assoc (map Point points) (map Relay relays ++ []) (Relay line ∷ [])))

link_lines : (value : ℕ) (points : List PointLine) (relays : List RelayLine) (links : List LinkLine)
    (line : LinkLine) →
    open_lines (pictured value points relays (links ++ (line ∷ []))) ≡ open_lines (pictured value points relays links)
    ++ (Link line ∷ [])
link_lines value points relays links line =
    ap (λ (ls : List Line). Version ∷ (Value value ∷ ls))
    (ap (λ (ls : List Line). map Point points ++ (map Relay relays ++ ls)) (map_over_both Link links (line ∷ []))
    ∙ (ap (λ (ls : List Line). map Point points ++ ls) (sym (append_assoc (map Relay relays) (map Link links)
    (Link line ∷ [])))
    ∙ sym (append_assoc (map Point points) (map Relay relays ++ map Link links) (Link line ∷ []))))

-- ---- graphs grow

point_graph : (value : ℕ) (points : List PointLine) (line : PointLine) →
    may_follow point_line_cmp points line ≡ true → is_line (Point line) ≡ true →
    makes_graph (pictured value points [] []) ≡ true →
    makes_graph (pictured value (points ++ (line ∷ [])) [] []) ≡ true
point_graph value points line may known made =
    let graph = and_parts (are_points (map node_of points)) _ made in
    let nodes = and_parts (list_all has_capacity (map node_of points)) (ascend node_cmp (map node_of points)) graph.0 in
    let parts = and_parts (is_certificate_point line.point) _ known in
    let some = and_parts (has_capacity (node_of line)) (is_number line.capacity && is_number line.flow) parts.1 in
    let split = map_over_both node_of points (line ∷ []) in
    let all : list_all has_capacity (map node_of (points ++ (line ∷ []))) ≡ true =
    ap (list_all has_capacity) split ∙ all_push has_capacity (map node_of points) (node_of line) nodes.0 some.0 in
    let up : ascend node_cmp (map node_of (points ++ (line ∷ []))) ≡ true =
    ap (ascend node_cmp) split ∙ (ascend_push node_cmp (map node_of points) (node_of line)
    ∙ and_from (ascend node_cmp (map node_of points)) (may_follow node_cmp (map node_of points) (node_of line)) nodes.1
    (follow_map node_of node_cmp points line ∙ may)) in
    rw (all, up) refl

relay_graph : (value : ℕ) (points : List PointLine) (relays : List RelayLine) (line : RelayLine) →
    may_follow nat_cmp (map region_of relays) line.region ≡ true →
    makes_graph (pictured value points relays []) ≡ true →
    makes_graph (pictured value points (relays ++ (line ∷ [])) []) ≡ true
relay_graph value points relays line may made =
    let graph = and_parts (are_points (map node_of points)) _ made in
    let more = and_parts (are_relays (map region_of relays)) _ graph.1 in
    let up : ascend nat_cmp (map region_of (relays ++ (line ∷ []))) ≡ true =
    ap (ascend nat_cmp) (map_over_both region_of relays (line ∷ [])) ∙ (ascend_push nat_cmp (map region_of relays)
    line.region
    ∙ and_from (ascend nat_cmp (map region_of relays)) (may_follow nat_cmp (map region_of relays) line.region) more.0
    may) in
    rw (graph.0, up) refl

link_graph : (value : ℕ) (points : List PointLine) (relays : List RelayLine) (links : List LinkLine)
    (line : LinkLine) → may_follow link_line_cmp links line ≡ true →
    is_link (length points) (map region_of relays) line.link ≡ true →
    makes_graph (pictured value points relays links) ≡ true →
    makes_graph (pictured value points relays (links ++ (line ∷ []))) ≡ true
link_graph value points relays links line may joins made =
    let graph = and_parts (are_points (map node_of points)) _ made in
    let more = and_parts (are_relays (map region_of relays)) _ graph.1 in
    let last = and_parts (are_arcs (map arc_of links)) _ more.1 in
    let split = map_over_both arc_of links (line ∷ []) in
    let up : ascend arc_cmp (map arc_of (links ++ (line ∷ []))) ≡ true =
    ap (ascend arc_cmp) split ∙ (ascend_push arc_cmp (map arc_of links) line.link
    ∙ and_from (ascend arc_cmp (map arc_of links)) (may_follow arc_cmp (map arc_of links) line.link) last.0
    (follow_map arc_of arc_cmp links line ∙ may)) in
    let here : is_link (length (map node_of points)) (map region_of relays) line.link ≡ true =
    ap (λ (n : ℕ). is_link n (map region_of relays) line.link) (length-map points node_of) ∙ joins in
    let all : list_all (is_link (length (map node_of points)) (map region_of relays)) (map arc_of (links ++ (line ∷
    []))) ≡ true =
    ap (list_all (is_link (length (map node_of points)) (map region_of relays))) split
    ∙ all_push (is_link (length (map node_of points)) (map region_of relays)) (map arc_of links) line.link last.1
    here in
    rw (graph.0, more.0, up, all) refl

-- ---- one step

pub stepped : (before : Sketch) (line : Line) (after : Sketch) → step before line ≡ Some after →
    IsStep before line after
unfolding step
stepped before Version after e =
    kept (is_nothing before.stage) (record before { stage = stages.Version }) after (λ s. IsStep before Version s) e
    (λ is. record {
      lines = ap (λ (stage : Stage). lines_in stage before.picture ++ (Version ∷ [])) (sym (nothing_is before.stage is));
      made = λ made known. made;
    })
stepped before (Value value) after e =
    kept (is_version before.stage && is_bare before.picture) (record {
      stage = stages.Open;
      picture = record
          before.picture { value = value };
    }) after (λ s. IsStep before (Value value) s) e
    (λ is.
    let parts = and_parts (is_version before.stage) (is_bare before.picture) is in
    let none = and_parts (is_empty before.picture.points) _ parts.1 in
    let more = and_parts (is_empty before.picture.relays) (is_empty before.picture.links) none.1 in
    record {
      lines = ap (λ (ps : List PointLine). Version ∷ (Value value ∷ (map Point ps ++ (map Relay before.picture.relays
          ++ map Link before.picture.links)))) (empty_is before.picture.points none.0)
          ∙ (ap (λ (rs : List RelayLine). Version ∷ (Value value ∷ (map Relay rs ++ map Link before.picture.links)))
          (empty_is before.picture.relays more.0)
          ∙ (ap (λ (ls : List LinkLine). Version ∷ (Value value ∷ map Link ls)) (empty_is before.picture.links more.1)
          ∙ ap (λ (stage : Stage). lines_in stage before.picture ++ (Value value ∷ []))
          (sym (version_is before.stage parts.0))));
      made = λ made known. made;
    })
stepped before (Point line) after e =
    kept (may_add_point before line) (record before { picture = with_point before.picture line }) after
    (λ s. IsStep before (Point line) s) e
    (λ is.
    let parts = and_parts (is_open before.stage) _ is in
    let more = and_parts (is_empty before.picture.relays) _ parts.1 in
    let last = and_parts (is_empty before.picture.links) (may_follow point_line_cmp before.picture.points line)
    more.1 in
    let opened = open_is before.stage parts.0 in
    let no_relays = empty_is before.picture.relays more.0 in
    let no_links = empty_is before.picture.links last.0 in
    record {
      lines = rw (opened, no_relays, no_links) (point_lines before.picture.value before.picture.points line);
      made = λ made known. rw (no_relays, no_links) (point_graph before.picture.value before.picture.points line
          last.1 known (rw (no_relays, no_links) at made));
    })
stepped before (Relay line) after e =
    kept (may_add_relay before line) (record before { picture = with_relay before.picture line }) after
    (λ s. IsStep before (Relay line) s) e
    (λ is.
    let parts = and_parts (is_open before.stage) _ is in
    let more = and_parts (is_empty before.picture.links) (may_follow nat_cmp (map region_of before.picture.relays)
    line.region) parts.1 in
    let opened = open_is before.stage parts.0 in
    let no_links = empty_is before.picture.links more.0 in
    record {
      lines = rw (opened, no_links) (relay_lines before.picture.value before.picture.points before.picture.relays
          line);
      made = λ made known. rw no_links (relay_graph before.picture.value before.picture.points
          before.picture.relays line more.1 (rw no_links at made));
    })
stepped before (Link line) after e =
    kept (may_add_link before line) (record before { picture = with_link before.picture line }) after
    (λ s. IsStep before (Link line) s) e
    (λ is.
    let parts = and_parts (is_open before.stage) _ is in
    let more = and_parts (may_follow link_line_cmp before.picture.links line) (is_link (length before.picture.points)
    (map region_of before.picture.relays) line.link) parts.1 in
    let opened = open_is before.stage parts.0 in
    record {
      lines = rw opened (link_lines before.picture.value before.picture.points before.picture.relays
          before.picture.links line);
      made = λ made known. link_graph before.picture.value before.picture.points before.picture.relays
          before.picture.links line more.0 more.1 made;
    })
stepped before End after e =
    kept (is_open before.stage) (record before { stage = stages.Whole }) after (λ s. IsStep before End s) e
    (λ is. record {
      lines = ap (λ (stage : Stage). lines_in stage before.picture ++ (End ∷ [])) (sym (open_is before.stage is));
      made = λ made known. made;
    })

-- ---- many steps

pub record AreSteps (lines : List Line) (after : Sketch) : Type 0 where
  pub lines_are : lines_in after.stage after.picture ≡ lines
  pub made : makes_graph after.picture ≡ true

steps_by : (before : Sketch) (lines : List Line) (line : Line) (more : List Line) (after : Sketch)
    (next : Option Sketch) →
    ((middle : Sketch) → AreSteps (lines ++ (line ∷ [])) middle → steps middle more ≡ Some after →
    AreSteps ((lines ++ (line ∷ [])) ++ more) after) →
    step before line ≡ next → AreSteps lines before → is_line line ≡ true →
    option_and_then (λ s. steps s more) next ≡ Some after → AreSteps (lines ++ (line ∷ more)) after
steps_by before lines line more after None later is was here e = absurd cc
steps_by before lines line more after (Some next) later is was here e =
    let one = stepped before line next is in
    subst (λ ls. AreSteps ls after) (append_assoc lines (line ∷ []) more)
    (later next (record {
      lines_are = one.lines ∙ ap (λ (ls : List Line). ls ++ (line ∷ [])) was.lines_are;
      made = one.made was.made here;
    }) e)

pub steps_from : (before : Sketch) (lines more : List Line) (after : Sketch) → AreSteps lines before →
    list_all is_line more ≡ true → steps before more ≡ Some after → AreSteps (lines ++ more) after
steps_from before lines [] after was known e =
    subst (λ s. AreSteps (lines ++ []) s) (sketch_same before after e)
    (record { lines_are = was.lines_are ∙ sym (append-nil lines); made = was.made })
steps_from before lines (line ∷ more) after was known e =
    let parts = and_parts (is_line line) (list_all is_line more) known in
    steps_by before lines line more after (step before line)
    (λ middle is rest. steps_from middle (lines ++ (line ∷ [])) more after is parts.1 rest) refl was parts.0 e

-- what is drafted from lines from the beginning
pub steps_whole : (lines : List Line) (after : Sketch) → list_all is_line lines ≡ true →
    steps blank lines ≡ Some after → AreSteps lines after
steps_whole lines after known e =
    steps_from blank [] lines after (record { lines_are = refl; made = refl }) known e

steps_over : (first second : List Line) (next : Option Sketch) →
    ((s : Sketch) → steps s (first ++ second) ≡ option_and_then (λ t. steps t second) (steps s first)) →
    option_and_then (λ s. steps s (first ++ second)) next ≡ option_and_then (λ t. steps t second)
    (option_and_then (λ s. steps s first) next)
steps_over first second None h = refl
steps_over first second (Some s) h = h s

pub steps_append : (before : Sketch) (first second : List Line) →
    steps before (first ++ second) ≡ option_and_then (λ s. steps s second) (steps before first)
steps_append before [] second = refl
steps_append before (line ∷ first) second = steps_over first second (step before line)
    (λ next. steps_append next first second)

pub steps_one : (before : Sketch) (line : Line) (after : Sketch) (lines : List Line) →
    steps blank lines ≡ Some before → step before line ≡ Some after → steps blank (lines ++ (line ∷ [])) ≡ Some after
steps_one before line after lines first second =
    steps_append blank lines (line ∷ []) ∙ (ap (option_and_then (λ s. steps s (line ∷ []))) first
    ∙ ap (option_and_then (λ s. steps s [])) second)
