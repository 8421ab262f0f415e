-- The visits of all recordings, visit by visit, and then the links of all are united events of their runs.
use Rattle.std.proofs.Common.{◌≡◌, ℕ, ◌&&◌, ◌||◌, ◌++◌, ◌∷◌, [], cond, Bool, true, false, List, refl, sym, ap, ◌∙◌}
use Rattle.std.proofs.Common.{append-nil}
use Rattle.std.specs.List.{AllByRecursion, list_all, list_any}
use Rattle.std.specs.List.Sorted.{IsStrictlySortedBy}
use Rattle.std.specs.Map.{keys_of}
use Rattle.std.specs.Ordering.{is_eq}
use Rattle.std.specs.declared.cmp.Ordering.TheVariants.{Less}
use Rattle.std.proofs.lemmas.Bool.{and_parts, or_left, or_right}
use Rattle.std.proofs.lemmas.List.Folds.{list_any-append}
use Rattle.flow_base.specs.declared.points.Point.{Point}
use Rattle.flow_base.specs.PointOrders.{is_same, point_cmp}
use Rattle.flow_base.proofs.PointOrders.{one_if_same}
use Rattle.flow_graph.specs.declared.events.Event.{Event}
use Rattle.flow_graph.specs.declared.named_links.NamedEnd.{NamedEnd}
use Rattle.flow_graph.specs.declared.named_links.NamedEnd.TheVariants.{Source, At, Relay, Sink}
use Rattle.flow_graph.specs.declared.named_links.NamedLink.{NamedLink}
use Rattle.flow_graph.specs.EventGraphs.{has_passed, is_among, named_links}
use Rattle.flow_graph.specs.Keeping.{is_known, is_sound, is_there, may_lead}
use Rattle.flow_graph.specs.Keeping.{Keeps as KeepsGraph}
use Rattle.flow_graph.proofs.KeptAfterEvent.{known_same}
use Rattle.flow_graph.proofs.KeptAfterEvent.{all_more as sound_more}
use Rattle.acceptance_law.specs.RunCuts.{visit_masks}
use Rattle.acceptance_law.proofs.CutVisits.{visit_masks_append}
use Rattle.acceptance_law.proofs.GraphEvents.{all_append}
use Rattle.measuring.specs.declared.recordings.Recording.{Recording}
use Rattle.many_runs.specs.Private.Joining.{event_between, link_events, passes, passes_at, recorded_links, recorded_masks}
use Rattle.many_runs.specs.Private.Recordings.{AllKeep, Keeps}
use Rattle.many_runs.specs.Uniting.{IsUnited, all_links, united_masks, joined_masks}
use Rattle.many_runs.proofs.BitsOfUnions.{has_united, is_passed}
use Rattle.many_runs.proofs.FedEvents.{links_append}
use Rattle.many_runs.proofs.SameLinks.{each_among, of_among}
use Rattle.many_runs.proofs.UnitedLinks.{Fits, IsMade, IsPassing, links_again, links_made, passing_links}

-- ---- what the recordings have is what the runs have

graph_of : (recording : Recording) (events : List Event) → Keeps recording events →
    KeepsGraph recording.collapse.points.capacities.map.entries (keys_of recording.collapse.links.named.map.entries)
    events
graph_of recording events keeps = keeps.records.graph keeps.within

masks_kept : (recordings : List Recording) (runs : List (List Event)) (point : Point) → AllKeep recordings runs →
    recorded_masks point recordings ≡ joined_masks point runs
unfolding recorded_masks joined_masks AllKeep
masks_kept [] [] point keep = refl
masks_kept [] (events ∷ runs) point keep = absurd keep
masks_kept (recording ∷ recordings) [] point keep = absurd keep
masks_kept (recording ∷ recordings) (events ∷ runs) point keep =
    ap (λ masks. united_masks masks (recorded_masks point recordings)) (keep.0.records.visits keep.0.within point)
    ∙ ap (λ masks. united_masks (visit_masks point events) masks) (masks_kept recordings runs point keep.1)

-- ---- the visits of the points

at_one : (q p : Point) (masks : List ℕ) → visit_masks q (passes p masks) ≡ cond (is_same q p) masks []
unfolding visit_masks passes
at_one q p [] = same (is_same q p) []
  where
    same : (b : Bool) (list : List ℕ) → list ≡ cond b list list
    same true list = refl
    same false list = refl
at_one q p (mask ∷ masks) =
    ap (λ rest. cond (is_same q p) (mask ∷ []) [] ++ rest) (at_one q p masks) ∙ both (is_same q p)
  where
    both : (b : Bool) → cond b (mask ∷ []) [] ++ cond b masks [] ≡ cond b (mask ∷ masks) []
    both true = refl
    both false = refl

none_later : (p : Point) (points : List Point) → AllByRecursion (λ x. point_cmp p x ≡ Less) points →
    list_any (is_same p) points ≡ false
none_later p [] all = refl
none_later p (x ∷ points) all =
    ap (λ o. is_eq o || list_any (is_same p) points) all.0 ∙ none_later p points all.1

at_points : (recordings : List Recording) (points : List Point) (q : Point) → IsStrictlySortedBy point_cmp points →
    visit_masks q (passes_at recordings points)
    ≡ cond (list_any (is_same q) points) (recorded_masks q recordings) []
unfolding visit_masks passes_at IsStrictlySortedBy
at_points recordings [] q ordered = refl
at_points recordings (p ∷ points) q ordered =
    visit_masks_append q (passes p (recorded_masks p recordings)) (passes_at recordings points)
    ∙ (ap (λ masks. masks ++ visit_masks q (passes_at recordings points)) (at_one q p (recorded_masks p recordings))
    ∙ (ap (λ masks. cond (is_same q p) (recorded_masks p recordings) [] ++ masks)
    (at_points recordings points q ordered.1)
    ∙ pick (is_same q p) refl))
  where
    pick : (b : Bool) → is_same q p ≡ b →
        cond b (recorded_masks p recordings) [] ++ cond (list_any (is_same q) points) (recorded_masks q recordings) []
        ≡ cond (b || list_any (is_same q) points) (recorded_masks q recordings) []
    pick true same =
        let one : q ≡ p = one_if_same q p same in
        let none : list_any (is_same q) points ≡ false =
        ap (λ x. list_any (is_same x) points) one ∙ none_later p points ordered.0 in
        ap (λ b. recorded_masks p recordings ++ cond b (recorded_masks q recordings) []) none
        ∙ (append-nil (recorded_masks p recordings) ∙ ap (λ x. recorded_masks x recordings) (sym one))
    pick false other = refl

passing_one : (p : Point) (masks : List ℕ) → AllByRecursion IsPassing (passes p masks)
unfolding passes
passing_one p [] = tt
passing_one p (mask ∷ masks) = (tt, passing_one p masks)

passing_at : (recordings : List Recording) (points : List Point) →
    AllByRecursion IsPassing (passes_at recordings points)
unfolding passes_at
passing_at recordings [] = tt
passing_at recordings (p ∷ points) =
    all_append IsPassing (passes p (recorded_masks p recordings)) (passes_at recordings points)
    (passing_one p (recorded_masks p recordings)) (passing_at recordings points)

-- ---- the events of links are no visits

between_none : (q : Point) (s t : NamedEnd) → visit_masks q (event_between s t) ≡ []
unfolding visit_masks
between_none q Source (At p) = refl
between_none q Source Source = refl
between_none q Source (Relay r) = refl
between_none q Source Sink = refl
between_none q (At p) (At x) = refl
between_none q (At p) (Relay r) = refl
between_none q (At p) Sink = refl
between_none q (At p) Source = refl
between_none q (Relay r) (At p) = refl
between_none q (Relay r) Source = refl
between_none q (Relay r) (Relay s) = refl
between_none q (Relay r) Sink = refl
between_none q Sink t = refl

links_none : (q : Point) (links : List NamedLink) → visit_masks q (link_events links) ≡ []
unfolding visit_masks link_events
links_none q [] = refl
links_none q (link ∷ links) =
    visit_masks_append q (event_between link.source link.target) (link_events links)
    ∙ (ap (λ masks. masks ++ visit_masks q (link_events links)) (between_none q link.source link.target)
    ∙ links_none q links)

-- ---- the links of all recordings

kept_links : List Recording → List NamedLink
kept_links [] = []
kept_links (recording ∷ recordings) = keys_of recording.collapse.links.named.map.entries ++ kept_links recordings

links_are : (recordings : List Recording) → recorded_links recordings ≡ link_events (kept_links recordings)
unfolding recorded_links kept_links link_events
links_are [] = refl
links_are (recording ∷ recordings) =
    ap (λ events. link_events (keys_of recording.collapse.links.named.map.entries) ++ events) (links_are recordings)
    ∙ sym (links_append (keys_of recording.collapse.links.named.map.entries) (kept_links recordings))

among_kept : (recordings : List Recording) (runs : List (List Event)) (link : NamedLink) → AllKeep recordings runs →
    is_among (kept_links recordings) link ≡ is_among (all_links runs) link
unfolding kept_links all_links AllKeep
among_kept [] [] link keep = refl
among_kept [] (events ∷ runs) link keep = absurd keep
among_kept (recording ∷ recordings) [] link keep = absurd keep
among_kept (recording ∷ recordings) (events ∷ runs) link keep =
    list_any-append _ (keys_of recording.collapse.links.named.map.entries) (kept_links recordings)
    ∙ (ap (λ b. b || is_among (kept_links recordings) link) ((graph_of recording events keep.0).linked link)
    ∙ (ap (λ b. is_among (named_links events) link || b) (among_kept recordings runs link keep.1)
    ∙ sym (list_any-append _ (named_links events) (all_links runs))))

all_of : (test : NamedLink → Bool) (links : List NamedLink) → list_all test links ≡ true →
    AllByRecursion (λ link. test link ≡ true) links
all_of test [] all = tt
all_of test (link ∷ links) all =
    let parts = and_parts (test link) (list_all test links) all in (parts.0, all_of test links parts.1)

both_of : (before : List Event) (links : List NamedLink) →
    AllByRecursion (λ link. is_sound (has_passed before) link ≡ true) links → AllByRecursion IsMade links →
    AllByRecursion (Fits before) links
both_of before [] sound made = tt
both_of before (link ∷ links) sound made =
    let source = and_parts (is_there (has_passed before) link.source)
    (is_there (has_passed before) link.target && may_lead link.source link.target) sound.0 in
    let target = and_parts (is_there (has_passed before) link.target) (may_lead link.source link.target) source.1 in (
      record { source = source.0; target = target.0; made = made.0 },
      both_of before links sound.1 made.1,
    )

-- where what has passed a point in one of the runs has passed it before
fits_kept : (before : List Event) (recordings : List Recording) (runs : List (List Event)) → AllKeep recordings runs →
    ((p : Point) → is_passed p runs ≡ true → has_passed before p ≡ true) →
    AllByRecursion (Fits before) (kept_links recordings)
unfolding kept_links AllKeep is_passed
fits_kept before [] [] keep grows = tt
fits_kept before [] (events ∷ runs) keep grows = absurd keep
fits_kept before (recording ∷ recordings) [] keep grows = absurd keep
fits_kept before (recording ∷ recordings) (events ∷ runs) keep grows =
    let links = keys_of recording.collapse.links.named.map.entries in
    let graph = graph_of recording events keep.0 in
    let sound : list_all (is_sound (has_passed before)) links ≡ true =
    sound_more (is_known recording.collapse.points.capacities.map.entries) (has_passed before)
    (λ p known. grows p (or_left (has_passed events p) (is_passed p runs)
    (sym (known_same _ _ events graph p) ∙ known))) links graph.sound in
    all_append (Fits before) links (kept_links recordings)
    (both_of before links (all_of (is_sound (has_passed before)) links sound)
    (each_among IsMade links (λ k among. of_among IsMade (named_links events) k (links_made events)
    (sym (graph.linked k) ∙ among))))
    (fits_kept before recordings runs keep.1
    (λ p later. grows p (or_right (has_passed events p) (is_passed p runs) later)))

-- ---- all together

chosen : (b : Bool) (masks : List ℕ) → (b ≡ false → masks ≡ []) → cond b masks [] ≡ masks
chosen true masks none = refl
chosen false masks none = sym (none refl)

pub united : (recordings : List Recording) (runs : List (List Event)) (points : List Point) → AllKeep recordings runs →
    IsStrictlySortedBy point_cmp points →
    ((q : Point) → list_any (is_same q) points ≡ false → recorded_masks q recordings ≡ []) →
    IsUnited runs (passes_at recordings points ++ recorded_links recordings)
united recordings runs points keep ordered have =
    let visits = passes_at recordings points in
    let masks : (q : Point) → visit_masks q visits ≡ joined_masks q runs =
    λ q. at_points recordings points q ordered
    ∙ (chosen (list_any (is_same q) points) (recorded_masks q recordings) (have q)
    ∙ masks_kept recordings runs q keep) in
    let grows : (p : Point) → is_passed p runs ≡ true → has_passed visits p ≡ true =
    λ p any. has_united p runs visits any (masks p) in
    record {
      masks = λ q.
          visit_masks_append q visits (recorded_links recordings)
          ∙ (ap (λ events. visit_masks q visits ++ visit_masks q events) (links_are recordings)
          ∙ (ap (λ list. visit_masks q visits ++ list) (links_none q (kept_links recordings))
          ∙ (append-nil (visit_masks q visits) ∙ masks q)));
      links = λ link.
          ap (λ events. is_among (named_links (visits ++ events)) link) (links_are recordings)
          ∙ (ap (λ links. is_among links link)
          (passing_links [] visits (link_events (kept_links recordings)) (passing_at recordings points)
          ∙ links_again visits (kept_links recordings) (fits_kept visits recordings runs keep grows))
          ∙ among_kept recordings runs link keep);
    }
