-- A recording to which events are added part by part.
use Rattle.std.proofs.Common.{◌≡◌, ℕ, ◌+◌, ◌-◌, ◌≤◌, ◌<◌, ◌++◌, ◌∷◌, [], List, length, refl, sym, ap, ◌∙◌, subst, append_assoc}
use Rattle.std.proofs.Common.{append-nil, replicate, get_or, drop, take, Some, slice_get}
use Rattle.std.proofs.lemmas.List.{replicate_more, take_more}
use Rattle.std.proofs.lemmas.Option.{slice_get_within, get_or_from_slice_get}
use Rattle.std.specs.Map.{keys_of}
use Rattle.flow_base.specs.declared.points.Point.{Point}
use Rattle.flow_graph.specs.declared.events.Event.{Event}
use Rattle.flow_graph.specs.declared.events.Event.TheVariants.{Pass}
use Rattle.flow_graph.specs.declared.named_links.NamedLink.{NamedLink}
use Rattle.measuring.specs.declared.recordings.Recording.{Recording}
use Rattle.measuring.specs.Recordings.{Records}
use Rattle.measuring.specs.declared.point_visits.VisitRun.{VisitRun}
use Rattle.measuring.specs.VisitRuns.{run_masks}
use Rattle.measuring.proofs.VisitRuns.{masks_none}
use Rattle.many_runs.specs.Private.Joining.{event_between, link_events, passes, passes_at, recorded_links, recorded_masks}
use Rattle.many_runs.proofs.Fronts.{is_none, opens}
use Rattle.many_runs.proofs.JoinedMasks.{masks_cons}

-- with the events ahead it will have the whole
pub record Reaches (union : Recording) (ahead whole : List Event) : Type 0 where
  pub done : List Event
  pub records : Records union done
  pub same : done ++ ahead ≡ whole

pub reach_start : (union : Recording) (events ahead : List Event) → Records union events →
    Reaches union ahead (events ++ ahead)
reach_start union events ahead records = record { done = events; records = records; same = refl }

pub reach_step : (old new : Recording) (part ahead all whole : List Event) → all ≡ part ++ ahead →
    Reaches old all whole → ((events : List Event) → Records old events → Records new (events ++ part)) →
    Reaches new ahead whole
reach_step old new part ahead all whole parts reaches adds = record {
  done = reaches.done ++ part;
  records = adds reaches.done reaches.records;
  same = append_assoc reaches.done part ahead ∙ (ap (λ events. reaches.done ++ events) (sym parts) ∙ reaches.same);
}

pub reach_end : (union : Recording) (ahead whole : List Event) → ahead ≡ [] → Reaches union ahead whole →
    Records union whole
reach_end union ahead whole none reaches =
    subst (λ events. Records union events)
    (sym (append-nil reaches.done) ∙ (ap (λ events. reaches.done ++ events) (sym none) ∙ reaches.same)) reaches.records

-- ---- the visits of a point

pub passes_append : (point : Point) (first second : List ℕ) →
    passes point (first ++ second) ≡ passes point first ++ passes point second
unfolding passes
passes_append point [] second = refl
passes_append point (mask ∷ first) second = ap (λ events. Pass point mask ∷ events) (passes_append point first second)

pub passes_one : (point : Point) (mask : ℕ) → passes point (mask ∷ []) ≡ Pass point mask ∷ []
unfolding passes
passes_one point mask = refl

pub passes_none : (point : Point) → passes point [] ≡ []
unfolding passes
passes_none point = refl

-- ---- the events of links

pub links_append : (first second : List NamedLink) →
    link_events (first ++ second) ≡ link_events first ++ link_events second
unfolding link_events
links_append [] second = refl
links_append (link ∷ first) second =
    ap (λ events. event_between link.source link.target ++ events) (links_append first second)
    ∙ sym (append_assoc (event_between link.source link.target) (link_events first) (link_events second))

pub links_one : (link : NamedLink) → link_events (link ∷ []) ≡ event_between link.source link.target
unfolding link_events
links_one link = append-nil (event_between link.source link.target)

pub links_none : link_events [] ≡ []
unfolding link_events
links_none = refl

-- ---- one more

pub visits_start : (union : Recording) (events : List Event) (point : Point) → Records union events →
    Records union (events ++ passes point [])
visits_start union events point records =
    subst (λ es. Records union es) (sym (ap (λ more. events ++ more) (passes_none point) ∙ append-nil events)) records

pub visit_again : (union : Recording) (events : List Event) (point : Point) (mask n : ℕ) →
    Records union ((events ++ passes point (replicate n mask)) ++ Pass point mask ∷ []) →
    Records union (events ++ passes point (replicate (n + 1) mask))
visit_again union events point mask n records =
    subst (λ es. Records union es)
    (append_assoc events (passes point (replicate n mask)) (Pass point mask ∷ [])
    ∙ ap (λ more. events ++ more)
    (ap (λ one. passes point (replicate n mask) ++ one) (sym (passes_one point mask))
    ∙ (sym (passes_append point (replicate n mask) (mask ∷ []))
    ∙ ap (λ masks. passes point masks) (replicate_more n mask))))
    records

-- the first run of visits before the others
pub runs_open : (point : Point) (runs : List VisitRun) (d : VisitRun) → 1 ≤ length runs →
    passes point (run_masks runs) ≡ passes point (replicate (get_or runs 0 d).count (get_or runs 0 d).mask)
    ++ passes point (run_masks (take (length runs - 1) (drop 1 runs)))
runs_open point runs d some =
    ap (λ list. passes point (run_masks list)) (opens runs d some)
    ∙ (ap (λ masks. passes point masks) (masks_cons (get_or runs 0 d) (take (length runs - 1) (drop 1 runs)))
    ∙ passes_append point (replicate (get_or runs 0 d).count (get_or runs 0 d).mask)
    (run_masks (take (length runs - 1) (drop 1 runs))))

pub runs_end : (point : Point) (runs : List VisitRun) → length runs < 1 → passes point (run_masks runs) ≡ []
runs_end point runs none =
    ap (λ list. passes point (run_masks list)) (is_none runs none)
    ∙ (ap (λ masks. passes point masks) masks_none ∙ passes_none point)

pub points_open : (recordings : List Recording) (points : List Point) (d : Point) → 1 ≤ length points →
    passes_at recordings points ≡ passes (get_or points 0 d) (recorded_masks (get_or points 0 d) recordings)
    ++ passes_at recordings (take (length points - 1) (drop 1 points))
unfolding passes_at
points_open recordings points d some = ap (λ list. passes_at recordings list) (opens points d some)

pub points_end : (recordings : List Recording) (points : List Point) → length points < 1 →
    passes_at recordings points ≡ []
unfolding passes_at
points_end recordings points none = ap (λ list. passes_at recordings list) (is_none points none)

pub recordings_open : (recordings : List Recording) (recording : Recording) → 1 ≤ length recordings →
    recording ≡ get_or recordings 0 recording →
    recorded_links recordings ≡ link_events (keys_of recording.collapse.links.named.map.entries)
    ++ recorded_links (take (length recordings - 1) (drop 1 recordings))
unfolding recorded_links
recordings_open recordings recording some own =
    ap (λ list. recorded_links list)
    (opens recordings recording some ∙ ap (λ r. r ∷ take (length recordings - 1) (drop 1 recordings)) (sym own))

pub recordings_end : (recordings : List Recording) → length recordings < 1 → recorded_links recordings ≡ []
unfolding recorded_links
recordings_end recordings none = ap (λ list. recorded_links list) (is_none recordings none)

pub links_start : (union : Recording) (events : List Event) → Records union events →
    Records union (events ++ link_events [])
links_start union events records =
    subst (λ es. Records union es) (sym (ap (λ more. events ++ more) links_none ∙ append-nil events)) records

pub link_again : (union : Recording) (events : List Event) (entries : List (NamedLink × Unit {0})) (index : ℕ)
    (link : NamedLink) (none : Unit {0}) → slice_get entries index ≡ Some (link, none) →
    Records union ((events ++ link_events (keys_of (take index entries))) ++ event_between link.source link.target) →
    Records union (events ++ link_events (keys_of (take (index + 1) entries)))
link_again union events entries index link none at records =
    subst (λ es. Records union es)
    (append_assoc events (link_events (keys_of (take index entries))) (event_between link.source link.target)
    ∙ ap (λ more. events ++ more)
    (ap (λ one. link_events (keys_of (take index entries)) ++ one) (sym (links_one link))
    ∙ (sym (links_append (keys_of (take index entries)) (link ∷ []))
    ∙ ap (λ links. link_events links) (sym (taken-keys entries index link none at)))))
    records
  where
    keys-append : (first second : List (NamedLink × Unit {0})) → keys_of (first ++ second) ≡ keys_of first ++ keys_of second
    keys-append [] second = refl
    keys-append (e ∷ first) second = ap (λ keys. e.0 ∷ keys) (keys-append first second)

    taken-keys : (entries : List (NamedLink × Unit {0})) (index : ℕ) (link : NamedLink) (none : Unit {0}) →
        slice_get entries index ≡ Some (link, none) →
        keys_of (take (index + 1) entries) ≡ keys_of (take index entries) ++ link ∷ []
    taken-keys entries index link none at =
        ap (λ es. keys_of es) (take_more entries index (link, none) (slice_get_within entries index (link, none) at)
        ∙ ap (λ e. take index entries ++ e ∷ []) (get_or_from_slice_get entries index (link, none) (link, none) at))
        ∙ keys-append (take index entries) ((link, none) ∷ [])
