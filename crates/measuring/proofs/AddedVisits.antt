-- One visit more of a point.
use Rattle.std.proofs.Common.{◌≡◌, ℕ, Bool, true, false, List, [], ◌∷◌, ◌++◌, refl, sym, ap, ◌∙◌, cond, Option, Some}
use Rattle.std.proofs.Common.{append_assoc, replicate, ◌+◌, add-zero}
use Rattle.std.specs.Map.{lookup}
use Rattle.std.proofs.lemmas.List.{append-nil, replicate-append-replicate}
use Rattle.flow_base.specs.declared.points.Point.{Point}
use Rattle.flow_graph.specs.declared.events.Event.{Event}
use Rattle.flow_graph.specs.declared.events.Event.TheVariants.{Pass, Link, FromSecret, Implicit, Out}
use Rattle.flow_graph.specs.Events.{again_events}
use Rattle.flow_base.specs.PointOrders.{is_same}
use Rattle.acceptance_law.specs.RunCuts.{visit_masks, mask_at_event}
use Rattle.hinted_map.specs.Maps.{Puts}
use Rattle.flow_base.proofs.PointEquality.{points_alike, same_tests}
use Rattle.measuring.specs.declared.point_visits.PointVisits.{PointVisits}
use Rattle.measuring.specs.declared.point_visits.VisitRun.{VisitRun}
use Rattle.measuring.specs.declared.kept_visits.KeptVisits.{KeptVisits}
use Rattle.measuring.specs.PointMasks.{point_masks}
use Rattle.measuring.specs.KeptVisits.{Adds, kept_masks, masks_if_any}
use Rattle.measuring.specs.Visits.{AddsVisit, HasVisits, Settles, all_masks}
use Rattle.measuring.specs.declared.visit_counts.VisitCounts.{VisitCounts}
use Rattle.measuring.specs.Counts.{Clears, CountsMore, count_of}
use Rattle.measuring.proofs.Counters.{count_alike}

chosen : (b : Bool) (after : PointVisits) (o : Option PointVisits) (more : List ℕ) →
    (b ≡ true → point_masks after ≡ masks_if_any o ++ more) →
    masks_if_any (cond b (Some after) o) ≡ masks_if_any o ++ cond b more []
chosen true after o more h = h refl
chosen false after o more h = sym (append-nil (masks_if_any o))

pub adds : (old new : List (Point × PointVisits)) (p : Point) (after : PointVisits) (run : VisitRun) →
    Puts is_same old new p after → point_masks after ≡ kept_masks old p ++ replicate run.count run.mask → Adds old new p run
adds old new p after run puts masks q =
    ap masks_if_any (puts q)
    ∙ (chosen (is_same p q) after (lookup (is_same q) old) (replicate run.count run.mask)
    (λ e. masks ∙ ap (λ test. masks_if_any (lookup test old) ++ replicate run.count run.mask) (same_tests p q e))
    ∙ ap (λ b. kept_masks old q ++ cond b (replicate run.count run.mask) []) (points_alike.symm p q))

-- ---- events

pub visits_push : (q : Point) (events : List Event) (e : Event) →
    visit_masks q (events ++ e ∷ []) ≡ visit_masks q events ++ mask_at_event q e
unfolding visit_masks
visits_push q [] e = append-nil (mask_at_event q e)
visits_push q (other ∷ events) e =
    ap (λ masks. mask_at_event q other ++ masks) (visits_push q events e)
    ∙ sym (append_assoc (mask_at_event q other) (visit_masks q events) (mask_at_event q e))

-- of an output that gives out again what it gave before only the passing is a visit
pub visits_again : (q : Point) (events : List Event) (p : Point) (mask : ℕ) →
    visit_masks q (events ++ again_events p mask) ≡ visit_masks q events ++ mask_at_event q (Pass p mask)
unfolding visit_masks
visits_again q [] p mask = append-nil (mask_at_event q (Pass p mask))
visits_again q (other ∷ events) p mask =
    ap (λ masks. mask_at_event q other ++ masks) (visits_again q events p mask)
    ∙ sym (append_assoc (mask_at_event q other) (visit_masks q events) (mask_at_event q (Pass p mask)))

-- an event that adds these masks is taken where they are added
pub takes : (old new : KeptVisits) (e : Event) →
    ((q : Point) → all_masks new q ≡ all_masks old q ++ mask_at_event q e) → (events : List Event) →
    HasVisits old events → HasVisits new (events ++ e ∷ [])
takes old new e adds events has q =
    adds q ∙ (ap (λ masks. masks ++ mask_at_event q e) (has q) ∙ sym (visits_push q events e))

pub no_visits : (q : Point) → visit_masks q [] ≡ []
unfolding visit_masks
no_visits q = refl

pub no_mask : (e : Event) → ((p : Point) (mask : ℕ) → e ≡ Pass p mask → ⊥) → (q : Point) → mask_at_event q e ≡ []
no_mask (Pass p mask) not_pass q = absurd (not_pass p mask refl)
no_mask (Link source target) not_pass q = refl
no_mask (FromSecret point) not_pass q = refl
no_mask (Implicit point region) not_pass q = refl
no_mask (Out region point) not_pass q = refl

pub none_for : (visits : KeptVisits) → ((q : Point) → all_masks visits q ≡ []) → HasVisits visits []
none_for visits none q = none q ∙ sym (no_visits q)

-- ---- visits that are counted

pub starts_empty : (counts : VisitCounts) (entries : List (Point × PointVisits)) → entries ≡ [] →
    ((q : Point) → count_of counts q ≡ 0) → (q : Point) → kept_masks entries q ++ replicate (count_of counts q) 0 ≡ []
starts_empty counts entries none zero q =
    ap (λ list. kept_masks list q ++ replicate (count_of counts q) 0) none ∙ ap (λ n. replicate n 0) (zero q)

pub adds_none : (entries : List (Point × PointVisits)) (p : Point) → Adds entries entries p (record {
  count = 0;
  mask = 0;
})
adds_none entries p q = nothing (is_same q p)
  where
    nothing : (b : Bool) → kept_masks entries q ≡ kept_masks entries q ++ cond b [] []
    nothing true = sym (append-nil (kept_masks entries q))
    nothing false = sym (append-nil (kept_masks entries q))

moved : (kept : List ℕ) (b : Bool) (c n : ℕ) → (b ≡ true → c ≡ n) →
    (kept ++ cond b (replicate c 0) []) ++ replicate (cond b 0 n) 0 ≡ kept ++ replicate n 0
moved kept true c n e = append-nil (kept ++ replicate c 0) ∙ ap (λ k. kept ++ replicate k 0) (e refl)
moved kept false c n e = ap (λ list. list ++ replicate n 0) (append-nil kept)

-- what was counted of a point is a run now
pub settled : (old new : KeptVisits) (p : Point) (run : VisitRun) → run.count ≡ count_of old.counts p → run.mask ≡ 0 →
    Adds old.points.map.entries new.points.map.entries p run → Clears old.counts new.counts p → Settles old new p
settled old new p run count mask adds clears = record {
  masks = λ q.
      ap (λ masks. masks ++ replicate (count_of new.counts q) 0) (adds q)
      ∙ (ap (λ n. (kept_masks old.points.map.entries q ++ cond (is_same q p) (replicate run.count run.mask) []) ++ replicate
      n 0) (clears q)
      ∙ (ap (λ m. (kept_masks old.points.map.entries q ++ cond (is_same q p) (replicate run.count m) []) ++ replicate
      (cond (is_same p q) 0 (count_of old.counts q)) 0) mask
      ∙ (ap (λ b. (kept_masks old.points.map.entries q ++ cond b (replicate run.count 0) []) ++ replicate
      (cond (is_same p q) 0 (count_of old.counts q)) 0) (points_alike.symm q p)
      ∙ moved (kept_masks old.points.map.entries q) (is_same p q) run.count (count_of old.counts q)
      (λ e. count ∙ count_alike old.counts p q e))));
  none = clears p ∙ ap (λ b. cond b 0 (count_of old.counts p)) (points_alike.refl p);
}

behind : (kept : List ℕ) (b : Bool) (more : List ℕ) (n : ℕ) → (b ≡ true → n ≡ 0) →
    (kept ++ cond b more []) ++ replicate n 0 ≡ (kept ++ replicate n 0) ++ cond b more []
behind kept true more n e =
    ap (λ k. (kept ++ more) ++ replicate k 0) (e refl)
    ∙ (append-nil (kept ++ more)
    ∙ (ap (λ list. list ++ more) (sym (append-nil kept))
    ∙ ap (λ k. (kept ++ replicate k 0) ++ more) (sym (e refl))))
behind kept false more n e =
    ap (λ list. list ++ replicate n 0) (append-nil kept) ∙ sym (append-nil (kept ++ replicate n 0))

-- one visit more in the runs, where nothing is counted
pub visited : (old mid new : KeptVisits) (p : Point) (mask : ℕ) → Settles old mid p →
    Adds mid.points.map.entries new.points.map.entries p (record { count = 1; mask = mask }) → new.counts ≡ mid.counts →
    AddsVisit old new p mask
visited old mid new p mask settles adds same q =
    ap (λ masks. masks ++ replicate (count_of new.counts q) 0) (adds q)
    ∙ (ap (λ counts. (kept_masks mid.points.map.entries q ++ cond (is_same q p) (mask ∷ []) []) ++ replicate
    (count_of counts q) 0) same
    ∙ (behind (kept_masks mid.points.map.entries q) (is_same q p) (mask ∷ []) (count_of mid.counts q)
    (λ e. count_alike mid.counts q p e ∙ settles.none)
    ∙ ap (λ masks. masks ++ cond (is_same q p) (mask ∷ []) []) (settles.masks q)))

longer : (kept : List ℕ) (b : Bool) (n : ℕ) →
    kept ++ replicate (n + cond b 1 0) 0 ≡ (kept ++ replicate n 0) ++ cond b (0 ∷ []) []
longer kept true n =
    ap (λ list. kept ++ list) (sym (replicate-append-replicate n 1 0)) ∙ sym (append_assoc kept (replicate n 0) (0 ∷ []))
longer kept false n = ap (λ m. kept ++ replicate m 0) (add-zero n) ∙ sym (append-nil (kept ++ replicate n 0))

-- one visit more is counted
pub counts_visit : (old new : KeptVisits) (p : Point) → new.points.map.entries ≡ old.points.map.entries →
    CountsMore old.counts new.counts p 1 → AddsVisit old new p 0
counts_visit old new p same more q =
    ap (λ entries. kept_masks entries q ++ replicate (count_of new.counts q) 0) same
    ∙ (ap (λ n. kept_masks old.points.map.entries q ++ replicate n 0) (more q)
    ∙ (longer (kept_masks old.points.map.entries q) (is_same p q) (count_of old.counts q)
    ∙ ap (λ b. all_masks old q ++ cond b (0 ∷ []) []) (points_alike.symm p q)))

unchanged : (b : Bool) (n : ℕ) → n + cond b 0 0 ≡ n
unchanged true n = add-zero n
unchanged false n = add-zero n

-- a visit that is not counted is kept in the runs
pub uncounted : (old mid new : KeptVisits) (p : Point) (mask : ℕ) → mid.points.map.entries ≡ old.points.map.entries →
    CountsMore old.counts mid.counts p 0 → AddsVisit mid new p mask → AddsVisit old new p mask
uncounted old mid new p mask same more adds q =
    adds q
    ∙ ap (λ masks. masks ++ cond (is_same q p) (mask ∷ []) [])
    (ap (λ entries. kept_masks entries q ++ replicate (count_of mid.counts q) 0) same
    ∙ ap (λ n. kept_masks old.points.map.entries q ++ replicate n 0) (more q ∙ unchanged (is_same p q) (count_of old.counts q)))
