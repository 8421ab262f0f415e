-- The steps of the joining of two lists of runs.
use Rattle.std.proofs.Common.{◌≡◌, ℕ, ◌-◌, ◌≤◌, ◌<◌, ◌++◌, ◌∷◌, [], List, length, get_or, drop, take, refl, sym, ap, ◌∙◌, arith}
use Rattle.std.proofs.Common.{append_assoc, replicate, min}
use Rattle.std.specs.Prelude.{bit_or}
use Rattle.measuring.specs.declared.point_visits.VisitRun.{VisitRun}
use Rattle.measuring.specs.VisitRuns.{run_masks}
use Rattle.measuring.proofs.VisitRuns.{masks_append, masks_none, masks_push}
use Rattle.flow_base.specs.declared.points.Point.{Point}
use Rattle.measuring.specs.declared.recordings.Recording.{Recording}
use Rattle.measuring.specs.Visits.{all_masks}
use Rattle.many_runs.specs.Private.Joining.{recorded_masks}
use Rattle.many_runs.specs.Uniting.{united_masks}
use Rattle.many_runs.proofs.Fronts.{is_none, opens}
use Rattle.many_runs.proofs.JoinedMasks.{joined_none, joined_parted, masks_empty, none_joined}

no_visits : VisitRun
no_visits = record { count = 0; mask = 0 }

pub join_start : (runs first second : List VisitRun) → runs ≡ [] →
    run_masks runs ++ united_masks (run_masks (record { count = 0; mask = 0 } ∷ first))
    (run_masks (record { count = 0; mask = 0 } ∷ second)) ≡ united_masks (run_masks first) (run_masks second)
unfolding no_visits
join_start runs first second none =
    ap (λ list. run_masks list ++ united_masks (run_masks (no_visits ∷ first)) (run_masks (no_visits ∷ second))) none
    ∙ (ap (λ masks. masks ++ united_masks (run_masks (no_visits ∷ first)) (run_masks (no_visits ∷ second))) masks_none
    ∙ (ap (λ masks. united_masks masks (run_masks (no_visits ∷ second))) (masks_empty no_visits first refl)
    ∙ ap (λ masks. united_masks (run_masks first) masks) (masks_empty no_visits second refl)))

-- a run of the first list begins
pub join_next : (runs : List VisitRun) (one other : VisitRun) (ones others : List VisitRun) (whole : List ℕ)
    (d : VisitRun) → one.count ≡ 0 → 1 ≤ length ones →
    run_masks runs ++ united_masks (run_masks (one ∷ ones)) (run_masks (other ∷ others)) ≡ whole →
    run_masks runs ++ united_masks (run_masks (get_or ones 0 d ∷ take (length ones - 1) (drop 1 ones)))
    (run_masks (other ∷ others)) ≡ whole
join_next runs one other ones others whole d none some before =
    ap (λ list. run_masks runs ++ united_masks (run_masks list) (run_masks (other ∷ others))) (sym (opens ones d some))
    ∙ (ap (λ masks. run_masks runs ++ united_masks masks (run_masks (other ∷ others))) (sym (masks_empty one ones none))
    ∙ before)

-- a run of the second list begins
pub join_next_other : (runs : List VisitRun) (one other : VisitRun) (ones others : List VisitRun) (whole : List ℕ)
    (d : VisitRun) → other.count ≡ 0 → 1 ≤ length others →
    run_masks runs ++ united_masks (run_masks (one ∷ ones)) (run_masks (other ∷ others)) ≡ whole →
    run_masks runs ++ united_masks (run_masks (one ∷ ones))
    (run_masks (get_or others 0 d ∷ take (length others - 1) (drop 1 others))) ≡ whole
join_next_other runs one other ones others whole d none some before =
    ap (λ list. run_masks runs ++ united_masks (run_masks (one ∷ ones)) (run_masks list)) (sym (opens others d some))
    ∙ (ap (λ masks. run_masks runs ++ united_masks (run_masks (one ∷ ones)) masks) (sym (masks_empty other others none))
    ∙ before)

push_all : (runs : List VisitRun) (run : VisitRun) (more : List VisitRun) →
    run_masks ((runs ++ run ∷ []) ++ more) ≡ run_masks runs ++ run_masks (run ∷ more)
push_all runs run more =
    ap run_masks (append_assoc runs (run ∷ []) more) ∙ masks_append runs (run ∷ more)

-- the first list has no visit any more
pub join_end : (runs : List VisitRun) (one other : VisitRun) (ones others all : List VisitRun) (whole : List ℕ) →
    one.count ≡ 0 → length ones < 1 → all ≡ (runs ++ other ∷ []) ++ others →
    run_masks runs ++ united_masks (run_masks (one ∷ ones)) (run_masks (other ∷ others)) ≡ whole → run_masks all ≡ whole
join_end runs one other ones others all whole none few are before =
    ap run_masks are
    ∙ (push_all runs other others
    ∙ (ap (λ masks. run_masks runs ++ masks) (sym (none_joined (run_masks (other ∷ others))))
    ∙ (ap (λ masks. run_masks runs ++ united_masks masks (run_masks (other ∷ others)))
    (sym (masks_empty one ones none ∙ (ap run_masks (is_none ones few) ∙ masks_none))) ∙ before)))

-- the second list has no visit any more
pub join_end_other : (runs : List VisitRun) (one other : VisitRun) (ones others all : List VisitRun)
    (whole : List ℕ) → other.count ≡ 0 → length others < 1 → all ≡ (runs ++ one ∷ []) ++ ones →
    run_masks runs ++ united_masks (run_masks (one ∷ ones)) (run_masks (other ∷ others)) ≡ whole → run_masks all ≡ whole
join_end_other runs one other ones others all whole none few are before =
    ap run_masks are
    ∙ (push_all runs one ones
    ∙ (ap (λ masks. run_masks runs ++ masks) (sym (joined_none (run_masks (one ∷ ones))))
    ∙ (ap (λ masks. run_masks runs ++ united_masks (run_masks (one ∷ ones)) masks)
    (sym (masks_empty other others none ∙ (ap run_masks (is_none others few) ∙ masks_none))) ∙ before)))

-- so many visits of both
pub join_both : (runs after : List VisitRun) (one other : VisitRun) (ones others : List VisitRun) (whole : List ℕ)
    (n : ℕ) → n ≡ min one.count other.count →
    after ≡ runs ++ record { count = n; mask = bit_or one.mask other.mask } ∷ [] →
    run_masks runs ++ united_masks (run_masks (one ∷ ones)) (run_masks (other ∷ others)) ≡ whole →
    run_masks after ++ united_masks (run_masks (record { count = one.count - n; mask = one.mask } ∷ ones))
    (run_masks (record { count = other.count - n; mask = other.mask } ∷ others)) ≡ whole
join_both runs after one other ones others whole n least are before =
    ap (λ list. run_masks list ++ united_masks (run_masks (left ∷ ones)) (run_masks (right ∷ others))) are
    ∙ (ap (λ masks. masks ++ united_masks (run_masks (left ∷ ones)) (run_masks (right ∷ others)))
    (masks_push runs (record { count = n; mask = bit_or one.mask other.mask }))
    ∙ (append_assoc (run_masks runs) (replicate n (bit_or one.mask other.mask))
    (united_masks (run_masks (left ∷ ones)) (run_masks (right ∷ others)))
    ∙ (ap (λ masks. run_masks runs ++ masks)
    (sym (joined_parted one left other right n ones others (omega (arith, least)) refl (omega (arith, least)) refl))
    ∙ before)))
  where
    left : VisitRun
    left = record { count = one.count - n; mask = one.mask }

    right : VisitRun
    right = record { count = other.count - n; mask = other.mask }

-- ---- all recordings

pub recorded_none : (point : Point) (recordings : List Recording) → length recordings < 1 →
    recorded_masks point recordings ≡ []
unfolding recorded_masks
recorded_none point recordings none = ap (λ list. recorded_masks point list) (is_none recordings none)

pub recorded_open : (point : Point) (recordings : List Recording) (recording : Recording) (here there : List ℕ) →
    1 ≤ length recordings → recording ≡ get_or recordings 0 recording → here ≡ all_masks recording.visits point →
    there ≡ recorded_masks point (take (length recordings - 1) (drop 1 recordings)) →
    united_masks here there ≡ recorded_masks point recordings
unfolding recorded_masks
recorded_open point recordings recording here there some own first rest =
    ap (λ masks. united_masks masks there) first
    ∙ (ap (λ masks. united_masks (all_masks recording.visits point) masks) rest
    ∙ ap (λ list. recorded_masks point list)
    (sym (opens recordings recording some ∙ ap (λ r. r ∷ take (length recordings - 1) (drop 1 recordings)) (sym own))))
