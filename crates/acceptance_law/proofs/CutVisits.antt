-- The cut of a run and a side has at each visit of its points the mask that the run had there.
use Rattle.std.proofs.Common.{◌≡◌, ℕ, suc, ◌+◌, ◌-◌, ◌^◌, ◌%◌, ◌≤◌, ◌<◌, ◌||◌, ◌++◌, ◌∷◌, [], cond, not, nat_lt}
use Rattle.std.proofs.Common.{Bool, true, false, List, length, get_or, refl, sym, ap, ◌∙◌, subst, arith, inl, inr}
use Rattle.std.proofs.Common.{length-append, append_assoc, append-nil}
use Rattle.std.specs.Prelude.{bit_and, slice_index_or}
use Rattle.std.specs.Int.{bit_at}
use Rattle.std.specs.List.{AllByRecursion, list_all}
use Rattle.std.proofs.lemmas.Bool.{and_parts, and_from, cases_Bool, cond-true, cond-false, lt-ltb}
use Rattle.std.proofs.lemmas.Nat.{and_mask}
use Rattle.std.proofs.Math.Nat.{mod-eq_of_lt}
use Rattle.flow_base.specs.declared.points.Point.{Point}
use Rattle.flow_base.specs.declared.points.Slot.{Slot}
use Rattle.flow_base.specs.declared.points.Slot.TheVariants.{First as FirstSlot, Second as SecondSlot, Address}
use Rattle.flow_base.specs.declared.points.Slot.TheVariants.{Result as ResultSlot, Decision as DecisionSlot, Number}
use Rattle.flow_base.specs.declared.points.Slot.TheVariants.{Arg0, Arg1, Arg2, SecretIn, ByteOut, Status, OutReg}
use Rattle.flow_base.specs.declared.points.Slot.TheVariants.{OutRange}
use Rattle.flow_base.specs.Points.{is_slot, width_of}
use Rattle.flow_base.specs.PointOrders.{is_same, point_cmp}
use Rattle.flow_base.proofs.PointOrders.{one_if_same, point_total, is_equal}
use Rattle.flow_graph.specs.declared.events.Event.{Event}
use Rattle.flow_graph.specs.declared.events.Event.TheVariants.{Pass, Link, FromSecret, Implicit, Out}
use Rattle.cut_file.specs.declared.points.CutPoint.{CutPoint}
use Rattle.cut_file.specs.Cuts.{CutPicture, has_slot}
use Rattle.cut_file.specs.Masks.{listed_masks, listed_mask, repeated, mask_of, MaskAt}
use Rattle.cut_file.specs.Folds.{listed_at}
use Rattle.replay_machine.specs.Runs.{Masks, times_passed, mask_at}
use Rattle.std.specs.Ordering.{is_eq}
use Rattle.acceptance_law.specs.Sides.{NamedSide}
use Rattle.acceptance_law.specs.RunCuts.{mask_at_event, visit_masks, names_point, HasVisitMasks, IsCutOf}
use Rattle.acceptance_law.specs.ClosedEvents.{IsProperEvent, AreProperEvents}
use Rattle.acceptance_law.specs.Covers.{IsContained, past_after, AreContained}
use Rattle.acceptance_law.proofs.GraphEvents.{same_itself}

-- ---- the masks of the visits of one point

pub visit_masks_append : (point : Point) (events more : List Event) →
    visit_masks point (events ++ more) ≡ visit_masks point events ++ visit_masks point more
unfolding visit_masks
visit_masks_append point [] more = refl
visit_masks_append point (event ∷ events) more =
    ap (λ masks. mask_at_event point event ++ masks) (visit_masks_append point events more)
    ∙ sym (append_assoc (mask_at_event point event) (visit_masks point events) (visit_masks point more))

pub same_left : (a b q : Point) → is_same a b ≡ true → is_same a q ≡ is_same b q
same_left a b q same = ap is_eq (point_total.congr a b q (is_equal (point_cmp a b) same))

same_event : (a b : Point) → is_same a b ≡ true → (event : Event) → mask_at_event a event ≡ mask_at_event b event
same_event a b same (Pass point mask) = ap (λ test. cond test (mask ∷ []) []) (same_left a b point same)
same_event a b same (Link source target) = refl
same_event a b same (FromSecret point) = refl
same_event a b same (Implicit point region) = refl
same_event a b same (Out region point) = refl

same_visits : (a b : Point) → is_same a b ≡ true → (events : List Event) →
    visit_masks a events ≡ visit_masks b events
unfolding visit_masks
same_visits a b same [] = refl
same_visits a b same (event ∷ events) =
    ap (λ masks. masks ++ visit_masks a events) (same_event a b same event)
    ∙ ap (λ masks. mask_at_event b event ++ masks) (same_visits a b same events)

-- ---- the visits so far

abbrev pub Counts : List Point → List Event → Type 0
Counts past seen =
    (point : Point) → is_slot point.slot ≡ true → times_passed point past ≡ length (visit_masks point seen)

pub seen_more : (test : Bool) (mask count : ℕ) (masks : List ℕ) → count ≡ length masks →
    cond test (suc count) count ≡ length (masks ++ cond test (mask ∷ []) [])
seen_more true mask count masks is = omega (arith, is, length-append masks (mask ∷ []))
seen_more false mask count masks is = is ∙ ap length (sym (append-nil masks))

pub one_visit : (point : Point) (event : Event) → visit_masks point (event ∷ []) ≡ mask_at_event point event
unfolding visit_masks
one_visit point event = append-nil (mask_at_event point event)

-- an event that is no passing is no visit
unseen : (past : List Point) (seen : List Event) (event : Event) → Counts past seen →
    ((other : Point) → mask_at_event other event ≡ []) → Counts past (seen ++ event ∷ [])
unseen past seen event counts none =
    λ other slot. counts other slot
    ∙ ap length (sym (visit_masks_append other seen (event ∷ [])
    ∙ ap (λ masks. visit_masks other seen ++ masks) (one_visit other event ∙ none other)
    ∙ append-nil (visit_masks other seen)))

-- a visit more of a point
pub visit_more : (point other : Point) (mask count : ℕ) (masks : List ℕ) → is_slot point.slot ≡ true →
    is_slot other.slot ≡ true → count ≡ length masks →
    cond (is_same other point) (suc count) count ≡ length (masks ++ cond (is_same other point) (mask ∷ []) [])
visit_more point other mask count masks slot known is =
    seen_more (is_same other point) mask count masks is

pub counts_more : (past : List Point) (seen : List Event) (event : Event) → IsProperEvent event → Counts past seen →
    Counts (past_after event past) (seen ++ event ∷ [])
counts_more past seen (Pass point mask) proper counts =
    λ other slot.
    visit_more point other mask (times_passed other past) (visit_masks other seen) proper.1 slot (counts other slot)
    ∙ ap length (ap (λ masks. visit_masks other seen ++ masks) (sym (one_visit other (Pass point mask)))
    ∙ sym (visit_masks_append other seen (Pass point mask ∷ [])))
counts_more past seen (Link source target) proper counts = unseen past seen (Link source target) counts (λ other. refl)
counts_more past seen (FromSecret point) proper counts = unseen past seen (FromSecret point) counts (λ other. refl)
counts_more past seen (Implicit point region) proper counts = unseen past seen (Implicit point region) counts (λ other. refl)
counts_more past seen (Out region point) proper counts = unseen past seen (Out region point) counts (λ other. refl)

-- ---- the mask of the cut

low : (mask limit : ℕ) → mask < limit → mask % limit ≡ mask
low mask limit below = mod-eq_of_lt below

width_kept : (slot : Slot) (mask : ℕ) → mask ≤ width_of slot → bit_and mask (width_of slot) ≡ mask
width_kept FirstSlot mask fits = and_mask mask 32 ∙ low mask (2 ^ 32) (omega arith)
width_kept SecondSlot mask fits = and_mask mask 32 ∙ low mask (2 ^ 32) (omega arith)
width_kept Address mask fits = and_mask mask 32 ∙ low mask (2 ^ 32) (omega arith)
width_kept ResultSlot mask fits = and_mask mask 32 ∙ low mask (2 ^ 32) (omega arith)
width_kept DecisionSlot mask fits = and_mask mask 1 ∙ low mask (2 ^ 1) (omega arith)
width_kept Number mask fits = and_mask mask 32 ∙ low mask (2 ^ 32) (omega arith)
width_kept Arg0 mask fits = and_mask mask 32 ∙ low mask (2 ^ 32) (omega arith)
width_kept Arg1 mask fits = and_mask mask 32 ∙ low mask (2 ^ 32) (omega arith)
width_kept Arg2 mask fits = and_mask mask 32 ∙ low mask (2 ^ 32) (omega arith)
width_kept SecretIn mask fits = and_mask mask 8 ∙ low mask (2 ^ 8) (omega arith)
width_kept ByteOut mask fits = and_mask mask 8 ∙ low mask (2 ^ 8) (omega arith)
width_kept Status mask fits = and_mask mask 8 ∙ low mask (2 ^ 8) (omega arith)
width_kept (OutReg register) mask fits = and_mask mask 32 ∙ low mask (2 ^ 32) (omega arith)
width_kept (OutRange range) mask fits = and_mask mask 8 ∙ low mask (2 ^ 8) (omega arith)

listed_here : (cut_point : CutPoint) (masks : List ℕ) (place : ℕ) → listed_masks cut_point.runs ≡ masks →
    place < length masks → listed_mask cut_point (suc place) ≡ get_or masks place 0
listed_here cut_point masks place is below =
    ap (λ n. repeated (listed_masks cut_point.runs) (listed_masks cut_point.rest) n)
    (let back : suc place - 1 ≡ place = omega arith in back)
    ∙ ap (λ listed. repeated listed (listed_masks cut_point.rest) place) is
    ∙ cond-true (nat_lt place (length masks)) (slice_index_or masks place 0) _ (lt-ltb place (length masks) below)

mask_found : (events : List Event) (points : List CutPoint) (point : Point) (place : ℕ) →
    AllByRecursion (HasVisitMasks events) points → list_all has_slot points ≡ true → is_slot point.slot ≡ true →
    place < length (visit_masks point events) → names_point points point ≡ true →
    MaskAt points point (suc place) ≡ bit_and (get_or (visit_masks point events) place 0) (width_of point.slot)
mask_found events [] point place have slots slot below named = absurd (cc)
mask_found events (first ∷ points) point place have slots slot below named =
    let both = and_parts (has_slot first) (list_all has_slot points) slots in
    elim (cases_Bool (is_same first.point point)) [
      | inl same ↦
          cond-true (is_same first.point point) (mask_of first (suc place)) (MaskAt points point (suc place))
          same
          ∙ ap (λ mask. bit_and mask (width_of first.point.slot))
          (listed_here first (visit_masks point events) place
          (have.0.masks ∙ same_visits first.point point same events) below)
          ∙ ap (λ width. bit_and (get_or (visit_masks point events) place 0) width)
          (ap (λ (p : Point). width_of p.slot) (one_if_same first.point point same))
      | inr other ↦
          cond-false (is_same first.point point) (mask_of first (suc place)) (MaskAt points point (suc place))
          other
          ∙ mask_found events points point place have.1 both.1 slot below
          (later_named (is_same first.point point) (names_point points point) other named)
    ]
  where
    later_named : (a b : Bool) → a ≡ false → (a || b) ≡ true → b ≡ true
    later_named true b other is = absurd (cc)
    later_named false b other is = is

pub mask_missing : (points : List CutPoint) (point : Point) (visit : ℕ) → list_all has_slot points ≡ true →
    is_slot point.slot ≡ true → names_point points point ≡ false → MaskAt points point visit ≡ 0
mask_missing [] point visit slots slot none = refl
mask_missing (first ∷ points) point visit slots slot none =
    let both = and_parts (has_slot first) (list_all has_slot points) slots in
    cond-false (is_same first.point point) (mask_of first visit) (MaskAt points point visit)
    (first_none (is_same first.point point) (names_point points point) none)
    ∙ mask_missing points point visit both.1 slot (later-none (is_same first.point point) (names_point points point) none)
  where
    first_none : (a b : Bool) → (a || b) ≡ false → a ≡ false
    first_none true b is = absurd (cc)
    first_none false b is = refl

    later-none : (a b : Bool) → (a || b) ≡ false → b ≡ false
    later-none true b is = absurd (cc)
    later-none false b is = is

-- ---- at each visit

here : (masks more : List ℕ) (mask : ℕ) → get_or (masks ++ (mask ∷ more)) (length masks) 0 ≡ mask
here [] more mask = refl
here (first ∷ masks) more mask = here masks more mask

visits_here : (point : Point) (mask : ℕ) (seen rest : List Event) →
    visit_masks point (seen ++ (Pass point mask ∷ rest)) ≡ visit_masks point seen ++ (mask ∷ visit_masks point rest)
unfolding visit_masks
visits_here point mask seen rest =
    visit_masks_append point seen (Pass point mask ∷ rest)
    ∙ ap (λ masks. visit_masks point seen ++ (masks ++ visit_masks point rest))
    (cond-true (is_same point point) (mask ∷ []) [] (same_itself point))

-- the mask at the next visit is the run's, where the point is one of the cut
pub visit_exact : (cut_points : List CutPoint) (seen rest : List Event) (past : List Point) (point : Point) (mask : ℕ) →
    AllByRecursion (HasVisitMasks (seen ++ (Pass point mask ∷ rest))) cut_points →
    list_all has_slot cut_points ≡ true → IsProperEvent (Pass point mask) →
    times_passed point past ≡ length (visit_masks point seen) →
    names_point cut_points point ≡ true → mask_at (MaskAt cut_points) past point ≡ mask
visit_exact cut_points seen rest past point mask have slots proper count named =
    let events = seen ++ (Pass point mask ∷ rest) in
    let visits = visits_here point mask seen rest in
    let longer : length (visit_masks point events)
    ≡ length (visit_masks point seen) + suc (length (visit_masks point rest)) =
    ap length visits ∙ length-append (visit_masks point seen) (mask ∷ visit_masks point rest) in
    ap (λ n. MaskAt cut_points point (suc n)) count
    ∙ mask_found events cut_points point (length (visit_masks point seen)) have slots proper.1 (omega (arith, longer))
    named
    ∙ ap (λ masks. bit_and (get_or masks (length (visit_masks point seen)) 0) (width_of point.slot)) visits
    ∙ ap (λ m. bit_and m (width_of point.slot)) (here (visit_masks point seen) (visit_masks point rest) mask)
    ∙ width_kept point.slot mask proper.0

-- ---- masks that are those of a cut wherever it lists them

-- they are the cut's at each visit that it lists, and 0 at a point that it does not name
pub record IsLike (cut_points : List CutPoint) (masks : Masks) : Type 0 where
  pub within : (point : Point) (visit : ℕ) → 1 ≤ visit → visit ≤ listed_at cut_points point →
      masks point visit ≡ MaskAt cut_points point visit
  pub missing : (point : Point) (visit : ℕ) → is_slot point.slot ≡ true → names_point cut_points point ≡ false →
      masks point visit ≡ 0

pub like_itself : (cut_points : List CutPoint) → list_all has_slot cut_points ≡ true →
    IsLike cut_points (MaskAt cut_points)
like_itself cut_points slots = record {
  within = λ point visit one few. refl;
  missing = λ point visit slot none. mask_missing cut_points point visit slots slot none;
}

-- a cut of a run lists a mask for each visit
listed_found : (events : List Event) (points : List CutPoint) (point : Point) →
    AllByRecursion (HasVisitMasks events) points → list_all has_slot points ≡ true → is_slot point.slot ≡ true →
    names_point points point ≡ true → listed_at points point ≡ length (visit_masks point events)
listed_found events [] point have slots slot named = absurd (cc)
listed_found events (first ∷ points) point have slots slot named =
    let both = and_parts (has_slot first) (list_all has_slot points) slots in
    elim (cases_Bool (is_same first.point point)) [
      | inl same ↦
          cond-true (is_same first.point point) (length (listed_masks first.runs)) (listed_at points point)
          same
          ∙ ap length (have.0.masks ∙ same_visits first.point point same events)
      | inr other ↦
          cond-false (is_same first.point point) (length (listed_masks first.runs)) (listed_at points point)
          other
          ∙ listed_found events points point have.1 both.1 slot
          (later_named (is_same first.point point) (names_point points point) other named)
    ]
  where
    later_named : (a b : Bool) → a ≡ false → (a || b) ≡ true → b ≡ true
    later_named true b other is = absurd (cc)
    later_named false b other is = is

-- so they have the run's mask at its next visit too
pub like_exact : (cut_points : List CutPoint) (masks : Masks) → IsLike cut_points masks →
    (seen rest : List Event) (past : List Point) (point : Point) (mask : ℕ) →
    AllByRecursion (HasVisitMasks (seen ++ (Pass point mask ∷ rest))) cut_points →
    list_all has_slot cut_points ≡ true → IsProperEvent (Pass point mask) →
    times_passed point past ≡ length (visit_masks point seen) →
    names_point cut_points point ≡ true → mask_at masks past point ≡ mask
like_exact cut_points masks like seen rest past point mask have slots proper count named =
    let events = seen ++ (Pass point mask ∷ rest) in
    let longer : length (visit_masks point events)
    ≡ length (visit_masks point seen) + suc (length (visit_masks point rest)) =
    ap length (visits_here point mask seen rest)
    ∙ length-append (visit_masks point seen) (mask ∷ visit_masks point rest) in
    let listed = listed_found events cut_points point have slots proper.1 named in
    like.within point (suc (times_passed point past)) (omega arith) (omega (arith, count, longer, listed))
    ∙ visit_exact cut_points seen rest past point mask have slots proper count named

-- ---- a cut of the run has the masks of its visits

module _ (side : NamedSide) (cut : CutPicture) (secret_len capacity : ℕ) (masks : Masks)
    (like : IsLike cut.points masks) where
  contained-from : (seen rest : List Event) (past : List Point) →
      IsCutOf secret_len (seen ++ rest) side capacity cut → list_all has_slot cut.points ≡ true →
      AreProperEvents rest → Counts past seen → AreContained side cut.skip masks past rest
  unfolding AreContained
  contained-from seen [] past is slots proper counts = tt
  contained-from seen (event ∷ rest) past is slots proper counts = (
    contained-event event is proper.0,
    contained-from (seen ++ event ∷ []) rest (past_after event past)
        (subst (λ events. IsCutOf secret_len events side capacity cut) (sym (append_assoc seen (event ∷ []) rest)) is) slots
        proper.1 (counts_more past seen event proper.0 counts),
  )
    where
      contained-event : (event : Event) → IsCutOf secret_len (seen ++ (event ∷ rest)) side capacity cut →
          IsProperEvent event → IsContained side cut.skip masks past event
      contained-event (Pass point mask) is proper =
          λ split inner i none. ap (λ m. bit_at m i) (sym (like_exact cut.points masks like seen rest past point mask is.masks
          slots proper (counts point proper.1) (is.points point ∙ and_from _ _ split (ap not inner)))) ∙ none
      contained-event (Link source target) is proper = tt
      contained-event (FromSecret point) is proper = tt
      contained-event (Implicit point region) is proper = tt
      contained-event (Out region point) is proper = tt

no_counts : Counts [] []
unfolding visit_masks
no_counts = λ point slot. refl

pub like_contains : (side : NamedSide) (cut : CutPicture) (secret_len capacity : ℕ) (masks : Masks) →
    IsLike cut.points masks → (events : List Event) → IsCutOf secret_len events side capacity cut →
    list_all has_slot cut.points ≡ true → AreProperEvents events → AreContained side cut.skip masks [] events
like_contains side cut secret_len capacity masks like events is slots proper =
    contained-from side cut secret_len capacity masks like [] events [] is slots proper no_counts

pub cut_contains : (side : NamedSide) (cut : CutPicture) (secret_len capacity : ℕ) (events : List Event) →
    IsCutOf secret_len events side capacity cut → list_all has_slot cut.points ≡ true → AreProperEvents events →
    AreContained side cut.skip (MaskAt cut.points) [] events
cut_contains side cut secret_len capacity events is slots proper =
    like_contains side cut secret_len capacity (MaskAt cut.points) (like_itself cut.points slots) events is slots proper
