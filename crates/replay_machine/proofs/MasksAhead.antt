-- What a table of masks has ahead, before and after a visit.
use Rattle.std.proofs.Common.{◌≡◌, ℕ, zero, suc, ◌+◌, ◌-◌, ◌<◌, ◌≤◌, inl, inr, true, false, Bool, List, [], ◌∷◌, length}
use Rattle.std.proofs.Common.{get_or, refl, sym, ap, subst, ◌∙◌, arith, Option, Some, None, if◌then◌else◌}
use Rattle.std.specs.Prelude.{replicate, slice_set}
use Rattle.std.specs.List.{list_all}
use Rattle.std.proofs.lemmas.Bool.{and_parts, cases_Bool, cond-false, cond-true}
use Rattle.flow_base.specs.declared.points.Point.{Point}
use Rattle.cut_file.specs.declared.points.CutPoint.{CutPoint}
use Rattle.flow_base.specs.Points.{is_slot, width_of}
use Rattle.flow_base.proofs.PointOrders.{one_same, one_if_same}
use Rattle.flow_base.specs.PointOrders.{is_same}
use Rattle.cut_file.specs.Cuts.{are_points, is_cut_point}
use Rattle.cut_file.specs.Masks.{MaskAt, listed_masks, mask_of, repeated}
use Rattle.region_machine.specs.AddressMarks.{has_mark}
use Rattle.replay_machine.specs.declared.cursors.Cursor.{Cursor}
use Rattle.replay_machine.specs.Runs.{Masks, times_passed, mask_at}
use Rattle.replay_machine.specs.Visits.{IsAhead, MovesOn, SameAhead}
use Rattle.replay_machine.specs.Tables.{first_cursor, ahead_of, all_ahead, index_from, is_marked}
use Rattle.replay_machine.proofs.RunsAhead.{masked, list_pass}
use Rattle.cut_file.proofs.Repeats.{masks_ended}

-- ---- indices

pub index_low : (n : ℕ) (points : List CutPoint) (point : Point) (m : ℕ) → index_from n points point ≡ Some m → n ≤ m
unfolding index_from
index_low n [] point m e = absurd (cc)
index_low n (q ∷ points) point m e = elim (cases_Bool (is_same q.point point)) [
  | inl same ↦
      let here : Some n ≡ Some m = sym (cond-true (is_same q.point point) (Some n)
      (index_from (suc n) points point) same) ∙ e in
      let at : n ≡ m = cc in omega (arith, at)
  | inr other ↦
      let later =
      index_low (suc n) points point m (sym (cond-false (is_same q.point point) (Some n)
      (index_from (suc n) points point) other) ∙ e) in
      omega (arith, later)
]

pub index_high : (n : ℕ) (points : List CutPoint) (point : Point) (m : ℕ) → index_from n points point ≡ Some m →
    m < n + length points
unfolding index_from
index_high n [] point m e = absurd (cc)
index_high n (q ∷ points) point m e = elim (cases_Bool (is_same q.point point)) [
  | inl same ↦
      let here : Some n ≡ Some m = sym (cond-true (is_same q.point point) (Some n)
      (index_from (suc n) points point) same) ∙ e in
      let at : n ≡ m = cc in omega (arith, at)
  | inr other ↦
      let later =
      index_high (suc n) points point m (sym (cond-false (is_same q.point point) (Some n)
      (index_from (suc n) points point) other) ∙ e) in
      omega (arith, later)
]

-- ---- a point that is not there

none_mask : (n : ℕ) (points : List CutPoint) (cursors : List Cursor) (point : Point) (visit : ℕ) →
    index_from n points point ≡ None → MaskAt (all_ahead points cursors) point visit ≡ 0
unfolding index_from all_ahead
none_mask n [] cursors point visit none = refl
none_mask n (q ∷ points) [] point visit none = refl
none_mask n (q ∷ points) (d ∷ cursors) point visit none = elim (cases_Bool (is_same q.point point)) [
  | inl same ↦
      let here : Some n ≡ None = sym (cond-true (is_same q.point point) (Some n)
      (index_from (suc n) points point) same) ∙ none in
      absurd (cc)
  | inr other ↦
      cond-false (is_same q.point point) (mask_of (ahead_of q d) visit)
      (MaskAt (all_ahead points cursors) point visit) other
      ∙ none_mask (suc n) points cursors point visit (sym (cond-false (is_same q.point point) (Some n)
      (index_from (suc n) points point) other) ∙ none)
]

-- points that are the same have the same index
index_same : (n : ℕ) (points : List CutPoint) (a b : Point) → is_same a b ≡ true →
    index_from n points a ≡ index_from n points b
unfolding index_from
index_same n [] a b same = refl
index_same n (q ∷ points) a b same =
    ap (λ (t : Bool). if t then Some n else index_from (suc n) points a) (ap (λ (p : Point). is_same q.point p) (one_if_same a b same))
    ∙ ap (λ (o : Option ℕ). if is_same q.point b then Some n else o) (index_same (suc n) points a b same)

pub none_one : (points : List CutPoint) (cursors : List Cursor) (point : Point) →
    index_from 0 points point ≡ None → 0 ≡ MaskAt (all_ahead points cursors) point 1
none_one points cursors point none = sym (none_mask 0 points cursors point 1 none)

pub none_moves : (points : List CutPoint) (cursors : List Cursor) (point : Point) → index_from 0 points point ≡ None →
    MovesOn point (all_ahead points cursors) (all_ahead points cursors)
none_moves points cursors point none = λ other visit first. elim (cases_Bool (is_same other point)) [
  | inl same ↦
      let gone : index_from 0 points other ≡ None = index_same 0 points other point same ∙ none in
      none_mask 0 points cursors other visit gone
      ∙ sym (none_mask 0 points cursors other (if is_same other point then suc visit else visit) gone)
  | inr apart ↦
      ap (λ (v : ℕ). MaskAt (all_ahead points cursors) other v)
      (sym (cond-false (is_same other point) (suc visit) visit apart))
]

-- ---- a point that is there

-- a cursor has moved on by a visit
abbrev pub Passes : CutPoint → Cursor → Cursor → Type 0
Passes cut_point before after =
    (visit : ℕ) → 1 ≤ visit → mask_of (ahead_of cut_point after) visit ≡ mask_of (ahead_of cut_point before) (suc visit)

pub found_mask : (n i : ℕ) (points : List CutPoint) (cursors : List Cursor) (point : Point) (p : CutPoint)
    (d : Cursor) (visit : ℕ) →
    index_from n points point ≡ Some (n + i) → length cursors ≡ length points →
    p ≡ get_or points i p → d ≡ get_or cursors i d →
    mask_of (ahead_of p d) visit ≡ MaskAt (all_ahead points cursors) point visit
unfolding index_from all_ahead
found_mask n i [] cursors point p d visit e long ip id = absurd (cc)
found_mask n i (q ∷ points) [] point p d visit e long ip id = absurd (omega (arith, long))
found_mask n zero (q ∷ points) (c ∷ cursors) point p d visit e long ip id =
    elim (cases_Bool (is_same q.point point)) [
      | inl same ↦
          ap (λ (r : CutPoint). mask_of (ahead_of r d) visit) ip ∙ ap (λ (r : Cursor). mask_of (ahead_of q r) visit) id
          ∙ sym (cond-true (is_same q.point point) (mask_of (ahead_of q c) visit)
          (MaskAt (all_ahead points cursors) point visit) same)
      | inr other ↦
          let later = index_low (suc n) points point (n + 0) (sym
          (cond-false (is_same q.point point) (Some n) (index_from (suc n) points point) other) ∙ e) in
          absurd (omega (arith, later))
    ]
found_mask n (suc i) (q ∷ points) (c ∷ cursors) point p d visit e long ip id =
    elim (cases_Bool (is_same q.point point)) [
      | inl same ↦
          let here : Some n ≡ Some (n + suc i) = sym (cond-true (is_same q.point point) (Some n)
          (index_from (suc n) points point) same) ∙ e in
          let at : n ≡ n + suc i = cc in
          absurd (omega (arith, at))
      | inr other ↦
          let moved : n + suc i ≡ suc n + i = omega arith in
          let later : index_from (suc n) points point ≡ Some (suc n + i) =
          sym (cond-false (is_same q.point point) (Some n) (index_from (suc n) points point) other) ∙ e
          ∙ ap (λ (k : ℕ). Some k) moved in
          found_mask (suc n) i points cursors point p d visit later (omega (arith, long)) ip id
          ∙ sym (cond-false (is_same q.point point) (mask_of (ahead_of q c) visit)
          (MaskAt (all_ahead points cursors) point visit) other)
    ]

pub found_same : (n i : ℕ) (points : List CutPoint) (point : Point) (p : CutPoint) →
    index_from n points point ≡ Some (n + i) → p ≡ get_or points i p → is_same p.point point ≡ true
unfolding index_from
found_same n i [] point p e ip = absurd (cc)
found_same n zero (q ∷ points) point p e ip = elim (cases_Bool (is_same q.point point)) [
  | inl same ↦ ap (λ (r : CutPoint). is_same r.point point) ip ∙ same
  | inr other ↦
      let later = index_low (suc n) points point (n + 0) (sym
      (cond-false (is_same q.point point) (Some n) (index_from (suc n) points point) other) ∙ e) in
      absurd (omega (arith, later))
]
found_same n (suc i) (q ∷ points) point p e ip = elim (cases_Bool (is_same q.point point)) [
  | inl same ↦
      let here : Some n ≡ Some (n + suc i) = sym (cond-true (is_same q.point point) (Some n)
      (index_from (suc n) points point) same) ∙ e in
      let at : n ≡ n + suc i = cc in
      absurd (omega (arith, at))
  | inr other ↦
      let moved : n + suc i ≡ suc n + i = omega arith in
      let later : index_from (suc n) points point ≡ Some (suc n + i) =
      sym (cond-false (is_same q.point point) (Some n) (index_from (suc n) points point) other) ∙ e
      ∙ ap (λ (k : ℕ). Some k) moved in
      found_same (suc n) i points point p later ip
]

-- an index counted from 0
pub from_zero : (points : List CutPoint) (point : Point) (i : ℕ) → index_from 0 points point ≡ Some i →
    index_from 0 points point ≡ Some (0 + i)
from_zero points point i e = let same : i ≡ 0 + i = omega arith in e ∙ ap (λ (k : ℕ). Some k) same

pub found_point : (points : List CutPoint) (i : ℕ) (point : Point) (p : CutPoint) → index_from 0 points point ≡ Some i →
    are_points points ≡ true → p ≡ get_or points i p → is_cut_point p ≡ true
found_point points i point p e known ip =
    let high = index_high 0 points point i e in
    ap is_cut_point ip
    ∙ list_pass is_cut_point points i p (omega (arith, high)) (and_parts (list_all is_cut_point points) _ known).0

-- the width of a mask that was found is that of the point's slot
pub found_width : (i : ℕ) (points : List CutPoint) (point : Point) (p : CutPoint) (mask : ℕ) →
    index_from 0 points point ≡ Some i → p ≡ get_or points i p → is_cut_point p ≡ true → is_slot point.slot ≡ true →
    mask ≤ width_of p.point.slot → mask ≤ width_of point.slot
found_width i points point p mask e ip known slot within =
    let same = found_same 0 i points point p (from_zero points point i e) ip in
    let width : width_of p.point.slot ≡ width_of point.slot =
    ap (λ (q : Point). width_of q.slot) (one_if_same p.point point same) in
    subst (λ (w : ℕ). mask ≤ w) width within

-- the masks of a first point and of those after it
moves_head : (q : CutPoint) (c d : Cursor) (others : List CutPoint) (point : Point) →
    is_same q.point point ≡ true → Passes q c d →
    MovesOn point (ahead_of q c ∷ others) (ahead_of q d ∷ others)
moves_head q c d others point same passes = λ other visit first. elim (cases_Bool (is_same other point)) [
  | inl alike ↦
      let mine : is_same q.point other ≡ true =
      ap (λ (p : Point). is_same q.point p) (one_if_same other point alike) ∙ same in
      cond-true (is_same q.point other) (mask_of (ahead_of q d) visit) (MaskAt others other visit) mine
      ∙ passes visit first
      ∙ sym (cond-true (is_same q.point other) (mask_of (ahead_of q c) (suc visit))
      (MaskAt others other (suc visit)) mine)
      ∙ ap (λ (v : ℕ). MaskAt (ahead_of q c ∷ others) other v)
      (sym (cond-true (is_same other point) (suc visit) visit alike))
  | inr apart ↦
      let theirs : is_same q.point other ≡ false = elim (cases_Bool (is_same q.point other)) [
        | inl mine ↦
            let back : is_same other point ≡ true =
            one_same other point (sym (one_if_same q.point other mine) ∙ one_if_same q.point point same) in
            absurd (cc)
        | inr different ↦ different
      ] in
      cond-false (is_same q.point other) (mask_of (ahead_of q d) visit) (MaskAt others other visit) theirs
      ∙ sym (cond-false (is_same q.point other) (mask_of (ahead_of q c) visit) (MaskAt others other visit) theirs)
      ∙ ap (λ (v : ℕ). MaskAt (ahead_of q c ∷ others) other v)
      (sym (cond-false (is_same other point) (suc visit) visit apart))
]

moves_tail : (q : CutPoint) (before after : List CutPoint) (point : Point) →
    is_same q.point point ≡ false → MovesOn point before after → MovesOn point (q ∷ before) (q ∷ after)
moves_tail q before after point apart moves = λ other visit first. elim (cases_Bool (is_same q.point other)) [
  | inl mine ↦
      let not : is_same other point ≡ false = elim (cases_Bool (is_same other point)) [
        | inl alike ↦
            let turned : is_same q.point other ≡ is_same q.point point =
            ap (λ (p : Point). is_same q.point p) (one_if_same other point alike) in
            absurd (cc)
        | inr different ↦ different
      ] in
      cond-true (is_same q.point other) (mask_of q visit) (MaskAt after other visit) mine
      ∙ sym (cond-true (is_same q.point other) (mask_of q visit) (MaskAt before other visit) mine)
      ∙ ap (λ (v : ℕ). MaskAt (q ∷ before) other v) (sym (cond-false (is_same other point) (suc visit) visit not))
  | inr theirs ↦
      cond-false (is_same q.point other) (mask_of q visit) (MaskAt after other visit) theirs
      ∙ moves other visit first
      ∙
      sym
      (cond-false (is_same q.point other) (mask_of q (if is_same other point then suc visit else visit))
      (MaskAt before other (if is_same other point then suc visit else visit)) theirs)
]

pub found_moves : (n i : ℕ) (points : List CutPoint) (cursors : List Cursor) (point : Point) (p : CutPoint)
    (c d : Cursor) →
    index_from n points point ≡ Some (n + i) → length cursors ≡ length points →
    p ≡ get_or points i p → c ≡ get_or cursors i c → Passes p c d →
    MovesOn point (all_ahead points cursors) (all_ahead points (slice_set cursors i d))
unfolding index_from all_ahead
found_moves n i [] cursors point p c d e long ip ic passes = absurd (cc)
found_moves n i (q ∷ points) [] point p c d e long ip ic passes = absurd (omega (arith, long))
found_moves n zero (q ∷ points) (x ∷ cursors) point p c d e long ip ic passes =
    elim (cases_Bool (is_same q.point point)) [
      | inl same ↦
          moves_head q x d (all_ahead points cursors) point same
          (subst (λ (r : Cursor). Passes q r d) ic (subst (λ (r : CutPoint). Passes r c d) ip passes))
      | inr other ↦
          let later = index_low (suc n) points point (n + 0) (sym
          (cond-false (is_same q.point point) (Some n) (index_from (suc n) points point) other) ∙ e) in
          absurd (omega (arith, later))
    ]
found_moves n (suc i) (q ∷ points) (x ∷ cursors) point p c d e long ip ic passes =
    elim (cases_Bool (is_same q.point point)) [
      | inl same ↦
          let here : Some n ≡ Some (n + suc i) = sym (cond-true (is_same q.point point) (Some n)
          (index_from (suc n) points point) same) ∙ e in
          let at : n ≡ n + suc i = cc in
          absurd (omega (arith, at))
      | inr other ↦
          let moved : n + suc i ≡ suc n + i = omega arith in
          let later : index_from (suc n) points point ≡ Some (suc n + i) =
          sym (cond-false (is_same q.point point) (Some n) (index_from (suc n) points point) other) ∙ e
          ∙ ap (λ (k : ℕ). Some k) moved in
          moves_tail (ahead_of q x) (all_ahead points cursors) (all_ahead points (slice_set cursors i d)) point other
          (found_moves (suc n) i points cursors point p c d later (omega (arith, long)) ip ic passes)
    ]

-- ---- what is ahead

pub ahead_moves : (before after : List CutPoint) (masks : Masks) (past : List Point) (point : Point) →
    MovesOn point before after → IsAhead before masks past → IsAhead after masks (point ∷ past)
ahead_moves before after masks past point moves ahead = λ other visit first. elim
    (cases_Bool (is_same other point)) [
      | inl alike ↦
          let count : times_passed other past + suc visit ≡ times_passed other (point ∷ past) + visit =
          rw alike (omega arith) in
          moves other visit first
          ∙ ap (λ (v : ℕ). MaskAt before other v) (cond-true (is_same other point) (suc visit) visit alike)
          ∙ ahead other (suc visit) (omega arith)
          ∙ ap (λ (v : ℕ). masks other v) count
      | inr apart ↦
          let count : times_passed other past + visit ≡ times_passed other (point ∷ past) + visit =
          rw apart refl in
          moves other visit first
          ∙ ap (λ (v : ℕ). MaskAt before other v) (cond-false (is_same other point) (suc visit) visit apart)
          ∙ ahead other visit first
          ∙ ap (λ (v : ℕ). masks other v) count
    ]

pub ahead_mask : (ahead : List CutPoint) (masks : Masks) (past : List Point) (point : Point) →
    IsAhead ahead masks past →
    MaskAt ahead point 1 ≡ mask_at masks past point
ahead_mask ahead masks past point known =
    let count : times_passed point past + 1 ≡ suc (times_passed point past) = omega arith in
    known point 1 (omega arith) ∙ ap (λ (v : ℕ). masks point v) count

-- at first all masks are ahead
first_masks : (points : List CutPoint) (point : Point) (visit : ℕ) → 1 ≤ visit →
    MaskAt (all_ahead points (replicate (length points) first_cursor)) point visit ≡ MaskAt points point visit
unfolding all_ahead
first_masks [] point visit first = refl
first_masks (q ∷ points) point visit first =
    ap (λ (m : ℕ). if is_same q.point point then m else MaskAt
    (all_ahead points (replicate (length points) first_cursor)) point visit)
    (masked _ _ _ _ (ap (λ (l : List ℕ). repeated l (listed_masks q.rest) (visit - 1))
    (masks_ended 0 0 q.runs refl)) refl)
    ∙ ap (λ (m : ℕ). if is_same q.point point then mask_of q visit else m) (first_masks points point visit first)

from_none : (visit : ℕ) → visit ≡ 0 + visit
from_none visit = omega arith

pub ahead_self : (ahead : List CutPoint) → IsAhead ahead (MaskAt ahead) []
ahead_self ahead = λ point visit first. ap (λ (v : ℕ). MaskAt ahead point v) (from_none visit)

pub first_ahead : (points : List CutPoint) (cursors : List Cursor) → cursors ≡ replicate (length points) first_cursor →
    IsAhead (all_ahead points cursors) (MaskAt points) []
first_ahead points cursors e = λ point visit first.
    ap (λ (l : List Cursor). MaskAt (all_ahead points l) point visit) e ∙ first_masks points point visit first
    ∙ ap (λ (v : ℕ). MaskAt points point v) (from_none visit)

-- ---- the marks

pub unmarked_none : (n : ℕ) (marks : List Bool) (points : List CutPoint) (point : Point) →
    list_all (is_marked marks) points ≡ true → has_mark marks point.address ≡ false →
    index_from n points point ≡ None
unfolding index_from
unmarked_none n marks [] point all clear = refl
unmarked_none n marks (q ∷ points) point all clear =
    let both = and_parts (is_marked marks q) (list_all (is_marked marks) points) all in
    elim (cases_Bool (is_same q.point point)) [
      | inl same ↦
          let address : q.point.address ≡ point.address = ap (λ (p : Point). p.address) (one_if_same q.point point same) in
          let marked : has_mark marks point.address ≡ true = rw address at both.0 in
          absurd (cc)
      | inr other ↦
          cond-false (is_same q.point point) (Some n) (index_from (suc n) points point) other
          ∙ unmarked_none (suc n) marks points point both.1 clear
    ]

-- ---- masks that stay

pub same_trans : (first second third : List CutPoint) → SameAhead first second → SameAhead second third →
    SameAhead first third
same_trans first second third there on = λ point visit some. there point visit some ∙ on point visit some

-- what is ahead of the one is ahead of the other
pub same_first : (ahead first second : List CutPoint) → SameAhead first second → IsAhead ahead (MaskAt first) [] →
    IsAhead ahead (MaskAt second) []
same_first ahead first second same known = λ point visit some.
    known point visit some ∙ same point (0 + visit) (omega (arith, some))

-- a cursor that stands for the same masks may be put in its place
pub same_set : (i : ℕ) (points : List CutPoint) (cursors : List Cursor) (p : CutPoint) (c d : Cursor) →
    length cursors ≡ length points → p ≡ get_or points i p → c ≡ get_or cursors i c →
    ((visit : ℕ) → mask_of (ahead_of p d) visit ≡ mask_of (ahead_of p c) visit) →
    SameAhead (all_ahead points (slice_set cursors i d)) (all_ahead points cursors)
unfolding all_ahead
same_set i [] cursors p c d long ip ic same = λ point visit some. refl
same_set i (q ∷ points) [] p c d long ip ic same = absurd (omega (arith, long))
same_set zero (q ∷ points) (x ∷ cursors) p c d long ip ic same = λ point visit some.
    ap (λ (m : ℕ). if is_same q.point point then m else MaskAt (all_ahead points cursors) point visit)
    (subst (λ (r : Cursor). mask_of (ahead_of q d) visit ≡ mask_of (ahead_of q r) visit) ic
    (subst (λ (r : CutPoint). mask_of (ahead_of r d) visit ≡ mask_of (ahead_of r c) visit) ip (same visit)))
same_set (suc i) (q ∷ points) (x ∷ cursors) p c d long ip ic same = λ point visit some.
    ap (λ (m : ℕ). if is_same q.point point then mask_of (ahead_of q x) visit else m)
    (same_set i points cursors p c d (omega (arith, long)) ip ic same point visit some)

-- a point that is not there has no masks
pub none_at : (points : List CutPoint) (cursors : List Cursor) (point : Point) (visit : ℕ) →
    index_from 0 points point ≡ None → MaskAt (all_ahead points cursors) point visit ≡ 0
none_at points cursors point visit none = none_mask 0 points cursors point visit none
