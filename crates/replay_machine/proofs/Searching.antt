-- A search by halves finds the index of a point of a cut.
use Rattle.std.proofs.Common.{◌≡◌, ℕ, suc, ◌+◌, ◌-◌, ◌≤◌, true, false, List, [], ◌∷◌, ◌++◌, length, take, drop}
use Rattle.std.proofs.Common.{get_or, refl, sym, ap, subst, ◌∙◌, arith, length-append, Option, Some, None, if◌then◌else◌}
use Rattle.std.proofs.lemmas.Bool.{and_parts, and_from, cond-false, cond-true}
use Rattle.std.proofs.lemmas.List.{take_all, take-append-drop}
use Rattle.flow_base.specs.declared.points.Point.{Point}
use Rattle.flow_base.specs.PointOrders.{is_below, is_same}
use Rattle.flow_base.proofs.PointOrders.{below_other, below_total, below_trans, other_sym, one_if_same}
use Rattle.cut_file.specs.declared.points.CutPoint.{CutPoint}
use Rattle.cut_file.specs.Cuts.{neighbours_pass, stands_before}
use Rattle.cut_file.proofs.CutMasks.{first_below, neighbours_behind}
use Rattle.replay_machine.specs.Tables.{index_from}

-- ---- the same point

-- what is below a point is another than it, and than all above it
pub apart_same : (c p : Point) → is_same c p ≡ true → (f : Point) → is_below f c ≡ true → is_same f p ≡ false
apart_same c p same f below =
    ap (λ (q : Point). is_same f q) (sym (one_if_same c p same)) ∙ below_other f c below

pub apart_below : (c p : Point) → is_below c p ≡ true → (f : Point) → is_below f c ≡ true → is_same f p ≡ false
apart_below c p low f below = below_other f p (below_trans f c p below low)

-- ---- neighbours

pub neighbours_left : (left right : List CutPoint) → neighbours_pass stands_before (left ++ right) ≡ true →
    neighbours_pass stands_before left ≡ true
neighbours_left [] right known = refl
neighbours_left (first ∷ []) right known = refl
neighbours_left (first ∷ (second ∷ left)) right known =
    let both = and_parts (is_below first.point second.point) _ known in
    and_from _ _ both.0 (neighbours_left (second ∷ left) right both.1)

pub neighbours_right : (left right : List CutPoint) → neighbours_pass stands_before (left ++ right) ≡ true →
    neighbours_pass stands_before right ≡ true
neighbours_right [] right known = known
neighbours_right (first ∷ left) right known = neighbours_right left right
    (neighbours_behind first (left ++ right) known)

-- ---- where a point stands

pub skip_left : (n : ℕ) (left : List CutPoint) (c : CutPoint) (right : List CutPoint) (p : Point) →
    neighbours_pass stands_before (left ++ (c ∷ right)) ≡ true →
    ((f : Point) → is_below f c.point ≡ true → is_same f p ≡ false) →
    index_from n (left ++ (c ∷ right)) p ≡ index_from (n + length left) (c ∷ right) p
unfolding index_from
skip_left n [] c right p known apart =
    let same : n ≡ n + length {A = CutPoint} [] = omega arith in ap (λ (k : ℕ). index_from k (c ∷ right) p) same
skip_left n (f ∷ left) c right p known apart =
    let same : suc n + length left ≡ n + length (f ∷ left) = omega arith in
    cond-false (is_same f.point p) (Some n) (index_from (suc n) (left ++ (c ∷ right)) p)
    (apart f.point (first_below f left right c known))
    ∙ skip_left (suc n) left c right p (neighbours_behind f (left ++ (c ∷ right)) known) apart
    ∙ ap (λ (k : ℕ). index_from k (c ∷ right) p) same

pub found_here : (n : ℕ) (left : List CutPoint) (c : CutPoint) (right : List CutPoint) (p : Point) →
    neighbours_pass stands_before (left ++ (c ∷ right)) ≡ true → is_same c.point p ≡ true →
    index_from n (left ++ (c ∷ right)) p ≡ Some (n + length left)
unfolding index_from
found_here n left c right p known same =
    skip_left n left c right p known (apart_same c.point p same)
    ∙ cond-true (is_same c.point p) (Some (n + length left)) (index_from (suc (n + length left)) right p) same

pub found_right : (n : ℕ) (left : List CutPoint) (c : CutPoint) (right : List CutPoint) (p : Point) →
    neighbours_pass stands_before (left ++ (c ∷ right)) ≡ true → is_below c.point p ≡ true →
    index_from n (left ++ (c ∷ right)) p ≡ index_from (suc (n + length left)) right p
unfolding index_from
found_right n left c right p known low =
    skip_left n left c right p known (apart_below c.point p low)
    ∙ cond-false (is_same c.point p) (Some (n + length left)) (index_from (suc (n + length left)) right p)
    (below_other c.point p low)

none_behind : (n : ℕ) (c : CutPoint) (right : List CutPoint) (p : Point) →
    neighbours_pass stands_before (c ∷ right) ≡ true → is_below p c.point ≡ true → index_from n right p ≡ None
unfolding index_from
none_behind n c [] p known low = refl
none_behind n c (r ∷ right) p known low =
    let next = and_parts (is_below c.point r.point) _ known in
    let lower : is_below p r.point ≡ true = below_trans p c.point r.point low next.0 in
    cond-false (is_same r.point p) (Some n) (index_from (suc n) right p)
    (other_sym p r.point (below_other p r.point lower))
    ∙ none_behind (suc n) r right p (neighbours_behind c (r ∷ right) known) lower

pub found_left : (n : ℕ) (left : List CutPoint) (c : CutPoint) (right : List CutPoint) (p : Point) →
    neighbours_pass stands_before (left ++ (c ∷ right)) ≡ true → is_below p c.point ≡ true →
    index_from n (left ++ (c ∷ right)) p ≡ index_from n left p
unfolding index_from
found_left n [] c right p known low =
    cond-false (is_same c.point p) (Some n) (index_from (suc n) right p)
    (other_sym p c.point (below_other p c.point low))
    ∙ none_behind (suc n) c right p known low
found_left n (f ∷ left) c right p known low =
    ap (λ (o : Option ℕ). if is_same f.point p then Some n else o)
    (found_left (suc n) left c right p (neighbours_behind f (left ++ (c ∷ right)) known) low)

-- ---- the search

-- the point stands in this part, as it does in all the points
pub record IsPart (part points : List CutPoint) (from : ℕ) (point : Point) : Type 0 where
  pub ascends : neighbours_pass stands_before part ≡ true
  pub same : index_from from part point ≡ index_from 0 points point
  pub fits : from + length part ≤ length points

-- one step of the search: the points left of the middle, the point there, and the points right of it
pub record IsStep (part left : List CutPoint) (c : CutPoint) (right points : List CutPoint) (from : ℕ)
    (point : Point) : Type 0 where
  pub whole : part ≡ left ++ (c ∷ right)
  pub ascends : neighbours_pass stands_before (left ++ (c ∷ right)) ≡ true
  pub same : index_from from (left ++ (c ∷ right)) point ≡ index_from 0 points point
  pub fits : from + length left + suc (length right) ≤ length points

later_same : (c : CutPoint) (points : List CutPoint) → take (length (c ∷ points) - 1) (drop 1 (c ∷ points)) ≡ points
later_same c points = take_all (length (c ∷ points) - 1) points (omega arith)

pub step_of : (part left others right points : List CutPoint) (c : CutPoint) (middle from : ℕ) (point : Point) →
    IsPart part points from point → left ≡ take middle part → others ≡ drop middle part → 1 ≤ length others →
    c ≡ get_or others 0 c → right ≡ take (length others - 1) (drop 1 others) →
    IsStep part left c right points from point
step_of part left [] right points c middle from point known front back some is later = absurd (omega (arith, some))
step_of part left (first ∷ others) right points c middle from point known front back some is later =
    let rest : right ≡ others = later ∙ later_same first others in
    let whole : part ≡ left ++ (c ∷ right) = rw (rest, is, front, back) (sym (take-append-drop middle part)) in
    record {
      whole = whole;
      ascends = subst (λ (l : List CutPoint). neighbours_pass stands_before l ≡ true) whole known.ascends;
      same = subst (λ (l : List CutPoint). index_from from l point ≡ index_from 0 points point) whole known.same;
      fits =
          let long : length part ≡ length left + suc (length right) = ap length whole
          ∙ length-append left (c ∷ right) in
          omega (arith, known.fits, long);
    }

pub step_here : (part left : List CutPoint) (c : CutPoint) (right points : List CutPoint) (from : ℕ) (point : Point) →
    IsStep part left c right points from point → is_same c.point point ≡ true →
    Some (from + length left) ≡ index_from 0 points point
step_here part left c right points from point step same =
    sym (found_here from left c right point step.ascends same) ∙ step.same

pub step_left : (part left : List CutPoint) (c : CutPoint) (right points : List CutPoint) (from : ℕ) (point : Point) →
    IsStep part left c right points from point → is_below point c.point ≡ true → IsPart left points from point
step_left part left c right points from point step low = record {
  ascends = neighbours_left left (c ∷ right) step.ascends;
  same = sym (found_left from left c right point step.ascends low) ∙ step.same;
  fits = omega (arith, step.fits);
}

pub step_right : (part left : List CutPoint) (c : CutPoint) (right points : List CutPoint) (from next : ℕ)
    (point : Point) →
    IsStep part left c right points from point → is_same c.point point ≡ false → is_below point c.point ≡ false →
    next ≡ from + length left + 1 → IsPart right points next point
step_right part left c right points from next point step other high is =
    let low : is_below c.point point ≡ true = below_total c.point point other high in
    let moved : next ≡ suc (from + length left) = omega (arith, is) in
    record {
      ascends = neighbours_behind c right (neighbours_right left (c ∷ right) step.ascends);
      same =
          ap (λ (k : ℕ). index_from k right point) moved
          ∙ sym (found_right from left c right point step.ascends low) ∙ step.same;
      fits = omega (arith, step.fits, is);
    }

-- nothing stands in a part without points
pub none_left : (part points : List CutPoint) (from : ℕ) (point : Point) → IsPart part points from point →
    length part ≤ 0 →
    None ≡ index_from 0 points point
unfolding index_from
none_left [] points from point known none = known.same
none_left (first ∷ part) points from point known none = absurd (omega (arith, none))
