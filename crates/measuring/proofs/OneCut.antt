-- A run and a side have one cut.
use Rattle.std.proofs.Common.{◌≡◌, ℕ, ◌==◌, ◌&&◌, not, nat_lt, true, List, [], ◌∷◌, inl, inr, refl, sym, ap, subst, ◌∙◌, ⊎_elim}
use Rattle.std.specs.List.{AllByRecursion, list_all}
use Rattle.std.specs.Ordering.{is_eq}
use Rattle.std.proofs.lemmas.Bool.{and_parts, eq-eqb, eqb-true, false≢true, or_cases, or_left, or_right}
use Rattle.std.proofs.lemmas.Cmp.{tied_itself}
use Rattle.acceptance_law.specs.RunCuts.{HasVisitMasks, IsCutOf, is_inner, names_point, united, visit_masks}
use Rattle.acceptance_law.specs.Sides.{NamedSide, is_split}
use Rattle.cut_file.specs.declared.points.CutPoint.{CutPoint}
use Rattle.cut_file.specs.declared.points.Run.{Run}
use Rattle.cut_file.specs.Cuts.{CutPicture, are_regions, is_point_of, is_cut_picture, neighbours_pass, stands_before}
use Rattle.cut_file.proofs.OneFold.{cut_points_same, cuts_same, lists_of, point_runs}
use Rattle.cut_file.proofs.OneRuns.{one_runs}
use Rattle.flow_base.specs.declared.points.Point.{Point}
use Rattle.flow_base.specs.PointOrders.{is_same, point_cmp}
use Rattle.flow_base.proofs.PointOrders.{point_total, one_if_same}
use Rattle.flow_graph.specs.declared.events.Event.{Event}
use Rattle.measuring.proofs.SortedLists.{Holds, IsOrder, all_holds, neighbours_ordered, numbers_order, one_list, order_on}
use Rattle.flow_base.specs.Points.{is_region_number}
use Rattle.flow_base.specs.Listed.{is_listed}

-- ---- the regions to be skipped

stands_held : (numbers : List ℕ) (number : ℕ) → is_listed numbers number ≡ true → Holds numbers number
stands_held [] number stands = absurd (false≢true stands)
stands_held (first ∷ numbers) number stands =
    ⊎_elim
    (λ (same : (first == number) ≡ true). inl (sym (eqb-true first number same)))
    (λ (later : is_listed numbers number ≡ true). inr (stands_held numbers number later))
    (or_cases (first == number) (is_listed numbers number) stands)

held_stands : (numbers : List ℕ) (number : ℕ) → Holds numbers number → is_listed numbers number ≡ true
held_stands [] number held = absurd held
held_stands (first ∷ numbers) number (inl same) =
    or_left (first == number) (is_listed numbers number) (eq-eqb first number (sym same))
held_stands (first ∷ numbers) number (inr later) =
    or_right (first == number) (is_listed numbers number) (held_stands numbers number later)

one_skip : (one other : List ℕ) → are_regions one ≡ true → are_regions other ≡ true →
    ((region : ℕ) → is_listed one region ≡ is_listed other region) → one ≡ other
one_skip one other first second alike =
    let a = and_parts (list_all is_region_number one) (neighbours_pass nat_lt one) first in
    let b = and_parts (list_all is_region_number other) (neighbours_pass nat_lt other) second in
    one_list nat_lt numbers_order one other (neighbours_ordered nat_lt numbers_order one a.1)
    (neighbours_ordered nat_lt numbers_order other b.1)
    (λ region held. stands_held other region (sym (alike region) ∙ held_stands one region held))
    (λ region held. stands_held one region (alike region ∙ held_stands other region held))

-- ---- the points

points_order : IsOrder stands_before
points_order = order_on point_cmp point_total (λ cut_point. cut_point.point)

held_named : (points : List CutPoint) (cut_point : CutPoint) → Holds points cut_point →
    names_point points cut_point.point ≡ true
held_named [] cut_point held = absurd held
held_named (first ∷ points) cut_point (inl same) =
    or_left (is_same first.point cut_point.point) (names_point points cut_point.point)
    (ap (λ (c : CutPoint). is_same first.point c.point) same ∙ ap is_eq (tied_itself point_total first.point))
held_named (first ∷ points) cut_point (inr later) =
    or_right (is_same first.point cut_point.point) (names_point points cut_point.point)
    (held_named points cut_point later)

record HasPoint (points : List CutPoint) (point : Point) : Type 0 where
  at : CutPoint
  held : Holds points at
  is : at.point ≡ point

named_held : (points : List CutPoint) (point : Point) → names_point points point ≡ true → HasPoint points point
named_held [] point named = absurd (false≢true named)
named_held (first ∷ points) point named =
    ⊎_elim
    (λ (same : is_same first.point point ≡ true). record {
      at = first;
      held = inl refl;
      is = one_if_same first.point point same;
    })
    (λ (later : names_point points point ≡ true).
    let go = named_held points point later in record { at = go.at; held = inr go.held; is = go.is })
    (or_cases (is_same first.point point) (names_point points point) named)

holds_by : (P : CutPoint → Type 0) (points : List CutPoint) (cut_point : CutPoint) → AllByRecursion P points →
    Holds points cut_point → P cut_point
holds_by P [] cut_point all held = absurd held
holds_by P (first ∷ points) cut_point all (inl same) = subst P (sym same) all.0
holds_by P (first ∷ points) cut_point all (inr later) = holds_by P points cut_point all.1 later

-- a point has the masks of its visits
one_point : (events : List Event) (version second : ℕ) (one other : CutPoint) → is_point_of version one ≡ true →
    is_point_of second other ≡ true → HasVisitMasks events one → HasVisitMasks events other →
    one.point ≡ other.point → one ≡ other
one_point events version second one other valid also masks passed same =
    let runs : one.runs ≡ other.runs =
    one_runs one.runs other.runs (point_runs version one valid) (point_runs second other also)
    (masks.masks ∙ (ap (λ (p : Point). visit_masks p events) same ∙ sym passed.masks)) in
    let union : List Run → Point → Type 0 = λ rest p.
    rest ≡ record { count = 1; mask = united (visit_masks p events) } ∷ [] in
    let rest : one.rest ≡ other.rest = subst (union one.rest) same masks.rest ∙ sym passed.rest in
    cut_points_same one other same runs rest

points_hold : (events : List Event) (version second : ℕ) (one other : List CutPoint) →
    list_all (is_point_of version) one ≡ true → list_all (is_point_of second) other ≡ true →
    AllByRecursion (HasVisitMasks events) one → AllByRecursion (HasVisitMasks events) other →
    ((point : Point) → names_point one point ≡ names_point other point) → (cut_point : CutPoint) →
    Holds one cut_point → Holds other cut_point
points_hold events version second one other valid also masks passed alike cut_point held =
    let found = named_held other cut_point.point (sym (alike cut_point.point) ∙ held_named one cut_point held) in
    let same : found.at ≡ cut_point =
    one_point events second version found.at cut_point
    (all_holds (is_point_of second) other found.at also found.held)
    (all_holds (is_point_of version) one cut_point valid held)
    (holds_by (HasVisitMasks events) other found.at passed found.held)
    (holds_by (HasVisitMasks events) one cut_point masks held) found.is in
    subst (Holds other) same found.held

-- ---- one cut

pub one_cut_of : (secret_len : ℕ) (events : List Event) (side : NamedSide) (capacity : ℕ) (one other : CutPicture) →
    is_cut_picture one ≡ true → is_cut_picture other ≡ true → IsCutOf secret_len events side capacity one →
    IsCutOf secret_len events side capacity other → one ≡ other
one_cut_of secret_len events side capacity one other valid also is second =
    let own = lists_of one valid in
    let own_other = lists_of other also in
    let skip : one.skip ≡ other.skip = one_skip one.skip other.skip own.skip own_other.skip
    (λ region. is.skip region ∙ sym (second.skip region)) in
    let alike : (point : Point) → names_point one.points point ≡ names_point other.points point =
    λ point. is.points point
    ∙ (ap (λ (s : List ℕ). is_split side point && not (is_inner s point)) skip ∙ sym (second.points point)) in
    let points : one.points ≡ other.points =
    one_list stands_before points_order one.points other.points
    (neighbours_ordered stands_before points_order one.points own.ascend)
    (neighbours_ordered stands_before points_order other.points own_other.ascend)
    (points_hold events one.version other.version one.points other.points own.points own_other.points is.masks
    second.masks alike)
    (points_hold events other.version one.version other.points one.points own_other.points own.points second.masks
    is.masks (λ point. sym (alike point))) in
    cuts_same one other (is.version ∙ sym second.version) (is.length ∙ sym second.length) (is.bits ∙ sym second.bits)
    skip points
