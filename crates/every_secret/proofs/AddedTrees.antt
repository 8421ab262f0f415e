-- The tree to which a walk has come, added below all open places.
use Rattle.std.proofs.Common.{◌≡◌, ◌+◌, ℕ, List, [], ◌∷◌, ◌++◌, Bool, map, drop, length, refl, sym, ap, ◌∙◌, subst}
use Rattle.std.specs.Prelude.{nat_lt, false}
use Rattle.std.specs.List.{AllByRecursion}
use Rattle.rv32im_machine.specs.State.{State}
use Rattle.every_secret.specs.declared.closed_states.ClosedStates.{ClosedStates}
use Rattle.every_secret.specs.declared.findings.Findings.{Findings}
use Rattle.every_secret.specs.declared.judging.Judged.{Judged}
use Rattle.every_secret.specs.declared.open_places.OpenPlace.{OpenPlace}
use Rattle.every_secret.specs.declared.searching.Came.{Came}
use Rattle.every_secret.specs.declared.searching.Search.{Search}
use Rattle.every_secret.specs.declared.sums.Sum.{Sum}
use Rattle.every_secret.specs.Bounds.{pattern_limit, size_of}
use Rattle.every_secret.specs.Paths.{Opens, Tree, paths_of}
use Rattle.every_secret.specs.Private.Folding.{FoldsTo, IsKnown, stops_in}
use Rattle.every_secret.specs.Private.OpenPlaces.{with_sum}
use Rattle.every_secret.specs.Private.Orders.{earlier, past, under}
use Rattle.every_secret.specs.Private.Searching.{Adds, AllLead, AreClosed, CameTo, CanGoBack, CanReturn, IsAdded, IsAddedTo, IsCome}
use Rattle.every_secret.specs.Private.Searching.{IsJudged, IsOpen, JudgesSo, Stood, Terms, known_in, spot_of}
use Rattle.every_secret.specs.Private.Spots.{Basis, LeadsTo, below_in, tree_in}
use Rattle.every_secret.specs.Private.Sums.{sum_of_came}
use Rattle.every_secret.specs.Private.Tapes.{Tape}
use Rattle.every_secret.proofs.AddedSums.{sums_added, sums_known}
use Rattle.every_secret.proofs.EarlierPaths.{weaken_all}
use Rattle.every_secret.proofs.Lists.{each_mapped, each_weaker}
use Rattle.every_secret.proofs.SteppedSearches.{is_under}

-- ---- the search can still go back

return_added : (terms : Terms) (pieces : List ℕ) (machine : State) (sum : Sum) (entry : OpenPlace) →
    CanReturn terms pieces machine entry → CanReturn terms pieces machine (with_sum sum entry)
return_added terms pieces machine sum entry can = record {
  state = can.state;
  shades = can.shades;
  ahead = can.ahead;
  byte_masks = can.byte_masks;
  status_mask = can.status_mask;
  keeps = can.keeps;
  setting = can.setting;
  secret = can.secret;
  leaves = can.leaves;
  crossed = can.crossed;
}

pub back_added : (terms : Terms) (search after : Search) (tape : Tape) (sum : Sum) → after.machine ≡ search.machine →
    after.closed ≡ search.closed → after.pieces ≡ search.pieces →
    after.opens.items ≡ map (with_sum sum) search.opens.items → CanGoBack terms search tape → CanGoBack terms after tape
back_added terms search after tape sum machine_is closed_is pieces_is opens_are back = record {
  opens = subst (λ items. AllByRecursion (CanReturn terms after.pieces after.machine) items) (sym opens_are)
      (subst (λ ps. AllByRecursion (CanReturn terms ps after.machine) (map (with_sum sum) search.opens.items))
      (sym pieces_is)
      (subst (λ m. AllByRecursion (CanReturn terms search.pieces m) (map (with_sum sum) search.opens.items))
      (sym machine_is)
      (each_mapped (CanReturn terms search.pieces search.machine) (with_sum sum) search.opens.items
      (each_weaker (CanReturn terms search.pieces search.machine)
      (λ entry. CanReturn terms search.pieces search.machine (with_sum sum entry))
      (return_added terms search.pieces search.machine sum) search.opens.items back.opens))));
  first = with_sum sum back.first;
  others = map (with_sum sum) back.others;
  begins = opens_are ∙ ap (λ items. map (with_sum sum) items) back.begins;
  at_start = back.at_start;
  same_length = subst (λ (c : ClosedStates). length c.states ≡ length c.below.items) (sym closed_is) back.same_length;
  ruling = back.ruling;
  base = subst (λ m. tape.shades.base ≡ m.setting.base) (sym machine_is) back.base;
}

-- ---- the tree is below the string in the whole tree

first_come : (basis : Basis) (search : Search) (bits : List Bool) (sum : Sum) (here : Tree) (stood : List Stood)
    (items others : List OpenPlace) (first : OpenPlace) → map (λ (one : Stood). one.entry) stood ≡ items →
    items ≡ first ∷ others → first.depth ≡ 0 →
    AllByRecursion (IsOpen basis search.machine search.pieces (known_in search.findings) bits) stood →
    AllByRecursion (CameTo basis bits sum here) stood →
    Opens (tree_in basis) bits × (under (tree_in basis) bits ≡ here)
first_come basis search bits sum here [] items others first are begins zero each came = absurd (cc)
first_come basis search bits sum here (one ∷ more) items others first are begins zero (is, each) (came_to, came) =
    let same : one.entry ≡ first = cc in
    let at = is_under (tree_in basis) (below_in basis one.entry.left one.place) here bits one.entry.depth
    (ap (λ (e : OpenPlace). e.depth) same ∙ zero) is.tree came_to.opens came_to.under_is in (at.opens, at.under_is)

pub whole_come : (terms : Terms) (basis : Basis) (came : Came) (search : Search) (tape : Tape) →
    CanGoBack terms search tape → (come : IsCome basis came search tape) →
    Opens (tree_in basis) tape.stream.bits × (under (tree_in basis) tape.stream.bits ≡ come.tree)
whole_come terms basis came search tape back come =
    first_come basis search tape.stream.bits (sum_of_came came tape.crossed) come.tree come.searched.opens.stood
    search.opens.items back.others back.first come.searched.opens.opens_are back.begins back.at_start
    come.searched.opens.each come.came_to

-- what it is judged to be
pub come_judged : (terms : Terms) (basis : Basis) (came : Came) (search : Search) (tape : Tape) (after : Findings)
    (made : Judged) → CanGoBack terms search tape → (come : IsCome basis came search tape) →
    JudgesSo came search.machine tape search.findings after made →
    IsJudged basis tape.stream.bits come.tree search.findings after made
come_judged terms basis came search tape after made back come judges =
    let whole = whole_come terms basis came search tape back come in
    judges.judges basis come.tree come.searched.found come.is_tree whole.0 whole.1

-- ---- one open place

module _ (basis : Basis) (came : Came) (search : Search) (tape : Tape) (after : Findings) (sum : Sum)
    (is_sum : sum ≡ sum_of_came came tape.crossed) (come : IsCome basis came search tape)
    (adds : Adds basis tape.stream.bits come.tree search.findings after sum) where
  abbrev bits : List Bool
  bits = tape.stream.bits

  abbrev more : Stood → Stood
  more stood = record { entry = with_sum sum stood.entry; place = stood.place }

  added_to : (stood : Stood) → IsOpen basis search.machine search.pieces (known_in search.findings) bits stood →
      CameTo basis bits (sum_of_came came tape.crossed) come.tree stood →
      IsAddedTo basis search.machine search.pieces (known_in after) bits come.tree (more stood)
  added_to stood is came_to =
      let rest : List Bool = drop stood.entry.depth bits in
      let below : Tree = below_in basis stood.entry.left stood.place in
      let ends = subst (λ s. CameTo basis bits s come.tree stood) (sym is_sum) came_to in record {
        kept = is.kept;
        goes = is.goes;
        setting = is.setting;
        secret = is.secret;
        crossed = is.crossed;
        within = is.within;
        tree_is = is.tree;
        opens = came_to.opens;
        under_is = came_to.under_is;
        sums = sums_added basis stood.entry.left stood.place (known_in after) stood.entry.sum sum (earlier below rest)
            (paths_of come.tree) rest
            (sums_known basis stood.entry.left stood.place (known_in search.findings) (known_in after) stood.entry.sum
            (earlier below rest) adds.keeps is.sums) adds.count adds.stops adds.known ends.ends;
      }

  all_added : (stood : List Stood) →
      AllByRecursion (IsOpen basis search.machine search.pieces (known_in search.findings) bits) stood →
      AllByRecursion (CameTo basis bits (sum_of_came came tape.crossed) come.tree) stood →
      AllByRecursion (IsAddedTo basis search.machine search.pieces (known_in after) bits come.tree) (map more stood)
  all_added [] each came_to = tt
  all_added (one ∷ others) (is, each) (here, came_to) = (added_to one is here, all_added others each came_to)

  lead_mapped : (first : Stood) (stood : List Stood) →
      AllByRecursion (λ later. LeadsTo basis bits (spot_of first) (spot_of later)) stood →
      AllByRecursion (λ later. LeadsTo basis bits (spot_of (more first)) (spot_of later)) (map more stood)
  lead_mapped first [] lead = tt
  lead_mapped first (one ∷ others) (here, lead) = (here, lead_mapped first others lead)

  all_lead : (stood : List Stood) → AllLead basis bits stood → AllLead basis bits (map more stood)
  all_lead [] lead = tt
  all_lead (one ∷ others) (here, lead) = (lead_mapped one others here, all_lead others lead)

  entries_mapped : (stood : List Stood) →
      map (λ (one : Stood). one.entry) (map more stood) ≡ map (with_sum sum) (map (λ (one : Stood). one.entry) stood)
  entries_mapped [] = refl
  entries_mapped (one ∷ others) = ap (λ items. with_sum sum one.entry ∷ items) (entries_mapped others)

  closed_known : AreClosed basis search.machine search.pieces (known_in after) search.closed.states
      search.closed.below.items
  closed_known = λ index kept one at slot.
      let is = come.searched.closed index kept one at slot in record {
        left = is.left;
        place = is.place;
        is_kept = is.is_kept;
        counted_bits = is.counted_bits;
        within_budget = is.within_budget;
        setting = is.setting;
        secret = is.secret;
        within = is.within;
        count = is.count;
        stops = is.stops;
        known = weaken_all (IsKnown (known_in search.findings)) (IsKnown (known_in after)) adds.keeps
            (paths_of (below_in basis is.left is.place)) is.known;
      }

  pub is_added : (next : Search) → next.machine ≡ search.machine → next.closed ≡ search.closed →
      next.pieces ≡ search.pieces → next.findings ≡ after →
      next.opens.items ≡ map (with_sum sum) search.opens.items → IsAdded basis next tape
  is_added next machine_is closed_is pieces_is findings_is opens_are = record {
    stood = map more come.searched.opens.stood;
    opens_are = entries_mapped come.searched.opens.stood
        ∙ (ap (λ items. map (with_sum sum) items) come.searched.opens.opens_are ∙ sym opens_are);
    tree = come.tree;
    added = subst (λ (f : Findings). AllByRecursion
        (IsAddedTo basis next.machine next.pieces (known_in f) bits come.tree) (map more come.searched.opens.stood))
        (sym findings_is)
        (subst (λ ps. AllByRecursion (IsAddedTo basis next.machine ps (known_in after) bits come.tree)
        (map more come.searched.opens.stood)) (sym pieces_is)
        (subst (λ m. AllByRecursion (IsAddedTo basis m search.pieces (known_in after) bits come.tree)
        (map more come.searched.opens.stood)) (sym machine_is)
        (all_added come.searched.opens.stood come.searched.opens.each come.came_to)));
    lead = all_lead come.searched.opens.stood come.searched.opens.lead;
    closed = subst (λ (f : Findings). AreClosed basis next.machine next.pieces (known_in f) next.closed.states
        next.closed.below.items) (sym findings_is)
        (subst (λ (c : ClosedStates). AreClosed basis next.machine next.pieces (known_in after) c.states c.below.items)
        (sym closed_is)
        (subst (λ ps. AreClosed basis next.machine ps (known_in after) search.closed.states search.closed.below.items)
        (sym pieces_is)
        (subst (λ m. AreClosed basis m search.pieces (known_in after) search.closed.states search.closed.below.items)
        (sym machine_is) closed_known)));
    small = subst (λ (f : Findings). nat_lt pattern_limit (size_of f.patterns) ≡ false) (sym findings_is) adds.small;
    folds = subst (λ (f : Findings). FoldsTo (earlier (tree_in basis) bits ++ map (past bits) (paths_of come.tree))
        (record {
          paths = length (earlier (tree_in basis) bits) + length (paths_of come.tree);
          stopped = stops_in (earlier (tree_in basis) bits) + stops_in (paths_of come.tree);
          patterns = f.patterns;
          first_stop = (known_in f).first_stop;
        })) (sym findings_is) adds.folds;
  }
