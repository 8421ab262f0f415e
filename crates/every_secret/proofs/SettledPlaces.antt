-- Open places before the next string.
use Rattle.std.proofs.Common.{◌≡◌, ◌≤◌, ◌<◌, ◌+◌, ◌-◌, ℕ, List, [], ◌∷◌, ◌++◌, Bool, true, Some, map}
use Rattle.std.proofs.Common.{sym, ap, ◌∙◌, arith, subst, take, drop, length, length-append}
use Rattle.std.specs.List.{AllByRecursion}
use Rattle.std.proofs.lemmas.List.{length-take}
use Rattle.rv32im_machine.specs.State.{State}
use Rattle.every_secret.specs.Bounds.{Found}
use Rattle.every_secret.specs.Paths.{Path, Tree, next_string, paths_of}
use Rattle.every_secret.specs.States.{EndsWithin}
use Rattle.every_secret.specs.Ways.{Leads}
use Rattle.every_secret.specs.Private.Closing.{IsClosable, below_open}
use Rattle.every_secret.specs.Private.Orders.{earlier, past, under}
use Rattle.every_secret.specs.Private.Searching.{AllLead, IsAddedTo, IsClosed, IsOpen, IsSettled, IsWhole, Stood, Sums, spot_of}
use Rattle.every_secret.specs.Private.Searching.{turned_at}
use Rattle.every_secret.specs.Private.Spots.{EndsBy, Basis, LeadsTo, Spot, below_in, tree_in}
use Rattle.every_secret.proofs.DroppedStrings.{dropped_last, dropped_next, taken_next}
use Rattle.every_secret.proofs.EarlierPaths.{paths_to_last, reaches_next, weaken_all}

-- ---- lengths

pub turned_length : (turn : ℕ) (bits : List Bool) → turn < length bits → length (turned_at turn bits) ≡ turn + 1
turned_length turn bits within =
    let both = length-append (take turn bits) (true ∷ []) in
    let front = taken_length turn bits within in
    omega (arith, both, front)
  where
    taken_length : (n : ℕ) (s : List Bool) → n < length s → length (take n s) ≡ n
    taken_length n s h = grind (arith, length-take)

-- ---- one place

module _ (basis : Basis) (machine : State) (pieces : List ℕ) (found : Found) (bits : List Bool) (turn : ℕ)
    (within : turn < length bits) (next : next_string bits ≡ Some (turned_at turn bits)) (tree : Tree) where
  settled_before : (stood : Stood) → IsAddedTo basis machine pieces found bits tree stood → stood.entry.depth ≤ turn →
      IsOpen basis machine pieces found (turned_at turn bits) stood
  settled_before stood added low =
      let depth = stood.entry.depth in
      let below = below_in basis stood.entry.left stood.place in
      let reached = reaches_next below (drop depth bits) (drop depth (turned_at turn bits)) added.opens
      (dropped_next depth bits turn within low next) in
      let long = turned_length turn bits within in record {
        kept = added.kept;
        goes = added.goes;
        setting = added.setting;
        secret = added.secret;
        crossed = added.crossed;
        within = omega (arith, long, low);
        tree = ap (λ s. under (tree_in basis) s) (taken_next depth bits turn within low) ∙ added.tree_is;
        sums = subst (λ ps. Sums basis stood.entry.left stood.place found stood.entry.sum ps)
            (ap (λ t. earlier below (drop depth bits) ++ map (past (drop depth bits)) (paths_of t)) (sym added.under_is)
            ∙ sym reached.earlier_is) added.sums;
      }

  settled_behind : (stood : Stood) → IsAddedTo basis machine pieces found bits tree stood → turn < stood.entry.depth →
      IsWhole basis machine pieces found stood
  settled_behind stood added deep =
      let depth = stood.entry.depth in
      let below = below_in basis stood.entry.left stood.place in
      let goes = added.goes in record {
        kept = added.kept;
        within_budget = goes.within;
        setting = added.setting;
        secret = added.secret;
        crossed = added.crossed;
        sums = subst (λ ps. Sums basis stood.entry.left stood.place found stood.entry.sum ps)
            (ap (λ t. earlier below (drop depth bits) ++ map (past (drop depth bits)) (paths_of t)) (sym added.under_is)
            ∙ sym (paths_to_last below (drop depth bits) added.opens
            (dropped_last depth bits turn deep added.within next))) added.sums;
      }

  pub is_settled : (stood : Stood) → IsAddedTo basis machine pieces found bits tree stood →
      IsSettled basis machine pieces found (turned_at turn bits) turn stood
  is_settled stood added = record {
    before = λ low. settled_before stood added low;
    behind = λ deep. settled_behind stood added deep;
  }

-- ---- the way to each

leads_turned : (basis : Basis) (bits : List Bool) (turn : ℕ) → turn < length bits → (first last : Spot) →
    last.depth ≤ turn → LeadsTo basis bits first last → LeadsTo basis (turned_at turn bits) first last
leads_turned basis bits turn within first last low leads = record {
  made = leads.made;
  near = leads.near;
  leads = subst (λ s. Leads basis.rules basis.task basis.limits leads.made first.place
      (drop first.depth s) leads.near) (sym (taken_next last.depth bits turn within low)) leads.leads;
  same = leads.same;
  crossed = leads.crossed;
  turns = leads.turns;
  deeper = leads.deeper;
}

abbrev IsBefore : ℕ → Stood → Type 0
IsBefore turn stood = stood.entry.depth ≤ turn

each_turned : (basis : Basis) (bits : List Bool) (turn : ℕ) → turn < length bits → (first : Stood) (more : List Stood) →
    AllByRecursion (λ later. LeadsTo basis bits (spot_of first) (spot_of later)) more →
    AllByRecursion (IsBefore turn) more →
    AllByRecursion (λ later. LeadsTo basis (turned_at turn bits) (spot_of first) (spot_of later)) more
each_turned basis bits turn within first [] all low = tt
each_turned basis bits turn within first (later ∷ more) (one, all) (here, low) = (
  leads_turned basis bits turn within (spot_of first) (spot_of later) here one,
  each_turned basis bits turn within first more all low,
)

pub all_turned : (basis : Basis) (bits : List Bool) (turn : ℕ) → turn < length bits → (stood : List Stood) →
    AllLead basis bits stood → AllByRecursion (IsBefore turn) stood → AllLead basis (turned_at turn bits) stood
all_turned basis bits turn within [] lead low = tt
all_turned basis bits turn within (first ∷ more) (one, lead) (here, low) =
    (each_turned basis bits turn within first more one low, all_turned basis bits turn within more lead low)

-- ---- a place that is closed

module _ (basis : Basis) (machine : State) (pieces : List ℕ) (found : Found) (stood : Stood) (turn : ℕ)
    (small : basis.limits.budget < 4294967295) (whole : IsWhole basis machine pieces found stood)
    (closable : IsClosable stood.entry turn) where
  ends_within : (path : Path) → EndsBy basis stood.entry.left stood.place stood.entry.sum.after stood.entry.sum.crossed path →
      EndsWithin basis.rules basis.task basis.limits stood.entry.left stood.place
      (stood.entry.left - stood.entry.sum.after) (stood.entry.sum.crossed - stood.entry.crossed) path
  ends_within path ends =
      let soon = ends.soon in
      let few = ends.few in
      let same = whole.crossed in record {
        after = ends.after;
        crossed = ends.crossed;
        ends_on = ends.ends_on;
        soon = omega (arith, soon);
        few = omega (arith, few, same);
      }

  pub is_closed : IsClosed basis machine pieces found stood.entry.kept (below_open stood.entry)
  is_closed =
      let counted = closable.counted in
      let begins = whole.within_budget in
      let same = whole.crossed in
      let sums = whole.sums in record {
        left = stood.entry.left;
        place = stood.place;
        is_kept = whole.kept;
        counted_bits = omega (arith, counted, begins, same, small);
        within_budget = whole.within_budget;
        setting = whole.setting;
        secret = whole.secret;
        within = weaken_all
            (EndsBy basis stood.entry.left stood.place stood.entry.sum.after stood.entry.sum.crossed)
            (EndsWithin basis.rules basis.task basis.limits stood.entry.left stood.place
            (stood.entry.left - stood.entry.sum.after) (stood.entry.sum.crossed - stood.entry.crossed)) ends_within
            (paths_of (below_in basis stood.entry.left stood.place)) (sums.ends closable.repeats);
        count = sums.count;
        stops = sums.stops;
        known = sums.known;
      }
