-- What holds while a tree is searched in depth.
use Rattle.std.specs.Prelude.{◌≡◌, ◌≤◌, ◌<◌, ◌+◌, ℕ, List, [], ◌∷◌, ◌++◌, length, map, take, drop, Bool, true, false, nat_lt}
use Rattle.std.specs.Prelude.{Option, Some, None, IsTrue, option_map, slice_get}
use Rattle.std.specs.List.{AllByRecursion}
use Rattle.cut_file.specs.declared.points.CutPoint.{CutPoint}
use Rattle.cut_file.specs.Masks.{MaskAt}
use Rattle.enclosure_regions.specs.declared.region_parts.Region.{Region}
use Rattle.kept_states.specs.declared.kept_states.KeptState.{KeptState}
use Rattle.kept_states.specs.Keeping.{Keeps, StandsAt}
use Rattle.lockstep_replay.specs.Tasks.{Task}
use Rattle.region_machine.specs.Within.{may_leave}
use Rattle.replay_machine.specs.Runs.{Masks}
use Rattle.replay_machine.specs.Visits.{IsAhead}
use Rattle.rv32im_machine.specs.State.{State}
use Rattle.shadow_masks.specs.Labels.{clean}
use Rattle.shadow_masks.specs.Shades.{Shades, kept_label, register_label}
use Rattle.shadow_masks.specs.Writes.{default_map}
use Rattle.tracked_run.specs.Labels.{map_of}
use Rattle.every_secret.specs.declared.closed_states.Closed.{Closed}
use Rattle.every_secret.specs.declared.endings.Ending.{Ending}
use Rattle.every_secret.specs.declared.findings.Findings.{Findings}
use Rattle.every_secret.specs.declared.open_places.OpenPlace.{OpenPlace}
use Rattle.every_secret.specs.declared.patterns.Pattern.{Pattern}
use Rattle.every_secret.specs.declared.judging.Judged.{Judged}
use Rattle.every_secret.specs.declared.judging.Judged.TheVariants.{Add, Unclear}
use Rattle.every_secret.specs.declared.searching.Came.{Came}
use Rattle.every_secret.specs.declared.searching.Came.TheVariants.{Ended, Met}
use Rattle.every_secret.specs.declared.searching.Search.{Search}
use Rattle.every_secret.specs.declared.stepping.Step.{Step}
use Rattle.every_secret.specs.declared.stepping.Step.TheVariants.{Answered, Done, Goes, TooMany}
use Rattle.every_secret.specs.declared.sums.Sum.{Sum}
use Rattle.every_secret.specs.declared.verdicts.Bounded.{Bounded}
use Rattle.every_secret.specs.Bounds.{Found, Halt, IsBounded, IsUnclear, counted, halt_of, judged, nothing_found, pattern_limit, size_of, summary_in, summary_of}
use Rattle.every_secret.specs.Masked.{MaskedPlace}
use Rattle.every_secret.specs.Paths.{Leaf, Opens, Path, Tree, paths_of}
use Rattle.every_secret.specs.Rules.{Rules}
use Rattle.every_secret.specs.States.{AllEndWithin}
use Rattle.every_secret.specs.Ways.{GoesOn}
use Rattle.every_secret.specs.Private.Folding.{FoldsTo, IsKnown, stops_in}
use Rattle.every_secret.specs.Private.Orders.{earlier, past, under}
use Rattle.every_secret.specs.Private.Spots.{EndsBy, Basis, LeadsTo, Spot, below_in, tree_in}
use Rattle.every_secret.specs.Private.Sums.{no_paths, sum_of_came}
use Rattle.every_secret.specs.Private.Tapes.{AreRulesOf, HoldsPlace, Ruling, Tape}
use Rattle.every_secret.specs.Private.Turning.{IsReady}
use Rattle.every_secret.specs.Private.Walks.{end_of}

-- what is known of patterns and stops
abbrev pub known_in : Findings → Found
known_in findings = record {
  paths = 0;
  stopped = 0;
  patterns = findings.patterns;
  first_stop = option_map (λ stopped. halt_of stopped) findings.first_stop;
}

-- by which rules, in which regions, of which these are skipped, and within which limits a search walks
pub record Terms : Type 0 where
  pub ruling : Ruling
  pub regions : List Region
  pub skip : List ℕ
  pub budget : ℕ
  pub turns : ℕ

abbrev pub terms_of : Ruling → List Region → List ℕ → ℕ → ℕ → Terms
terms_of ruling regions skip budget turns =
    record { ruling = ruling; regions = regions; skip = skip; budget = budget; turns = turns }

-- the basis of a search
pub record IsBasis (terms : Terms) (basis : Basis) : Type 0 where
  pub answers : AreRulesOf terms.ruling basis.rules
  pub enclosures : basis.task.enclosures ≡ record { regions = terms.regions; skip = terms.skip }
  pub limits : basis.limits ≡ record { budget = terms.budget; turns = terms.turns }
  pub small : terms.budget < 4294967295

-- ---- what keeps a search safe, whatever the rules are

-- a machine with this setting and secret can be put back into an open place, and go on from there
pub record CanReturn (terms : Terms) (pieces : List ℕ) (machine : State) (entry : OpenPlace) : Type 0 where
  pub state : State
  pub shades : Shades
  pub ahead : List CutPoint
  pub byte_masks : List ℕ
  pub status_mask : ℕ
  pub keeps : Keeps pieces entry.kept state shades ahead byte_masks status_mask
  pub setting : state.setting ≡ machine.setting
  pub secret : state.secret ≡ machine.secret
  pub leaves : IsTrue (may_leave terms.regions state)
  pub crossed : entry.crossed ≤ terms.budget

-- the first open place is the start, and the search can go back to each
pub record CanGoBack (terms : Terms) (search : Search) (tape : Tape) : Type 0 where
  pub opens : AllByRecursion (CanReturn terms search.pieces search.machine) search.opens.items
  pub first : OpenPlace
  pub others : List OpenPlace
  pub begins : search.opens.items ≡ first ∷ others
  pub at_start : first.depth ≡ 0
  pub same_length : length search.closed.states ≡ length search.closed.below.items
  pub ruling : tape.ruling ≡ terms.ruling
  pub base : tape.shades.base ≡ search.machine.setting.base

-- it can make a turn
pub record CanGoOn (terms : Terms) (search : Search) (tape : Tape) : Type 0 where
  pub back : CanGoBack terms search tape
  pub ready : IsReady terms.regions search.machine tape
  pub crossed : tape.crossed ≤ terms.budget
  pub within : tape.stream.taken ≤ length tape.stream.bits

-- ---- what it has done

-- past the 32 registers there are no labels
pub record NonePast (shades : Shades) : Type 0 where
  pub registers : (register : ℕ) → 32 ≤ register → register_label shades register ≡ clean
  pub kept : (register : ℕ) → 32 ≤ register → kept_label shades register ≡ clean

-- a kept state is that of a place
pub record IsKeptOf (pieces : List ℕ) (kept : KeptState) (masks : Masks) (place : MaskedPlace) : Type 0 where
  pub shades : Shades
  pub ahead : List CutPoint
  pub keeps : Keeps pieces kept place.state shades ahead place.byte_masks place.status_mask
  pub labels : map_of shades ≡ place.labels
  pub none_past : NonePast shades
  pub is_ahead : IsAhead ahead masks place.past

-- what is known of paths below a place
pub record Sums (basis : Basis) (left : ℕ) (place : MaskedPlace) (found : Found) (sum : Sum) (paths : List Path) :
    Type 0 where
  pub count : sum.paths ≡ counted (length paths)
  pub stops : sum.stopped ≡ counted (stops_in paths)
  pub known : AllByRecursion (IsKnown found) paths
  pub ends : sum.repeats ≡ true → AllByRecursion (EndsBy basis left place sum.after sum.crossed) paths

-- an open place with the place of the walk that it is
pub record Stood : Type 0 where
  pub entry : OpenPlace
  pub place : MaskedPlace

abbrev pub spot_of : Stood → Spot
spot_of stood = record { depth = stood.entry.depth; left = stood.entry.left; place = stood.place }

-- an open place on the way along a string, whose paths before the string are done
pub record IsOpen (basis : Basis) (machine : State) (pieces : List ℕ) (found : Found) (bits : List Bool)
    (stood : Stood) : Type 0 where
  pub kept : IsKeptOf pieces stood.entry.kept basis.task.masks stood.place
  pub goes : GoesOn basis.limits stood.place
  pub setting : stood.place.state.setting ≡ machine.setting
  pub secret : stood.place.state.secret ≡ machine.secret
  pub crossed : stood.entry.crossed ≡ stood.place.crossed
  pub within : stood.entry.depth ≤ length bits
  pub tree : under (tree_in basis) (take stood.entry.depth bits) ≡ below_in basis stood.entry.left stood.place
  pub sums : Sums basis stood.entry.left stood.place found stood.entry.sum
      (earlier (below_in basis stood.entry.left stood.place) (drop stood.entry.depth bits))

-- each open place leads to each later one
abbrev pub AllLead : Basis → List Bool → List Stood → Type 0
AllLead basis bits [] = Unit {0}
AllLead basis bits (stood ∷ more) =
    AllByRecursion (λ later. LeadsTo basis bits (spot_of stood) (spot_of later)) more × AllLead basis bits more

pub record AreOpen (basis : Basis) (machine : State) (pieces : List ℕ) (found : Found) (bits : List Bool)
    (opens : List OpenPlace) : Type 0 where
  pub stood : List Stood
  pub opens_are : map (λ (one : Stood). one.entry) stood ≡ opens
  pub each : AllByRecursion (IsOpen basis machine pieces found bits) stood
  pub lead : AllLead basis bits stood

-- a state all of whose paths are done, and what is below it
pub record IsClosed (basis : Basis) (machine : State) (pieces : List ℕ) (found : Found) (kept : KeptState)
    (closed : Closed) : Type 0 where
  pub left : ℕ
  pub place : MaskedPlace
  pub is_kept : IsKeptOf pieces kept basis.task.masks place
  pub counted_bits : place.crossed + closed.bits < 4294967295
  pub within_budget : place.crossed ≤ basis.limits.budget
  pub setting : place.state.setting ≡ machine.setting
  pub secret : place.state.secret ≡ machine.secret
  pub within : AllEndWithin basis.rules basis.task basis.limits left place closed.turns closed.bits
  pub count : closed.paths ≡ counted (length (paths_of (below_in basis left place)))
  pub stops : closed.stopped ≡ counted (stops_in (paths_of (below_in basis left place)))
  pub known : AllByRecursion (IsKnown found) (paths_of (below_in basis left place))

abbrev pub AreClosed : Basis → State → List ℕ → Found → List KeptState → List Closed → Type 0
AreClosed basis machine pieces found states closed =
    (index : ℕ) (kept : KeptState) (one : Closed) → StandsAt states index kept →
    slice_get closed index ≡ Some one → IsClosed basis machine pieces found kept one

-- what is found of the paths before a string
abbrev pub found_before : Tree → List Pattern → Option Halt → List Bool → Found
found_before tree patterns first_stop bits = record {
  paths = length (earlier tree bits);
  stopped = stops_in (earlier tree bits);
  patterns = patterns;
  first_stop = first_stop;
}

-- so much is found of the paths before a string, and no more than may be
pub record IsFoundBefore (tree : Tree) (patterns : List Pattern) (first_stop : Option Halt) (bits : List Bool) : Type 0
  where
    pub folds : FoldsTo (earlier tree bits) (found_before tree patterns first_stop bits)
    pub small : nat_lt pattern_limit (size_of patterns) ≡ false

-- a search whose string is this
pub record IsSearched (basis : Basis) (bits : List Bool) (search : Search) : Type 0 where
  pub opens : AreOpen basis search.machine search.pieces (known_in search.findings) bits search.opens.items
  pub closed : AreClosed basis search.machine search.pieces (known_in search.findings) search.closed.states
      search.closed.below.items
  pub found : IsFoundBefore (tree_in basis) search.findings.patterns
      (option_map (λ stopped. halt_of stopped) search.findings.first_stop) bits

abbrev pub spot_at : ℕ → ℕ → MaskedPlace → Spot
spot_at depth left place = record { depth = depth; left = left; place = place }

-- a search that walks, with so many turns left
pub record IsWalking (basis : Basis) (left : ℕ) (search : Search) (tape : Tape) : Type 0 where
  pub searched : IsSearched basis tape.stream.bits search
  pub now : MaskedPlace
  pub holds : HoldsPlace basis.task.masks now search.machine tape
  pub goes : GoesOn basis.limits now
  pub opens : tape.stream.taken < length tape.stream.bits → Opens (tree_in basis) tape.stream.bits
  pub lead : AllByRecursion (λ stood. LeadsTo basis tape.stream.bits (spot_of stood)
      (spot_at tape.stream.taken left now)) searched.opens.stood

-- from an open place on a walk has come to this tree, whose paths end within so much
pub record CameTo (basis : Basis) (bits : List Bool) (sum : Sum) (tree : Tree) (stood : Stood) : Type 0 where
  pub opens : Opens (below_in basis stood.entry.left stood.place) (drop stood.entry.depth bits)
  pub under_is : under (below_in basis stood.entry.left stood.place) (drop stood.entry.depth bits) ≡ tree
  pub ends : sum.repeats ≡ true → AllByRecursion
      (λ path. EndsBy basis stood.entry.left stood.place sum.after sum.crossed (past (drop stood.entry.depth bits) path))
      (paths_of tree)

-- the tree below a state that is closed
pub record IsMet (found : Found) (closed : Closed) (tree : Tree) : Type 0 where
  pub count : closed.paths ≡ counted (length (paths_of tree))
  pub stops : closed.stopped ≡ counted (stops_in (paths_of tree))
  pub known : AllByRecursion (IsKnown found) (paths_of tree)

-- the tree to which a walk has come: the end of a path, or what is below a state that is closed
abbrev pub IsTreeOf : Found → Came → State → Tape → Tree → Type 0
IsTreeOf found (Ended ends after) machine tape tree = tree ≡ Leaf (end_of ends machine tape)
IsTreeOf found (Met closed left) machine tape tree = IsMet found closed tree

-- a walk that goes no further, of a search
pub record IsCome (basis : Basis) (came : Came) (search : Search) (tape : Tape) : Type 0 where
  pub searched : IsSearched basis tape.stream.bits search
  pub tree : Tree
  pub is_tree : IsTreeOf (known_in search.findings) came search.machine tape tree
  pub came_to : AllByRecursion
      (CameTo basis tape.stream.bits (sum_of_came came tape.crossed) tree) searched.opens.stood

-- what is below a state that is met fits in the budget
abbrev pub FitsCame : Came → ℕ → Type 0
FitsCame (Ended ends after) crossed = Unit {0}
FitsCame (Met closed left) crossed = crossed + closed.bits < 4294967296

abbrev pub FitsMet : Option Closed → ℕ → Type 0
FitsMet None crossed = Unit {0}
FitsMet (Some closed) crossed = crossed + closed.bits < 4294967296

abbrev pub FitsComing : Option Came → ℕ → Type 0
FitsComing None crossed = Unit {0}
FitsComing (Some came) crossed = FitsCame came crossed

-- after a look: the state is closed, or it is open now
abbrev pub LooksUp : Basis → ℕ → Option Closed → Search → Tape → Type 0
LooksUp basis left None search tape = IsWalking basis left search tape
LooksUp basis left (Some closed) search tape = IsCome basis (Met closed left) search tape

-- after a turn: the walk goes on, or has come to an end
abbrev pub GoesOrEnds : Basis → ℕ → Option Ending → Search → Tape → Type 0
GoesOrEnds basis left None search tape = IsWalking basis left search tape
GoesOrEnds basis left (Some ends) search tape = IsCome basis (Ended ends left) search tape

-- the same of whatever it comes to
abbrev pub GoesOrComes : Basis → ℕ → Option Came → Search → Tape → Type 0
GoesOrComes basis left None search tape = IsWalking basis left search tape
GoesOrComes basis left (Some came) search tape = IsCome basis came search tape

-- ---- between two walks

-- what is made of a walk that goes no further: it is the answer, or adds what is below it to what is found
pub record Adds (basis : Basis) (bits : List Bool) (tree : Tree) (before after : Findings) (sum : Sum) : Type 0 where
  pub count : sum.paths ≡ counted (length (paths_of tree))
  pub stops : sum.stopped ≡ counted (stops_in (paths_of tree))
  pub known : AllByRecursion (IsKnown (known_in after)) (paths_of tree)
  pub keeps : (path : Path) → IsKnown (known_in before) path → IsKnown (known_in after) path
  pub small : nat_lt pattern_limit (size_of after.patterns) ≡ false
  pub folds : FoldsTo (earlier (tree_in basis) bits ++ map (past bits) (paths_of tree)) (record {
    paths = length (earlier (tree_in basis) bits) + length (paths_of tree);
    stopped = stops_in (earlier (tree_in basis) bits) + stops_in (paths_of tree);
    patterns = after.patterns;
    first_stop = (known_in after).first_stop;
  })

abbrev pub IsJudged : Basis → List Bool → Tree → Findings → Findings → Judged → Type 0
IsJudged basis bits tree before after (Unclear why) =
    judged nothing_found (paths_of (tree_in basis)) ≡ IsUnclear bits why
IsJudged basis bits tree before after (Add sum) = Adds basis bits tree before after sum

-- whatever the basis is
abbrev pub IsSumOf : Came → ℕ → Judged → Type 0
IsSumOf came crossed (Unclear why) = Unit {0}
IsSumOf came crossed (Add sum) = sum ≡ sum_of_came came crossed

pub record JudgesSo (came : Came) (machine : State) (tape : Tape) (before after : Findings) (made : Judged) : Type 0 where
  pub sum : IsSumOf came tape.crossed made
  pub judges : (basis : Basis) (tree : Tree) →
      IsFoundBefore (tree_in basis) before.patterns (known_in before).first_stop tape.stream.bits →
      IsTreeOf (known_in before) came machine tape tree → Opens (tree_in basis) tape.stream.bits →
      under (tree_in basis) tape.stream.bits ≡ tree → IsJudged basis tape.stream.bits tree before after made

-- an open place below which the paths of a tree are done that is below a string
pub record IsAddedTo (basis : Basis) (machine : State) (pieces : List ℕ) (found : Found) (bits : List Bool) (tree : Tree)
    (stood : Stood) : Type 0 where
  pub kept : IsKeptOf pieces stood.entry.kept basis.task.masks stood.place
  pub goes : GoesOn basis.limits stood.place
  pub setting : stood.place.state.setting ≡ machine.setting
  pub secret : stood.place.state.secret ≡ machine.secret
  pub crossed : stood.entry.crossed ≡ stood.place.crossed
  pub within : stood.entry.depth ≤ length bits
  pub tree_is : under (tree_in basis) (take stood.entry.depth bits) ≡ below_in basis stood.entry.left stood.place
  pub opens : Opens (below_in basis stood.entry.left stood.place) (drop stood.entry.depth bits)
  pub under_is : under (below_in basis stood.entry.left stood.place) (drop stood.entry.depth bits) ≡ tree
  pub sums : Sums basis stood.entry.left stood.place found stood.entry.sum
      (earlier (below_in basis stood.entry.left stood.place) (drop stood.entry.depth bits)
      ++ map (past (drop stood.entry.depth bits)) (paths_of tree))

-- an open place all of whose paths are done
pub record IsWhole (basis : Basis) (machine : State) (pieces : List ℕ) (found : Found) (stood : Stood) : Type 0 where
  pub kept : IsKeptOf pieces stood.entry.kept basis.task.masks stood.place
  pub within_budget : stood.place.crossed ≤ basis.limits.budget
  pub setting : stood.place.state.setting ≡ machine.setting
  pub secret : stood.place.state.secret ≡ machine.secret
  pub crossed : stood.entry.crossed ≡ stood.place.crossed
  pub sums : Sums basis stood.entry.left stood.place found stood.entry.sum
      (paths_of (below_in basis stood.entry.left stood.place))

-- an open place, where the next string turns at a place of the string
pub record IsSettled (basis : Basis) (machine : State) (pieces : List ℕ) (found : Found) (next : List Bool) (turn : ℕ)
    (stood : Stood) : Type 0 where
  pub before : stood.entry.depth ≤ turn → IsOpen basis machine pieces found next stood
  pub behind : turn < stood.entry.depth → IsWhole basis machine pieces found stood

-- the next string, which turns at a place of a string
abbrev pub turned_at : ℕ → List Bool → List Bool
turned_at turn bits = take turn bits ++ true ∷ []

-- a search that settles before the string that turns at a place of its own
pub record Settles (basis : Basis) (turn : ℕ) (search : Search) (tape : Tape) : Type 0 where
  pub stood : List Stood
  pub opens_are : map (λ (one : Stood). one.entry) stood ≡ search.opens.items
  pub settled : AllByRecursion (IsSettled basis search.machine search.pieces (known_in search.findings)
      (turned_at turn tape.stream.bits) turn) stood
  pub lead : AllLead basis tape.stream.bits stood
  pub closed : AreClosed basis search.machine search.pieces (known_in search.findings) search.closed.states
      search.closed.below.items
  pub found : IsFoundBefore (tree_in basis) search.findings.patterns (known_in search.findings).first_stop
      (turned_at turn tape.stream.bits)

-- all paths are done
pub record IsDone (basis : Basis) (search : Search) : Type 0 where
  pub folds : FoldsTo (paths_of (tree_in basis)) (record {
    paths = length (paths_of (tree_in basis));
    stopped = stops_in (paths_of (tree_in basis));
    patterns = search.findings.patterns;
    first_stop = (known_in search.findings).first_stop;
  })
  pub first : OpenPlace
  pub others : List OpenPlace
  pub begins : search.opens.items ≡ first ∷ others
  pub count : first.sum.paths ≡ counted (length (paths_of (tree_in basis)))
  pub stops : first.sum.stopped ≡ counted (stops_in (paths_of (tree_in basis)))

-- a search whose walk has come to a tree, which is added below all open places
pub record IsAdded (basis : Basis) (search : Search) (tape : Tape) : Type 0 where
  pub stood : List Stood
  pub opens_are : map (λ (one : Stood). one.entry) stood ≡ search.opens.items
  pub tree : Tree
  pub added : AllByRecursion
      (IsAddedTo basis search.machine search.pieces (known_in search.findings) tape.stream.bits tree) stood
  pub lead : AllLead basis tape.stream.bits stood
  pub closed : AreClosed basis search.machine search.pieces (known_in search.findings) search.closed.states
      search.closed.below.items
  pub small : nat_lt pattern_limit (size_of search.findings.patterns) ≡ false
  pub folds : FoldsTo (earlier (tree_in basis) tape.stream.bits ++ map (past tape.stream.bits) (paths_of tree))
      (record {
        paths = length (earlier (tree_in basis) tape.stream.bits) + length (paths_of tree);
        stopped = stops_in (earlier (tree_in basis) tape.stream.bits) + stops_in (paths_of tree);
        patterns = search.findings.patterns;
        first_stop = (known_in search.findings).first_stop;
      })

-- the depth of an open place is within a string
abbrev pub IsDeep : ℕ → OpenPlace → Type 0
IsDeep most entry = entry.depth ≤ most

-- a walk that is to be made can be
abbrev pub StepsSafely : Terms → Step → Search → Tape → Type 0
StepsSafely terms (Answered why) search tape = Unit {0}
StepsSafely terms Done search tape = CanGoBack terms search tape
StepsSafely terms TooMany search tape = Unit {0}
StepsSafely terms (Goes left) search tape = CanGoOn terms search tape

-- what comes of a walk and all that is behind it, where so many paths were done before
abbrev pub StepsTo : Basis → ℕ → Step → Search → Tape → Type 0
StepsTo basis before (Answered why) search tape =
    judged nothing_found (paths_of (tree_in basis)) ≡ IsUnclear tape.stream.bits why
StepsTo basis before Done search tape = IsDone basis search
StepsTo basis before TooMany search tape =
    Opens (tree_in basis) tape.stream.bits × (before + 1 < length (paths_of (tree_in basis)))
StepsTo basis before (Goes left) search tape =
    IsWalking basis left search tape × (before + 1 ≤ length (earlier (tree_in basis) tape.stream.bits))

-- after the last walk that may be made no other comes, and only after that one there are too many
abbrev pub KeepsLimit : Bool → Step → Type 0
KeepsLimit is_last (Answered why) = Unit {0}
KeepsLimit is_last Done = Unit {0}
KeepsLimit is_last TooMany = is_last ≡ true
KeepsLimit is_last (Goes left) = is_last ≡ false

-- a walk at its start, by the base of guest memory and the points of the cut
pub record IsFirstTape (ruling : Ruling) (base : ℕ) (points : List CutPoint) (tape : Tape) : Type 0 where
  pub labels : map_of tape.shades ≡ default_map
  pub base_is : tape.shades.base ≡ base
  pub ahead : IsAhead tape.ahead (MaskAt points) []
  pub bits : tape.stream.bits ≡ []
  pub taken : tape.stream.taken ≡ 0
  pub crossed : tape.crossed ≡ 0
  pub byte_masks : tape.byte_masks ≡ []
  pub status_mask : tape.status_mask ≡ 0
  pub ruling_is : tape.ruling ≡ ruling
  pub unclear : tape.unclear ≡ None

-- a search that has no open place yet, of a machine at its start
pub record IsFirst (start : State) (search : Search) : Type 0 where
  pub machine : search.machine ≡ start
  pub states : search.closed.states ≡ []
  pub below : search.closed.below.items ≡ []
  pub opens : search.opens.items ≡ []
  pub patterns : search.findings.patterns ≡ []
  pub first_stop : search.findings.first_stop ≡ None

-- the start is open now, with so many turns left
pub record OpensStart (before after : Search) (tape : Tape) (turns : ℕ) : Type 0 where
  pub machine : after.machine ≡ before.machine
  pub states : after.closed.states ≡ before.closed.states
  pub below : after.closed.below.items ≡ before.closed.below.items
  pub findings : after.findings ≡ before.findings
  pub kept : KeptState
  pub keeps : Keeps after.pieces kept before.machine tape.shades tape.ahead tape.byte_masks tape.status_mask
  pub none_past : NonePast tape.shades
  pub opens : after.opens.items
      ≡ record { kept = kept; depth = 0; left = turns; crossed = 0; sum = no_paths } ∷ []

abbrev pub basis_of : Rules → Task → ℕ → ℕ → Basis
basis_of rules task budget turns =
    record { rules = rules; task = task; limits = record { budget = budget; turns = turns } }

-- what a bounded answer tells once all paths are done
abbrev pub ShowsDone : Basis → Bounded → Type 0
ShowsDone basis bounded = (found : Found) × (summary_in bounded ≡ summary_of found)
    × (judged nothing_found (paths_of (tree_in basis)) ≡ IsBounded found)
