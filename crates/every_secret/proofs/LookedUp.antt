-- A state that is looked up: it is closed, and what is below it is known, or it is open from now on.
use Rattle.std.proofs.Common.{◌≡◌, ◌≤◌, ◌<◌, ◌+◌, ◌-◌, ℕ, List, [], ◌∷◌, ◌++◌, Bool, Some, map}
use Rattle.std.proofs.Common.{refl, sym, ap, ◌∙◌, arith, subst, take, drop, length, inl, inr}
use Rattle.std.specs.Prelude.{IsTrue, slice_get}
use Rattle.std.specs.List.{AllByRecursion}
use Rattle.std.proofs.lemmas.List.{map-append}
use Rattle.std.proofs.Math.ListN.{drop_of_length-le}
use Rattle.std.proofs.lemmas.List.{take_all}
use Rattle.crossing_bits.proofs.Feeding.{le_or_lt}
use Rattle.cut_file.specs.declared.points.CutPoint.{CutPoint}
use Rattle.kept_states.specs.declared.kept_states.KeptState.{KeptState}
use Rattle.kept_states.specs.Keeping.{Keeps, StandsAt}
use Rattle.kept_states.specs.Pieces.{Grows}
use Rattle.kept_states.proofs.Laws.{keeps_grows, kept_alike}
use Rattle.lockstep_replay.specs.Tasks.{Limits}
use Rattle.region_machine.specs.Within.{may_leave}
use Rattle.replay_machine.specs.Runs.{Masks}
use Rattle.rv32im_machine.specs.State.{State}
use Rattle.shadow_masks.specs.declared.labels.Label.{Label}
use Rattle.shadow_masks.specs.Shades.{Shades}
use Rattle.shadow_masks.specs.Writes.{LabelMap}
use Rattle.every_secret.specs.declared.closed_states.Closed.{Closed}
use Rattle.every_secret.specs.declared.closed_states.ClosedStates.{ClosedStates}
use Rattle.every_secret.specs.declared.findings.Findings.{Findings}
use Rattle.every_secret.specs.declared.open_places.OpenPlace.{OpenPlace}
use Rattle.every_secret.specs.declared.searching.Came.TheVariants.{Met}
use Rattle.every_secret.specs.declared.searching.Search.{Search}
use Rattle.every_secret.specs.Bounds.{Found, counted}
use Rattle.every_secret.specs.Masked.{MaskedPlace}
use Rattle.every_secret.specs.Paths.{Opens, Path, Tree, paths_of}
use Rattle.every_secret.specs.States.{AllEndWithin, EndsWithin, SameState}
use Rattle.every_secret.specs.Ways.{EndsOn}
use Rattle.every_secret.specs.Private.Folding.{IsKnown, stops_in}
use Rattle.every_secret.specs.Private.Orders.{earlier, past, under}
use Rattle.every_secret.specs.Private.Searching.{AllLead, AreClosed, AreOpen, CameTo, CanReturn, IsClosed, IsCome, IsFoundBefore, IsBasis}
use Rattle.every_secret.specs.Private.Searching.{IsKeptOf, IsOpen, IsSearched, IsWalking, NonePast, Stood, Sums, Terms}
use Rattle.every_secret.specs.Private.Searching.{known_in, spot_at, spot_of}
use Rattle.every_secret.specs.Private.Spots.{EndsBy, Basis, LeadsTo, below_in, tree_in}
use Rattle.every_secret.specs.Private.Sums.{no_paths, sum_of_came}
use Rattle.every_secret.specs.Private.Tapes.{HoldsPlace, Tape}
use Rattle.every_secret.proofs.AddedSums.{sums_none}
use Rattle.every_secret.proofs.AlikeWays.{same_self}
use Rattle.every_secret.proofs.EarlierPaths.{earlier_none, under_none, weaken_all}
use Rattle.every_secret.proofs.Lists.{each_appended, each_weaker}
use Rattle.every_secret.proofs.SameTrees.{same_ends, same_trees}
use Rattle.every_secret.proofs.SpotWays.{leads_end, leads_here, leads_tree}

-- ---- more pieces

pub returns_grown : (terms : Terms) (old new : List ℕ) (machine : State) → Grows old new → (entry : OpenPlace) →
    CanReturn terms old machine entry → CanReturn terms new machine entry
returns_grown terms old new machine grows entry can = record {
  state = can.state;
  shades = can.shades;
  ahead = can.ahead;
  byte_masks = can.byte_masks;
  status_mask = can.status_mask;
  keeps = keeps_grows old new entry.kept can.state can.shades can.ahead can.byte_masks can.status_mask grows can.keeps;
  setting = can.setting;
  secret = can.secret;
  leaves = can.leaves;
  crossed = can.crossed;
}

pub kept_grown : (old new : List ℕ) → Grows old new → (kept : KeptState) (masks : Masks) (place : MaskedPlace) →
    IsKeptOf old kept masks place → IsKeptOf new kept masks place
kept_grown old new grows kept masks place is = record {
  shades = is.shades;
  ahead = is.ahead;
  keeps = keeps_grows old new kept place.state is.shades is.ahead place.byte_masks place.status_mask grows is.keeps;
  labels = is.labels;
  none_past = is.none_past;
  is_ahead = is.is_ahead;
}

pub open_grown : (basis : Basis) (machine : State) (old new : List ℕ) (found : Found) (bits : List Bool) → Grows old new →
    (stood : Stood) → IsOpen basis machine old found bits stood → IsOpen basis machine new found bits stood
open_grown basis machine old new found bits grows stood is = record {
  kept = kept_grown old new grows stood.entry.kept basis.task.masks stood.place is.kept;
  goes = is.goes;
  setting = is.setting;
  secret = is.secret;
  crossed = is.crossed;
  within = is.within;
  tree = is.tree;
  sums = is.sums;
}

pub closed_grown : (basis : Basis) (machine : State) (old new : List ℕ) (found : Found) → Grows old new →
    (states : List KeptState) (closed : List Closed) → AreClosed basis machine old found states closed →
    AreClosed basis machine new found states closed
closed_grown basis machine old new found grows states closed all = λ index kept one at slot.
    let is = all index kept one at slot in record {
      left = is.left;
      place = is.place;
      is_kept = kept_grown old new grows kept basis.task.masks is.place is.is_kept;
      counted_bits = is.counted_bits;
      within_budget = is.within_budget;
      setting = is.setting;
      secret = is.secret;
      within = is.within;
      count = is.count;
      stops = is.stops;
      known = is.known;
    }

-- a search with other pieces
abbrev pub with_pieces : List ℕ → Search → Search
with_pieces pieces search = record {
  machine = search.machine;
  opens = search.opens;
  closed = search.closed;
  pieces = pieces;
  findings = search.findings;
}

abbrev pub searched_grown : (basis : Basis) (bits : List Bool) (search : Search) (pieces : List ℕ) →
    Grows search.pieces pieces → IsSearched basis bits search → IsSearched basis bits (with_pieces pieces search)
searched_grown basis bits search pieces grows is = record {
  opens = record {
    stood = is.opens.stood;
    opens_are = is.opens.opens_are;
    each = each_weaker (IsOpen basis search.machine search.pieces (known_in search.findings) bits)
        (IsOpen basis search.machine pieces (known_in search.findings) bits)
        (open_grown basis search.machine search.pieces pieces (known_in search.findings) bits grows) is.opens.stood
        is.opens.each;
    lead = is.opens.lead;
  };
  closed = closed_grown basis search.machine search.pieces pieces (known_in search.findings) grows search.closed.states
      search.closed.below.items is.closed;
  found = is.found;
}

-- a place that is open now can be gone back to
pub opened_can_return : (terms : Terms) (pieces : List ℕ) (machine : State) (entry : OpenPlace) (shades : Shades)
    (ahead : List CutPoint) (byte_masks : List ℕ) (status_mask : ℕ) →
    Keeps pieces entry.kept machine shades ahead byte_masks status_mask → IsTrue (may_leave terms.regions machine) →
    entry.crossed ≤ terms.budget → CanReturn terms pieces machine entry
opened_can_return terms pieces machine entry shades ahead byte_masks status_mask keeps leaves crossed = record {
  state = machine;
  shades = shades;
  ahead = ahead;
  byte_masks = byte_masks;
  status_mask = status_mask;
  keeps = keeps;
  setting = refl;
  secret = refl;
  leaves = leaves;
  crossed = crossed;
}

-- ---- a walk that stands in a kept state

register_same : (place now : Label) (first second clean' : Label) → first ≡ place → second ≡ now →
    first.mask ≡ second.mask → place.mask ≡ now.mask
register_same place now first second clean' one two same =
    ap (λ (l : Label). l.mask) (sym one) ∙ (same ∙ ap (λ (l : Label). l.mask) two)

pub kept_same : (pieces : List ℕ) (kept : KeptState) (masks : Masks) (place now : MaskedPlace) (machine : State)
    (tape : Tape) → IsKeptOf pieces kept masks place →
    Keeps pieces kept machine tape.shades tape.ahead tape.byte_masks tape.status_mask → NonePast tape.shades →
    HoldsPlace masks now machine tape → place.state.setting ≡ machine.setting → place.state.secret ≡ machine.secret →
    SameState masks place now
kept_same pieces kept masks place now machine tape is keeps none holds setting secret =
    let alike = kept_alike pieces kept place.state machine is.shades tape.shades is.ahead tape.ahead place.byte_masks
    tape.byte_masks place.status_mask tape.status_mask is.keeps keeps setting secret in record {
      state = alike.states ∙ sym holds.state_is;
      visits = λ point visit first.
          sym (is.is_ahead point visit first) ∙ (alike.visits point visit first ∙ holds.ahead point visit first);
      registers = λ register. elim (le_or_lt 32 register) [
        | inl past ↦
            ap (λ (m : LabelMap). (m.registers register).mask) (sym is.labels)
            ∙ (ap (λ (l : Label). l.mask) (is.none_past.registers register past)
            ∙ (ap (λ (l : Label). l.mask) (sym (none.registers register past))
            ∙ ap (λ (m : LabelMap). (m.registers register).mask) holds.labels))
        | inr low ↦
            ap (λ (m : LabelMap). (m.registers register).mask) (sym is.labels)
            ∙ (alike.registers register low ∙ ap (λ (m : LabelMap). (m.registers register).mask) holds.labels)
      ];
      kept = λ register. elim (le_or_lt 32 register) [
        | inl past ↦
            ap (λ (m : LabelMap). (m.kept register).mask) (sym is.labels)
            ∙ (ap (λ (l : Label). l.mask) (is.none_past.kept register past)
            ∙ (ap (λ (l : Label). l.mask) (sym (none.kept register past))
            ∙ ap (λ (m : LabelMap). (m.kept register).mask) holds.labels))
        | inr low ↦
            ap (λ (m : LabelMap). (m.kept register).mask) (sym is.labels)
            ∙ (alike.kept_registers register low ∙ ap (λ (m : LabelMap). (m.kept register).mask) holds.labels)
      ];
      bytes = λ address.
          ap (λ (m : LabelMap). (m.bytes address).mask) (sym is.labels)
          ∙ (alike.masks address ∙ ap (λ (m : LabelMap). (m.bytes address).mask) holds.labels);
      byte_masks = alike.byte_masks ∙ holds.byte_masks;
      status_mask = alike.status_mask ∙ holds.status_mask;
    }

-- and keeps the place where it stands
pub keeps_now : (pieces : List ℕ) (kept : KeptState) (masks : Masks) (now : MaskedPlace) (machine : State) (tape : Tape) →
    Keeps pieces kept machine tape.shades tape.ahead tape.byte_masks tape.status_mask → NonePast tape.shades →
    HoldsPlace masks now machine tape → IsKeptOf pieces kept masks now
keeps_now pieces kept masks now machine tape keeps none holds = record {
  shades = tape.shades;
  ahead = tape.ahead;
  keeps = subst (λ s. Keeps pieces kept s tape.shades tape.ahead now.byte_masks now.status_mask) (sym holds.state_is)
      (subst (λ b. Keeps pieces kept machine tape.shades tape.ahead b now.status_mask) holds.byte_masks
      (subst (λ m. Keeps pieces kept machine tape.shades tape.ahead tape.byte_masks m) holds.status_mask keeps));
  labels = holds.labels;
  none_past = none;
  is_ahead = holds.ahead;
}

-- ---- a state that is closed

whole_string : (taken : ℕ) (bits : List Bool) → taken ≡ length bits → take taken bits ≡ bits
whole_string taken bits e = take_all taken bits (omega (arith, e))

module _ (basis : Basis) (terms : Terms) (is : IsBasis terms basis) where
  abbrev pub small : basis.limits.budget < 4294967295
  small = let e = ap (λ (l : Limits). l.budget) is.limits in let low = is.small in omega (arith, e, low)

  module _ (search : Search) (pieces : List ℕ) (tape : Tape) (left : ℕ) (kept : KeptState)
      (walking : IsWalking basis left search tape) (grows : Grows search.pieces pieces)
      (keeps : Keeps pieces kept search.machine tape.shades tape.ahead tape.byte_masks tape.status_mask)
      (none : NonePast tape.shades) (full : tape.stream.taken ≡ length tape.stream.bits) where
    abbrev bits : List Bool
    bits = tape.stream.bits

    module _ (closed : Closed) (index : ℕ) (at : StandsAt search.closed.states index kept)
        (slot : slice_get search.closed.below.items index ≡ Some closed) (turns : closed.turns ≤ left)
        (room : tape.crossed + closed.bits ≤ basis.limits.budget) where
      abbrev entry : IsClosed basis search.machine search.pieces (known_in search.findings) kept closed
      entry = walking.searched.closed index kept closed at slot

      abbrev tree : Tree
      tree = below_in basis left walking.now

      same_now : SameState basis.task.masks entry.place walking.now
      same_now =
          kept_same pieces kept basis.task.masks entry.place walking.now search.machine tape
          (kept_grown search.pieces pieces grows kept basis.task.masks entry.place entry.is_kept) keeps none walking.holds
          entry.setting entry.secret

      fits : walking.now.crossed + closed.bits ≤ basis.limits.budget
      fits = let e = walking.holds.crossed in omega (arith, e, room)

      tree_is : tree ≡ below_in basis entry.left entry.place
      tree_is =
          same_trees basis.rules basis.task basis.limits entry.place walking.now entry.left left closed.turns closed.bits
          same_now entry.within_budget small turns fits entry.within

      all_within : AllEndWithin basis.rules basis.task basis.limits left walking.now closed.turns closed.bits
      all_within =
          same_ends basis.rules basis.task basis.limits entry.place walking.now entry.left left closed.turns closed.bits
          same_now entry.within_budget small turns fits entry.counted_bits entry.within

      came_to : (stood : Stood) →
          LeadsTo basis bits (spot_of stood) (spot_at tape.stream.taken left walking.now) →
          CameTo basis bits (sum_of_came (Met closed left) tape.crossed) tree stood
      came_to stood lead =
          let all = whole_string tape.stream.taken bits full in
          let here = leads_tree basis small bits (spot_of stood) (spot_at tape.stream.taken left walking.now) lead in
          let below = below_in basis stood.entry.left stood.place in record {
            opens = subst (λ s. Opens below (drop stood.entry.depth s)) all here.0;
            under_is = ap (λ s. under below (drop stood.entry.depth s)) (sym all) ∙ here.1;
            ends = λ repeats. weaken_all
                (EndsWithin basis.rules basis.task basis.limits left walking.now closed.turns closed.bits)
                (λ path. EndsBy basis stood.entry.left stood.place (left - closed.turns) (tape.crossed + closed.bits)
                (past (drop stood.entry.depth bits) path)) (ends_by stood lead) (paths_of tree) all_within;
          }
        where
          ends_by : (stood : Stood) →
              LeadsTo basis bits (spot_of stood) (spot_at tape.stream.taken left walking.now) → (path : Path) →
              EndsWithin basis.rules basis.task basis.limits left walking.now closed.turns closed.bits path →
              EndsBy basis stood.entry.left stood.place (left - closed.turns) (tape.crossed + closed.bits)
              (past (drop stood.entry.depth bits) path)
          ends_by stood lead path within =
              let soon = within.soon in
              let few = within.few in
              let e = walking.holds.crossed in record {
                after = within.after;
                crossed = within.crossed;
                ends_on = subst (λ s. EndsOn basis.rules basis.task basis.limits
                    stood.entry.left stood.place (drop stood.entry.depth s ++ path.bits) path.ends within.after
                    within.crossed) (whole_string tape.stream.taken bits full)
                    (leads_end basis small bits (spot_of stood) (spot_at tape.stream.taken left walking.now) path.bits
                    path.ends within.after within.crossed lead walking.goes.within within.ends_on);
                soon = omega (arith, soon);
                few = omega (arith, few, e);
              }

      pub is_met : IsCome basis (Met closed left) (with_pieces pieces search) tape
      is_met = record {
        searched = searched_grown basis bits search pieces grows walking.searched;
        tree = tree;
        is_tree = record {
          count = entry.count ∙ ap (λ t. counted (length (paths_of t))) (sym tree_is);
          stops = entry.stops ∙ ap (λ t. counted (stops_in (paths_of t))) (sym tree_is);
          known = subst (λ t. AllByRecursion (IsKnown (known_in search.findings)) (paths_of t)) (sym tree_is) entry.known;
        };
        came_to = each_weaker
            (λ stood. LeadsTo basis bits (spot_of stood) (spot_at tape.stream.taken left walking.now))
            (CameTo basis bits (sum_of_came (Met closed left) tape.crossed) tree) came_to walking.searched.opens.stood
            walking.lead;
      }

    -- ---- a state that is open now

    abbrev pub opened : OpenPlace
    opened = record { kept = kept; depth = tape.stream.taken; left = left; crossed = tape.crossed; sum = no_paths }

    abbrev stood_now : Stood
    stood_now = record { entry = opened; place = walking.now }

    all_lead : (stood : List Stood) → AllLead basis bits stood →
        AllByRecursion (λ one. LeadsTo basis bits (spot_of one) (spot_of stood_now)) stood →
        AllLead basis bits (stood ++ stood_now ∷ [])
    all_lead [] lead each = (tt, tt)
    all_lead (one ∷ more) (here, lead) (leads, each) = (
      each_appended (λ later. LeadsTo basis bits (spot_of one) (spot_of later)) more (stood_now ∷ []) here (leads, tt),
      all_lead more lead each,
    )

    -- what is below here, in the whole tree
    tree_now : (first : OpenPlace) (others : List OpenPlace) → search.opens.items ≡ first ∷ others → first.depth ≡ 0 →
        under (tree_in basis) (take tape.stream.taken bits) ≡ below_in basis left walking.now
    tree_now first others begins start =
        by walking.searched.opens.stood walking.searched.opens.opens_are walking.searched.opens.each walking.lead
      where
        by : (stood : List Stood) → map (λ (one : Stood). one.entry) stood ≡ search.opens.items →
            AllByRecursion (IsOpen basis search.machine search.pieces (known_in search.findings) bits) stood →
            AllByRecursion (λ one. LeadsTo basis bits (spot_of one) (spot_at tape.stream.taken left walking.now)) stood →
            under (tree_in basis) (take tape.stream.taken bits) ≡ below_in basis left walking.now
        by [] are each lead = let none : [] ≡ first ∷ others = are ∙ begins in absurd (cc)
        by (one ∷ more) are (here, each) (leads, lead) =
            let same : one.entry ∷ map (λ (s : Stood). s.entry) more ≡ first ∷ others = are ∙ begins in
            let entry_is : one.entry ≡ first = cc in
            let zero_depth : one.entry.depth ≡ 0 = ap (λ (o : OpenPlace). o.depth) entry_is ∙ start in
            let whole : tree_in basis ≡ below_in basis one.entry.left one.place =
            sym (under_none (tree_in basis))
            ∙ (ap (λ n. under (tree_in basis) (take n bits)) (sym zero_depth) ∙ here.tree) in
            let there = leads_tree basis small bits (spot_of one) (spot_at tape.stream.taken left walking.now) leads in
            ap (λ t. under t (take tape.stream.taken bits)) whole
            ∙ (ap (λ n. under (below_in basis one.entry.left one.place) (drop n (take tape.stream.taken bits)))
            (sym zero_depth) ∙ there.1)

    new_open : (first : OpenPlace) (others : List OpenPlace) → search.opens.items ≡ first ∷ others → first.depth ≡ 0 →
        IsOpen basis search.machine pieces (known_in search.findings) bits stood_now
    new_open first others begins start = record {
      kept = keeps_now pieces kept basis.task.masks walking.now search.machine tape keeps none walking.holds;
      goes = walking.goes;
      setting = ap (λ (s : State). s.setting) walking.holds.state_is;
      secret = ap (λ (s : State). s.secret) walking.holds.state_is;
      crossed = walking.holds.crossed;
      within = omega (arith, full);
      tree = tree_now first others begins start;
      sums = subst (λ ps. Sums basis left walking.now (known_in search.findings) no_paths ps)
          (sym (ap (λ s. earlier (below_in basis left walking.now) s)
          (drop_of_length-le bits (omega (arith, full)))
          ∙ earlier_none (below_in basis left walking.now)))
          (sums_none basis left walking.now (known_in search.findings));
    }

    abbrev are_open : (first : OpenPlace) (others : List OpenPlace) → search.opens.items ≡ first ∷ others → first.depth ≡ 0 →
        AreOpen basis search.machine pieces (known_in search.findings) bits (search.opens.items ++ opened ∷ [])
    are_open first others begins start =
        let before = walking.searched.opens in record {
          stood = before.stood ++ stood_now ∷ [];
          opens_are = map-append (λ (one : Stood). one.entry) before.stood (stood_now ∷ [])
              ∙ ap (λ items. items ++ opened ∷ []) before.opens_are;
          each = each_appended (IsOpen basis search.machine pieces (known_in search.findings) bits) before.stood
              (stood_now ∷ [])
              (each_weaker (IsOpen basis search.machine search.pieces (known_in search.findings) bits)
              (IsOpen basis search.machine pieces (known_in search.findings) bits)
              (open_grown basis search.machine search.pieces pieces (known_in search.findings) bits grows) before.stood
              before.each) (new_open first others begins start, tt);
          lead = all_lead before.stood before.lead walking.lead;
        }

    lead_now : AllByRecursion (λ one. LeadsTo basis bits (spot_of one) (spot_at tape.stream.taken left walking.now))
        (walking.searched.opens.stood ++ stood_now ∷ [])
    lead_now =
        each_appended (λ one. LeadsTo basis bits (spot_of one) (spot_at tape.stream.taken left walking.now))
        walking.searched.opens.stood (stood_now ∷ []) walking.lead (
          leads_here basis small bits tape.stream.taken left walking.now walking.now
              (same_self basis.task.masks walking.now) refl,
          tt,
        )

    -- a search with one more open place
    pub is_opened : (first : OpenPlace) (others : List OpenPlace) → search.opens.items ≡ first ∷ others →
        first.depth ≡ 0 → (after : Search) → after.machine ≡ search.machine → after.pieces ≡ pieces →
        after.closed ≡ search.closed → after.findings ≡ search.findings →
        after.opens.items ≡ search.opens.items ++ opened ∷ [] → IsWalking basis left after tape
    is_opened first others begins start after machine_is pieces_is closed_is findings_is opens_is =
        let before = are_open first others begins start in record {
          searched = record {
            opens = record {
              stood = before.stood;
              opens_are = before.opens_are ∙ sym opens_is;
              each = subst (λ (f : Findings). AllByRecursion (IsOpen basis after.machine after.pieces (known_in f) bits) before.stood)
                  (sym findings_is)
                  (subst (λ ps. AllByRecursion (IsOpen basis after.machine ps (known_in search.findings) bits)
                  before.stood) (sym pieces_is)
                  (subst (λ m. AllByRecursion (IsOpen basis m pieces (known_in search.findings) bits) before.stood)
                  (sym machine_is) before.each));
              lead = before.lead;
            };
            closed = subst (λ (f : Findings). AreClosed basis after.machine after.pieces (known_in f) after.closed.states
                after.closed.below.items) (sym findings_is)
                (subst (λ (c : ClosedStates). AreClosed basis after.machine after.pieces (known_in search.findings)
                c.states c.below.items) (sym closed_is)
                (subst (λ ps. AreClosed basis after.machine ps (known_in search.findings) search.closed.states
                search.closed.below.items) (sym pieces_is)
                (subst (λ m. AreClosed basis m pieces (known_in search.findings) search.closed.states
                search.closed.below.items) (sym machine_is)
                (closed_grown basis search.machine search.pieces pieces (known_in search.findings) grows
                search.closed.states search.closed.below.items walking.searched.closed))));
            found = subst (λ (f : Findings). IsFoundBefore (tree_in basis) f.patterns (known_in f).first_stop bits) (sym findings_is)
                walking.searched.found;
          };
          now = walking.now;
          holds = subst (λ m. HoldsPlace basis.task.masks walking.now m tape) (sym machine_is) walking.holds;
          goes = walking.goes;
          opens = walking.opens;
          lead = lead_now;
        }
