-- A search that has gone back to its last open place, to walk another string.
use Rattle.std.proofs.Common.{◌≡◌, ◌≤◌, ◌<◌, ◌+◌, ◌-◌, ℕ, zero, suc, List, [], ◌∷◌, ◌++◌, Bool, None, map, length}
use Rattle.std.proofs.Common.{refl, sym, ap, ◌∙◌, arith, subst}
use Rattle.std.specs.Prelude.{IsTrue, slice_index_or}
use Rattle.std.specs.List.{AllByRecursion}
use Rattle.kept_states.specs.declared.kept_states.KeptState.{KeptState}
use Rattle.kept_states.specs.Keeping.{Keeps, StandAlike}
use Rattle.kept_states.proofs.Laws.{kept_alike}
use Rattle.lockstep_replay.specs.Tasks.{Limits}
use Rattle.region_machine.specs.Within.{may_leave}
use Rattle.rv32im_machine.specs.State.{Setting, State}
use Rattle.tracked_run.specs.Labels.{map_of}
use Rattle.every_secret.specs.declared.closed_states.Closed.{Closed}
use Rattle.every_secret.specs.declared.open_places.OpenPlace.{OpenPlace}
use Rattle.every_secret.specs.declared.searching.Search.{Search}
use Rattle.every_secret.specs.Bounds.{Found}
use Rattle.every_secret.specs.Masked.{MaskedPlace}
use Rattle.every_secret.specs.Paths.{Opens}
use Rattle.every_secret.specs.States.{SameState}
use Rattle.every_secret.specs.Ways.{GoesOn}
use Rattle.every_secret.specs.Private.Searching.{AllLead, AreClosed, CanGoBack, CanGoOn, CanReturn, IsBasis, IsKeptOf, IsOpen}
use Rattle.every_secret.specs.Private.Searching.{IsSearched, IsWalking, NonePast, Stood, Terms, known_in, spot_at, spot_of}
use Rattle.every_secret.specs.Private.Spots.{Basis, LeadsTo, tree_in}
use Rattle.every_secret.specs.Private.Tapes.{HoldsPlace, Tape}
use Rattle.every_secret.proofs.Lists.{each_appended, each_weaker}
use Rattle.every_secret.proofs.LookedUp.{kept_same}
use Rattle.every_secret.proofs.SpotWays.{leads_here, leads_near}

-- ---- the last item of a list

pub record LastOf (items : List OpenPlace) (last : OpenPlace) : Type 0 where
  pub front : List OpenPlace
  pub splits : items ≡ front ++ last ∷ []

last_more : (item : OpenPlace) (items : List OpenPlace) (last : OpenPlace) → LastOf items last →
    LastOf (item ∷ items) last
last_more item items last inner = record {
  front = item ∷ inner.front;
  splits = ap (λ s. item ∷ s) inner.splits;
}

last_at : (items : List OpenPlace) (last : OpenPlace) (index : ℕ) → index + 1 ≡ length items →
    last ≡ slice_index_or items index last → LastOf items last
last_at [] last index long is = absurd (omega (arith, long))
last_at (item ∷ []) last zero long is = record { front = []; splits = ap (λ s. s ∷ []) (sym is) }
last_at (item ∷ []) last (suc index) long is = absurd (omega (arith, long))
last_at (item ∷ other ∷ more) last zero long is = absurd (omega (arith, long))
last_at (item ∷ other ∷ more) last (suc index) long is =
    last_more item (other ∷ more) last (last_at (other ∷ more) last index (omega (arith, long)) is)

pub last_of : (items read : List OpenPlace) (last : OpenPlace) → read ≡ items → 0 < length read →
    last ≡ slice_index_or read (length read - 1) last → LastOf items last
last_of items read last same some is =
    subst (λ s. LastOf s last) same (last_at read last (length read - 1) (omega (arith, some)) is)

pub each_last : {A : Type 0} (P : A → Type 0) (front : List A) (last : A) → AllByRecursion P (front ++ last ∷ []) → P last
each_last P [] last all = all.0
each_last P (item ∷ front) last (here, all) = each_last P front last all

pub of_last : (P : OpenPlace → Type 0) (items : List OpenPlace) (last : OpenPlace) → LastOf items last →
    AllByRecursion P items → P last
of_last P items last is all = each_last P is.front last (subst (λ s. AllByRecursion P s) is.splits all)

-- the place of the walk that the last open place is
record StoodLast (stood : List Stood) (last : OpenPlace) : Type 0 where
  front : List Stood
  one : Stood
  splits : stood ≡ front ++ one ∷ []
  last_is : one.entry ≡ last

stood_more : (one : Stood) (more : List Stood) (last : OpenPlace) → StoodLast more last → StoodLast (one ∷ more) last
stood_more one more last inner = record {
  front = one ∷ inner.front;
  one = inner.one;
  splits = ap (λ s. one ∷ s) inner.splits;
  last_is = inner.last_is;
}

stood_last : (stood : List Stood) (front : List OpenPlace) (last : OpenPlace) →
    map (λ (one : Stood). one.entry) stood ≡ front ++ last ∷ [] → StoodLast stood last
stood_last [] [] last is = absurd (cc)
stood_last [] (item ∷ front) last is = absurd (cc)
stood_last (one ∷ []) [] last is =
    let same : one.entry ≡ last = cc in record { front = []; one = one; splits = refl; last_is = same }
stood_last (one ∷ other ∷ more) [] last is = absurd (cc)
stood_last (one ∷ more) (item ∷ front) last is =
    let rest : map (λ (one : Stood). one.entry) more ≡ front ++ last ∷ [] = cc in
    stood_more one more last (stood_last more front last rest)

lead_last : (basis : Basis) (bits : List Bool) (front : List Stood) (one : Stood) →
    AllLead basis bits (front ++ one ∷ []) →
    AllByRecursion (λ before. LeadsTo basis bits (spot_of before) (spot_of one)) front
lead_last basis bits [] one lead = tt
lead_last basis bits (first ∷ front) one (here, lead) = (
  each_last (λ later. LeadsTo basis bits (spot_of first) (spot_of later)) front one here,
  lead_last basis bits front one lead,
)

-- ---- another machine with the same setting and secret

abbrev pub with_machine : State → Search → Search
with_machine machine search = record {
  machine = machine;
  opens = search.opens;
  closed = search.closed;
  pieces = search.pieces;
  findings = search.findings;
}

module _ (machine other : State) (setting : other.setting ≡ machine.setting) (secret : other.secret ≡ machine.secret)
    (pieces : List ℕ) where
  return_from : (terms : Terms) (entry : OpenPlace) → CanReturn terms pieces machine entry →
      CanReturn terms pieces other entry
  return_from terms entry can = record {
    state = can.state;
    shades = can.shades;
    ahead = can.ahead;
    byte_masks = can.byte_masks;
    status_mask = can.status_mask;
    keeps = can.keeps;
    setting = can.setting ∙ sym setting;
    secret = can.secret ∙ sym secret;
    leaves = can.leaves;
    crossed = can.crossed;
  }

  module _ (basis : Basis) (found : Found) where
    open_from : (bits : List Bool) (stood : Stood) → IsOpen basis machine pieces found bits stood →
        IsOpen basis other pieces found bits stood
    open_from bits stood is = record {
      kept = is.kept;
      goes = is.goes;
      setting = is.setting ∙ sym setting;
      secret = is.secret ∙ sym secret;
      crossed = is.crossed;
      within = is.within;
      tree = is.tree;
      sums = is.sums;
    }

    closed_from : (states : List KeptState) (closed : List Closed) → AreClosed basis machine pieces found states closed →
        AreClosed basis other pieces found states closed
    closed_from states closed all = λ index kept one stands at.
        let is = all index kept one stands at in record {
          left = is.left;
          place = is.place;
          is_kept = is.is_kept;
          counted_bits = is.counted_bits;
          within_budget = is.within_budget;
          setting = is.setting ∙ sym setting;
          secret = is.secret ∙ sym secret;
          within = is.within;
          count = is.count;
          stops = is.stops;
          known = is.known;
        }

-- ---- a machine and what a walk holds, put back into the last open place

module _ (search : Search) (last : OpenPlace) (machine : State) (tape : Tape)
    (keeps : Keeps search.pieces last.kept machine tape.shades tape.ahead tape.byte_masks tape.status_mask)
    (setting : machine.setting ≡ search.machine.setting) (secret : machine.secret ≡ search.machine.secret)
    (is_last : LastOf search.opens.items last) (clear : tape.unclear ≡ None) (crossed : tape.crossed ≡ last.crossed) where
  can_leave : (terms : Terms) → CanReturn terms search.pieces search.machine last →
      IsTrue (may_leave terms.regions machine)
  can_leave terms can =
      let alike = kept_alike search.pieces last.kept can.state machine can.shades tape.shades can.ahead tape.ahead
      can.byte_masks tape.byte_masks can.status_mask tape.status_mask can.keeps keeps (can.setting ∙ sym setting)
      (can.secret ∙ sym secret) in
      subst (λ s. IsTrue (may_leave terms.regions s)) alike.states can.leaves

  pub goes_on_back : (terms : Terms) (before : Tape) → CanGoBack terms search before → tape.ruling ≡ before.ruling →
      tape.shades.base ≡ before.shades.base → tape.stream.taken ≤ length tape.stream.bits →
      CanGoOn terms (with_machine machine search) tape
  goes_on_back terms before back ruling base within =
      let can = of_last (CanReturn terms search.pieces search.machine) search.opens.items last is_last back.opens in
      let budget = can.crossed in
      let begins : tape.shades.base ≡ machine.setting.base =
      base ∙ (back.base ∙ ap (λ (s : Setting). s.base) (sym setting)) in record {
        back = record {
          opens = each_weaker (CanReturn terms search.pieces search.machine) (CanReturn terms search.pieces machine)
              (return_from search.machine machine setting secret search.pieces terms) search.opens.items back.opens;
          first = back.first;
          others = back.others;
          begins = back.begins;
          at_start = back.at_start;
          same_length = back.same_length;
          ruling = ruling ∙ back.ruling;
          base = begins;
        };
        ready = record { base = begins; leaves = can_leave terms can; clear = clear };
        crossed = omega (arith, crossed, budget);
        within = within;
      }

  module _ (basis : Basis) (small : basis.limits.budget < 4294967295) (none : NonePast tape.shades)
      (depth : tape.stream.taken ≡ last.depth) where
    abbrev bits : List Bool
    bits = tape.stream.bits

    -- the place of the walk that it is put back into
    module _ (one : Stood) (last_is : one.entry ≡ last)
        (opened : IsOpen basis search.machine search.pieces (known_in search.findings) bits one) where
      abbrev place : MaskedPlace
      place = one.place

      is_kept : IsKeptOf search.pieces last.kept basis.task.masks place
      is_kept = subst (λ (e : OpenPlace). IsKeptOf search.pieces e.kept basis.task.masks place) last_is opened.kept

      same_setting : place.state.setting ≡ machine.setting
      same_setting = opened.setting ∙ sym setting

      same_secret : place.state.secret ≡ machine.secret
      same_secret = opened.secret ∙ sym secret

      alike : StandAlike place.state machine is_kept.shades tape.shades is_kept.ahead tape.ahead place.byte_masks
          tape.byte_masks place.status_mask tape.status_mask
      alike =
          kept_alike search.pieces last.kept place.state machine is_kept.shades tape.shades is_kept.ahead tape.ahead
          place.byte_masks tape.byte_masks place.status_mask tape.status_mask is_kept.keeps keeps same_setting same_secret

      abbrev now : MaskedPlace
      now = record {
        state = machine;
        past = place.past;
        labels = map_of tape.shades;
        crossed = place.crossed;
        byte_masks = place.byte_masks;
        status_mask = place.status_mask;
      }

      holds_now : HoldsPlace basis.task.masks now machine tape
      holds_now = record {
        state_is = refl;
        labels = refl;
        ahead = λ point visit first. sym (alike.visits point visit first) ∙ is_kept.is_ahead point visit first;
        crossed = crossed ∙ (ap (λ (e : OpenPlace). e.crossed) (sym last_is) ∙ opened.crossed);
        byte_masks = sym alike.byte_masks;
        status_mask = sym alike.status_mask;
        clear = clear;
      }

      goes_now : GoesOn basis.limits now
      goes_now = record {
        runs = ap (λ (s : State). s.control.mode) (sym alike.states) ∙ opened.goes.runs;
        within = opened.goes.within;
      }

      same_now : SameState basis.task.masks place now
      same_now =
          kept_same search.pieces last.kept basis.task.masks place now machine tape is_kept keeps none holds_now
          same_setting same_secret

      lead_now : (front : List Stood) → AllLead basis bits (front ++ one ∷ []) →
          AllByRecursion (λ stood. LeadsTo basis bits (spot_of stood) (spot_at tape.stream.taken last.left now))
          (front ++ one ∷ [])
      lead_now front lead =
          subst (λ n. AllByRecursion (λ stood. LeadsTo basis bits (spot_of stood) (spot_at n last.left now))
          (front ++ one ∷ [])) (sym depth)
          (subst (λ (e : OpenPlace). AllByRecursion
          (λ stood. LeadsTo basis bits (spot_of stood) (spot_at e.depth e.left now)) (front ++ one ∷ [])) last_is
          (each_appended (λ stood. LeadsTo basis bits (spot_of stood) (spot_at one.entry.depth one.entry.left now)) front
          (one ∷ [])
          (each_weaker (λ stood. LeadsTo basis bits (spot_of stood) (spot_of one))
          (λ stood. LeadsTo basis bits (spot_of stood) (spot_at one.entry.depth one.entry.left now))
          (λ stood leads. leads_near basis small bits (spot_of stood) (spot_of one) now leads same_now refl) front
          (lead_last basis bits front one lead))
          (leads_here basis small bits one.entry.depth one.entry.left place now same_now refl, tt)))

    pub walks_back : IsSearched basis bits search → Opens (tree_in basis) bits →
        IsWalking basis last.left (with_machine machine search) tape
    walks_back searched opens =
        let found : Found = known_in search.findings in
        let at = stood_last searched.opens.stood is_last.front last (searched.opens.opens_are ∙ is_last.splits) in
        let opened = each_last (IsOpen basis search.machine search.pieces found bits) at.front at.one
        (subst (λ s. AllByRecursion (IsOpen basis search.machine search.pieces found bits) s) at.splits
        searched.opens.each) in record {
          searched = record {
            opens = record {
              stood = searched.opens.stood;
              opens_are = searched.opens.opens_are;
              each = each_weaker (IsOpen basis search.machine search.pieces found bits)
                  (IsOpen basis machine search.pieces found bits)
                  (open_from search.machine machine setting secret search.pieces basis found bits) searched.opens.stood
                  searched.opens.each;
              lead = searched.opens.lead;
            };
            closed = closed_from search.machine machine setting secret search.pieces basis found search.closed.states
                search.closed.below.items searched.closed;
            found = searched.found;
          };
          now = now at.one at.last_is opened;
          holds = holds_now at.one at.last_is opened;
          goes = goes_now at.one at.last_is opened;
          opens = λ less. opens;
          lead = subst (λ s. AllByRecursion (λ stood. LeadsTo basis bits (spot_of stood)
              (spot_at tape.stream.taken last.left (now at.one at.last_is opened))) s) (sym at.splits)
              (lead_now at.one at.last_is opened at.front
              (subst (λ s. AllLead basis bits s) at.splits searched.opens.lead));
        }

pub small_budget : (terms : Terms) (basis : Basis) → IsBasis terms basis → basis.limits.budget < 4294967295
small_budget terms basis is =
    let e = ap (λ (l : Limits). l.budget) is.limits in let low = is.small in omega (arith, e, low)
