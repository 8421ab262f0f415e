-- A search after its last open place is closed.
use Rattle.std.proofs.Common.{◌≡◌, ◌≤◌, ℕ, zero, suc, List, [], ◌∷◌, ◌++◌, Bool, Some, map, length}
use Rattle.std.proofs.Common.{refl, sym, ap, ap₂, ◌∙◌, arith, subst, length-append, inl, inr}
use Rattle.std.specs.Prelude.{slice_get}
use Rattle.std.specs.List.{AllByRecursion}
use Rattle.kept_states.specs.declared.kept_states.KeptState.{KeptState}
use Rattle.kept_states.specs.Keeping.{StandsAt}
use Rattle.rv32im_machine.specs.State.{State}
use Rattle.every_secret.specs.declared.closed_states.Closed.{Closed}
use Rattle.every_secret.specs.declared.closed_states.ClosedStates.{ClosedStates}
use Rattle.every_secret.specs.declared.open_places.OpenPlace.{OpenPlace}
use Rattle.every_secret.specs.declared.searching.Search.{Search}
use Rattle.every_secret.specs.Bounds.{Found}
use Rattle.every_secret.specs.Private.Closing.{ClosesOpen, IsClosable, below_open}
use Rattle.every_secret.specs.Private.Searching.{AllLead, AreClosed, CanGoBack, CanReturn, IsClosed, IsBasis, IsSettled, Settles, Stood}
use Rattle.every_secret.specs.Private.Searching.{Terms, known_in, spot_of, turned_at}
use Rattle.every_secret.specs.Private.Spots.{Basis, LeadsTo}
use Rattle.every_secret.specs.Private.Tapes.{Tape}
use Rattle.every_secret.proofs.Lists.{each_first}
use Rattle.every_secret.proofs.SettledPlaces.{is_closed}

-- ---- lists whose last item goes

each_second : {A : Type 0} (P : A → Type 0) (first second : List A) → AllByRecursion P (first ++ second) →
    AllByRecursion P second
each_second P [] second all = all
each_second P (item ∷ first) second (here, all) = each_second P first second all

record Parted (stood : List Stood) (items : List OpenPlace) (last : OpenPlace) : Type 0 where
  front : List Stood
  one : Stood
  splits : stood ≡ front ++ one ∷ []
  items_are : map (λ (one : Stood). one.entry) front ≡ items
  last_is : one.entry ≡ last

parted_more : (one : Stood) (item : OpenPlace) (more : List Stood) (items : List OpenPlace) (last : OpenPlace) →
    one.entry ≡ item → Parted more items last → Parted (one ∷ more) (item ∷ items) last
parted_more one item more items last same inner = record {
  front = one ∷ inner.front;
  one = inner.one;
  splits = ap (λ s. one ∷ s) inner.splits;
  items_are = ap₂ (λ a s. a ∷ s) same inner.items_are;
  last_is = inner.last_is;
}

parted : (stood : List Stood) (items : List OpenPlace) (last : OpenPlace) →
    map (λ (one : Stood). one.entry) stood ≡ items ++ last ∷ [] → Parted stood items last
parted [] [] last is = absurd (cc)
parted [] (item ∷ items) last is = absurd (cc)
parted (one ∷ []) [] last is =
    let same : one.entry ≡ last = cc in
    record { front = []; one = one; splits = refl; items_are = refl; last_is = same }
parted (one ∷ other ∷ more) [] last is = absurd (cc)
parted (one ∷ more) (item ∷ items) last is =
    let same : one.entry ≡ item = cc in
    let rest : map (λ (one : Stood). one.entry) more ≡ items ++ last ∷ [] = cc in
    parted_more one item more items last same (parted more items last rest)

lead_first : (basis : Basis) (bits : List Bool) (first second : List Stood) → AllLead basis bits (first ++ second) →
    AllLead basis bits first
lead_first basis bits [] second lead = tt
lead_first basis bits (one ∷ first) second (here, lead) = (
  each_first (λ later. LeadsTo basis bits (spot_of one) (spot_of later)) first second here,
  lead_first basis bits first second lead,
)

pub record Begins (items : List OpenPlace) (first : OpenPlace) : Type 0 where
  pub others : List OpenPlace
  pub begins : items ≡ first ∷ others

begins_front : (items more others : List OpenPlace) (first : OpenPlace) → 1 ≤ length items →
    items ++ more ≡ first ∷ others → Begins items first
begins_front [] more others first some is = absurd (omega (arith, some))
begins_front (item ∷ items) more others first some is =
    let same : item ≡ first = cc in record { others = items; begins = ap (λ f. f ∷ items) same }

-- ---- states that are closed, with one more

module _ (P : KeptState → Closed → Type 0) (last : KeptState) (last_closed : Closed) (here : P last last_closed) where
  each_closed : (states : List KeptState) (below : List Closed) → length states ≡ length below →
      ((index : ℕ) (kept : KeptState) (one : Closed) → StandsAt states index kept → slice_get below index ≡ Some one →
      P kept one) → (index : ℕ) (kept : KeptState) (one : Closed) → StandsAt (states ++ last ∷ []) index kept →
      slice_get (below ++ last_closed ∷ []) index ≡ Some one → P kept one
  each_closed [] [] long all zero kept one stands is =
      let same : last_closed ≡ one = cc in
      subst (λ k. P k one) stands.same (subst (λ c. P last c) same here)
  each_closed [] [] long all (suc index) kept one stands is =
      let below = stands.below in absurd (omega (arith, below))
  each_closed [] (closed ∷ below) long all index kept one stands is = absurd (omega (arith, long))
  each_closed (state ∷ states) [] long all index kept one stands is = absurd (omega (arith, long))
  each_closed (state ∷ states) (closed ∷ below) long all zero kept one stands is =
      all zero kept one (record { below = omega arith; same = stands.same }) is
  each_closed (state ∷ states) (closed ∷ below) long all (suc index) kept one stands is =
      let under = stands.below in
      each_closed states below (omega (arith, long))
      (λ index kept one stands is.
      let under = stands.below in
      all (suc index) kept one (record { below = omega (arith, under); same = stands.same }) is) index kept one
      (record { below = omega (arith, under); same = stands.same }) is

-- ---- a search

are_closed : (basis : Basis) (machine : State) (pieces : List ℕ) (found : Found) (before after : ClosedStates)
    (last : OpenPlace) (turn : ℕ) → length before.states ≡ length before.below.items → ClosesOpen before after last turn →
    (IsClosable last turn → IsClosed basis machine pieces found last.kept (below_open last)) →
    AreClosed basis machine pieces found before.states before.below.items →
    AreClosed basis machine pieces found after.states after.below.items
are_closed basis machine pieces found before after last turn long (inl (closable, closes)) one all =
    λ index kept closed stands is.
    each_closed (IsClosed basis machine pieces found) last.kept (below_open last) (one closable) before.states
    before.below.items long all index kept closed (subst (λ s. StandsAt s index kept) closes.states stands)
    (ap (λ s. slice_get s index) (sym closes.below) ∙ is)
are_closed basis machine pieces found before after last turn long (inr stays) one all =
    λ index kept closed stands is.
    all index kept closed (subst (λ s. StandsAt s index kept) stays.states stands)
    (ap (λ s. slice_get s index) (sym stays.below) ∙ is)

same_length : (before after : ClosedStates) (last : OpenPlace) (turn : ℕ) →
    length before.states ≡ length before.below.items → ClosesOpen before after last turn →
    length after.states ≡ length after.below.items
same_length before after last turn long (inl (closable, closes)) =
    let one : length after.states ≡ length (before.states ++ last.kept ∷ []) = ap (λ s. length s) closes.states in
    let two : length after.below.items ≡ length (before.below.items ++ below_open last ∷ []) =
    ap (λ s. length s) closes.below in
    let three = length-append before.states (last.kept ∷ []) in
    let four = length-append before.below.items (below_open last ∷ []) in
    omega (arith, one, two, three, four, long)
same_length before after last turn long (inr stays) =
    let one : length after.states ≡ length before.states = ap (λ s. length s) stays.states in
    let two : length after.below.items ≡ length before.below.items = ap (λ s. length s) stays.below in
    omega (arith, one, two, long)

-- it can still go back
pub back_before : (terms : Terms) (before : Search) (tape : Tape) (opens : List OpenPlace) (last : OpenPlace)
    (closed : ClosedStates) (turn : ℕ) → 1 ≤ length opens → before.opens.items ≡ opens ++ last ∷ [] →
    ClosesOpen before.closed closed last turn → (back : CanGoBack terms before tape) →
    AllByRecursion (CanReturn terms before.pieces before.machine) opens
    × Begins opens back.first
    × (length closed.states ≡ length closed.below.items)
back_before terms before tape opens last closed turn some parts closes back = (
  each_first (CanReturn terms before.pieces before.machine) opens (last ∷ [])
      (subst (λ s. AllByRecursion (CanReturn terms before.pieces before.machine) s) parts back.opens),
  begins_front opens (last ∷ []) back.others back.first some (sym parts ∙ back.begins),
  same_length before.closed closed last turn back.same_length closes,
)

-- and what it has settled stays
pub record SettledBefore (basis : Basis) (turn : ℕ) (before : Search) (tape : Tape) (opens : List OpenPlace)
    (closed : ClosedStates) : Type 0 where
  pub stood : List Stood
  pub opens_are : map (λ (one : Stood). one.entry) stood ≡ opens
  pub settled : AllByRecursion (IsSettled basis before.machine before.pieces (known_in before.findings)
      (turned_at turn tape.stream.bits) turn) stood
  pub lead : AllLead basis tape.stream.bits stood
  pub closed_are : AreClosed basis before.machine before.pieces (known_in before.findings) closed.states
      closed.below.items

pub settled_before : (terms : Terms) (basis : Basis) (before : Search) (tape : Tape) (opens : List OpenPlace)
    (last : OpenPlace) (closed : ClosedStates) (turn : ℕ) → IsBasis terms basis →
    length before.closed.states ≡ length before.closed.below.items → before.opens.items ≡ opens ++ last ∷ [] →
    ClosesOpen before.closed closed last turn → Settles basis turn before tape →
    SettledBefore basis turn before tape opens closed
settled_before terms basis before tape opens last closed turn is_basis long parts closes settles =
    let part = parted settles.stood opens last (settles.opens_are ∙ parts) in
    let Fact : Stood → Type 0 = IsSettled basis before.machine before.pieces (known_in before.findings)
    (turned_at turn tape.stream.bits) turn in
    let all : AllByRecursion Fact (part.front ++ part.one ∷ []) =
    subst (λ s. AllByRecursion Fact s) part.splits settles.settled in
    let one : Fact part.one = (each_second Fact part.front (part.one ∷ []) all).0 in
    let budget : basis.limits.budget ≡ terms.budget = ap (λ l. l.budget) is_basis.limits in
    let few = is_basis.small in record {
      stood = part.front;
      opens_are = part.items_are;
      settled = each_first Fact part.front (part.one ∷ []) all;
      lead = lead_first basis tape.stream.bits part.front (part.one ∷ [])
          (subst (λ s. AllLead basis tape.stream.bits s) part.splits settles.lead);
      closed_are = are_closed basis before.machine before.pieces (known_in before.findings) before.closed closed
          part.one.entry turn long (subst (λ e. ClosesOpen before.closed closed e turn) (sym part.last_is) closes)
          (λ closable. is_closed basis before.machine before.pieces (known_in before.findings) part.one turn
          (omega (arith, budget, few)) (one.behind closable.behind) closable) settles.closed;
    }
