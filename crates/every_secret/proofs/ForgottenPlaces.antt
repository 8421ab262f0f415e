-- The last open places may be forgotten.
use Rattle.std.proofs.Common.{◌≡◌, ◌≤◌, ℕ, zero, suc, List, [], ◌∷◌, Bool, take, length, sym, ap, ◌∙◌, arith, subst}
use Rattle.std.specs.List.{AllByRecursion}
use Rattle.every_secret.specs.declared.closed_states.ClosedStates.{ClosedStates}
use Rattle.every_secret.specs.declared.findings.Findings.{Findings}
use Rattle.every_secret.specs.declared.open_places.OpenPlace.{OpenPlace}
use Rattle.every_secret.specs.declared.searching.Search.{Search}
use Rattle.every_secret.specs.Private.Searching.{AllLead, AreClosed, AreOpen, CanGoOn, CanReturn, IsFoundBefore, IsOpen}
use Rattle.every_secret.specs.Private.Searching.{IsWalking, Stood, Terms, known_in, spot_at, spot_of}
use Rattle.every_secret.specs.Private.Spots.{Basis, LeadsTo, tree_in}
use Rattle.every_secret.specs.Private.Tapes.{HoldsPlace, Tape}
use Rattle.every_secret.specs.Private.Turning.{IsReady}
use Rattle.every_secret.proofs.Lists.{each_taken, map_taken}

record TakenFirst (first : OpenPlace) (items : List OpenPlace) : Type 0 where
  others : List OpenPlace
  begins : items ≡ first ∷ others

taken_first : (count : ℕ) (items : List OpenPlace) (first : OpenPlace) (others : List OpenPlace) →
    items ≡ first ∷ others → 1 ≤ count → TakenFirst first (take count items)
taken_first zero items first others begins some = absurd (omega (arith, some))
taken_first (suc count) items first others begins some =
    record { others = take count others; begins = ap (λ os. take (suc count) os) begins }

pub goes_on_forgotten : (terms : Terms) (search after : Search) (tape : Tape) (count : ℕ) → 1 ≤ count →
    after.machine ≡ search.machine → after.closed ≡ search.closed → after.pieces ≡ search.pieces →
    after.opens.items ≡ take count search.opens.items → CanGoOn terms search tape → CanGoOn terms after tape
goes_on_forgotten terms search after tape count some machine_is closed_is pieces_is opens_are can =
    let back = can.back in
    let first = taken_first count search.opens.items back.first back.others back.begins some in
    let begins = first.begins in record {
      back = record {
        opens = subst (λ items. AllByRecursion (CanReturn terms after.pieces after.machine) items) (sym opens_are)
            (subst (λ ps. AllByRecursion (CanReturn terms ps after.machine) (take count search.opens.items))
            (sym pieces_is)
            (subst (λ m. AllByRecursion (CanReturn terms search.pieces m) (take count search.opens.items))
            (sym machine_is)
            (each_taken (CanReturn terms search.pieces search.machine) count search.opens.items back.opens)));
        first = back.first;
        others = first.others;
        begins = opens_are ∙ begins;
        at_start = back.at_start;
        same_length = subst (λ (c : ClosedStates). length c.states ≡ length c.below.items) (sym closed_is)
            back.same_length;
        ruling = back.ruling;
        base = subst (λ m. tape.shades.base ≡ m.setting.base) (sym machine_is) back.base;
      };
      ready = subst (λ m. IsReady terms.regions m tape) (sym machine_is) can.ready;
      crossed = can.crossed;
      within = can.within;
    }

lead_taken : (basis : Basis) (bits : List Bool) (count : ℕ) (stood : List Stood) → AllLead basis bits stood →
    AllLead basis bits (take count stood)
lead_taken basis bits zero stood lead = tt
lead_taken basis bits (suc count) [] lead = tt
lead_taken basis bits (suc count) (one ∷ more) (here, lead) = (
  each_taken (λ later. LeadsTo basis bits (spot_of one) (spot_of later)) count more here,
  lead_taken basis bits count more lead,
)

abbrev opens_taken : (basis : Basis) (search after : Search) (tape : Tape) (count : ℕ) →
    after.machine ≡ search.machine → after.pieces ≡ search.pieces → after.findings ≡ search.findings →
    after.opens.items ≡ take count search.opens.items →
    AreOpen basis search.machine search.pieces (known_in search.findings) tape.stream.bits search.opens.items →
    AreOpen basis after.machine after.pieces (known_in after.findings) tape.stream.bits after.opens.items
opens_taken basis search after tape count machine_is pieces_is findings_is opens_are is =
    let bits = tape.stream.bits in record {
      stood = take count is.stood;
      opens_are = map_taken (λ (one : Stood). one.entry) count is.stood
          ∙ (ap (λ items. take count items) is.opens_are ∙ sym opens_are);
      each = subst (λ (f : Findings). AllByRecursion (IsOpen basis after.machine after.pieces (known_in f) bits)
          (take count is.stood)) (sym findings_is)
          (subst (λ ps. AllByRecursion (IsOpen basis after.machine ps (known_in search.findings) bits)
          (take count is.stood)) (sym pieces_is)
          (subst (λ m. AllByRecursion (IsOpen basis m search.pieces (known_in search.findings) bits)
          (take count is.stood)) (sym machine_is)
          (each_taken (IsOpen basis search.machine search.pieces (known_in search.findings) bits) count is.stood
          is.each)));
      lead = lead_taken basis bits count is.stood is.lead;
    }

pub walks_forgotten : (basis : Basis) (left : ℕ) (search after : Search) (tape : Tape) (count : ℕ) →
    after.machine ≡ search.machine → after.closed ≡ search.closed → after.pieces ≡ search.pieces →
    after.findings ≡ search.findings → after.opens.items ≡ take count search.opens.items →
    IsWalking basis left search tape → IsWalking basis left after tape
walks_forgotten basis left search after tape count machine_is closed_is pieces_is findings_is opens_are is =
    let bits = tape.stream.bits in
    let before = is.searched in record {
      searched = record {
        opens = opens_taken basis search after tape count machine_is pieces_is findings_is opens_are before.opens;
        closed = subst (λ (f : Findings). AreClosed basis after.machine after.pieces (known_in f) after.closed.states
            after.closed.below.items) (sym findings_is)
            (subst (λ (c : ClosedStates). AreClosed basis after.machine after.pieces (known_in search.findings)
            c.states c.below.items) (sym closed_is)
            (subst (λ ps. AreClosed basis after.machine ps (known_in search.findings) search.closed.states
            search.closed.below.items) (sym pieces_is)
            (subst (λ m. AreClosed basis m search.pieces (known_in search.findings) search.closed.states
            search.closed.below.items) (sym machine_is) before.closed)));
        found = subst (λ (f : Findings). IsFoundBefore (tree_in basis) f.patterns (known_in f).first_stop bits)
            (sym findings_is) before.found;
      };
      now = is.now;
      holds = subst (λ m. HoldsPlace basis.task.masks is.now m tape) (sym machine_is) is.holds;
      goes = is.goes;
      opens = is.opens;
      lead = each_taken (λ stood. LeadsTo basis bits (spot_of stood) (spot_at tape.stream.taken left is.now)) count
          before.opens.stood is.lead;
    }
