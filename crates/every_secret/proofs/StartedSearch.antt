-- A search at its start: it can go on, and its one open place is the start.
use Rattle.std.proofs.Common.{◌≡◌, ◌+◌, ℕ, List, [], ◌∷◌, Bool, Option, None, length}
use Rattle.std.proofs.Common.{refl, sym, ap, ◌∙◌, arith, subst}
use Rattle.std.specs.Prelude.{IsTrue, option_map}
use Rattle.std.specs.List.{AllByRecursion}
use Rattle.cut_file.specs.declared.points.CutPoint.{CutPoint}
use Rattle.cut_file.specs.Masks.{MaskAt}
use Rattle.kept_states.specs.Keeping.{Keeps}
use Rattle.lockstep_replay.specs.Tasks.{replay_start}
use Rattle.region_machine.specs.Within.{may_leave}
use Rattle.replay_machine.specs.Runs.{times_passed}
use Rattle.replay_machine.specs.Visits.{IsAhead, SameAhead}
use Rattle.rv32im_machine.specs.State.{State}
use Rattle.shadow_masks.specs.Shades.{IsNew, Shades}
use Rattle.shadow_masks.specs.Writes.{default_map}
use Rattle.tracked_run.specs.Labels.{map_of}
use Rattle.every_secret.specs.declared.findings.Findings.{Findings}
use Rattle.every_secret.specs.declared.open_places.OpenPlace.{OpenPlace}
use Rattle.every_secret.specs.declared.searching.Search.{Search}
use Rattle.every_secret.specs.declared.verdicts.StoppedPath.{StoppedPath}
use Rattle.every_secret.specs.Bounds.{Found, Halt, halt_of}
use Rattle.every_secret.specs.Masked.{MaskedPlace}
use Rattle.every_secret.specs.Paths.{Tree}
use Rattle.every_secret.specs.Replays.{masked_start}
use Rattle.every_secret.specs.Ways.{GoesOn}
use Rattle.every_secret.specs.Private.Folding.{FoldsTo, stops_in}
use Rattle.every_secret.specs.Private.Orders.{earlier}
use Rattle.every_secret.specs.Private.Searching.{AreClosed, CanGoOn, CanReturn, IsFirst, IsFirstTape, IsFoundBefore, IsKeptOf, IsOpen}
use Rattle.every_secret.specs.Private.Searching.{IsWalking, OpensStart, Stood, Sums, Terms, known_in, spot_at, spot_of}
use Rattle.every_secret.specs.Private.Spots.{Basis, LeadsTo, below_in, tree_in}
use Rattle.every_secret.specs.Private.Sums.{no_paths}
use Rattle.every_secret.specs.Private.Tapes.{Tape}
use Rattle.every_secret.proofs.AddedSums.{sums_none}
use Rattle.every_secret.proofs.AlikeWays.{same_self}
use Rattle.every_secret.proofs.EarlierPaths.{earlier_none, under_none}
use Rattle.every_secret.proofs.FoldedPaths.{folds_none}
use Rattle.every_secret.proofs.WayWalks.{leads_none}

-- a new shadow is clean
pub new_labels : (base : ℕ) (shades : Shades) → IsNew base shades → map_of shades ≡ default_map
new_labels base shades new = λ i. record {
  registers = λ register. new.registers register i;
  kept = λ register. new.kept register i;
  bytes = λ address. new.bytes address i;
}

-- what is ahead of the points of a cut, where no visit is past
pub none_past_ahead : (ahead table points : List CutPoint) → IsAhead ahead (MaskAt table) [] → SameAhead table points →
    IsAhead ahead (MaskAt points) []
none_past_ahead ahead table points is same = λ point visit first.
    is point visit first ∙ same point (times_passed point [] + visit) (omega (arith, first))

-- nothing is found before the first string
nothing_before : (tree : Tree) (bits : List Bool) → bits ≡ [] → IsFoundBefore tree [] None bits
nothing_before tree bits empty =
    subst (λ s. IsFoundBefore tree [] None s) (sym empty) (record {
      folds = subst (λ ps. FoldsTo ps (record {
        paths = length ps;
        stopped = stops_in ps;
        patterns = [];
        first_stop = None;
      })) (sym (earlier_none tree)) folds_none;
      small = refl;
    })

module _ (terms : Terms) (start : State) (first second : Search) (tape : Tape) (base turns : ℕ) (points : List CutPoint)
    (is_first : IsFirst start first) (opens : OpensStart first second tape turns)
    (is_tape : IsFirstTape terms.ruling base points tape) where
  abbrev opened : OpenPlace
  opened = record { kept = opens.kept; depth = 0; left = turns; crossed = 0; sum = no_paths }

  pub start_goes_on : base ≡ start.setting.base → IsTrue (may_leave terms.regions start) → CanGoOn terms second tape
  start_goes_on same_base leaves =
      let machine_is : second.machine ≡ start = opens.machine ∙ is_first.machine in
      let base_is : tape.shades.base ≡ second.machine.setting.base =
      is_tape.base_is ∙ (same_base ∙ ap (λ (s : State). s.setting.base) (sym machine_is)) in
      let none : length second.closed.states ≡ 0 = ap (λ s. length s) (opens.states ∙ is_first.states) in
      let none_below : length second.closed.below.items ≡ 0 =
      ap (λ s. length s) (opens.below ∙ is_first.below) in
      let crossed = is_tape.crossed in
      let taken = is_tape.taken in record {
        back = record {
          opens = subst (λ entries. AllByRecursion (CanReturn terms second.pieces second.machine) entries) (sym opens.opens) (
            record {
              state = first.machine;
              shades = tape.shades;
              ahead = tape.ahead;
              byte_masks = tape.byte_masks;
              status_mask = tape.status_mask;
              keeps = opens.keeps;
              setting = ap (λ (s : State). s.setting) (sym opens.machine);
              secret = ap (λ (s : State). s.secret) (sym opens.machine);
              leaves = subst (λ (s : State). IsTrue (may_leave terms.regions s)) (sym is_first.machine) leaves;
              crossed = omega arith;
            },
            tt,
          );
          first = opened;
          others = [];
          begins = opens.opens;
          at_start = refl;
          same_length = none ∙ sym none_below;
          ruling = is_tape.ruling_is;
          base = base_is;
        };
        ready = record {
          base = base_is;
          leaves = subst (λ (s : State). IsTrue (may_leave terms.regions s)) (sym machine_is) leaves;
          clear = is_tape.unclear;
        };
        crossed = omega (arith, crossed);
        within = omega (arith, taken);
      }

  module _ (basis : Basis) (state_is : start ≡ (replay_start basis.task).state) (same_turns : basis.limits.turns ≡ turns)
      (ahead : IsAhead tape.ahead basis.task.masks []) where
    abbrev place : MaskedPlace
    place = masked_start (replay_start basis.task)

    abbrev here : Stood
    here = record { entry = opened; place = place }

    abbrev found : Found
    found = known_in second.findings

    goes : GoesOn basis.limits place
    goes = record { runs = refl; within = omega arith }

    place_is : place.state ≡ second.machine
    place_is = sym state_is ∙ sym (opens.machine ∙ is_first.machine)

    is_kept : IsKeptOf second.pieces opens.kept basis.task.masks place
    is_kept = record {
      shades = tape.shades;
      ahead = tape.ahead;
      keeps = subst (λ (s : State). Keeps second.pieces opens.kept s tape.shades tape.ahead [] 0)
          (is_first.machine ∙ state_is)
          (subst (λ n. Keeps second.pieces opens.kept first.machine tape.shades tape.ahead [] n) is_tape.status_mask
          (subst (λ m. Keeps second.pieces opens.kept first.machine tape.shades tape.ahead m tape.status_mask)
          is_tape.byte_masks opens.keeps));
      labels = is_tape.labels;
      none_past = opens.none_past;
      is_ahead = ahead;
    }

    below_is : below_in basis turns place ≡ tree_in basis
    below_is = ap (λ n. below_in basis n place) (sym same_turns)

    is_open : IsOpen basis second.machine second.pieces found tape.stream.bits here
    is_open = record {
      kept = is_kept;
      goes = goes;
      setting = ap (λ (s : State). s.setting) place_is;
      secret = ap (λ (s : State). s.secret) place_is;
      crossed = refl;
      within = omega arith;
      tree = under_none (tree_in basis) ∙ sym below_is;
      sums = subst (λ ps. Sums basis turns place found no_paths ps)
          (sym (ap (λ s. earlier (below_in basis turns place) s) is_tape.bits
          ∙ earlier_none (below_in basis turns place))) (sums_none basis turns place found);
    }

    closed_none : AreClosed basis second.machine second.pieces found second.closed.states second.closed.below.items
    closed_none index kept one stands is =
        let none : length second.closed.states ≡ 0 = ap (λ s. length s) (opens.states ∙ is_first.states) in
        let below = stands.below in absurd (omega (arith, none, below))

    found_none : IsFoundBefore (tree_in basis) second.findings.patterns found.first_stop tape.stream.bits
    found_none =
        let patterns : second.findings.patterns ≡ [] =
        ap (λ (f : Findings). f.patterns) opens.findings ∙ is_first.patterns in
        let stops : found.first_stop ≡ None =
        ap (λ (s : Option StoppedPath). option_map (λ stopped. halt_of stopped) s)
        (ap (λ (f : Findings). f.first_stop) opens.findings ∙ is_first.first_stop) in
        subst (λ ps. IsFoundBefore (tree_in basis) ps found.first_stop tape.stream.bits) (sym patterns)
        (subst (λ (s : Option Halt). IsFoundBefore (tree_in basis) [] s tape.stream.bits) (sym stops)
        (nothing_before (tree_in basis) tape.stream.bits is_tape.bits))

    leads_on : LeadsTo basis tape.stream.bits (spot_of here) (spot_at tape.stream.taken turns place)
    leads_on =
        subst (λ n. LeadsTo basis tape.stream.bits (spot_of here) (spot_at n turns place)) (sym is_tape.taken) (record {
          made = 0;
          near = place;
          leads = leads_none basis.rules basis.task basis.limits place;
          same = same_self basis.task.masks place;
          crossed = refl;
          turns = omega arith;
          deeper = omega arith;
        })

    pub start_walks : IsWalking basis turns second tape
    start_walks = record {
      searched = record {
        opens = record {
          stood = here ∷ [];
          opens_are = sym opens.opens;
          each = (is_open, tt);
          lead = (tt, tt);
        };
        closed = closed_none;
        found = found_none;
      };
      now = place;
      holds = record {
        state_is = place_is;
        labels = is_tape.labels;
        ahead = ahead;
        crossed = is_tape.crossed;
        byte_masks = is_tape.byte_masks;
        status_mask = is_tape.status_mask;
        clear = is_tape.unclear;
      };
      goes = goes;
      opens = λ more.
          let none : length tape.stream.bits ≡ 0 = ap (λ s. length s) is_tape.bits in
          absurd (omega (arith, more, none));
      lead = (leads_on, tt);
    }
