use Rattle.std.proofs.Common.{◌∷◌, ◌++◌, [], refl, sym, ap, ap₂, ◌∙◌, arith, subst}
use Rattle.std.specs.List.{AllByRecursion}
use Rattle.kept_states.specs.Keeping.{Keeps}
use Rattle.lockstep_replay.specs.Tasks.{Limits}
use Rattle.every_secret.specs.declared.open_places.OpenPlace.{OpenPlace}
use Rattle.every_secret.specs.declared.sums.Sum.{Sum}
use Rattle.every_secret.specs.Private.Searching.{CanReturn, NonePast, Terms, terms_of}
use Rattle.every_secret.specs.Private.Tapes.{ruling_of, tape_of}
use Rattle.every_secret.proofs.Lists.{each_appended, each_weaker}
use Rattle.every_secret.proofs.LookedUp.{is_met, is_opened, opened_can_return, returns_grown}
use Rattle.every_secret.proofs.searching.look_up.Goals as goal

pub returns-in-Some-clause-safe : goal.returns-in-Some-clause-safe
returns-in-Some-clause-safe g c =
    let walks = c.args.walks in
    let side = c.args.side.now in
    let search = c.args.search.now in
    let terms : Terms = terms_of (ruling_of walks.book.now.table walks.known) walks.marked.now.regions.items walks.cut.now.skip walks.budget walks.turns in
    let safe = c.requires.safe in
    let back = safe.back in record {
      back = record {
        opens = each_weaker (CanReturn terms search.pieces search.machine) (CanReturn terms c.keep.new.pieces search.machine)
            (returns_grown terms search.pieces c.keep.new.pieces search.machine c.keep.ensures.grows) search.opens.items
            back.opens;
        first = back.first;
        others = back.others;
        begins = back.begins;
        at_start = back.at_start;
        same_length = back.same_length;
        ruling = back.ruling;
        base = back.base;
      };
      ready = safe.ready;
      crossed = safe.crossed;
      within = safe.within;
    }

pub returns-in-Some-clause-looks : goal.returns-in-Some-clause-looks
returns-in-Some-clause-looks g c = λ basis is walking.
    let side = c.args.side.now in
    let walks = c.args.walks in
    let terms : Terms = terms_of (ruling_of walks.book.now.table walks.known) walks.marked.now.regions.items walks.cut.now.skip walks.budget walks.turns in
    let tape = tape_of (ruling_of side.book.now.table side.known) side.shadow side.masks side.bits side.crossed side.byte_masks.items
    side.status_mask side.unclear in
    let none : NonePast tape.shades =
    record { registers = c.tell_registers.ensures.registers; kept = c.tell_registers.ensures.kept } in
    let keeps : Keeps c.keep.new.pieces c.in_ok-kept.kept c.args.search.now.machine side.shadow side.masks
    side.byte_masks.items side.status_mask =
    subst (λ b. Keeps c.keep.new.pieces c.in_ok-kept.kept c.args.search.now.machine side.shadow side.masks b
    side.status_mask) c.as_slice.ensures.value c.in_ok-kept.ensures.keeps in
    let found = c.in-Some.ensures.found in
    let budget = ap (λ (l : Limits). l.budget) is.limits in
    let bits = c.in-Some.ensures.bits in
    let within = c.requires.safe.crossed in
    is_met basis terms is c.args.search.now c.keep.new.pieces tape c.args.left c.in_ok-kept.kept walking c.keep.ensures.grows
    keeps none c.requires.full c.in-Some.closed found.0 found.1 found.2 c.in-Some.ensures.turns
    (omega (arith, budget, bits, within))

pub returns-in_ok-put_last-in-None-clause-safe : goal.returns-in_ok-put_last-in-None-clause-safe
returns-in_ok-put_last-in-None-clause-safe g c =
    let walks = c.args.walks in
    let side = c.args.side.now in
    let search = c.args.search.now in
    let terms : Terms = terms_of (ruling_of walks.book.now.table walks.known) walks.marked.now.regions.items walks.cut.now.skip walks.budget walks.turns in
    let safe = c.requires.safe in
    let back = safe.back in
    let keeps : Keeps c.keep.new.pieces c.in_ok-kept.kept search.machine side.shadow side.masks side.byte_masks.items
    side.status_mask =
    subst (λ b. Keeps c.keep.new.pieces c.in_ok-kept.kept search.machine side.shadow side.masks b side.status_mask)
    c.as_slice.ensures.value c.in_ok-kept.ensures.keeps in
    let entry : OpenPlace = record {
      kept = c.in_ok-kept.kept;
      depth = c.depth_of-depth.result;
      left = c.args.left;
      crossed = side.crossed;
      sum = c.none-sum.result;
    } in
    let grown = each_weaker (CanReturn terms search.pieces search.machine) (CanReturn terms c.keep.new.pieces search.machine)
    (returns_grown terms search.pieces c.keep.new.pieces search.machine c.keep.ensures.grows) search.opens.items back.opens in
    record {
      back = record {
        opens = subst (λ items. AllByRecursion (CanReturn terms c.keep.new.pieces search.machine) items)
            (sym c.in_ok-put_last-in-None.ensures)
            (each_appended (CanReturn terms c.keep.new.pieces search.machine) search.opens.items (entry ∷ []) grown (
              opened_can_return terms c.keep.new.pieces search.machine entry side.shadow side.masks side.byte_masks.items
                  side.status_mask keeps safe.ready.leaves safe.crossed,
              tt,
            ));
        first = back.first;
        others = back.others ++ entry ∷ [];
        begins = c.in_ok-put_last-in-None.ensures ∙ ap (λ items. items ++ entry ∷ []) back.begins;
        at_start = back.at_start;
        same_length = back.same_length;
        ruling = back.ruling;
        base = back.base;
      };
      ready = safe.ready;
      crossed = safe.crossed;
      within = safe.within;
    }

pub returns-in_ok-put_last-in-None-clause-looks : goal.returns-in_ok-put_last-in-None-clause-looks
returns-in_ok-put_last-in-None-clause-looks g c = λ basis is walking.
    let side = c.args.side.now in
    let search = c.args.search.now in
    let walks = c.args.walks in
    let terms : Terms = terms_of (ruling_of walks.book.now.table walks.known) walks.marked.now.regions.items walks.cut.now.skip walks.budget walks.turns in
    let tape = tape_of (ruling_of side.book.now.table side.known) side.shadow side.masks side.bits side.crossed side.byte_masks.items
    side.status_mask side.unclear in
    let none : NonePast tape.shades =
    record { registers = c.tell_registers.ensures.registers; kept = c.tell_registers.ensures.kept } in
    let keeps : Keeps c.keep.new.pieces c.in_ok-kept.kept search.machine side.shadow side.masks side.byte_masks.items
    side.status_mask =
    subst (λ b. Keeps c.keep.new.pieces c.in_ok-kept.kept search.machine side.shadow side.masks b side.status_mask)
    c.as_slice.ensures.value c.in_ok-kept.ensures.keeps in
    let back = c.requires.safe.back in
    is_opened basis terms is search c.keep.new.pieces tape c.args.left c.in_ok-kept.kept walking c.keep.ensures.grows
    keeps none c.requires.full back.first back.others back.begins back.at_start
    (record {
      machine = search.machine;
      opens = c.put_last.new.opens;
      closed = search.closed;
      pieces = c.keep.new.pieces;
      findings = search.findings;
    }) refl refl refl refl
    (c.in_ok-put_last-in-None.ensures
    ∙ ap₂ (λ n (s : Sum). search.opens.items ++ record {
      kept = c.in_ok-kept.kept;
      depth = n;
      left = c.args.left;
      crossed = side.crossed;
      sum = s;
    } ∷ []) c.depth_of-depth.ensures.depth c.none-sum.ensures)
