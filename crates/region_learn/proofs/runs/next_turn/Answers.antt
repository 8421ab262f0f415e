use Rattle.std.proofs.Common.{◌≡◌, true, List, ℕ, subst, sym}
use Rattle.std.proofs.lemmas.Bool.{and_parts}
use Rattle.enclosure_regions.specs.Regions.{are_distinct}
use Rattle.region_machine.specs.Enclosures.{Kind}
use Rattle.region_learn.specs.Private.Books.{has_kind_notes}
use Rattle.region_learn.proofs.KindRegions.{bare_leave, notes_of_turn}
use Rattle.region_learn.proofs.runs.next_turn.Goals as goal

pub noted_turn-requires : goal.noted_turn-requires
noted_turn-requires c =
    let regions = c.args.marked.now.regions.items in
    let book = c.args.book.now in
    let distinct = (and_parts _ _ (and_parts _ _ (and_parts _ _ c.args.marked.now.regions.keeps_rules).1).1).0 in
    record {
      rules = c.next_turn-turn.ensures.rules;
      leave = c.next_turn-turn.ensures.leave (bare_leave regions c.args.machine.now c.requires.bare);
      own = subst (λ (l : List ℕ). are_distinct l ≡ true) (sym c.requires.numbers) distinct;
      notes = subst (λ (k : Kind). has_kind_notes book k ≡ true) (sym c.next_turn-turn.ensures.kind)
          (notes_of_turn regions book c.args.machine.now.control c.requires.numbers);
      base = c.requires.base;
    }
