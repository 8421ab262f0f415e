use Rattle.std.proofs.Common.{◌≡◌, length, take}
use Rattle.every_secret.specs.Private.Searching.{CanGoBack, IsBasis, Settles, terms_of}
use Rattle.every_secret.specs.Private.Spots.{Basis}
use Rattle.every_secret.specs.Private.Tapes.{ruling_of, tape_of}
use Rattle.every_secret.proofs.stepping.close_behind.Given as goal

abbrev pub invariant-loop-search : goal.invariant-loop-search
invariant-loop-search g l =
    let terms = terms_of (ruling_of l.fn.walks.book.now.table l.fn.walks.known) l.fn.walks.marked.now.regions.items l.fn.walks.cut.now.skip
    l.fn.walks.budget l.fn.walks.turns in
    let tape = tape_of (ruling_of l.fn.side.book.now.table l.fn.side.known) l.fn.side.shadow l.fn.side.masks l.fn.side.bits l.fn.side.crossed
    l.fn.side.byte_masks.items l.fn.side.status_mask l.fn.side.unclear in record {
      back : CanGoBack terms l.search tape;
      opens : take l.fn.keep l.search.opens.items ≡ take l.fn.keep l.fn.search.opens.items;
      settles : (basis : Basis) → IsBasis terms basis → Settles basis l.fn.turn l.fn.search tape →
          Settles basis l.fn.turn l.search tape;
    }

abbrev pub decreases-loop-search : goal.decreases-loop-search
decreases-loop-search g l = length l.search.opens.items
