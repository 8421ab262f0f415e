use Rattle.std.proofs.Common.{◌-◌}
use Rattle.every_secret.specs.Private.Orders.{SameBefore}
use Rattle.every_secret.specs.Private.Searching.{CanGoOn, IsBasis, IsWalking, terms_of}
use Rattle.every_secret.specs.Private.Spots.{Basis}
use Rattle.every_secret.specs.Private.Tapes.{ruling_of, tape_of}
use Rattle.every_secret.proofs.searching.walk_on.Given as goal

abbrev pub invariant-loop-made : goal.invariant-loop-made
invariant-loop-made g l = record {
  safe : CanGoOn (terms_of (ruling_of l.walks.book.now.table l.walks.known) l.walks.marked.now.regions.items l.walks.cut.now.skip l.walks.budget
      l.walks.turns) l.search (tape_of (ruling_of l.side.book.now.table l.side.known) l.side.shadow l.side.masks l.side.bits l.side.crossed
      l.side.byte_masks.items l.side.status_mask l.side.unclear);
  early : SameBefore l.side.bits.bits l.fn.side.bits.bits;
  walks : (basis : Basis) → IsBasis (terms_of (ruling_of l.walks.book.now.table l.walks.known) l.walks.marked.now.regions.items
      l.walks.cut.now.skip l.walks.budget l.walks.turns) basis →
      IsWalking basis l.left l.fn.search (tape_of (ruling_of l.fn.side.book.now.table l.fn.side.known) l.fn.side.shadow l.fn.side.masks
      l.fn.side.bits l.fn.side.crossed l.fn.side.byte_masks.items l.fn.side.status_mask l.fn.side.unclear) →
      IsWalking basis (l.left - l.made) l.search (tape_of (ruling_of l.side.book.now.table l.side.known) l.side.shadow l.side.masks l.side.bits
      l.side.crossed l.side.byte_masks.items l.side.status_mask l.side.unclear);
}
