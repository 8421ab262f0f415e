use Rattle.std.proofs.Common.{◌≡◌, take}
use Rattle.std.specs.List.{AllByRecursion}
use Rattle.enclosure_regions.specs.Regions.{ids_of}
use Rattle.region_learn.specs.Private.Books.{IsNew, numbers_of}
use Rattle.region_learn.proofs.learning.new_book.Given as goal

abbrev pub invariant-loop-region : goal.invariant-loop-region
invariant-loop-region l = record {
  numbers : numbers_of l.book ≡ ids_of (take l.region-index l.regions);
  fresh : AllByRecursion (IsNew l.base) l.book;
}
