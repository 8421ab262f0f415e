use Rattle.std.proofs.Common.{◌≡◌, ◌<◌, ℕ, get_or, length}
use Rattle.enclosure_regions.specs.declared.region_parts.Region.{Region}
use Rattle.region_learn.specs.declared.notes.Notes.{Notes}
use Rattle.region_learn.specs.Private.Declarations.{Declares}
use Rattle.region_learn.proofs.declarations.declare_all.Given as goal

abbrev pub invariant-loop-place : goal.invariant-loop-place
invariant-loop-place l = record {
  count : length l.declared ≡ l.place;
  each : (place : ℕ) (region other : Region) (notes : Notes) → place < l.place →
      Declares (get_or l.regions place region) (get_or l.book place notes) (get_or l.declared place other);
}
