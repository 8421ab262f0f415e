use Rattle.std.proofs.Common.{◌≢◌, ◌<◌, ◌≤◌, ◌-◌, ℕ, get_or, length}
use Rattle.region_learn.specs.declared.notes.Notes.{Notes}
use Rattle.region_learn.proofs.turns.place_of.Given as goal

abbrev pub invariant-loop-place : goal.invariant-loop-place
invariant-loop-place l = record {
  within : l.place ≤ length l.book;
  before : (place : ℕ) (none : Notes) → place < l.place → (get_or l.book place none).region ≢ l.number;
}

abbrev pub decreases-loop-place : goal.decreases-loop-place
decreases-loop-place l = length l.book - l.place
