use Rattle.std.proofs.Common.{◌≡◌, ℕ, [], false, get_or, vec_len}
use Rattle.region_learn.specs.Private.Marks.{page_has}
use Rattle.region_learn.proofs.byte_marks.ByteMarks.new.Given as goal

abbrev pub invariant-loop : goal.invariant-loop
invariant-loop l = record {
  length : vec_len l.pages ≡ l.counter;
  none : (page index : ℕ) → page_has (get_or l.pages.items page []) index ≡ false;
}
