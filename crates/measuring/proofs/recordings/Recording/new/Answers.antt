use Rattle.std.proofs.Common.{sym, ◌∙◌}
use Rattle.std.proofs.lemmas.Bool.{false≢true}
use Rattle.measuring.proofs.AddedVisits.{none_for}
use Rattle.measuring.proofs.recordings.Recording.new.Goals as goal

pub returns : goal.returns
returns c = record {
  graph = λ same. c.in_ok-collapse.ensures.stands;
  visits = λ same. none_for c.new-2.result c.new-2.ensures;
  exceeds = λ other. absurd (false≢true (sym c.in_ok-collapse.ensures.full ∙ other));
}
