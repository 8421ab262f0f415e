use Rattle.std.proofs.Common.{◌≡◌, None}
use Rattle.rv32im_machine.specs.declared.stepping.Stepped.TheVariants.{Ran}
use Rattle.region_learn.specs.Private.Books.{BookOf}
use Rattle.region_learn.specs.LearnAnswers.{first_call}
use Rattle.region_learn.specs.Written.{state_after}
use Rattle.region_learn.proofs.runs.run.Given as goal

abbrev pub invariant-loop : goal.invariant-loop
invariant-loop l = record {
  state : l.machine ≡ state_after l.marked.regions.items l.counter l.initial.machine;
  setting : l.machine.setting ≡ l.initial.machine.setting;
  book : BookOf l.marked.regions.items l.counter l.initial.machine l.book;
  quiet : first_call l.marked.regions.items l.counter l.initial.machine ≡ None;
  ran : l.machine.control.mode ≡ Ran;
}
