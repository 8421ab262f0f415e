use Rattle.elf32_loader.specs.Images.{image_picture}
use Rattle.std.proofs.Common.{subst, sym, ◌++◌, ◌∷◌, [], take, ◌+◌}
use Rattle.many_runs.specs.Following.{AreFollowed, IsRunFault}
use Rattle.many_runs.specs.Measures.{setup_of}
use Rattle.many_runs.proofs.RecordedRuns.{first_refused, followed_more, next_taken, none_followed}
use Rattle.many_runs.proofs.following_all.record_runs.Goals as goal

pub loop-index-init : goal.loop-index-init
loop-index-init g c = subst (λ recordings. AreFollowed (setup_of c.args.setup.now.book.now.table
    (image_picture c.args.setup.now.image.now) c.args.setup.now.public.now c.args.setup.now.regions.now.items
    c.args.setup.now.turns) [] recordings) (sym c.new-recordings.ensures)
    (none_followed _)

pub returns-in-Err : goal.returns-in-Err
returns-in-Err g c = record {
  ok = tt;
  err = subst (IsRunFault (setup_of c.args.setup.now.book.now.table
      (image_picture c.args.setup.now.image.now) c.args.setup.now.public.now c.args.setup.now.regions.now.items
      c.args.setup.now.turns) c.args.secrets.now) (sym c.many_fault.ensures)
      (first_refused _ c.args.secrets.now c.loop-index.recordings c.loop-index.index c.index-secrets-index.result
      c.in-Err.fault c.loop-index-test.true c.index-secrets-index.is c.loop-index.invariant c.in-Err.ensures.err);
}

pub loop-index-preserved : goal.loop-index-preserved
loop-index-preserved g c =
    c.in_ok-recordings-in-Ok.ensures (setup_of c.args.setup.now.book.now.table
    (image_picture c.args.setup.now.image.now) c.args.setup.now.public.now c.args.setup.now.regions.now.items
    c.args.setup.now.turns) (take (c.loop-index.index + 1) c.args.secrets.now)
    (subst (λ recordings. AreFollowed (setup_of c.args.setup.now.book.now.table
    (image_picture c.args.setup.now.image.now) c.args.setup.now.public.now c.args.setup.now.regions.now.items
    c.args.setup.now.turns) (take (c.loop-index.index + 1) c.args.secrets.now) recordings)
    (sym c.in_ok-push-in-Ok.ensures.ok)
    (subst (λ secrets. AreFollowed (setup_of c.args.setup.now.book.now.table
    (image_picture c.args.setup.now.image.now) c.args.setup.now.public.now c.args.setup.now.regions.now.items
    c.args.setup.now.turns) secrets (c.loop-index.recordings ++ c.in-Ok.recording ∷ []))
    (sym (next_taken c.args.secrets.now c.loop-index.index c.index-secrets-index.result c.loop-index-test.true
    c.index-secrets-index.is))
    (followed_more _ (take c.loop-index.index c.args.secrets.now) c.loop-index.recordings c.index-secrets-index.result
    c.in-Ok.recording c.loop-index.invariant c.in-Ok.ensures.ok)))
