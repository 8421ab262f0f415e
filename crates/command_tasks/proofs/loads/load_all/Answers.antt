use Rattle.std.proofs.Common.{◌≡◌, ◌≢◌, ℕ, List, Result, [], ◌+◌, ap, ◌∙◌, Ok, Err, arith, get_or, map, take, drop, take_all}
use Rattle.std.proofs.lemmas.Grind.{common_steps}
use Rattle.command_tasks.specs.declared.kinds.FileKind.TheVariants.{Program}
use Rattle.command_tasks.specs.declared.loads.Want.{Want}
use Rattle.command_tasks.specs.declared.refusals.Refusal.TheVariants.{Load, Memory}
use Rattle.command_tasks.specs.declared.refusals.Refusal.{Refusal}
use Rattle.command_tasks.specs.Wants.{want_of}
use Rattle.command_tasks.proofs.LoadSteps.{gave_more, refused_loads, part_loads, all_loads, all_part, within_more}
use Rattle.command_tasks.proofs.LoadSteps.{refusal_among, wants_around, wants_up_to}
use Rattle.command_tasks.proofs.loads.load_all.Goals as goal

-- where an item is looked up outside of a list
abbrev none : Want
none = record { name = record { ref_ptr = (0, 0); now = [] }; kind = Program }

ok_err : (result : Result (List ℕ) Refusal) (file : List ℕ) (refusal : Refusal) → result ≡ Ok file →
    result ≡ Err refusal → ⊥
ok_err result file refusal e f = cc

pub returns-in_err-file-clause-loads : goal.returns-in_err-file-clause-loads
returns-in_err-file-clause-loads g c = λ known.
    let l = c.loop-want in
    let refusal = c.in_err-file.field-0.0 in
    let same : c.from_residual.result ≡ Err refusal = grind (arith, common_steps) in
    let apart : refusal ≢ Memory = λ e. known (same ∙ ap (λ r. Err r) e) in
    let around = wants_around want_of c.args.wants.now l.want-index none c.loop-want-test.true in
    let last = refused_loads (g.F.Files.told c.args.files.now) _ l.loaded (g.F.Files.told l.files) _
    (map want_of (drop (l.want-index + 1) c.args.wants.now)) refusal l.invariant.gave c.in_err-file.ensures.answers apart in
    rw (same, around) (refusal_among _ _ _ refusal (c.in_err-file.ensures.refused apart), last.0)

pub returns-in_err-file-clause-leaves : goal.returns-in_err-file-clause-leaves
returns-in_err-file-clause-leaves g c = λ known.
    let l = c.loop-want in
    let refusal = c.in_err-file.field-0.0 in
    let same : c.from_residual.result ≡ Err refusal = grind (arith, common_steps) in
    let apart : refusal ≢ Memory = λ e. known (same ∙ ap (λ r. Err r) e) in
    let around = wants_around want_of c.args.wants.now l.want-index none c.loop-want-test.true in
    let last = refused_loads (g.F.Files.told c.args.files.now) _ l.loaded (g.F.Files.told l.files) _
    (map want_of (drop (l.want-index + 1) c.args.wants.now)) refusal l.invariant.gave c.in_err-file.ensures.answers apart in
    rw (around, c.load.ensures.counts) last.1

pub returns-in_err-file-clause-part : goal.returns-in_err-file-clause-part
returns-in_err-file-clause-part g c =
    let l = c.loop-want in
    let around = wants_around want_of c.args.wants.now l.want-index none c.loop-want-test.true in
    rw (around, c.load.ensures.counts)
    (part_loads (g.F.Files.told c.args.files.now) _ l.loaded (g.F.Files.told l.files) (want_of (get_or c.args.wants.now l.want-index none))
    (map want_of (drop (l.want-index + 1) c.args.wants.now)) l.invariant.gave)

pub returns-in_err-push-clause-part : goal.returns-in_err-push-clause-part
returns-in_err-push-clause-part g c =
    let l = c.loop-want in
    let around = wants_around want_of c.args.wants.now l.want-index none c.loop-want-test.true in
    rw (around, c.load.ensures.counts)
    (part_loads (g.F.Files.told c.args.files.now) _ l.loaded (g.F.Files.told l.files) (want_of (get_or c.args.wants.now l.want-index none))
    (map want_of (drop (l.want-index + 1) c.args.wants.now)) l.invariant.gave)

pub loop-want-preserved : goal.loop-want-preserved
loop-want-preserved g c =
    let l = c.loop-want in
    let more = wants_up_to want_of c.args.wants.now l.want-index none c.loop-want-test.true in
    rw (more, c.in_ok-push.ensures.ok, c.load.ensures.counts) (record {
      gave =
          gave_more (g.F.Files.told c.args.files.now) _ l.loaded (g.F.Files.told l.files) _ c.in_ok-file.file l.invariant.gave
          c.in_ok-file.ensures.answers;
      within = within_more _ l.loaded _ c.in_ok-file.file l.invariant.within c.in_ok-file.ensures.limit;
      faults =
          c.load.ensures.kept (ok_err c.load.result c.in_ok-file.file Memory c.in_ok-file.was)
          (λ name. ok_err c.load.result c.in_ok-file.file (Load name) c.in_ok-file.was) ∙ l.invariant.faults;
    })

pub returns-clause-loads : goal.returns-clause-loads
returns-clause-loads g c = λ known.
    let l = c.loop-want in
    let all : take l.want-index c.args.wants.now ≡ c.args.wants.now = take_all _ _ (omega (arith, c.loop-want-test.false)) in
    let done = all_loads (g.F.Files.told c.args.files.now) _ l.loaded (g.F.Files.told l.files) l.invariant.gave in
    (rw all at l.invariant.within, rw all at done.0)

pub returns-clause-leaves : goal.returns-clause-leaves
returns-clause-leaves g c = λ known.
    let l = c.loop-want in
    let all : take l.want-index c.args.wants.now ≡ c.args.wants.now = take_all _ _ (omega (arith, c.loop-want-test.false)) in
    rw all at (all_loads (g.F.Files.told c.args.files.now) _ l.loaded (g.F.Files.told l.files) l.invariant.gave).1

pub returns-clause-part : goal.returns-clause-part
returns-clause-part g c =
    let l = c.loop-want in
    let all : take l.want-index c.args.wants.now ≡ c.args.wants.now = take_all _ _ (omega (arith, c.loop-want-test.false)) in
    all_part (g.F.Files.told c.args.files.now) (map want_of c.args.wants.now) (g.F.Files.told l.files)
    (rw all at (all_loads (g.F.Files.told c.args.files.now) _ l.loaded (g.F.Files.told l.files) l.invariant.gave).1)
