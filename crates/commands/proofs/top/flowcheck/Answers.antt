use Rattle.std.proofs.Common.{◌≡◌, ap, arith, map, string_bytes}
use Rattle.command_tasks.specs.Statuses.{status_number}
use Rattle.commands.specs.Replies.{reply_of}
use Rattle.commands.proofs.WholeReplies.{faults_put, is_reply, put_part, put_whole}
use Rattle.commands.proofs.top.flowcheck.Goals as goal

pub returns-in-Ok-put-clause-reply : goal.returns-in-Ok-put-clause-reply
returns-in-Ok-put-clause-reply g c = λ eight.
    let answers = rw c.as_slice.ensures.value at c.answer.ensures.answers c.in-Ok.ensures.told.0 in (
      reply_of c.answer.result,
      is_reply (g.F.Files.told c.args.files.now) (map string_bytes c.args.words.items) c.answer.result answers,
      put_whole c.answer.result c.in-Ok.reply c.number-in-Ok-put.result (g.K.Sink.told c.args.out.now)
          (g.K.Sink.told c.put.new.self) c.in-Ok.ensures.told.1 c.number-in-Ok-put.ensures
          (rw c.as_slice-2.ensures at c.in-Ok-put.ensures.puts),
    )

pub returns-in-Ok-put-clause-memory : goal.returns-in-Ok-put-clause-memory
returns-in-Ok-put-clause-memory g c = λ eight.
    let answers = rw c.as_slice.ensures.value at c.answer.ensures.answers c.in-Ok.ensures.told.0 in
    let reply = is_reply (g.F.Files.told c.args.files.now) (map string_bytes c.args.words.items) c.answer.result answers in
    let low = reply.low in
    let same : status_number c.in-Ok.reply.status ≡ (reply_of c.answer.result).status =
    ap (λ r. status_number r.status) c.in-Ok.ensures.told.1 in
    let number = c.number-in-Ok-put.ensures in
    absurd (omega (arith, low, same, number, eight))

pub returns-in-Ok-put-clause-loads : goal.returns-in-Ok-put-clause-loads
returns-in-Ok-put-clause-loads g c = λ eight.
    rw c.as_slice.ensures.value at c.answer.ensures.leaves c.in-Ok.ensures.told.0

pub returns-in-Ok-put-clause-faults : goal.returns-in-Ok-put-clause-faults
returns-in-Ok-put-clause-faults g c =
    let answers = rw c.as_slice.ensures.value at c.answer.ensures.answers c.in-Ok.ensures.told.0 in
    faults_put (g.F.Files.told c.args.files.now) (map string_bytes c.args.words.items) c.answer.result c.in-Ok.reply
    c.number-in-Ok-put.result _ _ _ _ answers c.in-Ok.ensures.told.0 c.in-Ok.ensures.told.1 c.number-in-Ok-put.ensures
    c.answer.ensures.cause c.answer.ensures.kept c.in-Ok-put.ensures.kept

pub returns-clause-reply : goal.returns-clause-reply
returns-clause-reply g c = λ eight.
    let answers = rw c.as_slice.ensures.value at c.answer.ensures.answers c.in-Ok.ensures.told.0 in (
      reply_of c.answer.result,
      is_reply (g.F.Files.told c.args.files.now) (map string_bytes c.args.words.items) c.answer.result answers,
      put_part c.answer.result c.in-Ok.reply c.number-in-Err.result (g.K.Sink.told c.args.out.now)
          (g.K.Sink.told c.put.new.self) c.in-Ok.ensures.told.1 c.number-in-Err.ensures
          (rw c.as_slice-2.ensures at c.in-Err.ensures.puts),
    )

pub returns-clause-loads : goal.returns-clause-loads
returns-clause-loads g c = λ eight. rw c.as_slice.ensures.value at c.answer.ensures.leaves c.in-Ok.ensures.told.0
