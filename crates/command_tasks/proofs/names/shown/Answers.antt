use Rattle.std.proofs.Common.{◌≡◌, ◌++◌, ◌<◌, true, false, length, get_or, arith, ap}
use Rattle.std.proofs.lemmas.Grind.{common_steps}
use Rattle.std.proofs.lemmas.Str.{IsCharBoundary-start, IsCharBoundary-after_ascii}
use Rattle.command_tasks.specs.Names.{is_control, shown}
use Rattle.command_tasks.proofs.Shown.{control_ascii, keep_byte, spell_byte}
use Rattle.command_tasks.proofs.names.shown.Goals as goal
use Rattle.command_tasks.proofs.names.shown.Goals.{then-is_control+in_ok-push_str+in_ok-push_escape, else-is_control}

pub loop-at-init : goal.loop-at-init
loop-at-init c = record {
  low = omega arith;
  bound = IsCharBoundary-start c.args.name.now c.utf8.name;
  text = ap (λ done. done ++ shown c.args.name.now) c.new-text.ensures.bytes;
}

pub loop-at-preserved : goal.loop-at-preserved
loop-at-preserved c =
    let l = c.loop-at in
    let name = c.args.name.now in
    let within : l.at < length name = omega (arith, c.loop-at-test.true, c.as_bytes-bytes.ensures.len) in
    elim c.if-is_control.branch [
      | then-is_control+in_ok-push_str+in_ok-push_escape w ↦
          let control : is_control (get_or name l.at 0) ≡ true = grind (arith, common_steps) in
          let next = spell_byte name _ _ l.start l.at within control l.invariant.text in
          rw (w.start-is, w.text-is) (record {
            low = omega arith;
            bound = IsCharBoundary-after_ascii name l.at c.utf8.name within (control_ascii _ control);
            text = grind (arith, common_steps, next, w.in_ok-push_str.ensures, w.in_ok-push_escape.ensures);
          })
      | else-is_control w ↦
          let plain : is_control (get_or name l.at 0) ≡ false = grind (arith, common_steps) in
          rw (w.start-is, w.text-is) (record {
            low = omega (arith, l.invariant.low);
            bound = l.invariant.bound;
            text = keep_byte name _ _ l.start l.at l.invariant.low within plain l.invariant.text;
          })
    ]
