use Rattle.std.proofs.Common.{◌≡◌, ◌+◌, length, map, sym, subst, IfOk, OnOk, cond, arith}
use Rattle.std.specs.Prelude.{◌==◌}
use Rattle.std.specs.Str.{bytes_eq}
use Rattle.every_secret.specs.Bounds.{size_of, with_pattern}
use Rattle.every_secret.specs.Private.KeptPatterns.{pattern_of}
use Rattle.every_secret.proofs.KeptKeys.{all_four, inserted, inserted_size, left_four}
use Rattle.every_secret.proofs.pattern_set.put.Goals as goal
use Rattle.every_secret.proofs.pattern_set.put.Goals.{in-Ok, in-Err}

pub returns-clause-patterns : goal.returns-clause-patterns
returns-clause-patterns c =
    let old = c.args.keys.now.keys in
    let new = c.insert.new.self.keys in
    elim c.match-insert.branch [
      | in-Ok w ↦ subst (λ r. OnOk r (map pattern_of new ≡ with_pattern (pattern_of c.args.key) (map pattern_of old)))
          (sym w.result-is) (inserted _ c.args.key old new w.in-Ok.ensures.keys (λ j. grind (
            arith,
            all_four (bytes_eq c.args.key.bytes.items j.bytes.items)
                (bytes_eq c.args.key.byte_masks.items j.byte_masks.items) (c.args.key.status == j.status)
                (c.args.key.status_mask == j.status_mask),
            left_four (bytes_eq c.args.key.bytes.items j.bytes.items)
                (bytes_eq c.args.key.byte_masks.items j.byte_masks.items) (c.args.key.status == j.status)
                (c.args.key.status_mask == j.status_mask),
          )))
      | in-Err w ↦ subst (λ r. OnOk r (map pattern_of new ≡ with_pattern (pattern_of c.args.key) (map pattern_of old)))
          (sym w.result-is) tt
    ]

pub returns-clause-size : goal.returns-clause-size
returns-clause-size c =
    let old = c.args.keys.now.keys in
    let new = c.insert.new.self.keys in
    elim c.match-insert.branch [
      | in-Ok w ↦ subst (λ r. IfOk r (λ is_new. size_of (map pattern_of new)
          ≡ cond is_new (size_of (map pattern_of old) + length c.args.key.bytes.items + 1) (size_of (map pattern_of old))))
          (sym w.result-is) (inserted_size _ c.args.key old new w.in-Ok.is_new w.in-Ok.ensures.keys w.in-Ok.ensures.added
          (λ j. grind (
            arith,
            all_four (bytes_eq c.args.key.bytes.items j.bytes.items)
                (bytes_eq c.args.key.byte_masks.items j.byte_masks.items) (c.args.key.status == j.status)
                (c.args.key.status_mask == j.status_mask),
            left_four (bytes_eq c.args.key.bytes.items j.bytes.items)
                (bytes_eq c.args.key.byte_masks.items j.byte_masks.items) (c.args.key.status == j.status)
                (c.args.key.status_mask == j.status_mask),
          )))
      | in-Err w ↦ subst (λ r. IfOk r (λ is_new. size_of (map pattern_of new)
          ≡ cond is_new (size_of (map pattern_of old) + length c.args.key.bytes.items + 1) (size_of (map pattern_of old))))
          (sym w.result-is) tt
    ]
