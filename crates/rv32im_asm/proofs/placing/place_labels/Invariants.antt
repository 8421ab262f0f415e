use Rattle.std.proofs.Common.{◌≡◌, ℕ, ◌+◌, ◌*◌, ◌≤◌, List, length, take, drop, IfSome}
use Rattle.rv32im_asm.specs.Private.Labels.{IsNear, places_in}
use Rattle.rv32im_asm.specs.Lines.{lines_of}
use Rattle.rv32im_asm.specs.Sizes.{place_of, total_size}
use Rattle.rv32im_asm.proofs.placing.place_labels.Given as goal

abbrev pub decreases-loop-rest : goal.decreases-loop-rest
decreases-loop-rest l = length l.rest

abbrev pub invariant-loop-rest : goal.invariant-loop-rest
invariant-loop-rest l = record {
  left : drop l.index (lines_of l.source) ≡ lines_of l.rest;
  offset : l.offset ≡ total_size (take l.index (lines_of l.source));
  places : (name : List ℕ) → places_in l.labels name ≡ place_of (take l.index (lines_of l.source)) name;
  near : (name : List ℕ) → IsNear (places_in l.labels name);
  small : IfSome l.offset (λ n. n ≤ l.index * 1048576);
  bound : l.index + length l.rest ≤ length l.source;
}
