use Rattle.std.proofs.Common.{◌≡◌, ◌+◌, ◌≤◌, [], ◌∷◌, ◌++◌, take, Some, Ok, Err, add-one, ap, sym, ◌∙◌, arith}
use Rattle.std.proofs.lemmas.Grind.{common_steps}
use Rattle.rv32im_asm.specs.Assembling.{first_failing, reading}
use Rattle.rv32im_asm.specs.Private.Labels.{places_in}
use Rattle.rv32im_asm.specs.Lines.{lines_of}
use Rattle.rv32im_asm.specs.Operands.{both}
use Rattle.rv32im_asm.specs.Private.Pieces.{bytes_in}
use Rattle.rv32im_asm.specs.Sizes.{line_size, places_up_to, total_size}
use Rattle.rv32im_asm.proofs.Fronts.{HasNext, has_next}
use Rattle.rv32im_asm.proofs.LabelSteps.{total_size_push}
use Rattle.rv32im_asm.proofs.ProgramSteps.{failing_step, standing_step}
use Rattle.rv32im_asm.proofs.assembling.first_failing.Goals as goal

pub returns-in-Err : goal.returns-in-Err
returns-in-Err c =
    let all = lines_of c.args.source.now in
    let line = c.first_line.result.0.now in
    let more = lines_of c.first_line.result.1.now in
    let places = places_in c.args.labels.now in
    let whole : first_failing places all c.loop-rest.index (line ∷ more) ≡ first_failing places all 0 all =
    ap (first_failing places all c.loop-rest.index) (sym c.first_line.ensures.lines) ∙ c.loop-rest.invariant.first in
    let read : Err c.in-Err.field-0 ≡ reading (places_up_to c.loop-rest.index places) c.loop-rest.index c.loop-rest.here
    line = grind (arith, common_steps) in
    failing_step all more c.loop-rest.index c.loop-rest.here _ line places c.in-Err.field-0 c.loop-rest.invariant.here
    read whole

pub loop-rest-preserved : goal.loop-rest-preserved
loop-rest-preserved c =
    let all = lines_of c.args.source.now in
    let front = take c.loop-rest.index all in
    let line = c.first_line.result.0.now in
    let more = lines_of c.first_line.result.1.now in
    let places = places_in c.args.labels.now in
    let next : HasNext all c.loop-rest.index line more =
    has_next all c.loop-rest.index line _ (c.loop-rest.invariant.left ∙ c.first_line.ensures.lines) in
    let grown : take (c.loop-rest.index + 1) all ≡ front ++ line ∷ [] = rw add-one next.front in
    let whole : first_failing places all c.loop-rest.index (line ∷ more) ≡ first_failing places all 0 all =
    ap (first_failing places all c.loop-rest.index) (sym c.first_line.ensures.lines) ∙ c.loop-rest.invariant.first in
    let read : Ok (bytes_in c.in-Ok.field-0-0) ≡ reading (places_up_to c.loop-rest.index places) c.loop-rest.index
    c.loop-rest.here line = grind (arith, common_steps) in
    let sized : line_size line ≡ Some c.in-Ok.size = grind (arith, common_steps) in
    let fits : c.loop-rest.here + c.in-Ok.size ≤ 1048576 = grind (arith, common_steps) in
    record {
      left = rw add-one next.left;
      here = ap total_size grown ∙ (total_size_push front line
          ∙ (ap (λ offset. both (λ m n. m + n) offset (line_size line)) c.loop-rest.invariant.here
          ∙ ap (λ size. both (λ m n. m + n) (Some c.loop-rest.here) size) sized));
      first = standing_step all more c.loop-rest.index c.loop-rest.here _ line (bytes_in c.in-Ok.field-0-0) places
          c.loop-rest.invariant.here read whole;
      fits = fits;
      bound = omega (arith, c.loop-rest.invariant.bound, c.first_line.ensures.nearer);
    }
