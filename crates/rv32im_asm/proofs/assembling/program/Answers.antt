use Rattle.std.proofs.Common.{◌≡◌, ◌+◌, ◌≤◌, [], ◌∷◌, ◌++◌, length, take, Some, Ok, Err, add-one, ap, sym, ◌∙◌, arith}
use Rattle.std.proofs.Common.{length-append}
use Rattle.std.proofs.lemmas.Grind.{common_steps}
use Rattle.rv32im_asm.specs.Assembling.{followed, known_places, reading, readings}
use Rattle.rv32im_asm.specs.Private.Labels.{places_in}
use Rattle.rv32im_asm.specs.Lines.{lines_of}
use Rattle.rv32im_asm.specs.Operands.{both}
use Rattle.rv32im_asm.specs.Private.Pieces.{bytes_in}
use Rattle.rv32im_asm.specs.Sizes.{line_size, places_up_to, total_size}
use Rattle.rv32im_asm.proofs.Fronts.{HasNext, has_next}
use Rattle.rv32im_asm.proofs.LabelSteps.{total_size_push}
use Rattle.rv32im_asm.proofs.ProgramSteps.{bytes_step, fault_step, same_places}
use Rattle.rv32im_asm.proofs.assembling.program.Goals as goal

pub returns-in_err-piece-clause-exact : goal.returns-in_err-piece-clause-exact
returns-in_err-piece-clause-exact c = λ _.
    let all = lines_of c.args.source.now in
    let known = known_places all in
    let more = lines_of c.first_line.result.1.now in
    let whole : followed (Ok c.loop-rest.program.items) (readings known all c.loop-rest.index
    (c.first_line.result.0.now ∷ more))
    ≡ readings known all 0 all =
    ap (λ left. followed (Ok c.loop-rest.program.items) (readings known all c.loop-rest.index left))
    (sym c.first_line.ensures.lines)
    ∙ c.loop-rest.invariant.program in
    let answer : c.from_residual-in_err-piece.result ≡ Err c.in_err-piece.field-0.0 = grind (arith, common_steps) in
    let read : Err c.in_err-piece.field-0.0 ≡ reading
    (places_up_to c.first_failing-reach.result (places_in c.in_ok-labels.labels)) c.loop-rest.index c.loop-rest.here
    c.first_line.result.0.now = grind (arith, common_steps) in
    let alike : places_up_to c.first_failing-reach.result (places_in c.in_ok-labels.labels) ≡ known =
    same_places all c.first_failing-reach.result (places_in c.in_ok-labels.labels) c.in_ok-labels.ensures.places
    c.first_failing-reach.ensures in
    answer ∙ fault_step all more c.loop-rest.index c.loop-rest.here c.first_line.result.0.now c.loop-rest.program.items
    known c.in_err-piece.field-0.0 c.loop-rest.invariant.here
    (read ∙ ap (λ places. reading places c.loop-rest.index c.loop-rest.here c.first_line.result.0.now) alike) whole

pub loop-rest-preserved : goal.loop-rest-preserved
loop-rest-preserved c =
    let all = lines_of c.args.source.now in
    let front = take c.loop-rest.index all in
    let line = c.first_line.result.0.now in
    let known = known_places all in
    let more = lines_of c.first_line.result.1.now in
    let next : HasNext all c.loop-rest.index line more =
    has_next all c.loop-rest.index line _ (c.loop-rest.invariant.left ∙ c.first_line.ensures.lines) in
    let grown : take (c.loop-rest.index + 1) all ≡ front ++ line ∷ [] = rw add-one next.front in
    let whole : followed (Ok c.loop-rest.program.items) (readings known all c.loop-rest.index (line ∷ more))
    ≡ readings known all 0 all =
    ap (λ left. followed (Ok c.loop-rest.program.items) (readings known all c.loop-rest.index left))
    (sym c.first_line.ensures.lines)
    ∙ c.loop-rest.invariant.program in
    let read : Ok (bytes_in c.in_ok-piece.piece) ≡ reading
    (places_up_to c.first_failing-reach.result (places_in c.in_ok-labels.labels)) c.loop-rest.index c.loop-rest.here
    line = grind (arith, common_steps) in
    let alike : places_up_to c.first_failing-reach.result (places_in c.in_ok-labels.labels) ≡ known =
    same_places all c.first_failing-reach.result (places_in c.in_ok-labels.labels) c.in_ok-labels.ensures.places
    c.first_failing-reach.ensures in
    let put : c.put.new.program.items ≡ c.loop-rest.program.items ++ bytes_in c.in_ok-piece.piece = grind
    (arith, common_steps) in
    let sized : line_size line ≡ Some c.in_ok-piece.size = grind (arith, common_steps) in
    let shorter : length (bytes_in c.in_ok-piece.piece) ≤ c.in_ok-piece.size = grind (arith, common_steps) in
    let fits : c.loop-rest.here + c.in_ok-piece.size ≤ 1048576 = grind (arith, common_steps) in
    let total : length c.put.new.program.items ≡ length c.loop-rest.program.items + length
    (bytes_in c.in_ok-piece.piece) =
    ap length put ∙ length-append c.loop-rest.program.items (bytes_in c.in_ok-piece.piece) in
    record {
      left = rw add-one next.left;
      here = ap total_size grown ∙ (total_size_push front line
          ∙ (ap (λ offset. both (λ m n. m + n) offset (line_size line)) c.loop-rest.invariant.here
          ∙ ap (λ size. both (λ m n. m + n) (Some c.loop-rest.here) size) sized));
      program = ap (λ items. followed (Ok items) (readings known all (c.loop-rest.index + 1) more)) put
          ∙ bytes_step all more c.loop-rest.index c.loop-rest.here line c.loop-rest.program.items
          (bytes_in c.in_ok-piece.piece)
          known c.loop-rest.invariant.here
          (read ∙ ap (λ places. reading places c.loop-rest.index c.loop-rest.here line) alike) whole;
      size = omega (arith, total, shorter, c.loop-rest.invariant.size);
      fits = fits;
      bound = omega (arith, c.loop-rest.invariant.bound, c.first_line.ensures.nearer);
    }
