use Rattle.std.proofs.Common.{◌≡◌, ◌+◌, [], ◌∷◌, ◌++◌, length, take, add-one, ap, sym, ◌∙◌, subst, arith}
use Rattle.std.proofs.lemmas.Grind.{common_steps}
use Rattle.rv32im_asm.specs.Private.Labels.{IsNear}
use Rattle.rv32im_asm.specs.Lines.{lines_of}
use Rattle.rv32im_asm.specs.Operands.{both}
use Rattle.rv32im_asm.specs.Sizes.{line_size, place_of, total_size}
use Rattle.rv32im_asm.specs.declared.places.Place.{Place}
use Rattle.rv32im_asm.proofs.Fronts.{HasNext, has_next, all_front}
use Rattle.rv32im_asm.proofs.LabelSteps.{nearby, no_lines, noted_near, places_next, small_next, total_size_push}
use Rattle.rv32im_asm.proofs.placing.place_labels.Goals as goal

pub loop-rest-preserved : goal.loop-rest-preserved
loop-rest-preserved c =
    let all = lines_of c.args.source.now in
    let front = take c.loop-rest.index all in
    let line = c.first_line.result.0.now in
    let next : HasNext all c.loop-rest.index line (lines_of c.first_line.result.1.now) =
    has_next all c.loop-rest.index line _ (c.loop-rest.invariant.left ∙ c.first_line.ensures.lines) in
    let grown : take (c.loop-rest.index + 1) all ≡ front ++ line ∷ [] = rw add-one next.front in
    let place : Place = record { index = c.loop-rest.index; offset = c.loop-rest.offset } in
    record {
      left = rw add-one next.left;
      offset = c.grown-offset.ensures.exact
          ∙ (ap (λ offset. both (λ m n. m + n) offset (line_size line)) c.loop-rest.invariant.offset
          ∙ sym (ap total_size grown ∙ total_size_push front line));
      places = λ name. places_next front line name c.loop-rest.index c.loop-rest.offset _ _ _ next.count
          c.loop-rest.invariant.offset c.label.ensures (c.loop-rest.invariant.places name) (c.in_ok-note.ensures name)
          ∙ ap (λ lines. place_of lines name) (sym grown);
      near = λ name. subst IsNear (sym (c.in_ok-note.ensures name)) (noted_near name _ place _
          (nearby c.loop-rest.offset c.loop-rest.index c.loop-rest.invariant.small (omega
          (arith, c.loop-rest.invariant.bound, c.requires)))
          (c.loop-rest.invariant.near name));
      small = small_next c.loop-rest.offset
          (line_size line) c.grown-offset.result c.loop-rest.index c.grown-offset.ensures.exact
          c.loop-rest.invariant.small c.grown-offset.ensures.small;
      bound = omega (arith, c.loop-rest.invariant.bound, c.first_line.ensures.nearer);
    }

pub returns-clause-places : goal.returns-clause-places
returns-clause-places c = λ name.
    let all = lines_of c.args.source.now in
    let none : length c.loop-rest.rest.now ≡ 0 = grind (arith, common_steps) in
    let front : take c.loop-rest.index all ≡ all =
    all_front all c.loop-rest.index (c.loop-rest.invariant.left ∙ no_lines c.loop-rest.rest.now none) in
    c.loop-rest.invariant.places name ∙ ap (λ lines. place_of lines name) front
