use Rattle.std.proofs.Common.{◌≡◌, length, slice_index, sym, ◌∙◌, arith}
use Rattle.std.proofs.lemmas.List.{length_push}
use Rattle.max_flow.specs.Private.Solving.{net_of}
use Rattle.max_flow.proofs.SearchSteps.{found_more, grown_more}
use Rattle.max_flow.proofs.searching.reach.Goals as goal

pub returns-clause-tree : goal.returns-clause-tree
returns-clause-tree c =
    rw (
      c.in_ok-put.ensures.places,
      c.in_ok-put.ensures.arrivals,
      c.in_ok-put.ensures.rooms,
      c.in_ok-put.ensures.queue,
      c.min-narrow.ensures,
      c.room.ensures,
    )
    (let none : slice_index c.args.tree.now.places.items c.args.arc.to ≡ 0 = sym c.place.ensures ∙ omega arith in
    found_more (net_of c.args.network.now) c.args.flows.now c.args.tree.now.places.items
    c.args.tree.now.arrivals.items c.args.tree.now.rooms.items c.args.tree.now.queue.items c.args.arc.from
    c.args.arc.edge c.args.arc.to c.args.arc.room
    c.requires.tree none (c.requires.arc.reaches none) (omega arith))

pub returns-clause-grown : goal.returns-clause-grown
returns-clause-grown c =
    let none : slice_index c.args.tree.now.places.items c.args.arc.to ≡ 0 = sym c.place.ensures ∙ omega arith in
    rw (c.in_ok-put.ensures.places, c.in_ok-put.ensures.queue, length_push)
    (grown_more c.args.tree.now.places.items (length c.args.tree.now.queue.items) c.args.arc.to none
    (omega (arith, c.requires.tree.places_count, c.requires.arc.to_inside)))
