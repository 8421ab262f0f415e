use Rattle.std.proofs.Common.{◌≡◌, List, ap, ◌∙◌, get_or, length}
use Rattle.every_secret.specs.declared.open_places.OpenPlace.{OpenPlace}
use Rattle.every_secret.specs.Bounds.{Found}
use Rattle.every_secret.specs.Paths.{paths_of}
use Rattle.every_secret.specs.Private.Folding.{stops_in}
use Rattle.every_secret.specs.Private.Searching.{known_in}
use Rattle.every_secret.specs.Private.Spots.{tree_in}
use Rattle.every_secret.proofs.FoldedPaths.{folds_all}
use Rattle.every_secret.proofs.bounds.bounded.Goals as goal

pub returns : goal.returns
returns c = λ basis done.
    let search = c.args.search in
    let paths = paths_of (tree_in basis) in
    let found : Found = record {
      paths = length paths;
      stopped = stops_in paths;
      patterns = search.findings.patterns;
      first_stop = (known_in search.findings).first_stop;
    } in
    let first : c.index.result.now ≡ done.first =
    c.index.ensures ∙ ap (λ (opens : List OpenPlace). get_or opens 0 c.index.result.now) done.begins in
    let count = ap (λ (place : OpenPlace). place.sum.paths) first ∙ done.count in
    let stops = ap (λ (place : OpenPlace). place.sum.stopped) first ∙ done.stops in
    let patterns = c.in_ok-into_list.ensures in (
      found,
      λ i. record {
        paths = count i;
        stopped = stops i;
        patterns = patterns i;
        first_stop = (known_in search.findings).first_stop;
      },
      folds_all paths found done.folds,
    )
