use Rattle.location_collapse.proofs.LinkMarks.{found_among}
use Rattle.location_collapse.proofs.kept_links.KeptLinks.find.Goals as goal

pub returns-clause-some : goal.returns-clause-some
returns-clause-some c =
    found_among c.args.self.now.named.map.entries c.args.link.now c.find.result c.find.ensures.at c.find.ensures.none
