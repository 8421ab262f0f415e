use Rattle.std.proofs.Common.{ap, ◌∙◌, arith}
use Rattle.std.specs.Map.{keys_of}
use Rattle.std.proofs.lemmas.Map.Entries.{length-keys_of}
use Rattle.hinted_map.proofs.Places.{keys_added}
use Rattle.location_collapse.proofs.LinkMarks.{takes_put, unknown_none}
use Rattle.location_collapse.proofs.kept_links.KeptLinks.put.Goals as goal

pub add-requires : goal.add-requires
add-requires c = unknown_none c.args.self.now.named.map.entries c.args.link c.requires.new

pub returns-then-len-ge-MAX_LINKS-clause-full : goal.returns-then-len-ge-MAX_LINKS-clause-full
returns-then-len-ge-MAX_LINKS-clause-full c = λ e. record {
  differ = c.len.ensures.differ;
  full =
      let keys = length-keys_of c.args.self.now.named.map.entries in
      omega (arith, keys, c.if-len-ge-MAX_LINKS.true, c.len.ensures.len);
}

pub returns-in-Ok-clause-ok : goal.returns-in-Ok-clause-ok
returns-in-Ok-clause-ok c =
    takes_put (keys_of c.args.self.now.named.map.entries) _ c.args.link
    (ap keys_of c.in-Ok.ensures.added ∙ keys_added c.args.self.now.named.map.entries c.args.link _)
