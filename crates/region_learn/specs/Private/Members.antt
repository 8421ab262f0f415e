-- The members of a region as JSON, put under their keys one after the other.
use Rattle.std.specs.Prelude.{codes}
use Rattle.serde_json.specs.Data.{Members, put}
use Rattle.enclosure_regions.specs.declared.region_parts.Region.{Region}
use Rattle.region_learn.specs.RegionTexts.{address_data, ranges_data, registers_data, whole}

-- those from `leave` on
abbrev pub with_last : Region → Members → Members
with_last region members =
    put (codes "leave") (address_data region.leave) (put (codes "outs") (registers_data region.outs)
    (put (codes "ranges") (ranges_data region.ranges) members))

-- those before it
abbrev pub with_first : Region → Members → Members
with_first region members =
    put (codes "enter") (address_data region.enter) (put (codes "id") (whole region.id)
    (put (codes "keep") (registers_data region.keep) members))
