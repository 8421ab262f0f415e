-- The keys of an object are those of its map, and known where they are in a table.
use Rattle.std.proofs.Common.{◌≡◌, List, [], ◌∷◌, ℕ, Bool, true, false, ◌&&◌, ◌||◌, Option, Some, None, String, codes}
use Rattle.std.proofs.Common.{string_bytes, map, refl, ap, ◌∙◌}
use Rattle.std.specs.declared.alloc.Global.{Global}
use Rattle.std.specs.List.{list_all, list_any}
use Rattle.std.specs.Str.{bytes_eq}
use Rattle.serde_json.specs.Data.{Data, Members, no_members, member}
use Rattle.serde_json.specs.Find.{as_object}
use Rattle.serde_json.specs.View.{members_view}
use Rattle.serde_json.specs.declared.value.Value.{Value}
use Rattle.enclosure_regions.specs.declared.object_keys.TheConstants.{FILE_KEYS, RANGE_KEYS, REGION_KEYS}
use Rattle.enclosure_regions.specs.RangeItems.{is_range_key}
use Rattle.enclosure_regions.specs.Reading.{is_file_key}
use Rattle.enclosure_regions.specs.RegionItems.{is_region_key}
use Rattle.enclosure_regions.specs.Shapes.{has_keys, keys_pass, members_pass}

pub keys_known : (test : List ℕ → Bool) (entries : List (String Global × Value))
    → keys_pass test (members_view entries)
    ≡ list_all (λ key. test (string_bytes key)) (map (λ e. e.0) entries)
keys_known test [] = refl
keys_known test (entry ∷ entries) = ap (λ b. test (string_bytes entry.0) && b) (keys_known test entries)

-- ---- tests that answer the same

keys_same : (test other : List ℕ → Bool) → ((key : List ℕ) → test key ≡ other key) → (members : Members)
    → keys_pass test members ≡ keys_pass other members
keys_same test other same no_members = refl
keys_same test other same (member key d members) =
    ap (λ b. b && keys_pass test members) (same key) ∙ ap (λ b. other key && b) (keys_same test other same members)

members_same : (test other : List ℕ → Bool) → ((key : List ℕ) → test key ≡ other key) → (members : Option Members)
    → members_pass test members ≡ members_pass other members
members_same test other same None = refl
members_same test other same (Some members) = keys_same test other same members

or_none : (b : Bool) → b || false ≡ b
or_none true = refl
or_none false = refl

-- ---- the tables of the code

pub file_keys : (d : Data) → has_keys (λ key. list_any (λ other. bytes_eq key other.now) FILE_KEYS) d ≡ has_keys is_file_key d
file_keys d = members_same _ is_file_key (λ key. or_none (is_file_key key)) (as_object d)

pub range_keys : (d : Data) → has_keys (λ key. list_any (λ other. bytes_eq key other.now) RANGE_KEYS) d ≡ has_keys is_range_key d
range_keys d =
    members_same _ is_range_key (λ key.
    ap (λ last. bytes_eq key (codes "base") || (bytes_eq key (codes "offset") || last))
    (or_none (bytes_eq key (codes "length")))) (as_object d)

pub region_keys : (d : Data) → has_keys (λ key. list_any (λ other. bytes_eq key other.now) REGION_KEYS) d ≡ has_keys is_region_key d
region_keys d =
    members_same _ is_region_key (λ key.
    ap (λ last. bytes_eq key (codes "id") || (bytes_eq key (codes "enter") || (bytes_eq key (codes "leave")
    || (bytes_eq key (codes "outs") || (bytes_eq key (codes "keep") || last)))))
    (or_none (bytes_eq key (codes "ranges")))) (as_object d)
