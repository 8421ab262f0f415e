-- A region file: its regions, or its first fault.
use Rattle.std.specs.Prelude.{◌≡◌, ◌≢◌, ◌⊎◌, ℕ, suc, ◌==◌, min, nat_le, Bool, List, [], ◌∷◌, ◌++◌, codes, length}
use Rattle.std.specs.Prelude.{IsUtf8, Option, Some, None, option_and_then, Result, Ok, Err, if◌then◌else◌}
use Rattle.std.specs.Str.{bytes_eq}
use Rattle.serde_json.specs.Data.{Data, Items, no_items, item}
use Rattle.serde_json.specs.Find.{as_array, get}
use Rattle.serde_json.specs.Read.{read}
use Rattle.enclosure_regions.specs.declared.region_parts.Region.{Region}
use Rattle.enclosure_regions.specs.declared.region_faults.RegionFault.{RegionFault}
use Rattle.enclosure_regions.specs.declared.region_faults.RegionFault.TheVariants.{Json, Shape, SameAddress, EnterTwice}
use Rattle.enclosure_regions.specs.declared.region_faults.RegionFault.TheVariants.{RegisterTwice, TooMany, Memory}
use Rattle.enclosure_regions.specs.Orders.{lowest_twice, ordered}
use Rattle.enclosure_regions.specs.RegionItems.{written_in}
use Rattle.enclosure_regions.specs.Regions.{enters_of, ids_of}
use Rattle.enclosure_regions.specs.Shapes.{has_keys}
use Rattle.flow_base.specs.Listed.{is_listed}

infixl 10 ◌>>◌
abbrev pub ◌>>◌ : {A B : Type 0} → Result A RegionFault → (A → Result B RegionFault) → Result B RegionFault
(Ok x) >> f = f x
(Err fault) >> f = Err fault

-- the answer is this one, unless memory is short
abbrev pub UnlessMemory : Result Region RegionFault → Result Region RegionFault → Type 0
UnlessMemory result answer = result ≢ Err Memory → result ≡ answer

-- ---- one region after others, which are counted from 1

-- a register that stands twice comes before an enter address that an earlier region has
abbrev pub without_twice : List Region → Region → Option ℕ → Result Region RegionFault
without_twice found region (Some register) = Err (RegisterTwice (suc (length found)) register)
without_twice found region None =
    if is_listed (enters_of found) region.enter then Err (EnterTwice (suc (length found))) else Ok (ordered region)

-- a number that an earlier region has comes before equal addresses
abbrev pub placed_behind : List Region → Region → Result Region RegionFault
placed_behind found region =
    if is_listed (ids_of found) region.id then Err (Shape (suc (length found)))
    else if region.enter == region.leave then Err (SameAddress (suc (length found)))
    else without_twice found region (lowest_twice region.outs region.keep)

abbrev pub written_behind : List Region → Option Region → Result Region RegionFault
written_behind found None = Err (Shape (suc (length found)))
written_behind found (Some region) = placed_behind found region

-- ---- all regions

-- the regions of the items after those found, or the first fault
abbrev pub regions_onto : List Region → Items → Result (List Region) RegionFault
regions_onto found no_items = Ok found
regions_onto found (item d items) =
    written_behind found (written_in d) >> λ region. regions_onto (found ++ region ∷ []) items

abbrev pub count_of : Items → ℕ
count_of no_items = 0
count_of (item d items) = suc (count_of items)

abbrev pub is_file_key : List ℕ → Bool
is_file_key key = bytes_eq key (codes "regions")

-- an object with the one key `regions`, an array
abbrev pub items_in : Data → Option Items
items_in d = if has_keys is_file_key d then option_and_then as_array (get (codes "regions") d) else None

-- at most 256 regions. The number that is answered stays at its last value, 2^32 - 1
abbrev pub few_regions : Option Items → Result (List Region) RegionFault
few_regions None = Err (Shape 0)
few_regions (Some items) =
    if nat_le (count_of items) 256 then regions_onto [] items else Err (TooMany (min (count_of items) 4294967295))

abbrev pub regions_in : Data → Result (List Region) RegionFault
regions_in d = few_regions (items_in d)

-- ---- the file

-- the bytes read as this value of JSON
abbrev pub ReadsAs : List ℕ → Data → Type 0
ReadsAs file d = IsUtf8 file × (read file ≡ Some d)

-- the bytes are no JSON
abbrev pub HasNoReading : List ℕ → Type 0
HasNoReading file = IsUtf8 file → read file ≡ None

-- the file spells these regions
abbrev pub Spells : List ℕ → List Region → Type 0
Spells file regions = (d : Data) × ReadsAs file d × (regions_in d ≡ Ok regions)

-- the first fault of a file: it is no JSON, or its value gives this fault
abbrev pub FirstRegionFault : List ℕ → RegionFault → Type 0
FirstRegionFault file fault =
    ((fault ≡ Json) × HasNoReading file) ⊎ ((d : Data) × ReadsAs file d × (regions_in d ≡ Err fault))
