-- Parts of a region file as values of JSON.
use Rattle.std.specs.Prelude.{ℕ, ◌==◌, ◌&&◌, nat_le, Bool, true, false, List, [], ◌∷◌, ◌++◌, Option, Some, None}
use Rattle.std.specs.Prelude.{option_and_then, if◌then◌else◌}
use Rattle.flow_base.specs.RegisterNames.{register_named}
use Rattle.serde_json.specs.Data.{Data, Items, no_items, item, Members, no_members, member}
use Rattle.serde_json.specs.Find.{as_array, as_i64, as_number, as_object, as_str, as_u64}
use Rattle.enclosure_regions.specs.Words.{place_in, word_of}

-- ---- objects

-- each key passes a test
abbrev pub keys_pass : (List ℕ → Bool) → Members → Bool
keys_pass test no_members = true
keys_pass test (member key d members) = test key && keys_pass test members

abbrev pub members_pass : (List ℕ → Bool) → Option Members → Bool
members_pass test None = false
members_pass test (Some members) = keys_pass test members

-- an object whose keys pass a test
abbrev pub has_keys : (List ℕ → Bool) → Data → Bool
has_keys test d = members_pass test (as_object d)

-- ---- numbers

-- a number from the lowest to the highest
abbrev pub within : ℕ → ℕ → ℕ → Option ℕ
within lowest highest n = if nat_le lowest n && nat_le n highest then Some n else None

abbrev pub number_within : ℕ → ℕ → Data → Option ℕ
number_within lowest highest d = option_and_then (within lowest highest) (option_and_then as_u64 (as_number d))

-- a whole number from -2^31 to 2^32 - 1, modulo 2^32
abbrev pub word_at : Data → Option ℕ
word_at d = option_and_then word_of (option_and_then as_i64 (as_number d))

-- ---- texts

-- the address of an instruction
abbrev pub place_at : Data → Option ℕ
place_at d = option_and_then place_in (as_str d)

-- the register that a region may name: any but 0
abbrev pub not_zero : ℕ → Option ℕ
not_zero register = if register == 0 then None else Some register

-- the register of a name
abbrev pub register_at : Data → Option ℕ
register_at d = option_and_then not_zero (option_and_then register_named (as_str d))

-- ---- arrays of register names

-- the registers of the items after those found, in the order of the file
abbrev pub registers_onto : List ℕ → Items → Option (List ℕ)
registers_onto found no_items = Some found
registers_onto found (item d items) =
    option_and_then (λ register. registers_onto (found ++ register ∷ []) items) (register_at d)

abbrev pub registers_at : Data → Option (List ℕ)
registers_at d = option_and_then (registers_onto []) (as_array d)

-- registers that may be left out
abbrev pub registers_if : Option Data → Option (List ℕ)
registers_if None = Some []
registers_if (Some d) = registers_at d
