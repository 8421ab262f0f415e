-- The words after a command: words that are no options, flags, and options with values. A flag or an option may stand
-- anywhere, and at most once. An option is two words, of which the second does not begin with a dash, or one word with
-- `=` between name and value. No word and no value is empty.
use Rattle.std.specs.Prelude.{ℕ, ◌==◌, nat_lt, not, List, [], ◌∷◌, ◌++◌, codes, length, Bool, false, Option, None, Some}
use Rattle.std.specs.Prelude.{option_and_then, if◌then◌else◌, ◌||◌}
use Rattle.std.specs.List.{find, list_all, list_any, position_or_len, before_first, after_first}
use Rattle.std.specs.Str.{bytes_eq}

-- an option by its name, with its value; a flag has none
pub record Named : Type 0 where
  pub name : List ℕ
  pub value : Option (List ℕ)

-- the words that are no options, in order; the options, in order; and an option whose value is the next word
pub record Parts : Type 0 where
  pub plain : List (List ℕ)
  pub options : List Named
  pub waiting : Option (List ℕ)

-- the word is one of these names
abbrev pub is_name_of : List (List ℕ) → List ℕ → Bool
is_name_of names word = list_any (λ name. bytes_eq name word) names

-- ---- what a command finds of its options

-- an option of this name stands there
abbrev pub has_option : List ℕ → List Named → Bool
has_option name options = list_any (λ option. bytes_eq option.name name) options

-- the value of the option of this name, where it stands there with one
abbrev pub option_value : List ℕ → List Named → Option (List ℕ)
option_value name options = option_and_then (λ option. option.value) (find (λ option. bytes_eq option.name name) options)

-- an option with a value is one of these options, one without is one of these flags
abbrev pub may_take : List (List ℕ) → List (List ℕ) → List ℕ → Option (List ℕ) → Bool
may_take options flags name None = is_name_of flags name
may_take options flags name (Some value) = is_name_of options name

-- no option stands there but these, with a value, and these flags
abbrev pub are_taken : List (List ℕ) → List (List ℕ) → List Named → Bool
are_taken options flags named = list_all (λ option. may_take options flags option.name option.value) named

-- ---- how words are parted

-- a word that names a file, or is a value by itself, is not empty and does not begin with a dash
abbrev pub is_plain_word : List ℕ → Bool
is_plain_word [] = false
is_plain_word (byte ∷ bytes) = not (byte == 45)

-- the word is an option without a value
abbrev pub is_flag : List ℕ → Bool
is_flag word =
    bytes_eq word (codes "--json") || bytes_eq word (codes "--list") || bytes_eq word (codes "--any-public")

abbrev pub is_equals : ℕ → Bool
is_equals byte = byte == 61

abbrev pub has_equals : List ℕ → Bool
has_equals word = nat_lt (position_or_len is_equals word) (length word)

-- an option more, which did not stand there before; no option waits for its value then
abbrev pub with_option : Parts → List ℕ → Option (List ℕ) → Option Parts
with_option before name value =
    if has_option name before.options then None
    else Some (record {
      plain = before.plain;
      options = before.options ++ record { name = name; value = value } ∷ [];
      waiting = None;
    })

-- an option in two words
abbrev pub with_beside : Parts → List ℕ → List ℕ → Option Parts
with_beside before name value = if is_plain_word value then with_option before name (Some value) else None

-- an option in one word, with its value after the first `=`
abbrev pub with_behind : Parts → List ℕ → List ℕ → Option Parts
with_behind before name [] = None
with_behind before name (byte ∷ bytes) = with_option before name (Some (byte ∷ bytes))

-- The next word: the value of the option that waits for it, or a word that is no option, or a flag, or an option with
-- its value, or one that waits for its value.
abbrev pub after_word : Parts → Option (List ℕ) → List ℕ → Option Parts
after_word before (Some name) word = with_beside before name word
after_word before None word =
    if is_plain_word word then Some (record before { plain = before.plain ++ word ∷ [] })
    else if is_flag word then with_option before word None
    else if has_equals word then with_behind before (before_first is_equals word) (after_first is_equals word)
    else Some (record before { waiting = Some word })

-- at the end no option waits for its value
abbrev pub whole : Parts → Option (List ℕ) → Option Parts
whole parts None = Some parts
whole parts (Some name) = None

abbrev pub parts_onto : Parts → List (List ℕ) → Option Parts
parts_onto before [] = whole before before.waiting
parts_onto before (word ∷ words) =
    option_and_then (λ after. parts_onto after words) (after_word before before.waiting word)

abbrev pub no_parts : Parts
no_parts = record { plain = []; options = []; waiting = None }

abbrev pub parts_of : List (List ℕ) → Option Parts
parts_of words = parts_onto no_parts words
