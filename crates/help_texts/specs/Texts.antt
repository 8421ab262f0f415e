-- The texts for people: which words ask for one, and what is known of one. The help, what is wrong with words and the
-- form of a command are written by clap, of whose texts no clause speaks.
use Rattle.std.specs.Prelude.{◌≡◌, ℕ, Bool, false, ◌||◌, ◌&&◌, List, [], ◌∷◌, ◌++◌, codes}
use Rattle.std.specs.List.{list_any}
use Rattle.std.specs.Str.{bytes_eq}

-- the text of the version
abbrev pub version : List ℕ
version = codes "flowcheck 0.1.0\nproved with rattle-kit-13\n"

-- the word is the name of a command that judges secrets, or bounds the outputs of all
abbrev pub is_judging : List ℕ → Bool
is_judging word = bytes_eq word (codes "check") || bytes_eq word (codes "taint") || bytes_eq word (codes "bound")

-- the word is the name of a command that runs a guest on secrets and tells of the runs
abbrev pub is_telling : List ℕ → Bool
is_telling word =
    bytes_eq word (codes "measure") || bytes_eq word (codes "measure-all") || bytes_eq word (codes "graph")
    || bytes_eq word (codes "report") || bytes_eq word (codes "learn")

-- the word is the name of a command of one file or one number
abbrev pub is_single : List ℕ → Bool
is_single word =
    bytes_eq word (codes "asm") || bytes_eq word (codes "list") || bytes_eq word (codes "verify")
    || bytes_eq word (codes "migrate") || bytes_eq word (codes "trial")

-- the word is the name of a command
abbrev pub is_command : List ℕ → Bool
is_command word = is_judging word || is_telling word || is_single word

-- the word asks for help after a command
abbrev pub is_help_option : List ℕ → Bool
is_help_option word = bytes_eq word (codes "--help") || bytes_eq word (codes "-h")

-- the word asks for help where it is the only one
abbrev pub is_help : List ℕ → Bool
is_help word = is_help_option word || bytes_eq word (codes "help")

-- the word asks for the version where it is the only one
abbrev pub is_version : List ℕ → Bool
is_version word = bytes_eq word (codes "--version") || bytes_eq word (codes "-V")

-- the words ask for the version
abbrev pub asks_version : List (List ℕ) → Bool
asks_version (word ∷ []) = is_version word
asks_version words = false

-- the words ask for a text: for the help of a command the first asks for help and the second is its name, or the first
-- is its name and one behind it asks for help
abbrev pub asks : List (List ℕ) → Bool
asks (word ∷ []) = is_version word || is_help word
asks (word ∷ other ∷ rest) =
    (is_help word && is_command other) || (is_command word && (is_help_option other || list_any is_help_option rest))
asks words = false

-- two texts with an empty line between them, and a line feed: what is wrong and a form, as clap writes them
pub record IsComplaint (text : List ℕ) : Type 0 where
  pub wrong : List ℕ
  pub form : List ℕ
  pub parted : text ≡ wrong ++ (codes "\n\n" ++ (form ++ codes "\n"))
