-- A text of one line: its one line feed is its last byte.
use Rattle.std.specs.Prelude.{◌≡◌, ℕ, ◌==◌, List, ◌++◌, codes, Bool, false}
use Rattle.std.specs.List.{list_any}

abbrev pub has_line_feed : List ℕ → Bool
has_line_feed text = list_any (λ byte. byte == 10) text

pub record IsOneLine (text : List ℕ) : Type 0 where
  pub line : List ℕ
  pub ends : text ≡ line ++ codes "\n"
  pub one : has_line_feed line ≡ false
