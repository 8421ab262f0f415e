-- What `split_once` gives at `=`.
use Rattle.std.proofs.Common.{◌≡◌, ℕ, Bor, List, true, false, Option, Some, None, IfSome, IfNone, length, arith}
use Rattle.std.specs.List.{position_or_len, before_first, after_first}
use Rattle.std.proofs.lemmas.Bool.{lt-ltb, le-ltb}
use Rattle.std.proofs.lemmas.Str.Pattern.{IsSplitOnceResult, split_once_first}
use Rattle.command_line.specs.Parts.{is_equals, has_equals}

pub record Parted (word : List ℕ) (found : Option (Bor (List ℕ) × Bor (List ℕ))) : Type 0 where
  pub has : IfSome found (λ parts. has_equals word ≡ true)
  pub name : IfSome found (λ parts. parts.0.now ≡ before_first is_equals word)
  pub value : IfSome found (λ parts. parts.1.now ≡ after_first is_equals word)
  pub none : IfNone found (has_equals word ≡ false)

pub parted : (word : List ℕ) (found : Option (Bor (List ℕ) × Bor (List ℕ))) → IsSplitOnceResult 61 word found → Parted word found
parted word None split =
    let whole = split_once_first 61 word None split (omega arith) in
    record { has = tt; name = tt; value = tt; none = le-ltb (position_or_len is_equals word) (length word) (omega (arith, whole)) }
parted word (Some parts) split =
    let first = split_once_first 61 word (Some parts) split (omega arith) in
    record {
      has = lt-ltb (position_or_len is_equals word) (length word) first.0;
      name = first.1;
      value = first.2;
      none = tt;
    }
