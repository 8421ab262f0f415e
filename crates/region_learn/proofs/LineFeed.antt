-- A compact text of JSON with a line feed after it reads as the text does.
use Rattle.std.proofs.Common.{◌≡◌, ◌∙◌, ℕ, Bool, true, false, cond, ◌&&◌, List, [], ◌∷◌, ◌++◌, codes}
use Rattle.std.proofs.Common.{refl, sym, ap, ap₂, subst, inr, arith, append_assoc, append-nil}
use Rattle.std.specs.Prelude.{option_and_then}
use Rattle.std.proofs.lemmas.Str.{IsUtf8-append}
use Rattle.json.specs.Token.{Token, begin_object, end_object, begin_array, end_array, key, string, number}
use Rattle.json.specs.Token.{boolean, null, bad}
use Rattle.json.specs.Word.{ends_word, word}
use Rattle.json.specs.Lex.{Lexeme, token, comma, colon, string_token, lex, between, fresh, punctuate, tokens}
use Rattle.json.specs.Print.{escape, quoted, token_text, begins, ends, print_from, print, IsPrintable, ArePrintable}
use Rattle.json.specs.Print.{ArePrintableOrBad}
use Rattle.json.specs.Json.{if_last, value}
use Rattle.json.specs.Tree.{depth, json_tokens, HasNumbers}
use Rattle.json.proofs.Numbered.{ArePrintableOrBad-tokens, value-HasNumbers}
use Rattle.json.proofs.Printed.Strings.{content-escape, lex-escape}
use Rattle.json.proofs.Printed.Numbers.{lex-number, in_word-ended}
use Rattle.json.proofs.Printed.Utf8.{IsUtf8-IsGap}
use Rattle.json.proofs.Printed.Trees.{value-json_tokens, ArePrintable-json_tokens}
use Rattle.serde_json.specs.Data.{Data}
use Rattle.serde_json.specs.Read.{of_json, max_depth}
use Rattle.serde_json.specs.Written.{IsInOrder}
use Rattle.enclosure_regions.specs.Reading.{ReadsAs}

abbrev token_lexemes : Token → List Lexeme
token_lexemes begin_object = token begin_object ∷ []
token_lexemes end_object = token end_object ∷ []
token_lexemes begin_array = token begin_array ∷ []
token_lexemes end_array = token end_array ∷ []
token_lexemes (key s) = token (string s) ∷ colon ∷ []
token_lexemes (string s) = token (string s) ∷ []
token_lexemes (number s) = token (number s) ∷ []
token_lexemes (boolean b) = token (boolean b) ∷ []
token_lexemes null = token null ∷ []
token_lexemes bad = []

-- what stands after a value ends its word, whatever ends a word after the tokens
after_value_ends : (ts : List Token) (r : List ℕ) → ends_word r ≡ true → ends_word (print_from true ts ++ r) ≡ true
unfolding print_from
after_value_ends [] r ended = ended
after_value_ends (begin_object ∷ ts) r ended = refl
after_value_ends (end_object ∷ ts) r ended = refl
after_value_ends (begin_array ∷ ts) r ended = refl
after_value_ends (end_array ∷ ts) r ended = refl
after_value_ends (key s ∷ ts) r ended = refl
after_value_ends (string s ∷ ts) r ended = refl
after_value_ends (number s ∷ ts) r ended = refl
after_value_ends (boolean b ∷ ts) r ended = refl
after_value_ends (null ∷ ts) r ended = refl
after_value_ends (bad ∷ ts) r ended = refl

lex_quoted : (s r : List ℕ) → lex between (quoted s ++ r) ≡ token (string s) ∷ lex between r
unfolding lex
lex_quoted s r =
    let e = append_assoc (escape s) (34 ∷ []) r in
    ap (λ l. lex between (34 ∷ l)) e
    ∙ ap₂ (λ o l. token (string_token o) ∷ l) (content-escape s r) (lex-escape s r)

lex_token_text : (t : Token) (r : List ℕ) → IsPrintable t → (ends t ≡ true → ends_word r ≡ true) →
    lex between (token_text t ++ r) ≡ token_lexemes t ++ lex between r
unfolding lex word
lex_token_text begin_object r h ended = refl
lex_token_text end_object r h ended = refl
lex_token_text begin_array r h ended = refl
lex_token_text end_array r h ended = refl
lex_token_text (key s) r h ended =
    ap (lex between) (append_assoc (quoted s) (58 ∷ []) r) ∙ lex_quoted s (58 ∷ r)
lex_token_text (string s) r h ended = lex_quoted s r
lex_token_text (number s) r h ended = lex-number s r h (ended refl)
lex_token_text (boolean true) r h ended =
    ap₂ (λ b l. token (cond b (boolean true) bad) ∷ l) (ended refl) (in_word-ended r (ended refl))
lex_token_text (boolean false) r h ended =
    ap₂ (λ b l. token (cond b (boolean false) bad) ∷ l) (ended refl) (in_word-ended r (ended refl))
lex_token_text null r h ended =
    ap₂ (λ b l. token (cond b null bad) ∷ l) (ended refl) (in_word-ended r (ended refl))
lex_token_text bad r h ended = absurd h

lex_separator : (b : Bool) (r : List ℕ) →
    lex between (cond b (44 ∷ []) [] ++ r) ≡ cond b (comma ∷ []) [] ++ lex between r
unfolding lex
lex_separator true r = refl
lex_separator false r = refl

regroup : (b : Bool) (u v r : List ℕ) →
    (cond b (44 ∷ []) [] ++ (u ++ v)) ++ r ≡ cond b (44 ∷ []) [] ++ (u ++ (v ++ r))
regroup true u v r = ap (λ l. 44 ∷ l) (append_assoc u v r)
regroup false u v r = append_assoc u v r

module _ (r : List ℕ) (ended : ends_word r ≡ true) where
  lex-print_step : (c : Bool) (t : Token) (ts : List Token) → IsPrintable t →
      lex between (print_from c (t ∷ ts) ++ r)
      ≡ cond (c && begins t) (comma ∷ []) [] ++ (token_lexemes t ++ lex between (print_from (ends t) ts ++ r))
  unfolding print_from
  lex-print_step c t ts h =
      ap (lex between) (regroup (c && begins t) (token_text t) (print_from (ends t) ts) r)
      ∙ lex_separator (c && begins t) (token_text t ++ (print_from (ends t) ts ++ r))
      ∙ ap (λ l. cond (c && begins t) (comma ∷ []) [] ++ l)
      (lex_token_text t (print_from (ends t) ts ++ r) h
      (λ e. ap (λ b. ends_word (print_from b ts ++ r)) e ∙ after_value_ends ts r ended))

module _ (r : List ℕ) (ended : ends_word r ≡ true) (blank : lex between r ≡ []) where
  -- a blank after printed tokens has no lexeme
  lex-print_then : (c : Bool) (ts : List Token) → ArePrintable ts →
      lex between (print_from c ts ++ r) ≡ lex between (print_from c ts ++ [])
  unfolding lex print_from ArePrintable
  lex-print_then c [] h = blank
  lex-print_then c (t ∷ ts) h =
      lex-print_step r ended c t ts h.0
      ∙ ap (λ l. cond (c && begins t) (comma ∷ []) [] ++ (token_lexemes t ++ l)) (lex-print_then (ends t) ts h.1)
      ∙ sym (lex-print_step [] refl c t ts h.0)

  tokens-print_then : (ts : List Token) → ArePrintable ts → tokens (print ts ++ r) ≡ tokens (print ts)
  tokens-print_then ts h =
      ap (punctuate fresh) (lex-print_then false ts h ∙ ap (lex between) (append-nil (print ts)))

-- the tokens of a text that are those of a value can be printed
printable_in_order : (s : List ℕ) (d : Data) → IsInOrder s d → ArePrintable (tokens s)
printable_in_order s d order =
    let j = order.0 in
    let known : ArePrintableOrBad (json_tokens j ++ []) =
    subst ArePrintableOrBad (order.1 ∙ sym (append-nil (json_tokens j))) (ArePrintableOrBad-tokens s) in
    let numbers : HasNumbers j =
    value-HasNumbers (depth j) (json_tokens j ++ []) [] j known (value-json_tokens j (depth j) [] (omega arith)) in
    subst ArePrintable (sym order.1) (ArePrintable-json_tokens j numbers)

-- a line feed after a compact text of a value adds no token
pub line_feed_tokens : (s : List ℕ) (d : Data) → s ≡ print (tokens s) → IsInOrder s d →
    tokens (s ++ codes "\n") ≡ tokens s
unfolding lex
line_feed_tokens s d compact order =
    ap (λ text. tokens (text ++ codes "\n")) compact
    ∙ tokens-print_then (codes "\n") refl refl (tokens s) (printable_in_order s d order)
    ∙ ap tokens (sym compact)

-- a compact text of a value that reads as the value reads so with a line feed after it
pub line_feed_reads : (s : List ℕ) (d : Data) → s ≡ print (tokens s) → IsInOrder s d → ReadsAs s d →
    ReadsAs (s ++ codes "\n") d
line_feed_reads s d compact order reads = (
  IsUtf8-append s (codes "\n") reads.0 (IsUtf8-IsGap (codes "\n") (inr refl, tt)),
  ap (λ ts. option_and_then of_json (option_and_then (λ p. if_last p.0 p.1) (value max_depth ts)))
      (line_feed_tokens s d compact order) ∙ reads.1,
)
