-- The lines of words, a word at a time.
use Rattle.std.proofs.Common.{◌≡◌, ◌≤◌, ◌<◌, ◌+◌, ◌*◌, ◌++◌, length, drop, ℕ, List, [], ◌∷◌, ◌-◌, ◌∙◌, refl, sym, ap, take, slice_index, arith}
use Rattle.rv32im_asm.specs.Listing.{line, lines_from}
use Rattle.std.proofs.lemmas.List.{drop_all, length-drop, append_assoc, take_all}

-- fewer than four bytes have no line
pub lines_short : (address : ℕ) (bytes : List ℕ) → length bytes < 4 → lines_from address bytes ≡ []
unfolding lines_from
lines_short address [] short = refl
lines_short address (a ∷ []) short = refl
lines_short address (a ∷ (b ∷ [])) short = refl
lines_short address (a ∷ (b ∷ (c ∷ []))) short = refl
lines_short address (a ∷ (b ∷ (c ∷ (d ∷ bytes)))) short = absurd (omega (arith, short))

-- the first four bytes are a word
pub lines_more : (address : ℕ) (bytes : List ℕ) → 4 ≤ length bytes →
    lines_from address bytes
    ≡ line address (slice_index bytes 0 + 256 * slice_index bytes 1 + 65536 * slice_index bytes 2 + 16777216 * slice_index bytes 3)
    ++ lines_from (address + 4) (drop 4 bytes)
unfolding lines_from
lines_more address [] long = absurd (omega (arith, long))
lines_more address (a ∷ []) long = absurd (omega (arith, long))
lines_more address (a ∷ (b ∷ [])) long = absurd (omega (arith, long))
lines_more address (a ∷ (b ∷ (c ∷ []))) long = absurd (omega (arith, long))
lines_more address (a ∷ (b ∷ (c ∷ (d ∷ bytes)))) long = refl

-- and so have bytes that are dropped all
pub lines_none : (address count : ℕ) (bytes : List ℕ) → length bytes < count → [] ≡ lines_from address (drop count bytes)
unfolding lines_from
lines_none address count bytes more = rw (drop_all count bytes (omega (arith, more))) refl

-- a line more
pub lines_after : (address place word : ℕ) (bytes rest text later shown : List ℕ) → 4 ≤ length rest →
    word ≡ slice_index rest 0 + 256 * slice_index rest 1 + 65536 * slice_index rest 2 + 16777216 * slice_index rest 3 →
    shown ≡ line place word → later ≡ text ++ shown → text ++ lines_from place rest ≡ lines_from address bytes →
    later ++ lines_from (place + 4) (take (length rest - 4) (drop 4 rest)) ≡ lines_from address bytes
lines_after address place word bytes rest text later shown long is_word is_line is_text before =
    let whole : take (length rest - 4) (drop 4 rest) ≡ drop 4 rest = take_all (length rest - 4) (drop 4 rest) (omega (arith, length-drop 4 rest)) in
    let split = lines_more place rest long in
    rw whole (rw is_text (rw is_line (rw is_word
    (append_assoc text _ _ ∙ ap (λ (lines : List ℕ). text ++ lines) (sym split) ∙ before))))
