-- Patterns that are kept as keys.
use Rattle.std.proofs.Common.{◌≡◌, ℕ, ◌+◌, Bool, true, false, List, [], ◌∷◌, ◌++◌, map, cond, length, min, refl, sym, ap, ap₂, ◌∙◌, arith, append_assoc}
use Rattle.std.proofs.lemmas.List.{append-nil}
use Rattle.std.specs.List.{list_any}
use Rattle.std.specs.Prelude.{◌||◌, ◌&&◌, not, if◌then◌else◌}
use Rattle.every_secret.specs.declared.kept_patterns.KeptPattern.{KeptPattern}
use Rattle.every_secret.specs.declared.patterns.Pattern.{Pattern}
use Rattle.every_secret.specs.Bounds.{is_same_pattern, size_of, with_pattern}
use Rattle.every_secret.specs.Private.KeptPatterns.{pattern_of}

-- ---- a key that is inserted

-- a test for a key is that for its pattern
abbrev pub IsTestFor : KeptPattern → (KeptPattern → Bool) → Type 0
IsTestFor key test = (other : KeptPattern) → test other ≡ is_same_pattern (pattern_of key) (pattern_of other)

pub all_four : (a b c d : Bool) → (a && (b && (c && d))) ≡ ((a && b) && (c && d))
all_four true true c d = refl
all_four true false c d = refl
all_four false true c d = refl
all_four false false c d = refl

pub left_four : (a b c d : Bool) → (((a && b) && c) && d) ≡ ((a && b) && (c && d))
left_four true true true d = refl
left_four true true false d = refl
left_four true false c d = refl
left_four false b c d = refl

known : (test : KeptPattern → Bool) (k : KeptPattern) (ks : List KeptPattern) → IsTestFor k test →
    list_any test ks ≡ list_any (is_same_pattern (pattern_of k)) (map pattern_of ks)
known test k [] is = refl
known test k (j ∷ ks) is = ap₂ (λ s t. s || t) (is j) (known test k ks is)

behind : (k : KeptPattern) (ks : List KeptPattern) →
    map pattern_of (ks ++ k ∷ []) ≡ map pattern_of ks ++ pattern_of k ∷ []
behind k [] = refl
behind k (j ∷ ks) = ap (λ ps. pattern_of j ∷ ps) (behind k ks)

chosen : (b : Bool) (k : KeptPattern) (ks : List KeptPattern) →
    map pattern_of (cond b ks (ks ++ k ∷ [])) ≡ cond b (map pattern_of ks) (map pattern_of ks ++ pattern_of k ∷ [])
chosen true k ks = refl
chosen false k ks = behind k ks

-- the patterns then
pub inserted : (test : KeptPattern → Bool) (k : KeptPattern) (ks new : List KeptPattern) →
    new ≡ (if list_any test ks then ks else ks ++ k ∷ []) → IsTestFor k test →
    map pattern_of new ≡ with_pattern (pattern_of k) (map pattern_of ks)
inserted test k ks new h is =
    ap (λ js. map pattern_of js) h
    ∙ (chosen (list_any test ks) k ks
    ∙ ap (λ b. cond b (map pattern_of ks) (map pattern_of ks ++ pattern_of k ∷ [])) (known test k ks is))

size_behind : (p : Pattern) (ps : List Pattern) → size_of (ps ++ p ∷ []) ≡ size_of ps + length p.bytes + 1
size_behind p [] = omega arith
size_behind p (q ∷ ps) = omega (arith, size_behind p ps)

size_chosen : (b : Bool) (p : Pattern) (ps : List Pattern) →
    size_of (cond b ps (ps ++ p ∷ [])) ≡ cond (not b) (size_of ps + length p.bytes + 1) (size_of ps)
size_chosen true p ps = refl
size_chosen false p ps = size_behind p ps

-- how many bytes they have, by whether the key was new
pub inserted_size : (test : KeptPattern → Bool) (k : KeptPattern) (ks new : List KeptPattern) (is_new : Bool) →
    new ≡ (if list_any test ks then ks else ks ++ k ∷ []) → is_new ≡ not (list_any test ks) → IsTestFor k test →
    size_of (map pattern_of new)
    ≡ cond is_new (size_of (map pattern_of ks) + length k.bytes.items + 1) (size_of (map pattern_of ks))
inserted_size test k ks new is_new h absent is =
    let ps = map pattern_of ks in
    ap (λ qs. size_of qs) (inserted test k ks new h is)
    ∙ (size_chosen (list_any (is_same_pattern (pattern_of k)) ps) (pattern_of k) ps
    ∙ ap (λ b. cond b (size_of ps + length k.bytes.items + 1) (size_of ps))
    (sym (absent ∙ ap (λ b. not b) (known test k ks is))))

-- a size that counts as far as 64 bits do
pub size_grown : (size whole bytes limit : ℕ) (is_new : Bool) → size ≡ min whole limit →
    cond is_new (min (size + bytes + 1) limit) size ≡ min (cond is_new (whole + bytes + 1) whole) limit
size_grown size whole bytes limit true is = omega (arith, is)
size_grown size whole bytes limit false is = is

-- ---- keys that become patterns one by one

pub kept_seam : (ps whole : List Pattern) (k : KeptPattern) (keys rest : List KeptPattern) → keys ≡ k ∷ rest →
    ps ++ map pattern_of keys ≡ whole → (ps ++ pattern_of k ∷ []) ++ map pattern_of rest ≡ whole
kept_seam ps whole k keys rest first all =
    append_assoc ps (pattern_of k ∷ []) (map pattern_of rest)
    ∙ (sym (ap (λ js. ps ++ map pattern_of js) first) ∙ all)

pub kept_ended : (ps whole : List Pattern) (keys : List KeptPattern) → keys ≡ [] →
    ps ++ map pattern_of keys ≡ whole → ps ≡ whole
kept_ended ps whole keys none all =
    sym (append-nil ps) ∙ (sym (ap (λ js. ps ++ map pattern_of js) none) ∙ all)
