-- What a shape makes of values that agree outside masks agrees outside what it makes of the masks.
use Rattle.std.proofs.Common.{◌≡◌, ℕ, ◌+◌, ◌*◌, ◌/◌, ◌%◌, ◌^◌, ◌<◌, ◌≤◌}
use Rattle.std.proofs.Common.{Bool, true, false, List, [], ◌∷◌, refl, sym, subst, arith}
use Rattle.std.specs.Prelude.{nat_lt, if◌then◌else◌}
use Rattle.std.proofs.lemmas.Bool.{ltb-true, ltb-false}
use Rattle.flow_base.specs.Words.{Agree}
use Rattle.rv32im_decode.specs.declared.instructions.LoadKind.{LoadKind}
use Rattle.rv32im_decode.specs.declared.instructions.LoadKind.TheVariants.{Lb, Lh, Lw, Lbu, Lhu}
use Rattle.rv32im_decode.specs.Operations.{extended}
use Rattle.rv32im_machine.specs.declared.language.Part.{Part}
use Rattle.rv32im_machine.specs.declared.language.Part.TheVariants.{Byte0, Byte1, Byte2, Byte3}
use Rattle.rv32im_machine.specs.declared.language.Shape.{Shape}
use Rattle.rv32im_machine.specs.declared.language.Shape.TheVariants.{Copied, Extended, Part as PartShape}
use Rattle.rv32im_machine.specs.State.{joined}
use Rattle.rv32im_machine.specs.Language.{shaped, part_of}
use Rattle.acceptance_law.proofs.AgreeOutsideMask.{agree_refl, agree_part, agree_joined, agree_extended, repeated_from}

-- ---- shapes

agree_low_byte : (m a b : ℕ) → Agree m a b → Agree (m % 256) (a % 256) (b % 256)
agree_low_byte m a b h =
    let whole : (n : ℕ) → n / 2 ^ 0 % 2 ^ 8 ≡ n % 256 = λ n. omega arith in
    subst (λ z. Agree z (a % 256) (b % 256)) (whole m)
    (subst (λ z. Agree (m / 2 ^ 0 % 2 ^ 8) z (b % 256)) (whole a)
    (subst (λ z. Agree (m / 2 ^ 0 % 2 ^ 8) (a / 2 ^ 0 % 2 ^ 8) z) (whole b) (agree_part 0 m a b h)))

pub part_agree : (part : Part) (m a b : ℕ) → Agree m a b → Agree (part_of part m) (part_of part a) (part_of part b)
part_agree Byte0 m a b h = agree_low_byte m a b h
part_agree Byte1 m a b h = agree_part 8 m a b h
part_agree Byte2 m a b h = agree_part 16 m a b h
part_agree Byte3 m a b h = agree_part 24 m a b h

signed_byte : (n : ℕ) → extended Lb n ≡ repeated_from 8 16777215 n
signed_byte n = pick (nat_lt (n % 256) 128) refl
  where
    pick : (t : Bool) → nat_lt (n % 256) 128 ≡ t →
        (if t then n % 256 else n % 256 + 4294967040) ≡ repeated_from 8 16777215 n
    pick true e =
        let small : n % 256 < 128 = ltb-true (n % 256) 128 e in
        let none : n / 2 ^ 7 % 2 ≡ 0 = omega (arith, small) in omega (arith, none)
    pick false e =
        let big : 128 ≤ n % 256 = ltb-false (n % 256) 128 e in
        let one : n / 2 ^ 7 % 2 ≡ 1 = omega (arith, big) in omega (arith, one)

signed_half : (n : ℕ) → extended Lh n ≡ repeated_from 16 65535 n
signed_half n = pick (nat_lt (n % 65536) 32768) refl
  where
    pick : (t : Bool) → nat_lt (n % 65536) 32768 ≡ t →
        (if t then n % 65536 else n % 65536 + 4294901760) ≡ repeated_from 16 65535 n
    pick true e =
        let small : n % 65536 < 32768 = ltb-true (n % 65536) 32768 e in
        let none : n / 2 ^ 15 % 2 ≡ 0 = omega (arith, small) in omega (arith, none)
    pick false e =
        let big : 32768 ≤ n % 65536 = ltb-false (n % 65536) 32768 e in
        let one : n / 2 ^ 15 % 2 ≡ 1 = omega (arith, big) in omega (arith, one)

pub extended_agree : (kind : LoadKind) (m a b : ℕ) → Agree m a b →
    Agree (extended kind m) (extended kind a) (extended kind b)
extended_agree Lb m a b h =
    subst (λ z. Agree z (extended Lb a) (extended Lb b)) (sym (signed_byte m))
    (subst (λ z. Agree (repeated_from 8 16777215 m) z (extended Lb b)) (sym (signed_byte a))
    (subst (λ z. Agree (repeated_from 8 16777215 m) (repeated_from 8 16777215 a) z) (sym (signed_byte b))
    (agree_extended 8 16777215 m a b h)))
extended_agree Lh m a b h =
    subst (λ z. Agree z (extended Lh a) (extended Lh b)) (sym (signed_half m))
    (subst (λ z. Agree (repeated_from 16 65535 m) z (extended Lh b)) (sym (signed_half a))
    (subst (λ z. Agree (repeated_from 16 65535 m) (repeated_from 16 65535 a) z) (sym (signed_half b))
    (agree_extended 16 65535 m a b h)))
extended_agree Lw m a b h = h
extended_agree Lbu m a b h = h
extended_agree Lhu m a b h = h

-- masks and values, one beside the other
unfoldable pub AgreeAll : List ℕ → List ℕ → List ℕ → Type 0
AgreeAll [] [] [] = Unit {0}
AgreeAll (m ∷ ms) (a ∷ as') (b ∷ bs) = Agree m a b × AgreeAll ms as' bs
AgreeAll _ _ _ = ⊥

-- all but the last number of the list are bytes
unfoldable pub BytesBelow : List ℕ → Type 0
BytesBelow [] = Unit {0}
BytesBelow (x ∷ []) = Unit {0}
BytesBelow (x ∷ (y ∷ ys)) = (x < 256) × BytesBelow (y ∷ ys)

pub joined_agree : (ms as' bs : List ℕ) → AgreeAll ms as' bs → BytesBelow ms → BytesBelow as' → BytesBelow bs →
    Agree (joined ms) (joined as') (joined bs)
unfolding AgreeAll BytesBelow
joined_agree [] [] [] h p q r = agree_refl 0 0
joined_agree (m ∷ []) (a ∷ []) (b ∷ []) h p q r =
    let whole : (n : ℕ) → n ≡ n + 256 * 0 = λ n. omega arith in
    subst (λ z. Agree z (a + 256 * 0) (b + 256 * 0)) (whole m)
    (subst (λ z. Agree m z (b + 256 * 0)) (whole a) (subst (λ z. Agree m a z) (whole b) h.0))
joined_agree (m ∷ (m' ∷ ms)) (a ∷ (a' ∷ as')) (b ∷ (b' ∷ bs)) h p q r =
    agree_joined _ m _ _ a b p.0 q.0 r.0 (joined_agree (m' ∷ ms) (a' ∷ as') (b' ∷ bs) h.1 p.1 q.1 r.1) h.0
joined_agree (m ∷ []) (a ∷ []) (b ∷ (b' ∷ bs)) h p q r = absurd h.1
joined_agree (m ∷ []) (a ∷ (a' ∷ as')) (b ∷ bs) h p q r = absurd h.1
joined_agree (m ∷ (m' ∷ ms)) (a ∷ []) (b ∷ bs) h p q r = absurd h.1
joined_agree (m ∷ (m' ∷ ms)) (a ∷ (a' ∷ as')) (b ∷ []) h p q r = absurd h.1
joined_agree [] [] (b ∷ bs) h p q r = absurd h
joined_agree [] (a ∷ as') bs h p q r = absurd h
joined_agree (m ∷ ms) [] bs h p q r = absurd h
joined_agree (m ∷ ms) (a ∷ as') [] h p q r = absurd h

pub shaped_agree : (shape : Shape) (ms as' bs : List ℕ) → AgreeAll ms as' bs → BytesBelow ms → BytesBelow as' →
    BytesBelow bs → Agree (shaped shape ms) (shaped shape as') (shaped shape bs)
unfolding AgreeAll
shaped_agree (Extended kind) ms as' bs h p q r = extended_agree kind _ _ _ (joined_agree ms as' bs h p q r)
shaped_agree Copied [] [] [] h p q r = agree_refl 0 0
shaped_agree Copied (m ∷ ms) (a ∷ as') (b ∷ bs) h p q r = h.0
shaped_agree (PartShape part) [] [] [] h p q r = part_agree part 0 0 0 (agree_refl 0 0)
shaped_agree (PartShape part) (m ∷ ms) (a ∷ as') (b ∷ bs) h p q r = part_agree part m a b h.0
shaped_agree shape [] [] (b ∷ bs) h p q r = absurd h
shaped_agree shape [] (a ∷ as') bs h p q r = absurd h
shaped_agree shape (m ∷ ms) [] bs h p q r = absurd h
shaped_agree shape (m ∷ ms) (a ∷ as') [] h p q r = absurd h
