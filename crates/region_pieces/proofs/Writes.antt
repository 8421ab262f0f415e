-- What a store of a real state has after a write.
use Rattle.std.proofs.Common.{◌≡◌, ◌≢◌, ℕ, zero, suc, ◌+◌, ◌-◌, ◌%◌, ◌^◌, ◌<◌, ◌≤◌, ◌⊎◌, inl, inr, ⊎_elim}
use Rattle.std.proofs.Common.{add-zero, Bool, true, false, List, length, refl, sym, ap, subst, ◌∙◌, arith}
use Rattle.std.specs.Prelude.{◌==◌, ◌&&◌, nat_lt, if◌then◌else◌, slice_index, slice_set}
use Rattle.std.proofs.lemmas.Bool.{cases_lt, cases_Bool, eqb-true, eq-eqb, ltb-true, lt-ltb, and_parts, and_from}
use Rattle.std.proofs.lemmas.List.{get_or-set_same, get_or-set_other, length-set}
use Rattle.flow_base.specs.Guests.{memory_size}
use Rattle.rv32im_decode.specs.declared.instructions.StoreKind.{StoreKind}
use Rattle.rv32im_decode.specs.declared.instructions.StoreKind.TheVariants.{Sb, Sh, Sw}
use Rattle.rv32im_decode.specs.Operations.{store_size}
use Rattle.rv32im_machine.specs.declared.language.Part.{Part}
use Rattle.rv32im_machine.specs.declared.language.Part.TheVariants.{Byte0, Byte1, Byte2, Byte3}
use Rattle.rv32im_machine.specs.Language.{part_of}
use Rattle.rv32im_machine.specs.State.{State, Store, byte_of, register_of, with_byte, with_register}
use Rattle.region_pieces.specs.Pieces.{InMemory, IsGuest}
use Rattle.region_pieces.specs.Turns.{moved, part_at, stored}

-- the values of a store are those of a guest
pub record IsStore (store : Store) : Type 0 where
  pub words : (register : ℕ) → register_of store register < 2 ^ 32
  pub bytes : (index : ℕ) → slice_index store.memory index < 256
  pub registers : length store.registers ≡ 32
  pub memory : length store.memory ≡ memory_size

pub store_of : (state : State) → IsGuest state → IsStore state.store
store_of state guest = record {
  words = guest.words;
  bytes = guest.bytes;
  registers = guest.registers;
  memory = guest.memory;
}

pub guest_of : (state : State) → IsStore state.store → IsGuest state
guest_of state store = record {
  words = store.words;
  bytes = store.bytes;
  registers = store.registers;
  memory = store.memory;
}

-- ---- a list that is written

-- each number of a list that is written is small, where all of the list and the one that is written are
set_small : (xs : List ℕ) (limit i value j : ℕ) → value < limit → slice_index xs j < limit → i < length xs →
    slice_index (slice_set xs i value) j < limit
set_small xs limit i value j small old inside = pick (j == i) refl
  where
    pick : (t : Bool) → (j == i) ≡ t → slice_index (slice_set xs i value) j < limit
    pick true e =
        subst (λ k. slice_index (slice_set xs i value) k < limit) (sym (eqb-true j i e))
        (subst (λ v. v < limit) (sym (get_or-set_same xs i value 0 inside)) small)
    pick false e =
        subst (λ v. v < limit) (sym (get_or-set_other xs i j value 0 (λ same. apart (eq-eqb j i same) e))) old
      where
        apart : {t : Bool} → t ≡ true → t ≡ false → ⊥
        apart p q = cc

-- ---- a register

-- the register is written, but for x0
pub register_there : (store : Store) (rd value : ℕ) → length store.registers ≡ 32 → rd < 32 → 0 < rd →
    register_of (with_register rd value store) rd ≡ value
unfolding with_register
register_there store rd value size below some =
    ap (λ t. slice_index (if t then store.registers else slice_set store.registers rd value) rd) (not_zero rd some)
    ∙ get_or-set_same store.registers rd value 0 (omega arith)
  where
    not_zero : (rd : ℕ) → 0 < rd → (rd == 0) ≡ false
    not_zero rd some = pick (rd == 0) refl
      where
        pick : (t : Bool) → (rd == 0) ≡ t → t ≡ false
        pick true e = absurd (omega (arith, some, eqb-true rd 0 e))
        pick false e = refl

pub register_elsewhere : (store : Store) (rd value register : ℕ) → (register ≢ rd) ⊎ (rd ≡ 0) →
    register_of (with_register rd value store) register ≡ register_of store register
unfolding with_register
register_elsewhere store rd value register other = pick (rd == 0) refl
  where
    pick : (t : Bool) → (rd == 0) ≡ t →
        slice_index (if t then store.registers else slice_set store.registers rd value) register
        ≡ slice_index store.registers register
    pick true e = refl
    pick false e =
        get_or-set_other store.registers rd register value 0
        (⊎_elim (λ apart. apart) (λ none. absurd (unlike (eq-eqb rd 0 none) e)) other)
      where
        unlike : {t : Bool} → t ≡ true → t ≡ false → ⊥
        unlike p q = cc

pub register_store : (store : Store) (rd value : ℕ) → IsStore store → rd < 32 → value < 2 ^ 32 →
    IsStore (with_register rd value store)
unfolding with_register
register_store store rd value is below small = record {
  words = λ register. words register (rd == 0);
  bytes = is.bytes;
  registers = count (rd == 0);
  memory = is.memory;
}
  where
    words : (register : ℕ) (t : Bool) →
        slice_index (if t then store.registers else slice_set store.registers rd value) register < 2 ^ 32
    words register true = is.words register
    words register false =
        set_small store.registers (2 ^ 32) rd value register small (is.words register)
        (let size = is.registers in omega (arith, size))

    count : (t : Bool) → length (if t then store.registers else slice_set store.registers rd value) ≡ 32
    count true = is.registers
    count false = length-set store.registers rd value ∙ is.registers

-- ---- a byte

pub byte_there : (base : ℕ) (store : Store) (address value : ℕ) → length store.memory ≡ memory_size →
    InMemory base address → byte_of base (with_byte base address value store) address ≡ value
unfolding with_byte
byte_there base store address value size inside =
    get_or-set_same store.memory (address - base) value 0
    (let low = inside.0 in let high = inside.1 in omega (arith, size, low, high))

pub byte_elsewhere : (base : ℕ) (store : Store) (address value other : ℕ) → base ≤ address → base ≤ other →
    other ≢ address → byte_of base (with_byte base address value store) other ≡ byte_of base store other
unfolding with_byte
byte_elsewhere base store address value other low also apart =
    get_or-set_other store.memory (address - base) (other - base) value 0 (λ same. apart (omega arith))

pub byte_store : (base : ℕ) (store : Store) (address value : ℕ) → IsStore store → InMemory base address →
    value < 256 → IsStore (with_byte base address value store)
unfolding with_byte
byte_store base store address value is inside small = record {
  words = is.words;
  bytes = λ index.
      set_small store.memory 256 (address - base) value index small (is.bytes index)
      (let low = inside.0 in let high = inside.1 in let size = is.memory in omega (arith, size, low, high));
  registers = is.registers;
  memory = length-set store.memory (address - base) value ∙ is.memory;
}

pub byte_registers : (base : ℕ) (store : Store) (address value : ℕ) →
    (with_byte base address value store).registers ≡ store.registers
unfolding with_byte
byte_registers base store address value = refl

pub byte_kept : (base : ℕ) (store : Store) (address value : ℕ) →
    (with_byte base address value store).kept ≡ store.kept
unfolding with_byte
byte_kept base store address value = refl

pub register_kept : (store : Store) (rd value : ℕ) → (with_register rd value store).kept ≡ store.kept
unfolding with_register
register_kept store rd value = refl

pub register_memory : (store : Store) (rd value : ℕ) → (with_register rd value store).memory ≡ store.memory
unfolding with_register
register_memory store rd value = refl

-- ---- a store of one, two or four bytes

-- what holds of the byte that is written, and of each other as it was, holds after the write
pub byte_either : (P : ℕ → Type 0) (base : ℕ) (store : Store) (address value a : ℕ) →
    length store.memory ≡ memory_size → InMemory base address → InMemory base a → (a ≡ address → P value) →
    (a ≢ address → P (byte_of base store a)) → P (byte_of base (with_byte base address value store) a)
byte_either P base store address value a size inside also here other = pick (a == address) refl
  where
    pick : (t : Bool) → (a == address) ≡ t → P (byte_of base (with_byte base address value store) a)
    pick true e =
        let same : a ≡ address = eqb-true a address e in
        subst (λ k. P (byte_of base (with_byte base address value store) k)) (sym same)
        (subst P (sym (byte_there base store address value size inside)) (here same))
    pick false e =
        let apart : a ≢ address = λ same. unlike (eq-eqb a address same) e in
        subst P (sym (byte_elsewhere base store address value a inside.0 also.0 apart)) (other apart)
      where
        unlike : {t : Bool} → t ≡ true → t ≡ false → ⊥
        unlike p q = cc

-- the address is none of so many from one on
abbrev pub IsApart : ℕ → ℕ → ℕ → Type 0
IsApart address count a = (offset : ℕ) → offset < count → a ≢ address + offset

-- so many bytes from an address on are of guest memory
abbrev pub AreInMemory : ℕ → ℕ → ℕ → Type 0
AreInMemory base address count = (offset : ℕ) → offset < count → InMemory base (address + offset)

module _ (P : ℕ → ℕ → Type 0) (base : ℕ) (store : Store) (address value : ℕ) (is : IsStore store) where
  abbrev parts_have : ℕ → Type 0
  parts_have count = (offset : ℕ) → offset < count → P (address + offset) (part_of (part_at offset) value)

  abbrev others_have : ℕ → Type 0
  others_have count = (a : ℕ) → InMemory base a → IsApart address count a → P a (byte_of base store a)

  part_had : (count offset a : ℕ) → parts_have count → offset < count → a ≡ address + offset →
      P a (part_of (part_at offset) value)
  part_had count offset a parts below same =
      subst (λ k. P k (part_of (part_at offset) value)) (sym same) (parts offset below)

  size_after : (store : Store) (at byte : ℕ) → length store.memory ≡ memory_size →
      length (with_byte base at byte store).memory ≡ memory_size
  unfolding with_byte
  size_after store at byte size = length-set store.memory (at - base) byte ∙ size

  -- what holds of each byte that is stored, and of each other as it was, holds after the store
  pub stored_has : (kind : StoreKind) → AreInMemory base address (store_size kind) → parts_have (store_size kind) →
      others_have (store_size kind) → (a : ℕ) → InMemory base a → P a (byte_of base (stored kind base address value store) a)
  stored_has Sb inside parts others a in_memory =
      byte_either (P a) base store address (part_of Byte0 value) a is.memory
      (subst (λ k. InMemory base k) (add-zero address) (inside 0 (omega arith))) in_memory
      (λ same. part_had 1 0 a parts (omega arith) (same ∙ sym (add-zero address)))
      (λ apart. others a in_memory (λ offset below same. apart (omega arith)))
  stored_has Sh inside parts others a in_memory =
      let first = with_byte base address (part_of Byte0 value) store in
      byte_either (P a) base first (address + 1) (part_of Byte1 value) a
      (size_after store address (part_of Byte0 value) is.memory) (inside 1 (omega arith)) in_memory
      (λ same. part_had 2 1 a parts (omega arith) same)
      (λ one. byte_either (P a) base store address (part_of Byte0 value) a is.memory
      (subst (λ k. InMemory base k) (add-zero address) (inside 0 (omega arith))) in_memory
      (λ same. part_had 2 0 a parts (omega arith) (same ∙ sym (add-zero address)))
      (λ apart. others a in_memory (λ offset below same. two offset below one apart same)))
    where
      two : (offset : ℕ) → offset < 2 → a ≢ address + 1 → a ≢ address → a ≡ address + offset → ⊥
      two zero below one apart same = apart (omega arith)
      two (suc zero) below one apart same = one (omega arith)
      two (suc (suc offset)) below one apart same = absurd (omega arith)
  stored_has Sw inside parts others a in_memory =
      let first = with_byte base address (part_of Byte0 value) store in
      let second = with_byte base (address + 1) (part_of Byte1 value) first in
      let third = with_byte base (address + 2) (part_of Byte2 value) second in
      let size_first = size_after store address (part_of Byte0 value) is.memory in
      let size_second = size_after first (address + 1) (part_of Byte1 value) size_first in
      byte_either (P a) base third (address + 3) (part_of Byte3 value) a
      (size_after second (address + 2) (part_of Byte2 value) size_second) (inside 3 (omega arith)) in_memory
      (λ same. part_had 4 3 a parts (omega arith) same)
      (λ three. byte_either (P a) base second (address + 2) (part_of Byte2 value) a size_second
      (inside 2 (omega arith)) in_memory
      (λ same. part_had 4 2 a parts (omega arith) same)
      (λ two. byte_either (P a) base first (address + 1) (part_of Byte1 value) a size_first
      (inside 1 (omega arith)) in_memory
      (λ same. part_had 4 1 a parts (omega arith) same)
      (λ one. byte_either (P a) base store address (part_of Byte0 value) a is.memory
      (subst (λ k. InMemory base k) (add-zero address) (inside 0 (omega arith))) in_memory
      (λ same. part_had 4 0 a parts (omega arith) (same ∙ sym (add-zero address)))
      (λ apart. others a in_memory (λ offset below same. four offset below three two one apart same)))))
    where
      four : (offset : ℕ) → offset < 4 → a ≢ address + 3 → a ≢ address + 2 → a ≢ address + 1 → a ≢ address →
          a ≡ address + offset → ⊥
      four zero below three two one apart same = apart (omega arith)
      four (suc zero) below three two one apart same = one (omega arith)
      four (suc (suc zero)) below three two one apart same = two (omega arith)
      four (suc (suc (suc zero))) below three two one apart same = three (omega arith)
      four (suc (suc (suc (suc offset)))) below three two one apart same = absurd (omega arith)

part_small : (part : Part) (word : ℕ) → part_of part word < 256
part_small Byte0 word = omega arith
part_small Byte1 word = omega arith
part_small Byte2 word = omega arith
part_small Byte3 word = omega arith

pub stored_store : (kind : StoreKind) (base address value : ℕ) (store : Store) → IsStore store →
    AreInMemory base address (store_size kind) → IsStore (stored kind base address value store)
stored_store kind base address value store is inside = by kind inside
  where
    put : (offset : ℕ) (part : Part) (before : Store) → IsStore before → InMemory base (address + offset) →
        IsStore (with_byte base (address + offset) (part_of part value) before)
    put offset part before ok at =
        byte_store base before (address + offset) (part_of part value) ok at (part_small part value)

    lowest : InMemory base (address + 0) → IsStore (with_byte base address (part_of Byte0 value) store)
    lowest at =
        byte_store base store address (part_of Byte0 value) is (subst (λ k. InMemory base k) (add-zero address) at)
        (part_small Byte0 value)

    by : (kind : StoreKind) → AreInMemory base address (store_size kind) →
        IsStore (stored kind base address value store)
    by Sb inside = lowest (inside 0 (omega arith))
    by Sh inside = put 1 Byte1 _ (lowest (inside 0 (omega arith))) (inside 1 (omega arith))
    by Sw inside =
        put 3 Byte3 _ (put 2 Byte2 _ (put 1 Byte1 _ (lowest (inside 0 (omega arith))) (inside 1 (omega arith)))
        (inside 2 (omega arith))) (inside 3 (omega arith))

pub stored_registers : (kind : StoreKind) (base address value : ℕ) (store : Store) →
    (stored kind base address value store).registers ≡ store.registers
unfolding with_byte
stored_registers Sb base address value store = refl
stored_registers Sh base address value store = refl
stored_registers Sw base address value store = refl

pub stored_kept : (kind : StoreKind) (base address value : ℕ) (store : Store) →
    (stored kind base address value store).kept ≡ store.kept
unfolding with_byte
stored_kept Sb base address value store = refl
stored_kept Sh base address value store = refl
stored_kept Sw base address value store = refl
