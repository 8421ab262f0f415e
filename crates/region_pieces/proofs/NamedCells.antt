-- A piece one of whose cells became a table over a new unknown byte stands for all for which it stood.
use Rattle.std.proofs.Common.{◌≡◌, ◌≢◌, ℕ, ◌+◌, ◌-◌, ◌^◌, ◌<◌, ◌≤◌, inl, inr, Bool, true, false, [], ◌∷◌, List, refl, sym, ap}
use Rattle.std.proofs.Common.{subst, ◌∙◌, arith}
use Rattle.std.specs.Prelude.{◌==◌, ◌&&◌, if◌then◌else◌, slice_index}
use Rattle.std.proofs.lemmas.Bool.{and_from, and_parts, eq-eqb, eqb-true}
use Rattle.rv32im_machine.specs.State.{State, byte_of, register_of}
use Rattle.piece_cells.specs.Cells.{Bytes, Has, Holds, Knows}
use Rattle.piece_cells.specs.declared.byte_sets.ByteSet.{ByteSet}
use Rattle.piece_cells.specs.declared.cells.Cell.{Cell}
use Rattle.piece_cells.specs.declared.cells.Cell.TheVariants.{Bits as IsBits, ByTable}
use Rattle.piece_cells.specs.declared.unknowns.Origin.{Origin}
use Rattle.piece_cells.specs.declared.unknowns.Origin.TheVariants.{Register, Byte}
use Rattle.piece_cells.specs.Tables.{WordTable as Table}
use Rattle.piece_cells.specs.declared.unknowns.Unknown.{Unknown}
use Rattle.region_pieces.specs.Naming.{Allows, IsNotOver, NamesByte, NamesRegister, is_origin, is_unknown, renamed}
use Rattle.region_pieces.specs.Pieces.{Agrees, Covers, EntryModel, InMemory, IsInside, OneStands, PieceModel, Stands}
use Rattle.region_pieces.specs.Pieces.{StandsBy}
use Rattle.region_pieces.proofs.StandsNext.{also_stands}

-- ---- which unknown byte it is

unlike : {t : Bool} → t ≡ true → t ≡ false → ⊥
unlike p q = cc

same_origin : (first second : Origin) → is_origin first second ≡ true → first ≡ second
same_origin (Register first) (Register second) e = ap Register (eqb-true first second e)
same_origin (Byte first) (Byte second) e = ap Byte (eqb-true first second e)
same_origin (Register first) (Byte second) e = absurd (unlike e refl)
same_origin (Byte first) (Register second) e = absurd (unlike e refl)

origin_same : (origin : Origin) → is_origin origin origin ≡ true
origin_same (Register number) = eq-eqb number number refl
origin_same (Byte number) = eq-eqb number number refl

unknown_same : (unknown : Unknown) → is_unknown unknown unknown ≡ true
unknown_same unknown =
    and_from (is_origin unknown.origin unknown.origin) (unknown.number == unknown.number)
    (origin_same unknown.origin) (eq-eqb unknown.number unknown.number refl)

same_unknown : (first second : Unknown) → is_unknown first second ≡ true → first ≡ second
same_unknown first second e =
    let both = and_parts (is_origin first.origin second.origin) (first.number == second.number) e in
    let origin = same_origin first.origin second.origin both.0 in
    let number = eqb-true first.number second.number both.1 in
    λ i. record { origin = origin i; number = number i }

pub renamed_there : (unknown : Unknown) (byte : ℕ) (bytes : Bytes) → renamed unknown byte bytes unknown ≡ byte
renamed_there unknown byte bytes = ap (λ t. if t then byte else bytes unknown) (unknown_same unknown)

pub renamed_other : (unknown other : Unknown) (byte : ℕ) (bytes : Bytes) → other ≢ unknown →
    renamed unknown byte bytes other ≡ bytes other
renamed_other unknown other byte bytes apart = pick (is_unknown other unknown) refl
  where
    pick : (t : Bool) → is_unknown other unknown ≡ t → (if t then byte else bytes other) ≡ bytes other
    pick true e = absurd (apart (same_unknown other unknown e))
    pick false e = refl

-- a cell that is not over the unknown byte may be what it might
pub renamed_has : (unknown : Unknown) (byte : ℕ) (bytes : Bytes) (cell : Cell) (word : ℕ) → IsNotOver unknown cell →
    Has bytes cell word → Has (renamed unknown byte bytes) cell word
renamed_has unknown byte bytes (IsBits bits) word apart has = has
renamed_has unknown byte bytes (ByTable table) word apart has =
    has ∙ ap (λ b. slice_index table.values b) (sym (renamed_other unknown table.unknown byte bytes apart))

-- ---- a piece

one_of : (entry : EntryModel) (start : State) (bytes : Bytes) (piece : PieceModel) (made : ℕ) (now : State) →
    StandsBy entry.region bytes start piece made now → OneStands entry.region start (piece ∷ []) made now
one_of entry start bytes piece made now by = inl (record { bytes = bytes; by = by })

pub named_register_covers : (entry : EntryModel) (register : ℕ) (unknown : Unknown) (set : ByteSet) (cell : Cell)
    (old new : PieceModel) →
    register < 32 → NamesRegister register unknown set cell old new → Covers entry old (new ∷ [])
named_register_covers entry register unknown set cell old new below is start agrees made now stands =
    let by = stands.by in
    let found = is.names stands.bytes (register_of now.store register) (by.inside.guest.words register)
    (by.registers register below) in
    let byte = found.0 in
    let other = renamed unknown byte stands.bytes in
    one_of entry start other new made now
    (also_stands entry.region start stands.bytes old made now by other new
    (is.allows stands.bytes byte by.knows found.1 found.2) is.pc (let same = is.turns in omega (arith, same))
    (λ r inside has. registers stands.bytes byte (found.3 other (renamed_there unknown byte stands.bytes)) r inside has (r == register) refl)
    (λ address inside has.
    subst (λ c. Has other c (byte_of now.setting.base now.store address)) (sym (is.memory address))
    (renamed_has unknown byte stands.bytes (old.memory address) _ (is.new_memory address) has)))
  where
    registers : (bytes : Bytes) (byte : ℕ) → Has (renamed unknown byte bytes) cell (register_of now.store register) → (r : ℕ) →
        r < 32 → Has bytes (old.registers r) (register_of now.store r) → (t : Bool) → (r == register) ≡ t →
        Has (renamed unknown byte bytes) (new.registers r) (register_of now.store r)
    registers bytes byte here r inside has true e =
        subst (λ k. Has (renamed unknown byte bytes) (new.registers k) (register_of now.store k))
        (sym (eqb-true r register e))
        (subst (λ c. Has (renamed unknown byte bytes) c (register_of now.store register)) (sym is.there)
        here)
    registers bytes byte here r inside has false e =
        let apart : r ≢ register = λ same. unlike (eq-eqb r register same) e in
        subst (λ c. Has (renamed unknown byte bytes) c (register_of now.store r)) (sym (is.others r inside apart))
        (renamed_has unknown byte bytes (old.registers r) _ (is.new_register r inside apart) has)

pub named_byte_covers : (entry : EntryModel) (address : ℕ) (unknown : Unknown) (set : ByteSet) (cell : Cell)
    (old new : PieceModel) →
    InMemory entry.state.setting.base address → NamesByte address unknown set cell old new → Covers entry old (new ∷ [])
named_byte_covers entry address unknown set cell old new below is start agrees made now stands =
    let by = stands.by in
    let here = subst (λ b. InMemory b address)
    (sym agrees.base ∙ sym (ap (λ s. s.base) by.inside.setting)) below in
    let value = byte_of now.setting.base now.store address in
    let small : value < 2 ^ 32 =
    (let few = by.inside.guest.bytes (address - now.setting.base) in omega (arith, few)) in
    let found = is.names stands.bytes value small (by.memory address here) in
    let byte = found.0 in
    let other = renamed unknown byte stands.bytes in
    one_of entry start other new made now
    (also_stands entry.region start stands.bytes old made now by other new
    (is.allows stands.bytes byte by.knows found.1 found.2) is.pc (let same = is.turns in omega (arith, same))
    (λ r inside has.
    subst (λ c. Has other c (register_of now.store r)) (sym (is.registers r))
    (renamed_has unknown byte stands.bytes (old.registers r) _ (is.new_register r inside) has))
    (λ a inside has. memory stands.bytes byte (found.3 other (renamed_there unknown byte stands.bytes)) a has (a == address) refl))
  where
    memory : (bytes : Bytes) (byte : ℕ) →
        Has (renamed unknown byte bytes) cell (byte_of now.setting.base now.store address) → (a : ℕ) →
        Has bytes (old.memory a) (byte_of now.setting.base now.store a) → (t : Bool) → (a == address) ≡ t →
        Has (renamed unknown byte bytes) (new.memory a) (byte_of now.setting.base now.store a)
    memory bytes byte here a has true e =
        subst (λ k. Has (renamed unknown byte bytes) (new.memory k) (byte_of now.setting.base now.store k))
        (sym (eqb-true a address e))
        (subst (λ c. Has (renamed unknown byte bytes) c (byte_of now.setting.base now.store address))
        (sym is.there) here)
    memory bytes byte here a has false e =
        let apart : a ≢ address = λ same. unlike (eq-eqb a address same) e in
        subst (λ c. Has (renamed unknown byte bytes) c (byte_of now.setting.base now.store a))
        (sym (is.others a apart))
        (renamed_has unknown byte bytes (old.memory a) _ (is.new_memory a apart) has)
