-- For which real states the next piece stands.
use Rattle.std.proofs.Common.{◌≡◌, ◌≢◌, ℕ, zero, suc, ◌+◌, ◌%◌, ◌^◌, ◌-◌, ◌<◌, ◌≤◌, ◌⊎◌, inl, inr, ⊎_elim}
use Rattle.std.proofs.Common.{Bool, true, false, List, [], ◌∷◌, length, refl, sym, ap, subst, ◌∙◌, arith}
use Rattle.std.specs.Prelude.{◌==◌, slice_index}
use Rattle.std.proofs.lemmas.Bool.{eqb-true, eq-eqb}
use Rattle.enclosure_regions.specs.declared.region_parts.Region.{Region}
use Rattle.rv32im_decode.specs.declared.instructions.StoreKind.{StoreKind}
use Rattle.rv32im_decode.specs.Operations.{store_size}
use Rattle.rv32im_machine.specs.Language.{part_of}
use Rattle.rv32im_machine.specs.State.{State, Store, byte_of, register_of, with_byte, with_register}
use Rattle.piece_cells.specs.Cells.{Bytes, Has, Knows}
use Rattle.piece_cells.specs.declared.cells.Cell.{Cell}
use Rattle.region_pieces.specs.Pieces.{InMemory, IsInside, PieceModel, SetsRegister, Stands, StandsBy}
use Rattle.region_pieces.specs.Turns.{moved, part_at, stored}
use Rattle.region_pieces.proofs.SafeTurns.{inside_moved}
use Rattle.region_pieces.proofs.Writes.{AreInMemory, IsApart, IsStore, register_elsewhere, register_kept, register_memory}
use Rattle.region_pieces.proofs.Writes.{register_store, register_there, store_of, stored_has, stored_kept, stored_registers}
use Rattle.region_pieces.proofs.Writes.{stored_store}

module _ (region : Region) (start : State) (bytes : Bytes) (piece : PieceModel) (made : ℕ) (now : State)
    (by : StandsBy region bytes start piece made now) where
  -- ---- after a turn

  -- the next piece stands for the state to which the turn leads, where it has what that state has
  pub next_stands : (next : PieceModel) (store : Store) → IsStore store → store.kept ≡ now.store.kept →
      Knows next.unknowns bytes → suc made ≤ next.turns →
      ((register : ℕ) → register < 32 → Has bytes (next.registers register) (register_of store register)) →
      ((address : ℕ) → InMemory now.setting.base address →
      Has bytes (next.memory address) (byte_of now.setting.base store address)) →
      StandsBy region bytes start next (suc made) (moved next.pc store now)
  next_stands next store is kept knows turns registers memory = record {
    knows = knows;
    registers = registers;
    memory = memory;
    inside = inside_moved region start piece.pc next.pc now store by.inside is kept;
    turns = turns;
  }

  is_store : IsStore now.store
  is_store = store_of now by.inside.guest

  -- the turn wrote a register, the cell of which has the value
  pub put_stands : (next : PieceModel) (rd value : ℕ) (cell : Cell) → rd < 32 → value < 2 ^ 32 → Has bytes cell value →
      SetsRegister rd cell piece next → Knows next.unknowns bytes → suc made ≤ next.turns →
      StandsBy region bytes start next (suc made) (moved next.pc (with_register rd value now.store) now)
  put_stands next rd value cell below small has sets knows turns =
      next_stands next (with_register rd value now.store) (register_store now.store rd value is_store below small)
      (register_kept now.store rd value) knows turns (λ register inside. registers register inside (rd == 0) refl)
      (λ address inside.
      subst (λ ys. Has bytes (next.memory address) (slice_index ys (address - now.setting.base)))
      (sym (register_memory now.store rd value))
      (subst (λ c. Has bytes c (byte_of now.setting.base now.store address)) (sym (sets.memory address))
      (by.memory address inside)))
    where
      elsewhere : (register : ℕ) → register < 32 → (register ≢ rd) ⊎ (rd ≡ 0) →
          Has bytes (next.registers register) (register_of (with_register rd value now.store) register)
      elsewhere register inside other =
          subst (λ v. Has bytes (next.registers register) v)
          (sym (register_elsewhere now.store rd value register other))
          (subst (λ c. Has bytes c (register_of now.store register)) (sym (sets.others register other))
          (by.registers register inside))

      unlike : {t : Bool} → t ≡ true → t ≡ false → ⊥
      unlike p q = cc

      there : (register : ℕ) → register < 32 → 0 < rd → (t : Bool) → (register == rd) ≡ t →
          Has bytes (next.registers register) (register_of (with_register rd value now.store) register)
      there register inside some true e =
          subst (λ r. Has bytes (next.registers r) (register_of (with_register rd value now.store) r))
          (sym (eqb-true register rd e))
          (subst (λ v. Has bytes (next.registers rd) v)
          (sym (register_there now.store rd value is_store.registers below some))
          (subst (λ c. Has bytes c value) (sym (sets.there some)) has))
      there register inside some false e =
          elsewhere register inside (inl (λ same. unlike (eq-eqb register rd same) e))

      registers : (register : ℕ) → register < 32 → (t : Bool) → (rd == 0) ≡ t →
          Has bytes (next.registers register) (register_of (with_register rd value now.store) register)
      registers register inside true e = elsewhere register inside (inr (eqb-true rd 0 e))
      registers register inside false e = there register inside (some rd e) (register == rd) refl
        where
          some : (rd : ℕ) → (rd == 0) ≡ false → 0 < rd
          some zero e = absurd (unlike refl e)
          some (suc rd) e = omega arith

  -- the turn wrote nothing
  pub same_stands : (next : PieceModel) → ((register : ℕ) → next.registers register ≡ piece.registers register) →
      ((address : ℕ) → next.memory address ≡ piece.memory address) → Knows next.unknowns bytes →
      suc made ≤ next.turns → StandsBy region bytes start next (suc made) (moved next.pc now.store now)
  same_stands next registers memory knows turns =
      next_stands next now.store is_store refl knows turns
      (λ register inside. subst (λ c. Has bytes c (register_of now.store register)) (sym (registers register))
      (by.registers register inside))
      (λ address inside. subst (λ c. Has bytes c (byte_of now.setting.base now.store address)) (sym (memory address))
      (by.memory address inside))

  -- the turn wrote bytes at an address: these have what was written, and each other what it had
  pub store_stands : (next : PieceModel) (kind : StoreKind) (address value : ℕ) →
      AreInMemory now.setting.base address (store_size kind) →
      ((register : ℕ) → next.registers register ≡ piece.registers register) →
      ((offset : ℕ) → offset < store_size kind →
      Has bytes (next.memory (address + offset)) (part_of (part_at offset) value)) →
      ((a : ℕ) → InMemory now.setting.base a → IsApart address (store_size kind) a →
      Has bytes (piece.memory a) (byte_of now.setting.base now.store a) →
      Has bytes (next.memory a) (byte_of now.setting.base now.store a)) →
      Knows next.unknowns bytes → suc made ≤ next.turns →
      StandsBy region bytes start next (suc made)
      (moved next.pc (stored kind now.setting.base address value now.store) now)
  store_stands next kind address value in_memory registers parts others knows turns =
      next_stands next (stored kind now.setting.base address value now.store)
      (stored_store kind now.setting.base address value now.store is_store in_memory)
      (stored_kept kind now.setting.base address value now.store) knows turns
      (λ register inside.
      subst (λ xs. Has bytes (next.registers register) (slice_index xs register))
      (sym (stored_registers kind now.setting.base address value now.store))
      (subst (λ c. Has bytes c (register_of now.store register)) (sym (registers register))
      (by.registers register inside)))
      (stored_has (λ a v. Has bytes (next.memory a) v) now.setting.base now.store address value is_store kind in_memory
      parts (λ a inside apart. others a inside apart (by.memory a inside)))

  -- ---- with no turn

  -- another piece stands for the same state, by values of the unknown bytes by which it has what the piece has
  pub also_stands : (other : Bytes) (next : PieceModel) → Knows next.unknowns other → next.pc ≡ piece.pc →
      piece.turns ≤ next.turns →
      ((register : ℕ) → register < 32 → Has bytes (piece.registers register) (register_of now.store register) →
      Has other (next.registers register) (register_of now.store register)) →
      ((address : ℕ) → InMemory now.setting.base address →
      Has bytes (piece.memory address) (byte_of now.setting.base now.store address) →
      Has other (next.memory address) (byte_of now.setting.base now.store address)) →
      StandsBy region other start next made now
  also_stands other next knows pc turns registers memory = record {
    knows = knows;
    registers = λ register inside. registers register inside (by.registers register inside);
    memory = λ address inside. memory address inside (by.memory address inside);
    inside = subst (λ p. IsInside region start p now) (sym pc) by.inside;
    turns = let few = by.turns in omega (arith, few, turns);
  }
