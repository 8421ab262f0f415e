-- Where the turn of a piece leads, for each form of instruction.
use Rattle.std.proofs.Common.{◌≡◌, ◌≢◌, ℕ, zero, suc, ◌+◌, ◌-◌, ◌%◌, ◌^◌, ◌<◌, ◌≤◌, ◌⊎◌, inl, inr, ⊎_elim, ℤ}
use Rattle.std.proofs.Common.{Bool, true, false, List, [], ◌∷◌, Some, None, refl, sym, ap, subst, ◌∙◌, arith}
use Rattle.std.specs.Prelude.{◌==◌, slice_index}
use Rattle.flow_base.specs.Guests.{is_inside}
use Rattle.enclosure_regions.specs.Breaks.{byte_break, register_break}
use Rattle.rv32im_decode.specs.declared.instructions.Instr.{Instr}
use Rattle.rv32im_decode.specs.declared.instructions.Instr.TheVariants.{Lui, Auipc, Jal, Jalr, Branch, Load}
use Rattle.rv32im_decode.specs.declared.instructions.Instr.TheVariants.{Store as StoreInstr, OpImm, Op, Fence}
use Rattle.rv32im_decode.specs.declared.instructions.BranchKind.{BranchKind}
use Rattle.rv32im_decode.specs.declared.instructions.ImmKind.{ImmKind}
use Rattle.rv32im_decode.specs.declared.instructions.LoadKind.{LoadKind}
use Rattle.rv32im_decode.specs.declared.instructions.OpKind.{OpKind}
use Rattle.rv32im_decode.specs.declared.instructions.StoreKind.{StoreKind}
use Rattle.rv32im_decode.specs.Decoding.{decoded}
use Rattle.rv32im_decode.specs.Operations.{address_of, decision, extended, is_taken, load_size, op_result, operation_of}
use Rattle.rv32im_decode.specs.Operations.{store_size, target_of, upper_of, word_of}
use Rattle.rv32im_machine.specs.declared.stepping.Stepped.TheVariants.{Ran}
use Rattle.rv32im_machine.specs.Language.{bytes_at, part_of}
use Rattle.rv32im_machine.specs.Rows.{loaded_from}
use Rattle.rv32im_machine.specs.State.{State, Store, byte_of, joined, register_of, word_at, with_register}
use Rattle.piece_cells.specs.Cells.{Bytes, Has, Knows}
use Rattle.piece_cells.specs.declared.cells.Cell.{Cell}
use Rattle.region_pieces.specs.Pieces.{Agrees, EntryModel, InMemory, IsInside, LeadsTo, OneStands, PieceModel}
use Rattle.region_pieces.specs.Pieces.{SetsRegister, Stands, StandsBy}
use Rattle.region_pieces.specs.Turns.{Declares, Fetches, Goes, after, moved, part_at, stored}
use Rattle.region_pieces.proofs.RealSteps.{auipc_goes, branch_jumps, branch_stays, fence_goes, jal_goes, jalr_goes}
use Rattle.region_pieces.proofs.RealSteps.{load_goes, lui_goes, op_goes, op_imm_goes, store_goes}
use Rattle.region_pieces.proofs.SafeTurns.{inside_mode, inside_pc}
use Rattle.region_pieces.proofs.StandsNext.{put_stands, same_stands, store_stands}
use Rattle.region_pieces.proofs.Writes.{AreInMemory, IsApart}

-- ---- the instruction at pc

-- the real state fetches what the piece does
pub fetches_as : (entry : EntryModel) (start : State) (pc : ℕ) (now : State) (instr : Instr) → Agrees entry start →
    IsInside entry.region start pc now → is_inside now.setting.base pc 4 ≡ true →
    decoded (word_at now.setting.base now.store pc) ≡ Some instr → Fetches now instr
fetches_as entry start pc now instr agrees inside in_memory decodes =
    let same : pc ≡ now.control.pc = sym (inside_pc entry.region start pc now inside) in record {
      mode = inside_mode entry.region start pc now agrees.mode inside;
      inside = subst (λ p. is_inside now.setting.base p 4 ≡ true) same in_memory;
      decodes = subst (λ p. decoded (word_at now.setting.base now.store p) ≡ Some instr) same decodes;
    }

module _ (entry : EntryModel) (start : State) (bytes : Bytes) (piece next : PieceModel) (made : ℕ) (now : State)
    (by : StandsBy entry.region bytes start piece made now) (knows : Knows next.unknowns bytes)
    (turns : suc made ≤ next.turns) where
  pc_is : now.control.pc ≡ piece.pc
  pc_is = inside_pc entry.region start piece.pc now by.inside

  abbrev leads : Type 0
  leads = LeadsTo entry.region start (next ∷ []) made now

  -- the turn goes to the pc of the next piece, which stands for where it goes
  pub led_by : (pc : ℕ) (store : Store) → next.pc ≡ pc → Goes entry.region now pc store →
      StandsBy entry.region bytes start next (suc made) (moved next.pc store now) → leads
  led_by pc store is goes stands = record {
    pc = next.pc;
    store = store;
    goes = subst (λ p. Goes entry.region now p store) (sym is) goes;
    stands = inl (record { bytes = bytes; by = stands });
  }

  -- a value is put into a register and the next instruction comes, or that of a jump
  pub put_leads : (rd value pc : ℕ) (cell : Cell) → rd < 32 → value < 2 ^ 32 → Has bytes cell value →
      SetsRegister rd cell piece next → next.pc ≡ pc →
      Goes entry.region now pc (with_register rd value now.store) → leads
  put_leads rd value pc cell below small has sets is goes =
      led_by pc (with_register rd value now.store) is goes
      (put_stands entry.region start bytes piece made now by next rd value cell below small has sets knows turns)

  -- nothing is written
  pub same_leads : (pc : ℕ) → ((register : ℕ) → next.registers register ≡ piece.registers register) →
      ((address : ℕ) → next.memory address ≡ piece.memory address) → next.pc ≡ pc →
      Goes entry.region now pc now.store → leads
  same_leads pc registers memory is goes =
      led_by pc now.store is goes
      (same_stands entry.region start bytes piece made now by next registers memory knows turns)

  -- the next pc, told by the piece's
  behind : next.pc ≡ after piece.pc → next.pc ≡ after now.control.pc
  behind is = is ∙ ap after (sym pc_is)

  declared : (rd : ℕ) → register_break entry.region piece.pc rd ≡ None →
      register_break entry.region now.control.pc rd ≡ None
  declared rd ok = subst (λ p. register_break entry.region p rd ≡ None) (sym pc_is) ok

  abbrev first_of : ℕ → ℕ
  first_of rs1 = register_of now.store rs1

  -- ---- results

  pub op_leads : (kind : OpKind) (rd rs1 rs2 : ℕ) (cell : Cell) → Fetches now (Op kind rd rs1 rs2) → rd < 32 →
      register_break entry.region piece.pc rd ≡ None →
      op_result kind (register_of now.store rs1) (register_of now.store rs2) < 2 ^ 32 →
      Has bytes cell (op_result kind (register_of now.store rs1) (register_of now.store rs2)) →
      SetsRegister rd cell piece next → next.pc ≡ after piece.pc → leads
  op_leads kind rd rs1 rs2 cell fetches below ok small has sets is =
      put_leads rd _ (after now.control.pc) cell below small has sets (behind is)
      (op_goes entry.region now kind rd rs1 rs2 fetches (declared rd ok))

  pub op_imm_leads : (kind : ImmKind) (rd rs1 : ℕ) (imm : ℤ) (cell : Cell) → Fetches now (OpImm kind rd rs1 imm) →
      rd < 32 → register_break entry.region piece.pc rd ≡ None →
      op_result (operation_of kind) (register_of now.store rs1) (word_of imm) < 2 ^ 32 →
      Has bytes cell (op_result (operation_of kind) (register_of now.store rs1) (word_of imm)) →
      SetsRegister rd cell piece next → next.pc ≡ after piece.pc → leads
  op_imm_leads kind rd rs1 imm cell fetches below ok small has sets is =
      put_leads rd _ (after now.control.pc) cell below small has sets (behind is)
      (op_imm_goes entry.region now kind rd rs1 imm fetches (declared rd ok))

  pub lui_leads : (rd imm : ℕ) (cell : Cell) → Fetches now (Lui rd imm) → rd < 32 →
      register_break entry.region piece.pc rd ≡ None → Has bytes cell (upper_of imm) → SetsRegister rd cell piece next →
      next.pc ≡ after piece.pc → leads
  lui_leads rd imm cell fetches below ok has sets is =
      put_leads rd (upper_of imm) (after now.control.pc) cell below (omega arith) has sets (behind is)
      (lui_goes entry.region now rd imm fetches (declared rd ok))

  pub auipc_leads : (rd imm : ℕ) (cell : Cell) → Fetches now (Auipc rd imm) → rd < 32 →
      register_break entry.region piece.pc rd ≡ None → Has bytes cell ((piece.pc + upper_of imm) % 2 ^ 32) →
      SetsRegister rd cell piece next → next.pc ≡ after piece.pc → leads
  auipc_leads rd imm cell fetches below ok has sets is =
      put_leads rd ((now.control.pc + upper_of imm) % 2 ^ 32) (after now.control.pc) cell below (omega arith)
      (subst (λ p. Has bytes cell ((p + upper_of imm) % 2 ^ 32)) (sym pc_is) has) sets (behind is)
      (auipc_goes entry.region now rd imm fetches (declared rd ok))

  pub fence_leads : (rd rs1 imm : ℕ) → Fetches now (Fence rd rs1 imm) →
      ((register : ℕ) → next.registers register ≡ piece.registers register) →
      ((address : ℕ) → next.memory address ≡ piece.memory address) → next.pc ≡ after piece.pc → leads
  fence_leads rd rs1 imm fetches registers memory is =
      same_leads (after now.control.pc) registers memory (behind is) (fence_goes entry.region now rd rs1 imm fetches)

  -- ---- jumps

  pub jal_leads : (rd : ℕ) (offset : ℤ) (cell : Cell) → Fetches now (Jal rd offset) → rd < 32 →
      register_break entry.region piece.pc rd ≡ None → ((piece.pc + word_of offset) % 2 ^ 32 % 4 == 0) ≡ true →
      Has bytes cell (after piece.pc) → SetsRegister rd cell piece next →
      next.pc ≡ (piece.pc + word_of offset) % 2 ^ 32 → leads
  jal_leads rd offset cell fetches below ok aligned has sets is =
      put_leads rd (after now.control.pc) ((now.control.pc + word_of offset) % 2 ^ 32) cell below (omega arith)
      (subst (λ p. Has bytes cell (after p)) (sym pc_is) has) sets
      (subst (λ p. next.pc ≡ (p + word_of offset) % 2 ^ 32) (sym pc_is) is)
      (jal_goes entry.region now rd offset fetches (declared rd ok)
      (subst (λ p. ((p + word_of offset) % 2 ^ 32 % 4 == 0) ≡ true) (sym pc_is) aligned))

  pub jalr_leads : (rd rs1 : ℕ) (imm : ℤ) (cell : Cell) → Fetches now (Jalr rd rs1 imm) → rd < 32 →
      register_break entry.region piece.pc rd ≡ None →
      (target_of (register_of now.store rs1) (word_of imm) % 4 == 0) ≡ true →
      Has bytes cell (after piece.pc) → SetsRegister rd cell piece next →
      next.pc ≡ target_of (register_of now.store rs1) (word_of imm) → leads
  jalr_leads rd rs1 imm cell fetches below ok aligned has sets is =
      put_leads rd (after now.control.pc) (target_of (register_of now.store rs1) (word_of imm)) cell below (omega arith)
      (subst (λ p. Has bytes cell (after p)) (sym pc_is) has) sets is
      (jalr_goes entry.region now rd rs1 imm fetches (declared rd ok) aligned)

  pub branch_stays_leads : (kind : BranchKind) (rs1 rs2 : ℕ) (offset : ℤ) → Fetches now (Branch kind rs1 rs2 offset) →
      is_taken kind (register_of now.store rs1) (register_of now.store rs2) ≡ false →
      ((register : ℕ) → next.registers register ≡ piece.registers register) →
      ((address : ℕ) → next.memory address ≡ piece.memory address) → next.pc ≡ after piece.pc → leads
  branch_stays_leads kind rs1 rs2 offset fetches left registers memory is =
      same_leads (after now.control.pc) registers memory (behind is)
      (branch_stays entry.region now kind rs1 rs2 offset fetches left)

  pub branch_jumps_leads : (kind : BranchKind) (rs1 rs2 : ℕ) (offset : ℤ) → Fetches now (Branch kind rs1 rs2 offset) →
      is_taken kind (register_of now.store rs1) (register_of now.store rs2) ≡ true →
      ((piece.pc + word_of offset) % 2 ^ 32 % 4 == 0) ≡ true →
      ((register : ℕ) → next.registers register ≡ piece.registers register) →
      ((address : ℕ) → next.memory address ≡ piece.memory address) →
      next.pc ≡ (piece.pc + word_of offset) % 2 ^ 32 → leads
  branch_jumps_leads kind rs1 rs2 offset fetches taken aligned registers memory is =
      same_leads ((now.control.pc + word_of offset) % 2 ^ 32) registers memory
      (subst (λ p. next.pc ≡ (p + word_of offset) % 2 ^ 32) (sym pc_is) is)
      (branch_jumps entry.region now kind rs1 rs2 offset fetches taken
      (subst (λ p. ((p + word_of offset) % 2 ^ 32 % 4 == 0) ≡ true) (sym pc_is) aligned))

  -- ---- loads and stores

  pub load_leads : (kind : LoadKind) (rd rs1 : ℕ) (imm : ℤ) (cell : Cell) → Fetches now (Load kind rd rs1 imm) →
      rd < 32 → register_break entry.region piece.pc rd ≡ None →
      is_inside now.setting.base (address_of (register_of now.store rs1) (word_of imm)) (load_size kind) ≡ true →
      extended kind (joined (bytes_at now (loaded_from kind (address_of (register_of now.store rs1) (word_of imm)))))
      < 2 ^ 32 →
      Has bytes cell
      (extended kind (joined (bytes_at now (loaded_from kind (address_of (register_of now.store rs1) (word_of imm)))))) →
      SetsRegister rd cell piece next → next.pc ≡ after piece.pc → leads
  load_leads kind rd rs1 imm cell fetches below ok inside small has sets is =
      put_leads rd _ (after now.control.pc) cell below small has sets (behind is)
      (load_goes entry.region now kind rd rs1 imm fetches (declared rd ok) inside)

  pub store_leads : (kind : StoreKind) (rs1 rs2 : ℕ) (imm : ℤ) → Fetches now (StoreInstr kind rs1 rs2 imm) →
      Declares entry.region start.store.registers piece.pc (address_of (register_of now.store rs1) (word_of imm))
      (store_size kind) →
      is_inside now.setting.base (address_of (register_of now.store rs1) (word_of imm)) (store_size kind) ≡ true →
      AreInMemory now.setting.base (address_of (register_of now.store rs1) (word_of imm)) (store_size kind) →
      ((register : ℕ) → next.registers register ≡ piece.registers register) →
      ((offset : ℕ) → offset < store_size kind →
      Has bytes (next.memory (address_of (register_of now.store rs1) (word_of imm) + offset))
      (part_of (part_at offset) (register_of now.store rs2))) →
      ((a : ℕ) → InMemory now.setting.base a →
      IsApart (address_of (register_of now.store rs1) (word_of imm)) (store_size kind) a →
      Has bytes (piece.memory a) (byte_of now.setting.base now.store a) →
      Has bytes (next.memory a) (byte_of now.setting.base now.store a)) →
      next.pc ≡ after piece.pc → leads
  store_leads kind rs1 rs2 imm fetches ok inside in_memory registers parts others is =
      led_by (after now.control.pc) _ (behind is)
      (store_goes entry.region now kind rs1 rs2 imm fetches
      (λ offset below.
      subst (λ xs. byte_break entry.region xs now.control.pc
      (address_of (register_of now.store rs1) (word_of imm) + offset) ≡ None) (sym by.inside.kept)
      (subst (λ p. byte_break entry.region start.store.registers p
      (address_of (register_of now.store rs1) (word_of imm) + offset) ≡ None) (sym pc_is) (ok offset below)))
      inside)
      (store_stands entry.region start bytes piece made now by next kind
      (address_of (register_of now.store rs1) (word_of imm)) (register_of now.store rs2) in_memory registers parts others
      knows turns)
