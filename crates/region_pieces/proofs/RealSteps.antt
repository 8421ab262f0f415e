-- Where the turn of a real state leads, for each form of instruction, and that it breaks nothing.
use Rattle.std.proofs.Common.{ℤ, add-zero, arith, List, subst, ◌<◌, ◌≡◌, ℕ, ◌+◌, ◌%◌, ◌^◌, Bool, true, false, Option, Some, None, [], ◌∷◌, refl, sym, ap, ◌∙◌}
use Rattle.std.specs.Prelude.{◌==◌, if◌then◌else◌}
use Rattle.flow_base.specs.Guests.{is_inside}
use Rattle.enclosure_regions.specs.declared.region_parts.Region.{Region}
use Rattle.enclosure_regions.specs.Breaks.{byte_break, register_break}
use Rattle.rv32im_decode.specs.Operations.{is_taken, word_of_truth}
use Rattle.enclosure_regions.specs.declared.break_kinds.Break.{Break}
use Rattle.std.specs.Option.{option_or}
use Rattle.rv32im_decode.specs.declared.instructions.Instr.{Instr}
use Rattle.rv32im_decode.specs.declared.instructions.Instr.TheVariants.{Lui, Auipc, Jal, Jalr, Branch, Load}
use Rattle.rv32im_decode.specs.declared.instructions.Instr.TheVariants.{Store as StoreInstr, OpImm, Op, Fence}
use Rattle.rv32im_decode.specs.declared.instructions.BranchKind.{BranchKind}
use Rattle.rv32im_decode.specs.declared.instructions.ImmKind.{ImmKind}
use Rattle.rv32im_decode.specs.declared.instructions.LoadKind.{LoadKind}
use Rattle.rv32im_decode.specs.declared.instructions.LoadKind.TheVariants.{Lb, Lh, Lw, Lbu, Lhu}
use Rattle.rv32im_decode.specs.declared.instructions.OpKind.{OpKind}
use Rattle.rv32im_decode.specs.declared.instructions.StoreKind.{StoreKind}
use Rattle.rv32im_decode.specs.declared.instructions.StoreKind.TheVariants.{Sb, Sh, Sw}
use Rattle.rv32im_decode.specs.Decoding.{decoded}
use Rattle.rv32im_decode.specs.Operations.{word_of, operation_of, upper_of, load_size, store_size, op_result, decision}
use Rattle.rv32im_decode.specs.Operations.{address_of, target_of, extended}
use Rattle.rv32im_machine.specs.declared.stepping.Stepped.{Stepped}
use Rattle.rv32im_machine.specs.declared.stepping.Stepped.TheVariants.{Ran}
use Rattle.rv32im_machine.specs.declared.language.Place.TheVariants.{Register}
use Rattle.rv32im_machine.specs.declared.language.Shape.TheVariants.{Copied}
use Rattle.rv32im_machine.specs.declared.language.Source.TheVariants.{Constant}
use Rattle.rv32im_machine.specs.declared.language.Seen.TheVariants.{Word}
use Rattle.rv32im_machine.specs.declared.stepping.Fault.TheVariants.{FetchOutside, FetchUnaligned, LoadOutside}
use Rattle.rv32im_machine.specs.declared.stepping.Fault.TheVariants.{StoreOutside}
use Rattle.rv32im_machine.specs.Folds.{real_end}
use Rattle.rv32im_machine.specs.Language.{Held, Turn, Ends, Moves, Looks, Walk, Looked, bytes_at, none_held, part_of, walk, walked}
use Rattle.rv32im_machine.specs.Rows.{branches, fetched, jumps, links, loaded_from, load_at, load_checked, row, row_walk, running}
use Rattle.rv32im_machine.specs.Rows.{stops, store_at, store_checked, turn_in, walk_of}
use Rattle.rv32im_machine.specs.State.{Control, Setting, State, Store, moved_to, onward, register_of, with_byte, with_register}
use Rattle.rv32im_machine.specs.State.{joined, word_at}
use Rattle.rv32im_machine.specs.declared.language.Part.TheVariants.{Byte0, Byte1, Byte2, Byte3}
use Rattle.region_machine.specs.Breaking.{walk_break}
use Rattle.region_pieces.specs.Turns.{Declares, Fetches, Goes, after, moved, stored}

-- ---- the row of the instruction at pc

row_turn : (state : State) (instr : Instr) → Fetches state instr →
    walk_of state
    ≡ Looked (Word state.control.pc) (word_at state.setting.base state.store state.control.pc) (row_walk instr state)
unfolding walked
row_turn state instr fetches =
    ap (λ m. walk state (turn_in m state.setting state.control) state.store none_held) fetches.mode
    ∙ ap (λ t. walk state (if t then Looks (Word state.control.pc)
    (λ word. fetched (decoded word) word state.setting state.control)
    else stops (FetchOutside state.control.pc) state.control) state.store none_held) fetches.inside
    ∙ ap (λ i. Looked (Word state.control.pc) (word_at state.setting.base state.store state.control.pc)
    (walk state (fetched i (word_at state.setting.base state.store state.control.pc) state.setting state.control)
    state.store none_held)) fetches.decodes

module _ (region : Region) (state : State) (instr : Instr) (fetches : Fetches state instr) where
  -- the turn goes where that of the row goes
  goes_by_row : (pc : ℕ) (store : Store) → real_end (row_walk instr state) ≡ moved pc store state →
      walk_break region state.store.kept state.control.pc (row_walk instr state) ≡ None → Goes region state pc store
  unfolding real_end walk_break
  goes_by_row pc store ends whole = record {
    ends = ap real_end (row_turn state instr fetches) ∙ ends;
    whole =
        ap (λ w. walk_break region state.store.kept state.control.pc w) (row_turn state instr fetches) ∙ whole;
  }

or_none : (first : Option Break) → first ≡ None → option_or first None ≡ None
or_none first none = ap (λ f. option_or f None) none

-- ---- results

module _ (region : Region) (state : State) where
  abbrev declared : ℕ → Type 0
  declared rd = register_break region state.control.pc rd ≡ None

  abbrev puts : ℕ → ℕ → Type 0
  puts rd value =
      Goes region state (after state.control.pc) (with_register rd value state.store)

  pub op_goes : (kind : OpKind) (rd rs1 rs2 : ℕ) → Fetches state (Op kind rd rs1 rs2) → declared rd →
      puts rd (op_result kind (register_of state.store rs1) (register_of state.store rs2))
  unfolding real_end walked walk_break onward moved_to
  op_goes kind rd rs1 rs2 fetches ok =
      goes_by_row region state (Op kind rd rs1 rs2) fetches _ _ refl (or_none _ ok)

  pub op_imm_goes : (kind : ImmKind) (rd rs1 : ℕ) (imm : ℤ) → Fetches state (OpImm kind rd rs1 imm) → declared rd →
      puts rd (op_result (operation_of kind) (register_of state.store rs1) (word_of imm))
  unfolding real_end walked walk_break onward moved_to
  op_imm_goes kind rd rs1 imm fetches ok =
      goes_by_row region state (OpImm kind rd rs1 imm) fetches _ _ refl (or_none _ ok)

  pub lui_goes : (rd imm : ℕ) → Fetches state (Lui rd imm) → declared rd → puts rd (upper_of imm)
  unfolding real_end walked walk_break onward moved_to
  lui_goes rd imm fetches ok = goes_by_row region state (Lui rd imm) fetches _ _ refl (or_none _ ok)

  pub auipc_goes : (rd imm : ℕ) → Fetches state (Auipc rd imm) → declared rd →
      puts rd ((state.control.pc + upper_of imm) % 2 ^ 32)
  unfolding real_end walked walk_break onward moved_to
  auipc_goes rd imm fetches ok = goes_by_row region state (Auipc rd imm) fetches _ _ refl (or_none _ ok)

  pub fence_goes : (rd rs1 : ℕ) (imm : ℕ) → Fetches state (Fence rd rs1 imm) →
      Goes region state (after state.control.pc) state.store
  unfolding real_end walked walk_break onward moved_to
  fence_goes rd rs1 imm fetches = goes_by_row region state (Fence rd rs1 imm) fetches _ _ refl refl

  -- ---- jumps

  abbrev IsAligned : ℕ → Type 0
  IsAligned target = (target % 4 == 0) ≡ true

  abbrev links_to : ℕ → ℕ → Type 0
  links_to rd target = Goes region state target (with_register rd (after state.control.pc) state.store)

  links_walk : (rd target : ℕ) → IsAligned target → links rd target state.control
      ≡ Moves (Register rd) Copied (Constant (after state.control.pc)) (Ends (moved_to target state.control))
  links_walk rd target aligned =
      ap (λ t. if t then Moves (Register rd) Copied (Constant (after state.control.pc)) (Ends (moved_to target state.control))
      else stops (FetchUnaligned state.control.pc) state.control) aligned

  pub jal_goes : (rd : ℕ) (offset : ℤ) → Fetches state (Jal rd offset) → declared rd →
      IsAligned ((state.control.pc + word_of offset) % 2 ^ 32) →
      links_to rd ((state.control.pc + word_of offset) % 2 ^ 32)
  unfolding real_end walked walk_break moved_to
  jal_goes rd offset fetches ok aligned =
      let target = (state.control.pc + word_of offset) % 2 ^ 32 in
      goes_by_row region state (Jal rd offset) fetches _ _
      (ap (λ t. real_end (walk state t state.store none_held)) (links_walk rd target aligned))
      (ap (λ t. walk_break region state.store.kept state.control.pc (walk state t state.store none_held))
      (links_walk rd target aligned) ∙ or_none _ ok)

  pub jalr_goes : (rd rs1 : ℕ) (imm : ℤ) → Fetches state (Jalr rd rs1 imm) → declared rd →
      IsAligned (target_of (register_of state.store rs1) (word_of imm)) →
      links_to rd (target_of (register_of state.store rs1) (word_of imm))
  unfolding real_end walked walk_break moved_to
  jalr_goes rd rs1 imm fetches ok aligned =
      let target = target_of (register_of state.store rs1) (word_of imm) in
      let held : Held = record { first = register_of state.store rs1; second = 0 } in
      goes_by_row region state (Jalr rd rs1 imm) fetches _ _
      (ap (λ t. real_end (walk state t state.store held)) (links_walk rd target aligned))
      (ap (λ t. walk_break region state.store.kept state.control.pc (walk state t state.store held))
      (links_walk rd target aligned) ∙ or_none _ ok)

  abbrev both_held : ℕ → ℕ → Held
  both_held rs1 rs2 = record { first = register_of state.store rs1; second = register_of state.store rs2 }

  pub branch_stays : (kind : BranchKind) (rs1 rs2 : ℕ) (offset : ℤ) → Fetches state (Branch kind rs1 rs2 offset) →
      is_taken kind (register_of state.store rs1) (register_of state.store rs2) ≡ false →
      Goes region state (after state.control.pc) state.store
  unfolding real_end walked walk_break moved_to onward
  branch_stays kind rs1 rs2 offset fetches left =
      let held = both_held rs1 rs2 in
      goes_by_row region state (Branch kind rs1 rs2 offset) fetches _ _
      (ap (λ t. real_end (walk state (branches (word_of_truth t) (word_of offset) state.control) state.store held)) left)
      (ap (λ t. walk_break region state.store.kept state.control.pc
      (walk state (branches (word_of_truth t) (word_of offset) state.control) state.store held)) left)

  jumps_walk : (target : ℕ) → IsAligned target → jumps target state.control ≡ Ends (moved_to target state.control)
  jumps_walk target aligned =
      ap (λ t. if t then Ends (moved_to target state.control)
      else stops (FetchUnaligned state.control.pc) state.control) aligned

  pub branch_jumps : (kind : BranchKind) (rs1 rs2 : ℕ) (offset : ℤ) → Fetches state (Branch kind rs1 rs2 offset) →
      is_taken kind (register_of state.store rs1) (register_of state.store rs2) ≡ true →
      IsAligned ((state.control.pc + word_of offset) % 2 ^ 32) →
      Goes region state ((state.control.pc + word_of offset) % 2 ^ 32) state.store
  unfolding real_end walked walk_break moved_to onward
  branch_jumps kind rs1 rs2 offset fetches taken aligned =
      let held = both_held rs1 rs2 in
      let target = (state.control.pc + word_of offset) % 2 ^ 32 in
      goes_by_row region state (Branch kind rs1 rs2 offset) fetches _ _
      (ap (λ t. real_end (walk state (branches (word_of_truth t) (word_of offset) state.control) state.store held)) taken
      ∙ ap (λ t. real_end (walk state t state.store held)) (jumps_walk target aligned))
      (ap (λ t. walk_break region state.store.kept state.control.pc
      (walk state (branches (word_of_truth t) (word_of offset) state.control) state.store held)) taken
      ∙ ap (λ t. walk_break region state.store.kept state.control.pc (walk state t state.store held))
      (jumps_walk target aligned))

  -- ---- loads and stores

  abbrev Inside : ℕ → ℕ → Type 0
  Inside address count = is_inside state.setting.base address count ≡ true

  load_walk : (kind : LoadKind) (rd address : ℕ) → Inside address (load_size kind) →
      load_checked kind rd state.setting state.control address ≡ load_at kind rd address state.control
  load_walk kind rd address inside =
      ap (λ t. if t then load_at kind rd address state.control
      else stops (LoadOutside state.control.pc address) state.control) inside

  loads_at : (kind : LoadKind) (rd address : ℕ) (held : Held) →
      real_end (walk state (load_at kind rd address state.control) state.store held)
      ≡ moved (after state.control.pc)
      (with_register rd (extended kind (joined (bytes_at state (loaded_from kind address)))) state.store) state
  unfolding real_end walked moved_to onward
  loads_at Lb rd address held = refl
  loads_at Lh rd address held = refl
  loads_at Lw rd address held = refl
  loads_at Lbu rd address held = refl
  loads_at Lhu rd address held = refl

  load_breaks : (kind : LoadKind) (rd address : ℕ) (held : Held) → declared rd →
      walk_break region state.store.kept state.control.pc
      (walk state (load_at kind rd address state.control) state.store held) ≡ None
  unfolding walk_break walked
  load_breaks Lb rd address held ok = or_none _ ok
  load_breaks Lh rd address held ok = or_none _ ok
  load_breaks Lw rd address held ok = or_none _ ok
  load_breaks Lbu rd address held ok = or_none _ ok
  load_breaks Lhu rd address held ok = or_none _ ok

  pub load_goes : (kind : LoadKind) (rd rs1 : ℕ) (imm : ℤ) → Fetches state (Load kind rd rs1 imm) → declared rd →
      Inside (address_of (register_of state.store rs1) (word_of imm)) (load_size kind) →
      puts rd (extended kind (joined (bytes_at state
      (loaded_from kind (address_of (register_of state.store rs1) (word_of imm))))))
  unfolding real_end walked walk_break
  load_goes kind rd rs1 imm fetches ok inside =
      let address = address_of (register_of state.store rs1) (word_of imm) in
      let held : Held = record { first = register_of state.store rs1; second = 0 } in
      goes_by_row region state (Load kind rd rs1 imm) fetches _ _
      (ap (λ t. real_end (walk state t state.store held)) (load_walk kind rd address inside)
      ∙ loads_at kind rd address held)
      (ap (λ t. walk_break region state.store.kept state.control.pc (walk state t state.store held))
      (load_walk kind rd address inside) ∙ load_breaks kind rd address held ok)

  store_walk : (kind : StoreKind) (address : ℕ) → Inside address (store_size kind) →
      store_checked kind state.setting state.control address ≡ store_at kind address state.control
  store_walk kind address inside =
      ap (λ t. if t then store_at kind address state.control
      else stops (StoreOutside state.control.pc address) state.control) inside

  stores_at : (kind : StoreKind) (address : ℕ) (held : Held) →
      real_end (walk state (store_at kind address state.control) state.store held)
      ≡ moved (after state.control.pc) (stored kind state.setting.base address held.second state.store) state
  unfolding real_end walked moved_to onward
  stores_at Sb address held = refl
  stores_at Sh address held = refl
  stores_at Sw address held = refl

  or_next : (first second : Option Break) → first ≡ None → second ≡ None → option_or first second ≡ None
  or_next first second none also = ap (λ f. option_or f second) none ∙ also

  store_breaks : (kind : StoreKind) (address : ℕ) (held : Held) →
      Declares region state.store.kept state.control.pc address (store_size kind) →
      walk_break region state.store.kept state.control.pc
      (walk state (store_at kind address state.control) state.store held) ≡ None
  unfolding walk_break walked
  store_breaks Sb address held ok = or_none _ (first ok)
    where
      first : Declares region state.store.kept state.control.pc address 1 →
          byte_break region state.store.kept state.control.pc address ≡ None
      first ok = subst (λ a. byte_break region state.store.kept state.control.pc a ≡ None) (add-zero address)
          (ok 0 (omega arith))
  store_breaks Sh address held ok =
      or_next _ _ (subst (λ a. byte_break region state.store.kept state.control.pc a ≡ None) (add-zero address)
      (ok 0 (omega arith))) (or_none _ (ok 1 (omega arith)))
  store_breaks Sw address held ok =
      or_next _ _ (subst (λ a. byte_break region state.store.kept state.control.pc a ≡ None) (add-zero address)
      (ok 0 (omega arith)))
      (or_next _ _ (ok 1 (omega arith)) (or_next _ _ (ok 2 (omega arith)) (or_none _ (ok 3 (omega arith)))))

  pub store_goes : (kind : StoreKind) (rs1 rs2 : ℕ) (imm : ℤ) → Fetches state (StoreInstr kind rs1 rs2 imm) →
      Declares region state.store.kept state.control.pc (address_of (register_of state.store rs1) (word_of imm))
      (store_size kind) →
      Inside (address_of (register_of state.store rs1) (word_of imm)) (store_size kind) →
      Goes region state (after state.control.pc) (stored kind state.setting.base
      (address_of (register_of state.store rs1) (word_of imm)) (register_of state.store rs2) state.store)
  unfolding real_end walked walk_break
  store_goes kind rs1 rs2 imm fetches ok inside =
      let address = address_of (register_of state.store rs1) (word_of imm) in
      let held = both_held rs1 rs2 in
      goes_by_row region state (StoreInstr kind rs1 rs2 imm) fetches _ _
      (ap (λ t. real_end (walk state t state.store held)) (store_walk kind address inside)
      ∙ stores_at kind address held)
      (ap (λ t. walk_break region state.store.kept state.control.pc (walk state t state.store held))
      (store_walk kind address inside) ∙ store_breaks kind address held ok)
