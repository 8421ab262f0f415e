-- Each row reads the secret at slot `in` alone, byte after byte, passes few points beside the bytes that it reads and
-- writes, and counts them; and a region gives out at slots of turns.
use Rattle.std.proofs.Common.{◌≡◌, ℕ, zero, suc, ◌+◌, ◌-◌, ◌%◌, ◌==◌, ◌≤◌, ◌<◌, Bool, true, false, List, [], ◌∷◌}
use Rattle.std.proofs.Common.{length, length-append, nat_le, refl, ap, arith}
use Rattle.std.specs.Prelude.{if◌then◌else◌, Option, Some, None}
use Rattle.std.specs.List.{list_all}
use Rattle.std.proofs.lemmas.Bool.{and_parts, eqb-true, leb-true, lt-ltb}
use Rattle.rv32im_decode.specs.declared.instructions.Instr.{Instr}
use Rattle.rv32im_decode.specs.declared.instructions.Instr.TheVariants.{Lui, Auipc, Jal, Jalr, Branch, Load}
use Rattle.rv32im_decode.specs.declared.instructions.Instr.TheVariants.{Store as StoreInstr, OpImm, Op, Fence, Ecall}
use Rattle.rv32im_decode.specs.declared.instructions.Instr.TheVariants.{Ebreak}
use Rattle.rv32im_decode.specs.declared.instructions.LoadKind.{LoadKind}
use Rattle.rv32im_decode.specs.declared.instructions.LoadKind.TheVariants.{Lb, Lh, Lw, Lbu, Lhu}
use Rattle.rv32im_decode.specs.declared.instructions.StoreKind.{StoreKind}
use Rattle.rv32im_decode.specs.declared.instructions.StoreKind.TheVariants.{Sb, Sh, Sw}
use Rattle.rv32im_decode.specs.Operations.{word_of, load_size, store_size}
use Rattle.rv32im_decode.specs.Decoding.{decoded}
use Rattle.guest_calls.specs.declared.kinds.CallKind.{CallKind}
use Rattle.guest_calls.specs.declared.kinds.CallKind.TheVariants.{Read, Write as WriteCall, Exit as ExitCall}
use Rattle.guest_calls.specs.declared.kinds.CallKind.TheVariants.{Brk as BrkCall, Unknown}
use Rattle.guest_calls.specs.declared.writing.WriteCheck.TheVariants.{Append, BadAddress, OverLimit}
use Rattle.flow_base.specs.Guests.{is_inside}
use Rattle.guest_calls.specs.Calls.{bytes_read, is_output, is_public_input, is_secret_input, call_kind}
use Rattle.enclosure_regions.specs.declared.region_parts.Range.{Range}
use Rattle.enclosure_regions.specs.declared.region_parts.Region.{Region}
use Rattle.enclosure_regions.specs.Regions.{is_register}
use Rattle.enclosure_regions.specs.Turns.{start_of}
use Rattle.rv32im_machine.specs.declared.stepping.CallPlan.{CallPlan}
use Rattle.rv32im_machine.specs.declared.stepping.CallPlan.TheVariants.{Answer, PublicRead, SecretRead, Write, Brk}
use Rattle.rv32im_machine.specs.declared.stepping.CallPlan.TheVariants.{Exit, Stop}
use Rattle.rv32im_machine.specs.declared.stepping.Stepped.{Stepped}
use Rattle.rv32im_machine.specs.declared.stepping.Stepped.TheVariants.{Ran, Exited, Stopped}
use Rattle.rv32im_machine.specs.State.{Control, Setting, break_moved, emitted, ended, entered, moved_to, onward}
use Rattle.rv32im_machine.specs.State.{public_taken, secret_taken}
use Rattle.rv32im_machine.specs.Language.{Turn}
use Rattle.rv32im_machine.specs.Calls.{break_plan, kind_row, planned, public_reads, read_plan, secret_reads}
use Rattle.rv32im_machine.specs.Calls.{write_checked, write_plan, writes}
use Rattle.rv32im_machine.specs.Rows.{branches, fetched, jumps, links, load_at, load_checked, row, store_at}
use Rattle.rv32im_machine.specs.Rows.{store_checked, turn_in}
use Rattle.region_machine.specs.Guests.{entry, gives_bytes, gives_ranges, gives_registers, leave, looks, looks_at}
use Rattle.acceptance_law.proofs.RowCounts.{Counts, HasRead, Limits}

module _ (Known : Type 0) (limits : Limits) where
  -- ---- what is known at an end

  abbrev At : ℕ → ℕ → Control → Type 0
  At count used control = HasRead limits count used control

  less : (count used more : ℕ) (control : Control) → used ≤ more → At count more control → At count used control
  less count used more control w h = (h.0, (omega (arith, w, h.1.0), h.1.1, h.1.2))

  has_onward : (count used : ℕ) (control : Control) → At count used control → At count used (onward control)
  unfolding onward
  has_onward count used control h = h

  has_moved : (count used pc : ℕ) (control : Control) → At count used control → At count used (moved_to pc control)
  unfolding moved_to
  has_moved count used pc control h = h

  has_ended : (count used : ℕ) (mode : Stepped) (control : Control) → At count used control →
      At count used (ended mode control)
  unfolding ended
  has_ended count used mode control h = h

  has_entered : (count used region : ℕ) (control : Control) → At count used control →
      At count used (entered region control)
  unfolding entered
  has_entered count used region control h = h

  has_public : (count used : ℕ) (control : Control) → At count used control → At count used (public_taken control)
  unfolding public_taken
  has_public count used control h = h

  has_break : (count used value : ℕ) (control : Control) → At count used control →
      At count used (break_moved value control)
  unfolding break_moved
  has_break count used value control h = h

  -- a byte more is written, a point more is passed
  has_emitted : (count used byte : ℕ) (control : Control) → length control.output + 1 ≤ limits.output →
      At count used control → At count (used + 1) (emitted byte control)
  unfolding emitted
  has_emitted count used byte control w h =
      let more = length-append control.output (byte ∷ []) in
      (h.0, (omega (arith, more, h.1.0), h.1.1, omega (arith, more, w)))

  -- a byte more is read, a point more is passed
  has_secret : (count used : ℕ) (control : Control) → control.secret_at + 1 ≤ limits.secret → At count used control →
      At (count + 1) (used + 1) (secret_taken control)
  unfolding secret_taken
  has_secret count used control w h = (ap (λ n. n + 1) h.0, (omega (arith, h.1.0), w, h.1.2))

  -- ---- the rows of instructions that are no calls

  either : (count used : ℕ) (test : Bool) (t u : Turn) → Counts Known limits count used t →
      Counts Known limits count used u →
      Counts Known limits count used (if test then t else u)
  either count used true t u p q = p
  either count used false t u p q = q

  counts_jumps : (count used target : ℕ) (control : Control) → At count used control →
      Counts Known limits count used (jumps target control)
  unfolding Counts
  counts_jumps count used target control h =
      either count used (target % 4 == 0) _ _ (has_moved count used target control h)
      (has_ended count used _ control h)

  counts_links : (count used rd target : ℕ) (control : Control) → At count used control →
      Counts Known limits count used (links rd target control)
  unfolding Counts
  counts_links count used rd target control h =
      either count used (target % 4 == 0) _ _ (has_moved count used target control h)
      (has_ended count used _ control h)

  counts_branches : (count used taken offset : ℕ) (control : Control) → At count used control →
      Counts Known limits count used (branches taken offset control)
  unfolding Counts
  counts_branches count used taken offset control h =
      either count used (taken == 0) _ _ (has_onward count used control h) (counts_jumps count used _ control h)

  counts_load : (count used : ℕ) (kind : LoadKind) (rd address : ℕ) (control : Control) →
      At count (used + 1) control →
      Counts Known limits count used (load_at kind rd address control)
  unfolding Counts
  counts_load count used Lb rd address control h = (refl, tt, has_onward count (used + 1) control h)
  counts_load count used Lbu rd address control h = (refl, tt, has_onward count (used + 1) control h)
  counts_load count used Lh rd address control h = (refl, tt, has_onward count (used + 1) control h)
  counts_load count used Lhu rd address control h = (refl, tt, has_onward count (used + 1) control h)
  counts_load count used Lw rd address control h = (refl, tt, has_onward count (used + 1) control h)

  counts_load_checked : (count used : ℕ) (kind : LoadKind) (rd : ℕ) (setting : Setting) (control : Control)
      (address : ℕ) → At count (used + 1) control →
      Counts Known limits count used (load_checked kind rd setting control address)
  unfolding Counts
  counts_load_checked count used kind rd setting control address h =
      either count used (is_inside setting.base address (load_size kind)) _ _
      (counts_load count used kind rd address control h)
      (has_ended count used _ control (less count used (used + 1) control (omega arith) h))

  counts_store : (count used : ℕ) (kind : StoreKind) (address : ℕ) (control : Control) → At count used control →
      Counts Known limits count used (store_at kind address control)
  unfolding Counts
  counts_store count used Sb address control h = has_onward count used control h
  counts_store count used Sh address control h = has_onward count used control h
  counts_store count used Sw address control h = has_onward count used control h

  counts_store_checked : (count used : ℕ) (kind : StoreKind) (setting : Setting) (control : Control) (address : ℕ) →
      At count used control → Counts Known limits count used (store_checked kind setting control address)
  unfolding Counts
  counts_store_checked count used kind setting control address h =
      either count used (is_inside setting.base address (store_size kind)) _ _
      (counts_store count used kind address control h)
      (has_ended count used _ control h)

  -- ---- calls

  counts_public : (n : ℕ) (count used to answer : ℕ) (input : List ℕ) (control : Control) → At count used control →
      Counts Known limits count used (public_reads n to answer input control)
  unfolding Counts public_reads
  counts_public zero count used to answer input control h = has_onward count used control h
  counts_public (suc n) count used to answer input control h =
      counts_public n count used (to + 1) answer input (public_taken control) (has_public count used control h)

  counts_secret : (n : ℕ) (count used to answer : ℕ) (control : Control) → control.secret_at + n ≤ limits.secret →
      At count used control → Counts Known limits count used (secret_reads n to answer control)
  unfolding Counts secret_reads secret_taken
  counts_secret zero count used to answer control w h = has_onward count used control h
  counts_secret (suc n) count used to answer control w h = (
    refl,
    (refl, (control.secret_at, refl)),
    counts_secret n (count + 1) (used + 1) (to + 1) answer (secret_taken control) (taken control w)
        (has_secret count used control (omega (arith, w)) h),
  )
    where
      taken : (control : Control) → control.secret_at + suc n ≤ limits.secret →
          (secret_taken control).secret_at + n ≤ limits.secret
      taken control w = omega (arith, w)

  counts_writes : (n : ℕ) (count used from answer : ℕ) (control : Control) →
      length control.output + n ≤ limits.output → At count used control →
      Counts Known limits count used (writes n from answer control)
  unfolding Counts writes emitted
  counts_writes zero count used from answer control w h = has_onward count used control h
  counts_writes (suc n) count used from answer control w h = (
    refl,
    refl,
    tt,
    λ byte. counts_writes n count (used + 1) (from + 1) answer (emitted byte control) (written byte control w)
        (has_emitted count used byte control (omega (arith, w)) h),
  )
    where
      written : (byte : ℕ) (control : Control) → length control.output + suc n ≤ limits.output →
          length (emitted byte control).output + n ≤ limits.output
      written byte control w = omega (arith, w, length-append control.output (byte ∷ []))

  -- a plan reads no more than is left of the secret, and writes no more than the output has room for
  abbrev Fits : Control → CallPlan → Type 0
  Fits control (Answer answer) = Unit {0}
  Fits control (PublicRead to n) = Unit {0}
  Fits control (SecretRead to n) = control.secret_at + n ≤ limits.secret
  Fits control (Write from n) = length control.output + n ≤ limits.output
  Fits control (Brk value) = Unit {0}
  Fits control Exit = Unit {0}
  Fits control (Stop fault) = Unit {0}

  counts_planned : (count used : ℕ) (plan : CallPlan) (setting : Setting) (control : Control) → Fits control plan →
      At count (used + 1) control → Counts Known limits count used (planned plan setting control)
  unfolding Counts
  counts_planned count used plan setting control f h =
      pick plan f (less count used (used + 1) control (omega arith) h)
    where
      pick : (plan : CallPlan) → Fits control plan → At count used control →
          Counts Known limits count used (planned plan setting control)
      pick (Answer answer) f g = has_onward count used control g
      pick (PublicRead to n) f g = counts_public n count used to n setting.public_input control g
      pick (SecretRead to n) f g = counts_secret n count used to n control f g
      pick (Write from n) f g = counts_writes n count used from n control f g
      pick (Brk value) f g = has_onward count used (break_moved value control) (has_break count used value control g)
      pick Exit f g = (refl, refl, tt, λ status. has_ended count (used + 1) (Exited status) control h)
      pick (Stop fault) f g = has_ended count used (Stopped fault) control g

  fits_either : (control : Control) (test : Bool) (p q : CallPlan) → Fits control p → Fits control q →
      Fits control (if test then p else q)
  fits_either control true p q f g = f
  fits_either control false p q f g = g

  -- no more is read than is left
  fits_read : (setting : Setting) (control : Control) (descriptor to n : ℕ) → setting.secret_length ≡ limits.secret →
      control.secret_at ≤ limits.secret → Fits control (read_plan setting control descriptor to n)
  fits_read setting control descriptor to n e w =
      let left = bytes_read n (setting.secret_length - control.secret_at) in
      let few : control.secret_at + left ≤ limits.secret = omega (arith, e, w) in
      let publics = bytes_read n (length setting.public_input - control.public_at) in
      fits_either control (is_public_input descriptor) _ _
      (fits_either control (publics == 0) _ _ tt (fits_either control (is_inside setting.base to publics) _ _ tt tt))
      (fits_either control (is_secret_input descriptor) _ _
      (fits_either control (left == 0) _ _ tt (fits_either control (is_inside setting.base to left) _ _ few tt)) tt)

  -- no more is written than there is room for
  fits_append : (setting : Setting) (control : Control) (from n : ℕ) → setting.output_limit ≤ limits.output →
      length control.output ≤ limits.output →
      Fits control (write_checked
      (if n == 0 then Append
      else (if is_inside setting.base from n
      then (if nat_le (length control.output + n) setting.output_limit then Append else OverLimit)
      else BadAddress)) control from n)
  fits_append setting control from n e w =
      none (n == 0) refl (is_inside setting.base from n) (nat_le (length control.output + n) setting.output_limit)
      refl
    where
      none : (b : Bool) → (n == 0) ≡ b → (c d : Bool) →
          nat_le (length control.output + n) setting.output_limit ≡ d →
          Fits control (write_checked
          (if b then Append else (if c then (if d then Append else OverLimit) else BadAddress)) control from n)
      none true z c d s = omega (arith, w, eqb-true n 0 z)
      none false z false d s = tt
      none false z true true s = omega (arith, e, leb-true (length control.output + n) setting.output_limit s)
      none false z true false s = tt

  fits_write : (setting : Setting) (control : Control) (descriptor from n : ℕ) →
      setting.output_limit ≤ limits.output → length control.output ≤ limits.output →
      Fits control (write_plan setting control descriptor from n)
  fits_write setting control descriptor from n e w =
      fits_either control (is_output descriptor) _ _
      (fits_either control (n == 0) _ _ tt (fits_append setting control from n e w)) tt

  counts_kind : (count used : ℕ) (kind : CallKind) (setting : Setting) (control : Control) →
      setting.secret_length ≡ limits.secret →
      setting.output_limit ≤ limits.output → At count (used + 4) control →
      Counts Known limits count used (kind_row kind setting control)
  unfolding Counts
  counts_kind count used kind setting control e o h = pick kind
    where
      most : (more : ℕ) → more ≤ used + 4 → At count more control
      most more w = less count more (used + 4) control w h

      pick : (kind : CallKind) → Counts Known limits count used (kind_row kind setting control)
      pick Read = (
        refl,
        refl,
        tt,
        λ first. (
          refl,
          refl,
          tt,
          λ second. (
            refl,
            refl,
            tt,
            λ third.
                counts_planned count (used + 1 + 1 + 1) (read_plan setting control first second third) setting control
                (fits_read setting control first second third e h.1.1) (most (used + 1 + 1 + 1 + 1) (omega arith)),
          ),
        ),
      )
      pick WriteCall = (
        refl,
        refl,
        tt,
        λ first. (
          refl,
          refl,
          tt,
          λ second. (
            refl,
            refl,
            tt,
            λ third.
                counts_planned count (used + 1 + 1 + 1) (write_plan setting control first second third) setting
                control
                (fits_write setting control first second third o h.1.2) (most (used + 1 + 1 + 1 + 1) (omega arith)),
          ),
        ),
      )
      pick ExitCall = counts_planned count used Exit setting control tt (most (used + 1) (omega arith))
      pick BrkCall = (
        refl,
        refl,
        tt,
        λ request.
            counts_planned count (used + 1) (break_plan setting control request) setting control tt
            (most (used + 1 + 1) (omega arith)),
      )
      pick Unknown = has_onward count used control (most used (omega arith))

  -- ---- a step

  counts_row : (count used : ℕ) (instr : Instr) (setting : Setting) (control : Control) →
      setting.secret_length ≡ limits.secret →
      setting.output_limit ≤ limits.output → At count (used + 5) control →
      Counts Known limits count used (row instr setting control)
  unfolding Counts
  counts_row count used instr setting control e o h = pick instr
    where
      most : (more : ℕ) → more ≤ used + 5 → At count more control
      most more w = less count more (used + 5) control w h

      pick : (instr : Instr) → Counts Known limits count used (row instr setting control)
      pick (Lui rd imm) = has_onward count used control (most used (omega arith))
      pick (Auipc rd imm) = has_onward count used control (most used (omega arith))
      pick (Jal rd offset) = counts_links count used rd _ control (most used (omega arith))
      pick (Jalr rd rs1 imm) = (
        refl,
        tt,
        (refl, refl, (tt, tt), λ target. counts_links count (used + 1 + 1) rd target control (most _ (omega arith))),
      )
      pick (Branch kind rs1 rs2 offset) = (
        refl,
        tt,
        (
          refl,
          tt,
          (
            refl,
            refl,
            (tt, tt),
            λ taken. counts_branches count (used + 1 + 1 + 1) taken (word_of offset) control (most _ (omega arith)),
          ),
        ),
      )
      pick (Load kind rd rs1 imm) = (
        refl,
        tt,
        (
          refl,
          refl,
          (tt, tt),
          λ address.
              counts_load_checked count (used + 1 + 1) kind rd setting control address (most _ (omega arith)),
        ),
      )
      pick (StoreInstr kind rs1 rs2 imm) = (
        refl,
        tt,
        (
          refl,
          tt,
          (
            refl,
            refl,
            (tt, tt),
            λ address.
                counts_store_checked count (used + 1 + 1 + 1) kind setting control address (most _ (omega arith)),
          ),
        ),
      )
      pick (OpImm kind rd rs1 imm) =
          (refl, tt, (refl, (tt, tt), has_onward count (used + 1 + 1) control (most _ (omega arith))))
      pick (Op kind rd rs1 rs2) =
          (refl, tt, (refl, tt, (refl, (tt, tt), has_onward count (used + 1 + 1 + 1) control (most _ (omega arith)))))
      pick (Fence rd rs1 imm) = has_onward count used control (most used (omega arith))
      pick Ecall = (
        refl,
        refl,
        tt,
        λ number. counts_kind count (used + 1) (call_kind number) setting control e o (most _ (omega arith)),
      )
      pick Ebreak = has_ended count used _ control (most used (omega arith))

  counts_fetched : (count used : ℕ) (instr : Option Instr) (word : ℕ) (setting : Setting) (control : Control) →
      setting.secret_length ≡ limits.secret →
      setting.output_limit ≤ limits.output → At count (used + 5) control →
      Counts Known limits count used (fetched instr word setting control)
  unfolding Counts
  counts_fetched count used None word setting control e o h =
      has_ended count used _ control (less count used (used + 5) control (omega arith) h)
  counts_fetched count used (Some instr) word setting control e o h =
      counts_row count used instr setting control e o h

  pub counts_step : (count used : ℕ) (mode : Stepped) (setting : Setting) (control : Control) →
      setting.secret_length ≡ limits.secret →
      setting.output_limit ≤ limits.output → At count (used + 5) control →
      Counts Known limits count used (turn_in mode setting control)
  unfolding Counts
  counts_step count used Ran setting control e o h =
      either count used (is_inside setting.base control.pc 4) _ _
      (λ word. counts_fetched count used (decoded word) word setting control e o h)
      (has_ended count used _ control (less count used (used + 5) control (omega arith) h))
  counts_step count used (Exited status) setting control e o h = less count used (used + 5) control (omega arith) h
  counts_step count used (Stopped fault) setting control e o h = less count used (used + 5) control (omega arith) h

  -- ---- the turns of regions

  counts_looks_at : (count used : ℕ) (base : Option ℕ) (turn : Turn) → Counts Known limits count used turn →
      Counts Known limits count used (looks_at base turn)
  unfolding Counts
  counts_looks_at count used None turn f = f
  counts_looks_at count used (Some register) turn f = λ value. f

  counts_looks : (count used : ℕ) (ranges : List Range) (turn : Turn) → Counts Known limits count used turn →
      Counts Known limits count used (looks ranges turn)
  unfolding looks
  counts_looks count used [] turn f = f
  counts_looks count used (range ∷ ranges) turn f =
      counts_looks_at count used range.base _ (counts_looks count used ranges turn f)

  pub counts_entry : (count used : ℕ) (region : Region) (control : Control) → At count used control →
      Counts Known limits count used (entry region control)
  unfolding Counts
  counts_entry count used region control h =
      counts_looks count used region.ranges _ (has_entered count used region.id control h)

  counts_registers : (count used : ℕ) (region : Region) (registers : List ℕ) (turn : Turn) →
      (Known → list_all is_register registers ≡ true) → Counts Known limits count used turn →
      Counts Known limits count used (gives_registers region registers turn)
  unfolding Counts gives_registers
  counts_registers count used region [] turn known f = f
  counts_registers count used region (register ∷ registers) turn known f = (
    refl,
    refl,
    λ k. (and_parts (is_register register) (list_all is_register registers) (known k)).0,
    counts_registers count used region registers turn
        (λ k. (and_parts (is_register register) (list_all is_register registers) (known k)).1) f,
  )

  counts_bytes : (n count used : ℕ) (region : Region) (number address : ℕ) (turn : Turn) → (Known → number < 64) →
      Counts Known limits count used turn → Counts Known limits count used (gives_bytes region number address n turn)
  unfolding Counts gives_bytes
  counts_bytes zero count used region number address turn known f = f
  counts_bytes (suc n) count used region number address turn known f = (
    refl,
    refl,
    λ k. lt-ltb number 64 (known k),
    counts_bytes n count used region number (address + 1) turn known f,
  )

  counts_ranges : (count used : ℕ) (region : Region) (registers : List ℕ) (number : ℕ) (ranges : List Range)
      (turn : Turn) → (Known → number + length ranges ≤ 64) → Counts Known limits count used turn →
      Counts Known limits count used (gives_ranges region registers number ranges turn)
  unfolding gives_ranges
  counts_ranges count used region registers number [] turn known f = f
  counts_ranges count used region registers number (range ∷ ranges) turn known f =
      counts_bytes range.length count used region number (start_of registers range) _ (λ k. omega (arith, known k))
      (counts_ranges count used region registers (number + 1) ranges turn (λ k. omega (arith, known k)) f)

  pub counts_leave : (count used : ℕ) (region : Region) (kept : List ℕ) (control : Control) →
      (Known → list_all is_register region.outs ≡ true) → (Known → length region.ranges ≤ 64) →
      At count used control → Counts Known limits count used (leave region kept control)
  unfolding Counts
  counts_leave count used region kept control outs ranges h =
      counts_registers count used region region.outs _ outs
      (counts_ranges count used region kept 0 region.ranges _ (λ k. omega (arith, ranges k))
      (has_entered count used 0 control h))
