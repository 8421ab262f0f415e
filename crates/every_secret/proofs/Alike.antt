-- Two turns that are the same but for the bytes that are written and the exit status, which agree outside their free bits,
-- and the bytes of the public input that are read; and that the turn of an instruction is alike where the outputs so far
-- are.
use Rattle.std.proofs.Common.{◌≡◌, ℕ, zero, suc, ◌+◌, ◌-◌, ◌%◌, ◌^◌, ◌==◌, ◌≤◌, Bool, true, false, List, [], ◌∷◌, ◌++◌}
use Rattle.std.proofs.Common.{length, refl, ap, subst, arith, Option, Some, None}
use Rattle.std.specs.Prelude.{if◌then◌else◌, slice_index}
use Rattle.flow_base.specs.Words.{Agree}
use Rattle.flow_base.specs.Guests.{is_inside}
use Rattle.flow_base.specs.declared.points.Point.{Point}
use Rattle.rv32im_decode.specs.declared.instructions.Instr.{Instr}
use Rattle.rv32im_decode.specs.declared.instructions.Instr.TheVariants.{Lui, Auipc, Jal, Jalr, Branch, Load}
use Rattle.rv32im_decode.specs.declared.instructions.Instr.TheVariants.{Store as StoreInstr, OpImm, Op, Fence, Ecall}
use Rattle.rv32im_decode.specs.declared.instructions.Instr.TheVariants.{Ebreak}
use Rattle.rv32im_decode.specs.declared.instructions.LoadKind.{LoadKind}
use Rattle.rv32im_decode.specs.declared.instructions.StoreKind.{StoreKind}
use Rattle.rv32im_decode.specs.declared.instructions.StoreKind.TheVariants.{Sb, Sh, Sw}
use Rattle.rv32im_decode.specs.Operations.{word_of, load_size, store_size}
use Rattle.rv32im_decode.specs.Decoding.{decoded}
use Rattle.guest_calls.specs.declared.kinds.CallKind.{CallKind}
use Rattle.guest_calls.specs.declared.kinds.CallKind.TheVariants.{Read, Write as WriteCall, Exit as ExitCall}
use Rattle.guest_calls.specs.declared.kinds.CallKind.TheVariants.{Brk as BrkCall, Unknown}
use Rattle.guest_calls.specs.declared.writing.WriteCheck.{WriteCheck}
use Rattle.guest_calls.specs.declared.writing.WriteCheck.TheVariants.{Append, BadAddress, OverLimit}
use Rattle.guest_calls.specs.Calls.{bad_address, bad_descriptor, bytes_read, checked_write, is_output, is_public_input}
use Rattle.guest_calls.specs.Calls.{is_secret_input, call_kind, unknown_call}
use Rattle.rv32im_machine.specs.declared.stepping.Fault.{Fault}
use Rattle.rv32im_machine.specs.declared.stepping.Fault.TheVariants.{Illegal, FetchOutside, FetchUnaligned}
use Rattle.rv32im_machine.specs.declared.stepping.Fault.TheVariants.{LoadOutside, StoreOutside, Breakpoint, OutputLimit}
use Rattle.rv32im_machine.specs.declared.stepping.Stepped.{Stepped}
use Rattle.rv32im_machine.specs.declared.stepping.Stepped.TheVariants.{Ran, Exited, Stopped}
use Rattle.rv32im_machine.specs.declared.stepping.CallPlan.{CallPlan}
use Rattle.rv32im_machine.specs.declared.stepping.CallPlan.TheVariants.{Answer, PublicRead, SecretRead, Write, Brk}
use Rattle.rv32im_machine.specs.declared.stepping.CallPlan.TheVariants.{Exit, Stop}
use Rattle.rv32im_machine.specs.declared.language.Place.{Place}
use Rattle.rv32im_machine.specs.declared.language.Place.TheVariants.{Byte}
use Rattle.rv32im_machine.specs.declared.language.Seen.{Seen}
use Rattle.rv32im_machine.specs.declared.language.Shape.{Shape}
use Rattle.rv32im_machine.specs.declared.language.Shape.TheVariants.{Copied}
use Rattle.rv32im_machine.specs.declared.language.Source.{Source}
use Rattle.rv32im_machine.specs.declared.language.Source.TheVariants.{Constant}
use Rattle.rv32im_machine.specs.declared.language.Sources.{Sources}
use Rattle.rv32im_machine.specs.State.{Setting, Control, onward, moved_to, ended, public_taken}
use Rattle.rv32im_machine.specs.State.{secret_taken, break_moved, emitted}
use Rattle.rv32im_machine.specs.Language.{Turn, Looks, Passes, Decides, Moves, Ends, Making}
use Rattle.rv32im_machine.specs.Calls.{public_reads, secret_reads, writes, planned, answered, exits}
use Rattle.rv32im_machine.specs.Calls.{kind_row, public_plan, read_plan, secret_plan, write_plan, write_checked, break_plan}
use Rattle.rv32im_machine.specs.Rows.{load_checked, store_at, store_checked, links, branches, row}
use Rattle.rv32im_machine.specs.Rows.{fetched, running, stops}
use Rattle.every_secret.specs.declared.shown.Shown.TheVariants.{Nothing, WrittenByte, ExitStatus}
use Rattle.every_secret.specs.declared.public_inputs.PublicInput.{PublicInput}
use Rattle.every_secret.specs.AnyPublic.{AreSeenAs}
use Rattle.every_secret.specs.Listed.{AgreeEach, NoneLeft, OneMore}
use Rattle.every_secret.specs.Rules.{public_mask}
use Rattle.every_secret.specs.Shown.{shown_at}

abbrev pub AgreeMode : ℕ → Stepped → Stepped → Type 0
AgreeMode mask Ran Ran = Unit {0}
AgreeMode mask (Exited real) (Exited copy) = Agree mask real copy
AgreeMode mask (Stopped real) (Stopped copy) = real ≡ copy
AgreeMode mask Ran _ = ⊥
AgreeMode mask (Exited real) _ = ⊥
AgreeMode mask (Stopped real) _ = ⊥

pub agree_one_more : {masks reals copies : List ℕ} (mask real copy : ℕ) → AgreeEach masks reals copies →
    Agree mask real copy →
    AgreeEach (masks ++ mask ∷ []) (reals ++ real ∷ []) (copies ++ copy ∷ [])
agree_one_more mask real copy NoneLeft last = OneMore last NoneLeft
agree_one_more mask real copy (OneMore first rest) last = OneMore first (agree_one_more mask real copy rest last)

pub agree_length : {masks reals copies : List ℕ} → AgreeEach masks reals copies → length reals ≡ length copies
agree_length NoneLeft = refl
agree_length (OneMore first rest) = ap suc (agree_length rest)

-- a control with this output, in this mode
abbrev pub with_output : Control → List ℕ → Stepped → Control
with_output control output mode = record control { output = output; mode = mode }

-- a setting with the public input that is seen
abbrev pub seeing : Setting → List ℕ → Setting
seeing setting seen = record setting { public_input = seen }

-- two turns are alike, with these free bits of what was shown
pub data Alike (public : PublicInput) : List ℕ → ℕ → Turn → Turn → Type 0 where
  Look : {masks : List ℕ} {mask : ℕ} {go to : ℕ → Turn} (seen : Seen) →
      ((value : ℕ) → Alike public masks mask (go value) (to value)) → Alike public masks mask (Looks seen go) (Looks seen to)
  Pass : {masks : List ℕ} {mask : ℕ} {turn other : Turn} (point : Point) (place : Place) (making : Making)
      (sources : Sources) → shown_at point.slot ≡ Nothing → Alike public masks mask turn other →
      Alike public masks mask (Passes point place making sources turn) (Passes point place making sources other)
  Decide : {masks : List ℕ} {mask : ℕ} {go to : ℕ → Turn} (point : Point) (making : Making) (sources : Sources) →
      shown_at point.slot ≡ Nothing → ((value : ℕ) → Alike public masks mask (go value) (to value)) →
      Alike public masks mask (Decides point making sources go) (Decides point making sources to)
  Show : {masks : List ℕ} {mask : ℕ} {go to : ℕ → Turn} (point : Point) (making : Making) (sources : Sources) →
      shown_at point.slot ≡ WrittenByte → ((free real copy : ℕ) → Agree free real copy →
      Alike public (masks ++ free ∷ []) mask (go real) (to copy)) →
      Alike public masks mask (Decides point making sources go) (Decides point making sources to)
  Leave : {masks : List ℕ} {mask : ℕ} {go to : ℕ → Turn} (point : Point) (making : Making) (sources : Sources) →
      shown_at point.slot ≡ ExitStatus → ((free real copy : ℕ) → Agree free real copy →
      Alike public masks free (go real) (to copy)) →
      Alike public masks mask (Decides point making sources go) (Decides point making sources to)
  Move : {masks : List ℕ} {mask : ℕ} {turn other : Turn} (place : Place) (shape : Shape) (source : Source) →
      Alike public masks mask turn other → Alike public masks mask (Moves place shape source turn) (Moves place shape source other)
  Take : {masks : List ℕ} {mask : ℕ} {turn other : Turn} (address real seen : ℕ) → Agree (public_mask public) real seen →
      real ≤ 255 → seen ≤ 255 → Alike public masks mask turn other →
      Alike public masks mask (Moves (Byte address) Copied (Constant real) turn)
      (Moves (Byte address) Copied (Constant seen) other)
  End : {masks : List ℕ} {mask : ℕ} (control : Control) (output written : List ℕ) (mode stop : Stepped) →
      AgreeEach masks output written → AgreeMode mask mode stop →
      Alike public masks mask (Ends (with_output control output mode)) (Ends (with_output control written stop))

-- ---- the turn of an instruction

module _ (public : PublicInput) (mask : ℕ) where
  -- two turns that differ in the output so far alone
  abbrev AlikeBeside : List ℕ → List ℕ → List ℕ → (Control → Turn) → Control → Type 0
  AlikeBeside masks output written turn control =
      Alike public masks mask (turn (with_output control output Ran)) (turn (with_output control written Ran))

  module _ (masks output written : List ℕ) (agree : AgreeEach masks output written) where
    abbrev Beside : (Control → Turn) → Control → Type 0
    Beside turn control = AlikeBeside masks output written turn control

    goes : (control : Control) → Beside (λ now. Ends (onward now)) control
    unfolding onward
    goes control = End (onward control) output written Ran Ran agree tt

    jumped : (target : ℕ) (control : Control) → Beside (λ now. Ends (moved_to target now)) control
    unfolding moved_to
    jumped target control = End (moved_to target control) output written Ran Ran agree tt

    stopped : (fault : Fault) (control : Control) → Beside (stops fault) control
    unfolding ended
    stopped fault control = End control output written (Stopped fault) (Stopped fault) agree refl

    either : (test : Bool) (turn other to otherwise : Turn) → Alike public masks mask turn to →
        Alike public masks mask other otherwise →
        Alike public masks mask (if test then turn else other) (if test then to else otherwise)
    either true turn other to otherwise p q = p
    either false turn other to otherwise p q = q

    answer : (value : ℕ) (control : Control) → Beside (answered value) control
    unfolding onward
    answer value control = Move _ _ _ (goes control)

    public_bytes : (count to value : ℕ) (input seen : List ℕ) (control : Control) → AreSeenAs public seen input →
        Alike public masks mask (public_reads count to value input (with_output control output Ran))
        (public_reads count to value seen (with_output control written Ran))
    unfolding public_reads public_taken
    public_bytes zero to value input seen control are = answer value control
    public_bytes (suc count) to value input seen control are =
        let read = are.bytes control.public_at in
        let shown = are.seen_bytes control.public_at in
        Take to (slice_index input control.public_at) (slice_index seen control.public_at) (are.agree control.public_at)
        (omega (arith, read)) (omega (arith, shown))
        (public_bytes count (to + 1) value input seen (public_taken control) are)

    secret : (count to value : ℕ) (control : Control) → Beside (secret_reads count to value) control
    unfolding secret_reads secret_taken
    secret zero to value control = answer value control
    secret (suc count) to value control = Pass _ _ _ _ refl (secret count (to + 1) value (secret_taken control))

    left : (control : Control) → Beside exits control
    unfolding ended
    left control =
        Leave _ _ _ refl (λ free real copy same. End control output written (Exited real) (Exited copy) agree same)

    links-alike : (rd target : ℕ) (control : Control) → Beside (links rd target) control
    links-alike rd target control =
        either (target % 4 == 0) _ _ _ _ (Move _ _ _ (jumped target control))
        (stopped (FetchUnaligned control.pc) control)

    branches-alike : (taken offset : ℕ) (control : Control) → Beside (branches taken offset) control
    branches-alike taken offset control =
        either (taken == 0) _ _ _ _ (goes control)
        (either (((control.pc + offset) % 2 ^ 32) % 4 == 0) _ _ _ _ (jumped ((control.pc + offset) % 2 ^ 32) control)
        (stopped (FetchUnaligned control.pc) control))

    load-alike : (kind : LoadKind) (rd address : ℕ) (setting : Setting) (control : Control) →
        Beside (λ now. load_checked kind rd setting now address) control
    load-alike kind rd address setting control =
        either (is_inside setting.base address (load_size kind)) _ _ _ _ (Pass _ _ _ _ refl (goes control))
        (stopped (LoadOutside control.pc address) control)

    put-alike : (kind : StoreKind) (address : ℕ) (control : Control) → Beside (store_at kind address) control
    put-alike Sb address control = Move _ _ _ (goes control)
    put-alike Sh address control = Move _ _ _ (Move _ _ _ (goes control))
    put-alike Sw address control = Move _ _ _ (Move _ _ _ (Move _ _ _ (Move _ _ _ (goes control))))

    store-alike : (kind : StoreKind) (address : ℕ) (setting : Setting) (control : Control) →
        Beside (λ now. store_checked kind setting now address) control
    store-alike kind address setting control =
        either (is_inside setting.base address (store_size kind)) _ _ _ _ (put-alike kind address control)
        (stopped (StoreOutside control.pc address) control)

  -- the bytes of a write, where so much is written
  written-alike : (count from value : ℕ) (control : Control) (masks output written : List ℕ) →
      AgreeEach masks output written → AlikeBeside masks output written (writes count from value) control
  unfolding writes emitted
  written-alike zero from value control masks output written agree =
      answer masks output written agree value control
  written-alike (suc count) from value control masks output written agree =
      Show _ _ _ refl (λ free real copy same. written-alike count (from + 1) value control (masks ++ free ∷ [])
      (output ++ real ∷ []) (written ++ copy ∷ []) (agree_one_more free real copy agree same))

  -- the same turn where another public input is seen
  module _ (masks output written : List ℕ) (agree : AgreeEach masks output written) (setting : Setting) (seen : List ℕ)
      (are : AreSeenAs public seen setting.public_input) where
    abbrev InBoth : (Setting → Control → Turn) → Control → Type 0
    InBoth turn control =
        Alike public masks mask (turn setting (with_output control output Ran))
        (turn (seeing setting seen) (with_output control written Ran))

    plan-alike : (plan : CallPlan) (control : Control) → InBoth (planned plan) control
    unfolding break_moved
    plan-alike (Answer value) control = answer masks output written agree value control
    plan-alike (PublicRead to count) control =
        public_bytes masks output written agree count to count setting.public_input seen control are
    plan-alike (SecretRead to count) control = secret masks output written agree count to count control
    plan-alike (Write from count) control = written-alike count from count control masks output written agree
    plan-alike (Brk value) control = answer masks output written agree value (break_moved value control)
    plan-alike Exit control = left masks output written agree control
    plan-alike (Stop fault) control = stopped masks output written agree fault control

    -- the plan of a read is the same, since as many bytes are left
    same_read : (control : Control) (first second third : ℕ) →
        read_plan setting control first second third ≡ read_plan (seeing setting seen) control first second third
    same_read control first second third =
        ap (λ long. if is_public_input first then public_plan setting second (bytes_read third (long - control.public_at))
        else (if is_secret_input first
        then secret_plan setting second (bytes_read third (setting.secret_length - control.secret_at))
        else Answer bad_descriptor)) are.has_length

    -- the plan of a write is the same where the outputs are as long
    module _ (control : Control) where
      abbrev Planned : CallPlan → CallPlan → Type 0
      Planned plan other =
          Alike public masks mask (planned plan setting (with_output control output Ran))
          (planned other (seeing setting seen) (with_output control written Ran))

      either-plan : (test : Bool) (plan other to otherwise : CallPlan) → Planned plan to → Planned other otherwise →
          Planned (if test then plan else other) (if test then to else otherwise)
      either-plan true plan other to otherwise p q = p
      either-plan false plan other to otherwise p q = q

      checked-alike : (check : WriteCheck) (from count : ℕ) →
          Planned (write_checked check (with_output control output Ran) from count)
          (write_checked check (with_output control written Ran) from count)
      checked-alike Append from count = written-alike count from count control masks output written agree
      checked-alike BadAddress from count = answer masks output written agree bad_address control
      checked-alike OverLimit from count = stopped masks output written agree (OutputLimit control.pc) control

      write-alike : (descriptor from count : ℕ) →
          Planned (write_plan setting (with_output control output Ran) descriptor from count)
          (write_plan setting (with_output control written Ran) descriptor from count)
      write-alike descriptor from count =
          either-plan (is_output descriptor) _ _ _ _
          (either-plan (count == 0) _ _ _ _ (answer masks output written agree 0 control)
          (subst (λ size. Planned (write_checked
          (checked_write setting.base from count (length output) setting.output_limit)
          (with_output control output Ran) from count) (write_checked
          (checked_write setting.base from count size setting.output_limit) (with_output control written Ran) from count))
          (agree_length agree)
          (checked-alike (checked_write setting.base from count (length output) setting.output_limit) from count)))
          (answer masks output written agree bad_descriptor control)

    kind-alike : (kind : CallKind) (control : Control) → InBoth (kind_row kind) control
    kind-alike Read control =
        Decide _ _ _ refl (λ first. Decide _ _ _ refl (λ second. Decide _ _ _ refl (λ third.
        subst (λ plan. Planned control (read_plan setting control first second third) plan)
        (same_read control first second third)
        (plan-alike (read_plan setting control first second third) control))))
    kind-alike WriteCall control =
        Decide _ _ _ refl (λ first. Decide _ _ _ refl (λ second. Decide _ _ _ refl (λ third.
        write-alike control first second third)))
    kind-alike ExitCall control = left masks output written agree control
    kind-alike BrkCall control =
        Decide _ _ _ refl (λ request. plan-alike (break_plan setting control request) control)
    kind-alike Unknown control = answer masks output written agree unknown_call control

    row-alike : (instr : Instr) (control : Control) → InBoth (row instr) control
    row-alike (Lui rd imm) control = Move _ _ _ (goes masks output written agree control)
    row-alike (Auipc rd imm) control = Move _ _ _ (goes masks output written agree control)
    row-alike (Jal rd offset) control =
        links-alike masks output written agree rd ((control.pc + word_of offset) % 2 ^ 32) control
    row-alike (Jalr rd rs1 imm) control =
        Pass _ _ _ _ refl (Decide _ _ _ refl (λ target.
        links-alike masks output written agree rd target control))
    row-alike (Branch kind rs1 rs2 offset) control =
        Pass _ _ _ _ refl (Pass _ _ _ _ refl (Decide _ _ _ refl (λ taken.
        branches-alike masks output written agree taken (word_of offset) control)))
    row-alike (Load kind rd rs1 imm) control =
        Pass _ _ _ _ refl (Decide _ _ _ refl (λ address.
        load-alike masks output written agree kind rd address setting control))
    row-alike (StoreInstr kind rs1 rs2 imm) control =
        Pass _ _ _ _ refl (Pass _ _ _ _ refl (Decide _ _ _ refl (λ address.
        store-alike masks output written agree kind address setting control)))
    row-alike (OpImm kind rd rs1 imm) control =
        Pass _ _ _ _ refl (Pass _ _ _ _ refl (goes masks output written agree control))
    row-alike (Op kind rd rs1 rs2) control =
        Pass _ _ _ _ refl (Pass _ _ _ _ refl (Pass _ _ _ _ refl (goes masks output written agree control)))
    row-alike (Fence rd rs1 imm) control = goes masks output written agree control
    row-alike Ecall control = Decide _ _ _ refl (λ number. kind-alike (call_kind number) control)
    row-alike Ebreak control = stopped masks output written agree (Breakpoint control.pc) control

    fetched-alike : (found : Option Instr) (word : ℕ) (control : Control) → InBoth (fetched found word) control
    fetched-alike None word control = stopped masks output written agree (Illegal control.pc word) control
    fetched-alike (Some instr) word control = row-alike instr control

    -- the turn of an instruction
    pub running_alike : (control : Control) → InBoth running control
    running_alike control =
        either masks output written agree (is_inside setting.base control.pc 4) _ _ _ _
        (Look _ (λ word. fetched-alike (decoded word) word control))
        (stopped masks output written agree (FetchOutside control.pc) control)
