-- The turn of each instruction is proper.
use Rattle.std.proofs.Common.{◌≡◌, ◌≢◌, ℕ, zero, suc, ◌+◌, ◌-◌, ◌%◌, ◌^◌, ◌≤◌, ◌<◌, ◌==◌, ◌&&◌, Bool, true, false, List}
use Rattle.std.proofs.Common.{length, refl, sym, ap, ◌∙◌, arith, nat_le, Option, Some, None}
use Rattle.std.specs.Prelude.{if◌then◌else◌, IfSome}
use Rattle.std.proofs.lemmas.Bool.{eqb-false}
use Rattle.flow_base.specs.Guests.{is_inside, memory_size}
use Rattle.flow_base.specs.declared.points.Slot.{Slot}
use Rattle.flow_base.specs.declared.points.Slot.TheVariants.{Address, Result as ResultSlot, Decision as DecisionSlot}
use Rattle.flow_base.specs.declared.points.Slot.TheVariants.{Number, Arg0, Arg1, Arg2}
use Rattle.flow_base.specs.Points.{width_of, is_output_slot}
use Rattle.rv32im_decode.specs.declared.instructions.Instr.{Instr}
use Rattle.rv32im_decode.specs.declared.instructions.Instr.TheVariants.{Lui, Auipc, Jal, Jalr, Branch, Load}
use Rattle.rv32im_decode.specs.declared.instructions.Instr.TheVariants.{Store as StoreInstr, OpImm, Op, Fence, Ecall}
use Rattle.rv32im_decode.specs.declared.instructions.Instr.TheVariants.{Ebreak}
use Rattle.rv32im_decode.specs.declared.instructions.BranchKind.{BranchKind}
use Rattle.rv32im_decode.specs.declared.instructions.LoadKind.{LoadKind}
use Rattle.rv32im_decode.specs.declared.instructions.LoadKind.TheVariants.{Lb, Lh, Lw, Lbu, Lhu}
use Rattle.rv32im_decode.specs.declared.instructions.OpKind.TheVariants.{Add}
use Rattle.rv32im_decode.specs.declared.instructions.StoreKind.{StoreKind}
use Rattle.rv32im_decode.specs.declared.instructions.StoreKind.TheVariants.{Sb, Sh, Sw}
use Rattle.rv32im_decode.specs.Operations.{word_of, operation_of, upper_of, load_size, store_size}
use Rattle.rv32im_decode.specs.Encoding.{encoded, InRange}
use Rattle.rv32im_decode.specs.Decoding.{decoded}
use Rattle.rv32im_decode.proofs.Decodes.{decoded_is}
use Rattle.guest_calls.specs.declared.kinds.CallKind.{CallKind}
use Rattle.guest_calls.specs.declared.kinds.CallKind.TheVariants.{Read, Write as WriteCall, Exit as ExitCall}
use Rattle.guest_calls.specs.declared.kinds.CallKind.TheVariants.{Brk as BrkCall, Unknown}
use Rattle.guest_calls.specs.declared.writing.WriteCheck.{WriteCheck}
use Rattle.guest_calls.specs.declared.writing.WriteCheck.TheVariants.{Append, BadAddress, OverLimit}
use Rattle.guest_calls.specs.Calls.{call_kind, unknown_call, bytes_read, is_public_input, is_secret_input}
use Rattle.guest_calls.specs.Calls.{is_output, checked_write}
use Rattle.rv32im_machine.specs.declared.stepping.Fault.{Fault}
use Rattle.rv32im_machine.specs.declared.stepping.Fault.TheVariants.{Illegal, FetchOutside, FetchUnaligned}
use Rattle.rv32im_machine.specs.declared.stepping.Fault.TheVariants.{LoadOutside, StoreOutside, Breakpoint}
use Rattle.rv32im_machine.specs.declared.stepping.Stepped.TheVariants.{Exited, Stopped}
use Rattle.rv32im_machine.specs.declared.stepping.CallPlan.{CallPlan}
use Rattle.rv32im_machine.specs.declared.stepping.CallPlan.TheVariants.{Answer, PublicRead, SecretRead, Write, Brk}
use Rattle.rv32im_machine.specs.declared.stepping.CallPlan.TheVariants.{Exit, Stop}
use Rattle.rv32im_machine.specs.declared.language.Operation.{Operation}
use Rattle.rv32im_machine.specs.declared.language.Operation.TheVariants.{Result, Decision, Target}
use Rattle.rv32im_machine.specs.declared.language.Part.TheVariants.{Byte0, Byte1, Byte2, Byte3}
use Rattle.rv32im_machine.specs.declared.language.Place.TheVariants.{Register, Byte, First, Second}
use Rattle.rv32im_machine.specs.declared.language.Shape.TheVariants.{Copied, Extended, Part as PartShape}
use Rattle.rv32im_machine.specs.declared.language.Seen.TheVariants.{Word}
use Rattle.rv32im_machine.specs.declared.language.Source.TheVariants.{At, Constant}
use Rattle.rv32im_machine.specs.declared.language.Sources.{Sources}
use Rattle.rv32im_machine.specs.declared.language.Sources.TheVariants.{One, Two}
use Rattle.rv32im_machine.specs.State.{Setting, Control, onward, moved_to, ended, public_taken}
use Rattle.rv32im_machine.specs.State.{secret_taken, break_moved, emitted}
use Rattle.rv32im_machine.specs.Language.{Turn, Looks, Passes, Decides, Moves, Ends, Shaped, Computed}
use Rattle.rv32im_machine.specs.Calls.{point, public_reads, secret_reads, writes, planned, answered, exits}
use Rattle.rv32im_machine.specs.Calls.{kind_row, call_row, public_plan, secret_plan, read_plan, write_plan}
use Rattle.rv32im_machine.specs.Calls.{break_plan, write_checked}
use Rattle.rv32im_machine.specs.Rows.{load_checked, loaded_from, store_at, store_checked, jumps, links, branches, row}
use Rattle.rv32im_machine.specs.Rows.{fetched, running, stops, first_used, second_used, addressed}
use Rattle.acceptance_law.specs.Inputs.{AreBytes, IsPassing, AreProperSources, AreOperands, operation_limit, IsProper}
use Rattle.acceptance_law.specs.ProperLaws.{ProperTurnsLaw}
use Rattle.acceptance_law.proofs.InsideMemory.{inside_begins}
use Rattle.acceptance_law.proofs.ProperValues.{computed_fits, part_fits, byte_fits, half_fits, whole_fits}
use Rattle.acceptance_law.proofs.ProperValues.{fits_12, fits_immediate}

-- ---- the control

abbrev IsControl : ℕ → Control → Type 0
IsControl region control = (control.current_break < 2 ^ 32) × (control.region ≡ region)

goes : (region : ℕ) (control : Control) → IsControl region control → IsControl region (onward control)
unfolding onward
goes region control is = is

jumped : (region pc : ℕ) (control : Control) → IsControl region control → IsControl region (moved_to pc control)
unfolding moved_to
jumped region pc control is = is

over : (region : ℕ) (mode : _) (control : Control) → IsControl region control → IsControl region (ended mode control)
unfolding ended
over region mode control is = is

next_public : (region : ℕ) (control : Control) → IsControl region control → IsControl region (public_taken control)
unfolding public_taken
next_public region control is = is

next_secret : (region : ℕ) (control : Control) → IsControl region control → IsControl region (secret_taken control)
unfolding secret_taken
next_secret region control is = is

moved : (region value : ℕ) (control : Control) → value < 2 ^ 32 → IsControl region control →
    IsControl region (break_moved value control)
unfolding break_moved
moved region value control fits is = (fits, is.1)

put_out : (region byte : ℕ) (control : Control) → IsControl region control → IsControl region (emitted byte control)
unfolding emitted
put_out region byte control is = is

-- ---- the parts of a turn

module _ (base region : ℕ) where
  ends : (control : Control) → IsControl region control → IsProper base region (Ends control)
  unfolding IsProper
  ends control is = is

  either : (test : Bool) (t u : Turn) → (test ≡ true → IsProper base region t) → IsProper base region u →
      IsProper base region (if test then t else u)
  either true t u p q = p refl
  either false t u p q = q

  stopped : (fault : Fault) (control : Control) → IsControl region control → IsProper base region (stops fault control)
  stopped fault control is = ends (ended (Stopped fault) control) (over region (Stopped fault) control is)

  first-used : (rs1 : ℕ) (control : Control) (turn : Turn) → control.region ≡ region → IsProper base region turn →
      IsProper base region (first_used rs1 control turn)
  unfolding IsProper
  first-used rs1 control turn is rest = (
    record { inside = is; no_output = refl; named = tt; fits = λ value h. h },
    (tt, omega arith),
    rest,
  )

  second-used : (rs2 : ℕ) (control : Control) (turn : Turn) → control.region ≡ region → IsProper base region turn →
      IsProper base region (second_used rs2 control turn)
  unfolding IsProper
  second-used rs2 control turn is rest = (
    record { inside = is; no_output = refl; named = tt; fits = λ value h. h },
    (tt, omega arith),
    rest,
  )

  -- what is computed passes a slot
  computes : (control : Control) (slot : Slot) (operation : Operation) (sources : Sources) → control.region ≡ region →
      is_output_slot slot ≡ false → AreProperSources base sources → AreOperands operation sources →
      width_of slot ≡ operation_limit operation →
      IsPassing base region (point control slot) (Computed operation) sources
  computes control slot operation sources is no_output named operands width = record {
    inside = is;
    no_output = no_output;
    named = named;
    fits = (operands, width, computed_fits operation);
  }

  addresses : (immediate : ℕ) (control : Control) (go : ℕ → Turn) → control.region ≡ region → immediate < 2 ^ 32 →
      ((address : ℕ) → IsProper base region (go address)) → IsProper base region (addressed immediate control go)
  unfolding IsProper
  addresses immediate control go is word rest = (
    computes control Address (Result Add) (Two (At First) (Constant immediate)) is refl (tt, word) tt refl,
    λ address h. rest address,
  )

  -- a register is passed and decides
  copies : (control : Control) (slot : Slot) (register : ℕ) → control.region ≡ region → is_output_slot slot ≡ false →
      width_of slot ≡ 4294967295 →
      IsPassing base region (point control slot) (Shaped Copied) (One (At (Register register)))
  copies control slot register is no_output width = record {
    inside = is;
    no_output = no_output;
    named = tt;
    fits = λ value h. omega (arith, h, width);
  }

  -- ---- instructions

  jump-proper : (target : ℕ) (control : Control) → IsControl region control →
      IsProper base region (jumps target control)
  jump-proper target control is =
      either (target % 4 == 0) _ _ (λ aligned. ends (moved_to target control) (jumped region target control is))
      (stopped (FetchUnaligned control.pc) control is)

  put-register : (register value : ℕ) (turn : Turn) → value < 2 ^ 32 → IsProper base region turn →
      IsProper base region (Moves (Register register) Copied (Constant value) turn)
  unfolding IsProper
  put-register register value turn word rest = ((tt, omega arith), rest)

  link_proper : (rd target : ℕ) (control : Control) → IsControl region control →
      IsProper base region (links rd target control)
  link_proper rd target control is =
      either (target % 4 == 0) _ _
      (λ aligned. put-register rd ((control.pc + 4) % 2 ^ 32) (Ends (moved_to target control)) (omega arith)
      (ends (moved_to target control) (jumped region target control is)))
      (stopped (FetchUnaligned control.pc) control is)

  branch-proper : (taken offset : ℕ) (control : Control) → IsControl region control →
      IsProper base region (branches taken offset control)
  branch-proper taken offset control is =
      either (taken == 0) _ _ (λ none. ends (onward control) (goes region control is))
      (jump-proper ((control.pc + offset) % 2 ^ 32) control is)

  loads : (kind : LoadKind) (rd address : ℕ) (control : Control) → IsControl region control → base ≤ address →
      IsPassing base region (point control ResultSlot) (Shaped (Extended kind)) (loaded_from kind address)
  loads Lb rd address control is low =
      record { inside = is.1; no_output = refl; named = low; fits = λ a p. byte_fits Lb a p }
  loads Lbu rd address control is low =
      record { inside = is.1; no_output = refl; named = low; fits = λ a p. byte_fits Lbu a p }
  loads Lh rd address control is low =
      record { inside = is.1; no_output = refl; named = low; fits = λ a b p q. half_fits Lh a b p q }
  loads Lhu rd address control is low =
      record { inside = is.1; no_output = refl; named = low; fits = λ a b p q. half_fits Lhu a b p q }
  loads Lw rd address control is low =
      record { inside = is.1; no_output = refl; named = low; fits = λ a b c d p q r s. whole_fits Lw a b c d p q r s }

  load-some : (kind : LoadKind) → 0 < load_size kind
  load-some Lb = omega arith
  load-some Lbu = omega arith
  load-some Lh = omega arith
  load-some Lhu = omega arith
  load-some Lw = omega arith

  store-some : (kind : StoreKind) → 0 < store_size kind
  store-some Sb = omega arith
  store-some Sh = omega arith
  store-some Sw = omega arith

  put-result : (control : Control) (rd : ℕ) (making : _) (sources : Sources) →
      IsPassing base region (point control ResultSlot) making sources → IsControl region control →
      IsProper base region (Passes (point control ResultSlot) (Register rd) making sources (Ends (onward control)))
  unfolding IsProper
  put-result control rd making sources passing is = (passing, (tt, omega arith), goes region control is)

  load-proper : (kind : LoadKind) (rd address : ℕ) (setting : Setting) (control : Control) → setting.base ≡ base →
      IsControl region control → IsProper base region (load_checked kind rd setting control address)
  load-proper kind rd address setting control same is =
      either (is_inside setting.base address (load_size kind)) _ _
      (λ inside. put-result control rd (Shaped (Extended kind)) (loaded_from kind address)
      (loads kind rd address control is (inside_begins base address (load_size kind) (load-some kind)
      (ap (λ b. is_inside b address (load_size kind)) (sym same) ∙ inside))) is)
      (stopped (LoadOutside control.pc address) control is)

  put-byte : (address : ℕ) (part : _) (turn : Turn) → base ≤ address → IsProper base region turn →
      IsProper base region (Moves (Byte address) (PartShape part) (At Second) turn)
  unfolding IsProper
  put-byte address part turn low rest = ((low, tt, λ value h. part_fits part value), rest)

  store-at : (kind : StoreKind) (address : ℕ) (control : Control) → base ≤ address → IsControl region control →
      IsProper base region (store_at kind address control)
  store-at Sb address control low is = put-byte address Byte0 _ low (ends (onward control) (goes region control is))
  store-at Sh address control low is =
      put-byte address Byte0 _ low (put-byte (address + 1) Byte1 _ (omega arith)
      (ends (onward control) (goes region control is)))
  store-at Sw address control low is =
      put-byte address Byte0 _ low (put-byte (address + 1) Byte1 _ (omega arith)
      (put-byte (address + 2) Byte2 _ (omega arith) (put-byte (address + 3) Byte3 _ (omega arith)
      (ends (onward control) (goes region control is)))))

  store-proper : (kind : StoreKind) (address : ℕ) (setting : Setting) (control : Control) → setting.base ≡ base →
      IsControl region control → IsProper base region (store_checked kind setting control address)
  store-proper kind address setting control same is =
      either (is_inside setting.base address (store_size kind)) _ _
      (λ inside. store-at kind address control (inside_begins base address (store_size kind) (store-some kind)
      (ap (λ b. is_inside b address (store_size kind)) (sym same) ∙ inside)) is)
      (stopped (StoreOutside control.pc address) control is)

  -- ---- calls

  answer-proper : (answer : ℕ) (control : Control) → answer < 2 ^ 32 → IsControl region control →
      IsProper base region (answered answer control)
  answer-proper answer control word is =
      put-register 10 answer (Ends (onward control)) word (ends (onward control) (goes region control is))

  public-proper : (count to answer : ℕ) (input : List ℕ) (control : Control) → answer < 2 ^ 32 → AreBytes input →
      base ≤ to → IsControl region control → IsProper base region (public_reads count to answer input control)
  unfolding public_reads IsProper
  public-proper zero to answer input control word bytes low is = answer-proper answer control word is
  public-proper (suc count) to answer input control word bytes low is = (
    (low, (let byte = bytes control.public_at in omega (arith, byte))),
    public-proper count (to + 1) answer input (public_taken control) word bytes (omega arith)
        (next_public region control is),
  )

  secret-proper : (count to answer : ℕ) (control : Control) → answer < 2 ^ 32 → base ≤ to → IsControl region control →
      IsProper base region (secret_reads count to answer control)
  unfolding secret_reads IsProper
  secret-proper zero to answer control word low is = answer-proper answer control word is
  secret-proper (suc count) to answer control word low is = (
    record { inside = is.1; no_output = refl; named = tt; fits = λ value h. h },
    (low, omega arith),
    secret-proper count (to + 1) answer (secret_taken control) word (omega arith) (next_secret region control is),
  )

  write-proper : (count from answer : ℕ) (control : Control) → answer < 2 ^ 32 → base ≤ from →
      IsControl region control → IsProper base region (writes count from answer control)
  unfolding writes IsProper
  write-proper zero from answer control word low is = answer-proper answer control word is
  write-proper (suc count) from answer control word low is = (
    record { inside = is.1; no_output = refl; named = low; fits = λ value h. h },
    λ byte h. write-proper count (from + 1) answer (emitted byte control) word (omega arith)
        (put_out region byte control is),
  )

  exit-proper : (control : Control) → IsControl region control → IsProper base region (exits control)
  unfolding IsProper
  exit-proper control is = (
    record { inside = is.1; no_output = refl; named = tt; fits = λ value h. part_fits Byte0 value },
    λ status h. over region (Exited status) control is,
  )

  -- a plan whose bytes do not lie below guest memory, with words for answers
  abbrev IsPlan : CallPlan → Type 0
  IsPlan (Answer answer) = answer < 2 ^ 32
  IsPlan (PublicRead to count) = (base ≤ to) × (count < 2 ^ 32)
  IsPlan (SecretRead to count) = (base ≤ to) × (count < 2 ^ 32)
  IsPlan (Write from count) = (base ≤ from) × (count < 2 ^ 32)
  IsPlan (Brk value) = value < 2 ^ 32
  IsPlan Exit = Unit {0}
  IsPlan (Stop fault) = Unit {0}

  plan-proper : (plan : CallPlan) (setting : Setting) (control : Control) → IsPlan plan →
      AreBytes setting.public_input → IsControl region control → IsProper base region (planned plan setting control)
  plan-proper (Answer answer) setting control known bytes is = answer-proper answer control known is
  plan-proper (PublicRead to count) setting control known bytes is =
      public-proper count to count setting.public_input control known.1 bytes known.0 is
  plan-proper (SecretRead to count) setting control known bytes is =
      secret-proper count to count control known.1 known.0 is
  plan-proper (Write from count) setting control known bytes is =
      write-proper count from count control known.1 known.0 is
  plan-proper (Brk value) setting control known bytes is =
      answer-proper value (break_moved value control) known (moved region value control known is)
  plan-proper Exit setting control known bytes is = exit-proper control is
  plan-proper (Stop fault) setting control known bytes is =
      ends (ended (Stopped fault) control) (over region (Stopped fault) control is)

  either-plan : (test : Bool) (x y : CallPlan) → (test ≡ true → IsPlan x) → (test ≡ false → IsPlan y) →
      IsPlan (if test then x else y)
  either-plan true x y p q = p refl
  either-plan false x y p q = q refl

  some-count : (count : ℕ) → (count == 0) ≡ false → 0 < count
  some-count count some = let other : count ≢ 0 = eqb-false count 0 some in omega arith

  public-plan : (setting : Setting) (to count : ℕ) → setting.base ≡ base → count < 2 ^ 32 →
      IsPlan (public_plan setting to count)
  public-plan setting to count same word =
      either-plan (count == 0) _ _ (λ none. omega arith)
      (λ some. either-plan (is_inside setting.base to count) _ _
      (λ inside.
      (inside_begins base to count (some-count count some) (ap (λ b. is_inside b to count) (sym same) ∙ inside), word))
      (λ outside. omega arith))

  secret-plan : (setting : Setting) (to count : ℕ) → setting.base ≡ base → count < 2 ^ 32 →
      IsPlan (secret_plan setting to count)
  secret-plan setting to count same word =
      either-plan (count == 0) _ _ (λ none. omega arith)
      (λ some. either-plan (is_inside setting.base to count) _ _
      (λ inside.
      (inside_begins base to count (some-count count some) (ap (λ b. is_inside b to count) (sym same) ∙ inside), word))
      (λ outside. omega arith))

  read-plan : (setting : Setting) (control : Control) (descriptor to count : ℕ) → setting.base ≡ base →
      count < 2 ^ 32 → IsPlan (read_plan setting control descriptor to count)
  read-plan setting control descriptor to count same word =
      either-plan (is_public_input descriptor) _ _
      (λ public. public-plan setting to (bytes_read count (length setting.public_input - control.public_at)) same
      (omega arith))
      (λ other. either-plan (is_secret_input descriptor) _ _
      (λ secret. secret-plan setting to (bytes_read count (setting.secret_length - control.secret_at)) same
      (omega arith))
      (λ none. omega arith))

  abbrev HasPlace : ℕ → WriteCheck → Type 0
  HasPlace from Append = base ≤ from
  HasPlace from BadAddress = Unit {0}
  HasPlace from OverLimit = Unit {0}

  either-check : (from : ℕ) (test : Bool) (x y : WriteCheck) → (test ≡ true → HasPlace from x) →
      (test ≡ false → HasPlace from y) → HasPlace from (if test then x else y)
  either-check from true x y p q = p refl
  either-check from false x y p q = q refl

  check-place : (from count written limit start : ℕ) → start ≡ base → (count == 0) ≡ false →
      HasPlace from (checked_write start from count written limit)
  check-place from count written limit start same some =
      either-check from (count == 0) _ _ (λ none. absurd (cc))
      (λ other. either-check from (is_inside start from count) _ _
      (λ inside. either-check from (nat_le (written + count) limit) _ _
      (λ within. inside_begins base from count (some-count count some)
      (ap (λ b. is_inside b from count) (sym same) ∙ inside))
      (λ beyond. tt))
      (λ outside. tt))

  checked-plan : (check : WriteCheck) (control : Control) (from count : ℕ) → HasPlace from check → count < 2 ^ 32 →
      IsPlan (write_checked check control from count)
  checked-plan Append control from count place word = (place, word)
  checked-plan BadAddress control from count place word = omega arith
  checked-plan OverLimit control from count place word = tt

  write-plan : (setting : Setting) (control : Control) (descriptor from count : ℕ) → setting.base ≡ base →
      count < 2 ^ 32 → IsPlan (write_plan setting control descriptor from count)
  write-plan setting control descriptor from count same word =
      either-plan (is_output descriptor) _ _
      (λ output. either-plan (count == 0) _ _ (λ none. omega arith)
      (λ some. checked-plan (checked_write setting.base from count (length control.output) setting.output_limit) control
      from count (check-place from count (length control.output) setting.output_limit setting.base same some) word))
      (λ none. omega arith)

  either-word : (test : Bool) (a b : ℕ) → a < 2 ^ 32 → b < 2 ^ 32 → (if test then a else b) < 2 ^ 32
  either-word true a b p q = p
  either-word false a b p q = q

  break-plan : (setting : Setting) (control : Control) (request : ℕ) → request < 2 ^ 32 →
      control.current_break < 2 ^ 32 → IsPlan (break_plan setting control request)
  break-plan setting control request word now =
      either-word (nat_le setting.start_break request && nat_le request (setting.base + memory_size)) request
      control.current_break word now

  kind-proper : (kind : CallKind) (setting : Setting) (control : Control) → setting.base ≡ base →
      AreBytes setting.public_input → IsControl region control → IsProper base region (kind_row kind setting control)
  unfolding IsProper
  kind-proper Read setting control same bytes is = (
    copies control Arg0 10 is.1 refl refl,
    λ first p. (
      copies control Arg1 11 is.1 refl refl,
      λ second q. (
        copies control Arg2 12 is.1 refl refl,
        λ third r. plan-proper (read_plan setting control first second third) setting control
            (read-plan setting control first second third same r) bytes is,
      ),
    ),
  )
  kind-proper WriteCall setting control same bytes is = (
    copies control Arg0 10 is.1 refl refl,
    λ first p. (
      copies control Arg1 11 is.1 refl refl,
      λ second q. (
        copies control Arg2 12 is.1 refl refl,
        λ third r. plan-proper (write_plan setting control first second third) setting control
            (write-plan setting control first second third same r) bytes is,
      ),
    ),
  )
  kind-proper ExitCall setting control same bytes is = exit-proper control is
  kind-proper BrkCall setting control same bytes is = (
    copies control Arg0 10 is.1 refl refl,
    λ request p. plan-proper (break_plan setting control request) setting control
        (break-plan setting control request p is.0) bytes is,
  )
  kind-proper Unknown setting control same bytes is = answer-proper unknown_call control (omega arith) is

  -- ---- rows

  target-proper : (rd immediate : ℕ) (control : Control) → immediate < 2 ^ 32 → IsControl region control →
      IsProper base region (Decides (point control Address) (Computed Target) (Two (At First) (Constant immediate))
      (λ target. links rd target control))
  unfolding IsProper
  target-proper rd immediate control word is = (
    computes control Address Target (Two (At First) (Constant immediate)) is.1 refl (tt, word) tt refl,
    λ target h. link_proper rd target control is,
  )

  decision-proper : (kind : BranchKind) (offset : ℕ) (control : Control) → IsControl region control →
      IsProper base region (Decides (point control DecisionSlot) (Computed (Decision kind)) (Two (At First) (At Second))
      (λ taken. branches taken offset control))
  unfolding IsProper
  decision-proper kind offset control is = (
    computes control DecisionSlot (Decision kind) (Two (At First) (At Second)) is.1 refl (tt, tt) tt refl,
    λ taken h. branch-proper taken offset control is,
  )

  call-proper : (setting : Setting) (control : Control) → setting.base ≡ base → AreBytes setting.public_input →
      IsControl region control →
      IsProper base region (Decides (point control Number) (Shaped Copied) (One (At (Register 17))) (λ number.
      call_row number setting control))
  unfolding IsProper
  call-proper setting control same bytes is = (
    copies control Number 17 is.1 refl refl,
    λ number h. kind-proper (call_kind number) setting control same bytes is,
  )

  row-proper : (instr : Instr) (setting : Setting) (control : Control) → InRange instr → setting.base ≡ base →
      AreBytes setting.public_input → IsControl region control → IsProper base region (row instr setting control)
  row-proper (Lui rd imm) setting control range same bytes is =
      put-register rd (upper_of imm) (Ends (onward control)) (omega arith)
      (ends (onward control) (goes region control is))
  row-proper (Auipc rd imm) setting control range same bytes is =
      put-register rd ((control.pc + upper_of imm) % 2 ^ 32) (Ends (onward control)) (omega arith)
      (ends (onward control) (goes region control is))
  row-proper (Jal rd offset) setting control range same bytes is =
      link_proper rd ((control.pc + word_of offset) % 2 ^ 32) control is
  row-proper (Jalr rd rs1 imm) setting control range same bytes is =
      first-used rs1 control _ is.1 (target-proper rd (word_of imm) control (fits_12 imm range.2) is)
  row-proper (Branch kind rs1 rs2 offset) setting control range same bytes is =
      first-used rs1 control _ is.1 (second-used rs2 control _ is.1
      (decision-proper kind (word_of offset) control is))
  row-proper (Load kind rd rs1 imm) setting control range same bytes is =
      first-used rs1 control _ is.1 (addresses (word_of imm) control _ is.1 (fits_12 imm range.2)
      (λ address. load-proper kind rd address setting control same is))
  row-proper (StoreInstr kind rs1 rs2 imm) setting control range same bytes is =
      first-used rs1 control _ is.1 (second-used rs2 control _ is.1 (addresses (word_of imm) control _ is.1
      (fits_12 imm range.2) (λ address. store-proper kind address setting control same is)))
  row-proper (OpImm kind rd rs1 imm) setting control range same bytes is =
      first-used rs1 control _ is.1 (put-result control rd (Computed (Result (operation_of kind)))
      (Two (At First) (Constant (word_of imm)))
      (computes control ResultSlot (Result (operation_of kind)) (Two (At First) (Constant (word_of imm))) is.1 refl
      (tt, fits_immediate kind imm range.2) tt refl) is)
  row-proper (Op kind rd rs1 rs2) setting control range same bytes is =
      first-used rs1 control _ is.1 (second-used rs2 control _ is.1 (put-result control rd (Computed (Result kind))
      (Two (At First) (At Second))
      (computes control ResultSlot (Result kind) (Two (At First) (At Second)) is.1 refl (tt, tt) tt refl) is))
  row-proper (Fence rd rs1 imm) setting control range same bytes is =
      ends (onward control) (goes region control is)
  row-proper Ecall setting control range same bytes is = call-proper setting control same bytes is
  row-proper Ebreak setting control range same bytes is = stopped (Breakpoint control.pc) control is

  fetched-proper : (found : Option Instr) (word : ℕ) (setting : Setting) (control : Control) →
      IfSome found (λ instr. InRange instr × (encoded instr ≡ word)) → setting.base ≡ base →
      AreBytes setting.public_input → IsControl region control →
      IsProper base region (fetched found word setting control)
  fetched-proper None word setting control range same bytes is = stopped (Illegal control.pc word) control is
  fetched-proper (Some instr) word setting control range same bytes is =
      row-proper instr setting control range.0 same bytes is

  looks-proper : (setting : Setting) (control : Control) → base ≤ control.pc → setting.base ≡ base →
      AreBytes setting.public_input → IsControl region control →
      IsProper base region (Looks (Word control.pc) (λ word. fetched (decoded word) word setting control))
  unfolding IsProper
  looks-proper setting control low same bytes is = (
    low,
    λ word h. fetched-proper (decoded word) word setting control (decoded_is word h) same bytes is,
  )

  running-proper : (setting : Setting) (control : Control) → setting.base ≡ base → AreBytes setting.public_input →
      IsControl region control → IsProper base region (running setting control)
  running-proper setting control same bytes is =
      either (is_inside setting.base control.pc 4) _ _
      (λ inside. looks-proper setting control (inside_begins base control.pc 4 (omega arith)
      (ap (λ b. is_inside b control.pc 4) (sym same) ∙ inside)) same bytes is)
      (stopped (FetchOutside control.pc) control is)

pub proper_law : ProperTurnsLaw
proper_law state guest =
    running-proper state.setting.base state.control.region state.setting state.control refl guest.public_input
    (guest.current_break, refl)
