-- The guest's calls: what each does once its arguments have gone on. In a plan no value of memory is named.
use Rattle.std.specs.Prelude.{◌≤◌, IsTrue, ℕ, zero, suc, ◌+◌, ◌-◌, ◌^◌, ◌==◌, List, length, slice_index, if◌then◌else◌}
use Rattle.flow_base.specs.Guests.{is_inside, memory_size}
use Rattle.flow_base.specs.declared.points.Point.{Point}
use Rattle.flow_base.specs.declared.points.Slot.{Slot}
use Rattle.flow_base.specs.declared.points.Slot.TheVariants.{Arg0, Arg1, Arg2, SecretIn, ByteOut, Status}
use Rattle.guest_calls.specs.declared.kinds.CallKind.{CallKind}
use Rattle.guest_calls.specs.declared.kinds.CallKind.TheVariants.{Read, Write as WriteCall, Exit as ExitCall, Brk as BrkCall, Unknown}
use Rattle.guest_calls.specs.declared.writing.WriteCheck.{WriteCheck}
use Rattle.guest_calls.specs.declared.writing.WriteCheck.TheVariants.{Append, BadAddress, OverLimit}
use Rattle.guest_calls.specs.Calls.{call_kind, is_public_input, is_secret_input, is_output, bad_descriptor, bad_address, unknown_call, bytes_read, checked_write, moved_break}
use Rattle.rv32im_machine.specs.declared.stepping.Fault.TheVariants.{OutputLimit}
use Rattle.rv32im_machine.specs.declared.stepping.Stepped.TheVariants.{Exited, Stopped}
use Rattle.rv32im_machine.specs.declared.stepping.Arguments.{Arguments}
use Rattle.rv32im_machine.specs.declared.stepping.CallPlan.{CallPlan}
use Rattle.rv32im_machine.specs.declared.stepping.CallPlan.TheVariants.{Answer, PublicRead, SecretRead, Write, Brk, Exit, Stop}
use Rattle.rv32im_machine.specs.declared.language.Place.TheVariants.{Register, Byte}
use Rattle.rv32im_machine.specs.declared.language.Source.TheVariants.{At, Constant, Secret}
use Rattle.rv32im_machine.specs.declared.language.Sources.TheVariants.{One}
use Rattle.rv32im_machine.specs.declared.language.Part.TheVariants.{Byte0}
use Rattle.rv32im_machine.specs.declared.language.Shape.TheVariants.{Copied, Part as PartShape}
use Rattle.rv32im_machine.specs.State.{Setting, Control, State, onward, ended, public_taken, secret_taken, break_moved, emitted}
use Rattle.rv32im_machine.specs.Language.{Turn, Passes, Decides, Moves, Ends, Shaped}

-- where a slot of this turn is passed
abbrev pub point : Control → Slot → Point
point control slot = record { region = control.region; address = control.pc; slot = slot }

-- ---- what each call does

-- a read of so many of the bytes that are left, where they are inside guest memory
abbrev pub public_plan : Setting → ℕ → ℕ → CallPlan
public_plan setting to count =
    if count == 0 then Answer 0
    else (if is_inside setting.base to count then PublicRead to count else Answer bad_address)

abbrev pub secret_plan : Setting → ℕ → ℕ → CallPlan
secret_plan setting to count =
    if count == 0 then Answer 0
    else (if is_inside setting.base to count then SecretRead to count else Answer bad_address)

abbrev pub read_plan : Setting → Control → ℕ → ℕ → ℕ → CallPlan
read_plan setting control descriptor to count =
    if is_public_input descriptor
    then public_plan setting to (bytes_read count (length setting.public_input - control.public_at))
    else (if is_secret_input descriptor
    then secret_plan setting to (bytes_read count (setting.secret_length - control.secret_at))
    else Answer bad_descriptor)

-- a write, once it is checked
abbrev pub write_checked : WriteCheck → Control → ℕ → ℕ → CallPlan
write_checked Append control from count = Write from count
write_checked BadAddress control from count = Answer bad_address
write_checked OverLimit control from count = Stop (OutputLimit control.pc)

abbrev pub append_plan : Setting → Control → ℕ → ℕ → CallPlan
append_plan setting control from count =
    if count == 0 then Answer 0
    else write_checked (checked_write setting.base from count (length control.output) setting.output_limit)
    control from count

abbrev pub write_plan : Setting → Control → ℕ → ℕ → ℕ → CallPlan
write_plan setting control descriptor from count =
    if is_output descriptor then append_plan setting control from count else Answer bad_descriptor

-- the break moves from the starting break up to the end of guest memory
abbrev pub break_plan : Setting → Control → ℕ → CallPlan
break_plan setting control request =
    Brk (moved_break setting.start_break control.current_break (setting.base + memory_size) request)

-- the plan of a call with these arguments
abbrev pub kind_plan : CallKind → Setting → Control → Arguments → CallPlan
kind_plan Read setting control arguments =
    read_plan setting control arguments.first arguments.second arguments.third
kind_plan WriteCall setting control arguments =
    write_plan setting control arguments.first arguments.second arguments.third
kind_plan ExitCall setting control arguments = Exit
kind_plan BrkCall setting control arguments = break_plan setting control arguments.first
kind_plan Unknown setting control arguments = Answer unknown_call

abbrev pub plan_of : Setting → Control → Arguments → CallPlan
plan_of setting control arguments = kind_plan (call_kind arguments.number) setting control arguments

-- what a plan needs of a state, so that it can be carried out
abbrev pub MayPerform : CallPlan → State → Type 0
MayPerform (Answer answer) state = Unit {0}
MayPerform (PublicRead to count) state =
    IsTrue (is_inside state.setting.base to count) × (to + count ≤ 2 ^ 32)
    × (state.control.public_at + count ≤ length state.setting.public_input)
MayPerform (SecretRead to count) state =
    IsTrue (is_inside state.setting.base to count) × (to + count ≤ 2 ^ 32)
    × (state.control.secret_at + count ≤ state.setting.secret_length)
MayPerform (Write from count) state =
    IsTrue (is_inside state.setting.base from count) × (from + count ≤ 2 ^ 32)
    × (length state.control.output + count ≤ state.setting.output_limit)
MayPerform (Brk value) state = Unit {0}
MayPerform Exit state = Unit {0}
MayPerform (Stop fault) state = Unit {0}

-- ---- the turns

-- the answer goes to a0
abbrev pub answered : ℕ → Control → Turn
answered answer control = Moves (Register 10) Copied (Constant answer) (Ends (onward control))

-- the next bytes of the public input, one after another, to memory from an address on; no slot is passed
unfoldable pub public_reads : ℕ → ℕ → ℕ → List ℕ → Control → Turn
public_reads zero to answer input control = answered answer control
public_reads (suc count) to answer input control =
    Moves (Byte to) Copied (Constant (slice_index input control.public_at))
    (public_reads count (to + 1) answer input (public_taken control))

-- the next secret bytes, one after another, to memory from an address on
unfoldable pub secret_reads : ℕ → ℕ → ℕ → Control → Turn
secret_reads zero to answer control = answered answer control
secret_reads (suc count) to answer control =
    Passes (point control SecretIn) (Byte to) (Shaped Copied) (One (Secret control.secret_at))
    (secret_reads count (to + 1) answer (secret_taken control))

-- the bytes of memory from an address on, one after another, to the output
unfoldable pub writes : ℕ → ℕ → ℕ → Control → Turn
writes zero from answer control = answered answer control
writes (suc count) from answer control =
    Decides (point control ByteOut) (Shaped Copied) (One (At (Byte from)))
    (λ byte. writes count (from + 1) answer (emitted byte control))

-- the low 8 bits of a0 are the exit status
abbrev pub exits : Control → Turn
exits control =
    Decides (point control Status) (Shaped (PartShape Byte0)) (One (At (Register 10))) (λ status.
    Ends (ended (Exited status) control))

abbrev pub planned : CallPlan → Setting → Control → Turn
planned (Answer answer) setting control = answered answer control
planned (PublicRead to count) setting control = public_reads count to count setting.public_input control
planned (SecretRead to count) setting control = secret_reads count to count control
planned (Write from count) setting control = writes count from count control
planned (Brk value) setting control = answered value (break_moved value control)
planned Exit setting control = exits control
planned (Stop fault) setting control = Ends (ended (Stopped fault) control)

-- a0 is passed, and then the plan is carried out
abbrev pub with_first : (ℕ → CallPlan) → Setting → Control → Turn
with_first plan setting control =
    Decides (point control Arg0) (Shaped Copied) (One (At (Register 10))) (λ first.
    planned (plan first) setting control)

-- a0, a1 and a2 are passed in this order, and then the plan is carried out
abbrev pub with_arguments : (ℕ → ℕ → ℕ → CallPlan) → Setting → Control → Turn
with_arguments plan setting control =
    Decides (point control Arg0) (Shaped Copied) (One (At (Register 10))) (λ first.
    Decides (point control Arg1) (Shaped Copied) (One (At (Register 11))) (λ second.
    Decides (point control Arg2) (Shaped Copied) (One (At (Register 12))) (λ third.
    planned (plan first second third) setting control)))

abbrev pub kind_row : CallKind → Setting → Control → Turn
kind_row Read setting control = with_arguments (read_plan setting control) setting control
kind_row WriteCall setting control = with_arguments (write_plan setting control) setting control
kind_row ExitCall setting control = planned Exit setting control
kind_row BrkCall setting control = with_first (break_plan setting control) setting control
kind_row Unknown setting control = planned (Answer unknown_call) setting control

-- the call of this number
abbrev pub call_row : ℕ → Setting → Control → Turn
call_row number setting control = kind_row (call_kind number) setting control
