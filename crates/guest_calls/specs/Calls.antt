-- The guest's calls, as functions of numbers (call and error numbers are those of Linux for RISC-V).
use Rattle.std.specs.Prelude.{ℕ, ◌+◌, ◌-◌, ◌^◌, ◌==◌, ◌&&◌, ◌||◌, min, nat_le, Bool, if◌then◌else◌}
use Rattle.flow_base.specs.Guests.{is_inside}
use Rattle.guest_calls.specs.declared.kinds.CallKind.{CallKind}
use Rattle.guest_calls.specs.declared.kinds.CallKind.TheVariants.{Read, Write, Exit, Brk, Unknown}
use Rattle.guest_calls.specs.declared.writing.WriteCheck.{WriteCheck}
use Rattle.guest_calls.specs.declared.writing.WriteCheck.TheVariants.{Append, BadAddress, OverLimit}

-- read is 63, write 64, exit 93, exit_group 94 and brk 214
abbrev pub call_kind : ℕ → CallKind
call_kind number =
    if number == 63 then Read
    else (if number == 64 then Write
    else (if (number == 93) || (number == 94) then Exit
    else (if number == 214 then Brk else Unknown)))

-- ---- descriptors

-- descriptor 0 is the public input
abbrev pub is_public_input : ℕ → Bool
is_public_input descriptor = descriptor == 0

-- descriptor 3 is the secret input
abbrev pub is_secret_input : ℕ → Bool
is_secret_input descriptor = descriptor == 3

-- descriptors 1 and 2 both append to the one output
abbrev pub is_output : ℕ → Bool
is_output descriptor = (descriptor == 1) || (descriptor == 2)

-- ---- answers that are errors, as words

-- another descriptor: -9 (EBADF)
abbrev pub bad_descriptor : ℕ
bad_descriptor = 2 ^ 32 - 9

-- bytes that are not inside guest memory: -14 (EFAULT)
abbrev pub bad_address : ℕ
bad_address = 2 ^ 32 - 14

-- an unknown call: -38 (ENOSYS)
abbrev pub unknown_call : ℕ
unknown_call = 2 ^ 32 - 38

-- ---- read, write and brk

-- a read reads as many bytes as are asked for, or as are left
abbrev pub bytes_read : ℕ → ℕ → ℕ
bytes_read count left = min count left

-- a write of no bytes appends none; of others, each is inside guest memory, and then the output stays within its limit
abbrev pub checked_write : ℕ → ℕ → ℕ → ℕ → ℕ → WriteCheck
checked_write base address count written limit =
    if count == 0 then Append
    else (if is_inside base address count
    then (if nat_le (written + count) limit then Append else OverLimit)
    else BadAddress)

-- the break after a request for another: it moves within its start and the end of guest memory
abbrev pub moved_break : ℕ → ℕ → ℕ → ℕ → ℕ
moved_break start now end request = if nat_le start request && nat_le request end then request else now
