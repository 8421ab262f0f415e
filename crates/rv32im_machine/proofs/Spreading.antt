-- The bytes of guest memory from its two parts, and what becomes of them where one part changes.
use Rattle.std.proofs.Common.{◌≡◌, ℕ, ◌+◌, ◌-◌, ◌*◌, ◌%◌, ◌<◌, ◌≤◌, List, [], ◌++◌, length, take, drop, replicate, slice_index, slice_range, slice_set, refl, sym, ap, ◌∙◌, arith, length-append}
use Rattle.std.proofs.lemmas.List.{append_assoc, get_or_append_left, get_or-append_right, get_or-replicate, length-set, length-replicate, replicate-append-replicate, set-append_left, set-append_right, take_all, take-append-le, take-append-drop, take-take, take_at, drop_at, drop-take, drop-append-le, drop-drop, length-take-le}
use Rattle.flow_base.specs.Guests.{memory_size}
use Rattle.rv32im_machine.specs.Start.{laid_at, zeros}
use Rattle.rv32im_machine.specs.Private.SparseBytes.{high_size, low_room, spread}
use Rattle.rv32im_machine.proofs.Laying.{laid_at_length, zeros_byte, zeros_length}
use Rattle.rv32im_machine.proofs.Standings.{piece_byte}

pub spread_length : (low high : List ℕ) → length low ≤ low_room → length high ≡ high_size
    → length (spread low high) ≡ memory_size
unfolding spread
spread_length low high fits whole =
    length-append low (zeros (low_room - length low) ++ high)
    ∙ ap (λ n. length low + n) (length-append (zeros (low_room - length low)) high)
    ∙ omega (arith, zeros_length (low_room - length low))

-- an index of the upper part, counted behind the lower part and behind what is between
past_gap : (made index : ℕ) → made ≤ low_room → low_room ≤ index
    → index - made - (low_room - made) ≡ index - low_room
past_gap made index fits above = omega arith

-- ---- one byte

pub low_byte : (low high : List ℕ) (index : ℕ) → index < length low
    → slice_index (spread low high) index ≡ slice_index low index
unfolding spread
low_byte low high index inside =
    get_or_append_left low (zeros (low_room - length low) ++ high) 0 index inside

pub gap_byte : (low high : List ℕ) (index : ℕ) → length low ≤ index → index < low_room
    → slice_index (spread low high) index ≡ 0
unfolding spread
gap_byte low high index above below =
    let gap : List ℕ = zeros (low_room - length low) in
    get_or-append_right low (gap ++ high) (length low) index 0 refl above
    ∙ get_or_append_left gap high 0 (index - length low) (omega (arith, zeros_length (low_room - length low)))
    ∙ zeros_byte (low_room - length low) (index - length low)

pub high_byte : (low high : List ℕ) (index : ℕ) → length low ≤ low_room → low_room ≤ index
    → slice_index (spread low high) index ≡ slice_index high (index - low_room)
unfolding spread
high_byte low high index fits above =
    let gap : List ℕ = zeros (low_room - length low) in
    get_or-append_right low (gap ++ high) (length low) index 0 refl (omega arith)
    ∙ get_or-append_right gap high (low_room - length low) (index - length low) 0
    (zeros_length (low_room - length low)) (omega arith)
    ∙ ap (λ (n : ℕ). slice_index high n) (past_gap (length low) index fits above)

-- ---- a byte is set

pub set_low : (low high : List ℕ) (index value : ℕ) → index < length low
    → slice_set (spread low high) index value ≡ spread (slice_set low index value) high
unfolding spread
set_low low high index value inside =
    rw (length-set low index value) (set-append_left low (zeros (low_room - length low) ++ high) index value inside)

pub set_high : (low high : List ℕ) (index value : ℕ) → length low ≤ low_room → low_room ≤ index
    → slice_set (spread low high) index value ≡ spread low (slice_set high (index - low_room) value)
unfolding spread
set_high low high index value fits above =
    let gap : List ℕ = zeros (low_room - length low) in
    set-append_right low (gap ++ high) (length low) index value refl (omega arith)
    ∙ ap (λ rest. low ++ rest) (set-append_right gap high (low_room - length low) (index - length low) value
    (zeros_length (low_room - length low)) (omega arith))
    ∙ ap (λ (n : ℕ). low ++ (gap ++ slice_set high n value)) (past_gap (length low) index fits above)

-- ---- the lower part is made farther

grown_gap : (n m : ℕ) (high : List ℕ) → replicate n 0 ++ (zeros m ++ high) ≡ zeros (n + m) ++ high
unfolding zeros
grown_gap n m high =
    sym (append_assoc (replicate n 0) (replicate m 0) high)
    ∙ ap (λ gap. gap ++ high) (replicate-append-replicate n m 0)

grown_low : (low high : List ℕ) (more : ℕ) → more + length low ≤ low_room
    → spread (low ++ replicate more 0) high ≡ spread low high
unfolding spread
grown_low low high more fits =
    let size : length (low ++ replicate {A = ℕ} more 0) ≡ length low + more =
    length-append low (replicate more 0) ∙ omega (arith, length-replicate {A = ℕ} more 0) in
    let left : more + (low_room - (length low + more)) ≡ low_room - length low = omega arith in
    ap (λ n. low ++ replicate more 0 ++ (zeros (low_room - n) ++ high)) size
    ∙ append_assoc low (replicate more 0) (zeros (low_room - (length low + more)) ++ high)
    ∙ ap (λ rest. low ++ rest) (grown_gap more (low_room - (length low + more)) high)
    ∙ ap (λ n. low ++ (zeros n ++ high)) left

pub grown_spread : (low high : List ℕ) (end : ℕ) → length low ≤ end → end ≤ low_room
    → spread (take end low ++ replicate (end - length low) 0) high ≡ spread low high
grown_spread low high end order fits =
    ap (λ front. spread (front ++ replicate (end - length low) 0) high) (take_all end low order)
    ∙ grown_low low high (end - length low) (omega arith)

-- ---- bytes are laid over

drop_past : (xs ys : List ℕ) (n : ℕ) → drop (length xs + n) (xs ++ ys) ≡ drop n ys
drop_past xs ys n =
    sym (drop-drop n (length xs) (xs ++ ys)) ∙ ap (λ rest. drop n rest) (drop_at xs ys (length xs) refl)

take_past : (xs ys : List ℕ) (n : ℕ) → take (length xs + n) (xs ++ ys) ≡ xs ++ take n ys
take_past xs ys n =
    sym (take-append-drop (length xs) (take (length xs + n) (xs ++ ys)))
    ∙ ap (λ front. front ++ drop (length xs) (take (length xs + n) (xs ++ ys)))
    (take-take (length xs) (length xs + n) (xs ++ ys) (omega arith) ∙ take_at xs ys (length xs) refl)
    ∙ ap (λ rest. xs ++ rest) (drop-take (length xs) n (xs ++ ys)
    ∙ ap (λ rest. take n rest) (drop_at xs ys (length xs) refl))

laid_left : (at : ℕ) (bytes xs ys : List ℕ) → at + length bytes ≤ length xs
    → laid_at at bytes (xs ++ ys) ≡ laid_at at bytes xs ++ ys
laid_left at bytes xs ys fits =
    rw (take-append-le at xs ys (omega arith), drop-append-le (at + length bytes) xs ys fits)
    (sym (append_assoc (take at xs) (bytes ++ drop (at + length bytes) xs) ys
    ∙ ap (λ rest. take at xs ++ rest) (append_assoc bytes (drop (at + length bytes) xs) ys)))

laid_right : (at : ℕ) (bytes xs ys : List ℕ) → laid_at (length xs + at) bytes (xs ++ ys) ≡ xs ++ laid_at at bytes ys
laid_right at bytes xs ys =
    let far : length xs + at + length bytes ≡ length xs + (at + length bytes) = omega arith in
    rw (far, take_past xs ys at, drop_past xs ys (at + length bytes))
    (append_assoc xs (take at ys) (bytes ++ drop (at + length bytes) ys))

pub laid_low : (low high bytes : List ℕ) (at : ℕ) → at + length bytes ≤ length low
    → laid_at at bytes (spread low high) ≡ spread (laid_at at bytes low) high
unfolding spread
laid_low low high bytes at fits =
    rw (laid_at_length at bytes low fits) (laid_left at bytes low (zeros (low_room - length low) ++ high) fits)

pub laid_high : (low high bytes : List ℕ) (at : ℕ) → length low ≤ low_room → low_room ≤ at
    → laid_at at bytes (spread low high) ≡ spread low (laid_at (at - low_room) bytes high)
unfolding spread
laid_high low high bytes at fits above =
    let gap : List ℕ = zeros (low_room - length low) in
    let whole : length gap ≡ low_room - length low = zeros_length (low_room - length low) in
    let place : at ≡ length low + (length gap + (at - low_room)) = omega arith in
    ap (λ n. laid_at n bytes (low ++ (gap ++ high))) place
    ∙ laid_right (length gap + (at - low_room)) bytes low (gap ++ high)
    ∙ ap (λ rest. low ++ rest) (laid_right (at - low_room) bytes gap high)

laid_front : (bytes memory : List ℕ) → laid_at 0 bytes memory ≡ bytes ++ drop (length bytes) memory
laid_front bytes memory =
    let same : 0 + length bytes ≡ length bytes = omega arith in
    ap (λ n. bytes ++ drop n memory) same

laid_joined : (at : ℕ) (front back memory : List ℕ) → at ≤ length memory
    → laid_at (at + length front) back (laid_at at front memory) ≡ laid_at at (front ++ back) memory
laid_joined at front back memory fits =
    let before : List ℕ = take at memory in
    let after : List ℕ = drop (at + length front) memory in
    let size : length before ≡ at = length-take-le at memory fits in
    let far : at + length front + length back ≡ at + length (front ++ back) = omega (arith, length-append front back) in
    let end : length front + 0 ≡ length front = omega arith in
    let rest : drop (length back) after ≡ drop (at + length (front ++ back)) memory =
    drop-drop (length back) (at + length front) memory ∙ ap (λ n. drop n memory) far in
    let over : laid_at (length front) back (front ++ after) ≡ front ++ (back ++ drop (length back) after) =
    ap (λ n. laid_at n back (front ++ after)) (sym end)
    ∙ laid_right 0 back front after
    ∙ ap (λ more. front ++ more) (laid_front back after) in
    ap (λ n. laid_at (n + length front) back (before ++ (front ++ after))) (sym size)
    ∙ laid_right (length front) back before (front ++ after)
    ∙ ap (λ more. before ++ more) (over
    ∙ ap (λ more. front ++ (back ++ more)) rest
    ∙ sym (append_assoc front back (drop (at + length (front ++ back)) memory)))

-- what is laid in two parts is laid
pub laid_parts : (at mid : ℕ) (bytes memory : List ℕ) → at ≤ mid → mid ≤ at + length bytes → at ≤ length memory
    → laid_at mid (drop (mid - at) bytes) (laid_at at (take (mid - at) bytes) memory) ≡ laid_at at bytes memory
laid_parts at mid bytes memory above below fits =
    let front : List ℕ = take (mid - at) bytes in
    let back : List ℕ = drop (mid - at) bytes in
    let size : length front ≡ mid - at = length-take-le (mid - at) bytes (omega arith) in
    let place : mid ≡ at + length front = omega arith in
    ap (λ n. laid_at n back (laid_at at front memory)) place
    ∙ laid_joined at front back memory fits
    ∙ ap (λ whole. laid_at at whole memory) (take-append-drop (mid - at) bytes)

-- ---- zeros

pub zeroed_low : (low high : List ℕ) (from count : ℕ) → from + count ≤ length low
    → laid_at from (zeros count) (spread low high) ≡ spread (laid_at from (zeros count) low) high
zeroed_low low high from count fits = laid_low low high (zeros count) from (omega (arith, zeros_length count))

pub zeroed_high : (low high : List ℕ) (from count : ℕ) → length low ≤ low_room → low_room ≤ from
    → laid_at from (zeros count) (spread low high) ≡ spread low (laid_at (from - low_room) (zeros count) high)
zeroed_high low high from count fits above = laid_high low high (zeros count) from fits above

-- a list within itself keeps its length
pub zeroed_length : (bytes : List ℕ) (from count : ℕ) → from + count ≤ length bytes
    → length (laid_at from (zeros count) bytes) ≡ length bytes
zeroed_length bytes from count fits = laid_at_length from (zeros count) bytes (omega (arith, zeros_length count))

zeros_joined : (n m : ℕ) → zeros n ++ zeros m ≡ zeros (n + m)
unfolding zeros
zeros_joined n m = replicate-append-replicate n m 0

pub spread_zeros : (low high : List ℕ) → low ≡ [] → high ≡ zeros high_size → spread low high ≡ zeros memory_size
unfolding spread
spread_zeros low high none all =
    ap (λ l. l ++ (zeros (low_room - length l) ++ high)) none
    ∙ ap (λ h. zeros low_room ++ h) all
    ∙ zeros_joined low_room high_size

-- ---- the bytes of a piece

pub low_piece : (low high : List ℕ) (number offset : ℕ) → offset < 256 → (number + 1) * 256 ≤ length low
    → slice_index (slice_range low (number * 256) ((number + 1) * 256)) offset
    ≡ slice_index (spread low high) (number * 256 + offset)
low_piece low high number offset below made =
    piece_byte low number offset below ∙ sym (low_byte low high (number * 256 + offset) (omega arith))

pub high_piece : (low high : List ℕ) (number offset : ℕ) → offset < 256 → length low ≤ low_room
    → 65280 ≤ number
    → slice_index (slice_range high (number * 256 - low_room) ((number + 1) * 256 - low_room)) offset
    ≡ slice_index (spread low high) (number * 256 + offset)
high_piece low high number offset below fits above =
    let from : number * 256 - low_room ≡ (number - 65280) * 256 = omega arith in
    let end : (number + 1) * 256 - low_room ≡ (number - 65280 + 1) * 256 = omega arith in
    let place : (number - 65280) * 256 + offset ≡ number * 256 + offset - low_room = omega arith in
    rw (from, end) (piece_byte high (number - 65280) offset below
    ∙ ap (λ (n : ℕ). slice_index high n) place
    ∙ sym (high_byte low high (number * 256 + offset) fits (omega arith)))

pub gap_piece : (low high : List ℕ) (number offset : ℕ) → offset < 256 → length low % 4096 ≡ 0
    → length low < (number + 1) * 256 → (number + 1) * 256 ≤ low_room
    → slice_index (replicate 256 0) offset ≡ slice_index (spread low high) (number * 256 + offset)
gap_piece low high number offset below pages above room =
    get_or-replicate 256 offset 0 0 below
    ∙ sym (gap_byte low high (number * 256 + offset) (omega arith) (omega arith))
