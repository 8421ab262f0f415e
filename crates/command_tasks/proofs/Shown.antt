-- How a name is spelled byte by byte.
use Rattle.std.proofs.Common.{◌≡◌, ℕ, ◌+◌, ◌-◌, ◌<◌, ◌≤◌, true, false, List, [], ◌∷◌, ◌++◌, length, get_or, take, drop, length-drop, get_or-drop, append_assoc, append-nil, take_all, arith, if◌then◌else◌}
use Rattle.std.proofs.lemmas.Bool.Decides.{nat_tests}
use Rattle.std.proofs.lemmas.List.{drop_more, take_more, drop_all}
use Rattle.command_tasks.specs.Names.{is_control, escape, shown}

-- the text of the byte at an index, and what follows
shown_drop : (s : List ℕ) (i : ℕ) → i < length s →
    shown (drop i s) ≡ (if is_control (get_or s i 0) then escape (get_or s i 0) else get_or s i 0 ∷ []) ++ shown (drop (i + 1) s)
shown_drop s i h = rw (drop_more s i 0 h)

-- only ASCII bytes are spelled
pub control_ascii : (byte : ℕ) → is_control byte ≡ true → byte < 128
control_ascii byte h = grind (arith, nat_tests)

rest_of : (start i : ℕ) → start ≤ i → start + (i - start) ≡ i
rest_of start i h = omega arith

-- a byte that is not spelled joins the run of such bytes
pub keep_byte : (s done total : List ℕ) (start i : ℕ) → start ≤ i → i < length s → is_control (get_or s i 0) ≡ false →
    done ++ (take (i - start) (drop start s) ++ shown (drop i s)) ≡ total →
    done ++ (take (i + 1 - start) (drop start s) ++ shown (drop (i + 1) s)) ≡ total
keep_byte s done total start i low within plain whole =
    let at : get_or (drop start s) (i - start) 0 ≡ get_or s i 0 = rw (get_or-drop start s (i - start) 0, rest_of start i low) in
    let more = take_more (drop start s) (i - start) 0 (omega (arith, length-drop start s)) in
    let next : i + 1 - start ≡ i - start + 1 = omega arith in
    rw (next, more, at) (simp append_assoc (rw (shown_drop s i within, plain) at whole))

-- a byte that is spelled ends the run
pub spell_byte : (s done total : List ℕ) (start i : ℕ) → i < length s → is_control (get_or s i 0) ≡ true →
    done ++ (take (i - start) (drop start s) ++ shown (drop i s)) ≡ total →
    ((done ++ take (i - start) (drop start s)) ++ escape (get_or s i 0)) ++ (take (i + 1 - (i + 1)) (drop (i + 1) s) ++ shown (drop (i + 1) s)) ≡ total
spell_byte s done total start i within control whole =
    let zero : i + 1 - (i + 1) ≡ 0 = omega arith in
    let read = rw (shown_drop s i within, control) at whole in
    rw zero (simp append_assoc read)

-- at the end of the name, what is left is the run
pub shown_end : (s done total : List ℕ) (start i : ℕ) → start ≤ i → i ≡ length s →
    done ++ (take (i - start) (drop start s) ++ shown (drop i s)) ≡ total → done ++ drop start s ≡ total
shown_end s done total start i low end whole =
    let all : take (i - start) (drop start s) ≡ drop start s = take_all _ _ (omega (arith, length-drop start s)) in
    let none : drop i s ≡ [] = drop_all i s (omega arith) in
    rw (all, none, append-nil) at whole
