-- The sizes of lines and the places of labels, line by line.
use Rattle.std.proofs.Common.{◌≡◌, ℕ, ◌+◌, ◌*◌, ◌^◌, ◌≤◌, ◌<◌, IfSome, Bool, true, false, cond, List, [], ◌∷◌, ◌++◌}
use Rattle.std.proofs.Common.{length, take, Option, Some, None, option_map, zero-add, refl, ap, sym, ◌∙◌, subst}
use Rattle.std.proofs.Common.{arith}
use Rattle.std.proofs.lemmas.Grind.{common_steps}
use Rattle.std.proofs.lemmas.Slice.Eq.{bytes_eq-Decides}
use Rattle.std.specs.Str.{bytes_eq}
use Rattle.std.specs.List.{position_from}
use Rattle.std.proofs.lemmas.List.{take-append-le}
use Rattle.std.proofs.Math.Seq.{take-append_seam}
use Rattle.rv32im_asm.specs.Private.Labels.{IsNear, IsNearBy, noted}
use Rattle.rv32im_asm.specs.Lines.{line_label, lines_of}
use Rattle.rv32im_asm.specs.Operands.{both}
use Rattle.rv32im_asm.specs.Sizes.{is_label, line_size, place_of, total_size}
use Rattle.rv32im_asm.specs.declared.places.Place.{Place}

noted_step : (b : Bool) (label name : List ℕ) (place : Place) (old found : Option Place) (new : Option Place)
    → bytes_eq label name ≡ b → (b ≡ true → old ≡ None) → old ≡ found → new ≡ cond b (Some place) old
    → new ≡ noted name (Some label) place found
noted_step true label name place old None new same none is known = grind (arith, common_steps, same)
noted_step true label name place old (Some first) new same none is known =
    absurd (grind (arith, common_steps, none refl))
noted_step false label name place old None new other none is known = grind (arith, common_steps, other)
noted_step false label name place old (Some first) new other none is known = known ∙ is

pub same_text : (label name : List ℕ) → bytes_eq label name ≡ true → label ≡ name
same_text label name same = grind (arith, common_steps, bytes_eq-Decides label name)

pub noted_after : (label name : List ℕ) (place : Place) (old : List ℕ → Option Place) (new : Option Place)
    → old label ≡ None
    → new ≡ cond (bytes_eq label name) (Some place) (old name) → new ≡ noted name (Some label) place (old name)
noted_after label name place old new none known =
    noted_step (bytes_eq label name) label name place (old name) (old name) new refl
    (λ same. subst (λ text. old text ≡ None) (same_text label name same) none) refl known

-- ---- sizes

both_assoc : (a b c : Option ℕ) → both (λ m n. m + n) a (both (λ m n. m + n) b c)
    ≡ both (λ m n. m + n) (both (λ m n. m + n) a b) c
both_assoc None b c = refl
both_assoc (Some m) None c = refl
both_assoc (Some m) (Some n) None = refl
both_assoc (Some m) (Some n) (Some k) = ap Some (omega arith)

both_zero : (a : Option ℕ) → both (λ m n. m + n) a (Some 0) ≡ both (λ m n. m + n) (Some 0) a
both_zero None = refl
both_zero (Some m) = ap Some (omega arith)

pub total_size_push : (lines : List (List ℕ)) (line : List ℕ)
    → total_size (lines ++ line ∷ []) ≡ both (λ before size. before + size) (total_size lines) (line_size line)
total_size_push [] line = both_zero (line_size line)
total_size_push (first ∷ lines) line =
    ap (both (λ m n. m + n) (line_size first)) (total_size_push lines line)
    ∙ both_assoc (line_size first) (total_size lines) (line_size line)

-- ---- places

-- the first place, or the one of the element after
abbrev or_behind : Option ℕ → Bool → ℕ → Option ℕ
or_behind None passes place = cond passes (Some place) None
or_behind (Some first) passes place = Some first

push_step : (b : Bool) (p : List ℕ → Bool) (index : ℕ) (lines : List (List ℕ)) (line : List ℕ)
    → position_from p (index + 1) (lines ++ line ∷ []) ≡ or_behind (position_from p (index + 1) lines) (p line)
    (index + 1 + length lines)
    → cond b (Some index) (position_from p (index + 1) (lines ++ line ∷ []))
    ≡ or_behind (cond b (Some index) (position_from p (index + 1) lines)) (p line) (index + (1 + length lines))
push_step true p index lines line known = refl
push_step false p index lines line known =
    known ∙ ap (or_behind (position_from p (index + 1) lines) (p line)) (omega arith)

position_push : (p : List ℕ → Bool) (index : ℕ) (lines : List (List ℕ)) (line : List ℕ)
    → position_from p index (lines ++ line ∷ []) ≡ or_behind (position_from p index lines) (p line)
    (index + length lines)
position_push p index [] line = ap (or_behind None (p line)) (omega arith)
position_push p index (first ∷ lines) line =
    push_step (p first) p index lines line (position_push p (index + 1) lines line)
    ∙ ap (or_behind (position_from p index (first ∷ lines)) (p line)) (omega arith)

below_step : (b : Bool) (p : List ℕ → Bool) (index : ℕ) (lines : List (List ℕ)) (place : ℕ)
    → (position_from p (index + 1) lines ≡ Some place → place < index + 1 + length lines)
    → cond b (Some index) (position_from p (index + 1) lines) ≡ Some place → place < index + (1 + length lines)
below_step true p index lines place known h = grind arith
below_step false p index lines place known h = omega (arith, known h)

position_below : (p : List ℕ → Bool) (index : ℕ) (lines : List (List ℕ)) (place : ℕ)
    → position_from p index lines ≡ Some place → place < index + length lines
position_below p index [] place h = absurd (grind arith)
position_below p index (first ∷ lines) place h =
    omega (arith, below_step (p first) p index lines place (position_below p (index + 1) lines place) h)

-- the place of a label at an index
abbrev place_at : List (List ℕ) → ℕ → Place
place_at lines index = record { index = index; offset = total_size (take index lines) }

place_behind : (b : Bool) (lines : List (List ℕ)) (line : List ℕ)
    → option_map (place_at (lines ++ line ∷ [])) (cond b (Some (0 + length lines)) None)
    ≡ cond b (Some (record { index = length lines; offset = total_size lines })) None
place_behind true lines line =
    ap (λ index. Some (place_at (lines ++ line ∷ []) index)) (zero-add (length lines))
    ∙ ap (λ front. Some (record { index = length lines; offset = total_size front })) (take-append_seam lines
    (line ∷ []))
place_behind false lines line = refl

place_push : (lines : List (List ℕ)) (line name : List ℕ) (found : Option ℕ)
    → position_from (λ other. is_label name (line_label other)) 0 lines ≡ found
    → option_map (place_at (lines ++ line ∷ [])) (or_behind found (is_label name (line_label line)) (0 + length lines))
    ≡ noted name (line_label line) (record { index = length lines; offset = total_size lines }) (option_map
    (place_at lines) found)
place_push lines line name None h = place_behind (is_label name (line_label line)) lines line
place_push lines line name (Some place) h =
    let below : place < 0 + length lines = position_below _ 0 lines place h in
    ap (λ front. Some (record { index = place; offset = total_size front })) (take-append-le place lines (line ∷ [])
    (omega arith))

pub place_of_push : (lines : List (List ℕ)) (line name : List ℕ)
    → place_of (lines ++ line ∷ []) name
    ≡ noted name (line_label line) (record { index = length lines; offset = total_size lines }) (place_of lines name)
place_of_push lines line name =
    ap (option_map (place_at (lines ++ line ∷ []))) (position_push (λ other. is_label name
    (line_label other)) 0 lines line)
    ∙ place_push lines line name (position_from (λ other. is_label name (line_label other)) 0 lines) refl

-- ---- nearness

near_step : (b : Bool) (place : Place) → IsNear (Some place) → IsNear (cond b (Some place) None)
near_step true place near = near
near_step false place near = tt

pub noted_near : (name : List ℕ) (label : Option (List ℕ)) (place : Place) (old : Option Place)
    → IsNear (Some place) → IsNear old
    → IsNear (noted name label place old)
noted_near name label place None near known = near_step (is_label name label) place near
noted_near name label place (Some first) near known = known

-- ---- one more line

pub places_next : (front : List (List ℕ)) (line name : List ℕ) (index : ℕ) (offset : Option ℕ) (label : Option (List ℕ))
    (old new : Option Place)
    → length front ≡ index → offset ≡ total_size front → label ≡ line_label line → old ≡ place_of front name
    → new ≡ noted name label (record { index = index; offset = offset }) old
    → new ≡ place_of (front ++ line ∷ []) name
places_next front line name index offset label old new count sum own known note =
    note ∙ (ap (λ o. noted name label (record { index = index; offset = offset }) o) known
    ∙ (ap (λ l. noted name l (record { index = index; offset = offset }) (place_of front name)) own
    ∙ (ap (λ o. noted name (line_label line) (record { index = index; offset = o }) (place_of front name)) sum
    ∙ (ap (λ i. noted name (line_label line) (record { index = i; offset = total_size front }) (place_of front name))
    (sym count)
    ∙ sym (place_of_push front line name)))))

pub nearby : (offset : Option ℕ) (index : ℕ) → IfSome offset (λ n. n ≤ index * 1048576) → index < 2 ^ 32
    → IsNearBy offset
nearby None index small low = tt
nearby (Some n) index small low = omega (arith, small)

pub small_next : (offset size grown : Option ℕ) (index : ℕ) → grown ≡ both (λ before size. before + size) offset size
    → IfSome offset (λ n. n ≤ index * 1048576)
    → IfSome grown (λ after. IfSome offset (λ before. after ≤ before + 1048576))
    → IfSome grown (λ n. n ≤ (index + 1) * 1048576)
small_next offset size None index sum small next = tt
small_next None size (Some n) index sum small next = absurd (grind arith)
small_next (Some m) size (Some n) index sum small next = omega (arith, small, next)

pub no_lines : (text : List ℕ) → length text ≡ 0 → lines_of text ≡ []
no_lines [] none = refl
no_lines (byte ∷ rest) none = absurd (omega arith)
