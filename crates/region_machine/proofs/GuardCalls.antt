-- One call of a guard: what the passer that it wraps may play, and what breaks the region.
use Rattle.std.proofs.Common.{◌≡◌, ℕ, List, Bool, Option, Some, None, Result, Ok, Err, refl, ap, ◌∙◌, subst}
use Rattle.std.specs.Borrow.{GName}
use Rattle.rv32im_machine.specs.declared.language.Passing.{Passing}
use Rattle.rv32im_machine.specs.declared.language.Place.{Place}
use Rattle.rv32im_machine.specs.declared.language.Seen.{Seen}
use Rattle.rv32im_machine.specs.declared.language.Shape.{Shape}
use Rattle.rv32im_machine.specs.declared.language.Source.{Source}
use Rattle.rv32im_machine.specs.State.{State}
use Rattle.rv32im_machine.specs.Language.{Walk, Looked, Passed, Moved, Saved, Restored, Ended}
use Rattle.rv32im_machine.specs.Folds.{real_end}
use Rattle.rv32im_machine.specs.Playing.{Played, Finished, Halted, Goes, restored_or}
use Rattle.enclosure_regions.specs.declared.region_parts.Region.{Region}
use Rattle.enclosure_regions.specs.declared.break_kinds.Break.{Break}
use Rattle.region_machine.specs.Breaking.{place_break, passing_break, walk_break}
use Rattle.region_machine.specs.Guards.{Guard, Guards}
use Rattle.region_machine.proofs.ObserverAnswers.{same_value, nothing_back}
use Rattle.std.specs.Option.{option_or}

first_assoc : (first second third : Option Break) →
    option_or (option_or first second) third ≡ option_or first (option_or second third)
first_assoc None second third = refl
first_assoc (Some broken) second third = refl

-- ---- the calls

-- what breaks here, and then what breaks later
guards_more : {Stop Tape : Type 0} (before after : Played Stop Tape → Type 0) (a b here later : Option Break)
    (lent : GName) (out : Played Stop (Guard Tape)) → ((end : Played Stop Tape) → after end → before end) →
    b ≡ option_or a here → Guards after (option_or b later) lent out →
    Guards before (option_or a (option_or here later)) lent out
guards_more before after a b here later lent (Finished reached c) goes e h = (
  goes (Finished reached c.tape) h.0,
  (h.1.0 ∙ (ap (λ x. option_or x later) e ∙ first_assoc a here later), h.1.1),
)
guards_more before after a b here later lent (Halted stop) goes e h = goes (Halted stop) h

-- nothing breaks here
guards_on : {Stop Tape : Type 0} (before after : Played Stop Tape → Type 0) (broken : Option Break)
    (lent : GName) (out : Played Stop (Guard Tape)) → ((end : Played Stop Tape) → after end → before end) →
    Guards after broken lent out → Guards before broken lent out
guards_on before after broken lent (Finished reached c) goes h = (goes (Finished reached c.tape) h.0, h.1)
guards_on before after broken lent (Halted stop) goes h = goes (Halted stop) h

pub guards_looked : {Stop Tape : Type 0} (before after : Walk → Played Stop Tape → Type 0) (region : Region)
    (kept : List ℕ) (pc : ℕ) (a : Option Break) (lent : GName) (seen : Seen) (value : ℕ) (r : Result (Unit {0}) Stop)
    (walk : Walk) → Goes r (λ done. after walk) (before (Looked seen value walk)) →
    Goes r (λ done. Guards (after walk) (option_or a (walk_break region kept pc walk)) lent)
    (Guards (before (Looked seen value walk)) (option_or a (walk_break region kept pc (Looked seen value walk))) lent)
unfolding walk_break
guards_looked before after region kept pc a lent seen value (Ok done) walk goes = λ out h.
    guards_on (before (Looked seen value walk)) (after walk) (option_or a (walk_break region kept pc walk)) lent out
    goes h
guards_looked before after region kept pc a lent seen value (Err stop) walk goes = goes

pub guards_saved : {Stop Tape : Type 0} (before after : Walk → Played Stop Tape → Type 0) (region : Region)
    (kept : List ℕ) (pc : ℕ) (a : Option Break) (lent : GName) (r : Result (Unit {0}) Stop)
    (walk : Walk) → Goes r (λ done. after walk) (before (Saved walk)) →
    Goes r (λ done. Guards (after walk) (option_or a (walk_break region kept pc walk)) lent)
    (Guards (before (Saved walk)) (option_or a (walk_break region kept pc (Saved walk))) lent)
unfolding walk_break
guards_saved before after region kept pc a lent (Ok done) walk goes = λ out h.
    guards_on (before (Saved walk)) (after walk) (option_or a (walk_break region kept pc walk)) lent out goes h
guards_saved before after region kept pc a lent (Err stop) walk goes = goes

pub guards_moved : {Stop Tape : Type 0} (before after : Walk → Played Stop Tape → Type 0) (region : Region)
    (kept : List ℕ) (pc : ℕ) (a b : Option Break) (lent : GName) (place : Place) (shape : Shape) (source : Source)
    (value : ℕ) (r : Result (Unit {0}) Stop) (walk : Walk) → b ≡ option_or a (place_break region kept pc place) →
    Goes r (λ done. after walk) (before (Moved place shape source value walk)) →
    Goes r (λ done. Guards (after walk) (option_or b (walk_break region kept pc walk)) lent)
    (Guards (before (Moved place shape source value walk))
    (option_or a (walk_break region kept pc (Moved place shape source value walk))) lent)
unfolding walk_break
guards_moved before after region kept pc a b lent place shape source value (Ok done) walk e goes = λ out h.
    guards_more (before (Moved place shape source value walk)) (after walk) a b (place_break region kept pc place)
    (walk_break region kept pc walk) lent out goes e h
guards_moved before after region kept pc a b lent place shape source value (Err stop) walk e goes = goes

pub guards_passed : {Stop Tape : Type 0} (before after : Walk → Played Stop Tape → Type 0) (tape : Tape)
    (region : Region) (kept : List ℕ) (pc : ℕ) (a b : Option Break) (lent : GName) (passing : Passing)
    (r : Result ℕ Stop) (go : ℕ → Walk) → b ≡ option_or a (passing_break region kept pc passing) →
    ((go : ℕ → Walk) → Goes r (λ other. after (go other)) (before (Passed passing go))) →
    ((state : State) → after (Ended state) (Finished state tape)) →
    ((walk : Walk) (state : State) (tape : Tape) → before walk (Finished state tape) → state ≡ real_end walk) →
    Goes r (λ other. Guards (after (go other)) (option_or b (walk_break region kept pc (go other))) lent)
    (Guards (before (Passed passing go)) (option_or a (walk_break region kept pc (Passed passing go))) lent)
unfolding walk_break
guards_passed before after tape region kept pc a b lent passing (Ok other) go e goes ends real = λ out h.
    guards_more (before (Passed passing go)) (after (go other)) a b (passing_break region kept pc passing)
    (walk_break region kept pc (go passing.value)) lent out (goes go) e
    (subst (λ v. Guards (after (go other)) (option_or b (walk_break region kept pc (go v))) lent out)
    (same_value before after tape passing other goes ends real) h)
guards_passed before after tape region kept pc a b lent passing (Err stop) go e goes ends real = goes go

pub guards_restored : {Stop Tape : Type 0} (before after : Walk → Played Stop Tape → Type 0) (tape : Tape)
    (region : Region) (kept : List ℕ) (pc : ℕ) (a : Option Break) (lent : GName) (registers : List ℕ)
    (r : Result Bool Stop) (walk back : Walk) →
    ((walk back : Walk) → Goes r (λ other. after (restored_or other walk back)) (before (Restored registers walk back))) →
    ((state : State) → after (Ended state) (Finished state tape)) →
    ((walk : Walk) (state : State) (tape : Tape) → before walk (Finished state tape) → state ≡ real_end walk) →
    Goes r (λ other. Guards (after (restored_or other walk back))
    (option_or a (walk_break region kept pc (restored_or other walk back))) lent)
    (Guards (before (Restored registers walk back))
    (option_or a (walk_break region kept pc (Restored registers walk back))) lent)
unfolding walk_break
guards_restored before after tape region kept pc a lent registers (Ok other) walk back goes ends real = λ out h.
    guards_on (before (Restored registers walk back)) (after (restored_or other walk back))
    (option_or a (walk_break region kept pc walk)) lent out (goes walk back)
    (subst (λ v. Guards (after (restored_or other walk back))
    (option_or a (walk_break region kept pc (restored_or v walk back))) lent out)
    (nothing_back before after tape registers other goes ends real) h)
guards_restored before after tape region kept pc a lent registers (Err stop) walk back goes ends real = goes walk back
