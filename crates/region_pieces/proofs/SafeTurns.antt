-- A piece is safe where all are safe to which its turn leads, and where all are safe that cover it; and the leave.
use Rattle.std.proofs.Common.{◌≡◌, ℕ, suc, ◌+◌, ◌^◌, ◌<◌, ◌≤◌, ◌⊎◌, inl, inr, ⊎_elim, Bool, true, false, List, [], ◌∷◌}
use Rattle.std.proofs.Common.{Option, Some, None, refl, sym, ap, subst, ◌∙◌, arith}
use Rattle.std.specs.Prelude.{◌==◌, if◌then◌else◌}
use Rattle.std.proofs.lemmas.Bool.{eq-eqb}
use Rattle.enclosure_regions.specs.declared.region_parts.Region.{Region}
use Rattle.enclosure_regions.specs.Breaks.{keep_break}
use Rattle.rv32im_machine.specs.declared.stepping.Stepped.TheVariants.{Ran}
use Rattle.rv32im_machine.specs.State.{State, Store, entered, moved_to}
use Rattle.rv32im_machine.specs.State.{Control}
use Rattle.region_machine.specs.Enclosures.{Kind, Leaves, Steps, kind_in, kind_of, kind_within, region_numbered}
use Rattle.region_pieces.specs.ComingOut.{ComesOut, Out-later, Out-now}
use Rattle.region_pieces.specs.Pieces.{Agrees, AreAmong, AreSafe, Covers, EndingModel, EntryModel, IsInside, IsOut, Leads}
use Rattle.region_pieces.specs.Pieces.{LeadsTo, OneStands, PieceModel, Safe, SafeBy, Stands}
use Rattle.region_pieces.specs.Turns.{Goes, moved}
use Rattle.region_pieces.proofs.Writes.{IsStore, guest_of}

-- ---- where a real state is

pub inside_mode : (region : Region) (start : State) (pc : ℕ) (now : State) → start.control.mode ≡ Ran →
    IsInside region start pc now → now.control.mode ≡ Ran
unfolding entered moved_to
inside_mode region start pc now ran inside = ap (λ (c : Control). c.mode) inside.control ∙ ran

pub inside_pc : (region : Region) (start : State) (pc : ℕ) (now : State) → IsInside region start pc now →
    now.control.pc ≡ pc
unfolding entered moved_to
inside_pc region start pc now inside = ap (λ (c : Control). c.pc) inside.control

-- a state that makes a turn inside the region is inside it after the turn
pub inside_moved : (region : Region) (start : State) (pc next : ℕ) (now : State) (store : Store) →
    IsInside region start pc now → IsStore store → store.kept ≡ now.store.kept →
    IsInside region start next (moved next store now)
unfolding entered moved_to
inside_moved region start pc next now store inside is kept = record {
  guest = guest_of (moved next store now) is;
  setting = inside.setting;
  secret = inside.secret;
  control = ap (λ c. moved_to next c) inside.control;
  kept = kept ∙ inside.kept;
}

module _ (entry : EntryModel) (regions : List Region)
    (numbered : region_numbered regions entry.region.id ≡ Some entry.region) (start : State)
    (ran : start.control.mode ≡ Ran) where
  abbrev kind_at : ℕ → Kind
  kind_at pc = if entry.region.leave == pc then Leaves entry.region else Steps (Some entry.region)

  kind_inside : (pc : ℕ) (now : State) → IsInside entry.region start pc now → kind_of regions now.control ≡ kind_at pc
  unfolding entered moved_to
  kind_inside pc now inside =
      ap (λ c. kind_of regions c) inside.control
      ∙ ap (λ m. kind_in m regions (moved_to pc (entered entry.region.id start.control))) ran
      ∙ ap (λ r. kind_within regions r pc) numbered

  kind_leaves : (pc : ℕ) (now : State) → IsInside entry.region start pc now → (entry.region.leave == pc) ≡ true →
      kind_of regions now.control ≡ Leaves entry.region
  kind_leaves pc now inside at =
      kind_inside pc now inside
      ∙ ap (λ t. if t then Leaves entry.region else Steps (Some entry.region)) at

  kind_steps : (pc : ℕ) (now : State) → IsInside entry.region start pc now → (entry.region.leave == pc) ≡ false →
      kind_of regions now.control ≡ Steps (Some entry.region)
  kind_steps pc now inside away =
      kind_inside pc now inside
      ∙ ap (λ t. if t then Leaves entry.region else Steps (Some entry.region)) away

  module _ (endings : List EndingModel) (most : ℕ) where
    abbrev comes : ℕ → State → Type 0
    comes made now = ComesOut regions entry.region (IsOut entry endings start) most made now

    -- a state whose turn leads to one that comes out comes out
    pub comes_by_turn : (pc next made : ℕ) (now : State) (store : Store) → IsInside entry.region start pc now →
        (entry.region.leave == pc) ≡ false → Goes entry.region now next store →
        comes (suc made) (moved next store now) → comes made now
    comes_by_turn pc next made now store inside away goes later =
        Out-later (inside_mode entry.region start pc now ran inside) (kind_steps pc now inside away) goes.whole
        (subst (λ s. comes (suc made) s) (sym goes.ends) later)

    -- a state at the leave comes out, where a turn is left and each kept register is as it was
    pub comes_by_leave : (made : ℕ) (now : State) → IsOut entry endings start now →
        keep_break entry.region now.store.kept now.store.registers ≡ None → made < most → comes made now
    comes_by_leave made now out whole left =
        Out-now (inside_mode entry.region start entry.region.leave now ran out.inside)
        (kind_leaves entry.region.leave now out.inside (same entry.region.leave)) whole left out
      where
        same : (pc : ℕ) → (pc == pc) ≡ true
        same pc = eq-eqb pc pc refl

    pub one_comes : (pieces : List PieceModel) → AreSafe entry endings most pieces → Agrees entry start → (made : ℕ)
        (now : State) → OneStands entry.region start pieces made now → comes made now
    one_comes [] safe agrees made now stands = absurd stands
    one_comes (piece ∷ pieces) safe agrees made now stands =
        ⊎_elim (λ one. safe.0 regions numbered start agrees made now one)
        (λ more. one_comes pieces safe.1 agrees made now more) stands

-- ---- turns and covers

-- a piece that is not at the leave is safe, where all are to which its turn leads
pub turn_safe : (entry : EntryModel) (piece : PieceModel) (pieces : List PieceModel) →
    (entry.region.leave == piece.pc) ≡ false → Leads entry piece pieces → (endings : List EndingModel) (most : ℕ) →
    AreSafe entry endings most pieces → Safe entry endings most piece
turn_safe entry piece pieces away leads endings most safe = λ regions numbered start agrees made now stands.
    let led : LeadsTo entry.region start pieces made now = leads start agrees made now stands in
    comes_by_turn entry regions numbered start agrees.mode endings most piece.pc led.pc made now led.store stands.by.inside
    away led.goes
    (one_comes entry regions numbered start agrees.mode endings most pieces safe agrees (suc made)
    (moved led.pc led.store now) led.stands)

-- a piece is safe, where all that cover it are
pub cover_safe : (entry : EntryModel) (piece : PieceModel) (pieces : List PieceModel) → Covers entry piece pieces →
    (endings : List EndingModel) (most : ℕ) → AreSafe entry endings most pieces → Safe entry endings most piece
cover_safe entry piece pieces covers endings most safe = λ regions numbered start agrees made now stands.
    one_comes entry regions numbered start agrees.mode endings most pieces safe agrees made now
    (covers start agrees made now stands)
