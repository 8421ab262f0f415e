-- What is left of the pieces that wait: where all of them are safe the first piece is.
use Rattle.std.proofs.Common.{◌≡◌, ℕ, ◌≤◌, ◌⊎◌, inl, inr, ⊎_elim, List, [], ◌∷◌, ◌++◌, false, arith}
use Rattle.std.specs.Prelude.{◌==◌}
use Rattle.region_pieces.specs.Pieces.{AreAmong, AreSafe, Carries, Covers, EndingModel, EntryModel, HaveOutputs, Leads}
use Rattle.region_pieces.specs.Pieces.{PieceModel, Safe, SafeBy}
use Rattle.region_pieces.proofs.SafeTurns.{cover_safe, turn_safe}

-- ---- endings

pub among_same : (endings : List EndingModel) → AreAmong endings endings
among_same endings outputs have = have

pub among_more : (endings : List EndingModel) (ending : EndingModel) → AreAmong endings (ending ∷ endings)
among_more endings ending outputs have = inr have

pub among_through : (some more all : List EndingModel) → AreAmong some more → AreAmong more all → AreAmong some all
among_through some more all one two outputs have = two outputs (one outputs have)

-- ---- lists of pieces

module _ (entry : EntryModel) where
  pub safe_both : (endings : List EndingModel) (most : ℕ) (these those : List PieceModel) →
      AreSafe entry endings most these → AreSafe entry endings most those → AreSafe entry endings most (these ++ those)
  safe_both endings most [] those first second = second
  safe_both endings most (piece ∷ these) those first second =
      (first.0, safe_both endings most these those first.1 second)

  pub safe_first : (endings : List EndingModel) (most : ℕ) (these those : List PieceModel) →
      AreSafe entry endings most (these ++ those) → AreSafe entry endings most these
  safe_first endings most [] those safe = tt
  safe_first endings most (piece ∷ these) those safe = (safe.0, safe_first endings most these those safe.1)

  pub safe_second : (endings : List EndingModel) (most : ℕ) (these those : List PieceModel) →
      AreSafe entry endings most (these ++ those) → AreSafe entry endings most those
  safe_second endings most [] those safe = safe
  safe_second endings most (piece ∷ these) those safe = safe_second endings most these those safe.1

  pub carries_same : (these : List PieceModel) → Carries entry these these
  carries_same these endings most safe = safe

  pub carries_through : (these those all : List PieceModel) → Carries entry these those → Carries entry those all →
      Carries entry these all
  carries_through these those all one two endings most safe = one endings most (two endings most safe)

  -- a piece gives way to those to which its turn leads
  pub carries_turn : (piece : PieceModel) (pieces front : List PieceModel) → (entry.region.leave == piece.pc) ≡ false →
      Leads entry piece pieces → Carries entry (piece ∷ front) (pieces ++ front)
  carries_turn piece pieces front away leads endings most safe = (
    turn_safe entry piece pieces away leads endings most (safe_first endings most pieces front safe),
    safe_second endings most pieces front safe,
  )

  -- and to those that cover it
  pub carries_cover : (piece : PieceModel) (pieces front : List PieceModel) → Covers entry piece pieces →
      Carries entry (piece ∷ front) (pieces ++ front)
  carries_cover piece pieces front covers endings most safe = (
    cover_safe entry piece pieces covers endings most (safe_first endings most pieces front safe),
    safe_second endings most pieces front safe,
  )

  -- two that one covers give way to it
  pub carries_join : (first second joined : PieceModel) (front : List PieceModel) → Covers entry first (joined ∷ []) →
      Covers entry second (joined ∷ []) → Carries entry (first ∷ second ∷ front) (joined ∷ front)
  carries_join first second joined front one two endings most safe = (
    cover_safe entry first (joined ∷ []) one endings most (safe.0, tt),
    (cover_safe entry second (joined ∷ []) two endings most (safe.0, tt), safe.1),
  )

  -- ---- the loop

  -- at first the first piece waits alone
  pub loop_starts : (endings : List EndingModel) (most : ℕ) (first : PieceModel) →
      SafeBy entry endings most (first ∷ []) first
  loop_starts endings most first more longer among below safe = safe.0

  -- a round makes other pieces of those that wait
  pub loop_goes : (endings : List EndingModel) (most : ℕ) (first : PieceModel) (these those : List PieceModel) →
      Carries entry these those → SafeBy entry endings most these first → SafeBy entry endings most those first
  loop_goes endings most first these those carries safe more longer among below all =
      safe more longer among below (carries more longer all)

  -- a round lets a piece leave, so that there are more endings and perhaps more turns
  pub loop_leaves : (endings later : List EndingModel) (most longest : ℕ) (first piece : PieceModel)
      (front : List PieceModel) → AreAmong endings later → most ≤ longest → ((more : List EndingModel) (longer : ℕ) →
      AreAmong later more → longest ≤ longer → Safe entry more longer piece) →
      SafeBy entry endings most (piece ∷ front) first → SafeBy entry later longest front first
  loop_leaves endings later most longest first piece front among below left safe more longer also far all =
      safe more longer (among_through endings later more among also) (omega (arith, below, far))
      (left more longer also far, all)

  -- at the end none waits
  pub loop_ends : (endings : List EndingModel) (most : ℕ) (first : PieceModel) → SafeBy entry endings most [] first →
      Safe entry endings most first
  loop_ends endings most first safe = safe endings most (among_same endings) (omega arith) tt
