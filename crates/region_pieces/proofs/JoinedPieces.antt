-- What covers a piece stands for all for which it stands, what covers an ending has all that it has; and a piece into which
-- it is told what holds of a real state stands for it still.
use Rattle.std.proofs.Common.{◌≡◌, ℕ, ◌+◌, ◌<◌, ◌≤◌, ◌⊎◌, inl, inr, ⊎_elim, List, [], ◌∷◌, ◌++◌, refl, sym, ap, subst}
use Rattle.std.proofs.Common.{◌∙◌, arith}
use Rattle.enclosure_regions.specs.declared.region_parts.Region.{Region}
use Rattle.rv32im_machine.specs.State.{State, Setting, byte_of, register_of}
use Rattle.piece_cells.specs.Cells.{Bytes, Has, Knows}
use Rattle.piece_cells.specs.declared.cells.Cell.{Cell}
use Rattle.piece_cells.specs.declared.unknowns.Known.{Known}
use Rattle.region_pieces.specs.Joining.{CoversCell, CoversEach, CoversEnding, CoversPiece, CoversUnknowns, Narrows}
use Rattle.region_pieces.specs.Joining.{None-covered, One-covered}
use Rattle.region_pieces.specs.Pieces.{Agrees, AreAmong, Carries, Covers, EndingModel, EntryModel, HasEach, HasOutputs}
use Rattle.region_pieces.specs.Pieces.{HaveOutputs, InMemory, None-had, One-had, PieceModel, StandsBy}
use Rattle.region_pieces.proofs.SafeFronts.{carries_join}
use Rattle.region_pieces.proofs.StandsNext.{also_stands}

-- ---- pieces

pub base_is : (entry : EntryModel) (start : State) (bytes : Bytes) (piece : PieceModel) (made : ℕ) (now : State) →
    Agrees entry start → StandsBy entry.region bytes start piece made now →
    now.setting.base ≡ entry.state.setting.base
base_is entry start bytes piece made now agrees by =
    ap (λ (s : Setting). s.base) by.inside.setting ∙ agrees.base

pub covered_stands : (entry : EntryModel) (piece wider : PieceModel) →
    CoversPiece entry.state.setting.base piece wider → Covers entry piece (wider ∷ [])
covered_stands entry piece wider is start agrees made now stands =
    let by = stands.by in
    let base = base_is entry start stands.bytes piece made now agrees by in
    inl (record {
      bytes = stands.bytes;
      by = also_stands entry.region start stands.bytes piece made now by stands.bytes wider
          (is.unknowns stands.bytes by.knows) is.pc is.turns
          (λ register below has. is.registers register below stands.bytes by.knows _ has)
          (λ address inside has.
          is.memory address (subst (λ b. InMemory b address) base inside) stands.bytes by.knows _ has);
    })

-- two pieces give way to one that covers both
pub joined_carries : (entry : EntryModel) (first second joined : PieceModel) (front : List PieceModel) →
    CoversPiece entry.state.setting.base first joined → CoversPiece entry.state.setting.base second joined →
    Carries entry (first ∷ second ∷ front) (joined ∷ front)
joined_carries entry first second joined front one two =
    carries_join entry first second joined front (covered_stands entry first joined one)
    (covered_stands entry second joined two)

-- ---- endings

each_covered : (unknowns : List Known) (bytes : Bytes) → Knows unknowns bytes → {cells widers : List Cell}
    {values : List ℕ} → CoversEach unknowns cells widers → HasEach bytes cells values → HasEach bytes widers values
each_covered unknowns bytes knows None-covered None-had = None-had
each_covered unknowns bytes knows (One-covered one more) (One-had has each) =
    One-had (one bytes knows _ has) (each_covered unknowns bytes knows more each)

pub covered_has : (ending wider : EndingModel) → CoversEnding ending wider → (outputs : List ℕ) →
    HasOutputs ending outputs → HasOutputs wider outputs
covered_has ending wider is outputs has = record {
  bytes = has.bytes;
  knows = is.unknowns has.bytes has.knows;
  has = each_covered ending.unknowns has.bytes has.knows is.cells has.has;
}

-- an ending in place of one that it covers
pub joined_among : (before behind : List EndingModel) (ending wider : EndingModel) → CoversEnding ending wider →
    AreAmong (before ++ (ending ∷ behind)) (before ++ (wider ∷ behind))
joined_among [] behind ending wider is outputs have =
    ⊎_elim (λ one. inl (covered_has ending wider is outputs one)) (λ more. inr more) have
joined_among (first ∷ before) behind ending wider is outputs have =
    ⊎_elim (λ one. inl one) (λ more. inr (joined_among before behind ending wider is outputs more)) have

-- and it has what another has that it covers
pub joined_has : (before behind : List EndingModel) (ending wider : EndingModel) → CoversEnding ending wider →
    (outputs : List ℕ) → HasOutputs ending outputs → HaveOutputs (before ++ (wider ∷ behind)) outputs
joined_has [] behind ending wider is outputs has = inl (covered_has ending wider is outputs has)
joined_has (first ∷ before) behind ending wider is outputs has =
    inr (joined_has before behind ending wider is outputs has)

pub last_has : (before : List EndingModel) (ending : EndingModel) (outputs : List ℕ) → HasOutputs ending outputs →
    HaveOutputs (before ++ (ending ∷ [])) outputs
last_has [] ending outputs has = inl has
last_has (first ∷ before) ending outputs has = inr (last_has before ending outputs has)

pub last_among : (before : List EndingModel) (ending : EndingModel) → AreAmong before (before ++ (ending ∷ []))
last_among [] ending outputs have = absurd have
last_among (first ∷ before) ending outputs have =
    ⊎_elim (λ one. inl one) (λ more. inr (last_among before ending outputs more)) have

-- ---- what is told

pub told_stands : (region : Region) (start : State) (bytes : Bytes) (piece narrower : PieceModel) (made : ℕ)
    (now : State) → StandsBy region bytes start piece made now → Narrows region bytes now piece narrower →
    StandsBy region bytes start narrower made now
told_stands region start bytes piece narrower made now by told =
    also_stands region start bytes piece made now by bytes narrower told.unknowns told.pc
    (let same = told.turns in omega (arith, same)) told.registers
    (λ address inside has.
    subst (λ c. Has bytes c (byte_of now.setting.base now.store address)) (sym (told.memory address)) has)
