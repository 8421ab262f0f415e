-- A cut has one fold.
use Rattle.std.proofs.Common.{◌≡◌, ℕ, ◌<◌, ◌==◌, ◌&&◌, ◌||◌, true, false, List, [], ◌∷◌, inl, inr, length, refl, sym, ap, ap₂, ◌∙◌, arith, take}
use Rattle.std.specs.Prelude.{nat_le}
use Rattle.std.specs.List.{list_all}
use Rattle.std.proofs.lemmas.Bool.{and_parts}
use Rattle.flow_base.specs.declared.points.Point.{Point}
use Rattle.cut_file.specs.declared.points.CutPoint.{CutPoint}
use Rattle.cut_file.specs.declared.points.Run.{Run}
use Rattle.cut_file.specs.Cuts.{CutPicture, are_points_of, are_regions, are_runs, is_cut_point, is_point, is_point_of, is_rest, is_single, is_cut_picture, is_version, is_word, neighbours_pass, stands_before}
use Rattle.cut_file.specs.Folds.{AreFolded, HasNoPeriod, IsFold, IsFolded, IsLeastPeriod, is_period}
use Rattle.cut_file.specs.Masks.{listed_masks}
use Rattle.cut_file.proofs.OneRuns.{one_runs}

not_fewer : (masks : List ℕ) (a b : ℕ) → IsLeastPeriod masks a → IsLeastPeriod masks b → a < b → ⊥
not_fewer masks a b first second below =
    let is : is_period masks a ≡ true = first.0 in
    let none : is_period masks a ≡ false = second.1 a below in
    absurd cc

one_period : (masks : List ℕ) (a b : ℕ) → IsLeastPeriod masks a → IsLeastPeriod masks b → a ≡ b
one_period masks a b first second =
    let not_below : a < b → ⊥ = not_fewer masks a b first second in
    let not_above : b < a → ⊥ = not_fewer masks b a second first in
    omega arith

no_period : (masks : List ℕ) (count : ℕ) → IsLeastPeriod masks count → HasNoPeriod masks → ⊥
no_period masks count least none =
    let is : is_period masks count ≡ true = least.0 in
    let not : is_period masks count ≡ false = none count in
    absurd cc

made : Point → List Run → List Run → CutPoint
made point runs rest = record { point = point; runs = runs; rest = rest }

pub cut_points_same : (one other : CutPoint) → one.point ≡ other.point → one.runs ≡ other.runs →
    one.rest ≡ other.rest → one ≡ other
unfolding made
cut_points_same one other point runs rest =
    ap (λ (p : Point). made p one.runs one.rest) point
    ∙ (ap (λ (l : List Run). made other.point l one.rest) runs ∙ ap (made other.point other.runs) rest)

-- the pattern of a point of a valid cut
pub point_rest : (version : ℕ) (cut_point : CutPoint) → is_point_of version cut_point ≡ true →
    are_runs cut_point.rest ≡ true
point_rest version cut_point is =
    let of = and_parts (is_cut_point cut_point) ((version == 2) || is_single cut_point.rest) is in
    let parts = and_parts (is_point cut_point.point) (are_runs cut_point.runs && is_rest cut_point.rest) of.0 in
    let lists = and_parts (are_runs cut_point.runs) (is_rest cut_point.rest) parts.1 in
    (and_parts (nat_le 1 (length cut_point.rest)) (are_runs cut_point.rest) lists.1).1

pub point_runs : (version : ℕ) (cut_point : CutPoint) → is_point_of version cut_point ≡ true →
    are_runs cut_point.runs ≡ true
point_runs version cut_point is =
    let of = and_parts (is_cut_point cut_point) ((version == 2) || is_single cut_point.rest) is in
    let parts = and_parts (is_point cut_point.point) (are_runs cut_point.runs && is_rest cut_point.rest) of.0 in
    (and_parts (are_runs cut_point.runs) (is_rest cut_point.rest) parts.1).0

one_folded : (cut_point one other : CutPoint) → are_runs one.rest ≡ true → are_runs other.rest ≡ true →
    IsFolded cut_point one → IsFolded cut_point other → one ≡ other
one_folded cut_point one other first second (inl a) (inl b) =
    let count : a.0 ≡ b.0 = one_period (listed_masks cut_point.runs) a.0 b.0 a.1 b.1 in
    let masks : listed_masks one.rest ≡ listed_masks other.rest =
    a.4 ∙ (ap (λ (n : ℕ). take n (listed_masks cut_point.runs)) count ∙ sym b.4) in
    cut_points_same one other (a.2 ∙ sym b.2) (a.3 ∙ sym b.3) (one_runs one.rest other.rest first second masks)
one_folded cut_point one other first second (inl a) (inr b) =
    absurd (no_period (listed_masks cut_point.runs) a.0 a.1 b.0)
one_folded cut_point one other first second (inr a) (inl b) =
    absurd (no_period (listed_masks cut_point.runs) b.0 b.1 a.0)
one_folded cut_point one other first second (inr a) (inr b) = a.1 ∙ sym b.1

one_fold_list : (version second : ℕ) (points one other : List CutPoint) →
    list_all (is_point_of version) one ≡ true → list_all (is_point_of second) other ≡ true →
    AreFolded points one → AreFolded points other → one ≡ other
one_fold_list version second [] [] [] all every first also = refl
one_fold_list version second [] [] (b ∷ other) all every first also = absurd also
one_fold_list version second [] (a ∷ one) other all every first also = absurd first
one_fold_list version second (cut_point ∷ points) [] other all every first also = absurd first
one_fold_list version second (cut_point ∷ points) (a ∷ one) [] all every first also = absurd also
one_fold_list version second (cut_point ∷ points) (a ∷ one) (b ∷ other) all every first also =
    let own = and_parts (is_point_of version a) (list_all (is_point_of version) one) all in
    let own_other = and_parts (is_point_of second b) (list_all (is_point_of second) other) every in
    ap₂ (λ (p : CutPoint) (ps : List CutPoint). p ∷ ps)
    (one_folded cut_point a b (point_rest version a own.0) (point_rest second b own_other.0) first.0 also.0)
    (one_fold_list version second points one other own.1 own_other.1 first.1 also.1)

-- what a valid cut keeps of its lists
pub record HasLists (cut : CutPicture) : Type 0 where
  pub skip : are_regions cut.skip ≡ true
  pub points : list_all (is_point_of cut.version) cut.points ≡ true
  pub ascend : neighbours_pass stands_before cut.points ≡ true

pub lists_of : (cut : CutPicture) → is_cut_picture cut ≡ true → HasLists cut
lists_of cut valid =
    let versions = and_parts (is_version cut.version) (nat_le cut.secret_len 65536 && (is_word cut.bits
    && (are_regions cut.skip && are_points_of cut.version cut.points))) valid in
    let sizes = and_parts (nat_le cut.secret_len 65536) (is_word cut.bits
    && (are_regions cut.skip && are_points_of cut.version cut.points)) versions.1 in
    let words = and_parts (is_word cut.bits) (are_regions cut.skip && are_points_of cut.version cut.points) sizes.1 in
    let lists = and_parts (are_regions cut.skip) (are_points_of cut.version cut.points) words.1 in
    let points = and_parts (list_all (is_point_of cut.version) cut.points)
    (neighbours_pass stands_before cut.points) lists.1 in
    record { skip = lists.0; points = points.0; ascend = points.1 }

picture : ℕ → ℕ → ℕ → List ℕ → List CutPoint → CutPicture
picture version secret_len bits skip points = record {
  version = version;
  secret_len = secret_len;
  bits = bits;
  skip = skip;
  points = points;
}

pub cuts_same : (one other : CutPicture) → one.version ≡ other.version → one.secret_len ≡ other.secret_len →
    one.bits ≡ other.bits → one.skip ≡ other.skip → one.points ≡ other.points → one ≡ other
unfolding picture
cuts_same one other version secret_len bits skip points =
    ap (λ (v : ℕ). picture v one.secret_len one.bits one.skip one.points) version
    ∙ (ap (λ (v : ℕ). picture other.version v one.bits one.skip one.points) secret_len
    ∙ (ap (λ (v : ℕ). picture other.version other.secret_len v one.skip one.points) bits
    ∙ (ap (λ (v : List ℕ). picture other.version other.secret_len other.bits v one.points) skip
    ∙ ap (λ (v : List CutPoint). picture other.version other.secret_len other.bits other.skip v) points)))

pub one_fold : (cut one other : CutPicture) → is_cut_picture one ≡ true → is_cut_picture other ≡ true → IsFold cut one →
    IsFold cut other → one ≡ other
one_fold cut one other first second fold also =
    let own = lists_of one first in
    let own_other = lists_of other second in
    cuts_same one other (fold.version ∙ sym also.version) (fold.secret_len ∙ sym also.secret_len)
    (fold.bits ∙ sym also.bits) (fold.skip ∙ sym also.skip)
    (one_fold_list one.version other.version cut.points one.points other.points own.points own_other.points
    fold.points also.points)
