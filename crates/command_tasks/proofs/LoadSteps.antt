-- Loads, one after the other.
use Rattle.std.proofs.Common.{◌≡◌, ◌≢◌, ◌≤◌, ◌<◌, ◌+◌, inl, inr, ℕ, zero, suc, List, [], ◌∷◌, ◌++◌, length, map, get_or, append_assoc, append-nil, take, drop, Option, Some, None, option_map, Result, Ok, Err, refl, sym, ap, ◌∙◌, subst, arith}
use Rattle.flow_base.specs.declared.loading.LoadFault.{LoadFault}
use Rattle.flow_base.specs.Loads.{Told, after_load, next_answer}
use Rattle.command_tasks.specs.declared.refusals.Refusal.{Refusal}
use Rattle.command_tasks.specs.declared.refusals.Refusal.TheVariants.{Memory}
use Rattle.command_tasks.specs.FileLimits.{limit_of}
use Rattle.command_tasks.specs.Loading.{Want, load_refusal, and_file, and_load, loaded_from, after_answer, after_loads}
use Rattle.command_tasks.specs.Loading.{AreWithin, IsLoadRefusal, LoadsAs, Leaves, LeavesPart}
use Rattle.command_tasks.specs.Private.SingleLoads.{AnswersOne, or_refusal}

-- ---- what a source gives for a first part of its loads, and for the others

abbrev and_files : List (List ℕ) → Result (List (List ℕ)) Refusal → Result (List (List ℕ)) Refusal
and_files files (Ok more) = Ok (files ++ more)
and_files files (Err refusal) = Err refusal

-- these loads gave these files, and left the source so
pub record GaveFirst (told : Told) (wants : List Want) (files : List (List ℕ)) (later : Told) : Type 0 where
  pub loaded : (more : List Want) → loaded_from told (wants ++ more) ≡ and_files files (loaded_from later more)
  pub left : (more : List Want) → after_loads told (wants ++ more) ≡ after_loads later more

abbrev pub Gave : Option Told → List Want → List (List ℕ) → Option Told → Type 0
Gave None wants files later = later ≡ None
Gave (Some told) wants files later = (new : Told) × (later ≡ Some new) × GaveFirst told wants files new

and_none : (loaded : Result (List (List ℕ)) Refusal) → and_files [] loaded ≡ loaded
and_none (Ok files) = refl
and_none (Err refusal) = refl

pub gave_none : (source : Option Told) → Gave source [] [] source
gave_none None = refl
gave_none (Some told) = (
  told,
  refl,
  record {
    loaded = λ more. sym (and_none (loaded_from told more));
    left = λ more. refl;
  },
)

and_one : (files : List (List ℕ)) (file : List ℕ) (loaded : Result (List (List ℕ)) Refusal) →
    and_files files (and_file file loaded) ≡ and_files (files ++ file ∷ []) loaded
and_one files file (Ok more) = ap (λ all. Ok all) (sym (append_assoc files (file ∷ []) more))
and_one files file (Err refusal) = refl

ok_answer : (name file : List ℕ) (answer : Result (List ℕ) LoadFault) → Ok file ≡ or_refusal name answer → answer ≡ Ok file
ok_answer name file (Ok other) e = cc
ok_answer name file (Err fault) e = cc

-- one more load that gives a file
pub gave_more : (source : Option Told) (wants : List Want) (files : List (List ℕ)) (later : Option Told) (w : Want) (file : List ℕ) →
    Gave source wants files later → AnswersOne later w (Ok file) →
    Gave source (wants ++ w ∷ []) (files ++ file ∷ []) (option_map after_load later)
gave_more None wants files later w file gave answers = ap (option_map after_load) gave
gave_more (Some told) wants files None w file gave answers = absurd cc
gave_more (Some told) wants files (Some new) w file (first, same, gave) answers =
    let is : first ≡ new = cc in
    let answer : next_answer new w.name (limit_of w.kind) ≡ Ok file = ok_answer w.name file _ (answers (λ e. cc)) in (
      after_load new,
      refl,
      record {
        loaded = λ more.
            ap (loaded_from told) (append_assoc wants (w ∷ []) more)
            ∙ (gave.loaded (w ∷ more)
            ∙ (ap (λ t. and_files files (loaded_from t (w ∷ more))) is
            ∙ (ap (λ a. and_files files (and_load w a (loaded_from (after_load new) more))) answer
            ∙ and_one files file (loaded_from (after_load new) more))));
        left = λ more.
            ap (after_loads told) (append_assoc wants (w ∷ []) more)
            ∙ (gave.left (w ∷ more)
            ∙ (ap (λ t. after_loads t (w ∷ more)) is
            ∙ ap (λ a. after_answer a (after_load new) (after_loads (after_load new) more)) answer));
      },
    )

record IsFault (name : List ℕ) (answer : Result (List ℕ) LoadFault) (refusal : Refusal) : Type 0 where
  fault : LoadFault
  is : answer ≡ Err fault
  told : load_refusal name fault ≡ refusal

err_answer : (name : List ℕ) (answer : Result (List ℕ) LoadFault) (refusal : Refusal) → Err refusal ≡ or_refusal name answer →
    IsFault name answer refusal
err_answer name (Ok other) refusal e = cc
err_answer name (Err fault) refusal e = record { fault = fault; is = refl; told = cc }

err_some : {A : Type 0} (a b : Refusal) → a ≢ b → (e : Result A Refusal) → e ≡ Err a → e ≢ Err b
err_some a b apart e is other = apart (let same : Err a ≡ Err b = sym is ∙ other in cc)

-- a load that is refused is the last
pub refused_loads : (source : Option Told) (wants : List Want) (files : List (List ℕ)) (later : Option Told) (w : Want) (rest : List Want) (refusal : Refusal) →
    Gave source wants files later → AnswersOne later w (Err refusal) → refusal ≢ Memory →
    LoadsAs source (wants ++ w ∷ rest) (Err refusal) × Leaves source (wants ++ w ∷ rest) (option_map after_load later)
refused_loads None wants files later w rest refusal gave answers apart = (tt, ap (option_map after_load) gave)
refused_loads (Some told) wants files None w rest refusal gave answers apart = absurd cc
refused_loads (Some told) wants files (Some new) w rest refusal (first, same, gave) answers apart =
    let is : first ≡ new = cc in
    let fault = err_answer w.name _ refusal (answers (err_some refusal Memory apart (Err refusal) refl)) in (
      sym (gave.loaded (w ∷ rest)
          ∙ (ap (λ t. and_files files (loaded_from t (w ∷ rest))) is
          ∙ (ap (λ a. and_files files (and_load w a (loaded_from (after_load new) rest))) fault.is
          ∙ ap (λ r. Err r) fault.told))),
      ap (λ t. Some t) (sym (gave.left (w ∷ rest)
          ∙ (ap (λ t. after_loads t (w ∷ rest)) is
          ∙ ap (λ a. after_answer a (after_load new) (after_loads (after_load new) rest)) fault.is))),
    )

either_answer : (answer : Result (List ℕ) LoadFault) (told : Told) → after_answer answer told told ≡ told
either_answer (Ok file) told = refl
either_answer (Err fault) told = refl

take_more : {A : Type 0} (wants : List A) (w : A) (rest : List A) → take (suc (length wants)) (wants ++ w ∷ rest) ≡ wants ++ w ∷ []
take_more [] w rest = refl
take_more (first ∷ wants) w rest = ap (λ more. first ∷ more) (take_more wants w rest)

part_left : (source : Option Told) (wants : List Want) (files : List (List ℕ)) (later : Option Told) (w : Want) →
    Gave source wants files later → Leaves source (wants ++ w ∷ []) (option_map after_load later)
part_left None wants files later w gave = ap (option_map after_load) gave
part_left (Some told) wants files None w gave = absurd cc
part_left (Some told) wants files (Some new) w (first, same, gave) =
    let is : first ≡ new = cc in
    ap (λ t. Some t) (sym (gave.left (w ∷ [])
    ∙ (ap (λ t. after_loads t (w ∷ [])) is
    ∙ either_answer (next_answer new w.name (limit_of w.kind)) (after_load new))))

-- up to any load, a first part of them is made
pub part_loads : (source : Option Told) (wants : List Want) (files : List (List ℕ)) (later : Option Told) (w : Want) (rest : List Want) →
    Gave source wants files later → LeavesPart source (wants ++ w ∷ rest) (option_map after_load later)
part_loads source wants files later w rest gave =
    (suc (length wants), subst (λ some. Leaves source some (option_map after_load later)) (sym (take_more wants w rest)) (part_left source wants files later w gave))

-- all loads
pub all_loads : (source : Option Told) (wants : List Want) (files : List (List ℕ)) (later : Option Told) →
    Gave source wants files later → LoadsAs source wants (Ok files) × Leaves source wants later
all_loads None wants files later gave = (tt, gave)
all_loads (Some told) wants files later (new, same, gave) = (
  sym (ap (loaded_from told) (sym (append-nil wants)) ∙ (gave.loaded [] ∙ ap (λ all. Ok all) (append-nil files))),
  same ∙ ap (λ t. Some t) (sym (ap (after_loads told) (sym (append-nil wants)) ∙ gave.left [])),
)

take_whole : {A : Type 0} (wants : List A) → take (length wants) wants ≡ wants
take_whole [] = refl
take_whole (w ∷ wants) = ap (λ more. w ∷ more) (take_whole wants)

pub all_part : (source : Option Told) (wants : List Want) (later : Option Told) → Leaves source wants later → LeavesPart source wants later
all_part source wants later left = (length wants, subst (λ some. Leaves source some later) (sym (take_whole wants)) left)

-- ---- limits and names

pub within_more : (wants : List Want) (files : List (List ℕ)) (w : Want) (file : List ℕ) → AreWithin wants files →
    length file ≤ limit_of w.kind → AreWithin (wants ++ w ∷ []) (files ++ file ∷ [])
within_more [] [] w file within fits = (fits, tt)
within_more [] (other ∷ files) w file within fits = absurd within
within_more (want ∷ wants) [] w file within fits = absurd within
within_more (want ∷ wants) (other ∷ files) w file within fits = (within.0, within_more wants files w file within.1 fits)

pub refusal_among : (wants : List Want) (w : Want) (rest : List Want) (refusal : Refusal) → IsLoadRefusal (w ∷ []) refusal →
    IsLoadRefusal (wants ++ w ∷ rest) refusal
refusal_among [] w rest refusal (inl is) = inl is
refusal_among [] w rest refusal (inr (inl is)) = inr (inl is)
refusal_among [] w rest refusal (inr (inr none)) = absurd none
refusal_among (first ∷ wants) w rest refusal is = inr (inr (refusal_among wants w rest refusal is))

pub within_length : (wants : List Want) (files : List (List ℕ)) → AreWithin wants files → length files ≡ length wants
within_length [] [] within = refl
within_length [] (file ∷ files) within = absurd within
within_length (w ∷ wants) [] within = absurd within
within_length (w ∷ wants) (file ∷ files) within = ap suc (within_length wants files within.1)

-- the loads around one of them
around : {T B : Type 0} (f : T → B) (wants : List T) (i : ℕ) (d : T) → i < length wants →
    map f wants ≡ map f (take i wants) ++ f (get_or wants i d) ∷ map f (drop (suc i) wants)
around f [] i d h = absurd (omega (arith, h))
around f (first ∷ wants) zero d h = refl
around f (first ∷ wants) (suc i) d h = ap (λ more. f first ∷ more) (around f wants i d (omega (arith, h)))

up_to : {T B : Type 0} (f : T → B) (wants : List T) (i : ℕ) (d : T) → i < length wants →
    map f (take (suc i) wants) ≡ map f (take i wants) ++ f (get_or wants i d) ∷ []
up_to f [] i d h = absurd (omega (arith, h))
up_to f (first ∷ wants) zero d h = refl
up_to f (first ∷ wants) (suc i) d h = ap (λ more. f first ∷ more) (up_to f wants i d (omega (arith, h)))

next : (i : ℕ) → suc i ≡ i + 1
next i = omega arith

pub wants_around : {T B : Type 0} (f : T → B) (wants : List T) (i : ℕ) (d : T) → i < length wants →
    map f wants ≡ map f (take i wants) ++ f (get_or wants i d) ∷ map f (drop (i + 1) wants)
wants_around f wants i d h =
    subst (λ n. map f wants ≡ map f (take i wants) ++ f (get_or wants i d) ∷ map f (drop n wants)) (next i) (around f wants i d h)

pub wants_up_to : {T B : Type 0} (f : T → B) (wants : List T) (i : ℕ) (d : T) → i < length wants →
    map f (take (i + 1) wants) ≡ map f (take i wants) ++ f (get_or wants i d) ∷ []
wants_up_to f wants i d h =
    subst (λ n. map f (take n wants) ≡ map f (take i wants) ++ f (get_or wants i d) ∷ []) (next i) (up_to f wants i d h)
