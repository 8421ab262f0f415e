-- The bytes of lines, line by line.
use Rattle.std.proofs.Common.{◌≡◌, ℕ, ◌+◌, List, ◌∷◌, ◌++◌, take, Option, Some, Result, Ok, Err, unwrap_or, refl, ap}
use Rattle.std.proofs.Common.{sym, ◌∙◌, append_assoc}
use mathlib.Core.Path.{fun_ext}
use Rattle.rv32im_asm.specs.Assembling.{first_failing, followed, known_places, reached, reading, readings}
use Rattle.rv32im_asm.specs.Sizes.{place_of, places_up_to, total_size}
use Rattle.rv32im_asm.specs.declared.fault.AsmFault.{AsmFault}
use Rattle.rv32im_asm.specs.declared.places.Place.{Place}

-- the line is read alike with the bytes that the code has counted before it
read_alike : (all : List (List ℕ)) (index here : ℕ) (line : List ℕ) (places : List ℕ → Option Place)
    → total_size (take index all) ≡ Some here
    → reading places index (unwrap_or (total_size (take index all)) 0) line ≡ reading places index here line
read_alike all index here line places known =
    ap (λ offset. reading places index (unwrap_or offset 0) line) known

pub fault_step : (all more : List (List ℕ)) (index here : ℕ) (line program : List ℕ) (places : List ℕ → Option Place)
    (fault : AsmFault)
    → total_size (take index all) ≡ Some here
    → Err fault ≡ reading places index here line
    → followed (Ok program) (readings places all index (line ∷ more)) ≡ readings places all 0 all
    → Err fault ≡ readings places all 0 all
fault_step all more index here line program places fault known read whole =
    sym (sym whole ∙ ap (λ first. followed (Ok program) (followed first (readings places all (index + 1) more)))
    (read_alike all index here line places known ∙ sym read))

joined_twice : (program bytes : List ℕ) (rest : Result (List ℕ) AsmFault)
    → followed (Ok (program ++ bytes)) rest ≡ followed (Ok program) (followed (Ok bytes) rest)
joined_twice program bytes (Err fault) = refl
joined_twice program bytes (Ok more) = ap Ok (append_assoc program bytes more)

pub bytes_step : (all more : List (List ℕ)) (index here : ℕ) (line program bytes : List ℕ) (places : List ℕ
    → Option Place)
    → total_size (take index all) ≡ Some here
    → Ok bytes ≡ reading places index here line
    → followed (Ok program) (readings places all index (line ∷ more)) ≡ readings places all 0 all
    → followed (Ok (program ++ bytes)) (readings places all (index + 1) more) ≡ readings places all 0 all
bytes_step all more index here line program bytes places known read whole =
    joined_twice program bytes (readings places all (index + 1) more)
    ∙ (ap (λ first. followed (Ok program) (followed first (readings places all (index + 1) more)))
    (read ∙ sym (read_alike all index here line places known)) ∙ whole)

-- ---- the first line that fails with the labels up to it

pub failing_step : (all more : List (List ℕ)) (index here whole : ℕ) (line : List ℕ) (places : List ℕ → Option Place)
    (fault : AsmFault)
    → total_size (take index all) ≡ Some here
    → Err fault ≡ reading (places_up_to index places) index here line
    → first_failing places all index (line ∷ more) ≡ whole
    → index ≡ whole
failing_step all more index here whole line places fault known read first =
    sym (sym first ∙ ap (λ found. reached found index (first_failing places all (index + 1) more))
    (read_alike all index here line (places_up_to index places) known ∙ sym read))

pub standing_step : (all more : List (List ℕ)) (index here whole : ℕ) (line bytes : List ℕ) (places : List ℕ
    → Option Place)
    → total_size (take index all) ≡ Some here
    → Ok bytes ≡ reading (places_up_to index places) index here line
    → first_failing places all index (line ∷ more) ≡ whole
    → first_failing places all (index + 1) more ≡ whole
standing_step all more index here whole line bytes places known read first =
    ap (λ found. reached found index (first_failing places all (index + 1) more))
    (read ∙ sym (read_alike all index here line (places_up_to index places) known)) ∙ first

-- ---- the labels that the code keeps, up to that line

pub same_places : (all : List (List ℕ)) (reach : ℕ) (places : List ℕ → Option Place)
    → ((name : List ℕ) → places name ≡ place_of all name)
    → reach ≡ first_failing places all 0 all
    → places_up_to reach places ≡ known_places all
same_places all reach places same known =
    ap (λ index. places_up_to index places) known
    ∙ ap (λ found. places_up_to (first_failing found all 0 all) found) (fun_ext same)
