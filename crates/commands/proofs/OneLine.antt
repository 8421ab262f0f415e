-- No text of a refusal has a line feed within.
use Rattle.std.proofs.Common.{◌≡◌, ◌==◌, ◌||◌, ◌/◌, ◌%◌, ◌∙◌, ℕ, zero, suc, List, [], ◌∷◌, ◌++◌, codes, Bool, true, false, refl, ap, arith, if◌then◌else◌}
use Rattle.std.proofs.lemmas.Bool.Decides.{nat_tests}
use Rattle.std.proofs.lemmas.List.Folds.{list_any-append}
use Rattle.std.specs.Fmt.{decimal, digit_glyph, digits, digits_onto}
use Rattle.flow_base.specs.HexWords.{hex_digit, hex_word}
use Rattle.elf32_loader.specs.declared.fault.ElfFault.{ElfFault}
use Rattle.elf32_loader.specs.declared.fault.ElfFault.TheVariants as elf
use Rattle.elf32_loader.specs.Fault.{hex_byte, program_fault_text}
use Rattle.cut_file.specs.declared.faults.CutFault.{CutFault}
use Rattle.cut_file.specs.declared.faults.CutFault.TheVariants as cut
use Rattle.cut_file.specs.FaultTexts.{cut_fault_text}
use Rattle.enclosure_regions.specs.declared.region_faults.RegionFault.{RegionFault}
use Rattle.enclosure_regions.specs.declared.region_faults.RegionFault.TheVariants as regions
use Rattle.enclosure_regions.specs.Texts.{break_text, region_fault_text, place_text}
use Rattle.rv32im_asm.specs.declared.fault.AsmFault.{AsmFault}
use Rattle.rv32im_asm.specs.declared.fault.AsmFault.TheVariants as source
use Rattle.rv32im_asm.specs.FaultTexts.{source_fault_text}
use Rattle.rv32im_asm.specs.Kinds.{kind_number}
use Rattle.flow_certificate.specs.declared.faults.FormFault.{FormFault}
use Rattle.flow_certificate.specs.declared.faults.FormFault.TheVariants as forms
use Rattle.flow_certificate.specs.VerdictTexts.{form_fault_text}
use Rattle.enclosure_regions.specs.declared.break_kinds.Break.{Break}
use Rattle.enclosure_regions.specs.declared.break_kinds.Break.TheVariants as breaks
use Rattle.enclosure_regions.specs.declared.break_kinds.Place.{Place}
use Rattle.enclosure_regions.specs.declared.break_kinds.Place.TheVariants as places
use Rattle.rv32im_machine.specs.declared.stepping.Fault.{Fault}
use Rattle.rv32im_machine.specs.declared.stepping.Fault.TheVariants as stops
use Rattle.run_labels.specs.declared.faults.MeasureFault.{MeasureFault}
use Rattle.run_labels.specs.declared.faults.MeasureFault.TheVariants as run
use Rattle.many_runs.specs.declared.faults.ManyFault.{ManyFault}
use Rattle.many_runs.specs.declared.faults.ManyFault.TheVariants as many
use Rattle.many_runs.specs.Faults.{many_fault_text}
use Rattle.region_learn.specs.declared.faults.LearnFault.{LearnFault}
use Rattle.region_learn.specs.declared.faults.LearnFault.TheVariants as learn
use Rattle.region_learn.specs.Faults.{learn_fault_text}
use Rattle.rv32im_machine.specs.Stepping.{stop_text}
use Rattle.run_labels.specs.Faults.{run_fault_text}
use Rattle.command_tasks.specs.Names.{escape, is_control, shown}
use Rattle.commands.specs.Lines.{has_line_feed}

pub record Clean (text : List ℕ) : Type 0 where
  pub none : has_line_feed text ≡ false

is : {text : List ℕ} → has_line_feed text ≡ false → Clean text
is e = record { none = e }

pub literal : (text : List ℕ) → has_line_feed text ≡ false → Clean text
literal text e = record { none = e }

pub joined : (a b : List ℕ) → Clean a → Clean b → Clean (a ++ b)
joined a b x y = is (list_any-append (λ byte. byte == 10) a b ∙ (ap (λ l. l || has_line_feed b) x.none ∙ y.none))

behind : (byte : ℕ) (text : List ℕ) → (byte == 10) ≡ false → Clean text → Clean (byte ∷ text)
behind byte text x y = is (ap (λ l. l || has_line_feed text) x ∙ y.none)

either : (b : Bool) (x y : List ℕ) → Clean x → Clean y → Clean (if b then x else y)
either true x y h k = h
either false x y h k = k

glyph : (d : ℕ) → (digit_glyph false d == 10) ≡ false
glyph d = grind (arith, nat_tests)

hex : (d : ℕ) → (hex_digit d == 10) ≡ false
hex d = grind (arith, nat_tests)

onto : (k n : ℕ) (text : List ℕ) → Clean text → Clean (digits_onto k 10 false n text)
onto zero n text h = h
onto (suc k) n text h =
    let more = behind (digit_glyph false (n % 10)) text (glyph (n % 10)) h in
    either (n / 10 == 0) _ _ more (onto k (n / 10) (digit_glyph false (n % 10) ∷ text) more)

pub number : (n : ℕ) → Clean (decimal n)
unfolding digits
number n = onto 64 n [] (is refl)

word : (n : ℕ) → Clean (hex_word n)
word n =
    behind 48 _ refl (behind 120 _ refl (behind _ _ (hex (n / 268435456 % 16)) (behind _ _ (hex (n / 16777216 % 16))
    (behind _ _ (hex (n / 1048576 % 16)) (behind _ _ (hex (n / 65536 % 16)) (behind _ _ (hex (n / 4096 % 16))
    (behind _ _ (hex (n / 256 % 16)) (behind _ _ (hex (n / 16 % 16)) (behind _ [] (hex (n % 16)) (is refl))))))))))

byte : (n : ℕ) → Clean (hex_byte n)
byte n = behind 48 _ refl (behind 120 _ refl (behind _ _ (hex (n / 16 % 16)) (behind _ [] (hex (n % 16)) (is refl))))

spelled : (n : ℕ) → Clean (escape n)
spelled n = behind 92 _ refl (behind 120 _ refl (behind _ _ (hex (n / 16 % 16)) (behind _ [] (hex (n % 16)) (is refl))))

plain : (n : ℕ) → is_control n ≡ false → (n == 10) ≡ false
plain n h = grind (arith, nat_tests)

one : (n : ℕ) (b : Bool) → is_control n ≡ b → Clean (if b then escape n else n ∷ [])
one n true e = spelled n
one n false e = behind n [] (plain n e) (is refl)

pub name : (bytes : List ℕ) → Clean (shown bytes)
name [] = is refl
name (first ∷ bytes) = joined _ (shown bytes) (one first (is_control first) refl) (name bytes)

two : (a : List ℕ) (n : ℕ) → Clean a → Clean (a ++ decimal n)
two a n h = joined a (decimal n) h (number n)

more : (a b : List ℕ) (n : ℕ) → Clean a → Clean b → Clean (a ++ (decimal n ++ b))
more a b n h k = joined a _ h (joined (decimal n) b (number n) k)

pub program : (fault : ElfFault) → Clean (program_fault_text fault)
program (elf.Truncated need have) = more (codes "truncated need ") _ need (is refl) (two (codes " have ") have (is refl))
program (elf.NotElf32 offset value) = more (codes "not-elf32 offset ") _ offset (is refl) (joined (codes " byte ") _ (is refl) (byte value))
program (elf.WrongKind kind machine) = more (codes "wrong-kind type ") _ kind (is refl) (two (codes " machine ") machine (is refl))
program elf.Compressed = is refl
program (elf.Headers count size loads) =
    more (codes "headers ") _ count (is refl) (more (codes " size ") _ size (is refl) (two (codes " loads ") loads (is refl)))
program (elf.Dynamic index) = two (codes "dynamic ") index (is refl)
program (elf.SegmentRange index) = two (codes "segment ") index (is refl)
program (elf.Overlap a b) = more (codes "overlap ") _ a (is refl) (two (codes " ") b (is refl))
program (elf.EntryOutside entry) = joined (codes "entry ") _ (is refl) (word entry)
program elf.Memory = is refl

pub cut_fault : (fault : CutFault) → Clean (cut_fault_text fault)
cut_fault cut.Version = is refl
cut_fault (cut.Line line) = two (codes "line ") line (is refl)
cut_fault (cut.Order line) = two (codes "order ") line (is refl)
cut_fault cut.Truncated = is refl
cut_fault (cut.Trailing offset) = two (codes "trailing ") offset (is refl)
cut_fault cut.Memory = is refl

pub region : (fault : RegionFault) → Clean (region_fault_text fault)
region regions.Json = is refl
region (regions.Shape index) = two (codes "shape ") index (is refl)
region (regions.SameAddress index) = two (codes "same-address ") index (is refl)
region (regions.EnterTwice index) = two (codes "enter-twice ") index (is refl)
region (regions.RegisterTwice index register) = more (codes "register-twice ") _ index (is refl) (two (codes " x") register (is refl))
region (regions.TooMany count) = two (codes "too-many ") count (is refl)
region regions.Memory = is refl

pub source_fault : (fault : AsmFault) → Clean (source_fault_text fault)
source_fault (source.Line line kind) = more (codes "line ") _ line (is refl) (two (codes " kind ") (kind_number kind) (is refl))
source_fault (source.LabelTwice line) = two (codes "label-twice ") line (is refl)
source_fault (source.LabelMissing line) = two (codes "label-missing ") line (is refl)
source_fault (source.ImmediateRange line) = two (codes "range ") line (is refl)
source_fault source.Memory = is refl

pub form_fault : (fault : FormFault) → Clean (form_fault_text fault)
form_fault (forms.Line line) = two (codes "line ") line (is refl)
form_fault forms.Memory = is refl

stop : (fault : Fault) → Clean (stop_text fault)
stop (stops.Illegal pc value) = joined (codes "illegal ") _ (is refl) (joined (hex_word pc) _ (word pc) (joined (codes " word ") _ (is refl) (word value)))
stop (stops.FetchOutside pc) = joined (codes "fetch-outside ") _ (is refl) (word pc)
stop (stops.FetchUnaligned pc) = joined (codes "fetch-unaligned ") _ (is refl) (word pc)
stop (stops.LoadOutside pc address) =
    joined (codes "load-outside ") _ (is refl) (joined (hex_word pc) _ (word pc) (joined (codes " address ") _ (is refl) (word address)))
stop (stops.StoreOutside pc address) =
    joined (codes "store-outside ") _ (is refl) (joined (hex_word pc) _ (word pc) (joined (codes " address ") _ (is refl) (word address)))
stop (stops.Breakpoint pc) = joined (codes "breakpoint ") _ (is refl) (word pc)
stop (stops.OutputLimit pc) = joined (codes "output-limit ") _ (is refl) (word pc)

place : (place : Place) → Clean (place_text place)
place (places.Reg register) = two (codes "x") register (is refl)
place (places.Byte address) = word address

broken : (kind : Break) → Clean (break_text kind)
broken (breaks.UndeclaredWrite region pc at) =
    more (codes "region ") _ region (is refl) (joined (codes " undeclared ") _ (is refl) (joined (place_text at) _ (place at) (joined (codes " at ") _ (is refl) (word pc))))
broken (breaks.KeepBroken region register before after) =
    more (codes "region ") _ region (is refl) (more (codes " keep x") _ register (is refl)
    (joined (codes " before ") _ (is refl) (joined (hex_word before) _ (word before) (joined (codes " after ") _ (is refl) (word after)))))
broken (breaks.CallInRegion region pc) = more (codes "region ") _ region (is refl) (joined (codes " call at ") _ (is refl) (word pc))
broken (breaks.RangeOutside region range) = more (codes "region ") _ region (is refl) (more (codes " range ") _ range (is refl) (is refl))

pub run_fault : (fault : MeasureFault) → Clean (run_fault_text fault)
run_fault (run.Guest fault) = stop fault
run_fault (run.Region kind) = broken kind
run_fault (run.TurnLimit limit) = two (codes "turns ") limit (is refl)
run_fault (run.SecretCode pc) = joined (codes "secret-code ") _ (is refl) (word pc)
run_fault (run.BaseSecret region register) = more (codes "region ") _ region (is refl) (more (codes " base x") _ register (is refl) (is refl))
run_fault run.GraphLimit = is refl
run_fault run.Memory = is refl

pub many_fault : (fault : ManyFault) → Clean (many_fault_text fault)
many_fault (many.Length index first got) =
    more (codes "length ") _ index (is refl) (more (codes " first ") _ first (is refl) (two (codes " got ") got (is refl)))
many_fault (many.Run index fault) =
    more (codes "run ") _ index (is refl) (joined (codes " ") _ (is refl) (run_fault fault))
many_fault many.UnitedLimit = is refl
many_fault (many.BudgetLimit value) = two (codes "budget-limit ") value (is refl)
many_fault many.Memory = is refl

pub learn_fault : (fault : LearnFault) → Clean (learn_fault_text fault)
learn_fault (learn.Guest fault) = stop fault
learn_fault (learn.Call region pc) =
    more (codes "region ") _ region (is refl) (joined (codes " call at ") _ (is refl) (word pc))
learn_fault (learn.TurnLimit limit) = two (codes "turns ") limit (is refl)
learn_fault (learn.Ranges region count) = more (codes "region ") _ region (is refl) (two (codes " ranges ") count (is refl))
learn_fault (learn.Bytes region count) = more (codes "region ") _ region (is refl) (two (codes " bytes ") count (is refl))
learn_fault (learn.TextSize size) = two (codes "text-size ") size (is refl)
learn_fault learn.Memory = is refl
