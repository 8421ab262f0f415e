-- One round of the rows that go over bytes.
use Rattle.std.proofs.Common.{◌≡◌, ℕ, suc, ◌+◌, List, refl}
use Rattle.std.specs.Prelude.{slice_index}
use Rattle.flow_base.specs.declared.points.Slot.TheVariants.{SecretIn, ByteOut}
use Rattle.rv32im_machine.specs.declared.language.Place.TheVariants.{Byte}
use Rattle.rv32im_machine.specs.declared.language.Source.TheVariants.{At, Constant, Secret}
use Rattle.rv32im_machine.specs.declared.language.Sources.TheVariants.{One}
use Rattle.rv32im_machine.specs.declared.language.Shape.TheVariants.{Copied}
use Rattle.rv32im_machine.specs.State.{Control, public_taken, secret_taken, emitted}
use Rattle.rv32im_machine.specs.Language.{Passes, Decides, Moves, Shaped}
use Rattle.rv32im_machine.specs.Calls.{point, answered, public_reads, secret_reads, writes}

pub public_reads_none : (n to answer : ℕ) (input : List ℕ) (c : Control) → n ≡ 0 →
    public_reads n to answer input c ≡ answered answer c
unfolding public_reads
public_reads_none n to answer input c e = rw e refl

pub public_reads_more : (n rest to answer : ℕ) (input : List ℕ) (c : Control) → n ≡ suc rest →
    public_reads n to answer input c
    ≡ Moves (Byte to) Copied (Constant (slice_index input c.public_at)) (public_reads rest (to + 1) answer input (public_taken c))
unfolding public_reads
public_reads_more n rest to answer input c e = rw e refl

pub secret_reads_none : (n to answer : ℕ) (c : Control) → n ≡ 0 → secret_reads n to answer c ≡ answered answer c
unfolding secret_reads
secret_reads_none n to answer c e = rw e refl

pub secret_reads_more : (n rest to answer : ℕ) (c : Control) → n ≡ suc rest →
    secret_reads n to answer c
    ≡ Passes (point c SecretIn) (Byte to) (Shaped Copied) (One (Secret c.secret_at)) (secret_reads rest (to + 1) answer (secret_taken c))
unfolding secret_reads
secret_reads_more n rest to answer c e = rw e refl

pub writes_none : (n from answer : ℕ) (c : Control) → n ≡ 0 → writes n from answer c ≡ answered answer c
unfolding writes
writes_none n from answer c e = rw e refl

pub writes_more : (n rest from answer : ℕ) (c : Control) → n ≡ suc rest →
    writes n from answer c
    ≡ Decides (point c ByteOut) (Shaped Copied) (One (At (Byte from))) (λ byte. writes rest (from + 1) answer (emitted byte c))
unfolding writes
writes_more n rest from answer c e = rw e refl
