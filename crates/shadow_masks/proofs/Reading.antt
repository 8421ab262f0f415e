-- A shadow reads as a map: call by call, and over all calls.
use Rattle.std.proofs.Common.{◌≡◌, ℕ, ◌-◌, ◌==◌, ◌&&◌, nat_lt, List, [], ◌∷◌, if◌then◌else◌, slice_index_or}
use Rattle.std.proofs.Common.{Option, ap, ap₂, ◌∙◌, subst, sym}
use Rattle.shadow_masks.specs.declared.labels.Label.{Label}
use Rattle.shadow_masks.specs.Labels.{clean}
use Rattle.shadow_masks.specs.Pages.{PageShades}
use Rattle.shadow_masks.specs.Shades.{Shades, register_label, label_at, IsNew}
use Rattle.shadow_masks.specs.Pages.{is_in_range}
use Rattle.shadow_masks.specs.Writes.{Write, ToRegister, ToByte, ToBytes, Save, Restore, IsWritten, Leads}
use Rattle.shadow_masks.specs.Writes.{LabelMap, after, after_all, default_map, ReadsAs}
use Rattle.flow_base.specs.Listed.{is_listed}

-- the same labels of registers read alike, and the same labels of bytes
same_registers : {ours theirs : List Label} (r : ℕ) → ours ≡ theirs →
    slice_index_or ours r clean ≡ slice_index_or theirs r clean
same_registers r same = ap (λ labels. slice_index_or labels r clean) same

same_bytes : {ours theirs : List (Option PageShades)} {our_base their_base : ℕ} (a : ℕ) → our_base ≡ their_base →
    ours ≡ theirs → label_at our_base ours a ≡ label_at their_base theirs a
same_bytes a same_base same = ap₂ (λ base pages. label_at base pages a) same_base same

reads_next : (write : Write) (map : LabelMap) (old new : Shades) → ReadsAs map old → IsWritten write old new →
    ReadsAs (after write map) new
reads_next (ToRegister register label) map old new reads sets = record {
  registers = λ r. sets.registers r
      ∙ ap (λ other. if nat_lt 0 r && r == register then label else other) (reads.registers r);
  kept = λ r. same_registers r sets.kept ∙ reads.kept r;
  bytes = λ a. same_bytes a sets.base sets.pages ∙ reads.bytes a;
}
reads_next (ToByte address label) map old new reads sets = record {
  registers = λ r. same_registers r sets.registers ∙ reads.registers r;
  kept = λ r. same_registers r sets.kept ∙ reads.kept r;
  bytes = λ a. sets.bytes a ∙ ap (λ other. if a == address then label else other) (reads.bytes a);
}
reads_next (ToBytes first length label) map old new reads sets = record {
  registers = λ r. same_registers r sets.registers ∙ reads.registers r;
  kept = λ r. same_registers r sets.kept ∙ reads.kept r;
  bytes = λ a. sets.bytes a ∙ ap (λ other. if is_in_range first length a then label (a - first) else other) (reads.bytes a);
}
reads_next Save map old new reads saves = record {
  registers = λ r. same_registers r saves.registers ∙ reads.registers r;
  kept = λ r. same_registers r saves.kept ∙ reads.registers r;
  bytes = λ a. same_bytes a saves.base saves.pages ∙ reads.bytes a;
}
reads_next (Restore listed) map old new reads restores = record {
  registers = λ r. restores.registers r
      ∙ (ap (λ given. if is_listed listed r then given else register_label old r) (reads.kept r)
      ∙ ap (λ other. if is_listed listed r then map.kept r else other) (reads.registers r));
  kept = λ r. same_registers r restores.kept ∙ reads.kept r;
  bytes = λ a. same_bytes a restores.base restores.pages ∙ reads.bytes a;
}

reads_after : (writes : List Write) (map : LabelMap) (old new : Shades) → ReadsAs map old → Leads writes old new →
    ReadsAs (after_all writes map) new
reads_after [] map old new reads same = subst (ReadsAs map) (sym same) reads
reads_after (write ∷ writes) map old new reads (mid, follows, leads) =
    reads_after writes (after write map) mid new (reads_next write map old mid reads follows) leads

new_reads : (base : ℕ) (start : Shades) → IsNew base start → ReadsAs default_map start
new_reads base start new = record { registers = new.registers; kept = new.kept; bytes = new.bytes }

pub reads_as_map :
    (writes : List Write) (base : ℕ) (start shades : Shades) → IsNew base start → Leads writes start shades →
    ReadsAs (after_all writes default_map) shades
reads_as_map writes base start shades new leads =
    reads_after writes default_map start shades (new_reads base start new) leads
