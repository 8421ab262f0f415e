-- A pattern as a key.
use Rattle.every_secret.specs.declared.kept_patterns.KeptPattern.{KeptPattern}
use Rattle.every_secret.specs.declared.patterns.Pattern.{Pattern}

abbrev pub pattern_of : KeptPattern → Pattern
pattern_of kept = record {
  bytes = kept.bytes.items;
  status = kept.status;
  byte_masks = kept.byte_masks.items;
  status_mask = kept.status_mask;
}
