use Rattle.crossing_bits.proofs.masks.+patched.Given as goal

abbrev pub decreases-patched : goal.decreases-patched
decreases-patched l = l.mask
