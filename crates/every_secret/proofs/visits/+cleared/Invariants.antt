use Rattle.every_secret.proofs.visits.+cleared.Given as goal

abbrev pub decreases-cleared : goal.decreases-cleared
decreases-cleared l = l.mask
