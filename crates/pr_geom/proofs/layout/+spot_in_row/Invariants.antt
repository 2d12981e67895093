use Rattle.pr_geom.proofs.layout.+spot_in_row.Given as goal

abbrev pub decreases-spot_in_row : goal.decreases-spot_in_row
decreases-spot_in_row l = l.log2
