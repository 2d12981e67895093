use Rattle.pr_geom.proofs.layout.+slices_in_row.Given as goal

abbrev pub decreases-slices_in_row : goal.decreases-slices_in_row
decreases-slices_in_row l = l.log2
