-- A size within its limits has no fault.
use Rattle.std.proofs.Common.{◌≡◌, ℕ, ◌%◌, Bool, true, false, None, eqb, ltb, ◌∙◌, arith, le-ltb}
use Rattle.std.specs.Prelude.{◌||◌}
use Rattle.std.proofs.lemmas.Bool.{cond-false, ne_eqb}
use Rattle.pw_planes.specs.declared.kinds.Interlace.{Interlace}
use Rattle.pr_geom.specs.Slices.{pictures_of}
use Rattle.pr_geom.specs.Faults.{slice_count, first_fault, IsAllowed}

neither : (a b : Bool) → a ≡ false → b ≡ false → (a || b) ≡ false
neither false b p q = q
neither true b p q = cc

pub no_fault : (width height log2 : ℕ) (interlace : Interlace) → IsAllowed width height log2 interlace → first_fault width height log2 interlace ≡ None
no_fault width height log2 interlace ok =
    cond-false _ _ _ (neither (eqb width 0) (eqb height 0) (ne_eqb width 0 (λ e. omega (arith, ok.some_columns))) (ne_eqb height 0 (λ e. omega (arith, ok.some_rows))))
    ∙ cond-false _ _ _ (neither (ltb 8192 width) (ltb 4320 height) (le-ltb 8192 width ok.columns) (le-ltb 4320 height ok.rows))
    ∙ cond-false _ _ _ (le-ltb 0 (height % pictures_of interlace) (omega (arith, ok.whole)))
    ∙ cond-false _ _ _ (le-ltb 65535 (slice_count width height log2 interlace) ok.slices)
