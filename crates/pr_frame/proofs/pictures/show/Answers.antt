use Rattle.std.proofs.Common.{sym, subst}
use Rattle.pr_frame.specs.Shown.{shown, HasHeaderForm}
use Rattle.pr_frame.proofs.ShownForm.{shown_form}
use Rattle.pr_frame.proofs.pictures.show.Goals as goal

pub returns-clause-value : goal.returns-clause-value
unfolding shown
returns-clause-value c =
    λ i. record {
      y = c.in_ok-shown_plane.ensures i;
      cb = c.in_ok-shown_plane-2.ensures i;
      cr = c.in_ok-shown_plane-3.ensures i;
      alpha = c.in_ok-shown_alpha.ensures i;
      chroma = c.args.frame.now.header.chroma;
      depth = c.args.depth;
    }

pub returns-clause-form : goal.returns-clause-form
returns-clause-form c = subst (HasHeaderForm c.args.frame.now.header c.args.depth) (sym (returns-clause-value c)) (shown_form c.args.frame.now c.args.depth c.requires)
