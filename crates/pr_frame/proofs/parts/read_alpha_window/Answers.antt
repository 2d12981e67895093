use Rattle.std.proofs.Common.{Ok, ap, ◌∙◌}
use Rattle.pw_outside.specs.Reading.{Rest}
use Rattle.pw_bits.specs.Window.{Moves-same}
use Rattle.pr_head.proofs.Bounds.{lowers_then}
use Rattle.pr_frame.proofs.Steps.{rest-ahead, window-told, values-stand, values-window-fault}
use Rattle.pr_frame.proofs.parts.read_alpha_window.Goals as goal

pub returns-in_ok-skip-in-Ok-clause-value : goal.returns-in_ok-skip-in-Ok-clause-value
returns-in_ok-skip-in-Ok-clause-value g c = λ h.
    let w = c.args.window.now in
    let left = g.S.ByteSource.left w.source.now in
    let r = c.in-Ok.ensures in
    let l = c.read_alpha.new.values in
    let m = c.read_alpha.ensures.becomes w (Moves-same g.S.ByteSource.becomes (g.S.ByteSource.most w.source.now) left w.source.now w.source.ghost_name w.left) in
    values-stand c.args.bits _ w.left c.args.at left l h c.read_alpha.auto.values (r.stands (window-told w.left left h))
    ∙ ap (λ (s : Rest). Ok (l, s)) (rest-ahead c.args.at w.left left (g.S.ByteSource.left c.skip.new.self.source.now) (c.in_ok-skip-in-Ok.ensures.source (m.told h) ∙ m.behind h))

pub returns-in-Err-clause-fault : goal.returns-in-Err-clause-fault
returns-in-Err-clause-fault g c = λ h.
    let w = c.args.window.now in
    let left = g.S.ByteSource.left w.source.now in
    values-window-fault c.args.bits _ w.left c.args.at left _ c.in-Err.fault c.alpha_fault_of.result h c.read_alpha.auto.values (c.in-Err.ensures.fault (window-told w.left left h)) c.alpha_fault_of.ensures.bad

pub returns-in-Err-clause-most : goal.returns-in-Err-clause-most
returns-in-Err-clause-most g c =
    let w = c.args.window.now in
    (c.read_alpha.ensures.becomes w (Moves-same g.S.ByteSource.becomes (g.S.ByteSource.most w.source.now) (g.S.ByteSource.left w.source.now) w.source.now w.source.ghost_name w.left)).bound

pub returns-in_ok-skip-in-Ok-clause-most : goal.returns-in_ok-skip-in-Ok-clause-most
returns-in_ok-skip-in-Ok-clause-most g c =
    let w = c.args.window.now in
    let m = c.read_alpha.ensures.becomes w (Moves-same g.S.ByteSource.becomes (g.S.ByteSource.most w.source.now) (g.S.ByteSource.left w.source.now) w.source.now w.source.ghost_name w.left) in
    lowers_then _ _ _ _ _ m.bound c.skip.ensures.source_most

pub returns-in_err-skip-in-Ok-clause-most : goal.returns-in_err-skip-in-Ok-clause-most
returns-in_err-skip-in-Ok-clause-most g c =
    let w = c.args.window.now in
    let m = c.read_alpha.ensures.becomes w (Moves-same g.S.ByteSource.becomes (g.S.ByteSource.most w.source.now) (g.S.ByteSource.left w.source.now) w.source.now w.source.ghost_name w.left) in
    lowers_then _ _ _ _ _ m.bound c.skip.ensures.source_most
