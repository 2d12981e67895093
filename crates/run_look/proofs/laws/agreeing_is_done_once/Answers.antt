use Rattle.run_look.proofs.OnceWith.{done_once}
use Rattle.run_look.proofs.laws.agreeing_is_done_once.Goals as goal

pub returns : goal.returns
returns c = done_once c.frame_has_no_fault.ensures c.one_frame.ensures
