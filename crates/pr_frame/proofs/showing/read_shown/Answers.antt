use Rattle.pr_frame.proofs.ShowFrames.{shown_stands, shown_fault, shown_has_form}
use Rattle.pr_frame.proofs.showing.read_shown.Goals as goal

pub returns-clause-shown : goal.returns-clause-shown
returns-clause-shown g c = shown_stands c.args.depth c.args.size c.show_frame.new.place (g.S.ByteSource.left c.args.source.now) (g.S.ByteSource.left c.show_frame.new.source) c.requires c.show_frame.result c.show_frame.ensures.found

pub returns-clause-fault : goal.returns-clause-fault
returns-clause-fault g c = shown_fault c.args.depth c.args.size c.show_frame.new.place (g.S.ByteSource.left c.args.source.now) (g.S.ByteSource.left c.show_frame.new.source) c.requires c.show_frame.result c.show_frame.ensures.found

pub returns-clause-form : goal.returns-clause-form
returns-clause-form g c = shown_has_form c.args.depth c.args.size c.show_frame.new.place (g.S.ByteSource.left c.args.source.now) (g.S.ByteSource.left c.show_frame.new.source) c.requires c.show_frame.result c.show_frame.ensures.found
