use Rattle.std.proofs.Common.{rules, ap, ◌≡◌, ◌+◌}
use Rattle.std.proofs.lemmas.Result.{IfOk-weaker}
use Rattle.pw_outside.proofs.Parts.{part_told}
use Rattle.pr_frame.specs.Stands.{FrameStands}
use Rattle.run_look.proofs.agreeing.read_part.Goals as goal

pub returns-clause-stands : goal.returns-clause-stands
returns-clause-stands g c = IfOk-weaker c.read_frame.result _ _ (λ f. part_told (λ sample. FrameStands sample f) (g.M.ByteStore.bytes c.args.movie.now) _ c.args.at c.new-span.result.at c.args.size c.new-span.result.end
    (ap g.M.ByteStore.bytes c.new-span.ensures.untouched) (let e : c.new-span.result.at ≡ c.args.at = search rules in e) (let e : c.new-span.result.end ≡ c.args.at + c.args.size = search rules in e)) c.read_frame.ensures.stands
