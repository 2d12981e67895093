use Rattle.std.proofs.Common.{rules, ◌≤◌, ◌-◌, length}
use Rattle.pw_outside.proofs.Loops.{part-passed, part-end}
use Rattle.pw_outside.proofs.span.SpanByteSource.read.Goals as goal

pub returns-clause-bytes : goal.returns-clause-bytes
returns-clause-bytes g c =
    let within : length c.read_at.new.piece ≤ c.args.self.now.end - c.args.self.now.at = search rules in (
      part-passed _ _ _ _ _ _ _ c.in_ok-count.ensures.bytes c.in_ok-count.ensures.count.0 within c.in_ok-count.ensures.value,
      λ none some. part-end _ _ _ _ _ _ c.in_ok-count.ensures.bytes (λ room. search rules) c.in_ok-count.ensures.value none,
    )
