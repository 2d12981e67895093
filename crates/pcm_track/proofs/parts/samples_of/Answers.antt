use Rattle.std.proofs.Common.{rules, arith, ◌≡◌, ◌≤◌, ◌++◌, [], ◌∷◌, length, ap, sym, ◌∙◌}
use Rattle.std.proofs.lemmas.List.{take_all}
use Rattle.std.proofs.lemmas.List.Elements.{All-push, All-same}
use Rattle.qt_tables.specs.Samples.{samples}
use Rattle.qt_tables.proofs.Again.{samples_counted}
use Rattle.qt_movie.specs.declared.reader.Track.{Track}
use Rattle.pcm_track.specs.Adding.{IsNear}
use Rattle.pcm_track.proofs.Shares.{take-more}
use Rattle.pcm_track.proofs.parts.samples_of.Goals as goal

pub loop-i-preserved : goal.loop-i-preserved
loop-i-preserved c =
    let pushed : c.push.new.self.items ≡ c.loop-i.found.items ++ c.sample.result ∷ [] = search rules in
    record {
      found = pushed ∙ ap (λ l. l ++ c.sample.result ∷ []) c.loop-i.invariant.found ∙ sym (take-more (samples c.args.movie.now.tables) c.loop-i.i c.sample.result c.sample.ensures.value);
      near = All-same IsNear c.push.new.self.items (c.loop-i.found.items ++ c.sample.result ∷ []) pushed (All-push IsNear c.loop-i.found.items c.sample.result c.loop-i.invariant.near c.sample.ensures.near);
    }

pub returns-clause-value : goal.returns-clause-value
returns-clause-value c =
    let count = ap (λ (t : Track). t.samples) c.track-count.ensures in
    let all : length (samples c.args.movie.now.tables) ≤ c.loop-i.i = omega (arith, samples_counted c.args.movie.now.tables c.requires, count, c.loop-i-test.false) in
    c.loop-i.invariant.found ∙ take_all c.loop-i.i (samples c.args.movie.now.tables) all
