use Rattle.std.proofs.Common.{rules, ◌+◌, ◌-◌, ◌≤◌, ◌++◌, length, take, drop, arith, ap, sym, append_assoc, ◌∙◌}
use Rattle.std.proofs.lemmas.Option.{slice_get_within}
use Rattle.pw_text.proofs.Numbered.{one_more}
use Rattle.qt_tables.specs.Samples.{samples}
use Rattle.run_look.specs.Listing.{sample_line, sample_lines}
use Rattle.run_look.proofs.lines.put_samples.Goals as goal

pub loop-number-preserved : goal.loop-number-preserved
loop-number-preserved c =
    let ss = samples c.args.reader.now.tables in
    let from = c.args.from in
    let number = c.loop-number.number in
    let before = sample_lines from (take (number - from) (drop from ss)) in
    let there = slice_get_within ss number c.sample.result c.sample.ensures.value in
    record {
      order = search rules;
      there = search rules;
      within = λ _. let h : number + 1 ≤ length ss = omega (arith, there) in h;
      text = c.in_ok-put_sample.ensures
          ∙ ap (λ l. l ++ sample_line number c.sample.result) c.loop-number.invariant.text
          ∙ append_assoc c.args.text.now.items before (sample_line number c.sample.result)
          ∙ ap (λ l. c.args.text.now.items ++ l) (sym (one_more sample_line ss from number c.sample.result c.loop-number.invariant.order c.sample.ensures.value));
    }
