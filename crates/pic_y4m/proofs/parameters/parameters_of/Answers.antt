use Rattle.std.proofs.Common.{◌+◌, ◌-◌, length, take, drop, arith}
use Rattle.std.proofs.lemmas.Result.{err_from_is_err_and}
use Rattle.pic_y4m.proofs.Words.{rest-is, parameters-more, parameters-end, parameters-none}
use Rattle.pic_y4m.proofs.parameters.parameters_of.Goals as goal

pub returns-in_err-found-clause-answer : goal.returns-in_err-found-clause-answer
returns-in_err-found-clause-answer c =
    let p = err_from_is_err_and c.from_residual.result c.from_residual.ensures.1 in
    let at = c.loop-at.at in
    let text = c.args.text.now in
    rw (p.1, p.2) (parameters-end c.in_err-found.field-0.0 c.loop-at.found (c.args.place + at) at c.word_len-len.result text (take (length text - at) (drop at text)) _ c.loop-at-test.true (rest-is at text) c.word_len-len.ensures.value c.in_err-found.ensures.answer c.loop-at.invariant.answer)

pub loop-at-preserved : goal.loop-at-preserved
loop-at-preserved c =
    let at = c.loop-at.at in
    let text = c.args.text.now in
    record {
      at = omega (arith, c.word_len-len.ensures.inside, rest-is at text);
      within = c.in_ok-found.ensures.within;
      answer = parameters-more c.loop-at.found c.in_ok-found.found (c.args.place + at) at c.word_len-len.result (c.args.place + (at + (c.word_len-len.result + 1))) text (take (length text - at) (drop at text)) _ c.loop-at-test.true (rest-is at text) c.word_len-len.ensures.value (omega arith) c.in_ok-found.ensures.answer c.loop-at.invariant.answer;
    }

pub returns-clause-answer : goal.returns-clause-answer
returns-clause-answer c = parameters-none c.loop-at.found _ c.loop-at.at c.args.text.now _ c.loop-at-test.false c.loop-at.invariant.answer

pub returns-in_err-found-clause-pure : goal.returns-in_err-found-clause-pure
returns-in_err-found-clause-pure c = let p = err_from_is_err_and c.from_residual.result c.from_residual.ensures.1 in rw (p.1, p.2) c.in_err-found.ensures.pure
