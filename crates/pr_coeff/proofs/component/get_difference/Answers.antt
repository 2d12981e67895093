use Rattle.std.proofs.Common.{◌≡◌, ap, sym, ◌∙◌, arith, nat_abs, ◌+ℤ◌}
use mir.Val.{to_z, of_z}
use mir.Syntax.{w16, w32}
use Rattle.pw_bits.specs.Reading.{unread}
use Rattle.pr_coeff.specs.Component.{turned, is_negative}
use Rattle.pr_coeff.specs.Reading.{unfolded, is_small, first_at}
use Rattle.pr_coeff.proofs.CodingLemmas.{kept_value, kept_wide}
use Rattle.pr_coeff.proofs.FirstLemmas.{first_value, first_large, first_fault, fault_is}
use Rattle.pr_coeff.proofs.component.get_difference.Goals as goal

pub returns-in-Ok-judge-clause-value : goal.returns-in-Ok-judge-clause-value
returns-in-Ok-judge-clause-value g c = λ told.
    let d = c.args.differences.now in
    let is = c.book_of_difference.ensures.value in
    let difference : c.turn-difference.result ≡ turned d.negative (unfolded c.in-Ok.code) = c.turn-difference.ensures.value ∙ ap (turned d.negative) (kept_wide c.unfold.result (omega (arith, c.unfold.ensures.small)) ∙ c.unfold.ensures.value) in
    let wide : to_z w32 (of_z w32 c.turn-difference.result) ≡ c.turn-difference.result = kept_wide c.turn-difference.result (omega (arith, c.turn-difference.ensures.small, c.unfold.ensures.small, ap nat_abs (kept_wide c.unfold.result (omega (arith, c.unfold.ensures.small))))) in
    let sum : c.plus.result ≡ d.last +ℤ turned d.negative (unfolded c.in-Ok.code) = c.plus.ensures.value
    ∙ ap (λ x. x +ℤ to_z w32 (of_z w32 c.turn-difference.result)) (kept_value d.last c.requires)
    ∙ ap (λ x. d.last +ℤ x) (wide ∙ difference) in
    let wide2 = kept_wide c.plus.result c.plus.ensures.small in
    let j = c.in-Ok-judge.ensures.value in
    let v : to_z w16 (of_z w16 c.in-Ok-judge.value) ≡ d.last +ℤ turned d.negative (unfolded c.in-Ok.code) = kept_value c.in-Ok-judge.value j.2 ∙ j.0 ∙ wide2 ∙ sum in
    let sign : c.below_zero-differences.result ≡ is_negative (turned d.negative (unfolded c.in-Ok.code)) = c.below_zero-differences.ensures ∙ ap is_negative (wide ∙ difference) in
    first_value c.book_of_difference.result (unread c.args.reader.now (g.S.ByteSource.left c.args.source.now)) d.last d.negative d.code is c.in-Ok.code (unread c.get_word.new.reader (g.S.ByteSource.left c.get_word.new.source)) (to_z w16 (of_z w16 c.in-Ok-judge.value)) c.below_zero-differences.result
    (c.in-Ok.ensures.value told) (ap is_small (sym (wide2 ∙ sum)) ∙ j.1) v sign

pub returns-in-Err-judge-clause-fault : goal.returns-in-Err-judge-clause-fault
returns-in-Err-judge-clause-fault g c = λ told.
    let d = c.args.differences.now in
    let is = c.book_of_difference.ensures.value in
    let difference : c.turn-difference.result ≡ turned d.negative (unfolded c.in-Ok.code) = c.turn-difference.ensures.value ∙ ap (turned d.negative) (kept_wide c.unfold.result (omega (arith, c.unfold.ensures.small)) ∙ c.unfold.ensures.value) in
    let wide : to_z w32 (of_z w32 c.turn-difference.result) ≡ c.turn-difference.result = kept_wide c.turn-difference.result (omega (arith, c.turn-difference.ensures.small, c.unfold.ensures.small, ap nat_abs (kept_wide c.unfold.result (omega (arith, c.unfold.ensures.small))))) in
    let sum : c.plus.result ≡ d.last +ℤ turned d.negative (unfolded c.in-Ok.code) = c.plus.ensures.value
    ∙ ap (λ x. x +ℤ to_z w32 (of_z w32 c.turn-difference.result)) (kept_value d.last c.requires)
    ∙ ap (λ x. d.last +ℤ x) (wide ∙ difference) in
    let wide2 = kept_wide c.plus.result c.plus.ensures.small in
    let j = c.in-Err-judge.ensures.fault in
    fault_is c.in-Err-judge.fault (first_at d.last d.negative d.code (unread c.args.reader.now (g.S.ByteSource.left c.args.source.now))) j.0
    (first_large c.book_of_difference.result (unread c.args.reader.now (g.S.ByteSource.left c.args.source.now)) d.last d.negative d.code is c.in-Ok.code (unread c.get_word.new.reader (g.S.ByteSource.left c.get_word.new.source)) (c.in-Ok.ensures.value told) (ap is_small (sym (wide2 ∙ sum)) ∙ j.1))

pub returns-in-Err-clause-fault : goal.returns-in-Err-clause-fault
returns-in-Err-clause-fault g c = λ told.
    let d = c.args.differences.now in
    first_fault c.book_of_difference.result (unread c.args.reader.now (g.S.ByteSource.left c.args.source.now)) d.last d.negative d.code c.book_of_difference.ensures.value c.in-Err.fault (c.in-Err.ensures.fault told)
