use Rattle.std.proofs.Common.{◌≡◌, Result, ◌+◌, ◌-◌, ◌*◌, ◌%◌, ◌^◌, Ok, arith, ap, sym, ◌∙◌, eqb, ◌/◌}
use Rattle.pw_bits.specs.Places.{ahead}
use Rattle.pr_coeff.specs.Lengths.{run_in, level_in}
use Rattle.pr_coeff.specs.Component.{run_book, level_book}
use Rattle.pr_coeff.specs.Reading.{Fault, Triple}
use Rattle.pr_coeff.proofs.ComponentLemmas.{plain_run, plain_level}
use Rattle.pr_pieces.proofs.ShortLemmas.{IsBits, moved, short_found, sign_found, triple_found}
use Rattle.pr_pieces.proofs.step.short_in.Goals as goal

pub returns-clause-value : goal.returns-clause-value
returns-clause-value c =
    let p = c.args.padded.now in
    let end = c.args.end in
    let at = c.args.at in
    let w = c.front_at-front.result in
    let a = c.run-run.result in
    let b = c.level-level.result in
    let ra = c.run-run.ensures in
    let rb = c.level-level.ensures in
    let w0 : IsBits p at w 57 = record { front = c.front_at-front.ensures.front } in
    let w1 = moved p at w 57 a.size w0 (omega arith) (omega (arith, ra.word.few)) in
    let second = w * 2 ^ a.size % 2 ^ 64 in
    let w2 = moved p (at + a.size) second (57 - a.size) b.size w1 (omega arith) (omega (arith, ra.word.few, rb.word.few)) in
    let fits = c.if-used-end.false in
    let from = c.from.ensures in
    let from2 = c.from-2.ensures in
    let n = short_found p end at w 57 (run_book (run_in c.args.run_before)) a w0 (omega arith) (plain_run (run_in c.args.run_before)) ra.word (omega (arith, c.if-run-eq0.false)) (omega (arith, fits, from, from2)) in
    let m = short_found p end (at + a.size) second (57 - a.size) (level_book (level_in c.args.level_before)) b w1 (omega (arith, ra.word.few)) (plain_level (level_in c.args.level_before)) rb.word (omega (arith, c.if-level-eq0.false)) (omega (arith, fits, from, from2)) in
    let s = sign_found p end (at + a.size + b.size) (second * 2 ^ b.size) (57 - a.size - b.size) w2 (omega (arith, ra.word.few, rb.word.few)) (omega (arith, fits, from, from2)) in
    let at3 = at + a.size + b.size + 1 in
    let found = triple_found c.args.room (run_in c.args.run_before) (level_in c.args.level_before) a.number b.number (eqb (second * 2 ^ b.size % 2 ^ 64 / 2 ^ 63) 1)
    (ahead p end at) (ahead p end (at + a.size)) (ahead p end (at + a.size + b.size)) (ahead p end at3) n (omega (arith, c.if-from-room.false, c.from-else-level-eq0.ensures)) m (omega (arith, rb.word.small)) s in
    found
    ∙ ap (λ x. (let t : Result Triple Fault = Ok (record { run = x; level = b.number; negative = eqb (second * 2 ^ b.size % 2 ^ 64 / 2 ^ 63) 1; rest = ahead p end at3 }) in t)) (sym c.from-3.ensures)
    ∙ ap (λ x. (let t : Result Triple Fault = Ok (record { run = c.from-3.result; level = x; negative = eqb (second * 2 ^ b.size % 2 ^ 64 / 2 ^ 63) 1; rest = ahead p end at3 }) in t)) (sym c.from-4.ensures)
    ∙ ap (λ x. (let t : Result Triple Fault = Ok (record { run = c.from-3.result; level = c.from-4.result; negative = eqb (second * 2 ^ b.size % 2 ^ 64 / 2 ^ 63) 1; rest = ahead p end x }) in t))
    (let e : at3 ≡ at + (c.from.result + c.from-2.result + 1) = omega (arith, from, from2) in e)
