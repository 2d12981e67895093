use Rattle.std.proofs.Common.{◌≡◌, ◌+◌, ◌-◌, take, drop, ap, ◌∙◌, arith}
use Rattle.std.specs.Int.{w32, from_be_bytes}
use Rattle.rescue_run.proofs.Marks.{in_piece}
use Rattle.rescue_run.proofs.window.size_in.Goals as goal

pub returns : goal.returns
returns c = λ file part.
    let w = c.args.window.now in
    let k = c.args.place - w.from in
    let n : w.from + k ≡ c.args.place = omega (arith, c.requires.from) in
    c.number_of.ensures ∙ ap (λ l. from_be_bytes w32 l) (ap (λ l. take 4 (drop k l)) c.deref.ensures.value
    ∙ in_piece w.piece.items file w.held w.from k 4 part (omega (arith, c.requires.from, c.requires.there)) ∙ ap (λ n. take 4 (drop n file)) n)
