use Rattle.std.proofs.Common.{rules, ◌≡◌, ◌+◌, sym, subst, ◌∙◌, arith}
use Rattle.std.specs.List.{Contains}
use Rattle.rate_table.specs.declared.entry.Pair.{Pair}
use Rattle.rate_table.specs.Pairs.{joined}
use Rattle.rate_layers.specs.inner.Live.{StandsAt}
use Rattle.rate_layers.proofs.Fronts.{same_pair}
use Rattle.rate_layers.proofs.Marked.{marked_at, marked_in}
use Rattle.rate_layers.proofs.live.leads.Goals as goal

pub returns-in-Some : goal.returns-in-Some
returns-in-Some c =
    let q : Pair = record { size = c.from.result + c.from-2.result; error = c.from-3.result + c.from-4.result } in
    let e : q ≡ joined c.args.p c.args.x = same_pair q (joined c.args.p c.args.x) (omega (arith, c.from.ensures, c.from-2.ensures)) (omega (arith, c.from-3.ensures, c.from-4.ensures)) in
    let s = subst (λ y. StandsAt c.args.next.now y c.in-Some.at) e c.in-Some.ensures.some in
    let m = marked_at c.args.marks.now c.args.next.now (joined c.args.p c.args.x) c.in-Some.at c.requires.rises s in
    ((λ h. m.0 (sym c.get.ensures ∙ h)), (λ h. c.get.ensures ∙ m.1 h))

pub returns-in-None : goal.returns-in-None
returns-in-None c =
    let q : Pair = record { size = c.from.result + c.from-2.result; error = c.from-3.result + c.from-4.result } in
    let e : q ≡ joined c.args.p c.args.x = same_pair q (joined c.args.p c.args.x) (omega (arith, c.from.ensures, c.from-2.ensures)) (omega (arith, c.from-3.ensures, c.from-4.ensures)) in (
      (λ h. absurd (search rules)),
      (λ h. absurd (c.in-None.ensures.none (subst (λ y. Contains c.args.next.now y) (sym e) (marked_in c.args.marks.now c.args.next.now (joined c.args.p c.args.x) h)))),
    )
