use Rattle.std.proofs.Common.{◌≡◌, ◌/◌, ◌%◌, ◌<◌, length, get_or, set, ap, sym, ◌∙◌, subst, arith, []}
use Rattle.std.proofs.lemmas.Nat.{div_below}
use Rattle.pr_coeff.specs.Component.{places, listed, AreBlocks}
use Rattle.pr_coeff.proofs.WholeLemmas.{scan_of}
use Rattle.pr_coeff.proofs.CodingLemmas.{kept_value}
use Rattle.pr_coeff.proofs.SetLemmas.{listed_set, blocks_set}
use Rattle.pr_coeff.proofs.component.set_value.Goals as goal

pub bounds-blocks-from : goal.bounds-blocks-from
bounds-blocks-from c =
    let some : 0 < length c.args.blocks.now = omega (arith, c.requires.inside) in
    let s = scan_of c.args.scan in
    let place : c.from.result ≡ get_or (places c.args.scan) (c.args.index / length c.args.blocks.now) 0 = c.from.ensures ∙ ap (λ l. get_or l (c.args.index / length c.args.blocks.now) 0) c.places.ensures in
    omega (arith, place, (s.places (c.args.index / length c.args.blocks.now) (div_below c.args.index (length c.args.blocks.now) 64 some c.requires.inside)).0)

pub returns-clause-listed : goal.returns-clause-listed
returns-clause-listed c =
    let blocks = c.args.blocks.now in
    let some : 0 < length blocks = omega (arith, c.requires.inside) in
    let i = c.args.index % length blocks in
    let place : c.from.result ≡ get_or (places c.args.scan) (c.args.index / length blocks) 0 = c.from.ensures ∙ ap (λ l. get_or l (c.args.index / length blocks) 0) c.places.ensures in
    ap (λ v. listed (places c.args.scan) (set blocks i (set (get_or blocks i []) c.from.result v))) (kept_value c.args.value c.requires.small)
    ∙ listed_set (places c.args.scan) (scan_of c.args.scan) blocks c.requires.blocks c.args.index c.from.result c.args.value some c.requires.inside place

pub returns-clause-blocks : goal.returns-clause-blocks
returns-clause-blocks c =
    let blocks = c.args.blocks.now in
    let i = c.args.index % length blocks in
    subst (λ v. AreBlocks (set blocks i (set (get_or blocks i []) c.from.result v))) (sym (kept_value c.args.value c.requires.small))
    (blocks_set blocks i c.from.result c.args.value c.requires.small c.requires.blocks)
