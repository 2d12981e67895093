use Rattle.std.proofs.Common.{◌≡◌, ◌-◌, ◌*◌, arith, ap, ◌∙◌}
use Rattle.pw_bits.specs.Bits.{zeros}
use Rattle.pw_bits.proofs.PlacesLemmas.{ahead_none, last_step, last_found, last_none}
use Rattle.pw_bits.proofs.places.behind_last_one.Goals as goal

pub loop-last-init : goal.loop-last-init
loop-last-init c = record {
  within = omega arith;
  behind = ahead_none c.args.padded.now (8 * c.args.bytes) (8 * c.args.bytes) (omega arith) ∙ ap zeros (let u : 0 ≡ 8 * c.args.bytes - 8 * c.args.bytes = omega arith in u);
}

pub returns-then-byte-gt0 : goal.returns-then-byte-gt0
returns-then-byte-gt0 c =
    let inv = c.loop-last.invariant in
    let z = c.zeros_behind.ensures in
    last_found c.args.padded.now (8 * c.args.bytes) c.loop-last.last c.zeros_behind.result (8 * c.loop-last.last - c.from.result) c.loop-last-test.true (omega (arith, inv.within, c.requires.inside)) (omega (arith, inv.within)) z.few
    (omega (arith, c.from.ensures)) z.zeros z.one inv.behind

pub loop-last-preserved : goal.loop-last-preserved
loop-last-preserved c =
    let inv = c.loop-last.invariant in
    record {
      within = omega (arith, inv.within);
      behind = last_step c.args.padded.now (8 * c.args.bytes) c.loop-last.last c.loop-last-test.true (omega (arith, inv.within, c.requires.inside)) (omega (arith, inv.within)) (omega (arith, c.if-byte-gt0.false)) inv.behind;
    }

pub returns : goal.returns
returns c = last_none c.args.padded.now (8 * c.args.bytes) c.loop-last.last (omega (arith, c.loop-last-test.false)) c.loop-last.invariant.behind
