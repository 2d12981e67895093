use Rattle.std.proofs.Common.{arith, ◌*◌, ◌≤◌}
use Rattle.std.proofs.Math.Nat.{mul-le-mul_left}
use Rattle.qt_tables.proofs.sums.with_chunks.Goals as goal

pub overflow_mul-result : goal.overflow_mul-result
overflow_mul-result c =
    let product : c.args.chunks * c.from.result ≤ c.args.chunks * 4294967295 = mul-le-mul_left c.args.chunks (omega arith) in
    omega (arith, product, c.requires.few)

pub overflow_add-result : goal.overflow_add-result
overflow_add-result c =
    let product : c.args.chunks * c.from.result ≤ c.args.chunks * 4294967295 = mul-le-mul_left c.args.chunks (omega arith) in
    omega (arith, product, c.requires.few, c.requires.room)

pub returns-clause-small : goal.returns-clause-small
returns-clause-small c =
    let product : c.args.chunks * c.from.result ≤ c.args.chunks * 4294967295 = mul-le-mul_left c.args.chunks (omega arith) in
    omega (arith, product)
