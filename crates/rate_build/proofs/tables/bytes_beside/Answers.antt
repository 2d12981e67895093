use Rattle.std.proofs.Common.{subst, arith}
use Rattle.pw_planes.specs.declared.kinds.AlphaKind.TheVariants.{Eight, Sixteen}
use Rattle.pr_frame.specs.Ready.{IsReadyAlpha}
use Rattle.pr_frame.proofs.Short.{alpha-short}
use Rattle.rate_build.proofs.tables.bytes_beside.Goals as goal

pub overflow_cast-result : goal.overflow_cast-result
overflow_cast-result c = omega (arith, c.alpha_length.ensures, alpha-short Eight c.args.values.now (subst (λ kind. IsReadyAlpha kind c.args.values.now) c.in-Eight.is c.requires))

pub overflow_add-result : goal.overflow_add-result
overflow_add-result c = omega (arith, c.alpha_length.ensures, alpha-short Eight c.args.values.now (subst (λ kind. IsReadyAlpha kind c.args.values.now) c.in-Eight.is c.requires))

pub overflow_cast-result-in-Sixteen : goal.overflow_cast-result-in-Sixteen
overflow_cast-result-in-Sixteen c = omega (arith, c.alpha_length-in-Sixteen.ensures, alpha-short Sixteen c.args.values.now (subst (λ kind. IsReadyAlpha kind c.args.values.now) c.in-Sixteen.is c.requires))

pub overflow_add-result-in-Sixteen : goal.overflow_add-result-in-Sixteen
overflow_add-result-in-Sixteen c = omega (arith, c.alpha_length-in-Sixteen.ensures, alpha-short Sixteen c.args.values.now (subst (λ kind. IsReadyAlpha kind c.args.values.now) c.in-Sixteen.is c.requires))

pub returns-in-Eight-clause-short : goal.returns-in-Eight-clause-short
returns-in-Eight-clause-short c = omega (arith, c.alpha_length.ensures, alpha-short Eight c.args.values.now (subst (λ kind. IsReadyAlpha kind c.args.values.now) c.in-Eight.is c.requires))

pub returns-in-Sixteen-clause-short : goal.returns-in-Sixteen-clause-short
returns-in-Sixteen-clause-short c = omega (arith, c.alpha_length-in-Sixteen.ensures, alpha-short Sixteen c.args.values.now (subst (λ kind. IsReadyAlpha kind c.args.values.now) c.in-Sixteen.is c.requires))
