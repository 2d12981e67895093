use Rattle.std.proofs.Common.{map}
use Rattle.std.specs.List.{flat_map}
use Rattle.pw_outside.proofs.Results.{any_err}
use Rattle.rate_cert.specs.Layers.{layer_bytes}
use Rattle.rate_cert.proofs.Gathering.{pairs_in, fit_first, fit_second, fit_third, fit_given, fit_done}
use Rattle.rate_cert.proofs.writer.write_fit.Goals as goal

pub returns-in_err-add-clause-err : goal.returns-in_err-add-clause-err
returns-in_err-add-clause-err g c = any_err c.from_residual.result (fit_first c.new-gathered.result.items c.args.choice.now c.args.sums.now (flat_map (layer_bytes c.args.format) (map pairs_in c.args.layers.now)) c.new-gathered.ensures c.in_err-add.ensures.err)

pub returns-in_err-add-2-clause-err : goal.returns-in_err-add-2-clause-err
returns-in_err-add-2-clause-err g c = any_err c.from_residual-in_err-add-2.result (fit_second c.args.sums.now (flat_map (layer_bytes c.args.format) (map pairs_in c.args.layers.now)) c.new-gathered.ensures c.in_ok-add.ensures.ok c.in_err-add-2.ensures.err)

pub returns-in_err-add_layers-clause-err : goal.returns-in_err-add_layers-clause-err
returns-in_err-add_layers-clause-err g c = any_err c.from_residual-in_err-add_layers.result (fit_third (flat_map (layer_bytes c.args.format) (map pairs_in c.args.layers.now)) c.new-gathered.ensures c.in_ok-add.ensures.ok c.in_ok-add-2.ensures.ok c.in_err-add_layers.ensures.err)

pub returns-in_err-give-clause-err : goal.returns-in_err-give-clause-err
returns-in_err-give-clause-err g c = any_err c.from_residual-in_err-give.result (fit_given c.new-gathered.ensures c.in_ok-add.ensures.ok c.in_ok-add-2.ensures.ok c.in_ok-add_layers.ensures.ok c.in_err-give.ensures.err)

pub returns-clause-ok : goal.returns-clause-ok
returns-clause-ok g c = fit_done c.new-gathered.ensures c.in_ok-add.ensures.ok c.in_ok-add-2.ensures.ok c.in_ok-add_layers.ensures.ok c.in_ok-give.ensures.ok
