use Rattle.std.proofs.Common.{◌++◌, map, refl, ap}
use Rattle.std.specs.List.{flat_map}
use Rattle.std.specs.Int.{w64, to_be_bytes}
use Rattle.pw_outside.proofs.Results.{any_err}
use Rattle.rate_cert.specs.Layers.{layer_bytes}
use Rattle.rate_cert.specs.Records.{said_by}
use Rattle.rate_cert.proofs.Gathering.{pairs_in}
use Rattle.rate_cert.proofs.Recording.{fit_text, none_text, first_part, second_part, both_parts}
use Rattle.rate_cert.proofs.writer.write_said.Goals as goal

pub returns-in_err-write_table-in-Fits-clause-err : goal.returns-in_err-write_table-in-Fits-clause-err
returns-in_err-write_table-in-Fits-clause-err g c =
    let f = c.in-Fits in
    let sums = c.bytes_of_sums-sums.result in
    any_err c.from_residual.result (first_part (f.choice.items ++ (sums ++ flat_map (layer_bytes c.args.format) (map pairs_in f.layers.items)))
    (fit_text c.args.format c.args.table.now (said_by c.args.verdict.now) f.choice.items f.choice.items f.size f.error f.multiplier f.layers.items f.layers.items sums refl c.bytes_of_sums-sums.ensures refl (ap said_by f.is)) c.in_err-write_table-in-Fits.ensures.err)

pub returns-in_err-write_fit-in-Fits-clause-err : goal.returns-in_err-write_fit-in-Fits-clause-err
returns-in_err-write_fit-in-Fits-clause-err g c =
    let f = c.in-Fits in
    any_err c.from_residual-in_err-write_fit-in-Fits.result (second_part
    (fit_text c.args.format c.args.table.now (said_by c.args.verdict.now) f.choice.items c.as_slice.result.now f.size f.error f.multiplier f.layers.items c.as_slice-in-Fits.result.now c.bytes_of_sums-sums.result
    c.as_slice.ensures.value c.bytes_of_sums-sums.ensures c.as_slice-in-Fits.ensures.value (ap said_by f.is))
    c.in_ok-write_table-in-Fits.ensures.ok c.in_err-write_fit-in-Fits.ensures.err)

pub returns-in_ok-write_fit-in-Fits-clause-ok : goal.returns-in_ok-write_fit-in-Fits-clause-ok
returns-in_ok-write_fit-in-Fits-clause-ok g c =
    let f = c.in-Fits in
    both_parts
    (fit_text c.args.format c.args.table.now (said_by c.args.verdict.now) f.choice.items c.as_slice.result.now f.size f.error f.multiplier f.layers.items c.as_slice-in-Fits.result.now c.bytes_of_sums-sums.result
    c.as_slice.ensures.value c.bytes_of_sums-sums.ensures c.as_slice-in-Fits.ensures.value (ap said_by f.is))
    c.in_ok-write_table-in-Fits.ensures.ok c.in_ok-write_fit-in-Fits.ensures.ok

pub returns-in_err-write_table-in-None-clause-err : goal.returns-in_err-write_table-in-None-clause-err
returns-in_err-write_table-in-None-clause-err g c =
    any_err c.from_residual-in_err-write_table-in-None.result (first_part (to_be_bytes w64 c.in-None.least)
    (none_text c.args.format c.args.table.now (said_by c.args.verdict.now) c.in-None.least (to_be_bytes w64 c.in-None.least) refl (ap said_by c.in-None.is)) c.in_err-write_table-in-None.ensures.err)

pub returns-in_err-write-in-None-clause-err : goal.returns-in_err-write-in-None-clause-err
returns-in_err-write-in-None-clause-err g c =
    any_err c.from_residual-in_err-write-in-None.result (second_part
    (none_text c.args.format c.args.table.now (said_by c.args.verdict.now) c.in-None.least c.to_be_bytes.result c.to_be_bytes.ensures (ap said_by c.in-None.is)) c.in_ok-write_table-in-None.ensures.ok c.in_err-write-in-None.ensures.err)
