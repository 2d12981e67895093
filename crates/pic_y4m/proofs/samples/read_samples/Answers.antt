use Rattle.pic_y4m.proofs.Planes.{gives-some, gives-none, gives-fault}
use Rattle.pic_y4m.proofs.samples.read_samples.Goals as goal

pub returns-in-Ok-Some-clause-bytes : goal.returns-in-Ok-Some-clause-bytes
returns-in-Ok-Some-clause-bytes g c =
    let read = (rw c.in-Ok-Some.field-0-is at c.in-Ok-Some.ensures) in
    gives-some (λ v. v.items) c.args.size c.args.count _ _ c.args.place.now c.next_samples.new.place read.bytes

pub returns-in-Ok-None-clause-bytes : goal.returns-in-Ok-None-clause-bytes
returns-in-Ok-None-clause-bytes g c =
    let read = (rw c.in-Ok-None.field-0-is at c.in-Ok-None.ensures) in
    rw c.bad.ensures (gives-none (λ v. v.items) c.args.size c.args.count _ _ c.args.place.now c.next_samples.new.place c.requires.some read.same read.bytes)

pub returns-in-Err-clause-bytes : goal.returns-in-Err-clause-bytes
returns-in-Err-clause-bytes g c = gives-fault (λ v. v.items) c.args.size c.args.count _ _ c.args.place.now c.next_samples.new.place c.in-Err.fault c.in-Err.ensures.bytes
