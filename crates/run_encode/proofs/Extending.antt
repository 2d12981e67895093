-- Sinks that extend what they held.
use Rattle.std.proofs.Common.{ℕ, ◌≤◌, inl, inr, List, take}
use Rattle.pw_outside.specs.Ports.{last}
use Rattle.rate_build.specs.Coefficients.{FrameCoefficients}
use Rattle.run_encode.specs.declared.job.Job.{Job}
use Rattle.run_encode.specs.declared.end.EncodeEnd.{EncodeEnd}
use Rattle.run_encode.specs.declared.end.EncodeEnd.TheVariants as ends
use Rattle.run_encode.specs.Outputs.{Outputs, Lists, nothing, joined, PutsAll, PutsFronts, ExtendsAll}
use Rattle.run_encode.specs.inner.Steps.{Counts, Finishes, Closes}
use Rattle.run_encode.specs.inner.Over.{StopsFrames}
use Rattle.run_encode.proofs.Sinks.{all_then}
use Rattle.run_encode.proofs.Beginning.{nothing-put}

-- nothing was written
pub none-extends : (a : Outputs) → a.movie.taken ≤ last → a.proof.taken ≤ last → a.text.taken ≤ last → ExtendsAll a a
none-extends a m p t = (nothing, nothing-put a m p t)

pub all-extends : (a b : Outputs) (x : Lists) → PutsAll a b x → ExtendsAll a b
all-extends a b x p = (x, p)

pub fronts-extend : (a b : Outputs) (x : Lists) → PutsFronts a b x → ExtendsAll a b
fronts-extend a b x p = (
  record { movie = take p.movie.out x.movie; proof = take p.proof.out x.proof; text = take p.text.out x.text },
  record { movie = p.movie.front; proof = p.proof.front; text = p.text.front },
)

-- one list was written, and then another
pub then-extends : (a b c : Outputs) → ExtendsAll a b → ExtendsAll b c → ExtendsAll a c
then-extends a b c p q = (joined p.0 q.0, all_then p.1 q.1)

-- the frames weren't written whole
pub stops-extends : (j : Job) (number : ℕ) (cs : List FrameCoefficients) (old new : Counts) (end : EncodeEnd) (a b : Outputs) → StopsFrames j number cs old new end a b → ExtendsAll a b
stops-extends j number cs old new ends.NoMemory a b s = all-extends a b nothing s
stops-extends j number cs old new (ends.LayersFull frame) a b s = all-extends a b _ s.2
stops-extends j number cs old new (ends.TooSmall frame least) a b s = all-extends a b _ s.3
stops-extends j number cs old new ends.WriteFault a b (inl (choice, multiplier, layers, chosen, p)) = fronts-extend a b _ p
stops-extends j number cs old new ends.WriteFault a b (inr (none, p)) = fronts-extend a b _ p
stops-extends j number cs old new ends.Done a b s = absurd s
stops-extends j number cs old new ends.ReadFault a b s = absurd s
stops-extends j number cs old new (ends.BadPictures kind place) a b s = absurd s

-- what follows all groups was written, or a prefix of it
pub finish-extends : (j : Job) (now : Counts) (end : EncodeEnd) (a b : Outputs) → Finishes j now end a b → ExtendsAll a b
finish-extends j now ends.Done a b f = all-extends a b _ f
finish-extends j now ends.WriteFault a b f = fronts-extend a b _ f
finish-extends j now ends.NoMemory a b f = all-extends a b nothing f
finish-extends j now ends.ReadFault a b f = absurd f
finish-extends j now (ends.BadPictures kind place) a b f = absurd f
finish-extends j now (ends.LayersFull frame) a b f = absurd f
finish-extends j now (ends.TooSmall frame least) a b f = absurd f

-- the proof's end was written, or a prefix of it
pub close-extends : (records frame least : ℕ) (end : EncodeEnd) (a b : Outputs) → Closes records frame least end a b → ExtendsAll a b
close-extends records frame least (ends.TooSmall f l) a b p = all-extends a b _ p.2
close-extends records frame least ends.WriteFault a b p = fronts-extend a b _ p
close-extends records frame least ends.Done a b p = absurd p
close-extends records frame least ends.NoMemory a b p = absurd p
close-extends records frame least ends.ReadFault a b p = absurd p
close-extends records frame least (ends.BadPictures kind place) a b p = absurd p
close-extends records frame least (ends.LayersFull f) a b p = absurd p
