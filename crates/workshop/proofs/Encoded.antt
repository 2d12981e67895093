-- If no port failed, and each group has a fitting choice, a run of `encode` is done.
use Rattle.std.proofs.Common.{◌≡◌, refl, ◌⊎◌, inl, inr, Bool, true, false, None, Result, Ok, Err, ap}
use Rattle.std.specs.Bool.{OnTrue}
use Rattle.pw_outside.specs.Reading.{Fault}
use Rattle.pic_y4m.specs.declared.head.Head.{Head}
use Rattle.pic_y4m.specs.declared.fault.PictureKind.{PictureKind}
use Rattle.pic_y4m.specs.Frames.{Pictures}
use Rattle.run_encode.specs.declared.job.Job.{Job}
use Rattle.run_encode.specs.declared.job.EncodeWords.{EncodeWords}
use Rattle.run_encode.specs.declared.end.EncodeEnd.{EncodeEnd}
use Rattle.run_encode.specs.declared.end.EncodeEnd.TheVariants as ends
use Rattle.run_encode.specs.Groups.{has_layout}
use Rattle.run_encode.specs.Outputs.{Outputs}
use Rattle.run_encode.specs.Encoding.{Ran, RanOn, StopsFirst, is_read_fault, is_write_fault}
use Rattle.run_encode.specs.Completing.{EachFits}
use Rattle.workshop.specs.declared.status.Status.TheVariants as s
use Rattle.workshop.specs.Encoding.{status_of, CompletesEncode}

on-true : {P : Type 0} (b : Bool) → b ≡ true → OnTrue b P → P
on-true true e p = p
on-true false e p = cc

ran-complete : (j : Job) (ps : Pictures) (end : EncodeEnd) (a b : Outputs) → Ran j ps end a b → ps.fault ≡ None → EachFits j ps
    → (is_read_fault end ≡ true → ⊥) → (is_write_fault end ≡ true → ⊥) → (end ≡ ends.Done) ⊎ (end ≡ ends.NoMemory)
ran-complete j ps ends.Done a b r e fits nr nw = inl refl
ran-complete j ps ends.NoMemory a b r e fits nr nw = inr refl
ran-complete j ps ends.ReadFault a b r e fits nr nw = absurd (nr refl)
ran-complete j ps ends.WriteFault a b r e fits nr nw = absurd (nw refl)
ran-complete j ps (ends.BadPictures kind place) a b r e fits nr nw = let f = r.1.ends.1 in cc
ran-complete j ps (ends.TooSmall frame least) a b r e fits nr nw = absurd ((fits _ r.1.ends.0).0 r.1.ends.1)
ran-complete j ps (ends.LayersFull frame) a b r e fits nr nw = absurd ((fits _ r.there).1 r.passes)

first-complete : (end : EncodeEnd) (a b : Outputs) → StopsFirst end a b → (is_read_fault end ≡ true → ⊥) → (end ≡ ends.Done) ⊎ (end ≡ ends.NoMemory)
first-complete end a b (inl e, p) nr = absurd (nr (ap is_read_fault e))
first-complete end a b (inr e, p) nr = inr e

-- the same for the status
answered : (end : EncodeEnd) → (end ≡ ends.Done) ⊎ (end ≡ ends.NoMemory) → (status_of end ≡ s.Done) ⊎ (status_of end ≡ s.NoMemory)
answered end (inl e) = inl (ap status_of e)
answered end (inr e) = inr (ap status_of e)

pub complete : (w : EncodeWords) (input : Result (Head × Pictures) (Fault PictureKind)) (end : EncodeEnd) (a b : Outputs) → StopsFirst end a b ⊎ RanOn w input end a b
    → (is_read_fault end ≡ true → ⊥) → (is_write_fault end ≡ true → ⊥) → CompletesEncode w input (status_of end)
complete w (Err f) end a b r nr nw = tt
complete w (Ok (head, ps)) end a b (inl s) nr nw = λ some e fits. answered end (first-complete end a b s nr)
complete w (Ok (head, ps)) end a b (inr r) nr nw = λ some e fits.
    let x = on-true (has_layout w head) some r.1 in
    answered end (ran-complete x.0 ps end a b x.2 e (fits x.0 x.1) nr nw)

-- if no count rose, no port failed
pub no-fault : (P : Type 0) (b : Bool) → OnTrue b P → (P → ⊥) → b ≡ true → ⊥
no-fault P b o n e = n (on-true b e o)
