-- What a run did has the headline; after a write fault the sinks have prefixes of the result of encoding.
use Rattle.std.proofs.Common.{◌≡◌, inl, inr, Bool, false, List, subst, sym, Result, Ok, Err}
use Rattle.std.specs.Bool.{OnTrue}
use Rattle.std.proofs.lemmas.Bool.{OnTrue_from}
use Rattle.pw_outside.specs.Reading.{Fault}
use Rattle.pw_outside.proofs.Puts.{front_more}
use Rattle.pic_y4m.specs.declared.head.Head.{Head}
use Rattle.pic_y4m.specs.declared.fault.PictureKind.{PictureKind}
use Rattle.pic_y4m.specs.Frames.{Pictures}
use Rattle.run_encode.specs.declared.job.Job.{Job}
use Rattle.run_encode.specs.declared.job.EncodeWords.{EncodeWords}
use Rattle.run_encode.specs.declared.end.EncodeEnd.{EncodeEnd}
use Rattle.run_encode.specs.declared.end.EncodeEnd.TheVariants as ends
use Rattle.run_encode.specs.Groups.{IsJob, IsJobOf, ArePictures, has_layout}
use Rattle.run_encode.specs.Outputs.{Outputs, Lists, PutsFronts}
use Rattle.run_encode.specs.Encoding.{Group, AreFirst, Encodes, Ran, StopsFirst, cut_lists}
use Rattle.run_encode.specs.Headline.{HeadlineOf, HasHeadline}
use Rattle.run_encode.specs.Laws.{EncodedHasHeadline, CutHasHeadline, EncodingGoesOn}

pub headline-ran : EncodedHasHeadline → CutHasHeadline → (j : Job) (ps : Pictures) (end : EncodeEnd) (a b : Outputs) → IsJob j → ArePictures j.head ps
    → Ran j ps end a b → HeadlineOf j ps end a b
headline-ran whole cut j ps ends.NoMemory a b is are ran = tt
headline-ran whole cut j ps ends.ReadFault a b is are ran = tt
headline-ran whole cut j ps ends.WriteFault a b is are ran = tt
headline-ran whole cut j ps ends.Done a b is are ran =
    (ran.0.movie, ran.0.proof, ran.2.movie, ran.2.proof, whole j ps ends.Done ran.0 is are ran.1 ran.3)
headline-ran whole cut j ps (ends.BadPictures kind place) a b is are ran =
    (ran.0.movie, ran.0.proof, ran.2.movie, ran.2.proof, whole j ps (ends.BadPictures kind place) ran.0 is are ran.1 ran.3)
headline-ran whole cut j ps (ends.TooSmall frame least) a b is are ran =
    (ran.0.movie, ran.0.proof, ran.2.movie, ran.2.proof, whole j ps (ends.TooSmall frame least) ran.0 is are ran.1 ran.3)
headline-ran whole cut j ps (ends.LayersFull frame) a b is are ran = (_, _, ran.puts.movie, ran.puts.proof, cut j ps frame ran.coded is are ran.first ran.there)

-- prefixes of what was written of the first groups are prefixes of the result of encoding
pub goes-front : EncodingGoesOn → (j : Job) (ps : Pictures) (coded : List Group) → IsJob j → ArePictures j.head ps → AreFirst j ps coded
    → (a b : Outputs) → PutsFronts a b (cut_lists j coded) → (end : EncodeEnd) × (lists : Lists) × Encodes j ps end lists × PutsFronts a b lists
goes-front goes j ps coded is are first a b p =
    let g = goes j ps coded is are first in
    let more = g.3.0 in
    (g.0, g.1, g.2, subst (PutsFronts a b) g.3.1 (record { movie = front_more more.movie p.movie; proof = front_more more.proof p.proof; text = front_more more.text p.text }))

-- ---- the same for an input

module _ (w : EncodeWords) (a b : Outputs) where
  -- no headline is required if the head couldn't be read
  pub headline-stopped : (input : Result (Head × Pictures) (Fault PictureKind)) (end : EncodeEnd) → StopsFirst end a b → HasHeadline w input end a b
  headline-stopped input end (inl e, puts) = subst (λ x. HasHeadline w input x a b) (sym e) tt
  headline-stopped input end (inr e, puts) = subst (λ x. HasHeadline w input x a b) (sym e) tt

  of-fault : (f : Fault PictureKind) (end : EncodeEnd) → HasHeadline w (Err f) end a b
  of-fault f ends.Done = tt
  of-fault f ends.NoMemory = tt
  of-fault f ends.ReadFault = tt
  of-fault f ends.WriteFault = tt
  of-fault f (ends.BadPictures kind place) = tt
  of-fault f (ends.TooSmall frame least) = tt
  of-fault f (ends.LayersFull frame) = tt

  -- nor if the head has an error
  pub headline-refused : (input : Result (Head × Pictures) (Fault PictureKind)) (f : Fault PictureKind) (end : EncodeEnd) → input ≡ Err f → HasHeadline w input end a b
  headline-refused input f end e = subst (λ x. HasHeadline w x end a b) (sym e) (of-fault f end)

  asked : (head : Head) (ps : Pictures) (end : EncodeEnd) → OnTrue (has_layout w head) ((j : Job) × IsJobOf w head j × HeadlineOf j ps end a b) → HasHeadline w (Ok (head, ps)) end a b
  asked head ps ends.Done h = h
  asked head ps ends.NoMemory h = tt
  asked head ps ends.ReadFault h = tt
  asked head ps ends.WriteFault h = h
  asked head ps (ends.BadPictures kind place) h = h
  asked head ps (ends.TooSmall frame least) h = h
  asked head ps (ends.LayersFull frame) h = h

  unasked : (P : Type 0) (test : Bool) → test ≡ false → OnTrue test P
  unasked P test e = subst (λ x. OnTrue x P) (sym e) tt

  -- nor if the pictures have no layout
  pub headline-unlaid : (input : Result (Head × Pictures) (Fault PictureKind)) (head : Head) (ps : Pictures) (end : EncodeEnd) → input ≡ Ok (head, ps)
      → has_layout w head ≡ false → HasHeadline w input end a b
  headline-unlaid input head ps end e none = subst (λ x. HasHeadline w x end a b) (sym e) (asked head ps end (unasked _ (has_layout w head) none))

  -- the headline of a run
  pub headline-laid : (input : Result (Head × Pictures) (Fault PictureKind)) (head : Head) (ps : Pictures) (j : Job) (end : EncodeEnd) → input ≡ Ok (head, ps)
      → IsJobOf w head j → HeadlineOf j ps end a b → HasHeadline w input end a b
  headline-laid input head ps j end e of h = subst (λ x. HasHeadline w x end a b) (sym e) (asked head ps end (OnTrue_from (has_layout w head) _ (λ laid. (j, of, h))))
