-- What a whole run did, by the laws of encoding.
use Rattle.std.proofs.Common.{ℕ, inl, inr, List, arith, subst, Option}
use Rattle.pw_outside.specs.Reading.{rest_of}
use Rattle.pic_y4m.specs.Frames.{Pictures}
use Rattle.pic_raw.specs.declared.any.AnyReader.{AnyReader}
use Rattle.pic_raw.specs.Any.{LeftHaveForm, IsReader, head_of, place_of}
use Rattle.run_encode.specs.declared.job.Job.{Job}
use Rattle.run_encode.specs.declared.end.EncodeEnd.{EncodeEnd}
use Rattle.run_encode.specs.declared.end.EncodeEnd.TheVariants as ends
use Rattle.run_encode.specs.Groups.{IsJob, ArePictures}
use Rattle.run_encode.specs.Laws.{EncodingGoesOn}
use Rattle.run_encode.specs.Outputs.{Outputs, PutsFronts}
use Rattle.run_encode.specs.Encoding.{Ran}
use Rattle.run_encode.specs.inner.Steps.{RanSo, left_by}
use Rattle.run_encode.proofs.Headlines.{goes-front}

-- the remaining pictures of a reader have its format, and are at most MAX_FRAMES
pub pictures-are : LeftHaveForm → (r : AnyReader) (left : Option (List ℕ)) → IsReader r → ArePictures (head_of r) (left_by r left)
pictures-are law r left is =
    let h = law r (rest_of (place_of r) left) is in
    record { each = h.0; few = omega (arith, h.1) }

-- after a write fault the sinks have prefixes of the result of encoding
pub strong : EncodingGoesOn → (j : Job) (ps : Pictures) (end : EncodeEnd) (a b : Outputs) → IsJob j → ArePictures j.head ps → RanSo j ps end a b → Ran j ps end a b
strong goes j ps ends.WriteFault a b is are (lists, inl (coded, first, e), p) = goes-front goes j ps coded is are first a b (subst (PutsFronts a b) e p)
strong goes j ps ends.WriteFault a b is are (lists, inr (end, encodes), p) = (end, lists, encodes, p)
strong goes j ps ends.NoMemory a b is are r = r
strong goes j ps ends.ReadFault a b is are r = r
strong goes j ps ends.Done a b is are r = r
strong goes j ps (ends.BadPictures kind place) a b is are r = r
strong goes j ps (ends.TooSmall frame least) a b is are r = r
strong goes j ps (ends.LayersFull frame) a b is are r = r
