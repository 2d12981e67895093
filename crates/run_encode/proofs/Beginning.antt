-- The head of the pictures, and what a run does with it.
use Rattle.std.proofs.Common.{◌≡◌, refl, ℕ, ◌≤◌, ◌⊎◌, inl, inr, List, Bool, true, false, ap, sym, subst, Ok, Err, Option}
use Rattle.std.specs.Bool.{OnTrue, OnFalse}
use Rattle.pw_outside.specs.Ports.{last}
use Rattle.pw_outside.specs.Reading.{Fault, Rest, Fails, bind, bytes_of, rest_of}
use Rattle.pw_outside.proofs.Puts.{puts_none}
use Rattle.pic_y4m.specs.declared.head.Head.{Head}
use Rattle.pic_y4m.specs.declared.fault.PictureFault.{PictureFault}
use Rattle.pic_y4m.specs.declared.fault.PictureFault.TheVariants as faults
use Rattle.pic_y4m.specs.declared.fault.PictureKind.{PictureKind}
use Rattle.pic_y4m.specs.declared.fault.PictureKind.TheVariants as kinds
use Rattle.pic_y4m.specs.Faults.{told_fault}
use Rattle.pic_raw.specs.declared.any.AnyReader.{AnyReader}
use Rattle.pic_raw.specs.Any.{start_of, left_of, head_of, place_of, pictures_of}
use Rattle.run_encode.specs.declared.job.Job.{Job}
use Rattle.run_encode.specs.declared.job.EncodeWords.{EncodeWords}
use Rattle.run_encode.specs.declared.end.EncodeEnd.{EncodeEnd}
use Rattle.run_encode.specs.declared.end.EncodeEnd.TheVariants as ends
use Rattle.run_encode.specs.Groups.{IsJobOf, has_layout}
use Rattle.run_encode.specs.Outputs.{Outputs, nothing, PutsAll}
use Rattle.run_encode.specs.Encoding.{end_of_fault, StopsFirst, Ran, RanOn}
use Rattle.run_encode.specs.Headline.{HasHeadline}
use Rattle.run_encode.specs.inner.Steps.{left_by}
use Rattle.run_encode.proofs.Headlines.{headline-refused}

pub nothing-put : (a : Outputs) → a.movie.taken ≤ last → a.proof.taken ≤ last → a.text.taken ≤ last → PutsAll a a nothing
nothing-put a m p t = record { movie = puts_none a.movie m; proof = puts_none a.proof p; text = puts_none a.text t }

pub meant-ok : (form : Option Head) (bytes : List ℕ) (r : AnyReader) (s : Rest) → start_of form (record { place = 0; bytes = bytes }) ≡ Ok (r, s) → pictures_of form bytes ≡ Ok (head_of r, left_of r s)
unfolding pictures_of bind
meant-ok form bytes r s e = ap (λ x. bind x (λ start. Ok (head_of start.0, left_of start.0 start.1))) e

pub meant-err : (form : Option Head) (bytes : List ℕ) (f : Fault PictureKind) → start_of form (record { place = 0; bytes = bytes }) ≡ Err f → pictures_of form bytes ≡ Err f
unfolding pictures_of bind
meant-err form bytes f e = ap (λ x. bind x (λ start. Ok (head_of start.0, left_of start.0 start.1))) e

-- the head has an error, or couldn't be read
pub refused : (w : EncodeWords) (left : Option (List ℕ)) (a : Outputs) (fault : PictureFault) → PutsAll a a nothing
    → Fails told_fault fault (start_of w.raw (rest_of 0 left))
    → StopsFirst (end_of_fault fault) a a ⊎ RanOn w (pictures_of w.raw (bytes_of left)) (end_of_fault fault) a a
refused w left a (faults.Bad kind place) p e =
    inr (subst (λ x. RanOn w x (ends.BadPictures kind place) a a) (sym (meant-err w.raw (bytes_of left) (record { kind = kind; place = place }) e)) (refl, p))
refused w left a faults.Failed p e = inl (inl refl, p)
refused w left a faults.NoMemory p e = inl (inr refl, p)

-- no headline is required if the head has an error, or couldn't be read
pub unread-headline : (w : EncodeWords) (left : Option (List ℕ)) (a : Outputs) (fault : PictureFault) → Fails told_fault fault (start_of w.raw (rest_of 0 left))
    → HasHeadline w (pictures_of w.raw (bytes_of left)) (end_of_fault fault) a a
unread-headline w left a (faults.Bad kind place) e = headline-refused w a a _ (record { kind = kind; place = place }) (ends.BadPictures kind place) (meant-err w.raw (bytes_of left) (record { kind = kind; place = place }) e)
unread-headline w left a faults.Failed e = tt
unread-headline w left a faults.NoMemory e = tt

when-false : {P : Type 0} (Q : Type 0) (b : Bool) → b ≡ false → P → OnFalse b P × OnTrue b Q
when-false Q true e p = cc
when-false Q false e p = (p, tt)

when-true : (P : Type 0) {Q : Type 0} (b : Bool) → b ≡ true → Q → OnFalse b P × OnTrue b Q
when-true P true e q = (tt, q)
when-true P false e q = cc

-- the pictures have no layout
pub unlaid : (w : EncodeWords) (left left' : Option (List ℕ)) (r : AnyReader) (a : Outputs) → PutsAll a a nothing
    → start_of w.raw (rest_of 0 left) ≡ Ok (r, rest_of (place_of r) left') → has_layout w (head_of r) ≡ false
    → RanOn w (pictures_of w.raw (bytes_of left)) (ends.BadPictures kinds.TooManySlices 0) a a
unlaid w left left' r a p e none =
    subst (λ x. RanOn w x (ends.BadPictures kinds.TooManySlices 0) a a) (sym (meant-ok w.raw (bytes_of left) r (rest_of (place_of r) left') e))
    (when-false _ (has_layout w (head_of r)) none (refl, p))

-- the pictures were encoded
pub laid-out : (w : EncodeWords) (left left' : Option (List ℕ)) (r : AnyReader) (j : Job) (end : EncodeEnd) (before after : Outputs)
    → start_of w.raw (rest_of 0 left) ≡ Ok (r, rest_of (place_of r) left') → has_layout w (head_of r) ≡ true → IsJobOf w (head_of r) j → Ran j (left_by r left') end before after
    → RanOn w (pictures_of w.raw (bytes_of left)) end before after
laid-out w left left' r j end before after e some of ran =
    subst (λ x. RanOn w x end before after) (sym (meant-ok w.raw (bytes_of left) r (rest_of (place_of r) left') e))
    (when-true _ (has_layout w (head_of r)) some (j, of, ran))
