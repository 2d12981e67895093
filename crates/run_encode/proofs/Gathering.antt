-- Pictures read one by one, up to a group.
use Rattle.std.proofs.Common.{◌≡◌, refl, ℕ, ◌+◌, ◌<◌, ◌≤◌, List, [], ◌∷◌, ◌++◌, arith, length, map, ap, sym, subst, ◌∙◌, length-append, append_assoc, append-nil, Option, None, Some, Ok, Err}
use Rattle.std.specs.Prelude.{IsSome}
use Rattle.std.proofs.lemmas.List.{map-append}
use Rattle.std.proofs.lemmas.List.Elements.{All-nil, All-push}
use Rattle.std.specs.List.{All}
use Rattle.pw_outside.specs.Reading.{Fault, Rest, Fails, rest_of}
use Rattle.pw_planes.specs.declared.picture.Picture.{Picture}
use Rattle.pic_y4m.specs.declared.head.TheConstants.{MAX_FRAMES}
use Rattle.pic_y4m.specs.declared.fault.PictureKind.{PictureKind}
use Rattle.pic_y4m.specs.declared.fault.PictureFault.{PictureFault}
use Rattle.pic_y4m.specs.declared.fault.PictureFault.TheVariants as faults
use Rattle.pic_y4m.specs.Faults.{told_fault}
use Rattle.std.specs.Io.KnownBytes.{IsAtEnd}
use Rattle.pic_y4m.specs.Frames.{Pictures, first_and}
use Rattle.pic_raw.specs.declared.any.AnyReader.{AnyReader}
use Rattle.pic_raw.specs.declared.any.AnyReader.TheVariants.{Y4m, Raw}
use Rattle.pic_raw.specs.Any.{NextIsFirst, IsReader, next_of, left_of, advanced, frames_of, place_of, head_of}
use Rattle.rate_build.specs.Coefficients.{FrameCoefficients}
use Rattle.run_encode.specs.declared.job.Job.{Job}
use Rattle.run_encode.specs.Groups.{IsFrameOf, coefficients_in}
use Rattle.run_encode.specs.Encoding.{end_of_fault}
use Rattle.run_encode.specs.inner.Steps.{left_by, in_front, no_pictures}
use Rattle.run_encode.specs.inner.Over.{ReadsGroup, StopsGroup}

-- one frame more
one-frame : (r : AnyReader) (place : ℕ) → frames_of (advanced r place) ≡ frames_of r + 1
one-frame (Y4m r) place = refl
one-frame (Raw r) place = refl

pub same-head : (r : AnyReader) (place : ℕ) → head_of (advanced r place) ≡ head_of r
same-head (Y4m r) place = refl
same-head (Raw r) place = refl

-- a reader has read at most MAX_FRAMES pictures
pub reader-few : (r : AnyReader) → IsReader r → frames_of r ≤ MAX_FRAMES
reader-few (Y4m r) is = is.few
reader-few (Raw r) is = is.few

-- `count` pictures were read
pub record SoFar (j : Job) (old now : AnyReader) (left left' : Option (List ℕ)) (cs : List FrameCoefficients) (count : ℕ) : Type 0 where
  pub pictures : List Picture
  pub coefficients : cs ≡ map (coefficients_in j) pictures
  pub count_is : length pictures ≡ count
  pub each : All (IsFrameOf j) cs
  pub number : frames_of now ≡ frames_of old + count
  pub limit : frames_of now ≤ MAX_FRAMES
  pub head : head_of now ≡ head_of old
  pub told : IsSome left → IsSome left'
  pub next : IsSome left → left_by old left ≡ in_front pictures (left_by now left')

pub none-read : (j : Job) (old : AnyReader) (left : Option (List ℕ)) → frames_of old ≤ MAX_FRAMES → SoFar j old old left left [] 0
none-read j old left limit = record {
  pictures = [];
  coefficients = refl;
  count_is = refl;
  each = All-nil (IsFrameOf j);
  number = omega arith;
  limit = limit;
  head = refl;
  told = λ h. h;
  next = λ h. refl;
}

module _ (first : NextIsFirst) (r : AnyReader) (left : Option (List ℕ)) (few : frames_of r ≤ MAX_FRAMES) where
  abbrev others : Rest → Pictures
  others rest = left_of (advanced r rest.place) rest

  pub next-some : (r' : AnyReader) (left' : Option (List ℕ)) (p : Picture) → next_of r (rest_of (place_of r) left) ≡ Ok (Some p, rest_of (place_of r') left') → r' ≡ advanced r (place_of r')
      → left_by r left ≡ in_front (p ∷ []) (left_by r' left')
  next-some r' left' p e after =
      first r (rest_of (place_of r) left) few ∙ ap (λ x. first_and x others) e
      ∙ ap (λ (q : AnyReader). in_front (p ∷ []) (left_of q (rest_of (place_of r') left'))) (sym after)

  pub next-none : (rest : Rest) → next_of r (rest_of (place_of r) left) ≡ Ok (None, rest) → left_by r left ≡ no_pictures
  next-none rest e = first r (rest_of (place_of r) left) few ∙ ap (λ x. first_and x others) e

  pub next-bad : (f : Fault PictureKind) → next_of r (rest_of (place_of r) left) ≡ Err f → left_by r left ≡ record { pictures = []; fault = Some f }
  next-bad f e = first r (rest_of (place_of r) left) few ∙ ap (λ x. first_and x others) e

module _ (j : Job) (old now : AnyReader) (left left' : Option (List ℕ)) (cs : List FrameCoefficients) (count : ℕ) (s : SoFar j old now left left' cs count) where
  -- one picture more
  pub one-more : (first : NextIsFirst) (new : AnyReader) (left'' : Option (List ℕ)) (p : Picture) (cs' : List FrameCoefficients)
      → cs' ≡ cs ++ coefficients_in j p ∷ [] → IsFrameOf j (coefficients_in j p) → new ≡ advanced now (place_of new) → frames_of new ≤ MAX_FRAMES → (IsSome left' → IsSome left'')
      → (IsSome left' → next_of now (rest_of (place_of now) left') ≡ Ok (Some p, rest_of (place_of new) left''))
      → SoFar j old new left left'' cs' (count + 1)
  one-more first new left'' p cs' e of after limit told next = record {
    pictures = s.pictures ++ p ∷ [];
    coefficients = e ∙ ap (λ l. l ++ coefficients_in j p ∷ []) s.coefficients ∙ sym (map-append (coefficients_in j) s.pictures (p ∷ []));
    count_is = omega (arith, length-append s.pictures (p ∷ []), s.count_is);
    each = subst (All (IsFrameOf j)) (sym e) (All-push (IsFrameOf j) cs (coefficients_in j p) s.each of);
    number = let f : frames_of new ≡ frames_of now + 1 = ap frames_of after ∙ one-frame now (place_of new) in omega (arith, f, s.number);
    limit = limit;
    head = ap head_of after ∙ same-head now (place_of new) ∙ s.head;
    told = λ h. told (s.told h);
    next = λ h. s.next h ∙ ap (in_front s.pictures) (next-some first now left' s.limit new left'' p (next (s.told h)) after)
        ∙ ap (λ ps. record { pictures = ps; fault = (left_by new left'').fault }) (sym (append_assoc s.pictures (p ∷ []) (left_by new left'').pictures));
  }

  -- a whole group
  pub whole-group : count ≡ j.group → ReadsGroup j old now left left' cs
  whole-group e = record {
    pictures = s.pictures;
    coefficients = s.coefficients;
    each = s.each;
    number = omega (arith, s.number, s.count_is);
    limit = s.limit;
    head = s.head;
    few = omega (arith, s.count_is, e);
    told = s.told;
    next = λ h _. s.next h;
    end = λ h lt. absurd (omega (arith, lt, s.count_is, e));
    read = λ lt. absurd (omega (arith, lt, s.count_is, e));
  }

  -- the end of the input
  pub last-group : (first : NextIsFirst) (new : AnyReader) (left'' : Option (List ℕ)) → count < j.group → new ≡ now → (IsSome left' → IsSome left'')
      → (IsSome left' → next_of now (rest_of (place_of now) left') ≡ Ok (None, rest_of (place_of new) left'')) → IsAtEnd left'' → ReadsGroup j old new left left'' cs
  last-group first new left'' lt same told next read =
      let frames : frames_of new ≡ frames_of now = ap frames_of same in
      record {
        pictures = s.pictures;
        coefficients = s.coefficients;
        each = s.each;
        number = omega (arith, s.number, s.count_is, frames);
        limit = omega (arith, s.limit, frames);
        head = ap head_of same ∙ s.head;
        few = omega (arith, s.count_is, lt);
        told = λ h. told (s.told h);
        next = λ h e. absurd (omega (arith, e, s.count_is, lt));
        end = λ h _. s.next h ∙ ap (in_front s.pictures) (next-none first now left' s.limit (rest_of (place_of new) left'') (next (s.told h)));
        read = λ _. read;
      }

  -- an error
  pub bad-group : (first : NextIsFirst) (fault : PictureFault) → count < j.group → (IsSome left' → Fails told_fault fault (next_of now (rest_of (place_of now) left')))
      → IsSome left → StopsGroup j (left_by old left) (end_of_fault fault)
  bad-group first (faults.Bad kind place) lt bad h =
      let e = s.next h ∙ ap (in_front s.pictures) (next-bad first now left' s.limit (record { kind = kind; place = place }) (bad (s.told h))) in
      let n : length (left_by old left).pictures ≡ length s.pictures = ap (λ (l : Pictures). length l.pictures) e ∙ ap length (append-nil s.pictures) in
      (omega (arith, n, s.count_is, lt), ap (λ (l : Pictures). l.fault) e)
  bad-group first faults.Failed lt bad h = tt
  bad-group first faults.NoMemory lt bad h = tt
