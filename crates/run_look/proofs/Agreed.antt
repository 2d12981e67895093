-- Samples and pictures beside the records, one after the other.
use Rattle.std.proofs.Common.{◌≡◌, refl, ℕ, zero, suc, ◌+◌, ◌<◌, ◌≤◌, inl, inr, List, [], ◌∷◌, ◌++◌, length, drop, get_or, Option, None, Some, Result, Ok, Err, ap, sym, subst, ◌∙◌, arith}
use Rattle.std.specs.Prelude.{slice_get, IsSome}
use Rattle.pw_outside.specs.Reading.{Fault, Rest, Told, bytes_of, rest_of}
use Rattle.pw_planes.specs.declared.picture.Picture.{Picture}
use Rattle.pic_y4m.specs.declared.fault.PictureKind.{PictureKind}
use Rattle.pic_y4m.specs.declared.fault.PictureFault.{PictureFault}
use Rattle.pic_y4m.specs.declared.head.TheConstants.{MAX_FRAMES}
use Rattle.pic_y4m.specs.Frames.{Pictures, first_and}
use Rattle.pic_raw.specs.declared.any.AnyReader.{AnyReader}
use Rattle.pic_raw.specs.declared.any.AnyReader.TheVariants.{Y4m, Raw}
use Rattle.pic_raw.specs.Any.{IsReader, IsAfter, NextIsFirst, advanced, frames_of, left_of, next_of, place_of}
use Rattle.pr_geom.specs.declared.layout.Layout.{Layout}
use Rattle.pr_frame.specs.declared.coded.CodedFrame.{CodedFrame}
use Rattle.pr_frame.specs.Laws.{OneFrame}
use Rattle.qt_tables.specs.declared.runs.Sample.{Sample}
use Rattle.rate_cert.specs.declared.settings.Settings.{Settings}
use Rattle.rate_cert.specs.Records.{Record}
use Rattle.run_look.specs.declared.end.LookEnd.{LookEnd}
use Rattle.run_look.specs.declared.end.LookEnd.TheVariants as ends
use Rattle.run_look.specs.Ends.{AnswersEnd}
use Rattle.run_look.specs.Checking.{frames_in, ended}
use Rattle.run_look.specs.Agreeing.{Given, given, AreBeside, TakesGroup, by_sample, by_picture, nothing_further, SamplesAgree, SamplesEnd, PicturesAgree, PicturesEnd, TakesPictures, left_by, picture_or, picture_in, sample_in, sample_bytes, IsSampleOf, IsAsSaid, HasFrame, AreFrames, ReadsSample, TakesSample, SampleEnds, SampleAgrees, IsPictureOf, PictureAgrees, PictureEnds, AreLeft, GivesPicture, TakesPicture}
use Rattle.run_look.proofs.Alone.{answers_end}
use Rattle.run_look.proofs.Alike.{step}

-- ---- the items at a number

none_at : (ps : List Picture) (n : ℕ) → [] ≡ drop n ps → slice_get ps n ≡ None
none_at [] n e = refl
none_at (p ∷ ps) zero e = absurd cc
none_at (p ∷ ps) (suc n) e = none_at ps n e

some_at : (ps : List Picture) (n : ℕ) (p : Picture) (others : List Picture) → p ∷ others ≡ drop n ps → (slice_get ps n ≡ Some p) × (others ≡ drop (n + 1) ps)
some_at [] zero p others e = absurd cc
some_at [] (suc n) p others e = absurd cc
some_at (q ∷ qs) zero p others e = (cc, cc)
some_at (q ∷ qs) (suc n) p others e =
    let behind = some_at qs n p others e in
    let one : suc (n + 1) ≡ suc n + 1 = omega arith in
    (behind.0, behind.1 ∙ ap (λ k. drop k (q ∷ qs)) one)

pub left_fault : (g : Given) (n : ℕ) (f : Fault PictureKind) (others : Rest → Pictures) → AreLeft g n (first_and (Err f) others) → picture_in g n ≡ Err f
left_fault g n f others e =
    let none = none_at g.pictures.pictures n (ap (λ (x : Pictures). x.pictures) e) in
    let fault = ap (λ (x : Pictures). x.fault) e in
    ap (λ o. picture_or o g.pictures.fault) none ∙ ap (picture_or None) (sym fault)

pub left_none : (g : Given) (n : ℕ) (rest : Rest) (others : Rest → Pictures) → AreLeft g n (first_and (Ok (None, rest)) others) → picture_in g n ≡ Ok None
left_none g n rest others e =
    let none = none_at g.pictures.pictures n (ap (λ (x : Pictures). x.pictures) e) in
    let fault = ap (λ (x : Pictures). x.fault) e in
    ap (λ o. picture_or o g.pictures.fault) none ∙ ap (picture_or None) (sym fault)

pub left_some : (g : Given) (n : ℕ) (p : Picture) (rest : Rest) (others : Rest → Pictures) → AreLeft g n (first_and (Ok (Some p, rest)) others)
    → (picture_in g n ≡ Ok (Some p)) × AreLeft g (n + 1) (others rest)
left_some g n p rest others e =
    let some = some_at g.pictures.pictures n p (others rest).pictures (ap (λ (x : Pictures). x.pictures) e) in
    let fault = ap (λ (x : Pictures). x.fault) e in
    (ap (λ o. picture_or o g.pictures.fault) some.0, λ i. record { pictures = some.1 i; fault = fault i })

-- no reader returns more frames than this
few_frames : (r : AnyReader) → IsReader r → frames_of r ≤ MAX_FRAMES
few_frames (Y4m r) is = is.few
few_frames (Raw r) is = is.few

-- the next result of a reader
pub gives_fault : NextIsFirst → (r : AnyReader) (rest : Rest) (g : Given) (n : ℕ) (f : Fault PictureKind) → IsReader r → next_of r rest ≡ Err f → AreLeft g n (left_of r rest) → picture_in g n ≡ Err f
gives_fault law r rest g n f is e left =
    let others : Rest → Pictures = λ rest. left_of (advanced r rest.place) rest in
    left_fault g n f others (sym (ap (λ x. first_and x others) e) ∙ sym (law r rest (few_frames r is)) ∙ left)

pub gives_next : NextIsFirst → (r r' : AnyReader) (rest : Rest) (left : Option (List ℕ)) (g : Given) (n : ℕ) (o : Option Picture) → IsReader r → IsAfter {E = PictureFault} r r' (Ok o)
    → next_of r rest ≡ Ok (o, rest_of (place_of r') left) → AreLeft g n (left_of r rest) → GivesPicture g n (Ok o) (left_by r' left)
gives_next law r r' rest left g n o is after e are = by o after (sym (ap (λ x. first_and x others) e) ∙ sym (law r rest (few_frames r is)) ∙ are)
  where
    others : Rest → Pictures
    others rest = left_of (advanced r rest.place) rest

    by : (o : Option Picture) → IsAfter {E = PictureFault} r r' (Ok o) → AreLeft g n (first_and (Ok (o, rest_of (place_of r') left)) others) → GivesPicture g n (Ok o) (left_by r' left)
    by None after here = left_none g n (rest_of (place_of r') left) others here
    by (Some p) after here =
        let both = left_some g n p (rest_of (place_of r') left) others here in
        (both.0, subst (λ x. AreLeft g (n + 1) (left_of x (rest_of (place_of r') left))) (sym after) both.1)

-- ---- one picture

same_sample : (o : Option Sample) (x y : Sample) → o ≡ Some x → o ≡ Some y → x ≡ y
same_sample o x y a b = cc

same_picture : (o : Result (Option Picture) (Fault PictureKind)) (p q : Picture) → o ≡ Ok (Some p) → o ≡ Ok (Some q) → p ≡ q
same_picture o p q a b = cc

-- a frame doesn't agree if it isn't that of the picture with its number
pub disagrees : OneFrame → (g : Given) (l : Layout) (s : Settings) (r : Record) (first k : ℕ) (f : CodedFrame) (p : Picture) → HasFrame g (first + k) f
    → picture_in g (first + k) ≡ Ok (Some p) → (IsPictureOf l s r k f p → ⊥) → PictureAgrees g l s r first k → ⊥
disagrees one g l s r first k f p (x, there, of) picture other agrees =
    let sample = same_sample (sample_in g (first + k)) agrees.sample x agrees.sample_there there in
    let frame : agrees.frame ≡ f = one (sample_bytes g.file x) agrees.frame f (subst (λ y. IsSampleOf g.file y agrees.frame) sample agrees.of).stands of.stands in
    let same = same_picture (picture_in g (first + k)) agrees.picture p agrees.there picture in
    other (subst (λ y. IsPictureOf l s r k f y) same (subst (λ y. IsPictureOf l s r k y agrees.picture) frame agrees.pictured))

pub picture_agrees : (g : Given) (l : Layout) (s : Settings) (r : Record) (first k : ℕ) (f : CodedFrame) (p : Picture) → HasFrame g (first + k) f
    → picture_in g (first + k) ≡ Ok (Some p) → IsPictureOf l s r k f p → PictureAgrees g l s r first k
picture_agrees g l s r first k f p (x, there, of) picture is = record { picture = p; there = picture; sample = x; sample_there = there; frame = f; of = of; pictured = is }

-- ---- one sample

pub sample_there : (g : Given) (s : Settings) (r : Record) (first k : ℕ) (x : Sample) (f : CodedFrame) → sample_in g (first + k) ≡ Some x → IsSampleOf g.file x f → IsAsSaid s r k x.size f
    → TakesSample g s r first k (Ok f)
sample_there g s r first k x f there of said = (record { sample = x; there = there; frame = f; of = of; said = said }, (x, there, of))

-- ---- frames before further ones

pub frames_more : (g : Given) (first : ℕ) (fs : List CodedFrame) (f : CodedFrame) → AreFrames g first fs → HasFrame g (first + length fs) f → AreFrames g first (fs ++ f ∷ [])
frames_more g first fs f are is = All-push-at fs f first are is
  where
    All-push-at : (fs : List CodedFrame) (f : CodedFrame) (first : ℕ) → AreFrames g first fs → HasFrame g (first + length fs) f → AreFrames g first (fs ++ f ∷ [])
    All-push-at [] f first are is zero d l = is
    All-push-at [] f first are is (suc k) d l = absurd (omega (arith, l))
    All-push-at (x ∷ xs) f first are is zero d l = are zero d (omega arith)
    All-push-at (x ∷ xs) f first are is (suc k) d l =
        let e : first + suc k ≡ first + 1 + k = omega arith in
        let there : (k : ℕ) (d : CodedFrame) → k < length xs → HasFrame g (first + 1 + k) (get_or xs k d) =
        λ k d m. subst (λ n. HasFrame g n (get_or xs k d)) (let e : first + suc k ≡ first + 1 + k = omega arith in e) (are (suc k) d (omega (arith, m))) in
        subst (λ n. HasFrame g n (get_or (xs ++ f ∷ []) k d)) (sym e)
        (All-push-at xs f (first + 1) there (subst (λ n. HasFrame g n f) (let e : first + length (x ∷ xs) ≡ first + 1 + length xs = omega arith in e) is) k d (omega (arith, l)))

-- ---- one sample after the other

-- checking ends at the sample of a frame
pub samples_stop : (b b' : Option (List ℕ)) (ss : List Sample) (s : Settings) (r : Record) (first k : ℕ) (end : LookEnd) → b' ≡ b → k < frames_in s r
    → (IsSome b → (ps : Pictures) → SamplesAgree (given (bytes_of b) ss ps) s r first k)
    → Told b' (λ file. (ps : Pictures) → TakesSample (given file ss ps) s r first k (Err end)) → Told b (λ file. (ps : Pictures) → AnswersEnd end (SamplesEnd (given file ss ps) s r first))
samples_stop b b' ss s r first k end e lt agree takes = λ told ps.
    let here : Told b (λ file. (ps : Pictures) → TakesSample (given file ss ps) s r first k (Err end)) =
    subst (λ x. Told x (λ file. (ps : Pictures) → TakesSample (given file ss ps) s r first k (Err end))) e takes in
    answers_end end (SampleEnds (given (bytes_of b) ss ps) s r first k) (SamplesEnd (given (bytes_of b) ss ps) s r first) (λ x h. (k, lt, agree told ps, h)) (here told ps)

-- the sample of a frame agrees
pub samples_further : (b b' : Option (List ℕ)) (ss : List Sample) (s : Settings) (r : Record) (first k : ℕ) (f : CodedFrame) → b' ≡ b
    → (IsSome b → (ps : Pictures) → SamplesAgree (given (bytes_of b) ss ps) s r first k)
    → Told b' (λ file. (ps : Pictures) → TakesSample (given file ss ps) s r first k (Ok f)) → IsSome b → (ps : Pictures) → SamplesAgree (given (bytes_of b) ss ps) s r first (k + 1)
samples_further b b' ss s r first k f e agree takes told ps =
    let here : Told b (λ file. (ps : Pictures) → TakesSample (given file ss ps) s r first k (Ok f)) =
    subst (λ x. Told x (λ file. (ps : Pictures) → TakesSample (given file ss ps) s r first k (Ok f))) e takes in
    step (λ j. SampleAgrees (given (bytes_of b) ss ps) s r first j) k (agree told ps) (here told ps).0

-- and its frame comes after those before it
pub frames_further : (b b' : Option (List ℕ)) (ss : List Sample) (s : Settings) (r : Record) (first k : ℕ) (fs fs' : List CodedFrame) (f : CodedFrame) → b' ≡ b → length fs ≡ k → fs' ≡ fs ++ f ∷ []
    → (IsSome b → (ps : Pictures) → AreFrames (given (bytes_of b) ss ps) first fs)
    → Told b' (λ file. (ps : Pictures) → TakesSample (given file ss ps) s r first k (Ok f)) → IsSome b → (ps : Pictures) → AreFrames (given (bytes_of b) ss ps) first fs'
frames_further b b' ss s r first k fs fs' f e n is are takes told ps =
    let here : Told b (λ file. (ps : Pictures) → TakesSample (given file ss ps) s r first k (Ok f)) =
    subst (λ x. Told x (λ file. (ps : Pictures) → TakesSample (given file ss ps) s r first k (Ok f))) e takes in
    let frame : HasFrame (given (bytes_of b) ss ps) (first + length fs) f = subst (λ j. HasFrame (given (bytes_of b) ss ps) (first + j) f) (sym n) (here told ps).1 in
    subst (λ l. AreFrames (given (bytes_of b) ss ps) first l) (sym is) (frames_more (given (bytes_of b) ss ps) first fs f (are told ps) frame)

-- ---- one picture after the other

-- the picture of a frame agrees
pub pictures_further : (g : Given) (l : Layout) (s : Settings) (r : Record) (first k : ℕ) (left : Pictures) → PicturesAgree g l s r first k → TakesPicture g l s r first k (Ok tt) left
    → PicturesAgree g l s r first (k + 1) × AreLeft g (first + (k + 1)) left
pictures_further g l s r first k left before here =
    (step (λ j. PictureAgrees g l s r first j) k before here.0, subst (λ n. AreLeft g n left) (let e : first + k + 1 ≡ first + (k + 1) = omega arith in e) here.1)

-- checking ends at the picture of a frame
pub pictures_stop : (g : Given) (l : Layout) (s : Settings) (r : Record) (first k : ℕ) (end : LookEnd) → PicturesAgree g l s r first k → k < frames_in s r → AnswersEnd end (PictureEnds g l s r first k)
    → AnswersEnd end (PicturesEnd g l s r first)
pictures_stop g l s r first k end before lt here = answers_end end (PictureEnds g l s r first k) (PicturesEnd g l s r first) (λ x h. (k, lt, before, h)) here

-- ---- one record

-- checking ends at a sample of a record
pub group_by_samples : (g : Given) (l : Layout) (s : Settings) (r : Record) (first : ℕ) (end : LookEnd) → AnswersEnd end (SamplesEnd g s r first) → AnswersEnd end (λ e. AreBeside g l s r first tt (ended e))
group_by_samples g l s r first end h = answers_end end (SamplesEnd g s r first) (λ e. AreBeside g l s r first tt (ended e)) (λ e x. (x.0, x.1, inl (x.2, x.3))) h

-- all samples of a record agree
pub group_by_pictures : (g : Given) (l : Layout) (s : Settings) (r : Record) (first : ℕ) (result : Result (Unit {0}) LookEnd) (left : Pictures) → SamplesAgree g s r first (frames_in s r)
    → TakesPictures g l s r first result left → TakesGroup g l s r first result left
group_by_pictures g l s r first (Ok _) left agree h = ((agree, h.0), h.1)
group_by_pictures g l s r first (Err end) left agree h = answers_end end (PicturesEnd g l s r first) (λ e. AreBeside g l s r first tt (ended e)) (λ e x. (x.0, x.1, inr (agree, x.2, x.3))) h

-- ---- after the records

no_sample : (ss : List Sample) (n : ℕ) → length ss ≤ n → slice_get ss n ≡ None
no_sample [] n l = refl
no_sample (x ∷ xs) zero l = absurd (omega (arith, l))
no_sample (x ∷ xs) (suc n) l = no_sample xs n (omega (arith, l))

-- there is none, and this is the result of reading the next picture
pub behind_samples : (g : Given) (ss : List Sample) (n : ℕ) → g.samples ≡ ss → length ss ≤ n → nothing_further g n tt ≡ by_picture n (picture_in g n)
behind_samples g ss n e l = ap (λ l. by_sample g n (slice_get l n)) e ∙ ap (by_sample g n) (no_sample ss n l)

pub further_picture : (g : Given) (ss : List Sample) (n : ℕ) (p : Picture) → g.samples ≡ ss → length ss ≤ n → picture_in g n ≡ Ok (Some p) → ends.Refused n 10 ≡ nothing_further g n tt
further_picture g ss n p e l is = sym (behind_samples g ss n e l ∙ ap (by_picture n) is)
