-- One iteration: one more frame, one more offset, or the end.
use Rattle.std.proofs.Common.{◌≡◌, refl, ℕ, ◌+◌, ◌≤◌, ◌<◌, List, [], ◌∷◌, ◌++◌, map, length, length-append, append-nil, append_assoc, arith, ap, sym, subst, ◌∙◌, inr}
use Rattle.std.specs.Prelude.{Option, Some, None, Result, Err}
use Rattle.std.specs.List.{flat_map}
use Rattle.std.proofs.lemmas.List.{length-map}
use Rattle.pw_outside.specs.Ports.{last}
use Rattle.pw_outside.specs.Writing.{SinkState, Puts, PutsFront}
use Rattle.pw_outside.proofs.Puts.{puts_none, puts_then, puts_front, then_front}
use Rattle.qt_atoms.specs.Atoms.{bytes_in}
use Rattle.qt_tables.specs.declared.tables.TheConstants.{MAX_SAMPLES}
use Rattle.qt_tables.specs.declared.fault.MovieKind.TheVariants.{TooManySamples}
use Rattle.qt_movie.specs.MovieBytes.{ftyp_bytes, frame_bytes}
use Rattle.pr_frame.specs.declared.coded.CodedFrame.{CodedFrame}
use Rattle.rescue_run.specs.declared.form.FrameForm.{FrameForm}
use Rattle.rescue_run.specs.declared.end.RescueEnd.{RescueEnd}
use Rattle.rescue_run.specs.declared.end.RescueEnd.TheVariants as ends
use Rattle.rescue_run.specs.declared.gathering.Gathering.{Gathering}
use Rattle.rescue_run.specs.Chain.{IsLike, form_of, form_behind, Taken, TakesFirst, size_at, behind}
use Rattle.rescue_run.specs.inner.Windows.{NoMark}
use Rattle.rescue_run.specs.Rescuing.{frames_of, opening_bytes, extents_of, extent_of, bytes_of_frame, Refused, Stopped}
use Rattle.rescue_run.specs.inner.Steps.{HoldsLike, HoldsNone, form_in, extents_in, first_or, step_bytes, TakingIs, form_after, GatheredUpTo, with_text, Halts, IsReadersEnd, IsJudged, GoesFrom}
use Rattle.rescue_run.proofs.Following.{none_taken, no_mark_held, one_none, none_more, take_more, form_more}

map_more : {A B : Type 0} (f : A → B) (xs : List A) (x : A) → map f (xs ++ x ∷ []) ≡ map f xs ++ f x ∷ []
map_more f [] x = refl
map_more f (y ∷ ys) x = ap (λ l. f y ∷ l) (map_more f ys x)

flat_more : (frames : List (List ℕ)) (frame : List ℕ) → flat_map frame_bytes (frames ++ frame ∷ []) ≡ flat_map frame_bytes frames ++ frame_bytes frame
flat_more [] frame = append-nil (frame_bytes frame)
flat_more (x ∷ xs) frame = ap (λ l. frame_bytes x ++ l) (flat_more xs frame) ∙ sym (append_assoc (frame_bytes x) (flat_map frame_bytes xs) (frame_bytes frame))

-- the bytes written for one more frame
opening_more : (file : List ℕ) (ts : List Taken) (t : Taken) → opening_bytes (frames_of file (ts ++ t ∷ [])) ≡ opening_bytes (frames_of file ts) ++ step_bytes (extents_of file ts) (bytes_of_frame file t)
opening_more file [] t = ap (λ l. ftyp_bytes ++ l) (append-nil (frame_bytes (bytes_of_frame file t)))
opening_more file (x ∷ xs) t = ap (λ l. ftyp_bytes ++ flat_map frame_bytes (bytes_of_frame file x ∷ l)) (map_more (bytes_of_frame file) xs t)
    ∙ ap (λ l. ftyp_bytes ++ l) (flat_more (bytes_of_frame file x ∷ frames_of file xs) (bytes_of_frame file t))
    ∙ sym (append_assoc ftyp_bytes (flat_map frame_bytes (bytes_of_frame file x ∷ frames_of file xs)) (frame_bytes (bytes_of_frame file t)))

first_behind : (first : Option FrameForm) (form : FrameForm) (frame : CodedFrame) → form ≡ form_of frame.header → first_or first form ≡ form_behind first frame
first_behind None form frame e = ap Some e
first_behind (Some f) form frame e = refl

-- nothing yet
pub none_gathered : (file : List ℕ) (a : SinkState) → a.taken ≤ last → GatheredUpTo file 0 None a a
none_gathered file a h = record { frames = []; takes = none_taken file; form = refl; extents = refl; few = omega arith; out = puts_none a h }

-- a later offset, if none between holds a frame
pub gathered_further : (file : List ℕ) (p q : ℕ) (g : Option Gathering) (a b : SinkState) → p ≤ q → NoMark file p q → GatheredUpTo file p g a b → GatheredUpTo file q g a b
gathered_further file p q g a b le none h = record {
  frames = h.frames;
  takes = none_more file None 0 h.frames p q h.takes le (no_mark_held file (form_after None h.frames) p q none);
  form = h.form;
  extents = h.extents;
  few = h.few;
  out = h.out;
}

-- an offset that holds none
pub gathered_none : (file : List ℕ) (p : ℕ) (g : Option Gathering) (a b : SinkState) → HoldsNone file p (form_in g) → GatheredUpTo file p g a b → GatheredUpTo file (p + 1) g a b
gathered_none file p g a b none h = record {
  frames = h.frames;
  takes = none_more file None 0 h.frames p (p + 1) h.takes (omega arith) (one_none file (form_after None h.frames) p (subst (HoldsNone file p) h.form none));
  form = h.form;
  extents = h.extents;
  few = h.few;
  out = h.out;
}

module _ (file : List ℕ) (p size : ℕ) (g : Option Gathering) (a b c : SinkState) (form : FrameForm) (at_size : size ≡ size_at file p) (holds : HoldsLike file p (form_in g) form) (h : GatheredUpTo file p g a b) where
  abbrev taken : Taken
  taken = record { at = p; frame = holds.frame }

  takes_one : TakesFirst file (h.frames ++ taken ∷ []) (behind file taken)
  takes_one = take_more file None 0 h.frames taken h.takes holds.holds (subst (λ f. IsLike f holds.frame) h.form holds.like)

  bytes_one : step_bytes (extents_in g) (bytes_in size file p) ≡ step_bytes (extents_of file h.frames) (bytes_of_frame file taken)
  bytes_one = ap (λ es. step_bytes es (bytes_in size file p)) h.extents ∙ ap (λ n. step_bytes (extents_of file h.frames) (bytes_in n file p)) at_size

  count_one : length (extents_in g) ≡ length h.frames
  count_one = ap length h.extents ∙ length-map h.frames (extent_of file)

  -- the frame was taken
  pub gathered_one : (g' : Option Gathering) → form_in g' ≡ first_or (form_in g) form → extents_in g' ≡ extents_in g ++ record { at = p; size = size } ∷ [] → Puts b c (step_bytes (extents_in g) (bytes_in size file p)) → length (extents_in g) < MAX_SAMPLES
      → GatheredUpTo file (p + size) g' a c
  gathered_one g' f e puts few = record {
    frames = h.frames ++ taken ∷ [];
    takes = subst (TakesFirst file (h.frames ++ taken ∷ [])) (ap (λ n. p + n) (sym at_size)) takes_one;
    form = f ∙ ap (λ x. first_or x form) h.form ∙ first_behind (form_after None h.frames) form holds.frame holds.form_is ∙ sym (form_more None h.frames taken);
    extents = e ∙ ap (λ l. l ++ record { at = p; size = size } ∷ []) h.extents ∙ ap (λ n. extents_of file h.frames ++ record { at = p; size = n } ∷ []) at_size ∙ sym (map_more (extent_of file) h.frames taken);
    few = omega (arith, few, count_one, length-append h.frames (taken ∷ []));
    out = subst (Puts a c) (sym (opening_more file h.frames taken)) (puts_then h.out (subst (Puts b c) bytes_one puts));
  }

  -- a prefix of it was written
  pub stopped_one : p + size ≤ length file → PutsFront b c (step_bytes (extents_in g) (bytes_in size file p)) → length (extents_in g) < MAX_SAMPLES → (text : SinkState) → text.taken ≤ last → Stopped file (with_text text a) (with_text text c)
  stopped_one inside front few text k = record {
    frames = h.frames ++ taken ∷ [];
    to = behind file taken;
    within = subst (λ n. p + n ≤ length file) at_size inside;
    takes = takes_one;
    few = omega (arith, few, count_one, length-append h.frames (taken ∷ []));
    out = subst (PutsFront a c) (sym (opening_more file h.frames taken)) (then_front h.out (subst (PutsFront b c) bytes_one front));
    text = puts_none text k;
  }

  -- there are too many
  pub refused_one : length (extents_in g) ≡ MAX_SAMPLES → Puts b c [] → (text : SinkState) → text.taken ≤ last → Refused file (ends.BadMovie TooManySamples p) (with_text text a) (with_text text c)
  refused_one many puts text k = record {
    frames = h.frames;
    rescues = inr (refl, sym count_one ∙ many, record { next = taken; at = refl; takes = takes_one });
    out = subst (Puts a c) (append-nil (opening_bytes (frames_of file h.frames))) (puts_then h.out puts);
    text = puts_none text k;
  }

-- reading stopped after these frames
pub stopped_here : (file : List ℕ) (p : ℕ) (g : Option Gathering) (a b : SinkState) → p ≤ length file → GatheredUpTo file p g a b → (text : SinkState) → text.taken ≤ last → Stopped file (with_text text a) (with_text text b)
stopped_here file p g a b le h text k = record { frames = h.frames; to = p; within = le; takes = h.takes; few = h.few; out = puts_front h.out; text = puts_none text k }

-- reading failed, or memory ran out
pub halted_reading : (file : List ℕ) (p : ℕ) (g : Option Gathering) (a b : SinkState) (end : RescueEnd) → IsReadersEnd end → p ≤ length file → GatheredUpTo file p g a b → Halts file end a b
halted_reading file p g a b ends.NoMemory e le h = stopped_here file p g a b le h
halted_reading file p g a b ends.ReadFault e le h = stopped_here file p g a b le h
halted_reading file p g a b ends.WriteFault e le h = absurd e
halted_reading file p g a b ends.Done e le h = absurd e
halted_reading file p g a b (ends.BadMovie kind place) e le h = absurd e

-- taking a frame ended the run
pub halted_taking : (file : List ℕ) (p size : ℕ) (g : Option Gathering) (a b c : SinkState) (form : FrameForm) → size ≡ size_at file p → HoldsLike file p (form_in g) form → GatheredUpTo file p g a b → p + size ≤ length file
    → (end : RescueEnd) → TakingIs (bytes_in size file p) p (extents_in g) (Err end) b c → Halts file end a c
halted_taking file p size g a b c form s l h inside ends.NoMemory t = stopped_one file p size g a b c form s l h inside t.0 t.1
halted_taking file p size g a b c form s l h inside ends.ReadFault t = stopped_one file p size g a b c form s l h inside t.0 t.1
halted_taking file p size g a b c form s l h inside ends.WriteFault t = stopped_one file p size g a b c form s l h inside t.0 t.1
halted_taking file p size g a b c form s l h inside ends.Done t = absurd t
halted_taking file p size g a b c form s l h inside (ends.BadMovie kind place) t = λ text k.
    subst (λ x. Refused file (ends.BadMovie x place) (with_text text a) (with_text text c)) (sym t.0)
    (subst (λ x. Refused file (ends.BadMovie TooManySamples x) (with_text text a) (with_text text c)) (sym t.1) (refused_one file p size g a b c form s l h t.2 t.3 text k))

-- ---- an iteration

pub goes_err : (file : List ℕ) (r : Result ℕ RescueEnd) (end : RescueEnd) (g : Option Gathering) (a b : SinkState) → r ≡ Err end → Halts file end a b → GoesFrom file r g a b
goes_err file r end g a b e h = subst (λ x. GoesFrom file x g a b) (sym e) h

pub judged_some : (file : List ℕ) (place : ℕ) (first r : Option FrameForm) (g : Option Gathering) (form : FrameForm) → first ≡ form_in g → r ≡ Some form → IsJudged file place first r → HoldsLike file place (form_in g) form
judged_some file place first r g form e n h = subst (λ f. HoldsLike file place f form) e (subst (IsJudged file place first) n h)

pub judged_none : (file : List ℕ) (place : ℕ) (first r : Option FrameForm) (g : Option Gathering) → first ≡ form_in g → r ≡ None → IsJudged file place first r → HoldsNone file place (form_in g)
judged_none file place first r g e n h = subst (λ f. HoldsNone file place f) e (subst (IsJudged file place first) n h)
