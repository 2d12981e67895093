-- The end of a run.
use Rattle.std.proofs.Common.{◌≡◌, refl, ℕ, ◌≤◌, List, [], ◌∷◌, ◌++◌, map, length, append-nil, arith, ap, sym, subst, ◌∙◌, inl, inr}
use Rattle.std.specs.Prelude.{Option, Some, None}
use Rattle.std.specs.List.{flat_map}
use Rattle.std.proofs.lemmas.List.{length-map}
use Rattle.pw_outside.specs.Ports.{last}
use Rattle.pw_outside.specs.Writing.{SinkState, Puts, PutsFront, Extends}
use Rattle.pw_outside.proofs.Puts.{puts_none, puts_then, then_front, front_extends}
use Rattle.qt_movie.specs.MovieBytes.{ftyp_bytes, frame_bytes, moov_bytes, extents}
use Rattle.qt_tables.specs.declared.fault.MovieKind.TheVariants.{NoFrames}
use Rattle.rescue_run.specs.declared.form.Rate.{Rate}
use Rattle.rescue_run.specs.declared.form.FrameForm.{FrameForm}
use Rattle.rescue_run.specs.declared.end.RescueEnd.{RescueEnd}
use Rattle.rescue_run.specs.declared.end.RescueEnd.TheVariants as ends
use Rattle.rescue_run.specs.declared.gathering.Gathering.{Gathering}
use Rattle.rescue_run.specs.Chain.{Taken, size_at, form_of, form_behind, behind, Takes}
use Rattle.rescue_run.specs.Rescuing.{World, EndsWithin, Ran, Cut, head_of, rescued_bytes, rescue_text, extents_of, extent_of, frames_of, opening_bytes, Rescues}
use Rattle.rescue_run.proofs.Copying.{bytes_there}
use Rattle.rescue_run.specs.inner.Steps.{FinishIs, form_after, sizes_of, GatheredUpTo, with_text, IsKept, Halts}

-- the movie atom, and then the text
behind_moov : (a b c : World) (movie text : List ℕ) → Puts a.out b.out movie → Puts a.text b.text [] → EndsWithin [] text b c → EndsWithin movie text a c
behind_moov a b c movie text o t (inl h) = inl (subst (PutsFront a.out c.out) (append-nil movie) (then_front o h.0), puts_then t h.1)
behind_moov a b c movie text o t (inr h) = inr (subst (Puts a.out c.out) (append-nil movie) (puts_then o h.0), then_front t h.1)

pub finish_then : (end : RescueEnd) (a b c : World) (movie text : List ℕ) → Puts a.out b.out movie → Puts a.text b.text [] → FinishIs end [] text b c → FinishIs end movie text a c
finish_then ends.Done a b c movie text o t h = (subst (Puts a.out c.out) (append-nil movie) (puts_then o h.0), puts_then t h.1)
finish_then ends.NoMemory a b c movie text o t h = behind_moov a b c movie text o t h
finish_then ends.WriteFault a b c movie text o t h = behind_moov a b c movie text o t h
finish_then ends.ReadFault a b c movie text o t h = absurd h
finish_then (ends.BadMovie kind place) a b c movie text o t h = absurd h

-- ---- after all frames

-- the bytes written for the frames, and the movie atom
whole_movie : (rate : Rate) (file : List ℕ) (ts : List Taken) (form : FrameForm) → Some form ≡ form_after None ts → 1 ≤ length ts
    → opening_bytes (frames_of file ts) ++ moov_bytes (head_of rate form) (extents (map length (frames_of file ts))) ≡ rescued_bytes rate file ts
whole_movie rate file [] form e some = absurd (omega (arith, some))
whole_movie rate file (t ∷ ts) form e some =
    ap (λ f. ftyp_bytes ++ flat_map frame_bytes (frames_of file (t ∷ ts)) ++ moov_bytes (head_of rate f) (extents (map length (frames_of file (t ∷ ts))))) (first_is t ts form e)
  where
    some_is : (f g : FrameForm) → Some f ≡ Some g → f ≡ g
    some_is f g e = cc

    stays : (f : FrameForm) (ts : List Taken) → form_after (Some f) ts ≡ Some f
    stays f [] = refl
    stays f (t ∷ ts) = stays f ts

    first_is : (t : Taken) (ts : List Taken) (form : FrameForm) → Some form ≡ form_after None (t ∷ ts) → form ≡ form_of t.frame.header
    first_is t ts form e = some_is form (form_of t.frame.header) (e ∙ stays (form_of t.frame.header) ts)

-- the sizes of the frames
sizes_same : (file : List ℕ) (first : Option FrameForm) (from : ℕ) (ts : List Taken) (to : ℕ) → Takes file first from ts to → map length (frames_of file ts) ≡ sizes_of (extents_of file ts)
sizes_same file first from [] to h = refl
sizes_same file first from (t ∷ ts) to h =
    ap (λ n. n ∷ map length (frames_of file ts)) (bytes_there file (size_at file t.at) t.at h.2.inside)
    ∙ ap (λ l. size_at file t.at ∷ l) (sizes_same file (form_behind first t.frame) (behind file t) ts to h.4)

-- the bytes after a gathering
module _ (rate : Rate) (file : List ℕ) (g : Gathering) (kept : IsKept rate g) (some : 1 ≤ length g.extents.items) (a b : SinkState) (h : GatheredUpTo file (length file) (Some g) a b) where
  rescues_all : Rescues file h.frames ends.Done
  rescues_all = (
    h.takes,
    let e : length (extents_of file h.frames) ≡ length h.frames = length-map h.frames (extent_of file) in
        let f : length g.extents.items ≡ length (extents_of file h.frames) = ap length h.extents in omega (arith, some, e, f),
    h.few,
  )

  moov_same : moov_bytes g.writer.head (extents g.writer.sizes) ≡ moov_bytes (head_of rate g.form) (extents (map length (frames_of file h.frames)))
  moov_same = ap (λ x. moov_bytes x (extents g.writer.sizes)) kept.head
      ∙ ap (λ l. moov_bytes (head_of rate g.form) (extents l)) (kept.sizes ∙ ap sizes_of h.extents ∙ sym (sizes_same file None 0 h.frames (length file) h.takes))

  movie_same : opening_bytes (frames_of file h.frames) ++ moov_bytes g.writer.head (extents g.writer.sizes) ≡ rescued_bytes rate file h.frames
  movie_same = ap (λ l. opening_bytes (frames_of file h.frames) ++ l) moov_same ∙ whole_movie rate file h.frames g.form h.form (rescues_all.1)

  text_same : rescue_text g.extents.items ≡ rescue_text (extents_of file h.frames)
  text_same = ap rescue_text h.extents

  within_all : (x y : World) → x.out ≡ b → EndsWithin (moov_bytes g.writer.head (extents g.writer.sizes)) (rescue_text g.extents.items) x y → Cut rate file (with_text x.text a) y
  within_all x y e (inl w) = record {
    frames = h.frames;
    rescues = rescues_all;
    written = inl (subst (PutsFront a y.out) movie_same (then_front h.out (subst (λ s. PutsFront s y.out (moov_bytes g.writer.head (extents g.writer.sizes))) e w.0)), w.1);
  }
  within_all x y e (inr w) = record {
    frames = h.frames;
    rescues = rescues_all;
    written = inr (subst (Puts a y.out) movie_same (puts_then h.out (subst (λ s. Puts s y.out (moov_bytes g.writer.head (extents g.writer.sizes))) e w.0)), subst (PutsFront x.text y.text) text_same w.1);
  }

  pub ran_finished : (end : RescueEnd) (x y : World) → x.out ≡ b → FinishIs end (moov_bytes g.writer.head (extents g.writer.sizes)) (rescue_text g.extents.items) x y → Ran rate file end (with_text x.text a) y
  ran_finished ends.Done x y e w = record {
    frames = h.frames;
    rescues = rescues_all;
    out = subst (Puts a y.out) movie_same (puts_then h.out (subst (λ s. Puts s y.out (moov_bytes g.writer.head (extents g.writer.sizes))) e w.0));
    text = subst (Puts x.text y.text) text_same w.1;
  }
  ran_finished ends.NoMemory x y e w = inr (within_all x y e w)
  ran_finished ends.WriteFault x y e w = inr (within_all x y e w)
  ran_finished ends.ReadFault x y e w = absurd w
  ran_finished (ends.BadMovie kind place) x y e w = absurd w

-- no frame was found
pub ran_none : (rate : Rate) (file : List ℕ) (a b text : SinkState) → text.taken ≤ last → GatheredUpTo file (length file) None a b → Ran rate file (ends.BadMovie NoFrames 0) (with_text text a) (with_text text b)
ran_none rate file a b text k h =
    let none : length h.frames ≡ 0 = sym (length-map h.frames (extent_of file)) ∙ ap length (sym h.extents) in
    record {
      frames = h.frames;
      rescues = inl (refl, refl, empty h.frames none, h.takes);
      out = h.out;
      text = puts_none text k;
    }
  where
    empty : (ts : List Taken) → length ts ≡ 0 → ts ≡ []
    empty [] e = refl
    empty (t ∷ ts) e = absurd (omega (arith, e))

-- the run halted before the end
pub ran_halted : (rate : Rate) (file : List ℕ) (end : RescueEnd) (a b text : SinkState) → text.taken ≤ last → Halts file end a b → Ran rate file end (with_text text a) (with_text text b)
ran_halted rate file ends.Done a b text k h = absurd h
ran_halted rate file ends.NoMemory a b text k h = inl (h text k)
ran_halted rate file ends.WriteFault a b text k h = inl (h text k)
ran_halted rate file ends.ReadFault a b text k h = h text k
ran_halted rate file (ends.BadMovie kind place) a b text k h = h text k

-- ---- each sink extends what it held

pub finish_out : (end : RescueEnd) (movie text : List ℕ) (x y : World) → FinishIs end movie text x y → Extends x.out y.out
finish_out ends.Done movie text x y h = (movie, h.0)
finish_out ends.NoMemory movie text x y (inl h) = front_extends x.out y.out movie h.0
finish_out ends.NoMemory movie text x y (inr h) = (movie, h.0)
finish_out ends.WriteFault movie text x y (inl h) = front_extends x.out y.out movie h.0
finish_out ends.WriteFault movie text x y (inr h) = (movie, h.0)
finish_out ends.ReadFault movie text x y h = absurd h
finish_out (ends.BadMovie kind place) movie text x y h = absurd h

pub finish_text : (end : RescueEnd) (movie text : List ℕ) (x y : World) → FinishIs end movie text x y → Extends x.text y.text
finish_text ends.Done movie text x y h = (text, h.1)
finish_text ends.NoMemory movie text x y (inl h) = ([], h.1)
finish_text ends.NoMemory movie text x y (inr h) = front_extends x.text y.text text h.1
finish_text ends.WriteFault movie text x y (inl h) = ([], h.1)
finish_text ends.WriteFault movie text x y (inr h) = front_extends x.text y.text text h.1
finish_text ends.ReadFault movie text x y h = absurd h
finish_text (ends.BadMovie kind place) movie text x y h = absurd h
