-- The movie of a file's frames is read back.
use Rattle.std.proofs.Common.{◌≡◌, ℕ, ◌%◌, ◌≤◌, List, [], ◌∷◌, map, length, arith, ap, sym, subst, ◌∙◌}
use Rattle.std.specs.Prelude.{IsTrue, true, false, Option, None}
use Rattle.std.specs.Bool.{OnTrue}
use Rattle.std.specs.List.{All, AllZip}
use Rattle.std.proofs.lemmas.List.Elements.{All-nil, All-cons}
use Rattle.std.proofs.lemmas.List.{length-map}
use Rattle.pw_planes.specs.declared.kinds.Interlace.{Interlace}
use Rattle.pw_planes.specs.declared.kinds.Interlace.TheVariants.{Progressive, TopFirst, BottomFirst}
use Rattle.pic_y4m.specs.HeadLine.{IsHead, is_interlaced}
use Rattle.pr_geom.specs.Slices.{pictures_of}
use Rattle.pr_head.specs.declared.frame.FrameHeader.{FrameHeader}
use Rattle.pr_frame.specs.Stands.{FrameStands, HeaderStands}
use Rattle.pw_outside.specs.Writing.{Puts}
use Rattle.qt_atoms.specs.Atoms.{bytes_in}
use Rattle.qt_tables.specs.declared.tables.TheConstants.{MAX_SAMPLES}
use Rattle.qt_tables.specs.declared.runs.Sample.{Sample}
use Rattle.qt_tables.specs.Samples.{samples}
use Rattle.qt_movie.specs.Laws.{WrittenMovieIsRead, WrittenFramesAreRead, written_movie}
use Rattle.rescue_run.specs.declared.form.Rate.{Rate}
use Rattle.rescue_run.specs.declared.form.FrameForm.{FrameForm}
use Rattle.rescue_run.specs.declared.end.RescueEnd.{RescueEnd}
use Rattle.rescue_run.specs.declared.end.RescueEnd.TheVariants as ends
use Rattle.rescue_run.specs.Chain.{Taken, Takes, size_at, form_of, form_behind, behind}
use Rattle.rescue_run.specs.Rescuing.{IsRate, Rescues, World, Ran, is_done, head_of, bytes_of_frame, frames_of, rescued_bytes}
use Rattle.rescue_run.specs.Laws.{IsMovieOf, RescuedMovieIsRead}
use Rattle.rescue_run.specs.inner.Steps.{IsForm}
use Rattle.rescue_run.proofs.Copying.{bytes_there}

-- ---- the head

form_stands : (s : List ℕ) (h : FrameHeader) → HeaderStands s h → IsForm (form_of h)
form_stands s h k = subst (λ x. IsForm (form_of x)) k.is (record {
  some_columns = k.form.some_columns;
  some_rows = k.form.some_rows;
  columns = k.form.columns;
  rows = k.form.rows;
  whole = k.form.whole;
})

not_true : false ≡ true → ⊥
not_true e = cc

fields_even : (i : Interlace) (height : ℕ) → height % pictures_of i ≡ 0 → IsTrue (is_interlaced i) → height % 2 ≡ 0
fields_even Progressive height e h = absurd (not_true h)
fields_even TopFirst height e h = e
fields_even BottomFirst height e h = e

is_head : (rate : Rate) (form : FrameForm) → IsRate rate → IsForm form → IsHead (head_of rate form)
is_head rate form r f = record {
  some_columns = f.some_columns;
  columns = f.columns;
  some_rows = f.some_rows;
  rows = f.rows;
  fields = fields_even form.interlace form.height f.whole;
  some_num = r.some_num;
  num = r.num;
  some_den = r.some_den;
  den = r.den;
}

-- ---- the frames

frames_fit : (file : List ℕ) (first : Option FrameForm) (from : ℕ) (ts : List Taken) (to : ℕ) → Takes file first from ts to → All (λ frame. length frame ≤ 4294967286) (frames_of file ts)
frames_fit file first from [] to h = All-nil (λ frame. length frame ≤ 4294967286)
frames_fit file first from (t ∷ ts) to h = All-cons (λ frame. length frame ≤ 4294967286) (bytes_of_frame file t) (frames_of file ts)
    (omega (arith, bytes_there file (size_at file t.at) t.at h.2.inside, h.2.most))
    (frames_fit file (form_behind first t.frame) (behind file t) ts to h.4)

frames_stand : (file : List ℕ) (first : Option FrameForm) (from : ℕ) (ts : List Taken) (to : ℕ) → Takes file first from ts to → AllZip FrameStands (frames_of file ts) (map (λ (t : Taken). t.frame) ts)
frames_stand file first from [] to h = tt
frames_stand file first from (t ∷ ts) to h = (h.2.stands, frames_stand file (form_behind first t.frame) (behind file t) ts to h.4)

-- ---- the movie

pub is_read : WrittenMovieIsRead → WrittenFramesAreRead → (rate : Rate) (file : List ℕ) (ts : List Taken) → IsRate rate → Rescues file ts ends.Done → IsMovieOf file (rescued_bytes rate file ts)
is_read movie frames rate file [] r h = absurd (omega (arith, h.1))
is_read movie frames rate file (t ∷ ts) r h =
    let head = head_of rate (form_of t.frame.header) in
    let all = frames_of file (t ∷ ts) in
    let good : IsHead head = is_head rate (form_of t.frame.header) r (form_stands (bytes_of_frame file t) t.frame.header h.0.2.stands.header) in
    let few : length all ≤ MAX_SAMPLES = omega (arith, length-map (t ∷ ts) (bytes_of_frame file), h.2) in
    let fit = frames_fit file None 0 (t ∷ ts) (length file) h.0 in
    let known = movie head all good few fit in
    let same = frames head all (written_movie head all) good few fit known in
    let bytes_of_sample : Sample → List ℕ = λ s. bytes_in s.size (rescued_bytes rate file (t ∷ ts)) s.at in
    record {
      frames = t ∷ ts;
      chain = h.0;
      read = written_movie head all;
      is_read = known;
      number = sym (length-map (samples (written_movie head all).tables) bytes_of_sample) ∙ ap length same ∙ length-map (t ∷ ts) (bytes_of_frame file);
      samples_are = same;
      stand = frames_stand file None 0 (t ∷ ts) (length file) h.0;
    }

pub read_again : RescuedMovieIsRead → (rate : Rate) (file : List ℕ) (end : RescueEnd) (before after : World) → IsRate rate → Ran rate file end before after
    → OnTrue (is_done end) ((bytes : List ℕ) × Puts before.out after.out bytes × IsMovieOf file bytes)
read_again law rate file ends.Done before after r h = (rescued_bytes rate file h.frames, h.out, law rate file h.frames r h.rescues)
read_again law rate file (ends.BadMovie kind place) before after r h = tt
read_again law rate file ends.NoMemory before after r h = tt
read_again law rate file ends.ReadFault before after r h = tt
read_again law rate file ends.WriteFault before after r h = tt
