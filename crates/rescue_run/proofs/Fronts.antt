-- A run writes prefixes of what rescuing writes.
use Rattle.std.proofs.Common.{◌≡◌, refl, ℕ, List, [], ◌∷◌, ◌++◌, map, ap, subst, append-nil, append_assoc, length, ◌∙◌, inl, inr}
use Rattle.std.specs.List.{flat_map}
use Rattle.pw_outside.specs.Writing.{SinkState, Puts, PutsFront}
use Rattle.pw_outside.proofs.Puts.{puts_front, front_more}
use Rattle.qt_movie.specs.MovieBytes.{ftyp_bytes, frame_bytes, moov_bytes, extents}
use Rattle.rescue_run.specs.declared.form.Rate.{Rate}
use Rattle.rescue_run.specs.declared.end.RescueEnd.{RescueEnd}
use Rattle.rescue_run.specs.declared.end.RescueEnd.TheVariants as ends
use Rattle.rescue_run.specs.Chain.{Taken, form_of}
use Rattle.rescue_run.specs.Rescuing.{World, Ran, Stopped, Cut, EndsWithin, head_of, bytes_of_frame, frames_of, opening_bytes, rescued_bytes, rescue_text, extents_of}
use Rattle.rescue_run.specs.Laws.{RescuingGoesOn, WritesFronts, movie_written}

nothing_front : {a b : SinkState} (xs : List ℕ) → Puts a b [] → PutsFront a b xs
nothing_front xs p = record { out = 0; front = p }

map_both : (file : List ℕ) (ts more : List Taken) → frames_of file ts ++ frames_of file more ≡ frames_of file (ts ++ more)
map_both file [] more = refl
map_both file (t ∷ ts) more = ap (λ l. bytes_of_frame file t ∷ l) (map_both file ts more)

flat_both : (xs ys : List (List ℕ)) → flat_map frame_bytes xs ++ flat_map frame_bytes ys ≡ flat_map frame_bytes (xs ++ ys)
flat_both [] ys = refl
flat_both (x ∷ xs) ys = append_assoc (frame_bytes x) (flat_map frame_bytes xs) (flat_map frame_bytes ys) ∙ ap (λ l. frame_bytes x ++ l) (flat_both xs ys)

-- the bytes after the frames, up to the movie atom
abbrev rest_bytes : List (List ℕ) → List (List ℕ) → List ℕ
rest_bytes [] more = opening_bytes more
rest_bytes (x ∷ xs) more = flat_map frame_bytes more

opening_begins : (xs more : List (List ℕ)) → opening_bytes xs ++ rest_bytes xs more ≡ opening_bytes (xs ++ more)
opening_begins [] more = refl
opening_begins (x ∷ xs) more = append_assoc ftyp_bytes (flat_map frame_bytes (x ∷ xs)) (flat_map frame_bytes more) ∙ ap (λ l. ftyp_bytes ++ l) (flat_both (x ∷ xs) more)

-- the bytes after all frames
abbrev end_bytes : Rate → List ℕ → List Taken → RescueEnd → List ℕ
end_bytes rate file (t ∷ ts) ends.Done = moov_bytes (head_of rate (form_of t.frame.header)) (extents (map length (frames_of file (t ∷ ts))))
end_bytes rate file [] ends.Done = []
end_bytes rate file ts _ = []

opening_of : (rate : Rate) (file : List ℕ) (ts : List Taken) (end : RescueEnd) → opening_bytes (frames_of file ts) ++ end_bytes rate file ts end ≡ movie_written rate file ts end
opening_of rate file [] ends.Done = refl
opening_of rate file (t ∷ ts) ends.Done = refl
opening_of rate file [] ends.NoMemory = refl
opening_of rate file [] ends.ReadFault = refl
opening_of rate file [] ends.WriteFault = refl
opening_of rate file [] (ends.BadMovie kind place) = refl
opening_of rate file (t ∷ ts) ends.NoMemory = append-nil (opening_bytes (frames_of file (t ∷ ts)))
opening_of rate file (t ∷ ts) ends.ReadFault = append-nil (opening_bytes (frames_of file (t ∷ ts)))
opening_of rate file (t ∷ ts) ends.WriteFault = append-nil (opening_bytes (frames_of file (t ∷ ts)))
opening_of rate file (t ∷ ts) (ends.BadMovie kind place) = append-nil (opening_bytes (frames_of file (t ∷ ts)))

front_of_all : {a b : SinkState} (rate : Rate) (file : List ℕ) (ts more : List Taken) (end : RescueEnd) → PutsFront a b (opening_bytes (frames_of file ts)) → PutsFront a b (movie_written rate file (ts ++ more) end)
front_of_all {a} {b} rate file ts more end p =
    let begun : opening_bytes (frames_of file ts) ++ rest_bytes (frames_of file ts) (frames_of file more) ≡ opening_bytes (frames_of file (ts ++ more)) =
    opening_begins (frames_of file ts) (frames_of file more) ∙ ap opening_bytes (map_both file ts more) in
    subst (PutsFront a b) (opening_of rate file (ts ++ more) end)
    (front_more (end_bytes rate file (ts ++ more) end) (subst (PutsFront a b) begun (front_more (rest_bytes (frames_of file ts) (frames_of file more)) p)))

module _ (goes_on : RescuingGoesOn) (rate : Rate) (file : List ℕ) where
  of_stopped : (before after : World) → Stopped file before after → WritesFronts rate file before after
  of_stopped before after h =
      let g = goes_on file h.frames h.to h.within h.takes h.few in
      record { frames = h.frames ++ g.more; end = g.end; rescues = g.rescues; out = front_of_all rate file h.frames g.more g.end h.out; text = nothing_front _ h.text }

  of_cut_by : (before after : World) (h : Cut rate file before after) → EndsWithin (rescued_bytes rate file h.frames) (rescue_text (extents_of file h.frames)) before after → WritesFronts rate file before after
  of_cut_by before after h (inl w) = record { frames = h.frames; end = ends.Done; rescues = h.rescues; out = w.0; text = nothing_front _ w.1 }
  of_cut_by before after h (inr w) = record { frames = h.frames; end = ends.Done; rescues = h.rescues; out = puts_front w.0; text = w.1 }

  of_cut : (before after : World) → Cut rate file before after → WritesFronts rate file before after
  of_cut before after h = of_cut_by before after h h.written

  pub fronts : (end : RescueEnd) (before after : World) → Ran rate file end before after → WritesFronts rate file before after
  fronts ends.Done before after h = record { frames = h.frames; end = ends.Done; rescues = h.rescues; out = puts_front h.out; text = puts_front h.text }
  fronts (ends.BadMovie kind place) before after h = record { frames = h.frames; end = ends.BadMovie kind place; rescues = h.rescues; out = puts_front h.out; text = puts_front h.text }
  fronts ends.ReadFault before after h = of_stopped before after h
  fronts ends.WriteFault before after (inl h) = of_stopped before after h
  fronts ends.WriteFault before after (inr h) = of_cut before after h
  fronts ends.NoMemory before after (inl h) = of_stopped before after h
  fronts ends.NoMemory before after (inr h) = of_cut before after h
