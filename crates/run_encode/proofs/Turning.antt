-- One iteration: the pictures of a group, and what was done with their coefficients.
use Rattle.std.proofs.Common.{◌≡◌, refl, ℕ, zero, suc, ◌+◌, ◌<◌, ◌≤◌, inl, inr, ⊎_elim, Bool, true, false, List, [], ◌∷◌, ◌++◌, arith, length, map, take, drop, ap, sym, subst, ◌∙◌, length-append, append-nil, take_at, Option}
use Rattle.std.specs.Prelude.{IsSome, ◌==◌}
use Rattle.std.specs.Bool.{OnTrue}
use Rattle.std.proofs.lemmas.Bool.{cases_lt}
use Rattle.std.proofs.lemmas.List.{take_all, length-map}
use Rattle.pw_planes.specs.declared.picture.Picture.{Picture}
use Rattle.pic_y4m.specs.Frames.{Pictures}
use Rattle.pic_raw.specs.declared.any.AnyReader.{AnyReader}
use Rattle.rate_table.specs.declared.entry.Entry.{Entry}
use Rattle.rate_table.specs.declared.entry.Pair.{Pair}
use Rattle.pr_frame.specs.Written.{coded_bytes}
use Rattle.rate_table.specs.Table.{HasNoFit, least_bytes, indices}
use Rattle.rate_build.specs.Coding.{coded_frame}
use Rattle.rate_layers.specs.Best.{PassesByPicks}
use Rattle.rate_build.specs.Coefficients.{FrameCoefficients}
use Rattle.run_encode.specs.declared.job.Job.{Job}
use Rattle.run_encode.specs.declared.end.EncodeEnd.{EncodeEnd}
use Rattle.run_encode.specs.declared.end.EncodeEnd.TheVariants as ends
use Rattle.rate_build.specs.Groups.{shares}
use Rattle.run_encode.specs.Groups.{coefficients_in, header_in, frame_slices, coded_group, table_in}
use Rattle.run_encode.specs.Outputs.{Outputs, nothing, PutsAll, PutsFronts, CountsAllFaults}
use Rattle.run_encode.specs.Encoding.{Group, part_lines}
use Rattle.run_encode.specs.inner.Steps.{Counts, left_by, in_front, group_lists, Wrote, HasGroup, EndsIn, none_lists}
use Rattle.run_encode.specs.inner.Over.{ReadsGroup, StopsGroup, WroteFrames, StopsFrames, frames_lists}

-- the parts of a choice don't depend on the items they are zipped with
parts-same : {A X Y : Type 0} (f : X → Y) (n : ℕ) (xs : List X) (choice : List A) → map (λ p. p.1) (shares n (map f xs) choice) ≡ map (λ p. p.1) (shares n xs choice)
parts-same f n [] choice = refl
parts-same f n (x ∷ xs) choice = ap (λ l. take n choice ∷ l) (parts-same f n xs (drop n choice))

-- the group of these pictures
abbrev pub group-of : List Picture → List Entry → ℕ → List (List Pair) → Group
group-of ps choice m layers = record { pictures = ps; choice = choice; multiplier = m; layers = layers }

pub lists-same : (j : Job) (number : ℕ) (ps : List Picture) (choice : List Entry) (m : ℕ) (layers : List (List Pair))
    → frames_lists j number (map (coefficients_in j) ps) choice m layers ≡ group_lists j number (group-of ps choice m layers)
lists-same j number ps choice m layers = ap (λ ls. record {
  movie = (group_lists j number (group-of ps choice m layers)).movie;
  proof = (group_lists j number (group-of ps choice m layers)).proof;
  text = part_lines j number ls;
}) (parts-same (coefficients_in j) (frame_slices j) ps choice)

-- the frames were written, and so the group was
abbrev pub wrote : (j : Job) (m number number' : ℕ) (left rest : Pictures) (ps : List Picture) (cs : List FrameCoefficients) (old new : Counts) (before after : Outputs)
    → m ≡ number → cs ≡ map (coefficients_in j) ps → number' ≡ number + length ps → left ≡ in_front ps rest → WroteFrames j m cs old new before after
    → Wrote j number number' left rest old new before after
wrote j m number number' left rest ps cs old new before after same e n next w' =
    let w : WroteFrames j number (map (coefficients_in j) ps) old new before after =
    subst (λ x. WroteFrames j number x old new before after) e (subst (λ k. WroteFrames j k cs old new before after) same w') in
    record {
      group = group-of ps w.choice w.multiplier w.layers;
      is_coded = record { best = w.chosen.best; layers = w.chosen.layers_are };
      narrow = w.narrow;
      number_is = n;
      next = next;
      puts = subst (PutsAll before after) (lists-same j number ps w.choice w.multiplier w.layers) w.puts;
      sizes = w.sizes;
      records = w.records;
    }

module _ (j : Job) (old new : AnyReader) (left left' : Option (List ℕ)) (cs : List FrameCoefficients) (r : ReadsGroup j old new left left' cs) (told : IsSome left) (some : 1 ≤ length r.pictures) where
  whole-front : length r.pictures ≡ j.group → HasGroup j (left_by old left) × (take j.group (left_by old left).pictures ≡ r.pictures)
  whole-front e =
      let next = r.next told e in
      subst (λ (l : Pictures). HasGroup j l × (take j.group l.pictures ≡ r.pictures)) (sym next) (
        record {
          some = omega (arith, length-append r.pictures (left_by new left').pictures, some);
          whole = λ lt. absurd (omega (arith, length-append r.pictures (left_by new left').pictures, e, lt));
        },
        take_at r.pictures (left_by new left').pictures j.group e,
      )

  short-front : length r.pictures < j.group → HasGroup j (left_by old left) × (take j.group (left_by old left).pictures ≡ r.pictures)
  short-front lt =
      let next = r.end told lt in
      subst (λ (l : Pictures). HasGroup j l × (take j.group l.pictures ≡ r.pictures)) (sym next) (
        record { some = subst (λ (ps : List Picture). 1 ≤ length ps) (sym (append-nil r.pictures)) some; whole = λ _. refl },
        ap (take j.group) (append-nil r.pictures) ∙ take_all j.group r.pictures (omega (arith, lt)),
      )

  front : HasGroup j (left_by old left) × (take j.group (left_by old left).pictures ≡ r.pictures)
  front = ⊎_elim short-front (λ le. whole-front (omega (arith, le, r.few))) (cases_lt (length r.pictures) j.group)

  stopped-here : (number : ℕ) (counts counts' : Counts) (before after : Outputs) (ps : List Picture) (end : EncodeEnd) → take j.group (left_by old left).pictures ≡ ps
      → StopsFrames j number (map (coefficients_in j) ps) counts counts' end before after → EndsIn j number (left_by old left) counts counts' end before after
  stopped-here number counts counts' before after ps ends.NoMemory e s = s
  stopped-here number counts counts' before after ps (ends.LayersFull frame) e s =
      (front.0, subst (λ x. PassesByPicks (table_in j x)) (sym e) s.0, s.1, s.2)
  stopped-here number counts counts' before after ps (ends.TooSmall frame least) e s =
      subst (λ x. HasGroup j (left_by old left) × HasNoFit (table_in j x) × (frame ≡ number) × (least ≡ least_bytes (table_in j x)) × PutsAll before after (none_lists j x) × (counts'.records ≡ counts.records + 1))
      (sym e) (front.0, s.0, s.1, s.2, s.3, s.4)
  stopped-here number counts counts' before after ps ends.WriteFault e (inl (choice, m, layers, chosen, p)) =
      (front.0, inl (group-of ps choice m layers, sym e, record { best = chosen.best; layers = chosen.layers_are }, subst (PutsFronts before after) (lists-same j number ps choice m layers) p))
  stopped-here number counts counts' before after ps ends.WriteFault e (inr (nofit, p)) =
      (front.0, inr (subst (λ x. HasNoFit (table_in j x)) (sym e) nofit, subst (λ x. PutsFronts before after (none_lists j x)) (sym e) p))
  stopped-here number counts counts' before after ps ends.Done e s = absurd s
  stopped-here number counts counts' before after ps ends.ReadFault e s = absurd s
  stopped-here number counts counts' before after ps (ends.BadPictures kind place) e s = absurd s

  -- the frames weren't written whole, and so the run ends
  pub stopped : (m number : ℕ) (xs : List FrameCoefficients) (counts counts' : Counts) (before after : Outputs) (end : EncodeEnd) → m ≡ number → xs ≡ cs → StopsFrames j m xs counts counts' end before after
      → EndsIn j number (left_by old left) counts counts' end before after
  stopped m number xs counts counts' before after end same e s =
      stopped-here number counts counts' before after r.pictures end front.1 (subst (λ x. StopsFrames j number x counts counts' end before after) (e ∙ r.coefficients)
      (subst (λ k. StopsFrames j k xs counts counts' end before after) same s))

-- a group wasn't read
pub unread : (j : Job) (number : ℕ) (left : Pictures) (counts counts' : Counts) (a : Outputs) (end : EncodeEnd) → PutsAll a a nothing → StopsGroup j left end → EndsIn j number left counts counts' end a a
unread j number left counts counts' a ends.NoMemory p s = p
unread j number left counts counts' a ends.ReadFault p s = p
unread j number left counts counts' a (ends.BadPictures kind place) p s = (s.0, s.1, p)
unread j number left counts counts' a ends.Done p s = absurd s
unread j number left counts counts' a ends.WriteFault p s = absurd s
unread j number left counts counts' a (ends.TooSmall frame least) p s = absurd s
unread j number left counts counts' a (ends.LayersFull frame) p s = absurd s

pub never : (P : Type 0) (b : Bool) → b ≡ false → OnTrue b P
never P true e = cc
never P false e = tt

pub counts-kept : {X : Type 0} (faults : X → ℕ) (out cert text : X) (b : Bool) → b ≡ false → CountsAllFaults faults out cert text out cert text b
counts-kept faults out cert text true e = cc
counts-kept faults out cert text false e = record {
  out_later = omega arith;
  cert_later = omega arith;
  text_later = omega arith;
  rose = tt;
  out_kept = refl;
  cert_kept = refl;
  text_kept = refl;
}

pub nonempty : (n : ℕ) (b : Bool) → b ≡ (n == 0) → b ≡ false → 1 ≤ n
nonempty zero b e f = cc
nonempty (suc n) b e f = omega arith

parts-number : {A X : Type 0} (n : ℕ) (xs : List X) (choice : List A) → length (shares n xs choice) ≡ length xs
parts-number n [] choice = refl
parts-number n (x ∷ xs) choice = ap suc (parts-number n xs (drop n choice))

pub frames-number : (j : Job) (cs : List FrameCoefficients) (choice : List Entry) (old new : List ℕ)
    → new ≡ old ++ map length (map coded_bytes (coded_group j cs (indices choice))) → length new ≡ length old + length cs
frames-number j cs choice old new e =
    let frames = coded_group j cs (indices choice) in
    omega (
      arith,
      ap length e,
      length-append old (map length (map coded_bytes frames)),
      length-map (map coded_bytes frames) length,
      length-map frames coded_bytes,
      length-map (shares (frame_slices j) cs (indices choice)) (λ p. coded_frame p.0 (header_in j) p.1),
      parts-number (frame_slices j) cs (indices choice),
    )
