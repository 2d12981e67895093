-- The result of encoding has the headline.
use Rattle.std.proofs.Common.{◌≡◌, refl, ℕ, suc, ◌+◌, ◌*◌, ◌<◌, ◌≤◌, min, None, List, [], ◌∷◌, ◌++◌, arith, length, map, take, drop, ap, sym, subst, ◌∙◌, length-append, append_assoc, append-nil, take_at, length-take}
use Rattle.std.specs.List.{flat_map, range_with_len, All, AllByRecursion, sum_by}
use Rattle.std.proofs.lemmas.List.{length-map, take_all, drop_at}
use Rattle.std.proofs.lemmas.List.Sums.{sum_by-cons}
use Rattle.std.proofs.lemmas.Nat.{mul-le}
use Rattle.std.proofs.lemmas.List.Folds.{flat_map-map}
use Rattle.std.proofs.lemmas.List.Elements.{All-from_recursion, recursion_from_All}
use Rattle.pw_planes.specs.declared.picture.Picture.{Picture}
use Rattle.pic_y4m.specs.Frames.{Pictures}
use Rattle.pr_frame.specs.Written.{coded_bytes}
use Rattle.qt_movie.specs.Laws.{written_movie}
use Rattle.qt_movie.specs.MovieBytes.{movie_bytes}
use Rattle.rate_table.specs.Table.{IsTable, HasNoFit, least_bytes}
use Rattle.rate_build.specs.Groups.{group_at, shares}
use Rattle.rate_cert.specs.Records.{IsGood, none}
use Rattle.rate_cert.specs.Files.{record_bytes, proof_bytes, no_records}
use Rattle.rate_cert.specs.Head.{head_bytes}
use Rattle.run_encode.specs.declared.job.Job.{Job}
use Rattle.run_encode.specs.declared.end.EncodeEnd.{EncodeEnd}
use Rattle.run_encode.specs.declared.end.EncodeEnd.TheVariants as ends
use Rattle.run_encode.specs.Groups.{IsFrameOf, IsJob, ArePictures, settings_of, coefficients_in, group_count, table_in, coded_group, frame_slices}
use Rattle.run_encode.specs.Outputs.{Lists}
use Rattle.run_encode.specs.Encoding.{Group, IsCoded, IsNarrow, printed_of, frames_of, all_frames, record_in, none_record, group_behind, AreFirst, Ends, cut_lists}
use Rattle.run_encode.specs.Headline.{GroupHolds, GroupsHold, record_of_printed, records_from, records_in, HasSamples, HasFrames, Proves, FilesEnd, Headline}
use Rattle.run_encode.proofs.Below.{LawsOfGroups, LawsOfFiles}
use Rattle.run_encode.proofs.Layouts.{settings-are}
use Rattle.run_encode.proofs.Ready.{all-ready}
use Rattle.run_encode.proofs.Tabled as tabled
use Rattle.run_encode.proofs.Holding.{table-of, holds}
use Rattle.run_encode.proofs.Proving.{GroupIsWritten, none-written, fit-written, all-written, small-written}
use Rattle.run_encode.proofs.Numbered.{Fulls, fulls, wholes, group-length, concat-groups, count-bound, count-left, count-all, count-cut, count-few, count-below}

-- ---- a list of groups

shares-number : {A X : Type 0} (n : ℕ) (xs : List X) (choice : List A) → length (shares n xs choice) ≡ length xs
shares-number n [] choice = refl
shares-number n (x ∷ xs) choice = ap suc (shares-number n xs (drop n choice))

-- a group has a frame for each picture
pub frames-number : (j : Job) (g : Group) → length (frames_of j g) ≡ length g.pictures
frames-number j g =
    length-map (coded_group j (map (coefficients_in j) g.pictures) (map (λ e. e.index) g.choice)) coded_bytes
    ∙ length-map (shares (frame_slices j) (map (coefficients_in j) g.pictures) (map (λ e. e.index) g.choice)) _
    ∙ shares-number (frame_slices j) (map (coefficients_in j) g.pictures) (map (λ e. e.index) g.choice)
    ∙ length-map g.pictures (coefficients_in j)

abbrev pub GroupIs : Job → Group → Type 0
GroupIs j g = GroupHolds j g.pictures (frames_of j g) (printed_of g)

-- if `front` has k whole groups, group k of `front` and these items is the items
group-here : {A : Type 0} (size k : ℕ) (front here rest : List A) → length front ≡ size * k → take size (here ++ rest) ≡ here → group_at size (front ++ (here ++ rest)) k ≡ here
group-here size k front here rest e t = ap (take size) (drop_at front (here ++ rest) (size * k) e) ∙ t

module _ (j : Job) (ps : List Picture) where
  -- each group holds, from group k on
  all-hold : (k : ℕ) (front : List (List ℕ)) (gs : List Group) → length front ≡ j.group * k → Fulls (λ g. g.pictures) j.group gs
      → map (λ g. g.pictures) gs ≡ map (group_at j.group ps) (range_with_len k (length gs)) → AllByRecursion (GroupIs j) gs
      → GroupsHold j k ps (front ++ all_frames j gs) (map printed_of gs)
  all-hold k front [] e full pics h = tt
  all-hold k front (g ∷ []) e full pics h =
      let first : g.pictures ≡ group_at j.group ps k = cc in
      let few : length (frames_of j g) ≤ j.group = omega (arith, frames-number j g, full) in
      let here = group-here j.group k front (frames_of j g) [] e (ap (take j.group) (append-nil (frames_of j g)) ∙ take_all j.group (frames_of j g) few) in
      (subst (λ fs. GroupHolds j (group_at j.group ps k) fs (printed_of g)) (sym here) (subst (λ x. GroupHolds j x (frames_of j g) (printed_of g)) first h.0), tt)
  all-hold k front (g ∷ g' ∷ gs) e full pics h =
      let first : g.pictures ≡ group_at j.group ps k = cc in
      let others : map (λ g. g.pictures) (g' ∷ gs) ≡ map (group_at j.group ps) (range_with_len (k + 1) (length (g' ∷ gs))) = cc in
      let rest = all_frames j (g' ∷ gs) in
      let whole : length (frames_of j g) ≡ j.group = frames-number j g ∙ full.0 in
      let here = group-here j.group k front (frames_of j g) rest e (take_at (frames_of j g) rest j.group whole) in
      let t : j.group * (k + 1) ≡ j.group * k + j.group = omega arith in
      let e' : length (front ++ frames_of j g) ≡ j.group * (k + 1) = omega (arith, length-append front (frames_of j g), e, whole, t) in
      let more = all-hold (k + 1) (front ++ frames_of j g) (g' ∷ gs) e' full.1 others h.1 in
      let same : (front ++ frames_of j g) ++ rest ≡ front ++ (frames_of j g ++ rest) = append_assoc front (frames_of j g) rest in (
        subst (λ fs. GroupHolds j (group_at j.group ps k) fs (printed_of g)) (sym here) (subst (λ x. GroupHolds j x (frames_of j g) (printed_of g)) first h.0),
        subst (λ fs. GroupsHold j (k + 1) ps fs (map printed_of (g' ∷ gs))) same more,
      )

  -- the records, group by group
  records-are : (k : ℕ) (gs : List Group) → map (λ g. g.pictures) gs ≡ map (group_at j.group ps) (range_with_len k (length gs))
      → map (record_in j) gs ≡ records_from j k ps (map printed_of gs)
  records-are k [] pics = refl
  records-are k (g ∷ gs) pics =
      let first : g.pictures ≡ group_at j.group ps k = cc in
      let others : map (λ g. g.pictures) gs ≡ map (group_at j.group ps) (range_with_len (k + 1) (length gs)) = cc in
      ap (λ x. record_of_printed j x (printed_of g) ∷ map (record_in j) gs) first
      ∙ ap (λ rs. record_of_printed j (group_at j.group ps k) (printed_of g) ∷ rs) (records-are (k + 1) gs others)

-- the number of frames in groups
pub all-number : (j : Job) (gs : List Group) → length (all_frames j gs) ≡ length (flat_map (λ g. g.pictures) gs)
all-number j [] = refl
all-number j (g ∷ gs) =
    length-append (frames_of j g) (all_frames j gs) ∙ ap (λ n. n + length (all_frames j gs)) (frames-number j g)
    ∙ ap (λ n. length g.pictures + n) (all-number j gs) ∙ sym (length-append g.pictures (flat_map (λ g. g.pictures) gs))

-- ---- the sizes of frames

each-below : (ls : List (List ℕ)) (b : ℕ) → sum_by length ls ≤ b → AllByRecursion (λ l. length l ≤ b) ls
each-below [] b h = tt
each-below (l ∷ ls) b h =
    let cons = sum_by-cons (λ (x : List ℕ). length x) l ls in
    (omega (arith, cons, h), each-below ls b (omega (arith, cons, h)))

both-parts : {X : Type 0} (P : X → Type 0) (xs ys : List X) → AllByRecursion P xs → AllByRecursion P ys → AllByRecursion P (xs ++ ys)
both-parts P [] ys h k = k
both-parts P (x ∷ xs) ys h k = (h.0, both-parts P xs ys h.1 k)

-- a group's frames together have at most the group's budget, and so has each of them
frames-below : (j : Job) (room : ℕ) → j.group * j.budget ≤ room → (gs : List Group) → AllByRecursion (λ g. length g.pictures ≤ j.group) gs → AllByRecursion (GroupIs j) gs
    → AllByRecursion (λ frame. length frame ≤ room) (all_frames j gs)
frames-below j room le [] few h = tt
frames-below j room le (g ∷ gs) few h =
    let times = mul-le (length g.pictures) j.budget j.group j.budget few.0 (omega arith) in
    let size : sum_by length (frames_of j g) ≤ room = omega (arith, h.0.size, times, le) in
    both-parts (λ frame. length frame ≤ room) (frames_of j g) (all_frames j gs) (each-below (frames_of j g) room size) (frames-below j room le gs few.1 h.1)

groups-few : (j : Job) (all : Pictures) (k : ℕ) (gs : List Group) → map (λ g. g.pictures) gs ≡ map (group_at j.group all.pictures) (range_with_len k (length gs))
    → AllByRecursion (λ g. length g.pictures ≤ j.group) gs
groups-few j all k [] pics = tt
groups-few j all k (g ∷ gs) pics =
    let first : g.pictures ≡ group_at j.group all.pictures k = cc in
    let others : map (λ g. g.pictures) gs ≡ map (group_at j.group all.pictures) (range_with_len (k + 1) (length gs)) = cc in
    (omega (arith, ap length first, group-length j.group k all.pictures), groups-few j all (k + 1) gs others)

-- ---- each group

module _ (j : Job) (is : IsJob j) (all : Pictures) (are : ArePictures j.head all) (b : LawsOfGroups) where
  -- the frames of group k
  here-frames : (k : ℕ) → AllByRecursion (IsFrameOf j) (map (coefficients_in j) (group_at j.group all.pictures k))
  here-frames = tabled.here-frames b.of_layout b.group_table j is all are

  here-some : (k : ℕ) → k < group_count j.group all → 1 ≤ length (group_at j.group all.pictures k)
  here-some = tabled.here-some b.of_layout b.group_table j is all are

  here-few : (k : ℕ) → length (group_at j.group all.pictures k) ≤ j.group
  here-few = tabled.here-few b.of_layout b.group_table j is all are

  here-table : (k : ℕ) → k < group_count j.group all → IsTable (table_in j (group_at j.group all.pictures k))
  here-table = tabled.here-table b.of_layout b.group_table j is all are

  group-frames : (k : ℕ) (g : Group) → g.pictures ≡ group_at j.group all.pictures k → AllByRecursion (IsFrameOf j) (map (coefficients_in j) g.pictures)
  group-frames k g e = subst (λ ps. AllByRecursion (IsFrameOf j) (map (coefficients_in j) ps)) (sym e) (here-frames k)

  group-table : (k : ℕ) (g : Group) → k < group_count j.group all → g.pictures ≡ group_at j.group all.pictures k → IsTable (table_in j g.pictures)
  group-table k g lt e = subst (λ ps. IsTable (table_in j ps)) (sym e) (here-table k lt)

  group-holds : (k : ℕ) (g : Group) → IsCoded j g → k < group_count j.group all → g.pictures ≡ group_at j.group all.pictures k → GroupIs j g
  group-holds k g coded lt e =
      let of = group-frames k g e in
      let some : 1 ≤ length g.pictures = omega (arith, ap length e, here-some k lt) in
      let few : length g.pictures ≤ j.group = omega (arith, ap length e, here-few k) in
      holds j is g coded some few (group-table k g lt e) b.frame_size b.frame_length b.frame_stands b.kept_good b.good_least of
      (all-ready j is b.coded b.indices (map (coefficients_in j) g.pictures) of)

  groups-hold : (k : ℕ) (gs : List Group) → k + length gs ≤ group_count j.group all → AllByRecursion (IsCoded j) gs
      → map (λ g. g.pictures) gs ≡ map (group_at j.group all.pictures) (range_with_len k (length gs)) → AllByRecursion (GroupIs j) gs
  groups-hold k [] le coded pics = tt
  groups-hold k (g ∷ gs) le coded pics =
      let first : g.pictures ≡ group_at j.group all.pictures k = cc in
      let others : map (λ g. g.pictures) gs ≡ map (group_at j.group all.pictures) (range_with_len (k + 1) (length gs)) = cc in
      (group-holds k g coded.0 (omega (arith, le)) first, groups-hold (k + 1) gs (omega (arith, le)) coded.1 others)

  -- its record can be written
  group-written : LawsOfFiles → (k : ℕ) (g : Group) → IsCoded j g → IsNarrow j g → k < group_count j.group all → g.pictures ≡ group_at j.group all.pictures k → GroupIsWritten j is g
  group-written f k g coded narrow lt e =
      let ok = group-table k g lt e in
      let good = b.kept_good (table_in j g.pictures) g.choice g.multiplier g.layers ok coded.best coded.layers.kept in
      (fit-written (table_in j g.pictures) ok f.multiplier_exists f.multiplier_is_one g.choice g.multiplier g.layers coded.best coded.layers j.format good narrow, group-frames k g e)

  groups-written : LawsOfFiles → (k : ℕ) (gs : List Group) → k + length gs ≤ group_count j.group all → AllByRecursion (IsCoded j) gs → AllByRecursion (IsNarrow j) gs
      → map (λ g. g.pictures) gs ≡ map (group_at j.group all.pictures) (range_with_len k (length gs)) → AllByRecursion (GroupIsWritten j is) gs
  groups-written f k [] le coded narrow pics = tt
  groups-written f k (g ∷ gs) le coded narrow pics =
      let first : g.pictures ≡ group_at j.group all.pictures k = cc in
      let others : map (λ g. g.pictures) gs ≡ map (group_at j.group all.pictures) (range_with_len (k + 1) (length gs)) = cc in
      (group-written f k g coded.0 narrow.0 (omega (arith, le)) first, groups-written f (k + 1) gs (omega (arith, le)) coded.1 narrow.1 others)

  -- ---- the first groups

  module _ (coded : List Group) (first : AreFirst j all coded) where
    abbrev pub frames : List (List ℕ)
    frames = all_frames j coded

    pub bound : j.group * length coded < length all.pictures + j.group
    bound = count-bound j.group (length coded) (length all.pictures) all.fault is.some_group first.few

    -- the pictures of these groups are a prefix of all
    pub front-is : flat_map (λ g. g.pictures) coded ≡ take (j.group * length coded) all.pictures
    front-is = let z : j.group * 0 ≡ 0 = omega arith in
        concat-groups (λ g. g.pictures) j.group all.pictures 0 coded first.pictures ∙ ap (λ n. take (j.group * length coded) (drop n all.pictures)) z

    pub frames-count : length frames ≡ min (j.group * length coded) (length all.pictures)
    frames-count = all-number j coded ∙ ap length front-is ∙ length-take (j.group * length coded) all.pictures

    full : Fulls (λ g. g.pictures) j.group coded
    full = fulls (λ g. g.pictures) j.group all.pictures 0 coded first.pictures (λ _.
        let z : j.group * (0 + length coded) ≡ j.group * length coded = ap (λ n. j.group * n) (let e : 0 + length coded ≡ length coded = omega arith in e) in
        omega (arith, bound, z))

    -- if the pictures have that many whole groups
    whole-count : j.group * length coded ≤ length all.pictures → length frames ≡ j.group * length (map printed_of coded)
    whole-count h =
        let n : length frames ≡ j.group * length coded = omega (arith, frames-count, h) in
        n ∙ ap (λ k. j.group * k) (sym (length-map coded printed_of))

    pub records : map (record_in j) coded ≡ records_in j all.pictures (map printed_of coded)
    records = records-are j all.pictures 0 coded first.pictures

    -- what precedes the end of a proof
    proof-front : (cut_lists j coded).proof ≡ head_bytes j.format (settings_of j) ++ flat_map (record_bytes j.format) (records_in j all.pictures (map printed_of coded))
    proof-front = ap (λ l. head_bytes j.format (settings_of j) ++ l)
        (sym (flat_map-map (record_bytes j.format) (record_in j) coded) ∙ ap (flat_map (record_bytes j.format)) records)

    printed-number : length (map printed_of coded) ≡ length coded
    printed-number = length-map coded printed_of

    pub each-holds : AllByRecursion (GroupIs j) coded
    each-holds = groups-hold 0 coded (let h = first.few in omega (arith, h)) (recursion_from_All (IsCoded j) coded first.each) first.pictures

    hold : GroupsHold j 0 all.pictures frames (map printed_of coded)
    hold = all-hold j all.pictures 0 [] coded (let z : 0 ≡ j.group * 0 = omega arith in z) full first.pictures each-holds

    pub below : (room : ℕ) → j.group * j.budget ≤ room → All (λ frame. length frame ≤ room) frames
    below room le = All-from_recursion (λ frame. length frame ≤ room) frames (frames-below j room le coded (groups-few j all 0 coded first.pictures) each-holds)

    single : j.group ≡ 1 → All (λ frame. length frame ≤ j.budget) frames
    single e = below j.budget (let t : j.group * j.budget ≡ 1 * j.budget = ap (λ n. n * j.budget) e in omega (arith, t))

    left : length coded < group_count j.group all → j.group * length coded < length all.pictures
    left there = count-left j.group (length coded) (length all.pictures) all.fault is.some_group there

    pub cut-headline : (frame : ℕ) → length coded < group_count j.group all → Headline j all (ends.LayersFull frame) (cut_lists j coded).movie (cut_lists j coded).proof
    cut-headline frame there = record {
      written = frames;
      printed = map printed_of coded;
      files = (refl, whole-count (omega (arith, left there)), proof-front);
      groups = hold;
      alone = single;
    }

    module _ (f : LawsOfFiles) where
      -- ---- the movie

      samples-are : HasSamples (movie_bytes j.head frames) frames
      samples-are =
          let few = are.few in
          let n : length frames ≤ 1000000 = omega (arith, frames-count, few) in
          let small : All (λ frame. length frame ≤ 4294967286) frames = below 4294967286 (let h = is.budget in omega (arith, h)) in
          let read = f.movie_read j.head frames is.head n small in
          (written_movie j.head frames, read, f.frames_read j.head frames (written_movie j.head frames) is.head n small read)

      all-there : length coded ≡ group_count j.group all → all.fault ≡ None → length frames ≡ length all.pictures
      all-there e ends-well =
          let h = count-all j.group (length all.pictures) all.fault is.some_group ends-well in
          let h' : length all.pictures ≤ j.group * length coded = subst (λ n. length all.pictures ≤ j.group * n) (sym e) h in
          omega (arith, frames-count, h')

      -- ---- the proof

      each-written : All (IsNarrow j) coded → AllByRecursion (GroupIsWritten j is) coded
      each-written narrow = groups-written f 0 coded (let h = first.few in omega (arith, h)) (recursion_from_All (IsCoded j) coded first.each)
          (recursion_from_All (IsNarrow j) coded narrow) first.pictures

      pub whole-proved : All (IsNarrow j) coded → Proves j (proof_bytes j.format (settings_of j) (map (record_in j) coded)) (records_in j all.pictures (map printed_of coded))
      whole-proved narrow =
          let few = count-few j.group (length coded) (length all.pictures) is.some_group bound in
          let most = are.few in
          let w = all-written j is coded no_records refl (omega (arith, few, most)) full (each-written narrow) in
          subst (Proves j (proof_bytes j.format (settings_of j) (map (record_in j) coded))) records
          (f.proof_read j.format (settings_of j) (map (record_in j) coded) is.format (settings-are j is) w)

      module _ (there : length coded < group_count j.group all) where
        none-good : HasNoFit (table_in j (group_behind j all coded)) → IsGood (settings_of j) (none_record j (group_behind j all coded))
        none-good nofit = record {
          table = table-of j is (group_behind j all coded) (here-some (length coded) there) (here-few (length coded)) (here-frames (length coded));
          verdict = ((f.none_below (table_in j (group_behind j all coded)) (here-table (length coded) there)).0 nofit, refl);
        }

        small-proved : All (IsNarrow j) coded → Proves j (proof_bytes j.format (settings_of j) (map (record_in j) coded ++ none_record j (group_behind j all coded) ∷ []))
            (records_in j all.pictures (map printed_of coded) ++ none_record j (group_behind j all coded) ∷ [])
        small-proved narrow =
            let last = none_record j (group_behind j all coded) in
            let few = count-below j.group (length coded) (length all.pictures) is.some_group (left there) in
            let most = are.few in
            let z : j.group * (0 + length coded) ≡ j.group * length coded = ap (λ n. j.group * n) (let e : 0 + length coded ≡ length coded = omega arith in e) in
            let whole = wholes (λ g. g.pictures) j.group all.pictures 0 coded first.pictures (omega (arith, left there, z)) in
            let w = small-written j is coded last no_records refl (omega (arith, few, most)) whole (each-written narrow)
            (none-written (table_in j (group_behind j all coded)) (here-table (length coded) there) j.format) in
            subst (λ rs. Proves j (proof_bytes j.format (settings_of j) (map (record_in j) coded ++ last ∷ [])) (rs ++ last ∷ [])) records
            (f.proof_read j.format (settings_of j) (map (record_in j) coded ++ last ∷ []) is.format (settings-are j is) w)

        -- all that is said if no choice fits
        small-files : All (IsNarrow j) coded → HasNoFit (table_in j (group_behind j all coded)) → (frame : ℕ) → frame ≡ j.group * length coded
            → FilesEnd j all (ends.TooSmall frame (least_bytes (table_in j (group_behind j all coded)))) (cut_lists j coded).movie
            (proof_bytes j.format (settings_of j) (map (record_in j) coded ++ none_record j (group_behind j all coded) ∷ [])) frames (map printed_of coded)
        small-files narrow nofit frame e =
            let least = least_bytes (table_in j (group_behind j all coded)) in
            let n : frame ≡ length frames = omega (arith, e, frames-count, left there) in
            subst (λ k. HasFrames (cut_lists j coded).movie frames × (frame ≡ length frames) × (length frames ≡ j.group * k)
            × HasNoFit (table_in j (group_at j.group all.pictures k)) × (least ≡ least_bytes (table_in j (group_at j.group all.pictures k)))
            × IsGood (settings_of j) (record { table = table_in j (group_at j.group all.pictures k); said = none least })
            × Proves j (proof_bytes j.format (settings_of j) (map (record_in j) coded ++ none_record j (group_behind j all coded) ∷ []))
            (records_in j all.pictures (map printed_of coded) ++ record { table = table_in j (group_at j.group all.pictures k); said = none least } ∷ [])) (sym printed-number)
            (refl, n, omega (arith, n, e), nofit, refl, none-good nofit, small-proved narrow)

      -- ---- all together

      files : All (IsNarrow j) coded → (end : EncodeEnd) (lists : Lists) → Ends j all coded end lists → FilesEnd j all end lists.movie lists.proof frames (map printed_of coded)
      files narrow ends.Done lists e = subst (λ (l : Lists). FilesEnd j all ends.Done l.movie l.proof frames (map printed_of coded)) (sym e.2)
          (samples-are, all-there e.0 e.1, printed-number ∙ e.0, whole-proved narrow)
      files narrow (ends.BadPictures kind place) lists e = subst (λ (l : Lists). FilesEnd j all (ends.BadPictures kind place) l.movie l.proof frames (map printed_of coded)) (sym e.2)
          (refl, whole-count (subst (λ k. j.group * k ≤ length all.pictures) (sym e.0) (count-cut j.group (length all.pictures) all.fault (record { kind = kind; place = place }) e.1)), proof-front)
      files narrow (ends.TooSmall frame least) lists e =
          subst (λ (l : Lists). FilesEnd j all (ends.TooSmall frame least) l.movie l.proof frames (map printed_of coded)) (sym e.4)
          (subst (λ m. FilesEnd j all (ends.TooSmall frame m) (cut_lists j coded).movie
          (proof_bytes j.format (settings_of j) (map (record_in j) coded ++ none_record j (group_behind j all coded) ∷ [])) frames (map printed_of coded)) (sym e.3)
          (small-files e.0 narrow e.1 frame e.2))
      files narrow ends.NoMemory lists e = absurd e
      files narrow ends.ReadFault lists e = absurd e
      files narrow ends.WriteFault lists e = absurd e
      files narrow (ends.LayersFull frame) lists e = absurd e

      pub has-headline : All (IsNarrow j) coded → (end : EncodeEnd) (lists : Lists) → Ends j all coded end lists → Headline j all end lists.movie lists.proof
      has-headline narrow end lists e = record { written = frames; printed = map printed_of coded; files = files narrow end lists e; groups = hold; alone = single }
