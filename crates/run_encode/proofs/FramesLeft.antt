-- The frames of a choice, written one by one.
use Rattle.std.proofs.Common.{◌≡◌, refl, ℕ, suc, ◌+◌, ◌*◌, ◌<◌, ◌≤◌, ◌^◌, get_or, drop-cons, List, [], ◌∷◌, ◌++◌, arith, length, map, take, drop, ap, sym, subst, ◌∙◌, length-append, append_assoc, append-nil, take_at}
use Rattle.std.specs.List.{flat_map, All}
use Rattle.std.proofs.lemmas.List.Elements.{All-get_or, recursion_from_All}
use Rattle.std.proofs.lemmas.Slice.Zip.{AllZip-long}
use Rattle.pw_outside.specs.Ports.{last}
use Rattle.std.proofs.lemmas.List.{take-map, drop-map, drop_at, map-append, length-map, nil_from_length, length-drop}
use Rattle.std.proofs.lemmas.List.Concat.{flat_map-append}
use Rattle.pw_outside.specs.Writing.{SinkState, Puts, PutsFront}
use Rattle.pw_outside.proofs.Puts.{puts_none, puts_then, front_more, then_front}
use Rattle.pr_frame.specs.Written.{coded_bytes}
use Rattle.qt_movie.specs.MovieBytes.{frame_head_bytes, frame_bytes}
use Rattle.rate_table.specs.declared.entry.Entry.{Entry}
use Rattle.rate_table.specs.Table.{Table, IsChoice, size_of, indices}
use Rattle.rate_build.specs.Coefficients.{FrameCoefficients}
use Rattle.rate_build.specs.Coding.{coded_frame}
use Rattle.rate_build.specs.Tables.{fixed_bytes}
use Rattle.run_encode.specs.declared.job.Job.{Job}
use Rattle.run_encode.specs.Groups.{IsFrameOf, header_in, frame_slices, slice_tables, table_of_group, coded_group}
use Rattle.run_encode.specs.inner.Over.{HasFitting, IsFrameChoice}
use Rattle.run_encode.proofs.Shares.{slices-are, part-of, sizes-split}
use Rattle.run_encode.proofs.Grouped.{table-slices, table-fixed}

-- the choice of the remaining frames, and the frames that were written
pub record Left (j : Job) (left : List FrameCoefficients) (all : List (List ℕ)) (slices : List (List Entry)) (part : List ℕ) (done : List (List ℕ)) : Type 0 where
  pub entries : List Entry
  pub is_choice : IsChoice slices entries
  pub has_indices : indices entries ≡ part
  pub small : length left * fixed_bytes j.layout + size_of entries < 2 ^ 31
  pub slices_are : slices ≡ flat_map (slice_tables j) left
  pub all_are : all ≡ done ++ map coded_bytes (coded_group j left part)

pub record SoFar (j : Job) (left : List FrameCoefficients) (all : List (List ℕ)) (slices : List (List Entry)) (part : List ℕ) (k : ℕ) (first sizes : List ℕ) (before after : SinkState) : Type 0 where
  pub done : List (List ℕ)
  pub left_is : Left j left all slices part done
  pub puts : Puts before after (flat_map frame_bytes done)
  pub sizes_are : sizes ≡ first ++ map length done
  pub number : length done ≡ k

-- a frame's bytes are its header's and its own
pub head-front : (a b : SinkState) (frame : List ℕ) (size : ℕ) → size ≡ length frame → PutsFront a b (frame_head_bytes size) → PutsFront a b (frame_bytes frame)
head-front a b frame size e p = front_more frame (subst (λ n. PutsFront a b (frame_head_bytes n)) e p)

pub then-frame : (a b c : SinkState) (frame : List ℕ) (size : ℕ) → size ≡ length frame → Puts a b (frame_head_bytes size) → PutsFront b c frame → PutsFront a c (frame_bytes frame)
then-frame a b c frame size e p q = then_front (subst (λ n. Puts a b (frame_head_bytes n)) e p) q

pub then-whole : (a b c : SinkState) (frame : List ℕ) (size : ℕ) → size ≡ length frame → Puts a b (frame_head_bytes size) → Puts b c frame → Puts a c (frame_bytes frame)
then-whole a b c frame size e p q = puts_then (subst (λ n. Puts a b (frame_head_bytes n)) e p) q

module _ (j : Job) (c : FrameCoefficients) (cs : List FrameCoefficients) (is : IsFrameOf j c) (all : List (List ℕ)) (slices : List (List Entry)) (part : List ℕ) (n : ℕ) (count : n ≡ frame_slices j) where
  abbrev frame : List ℕ
  frame = coded_bytes (coded_frame c (header_in j) (take n part))

  module _ (done : List (List ℕ)) (l : Left j (c ∷ cs) all slices part done) where
    times : length (c ∷ cs) * fixed_bytes j.layout ≡ fixed_bytes j.layout + length cs * fixed_bytes j.layout
    times = omega arith

    both-parts : IsChoice (slice_tables j c) (take n l.entries) × IsChoice (flat_map (slice_tables j) cs) (drop n l.entries)
    both-parts = subst (λ k. IsChoice (slice_tables j c) (take k l.entries) × IsChoice (flat_map (slice_tables j) cs) (drop k l.entries)) (sym count)
        (part-of j c cs l.entries is (subst (λ s. IsChoice s l.entries) l.slices_are l.is_choice))

    here-is : take n slices ≡ slice_tables j c
    here-is = ap (take n) l.slices_are ∙ take_at (slice_tables j c) (flat_map (slice_tables j) cs) n (slices-are j c is ∙ sym count)

    behind-is : drop n slices ≡ flat_map (slice_tables j) cs
    behind-is = ap (drop n) l.slices_are ∙ drop_at (slice_tables j c) (flat_map (slice_tables j) cs) n (slices-are j c is ∙ sym count)

    pub here-part : (here : List (List Entry)) (chosen : List ℕ) → here ≡ take n slices → chosen ≡ take n part → (here ≡ slice_tables j c) × IsFrameChoice j here chosen
    here-part here chosen e f = (
      e ∙ here-is,
      record {
        entries = take n l.entries;
        is_choice = subst (λ s. IsChoice s (take n l.entries)) (sym (e ∙ here-is)) both-parts.0;
        has_indices = sym (take-map (λ (x : Entry). x.index) n l.entries) ∙ ap (take n) l.has_indices ∙ sym f;
        small = let one = times in omega (arith, sizes-split j n l.entries, l.small, one);
      },
    )

    all-here : all ≡ done ++ (frame ∷ map coded_bytes (coded_group j cs (drop n part)))
    all-here = l.all_are ∙ ap (λ k. done ++ (coded_bytes (coded_frame c (header_in j) (take k part)) ∷ map coded_bytes (coded_group j cs (drop k part)))) (sym count)

    pub rest-left : Left j cs all (drop n slices) (drop n part) (done ++ frame ∷ [])
    rest-left = record {
      entries = drop n l.entries;
      is_choice = subst (λ s. IsChoice s (drop n l.entries)) (sym behind-is) both-parts.1;
      has_indices = sym (drop-map (λ (x : Entry). x.index) n l.entries) ∙ ap (drop n) l.has_indices;
      small = let one = times in omega (arith, sizes-split j n l.entries, l.small, one);
      slices_are = behind-is;
      all_are = all-here ∙ sym (append_assoc done (frame ∷ []) (map coded_bytes (coded_group j cs (drop n part))));
    }

    pub front-all : (a b d : SinkState) → Puts a b (flat_map frame_bytes done) → PutsFront b d (frame_bytes frame) → PutsFront a d (flat_map frame_bytes all)
    front-all a b d p q =
        let rest = map coded_bytes (coded_group j cs (drop n part)) in
        let same : (flat_map frame_bytes done ++ frame_bytes frame) ++ flat_map frame_bytes rest ≡ flat_map frame_bytes all =
        append_assoc (flat_map frame_bytes done) (frame_bytes frame) (flat_map frame_bytes rest) ∙ sym (flat_map-append frame_bytes done (frame ∷ rest)) ∙ ap (flat_map frame_bytes) (sym all-here) in
        subst (PutsFront a d) same (front_more (flat_map frame_bytes rest) (then_front p q))

  -- one frame more
  pub frame-more : (k : ℕ) (first sizes sizes' : List ℕ) (a b d : SinkState) → SoFar j (c ∷ cs) all slices part k first sizes a b → Puts b d (frame_bytes frame)
      → sizes' ≡ sizes ++ length frame ∷ [] → SoFar j cs all (drop n slices) (drop n part) (k + 1) first sizes' a d
  frame-more k first sizes sizes' a b d s q e = record {
    done = s.done ++ frame ∷ [];
    left_is = rest-left s.done s.left_is;
    puts = subst (Puts a d) (ap (λ l. flat_map frame_bytes s.done ++ l) (sym (append-nil (frame_bytes frame))) ∙ sym (flat_map-append frame_bytes s.done (frame ∷ []))) (puts_then s.puts q);
    sizes_are = e ∙ ap (λ l. l ++ length frame ∷ []) s.sizes_are ∙ append_assoc first (map length s.done) (length frame ∷ [])
        ∙ ap (λ l. first ++ l) (sym (map-append length s.done (frame ∷ [])));
    number = omega (arith, length-append s.done (frame ∷ []), s.number);
  }

-- all frames
pub frames-all : (j : Job) (all : List (List ℕ)) (slices : List (List Entry)) (part : List ℕ) (k : ℕ) (first sizes : List ℕ) (a b : SinkState) → SoFar j [] all slices part k first sizes a b
    → Puts a b (flat_map frame_bytes all) × (sizes ≡ first ++ map length all)
frames-all j all slices part k first sizes a b s =
    let same : s.done ≡ all = sym (s.left_is.all_are ∙ append-nil s.done) in
    (subst (λ l. Puts a b (flat_map frame_bytes l)) same s.puts, s.sizes_are ∙ ap (λ l. first ++ map length l) same)

pub long-enough : (j : Job) (c : FrameCoefficients) (cs : List FrameCoefficients) (all : List (List ℕ)) (slices : List (List Entry)) (part : List ℕ) (n : ℕ) (done : List (List ℕ))
    → IsFrameOf j c → n ≡ frame_slices j → Left j (c ∷ cs) all slices part done → (n ≤ length slices) × (n ≤ length part)
long-enough j c cs all slices part n done is count l =
    let s : n ≤ length slices = omega (arith, ap length l.slices_are, length-append (slice_tables j c) (flat_map (slice_tables j) cs), slices-are j c is, count) in
    let p : length part ≡ length slices = ap length (sym l.has_indices) ∙ length-map l.entries (λ (x : Entry). x.index) ∙ AllZip-long _ slices l.entries l.is_choice in
    (s, omega (arith, s, p))

-- the next frame
pub current : (j : Job) (frames : List FrameCoefficients) (k : ℕ) (c : FrameCoefficients) (all : List (List ℕ)) (slices : List (List Entry)) (part first sizes : List ℕ) (a b : SinkState)
    → k < length frames → c ≡ get_or frames k c → SoFar j (drop k frames) all slices part k first sizes a b → SoFar j (c ∷ drop (k + 1) frames) all slices part k first sizes a b
current j frames k c all slices part first sizes a b lt e s =
    subst (λ l. SoFar j l all slices part k first sizes a b)
    (drop-cons frames k c lt ∙ ap (λ x. x ∷ drop (suc k) frames) (sym e) ∙ ap (λ n. c ∷ drop n frames) (let h : suc k ≡ k + 1 = omega arith in h)) s

pub frame-is : (j : Job) (frames : List FrameCoefficients) (k : ℕ) (c : FrameCoefficients) → k < length frames → c ≡ get_or frames k c → All (IsFrameOf j) frames → IsFrameOf j c
frame-is j frames k c lt e all = subst (IsFrameOf j) (sym e) (All-get_or (IsFrameOf j) frames k c lt all)

-- before the first frame
pub none-written : (j : Job) (frames : List FrameCoefficients) (slices : List (List Entry)) (choice first : List ℕ) (a : SinkState) (t : Table)
    → slices ≡ t.slices → t ≡ table_of_group j frames → All (IsFrameOf j) frames → t.budget < 2 ^ 31 → HasFitting t choice → a.taken ≤ last
    → SoFar j frames (map coded_bytes (coded_group j frames choice)) slices choice 0 first first a a
none-written j frames slices choice first a t s e is small h le = record {
  done = [];
  left_is = record {
    entries = h.entries;
    is_choice = subst (λ x. IsChoice x h.entries) (sym s) h.is_choice;
    has_indices = h.has_indices;
    small = let fixed = ap (λ (x : Table). x.fixed) e ∙ table-fixed j frames (recursion_from_All (IsFrameOf j) frames is) in omega (arith, h.fitting, small, fixed);
    slices_are = s ∙ ap (λ (x : Table). x.slices) e ∙ table-slices j frames;
    all_are = refl;
  };
  puts = puts_none a le;
  sizes_are = sym (append-nil first);
  number = refl;
}

pub moved : (j : Job) (left : List FrameCoefficients) (all : List (List ℕ)) (slices slices' : List (List Entry)) (part part' : List ℕ) (k : ℕ) (first sizes : List ℕ) (a b : SinkState)
    → slices ≡ slices' → part ≡ part' → SoFar j left all slices part k first sizes a b → SoFar j left all slices' part' k first sizes a b
moved j left all slices slices' part part' k first sizes a b e f s =
    subst (λ x. SoFar j left all x part' k first sizes a b) e (subst (λ x. SoFar j left all slices x k first sizes a b) f s)

pub at-end : (j : Job) (frames : List FrameCoefficients) (k : ℕ) (all : List (List ℕ)) (slices : List (List Entry)) (part first sizes : List ℕ) (a b : SinkState)
    → length frames ≤ k → SoFar j (drop k frames) all slices part k first sizes a b → Puts a b (flat_map frame_bytes all) × (sizes ≡ first ++ map length all)
at-end j frames k all slices part first sizes a b le s =
    frames-all j all slices part k first sizes a b (subst (λ l. SoFar j l all slices part k first sizes a b) (nil_from_length (drop k frames) (omega (arith, le, length-drop k frames))) s)
