-- The groups so far, one more, and how a run ends after them.
use Rattle.std.proofs.Common.{◌≡◌, refl, ℕ, ◌+◌, ◌-◌, ◌*◌, ◌/◌, ◌<◌, ◌≤◌, cond, List, [], ◌∷◌, ◌++◌, arith, length, map, take, ap, sym, subst, ◌∙◌, length-append, append_assoc, append-nil, Option, None, Some}
use Rattle.std.specs.Prelude.{is_some}
use Rattle.std.specs.List.{flat_map, range_with_len, All, AllByRecursion}
use Rattle.std.proofs.lemmas.List.{take_all, map-append}
use Rattle.std.proofs.lemmas.List.Concat.{flat_map-append}
use Rattle.std.proofs.lemmas.List.Elements.{All-push, All-nil, recursion_from_All}
use Rattle.std.proofs.lemmas.List.FromFn.{map-range_with_len_more}
use Rattle.pw_outside.specs.Ports.{last}
use Rattle.pw_outside.specs.Reading.{Fault}
use Rattle.pw_outside.proofs.Puts.{puts_none}
use Rattle.pw_planes.specs.declared.picture.Picture.{Picture}
use Rattle.pic_y4m.specs.declared.fault.PictureKind.{PictureKind}
use Rattle.pic_y4m.specs.Frames.{Pictures}
use Rattle.qt_movie.specs.MovieBytes.{frame_bytes}
use Rattle.run_encode.specs.declared.job.Job.{Job}
use Rattle.rate_build.specs.Groups.{group_at}
use Rattle.rate_cert.specs.Files.{record_bytes}
use Rattle.run_encode.specs.Groups.{group_count}
use Rattle.run_encode.specs.Outputs.{Outputs, Lists, joined, PutsAll}
use Rattle.run_encode.specs.Encoding.{Group, IsCoded, IsNarrow, body_lists, all_frames, frames_of, record_in, group_lines, lines_of, AreFirst, group_behind}
use Rattle.run_encode.specs.inner.Steps.{Counts, in_front, no_pictures, group_lists, Wrote, WroteWhole, WholeGroups, HasGroup}
use Rattle.run_encode.proofs.Sinks.{all_then}
use Rattle.run_encode.proofs.Cutting.{whole-groups, whole-length, next-group, count-whole, count-up-none, count-up-some, count-least}

abbrev pub pictures_in : List Group → List Picture
pictures_in coded = flat_map (λ g. g.pictures) coded

-- ---- the lists of one group more

lines-append : (j : Job) (n : ℕ) (xs ys : List Group) → lines_of j n (xs ++ ys) ≡ lines_of j n xs ++ lines_of j (n + length (pictures_in xs)) ys
lines-append j n [] ys = ap (λ m. lines_of j m ys) (let e : n ≡ n + 0 = omega arith in e)
lines-append j n (x ∷ xs) ys =
    let m : (n + length x.pictures) + length (pictures_in xs) ≡ n + length (pictures_in (x ∷ xs)) = omega (arith, length-append x.pictures (pictures_in xs)) in
    ap (λ l. group_lines j n x ++ l) (lines-append j (n + length x.pictures) xs ys)
    ∙ sym (append_assoc (group_lines j n x) (lines_of j (n + length x.pictures) xs) (lines_of j ((n + length x.pictures) + length (pictures_in xs)) ys))
    ∙ ap (λ k. (group_lines j n x ++ lines_of j (n + length x.pictures) xs) ++ lines_of j k ys) m

lines-more : (j : Job) (xs : List Group) (g : Group) → lines_of j 0 xs ++ group_lines j (length (pictures_in xs)) g ≡ lines_of j 0 (xs ++ g ∷ [])
lines-more j xs g =
    let z : length (pictures_in xs) ≡ 0 + length (pictures_in xs) = omega arith in
    ap (λ n. lines_of j 0 xs ++ group_lines j n g) z
    ∙ ap (λ l. lines_of j 0 xs ++ l) (sym (append-nil (group_lines j (0 + length (pictures_in xs)) g)))
    ∙ sym (lines-append j 0 xs (g ∷ []))

flat-more : {X A : Type 0} (f : X → List A) (xs : List X) (x : X) → flat_map f xs ++ f x ≡ flat_map f (xs ++ x ∷ [])
flat-more f xs x = ap (λ l. flat_map f xs ++ l) (sym (append-nil (f x))) ∙ sym (flat_map-append f xs (x ∷ []))

frames-more : (j : Job) (xs : List Group) (g : Group) → all_frames j xs ++ frames_of j g ≡ all_frames j (xs ++ g ∷ [])
frames-more j xs g = flat-more (frames_of j) xs g

pub same-lists : {x y : Lists} → x.movie ≡ y.movie → x.proof ≡ y.proof → x.text ≡ y.text → x ≡ y
same-lists {x} {y} m p t =
    ap (λ l. record { movie = l; proof = x.proof; text = x.text }) m ∙ ap (λ l. record { movie = y.movie; proof = l; text = x.text }) p
    ∙ ap (λ l. record { movie = y.movie; proof = y.proof; text = l }) t

pub body-more : (j : Job) (xs : List Group) (g : Group) → joined (body_lists j xs) (group_lists j (length (pictures_in xs)) g) ≡ body_lists j (xs ++ g ∷ [])
body-more j xs g = same-lists
    (sym (flat_map-append frame_bytes (all_frames j xs) (frames_of j g)) ∙ ap (flat_map frame_bytes) (frames-more j xs g))
    (flat-more (λ h. record_bytes j.format (record_in j h)) xs g)
    (lines-more j xs g)

-- ---- one group more

-- no group yet
pub none-yet : (j : Job) (all : Pictures) (a : Outputs) (number : ℕ) (now : Counts) → number ≡ 0 → now.sizes ≡ [] → now.records ≡ 0
    → a.movie.taken ≤ last → a.proof.taken ≤ last → a.text.taken ≤ last → WholeGroups j all all number now a a
none-yet j all a number now n s r m p t = record {
  coded = [];
  each = All-nil (IsCoded j);
  narrow = All-nil (IsNarrow j);
  whole = All-nil (λ g. length g.pictures ≡ j.group);
  split = refl;
  number_is = n;
  puts = record { movie = puts_none a.movie m; proof = puts_none a.proof p; text = puts_none a.text t };
  sizes = s;
  records = r;
}

module _ (j : Job) (all left rest : Pictures) (number number' : ℕ) (old new : Counts) (before mid after : Outputs) where
  -- what was written, with one group more
  pub wrote-more : (w : WholeGroups j all left number old before mid) (x : Wrote j number number' left rest old new mid after)
      → PutsAll before after (body_lists j (w.coded ++ x.group ∷ []))
  wrote-more w x = subst (PutsAll before after) (body-more j w.coded x.group)
      (subst (λ n. PutsAll before after (joined (body_lists j w.coded) (group_lists j n x.group))) w.number_is (all_then w.puts x.puts))

  pub sizes-more : (w : WholeGroups j all left number old before mid) (x : Wrote j number number' left rest old new mid after)
      → new.sizes ≡ map length (all_frames j (w.coded ++ x.group ∷ []))
  sizes-more w x = x.sizes ∙ ap (λ l. l ++ map length (frames_of j x.group)) w.sizes
      ∙ sym (map-append length (all_frames j w.coded) (frames_of j x.group)) ∙ ap (map length) (frames-more j w.coded x.group)

  pub records-more : (w : WholeGroups j all left number old before mid) (x : Wrote j number number' left rest old new mid after)
      → new.records ≡ length (w.coded ++ x.group ∷ [])
  records-more w x = omega (arith, x.records, w.records, length-append w.coded (x.group ∷ []))

  split-more : (w : WholeGroups j all left number old before mid) (x : Wrote j number number' left rest old new mid after)
      → all ≡ in_front (pictures_in (w.coded ++ x.group ∷ [])) rest
  split-more w x = w.split ∙ ap (in_front (pictures_in w.coded)) x.next
      ∙ ap (λ ps. record { pictures = ps; fault = rest.fault })
      (sym (append_assoc (pictures_in w.coded) x.group.pictures rest.pictures) ∙ ap (λ ps. ps ++ rest.pictures) (flat-more (λ g. g.pictures) w.coded x.group))

  pub one-more : WholeGroups j all left number old before mid → WroteWhole j number number' left rest old new mid after → WholeGroups j all rest number' new before after
  one-more w x = record {
    coded = w.coded ++ x.wrote.group ∷ [];
    each = All-push (IsCoded j) w.coded x.wrote.group w.each x.wrote.is_coded;
    narrow = All-push (IsNarrow j) w.coded x.wrote.group w.narrow x.wrote.narrow;
    whole = All-push (λ g. length g.pictures ≡ j.group) w.coded x.wrote.group w.whole x.whole;
    split = split-more w x.wrote;
    number_is = x.wrote.number_is ∙ ap (λ n. n + length x.wrote.group.pictures) w.number_is
        ∙ sym (length-append (pictures_in w.coded) x.wrote.group.pictures) ∙ ap length (flat-more (λ g. g.pictures) w.coded x.wrote.group);
    puts = wrote-more w x.wrote;
    sizes = sizes-more w x.wrote;
    records = records-more w x.wrote;
  }

-- ---- the number of groups

abbrev pub count : {F : Type 0} → ℕ → ℕ → Option F → ℕ
count size n fault = cond (is_some fault) (n / size) ((n + size - 1) / size)

count-few : {F : Type 0} (size k n : ℕ) (fault : Option F) → 1 ≤ size → size * k ≤ n → k ≤ count size n fault
count-few size k n None some h = let le : size * k ≤ n + size - 1 = omega arith in count-least size k (n + size - 1) some le
count-few size k n (Some f) some h = count-least size k n some h

count-there : {F : Type 0} (size k r n : ℕ) (fault : Option F) → 1 ≤ size → n ≡ size * k + r → 1 ≤ r → (r < size → fault ≡ None) → k < count size n fault
count-there size k r n None some e more whole =
    let t : size * (k + 1) ≡ size * k + size = omega arith in
    let le : size * (k + 1) ≤ n + size - 1 = omega arith in
    let h = count-least size (k + 1) (n + size - 1) some le in omega (arith, h)
count-there {F} size k r n (Some f) some e more whole =
    let t : size * (k + 1) ≡ size * k + size = omega arith in
    let no : r < size → ⊥ = λ lt. let h = whole lt in cc in
    let le : size * (k + 1) ≤ n = omega (arith, no) in
    let h = count-least size (k + 1) n some le in omega (arith, h)

module _ (j : Job) (coded : List Group) (left : Pictures) (some : 1 ≤ j.group) (each : All (IsCoded j) coded) (whole : All (λ g. length g.pictures ≡ j.group) coded) where
  abbrev pub the_all : Pictures
  the_all = in_front (pictures_in coded) left

  pub by-recursion : AllByRecursion (λ g. length g.pictures ≡ j.group) coded
  by-recursion = recursion_from_All (λ g. length g.pictures ≡ j.group) coded whole

  all-length : length the_all.pictures ≡ j.group * length coded + length left.pictures
  all-length = length-append (pictures_in coded) left.pictures ∙ ap (λ n. n + length left.pictures) (whole-length (λ g. g.pictures) j.group coded by-recursion)

  pub first-are : AreFirst j the_all coded
  first-are = record {
    few = count-few j.group (length coded) (length the_all.pictures) left.fault some (omega (arith, all-length));
    pictures = whole-groups (λ g. g.pictures) j.group coded left.pictures by-recursion;
    each = each;
  }

  pub behind-is : group_behind j the_all coded ≡ take j.group left.pictures
  behind-is = next-group (λ g. g.pictures) j.group coded left.pictures by-recursion

  pub has-more : HasGroup j left → length coded < group_count j.group the_all
  has-more h = count-there j.group (length coded) (length left.pictures) (length the_all.pictures) left.fault some all-length h.some h.whole

  pub cut-count : (f : Fault PictureKind) → length left.pictures < j.group → left.fault ≡ Some f → length coded ≡ group_count j.group the_all
  cut-count f lt e = sym (ap (count j.group (length the_all.pictures)) e ∙ ap (λ n. n / j.group) all-length ∙ count-whole j.group (length coded) (length left.pictures) lt)

  pub end-count : left ≡ no_pictures → length coded ≡ group_count j.group the_all
  end-count e =
      let n : length the_all.pictures ≡ j.group * length coded + 0 = all-length ∙ ap (λ (l : Pictures). j.group * length coded + length l.pictures) e in
      sym (ap (λ (l : Pictures). count j.group (length the_all.pictures) l.fault) e ∙ ap (λ m. (m + j.group - 1) / j.group) n ∙ count-up-none j.group (length coded) some)

  -- one group more, which may be short
  module _ (g : Group) (is : IsCoded j g) (next : g.pictures ≡ take j.group left.pictures) (there : HasGroup j left) where
    more-group : group_at j.group the_all.pictures (length coded) ≡ g.pictures
    more-group = behind-is ∙ sym next

    pub more-first : AreFirst j the_all (coded ++ g ∷ [])
    more-first = record {
      few = let h = has-more there in omega (arith, h, length-append coded (g ∷ []));
      pictures = map-append (λ h. h.pictures) coded (g ∷ [])
          ∙ ap (λ l. l ++ g.pictures ∷ []) (whole-groups (λ h. h.pictures) j.group coded left.pictures by-recursion)
          ∙ ap (λ ps. map (group_at j.group the_all.pictures) (range_with_len 0 (length coded)) ++ ps ∷ []) (sym more-group)
          ∙ sym (map-range_with_len_more (group_at j.group the_all.pictures) 0 (length coded) (length coded) (omega arith))
          ∙ ap (λ n. map (group_at j.group the_all.pictures) (range_with_len 0 n)) (sym (length-append coded (g ∷ [])));
      each = All-push (IsCoded j) coded g each is;
    }

  -- the last group, of fewer pictures
  module _ (g : Group) (one : 1 ≤ length g.pictures) (short : length g.pictures < j.group) (last : left ≡ in_front g.pictures no_pictures) where
    last-length : length the_all.pictures ≡ j.group * length coded + length g.pictures
    last-length = all-length ∙ ap (λ (l : Pictures). j.group * length coded + length l.pictures) last ∙ ap (λ n. j.group * length coded + n) (ap length (append-nil g.pictures))

    pub last-count : length (coded ++ g ∷ []) ≡ group_count j.group the_all
    last-count =
        let k : length (coded ++ g ∷ []) ≡ length coded + 1 = length-append coded (g ∷ []) in
        k ∙ sym (ap (λ (l : Pictures). count j.group (length the_all.pictures) l.fault) last ∙ ap (λ m. (m + j.group - 1) / j.group) last-length
        ∙ count-up-some j.group (length coded) (length g.pictures) one (omega arith))

    pub last-there : HasGroup j left
    last-there = record {
      some = subst (λ (l : Pictures). 1 ≤ length l.pictures) (sym last) (subst (λ (ps : List Picture). 1 ≤ length ps) (sym (append-nil g.pictures)) one);
      whole = λ _. ap (λ (l : Pictures). l.fault) last;
    }

    pub last-next : g.pictures ≡ take j.group left.pictures
    last-next = sym (ap (λ (l : Pictures). take j.group l.pictures) last ∙ ap (take j.group) (append-nil g.pictures) ∙ take_all j.group g.pictures (omega arith))
