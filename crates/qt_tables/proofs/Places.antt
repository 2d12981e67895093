-- The index of a sample in the expanded list.
use Rattle.std.proofs.Common.{◌≡◌, ℕ, zero, suc, ◌-◌, ◌+◌, ◌*◌, ◌≤◌, ◌<◌, List, [], ◌∷◌, ◌++◌, Some, length, take, drop, replicate, sum_by, refl, sym, ap, ◌∙◌, arith, length-append, length-take-le, length-take, length-drop, get_or}
use Rattle.std.specs.Prelude.{slice_get}
use Rattle.std.proofs.lemmas.List.{length-replicate, get_or-replicate, drop-drop, drop-take, take-take}
use Rattle.std.proofs.lemmas.List.Sums.{sum_by-cons, sum_by-take-drop, sum_by_more}
use Rattle.std.proofs.lemmas.Option.{slice_get-get_or, slice_get_within}
use Rattle.qt_tables.specs.declared.runs.TimeRun.{TimeRun}
use Rattle.qt_tables.specs.declared.runs.Sample.{Sample}
use Rattle.qt_tables.specs.Samples.{Chunk, durations, samples_at, samples_in, held_by}
use Rattle.qt_tables.specs.Sums.{bytes_before, timed_before}

pub get-front : {X : Type 0} (xs ys : List X) (i : ℕ) → i < length xs → slice_get (xs ++ ys) i ≡ slice_get xs i
get-front [] ys i h = absurd (omega arith)
get-front (x ∷ xs) ys zero h = refl
get-front (x ∷ xs) ys (suc i) h = get-front xs ys i (omega arith)

pub get-behind : {X : Type 0} (xs ys : List X) (i : ℕ) → length xs ≤ i → slice_get (xs ++ ys) i ≡ slice_get ys (i - length xs)
get-behind [] ys i h = ap (slice_get ys) (let e : i ≡ i - 0 = omega arith in e)
get-behind (x ∷ xs) ys zero h = absurd (omega arith)
get-behind (x ∷ xs) ys (suc i) h =
    let e : i - length xs ≡ suc i - suc (length xs) = omega arith in
    get-behind xs ys i (omega arith) ∙ ap (slice_get ys) e

pub get-drop : {X : Type 0} (n i : ℕ) (xs : List X) → n ≤ i → slice_get (drop n xs) (i - n) ≡ slice_get xs i
get-drop zero i xs h = ap (slice_get xs) (let e : i - 0 ≡ i = omega arith in e)
get-drop (suc n) i [] h = refl
get-drop (suc n) zero (x ∷ xs) h = absurd (omega arith)
get-drop (suc n) (suc i) (x ∷ xs) h = let e : suc i - suc n ≡ i - n = omega arith in ap (slice_get (drop n xs)) e ∙ get-drop n i xs (omega arith)

pub get-take : {X : Type 0} (n : ℕ) (xs : List X) (i : ℕ) → i < n → slice_get (take n xs) i ≡ slice_get xs i
get-take zero xs i h = absurd (omega arith)
get-take (suc n) [] i h = refl
get-take (suc n) (x ∷ xs) zero h = refl
get-take (suc n) (x ∷ xs) (suc i) h = get-take n xs i (omega arith)

abbrev total : List ℕ → ℕ
total sizes = sum_by (λ size. size) sizes

-- ---- durations

pub length-durations : (times : List TimeRun) → length (durations times) ≡ sum_by (λ r. r.count) times
length-durations [] = refl
length-durations (r ∷ times) = omega (arith, length-append (replicate r.count r.duration) (durations times), length-replicate r.count r.duration, length-durations times, sum_by-cons (λ (q : TimeRun). q.count) r times)

-- the duration of a sample in run k
pub duration-at : (times : List TimeRun) (k i : ℕ) (d : TimeRun) → k < length times → timed_before times k ≤ i → i < timed_before times (k + 1) → slice_get (durations times) i ≡ Some (get_or times k d).duration
duration-at [] k i d lt begun ends = absurd (omega arith)
duration-at (r ∷ times) zero i d lt begun ends =
    let len = length-replicate r.count r.duration in
    let fits : i < r.count = omega (arith, ends, sum_by_more (λ (q : TimeRun). q.count) (r ∷ times) 0 d lt) in
    let e : i < length (replicate r.count r.duration) = omega (arith, len, fits) in
    get-front (replicate r.count r.duration) (durations times) i e
    ∙ slice_get-get_or (replicate r.count r.duration) i 0 e
    ∙ ap Some (get_or-replicate r.count i r.duration 0 fits)
duration-at (r ∷ times) (suc k) i d lt begun ends =
    let len = length-replicate r.count r.duration in
    let one = sum_by-cons (λ (q : TimeRun). q.count) r (take k times) in
    let more : suc k + 1 ≡ suc (k + 1) = omega arith in
    let two : timed_before (r ∷ times) (suc k + 1) ≡ r.count + timed_before times (k + 1) = ap (timed_before (r ∷ times)) more ∙ sum_by-cons (λ (q : TimeRun). q.count) r (take (k + 1) times) in
    get-behind (replicate r.count r.duration) (durations times) i (omega (arith, len, one, begun)) ∙ ap (λ q. slice_get (durations times) (i - q)) len
    ∙ duration-at times k (i - r.count) d (omega arith) (omega (arith, one, begun)) (omega (arith, two, one, ends, begun))

-- ---- one chunk

abbrev pub sample : (description at size duration : ℕ) → Sample
sample description at size duration = record { at = at; size = size; duration = duration; description = description }

pub length-samples_at : (description at : ℕ) (sizes durations : List ℕ) → length sizes ≤ length durations → length (samples_at description at sizes durations) ≡ length sizes
length-samples_at description at [] durations h = refl
length-samples_at description at (s ∷ sizes) [] h = absurd (omega arith)
length-samples_at description at (s ∷ sizes) (t ∷ durations) h = ap suc (length-samples_at description (at + s) sizes durations (omega arith))

sample-eq : (at at' size size' duration duration' description : ℕ) → at ≡ at' → size ≡ size' → duration ≡ duration' → sample description at size duration ≡ sample description at' size' duration'
sample-eq at at' size size' duration duration' description e f g = rw (e, f, g) refl

pub get-samples_at : (description at : ℕ) (sizes durations : List ℕ) (i size duration : ℕ) → slice_get sizes i ≡ Some size → slice_get durations i ≡ Some duration
    → slice_get (samples_at description at sizes durations) i ≡ Some (sample description (at + total (take i sizes)) size duration)
get-samples_at description at [] durations i size duration e f = absurd cc
get-samples_at description at (s ∷ sizes) [] i size duration e f = absurd cc
get-samples_at description at (s ∷ sizes) (t ∷ durations) zero size duration e f =
    let g : s ≡ size = cc in
    let h : t ≡ duration = cc in
    let k : at ≡ at + 0 = omega arith in
    ap Some (sample-eq at (at + 0) s size t duration description k g h)
get-samples_at description at (s ∷ sizes) (t ∷ durations) (suc i) size duration e f =
    let k : (at + s) + total (take i sizes) ≡ at + total (s ∷ take i sizes) = omega (arith, sum_by-cons (λ (n : ℕ). n) s (take i sizes)) in
    get-samples_at description (at + s) sizes durations i size duration e f ∙ ap (λ p. Some (sample description p size duration)) k

-- ---- chunk after chunk

-- sample i, in the chunk of index c
pub sample-in : (cs : List Chunk) (sizes times : List ℕ) (c i size duration : ℕ) (chunk : Chunk) → slice_get cs c ≡ Some chunk → held_by (take c cs) ≤ i → i < held_by (take c cs) + chunk.samples
    → slice_get sizes i ≡ Some size → slice_get times i ≡ Some duration → length times ≡ length sizes
    → slice_get (samples_in cs sizes times) i ≡ Some (sample chunk.description (chunk.at + total (take (i - held_by (take c cs)) (drop (held_by (take c cs)) sizes))) size duration)
sample-in [] sizes times c i size duration chunk there begun ends e f len = absurd cc
sample-in (x ∷ cs) sizes times zero i size duration chunk there begun ends e f len =
    let same : x ≡ chunk = cc in
    let n = x.samples in
    let within = slice_get_within sizes i size e in
    let small : i < x.samples = omega (arith, ends, ap (λ (q : Chunk). q.samples) same) in
    let front = samples_at x.description x.at (take n sizes) times in
    let m : length front ≡ length (take n sizes) = length-samples_at x.description x.at (take n sizes) times (omega (arith, length-take n sizes, len)) in
    let zero_off : i - 0 ≡ i = omega arith in
    get-front front (samples_in cs (drop n sizes) (drop n times)) i (omega (arith, m, length-take n sizes, within, small))
    ∙ get-samples_at x.description x.at (take n sizes) times i size duration (get-take n sizes i small ∙ e) f
    ∙ ap (λ l. Some (sample x.description (x.at + total l) size duration)) (take-take i n sizes (omega arith))
    ∙ ap (λ k. Some (sample x.description (x.at + total (take k sizes)) size duration)) (sym zero_off)
    ∙ ap (λ (q : Chunk). Some (sample q.description (q.at + total (take (i - 0) sizes)) size duration)) same
sample-in (x ∷ cs) sizes times (suc c) i size duration chunk there begun ends e f len =
    let n = x.samples in
    let h = held_by (take c cs) in
    let one : held_by (x ∷ take c cs) ≡ n + h = sum_by-cons (λ (q : Chunk). q.samples) x (take c cs) in
    let within = slice_get_within sizes i size e in
    let k : length (take n sizes) ≡ n = length-take-le n sizes (omega (arith, one, begun, within)) in
    let front = samples_at x.description x.at (take n sizes) times in
    let m : length front ≡ n = length-samples_at x.description x.at (take n sizes) times (omega (arith, k, len, within, one, begun)) ∙ k in
    let le : n ≤ i = omega (arith, one, begun) in
    let rest = sample-in cs (drop n sizes) (drop n times) c (i - n) size duration chunk there (omega (arith, one, begun)) (omega (arith, one, ends, begun))
    (get-drop n i sizes le ∙ e) (get-drop n i times le ∙ f) (omega (arith, length-drop n sizes, length-drop n times, len)) in
    let off : (i - n) - h ≡ i - (n + h) = omega arith in
    get-behind front (samples_in cs (drop n sizes) (drop n times)) i (omega (arith, m, le))
    ∙ ap (λ q. slice_get (samples_in cs (drop n sizes) (drop n times)) (i - q)) m
    ∙ rest
    ∙ ap (λ l. Some (sample chunk.description (chunk.at + total (take ((i - n) - h) l)) size duration)) (drop-drop h n sizes)
    ∙ ap (λ q. Some (sample chunk.description (chunk.at + total (take q (drop (n + h) sizes))) size duration)) off
    ∙ ap (λ q. Some (sample chunk.description (chunk.at + total (take (i - q) (drop q sizes))) size duration)) (sym one)

-- the bytes between two samples
pub bytes-between : (sizes : List ℕ) (f i : ℕ) → f ≤ i → bytes_before sizes f + total (take (i - f) (drop f sizes)) ≡ bytes_before sizes i
bytes-between sizes f i le =
    let e : i ≡ f + (i - f) = omega arith in
    let whole = sum_by-take-drop (λ (n : ℕ). n) (take i sizes) f in
    let front : total (take f (take i sizes)) ≡ bytes_before sizes f = ap total (take-take f i sizes le) in
    let rest : total (drop f (take i sizes)) ≡ total (take (i - f) (drop f sizes)) = ap (λ n. total (drop f (take n sizes))) e ∙ ap total (drop-take f (i - f) sizes) in
    omega (arith, whole, front, rest)

pub bytes-rise : (sizes : List ℕ) (f i : ℕ) → f ≤ i → bytes_before sizes f ≤ bytes_before sizes i
bytes-rise sizes f i le = omega (arith, bytes-between sizes f i le)

-- the bytes of sizes below 2^32
pub bytes-fit : (sizes : List ℕ) (i : ℕ) → ((k : ℕ) → get_or sizes k 0 < 4294967296) → i ≤ length sizes → bytes_before sizes i ≤ 4294967295 * i
bytes-fit sizes zero small le = omega arith
bytes-fit sizes (suc i) small le =
    let e : i + 1 ≡ suc i = omega arith in
    let one : bytes_before sizes (suc i) ≡ bytes_before sizes i + get_or sizes i 0 = rw (← e) (sum_by_more (λ (n : ℕ). n) sizes i 0 (omega arith)) in
    omega (arith, one, small i, bytes-fit sizes i small (omega arith))

fields : (s : Sample) (description at size duration : ℕ) → s.description ≡ description → s.at ≡ at → s.size ≡ size → s.duration ≡ duration → sample description at size duration ≡ s
fields s description at size duration e f g h = rw (← e, ← f, ← g, ← h) refl

-- the sample that the code returns is sample i
pub sample-is : (cs : List Chunk) (sizes times : List ℕ) (c i from : ℕ) (chunk : Chunk) (s : Sample) → slice_get cs c ≡ Some chunk → from ≡ held_by (take c cs) → from ≤ i → i < from + chunk.samples
    → i < length sizes → length times ≡ length sizes → slice_get times i ≡ Some s.duration
    → s.at ≡ chunk.at + total (take (i - from) (drop from sizes)) → s.size ≡ get_or sizes i 0 → s.description ≡ chunk.description
    → slice_get (samples_in cs sizes times) i ≡ Some s
sample-is cs sizes times c i from chunk s there first begun ends within len duration at size description =
    let place : s.at ≡ chunk.at + total (take (i - held_by (take c cs)) (drop (held_by (take c cs)) sizes)) = rw (← first) at in
    sample-in cs sizes times c i (get_or sizes i 0) s.duration chunk there (omega (arith, first, begun)) (omega (arith, first, ends)) (slice_get-get_or sizes i 0 within) duration len
    ∙ ap Some (fields s chunk.description (chunk.at + total (take (i - held_by (take c cs)) (drop (held_by (take c cs)) sizes))) (get_or sizes i 0) s.duration description place size refl)
