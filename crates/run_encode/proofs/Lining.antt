-- The lines of a group's frames, one by one.
use Rattle.std.proofs.Common.{◌≡◌, ℕ, suc, ◌+◌, ◌*◌, ◌<◌, ◌≤◌, drop-cons, List, [], ◌∷◌, ◌++◌, arith, length, map, take, drop, ap, sym, ◌∙◌, append_assoc, append-nil}
use Rattle.std.specs.List.{All}
use Rattle.std.proofs.lemmas.List.{take-map, drop-map, drop-drop, length-map, length-drop, drop_all}
use Rattle.std.proofs.lemmas.List.Elements.{recursion_from_All}
use Rattle.std.proofs.lemmas.Nat.{mul-le}
use Rattle.std.proofs.lemmas.Slice.Zip.{AllZip-long}
use Rattle.pw_outside.proofs.Lists.{zip-take, zip-drop}
use Rattle.rate_table.specs.declared.entry.Entry.{Entry}
use Rattle.rate_table.specs.Table.{Table, IsChoice, size_of, error_of, indices}
use Rattle.rate_build.specs.Coefficients.{FrameCoefficients}
use Rattle.rate_build.specs.Groups.{shares}
use Rattle.rate_build.specs.Tables.{fixed_bytes}
use Rattle.run_encode.specs.declared.job.Job.{Job}
use Rattle.run_encode.specs.Groups.{IsFrameOf, frame_slices, table_of_group}
use Rattle.run_encode.specs.Encoding.{frame_line, part_lines}
use Rattle.run_encode.proofs.Grouped.{table-number}

-- the line of each frame from one on
abbrev pub lines-left : Job → ℕ → ℕ → ℕ → List FrameCoefficients → List Entry → List ℕ
lines-left j number n k frames entries = part_lines j (number + k) (map (λ p. p.1) (shares n (drop k frames) (drop (n * k) entries)))

-- The lines so far are those of the first frames, for every choice with these indices.
abbrev pub AreFirstLines : Job → ℕ → ℕ → ℕ → List FrameCoefficients → List (List Entry) → List ℕ → List ℕ → Type 0
AreFirstLines j number n k frames slices chosen lines = (entries : List Entry) → IsChoice slices entries → indices entries ≡ chosen
    → lines ++ lines-left j number n k frames entries ≡ part_lines j number (map (λ p. p.1) (shares n frames entries))

-- the line of the next frame, and those after it
first-line : (j : Job) (number n k : ℕ) (frames : List FrameCoefficients) (entries : List Entry) → k < length frames
    → lines-left j number n k frames entries
    ≡ frame_line (number + k) (fixed_bytes j.layout + size_of (take n (drop (n * k) entries))) (error_of (take n (drop (n * k) entries)))
    ++ part_lines j ((number + k) + 1) (map (λ p. p.1) (shares n (drop (suc k) frames) (drop n (drop (n * k) entries))))
first-line j number n k [] entries lt = absurd (omega (arith, lt))
first-line j number n k (f ∷ fs) entries lt = ap (λ cs. part_lines j (number + k) (map (λ p. p.1) (shares n cs (drop (n * k) entries)))) (drop-cons (f ∷ fs) k f lt)

module _ (j : Job) (number n : ℕ) (frames : List FrameCoefficients) where
  pub no-lines : (slices : List (List Entry)) (chosen : List ℕ) → AreFirstLines j number n 0 frames slices chosen []
  no-lines slices chosen entries is has =
      let z : n * 0 ≡ 0 = omega arith in
      let m : number + 0 ≡ number = omega arith in
      ap (λ i. part_lines j (number + 0) (map (λ p. p.1) (shares n frames (drop i entries)))) z ∙ ap (λ i. part_lines j i (map (λ p. p.1) (shares n frames entries))) m

  pub all-lines : (k m : ℕ) (slices : List (List Entry)) (chosen lines : List ℕ) → n ≡ m → length frames ≤ k → AreFirstLines j number n k frames slices chosen lines
      → (entries : List Entry) → IsChoice slices entries → indices entries ≡ chosen → lines ≡ part_lines j number (map (λ p. p.1) (shares m frames entries))
  all-lines k m slices chosen lines same le so entries is has =
      sym (append-nil lines) ∙ ap (λ fs. lines ++ part_lines j (number + k) (map (λ p. p.1) (shares n fs (drop (n * k) entries)))) (sym (drop_all k frames le)) ∙ so entries is has
      ∙ ap (λ i. part_lines j number (map (λ p. p.1) (shares i frames entries))) same

  pub line-more : (k : ℕ) (slices : List (List Entry)) (chosen lines lines' : List ℕ) (size error : ℕ) → k < length frames → AreFirstLines j number n k frames slices chosen lines
      → ((entries : List Entry) → IsChoice (take n (drop (n * k) slices)) entries → indices entries ≡ take n (drop (n * k) chosen) → size ≡ size_of entries)
      → ((entries : List Entry) → IsChoice (take n (drop (n * k) slices)) entries → indices entries ≡ take n (drop (n * k) chosen) → error ≡ error_of entries)
      → lines' ≡ lines ++ frame_line (number + k) (fixed_bytes j.layout + size) error → AreFirstLines j number n (k + 1) frames slices chosen lines'
  line-more k slices chosen lines lines' size error lt so sizes errors e entries is has =
      let here = take n (drop (n * k) entries) in
      let is-here : IsChoice (take n (drop (n * k) slices)) here = zip-take _ n (drop (n * k) slices) (drop (n * k) entries) (zip-drop _ (n * k) slices entries is) in
      let has-here : indices here ≡ take n (drop (n * k) chosen) =
      sym (take-map (λ (x : Entry). x.index) n (drop (n * k) entries)) ∙ ap (take n) (sym (drop-map (λ (x : Entry). x.index) (n * k) entries) ∙ ap (drop (n * k)) has) in
      let line = frame_line (number + k) (fixed_bytes j.layout + size_of here) (error_of here) in
      let one : suc k ≡ k + 1 = omega arith in
      let next : n * k + n ≡ n * (k + 1) = omega arith in
      let after : (number + k) + 1 ≡ number + (k + 1) = omega arith in
      let rest : part_lines j ((number + k) + 1) (map (λ p. p.1) (shares n (drop (suc k) frames) (drop n (drop (n * k) entries)))) ≡ lines-left j number n (k + 1) frames entries =
      λ i. part_lines j (after i) (map (λ p. p.1) (shares n (drop (one i) frames) ((drop-drop n (n * k) entries ∙ ap (λ m. drop m entries) next) i))) in
      let left : lines-left j number n k frames entries ≡ line ++ lines-left j number n (k + 1) frames entries =
      first-line j number n k frames entries lt ∙ ap (λ l. line ++ l) rest in
      let this : frame_line (number + k) (fixed_bytes j.layout + size) error ≡ line = λ i. frame_line (number + k) (fixed_bytes j.layout + sizes here is-here has-here i) (errors here is-here has-here i) in
      ap (λ l. l ++ lines-left j number n (k + 1) frames entries) (e ∙ ap (λ l. lines ++ l) this)
      ∙ append_assoc lines line (lines-left j number n (k + 1) frames entries) ∙ ap (λ l. lines ++ l) (sym left) ∙ so entries is has

-- ---- a frame's part

module _ (j : Job) (frames : List FrameCoefficients) (t : Table) (n k : ℕ) (is : All (IsFrameOf j) frames) (table : t ≡ table_of_group j frames) (count : n ≡ frame_slices j) (lt : k < length frames) where
  behind-here : n * k + n ≤ length t.slices
  behind-here =
      let number : length t.slices ≡ length frames * frame_slices j = ap (λ (x : Table). length x.slices) table ∙ table-number j frames (recursion_from_All (IsFrameOf j) frames is) in
      let le = mul-le (k + 1) n (length frames) n (omega arith) (omega arith) in
      let next : n * k + n ≡ (k + 1) * n = omega arith in
      let same : length frames * n ≡ length frames * frame_slices j = ap (λ m. length frames * m) count in
      omega (arith, number, le, next, same)

  pub enough-slices : (slices : List (List Entry)) → slices ≡ drop (n * k) t.slices → n ≤ length slices
  enough-slices slices e = let h = behind-here in omega (arith, h, ap length e, length-drop (n * k) t.slices)

  pub enough-choice : (chosen part : List ℕ) (entries : List Entry) → IsChoice t.slices entries → indices entries ≡ chosen → part ≡ drop (n * k) chosen → n ≤ length part
  enough-choice chosen part entries choice has e =
      let h = behind-here in
      let same : length chosen ≡ length t.slices = ap length (sym has) ∙ length-map entries (λ (x : Entry). x.index) ∙ AllZip-long _ t.slices entries choice in
      omega (arith, h, same, ap length e, length-drop (n * k) chosen)

  -- a part of a choice has the same part of its indices
  pub part-here : (chosen : List ℕ) (entries : List Entry) → IsChoice t.slices entries → indices entries ≡ chosen
      → (part : List Entry) × IsChoice (take n (drop (n * k) t.slices)) part × (indices part ≡ take n (drop (n * k) chosen))
  part-here chosen entries choice has = (
    take n (drop (n * k) entries),
    zip-take _ n (drop (n * k) t.slices) (drop (n * k) entries) (zip-drop _ (n * k) t.slices entries choice),
    sym (take-map (λ (x : Entry). x.index) n (drop (n * k) entries)) ∙ ap (take n) (sym (drop-map (λ (x : Entry). x.index) (n * k) entries) ∙ ap (drop (n * k)) has),
  )

pub behind-next : {A : Type 0} (n k : ℕ) (xs rest all : List A) → xs ≡ drop (n * k) all → rest ≡ drop n xs → rest ≡ drop (n * (k + 1)) all
behind-next n k xs rest all e f =
    let next : n * k + n ≡ n * (k + 1) = omega arith in
    f ∙ ap (drop n) e ∙ drop-drop n (n * k) all ∙ ap (λ m. drop m all) next

pub from-first : {A : Type 0} (n : ℕ) (xs : List A) → xs ≡ drop (n * 0) xs
from-first n xs = let z : n * 0 ≡ 0 = omega arith in ap (λ m. drop m xs) (sym z)
