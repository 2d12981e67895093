-- Lists of coded blocks, slices and pictures that are compared one by one.
use Rattle.std.proofs.Common.{◌≡◌, refl, ℕ, zero, suc, ◌+◌, ◌-◌, ◌*◌, ◌<◌, List, [], ◌∷◌, length, map, take, drop, get_or, ℤ, pos, ap, sym, subst, ◌∙◌, arith, ⊎_elim}
use Rattle.std.specs.Prelude.{IsTrue, ◌↔◌, Bool, true, false}
use Rattle.std.specs.Bool.{Decides}
use Rattle.rate_check.proofs.Answered.{yes, no}
use Rattle.std.specs.List.{range_with_len}
use Rattle.std.proofs.lemmas.Bool.{cases_lt}
use Rattle.std.proofs.lemmas.List.{ext_get_or, same_lists, get_or-map, length-map}
use Rattle.std.proofs.lemmas.List.FromFn.{get_or-map-range_with_len, length-map-range_with_len}
use Rattle.pr_geom.specs.Layout.{slices_of}
use Rattle.pr_geom.specs.Slices.{pictures_of}
use Rattle.pr_quant.specs.declared.weights.Weights.{Weights}
use Rattle.pr_quant.specs.Errors.{multipliers}
use Rattle.pr_quant.specs.Quantised.{quantised}
use Rattle.pr_head.specs.declared.frame.FrameHeader.{FrameHeader}
use Rattle.pr_frame.specs.declared.coded.CodedSlice.{CodedSlice}
use Rattle.pr_frame.specs.declared.coded.CodedPicture.{CodedPicture}
use Rattle.pr_frame.specs.declared.coded.CodedFrame.{CodedFrame}
use Rattle.rate_build.specs.declared.slices.SliceCoefficients.{SliceCoefficients}
use Rattle.rate_build.specs.Measures.{quantised_block, quantised_part}
use Rattle.rate_build.specs.Coefficients.{FrameCoefficients}
use Rattle.rate_build.specs.Coding.{coded_slice, coded_slices, coded_picture, coded_frame, weights_in}
use Rattle.rate_build.proofs.Chosen.{picture_is}
pub use Rattle.rate_build.proofs.Lengths.{coded_number}
use Rattle.rate_build.proofs.Straight.{coded_at}

-- a test that decides
pub decided : {P : Type 0} (b : Bool) → Decides b P → IsTrue b ↔ P
decided true d = yes (d.0 refl)
decided false d = no (λ p. let f : false ≡ true = d.1 p in absurd cc)

-- one more
pub step : (P : ℕ → Type 0) (n : ℕ) → ((k : ℕ) → k < n → P k) → P n → (k : ℕ) → k < n + 1 → P k
step P n before here k l = ⊎_elim (λ m. before k m) (λ m. let e : n ≡ k = omega (arith, l, m) in subst P e here) (cases_lt k n)

-- ---- blocks

pub block_at : (ms : List ℕ) (block coded : List ℤ) (k : ℕ) → k < 64 → coded ≡ quantised_block ms block → get_or coded k (pos 0) ≡ quantised (get_or block k (pos 0)) (get_or ms k 0)
unfolding quantised_block
block_at ms block coded k l e = ap (λ b. get_or b k (pos 0)) e ∙ get_or-map-range_with_len (λ p. quantised (get_or block p (pos 0)) (get_or ms p 0)) 0 64 k k (pos 0) l (omega arith)

pub part_whole : (weights : List ℕ) (index : ℕ) (blocks coded : List (List ℤ)) (ms : List ℕ) → ms ≡ multipliers weights index → length coded ≡ length blocks
    → ((k : ℕ) → k < length blocks → get_or coded k [] ≡ quantised_block ms (get_or blocks k [])) → coded ≡ quantised_part weights index blocks
unfolding quantised_part
part_whole weights index blocks coded ms is number each =
    ext_get_or [] coded (map (quantised_block ms) blocks) (number ∙ sym (length-map blocks (quantised_block ms)))
    (λ k l. each k (omega (arith, l, number)) ∙ sym (get_or-map (quantised_block ms) blocks k [] [] (omega (arith, l, number))))
    ∙ ap (λ (ms : List ℕ). map (quantised_block ms) blocks) is

pub part_at : (weights : List ℕ) (index : ℕ) (blocks coded : List (List ℤ)) (ms : List ℕ) (k : ℕ) → ms ≡ multipliers weights index → k < length blocks
    → coded ≡ quantised_part weights index blocks → get_or coded k [] ≡ quantised_block ms (get_or blocks k [])
unfolding quantised_part
part_at weights index blocks coded ms k is l e =
    ap (λ bs. get_or bs k []) (e ∙ sym (ap (λ (ms : List ℕ). map (quantised_block ms) blocks) is)) ∙ get_or-map (quantised_block ms) blocks k [] [] l

pub part_number : (weights : List ℕ) (index : ℕ) (blocks coded : List (List ℤ)) → coded ≡ quantised_part weights index blocks → length coded ≡ length blocks
unfolding quantised_part
part_number weights index blocks coded e = ap length e ∙ length-map blocks (quantised_block (multipliers weights index))

-- ---- slices

pub slice_is : (w : Weights) (index : ℕ) (s : SliceCoefficients) (x : CodedSlice) → x.index ≡ index → x.y ≡ quantised_part w.luma index s.y → x.cb ≡ quantised_part w.chroma index s.cb
    → x.cr ≡ quantised_part w.chroma index s.cr → x.alpha ≡ s.alpha → x ≡ coded_slice w index s
slice_is w index s x a b c d e = λ i. record { index = a i; y = b i; cb = c i; cr = d i; alpha = e i }

pub coded_whole : (w : Weights) (slices : List SliceCoefficients) (choice : List ℕ) (coded : List CodedSlice) → length choice ≡ length slices → length coded ≡ length slices
    → ((k : ℕ) (d : SliceCoefficients) (x : CodedSlice) → k < length slices → get_or coded k x ≡ coded_slice w (get_or choice k 0) (get_or slices k d)) → coded ≡ coded_slices w slices choice
coded_whole w slices choice coded number long each =
    same_lists coded (coded_slices w slices choice) (long ∙ sym (coded_number w slices choice number))
    (λ k x l. by_slices slices refl k x (omega (arith, l, long)))
  where
    by_slices : (all : List SliceCoefficients) → all ≡ slices → (k : ℕ) (x : CodedSlice) → k < length slices → get_or coded k x ≡ get_or (coded_slices w slices choice) k x
    by_slices [] e k x l = absurd (omega (arith, l, ap length e))
    by_slices (d ∷ all) e k x l = each k d x l ∙ sym (coded_at w slices choice k d x number l)

-- ---- pictures

pub picture_same : (c : FrameCoefficients) (h : FrameHeader) (choice : List ℕ) (picture count place : ℕ) (slices : List SliceCoefficients) (x : CodedPicture)
    → length choice ≡ length c.slices → count ≡ length (slices_of c.layout) → place ≡ picture → slices ≡ c.slices → x.log2 ≡ c.layout.log2
    → (x.slices ≡ coded_slices (weights_in h) (take (count * place + count - count * place) (drop (count * place) slices)) (take (count * place + count - count * place) (drop (count * place) choice)))
    ↔ (x ≡ coded_picture c (coded_slices (weights_in h) c.slices choice) picture)
picture_same c h choice picture count place slices x number count_is place_is slices_are log2 =
    let these = coded_slices (weights_in h) (take (count * place + count - count * place) (drop (count * place) slices)) (take (count * place + count - count * place) (drop (count * place) choice)) in
    let whole : CodedPicture = record { log2 = c.layout.log2; slices = x.slices } in
    let same : x ≡ whole = λ i. record { log2 = log2 i; slices = x.slices } in (
      (λ made. same ∙ picture_is c h choice picture count place slices x.slices number count_is place_is slices_are made),
      (λ e. ap (λ (y : CodedPicture). y.slices) e ∙ sym (ap (λ (y : CodedPicture). y.slices) (picture_is c h choice picture count place slices these number count_is place_is slices_are refl))),
    )

pub frame_at : (c : FrameCoefficients) (h : FrameHeader) (choice : List ℕ) (f : CodedFrame) (k : ℕ) (d : CodedPicture) → k < pictures_of c.layout.interlace → f ≡ coded_frame c h choice
    → get_or f.pictures k d ≡ coded_picture c (coded_slices (weights_in h) c.slices choice) k
frame_at c h choice f k d l e =
    ap (λ (x : CodedFrame). get_or x.pictures k d) e
    ∙ get_or-map-range_with_len (coded_picture c (coded_slices (weights_in h) c.slices choice)) 0 (pictures_of c.layout.interlace) k k d l (omega arith)

pub frame_whole : (c : FrameCoefficients) (h : FrameHeader) (choice : List ℕ) (f : CodedFrame) → f.header ≡ h → length f.pictures ≡ pictures_of c.layout.interlace
    → ((k : ℕ) (d : CodedPicture) → k < pictures_of c.layout.interlace → get_or f.pictures k d ≡ coded_picture c (coded_slices (weights_in h) c.slices choice) k) → f ≡ coded_frame c h choice
frame_whole c h choice f header number each =
    let n = pictures_of c.layout.interlace in
    let p = coded_picture c (coded_slices (weights_in h) c.slices choice) in
    let pictures : f.pictures ≡ map p (range_with_len 0 n) =
    same_lists f.pictures (map p (range_with_len 0 n)) (number ∙ sym (length-map-range_with_len p 0 n))
    (λ k d l. each k d (omega (arith, l, number)) ∙ sym (get_or-map-range_with_len p 0 n k k d (omega (arith, l, number)) (omega arith))) in
    λ i. record { header = header i; pictures = pictures i }
