-- The pictures of a run have a layout, and their bytes stand for them.
use Rattle.std.proofs.Common.{◌≡◌, ℕ, ◌+◌, ◌*◌, ◌/◌, ◌%◌, ◌≤◌, leb, true, List, length, None, sym, ap, ◌∙◌, subst, arith, length-append, ◌++◌, replicate}
use Rattle.std.specs.Prelude.{is_none}
use Rattle.std.proofs.lemmas.Bool.{le-leb, and_from}
use Rattle.std.proofs.lemmas.List.{length-replicate}
use Rattle.std.proofs.lemmas.Nat.{mul-le}
use Rattle.pw_planes.specs.declared.kinds.Interlace.TheVariants.{Progressive}
use Rattle.pr_geom.specs.Slices.{macroblocks, row_widths}
use Rattle.pr_geom.specs.Faults.{slice_count, first_fault}
use Rattle.pr_geom.proofs.FaultLemmas.{no_fault}
use Rattle.pr_geom.proofs.SliceLemmas.{length-picture_slices}
use Rattle.pic_synth.specs.Pictures.{IsSynthetic, SyntheticIsMeant, synthetic_pictures}
use Rattle.run_encode.specs.declared.job.Job.{Job}
use Rattle.run_encode.specs.Groups.{AreWords, IsJobOf, has_layout, group_count}
use Rattle.run_round.specs.Laws.{IsInput}
use Rattle.run_synth.specs.declared.words.SynthWords.{SynthWords}
use Rattle.run_synth.specs.Synthesis.{AreSynthWords, encode_words, head_in, pictures_read, synthetic_in}
use Rattle.run_synth.specs.inner.Parts.{bytes_in}

-- a row of slices of eight macroblocks
four : (a b c d : List ℕ) → length (a ++ (b ++ (c ++ d))) ≡ length a + (length b + (length c + length d))
four a b c d = simp length-append

widths-few : (columns : ℕ) → columns ≤ 512 → length (row_widths columns 3) ≤ 67
widths-few columns few =
    let a : List ℕ = replicate (columns / 8) 8 in
    let b : List ℕ = replicate (columns % 8 / 4) 4 in
    let c : List ℕ = replicate (columns % 8 % 4 / 2) 2 in
    let d : List ℕ = replicate (columns % 8 % 4 % 2) 1 in
    let la : length a ≡ columns / 8 = length-replicate (columns / 8) 8 in
    let lb : length b ≡ columns % 8 / 4 = length-replicate (columns % 8 / 4) 4 in
    let lc : length c ≡ columns % 8 % 4 / 2 = length-replicate (columns % 8 % 4 / 2) 2 in
    let ld : length d ≡ columns % 8 % 4 % 2 = length-replicate (columns % 8 % 4 % 2) 1 in
    let whole : length (row_widths columns 3) ≡ length a + (length b + (length c + length d)) = four a b c d in
    omega (arith, whole, few, la, lb, lc, ld)

product-few : (a b : ℕ) → a ≤ 270 → b ≤ 67 → a * b ≤ 18090
product-few a b p q = grind (arith, mul-le a b 270 67 p q)

slices-few : (width height : ℕ) → width ≤ 8192 → height ≤ 4320 → slice_count width height 3 Progressive ≤ 18090
unfolding slice_count
slices-few width height columns rows =
    let e = length-picture_slices (macroblocks (height / 1)) (macroblocks width) 3 in
    let few = product-few (macroblocks (height / 1)) (length (row_widths (macroblocks width) 3)) (omega (arith, rows)) (widths-few (macroblocks width) (omega (arith, columns))) in
    subst (λ n. n ≤ 18090) (sym e) few

pub laid : (w : SynthWords) → AreSynthWords w → has_layout (encode_words w) (head_in w) ≡ true
laid w ok =
    let few = slices-few w.width w.height ok.columns ok.rows in
    let none : first_fault w.width w.height 3 Progressive ≡ None = no_fault w.width w.height 3 Progressive (record {
      some_columns = ok.some_columns;
      some_rows = ok.some_rows;
      columns = ok.columns;
      rows = ok.rows;
      size = omega arith;
      whole = omega arith;
      slices = omega (arith, few);
    }) in
    and_from (is_none (first_fault w.width w.height 3 Progressive)) (leb (1 * (1 * slice_count w.width w.height 3 Progressive)) 131070) (ap is_none none) (le-leb _ _ (omega (arith, few)))

pub synthetic-ok : (w : SynthWords) → AreSynthWords w → IsSynthetic (synthetic_in w)
synthetic-ok w ok = record { some_columns = ok.some_columns; columns = ok.columns; some_rows = ok.some_rows; rows = ok.rows; frames = ok.frames }

pub words-ok : (w : SynthWords) → AreSynthWords w → AreWords (encode_words w)
words-ok w ok = record {
  some_budget = ok.some_budget;
  least = omega arith;
  order = omega arith;
  most = omega arith;
  log2 = omega arith;
  raw = record {
    some_columns = ok.some_columns;
    columns = ok.columns;
    some_rows = ok.some_rows;
    rows = ok.rows;
    fields = λ t. absurd cc;
    some_num = omega arith;
    num = omega arith;
    some_den = omega arith;
    den = omega arith;
  };
  some_group = omega arith;
  small_group = omega arith;
  budget = omega (arith, ok.budget);
  format = (omega arith, omega arith);
}

pub input : (w : SynthWords) (j : Job) → AreSynthWords w → SyntheticIsMeant → IsJobOf (encode_words w) (head_in w) j → IsInput (encode_words w) (bytes_in w) (head_in w) (pictures_read w) j
input w j ok meant of = record {
  words = words-ok w ok;
  meant = meant (synthetic_in w) (synthetic-ok w ok);
  laid = laid w ok;
  job = of;
}

-- each picture is a group
pub groups-are : (w : SynthWords) (j : Job) → IsJobOf (encode_words w) (head_in w) j → group_count j.group (pictures_read w) ≡ length (synthetic_pictures (synthetic_in w))
groups-are w j of = ap (λ n. group_count n (pictures_read w)) of.group ∙ omega arith
