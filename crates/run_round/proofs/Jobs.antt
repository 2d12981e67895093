-- Facts of a run whose input stands for pictures.
use Rattle.std.proofs.Common.{◌≡◌, refl, ℕ, ◌*◌, ◌≤◌, ◌^◌, ◌<◌, Bool, true, Option, None, Some, Result, Ok, Err, List, length, arith, sym, ap, subst, ◌∙◌}
use Rattle.std.specs.Prelude.{IfSome, is_none, nat_le, ◌&&◌}
use Rattle.std.specs.List.{All}
use Rattle.std.proofs.lemmas.Bool.{leb-true}
use Rattle.pw_outside.specs.Reading.{Fault, bind}
use Rattle.pic_y4m.specs.declared.head.Head.{Head}
use Rattle.pic_y4m.specs.declared.fault.PictureKind.{PictureKind}
use Rattle.pic_y4m.specs.Frames.{Pictures}
use Rattle.pic_y4m.specs.HeadLine.{IsHead}
use Rattle.pic_raw.specs.Any.{pictures_of, PicturesHaveForm}
use Rattle.pr_geom.specs.Slices.{pictures_of as pictures_in}
use Rattle.pr_geom.specs.Faults.{first_fault, slice_count}
use Rattle.pr_quant.specs.Matrices.{IsWeight, NamedWeightsAreInRange}
use Rattle.rate_cert.specs.Files.{IsFormat}
use Rattle.run_encode.specs.declared.job.Job.{Job}
use Rattle.run_encode.specs.declared.job.EncodeWords.{EncodeWords}
use Rattle.run_encode.specs.Groups.{AreWords, IsJob, IsJobOf, ArePictures, frame_slices}
use Rattle.run_encode.proofs.Layouts.{laid, weights-number}
use Rattle.run_round.specs.Laws.{IsInput}
use Rattle.run_round.proofs.Heads.{y4m-head}

no-fault : {F : Type 0} (o : Option F) (test : Bool) → (is_none o && test) ≡ true → (o ≡ None) × (test ≡ true)
no-fault None test e = (refl, e)
no-fault (Some f) test e = absurd cc

abbrev head-or : Head → Result (Head × Pictures) (Fault PictureKind) → Head
head-or other (Ok x) = x.0
head-or other (Err f) = other

-- raw pictures have the stated format
pub raw-head : (form head : Head) (bytes : List ℕ) (ps : Pictures) → pictures_of (Some form) bytes ≡ Ok (head, ps) → form ≡ head
unfolding pictures_of bind
raw-head form head bytes ps e = ap (head-or head) e

head-is : (raw : Option Head) (head : Head) (bytes : List ℕ) (ps : Pictures) → IfSome raw IsHead → pictures_of raw bytes ≡ Ok (head, ps) → IsHead head
head-is None head bytes ps h e = y4m-head head bytes ps e
head-is (Some form) head bytes ps h e = subst IsHead (raw-head form head bytes ps e) h

module _ (named : NamedWeightsAreInRange) (w : EncodeWords) (bytes : List ℕ) (head : Head) (ps : Pictures) (j : Job) (input : IsInput w bytes head ps j) where
  abbrev of : IsJobOf w head j
  of = input.job

  abbrev words : AreWords w
  words = input.words

  tests : (first_fault head.width head.height w.log2 head.interlace ≡ None)
      × (nat_le (w.group * (pictures_in head.interlace * slice_count head.width head.height w.log2 head.interlace)) 131070 ≡ true)
  tests = no-fault (first_fault head.width head.height w.log2 head.interlace) _ input.laid

  slices-are : w.group * (pictures_in head.interlace * slice_count head.width head.height w.log2 head.interlace) ≡ j.group * frame_slices j
  slices-are =
      let l = laid j.layout head.width head.height w.log2 head.interlace head.chroma of.layout in
      λ i. sym of.group i * (pictures_in (sym of.layout.interlace i) * sym l i)

  pub is-job : IsJob j
  is-job = record {
    head = subst IsHead (sym of.head) (head-is w.raw head bytes ps words.raw input.meant);
    layout = record {
      width = of.layout.width ∙ ap (λ (h : Head). h.width) (sym of.head);
      height = of.layout.height ∙ ap (λ (h : Head). h.height) (sym of.head);
      log2 = refl;
      interlace = of.layout.interlace ∙ ap (λ (h : Head). h.interlace) (sym of.head);
      chroma = of.layout.chroma ∙ ap (λ (h : Head). h.chroma) (sym of.head);
    };
    no_fault = subst (λ (h : Head). first_fault h.width h.height j.layout.log2 h.interlace ≡ None) (sym of.head)
        (subst (λ n. first_fault head.width head.height n head.interlace ≡ None) (sym of.layout.log2) tests.0);
    log2 = subst (λ n. n ≤ 3) (sym of.layout.log2) words.log2;
    matrices = record { luma = ap length of.luma ∙ weights-number w.matrix; chroma = ap length of.chroma ∙ weights-number w.matrix };
    weights = record { luma = subst (All IsWeight) (sym of.luma) (named w.matrix); chroma = subst (All IsWeight) (sym of.chroma) (named w.matrix) };
    least = subst (λ n. 1 ≤ n) (sym of.lo) words.least;
    order = let lo = of.lo in let hi = of.hi in let le = words.order in omega (arith, lo, hi, le);
    most = subst (λ n. n ≤ 224) (sym of.hi) words.most;
    some_budget = subst (λ n. 1 ≤ n) (sym of.budget) words.some_budget;
    some_group = subst (λ n. 1 ≤ n) (sym of.group) words.some_group;
    small_group = subst (λ n. n ≤ 8) (sym of.group) words.small_group;
    budget = let same : j.group * j.budget ≡ w.group * w.budget = (λ i. of.group i * of.budget i) in subst (λ n. n < 2 ^ 31) (sym same) words.budget;
    slices = subst (λ n. n ≤ 131070) slices-are (leb-true (w.group * (pictures_in head.interlace * slice_count head.width head.height w.log2 head.interlace)) 131070 tests.1);
    format = subst IsFormat (sym of.format) words.format;
  }

  pub are-pictures : PicturesHaveForm → ArePictures j.head ps
  are-pictures law =
      let h = law w.raw bytes head ps input.meant in
      subst (λ (x : Head). ArePictures x ps) (sym of.head) (record { each = h.0; few = h.1 })
