use Rattle.std.proofs.Common.{◌≡◌, refl, sym, ap, subst, ◌∙◌, ◌*◌, ◌≤◌, length, None}
use Rattle.std.specs.List.{All}
use Rattle.pr_geom.specs.Faults.{first_fault}
use Rattle.pr_geom.specs.Slices.{pictures_of}
use Rattle.pr_geom.specs.Layout.{slices_of}
use Rattle.pr_quant.specs.Matrices.{IsWeight}
use Rattle.run_encode.proofs.Layouts.{laid, few-enough, too-many, weights-number}
use Rattle.run_encode.proofs.run.job_of.Goals as goal

pub returns-then-from-slices-gt-MAX_TABLE_SLICES-clause-none : goal.returns-then-from-slices-gt-MAX_TABLE_SLICES-clause-none
returns-then-from-slices-gt-MAX_TABLE_SLICES-clause-none c =
    let is = c.in-Ok.ensures.layout in
    let l = laid c.in-Ok.layout _ _ _ _ _ is in
    too-many _ _ _ c.in-Ok.ensures.fault
    (λ i. c.from-2.ensures i * (((c.from.ensures ∙ c.pictures.ensures ∙ ap pictures_of is.interlace) i) * ((c.slices.ensures.value ∙ l) i)))
    c.if-from-slices-gt-MAX_TABLE_SLICES.true

pub returns-clause-some : goal.returns-clause-some
returns-clause-some c =
    let is = c.in-Ok.ensures.layout in
    let l = laid c.in-Ok.layout _ _ _ _ _ is in
    let words = c.requires.words in
    let named = c.named_weights_are_in_range.ensures c.args.words.now.matrix in
    let slices : c.from-2.result * (c.from.result * c.slices.result) ≡ c.args.words.now.group * (pictures_of c.in-Ok.layout.interlace * length (slices_of c.in-Ok.layout)) =
    λ i. c.from-2.ensures i * (((c.from.ensures ∙ c.pictures.ensures) i) * (c.slices.ensures.value i)) in (
      record {
        head = c.requires.head;
        layout = record { width = is.width; height = is.height; log2 = refl; interlace = is.interlace; chroma = is.chroma };
        no_fault = subst (λ n. first_fault c.args.head.now.width c.args.head.now.height n c.args.head.now.interlace ≡ None) (sym is.log2) (sym c.in-Ok.ensures.fault);
        log2 = subst (λ n. n ≤ 3) (sym is.log2) words.log2;
        matrices = record { luma = ap length c.named.ensures.luma ∙ weights-number _; chroma = ap length c.named.ensures.chroma ∙ weights-number _ };
        weights = record { luma = subst (All IsWeight) (sym c.named.ensures.luma) named; chroma = subst (All IsWeight) (sym c.named.ensures.chroma) named };
        least = words.least;
        order = words.order;
        most = words.most;
        some_budget = words.some_budget;
        some_group = words.some_group;
        small_group = words.small_group;
        budget = words.budget;
        slices = subst (λ n. n ≤ 131070) slices c.if-from-slices-gt-MAX_TABLE_SLICES.false;
        format = words.format;
      },
      record { head = refl; layout = is; luma = c.named.ensures.luma; chroma = c.named.ensures.chroma; lo = refl; hi = refl; budget = refl; group = refl; raw = c.is_some.ensures; format = refl },
      few-enough _ _ _ c.in-Ok.ensures.fault
          (λ i. c.from-2.ensures i * (((c.from.ensures ∙ c.pictures.ensures ∙ ap pictures_of is.interlace) i) * ((c.slices.ensures.value ∙ l) i)))
          c.if-from-slices-gt-MAX_TABLE_SLICES.false,
    )
