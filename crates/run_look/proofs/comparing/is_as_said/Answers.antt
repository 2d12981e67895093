use Rattle.std.proofs.Common.{◌≡◌, ◌/◌, subst, sym, ◌∙◌}
use Rattle.std.specs.List.{All}
use Rattle.pr_frame.specs.declared.coded.CodedPicture.{CodedPicture}
use Rattle.rate_check.proofs.Answered.{granted}
use Rattle.run_look.specs.Checking.{frames_in}
use Rattle.run_look.specs.Agreeing.{slices_in, HasSize}
use Rattle.run_look.proofs.Parts.{one_part}
use Rattle.run_look.proofs.comparing.is_as_said.Goals as goal

pub returns : goal.returns
returns c =
    let s = c.args.settings.now in
    let r = c.args.group.now in
    let part = c.in-Some.part.now in
    let to : HasSize c.slices_for.result.now part c.share_of-share.result c.args.size → HasSize (slices_in s r c.args.k) part (r.table.fixed / frames_in s r) c.args.size =
    λ h. subst (λ n. HasSize (slices_in s r c.args.k) part n c.args.size) c.share_of-share.ensures (subst (λ l. HasSize l part c.share_of-share.result c.args.size) c.slices_for.ensures.value h) in
    let from : HasSize (slices_in s r c.args.k) part (r.table.fixed / frames_in s r) c.args.size → HasSize c.slices_for.result.now part c.share_of-share.result c.args.size =
    λ h. subst (λ l. HasSize l part c.share_of-share.result c.args.size) (sym c.slices_for.ensures.value) (subst (λ n. HasSize (slices_in s r c.args.k) part n c.args.size) (sym c.share_of-share.ensures) h) in (
      (λ t. record {
        header = granted c.same_header.result c.same_header.ensures c.if-not-same_header.false ∙ c.header_for.ensures;
        slicing = subst (All (λ (x : CodedPicture). x.log2 ≡ s.log2)) c.as_slice.ensures (granted c.have_slicing.result c.have_slicing.ensures c.if-not-have_slicing.false);
        part = part;
        said = c.in-Some.ensures.some;
        sized = to (c.has_size.ensures.0 t);
        indices_are = sym c.in_ok-indices.ensures ∙ sym c.as_slice-2.ensures.value ∙ granted c.same_indices.result c.same_indices.ensures c.if-not-same_indices.false;
      }),
      (λ h. c.has_size.ensures.1 (from (subst (λ p. HasSize (slices_in s r c.args.k) p (r.table.fixed / frames_in s r) c.args.size) (one_part s r.said c.args.k h.part part h.said c.in-Some.ensures.some) h.sized))),
    )
