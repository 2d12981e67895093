use Rattle.std.proofs.Common.{ap, sym, subst, refl, ◌∙◌, ◌++◌, ◌∷◌, []}
use Rattle.run_encode.specs.Groups.{IsFrameOf}
use Rattle.pic_raw.specs.Any.{head_of, place_of}
use Rattle.run_encode.proofs.Gathering.{SoFar, none-read, one-more, reader-few, same-head}
use Rattle.run_encode.proofs.reading.read_group.Goals as goal

pub group-init : goal.group-init
group-init g c = record {
  read = subst (λ items. SoFar c.args.job.now c.args.reader.now c.args.reader.now (g.S.ByteSource.left c.args.pictures.now) (g.S.ByteSource.left c.args.pictures.now) items 0)
      (sym c.new-group.ensures.items) (none-read _ _ _ (reader-few _ c.requires.reader));
  reader = c.requires.reader;
  head = c.requires.head;
  source = refl;
}

pub group-preserved : goal.group-preserved
group-preserved g c =
    let after = rw c.in-Ok-Some.field-0-is at c.in-Ok-Some.ensures.after in
    record {
      read = one-more _ _ _ _ _ _ _ c.group.invariant.read c.next_is_first.ensures _ _ c.in-Ok-Some.picture _
          (c.in-Ok-push.ensures.items ∙ ap (λ x. c.group.group.items ++ x ∷ []) c.in-Ok.ensures.value)
          (subst (IsFrameOf c.args.job.now) c.in-Ok.ensures.value c.in-Ok.ensures.frame) after (reader-few _ c.in-Ok-Some.ensures.reader) (λ h. c.in-Ok-Some.ensures.bytes.told h) (λ h. rw c.in-Ok-Some.field-0-is at (c.in-Ok-Some.ensures.bytes.answer h));
      reader = c.in-Ok-Some.ensures.reader;
      head = ap head_of after ∙ same-head c.group.reader (place_of c.next.new.self) ∙ c.group.invariant.head;
      source = c.in-Ok-Some.ensures.cause.kept ∙ c.group.invariant.source;
    }
