use Rattle.std.proofs.Common.{rules, ◌≡◌, ◌==◌, ap, sym, subst, refl, ◌∙◌, Err, false}
use Rattle.std.specs.Prelude.{IfSome, IsSome}
use Rattle.pw_outside.specs.Reading.{bytes_of, rest_of}
use Rattle.pic_y4m.specs.Faults.{told_fault}
use Rattle.pic_raw.specs.Any.{place_of, start_of}
use Rattle.qt_tables.specs.Samples.{samples}
use Rattle.rate_check.proofs.Answered.{granted, denied}
use Rattle.run_look.specs.Checking.{Counts}
use Rattle.run_look.specs.Agreeing.{given, form_of, left_by, pictures_head, RecordsWith, ChecksOn}
use Rattle.run_look.proofs.Heading.{counts_so, head_fault, other_head, this_head}
use Rattle.run_look.proofs.agreeing.check_with.Goals as goal

pub returns-in-Err-Bad-start-clause-answer : goal.returns-in-Err-Bad-start-clause-answer
returns-in-Err-Bad-start-clause-answer g c =
    let settings = c.args.records.now.settings in
    let left = g.S.ByteSource.left c.args.pictures.now in
    let no : (settings.form == 2) ≡ false = search rules in
    let form = c.form_for-form.ensures.form ∙ ap form_of c.settings-settings.ensures.value in
    rw c.in-Err-Bad-start.field-0-is (λ h m s.
    let found = subst (λ e. IfSome (told_fault e) (λ f. start_of c.form_for-form.result (rest_of 0 left) ≡ Err f)) c.in-Err-Bad-start.field-0-is (c.in-Err-Bad-start.ensures.bytes.answer s) in (
      0,
      head_fault (bytes_of (g.M.ByteStore.bytes c.args.movie.now)) (bytes_of left) c.args.records.now.format settings (rest_of c.args.records.now.place (g.S.ByteSource.left c.args.proof.now)) c.in-Ok.reader
          c.form_for-form.result (record { kind = c.in-Err-Bad-start.kind; place = c.in-Err-Bad-start.place }) (c.in-Ok.ensures.value m) no form found,
    ))

pub returns-then-not-has_head-clause-answer : goal.returns-then-not-has_head-clause-answer
returns-then-not-has_head-clause-answer g c = λ h m s.
    let settings = c.args.records.now.settings in
    let no : (settings.form == 2) ≡ false = search rules in
    let form = c.form_for-form.ensures.form ∙ ap form_of c.settings-settings.ensures.value in
    let other = denied c.has_head.result c.has_head.ensures c.if-not-has_head.true in (
      0,
      other_head _ _ _ settings _ _ c.form_for-form.result c.in-Ok-start.shown (rest_of (place_of c.in-Ok-start.shown) (g.S.ByteSource.left c.start-2.new.source)) (c.in-Ok.ensures.value m) no form
          (c.in-Ok-start.ensures.bytes.answer s) (λ e. other (c.head.ensures.head ∙ e ∙ ap pictures_head (sym c.settings-settings.ensures.value))),
    )

pub check_groups-requires-clause-head : goal.check_groups-requires-clause-head
check_groups-requires-clause-head g c = sym c.head.ensures.head ∙ granted c.has_head.result c.has_head.ensures c.if-not-has_head.false ∙ ap pictures_head c.settings-settings.ensures.value

pub returns-clause-answer : goal.returns-clause-answer
returns-clause-answer g c = λ h m s.
    let settings = c.args.records.now.settings in
    let file = bytes_of (g.M.ByteStore.bytes c.args.movie.now) in
    let shown = bytes_of (g.S.ByteSource.left c.args.pictures.now) in
    let rest = rest_of c.args.records.now.place (g.S.ByteSource.left c.args.proof.now) in
    let left = g.S.ByteSource.left c.start-2.new.source in
    let ps = left_by c.in-Ok-start.shown left in
    let no : (settings.form == 2) ≡ false = search rules in
    let form = c.form_for-form.ensures.form ∙ ap form_of c.settings-settings.ensures.value in
    let same = sym c.head.ensures.head ∙ granted c.has_head.result c.has_head.ensures c.if-not-has_head.false ∙ ap pictures_head c.settings-settings.ensures.value in
    let going = c.check_groups.ensures.answer h (subst IsSome (sym c.in-Ok.ensures.bytes) m) (c.in-Ok-start.ensures.bytes.told s) ps refl in
    let counted = subst (λ b. Counts (RecordsWith (given (bytes_of b) (samples c.in-Ok.reader.tables) ps) c.args.records.now.format settings rest) c.check_groups.result) c.in-Ok.ensures.bytes going in
    counts_so (RecordsWith (given file (samples c.in-Ok.reader.tables) ps) c.args.records.now.format settings rest) (ChecksOn file shown c.args.records.now.format settings rest) c.check_groups.result
    (this_head file shown c.args.records.now.format settings rest _ c.form_for-form.result c.in-Ok-start.shown (rest_of (place_of c.in-Ok-start.shown) left) (c.in-Ok.ensures.value m) no form (c.in-Ok-start.ensures.bytes.answer s) same)
    counted
