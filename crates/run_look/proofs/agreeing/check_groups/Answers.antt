use Rattle.std.proofs.Common.{rules, [], ◌≡◌, ◌+◌, ◌≤◌, Ok, Err, ap, sym, subst, refl, arith, ◌∙◌}
use Rattle.std.proofs.lemmas.Result.{err_from_is_err_and}
use Rattle.pw_outside.specs.Reading.{bytes_of}
use Rattle.qt_tables.specs.Samples.{samples}
use Rattle.rate_cert.specs.Records.{IsGood}
use Rattle.rate_cert.specs.Files.{MayStand, most_records}
use Rattle.run_look.specs.Checking.{frames_in}
use Rattle.run_look.specs.Agreeing.{given, left_by, AreLeft}
use Rattle.run_look.proofs.Alone.{one_more, some_of}
use Rattle.run_look.proofs.Going.{group_here, from-start, from-ends, from-besides, from-on, from-further, from-over}
use Rattle.run_look.proofs.agreeing.check_groups.Goals as goal

pub loop-group-init : goal.loop-group-init
loop-group-init g c = record {
  settings = refl;
  count = ap (λ p. p.count) c.requires.fresh;
  few = omega arith;
  frames = omega arith;
  going = c.requires.going;
  told = λ h. h;
  shown_told = λ h. h;
  head = refl;
  reader = c.requires.reader;
  left = λ m s ps e. sym e;
  answer = λ h m s ps e end n a. from-start _ c.args.layout.now _ _ _ _ end n c.requires.fresh c.requires.layout a;
  bytes = refl;
  read = refl;
  stored = refl;
  seen = refl;
}

pub returns-in_err-group-clause-answer : goal.returns-in_err-group-clause-answer
returns-in_err-group-clause-answer g c =
    let p = err_from_is_err_and c.from_residual.result c.from_residual.ensures.1 in
    let few : c.loop-group.records.progress.count ≤ most_records = search rules in
    rw (p.1, p.2) (λ h m s ps e. from-ends _ _ _ _ _ _ _ (record { place = 0; bytes = [] }) c.in_err-group.field-0.0 _ few (c.loop-group.invariant.answer h m s ps e) (c.in_err-group.ensures.answer (c.loop-group.invariant.told h)))

pub returns-in_err-take_group-clause-answer : goal.returns-in_err-take_group-clause-answer
returns-in_err-take_group-clause-answer g c =
    let p = err_from_is_err_and c.from_residual-in_err-take_group.result c.from_residual-in_err-take_group.ensures.1 in
    let few : c.loop-group.records.progress.count ≤ most_records = search rules in
    let end = c.in_err-take_group.field-0.0 in
    let here = group_here (g.M.ByteStore.bytes c.args.movie.now) (g.M.ByteStore.bytes c.loop-group.movie) (samples c.args.reader.now.tables) (g.S.ByteSource.left c.loop-group.pictures) c.args.layout.now
    c.loop-group.records.settings c.settings-settings.result c.in-Some.group c.loop-group.frames (Err end) (left_by c.loop-group.shown (g.S.ByteSource.left c.loop-group.pictures))
    (left_by c.take_group.new.shown (g.S.ByteSource.left c.take_group.new.pictures))
    c.loop-group.invariant.bytes (c.settings-settings.ensures.value ∙ sym c.loop-group.invariant.settings) c.in_err-take_group.ensures.takes in
    rw (p.1, p.2) (λ h m s ps e.
    from-besides (given (bytes_of (g.M.ByteStore.bytes c.args.movie.now)) (samples c.args.reader.now.tables) ps) c.args.layout.now _ _ _ _ _ _ c.in_ok-group.field-0 c.in-Some.group end _ few
    (c.loop-group.invariant.answer h m s ps e) c.in-Some.is (c.in_ok-group.ensures.answer (c.loop-group.invariant.told h)) (here m (c.loop-group.invariant.shown_told s) ps (c.loop-group.invariant.left m s ps e)))

pub loop-group-preserved-in_ok-take_group : goal.loop-group-preserved-in_ok-take_group
loop-group-preserved-in_ok-take_group g c =
    let few : c.loop-group.records.progress.count ≤ most_records = search rules in
    let both = some_of c.in_ok-group.field-0 c.in-Some.group (λ r. IsGood c.loop-group.records.settings r × MayStand c.loop-group.records.progress) c.in-Some.is c.in_ok-group.ensures.good in
    let e = c.in_ok-group.ensures.after in
    let many : c.loop-group.frames + c.frames_of-frames.result ≡ c.loop-group.frames + frames_in c.loop-group.records.settings c.in-Some.group =
    ap (λ n. c.loop-group.frames + n) (c.frames_of-frames.ensures.value ∙ ap (λ s. frames_in s c.in-Some.group) (c.settings-settings.ensures.value ∙ sym c.loop-group.invariant.settings)) in
    let left' = left_by c.take_group.new.shown (g.S.ByteSource.left c.take_group.new.pictures) in
    let here = group_here (g.M.ByteStore.bytes c.args.movie.now) (g.M.ByteStore.bytes c.loop-group.movie) (samples c.args.reader.now.tables) (g.S.ByteSource.left c.loop-group.pictures) c.args.layout.now
    c.loop-group.records.settings c.settings-settings.result c.in-Some.group c.loop-group.frames (Ok tt) (left_by c.loop-group.shown (g.S.ByteSource.left c.loop-group.pictures)) left'
    c.loop-group.invariant.bytes (c.settings-settings.ensures.value ∙ sym c.loop-group.invariant.settings) c.in_ok-take_group.ensures.takes in
    record {
      settings = e.0 ∙ c.loop-group.invariant.settings;
      count = one_more c.loop-group.records.settings _ _ c.in_ok-group.field-0 c.in-Some.group _ c.in-Some.is e.2 c.loop-group.invariant.count;
      few = omega (arith, both.1.1, c.loop-group.invariant.count);
      frames = omega (arith, c.loop-group.invariant.frames, c.frames_of-frames.ensures.few);
      going = search rules;
      told = λ h. c.in_ok-group.ensures.told (c.loop-group.invariant.told h);
      shown_told = λ h. c.in_ok-take_group.ensures.told (c.loop-group.invariant.shown_told h);
      head = c.in_ok-take_group.ensures.head ∙ c.loop-group.invariant.head;
      reader = c.in_ok-take_group.ensures.reader;
      left = λ m s ps q. subst (λ n. AreLeft (given (bytes_of (g.M.ByteStore.bytes c.args.movie.now)) (samples c.args.reader.now.tables) ps) n left') (sym many)
          (here m (c.loop-group.invariant.shown_told s) ps (c.loop-group.invariant.left m s ps q)).1;
      answer = λ h m s ps q end n a. c.loop-group.invariant.answer h m s ps q end n
          (from-on (given (bytes_of (g.M.ByteStore.bytes c.args.movie.now)) (samples c.args.reader.now.tables) ps) c.args.layout.now _ _ _ _ _ _ _ _ _ _ c.in_ok-group.field-0 c.in-Some.group end n c.in-Some.is
          (c.in_ok-group.ensures.answer (c.loop-group.invariant.told h)) e.1 e.0 e.2 many few (here m (c.loop-group.invariant.shown_told s) ps (c.loop-group.invariant.left m s ps q)).0 a);
      bytes = c.in_ok-take_group.ensures.bytes ∙ c.loop-group.invariant.bytes;
      read = search rules;
      stored = search rules;
      seen = search rules;
    }

pub loop-group-preserved : goal.loop-group-preserved
loop-group-preserved g c =
    let few : c.loop-group.records.progress.count ≤ most_records = search rules in
    let both = some_of c.in_ok-group.field-0 c.in-Some.group (λ r. IsGood c.loop-group.records.settings r × MayStand c.loop-group.records.progress) c.in-Some.is c.in_ok-group.ensures.good in
    let e = c.in_ok-group.ensures.after in
    let many : c.loop-group.frames + c.frames_of-frames.result ≡ c.loop-group.frames + frames_in c.loop-group.records.settings c.in-Some.group =
    ap (λ n. c.loop-group.frames + n) (c.frames_of-frames.ensures.value ∙ ap (λ s. frames_in s c.in-Some.group) (c.settings-settings.ensures.value ∙ sym c.loop-group.invariant.settings)) in
    let left' = left_by c.take_group.new.shown (g.S.ByteSource.left c.take_group.new.pictures) in
    let here = group_here (g.M.ByteStore.bytes c.args.movie.now) (g.M.ByteStore.bytes c.loop-group.movie) (samples c.args.reader.now.tables) (g.S.ByteSource.left c.loop-group.pictures) c.args.layout.now
    c.loop-group.records.settings c.settings-settings.result c.in-Some.group c.loop-group.frames (Ok tt) (left_by c.loop-group.shown (g.S.ByteSource.left c.loop-group.pictures)) left'
    c.loop-group.invariant.bytes (c.settings-settings.ensures.value ∙ sym c.loop-group.invariant.settings) c.in_ok-take_group.ensures.takes in
    record {
      settings = e.0 ∙ c.loop-group.invariant.settings;
      count = one_more c.loop-group.records.settings _ _ c.in_ok-group.field-0 c.in-Some.group _ c.in-Some.is e.2 c.loop-group.invariant.count;
      few = omega (arith, both.1.1, c.loop-group.invariant.count);
      frames = omega (arith, c.loop-group.invariant.frames, c.frames_of-frames.ensures.few);
      going = search rules;
      told = λ h. c.in_ok-group.ensures.told (c.loop-group.invariant.told h);
      shown_told = λ h. c.in_ok-take_group.ensures.told (c.loop-group.invariant.shown_told h);
      head = c.in_ok-take_group.ensures.head ∙ c.loop-group.invariant.head;
      reader = c.in_ok-take_group.ensures.reader;
      left = λ m s ps q. subst (λ n. AreLeft (given (bytes_of (g.M.ByteStore.bytes c.args.movie.now)) (samples c.args.reader.now.tables) ps) n left') (sym many)
          (here m (c.loop-group.invariant.shown_told s) ps (c.loop-group.invariant.left m s ps q)).1;
      answer = λ h m s ps q end n a. c.loop-group.invariant.answer h m s ps q end n
          (from-on (given (bytes_of (g.M.ByteStore.bytes c.args.movie.now)) (samples c.args.reader.now.tables) ps) c.args.layout.now _ _ _ _ _ _ _ _ _ _ c.in_ok-group.field-0 c.in-Some.group end n c.in-Some.is
          (c.in_ok-group.ensures.answer (c.loop-group.invariant.told h)) e.1 e.0 e.2 many few (here m (c.loop-group.invariant.shown_told s) ps (c.loop-group.invariant.left m s ps q)).0 a);
      bytes = c.in_ok-take_group.ensures.bytes ∙ c.loop-group.invariant.bytes;
      read = search rules;
      stored = search rules;
      seen = search rules;
    }

pub returns-in_err-take_end-clause-answer : goal.returns-in_err-take_end-clause-answer
returns-in_err-take_end-clause-answer g c =
    let p = err_from_is_err_and c.from_residual-in_err-take_end.result c.from_residual-in_err-take_end.ensures.1 in
    let few : c.loop-group.records.progress.count ≤ most_records = search rules in
    rw (p.1, p.2) (λ h m s ps e.
    let x = given (bytes_of (g.M.ByteStore.bytes c.args.movie.now)) (samples c.args.reader.now.tables) ps in
    from-further x c.args.layout.now _ _ _ _ _ _ c.in_ok-group.field-0 c.in_err-take_end.field-0.0 _ (λ r e. c.in_default.not-Some r e) (c.in_ok-group.ensures.answer (c.loop-group.invariant.told h)) few
    (c.loop-group.invariant.answer h m s ps e) (c.in_err-take_end.ensures.takes (c.loop-group.invariant.shown_told s) x refl (c.loop-group.invariant.left m s ps e)))

pub returns-clause-answer : goal.returns-clause-answer
returns-clause-answer g c = λ h m s ps e.
    let few : c.loop-group.records.progress.count ≤ most_records = search rules in
    let x = given (bytes_of (g.M.ByteStore.bytes c.args.movie.now)) (samples c.args.reader.now.tables) ps in
    c.loop-group.invariant.answer h m s ps e _ _ (from-over x c.args.layout.now _ _ _ _ _ _ c.in_ok-group.field-0 _ (λ r e. c.in_default.not-Some r e) (c.in_ok-group.ensures.answer (c.loop-group.invariant.told h))
    c.loop-group.invariant.count few (c.in_ok-take_end.ensures.takes (c.loop-group.invariant.shown_told s) x refl (c.loop-group.invariant.left m s ps e)))
