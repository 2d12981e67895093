use Rattle.std.proofs.Common.{rules, [], ◌≡◌, ◌+◌, ◌≤◌, ap, sym, subst, refl, arith, ◌∙◌}
use Rattle.std.proofs.lemmas.Result.{err_from_is_err_and}
use Rattle.rate_cert.specs.Records.{IsGood}
use Rattle.rate_cert.specs.Files.{MayStand, most_records}
use Rattle.run_look.specs.Checking.{frames_in}
use Rattle.run_look.proofs.Alone.{alone-start, alone-on, alone-over, alone-ends, fewer_left, one_more, some_of}
use Rattle.run_look.proofs.checking.check_records.Goals as goal

pub loop-group-init : goal.loop-group-init
loop-group-init g c = record {
  settings = refl;
  count = ap (λ p. p.count) c.requires.fresh;
  few = omega arith;
  frames = omega arith;
  going = c.requires.going;
  told = λ h. h;
  answer = λ h end n a. alone-start _ _ _ _ end n c.requires.fresh a;
  cause = refl;
}

pub returns-in_err-group-clause-answer : goal.returns-in_err-group-clause-answer
returns-in_err-group-clause-answer g c =
    let p = err_from_is_err_and c.from_residual.result c.from_residual.ensures.1 in
    let few : c.loop-group.reader.progress.count ≤ most_records = search rules in
    rw (p.1, p.2) (λ h. alone-ends _ _ _ _ _ (record { place = 0; bytes = [] }) c.in_err-group.field-0.0 _ few (c.loop-group.invariant.answer h) (c.in_err-group.ensures.answer (c.loop-group.invariant.told h)))

pub frames_of-frames-requires-clause-good : goal.frames_of-frames-requires-clause-good
frames_of-frames-requires-clause-good g c =
    let both = some_of c.in_ok-group.field-0 c.in-Some.group (λ r. IsGood c.loop-group.reader.settings r × MayStand c.loop-group.reader.progress) c.in-Some.is c.in_ok-group.ensures.good in
    subst (λ s. IsGood s c.in-Some.group) (c.loop-group.invariant.settings ∙ sym c.settings-settings.ensures.value) both.0

pub loop-group-smaller-in-Some : goal.loop-group-smaller-in-Some
loop-group-smaller-in-Some g c =
    let few : c.loop-group.reader.progress.count ≤ most_records = search rules in
    fewer_left c.loop-group.reader.settings _ _ c.in_ok-group.field-0 c.in-Some.group c.in-Some.is c.in_ok-group.ensures.after.2 few

pub loop-group-preserved-in-Some : goal.loop-group-preserved-in-Some
loop-group-preserved-in-Some g c =
    let few : c.loop-group.reader.progress.count ≤ most_records = search rules in
    let both = some_of c.in_ok-group.field-0 c.in-Some.group (λ r. IsGood c.loop-group.reader.settings r × MayStand c.loop-group.reader.progress) c.in-Some.is c.in_ok-group.ensures.good in
    let e = c.in_ok-group.ensures.after in
    let many : c.loop-group.frames + c.frames_of-frames.result ≡ c.loop-group.frames + frames_in c.loop-group.reader.settings c.in-Some.group =
    ap (λ n. c.loop-group.frames + n) (c.frames_of-frames.ensures.value ∙ ap (λ s. frames_in s c.in-Some.group) (c.settings-settings.ensures.value ∙ sym c.loop-group.invariant.settings)) in
    record {
      settings = e.0 ∙ c.loop-group.invariant.settings;
      count = one_more c.loop-group.reader.settings _ _ c.in_ok-group.field-0 c.in-Some.group _ c.in-Some.is e.2 c.loop-group.invariant.count;
      few = omega (arith, both.1.1, c.loop-group.invariant.count);
      frames = omega (arith, c.loop-group.invariant.frames, c.frames_of-frames.ensures.few);
      going = search rules;
      told = λ h. c.in_ok-group.ensures.told (c.loop-group.invariant.told h);
      answer = λ h end n a. c.loop-group.invariant.answer h end n
          (alone-on _ _ _ _ _ _ _ _ _ _ c.in_ok-group.field-0 c.in-Some.group end n c.in-Some.is (c.in_ok-group.ensures.answer (c.loop-group.invariant.told h)) e.1 e.0 e.2 many few a);
      cause = search rules;
    }

pub loop-group-smaller : goal.loop-group-smaller
loop-group-smaller g c =
    let few : c.loop-group.reader.progress.count ≤ most_records = search rules in
    fewer_left c.loop-group.reader.settings _ _ c.in_ok-group.field-0 c.in-Some.group c.in-Some.is c.in_ok-group.ensures.after.2 few

pub loop-group-preserved : goal.loop-group-preserved
loop-group-preserved g c =
    let few : c.loop-group.reader.progress.count ≤ most_records = search rules in
    let both = some_of c.in_ok-group.field-0 c.in-Some.group (λ r. IsGood c.loop-group.reader.settings r × MayStand c.loop-group.reader.progress) c.in-Some.is c.in_ok-group.ensures.good in
    let e = c.in_ok-group.ensures.after in
    let many : c.loop-group.frames + c.frames_of-frames.result ≡ c.loop-group.frames + frames_in c.loop-group.reader.settings c.in-Some.group =
    ap (λ n. c.loop-group.frames + n) (c.frames_of-frames.ensures.value ∙ ap (λ s. frames_in s c.in-Some.group) (c.settings-settings.ensures.value ∙ sym c.loop-group.invariant.settings)) in
    record {
      settings = e.0 ∙ c.loop-group.invariant.settings;
      count = one_more c.loop-group.reader.settings _ _ c.in_ok-group.field-0 c.in-Some.group _ c.in-Some.is e.2 c.loop-group.invariant.count;
      few = omega (arith, both.1.1, c.loop-group.invariant.count);
      frames = omega (arith, c.loop-group.invariant.frames, c.frames_of-frames.ensures.few);
      going = search rules;
      told = λ h. c.in_ok-group.ensures.told (c.loop-group.invariant.told h);
      answer = λ h end n a. c.loop-group.invariant.answer h end n
          (alone-on _ _ _ _ _ _ _ _ _ _ c.in_ok-group.field-0 c.in-Some.group end n c.in-Some.is (c.in_ok-group.ensures.answer (c.loop-group.invariant.told h)) e.1 e.0 e.2 many few a);
      cause = search rules;
    }

pub returns-clause-answer : goal.returns-clause-answer
returns-clause-answer g c = λ h.
    let few : c.loop-group.reader.progress.count ≤ most_records = search rules in
    c.loop-group.invariant.answer h _ _ (alone-over _ _ _ _ _ _ c.in_ok-group.field-0 _ (λ r e. c.in_default.not-Some r e) (c.in_ok-group.ensures.answer (c.loop-group.invariant.told h)) c.loop-group.invariant.count few)
