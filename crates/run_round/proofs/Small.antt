-- The proof that no choice fits passes the check by itself.
use Rattle.std.proofs.Common.{◌≡◌, refl, ℕ, suc, ◌+◌, ◌*◌, ◌<◌, List, [], ◌∷◌, ◌++◌, length, arith, sym, ap, subst, ◌∙◌, length-append}
use Rattle.std.specs.List.{AllByRecursion}
use Rattle.pic_y4m.specs.Frames.{Pictures}
use Rattle.pic_raw.specs.Any.{PicturesHaveForm}
use Rattle.pr_quant.specs.Matrices.{NamedWeightsAreInRange}
use Rattle.rate_table.specs.Records.{Printed}
use Rattle.rate_cert.specs.declared.settings.Settings.{Settings}
use Rattle.rate_cert.specs.Records.{Record, IsGood}
use Rattle.rate_cert.specs.Files.{no_records, most_records}
use Rattle.run_encode.specs.declared.job.Job.{Job}
use Rattle.run_encode.specs.declared.end.EncodeEnd.TheVariants as encodes
use Rattle.run_encode.specs.Groups.{settings_of}
use Rattle.run_encode.specs.Headline.{GroupsHold, Proves, records_from, records_in, last_record}
use Rattle.run_encode.specs.Laws.{EncodedHasHeadline}
use Rattle.run_encode.proofs.Numbered.{count-left, count-below}
use Rattle.run_look.specs.declared.end.LookEnd.TheVariants as looks
use Rattle.run_look.specs.Checking.{frames_in, HeadIs, RecordsAlone, ChecksAlone, Alone, done_at_end}
use Rattle.run_round.specs.Laws.{SmallIsChecked}
use Rattle.run_round.proofs.Following.{Follow, proved-is, all-follow}
use Rattle.run_round.proofs.Jobs.{is-job, are-pictures}

module _ (j : Job) (ps : Pictures) where
  abbrev s : Settings
  s = settings_of j

  -- the records of the groups before the last one are good
  all-good : (k : ℕ) (written : List (List ℕ)) (printed : List Printed) → GroupsHold j k ps.pictures written printed → AllByRecursion (IsGood s) (records_from j k ps.pictures printed)
  all-good k written [] h = tt
  all-good k written (r ∷ rs) h = (h.0.good, all-good (k + 1) written rs h.1)

  last-follows : (frames : ℕ) (rs : List Record) (last : Record) → AllByRecursion (IsGood s) rs → IsGood s last → Follow Alone done_at_end s frames (rs ++ last ∷ [])
  last-follows frames [] last all good = (good, refl, refl)
  last-follows frames (r ∷ rs) last all good = (all.0, refl, last-follows (frames + frames_in s r) rs last all.1 good)

  records-number : (k : ℕ) (printed : List Printed) → length (records_from j k ps.pictures printed) ≡ length printed
  records-number k [] = refl
  records-number k (r ∷ rs) = ap suc (records-number (k + 1) rs)

  -- a proof of good records, the last of which may say that no choice fits
  pub proof-checked : (written : List (List ℕ)) (printed : List Printed) (last : Record) (proof : List ℕ) → GroupsHold j 0 ps.pictures written printed → IsGood s last
      → Proves j proof (records_in j ps.pictures printed ++ last ∷ []) → length printed < 1000000 → ChecksAlone proof looks.Done (length printed + 1)
  proof-checked written printed last proof hold good proves few =
      let records = records_in j ps.pictures printed ++ last ∷ [] in
      let n : length records ≡ length printed + 1 = omega (arith, length-append (records_in j ps.pictures printed) (last ∷ []), records-number 0 printed) in
      let found = proved-is proof (record { format = j.format; settings = s; records = records }) proves in
      let rest = found.0 in
      let follow = last-follows 0 (records_in j ps.pictures printed) last (all-good 0 written printed hold) good in
      let are = all-follow Alone done_at_end j.format s (suc most_records) no_records 0 rest records (omega (arith, n, few)) found.2 follow in
      let same : no_records.count + length records ≡ length printed + 1 = omega (arith, n) in
      subst (HeadIs looks.Done (λ head rest. RecordsAlone head.0 head.1 rest looks.Done (length printed + 1))) (sym found.1)
      (subst (RecordsAlone j.format s rest looks.Done) same are)

pub small-is-checked : NamedWeightsAreInRange → PicturesHaveForm → EncodedHasHeadline → SmallIsChecked
small-is-checked named have-form headline w bytes head ps j lists frame least input e narrow =
    let is = is-job named w bytes head ps j input in
    let are = are-pictures named w bytes head ps j input have-form in
    let h = headline j ps (encodes.TooSmall frame least) lists is are e narrow in
    let ends = e.ends in
    let files = h.files in
    let before = count-left j.group (length e.coded) (length ps.pictures) ps.fault is.some_group ends.0 in
    let at : frame ≡ j.group * length h.printed = files.1 ∙ files.2 in
    let few = are.few in
    let below : length h.printed < length ps.pictures = count-below j.group (length h.printed) (length ps.pictures) is.some_group (omega (arith, before, at, ends.2)) in
    (length h.printed, at, proof-checked j ps h.written h.printed (last_record j ps h.printed least) lists.proof h.groups files.5 files.6 (omega (arith, below, few)))
