-- What a whole run did: the beginning, the groups and the end.
use Rattle.std.proofs.Common.{◌≡◌, refl, ℕ, ◌+◌, ◌*◌, inl, inr, false, List, [], ◌∷◌, ◌++◌, arith, length, map, ap, sym, subst, ◌∙◌, length-append, append_assoc, append-nil}
use Rattle.std.specs.List.{flat_map}
use Rattle.std.proofs.lemmas.List.{length-map}
use Rattle.std.proofs.lemmas.List.Concat.{flat_map-append}
use Rattle.std.proofs.lemmas.List.Folds.{flat_map-map}
use Rattle.std.proofs.lemmas.List.Elements.{All-nil}
use Rattle.pw_outside.proofs.Puts.{front_more}
use Rattle.pic_y4m.specs.Frames.{Pictures}
use Rattle.qt_movie.specs.MovieBytes.{ftyp_bytes, frame_bytes, moov_bytes, extents}
use Rattle.run_encode.specs.declared.job.Job.{Job}
use Rattle.run_encode.specs.declared.end.EncodeEnd.{EncodeEnd}
use Rattle.run_encode.specs.declared.end.EncodeEnd.TheVariants as ends
use Rattle.rate_table.specs.Table.{least_bytes}
use Rattle.rate_cert.specs.Files.{record_bytes, end_bytes, proof_bytes}
use Rattle.rate_cert.specs.Head.{head_bytes}
use Rattle.run_encode.specs.Groups.{settings_of, table_in}
use Rattle.run_encode.specs.Outputs.{Outputs, Lists, joined, PutsAll, PutsFronts}
use Rattle.run_encode.specs.Encoding.{Group, IsCoded, frames_line, all_frames, record_in, none_record, group_behind, AreFirst, cut_lists, whole_lists, small_lists, records_bytes, is_done, is_settled}
use Rattle.run_encode.specs.inner.Steps.{Counts, small_body, end_lists, close_lists, AllGroups, EndedBehind, Behind, Finishes, Closes, RanSo}
use Rattle.run_encode.proofs.Sinks.{all_then, all_then_none, then_fronts, fronts_more}
use Rattle.run_encode.proofs.Looping.{same-lists}

-- what is written before all groups
abbrev pub begun : Job → Lists
begun j = record { movie = ftyp_bytes; proof = head_bytes j.format (settings_of j); text = [] }

pub no-groups : (j : Job) (ps : Pictures) → AreFirst j ps []
no-groups j ps = record { few = omega arith; pictures = refl; each = All-nil (IsCoded j) }

records-are : (j : Job) (coded : List Group) → flat_map (record_bytes j.format) (map (record_in j) coded) ≡ records_bytes j coded
records-are j coded = flat_map-map (record_bytes j.format) (record_in j) coded

pub whole-are : (j : Job) (coded : List Group) (now : Counts) → now.sizes ≡ map length (all_frames j coded) → now.records ≡ length coded
    → joined (cut_lists j coded) (end_lists j now) ≡ whole_lists j coded
unfolding proof_bytes
whole-are j coded now sizes records =
    let head = head_bytes j.format (settings_of j) in
    let front = records_bytes j coded in
    same-lists
    (ap (λ ns. (cut_lists j coded).movie ++ moov_bytes j.head (extents ns)) sizes ∙ append_assoc ftyp_bytes (flat_map frame_bytes (all_frames j coded)) _)
    (append_assoc head front (end_bytes now.records)
    ∙ ap (λ bytes. head ++ (bytes ++ end_bytes now.records)) (sym (records-are j coded))
    ∙ ap (λ n. head ++ (flat_map (record_bytes j.format) (map (record_in j) coded) ++ end_bytes n)) (records ∙ sym (length-map coded (record_in j))))
    (ap (λ n. (cut_lists j coded).text ++ frames_line n) (ap length sizes ∙ length-map (all_frames j coded) length))

-- what is written up to the record that says that no choice fits, and the proof's end
pub small-are : (j : Job) (ps : Pictures) (coded : List Group) (n : ℕ) → n ≡ length coded + 1
    → joined (joined (begun j) (small_body j ps coded)) (close_lists n) ≡ small_lists j coded (group_behind j ps coded)
unfolding proof_bytes
small-are j ps coded n count =
    let r = none_record j (group_behind j ps coded) in
    let records = map (record_in j) coded in
    let head = head_bytes j.format (settings_of j) in
    let front = records_bytes j coded in
    let last = record_bytes j.format r in
    let number : n ≡ length (records ++ r ∷ []) = count ∙ sym (length-append records (r ∷ []) ∙ ap (λ k. k + 1) (length-map coded (record_in j))) in
    let bytes : flat_map (record_bytes j.format) (records ++ r ∷ []) ≡ front ++ last =
    flat_map-append (record_bytes j.format) records (r ∷ []) ∙ ap (λ l. l ++ (last ++ [])) (records-are j coded) ∙ ap (λ l. front ++ l) (append-nil last) in
    same-lists (append-nil _)
    (append_assoc head (front ++ last) (end_bytes n) ∙ ap (λ l. head ++ (l ++ end_bytes n)) (sym bytes)
    ∙ ap (λ k. head ++ (flat_map (record_bytes j.format) (records ++ r ∷ []) ++ end_bytes k)) number)
    (append-nil _)

module _ (j : Job) (all : Pictures) (before mid : Outputs) (start : PutsAll before mid (begun j)) where
  -- the run ended after some groups
  pub ran-ended : (now : Counts) (end : EncodeEnd) (after : Outputs) → ((frame least : ℕ) → end ≡ ends.TooSmall frame least → ⊥) → EndedBehind j all now end mid after → RanSo j all end before after
  ran-ended now ends.NoMemory after unlike e = (e.coded, e.first, all_then start e.ended.0, e.ended.1)
  ran-ended now ends.ReadFault after unlike e = (e.coded, e.first, all_then start e.ended.0, e.ended.1)
  ran-ended now (ends.BadPictures kind place) after unlike e =
      (cut_lists j e.coded, record { coded = e.coded; first = e.first; ends = (e.ended.0, e.ended.1, refl) }, all_then start e.ended.2, e.ended.3)
  ran-ended now (ends.LayersFull frame) after unlike e = record {
    coded = e.coded;
    first = e.first;
    there = e.ended.0;
    frame_is = e.ended.2;
    passes = e.ended.1;
    puts = all_then start e.ended.3;
    narrow = e.ended.4;
  }
  ran-ended now (ends.TooSmall frame least) after unlike e = absurd (unlike frame least refl)
  ran-ended now ends.WriteFault after unlike e = failed e.coded e.first e.ended
    where
      failed : (coded : List Group) → AreFirst j all coded → Behind j all coded now ends.WriteFault mid after → RanSo j all ends.WriteFault before after
      failed coded first (inl p) = (cut_lists j coded, inl (coded, first, refl), then_fronts start p)
      failed coded first (inr (there, none, p)) = (
        small_lists j coded (group_behind j all coded),
        inr (ends.TooSmall (j.group * length coded) (least_bytes (table_in j (group_behind j all coded))), record { coded = coded; first = first; ends = (there, none, refl, refl, refl) }),
        subst (PutsFronts before after) (small-are j all coded (length coded + 1) refl) (fronts_more (close_lists (length coded + 1)) (then_fronts start p)),
      )
  ran-ended now ends.Done after unlike e = absurd e.ended

  -- no choice fits, and the proof's end was written
  pub ran-closed : (now : Counts) (frame least : ℕ) (late : Outputs) (end : EncodeEnd) (after : Outputs) → EndedBehind j all now (ends.TooSmall frame least) mid late
      → Closes now.records frame least end late after → RanSo j all end before after
  ran-closed now frame least late (ends.TooSmall f l) after e p = (
    small_lists j e.coded (group_behind j all e.coded),
    record { coded = e.coded; first = e.first; ends = (e.ended.0, e.ended.1, p.0 ∙ e.ended.2, p.1 ∙ e.ended.3, refl) },
    subst (PutsAll before after) (small-are j all e.coded now.records e.ended.6) (all_then (all_then start e.ended.4) p.2),
    e.ended.5,
  )
  ran-closed now frame least late ends.WriteFault after e p = (
    small_lists j e.coded (group_behind j all e.coded),
    inr (ends.TooSmall frame least, record { coded = e.coded; first = e.first; ends = (e.ended.0, e.ended.1, e.ended.2, e.ended.3, refl) }),
    subst (PutsFronts before after) (small-are j all e.coded now.records e.ended.6) (then_fronts (all_then start e.ended.4) p),
  )
  ran-closed now frame least late ends.Done after e p = absurd p
  ran-closed now frame least late ends.NoMemory after e p = absurd p
  ran-closed now frame least late ends.ReadFault after e p = absurd p
  ran-closed now frame least late (ends.BadPictures kind place) after e p = absurd p
  ran-closed now frame least late (ends.LayersFull f) after e p = absurd p

  -- the run came to its end
  pub ran-finished : (now : Counts) (end : EncodeEnd) (late after : Outputs) → AllGroups j all now mid late → Finishes j now end late after → RanSo j all end before after
  ran-finished now ends.Done late after a f = (
    whole_lists j a.coded,
    record { coded = a.coded; first = a.first; ends = (a.count, a.end, refl) },
    subst (PutsAll before after) (whole-are j a.coded now a.sizes a.records) (all_then (all_then start a.puts) f),
    a.narrow,
  )
  ran-finished now ends.WriteFault late after a f = (
    whole_lists j a.coded,
    inr (ends.Done, record { coded = a.coded; first = a.first; ends = (a.count, a.end, refl) }),
    subst (PutsFronts before after) (whole-are j a.coded now a.sizes a.records) (then_fronts (all_then start a.puts) f),
  )
  ran-finished now ends.NoMemory late after a f = (a.coded, a.first, all_then_none (all_then start a.puts) f, a.narrow)
  ran-finished now ends.ReadFault late after a f = absurd f
  ran-finished now (ends.BadPictures kind place) late after a f = absurd f
  ran-finished now (ends.LayersFull frame) late after a f = absurd f
  ran-finished now (ends.TooSmall frame least) late after a f = absurd f

-- a sink failed before all groups
pub ran-unbegun : (j : Job) (all : Pictures) (before after : Outputs) → PutsFronts before after (begun j) → RanSo j all ends.WriteFault before after
ran-unbegun j all before after p = (
  cut_lists j [],
  inl ([], no-groups j all, refl),
  record { movie = front_more [] p.movie; proof = front_more [] p.proof; text = p.text },
)

-- an outcome that is neither Done nor TooSmall
pub unsettled : (end : EncodeEnd) → ((frame least : ℕ) → end ≡ ends.TooSmall frame least → ⊥) → is_done end ≡ false → is_settled end ≡ false
unsettled ends.Done unlike e = cc
unsettled ends.NoMemory unlike e = refl
unsettled ends.ReadFault unlike e = refl
unsettled ends.WriteFault unlike e = refl
unsettled (ends.BadPictures kind place) unlike e = refl
unsettled (ends.TooSmall frame least) unlike e = absurd (unlike frame least refl)
unsettled (ends.LayersFull frame) unlike e = refl
