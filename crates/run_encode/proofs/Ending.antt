-- How the loop ends after whole groups.
use Rattle.std.proofs.Common.{◌≡◌, ℕ, ◌+◌, ◌*◌, ◌≤◌, inl, inr, [], ◌∷◌, ◌++◌, length, take, ap, sym, subst, ◌∙◌, append-nil}
use Rattle.std.proofs.lemmas.List.Elements.{All-push}
use Rattle.pic_y4m.specs.Frames.{Pictures}
use Rattle.rate_table.specs.Table.{HasNoFit, least_bytes}
use Rattle.rate_layers.specs.Best.{PassesByPicks}
use Rattle.run_encode.specs.declared.job.Job.{Job}
use Rattle.run_encode.specs.declared.end.EncodeEnd.{EncodeEnd}
use Rattle.run_encode.specs.declared.end.EncodeEnd.TheVariants as ends
use Rattle.run_encode.specs.Groups.{table_in}
use Rattle.rate_cert.specs.Files.{record_bytes}
use Rattle.run_encode.specs.Outputs.{Outputs, nothing, joined, PutsAll, PutsFronts}
use Rattle.run_encode.specs.Encoding.{IsNarrow, body_lists, none_record, AreFirst, group_behind}
use Rattle.run_encode.specs.inner.Steps.{Counts, in_front, no_pictures, group_lists, none_lists, small_body, WroteLast, WholeGroups, AllGroups, EndsIn, EndedBehind}
use Rattle.run_encode.proofs.Sinks.{all_then, all_then_none, then_fronts}
use Rattle.run_encode.proofs.Cutting.{whole-length}
use Rattle.run_encode.proofs.Looping.{pictures_in, same-lists, body-more, by-recursion, first-are, behind-is, has-more, cut-count, end-count, more-first, last-count, last-there, last-next, wrote-more, sizes-more, records-more}

module _ (j : Job) (all left : Pictures) (number : ℕ) (old new : Counts) (before mid after : Outputs) (some : 1 ≤ j.group) (w : WholeGroups j all left number old before mid) where
  abbrev here : Pictures
  here = in_front (pictures_in w.coded) left

  first : AreFirst j here w.coded
  first = first-are j w.coded left some w.each w.whole

  next-is : group_behind j here w.coded ≡ take j.group left.pictures
  next-is = behind-is j w.coded left some w.each w.whole

  number-is : number ≡ j.group * length w.coded
  number-is = w.number_is ∙ whole-length (λ g. g.pictures) j.group w.coded (by-recursion j w.coded left some w.each w.whole)

  small-is : joined (body_lists j w.coded) (none_lists j (take j.group left.pictures)) ≡ small_body j here w.coded
  small-is = same-lists
      (append-nil (body_lists j w.coded).movie)
      (ap (λ ps. (body_lists j w.coded).proof ++ record_bytes j.format (none_record j ps)) (sym next-is))
      (append-nil (body_lists j w.coded).text)

  ended-here : (end : EncodeEnd) → EndsIn j number left old new end mid after → EndedBehind j here new end before after
  ended-here ends.NoMemory e = record { coded = w.coded; first = first; ended = (all_then_none w.puts e, w.narrow) }
  ended-here ends.ReadFault e = record { coded = w.coded; first = first; ended = (all_then_none w.puts e, w.narrow) }
  ended-here (ends.BadPictures kind place) e = record {
    coded = w.coded;
    first = first;
    ended = (cut-count j w.coded left some w.each w.whole (record { kind = kind; place = place }) e.0 e.1, e.1, all_then_none w.puts e.2, w.narrow);
  }
  ended-here (ends.LayersFull frame) e = record {
    coded = w.coded;
    first = first;
    ended = (has-more j w.coded left some w.each w.whole e.0, subst (λ ps. PassesByPicks (table_in j ps)) (sym next-is) e.1, e.2 ∙ number-is, all_then_none w.puts e.3, w.narrow);
  }
  ended-here (ends.TooSmall frame least) e = record {
    coded = w.coded;
    first = first;
    ended = (
      has-more j w.coded left some w.each w.whole e.0,
      subst (λ ps. HasNoFit (table_in j ps)) (sym next-is) e.1,
      e.2 ∙ number-is,
      e.3 ∙ ap (λ ps. least_bytes (table_in j ps)) (sym next-is),
      subst (PutsAll before after) small-is (all_then w.puts e.4),
      w.narrow,
      e.5 ∙ ap (λ n. n + 1) w.records,
    );
  }
  ended-here ends.WriteFault (h, inl (g, next, is, p)) = record {
    coded = w.coded ++ g ∷ [];
    first = more-first j w.coded left some w.each w.whole g is next h;
    ended = inl (subst (PutsFronts before after) (body-more j w.coded g)
        (subst (λ n. PutsFronts before after (joined (body_lists j w.coded) (group_lists j n g))) w.number_is (then_fronts w.puts p)));
  }
  ended-here ends.WriteFault (h, inr (none, p)) = record {
    coded = w.coded;
    first = first;
    ended = inr (
      has-more j w.coded left some w.each w.whole h,
      subst (λ ps. HasNoFit (table_in j ps)) (sym next-is) none,
      subst (PutsFronts before after) small-is (then_fronts w.puts p),
    );
  }
  ended-here ends.Done e = absurd e

  -- the run's outcome
  pub ended : (end : EncodeEnd) → EndsIn j number left old new end mid after → EndedBehind j all new end before after
  ended end e = subst (λ ps. EndedBehind j ps new end before after) (sym w.split) (ended-here end e)

  all-here : left ≡ no_pictures → PutsAll mid after nothing → AllGroups j here old before after
  all-here e p = record {
    coded = w.coded;
    first = first;
    narrow = w.narrow;
    count = end-count j w.coded left some w.each w.whole e;
    end = ap (λ (l : Pictures). l.fault) e;
    puts = all_then_none w.puts p;
    sizes = w.sizes;
    records = w.records;
  }

  -- no picture is left
  pub all-done : new ≡ old → left ≡ no_pictures → PutsAll mid after nothing → AllGroups j all new before after
  all-done same e p = subst (λ n. AllGroups j all n before after) (sym same) (subst (λ ps. AllGroups j ps old before after) (sym w.split) (all-here e p))

module _ (j : Job) (all left : Pictures) (number number' : ℕ) (old new : Counts) (before mid after : Outputs) (some : 1 ≤ j.group)
    (w : WholeGroups j all left number old before mid) (x : WroteLast j number number' left old new mid after) where
  abbrev there : Pictures
  there = in_front (pictures_in w.coded) left

  last-all : AllGroups j there new before after
  last-all =
      let h = last-there j w.coded left some w.each w.whole x.wrote.group x.some x.short x.wrote.next in
      let n = last-next j w.coded left some w.each w.whole x.wrote.group x.some x.short x.wrote.next in
      record {
        coded = w.coded ++ x.wrote.group ∷ [];
        first = more-first j w.coded left some w.each w.whole x.wrote.group x.wrote.is_coded n h;
        narrow = All-push (IsNarrow j) w.coded x.wrote.group w.narrow x.wrote.narrow;
        count = last-count j w.coded left some w.each w.whole x.wrote.group x.some x.short x.wrote.next;
        end = ap (λ (l : Pictures). l.fault) x.wrote.next;
        puts = wrote-more j all left no_pictures number number' old new before mid after w x.wrote;
        sizes = sizes-more j all left no_pictures number number' old new before mid after w x.wrote;
        records = records-more j all left no_pictures number number' old new before mid after w x.wrote;
      }

  -- the last group was written
  pub last-done : AllGroups j all new before after
  last-done = subst (λ ps. AllGroups j ps new before after) (sym w.split) last-all
