use Rattle.std.proofs.Common.{inl, inr, ap, ◌∙◌, refl}
use Rattle.pic_synth.specs.Numbered.{synthetic_bytes}
use Rattle.run_encode.specs.declared.end.EncodeEnd.TheVariants as ends
use Rattle.run_synth.proofs.Encoded.{held-so, never-read, run-so, never-bad}
use Rattle.run_synth.proofs.encoding.encode.Goals as goal

pub returns-in-Done : goal.returns-in-Done
returns-in-Done c =
    let so = run-so c.args.words.now c.requires c.synthetic_is_meant.ensures c.encode_words.result c.new.result ends.Done _ _ c.encode_words.ensures.value
    (c.new.ensures ∙ ap synthetic_bytes c.synthetic_in.ensures) (λ x. cc) (λ x. cc) (c.in-Done.ensures.ran refl) in
    let (lists, encodes, puts, narrow) = so.ran in
    record {
      job = so.job;
      of = so.of;
      lists = lists;
      encodes = encodes;
      narrow = narrow;
      movie_is = held-so _ _ _ _ _ c.new-movie.ensures.bytes puts.movie;
      proof_is = held-so _ _ _ _ _ c.new-proof.ensures.bytes puts.proof;
      text_is = held-so _ _ _ _ _ c.new-text.ensures.bytes puts.text;
    }

pub returns-in-TooSmall : goal.returns-in-TooSmall
returns-in-TooSmall c =
    let so = run-so c.args.words.now c.requires c.synthetic_is_meant.ensures c.encode_words.result c.new.result (ends.TooSmall c.in-TooSmall.frame c.in-TooSmall.least) _ _
    c.encode_words.ensures.value (c.new.ensures ∙ ap synthetic_bytes c.synthetic_in.ensures) (λ x. cc) (λ x. cc) (c.in-TooSmall.ensures.ran refl) in
    let (lists, encodes, puts, narrow) = so.ran in
    (so.job, so.of, record { lists = lists; encodes = encodes; narrow = narrow; text_is = held-so _ _ _ _ _ c.new-text.ensures.bytes puts.text })

pub returns-in-LayersFull : goal.returns-in-LayersFull
returns-in-LayersFull c =
    let so = run-so c.args.words.now c.requires c.synthetic_is_meant.ensures c.encode_words.result c.new.result (ends.LayersFull c.in-LayersFull.frame) _ _
    c.encode_words.ensures.value (c.new.ensures ∙ ap synthetic_bytes c.synthetic_in.ensures) (λ x. cc) (λ x. cc) (c.in-LayersFull.ensures.ran refl) in
    let full = so.ran in (
      so.job,
      so.of,
      record {
        coded = full.coded;
        first = full.first;
        there = full.there;
        frame_is = full.frame_is;
        passes = full.passes;
        narrow = full.narrow;
        text_is = held-so _ _ _ _ _ c.new-text.ensures.bytes full.puts.text;
      },
    )

pub unreachable-requires : goal.unreachable-requires
unreachable-requires c = elim c.in-ReadFault.is [
  | inl e ↦ never-read c.encode_run.result c.encode_run.ensures.read e
  | inr (kind, place, e) ↦
      never-bad c.args.words.now c.requires c.synthetic_is_meant.ensures c.encode_words.result c.new.result c.encode_run.result _ _ kind place c.encode_words.ensures.value
      (c.new.ensures ∙ ap synthetic_bytes c.synthetic_in.ensures) e (c.encode_run.ensures.ran refl)
]
