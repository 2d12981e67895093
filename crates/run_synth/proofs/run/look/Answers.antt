use Rattle.std.proofs.Common.{◌++◌, drop, length, ap, ◌∙◌}
use Rattle.pic_synth.specs.Numbered.{synthetic_bytes}
use Rattle.pic_synth.specs.Pictures.{synthetic_pictures}
use Rattle.run_decode.specs.Running.{pictures_line}
use Rattle.run_look.specs.Checking.{check_text}
use Rattle.run_synth.specs.Synthesis.{synthetic_in}
use Rattle.run_synth.proofs.Encoded.{decodable, checkable-as}
use Rattle.run_synth.proofs.run.look.Goals as goal

pub decode-requires : goal.decode-requires
decode-requires c = (
  length (synthetic_pictures (synthetic_in c.args.words.now)),
  decodable c.args.words.now c.requires.words c.synthetic_is_meant.ensures _ _ _ c.requires.encoded c.encoded_is_decoded.ensures,
)

pub check-requires : goal.check-requires
check-requires c = (
  length (synthetic_pictures (synthetic_in c.args.words.now)),
  checkable-as c.args.words.now c.requires.words c.synthetic_is_meant.ensures _ _ _ c.requires.encoded c.encoded_is_checked.ensures _ _ _
      (ap (λ n. drop n c.rewound.result.bytes.items) c.rewound.ensures.front ∙ c.rewound.ensures.bytes) c.decode.ensures.bytes (c.new.ensures ∙ ap synthetic_bytes c.synthetic_in.ensures),
)

pub returns : goal.returns
returns c =
    let r = c.requires.encoded in
    let n = length (synthetic_pictures (synthetic_in c.args.words.now)) in
    let there = checkable-as c.args.words.now c.requires.words c.synthetic_is_meant.ensures _ _ _ c.requires.encoded c.encoded_is_checked.ensures _ _ _
    (ap (λ n. drop n c.rewound.result.bytes.items) c.rewound.ensures.front ∙ c.rewound.ensures.bytes) c.decode.ensures.bytes (c.new.ensures ∙ ap synthetic_bytes c.synthetic_in.ensures) in
    let shown = c.in_ok-decode.ensures.text n (decodable c.args.words.now c.requires.words c.synthetic_is_meant.ensures _ _ _ r c.encoded_is_decoded.ensures) in
    let checked = c.in_ok-check.ensures n there in (
      r.job,
      r.of,
      record {
        lists = r.lists;
        encodes = r.encodes;
        narrow = r.narrow;
        text_is = checked ∙ ap (λ l. l ++ check_text n) (shown ∙ ap (λ l. l ++ pictures_line n) r.text_is);
      },
    )
