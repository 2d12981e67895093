use Rattle.std.proofs.Common.{◌++◌, inl, inr, ap, ◌∙◌, refl}
use Rattle.run_look.specs.declared.end.LookEnd.TheVariants as looks
use Rattle.run_look.specs.Checking.{check_text}
use Rattle.run_synth.proofs.Encoded.{told, never-ends, never-stopped}
use Rattle.run_synth.proofs.looking.check.Goals as goal

pub returns-in-Done : goal.returns-in-Done
returns-in-Done c = λ n there.
    let (m, of, puts) = c.in-Done.ensures.text (told c.args.proof.now) refl (told c.args.pictures.now) in
    puts.bytes_held ∙ ap (λ k. c.args.text.now.bytes.items ++ check_text k) (c.checked_is_checked_alone.ensures.once _ _ _ m n of there)

pub unreachable-requires : goal.unreachable-requires
unreachable-requires c =
    let answer = c.check_run.ensures.answer (told c.args.proof.now) refl (told c.args.pictures.now) in
    let never = never-ends _ _ _ c.requires.0 c.agreeing_is_done_once.ensures c.requires.1 c.check_run.result in
    elim c.in-ReadFault.is [
      | inl e ↦ never-stopped c.check_run.result c.check_run.ensures.read e
      | inr (inl (kind, place, e)) ↦ never (looks.BadPictures kind place) answer e (λ x. x) (λ x. cc)
      | inr (inr (inl (kind, place, e))) ↦ never (looks.BadMovie kind place) answer e (λ x. x) (λ x. cc)
      | inr (inr (inr (inl (number, kind, place, e)))) ↦ never (looks.BadFrame number kind place) answer e (λ x. x) (λ x. cc)
      | inr (inr (inr (inr (inl (kind, place, e))))) ↦ never (looks.BadProof kind place) answer e (λ x. x) (λ x. cc)
      | inr (inr (inr (inr (inr (frame, clause, e))))) ↦ never (looks.Refused frame clause) answer e (λ x. x) (λ x. cc)
    ]
