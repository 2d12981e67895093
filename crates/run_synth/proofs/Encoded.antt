-- The results of the parts of a run.
use Rattle.std.proofs.Common.{◌≡◌, ℕ, ◌⊎◌, inl, inr, List, [], ◌++◌, length, Some, refl, sym, ap, ◌∙◌, subst, arith}
use Rattle.std.specs.Bool.{OnTrue}
use Rattle.std.proofs.lemmas.List.{length-map}
use Rattle.pw_outside.specs.Ports.{CountsFault, Rose}
use Rattle.pw_outside.specs.Writing.{sink_state, Puts}
use Rattle.pw_planes.specs.declared.kinds.Depth.TheVariants.{D10}
use Rattle.pic_y4m.specs.declared.fault.PictureKind.{PictureKind}
use Rattle.pic_raw.specs.Any.{pictures_of}
use Rattle.pic_synth.specs.Pictures.{SyntheticIsMeant, synthetic_pictures}
use Rattle.run_encode.specs.declared.job.Job.{Job}
use Rattle.run_encode.specs.declared.job.EncodeWords.{EncodeWords}
use Rattle.run_encode.specs.declared.end.EncodeEnd.{EncodeEnd}
use Rattle.run_encode.specs.declared.end.EncodeEnd.TheVariants as ends
use Rattle.run_encode.specs.Outputs.{Outputs}
use Rattle.run_encode.specs.Groups.{IsJobOf, group_count}
use Rattle.run_encode.specs.Encoding.{StopsFirst, RanOn, Ran, is_read_fault}
use Rattle.run_decode.specs.declared.job.Form.TheVariants as forms
use Rattle.run_look.specs.declared.end.LookEnd.TheVariants as looks
use Rattle.run_look.specs.Agreeing.{Checks, CountsReads, DoneOnce}
use Rattle.run_look.specs.declared.end.LookEnd.{LookEnd}
use Rattle.run_look.specs.Ends.{AnswersEnd, is_read_fault as is_stopped}
use Rattle.std.specs.Prelude.{IsSome}
use Rattle.run_synth.specs.declared.ports.Input.{Input}
use Rattle.run_synth.specs.declared.ports.Input.TheVariants as inputs
use Rattle.run_synth.specs.inner.Ports.{left_in}
use Rattle.run_round.specs.Laws.{EncodedIsChecked, EncodedIsDecoded, frames_in, all_shown}
use Rattle.pr_frame.specs.Shown.{shown_of}
use Rattle.run_synth.specs.declared.words.SynthWords.{SynthWords}
use Rattle.run_synth.specs.Synthesis.{AreSynthWords, encode_words, head_in, pictures_read, synthetic_in}
use Rattle.run_synth.specs.inner.Parts.{bytes_in, AreEncoded, IsDecodable}
use Rattle.run_synth.proofs.Laid.{laid, synthetic-ok, input, groups-are}

-- the contents of a sink that held nothing
pub held-so : (m0 m1 x : List ℕ) (n0 n1 : ℕ) → m0 ≡ [] → Puts (sink_state (Some m0) n0) (sink_state (Some m1) n1) x → m1 ≡ x
held-so m0 m1 x n0 n1 none p = p.bytes_held ∙ ap (λ l. l ++ x) none

pub never-read : (end : EncodeEnd) → CountsFault 0 0 (is_read_fault end) → end ≡ ends.ReadFault → ⊥
never-read end cause e =
    let rose : Rose 0 0 = subst (λ x. OnTrue (is_read_fault x) (Rose 0 0)) e cause.rose in
    omega (arith, rose)

-- the bytes that are left are visible
pub told : (i : Input) → IsSome (left_in i)
told (inputs.Synthetic bytes) = refl
told (inputs.Held m) = refl

-- checking the encoded files has no other outcome
module _ (bytes file shown : List ℕ) (n : ℕ) (once : DoneOnce) (there : Checks bytes file shown looks.Done n) where
  pub never-ends : (end : LookEnd) (other : LookEnd) → AnswersEnd end (λ e. (m : ℕ) × Checks bytes file shown e m) → end ≡ other
      → (AnswersEnd other (λ e. (m : ℕ) × Checks bytes file shown e m) → (m : ℕ) × Checks bytes file shown other m) → (other ≡ looks.Done → ⊥) → ⊥
  never-ends end other answer e is differs =
      let (m, ends) = is (subst (λ x. AnswersEnd x (λ e. (m : ℕ) × Checks bytes file shown e m)) e answer) in
      differs (once bytes file shown other m n ends there)

pub never-stopped : (end : LookEnd) → CountsReads 0 0 0 0 0 0 (is_stopped end) → end ≡ looks.ReadFault → ⊥
never-stopped end cause e = elim (subst (λ x. OnTrue (is_stopped x) (Rose 0 0 ⊎ (Rose 0 0 ⊎ Rose 0 0))) e cause.rose) [
  | inl rose ↦ omega (arith, rose)
  | inr (inl rose) ↦ omega (arith, rose)
  | inr (inr rose) ↦ omega (arith, rose)
]

pub record EncodedSo (w : SynthWords) (end : EncodeEnd) (before after : Outputs) : Type 0 where
  pub job : Job
  pub of : IsJobOf (encode_words w) (head_in w) job
  pub ran : Ran job (pictures_read w) end before after

module _ (w : SynthWords) (ok : AreSynthWords w) (meant : SyntheticIsMeant) where
  pub run-so : (words : EncodeWords) (bytes : List ℕ) (end : EncodeEnd) (before after : Outputs) → words ≡ encode_words w → bytes ≡ bytes_in w
      → (end ≡ ends.ReadFault → ⊥) → (end ≡ ends.NoMemory → ⊥)
      → StopsFirst end before after ⊎ RanOn words (pictures_of words.raw bytes) end before after → EncodedSo w end before after
  run-so words bytes end before after e f alive enough (inl (inl s, puts)) = absurd (alive s)
  run-so words bytes end before after e f alive enough (inl (inr s, puts)) = absurd (enough s)
  run-so words bytes end before after e f alive enough (inr r) =
      let first = subst (λ x. RanOn x (pictures_of x.raw bytes) end before after) e r in
      let second = subst (λ y. RanOn (encode_words w) (pictures_of (encode_words w).raw y) end before after) f first in
      let third = subst (λ z. RanOn (encode_words w) z end before after) (meant (synthetic_in w) (synthetic-ok w ok)) second in
      let (j, of, ran) = subst (λ t. OnTrue t ((j : Job) × IsJobOf (encode_words w) (head_in w) j × Ran j (pictures_read w) end before after)) (laid w ok) third.1 in
      record { job = j; of = of; ran = ran }

  pub never-bad : (words : EncodeWords) (bytes : List ℕ) (end : EncodeEnd) (before after : Outputs) (kind : PictureKind) (place : ℕ) → words ≡ encode_words w → bytes ≡ bytes_in w
      → end ≡ ends.BadPictures kind place → StopsFirst end before after ⊎ RanOn words (pictures_of words.raw bytes) end before after → ⊥
  never-bad words bytes end before after kind place e f is r =
      let so = run-so words bytes (ends.BadPictures kind place) before after e f (λ x. cc) (λ x. cc)
      (subst (λ x. StopsFirst x before after ⊎ RanOn words (pictures_of words.raw bytes) x before after) is r) in
      let (lists, encodes, puts, narrow) = so.ran in
      let fault = encodes.ends.1 in
      cc

  -- ---- the encoded files are decoded and checked

  module _ (movie proof text : List ℕ) (r : AreEncoded w movie proof text) where
    pub decodable : EncodedIsDecoded → IsDecodable movie (length (synthetic_pictures (synthetic_in w)))
    decodable law =
        let d = law (encode_words w) (bytes_in w) (head_in w) (pictures_read w) r.job r.lists (input w r.job ok meant r.of) r.encodes in
        let frames = frames_in r.job r.encodes.coded in
        subst (λ m. IsDecodable m (length (synthetic_pictures (synthetic_in w)))) (sym r.movie_is) (record {
          movie = d.0.movie;
          is_movie = d.0.is_movie;
          shown = all_shown D10 frames;
          decodes = d.0.decodes forms.Raw D10;
          count = length-map frames (shown_of D10) ∙ d.1;
        })

    pub checkable : EncodedIsChecked → Checks proof movie (bytes_in w) looks.Done (length (synthetic_pictures (synthetic_in w)))
    checkable law =
        let c = law (encode_words w) (bytes_in w) (head_in w) (pictures_read w) r.job r.lists (input w r.job ok meant r.of) r.encodes r.narrow in
        let movie' = sym r.movie_is in
        let proof' = sym r.proof_is in
        let count = groups-are w r.job r.of in
        subst (λ n. Checks proof movie (bytes_in w) looks.Done n) count
        (subst (λ m. Checks proof m (bytes_in w) looks.Done (group_count r.job.group (pictures_read w))) movie'
        (subst (λ p. Checks p r.lists.movie (bytes_in w) looks.Done (group_count r.job.group (pictures_read w))) proof' c.0))

    -- the same of equal bytes
    pub checkable-as : EncodedIsChecked → (proof' movie' shown : List ℕ) → proof' ≡ proof → movie' ≡ movie → shown ≡ bytes_in w
        → Checks proof' movie' shown looks.Done (length (synthetic_pictures (synthetic_in w)))
    checkable-as law proof' movie' shown a b c =
        subst (λ p. Checks p movie' shown looks.Done (length (synthetic_pictures (synthetic_in w)))) (sym a)
        (subst (λ m. Checks proof m shown looks.Done (length (synthetic_pictures (synthetic_in w)))) (sym b)
        (subst (λ s. Checks proof movie s looks.Done (length (synthetic_pictures (synthetic_in w)))) (sym c) (checkable law)))
