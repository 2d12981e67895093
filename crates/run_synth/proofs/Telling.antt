-- What a run did, from what was printed.
use Rattle.std.proofs.Common.{◌≡◌, ℕ, inl, inr, Bool, true, false, List, [], refl, sym, subst}
use Rattle.std.specs.Bool.{OnTrue, OnFalse}
use Rattle.std.proofs.lemmas.List.{append-nil}
use Rattle.pw_outside.proofs.Puts.{puts_then, puts_front}
use Rattle.pw_outside.specs.Ports.{CountsFault, Rose}
use Rattle.pw_outside.specs.Writing.{SinkState, Puts, PutsFront, Extends}
use Rattle.run_encode.specs.declared.job.Job.{Job}
use Rattle.run_encode.specs.Completing.{EachFits}
use Rattle.run_encode.specs.Groups.{IsJobOf}
use Rattle.std.specs.Prelude.{length}
use Rattle.run_synth.specs.declared.words.SynthWords.{SynthWords}
use Rattle.run_synth.specs.declared.end.SynthEnd.{SynthEnd}
use Rattle.run_synth.specs.declared.end.SynthEnd.TheVariants as ends
use Rattle.run_synth.specs.Synthesis.{encode_words, head_in, pictures_read, PrintsOn, RanOn, CompletesSynth, is_settled, is_write_fault}

-- a whole text that was then flushed, whatever the flush returned
pub flushed-front : {a b c : SinkState} {xs : List ℕ} (failed : Bool) → Puts a b xs → Puts b c [] → OnTrue failed (PutsFront a c xs)
flushed-front {a} {b} {c} {xs} true p q = puts_front (subst (Puts a c) (append-nil xs) (puts_then p q))
flushed-front {a} {b} {c} {xs} false p q = tt

abbrev pub Whole : SynthEnd → SynthEnd → List ℕ → SinkState → SinkState → Type 0
Whole end result text before after = OnFalse (is_write_fault result) ((result ≡ end) × Puts before after text)

abbrev pub Front : SynthEnd → List ℕ → SinkState → SinkState → Type 0
Front result text before after = OnTrue (is_write_fault result) (PutsFront before after text)

-- an outcome with a printed text is no fault
pub printed-no_fault : (w : SynthWords) (end : SynthEnd) (text : List ℕ) → PrintsOn w end text → is_write_fault end ≡ false
printed-no_fault w ends.Done text p = refl
printed-no_fault w (ends.TooSmall frame least) text p = refl
printed-no_fault w (ends.LayersFull frame) text p = refl
printed-no_fault w ends.NoMemory text (j, of, p) = absurd p
printed-no_fault w ends.WriteFault text (j, of, p) = absurd p

pub ran-so : (w : SynthWords) (end result : SynthEnd) (text : List ℕ) (before after : SinkState) → PrintsOn w end text
    → Whole end result text before after → Front result text before after → RanOn w result before after
ran-so w end ends.Done text before after p whole front = (text, subst (λ e. PrintsOn w e text) (sym whole.0) p, whole.1)
ran-so w end (ends.TooSmall frame least) text before after p whole front = (text, subst (λ e. PrintsOn w e text) (sym whole.0) p, whole.1)
ran-so w end (ends.LayersFull frame) text before after p whole front = (text, subst (λ e. PrintsOn w e text) (sym whole.0) p, whole.1)
ran-so w end ends.NoMemory text before after p whole front = let (j, of, none) = subst (λ e. PrintsOn w e text) (sym whole.0) p in absurd none
ran-so w end ends.WriteFault text before after p whole front = (end, text, p, front)

pub extends-so : (end result : SynthEnd) (text : List ℕ) (before after : SinkState) → Whole end result text before after → Front result text before after → Extends before after
extends-so end ends.Done text before after whole front = (text, whole.1)
extends-so end (ends.TooSmall frame least) text before after whole front = (text, whole.1)
extends-so end (ends.LayersFull frame) text before after whole front = (text, whole.1)
extends-so end ends.NoMemory text before after whole front = (text, whole.1)
extends-so end ends.WriteFault text before after whole front = (_, front.front)

pub settled-so : (result : SynthEnd) (P : Type 0) → OnFalse (is_write_fault result) P → OnTrue (is_settled result) P
settled-so ends.Done P p = p
settled-so (ends.TooSmall frame least) P p = p
settled-so (ends.LayersFull frame) P p = tt
settled-so ends.NoMemory P p = tt
settled-so ends.WriteFault P p = tt

-- if each frame fits, and its Pareto frontiers don't have too many pairs, the printed text is the whole
fits-done : (w : SynthWords) (end : SynthEnd) (text : List ℕ) → PrintsOn w end text → ((j : Job) → IsJobOf (encode_words w) (head_in w) j → EachFits j (pictures_read w)) → end ≡ ends.Done
fits-done w ends.Done text p each = refl
fits-done w (ends.TooSmall frame least) text (j, of, p) each = let e = p.encodes.ends in absurd ((each j of (length p.encodes.coded) e.0).0 e.1)
fits-done w (ends.LayersFull frame) text (j, of, p) each = absurd ((each j of (length p.coded) p.there).1 p.passes)
fits-done w ends.NoMemory text (j, of, p) each = absurd p
fits-done w ends.WriteFault text (j, of, p) each = absurd p

pub completes-so : (w : SynthWords) (end result : SynthEnd) (text : List ℕ) (before after : SinkState) (old new : ℕ) → PrintsOn w end text → Whole end result text before after
    → CountsFault old new (is_write_fault result) → (Rose old new → ⊥) → CompletesSynth w result
completes-so w end ends.Done text before after old new p whole cause still each = inl refl
completes-so w end (ends.TooSmall frame least) text before after old new p whole cause still each = inl (fits-done w (ends.TooSmall frame least) text (subst (λ e. PrintsOn w e text) (sym whole.0) p) each)
completes-so w end (ends.LayersFull frame) text before after old new p whole cause still each = inl (fits-done w (ends.LayersFull frame) text (subst (λ e. PrintsOn w e text) (sym whole.0) p) each)
completes-so w end ends.NoMemory text before after old new p whole cause still each = inr refl
completes-so w end ends.WriteFault text before after old new p whole cause still each = absurd (still cause.rose)
