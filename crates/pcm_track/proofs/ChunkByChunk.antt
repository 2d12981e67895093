-- Chunks that are written one after the other.
use Rattle.std.proofs.Common.{◌≡◌, refl, ℕ, zero, suc, ◌+◌, ◌≤◌, Bool, true, false, nat_lt, if◌then◌else◌, List, [], ◌∷◌, ◌++◌, Option, None, Some, length, take, drop, map, arith, sym, ap, ◌∙◌, subst, append_assoc}
use Rattle.std.specs.Prelude.{slice_get, IsSome}
use Rattle.std.specs.List.{flat_map}
use Rattle.std.proofs.lemmas.List.{append-nil, nil_from_length, length-drop, take_all}
use Rattle.pw_outside.specs.Reading.{bytes_of}
use Rattle.pw_outside.specs.Writing.{SinkState, Puts, PutsFront, Extends}
use Rattle.pw_outside.proofs.Puts.{puts_then, then_front, front_more}
use Rattle.qt_tables.specs.declared.chunk_tables.Chunk.{Chunk}
use Rattle.qt_tables.specs.Samples as track
use Rattle.qt_tables.specs.declared.fault.MovieKind.TheVariants.{SampleOutside}
use Rattle.pcm_track.specs.declared.end.SoundEnd.{SoundEnd}
use Rattle.pcm_track.specs.declared.end.SoundEnd.TheVariants as ends
use Rattle.pcm_track.specs.Wav.{sound_size}
use Rattle.pcm_track.specs.Ends.{AnswersUnlessOutside, is_done}
use Rattle.pcm_track.specs.Sounding.{chunk_bytes, chunk_end, chunks_end}
use Rattle.pcm_track.specs.Writing.{Copied, CopiedFront, told_from}
use Rattle.pcm_track.proofs.HeldFrames.{told}

-- a chunk as the definitions have it
abbrev pub plain : Chunk → track.Chunk
plain c = record { at = c.at; samples = c.samples; description = 0 }

-- chunk i is the first of the rest
pub record Next (cs : List track.Chunk) (i : ℕ) (c : Chunk) : Type 0 where
  pub chunk : track.Chunk
  pub is : told chunk ≡ c
  pub parts : (f : track.Chunk → List ℕ) → flat_map f cs ≡ flat_map f (take i cs) ++ (f chunk ++ flat_map f (drop (i + 1) cs))
  pub more : (f : track.Chunk → List ℕ) → flat_map f (take (i + 1) cs) ≡ flat_map f (take i cs) ++ f chunk
  pub ahead : drop i cs ≡ chunk ∷ drop (i + 1) cs

pub next-chunk : (cs : List track.Chunk) (i : ℕ) (c : Chunk) → slice_get (map told cs) i ≡ Some c → Next cs i c
next-chunk [] zero c e = absurd cc
next-chunk [] (suc i) c e = absurd cc
next-chunk (x ∷ cs) zero c e = record {
  chunk = x;
  is = cc;
  parts = λ f. refl;
  more = λ f. append-nil (f x);
  ahead = refl;
}
next-chunk (x ∷ cs) (suc i) c e =
    let n = next-chunk cs i c e in
    let k : suc i + 1 ≡ suc (i + 1) = omega arith in
    record {
      chunk = n.chunk;
      is = n.is;
      parts = λ f. rw k (ap (λ l. f x ++ l) (n.parts f) ∙ sym (append_assoc (f x) (flat_map f (take i cs)) (f n.chunk ++ flat_map f (drop (i + 1) cs))));
      more = λ f. rw k (ap (λ l. f x ++ l) (n.more f) ∙ sym (append_assoc (f x) (flat_map f (take i cs)) (f n.chunk)));
      ahead = rw k n.ahead;
    }

-- ---- the outcome

goes-on : (b : Bool) (bad rest : SoundEnd) → is_done bad ≡ false → ends.Done ≡ (if b then bad else ends.Done) → (if b then bad else rest) ≡ rest
goes-on true bad rest h e = absurd (let one = ap is_done e ∙ h in cc)
goes-on false bad rest h e = refl

stops : (b : Bool) (bad rest end : SoundEnd) → is_done end ≡ false → end ≡ (if b then bad else ends.Done) → end ≡ (if b then bad else rest)
stops true bad rest end h e = e
stops false bad rest end h e = absurd (let one = sym h ∙ ap is_done e in cc)

-- a chunk that the file has
pub answer-on : (file : List ℕ) (channels : ℕ) (cs : List track.Chunk) (i : ℕ) (c : Chunk) (total : SoundEnd) → Next cs i c → ends.Done ≡ chunk_end file channels (plain c)
    → chunks_end file channels (drop i cs) ≡ total → chunks_end file channels (drop (i + 1) cs) ≡ total
answer-on file channels cs i c total n e so_far =
    let here : ends.Done ≡ chunk_end file channels n.chunk = e ∙ sym (ap (λ (d : Chunk). chunk_end file channels (plain d)) n.is) in
    sym (ap (chunks_end file channels) n.ahead ∙ goes-on (nat_lt (length file) (n.chunk.at + sound_size channels n.chunk.samples)) (ends.BadMovie SampleOutside n.chunk.at) (chunks_end file channels (drop (i + 1) cs)) refl here) ∙ so_far

-- the run ends at a chunk
pub answer-there : (file : List ℕ) (channels : ℕ) (cs : List track.Chunk) (i : ℕ) (c : Chunk) (total end : SoundEnd) → Next cs i c → is_done end ≡ false → AnswersUnlessOutside end (chunk_end file channels (plain c))
    → chunks_end file channels (drop i cs) ≡ total → AnswersUnlessOutside end total
answer-there file channels cs i c total ends.Done n h e so_far = absurd cc
answer-there file channels cs i c total ends.NoMemory n h e so_far = tt
answer-there file channels cs i c total ends.ReadFault n h e so_far = tt
answer-there file channels cs i c total ends.WriteFault n h e so_far = tt
answer-there file channels cs i c total (ends.BadMovie kind place) n h e so_far =
    let here : ends.BadMovie kind place ≡ chunk_end file channels n.chunk = e ∙ sym (ap (λ (d : Chunk). chunk_end file channels (plain d)) n.is) in
    stops (nat_lt (length file) (n.chunk.at + sound_size channels n.chunk.samples)) (ends.BadMovie SampleOutside n.chunk.at) (chunks_end file channels (drop (i + 1) cs)) (ends.BadMovie kind place) refl here
    ∙ sym (ap (chunks_end file channels) n.ahead) ∙ so_far
answer-there file channels cs i c total (ends.BadSound kind place) n h e so_far =
    let here : ends.BadSound kind place ≡ chunk_end file channels n.chunk = e ∙ sym (ap (λ (d : Chunk). chunk_end file channels (plain d)) n.is) in
    stops (nat_lt (length file) (n.chunk.at + sound_size channels n.chunk.samples)) (ends.BadMovie SampleOutside n.chunk.at) (chunks_end file channels (drop (i + 1) cs)) (ends.BadSound kind place) refl here
    ∙ sym (ap (chunks_end file channels) n.ahead) ∙ so_far

-- the file has all chunks
pub answer-all : (file : List ℕ) (channels : ℕ) (cs : List track.Chunk) (i : ℕ) (total : SoundEnd) → length cs ≤ i → chunks_end file channels (drop i cs) ≡ total → ends.Done ≡ total
answer-all file channels cs i total le so_far =
    let none : drop i cs ≡ [] = nil_from_length (drop i cs) (omega (arith, le, length-drop i cs)) in
    sym (ap (chunks_end file channels) none) ∙ so_far

-- ---- what is written

bytes-is : (file : List ℕ) (channels : ℕ) (cs : List track.Chunk) (i : ℕ) (c : Chunk) (n : Next cs i c) → chunk_bytes file channels (plain c) ≡ chunk_bytes file channels n.chunk
bytes-is file channels cs i c n = sym (ap (λ (d : Chunk). chunk_bytes file channels (plain d)) n.is)

told-puts : (known : Option (List ℕ)) (channels : ℕ) (c : Chunk) (a b : SinkState) → IsSome known → Copied (told_from c.at known) (sound_size channels c.samples) a b → Puts a b (chunk_bytes (bytes_of known) channels (plain c))
told-puts None channels c a b h p = absurd cc
told-puts (Some xs) channels c a b h p = subst (Puts a b) p.same p.puts

told-front : (known : Option (List ℕ)) (channels : ℕ) (c : Chunk) (a b : SinkState) → IsSome known → CopiedFront (told_from c.at known) (sound_size channels c.samples) a b → PutsFront a b (chunk_bytes (bytes_of known) channels (plain c))
told-front None channels c a b h p = absurd cc
told-front (Some xs) channels c a b h p = subst (PutsFront a b) p.same p.front

-- one more chunk was written
pub written-on : (known : Option (List ℕ)) (channels : ℕ) (cs : List track.Chunk) (i : ℕ) (c : Chunk) (a b d : SinkState) → IsSome known → Next cs i c → Puts a b (flat_map (chunk_bytes (bytes_of known) channels) (take i cs))
    → Copied (told_from c.at known) (sound_size channels c.samples) b d → Puts a d (flat_map (chunk_bytes (bytes_of known) channels) (take (i + 1) cs))
written-on known channels cs i c a b d h n p q =
    let one : Puts b d (chunk_bytes (bytes_of known) channels n.chunk) = subst (Puts b d) (bytes-is (bytes_of known) channels cs i c n) (told-puts known channels c b d h q) in
    subst (Puts a d) (sym (n.more (chunk_bytes (bytes_of known) channels))) (puts_then p one)

-- a prefix of one more chunk was written
pub written-front : (known : Option (List ℕ)) (channels : ℕ) (cs : List track.Chunk) (i : ℕ) (c : Chunk) (a b d : SinkState) → IsSome known → Next cs i c → Puts a b (flat_map (chunk_bytes (bytes_of known) channels) (take i cs))
    → CopiedFront (told_from c.at known) (sound_size channels c.samples) b d → PutsFront a d (flat_map (chunk_bytes (bytes_of known) channels) cs)
written-front known channels cs i c a b d h n p q =
    let one : PutsFront b d (chunk_bytes (bytes_of known) channels n.chunk) = subst (PutsFront b d) (bytes-is (bytes_of known) channels cs i c n) (told-front known channels c b d h q) in
    subst (PutsFront a d) (sym (n.parts (chunk_bytes (bytes_of known) channels))) (then_front p (front_more (flat_map (chunk_bytes (bytes_of known) channels) (drop (i + 1) cs)) one))

-- all chunks were written
pub written-all : (f : track.Chunk → List ℕ) (cs : List track.Chunk) (i : ℕ) (a b : SinkState) → length cs ≤ i → Puts a b (flat_map f (take i cs)) → Puts a b (flat_map f cs)
written-all f cs i a b le p = subst (λ l. Puts a b (flat_map f l)) (take_all i cs le) p

pub extends-copied : {known : Option (List ℕ)} {n : ℕ} {a b d : SinkState} → Extends a b → Copied known n b d → Extends a d
extends-copied e q = (e.0 ++ q.bytes, puts_then e.1 q.puts)

pub extends-front : {known : Option (List ℕ)} {n : ℕ} {a b d : SinkState} → Extends a b → CopiedFront known n b d → Extends a d
extends-front e q = (e.0 ++ take q.front.out q.bytes, puts_then e.1 q.front.front)
