-- Data atoms that are written one after the other.
use Rattle.std.proofs.Common.{◌≡◌, refl, ℕ, ◌+◌, ◌≤◌, Bool, true, false, nat_lt, if◌then◌else◌, List, [], ◌∷◌, ◌++◌, Option, None, Some, Result, Ok, Err, length, drop, codes, arith, sym, ap, subst, ◌∙◌, append_assoc}
use Rattle.std.specs.Prelude.{IsSome, IfSome, IfErr, replicate}
use Rattle.std.specs.Int.{w32, to_be_bytes}
use Rattle.std.proofs.lemmas.List.{length-take, length-append, length-replicate, append-nil}
use Rattle.pw_outside.specs.Ports.{last}
use Rattle.pw_outside.specs.Reading.{Rest, Read, rest_of, bytes_of}
use Rattle.pw_outside.specs.Writing.{SinkState, Puts, PutsFront}
use Rattle.pw_outside.proofs.Puts.{puts_none, puts_then, then_front, front_more}
use Rattle.qt_tables.specs.declared.runs.Sample.{Sample}
use Rattle.qt_tables.specs.declared.fault.MovieKind.TheVariants.{SampleOutside, SampleLarge}
use Rattle.qt_movie.specs.MovieBytes.{frame_head_bytes}
use Rattle.pcm_track.specs.declared.fault.SoundKind.{SoundKind}
use Rattle.pcm_track.specs.declared.parts.Part.{Part}
use Rattle.pcm_track.specs.declared.parts.Part.TheVariants as parts
use Rattle.pcm_track.specs.declared.end.SoundEnd.{SoundEnd}
use Rattle.pcm_track.specs.declared.end.SoundEnd.TheVariants as ends
use Rattle.pcm_track.specs.Ends.{AnswersUnlessOutside, is_done, is_read_fault, end_of}
use Rattle.pcm_track.specs.Wav.{sound_size, passed_over}
use Rattle.pcm_track.specs.Writing.{first_bytes, Copied, CopiedFront, told_from, PutsSome, PutsSomeFront, BothTold}
use Rattle.pcm_track.specs.Adding.{data_atom, data_atoms, part_bytes, sound_in_part, behind_sound, behind_part, and_then, parts_end, Stops, IsAtomOf}
use Rattle.pcm_track.proofs.Passing.{passed-behind}

-- ---- one atom

pub length-first : (n : ℕ) (xs : List ℕ) → length (first_bytes n xs) ≡ n
length-first n xs = omega (arith, length-take n (xs ++ replicate n 0), length-append xs (replicate n 0), length-replicate {A = ℕ} n 0)

pub atom-is : (n : ℕ) (there : List ℕ) → frame_head_bytes n ++ first_bytes n there ≡ data_atom (first_bytes n there)
atom-is n there =
    append_assoc (to_be_bytes w32 (n + 8)) (codes "mdat") (first_bytes n there)
    ∙ ap (λ (k : ℕ). to_be_bytes w32 (k + 8) ++ (codes "mdat" ++ first_bytes n there)) (sym (length-first n there))

atom-told : (told : Option (List ℕ)) (n : ℕ) (bytes : List ℕ) → IfSome told (λ there. bytes ≡ first_bytes n there) → IsAtomOf told n (frame_head_bytes n ++ bytes)
atom-told None n bytes h = tt
atom-told (Some there) n bytes h = ap (λ l. frame_head_bytes n ++ l) h ∙ atom-is n there

whole-told : (told : Option (List ℕ)) (n : ℕ) → IsAtomOf told n (frame_head_bytes n ++ first_bytes n (bytes_of told))
whole-told None n = tt
whole-told (Some there) n = atom-is n there

pub put-atom : {told : Option (List ℕ)} {n : ℕ} {a b c : SinkState} → Puts a b (frame_head_bytes n) → Copied told n b c → PutsSome (IsAtomOf told n) a c
put-atom {told} {n} p q = record { bytes = frame_head_bytes n ++ q.bytes; is = atom-told told n q.bytes q.same; puts = puts_then p q.puts }

pub put-atom-front : {told : Option (List ℕ)} {n : ℕ} {a b c : SinkState} → Puts a b (frame_head_bytes n) → CopiedFront told n b c → PutsSomeFront (IsAtomOf told n) a c
put-atom-front {told} {n} p q = record { bytes = frame_head_bytes n ++ q.bytes; is = atom-told told n q.bytes q.same; front = then_front p q.front }

pub put-head-front : (told : Option (List ℕ)) (n : ℕ) {a b : SinkState} → PutsFront a b (frame_head_bytes n) → PutsSomeFront (IsAtomOf told n) a b
put-head-front told n p = record { bytes = frame_head_bytes n ++ first_bytes n (bytes_of told); is = whole-told told n; front = front_more (first_bytes n (bytes_of told)) p }

pub put-nothing : (told : Option (List ℕ)) (n : ℕ) (a : SinkState) → a.taken ≤ last → PutsSomeFront (IsAtomOf told n) a a
put-nothing told n a h = record { bytes = frame_head_bytes n ++ first_bytes n (bytes_of told); is = whole-told told n; front = record { out = 0; front = puts_none a h } }

-- ---- a part

abbrev pub IsPartOf : (movie wav : Option (List ℕ)) (channels : ℕ) → Part → List ℕ → Type 0
IsPartOf movie wav channels x bytes = BothTold movie wav (λ file sound. bytes ≡ data_atom (part_bytes file channels x sound))

-- ---- the outcome after a part

picture-behind-in : (b c : Bool) (x y : SoundEnd) (r r' : Rest) → (if b then Err x else (if c then Err y else Ok r)) ≡ Ok r' → r' ≡ r
picture-behind-in true c x y r r' e = absurd cc
picture-behind-in false true x y r r' e = absurd cc
picture-behind-in false false x y r r' e = cc

sound-behind-in : (read : Read SoundKind (Unit {0})) (r' : Rest) → behind_sound read ≡ Ok r' → read ≡ Ok (tt, r')
sound-behind-in (Ok x) r' e = ap (λ (y : Result Rest SoundEnd). with_unit y) e
  where
    with_unit : Result Rest SoundEnd → Read SoundKind (Unit {0})
    with_unit (Ok rest) = Ok (tt, rest)
    with_unit (Err end) = Ok x
sound-behind-in (Err f) r' e = absurd cc

pub behind-bytes : (file : List ℕ) (channels : ℕ) (x : Part) (r r' : Rest) → behind_part file channels x r ≡ Ok r' → r'.bytes ≡ drop (sound_in_part channels x) r.bytes
behind-bytes file channels (parts.Picture s) r r' e = ap (λ (q : Rest). q.bytes) (picture-behind-in (nat_lt (length file) (s.at + s.size)) (nat_lt 4294967286 s.size) (ends.BadMovie SampleOutside s.at) (ends.BadMovie SampleLarge s.at) r r' e)
behind-bytes file channels (parts.Sound n) r r' e = ap (λ (q : Rest). q.bytes) (passed-behind (sound_size channels n) r r' (sound-behind-in (passed_over (sound_size channels n) r) r' e))

-- a part was written
pub ends-on : (file : List ℕ) (channels : ℕ) (x : Part) (xs all : List Part) (r r' : Rest) → all ≡ x ∷ xs → behind_part file channels x r ≡ Ok r' → parts_end file channels xs r' ≡ parts_end file channels all r
ends-on file channels x xs all r r' a e = sym (ap (λ l. parts_end file channels l r) a ∙ ap (λ b. and_then b (λ rest. parts_end file channels xs rest)) e)

stopped : (end : SoundEnd) (behind : Result Rest SoundEnd) (others : Rest → SoundEnd) → is_done end ≡ false → Stops end behind → AnswersUnlessOutside end (and_then behind others)
stopped ends.Done behind others n h = absurd cc
stopped ends.NoMemory behind others n h = tt
stopped ends.ReadFault behind others n h = tt
stopped ends.WriteFault behind others n h = tt
stopped (ends.BadMovie kind place) behind others n h = sym (ap (λ b. and_then b others) h)
stopped (ends.BadSound kind place) behind others n h = sym (ap (λ b. and_then b others) h)

-- ---- the bytes written after a part

abbrev pub Written : (movie wav : Option (List ℕ)) (channels : ℕ) (ahead all : List Part) (left : Option (List ℕ)) → List ℕ → Type 0
Written movie wav channels ahead all left bytes = BothTold movie wav (λ file sound. bytes ++ data_atoms file channels ahead (bytes_of left) ≡ data_atoms file channels all sound)

abbrev pub WrittenAll : (movie wav : Option (List ℕ)) (channels : ℕ) (all : List Part) → List ℕ → Type 0
WrittenAll movie wav channels all bytes = BothTold movie wav (λ file sound. bytes ≡ data_atoms file channels all sound)

some-of : (told : Option (List ℕ)) → IsSome told → told ≡ Some (bytes_of told)
some-of None h = absurd cc
some-of (Some x) h = refl

-- one more part
pub written-on : (movie wav left left' : Option (List ℕ)) (channels place place' : ℕ) (x : Part) (xs ahead all : List Part) (a b c : SinkState)
    → (IsSome wav → IsSome left) → ahead ≡ x ∷ xs
    → BothTold movie left (λ file sound. behind_part file channels x (rest_of place left) ≡ Ok (rest_of place' left'))
    → PutsSome (Written movie wav channels ahead all left) a b → PutsSome (IsPartOf movie left channels x) b c → PutsSome (Written movie wav channels xs all left') a c
written-on movie wav left left' channels place place' x xs ahead all a b c told e behind p q = record {
  bytes = p.bytes ++ q.bytes;
  is = λ h i.
      let here : q.bytes ≡ data_atom (part_bytes (bytes_of movie) channels x (bytes_of left)) = q.is h (told i) in
      let rest : bytes_of left' ≡ drop (sound_in_part channels x) (bytes_of left) = behind-bytes (bytes_of movie) channels x (rest_of place left) (rest_of place' left') (behind h (told i)) in
      let ahead_is : data_atoms (bytes_of movie) channels ahead (bytes_of left) ≡ q.bytes ++ data_atoms (bytes_of movie) channels xs (bytes_of left') =
      ap (λ l. data_atoms (bytes_of movie) channels l (bytes_of left)) e
      ∙ ap (λ l. l ++ data_atoms (bytes_of movie) channels xs (drop (sound_in_part channels x) (bytes_of left))) (sym here)
      ∙ ap (λ l. q.bytes ++ data_atoms (bytes_of movie) channels xs l) (sym rest) in
      append_assoc p.bytes q.bytes (data_atoms (bytes_of movie) channels xs (bytes_of left')) ∙ ap (λ l. p.bytes ++ l) (sym ahead_is) ∙ p.is h i;
  puts = puts_then p.puts q.puts;
}

-- a prefix of one more part
pub written-front : (movie wav left : Option (List ℕ)) (channels : ℕ) (x : Part) (xs ahead all : List Part) (a b c : SinkState)
    → (IsSome wav → IsSome left) → ahead ≡ x ∷ xs
    → PutsSome (Written movie wav channels ahead all left) a b → PutsSomeFront (IsPartOf movie left channels x) b c → PutsSomeFront (WrittenAll movie wav channels all) a c
written-front movie wav left channels x xs ahead all a b c told e p q =
    let behind = data_atoms (bytes_of movie) channels xs (drop (sound_in_part channels x) (bytes_of left)) in
    record {
      bytes = p.bytes ++ (q.bytes ++ behind);
      is = λ h i.
          let here : q.bytes ≡ data_atom (part_bytes (bytes_of movie) channels x (bytes_of left)) = q.is h (told i) in
          let ahead_is : data_atoms (bytes_of movie) channels ahead (bytes_of left) ≡ q.bytes ++ behind =
          ap (λ l. data_atoms (bytes_of movie) channels l (bytes_of left)) e ∙ ap (λ l. l ++ behind) (sym here) in
          ap (λ l. p.bytes ++ l) (sym ahead_is) ∙ p.is h i;
      front = then_front p.puts (front_more behind q.front);
    }

-- all parts
pub written-all : (movie wav left : Option (List ℕ)) (channels : ℕ) (ahead all : List Part) (a b : SinkState) → ahead ≡ [] → PutsSome (Written movie wav channels ahead all left) a b → PutsSome (WrittenAll movie wav channels all) a b
written-all movie wav left channels ahead all a b e p = record {
  bytes = p.bytes;
  is = λ h i. sym (append-nil p.bytes) ∙ ap (λ l. p.bytes ++ data_atoms (bytes_of movie) channels l (bytes_of left)) (sym e) ∙ p.is h i;
  puts = p.puts;
}

-- ---- a whole movie

-- nothing was written
pub none-both : (movie wav : Option (List ℕ)) (f : List ℕ → List ℕ → List ℕ) (a : SinkState) → a.taken ≤ last → PutsSomeFront (λ bytes. BothTold movie wav (λ x y. bytes ≡ f x y)) a a
none-both movie wav f a h = record { bytes = f (bytes_of movie) (bytes_of wav); is = λ i j. refl; front = record { out = 0; front = puts_none a h } }

-- a prefix of the head
pub head-both : (movie wav : Option (List ℕ)) (head : List ℕ) (f : List ℕ → List ℕ → List ℕ) (a b : SinkState) → PutsFront a b head → PutsSomeFront (λ bytes. BothTold movie wav (λ x y. bytes ≡ head ++ f x y)) a b
head-both movie wav head f a b p = record { bytes = head ++ f (bytes_of movie) (bytes_of wav); is = λ i j. refl; front = front_more (f (bytes_of movie) (bytes_of wav)) p }

-- the head, and a prefix of the rest
pub middle-both : (movie wav : Option (List ℕ)) (head tail : List ℕ) (f : List ℕ → List ℕ → List ℕ) (a b c : SinkState) → Puts a b head → PutsSomeFront (λ bytes. BothTold movie wav (λ x y. bytes ≡ f x y)) b c
    → PutsSomeFront (λ bytes. BothTold movie wav (λ x y. bytes ≡ head ++ (f x y ++ tail))) a c
middle-both movie wav head tail f a b c p q = record {
  bytes = head ++ (q.bytes ++ tail);
  is = λ i j. ap (λ l. head ++ (l ++ tail)) (q.is i j);
  front = then_front p (front_more tail q.front);
}

-- all up to the tail, and a prefix of the tail
pub last-both : (movie wav : Option (List ℕ)) (head tail : List ℕ) (f : List ℕ → List ℕ → List ℕ) (a b c d : SinkState) → Puts a b head → PutsSome (λ bytes. BothTold movie wav (λ x y. bytes ≡ f x y)) b c → PutsFront c d tail
    → PutsSomeFront (λ bytes. BothTold movie wav (λ x y. bytes ≡ head ++ (f x y ++ tail))) a d
last-both movie wav head tail f a b c d p q r = record {
  bytes = head ++ (q.bytes ++ tail);
  is = λ i j. ap (λ l. head ++ (l ++ tail)) (q.is i j);
  front = then_front p (then_front q.puts r);
}

-- all
pub whole-both : (movie wav : Option (List ℕ)) (head tail : List ℕ) (f : List ℕ → List ℕ → List ℕ) (a b c d : SinkState) → Puts a b head → PutsSome (λ bytes. BothTold movie wav (λ x y. bytes ≡ f x y)) b c → Puts c d tail
    → PutsSome (λ bytes. BothTold movie wav (λ x y. bytes ≡ head ++ (f x y ++ tail))) a d
whole-both movie wav head tail f a b c d p q r = record {
  bytes = head ++ (q.bytes ++ tail);
  is = λ i j. ap (λ l. head ++ (l ++ tail)) (q.is i j);
  puts = puts_then p (puts_then q.puts r);
}

-- ---- a last call that can only fail in writing

pub answer-last : (r : Result (Unit {0}) SoundEnd) (total : SoundEnd) → IfErr r (λ end. end ≡ ends.WriteFault) → ends.Done ≡ total → AnswersUnlessOutside (end_of r) total
answer-last (Ok x) total h e = e
answer-last (Err end) total h e = subst (λ (x : SoundEnd). AnswersUnlessOutside x total) (sym h) tt

pub not-done-last : (r : Result (Unit {0}) SoundEnd) → IfErr r (λ end. end ≡ ends.WriteFault) → IfErr r (λ end. is_done end ≡ false)
not-done-last (Ok x) h = tt
not-done-last (Err end) h = ap is_done h

pub not-read-last : (r : Result (Unit {0}) SoundEnd) → IfErr r (λ end. end ≡ ends.WriteFault) → is_read_fault (end_of r) ≡ false
not-read-last (Ok x) h = refl
not-read-last (Err end) h = ap is_read_fault h
