-- The frames and the outcome of rescuing are unique.
use Rattle.std.proofs.Common.{◌≡◌, refl, ℕ, ◌+◌, ◌≤◌, ◌<◌, List, [], ◌∷◌, ◌++◌, length, length-append, append-nil, arith, ap, sym, subst, ◌∙◌, inl, inr}
use Rattle.std.specs.Prelude.{◌⊎◌, Option, None}
use Rattle.pr_frame.specs.Laws.{OneFrame}
use Rattle.qt_atoms.specs.Atoms.{bytes_in}
use Rattle.qt_tables.specs.declared.fault.MovieKind.{MovieKind}
use Rattle.rescue_run.specs.declared.form.FrameForm.{FrameForm}
use Rattle.rescue_run.specs.declared.end.RescueEnd.{RescueEnd}
use Rattle.rescue_run.specs.declared.end.RescueEnd.TheVariants as ends
use Rattle.rescue_run.specs.Chain.{HoldsFrame, form_behind, Taken, behind, Takes, TakesFirst, IsChain, size_at}
use Rattle.std.specs.Bool.{OnTrue}
use Rattle.rescue_run.specs.declared.form.Rate.{Rate}
use Rattle.rescue_run.specs.Rescuing.{Rescues, Follows, World, Ran, is_read_fault, is_write_fault}
use Rattle.rescue_run.specs.Laws.{RescuingIsOne, AnswersRescue}
use Rattle.rescue_run.proofs.Following.{below_or}

-- the first list is a prefix of the other
abbrev pub Begins : List Taken → List Taken → Type 0
Begins ts us = (more : List Taken) × (us ≡ ts ++ more)

begins_cons : (t u : Taken) (ts us : List Taken) → t ≡ u → Begins ts us → Begins (t ∷ ts) (u ∷ us)
begins_cons t u ts us e h = (h.0, ap (λ x. x ∷ us) (sym e) ∙ ap (λ l. t ∷ l) h.1)

module _ (one : OneFrame) (file : List ℕ) where
  same_place : (first : Option FrameForm) (from : ℕ) (t u : Taken) (ts us : List Taken) (to to' : ℕ) → Takes file first from (t ∷ ts) to → Takes file first from (u ∷ us) to' → ((t.at < u.at) ⊎ (u.at ≤ t.at)) → ((u.at < t.at) ⊎ (t.at ≤ u.at)) → t.at ≡ u.at
  same_place first from t u ts us to to' h k (inl lt) other = absurd (k.1 t.at t.frame h.0 lt h.2 h.3)
  same_place first from t u ts us to to' h k (inr le) (inl lt) = absurd (h.1 u.at u.frame k.0 lt k.2 k.3)
  same_place first from t u ts us to to' h k (inr le) (inr ge) = omega (arith, le, ge)

  same_frame : (t u : Taken) → t.at ≡ u.at → HoldsFrame file t.at t.frame → HoldsFrame file u.at u.frame → t ≡ u
  same_frame t u e h k =
      let f : t.frame ≡ u.frame = one (bytes_in (size_at file u.at) file u.at) t.frame u.frame (subst (λ p. HoldsFrame file p t.frame) e h).stands k.stands in
      ap (λ p. record { at = p; frame = t.frame }) e ∙ ap (λ f. record { at = u.at; frame = f }) f

  -- of two lists of first frames the shorter is a prefix of the longer
  begins : (first : Option FrameForm) (from : ℕ) (ts us : List Taken) (to to' : ℕ) → Takes file first from ts to → Takes file first from us to' → length ts ≤ length us → Begins ts us
  begins first from [] us to to' h k le = (us, refl)
  begins first from (t ∷ ts) [] to to' h k le = absurd (omega (arith, le))
  begins first from (t ∷ ts) (u ∷ us) to to' h k le =
      let at = same_place first from t u ts us to to' h k (below_or t.at u.at) (below_or u.at t.at) in
      let e = same_frame t u at h.2 k.2 in
      begins_cons t u ts us e (begins (form_behind first u.frame) (behind file u) ts us to to' (subst (λ x. Takes file (form_behind first x.frame) (behind file x) ts to) e h.4) k.4 (omega (arith, le)))

  -- after the whole chain there is no further frame
  no_more : (first : Option FrameForm) (from : ℕ) (ts : List Taken) (m : Taken) (ms : List Taken) (to : ℕ) → Takes file first from ts (length file) → Takes file first from (ts ++ m ∷ ms) to → ⊥
  no_more first from [] m ms to h k = h.1 m.at m.frame k.0 (omega (arith, k.2.inside, k.2.least)) k.2 k.3
  no_more first from (t ∷ ts) m ms to h k = no_more (form_behind first t.frame) (behind file t) ts m ms to h.4 k.4

  begins_chain_by : (ts us : List Taken) (to : ℕ) → IsChain file ts → TakesFirst file us to → ((length ts < length us) ⊎ (length us ≤ length ts)) → Begins us ts
  begins_chain_by ts us to h k (inr le) = begins None 0 us ts to (length file) k h le
  begins_chain_by ts us to h k (inl lt) = absurd (longer (begins None 0 ts us (length file) to h k (omega (arith, lt))))
    where
      longer : Begins ts us → ⊥
      longer (b, e) = by b e
        where
          by : (b : List Taken) → us ≡ ts ++ b → ⊥
          by [] e = let n : length us ≡ length ts = ap length e ∙ ap length (append-nil ts) in omega (arith, n, lt)
          by (m ∷ ms) e = no_more None 0 ts m ms to h (subst (λ l. TakesFirst file l to) e k)

  -- the frames of any rescuing are first ones of the chain
  begins_chain : (ts us : List Taken) (to : ℕ) → IsChain file ts → TakesFirst file us to → Begins us ts
  begins_chain ts us to h k = begins_chain_by ts us to h k (below_or (length ts) (length us))

begins_length : (us ts : List Taken) → Begins us ts → length us ≤ length ts
begins_length us ts b = let e : length ts ≡ length us + length b.0 = ap length b.1 ∙ length-append us b.0 in omega (arith, e)

begins_same : (us ts : List Taken) → Begins us ts → length us ≡ length ts → us ≡ ts
begins_same us ts b e = by b.0 b.1
  where
    by : (more : List Taken) → ts ≡ us ++ more → us ≡ ts
    by [] h = sym (h ∙ append-nil us)
    by (m ∷ ms) h = let n : length ts ≡ length us + length (m ∷ ms) = ap length h ∙ length-append us (m ∷ ms) in absurd (omega (arith, n, e))

begins_both : (ts us : List Taken) → Begins ts us → Begins us ts → ts ≡ us
begins_both ts us a b = begins_same ts us a (omega (arith, begins_length ts us a, begins_length us ts b))

cons_heads : (t u : Taken) (ts us : List Taken) → t ∷ ts ≡ u ∷ us → t ≡ u
cons_heads t u ts us e = cc

cons_tails : (t u : Taken) (ts us : List Taken) → t ∷ ts ≡ u ∷ us → ts ≡ us
cons_tails t u ts us e = cc

-- lists with one more frame are equal only if they are without it
one_more : (ts us : List Taken) (t u : Taken) → length ts ≡ length us → ts ++ t ∷ [] ≡ us ++ u ∷ [] → (ts ≡ us) × (t ≡ u)
one_more [] [] t u n e = (refl, cons_heads t u [] [] e)
one_more [] (y ∷ ys) t u n e = absurd (omega (arith, n))
one_more (x ∷ xs) [] t u n e = absurd (omega (arith, n))
one_more (x ∷ xs) (y ∷ ys) t u n e =
    let rest = one_more xs ys t u (omega (arith, n)) (cons_tails x y (xs ++ t ∷ []) (ys ++ u ∷ []) e) in
    (ap (λ z. z ∷ xs) (cons_heads x y (xs ++ t ∷ []) (ys ++ u ∷ []) e) ∙ ap (λ l. y ∷ l) rest.0, rest.1)

module _ (one : OneFrame) (file : List ℕ) where
  one_chain : (ts us : List Taken) → IsChain file ts → IsChain file us → ts ≡ us
  one_chain ts us h k = begins_both ts us (begins_chain one file us ts (length file) k h) (begins_chain one file ts us (length file) h k)

  -- a chain has at most 1,000,000 frames, where others follow
  not_followed : (ts us : List Taken) (place : ℕ) → IsChain file ts → length ts ≤ length us → Follows file us place → ⊥
  not_followed ts us place h few f =
      let b = begins_length (us ++ f.next ∷ []) ts (begins_chain one file ts (us ++ f.next ∷ []) (behind file f.next) h f.takes) in
      omega (arith, b, few, length-append us (f.next ∷ []))

  -- the first 1,000,000 frames, and the one after them
  one_next : (ts us : List Taken) (p q : ℕ) → length ts ≡ length us → Follows file ts p → Follows file us q → (ts ≡ us) × (p ≡ q)
  one_next ts us p q n f g =
      let more : length (ts ++ f.next ∷ []) ≡ length (us ++ g.next ∷ []) = omega (arith, n, length-append ts (f.next ∷ []), length-append us (g.next ∷ [])) in
      let b = begins one file None 0 (ts ++ f.next ∷ []) (us ++ g.next ∷ []) (behind file f.next) (behind file g.next) f.takes g.takes (omega (arith, more)) in
      let same = one_more ts us f.next g.next n (begins_same (ts ++ f.next ∷ []) (us ++ g.next ∷ []) b more) in
      (same.0, f.at ∙ ap (λ (t : Taken). t.at) same.1 ∙ sym g.at)

  bad_same : (k k' : MovieKind) (p p' : ℕ) → k ≡ k' → p ≡ p' → ends.BadMovie k p ≡ ends.BadMovie k' p'
  bad_same k k' p p' e f = ap (λ x. ends.BadMovie x p) e ∙ ap (λ x. ends.BadMovie k' x) f

  pub is_one : (ts us : List Taken) (end end' : RescueEnd) → Rescues file ts end → Rescues file us end' → (ts ≡ us) × (end ≡ end')
  is_one ts us ends.Done ends.Done h k = (one_chain ts us h.0 k.0, refl)
  is_one ts us ends.Done (ends.BadMovie kind place) h (inl k) = absurd (let n : length ts ≡ length us = ap length (one_chain ts us h.0 k.3) in let z : length us ≡ 0 = ap length k.2 in omega (arith, n, z, h.1))
  is_one ts us ends.Done (ends.BadMovie kind place) h (inr k) = absurd (not_followed ts us place h.0 (omega (arith, h.2, k.1)) k.2)
  is_one ts us (ends.BadMovie kind place) ends.Done (inl h) k = absurd (let n : length us ≡ length ts = ap length (one_chain us ts k.0 h.3) in let z : length ts ≡ 0 = ap length h.2 in omega (arith, n, z, k.1))
  is_one ts us (ends.BadMovie kind place) ends.Done (inr h) k = absurd (not_followed us ts place k.0 (omega (arith, k.2, h.1)) h.2)
  is_one ts us (ends.BadMovie kind place) (ends.BadMovie kind' place') (inl h) (inl k) = (h.2 ∙ sym k.2, bad_same kind kind' place place' (h.0 ∙ sym k.0) (h.1 ∙ sym k.1))
  is_one ts us (ends.BadMovie kind place) (ends.BadMovie kind' place') (inl h) (inr k) = absurd (not_followed ts us place' h.3 (let z : length ts ≡ 0 = ap length h.2 in omega (arith, z)) k.2)
  is_one ts us (ends.BadMovie kind place) (ends.BadMovie kind' place') (inr h) (inl k) = absurd (not_followed us ts place k.3 (let z : length us ≡ 0 = ap length k.2 in omega (arith, z)) h.2)
  is_one ts us (ends.BadMovie kind place) (ends.BadMovie kind' place') (inr h) (inr k) =
      let next = one_next ts us place place' (h.1 ∙ sym k.1) h.2 k.2 in
      (next.0, bad_same kind kind' place place' (h.0 ∙ sym k.0) next.1)
  is_one ts us ends.NoMemory end' h k = absurd h
  is_one ts us ends.ReadFault end' h k = absurd h
  is_one ts us ends.WriteFault end' h k = absurd h
  is_one ts us ends.Done ends.NoMemory h k = absurd k
  is_one ts us ends.Done ends.ReadFault h k = absurd k
  is_one ts us ends.Done ends.WriteFault h k = absurd k
  is_one ts us (ends.BadMovie kind place) ends.NoMemory h k = absurd k
  is_one ts us (ends.BadMovie kind place) ends.ReadFault h k = absurd k
  is_one ts us (ends.BadMovie kind place) ends.WriteFault h k = absurd k

-- ---- if no port failed

neither : {P Q : Type 0} → (P → ⊥) → (Q → ⊥) → P ⊎ Q → ⊥
neither p q (inl x) = p x
neither p q (inr x) = q x

pub completes : RescuingIsOne → (rate : Rate) (file : List ℕ) (end : RescueEnd) (before after : World) (P Q R : Type 0) → Ran rate file end before after
    → OnTrue (is_read_fault end) P → OnTrue (is_write_fault end) (Q ⊎ R) → (P → ⊥) → (Q → ⊥) → (R → ⊥) → AnswersRescue file end
completes law rate file ends.Done before after P Q R h r w p q s = λ ts known k. inl (law file h.frames ts ends.Done known h.rescues k).1
completes law rate file (ends.BadMovie kind place) before after P Q R h r w p q s = λ ts known k. inl (law file h.frames ts (ends.BadMovie kind place) known h.rescues k).1
completes law rate file ends.NoMemory before after P Q R h r w p q s = λ ts known k. inr refl
completes law rate file ends.ReadFault before after P Q R h r w p q s = absurd (p r)
completes law rate file ends.WriteFault before after P Q R h r w p q s = absurd (neither q s w)
