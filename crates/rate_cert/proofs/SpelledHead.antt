-- The bytes of a head that was read are those that are written.
use Rattle.std.proofs.Common.{◌≡◌, ℕ, ◌+◌, ◌-◌, ◌*◌, ◌/◌, ◌%◌, ◌^◌, ◌≤◌, Bool, true, false, nat_lt, List, [], ◌∷◌, ◌++◌, length, take, drop, Option, Some, None, Ok, refl, sym, ap, ◌∙◌, subst, arith, inl, inr, append-nil}
use Rattle.std.specs.Prelude.{◌==◌, if◌then◌else◌, codes}
use Rattle.std.specs.Int.{w8, w16, w32, to_be_bytes}
use Rattle.std.proofs.lemmas.Bool.{ltb-false, eqb-true, ne_eqb, not-false}
use Rattle.std.proofs.lemmas.List.{take-append-drop, length-take}
use Rattle.pw_outside.specs.Reading.{Rest, Read, bad, number_at, bytes_at, AreBytes, Took}
use Rattle.pw_outside.proofs.Steps.{bind-ok, refuse-passed, took_none, bytes-drop}
use Rattle.pw_planes.specs.declared.kinds.AlphaKind.{AlphaKind}
use Rattle.pw_planes.specs.declared.kinds.AlphaKind.TheVariants as alphas
use Rattle.pw_planes.specs.declared.kinds.Chroma.{Chroma}
use Rattle.pw_planes.specs.declared.kinds.Chroma.TheVariants.{C422, C444}
use Rattle.pw_planes.specs.declared.kinds.Depth.{Depth}
use Rattle.pw_planes.specs.declared.kinds.Depth.TheVariants.{D8, D10, D12}
use Rattle.pw_planes.specs.declared.kinds.Interlace.{Interlace}
use Rattle.pw_planes.specs.declared.kinds.Interlace.TheVariants.{Progressive, TopFirst, BottomFirst}
use Rattle.rate_table.specs.declared.fault.ProofKind.{ProofKind}
use Rattle.rate_table.specs.declared.fault.ProofKind.TheVariants.{ProofShort}
use Rattle.rate_table.proofs.Taken.{ok_is, wide16, wide32, number_took, byte_took}
use Rattle.rate_cert.specs.declared.settings.Settings.{Settings}
use Rattle.rate_cert.specs.declared.head.Size.{Size}
use Rattle.rate_cert.specs.declared.head.Kinds.{Kinds}
use Rattle.rate_cert.specs.declared.head.Slicing.{Slicing}
use Rattle.rate_cert.specs.declared.head.Rate.{Rate}
use Rattle.rate_cert.specs.Head.{chroma_number, depth_number, alpha_number, interlace_number, form_number, chroma_of, depth_of, alpha_of, interlace_of, form_of, group_of, head_bytes, meant, format_at, size_at, chroma_at, depth_at, alpha_at, interlace_at, kinds_at, slicing_at, rate_at, weights_at, budget_at, settings_of, settings_at, head_at}
use Rattle.rate_cert.specs.Laws.{HeadIsSpelled}
use Rattle.rate_cert.proofs.Numbered.{passed}
use Rattle.rate_cert.proofs.Spelled.{took_both, branch}
use Rattle.rate_cert.proofs.Headed.{head-parts}

-- ---- numbers with a meaning

some_is : {A : Type 0} (x y : A) → Some x ≡ Some y → x ≡ y
some_is x y e = cc

-- a number means this, or one of the others
stands_for : {A : Type 0} (number : A → ℕ) (n k : ℕ) (x : A) (others : Option A) (found : A) → number x ≡ k → (others ≡ Some found → number found ≡ n)
    → (if n == k then Some x else others) ≡ Some found → number found ≡ n
stands_for number n k x others found is more e = by_test (n == k) refl e
  where
    by_test : (b : Bool) → (n == k) ≡ b → (if b then Some x else others) ≡ Some found → number found ≡ n
    by_test true test e = ap number (sym (some_is x found e)) ∙ is ∙ sym (eqb-true n k test)
    by_test false test e = more e

stands_for_none : {A : Type 0} {X : Type 0} (found : A) → None ≡ Some found → X
stands_for_none found e = absurd cc

chroma-is : (n : ℕ) (c : Chroma) → chroma_of n ≡ Some c → chroma_number c ≡ n
chroma-is n c e = stands_for chroma_number n 2 C422 (if n == 3 then Some C444 else None) c refl (λ e. stands_for chroma_number n 3 C444 None c refl (λ e. stands_for_none c e) e) e

depth-is : (n : ℕ) (d : Depth) → depth_of n ≡ Some d → depth_number d ≡ n
depth-is n d e =
    stands_for depth_number n 8 D8 (if n == 10 then Some D10 else (if n == 12 then Some D12 else None)) d refl
    (λ e. stands_for depth_number n 10 D10 (if n == 12 then Some D12 else None) d refl (λ e. stands_for depth_number n 12 D12 None d refl (λ e. stands_for_none d e) e) e) e

alpha-is : (n : ℕ) (a : AlphaKind) → alpha_of n ≡ Some a → alpha_number a ≡ n
alpha-is n a e =
    stands_for alpha_number n 0 alphas.Absent (if n == 8 then Some alphas.Eight else (if n == 16 then Some alphas.Sixteen else None)) a refl
    (λ e. stands_for alpha_number n 8 alphas.Eight (if n == 16 then Some alphas.Sixteen else None) a refl (λ e. stands_for alpha_number n 16 alphas.Sixteen None a refl (λ e. stands_for_none a e) e) e) e

interlace-is : (n : ℕ) (i : Interlace) → interlace_of n ≡ Some i → interlace_number i ≡ n
interlace-is n i e =
    stands_for interlace_number n 0 Progressive (if n == 1 then Some TopFirst else (if n == 2 then Some BottomFirst else None)) i refl
    (λ e. stands_for interlace_number n 1 TopFirst (if n == 2 then Some BottomFirst else None) i refl (λ e. stands_for interlace_number n 2 BottomFirst None i refl (λ e. stands_for_none i e) e) e) e

-- form and group
form-is : (n : ℕ) → form_number (form_of n) (group_of n) ≡ n
form-is n = by_test (n == 16) refl
  where
    by_test : (b : Bool) → (n == 16) ≡ b → form_number (if b then 2 else n % 2) (if b then 1 else n / 2 + 1) ≡ n
    by_test true test = sym (eqb-true n 16 test)
    by_test false test = passed (n % 2 == 2) 16 (n % 2 + 2 * (n / 2 + 1 - 1)) (ne_eqb (n % 2) 2 (λ z. omega (arith, z))) ∙ omega arith

-- ---- fields

-- a byte with a meaning
meant_took : {A : Type 0} (number : A → ℕ) (n : ℕ) (o : Option A) (place : ℕ) (s rest : Rest) (x : A × Rest) → ((found : A) → o ≡ Some found → number found ≡ n) → Took s (n ∷ []) rest
    → meant o place rest ≡ Ok x → Took s (number x.0 ∷ []) x.1
unfolding meant
meant_took number n None place s rest x is took e = absurd cc
meant_took number n (Some y) place s rest x is took e = subst (λ (z : _ × Rest). Took s (number z.0 ∷ []) z.1) (ok_is (y, rest) x e) (subst (λ (m : ℕ). Took s (m ∷ []) rest) (sym (is y refl)) took)

chroma-spelled : (s : Rest) (x : Chroma × Rest) → AreBytes s.bytes → chroma_at s ≡ Ok x → Took s (chroma_number x.0 ∷ []) x.1
unfolding chroma_at
chroma-spelled s x fit e =
    let b = bind-ok (number_at ProofShort w8 s) _ e in
    meant_took chroma_number b.0.0 (chroma_of b.0.0) s.place s b.0.1 x (chroma-is b.0.0) (byte_took ProofShort s b.0 fit b.1).0 b.2

depth-spelled : (s : Rest) (x : Depth × Rest) → AreBytes s.bytes → depth_at s ≡ Ok x → Took s (depth_number x.0 ∷ []) x.1
unfolding depth_at
depth-spelled s x fit e =
    let b = bind-ok (number_at ProofShort w8 s) _ e in
    meant_took depth_number b.0.0 (depth_of b.0.0) s.place s b.0.1 x (depth-is b.0.0) (byte_took ProofShort s b.0 fit b.1).0 b.2

alpha-spelled : (s : Rest) (x : AlphaKind × Rest) → AreBytes s.bytes → alpha_at s ≡ Ok x → Took s (alpha_number x.0 ∷ []) x.1
unfolding alpha_at
alpha-spelled s x fit e =
    let b = bind-ok (number_at ProofShort w8 s) _ e in
    meant_took alpha_number b.0.0 (alpha_of b.0.0) s.place s b.0.1 x (alpha-is b.0.0) (byte_took ProofShort s b.0 fit b.1).0 b.2

interlace-spelled : (s : Rest) (x : Interlace × Rest) → AreBytes s.bytes → interlace_at s ≡ Ok x → Took s (interlace_number x.0 ∷ []) x.1
unfolding interlace_at
interlace-spelled s x fit e =
    let b = bind-ok (number_at ProofShort w8 s) _ e in
    meant_took interlace_number b.0.0 (interlace_of b.0.0) s.place s b.0.1 x (interlace-is b.0.0) (byte_took ProofShort s b.0 fit b.1).0 b.2

bytes_took : (n : ℕ) (s : Rest) (x : List ℕ × Rest) → AreBytes s.bytes → bytes_at ProofShort n s ≡ Ok x → Took s x.0 x.1
bytes_took n s x fit e =
    elim (branch (nat_lt (length s.bytes) n) (bad ProofShort s.place) (Ok (take n s.bytes, record { place = s.place + n; bytes = drop n s.bytes })) x e) [
      | inl short ↦ absurd (not_ok x short.1)
      | inr long ↦
          let enough : n ≤ length s.bytes = ltb-false _ _ long.0 in
          subst (λ (y : List ℕ × Rest). Took s y.0 y.1) (ok_is (take n s.bytes, record { place = s.place + n; bytes = drop n s.bytes }) x long.1) (record {
            parts = sym (take-append-drop n s.bytes);
            place = omega (arith, enough, length-take n s.bytes);
            behind = bytes-drop n s.bytes fit;
          })
    ]
  where
    fault : ℕ → Read ProofKind (List ℕ)
    fault place = bad ProofShort place

    not_ok : (x : List ℕ × Rest) → fault s.place ≡ Ok x → ⊥
    not_ok x e = absurd cc

-- ---- the parts of the head

format-spelled : (s : Rest) (x : ℕ × Rest) → AreBytes s.bytes → format_at s ≡ Ok x → Took s (codes "PWPF" ++ (x.0 ∷ [])) x.1
unfolding format_at
format-spelled s x fit e =
    let b1 = bind-ok (number_at ProofShort w32 s) _ e in
    let magic = b1.0 in
    let t1 = number_took ProofShort w32 (2 ^ 32) wide32 s magic fit b1.1 in
    let r1 = refuse-passed _ _ _ _ b1.2 in
    let is : magic.0 ≡ 0x50575046 = eqb-true magic.0 0x50575046 (not-false (magic.0 == 0x50575046) r1.0) in
    let letters : Took s (codes "PWPF") magic.1 = subst (λ (n : ℕ). Took s (to_be_bytes w32 n) magic.1) is t1.0 in
    let b2 = bind-ok (number_at ProofShort w8 magic.1) _ r1.1 in
    let format = b2.0 in
    let t2 = byte_took ProofShort magic.1 format letters.behind b2.1 in
    let r2 = refuse-passed _ _ _ _ b2.2 in
    subst (λ (y : ℕ × Rest). Took s (codes "PWPF" ++ (y.0 ∷ [])) y.1) (ok_is format x r2.1) (took_both s magic.1 format.1 (codes "PWPF") (format.0 ∷ []) letters t2.0)

abbrev size_bytes : Size → List ℕ
size_bytes size = form_number size.form size.group ∷ (to_be_bytes w16 size.width ++ to_be_bytes w16 size.height)

size-spelled : (s : Rest) (x : Size × Rest) → AreBytes s.bytes → size_at s ≡ Ok x → Took s (size_bytes x.0) x.1
unfolding size_at
size-spelled s x fit e =
    let b1 = bind-ok (number_at ProofShort w8 s) _ e in
    let form = b1.0 in
    let t1 = byte_took ProofShort s form fit b1.1 in
    let r1 = refuse-passed _ _ _ _ b1.2 in
    let b2 = bind-ok (number_at ProofShort w16 form.1) _ r1.1 in
    let width = b2.0 in
    let t2 = number_took ProofShort w16 (2 ^ 16) wide16 form.1 width t1.0.behind b2.1 in
    let r2 = refuse-passed _ _ _ _ b2.2 in
    let b3 = bind-ok (number_at ProofShort w16 width.1) _ r2.1 in
    let height = b3.0 in
    let t3 = number_took ProofShort w16 (2 ^ 16) wide16 width.1 height t2.0.behind b3.1 in
    let r3 = refuse-passed _ _ _ _ b3.2 in
    let size : Size = record { form = form_of form.0; group = group_of form.0; width = width.0; height = height.0 } in
    let first : Took s (form_number (form_of form.0) (group_of form.0) ∷ []) form.1 = subst (λ (n : ℕ). Took s (n ∷ []) form.1) (sym (form-is form.0)) t1.0 in
    subst (λ (y : Size × Rest). Took s (size_bytes y.0) y.1) (ok_is (size, height.1) x r3.1)
    (took_both s form.1 height.1 (form_number (form_of form.0) (group_of form.0) ∷ []) (to_be_bytes w16 width.0 ++ to_be_bytes w16 height.0) first
    (took_both form.1 width.1 height.1 (to_be_bytes w16 width.0) (to_be_bytes w16 height.0) t2.0 t3.0))

abbrev kinds_bytes : Kinds → List ℕ
kinds_bytes kinds = chroma_number kinds.chroma ∷ depth_number kinds.depth ∷ alpha_number kinds.alpha ∷ interlace_number kinds.interlace ∷ []

kinds-spelled : (height : ℕ) (s : Rest) (x : Kinds × Rest) → AreBytes s.bytes → kinds_at height s ≡ Ok x → Took s (kinds_bytes x.0) x.1
unfolding kinds_at
kinds-spelled height s x fit e =
    let b1 = bind-ok (chroma_at s) _ e in
    let chroma = b1.0 in
    let t1 = chroma-spelled s chroma fit b1.1 in
    let b2 = bind-ok (depth_at chroma.1) _ b1.2 in
    let depth = b2.0 in
    let t2 = depth-spelled chroma.1 depth t1.behind b2.1 in
    let b3 = bind-ok (alpha_at depth.1) _ b2.2 in
    let alpha = b3.0 in
    let t3 = alpha-spelled depth.1 alpha t2.behind b3.1 in
    let b4 = bind-ok (interlace_at alpha.1) _ b3.2 in
    let interlace = b4.0 in
    let t4 = interlace-spelled alpha.1 interlace t3.behind b4.1 in
    let r4 = refuse-passed _ _ _ _ b4.2 in
    let kinds : Kinds = record { chroma = chroma.0; depth = depth.0; alpha = alpha.0; interlace = interlace.0 } in
    let d = depth_number depth.0 in
    let a = alpha_number alpha.0 in
    let i = interlace_number interlace.0 in
    subst (λ (y : Kinds × Rest). Took s (kinds_bytes y.0) y.1) (ok_is (kinds, interlace.1) x r4.1)
    (took_both s chroma.1 interlace.1 (chroma_number chroma.0 ∷ []) (d ∷ a ∷ i ∷ []) t1
    (took_both chroma.1 depth.1 interlace.1 (d ∷ []) (a ∷ i ∷ []) t2 (took_both depth.1 alpha.1 interlace.1 (a ∷ []) (i ∷ []) t3 t4)))

abbrev slicing_bytes : Slicing → List ℕ
slicing_bytes slicing = slicing.log2 ∷ slicing.lo ∷ slicing.hi ∷ []

slicing-spelled : (size : Size) (interlace : Interlace) (s : Rest) (x : Slicing × Rest) → AreBytes s.bytes → slicing_at size interlace s ≡ Ok x → Took s (slicing_bytes x.0) x.1
unfolding slicing_at
slicing-spelled size interlace s x fit e =
    let b1 = bind-ok (number_at ProofShort w8 s) _ e in
    let log2 = b1.0 in
    let t1 = byte_took ProofShort s log2 fit b1.1 in
    let r1 = refuse-passed _ _ _ _ b1.2 in
    let r2 = refuse-passed _ _ _ _ r1.1 in
    let b2 = bind-ok (number_at ProofShort w8 log2.1) _ r2.1 in
    let lo = b2.0 in
    let t2 = byte_took ProofShort log2.1 lo t1.0.behind b2.1 in
    let r3 = refuse-passed _ _ _ _ b2.2 in
    let b3 = bind-ok (number_at ProofShort w8 lo.1) _ r3.1 in
    let hi = b3.0 in
    let t3 = byte_took ProofShort lo.1 hi t2.0.behind b3.1 in
    let r4 = refuse-passed _ _ _ _ b3.2 in
    let slicing : Slicing = record { log2 = log2.0; lo = lo.0; hi = hi.0 } in
    subst (λ (y : Slicing × Rest). Took s (slicing_bytes y.0) y.1) (ok_is (slicing, hi.1) x r4.1)
    (took_both s log2.1 hi.1 (log2.0 ∷ []) (lo.0 ∷ hi.0 ∷ []) t1.0 (took_both log2.1 lo.1 hi.1 (lo.0 ∷ []) (hi.0 ∷ []) t2.0 t3.0))

abbrev rate_bytes : Rate → List ℕ
rate_bytes rate = to_be_bytes w32 rate.num ++ to_be_bytes w32 rate.den

rate-spelled : (s : Rest) (x : Rate × Rest) → AreBytes s.bytes → rate_at s ≡ Ok x → Took s (rate_bytes x.0) x.1
unfolding rate_at
rate-spelled s x fit e =
    let b1 = bind-ok (number_at ProofShort w32 s) _ e in
    let num = b1.0 in
    let t1 = number_took ProofShort w32 (2 ^ 32) wide32 s num fit b1.1 in
    let r1 = refuse-passed _ _ _ _ b1.2 in
    let b2 = bind-ok (number_at ProofShort w32 num.1) _ r1.1 in
    let den = b2.0 in
    let t2 = number_took ProofShort w32 (2 ^ 32) wide32 num.1 den t1.0.behind b2.1 in
    let r2 = refuse-passed _ _ _ _ b2.2 in
    let rate : Rate = record { num = num.0; den = den.0 } in
    subst (λ (y : Rate × Rest). Took s (rate_bytes y.0) y.1) (ok_is (rate, den.1) x r2.1) (took_both s num.1 den.1 (to_be_bytes w32 num.0) (to_be_bytes w32 den.0) t1.0 t2.0)

weights-spelled : (s : Rest) (x : List ℕ × Rest) → AreBytes s.bytes → weights_at s ≡ Ok x → Took s x.0 x.1
unfolding weights_at
weights-spelled s x fit e =
    let b1 = bind-ok (bytes_at ProofShort 64 s) _ e in
    let r1 = refuse-passed _ _ _ _ b1.2 in
    subst (λ (y : List ℕ × Rest). Took s y.0 y.1) (ok_is b1.0 x r1.1) (bytes_took 64 s b1.0 fit b1.1)

budget-spelled : (group : ℕ) (s : Rest) (x : ℕ × Rest) → AreBytes s.bytes → budget_at group s ≡ Ok x → Took s (to_be_bytes w32 x.0) x.1
unfolding budget_at
budget-spelled group s x fit e =
    let b1 = bind-ok (number_at ProofShort w32 s) _ e in
    let r1 = refuse-passed _ _ _ _ b1.2 in
    subst (λ (y : ℕ × Rest). Took s (to_be_bytes w32 y.0) y.1) (ok_is b1.0 x r1.1) (number_took ProofShort w32 (2 ^ 32) wide32 s b1.0 fit b1.1).0

-- the fields one after the other, and nothing after them
abbrev settings_bytes : Settings → List ℕ
settings_bytes s =
    form_number s.form s.group ∷ (to_be_bytes w16 s.width ++ (to_be_bytes w16 s.height ++ (chroma_number s.chroma ∷ depth_number s.depth ∷ alpha_number s.alpha ∷ interlace_number s.interlace
    ∷ (s.log2 ∷ s.lo ∷ s.hi ∷ (to_be_bytes w32 s.num ++ (to_be_bytes w32 s.den ++ (s.luma ++ (s.chroma_weights ++ (to_be_bytes w32 s.budget ++ [])))))))))

settings-spelled : (s : Rest) (x : Settings × Rest) → AreBytes s.bytes → settings_at s ≡ Ok x → Took s (settings_bytes x.0) x.1
unfolding settings_at
settings-spelled s x fit e =
    let b1 = bind-ok (size_at s) _ e in
    let size = b1.0 in
    let t1 = size-spelled s size fit b1.1 in
    let b2 = bind-ok (kinds_at size.0.height size.1) _ b1.2 in
    let kinds = b2.0 in
    let t2 = kinds-spelled size.0.height size.1 kinds t1.behind b2.1 in
    let b3 = bind-ok (slicing_at size.0 kinds.0.interlace kinds.1) _ b2.2 in
    let slicing = b3.0 in
    let t3 = slicing-spelled size.0 kinds.0.interlace kinds.1 slicing t2.behind b3.1 in
    let b4 = bind-ok (rate_at slicing.1) _ b3.2 in
    let rate = b4.0 in
    let t4 = rate-spelled slicing.1 rate t3.behind b4.1 in
    let b5 = bind-ok (weights_at rate.1) _ b4.2 in
    let luma = b5.0 in
    let t5 = weights-spelled rate.1 luma t4.behind b5.1 in
    let b6 = bind-ok (weights_at luma.1) _ b5.2 in
    let weights = b6.0 in
    let t6 = weights-spelled luma.1 weights t5.behind b6.1 in
    let b7 = bind-ok (budget_at size.0.group weights.1) _ b6.2 in
    let budget = b7.0 in
    let t7 = budget-spelled size.0.group weights.1 budget t6.behind b7.1 in
    let text7 : List ℕ = to_be_bytes w32 budget.0 ++ [] in
    let u7 : Took weights.1 text7 budget.1 = took_both weights.1 budget.1 budget.1 (to_be_bytes w32 budget.0) [] t7 (took_none budget.1 t7.behind) in
    let text6 = weights.0 ++ text7 in
    let u6 : Took luma.1 text6 budget.1 = took_both luma.1 weights.1 budget.1 weights.0 text7 t6 u7 in
    let text5 = luma.0 ++ text6 in
    let u5 : Took rate.1 text5 budget.1 = took_both rate.1 luma.1 budget.1 luma.0 text6 t5 u6 in
    let u4 : Took slicing.1 (rate_bytes rate.0 ++ text5) budget.1 = took_both slicing.1 rate.1 budget.1 (rate_bytes rate.0) text5 t4 u5 in
    let u3 : Took kinds.1 (slicing_bytes slicing.0 ++ (rate_bytes rate.0 ++ text5)) budget.1 = took_both kinds.1 slicing.1 budget.1 (slicing_bytes slicing.0) (rate_bytes rate.0 ++ text5) t3 u4 in
    let text2 = kinds_bytes kinds.0 ++ (slicing_bytes slicing.0 ++ (rate_bytes rate.0 ++ text5)) in
    let u2 : Took size.1 text2 budget.1 = took_both size.1 kinds.1 budget.1 (kinds_bytes kinds.0) (slicing_bytes slicing.0 ++ (rate_bytes rate.0 ++ text5)) t2 u3 in
    let settings : Settings = settings_of size.0 kinds.0 slicing.0 rate.0 luma.0 weights.0 budget.0 in
    subst (λ (y : Settings × Rest). Took s (settings_bytes y.0) y.1) (ok_is (settings, budget.1) x b7.2) (took_both s size.1 budget.1 (size_bytes size.0) text2 t1 u2)

-- ---- the head

head-is : (format : ℕ) (s : Settings) → codes "PWPF" ++ (format ∷ settings_bytes s) ≡ head_bytes format s
head-is format s = sym (head-parts format s []) ∙ append-nil (head_bytes format s)

pub head-spelled : HeadIsSpelled
unfolding head_at
head-spelled format settings s rest fit e =
    let b1 = bind-ok (format_at s) _ e in
    let f = b1.0 in
    let t1 = format-spelled s f fit b1.1 in
    let b2 = bind-ok (settings_at f.1) _ b1.2 in
    let t = b2.0 in
    let t2 = settings-spelled f.1 t t1.behind b2.1 in
    let took : Took s (head_bytes f.0 t.0) t.1 = subst (λ l. Took s l t.1) (head-is f.0 t.0) (took_both s f.1 t.1 (codes "PWPF" ++ (f.0 ∷ [])) (settings_bytes t.0) t1 t2) in
    subst (λ (y : (ℕ × Settings) × Rest). Took s (head_bytes y.0.0 y.0.1) y.1) (ok_is ((f.0, t.0), t.1) ((format, settings), rest) b2.2) took
