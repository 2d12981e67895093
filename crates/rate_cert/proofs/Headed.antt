-- A head that is written is read as that head, in both formats.
use Rattle.std.proofs.Common.{◌≡◌, ℕ, zero, suc, ◌+◌, ◌-◌, ◌*◌, ◌/◌, ◌%◌, ◌^◌, ◌<◌, ◌≤◌, Bool, true, false, nat_lt, nat_le, List, [], ◌∷◌, ◌++◌, length, Option, Some, None, refl, sym, ap, ◌∙◌, arith, ⊎_elim, length-append, append_assoc, take_at}
use Rattle.std.specs.Prelude.{◌==◌, ◌||◌, not, if◌then◌else◌, codes, is_some}
use Rattle.std.specs.Int.{w16, w32, to_be_bytes}
use Rattle.std.specs.List.{All, list_any}
use Rattle.std.proofs.lemmas.List.{drop_at}
use Rattle.std.proofs.lemmas.List.Elements.{All-head, All-tail}
use Rattle.std.proofs.lemmas.Nat.{from_be_bytes-to_be_bytes_2}
use Rattle.std.proofs.lemmas.Bool.{le-ltb, lt-leb, ne_eqb, ltb-false, or_from, or_parts}
use Rattle.pw_outside.specs.Reading.{Read, number_at, bytes_at}
use Rattle.pw_planes.specs.declared.kinds.AlphaKind.{AlphaKind}
use Rattle.pw_planes.specs.declared.kinds.AlphaKind.TheVariants as alphas
use Rattle.pw_planes.specs.declared.kinds.Chroma.{Chroma}
use Rattle.pw_planes.specs.declared.kinds.Chroma.TheVariants.{C422, C444}
use Rattle.pw_planes.specs.declared.kinds.Depth.{Depth}
use Rattle.pw_planes.specs.declared.kinds.Depth.TheVariants.{D8, D10, D12}
use Rattle.pw_planes.specs.declared.kinds.Interlace.{Interlace}
use Rattle.pw_planes.specs.declared.kinds.Interlace.TheVariants.{Progressive, TopFirst, BottomFirst}
use Rattle.pr_geom.specs.declared.places.GeomFault.{GeomFault}
use Rattle.pr_geom.specs.declared.places.GeomFault.TheVariants.{SizeZero, SizeLimit, OddInterlaced, TooManySlices}
use Rattle.pr_geom.specs.Faults.{first_fault, slice_count}
use Rattle.pr_geom.specs.Slices.{pictures_of}
use Rattle.pr_quant.specs.Matrices.{IsWeight}
use Rattle.rate_table.specs.declared.table.TheConstants.{MAX_TABLE_SLICES}
use Rattle.rate_table.specs.declared.fault.ProofKind.{ProofKind}
use Rattle.rate_table.specs.declared.fault.ProofKind.TheVariants.{ProofShort}
use Rattle.rate_cert.specs.declared.settings.Settings.{Settings}
use Rattle.rate_cert.specs.declared.head.Size.{Size}
use Rattle.rate_cert.specs.Settings.{IsSettings}
use Rattle.rate_cert.specs.Head.{chroma_number, depth_number, alpha_number, interlace_number, form_number, form_of, group_of, is_no_weight, has_no_layout, head_bytes, meant, format_at, size_at, chroma_at, depth_at, alpha_at, interlace_at, kinds_at, slicing_at, rate_at, weights_at, budget_at, settings_at, head_at}
use Rattle.rate_cert.specs.Files.{IsFormat}
use Rattle.rate_cert.specs.Laws.{HeadIsReadAgain}
use Rattle.pw_outside.proofs.Steps.{bind-step, refuse-step, number-here, found, same_rest}
use Rattle.rate_table.proofs.Here.{byte-here, four-here}
use Rattle.rate_cert.proofs.Numbered.{passed}
use Rattle.rate_cert.proofs.Layered.{which}

-- ---- tests that don't refuse

within : (n most : ℕ) → 1 ≤ n → n ≤ most → (n == 0 || nat_lt most n) ≡ false
within n most some few = or_from (n == 0) (nat_lt most n) (ne_eqb n 0 (λ z. omega (arith, z, some))) (le-ltb most n few)

fault_none : (a b c d : Bool) → (if a then Some SizeZero else (if b then Some SizeLimit else (if c then Some OddInterlaced else (if d then Some TooManySlices else None)))) ≡ None
    → (a ≡ false) × (b ≡ false) × (c ≡ false) × (d ≡ false)
fault_none true b c d e = absurd cc
fault_none false true c d e = absurd cc
fault_none false false true d e = absurd cc
fault_none false false false true e = absurd cc
fault_none false false false false e = (refl, refl, refl, refl)

-- ---- fields

two-here : (n place : ℕ) (behind : List ℕ) → n < 2 ^ 16 → number_at ProofShort w16 (record { place = place; bytes = to_be_bytes w16 n ++ behind }) ≡ found n (place + 2) behind
two-here n place behind small = number-here ProofShort w16 n place (to_be_bytes w16 n) behind refl (from_be_bytes-to_be_bytes_2 n small)

bytes-here : (n place : ℕ) (bytes behind : List ℕ) → length bytes ≡ n → bytes_at ProofShort n (record { place = place; bytes = bytes ++ behind }) ≡ found bytes (place + n) behind
bytes-here n place bytes behind len =
    let long : nat_lt (length (bytes ++ behind)) n ≡ false = le-ltb _ _ (omega (arith, length-append bytes behind, len)) in
    let front = take_at bytes behind n len in
    let rest = drop_at bytes behind n len in
    rw (long, front, rest) refl

-- form and group
low-form : (f g : ℕ) → f ≤ 1 → 1 ≤ g → g ≤ 8 → (form_of (f + 2 * (g - 1)) ≡ f) × (group_of (f + 2 * (g - 1)) ≡ g) × (f + 2 * (g - 1) ≤ 16)
low-form f g few some most =
    let n = f + 2 * (g - 1) in
    let no : (n == 16) ≡ false = ne_eqb n 16 (λ z. omega (arith, z, few, most)) in
    let half : n % 2 ≡ f = omega (arith, few, some) in
    let whole : n / 2 + 1 ≡ g = omega (arith, few, some) in
    (passed (n == 16) 2 (n % 2) no ∙ half, passed (n == 16) 1 (n / 2 + 1) no ∙ whole, omega (arith, few, most))

form-back : (f g : ℕ) → f ≤ 2 → 1 ≤ g → g ≤ 8 → (f ≡ 2 → g ≡ 1) → (form_of (form_number f g) ≡ f) × (group_of (form_number f g) ≡ g) × (form_number f g ≤ 16)
form-back zero g few some most one = low-form 0 g (omega arith) some most
form-back (suc zero) g few some most one = low-form 1 g (omega arith) some most
form-back (suc (suc zero)) g few some most one = (refl, sym (one refl), omega arith)
form-back (suc (suc (suc f))) g few some most one = absurd (omega (arith, few))

chroma-again : (c : Chroma) (place : ℕ) (behind : List ℕ) → chroma_at (record { place = place; bytes = chroma_number c ∷ behind }) ≡ found c (place + 1) behind
unfolding chroma_at meant
chroma-again C422 place behind = bind-step _ _ (byte-here ProofShort 2 place behind)
chroma-again C444 place behind = bind-step _ _ (byte-here ProofShort 3 place behind)

depth-again : (d : Depth) (place : ℕ) (behind : List ℕ) → depth_at (record { place = place; bytes = depth_number d ∷ behind }) ≡ found d (place + 1) behind
unfolding depth_at meant
depth-again D8 place behind = bind-step _ _ (byte-here ProofShort 8 place behind)
depth-again D10 place behind = bind-step _ _ (byte-here ProofShort 10 place behind)
depth-again D12 place behind = bind-step _ _ (byte-here ProofShort 12 place behind)

alpha-again : (a : AlphaKind) (place : ℕ) (behind : List ℕ) → alpha_at (record { place = place; bytes = alpha_number a ∷ behind }) ≡ found a (place + 1) behind
unfolding alpha_at meant
alpha-again alphas.Absent place behind = bind-step _ _ (byte-here ProofShort 0 place behind)
alpha-again alphas.Eight place behind = bind-step _ _ (byte-here ProofShort 8 place behind)
alpha-again alphas.Sixteen place behind = bind-step _ _ (byte-here ProofShort 16 place behind)

interlace-again : (i : Interlace) (place : ℕ) (behind : List ℕ) → interlace_at (record { place = place; bytes = interlace_number i ∷ behind }) ≡ found i (place + 1) behind
unfolding interlace_at meant
interlace-again Progressive place behind = bind-step _ _ (byte-here ProofShort 0 place behind)
interlace-again TopFirst place behind = bind-step _ _ (byte-here ProofShort 1 place behind)
interlace-again BottomFirst place behind = bind-step _ _ (byte-here ProofShort 2 place behind)

weights_in_range : (ws : List ℕ) → All IsWeight ws → list_any is_no_weight ws ≡ false
weights_in_range [] are = refl
weights_in_range (w ∷ ws) are =
    let is = All-head IsWeight w ws are in
    or_from (nat_lt w 2 || nat_lt 63 w) (list_any is_no_weight ws) (or_from (nat_lt w 2) (nat_lt 63 w) (le-ltb w 2 is.0) (le-ltb 63 w is.1)) (weights_in_range ws (All-tail IsWeight w ws are))

weights-again : (ws : List ℕ) (place : ℕ) (behind : List ℕ) → length ws ≡ 64 → All IsWeight ws → weights_at (record { place = place; bytes = ws ++ behind }) ≡ found ws (place + 64) behind
unfolding weights_at
weights-again ws place behind len are = bind-step _ _ (bytes-here 64 place ws behind len) ∙ refuse-step _ _ _ _ (weights_in_range ws are)

-- ---- the parts of the head

format_ok : (format : ℕ) → IsFormat format → not (format == 1 || format == 2) ≡ false
format_ok format is = ⊎_elim (λ e. ap (λ n. not (n == 1 || n == 2)) e) (λ e. ap (λ n. not (n == 1 || n == 2)) e) (which format is)

format-again : (format place : ℕ) (behind : List ℕ) → IsFormat format → format_at (record { place = place; bytes = codes "PWPF" ++ (format ∷ behind) }) ≡ found format (place + 5) behind
unfolding format_at
format-again format place behind is =
    bind-step _ _ (number-here ProofShort w32 0x50575046 place (codes "PWPF") (format ∷ behind) refl refl)
    ∙ bind-step _ _ refl
    ∙ bind-step _ _ (byte-here ProofShort format (place + 4) behind)
    ∙ refuse-step _ _ _ _ (format_ok format is)
    ∙ same_rest format _ _ behind (omega arith)

module _ (s : Settings) (is : IsSettings s) where
  no-fault : ((s.width == 0 || s.height == 0) ≡ false) × ((nat_lt 8192 s.width || nat_lt 4320 s.height) ≡ false) × (nat_lt 0 (s.height % pictures_of s.interlace) ≡ false) × (nat_lt 65535 (slice_count s.width s.height s.log2 s.interlace) ≡ false)
  no-fault = fault_none (s.width == 0 || s.height == 0) (nat_lt 8192 s.width || nat_lt 4320 s.height) (nat_lt 0 (s.height % pictures_of s.interlace)) (nat_lt 65535 (slice_count s.width s.height s.log2 s.interlace)) is.layout

  zeros : ((s.width == 0) ≡ false) × ((s.height == 0) ≡ false)
  zeros = or_parts (s.width == 0) (s.height == 0) no-fault.0

  limits : (nat_lt 8192 s.width ≡ false) × (nat_lt 4320 s.height ≡ false)
  limits = or_parts (nat_lt 8192 s.width) (nat_lt 4320 s.height) no-fault.1

  narrow : s.width < 2 ^ 16
  narrow = omega (arith, ltb-false 8192 s.width limits.0)

  low : s.height < 2 ^ 16
  low = omega (arith, ltb-false 4320 s.height limits.1)

  size-again : (place : ℕ) (behind : List ℕ) → size_at (record { place = place; bytes = form_number s.form s.group ∷ (to_be_bytes w16 s.width ++ (to_be_bytes w16 s.height ++ behind)) })
      ≡ found (record { form = s.form; group = s.group; width = s.width; height = s.height }) (place + 5) behind
  unfolding size_at
  size-again place behind =
      let n = form_number s.form s.group in
      let back = form-back s.form s.group is.form is.group_from is.group_to is.products in
      bind-step _ _ (byte-here ProofShort n place (to_be_bytes w16 s.width ++ (to_be_bytes w16 s.height ++ behind)))
      ∙ refuse-step _ _ _ _ (le-ltb 16 n back.2)
      ∙ bind-step _ _ (two-here s.width (place + 1) (to_be_bytes w16 s.height ++ behind) narrow)
      ∙ refuse-step _ _ _ _ (or_from (s.width == 0) (nat_lt 8192 s.width) zeros.0 limits.0)
      ∙ bind-step _ _ (two-here s.height (place + 1 + 2) behind low)
      ∙ refuse-step _ _ _ _ (or_from (s.height == 0) (nat_lt 4320 s.height) zeros.1 limits.1)
      ∙ ap (λ (f : ℕ). let r : Read ProofKind Size = found (record { form = f; group = group_of n; width = s.width; height = s.height }) (place + 1 + 2 + 2) behind in r) back.0
      ∙ ap (λ (g : ℕ). let r : Read ProofKind Size = found (record { form = s.form; group = g; width = s.width; height = s.height }) (place + 1 + 2 + 2) behind in r) back.1
      ∙ same_rest (record { form = s.form; group = s.group; width = s.width; height = s.height }) _ _ behind (omega arith)

  kinds-again : (place : ℕ) (behind : List ℕ) → kinds_at s.height (record { place = place; bytes = chroma_number s.chroma ∷ depth_number s.depth ∷ alpha_number s.alpha ∷ interlace_number s.interlace ∷ behind })
      ≡ found (record { chroma = s.chroma; depth = s.depth; alpha = s.alpha; interlace = s.interlace }) (place + 4) behind
  unfolding kinds_at
  kinds-again place behind =
      bind-step _ _ (chroma-again s.chroma place (depth_number s.depth ∷ alpha_number s.alpha ∷ interlace_number s.interlace ∷ behind))
      ∙ bind-step _ _ (depth-again s.depth (place + 1) (alpha_number s.alpha ∷ interlace_number s.interlace ∷ behind))
      ∙ bind-step _ _ (alpha-again s.alpha (place + 1 + 1) (interlace_number s.interlace ∷ behind))
      ∙ bind-step _ _ (interlace-again s.interlace (place + 1 + 1 + 1) behind)
      ∙ refuse-step _ _ _ _ no-fault.2
      ∙ same_rest (record { chroma = s.chroma; depth = s.depth; alpha = s.alpha; interlace = s.interlace }) _ _ behind (omega arith)

  no-layout : has_no_layout s.width s.height s.log2 s.interlace s.group ≡ false
  no-layout = or_from (is_some (first_fault s.width s.height s.log2 s.interlace)) (nat_lt MAX_TABLE_SLICES (s.group * (pictures_of s.interlace * slice_count s.width s.height s.log2 s.interlace)))
      (ap (λ (f : Option GeomFault). is_some f) is.layout) (le-ltb MAX_TABLE_SLICES (s.group * (pictures_of s.interlace * slice_count s.width s.height s.log2 s.interlace)) is.slices)

  slicing-again : (place : ℕ) (behind : List ℕ) → slicing_at (record { form = s.form; group = s.group; width = s.width; height = s.height }) s.interlace (record { place = place; bytes = s.log2 ∷ s.lo ∷ s.hi ∷ behind })
      ≡ found (record { log2 = s.log2; lo = s.lo; hi = s.hi }) (place + 3) behind
  unfolding slicing_at
  slicing-again place behind =
      bind-step _ _ (byte-here ProofShort s.log2 place (s.lo ∷ s.hi ∷ behind))
      ∙ refuse-step _ _ _ _ (le-ltb 3 s.log2 is.size)
      ∙ refuse-step _ _ _ _ no-layout
      ∙ bind-step _ _ (byte-here ProofShort s.lo (place + 1) (s.hi ∷ behind))
      ∙ refuse-step _ _ _ _ (within s.lo 224 is.lo (omega (arith, is.order, is.hi)))
      ∙ bind-step _ _ (byte-here ProofShort s.hi (place + 1 + 1) behind)
      ∙ refuse-step _ _ _ _ (or_from (nat_lt s.hi s.lo) (nat_lt 224 s.hi) (le-ltb s.hi s.lo is.order) (le-ltb 224 s.hi is.hi))
      ∙ same_rest (record { log2 = s.log2; lo = s.lo; hi = s.hi }) _ _ behind (omega arith)

  rate-again : (place : ℕ) (behind : List ℕ) → rate_at (record { place = place; bytes = to_be_bytes w32 s.num ++ (to_be_bytes w32 s.den ++ behind) }) ≡ found (record { num = s.num; den = s.den }) (place + 8) behind
  unfolding rate_at
  rate-again place behind =
      bind-step _ _ (four-here ProofShort s.num place (to_be_bytes w32 s.den ++ behind) (omega (arith, is.num_to)))
      ∙ refuse-step _ _ _ _ (within s.num 1000000 is.num_from is.num_to)
      ∙ bind-step _ _ (four-here ProofShort s.den (place + 4) behind (omega (arith, is.den_to)))
      ∙ refuse-step _ _ _ _ (within s.den 4000 is.den_from is.den_to)
      ∙ same_rest (record { num = s.num; den = s.den }) _ _ behind (omega arith)

  small-budget : s.budget < 2 ^ 32
  small-budget = omega (arith, is.budget, le-mul s.group s.budget is.group_from)
    where
      le-mul : (g b : ℕ) → 1 ≤ g → b ≤ g * b
      le-mul zero b h = absurd (omega (arith, h))
      le-mul (suc g) b h = omega arith

  budget-again : (place : ℕ) (behind : List ℕ) → budget_at s.group (record { place = place; bytes = to_be_bytes w32 s.budget ++ behind }) ≡ found s.budget (place + 4) behind
  unfolding budget_at
  budget-again place behind =
      bind-step _ _ (four-here ProofShort s.budget place behind small-budget)
      ∙ refuse-step _ _ _ _ (or_from (s.budget == 0) (nat_le (2 ^ 31) (s.group * s.budget)) (ne_eqb s.budget 0 (λ z. omega (arith, z, is.some_budget))) (lt-leb (2 ^ 31) (s.group * s.budget) is.budget))

  settings-again : (place : ℕ) (behind : List ℕ) → settings_at (record {
    place = place;
    bytes =
        form_number s.form s.group ∷ (to_be_bytes w16 s.width ++ (to_be_bytes w16 s.height ++ (chroma_number s.chroma ∷ depth_number s.depth ∷ alpha_number s.alpha ∷ interlace_number s.interlace
        ∷ (s.log2 ∷ s.lo ∷ s.hi ∷ (to_be_bytes w32 s.num ++ (to_be_bytes w32 s.den ++ (s.luma ++ (s.chroma_weights ++ (to_be_bytes w32 s.budget ++ behind)))))))));
  }) ≡ found s (place + 152) behind
  unfolding settings_at
  settings-again place behind =
      let budget = to_be_bytes w32 s.budget ++ behind in
      let weights = s.chroma_weights ++ budget in
      let luma = s.luma ++ weights in
      let rate = to_be_bytes w32 s.num ++ (to_be_bytes w32 s.den ++ luma) in
      let slicing : List ℕ = s.log2 ∷ s.lo ∷ s.hi ∷ rate in
      let kinds : List ℕ = chroma_number s.chroma ∷ depth_number s.depth ∷ alpha_number s.alpha ∷ interlace_number s.interlace ∷ slicing in
      bind-step _ _ (size-again place kinds)
      ∙ bind-step _ _ (kinds-again (place + 5) slicing)
      ∙ bind-step _ _ (slicing-again (place + 5 + 4) rate)
      ∙ bind-step _ _ (rate-again (place + 5 + 4 + 3) luma)
      ∙ bind-step _ _ (weights-again s.luma (place + 5 + 4 + 3 + 8) weights is.luma_count is.luma)
      ∙ bind-step _ _ (weights-again s.chroma_weights (place + 5 + 4 + 3 + 8 + 64) budget is.chroma_count is.chroma_weights)
      ∙ bind-step _ _ (budget-again (place + 5 + 4 + 3 + 8 + 64 + 64) behind)
      ∙ same_rest s _ _ behind (omega arith)

-- ---- the head

pub head-parts : (format : ℕ) (s : Settings) (behind : List ℕ) → head_bytes format s ++ behind ≡ codes "PWPF" ++ (format ∷ (form_number s.form s.group ∷ (to_be_bytes w16 s.width ++ (to_be_bytes w16 s.height
    ++ (chroma_number s.chroma ∷ depth_number s.depth ∷ alpha_number s.alpha ∷ interlace_number s.interlace ∷ (s.log2 ∷ s.lo ∷ s.hi ∷ (to_be_bytes w32 s.num ++ (to_be_bytes w32 s.den
    ++ (s.luma ++ (s.chroma_weights ++ (to_be_bytes w32 s.budget ++ behind)))))))))))
unfolding head_bytes
head-parts format s behind =
    let tail : ((s.luma ++ s.chroma_weights) ++ to_be_bytes w32 s.budget) ++ behind ≡ s.luma ++ (s.chroma_weights ++ (to_be_bytes w32 s.budget ++ behind)) =
    append_assoc (s.luma ++ s.chroma_weights) (to_be_bytes w32 s.budget) behind ∙ append_assoc s.luma s.chroma_weights (to_be_bytes w32 s.budget ++ behind) in
    ap (λ (l : List ℕ). codes "PWPF" ++ (format ∷ (form_number s.form s.group ∷ (to_be_bytes w16 s.width ++ (to_be_bytes w16 s.height
    ++ (chroma_number s.chroma ∷ depth_number s.depth ∷ alpha_number s.alpha ∷ interlace_number s.interlace ∷ (s.log2 ∷ s.lo ∷ s.hi ∷ (to_be_bytes w32 s.num ++ (to_be_bytes w32 s.den ++ l))))))))) tail

head-length : (format : ℕ) (s : Settings) → IsSettings s → length (head_bytes format s) ≡ 157
unfolding head_bytes
head-length format s is =
    omega (arith, length-append (s.luma ++ s.chroma_weights) (to_be_bytes w32 s.budget), length-append s.luma s.chroma_weights, is.luma_count, is.chroma_count)

pub head-again : HeadIsReadAgain
unfolding head_at
head-again format s place behind f is =
    ap (λ (l : List ℕ). head_at (record { place = place; bytes = l })) (head-parts format s behind)
    ∙ bind-step _ _ (format-again format place _ f)
    ∙ bind-step _ _ (settings-again s is (place + 5) behind)
    ∙ same_rest (format, s) _ _ behind (omega (arith, head-length format s is))
