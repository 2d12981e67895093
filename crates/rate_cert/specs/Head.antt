-- The head of a proof file, in both formats, for the writer and for the reader: the bytes that are written, and the
-- settings that bytes stand for, or their first error and its offset. Our own formats.
use Rattle.std.specs.Prelude.{ℕ, ◌+◌, ◌-◌, ◌*◌, ◌/◌, ◌%◌, ◌^◌, Bool, not, ◌==◌, ◌||◌, nat_le, nat_lt, if◌then◌else◌, List, [], ◌∷◌, ◌++◌, Option, None, Some, Ok, codes, is_some}
use Rattle.std.specs.Int.{w8, w16, w32, to_be_bytes}
use Rattle.std.specs.List.{list_any}
use Rattle.pw_outside.specs.Reading.{Rest, Read, ◌>>=◌, bad, refuse, number_at, bytes_at}
use Rattle.pw_planes.specs.declared.kinds.AlphaKind.{AlphaKind}
use Rattle.pw_planes.specs.declared.kinds.AlphaKind.TheVariants as alphas
use Rattle.pw_planes.specs.declared.kinds.Chroma.{Chroma}
use Rattle.pw_planes.specs.declared.kinds.Chroma.TheVariants.{C422, C444}
use Rattle.pw_planes.specs.declared.kinds.Depth.{Depth}
use Rattle.pw_planes.specs.declared.kinds.Depth.TheVariants.{D8, D10, D12}
use Rattle.pw_planes.specs.declared.kinds.Interlace.{Interlace}
use Rattle.pw_planes.specs.declared.kinds.Interlace.TheVariants.{Progressive, TopFirst, BottomFirst}
use Rattle.pr_geom.specs.Faults.{first_fault, slice_count}
use Rattle.pr_geom.specs.Slices.{pictures_of}
use Rattle.rate_table.specs.declared.table.TheConstants.{MAX_TABLE_SLICES}
use Rattle.rate_table.specs.declared.fault.ProofKind.{ProofKind}
use Rattle.rate_table.specs.declared.fault.ProofKind.TheVariants.{ProofMagic, ProofShape, ProofShort}
use Rattle.rate_cert.specs.declared.settings.Settings.{Settings}
use Rattle.rate_cert.specs.declared.head.Size.{Size}
use Rattle.rate_cert.specs.declared.head.Kinds.{Kinds}
use Rattle.rate_cert.specs.declared.head.Slicing.{Slicing}
use Rattle.rate_cert.specs.declared.head.Rate.{Rate}

-- ---- the fields of settings as numbers

abbrev pub chroma_number : Chroma → ℕ
chroma_number C422 = 2
chroma_number C444 = 3

abbrev pub depth_number : Depth → ℕ
depth_number D8 = 8
depth_number D10 = 10
depth_number D12 = 12

abbrev pub alpha_number : AlphaKind → ℕ
alpha_number alphas.Absent = 0
alpha_number alphas.Eight = 8
alpha_number alphas.Sixteen = 16

abbrev pub interlace_number : Interlace → ℕ
interlace_number Progressive = 0
interlace_number TopFirst = 1
interlace_number BottomFirst = 2

-- the byte of form and group: groups of 1 to 8 frames of Y4M or raw pictures, or 16 for products
abbrev pub form_number : ℕ → ℕ → ℕ
form_number form group = if form == 2 then 16 else form + 2 * (group - 1)

-- ---- writing

unfoldable pub head_bytes : ℕ → Settings → List ℕ
head_bytes format s =
    codes "PWPF" ++ (format ∷ form_number s.form s.group ∷ []) ++ to_be_bytes w16 s.width ++ to_be_bytes w16 s.height
    ++ (chroma_number s.chroma ∷ depth_number s.depth ∷ alpha_number s.alpha ∷ interlace_number s.interlace ∷ s.log2 ∷ s.lo ∷ s.hi ∷ [])
    ++ to_be_bytes w32 s.num ++ to_be_bytes w32 s.den ++ s.luma ++ s.chroma_weights ++ to_be_bytes w32 s.budget

-- ---- the meaning of the numbers

abbrev pub chroma_of : ℕ → Option Chroma
chroma_of n = if n == 2 then Some C422 else (if n == 3 then Some C444 else None)

abbrev pub depth_of : ℕ → Option Depth
depth_of n = if n == 8 then Some D8 else (if n == 10 then Some D10 else (if n == 12 then Some D12 else None))

abbrev pub alpha_of : ℕ → Option AlphaKind
alpha_of n = if n == 0 then Some alphas.Absent else (if n == 8 then Some alphas.Eight else (if n == 16 then Some alphas.Sixteen else None))

abbrev pub interlace_of : ℕ → Option Interlace
interlace_of n = if n == 0 then Some Progressive else (if n == 1 then Some TopFirst else (if n == 2 then Some BottomFirst else None))

abbrev pub form_of : ℕ → ℕ
form_of n = if n == 16 then 2 else n % 2

abbrev pub group_of : ℕ → ℕ
group_of n = if n == 16 then 1 else n / 2 + 1

abbrev pub is_no_weight : ℕ → Bool
is_no_weight w = nat_lt w 2 || nat_lt 63 w

-- Such pictures can't be cut into slices, or a group of their frames has too many slices.
abbrev pub has_no_layout : ℕ → ℕ → ℕ → Interlace → ℕ → Bool
has_no_layout width height log2 interlace group =
    is_some (first_fault width height log2 interlace)
    || nat_lt MAX_TABLE_SLICES (group * (pictures_of interlace * slice_count width height log2 interlace))

-- ---- reading

-- the meaning of the number at an offset, or an error there
unfoldable pub meant : {A : Type 0} → Option A → ℕ → Rest → Read ProofKind A
meant None place s = bad ProofShape place
meant (Some x) place s = Ok (x, s)

-- the magic number and the format
unfoldable pub format_at : Rest → Read ProofKind ℕ
format_at s = do
  magic ← number_at ProofShort w32 s
  _ ← refuse (not (magic.0 == 0x50575046)) ProofMagic s.place
  format ← number_at ProofShort w8 magic.1
  _ ← refuse (not (format.0 == 1 || format.0 == 2)) ProofMagic magic.1.place
  Ok format

-- form and group, and the size of the pictures
unfoldable pub size_at : Rest → Read ProofKind Size
size_at s = do
  form ← number_at ProofShort w8 s
  _ ← refuse (nat_lt 16 form.0) ProofShape s.place
  width ← number_at ProofShort w16 form.1
  _ ← refuse (width.0 == 0 || nat_lt 8192 width.0) ProofShape form.1.place
  height ← number_at ProofShort w16 width.1
  _ ← refuse (height.0 == 0 || nat_lt 4320 height.0) ProofShape width.1.place
  Ok (record { form = form_of form.0; group = group_of form.0; width = width.0; height = height.0 }, height.1)

unfoldable pub chroma_at : Rest → Read ProofKind Chroma
chroma_at s = number_at ProofShort w8 s >>= λ n. meant (chroma_of n.0) s.place n.1

unfoldable pub depth_at : Rest → Read ProofKind Depth
depth_at s = number_at ProofShort w8 s >>= λ n. meant (depth_of n.0) s.place n.1

unfoldable pub alpha_at : Rest → Read ProofKind AlphaKind
alpha_at s = number_at ProofShort w8 s >>= λ n. meant (alpha_of n.0) s.place n.1

unfoldable pub interlace_at : Rest → Read ProofKind Interlace
interlace_at s = number_at ProofShort w8 s >>= λ n. meant (interlace_of n.0) s.place n.1

-- the format of pictures of this height
unfoldable pub kinds_at : ℕ → Rest → Read ProofKind Kinds
kinds_at height s = do
  chroma ← chroma_at s
  depth ← depth_at chroma.1
  alpha ← alpha_at depth.1
  interlace ← interlace_at alpha.1
  _ ← refuse (nat_lt 0 (height % pictures_of interlace.0)) ProofShape alpha.1.place
  Ok (record { chroma = chroma.0; depth = depth.0; alpha = alpha.0; interlace = interlace.0 }, interlace.1)

-- the slicing of such pictures, and the range of quantisation indices
unfoldable pub slicing_at : Size → Interlace → Rest → Read ProofKind Slicing
slicing_at size interlace s = do
  log2 ← number_at ProofShort w8 s
  _ ← refuse (nat_lt 3 log2.0) ProofShape s.place
  _ ← refuse (has_no_layout size.width size.height log2.0 interlace size.group) ProofShape s.place
  lo ← number_at ProofShort w8 log2.1
  _ ← refuse (lo.0 == 0 || nat_lt 224 lo.0) ProofShape log2.1.place
  hi ← number_at ProofShort w8 lo.1
  _ ← refuse (nat_lt hi.0 lo.0 || nat_lt 224 hi.0) ProofShape lo.1.place
  Ok (record { log2 = log2.0; lo = lo.0; hi = hi.0 }, hi.1)

-- the frame rate
unfoldable pub rate_at : Rest → Read ProofKind Rate
rate_at s = do
  num ← number_at ProofShort w32 s
  _ ← refuse (num.0 == 0 || nat_lt 1000000 num.0) ProofShape s.place
  den ← number_at ProofShort w32 num.1
  _ ← refuse (den.0 == 0 || nat_lt 4000 den.0) ProofShape num.1.place
  Ok (record { num = num.0; den = den.0 }, den.1)

-- the weights of a matrix, each from 2 to 63; an error is at the first of them
unfoldable pub weights_at : Rest → Read ProofKind (List ℕ)
weights_at s = do
  weights ← bytes_at ProofShort 64 s
  _ ← refuse (list_any is_no_weight weights.0) ProofShape s.place
  Ok weights

-- the budget of one of the `group` frames of a group
unfoldable pub budget_at : ℕ → Rest → Read ProofKind ℕ
budget_at group s = do
  budget ← number_at ProofShort w32 s
  _ ← refuse (budget.0 == 0 || nat_le (2 ^ 31) (group * budget.0)) ProofShape s.place
  Ok budget

abbrev pub settings_of : Size → Kinds → Slicing → Rate → List ℕ → List ℕ → ℕ → Settings
settings_of size kinds slicing rate luma weights budget = record {
  form = size.form;
  group = size.group;
  width = size.width;
  height = size.height;
  chroma = kinds.chroma;
  depth = kinds.depth;
  alpha = kinds.alpha;
  interlace = kinds.interlace;
  log2 = slicing.log2;
  lo = slicing.lo;
  hi = slicing.hi;
  num = rate.num;
  den = rate.den;
  luma = luma;
  chroma_weights = weights;
  budget = budget;
}

-- the settings, which follow the format
unfoldable pub settings_at : Rest → Read ProofKind Settings
settings_at s = do
  size ← size_at s
  kinds ← kinds_at size.0.height size.1
  slicing ← slicing_at size.0 kinds.0.interlace kinds.1
  rate ← rate_at slicing.1
  luma ← weights_at rate.1
  weights ← weights_at luma.1
  budget ← budget_at size.0.group weights.1
  Ok (settings_of size.0 kinds.0 slicing.0 rate.0 luma.0 weights.0 budget.0, budget.1)

-- the head: the format, and the settings
unfoldable pub head_at : Rest → Read ProofKind (ℕ × Settings)
head_at s = do
  format ← format_at s
  settings ← settings_at format.1
  Ok ((format.0, settings.0), settings.1)
