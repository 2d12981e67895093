-- The options of the command line: their names and their values; and the numeric operands. Our own definitions.
use Rattle.std.specs.Prelude.{◌≡◌, ℕ, ◌+◌, ◌-◌, ◌^◌, ◌<◌, ◌≤◌, ◌==◌, Bool, is_some, List, take, drop, position, bytes_eq, codes, Option, None, Some, option_map, option_and_then, IfSome, if◌then◌else◌}
use Rattle.pw_planes.specs.declared.plane.TheConstants.{MAX_WIDTH, MAX_HEIGHT}
use Rattle.pw_planes.specs.declared.kinds.Chroma.{Chroma}
use Rattle.pw_planes.specs.declared.kinds.Chroma.TheVariants.{C422, C444}
use Rattle.pw_planes.specs.declared.kinds.Depth.{Depth}
use Rattle.pw_planes.specs.declared.kinds.Depth.TheVariants.{D8, D10, D12}
use Rattle.pw_planes.specs.declared.kinds.AlphaKind.{AlphaKind}
use Rattle.pw_planes.specs.declared.kinds.AlphaKind.TheVariants.{Absent, Eight, Sixteen}
use Rattle.pw_planes.specs.declared.kinds.Interlace.{Interlace}
use Rattle.pw_planes.specs.declared.kinds.Interlace.TheVariants.{Progressive, TopFirst, BottomFirst}
use Rattle.pic_y4m.specs.declared.head.Head.{Head}
use Rattle.pic_y4m.specs.declared.head.TheConstants.{MAX_RATE_NUM, MAX_RATE_DEN}
use Rattle.pic_y4m.specs.HeadLine.{IsHead}
use Rattle.pic_y4m.specs.Values.{number_within}
use Rattle.pr_quant.specs.declared.weights.Matrix.{Matrix}
use Rattle.pr_quant.specs.declared.weights.Matrix.TheVariants.{Flat, Steep}
use Rattle.run_decode.specs.declared.job.Form.{Form}
use Rattle.run_decode.specs.declared.job.Form.TheVariants.{Y4m, Raw}
use Rattle.rescue_run.specs.declared.form.Rate as run
use Rattle.rescue_run.specs.Rescuing.{IsRate}
use Rattle.workshop.specs.declared.options.Rate.{Rate}
use Rattle.workshop.specs.declared.options.OptionName.{OptionName}
use Rattle.workshop.specs.declared.options.OptionName.TheVariants as option
use Rattle.workshop.specs.declared.options.Values.{Values}

-- ---- names

-- the name of each option
abbrev pub name_of_option : OptionName → List ℕ
name_of_option option.Budget = codes "budget"
name_of_option option.Lo = codes "lo"
name_of_option option.Hi = codes "hi"
name_of_option option.Log = codes "log"
name_of_option option.Matrix = codes "matrix"
name_of_option option.Raw = codes "raw"
name_of_option option.Interlace = codes "interlace"
name_of_option option.Group = codes "group"
name_of_option option.Proof = codes "proof"
name_of_option option.Depth = codes "depth"
name_of_option option.Form = codes "form"
name_of_option option.Rate = codes "rate"
name_of_option option.Cap = codes "cap"

-- ---- values. Numbers are decimal, and may have leading zeros; names are case sensitive.

-- what precedes the first byte equal to `byte`, and what follows it
abbrev pub cut : ℕ → List ℕ → Option (List ℕ × List ℕ)
cut byte bytes = option_map (λ at. (take at bytes, drop (at + 1) bytes)) (position (λ b. b == byte) bytes)

abbrev pub matrix_named : List ℕ → Option Matrix
matrix_named bytes = if bytes_eq bytes (codes "flat") then Some Flat else (if bytes_eq bytes (codes "steep") then Some Steep else None)

-- progressive, the top field first, the bottom field first
abbrev pub interlace_named : List ℕ → Option Interlace
interlace_named bytes = if bytes_eq bytes (codes "p") then Some Progressive
    else (if bytes_eq bytes (codes "t") then Some TopFirst
    else (if bytes_eq bytes (codes "b") then Some BottomFirst else None))

-- the output format of pictures
abbrev pub form_named : List ℕ → Option Form
form_named bytes = if bytes_eq bytes (codes "y4m") then Some Y4m else (if bytes_eq bytes (codes "raw") then Some Raw else None)

abbrev pub chroma_of : ℕ → Option Chroma
chroma_of n = if n == 422 then Some C422 else (if n == 444 then Some C444 else None)

abbrev pub depth_of : ℕ → Option Depth
depth_of n = if n == 8 then Some D8 else (if n == 10 then Some D10 else (if n == 12 then Some D12 else None))

abbrev pub alpha_of : ℕ → Option AlphaKind
alpha_of n = if n == 0 then Some Absent else (if n == 8 then Some Eight else (if n == 16 then Some Sixteen else None))

-- two numbers from 1 to their limits, separated by such a byte
unfoldable pub pair_within : ℕ → ℕ → ℕ → List ℕ → Option (ℕ × ℕ)
pair_within byte most most' bytes = option_and_then (λ parts.
    option_and_then (λ a. option_and_then (λ b. Some (a, b)) (number_within 1 most' parts.1)) (number_within 1 most parts.0)) (cut byte bytes)

-- a frame rate, `NUM/DEN`
abbrev pub rate_in : List ℕ → Option Rate
rate_in bytes = option_map (λ n. record { num = n.0; den = n.1 }) (pair_within 47 MAX_RATE_NUM MAX_RATE_DEN bytes)

-- the same rate, as the parameter of a run
abbrev pub rate_of : Rate → run.Rate
rate_of r = record { num = r.num; den = r.den }

-- progressive pictures of this size, of these formats, and of this rate
abbrev pub head_of : ℕ × ℕ → Chroma → Depth → AlphaKind → ℕ × ℕ → Head
head_of size chroma depth alpha rate = record {
  width = size.0;
  height = size.1;
  chroma = chroma;
  depth = depth;
  alpha = alpha;
  interlace = Progressive;
  num = rate.0;
  den = rate.1;
}

abbrev pub chroma_in : List ℕ → Option Chroma
chroma_in bytes = option_and_then chroma_of (number_within 422 444 bytes)

abbrev pub depth_in : List ℕ → Option Depth
depth_in bytes = option_and_then depth_of (number_within 8 12 bytes)

abbrev pub alpha_in : List ℕ → Option AlphaKind
alpha_in bytes = option_and_then alpha_of (number_within 0 16 bytes)

infixl 10 ◌>>=◌
abbrev pub ◌>>=◌ : {A B : Type 0} → Option A → (A → Option B) → Option B
o >>= next = option_and_then next o

-- the format of raw planar pictures, `WxH:CHROMA:DEPTH:ALPHA:NUM/DEN`
unfoldable pub raw_form : List ℕ → Option Head
raw_form bytes = do
  size ← cut 58 bytes
  chroma ← cut 58 size.1
  depth ← cut 58 chroma.1
  alpha ← cut 58 depth.1
  area ← pair_within 120 MAX_WIDTH MAX_HEIGHT size.0
  rate ← pair_within 47 MAX_RATE_NUM MAX_RATE_DEN alpha.1
  c ← chroma_in chroma.0
  d ← depth_in depth.0
  a ← alpha_in alpha.0
  Some (head_of area c d a rate)

-- ---- the values that a command line gives

abbrev pub no_values : Values
no_values = record { budget = None; lo = None; hi = None; log2 = None; matrix = None; raw = None; interlace = None; group = None; proof = None; depth = None; form = None; rate = None; cap = None; width = None; height = None; frames = None; seed = None }

-- whether a value was given
abbrev pub is_given : OptionName → Values → Bool
is_given option.Budget v = is_some v.budget
is_given option.Lo v = is_some v.lo
is_given option.Hi v = is_some v.hi
is_given option.Log v = is_some v.log2
is_given option.Matrix v = is_some v.matrix
is_given option.Raw v = is_some v.raw
is_given option.Interlace v = is_some v.interlace
is_given option.Group v = is_some v.group
is_given option.Proof v = is_some v.proof
is_given option.Depth v = is_some v.depth
is_given option.Form v = is_some v.form
is_given option.Rate v = is_some v.rate
is_given option.Cap v = is_some v.cap

-- the values with that of one more option; none if the bytes aren't a value of it
abbrev pub with_value : OptionName → List ℕ → Values → Option Values
with_value option.Budget bytes v = option_map (λ n. record v { budget = Some n }) (number_within 1 (2 ^ 31 - 1) bytes)
with_value option.Lo bytes v = option_map (λ n. record v { lo = Some n }) (number_within 1 224 bytes)
with_value option.Hi bytes v = option_map (λ n. record v { hi = Some n }) (number_within 1 224 bytes)
with_value option.Log bytes v = option_map (λ n. record v { log2 = Some n }) (number_within 0 3 bytes)
with_value option.Matrix bytes v = option_map (λ m. record v { matrix = Some m }) (matrix_named bytes)
with_value option.Raw bytes v = option_map (λ h. record v { raw = Some h }) (raw_form bytes)
with_value option.Interlace bytes v = option_map (λ i. record v { interlace = Some i }) (interlace_named bytes)
with_value option.Group bytes v = option_map (λ n. record v { group = Some n }) (number_within 1 8 bytes)
with_value option.Proof bytes v = option_map (λ n. record v { proof = Some n }) (number_within 1 2 bytes)
with_value option.Depth bytes v = option_map (λ d. record v { depth = Some d }) (depth_in bytes)
with_value option.Form bytes v = option_map (λ f. record v { form = Some f }) (form_named bytes)
with_value option.Rate bytes v = option_map (λ r. record v { rate = Some r }) (rate_in bytes)
with_value option.Cap bytes v = option_map (λ n. record v { cap = Some n }) (number_within 0 (2 ^ 64 - 1) bytes)

-- The values with operand `operand` of `synth`: width, height, number of pictures, seed, and budget of each. None
-- if the bytes aren't a number in its range.
abbrev pub with_number : (operand : ℕ) → List ℕ → Values → Option Values
with_number operand bytes v = if operand == 0 then option_map (λ n. record v { width = Some n }) (number_within 1 MAX_WIDTH bytes)
    else (if operand == 1 then option_map (λ n. record v { height = Some n }) (number_within 1 MAX_HEIGHT bytes)
    else (if operand == 2 then option_map (λ n. record v { frames = Some n }) (number_within 1 100 bytes)
    else (if operand == 3 then option_map (λ n. record v { seed = Some n }) (number_within 0 (2 ^ 32 - 1) bytes)
    else option_map (λ n. record v { budget = Some n }) (number_within 1 (2 ^ 31 - 1) bytes))))

-- a format of progressive pictures within the limits
abbrev pub IsRawForm : Head → Type 0
IsRawForm h = IsHead h × (h.interlace ≡ Progressive)

-- each value is one of its option's
pub record AreValues (v : Values) : Type 0 where
  pub budget : IfSome v.budget (λ n. (1 ≤ n) × (n < 2 ^ 31))
  pub lo : IfSome v.lo (λ n. (1 ≤ n) × (n ≤ 224))
  pub hi : IfSome v.hi (λ n. (1 ≤ n) × (n ≤ 224))
  pub log2 : IfSome v.log2 (λ n. n ≤ 3)
  pub raw : IfSome v.raw IsRawForm
  pub group : IfSome v.group (λ n. (1 ≤ n) × (n ≤ 8))
  pub proof : IfSome v.proof (λ n. (1 ≤ n) × (n ≤ 2))
  pub rate : IfSome v.rate (λ r. IsRate (rate_of r))
  pub width : IfSome v.width (λ n. (1 ≤ n) × (n ≤ MAX_WIDTH))
  pub height : IfSome v.height (λ n. (1 ≤ n) × (n ≤ MAX_HEIGHT))
  pub frames : IfSome v.frames (λ n. (1 ≤ n) × (n ≤ 100))
