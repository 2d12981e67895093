-- The grammar of the command line: a table of commands, and the walk over the words. Our own definition.
use Rattle.std.specs.Prelude.{◌≡◌, ℕ, ◌+◌, ◌*◌, ◌^◌, ◌%◌, ◌==◌, nat_eq, nat_lt, Bool, true, false, not, ◌&&◌, ◌||◌, is_some, is_none, List, [], ◌∷◌, ◌++◌, length, drop, find, slice_get, bytes_eq, Option, None, Some, unwrap_or, option_map, Result, Ok, Err, codes, String, string_bytes, map, if◌then◌else◌}
use Rattle.std.specs.List.{starts_with, list_any}
use Rattle.pw_planes.specs.declared.kinds.Interlace.{Interlace}
use Rattle.pw_planes.specs.declared.kinds.Interlace.TheVariants.{Progressive}
use Rattle.pw_planes.specs.declared.kinds.Depth.TheVariants.{D10}
use Rattle.pic_y4m.specs.declared.head.Head.{Head}
use Rattle.pic_y4m.specs.HeadLine.{is_interlaced}
use Rattle.pr_quant.specs.declared.weights.Matrix.TheVariants.{Flat}
use Rattle.run_encode.specs.declared.job.EncodeWords.{EncodeWords}
use Rattle.run_encode.specs.Groups.{AreWords}
use Rattle.run_decode.specs.declared.job.Form.TheVariants.{Y4m}
use Rattle.rescue_run.specs.Rescuing.{IsRate}
use Rattle.run_synth.specs.declared.words.SynthWords.{SynthWords}
use Rattle.run_synth.specs.Synthesis.{AreSynthWords}
use Rattle.workshop.specs.declared.words.Command.{Command}
use Rattle.workshop.specs.declared.words.Command.TheVariants as command
use Rattle.workshop.specs.declared.words.Task.{Task}
use Rattle.workshop.specs.declared.words.Task.TheVariants as task
use Rattle.workshop.specs.declared.words.DecodeWords.{DecodeWords}
use Rattle.workshop.specs.declared.words.Names.{Names}
use Rattle.workshop.specs.declared.words.BadWords.{BadWords}
use Rattle.workshop.specs.declared.words.Settings.{Settings}
use Rattle.workshop.specs.declared.options.OptionName.{OptionName}
use Rattle.workshop.specs.declared.options.OptionName.TheVariants as option
use Rattle.workshop.specs.declared.options.Rate.{Rate}
use Rattle.workshop.specs.declared.options.Values.{Values}
use Rattle.workshop.specs.Options.{name_of_option, cut, is_given, with_value, with_number, no_values, rate_of}
use Rattle.workshop.specs.declared.status.UsageKind.{UsageKind}
use Rattle.workshop.specs.declared.status.UsageKind.TheVariants.{NoCommand, UnknownCommand, UnknownOption, RepeatedOption, BadValue, ExtraOperand, MissingOperand, MissingOption, Conflict}

-- ---- the table of commands

abbrev pub commands : List Command
commands = command.Plan ∷ command.Encode ∷ command.List ∷ command.Check ∷ command.Reproof ∷ command.Decode ∷ command.Rescue ∷ command.AddSound ∷ command.Sound ∷ command.Least ∷ command.CheckLeast ∷ command.Curve ∷ command.Synth ∷ []

-- the name of each command
abbrev pub name_of : Command → List ℕ
name_of command.Plan = codes "plan"
name_of command.Encode = codes "encode"
name_of command.List = codes "list"
name_of command.Check = codes "check"
name_of command.Reproof = codes "reproof"
name_of command.Decode = codes "decode"
name_of command.Rescue = codes "rescue"
name_of command.AddSound = codes "addsound"
name_of command.Sound = codes "sound"
name_of command.Least = codes "least"
name_of command.CheckLeast = codes "checkleast"
name_of command.Curve = codes "curve"
name_of command.Synth = codes "synth"

-- the numbers of operands of each command, rising
abbrev pub operands_of : Command → List ℕ
operands_of command.Plan = 1 ∷ []
operands_of command.Encode = 3 ∷ []
operands_of command.List = 1 ∷ []
operands_of command.Check = 1 ∷ 3 ∷ []
operands_of command.Reproof = 2 ∷ []
operands_of command.Decode = 2 ∷ []
operands_of command.Rescue = 2 ∷ []
operands_of command.AddSound = 3 ∷ []
operands_of command.Sound = 2 ∷ []
operands_of command.Least = 2 ∷ []
operands_of command.CheckLeast = 1 ∷ []
operands_of command.Curve = 1 ∷ []
operands_of command.Synth = 5 ∷ []

-- the options of each command
abbrev pub options_of : Command → List OptionName
options_of command.Plan = []
options_of command.Encode = option.Budget ∷ option.Lo ∷ option.Hi ∷ option.Log ∷ option.Matrix ∷ option.Raw ∷ option.Interlace ∷ option.Group ∷ option.Proof ∷ []
options_of command.List = []
options_of command.Check = []
options_of command.Reproof = []
options_of command.Decode = option.Depth ∷ option.Form ∷ []
options_of command.Rescue = option.Rate ∷ []
options_of command.AddSound = []
options_of command.Sound = []
options_of command.Least = option.Cap ∷ []
options_of command.CheckLeast = []
options_of command.Curve = []
options_of command.Synth = []

-- an option that the command requires is missing
abbrev pub lacks_option : Command → Values → Bool
lacks_option command.Plan v = false
lacks_option command.Encode v = is_none v.budget
lacks_option command.List v = false
lacks_option command.Check v = false
lacks_option command.Reproof v = false
lacks_option command.Decode v = false
lacks_option command.Rescue v = false
lacks_option command.AddSound v = false
lacks_option command.Sound v = false
lacks_option command.Least v = is_none v.cap
lacks_option command.CheckLeast v = false
lacks_option command.Curve v = false
lacks_option command.Synth v = false

-- the option, if there is one, is missing
abbrev pub lacks : Option OptionName → Values → Bool
lacks None v = false
lacks (Some o) v = not (is_given o v)

abbrev pub no_names : Names
no_names = record { pictures = None; proof = None; movie = None; out = None; cert = None }

-- The ports that the operands name, by the numbers of their words; `synth` names none.
abbrev pub ports_of : Command → List ℕ → Names
ports_of command.Plan operands = record no_names { proof = slice_get operands 0 }
ports_of command.Encode operands = record no_names { pictures = slice_get operands 0; out = slice_get operands 1; cert = slice_get operands 2 }
ports_of command.List operands = record no_names { movie = slice_get operands 0 }
ports_of command.Check operands = record no_names { proof = slice_get operands 0; pictures = slice_get operands 1; movie = slice_get operands 2 }
ports_of command.Reproof operands = record no_names { proof = slice_get operands 0; cert = slice_get operands 1 }
ports_of command.Decode operands = record no_names { movie = slice_get operands 0; out = slice_get operands 1 }
ports_of command.Rescue operands = record no_names { movie = slice_get operands 0; out = slice_get operands 1 }
ports_of command.AddSound operands = record no_names { movie = slice_get operands 0; pictures = slice_get operands 1; out = slice_get operands 2 }
ports_of command.Sound operands = record no_names { movie = slice_get operands 0; out = slice_get operands 1 }
ports_of command.Least operands = record no_names { proof = slice_get operands 0; cert = slice_get operands 1 }
ports_of command.CheckLeast operands = record no_names { proof = slice_get operands 0 }
ports_of command.Curve operands = record no_names { proof = slice_get operands 0 }
ports_of command.Synth operands = no_names

-- the ports that a run uses: it reads `pictures`, `proof` and `movie`, and writes `out`, `cert` and `text`
pub record Ports : Type 0 where
  pub pictures : Bool
  pub proof : Bool
  pub movie : Bool
  pub out : Bool
  pub cert : Bool
  pub text : Bool

abbrev pub no_ports : Ports
no_ports = record { pictures = false; proof = false; movie = false; out = false; cert = false; text = false }

abbrev pub uses_of : Task → Ports
uses_of task.Plan = record no_ports { proof = true; text = true }
uses_of (task.Encode w) = record no_ports { pictures = true; out = true; cert = true; text = true }
uses_of task.List = record no_ports { movie = true; text = true }
uses_of task.Check = record no_ports { proof = true; text = true }
uses_of task.CheckAll = record no_ports { pictures = true; proof = true; movie = true; text = true }
uses_of task.Reproof = record no_ports { proof = true; cert = true; text = true }
uses_of (task.Decode w) = record no_ports { movie = true; out = true; text = true }
uses_of (task.Rescue rate) = record no_ports { movie = true; out = true; text = true }
uses_of task.AddSound = record no_ports { pictures = true; movie = true; out = true; text = true }
uses_of task.Sound = record no_ports { movie = true; out = true; text = true }
uses_of (task.Least cap) = record no_ports { proof = true; cert = true; text = true }
uses_of task.CheckLeast = record no_ports { proof = true; text = true }
uses_of task.Curve = record no_ports { proof = true; text = true }
uses_of (task.Synth w) = record no_ports { text = true }

-- ---- the values of options, and their defaults

abbrev pub with_mode : Interlace → Head → Head
with_mode mode h = record h { interlace = mode }

-- the format of raw planar pictures, with their interlace mode
abbrev pub raw_in : Values → Option Head
raw_in v = option_map (with_mode (unwrap_or v.interlace Progressive)) v.raw

abbrev pub encode_words : Values → EncodeWords
encode_words v = record {
  budget = unwrap_or v.budget 0;
  lo = unwrap_or v.lo 1;
  hi = unwrap_or v.hi 31;
  log2 = unwrap_or v.log2 3;
  matrix = unwrap_or v.matrix Flat;
  raw = raw_in v;
  group = unwrap_or v.group 1;
  proof = unwrap_or v.proof 2;
}

abbrev pub decode_words : Values → DecodeWords
decode_words v = record { depth = unwrap_or v.depth D10; form = unwrap_or v.form Y4m }

-- the numeric operands of `synth`
abbrev pub synth_words : Values → SynthWords
synth_words v = record {
  width = unwrap_or v.width 1;
  height = unwrap_or v.height 1;
  frames = unwrap_or v.frames 1;
  seed = unwrap_or v.seed 0;
  budget = unwrap_or v.budget 1;
}

-- 25 frames a second
abbrev pub usual_rate : Rate
usual_rate = record { num = 25; den = 1 }

-- interlaced frames of an odd number of rows
abbrev pub is_odd_form : Head → Bool
is_odd_form h = is_interlaced h.interlace && (h.height % 2 == 1)

abbrev pub has_odd_form : Option Head → Bool
has_odd_form None = false
has_odd_form (Some h) = is_odd_form h

-- The values contradict each other: the least index is above the greatest; an interlace mode for Y4M, whose header
-- has its own; interlaced frames of an odd number of rows; a group with a budget of 2^31 bytes or more.
abbrev pub clash : Command → Values → Bool
clash command.Plan v = false
clash command.Encode v = nat_lt (encode_words v).hi (encode_words v).lo
    || (is_some v.interlace && is_none v.raw)
    || has_odd_form (encode_words v).raw
    || not (nat_lt ((encode_words v).group * (encode_words v).budget) (2 ^ 31))
clash command.List v = false
clash command.Check v = false
clash command.Reproof v = false
clash command.Decode v = false
clash command.Rescue v = false
clash command.AddSound v = false
clash command.Sound v = false
clash command.Least v = false
clash command.CheckLeast v = false
clash command.Curve v = false
clash command.Synth v = false

-- what a command runs with `n` operands
abbrev pub task_of : Command → ℕ → Values → Task
task_of command.Plan n v = task.Plan
task_of command.Encode n v = task.Encode (encode_words v)
task_of command.List n v = task.List
task_of command.Check n v = if n == 3 then task.CheckAll else task.Check
task_of command.Reproof n v = task.Reproof
task_of command.Decode n v = task.Decode (decode_words v)
task_of command.Rescue n v = task.Rescue (unwrap_or v.rate usual_rate)
task_of command.AddSound n v = task.AddSound
task_of command.Sound n v = task.Sound
task_of command.Least n v = task.Least (unwrap_or v.cap 0)
task_of command.CheckLeast n v = task.CheckLeast
task_of command.Curve n v = task.Curve
task_of command.Synth n v = task.Synth (synth_words v)

-- ---- the walk over the words

abbrev pub command_named : List ℕ → Option Command
command_named word = find (λ c. bytes_eq word (name_of c)) commands

-- an option begins with two dashes
abbrev pub is_option : List ℕ → Bool
is_option word = starts_with nat_eq word (codes "--")

-- the option of the command with this name
abbrev pub option_named : Command → List ℕ → Option OptionName
option_named c name = find (λ o. bytes_eq name (name_of_option o)) (options_of c)

abbrev pub last_of : List ℕ → ℕ
last_of [] = 0
last_of (n ∷ []) = n
last_of (n ∷ m ∷ ns) = last_of (m ∷ ns)

-- the largest number of operands that the command allows
abbrev pub most_operands : Command → ℕ
most_operands c = last_of (operands_of c)

-- whether the command allows `count` operands
abbrev pub takes : Command → ℕ → Bool
takes c count = list_any (λ n. n == count) (operands_of c)

-- a kind of error, and the number of its word
abbrev pub UsageFault : Type 0
UsageFault = UsageKind × ℕ

abbrev pub unless_bad : ℕ → Option Values → Result Values UsageFault
unless_bad at None = Err (BadValue, at)
unless_bad at (Some v) = Ok v

-- the values with that of this option, which may be given once
unfoldable pub with_option_value : OptionName → List ℕ → ℕ → Values → Result Values UsageFault
with_option_value o value at v = if is_given o v then Err (RepeatedOption, at) else unless_bad at (with_value o value v)

abbrev pub with_named : Option OptionName → List ℕ → ℕ → Values → Result Values UsageFault
with_named None value at v = Err (UnknownOption, at)
with_named (Some o) value at v = with_option_value o value at v

abbrev pub with_parts : Command → Option (List ℕ × List ℕ) → ℕ → Values → Result Values UsageFault
with_parts c None at v = Err (UnknownOption, at)
with_parts c (Some parts) at v = with_named (option_named c parts.0) parts.1 at v

-- The values with that of the option `--NAME=VALUE`, word `at`.
unfoldable pub with_option : Command → List ℕ → ℕ → Values → Result Values UsageFault
with_option c word at v = with_parts c (cut 61 (drop 2 word)) at v

-- the values with operand number `operand`: a number for `synth`; for every other command a file, which is no value
abbrev pub operand_values : Command → (operand : ℕ) → List ℕ → Values → Option Values
operand_values command.Synth operand word v = with_number operand word v
operand_values _ operand word v = Some v

-- the values with operand number `operand`, word `at`
unfoldable pub with_operand : Command → (operand : ℕ) → List ℕ → ℕ → Values → Result Values UsageFault
with_operand c operand word at v = unless_bad at (operand_values c operand word v)

-- The result after the last word.
unfoldable pub ended : Command → ℕ → List ℕ → Values → Result (Task × List ℕ) UsageFault
ended c at operands v = if not (takes c (length operands)) then Err (MissingOperand, at)
    else (if lacks_option c v then Err (MissingOption, at)
    else (if clash c v then Err (Conflict, at) else Ok (task_of c (length operands) v, operands)))

abbrev pub and_then : {A B : Type 0} → Result A UsageFault → (A → Result B UsageFault) → Result B UsageFault
and_then (Ok x) next = next x
and_then (Err fault) next = Err fault

-- The result, if `at` is the number of the next word, and the words before it have these operands and values; or
-- the first error with its word.
abbrev pub walk : Command → List (List ℕ) → ℕ → List ℕ → Values → Result (Task × List ℕ) UsageFault
walk c [] at operands v = ended c at operands v
walk c (word ∷ words) at operands v =
    if is_option word then and_then (with_option c word at v) (λ more. walk c words (at + 1) operands more)
    else (if nat_lt (length operands) (most_operands c)
    then and_then (with_operand c (length operands) word at v) (λ more. walk c words (at + 1) (operands ++ at ∷ []) more)
    else Err (ExtraOperand, at))

-- the result: what to run, and the operands by their word numbers; or the first error with its word
abbrev pub Said : Type 0
Said = Result (Task × List ℕ) UsageFault

abbrev pub settings_for : Option Command → List (List ℕ) → Said
settings_for None words = Err (UnknownCommand, 0)
settings_for (Some c) words = walk c words 1 [] no_values

abbrev pub settings : List (List ℕ) → Said
settings [] = Err (NoCommand, 0)
settings (first ∷ words) = settings_for (command_named first) words

-- the same for the words of the command line
abbrev pub said : {Z : Type 0} → List (String Z) → Said
said words = settings (map string_bytes words)

-- the error of the words, if there is one
abbrev pub usage_fault : Said → Option UsageFault
usage_fault (Ok s) = None
usage_fault (Err fault) = Some fault

abbrev pub command_of : Task → Command
command_of task.Plan = command.Plan
command_of (task.Encode w) = command.Encode
command_of task.List = command.List
command_of task.Check = command.Check
command_of task.CheckAll = command.Check
command_of task.Reproof = command.Reproof
command_of (task.Decode w) = command.Decode
command_of (task.Rescue rate) = command.Rescue
command_of task.AddSound = command.AddSound
command_of task.Sound = command.Sound
command_of (task.Least cap) = command.Least
command_of task.CheckLeast = command.CheckLeast
command_of task.Curve = command.Curve
command_of (task.Synth w) = command.Synth

-- the ports that the run uses: none if the words have an error
abbrev pub uses_in : Said → Ports
uses_in (Ok s) = uses_of s.0
uses_in (Err fault) = no_ports

-- whether the command reports pictures to monitors
abbrev pub is_decode : Task → Bool
is_decode (task.Decode w) = true
is_decode _ = false

abbrev pub tells_monitors : Said → Bool
tells_monitors (Ok s) = is_decode s.0
tells_monitors (Err fault) = false

-- the words that name each port's file; none if the words have an error
abbrev pub names_in : Said → Names
names_in (Ok s) = ports_of (command_of s.0) s.1
names_in (Err fault) = no_names

-- ---- the results of the parts of the walk

-- The result is that of the walk.
abbrev pub IsWalk : {X Y : Type 0} → (X → Y) → Result X BadWords → Result Y UsageFault → Type 0
IsWalk view (Ok x) walked = walked ≡ Ok (view x)
IsWalk view (Err e) walked = walked ≡ Err (e.kind, e.word)

abbrev pub settled : Settings → Task × List ℕ
settled s = (s.task, s.operands.items)

-- The values are those that the command line allows.
abbrev pub IsTask : Task → Type 0
IsTask task.Plan = Unit {0}
IsTask (task.Encode w) = AreWords w
IsTask task.List = Unit {0}
IsTask task.Check = Unit {0}
IsTask task.CheckAll = Unit {0}
IsTask task.Reproof = Unit {0}
IsTask (task.Decode w) = Unit {0}
IsTask (task.Rescue rate) = IsRate (rate_of rate)
IsTask task.AddSound = Unit {0}
IsTask task.Sound = Unit {0}
IsTask (task.Least cap) = Unit {0}
IsTask task.CheckLeast = Unit {0}
IsTask task.Curve = Unit {0}
IsTask (task.Synth w) = AreSynthWords w
