-- The values of a command are valid parameters of its run.
use Rattle.std.proofs.Common.{◌≡◌, ℕ, ◌^◌, ◌<◌, ◌≤◌, ◌%◌, ◌==◌, true, false, not, ◌&&◌, Bool, Option, Some, None, refl, arith, IfSome, IsTrue}
use Rattle.std.specs.Prelude.{unwrap_or, option_map, is_none, if◌then◌else◌}
use Rattle.std.proofs.lemmas.Bool.{ltb-true, ltb-false, eqb-false, or_parts, true≢false, false≢true}
use Rattle.pw_planes.specs.declared.plane.TheConstants.{MAX_WIDTH, MAX_HEIGHT}
use Rattle.pw_planes.specs.declared.kinds.Interlace.{Interlace}
use Rattle.pw_planes.specs.declared.kinds.Interlace.TheVariants.{Progressive}
use Rattle.pic_y4m.specs.declared.head.Head.{Head}
use Rattle.pic_y4m.specs.HeadLine.{IsHead, is_interlaced}
use Rattle.rescue_run.specs.Rescuing.{IsRate}
use Rattle.workshop.specs.declared.options.Rate.{Rate}
use Rattle.workshop.specs.declared.options.Values.{Values}
use Rattle.workshop.specs.declared.words.Command.{Command}
use Rattle.workshop.specs.declared.words.Command.TheVariants as command
use Rattle.workshop.specs.declared.words.Task.TheVariants as task
use Rattle.workshop.specs.Options.{AreValues, IsRawForm, rate_of}
use Rattle.workshop.specs.Words.{IsTask, task_of, clash, lacks_option, with_mode, has_odd_form, usual_rate}

-- facts of a value and of its default
given : (P : ℕ → Type 0) (o : Option ℕ) (n : ℕ) → P n → IfSome o P → P (unwrap_or o n)
given P None n absent h = absent
given P (Some m) n absent h = h

needed : (o : Option ℕ) → is_none o ≡ false → IfSome o (λ n. (1 ≤ n) × (n < 2 ^ 31)) → 1 ≤ unwrap_or o 0
needed None e h = absurd (true≢false e)
needed (Some m) e h = h.0

untrue : (b : Bool) → not b ≡ false → b ≡ true
untrue true e = refl
untrue false e = absurd (true≢false e)

halved : (b : Bool) (n : ℕ) → (b && (n % 2 == 1)) ≡ false → IsTrue b → n % 2 ≡ 0
halved true n e t = let no = eqb-false (n % 2) 1 e in omega (arith, no)
halved false n e t = absurd (false≢true t)

even : (h : Head) (mode : Interlace) → has_odd_form (Some (with_mode mode h)) ≡ false → IsTrue (is_interlaced mode) → h.height % 2 ≡ 0
even h mode e t = halved (is_interlaced mode) h.height e t

moded : (o : Option Head) (mode : Interlace) → has_odd_form (option_map (with_mode mode) o) ≡ false → IfSome o IsRawForm → IfSome (option_map (with_mode mode) o) IsHead
moded None mode e h = tt
moded (Some f) mode e h = record {
  some_columns = h.0.some_columns;
  columns = h.0.columns;
  some_rows = h.0.some_rows;
  rows = h.0.rows;
  fields = even f mode e;
  some_num = h.0.some_num;
  num = h.0.num;
  some_den = h.0.some_den;
  den = h.0.den;
}

rated : (o : Option Rate) → IfSome o (λ r. IsRate (rate_of r)) → IsRate (rate_of (unwrap_or o usual_rate))
rated None absent = record { some_num = omega arith; num = omega arith; some_den = omega arith; den = omega arith }
rated (Some r) h = h

checked : (all : Bool) → IsTask (if all then task.CheckAll else task.Check)
checked true = tt
checked false = tt

pub task_allowed : (c : Command) (n : ℕ) (v : Values) → AreValues v → lacks_option c v ≡ false → clash c v ≡ false → IsTask (task_of c n v)
task_allowed command.Plan n v a l e = tt
task_allowed command.List n v a l e = tt
task_allowed command.Check n v a l e = checked (n == 3)
task_allowed command.Reproof n v a l e = tt
task_allowed command.Decode n v a l e = tt
task_allowed command.Rescue n v a l e = rated v.rate a.rate
task_allowed command.AddSound n v a l e = tt
task_allowed command.Sound n v a l e = tt
task_allowed command.Least n v a l e = tt
task_allowed command.CheckLeast n v a l e = tt
task_allowed command.Curve n v a l e = tt
task_allowed command.Synth n v a l e = record {
  some_columns = (given (λ n. (1 ≤ n) × (n ≤ MAX_WIDTH)) v.width 1 (omega arith, omega arith) a.width).0;
  columns = (given (λ n. (1 ≤ n) × (n ≤ MAX_WIDTH)) v.width 1 (omega arith, omega arith) a.width).1;
  some_rows = (given (λ n. (1 ≤ n) × (n ≤ MAX_HEIGHT)) v.height 1 (omega arith, omega arith) a.height).0;
  rows = (given (λ n. (1 ≤ n) × (n ≤ MAX_HEIGHT)) v.height 1 (omega arith, omega arith) a.height).1;
  some_frames = (given (λ n. (1 ≤ n) × (n ≤ 100)) v.frames 1 (omega arith, omega arith) a.frames).0;
  frames = (given (λ n. (1 ≤ n) × (n ≤ 100)) v.frames 1 (omega arith, omega arith) a.frames).1;
  some_budget = (given (λ n. (1 ≤ n) × (n < 2 ^ 31)) v.budget 1 (omega arith, omega arith) a.budget).0;
  budget = (given (λ n. (1 ≤ n) × (n < 2 ^ 31)) v.budget 1 (omega arith, omega arith) a.budget).1;
}
task_allowed command.Encode n v a l e =
    let three = or_parts _ _ e in
    let two = or_parts _ _ three.0 in
    let one = or_parts _ _ two.0 in
    record {
      some_budget = needed v.budget l a.budget;
      least = (given (λ n. (1 ≤ n) × (n ≤ 224)) v.lo 1 (omega arith, omega arith) a.lo).0;
      order = ltb-false _ _ one.0;
      most = (given (λ n. (1 ≤ n) × (n ≤ 224)) v.hi 31 (omega arith, omega arith) a.hi).1;
      log2 = given (λ n. n ≤ 3) v.log2 3 (omega arith) a.log2;
      raw = moded v.raw (unwrap_or v.interlace Progressive) two.1 a.raw;
      some_group = (given (λ n. (1 ≤ n) × (n ≤ 8)) v.group 1 (omega arith, omega arith) a.group).0;
      small_group = (given (λ n. (1 ≤ n) × (n ≤ 8)) v.group 1 (omega arith, omega arith) a.group).1;
      budget = ltb-true _ _ (untrue _ three.1);
      format = given (λ n. (1 ≤ n) × (n ≤ 2)) v.proof 2 (omega arith, omega arith) a.proof;
    }
