-- A sample lies in its file, or outside it.
use Rattle.std.proofs.Common.{◌≡◌, refl, ℕ, ◌+◌, ◌≤◌, List, arith, length, Bool, true, false}
use Rattle.std.proofs.lemmas.Bool.Decides.{nat_tests}
use Rattle.std.specs.Prelude.{Option, Some, Ok, Err, IfSome, nat_lt}
use Rattle.pw_outside.specs.Reading.{refuse, bad, bind}
use Rattle.pw_outside.proofs.Results.{err_not_ok, at_some}
use Rattle.qt_tables.specs.declared.fault.MovieKind.{MovieKind}
use Rattle.qt_tables.specs.declared.fault.MovieKind.TheVariants.{SampleOutside}
use Rattle.qt_tables.specs.declared.runs.Sample.{Sample}
use Rattle.qt_movie.specs.Movie.{span_in}

inside_by : (b : Bool) (kind : MovieKind) (place : ℕ) (x y : ℕ × ℕ) → bind (refuse b kind place) (λ _. Ok x) ≡ Ok y → b ≡ false
unfolding bind
inside_by true kind place x y e = absurd (err_not_ok (Err (record { kind = kind; place = place })) (record { kind = kind; place = place }) y refl e)
inside_by false kind place x y e = refl

pub inside : (file : List ℕ) (s : Sample) (y : ℕ × ℕ) → span_in file s ≡ Ok y → s.at + s.size ≤ length file
unfolding span_in
inside file s y e =
    let h : nat_lt (length file) (s.at + s.size) ≡ false = inside_by (nat_lt (length file) (s.at + s.size)) SampleOutside s.at (s.at, s.at + s.size) y e in
    grind (arith, nat_tests)

pub inside_found : (file : List ℕ) (o : Option Sample) (s : Sample) (y : ℕ × ℕ) → o ≡ Some s → IfSome o (λ s. span_in file s ≡ Ok y) → s.at + s.size ≤ length file
inside_found file o s y e h = inside file s y (at_some (λ s. span_in file s ≡ Ok y) o s e h)

within_by : (b : Bool) (place : ℕ) (x : ℕ × ℕ) → b ≡ false → bind (refuse b SampleOutside place) (λ _. Ok x) ≡ Ok x
unfolding bind
within_by false place x e = refl
within_by true place x e = absurd (other e)
  where
    other : true ≡ false → ⊥
    other e = cc

pub within : (file : List ℕ) (s : Sample) → s.at + s.size ≤ length file → span_in file s ≡ Ok (s.at, s.at + s.size)
unfolding span_in
within file s le = within_by (nat_lt (length file) (s.at + s.size)) s.at (s.at, s.at + s.size) (grind (arith, nat_tests))

-- a sample that lies in the file isn't outside it
pub not_outside : (file : List ℕ) (s : Sample) (kind : MovieKind) (place : ℕ) → s.at + s.size ≤ length file → span_in file s ≡ bad kind place → ⊥
not_outside file s kind place le e = err_not_ok (span_in file s) (record { kind = kind; place = place }) (s.at, s.at + s.size) e (within file s le)
