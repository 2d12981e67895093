-- The runs of black pictures. Our own text.
use Rattle.std.specs.Prelude.{◌≡◌, ℕ, ◌≤◌, length, ◌+◌, ◌-◌, ◌^◌, Bool, true, false, not, ◌&&◌, List, [], ◌∷◌, ◌++◌, Option, Some, None, min, nat_le, codes, if◌then◌else◌}
use Rattle.std.specs.Fmt.{decimal}
use Rattle.std.specs.List.{flat_map, filter, prefix_len, sum_by}
use Rattle.pw_outside.specs.Ports.{last}
use Rattle.pw_planes.specs.declared.kinds.Depth.{Depth}
use Rattle.pw_planes.specs.Samples.{sample_bits}
use Rattle.monitors.specs.declared.facts.PictureFacts.{PictureFacts}
use Rattle.monitors.specs.declared.black.Run.{Run}
use Rattle.monitors.specs.States.{State}

-- the maximum luma of a black picture
abbrev pub black_limit : Depth → ℕ
black_limit depth = 2 ^ (sample_bits depth - 4)

abbrev pub is_black : PictureFacts → Bool
is_black f = nat_le f.greatest_luma (black_limit f.depth)

-- the run that begins at this picture: its length is the number of consecutive black pictures from here on
abbrev pub run_from : PictureFacts → List PictureFacts → Run
run_from f fs = record { first = f.number; count = min (prefix_len is_black (f ∷ fs)) last }

-- The runs that begin among these pictures: one at each black picture without a black one right before it. `black`
-- says whether the picture before the first is black.
abbrev pub runs_behind : Bool → List PictureFacts → List Run
runs_behind black [] = []
runs_behind black (f ∷ fs) = (if is_black f && not black then run_from f fs ∷ [] else []) ++ runs_behind (is_black f) fs

abbrev pub run_line : Run → List ℕ
run_line r = codes "black " ++ decimal r.first ++ codes " " ++ decimal r.count ++ codes "\n"

-- a line for each run
unfoldable pub black_lines : List Run → List ℕ
black_lines [] = codes "black none\n"
black_lines (r ∷ rs) = flat_map run_line (r ∷ rs)

-- the report of these pictures
abbrev pub black_text : State
black_text = λ facts. black_lines (runs_behind false facts)

-- the open run, and those that begin among these pictures
abbrev pub runs_on : Option Run → List PictureFacts → List Run
runs_on None facts = runs_behind false facts
runs_on (Some r) facts = record { first = r.first; count = min (r.count + prefix_len is_black facts) last } ∷ runs_behind true facts

-- the state with these finished runs and this open run
abbrev pub black_state : List Run → Option Run → State
black_state over going = λ facts. black_lines (over ++ runs_on going facts)

-- a run with one more picture
abbrev pub grown : Option Run → PictureFacts → Run
grown None f = record { first = f.number; count = 1 }
grown (Some r) f = record { first = r.first; count = min (r.count + 1) last }

-- the lengths of the runs add up to the number of black pictures
abbrev pub RunsHaveAllBlack : Type 0
RunsHaveAllBlack = (facts : List PictureFacts) → length facts ≤ last → sum_by (λ r. r.count) (runs_behind false facts) ≡ length (filter is_black facts)
