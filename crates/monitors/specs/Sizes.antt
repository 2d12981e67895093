-- The sizes of all samples. Our own text.
use Rattle.std.specs.Prelude.{ℕ, ◌+◌, List, ◌++◌, map, min, max, codes}
use Rattle.std.specs.Fmt.{decimal}
use Rattle.std.specs.List.{fold, sum}
use Rattle.pw_outside.specs.Ports.{last}
use Rattle.monitors.specs.declared.facts.PictureFacts.{PictureFacts}
use Rattle.monitors.specs.States.{State}

abbrev pub sizes : List PictureFacts → List ℕ
sizes facts = map (λ f. f.bytes) facts

-- the line of a sum and a maximum
unfoldable pub bytes_line : ℕ → ℕ → List ℕ
bytes_line total greatest = codes "bytes " ++ decimal total ++ codes " " ++ decimal greatest ++ codes "\n"

-- the report of these pictures: the saturating sum and the maximum of their sizes, 0 without pictures
abbrev pub bytes_text : State
bytes_text facts = bytes_line (min (sum (sizes facts)) last) (fold max 0 (sizes facts))

-- the state after pictures with this sum and this maximum size
abbrev pub bytes_state : ℕ → ℕ → State
bytes_state total greatest = λ facts. bytes_line (min (total + sum (sizes facts)) last) (fold max greatest (sizes facts))
