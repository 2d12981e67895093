-- The minimum and the maximum luma, and the minimum and the maximum quantisation index, of all pictures. Our own
-- texts.
use Rattle.std.specs.Prelude.{ℕ, List, ◌∷◌, ◌++◌, map, Option, Some, None, min, max, codes}
use Rattle.std.specs.Fmt.{decimal}
use Rattle.std.specs.List.{reduce}
use Rattle.monitors.specs.declared.facts.PictureFacts.{PictureFacts}
use Rattle.monitors.specs.declared.extremes.Extremes.{Extremes}
use Rattle.monitors.specs.States.{State}

-- the line of the extremes of some numbers, or of no numbers
unfoldable pub extremes_line : List ℕ → Option ℕ → Option ℕ → List ℕ
extremes_line words (Some least) (Some greatest) = words ++ codes " " ++ decimal least ++ codes " " ++ decimal greatest ++ codes "\n"
extremes_line words (Some least) None = words ++ codes " none\n"
extremes_line words None greatest = words ++ codes " none\n"

-- the report of pictures with a minimum and a maximum each
abbrev pub extremes_text : List ℕ → (PictureFacts → ℕ) → (PictureFacts → ℕ) → State
extremes_text words least greatest = λ facts. extremes_line words (reduce min (map least facts)) (reduce max (map greatest facts))

abbrev pub levels_text : State
levels_text = extremes_text (codes "levels") (λ f. f.least_luma) (λ f. f.greatest_luma)

abbrev pub indices_text : State
indices_text = extremes_text (codes "indices") (λ f. f.least_index) (λ f. f.greatest_index)

-- the state after pictures with this minimum and this maximum
abbrev pub extremes_state : List ℕ → (PictureFacts → ℕ) → (PictureFacts → ℕ) → Option Extremes → State
extremes_state words least greatest None = extremes_text words least greatest
extremes_state words least greatest (Some e) = λ facts. extremes_line words (reduce min (e.least ∷ map least facts)) (reduce max (e.greatest ∷ map greatest facts))

abbrev pub levels_state : Option Extremes → State
levels_state = extremes_state (codes "levels") (λ f. f.least_luma) (λ f. f.greatest_luma)

abbrev pub indices_state : Option Extremes → State
indices_state = extremes_state (codes "indices") (λ f. f.least_index) (λ f. f.greatest_index)

-- the extremes so far, combined with others
abbrev pub joined : Option Extremes → Extremes → Extremes
joined None more = more
joined (Some e) more = record { least = min e.least more.least; greatest = max e.greatest more.greatest }
