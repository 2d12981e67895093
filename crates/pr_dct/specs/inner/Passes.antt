-- One direction of a transform.
use Rattle.std.specs.Prelude.{ℕ, ◌≡◌, ◌/◌, ◌%◌, ◌<◌, List, map, get_or, ℤ, pos, ◌*ℤ◌}
use Rattle.std.specs.List.{range_with_len}
use Rattle.pr_dct.specs.Transform.{total, cosines, cell, at}

-- row p % 8 of a block times row p / 8 of a table
unfoldable pub row_sum : List (List ℤ) → List ℤ → ℕ → ℤ
row_sum table b p = total 8 (λ n. cell table (p / 8) n *ℤ at b (p % 8) n)

-- each row of a block times each row of a table: the sums of row y are in column y
abbrev pub row_sums : List (List ℤ) → List ℤ → List ℤ
row_sums table b = map (row_sum table b) (range_with_len 0 64)

-- the table of cosines with rows and columns exchanged
abbrev pub turned : List (List ℤ)
turned = map (λ k. map (λ n. cell cosines n k) (range_with_len 0 8)) (range_with_len 0 8)

-- the four numbers of a function at 0 to 3
abbrev pub AreHalves : List ℤ → (ℕ → ℤ) → Type 0
AreHalves halves f = (n : ℕ) → n < 4 → get_or halves n (pos 0) ≡ f n
