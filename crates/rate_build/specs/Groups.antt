-- Groups of frames under one budget (our own).
use Rattle.std.specs.Prelude.{◌≡◌, ℕ, ◌*◌, ◌^◌, ◌<◌, ◌≤◌, List, [], ◌∷◌, length, map, take, drop}
use Rattle.std.specs.List.{All, sum_by}
use Rattle.rate_table.specs.declared.table.TheConstants.{MAX_TABLE_SLICES}
use Rattle.pr_quant.specs.declared.weights.Weights.{Weights}
use Rattle.pr_head.specs.declared.frame.FrameHeader.{FrameHeader}
use Rattle.pr_frame.specs.declared.coded.CodedFrame.{CodedFrame}
use Rattle.rate_table.specs.Table.{Table, IsTable, group_table}
use Rattle.rate_build.specs.Coefficients.{FrameCoefficients, AreOfLayout}
use Rattle.rate_build.specs.Coding.{coded_frame}
use Rattle.rate_build.specs.Tables.{table_of, AreWeights}
use Rattle.rate_build.specs.Laws.{AreMatrices}

-- group k of a list: `size` items from index size·k on, or what remains
abbrev pub group_at : {A : Type 0} → ℕ → List A → ℕ → List A
group_at size items k = take size (drop (size * k) items)

-- the table of the frames of a group, by the budget of a frame
abbrev pub table_of_frames : Weights → ℕ → ℕ → ℕ → List FrameCoefficients → Table
table_of_frames w lo hi budget cs = group_table (map (λ c. table_of c w lo hi budget) cs)

-- each item with its own part of a list, n items each
abbrev pub shares : {A X : Type 0} → ℕ → List X → List A → List (X × List A)
shares n [] things = []
shares n (x ∷ xs) things = (x, take n things) ∷ shares n xs (drop n things)

-- the frames of a group, each coded by its own part of the choice: as many indices as a frame has slices, n
abbrev pub coded_frames : FrameHeader → ℕ → List FrameCoefficients → List ℕ → List CodedFrame
coded_frames h n cs choice = map (λ share. coded_frame share.0 h share.1) (shares n cs choice)

-- the number of slices of the frames of a group
abbrev pub group_slices : List FrameCoefficients → ℕ
group_slices cs = sum_by (λ c. length c.slices) cs

-- the table of a group, whose budget is that of a frame for each of its frames, is within the limits of tables
abbrev pub GroupTableIsTable : Type 0
GroupTableIsTable = (cs : List FrameCoefficients) (w : Weights) (lo hi budget : ℕ) → All AreOfLayout cs → AreMatrices w → AreWeights w → 1 ≤ lo → lo ≤ hi → hi ≤ 224
    → 1 ≤ length cs → 1 ≤ budget → length cs * budget < 2 ^ 31 → group_slices cs ≤ MAX_TABLE_SLICES
    → ((table_of_frames w lo hi budget cs).budget ≡ length cs * budget) × IsTable (table_of_frames w lo hi budget cs)
