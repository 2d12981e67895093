-- When a run of `encode` is complete. Our own definitions.
use Rattle.std.specs.Prelude.{◌≡◌, ℕ, ◌<◌, ◌⊎◌, true, None, Result, Ok, Err}
use Rattle.pw_outside.specs.Reading.{Fault}
use Rattle.pic_y4m.specs.declared.head.Head.{Head}
use Rattle.pic_y4m.specs.declared.fault.PictureKind.{PictureKind}
use Rattle.pic_y4m.specs.Frames.{Pictures}
use Rattle.rate_table.specs.Table.{HasNoFit}
use Rattle.rate_layers.specs.Best.{PassesByPicks}
use Rattle.run_encode.specs.declared.job.Job.{Job}
use Rattle.run_encode.specs.declared.job.EncodeWords.{EncodeWords}
use Rattle.run_encode.specs.declared.end.EncodeEnd.{EncodeEnd}
use Rattle.run_encode.specs.declared.end.EncodeEnd.TheVariants as ends
use Rattle.rate_build.specs.Groups.{group_at}
use Rattle.run_encode.specs.Groups.{IsJobOf, has_layout, group_count, table_in}

-- Each group has a fitting choice, and its Pareto frontiers, bounded by the error of the Lagrangian minimisers,
-- have at most 2^25 pairs.
abbrev pub EachFits : Job → Pictures → Type 0
EachFits j ps = (k : ℕ) → k < group_count j.group ps
    → (HasNoFit (table_in j (group_at j.group ps.pictures k)) → ⊥) × (PassesByPicks (table_in j (group_at j.group ps.pictures k)) → ⊥)

-- Pictures without an error, with a layout, and with a fitting choice for each group are encoded, unless memory
-- runs out.
abbrev pub CompletesEncode : EncodeWords → Result (Head × Pictures) (Fault PictureKind) → EncodeEnd → Type 0
CompletesEncode w (Err f) end = Unit {0}
CompletesEncode w (Ok (head, ps)) end = has_layout w head ≡ true → ps.fault ≡ None → ((j : Job) → IsJobOf w head j → EachFits j ps)
    → (end ≡ ends.Done) ⊎ (end ≡ ends.NoMemory)
