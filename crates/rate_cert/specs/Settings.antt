-- Valid settings of a proof (limits of our own).
use Rattle.std.specs.Prelude.{◌≡◌, ℕ, ◌*◌, ◌<◌, ◌≤◌, ◌^◌, length, None}
use Rattle.std.specs.List.{All}
use Rattle.pr_geom.specs.Faults.{first_fault, slice_count}
use Rattle.pr_geom.specs.Slices.{pictures_of}
use Rattle.pr_quant.specs.Matrices.{IsWeight}
use Rattle.rate_table.specs.declared.table.TheConstants.{MAX_TABLE_SLICES}
use Rattle.rate_cert.specs.declared.settings.Settings.{Settings}

-- the number of slices of a frame, in all its pictures
abbrev pub frame_slices : Settings → ℕ
frame_slices s = pictures_of s.interlace * slice_count s.width s.height s.log2 s.interlace

-- Valid settings of a proof.
pub record IsSettings (s : Settings) : Type 0 where
  pub form : s.form ≤ 2
  pub group_from : 1 ≤ s.group
  pub group_to : s.group ≤ 8
  pub products : s.form ≡ 2 → s.group ≡ 1
  pub size : s.log2 ≤ 3
  pub layout : first_fault s.width s.height s.log2 s.interlace ≡ None
  pub slices : s.group * frame_slices s ≤ MAX_TABLE_SLICES
  pub lo : 1 ≤ s.lo
  pub order : s.lo ≤ s.hi
  pub hi : s.hi ≤ 224
  pub num_from : 1 ≤ s.num
  pub num_to : s.num ≤ 1000000
  pub den_from : 1 ≤ s.den
  pub den_to : s.den ≤ 4000
  pub luma_count : length s.luma ≡ 64
  pub luma : All IsWeight s.luma
  pub chroma_count : length s.chroma_weights ≡ 64
  pub chroma_weights : All IsWeight s.chroma_weights
  pub some_budget : 1 ≤ s.budget
  pub budget : s.group * s.budget < 2 ^ 31
