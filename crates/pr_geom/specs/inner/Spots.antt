-- A slice of a row by its number.
use Rattle.std.specs.Prelude.{ℕ, zero, suc, ◌+◌, ◌-◌, ◌*◌, ◌/◌, ◌%◌, ◌^◌, nat_lt, if◌then◌else◌}

-- where a slice of a row of macroblocks begins, and its width, without the slices before it
abbrev pub spot : ℕ → ℕ → ℕ → ℕ × ℕ
spot columns zero number = (number, 1)
spot columns (suc log2) number =
    let size = 2 ^ suc log2 in
    let full = columns / size in
    if nat_lt number full then (number * size, size)
    else (let rest = spot (columns % size) log2 (number - full) in (full * size + rest.0, rest.1))
