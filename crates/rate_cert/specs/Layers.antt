-- The layers of a record, in both formats: format 1 stores each number in its own bytes, format 2 stores the
-- differences within a layer. Our own formats.
use Rattle.std.specs.Prelude.{ℕ, zero, suc, ◌+◌, ◌-◌, ◌^◌, ◌==◌, nat_le, nat_lt, if◌then◌else◌, List, [], ◌∷◌, ◌++◌, length, Ok}
use Rattle.std.specs.Int.{w32, w64, to_be_bytes}
use Rattle.std.specs.List.{flat_map}
use Rattle.pw_outside.specs.Reading.{Rest, Read, ◌>>=◌, refuse, number_at}
use Rattle.rate_table.specs.declared.entry.Pair.{Pair}
use Rattle.rate_table.specs.declared.fault.ProofKind.{ProofKind}
use Rattle.rate_table.specs.declared.fault.ProofKind.TheVariants.{ProofShape, ProofShort}
use Rattle.rate_cert.specs.Numbers.{number_bytes, short_at}

-- the largest number of pairs of a record
abbrev pub most_pairs : ℕ
most_pairs = 33554432

-- ---- writing

unfoldable pub pair_bytes : Pair → List ℕ
pair_bytes p = to_be_bytes w32 p.size ++ to_be_bytes w64 p.error

unfoldable pub wide_bytes : List Pair → List ℕ
wide_bytes layer = to_be_bytes w32 (length layer) ++ flat_map pair_bytes layer

-- the pairs after `before`: how much each size rises and each error falls, less 1
unfoldable pub steps_bytes : Pair → List Pair → List ℕ
steps_bytes before [] = []
steps_bytes before (p ∷ ps) = number_bytes (p.size - (before.size + 1)) ++ (number_bytes (before.error - (p.error + 1)) ++ steps_bytes p ps)

unfoldable pub close_pairs_bytes : List Pair → List ℕ
close_pairs_bytes [] = []
close_pairs_bytes (p ∷ ps) = number_bytes p.size ++ (number_bytes p.error ++ steps_bytes p ps)

unfoldable pub close_bytes : List Pair → List ℕ
close_bytes layer = number_bytes (length layer) ++ close_pairs_bytes layer

-- a layer in format 1 or 2
unfoldable pub layer_bytes : ℕ → List Pair → List ℕ
layer_bytes format layer = if format == 1 then wide_bytes layer else close_bytes layer

-- ---- reading

unfoldable pub pair_at : Rest → Read ProofKind Pair
pair_at s = do
  size ← number_at ProofShort w32 s
  error ← number_at ProofShort w64 size.1
  Ok (record { size = size.0; error = error.0 }, error.1)

unfoldable pub pairs_at : ℕ → Rest → Read ProofKind (List Pair)
pairs_at zero s = Ok ([], s)
pairs_at (suc n) s = do
  first ← pair_at s
  others ← pairs_at n first.1
  Ok (first.0 ∷ others.0, others.1)

-- a layer after `held` pairs of its record
unfoldable pub wide_at : ℕ → Rest → Read ProofKind (List Pair)
wide_at held s = do
  count ← number_at ProofShort w32 s
  _ ← refuse (nat_lt most_pairs (held + count.0)) ProofShape s.place
  pairs_at count.0 count.1

-- the pair after `before`: its size is at most 2 ^ 32 - 1, and its error at least 0
unfoldable pub step_at : Pair → Rest → Read ProofKind Pair
step_at before s = do
  size ← short_at s
  _ ← refuse (nat_le (2 ^ 32) (before.size + 1 + size.0)) ProofShape s.place
  error ← short_at size.1
  _ ← refuse (nat_le before.error error.0) ProofShape size.1.place
  Ok (record { size = before.size + 1 + size.0; error = before.error - (error.0 + 1) }, error.1)

-- a pair and the n pairs after it
unfoldable pub run_at : ℕ → Pair → Rest → Read ProofKind (List Pair)
run_at zero p s = Ok (p ∷ [], s)
run_at (suc n) p s = do
  next ← step_at p s
  others ← run_at n next.0 next.1
  Ok (p ∷ others.0, others.1)

unfoldable pub first_at : Rest → Read ProofKind Pair
first_at s = do
  size ← short_at s
  _ ← refuse (nat_le (2 ^ 32) size.0) ProofShape s.place
  error ← short_at size.1
  Ok (record { size = size.0; error = error.0 }, error.1)

unfoldable pub close_pairs_at : ℕ → Rest → Read ProofKind (List Pair)
close_pairs_at zero s = Ok ([], s)
close_pairs_at (suc n) s = first_at s >>= λ first. run_at n first.0 first.1

unfoldable pub close_at : ℕ → Rest → Read ProofKind (List Pair)
close_at held s = do
  count ← short_at s
  _ ← refuse (nat_lt most_pairs (held + count.0)) ProofShape s.place
  close_pairs_at count.0 count.1

unfoldable pub layer_at : ℕ → ℕ → Rest → Read ProofKind (List Pair)
layer_at format held s = if format == 1 then wide_at held s else close_at held s

-- n layers, after `held` pairs
unfoldable pub layers_at : ℕ → ℕ → ℕ → Rest → Read ProofKind (List (List Pair))
layers_at format zero held s = Ok ([], s)
layers_at format (suc n) held s = do
  first ← layer_at format held s
  others ← layers_at format n (held + length first.0) first.1
  Ok (first.0 ∷ others.0, others.1)
