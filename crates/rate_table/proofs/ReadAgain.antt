-- The body that is written for a table is read as that table, and the indices of a choice as those indices.
use Rattle.std.proofs.Common.{◌≡◌, ℕ, ◌+◌, ◌^◌, ◌<◌, List, [], ◌∷◌, ◌++◌, length, Ok, ap, ◌∙◌, arith, length-append, append_assoc}
use Rattle.std.specs.Int.{w16, w32, w64, to_be_bytes}
use Rattle.std.specs.List.{flat_map, All}
use Rattle.std.proofs.lemmas.List.Concat.{flat_map-cons}
use Rattle.std.proofs.lemmas.List.Elements.{All-head, All-tail}
use Rattle.std.proofs.lemmas.Bool.{le-ltb, lt-leb, ne_eqb}
use Rattle.pw_outside.specs.Reading.{Rest}
use Rattle.pw_outside.proofs.Steps.{bind-step, refuse-step, found, same_rest}
use Rattle.rate_table.specs.declared.entry.Entry.{Entry}
use Rattle.rate_table.specs.declared.fault.ProofKind.TheVariants.{TableShort, ProofShort}
use Rattle.rate_table.specs.declared.table.TheConstants.{MAX_TABLE_SLICES}
use Rattle.rate_table.specs.Table.{IsEntry, IndicesRise, IsSliceTable}
use Rattle.rate_table.specs.Reading.{entry_at, entries_at, slice_at, slices_at, body_at}
use Rattle.rate_table.specs.Body.{entry_bytes, slice_bytes, body_bytes, BodyIsReadAgain}
use Rattle.rate_table.specs.Nested.{indices_at}
use Rattle.rate_table.proofs.Here.{byte-here, two-here, four-here, eight-here}
use Rattle.rate_table.proofs.Behind.{few-entries}
use Rattle.rate_table.proofs.Entries.{rest_rises}

-- ---- steps

at : ℕ → List ℕ → Rest
at place bytes = record { place = place; bytes = bytes }

-- ---- entries

entry-again : (e : Entry) (low place : ℕ) (behind : List ℕ) → IsEntry e → low < e.index
    → entry_at low (record { place = place; bytes = entry_bytes e ++ behind }) ≡ Ok (e, record { place = place + 11; bytes = behind })
unfolding entry_at
entry-again e low place behind is above =
    bind-step _ _ (byte-here TableShort e.index place ((to_be_bytes w16 e.size ++ to_be_bytes w64 e.error) ++ behind))
    ∙ refuse-step _ _ _ _ (ne_eqb e.index 0 (λ z. omega (arith, is.index_from)))
    ∙ refuse-step _ _ _ _ (le-ltb 224 e.index is.index_to)
    ∙ refuse-step _ _ _ _ (lt-leb e.index low above)
    ∙ bind-step _ _ (two-here TableShort e.size (place + 1) (to_be_bytes w64 e.error ++ behind) is.size)
    ∙ bind-step _ _ (eight-here TableShort e.error (place + 1 + 2) behind (omega (arith, is.error)))
    ∙ refuse-step _ _ _ _ (lt-leb (2 ^ 43) e.error is.error)
    ∙ same_rest e _ _ behind (omega arith)

-- the first index is above this one
abbrev StartsAbove : ℕ → List Entry → Type 0
StartsAbove low [] = Unit {0}
StartsAbove low (x ∷ xs) = low < x.index

next-above : (x : Entry) (xs : List Entry) → IndicesRise (x ∷ xs) → StartsAbove x.index xs
next-above x [] h = tt
next-above x (y ∷ xs) h = h.0

from-one : (xs : List Entry) → All IsEntry xs → StartsAbove 0 xs
from-one [] h = tt
from-one (x ∷ xs) h = (All-head IsEntry x xs h).index_from

entries-again : (entries : List Entry) (low place : ℕ) (behind : List ℕ) → All IsEntry entries → IndicesRise entries → StartsAbove low entries
    → entries_at (length entries) low (record { place = place; bytes = flat_map entry_bytes entries ++ behind })
    ≡ Ok (entries, record { place = place + length (flat_map entry_bytes entries); bytes = behind })
unfolding entries_at
entries-again [] low place behind are rises above = same_rest [] _ _ behind (omega arith)
entries-again (x ∷ xs) low place behind are rises above =
    let split : flat_map entry_bytes (x ∷ xs) ++ behind ≡ entry_bytes x ++ (flat_map entry_bytes xs ++ behind) =
    ap (λ l. l ++ behind) (flat_map-cons entry_bytes x xs) ∙ append_assoc (entry_bytes x) (flat_map entry_bytes xs) behind in
    let long : place + 11 + length (flat_map entry_bytes xs) ≡ place + length (flat_map entry_bytes (x ∷ xs)) =
    omega (arith, ap length (flat_map-cons entry_bytes x xs), length-append (entry_bytes x) (flat_map entry_bytes xs)) in
    ap (λ l. entries_at (length (x ∷ xs)) low (record { place = place; bytes = l })) split
    ∙ bind-step _ _ (entry-again x low place (flat_map entry_bytes xs ++ behind) (All-head IsEntry x xs are) above)
    ∙ bind-step _ _ (entries-again xs x.index (place + 11) behind (All-tail IsEntry x xs are) (rest_rises x xs rises) (next-above x xs rises))
    ∙ same_rest (x ∷ xs) _ _ behind long

-- ---- slices

slice-again : (slice : List Entry) (place : ℕ) (behind : List ℕ) → IsSliceTable slice
    → slice_at (record { place = place; bytes = slice_bytes slice ++ behind }) ≡ Ok (slice, record { place = place + length (slice_bytes slice); bytes = behind })
unfolding slice_at
slice-again slice place behind is =
    bind-step _ _ (byte-here TableShort (length slice) place (flat_map entry_bytes slice ++ behind))
    ∙ refuse-step _ _ _ _ (ne_eqb (length slice) 0 (λ z. omega (arith, is.some)))
    ∙ refuse-step _ _ _ _ (le-ltb 224 (length slice) (few-entries slice is))
    ∙ entries-again slice 0 (place + 1) behind is.limits is.rises (from-one slice is.limits)
    ∙ same_rest slice _ _ behind (omega arith)

slices-again : (slices : List (List Entry)) (place : ℕ) (behind : List ℕ) → All IsSliceTable slices
    → slices_at (length slices) (record { place = place; bytes = flat_map slice_bytes slices ++ behind })
    ≡ Ok (slices, record { place = place + length (flat_map slice_bytes slices); bytes = behind })
unfolding slices_at
slices-again [] place behind are = same_rest [] _ _ behind (omega arith)
slices-again (x ∷ xs) place behind are =
    let split : flat_map slice_bytes (x ∷ xs) ++ behind ≡ slice_bytes x ++ (flat_map slice_bytes xs ++ behind) =
    ap (λ l. l ++ behind) (flat_map-cons slice_bytes x xs) ∙ append_assoc (slice_bytes x) (flat_map slice_bytes xs) behind in
    let long : place + length (slice_bytes x) + length (flat_map slice_bytes xs) ≡ place + length (flat_map slice_bytes (x ∷ xs)) =
    omega (arith, ap length (flat_map-cons slice_bytes x xs), length-append (slice_bytes x) (flat_map slice_bytes xs)) in
    ap (λ l. slices_at (length (x ∷ xs)) (record { place = place; bytes = l })) split
    ∙ bind-step _ _ (slice-again x place (flat_map slice_bytes xs ++ behind) (All-head IsSliceTable x xs are))
    ∙ bind-step _ _ (slices-again xs (place + length (slice_bytes x)) behind (All-tail IsSliceTable x xs are))
    ∙ same_rest (x ∷ xs) _ _ behind long

-- ---- the body

pub body-again : BodyIsReadAgain
unfolding body_at body_bytes
body-again t place behind is =
    let slices = flat_map slice_bytes t.slices in
    bind-step _ _ (four-here TableShort t.budget place (to_be_bytes w32 t.fixed ++ (to_be_bytes w32 (length t.slices) ++ (slices ++ behind))) (omega (arith, is.budget_limit)))
    ∙ refuse-step _ _ _ _ (ne_eqb t.budget 0 (λ z. omega (arith, is.some_budget)))
    ∙ refuse-step _ _ _ _ (lt-leb (2 ^ 31) t.budget is.budget_limit)
    ∙ bind-step _ _ (four-here TableShort t.fixed (place + 4) (to_be_bytes w32 (length t.slices) ++ (slices ++ behind)) (omega (arith, is.fixed_limit)))
    ∙ refuse-step _ _ _ _ (lt-leb (2 ^ 31) t.fixed is.fixed_limit)
    ∙ bind-step _ _ (four-here TableShort (length t.slices) (place + 4 + 4) (slices ++ behind) (omega (arith, is.few)))
    ∙ refuse-step _ _ _ _ (ne_eqb (length t.slices) 0 (λ z. omega (arith, is.some)))
    ∙ refuse-step _ _ _ _ (le-ltb MAX_TABLE_SLICES (length t.slices) is.few)
    ∙ bind-step _ _ (slices-again t.slices (place + 4 + 4 + 4) behind is.each)
    ∙ same_rest t _ _ behind (omega arith)

-- ---- the indices of a choice

pub indices-again : (choice : List ℕ) (place : ℕ) (behind : List ℕ)
    → indices_at (length choice) (record { place = place; bytes = choice ++ behind }) ≡ found choice (place + length choice) behind
unfolding indices_at
indices-again [] place behind = same_rest [] _ _ behind (omega arith)
indices-again (x ∷ xs) place behind =
    bind-step _ _ (byte-here ProofShort x place (xs ++ behind))
    ∙ bind-step _ _ (indices-again xs (place + 1) behind)
    ∙ same_rest (x ∷ xs) _ _ behind (omega arith)
