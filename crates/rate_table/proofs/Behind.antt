-- One entry more after the entries of a slice.
use Rattle.std.proofs.Common.{◌≡◌, ◌+◌, ◌<◌, ◌≤◌, List, [], ◌∷◌, ◌++◌, length, refl, arith, length-append}
use Rattle.std.specs.List.{All}
use Rattle.std.proofs.lemmas.List.Elements.{All-head, All-tail, All-push}
use Rattle.rate_table.specs.declared.entry.Entry.{Entry}
use Rattle.rate_table.specs.Table.{IsEntry, IndicesRise, IsSliceTable}
use Rattle.rate_table.specs.Body.{last_index}

-- indices that rise from the first to the last are no more than the numbers between them
rise-room : (x : Entry) (xs : List Entry) → IndicesRise (x ∷ xs) → x.index + length xs ≤ last_index (x ∷ xs)
rise-room x [] h = omega arith
rise-room x (y ∷ xs) h = let more = rise-room y xs h.1 in let first = h.0 in omega arith

last-within : (x : Entry) (xs : List Entry) → All IsEntry (x ∷ xs) → last_index (x ∷ xs) ≤ 224
last-within x [] h = (All-head IsEntry x [] h).index_to
last-within x (y ∷ xs) h = last-within y xs (All-tail IsEntry x (y ∷ xs) h)

-- a slice has at most 224 entries
pub few-entries : (entries : List Entry) → IsSliceTable entries → length entries ≤ 224
few-entries [] h = omega arith
few-entries (x ∷ xs) h =
    let room = rise-room x xs h.rises in
    let first = (All-head IsEntry x xs h.limits).index_from in
    let to = last-within x xs h.limits in
    omega arith

-- below an index up to 224 there are at most 223 entries
pub few-below : (entries : List Entry) (e : Entry) → IsSliceTable entries → IsEntry e → last_index entries < e.index → length entries < 224
few-below [] e h k below = omega arith
few-below (x ∷ xs) e h k below =
    let room = rise-room x xs h.rises in
    let first = (All-head IsEntry x xs h.limits).index_from in
    let to = k.index_to in
    omega arith

pub rise-behind : (entries : List Entry) (e : Entry) → IndicesRise entries → last_index entries < e.index → IndicesRise (entries ++ e ∷ [])
rise-behind [] e h below = tt
rise-behind (x ∷ []) e h below = (below, tt)
rise-behind (x ∷ y ∷ xs) e h below = (h.0, rise-behind (y ∷ xs) e h.1 below)

-- the index of the last entry is that of the appended one
pub last_index-behind : (entries : List Entry) (e : Entry) → last_index (entries ++ e ∷ []) ≡ e.index
last_index-behind [] e = refl
last_index-behind (x ∷ []) e = refl
last_index-behind (x ∷ y ∷ xs) e = last_index-behind (y ∷ xs) e

pub slice-behind : (entries : List Entry) (e : Entry) → IsSliceTable entries → IsEntry e → last_index entries < e.index → IsSliceTable (entries ++ e ∷ [])
slice-behind entries e h k below = record {
  some = omega (arith, length-append entries (e ∷ []));
  rises = rise-behind entries e h.rises below;
  limits = All-push IsEntry entries e h.limits k;
}
