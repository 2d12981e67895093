-- Writing a list item by item, as a loop does.
use Rattle.std.proofs.Common.{◌≡◌, ℕ, ◌+◌, ◌<◌, List, [], ◌∷◌, ◌++◌, length, take, drop, get_or, sym, ap, ◌∙◌, subst, append_assoc}
use Rattle.std.specs.Int.{w32, to_be_bytes}
use Rattle.std.specs.List.{flat_map}
use Rattle.std.proofs.lemmas.List.{take-append-drop, append-nil}
use Rattle.std.proofs.lemmas.List.Concat.{flat_map-append}
use Rattle.std.proofs.lemmas.Grind.{take_at_read}
use Rattle.pw_outside.specs.Writing.{SinkState, Puts, PutsFront}
use Rattle.rate_table.specs.declared.entry.Entry.{Entry}
use Rattle.rate_table.specs.Table.{Table}
use Rattle.rate_table.specs.Body.{entry_bytes, slice_bytes, body_bytes}
use Rattle.pw_outside.proofs.Puts.{puts_then, then_front, front_more}

module _ {X : Type 0} (f : X → List ℕ) (xs : List X) (i : ℕ) (d : X) (within : i < length xs) where
  -- one item more
  parts-next : flat_map f (take (i + 1) xs) ≡ flat_map f (take i xs) ++ f (get_or xs i d)
  parts-next = ap (flat_map f) (take_at_read xs i d within).1 ∙ flat_map-append f (take i xs) (get_or xs i d ∷ []) ∙ ap (λ l. flat_map f (take i xs) ++ l) (append-nil (f (get_or xs i d)))

  parts-all : flat_map f xs ≡ (flat_map f (take i xs) ++ f (get_or xs i d)) ++ flat_map f (drop (i + 1) xs)
  parts-all = ap (flat_map f) (sym (take-append-drop (i + 1) xs)) ∙ flat_map-append f (take (i + 1) xs) (drop (i + 1) xs) ∙ ap (λ l. l ++ flat_map f (drop (i + 1) xs)) parts-next

  pub parts-more : {a b c : SinkState} → Puts a b (flat_map f (take i xs)) → Puts b c (f (get_or xs i d)) → Puts a c (flat_map f (take (i + 1) xs))
  parts-more {a} {b} {c} p q = subst (Puts a c) (sym parts-next) (puts_then p q)

  pub parts-end : {a b c : SinkState} → Puts a b (flat_map f (take i xs)) → PutsFront b c (f (get_or xs i d)) → PutsFront a c (flat_map f xs)
  parts-end {a} {b} {c} p q = subst (PutsFront a c) (sym parts-all) (front_more (flat_map f (drop (i + 1) xs)) (then_front p q))

-- ---- a slice: the number of its entries, then the entries

pub slice-number : {a b : SinkState} (entries slice : List Entry) → entries ≡ slice → PutsFront a b (length entries ∷ []) → PutsFront a b (slice_bytes slice)
slice-number {a} {b} entries slice e p = subst (λ s. PutsFront a b (slice_bytes s)) e (front_more (flat_map entry_bytes entries) p)

pub slice-entries : {a b c : SinkState} (entries slice : List Entry) → entries ≡ slice → Puts a b (length entries ∷ []) → PutsFront b c (flat_map entry_bytes entries) → PutsFront a c (slice_bytes slice)
slice-entries {a} {b} {c} entries slice e p q = subst (λ s. PutsFront a c (slice_bytes s)) e (then_front p q)

-- ---- the body: its head, then the slices

start : Table → List ℕ
start t = to_be_bytes w32 t.budget ++ (to_be_bytes w32 t.fixed ++ to_be_bytes w32 (length t.slices))

body-parts : (t : Table) → start t ++ flat_map slice_bytes t.slices ≡ body_bytes t
unfolding start body_bytes
body-parts t =
    let slices = flat_map slice_bytes t.slices in
    append_assoc (to_be_bytes w32 t.budget) (to_be_bytes w32 t.fixed ++ to_be_bytes w32 (length t.slices)) slices
    ∙ ap (λ l. to_be_bytes w32 t.budget ++ l) (append_assoc (to_be_bytes w32 t.fixed) (to_be_bytes w32 (length t.slices)) slices)

module _ (t : Table) (slices : List (List Entry)) (same : slices ≡ t.slices) (piece : List ℕ)
    (is : piece ≡ to_be_bytes w32 t.budget ++ (to_be_bytes w32 t.fixed ++ to_be_bytes w32 (length slices))) where
  piece-start : piece ≡ start t
  unfolding start
  piece-start = is ∙ ap (λ (s : List (List Entry)). to_be_bytes w32 t.budget ++ (to_be_bytes w32 t.fixed ++ to_be_bytes w32 (length s))) same

  whole : piece ++ flat_map slice_bytes slices ≡ body_bytes t
  whole = ap (λ l. l ++ flat_map slice_bytes slices) piece-start ∙ ap (λ (s : List (List Entry)). start t ++ flat_map slice_bytes s) same ∙ body-parts t

  pub body-start : {a b : SinkState} → PutsFront a b piece → PutsFront a b (body_bytes t)
  body-start {a} {b} p = subst (PutsFront a b) whole (front_more (flat_map slice_bytes slices) p)

  pub body-slices : {a b c : SinkState} → Puts a b piece → Puts b c (flat_map slice_bytes slices) → Puts a c (body_bytes t)
  body-slices {a} {b} {c} p q = subst (Puts a c) whole (puts_then p q)

  pub body-front : {a b c : SinkState} → Puts a b piece → PutsFront b c (flat_map slice_bytes slices) → PutsFront a c (body_bytes t)
  body-front {a} {b} {c} p q = subst (PutsFront a c) whole (then_front p q)
