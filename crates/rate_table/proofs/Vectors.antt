-- Vectors of a list, as lists.
use Rattle.std.proofs.Common.{◌≡◌, ℕ, ◌<◌, List, [], Vec, Global, map, length, get_or, sym, ap, ◌∙◌}
use Rattle.std.proofs.lemmas.List.{get_or-map}

abbrev pub items_of : {X : Type 0} → List (Vec X Global) → List (List X)
items_of {X} vs = map (λ (v : Vec X Global). v.items) vs

-- indexing, as an element of the list of lists
pub element : {X : Type 0} (vs : List (Vec X Global)) (k : ℕ) (v : Vec X Global) (xs : List X)
    → k < length vs → v ≡ get_or vs k v → xs ≡ v.items → xs ≡ get_or (items_of vs) k []
element {X} vs k v xs n is e =
    e ∙ ap (λ (w : Vec X Global). w.items) is ∙ sym (get_or-map (λ (w : Vec X Global). w.items) vs k v [] n)
