-- One item more of a list, as a loop makes them.
use Rattle.std.proofs.Common.{◌≡◌, ℕ, ◌+◌, ◌<◌, List, [], ◌∷◌, ◌++◌, length, take, get_or, sym, ap, ◌∙◌}
use Rattle.std.proofs.lemmas.Grind.{take_at_read}

module _ {A : Type 0} (xs : List A) (i : ℕ) (d x : A) (within : i < length xs) (is : x ≡ get_or xs i d) where
  pub take_more : take (i + 1) xs ≡ take i xs ++ x ∷ []
  take_more = (take_at_read xs i d within).1 ∙ ap (λ z. take i xs ++ z ∷ []) (sym is)
