-- The range of the named weights.
use Rattle.std.proofs.Common.{◌≡◌, ℕ, true, List, refl, leb, leb-true}
use Rattle.std.specs.List.{All, list_all}
use Rattle.std.proofs.lemmas.List.Sums.{AllPass-from_list_all}
use Rattle.pr_quant.specs.declared.weights.Matrix.TheVariants.{Flat, Steep}
use Rattle.pr_quant.specs.Matrices.{IsWeight, weights_of, NamedWeightsAreInRange}

pub in_range : (xs : List ℕ) → list_all (λ w. leb 2 w) xs ≡ true → list_all (λ w. leb w 63) xs ≡ true → All IsWeight xs
in_range xs low high k d l =
    (leb-true _ _ (AllPass-from_list_all (λ w. leb 2 w) xs low k d l), leb-true _ _ (AllPass-from_list_all (λ w. leb w 63) xs high k d l))

pub named_in_range : NamedWeightsAreInRange
named_in_range Flat = in_range (weights_of Flat) refl refl
named_in_range Steep = in_range (weights_of Steep) refl refl
