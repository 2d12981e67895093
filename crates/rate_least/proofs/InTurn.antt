-- Reading pairs and layers one by one, as a loop does.
use Rattle.std.proofs.Common.{◌≡◌, ℕ, suc, ◌-◌, ◌+◌, ◌≤◌, ◌<◌, List, [], ◌∷◌, ◌++◌, length, Ok, refl, sym, ap, ◌∙◌, subst, arith}
use Rattle.std.proofs.lemmas.List.{append-nil}
use Rattle.pw_outside.specs.Reading.{Rest, Read, bind, Fails}
use Rattle.pw_outside.proofs.Chains.{with_front, with_front-more, fails-whole}
use Rattle.rate_table.specs.declared.fault.TableFault.{TableFault}
use Rattle.rate_table.specs.declared.fault.ProofKind.{ProofKind}
use Rattle.rate_table.specs.Reading.{told_fault}
use Rattle.rate_least.specs.declared.outcome.WidePair.{WidePair}
use Rattle.rate_least.specs.Files.{pair_at, pairs_at, layer_at, layers_at}

pub pairs-more : (front : List WidePair) (count i : ℕ) (s after : Rest) (p : WidePair) (total : Read ProofKind (List WidePair)) → i < count → pair_at s ≡ Ok (p, after)
    → with_front front (pairs_at (count - i) s) ≡ total → with_front (front ++ p ∷ []) (pairs_at (count - (i + 1)) after) ≡ total
unfolding pairs_at bind
pairs-more front count i s after p total lt h so_far =
    let k : count - i ≡ suc (count - (i + 1)) = omega arith in
    let one : with_front front (pairs_at (count - i) s) ≡ with_front (front ++ p ∷ []) (pairs_at (count - (i + 1)) after) = rw (k, h) (with_front-more front p (pairs_at (count - (i + 1)) after)) in
    sym one ∙ so_far

pub pairs-end : (fault : TableFault) (front : List WidePair) (count i : ℕ) (s : Rest) (total : Read ProofKind (List WidePair)) → i < count
    → Fails told_fault fault (pair_at s) → with_front front (pairs_at (count - i) s) ≡ total → Fails told_fault fault total
unfolding pairs_at bind
pairs-end fault front count i s total lt h so_far =
    let k : count - i ≡ suc (count - (i + 1)) = omega arith in
    fails-whole told_fault fault (pair_at s) total (λ f e. sym so_far ∙ rw (k, e) refl) h

pub pairs-all : (front : List WidePair) (count i : ℕ) (s : Rest) (total : Read ProofKind (List WidePair)) → count ≤ i → with_front front (pairs_at (count - i) s) ≡ total → total ≡ Ok (front, s)
unfolding pairs_at bind
pairs-all front count i s total le so_far =
    let k : count - i ≡ 0 = omega arith in
    let one : with_front front (pairs_at (count - i) s) ≡ Ok (front, s) = rw k (ap (λ (ns : List WidePair). Ok (ns, s)) (append-nil front)) in
    sym so_far ∙ one

-- ---- layers

pub layers-more : (front : List (List WidePair)) (count i held held' : ℕ) (s after : Rest) (l : List WidePair) (total : Read ProofKind (List (List WidePair))) → i < count → held' ≡ held + length l
    → layer_at held s ≡ Ok (l, after) → with_front front (layers_at (count - i) held s) ≡ total
    → with_front (front ++ l ∷ []) (layers_at (count - (i + 1)) held' after) ≡ total
unfolding layers_at bind
layers-more front count i held held' s after l total lt e h so_far =
    let k : count - i ≡ suc (count - (i + 1)) = omega arith in
    let one : with_front front (layers_at (count - i) held s) ≡ with_front (front ++ l ∷ []) (layers_at (count - (i + 1)) (held + length l) after) =
    rw (k, h) (with_front-more front l (layers_at (count - (i + 1)) (held + length l) after)) in
    subst (λ (n : ℕ). with_front (front ++ l ∷ []) (layers_at (count - (i + 1)) n after) ≡ total) (sym e) (sym one ∙ so_far)

pub layers-end : (fault : TableFault) (front : List (List WidePair)) (count i held : ℕ) (s : Rest) (total : Read ProofKind (List (List WidePair))) → i < count
    → Fails told_fault fault (layer_at held s) → with_front front (layers_at (count - i) held s) ≡ total → Fails told_fault fault total
unfolding layers_at bind
layers-end fault front count i held s total lt h so_far =
    let k : count - i ≡ suc (count - (i + 1)) = omega arith in
    fails-whole told_fault fault (layer_at held s) total (λ f e. sym so_far ∙ rw (k, e) refl) h

pub layers-all : (front : List (List WidePair)) (count i held : ℕ) (s : Rest) (total : Read ProofKind (List (List WidePair))) → count ≤ i
    → with_front front (layers_at (count - i) held s) ≡ total → total ≡ Ok (front, s)
unfolding layers_at bind
layers-all front count i held s total le so_far =
    let k : count - i ≡ 0 = omega arith in
    let one : with_front front (layers_at (count - i) held s) ≡ Ok (front, s) = rw k (ap (λ (ls : List (List WidePair)). Ok (ls, s)) (append-nil front)) in
    sym so_far ∙ one
