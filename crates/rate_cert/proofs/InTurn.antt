-- Reading pairs and layers one by one, as a loop does.
use Rattle.std.proofs.Common.{◌≡◌, ℕ, suc, ◌-◌, ◌+◌, ◌≤◌, ◌<◌, List, [], ◌∷◌, ◌++◌, length, Ok, refl, sym, ap, ◌∙◌, subst, arith}
use Rattle.std.proofs.lemmas.List.{append-nil}
use Rattle.pw_outside.specs.Reading.{Rest, Read, bind, Fails}
use Rattle.pw_outside.proofs.Chains.{with_front, with_front-more, fails-whole}
use Rattle.rate_table.specs.declared.entry.Pair.{Pair}
use Rattle.rate_table.specs.declared.fault.TableFault.{TableFault}
use Rattle.rate_table.specs.declared.fault.ProofKind.{ProofKind}
use Rattle.rate_table.specs.Pairs.{RisesAndFalls}
use Rattle.rate_table.specs.Reading.{told_fault}
use Rattle.rate_cert.specs.Layers.{pair_at, pairs_at, step_at, run_at, layer_at, layers_at}

-- ---- format 1

pub pairs-more : (front : List Pair) (count i : ℕ) (s after : Rest) (p : Pair) (total : Read ProofKind (List Pair)) → i < count → pair_at s ≡ Ok (p, after)
    → with_front front (pairs_at (count - i) s) ≡ total → with_front (front ++ p ∷ []) (pairs_at (count - (i + 1)) after) ≡ total
unfolding pairs_at bind
pairs-more front count i s after p total lt h so_far =
    let k : count - i ≡ suc (count - (i + 1)) = omega arith in
    let one : with_front front (pairs_at (count - i) s) ≡ with_front (front ++ p ∷ []) (pairs_at (count - (i + 1)) after) = rw (k, h) (with_front-more front p (pairs_at (count - (i + 1)) after)) in
    sym one ∙ so_far

pub pairs-end : (fault : TableFault) (front : List Pair) (count i : ℕ) (s : Rest) (total : Read ProofKind (List Pair)) → i < count
    → Fails told_fault fault (pair_at s) → with_front front (pairs_at (count - i) s) ≡ total → Fails told_fault fault total
unfolding pairs_at bind
pairs-end fault front count i s total lt h so_far =
    let k : count - i ≡ suc (count - (i + 1)) = omega arith in
    fails-whole told_fault fault (pair_at s) total (λ f e. sym so_far ∙ rw (k, e) refl) h

pub pairs-all : (front : List Pair) (count i : ℕ) (s : Rest) (total : Read ProofKind (List Pair)) → count ≤ i → with_front front (pairs_at (count - i) s) ≡ total → total ≡ Ok (front, s)
unfolding pairs_at bind
pairs-all front count i s total le so_far =
    let k : count - i ≡ 0 = omega arith in
    let one : with_front front (pairs_at (count - i) s) ≡ Ok (front, s) = rw k (ap (λ (ns : List Pair). Ok (ns, s)) (append-nil front)) in
    sym so_far ∙ one

-- ---- format 2

pub run-more : (front : List Pair) (count i : ℕ) (last : Pair) (s after : Rest) (p : Pair) (total : Read ProofKind (List Pair)) → i < count → step_at last s ≡ Ok (p, after)
    → with_front front (run_at (count - i) last s) ≡ total → with_front (front ++ last ∷ []) (run_at (count - (i + 1)) p after) ≡ total
unfolding run_at bind
run-more front count i last s after p total lt h so_far =
    let k : count - i ≡ suc (count - (i + 1)) = omega arith in
    let one : with_front front (run_at (count - i) last s) ≡ with_front (front ++ last ∷ []) (run_at (count - (i + 1)) p after) = rw (k, h) (with_front-more front last (run_at (count - (i + 1)) p after)) in
    sym one ∙ so_far

pub run-end : (fault : TableFault) (front : List Pair) (count i : ℕ) (last : Pair) (s : Rest) (total : Read ProofKind (List Pair)) → i < count
    → Fails told_fault fault (step_at last s) → with_front front (run_at (count - i) last s) ≡ total → Fails told_fault fault total
unfolding run_at bind
run-end fault front count i last s total lt h so_far =
    let k : count - i ≡ suc (count - (i + 1)) = omega arith in
    fails-whole told_fault fault (step_at last s) total (λ f e. sym so_far ∙ rw (k, e) refl) h

pub run-all : (front : List Pair) (count i : ℕ) (last : Pair) (s : Rest) (total : Read ProofKind (List Pair)) → count ≤ i → with_front front (run_at (count - i) last s) ≡ total → total ≡ Ok (front ++ last ∷ [], s)
unfolding run_at bind
run-all front count i last s total le so_far =
    let k : count - i ≡ 0 = omega arith in
    let one : with_front front (run_at (count - i) last s) ≡ Ok (front ++ last ∷ [], s) = rw k refl in
    sym so_far ∙ one

-- sizes keep rising and errors falling after the last pair
pub rises-push : (front : List Pair) (last p : Pair) → RisesAndFalls (front ++ last ∷ []) → last.size < p.size → p.error < last.error → RisesAndFalls ((front ++ last ∷ []) ++ p ∷ [])
rises-push [] last p order rises falls = (rises, falls, tt)
rises-push (x ∷ []) last p order rises falls = (order.0, order.1, (rises, falls, tt))
rises-push (x ∷ y ∷ front) last p order rises falls = (order.0, order.1, rises-push (y ∷ front) last p order.2 rises falls)

-- ---- layers

pub layers-more : (format : ℕ) (front : List (List Pair)) (count i held held' : ℕ) (s after : Rest) (l : List Pair) (total : Read ProofKind (List (List Pair))) → i < count → held' ≡ held + length l
    → layer_at format held s ≡ Ok (l, after) → with_front front (layers_at format (count - i) held s) ≡ total
    → with_front (front ++ l ∷ []) (layers_at format (count - (i + 1)) held' after) ≡ total
unfolding layers_at bind
layers-more format front count i held held' s after l total lt e h so_far =
    let k : count - i ≡ suc (count - (i + 1)) = omega arith in
    let one : with_front front (layers_at format (count - i) held s) ≡ with_front (front ++ l ∷ []) (layers_at format (count - (i + 1)) (held + length l) after) =
    rw (k, h) (with_front-more front l (layers_at format (count - (i + 1)) (held + length l) after)) in
    subst (λ (n : ℕ). with_front (front ++ l ∷ []) (layers_at format (count - (i + 1)) n after) ≡ total) (sym e) (sym one ∙ so_far)

pub layers-end : (fault : TableFault) (format : ℕ) (front : List (List Pair)) (count i held : ℕ) (s : Rest) (total : Read ProofKind (List (List Pair))) → i < count
    → Fails told_fault fault (layer_at format held s) → with_front front (layers_at format (count - i) held s) ≡ total → Fails told_fault fault total
unfolding layers_at bind
layers-end fault format front count i held s total lt h so_far =
    let k : count - i ≡ suc (count - (i + 1)) = omega arith in
    fails-whole told_fault fault (layer_at format held s) total (λ f e. sym so_far ∙ rw (k, e) refl) h

pub layers-all : (format : ℕ) (front : List (List Pair)) (count i held : ℕ) (s : Rest) (total : Read ProofKind (List (List Pair))) → count ≤ i
    → with_front front (layers_at format (count - i) held s) ≡ total → total ≡ Ok (front, s)
unfolding layers_at bind
layers-all format front count i held s total le so_far =
    let k : count - i ≡ 0 = omega arith in
    let one : with_front front (layers_at format (count - i) held s) ≡ Ok (front, s) = rw k (ap (λ (ls : List (List Pair)). Ok (ls, s)) (append-nil front)) in
    sym so_far ∙ one
