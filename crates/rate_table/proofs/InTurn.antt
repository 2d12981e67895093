-- Reading entries, slices or indices one by one, as a loop does.
use Rattle.std.proofs.Common.{◌≡◌, ℕ, suc, ◌-◌, ◌+◌, ◌≤◌, ◌<◌, List, [], ◌∷◌, ◌++◌, Ok, refl, sym, ap, ◌∙◌, arith}
use Rattle.std.proofs.lemmas.List.{append-nil}
use Rattle.rate_table.specs.declared.entry.Entry.{Entry}
use Rattle.rate_table.specs.declared.fault.TableFault.{TableFault}
use Rattle.std.specs.List.{All}
use Rattle.std.proofs.lemmas.List.Elements.{All-tail}
use Rattle.rate_table.specs.Table.{IndicesRise}
use Rattle.std.specs.Int.{w8}
use Rattle.pw_outside.specs.Reading.{Rest, Read, bind, Fails, number_at}
use Rattle.pw_outside.proofs.Chains.{with_front, with_front-more, fails-whole}
use Rattle.rate_table.specs.declared.fault.ProofKind.{ProofKind}
use Rattle.rate_table.specs.declared.fault.ProofKind.TheVariants.{ProofShort}
use Rattle.rate_table.specs.Reading.{told_fault, entry_at, entries_at, slice_at, slices_at}
use Rattle.rate_table.specs.Nested.{indices_at}

-- ---- entries

pub entries-more : (front : List Entry) (count i low : ℕ) (s after : Rest) (e : Entry) (total : Read ProofKind (List Entry)) → i < count → entry_at low s ≡ Ok (e, after)
    → with_front front (entries_at (count - i) low s) ≡ total → with_front (front ++ e ∷ []) (entries_at (count - (i + 1)) e.index after) ≡ total
unfolding entries_at bind
entries-more front count i low s after e total lt h so_far =
    let k : count - i ≡ suc (count - (i + 1)) = omega arith in
    let one : with_front front (entries_at (count - i) low s) ≡ with_front (front ++ e ∷ []) (entries_at (count - (i + 1)) e.index after) = rw (k, h) (with_front-more front e (entries_at (count - (i + 1)) e.index after)) in
    sym one ∙ so_far

pub entries-end : (fault : TableFault) (front : List Entry) (count i low : ℕ) (s : Rest) (total : Read ProofKind (List Entry)) → i < count
    → Fails told_fault fault (entry_at low s) → with_front front (entries_at (count - i) low s) ≡ total → Fails told_fault fault total
unfolding entries_at bind
entries-end fault front count i low s total lt h so_far =
    let k : count - i ≡ suc (count - (i + 1)) = omega arith in
    fails-whole told_fault fault (entry_at low s) total (λ f e. sym so_far ∙ rw (k, e) refl) h

pub entries-all : (front : List Entry) (count i low : ℕ) (s : Rest) (total : Read ProofKind (List Entry)) → count ≤ i → with_front front (entries_at (count - i) low s) ≡ total → total ≡ Ok (front, s)
unfolding entries_at bind
entries-all front count i low s total le so_far =
    let k : count - i ≡ 0 = omega arith in
    let one : with_front front (entries_at (count - i) low s) ≡ Ok (front, s) = rw k (ap (λ (ns : List Entry). Ok (ns, s)) (append-nil front)) in
    sym so_far ∙ one

-- an entry with an index above all of them is appended
pub rise-push : (entries : List Entry) (last : Entry) → IndicesRise entries → All (λ x. x.index < last.index) entries → IndicesRise (entries ++ last ∷ [])
rise-push [] last h below = tt
rise-push (x ∷ []) last h below = (below 0 x (omega arith), tt)
rise-push (x ∷ y ∷ entries) last h below = (h.0, rise-push (y ∷ entries) last h.1 (All-tail (λ z. z.index < last.index) x (y ∷ entries) below))

-- ---- slices

pub slices-more : (front : List (List Entry)) (count i : ℕ) (s after : Rest) (es : List Entry) (total : Read ProofKind (List (List Entry))) → i < count → slice_at s ≡ Ok (es, after)
    → with_front front (slices_at (count - i) s) ≡ total → with_front (front ++ es ∷ []) (slices_at (count - (i + 1)) after) ≡ total
unfolding slices_at bind
slices-more front count i s after es total lt h so_far =
    let k : count - i ≡ suc (count - (i + 1)) = omega arith in
    let one : with_front front (slices_at (count - i) s) ≡ with_front (front ++ es ∷ []) (slices_at (count - (i + 1)) after) = rw (k, h) (with_front-more front es (slices_at (count - (i + 1)) after)) in
    sym one ∙ so_far

pub slices-end : (fault : TableFault) (front : List (List Entry)) (count i : ℕ) (s : Rest) (total : Read ProofKind (List (List Entry))) → i < count
    → Fails told_fault fault (slice_at s) → with_front front (slices_at (count - i) s) ≡ total → Fails told_fault fault total
unfolding slices_at bind
slices-end fault front count i s total lt h so_far =
    let k : count - i ≡ suc (count - (i + 1)) = omega arith in
    fails-whole told_fault fault (slice_at s) total (λ f e. sym so_far ∙ rw (k, e) refl) h

pub slices-all : (front : List (List Entry)) (count i : ℕ) (s : Rest) (total : Read ProofKind (List (List Entry))) → count ≤ i → with_front front (slices_at (count - i) s) ≡ total → total ≡ Ok (front, s)
unfolding slices_at bind
slices-all front count i s total le so_far =
    let k : count - i ≡ 0 = omega arith in
    let one : with_front front (slices_at (count - i) s) ≡ Ok (front, s) = rw k (ap (λ (ns : List (List Entry)). Ok (ns, s)) (append-nil front)) in
    sym so_far ∙ one

-- ---- the indices of a choice

pub indices-more : (front : List ℕ) (count i : ℕ) (s after : Rest) (n : ℕ) (total : Read ProofKind (List ℕ)) → i < count → number_at ProofShort w8 s ≡ Ok (n, after)
    → with_front front (indices_at (count - i) s) ≡ total → with_front (front ++ n ∷ []) (indices_at (count - (i + 1)) after) ≡ total
unfolding indices_at bind
indices-more front count i s after n total lt h so_far =
    let k : count - i ≡ suc (count - (i + 1)) = omega arith in
    let one : with_front front (indices_at (count - i) s) ≡ with_front (front ++ n ∷ []) (indices_at (count - (i + 1)) after) = rw (k, h) (with_front-more front n (indices_at (count - (i + 1)) after)) in
    sym one ∙ so_far

pub indices-end : (fault : TableFault) (front : List ℕ) (count i : ℕ) (s : Rest) (total : Read ProofKind (List ℕ)) → i < count
    → Fails told_fault fault (number_at ProofShort w8 s) → with_front front (indices_at (count - i) s) ≡ total → Fails told_fault fault total
unfolding indices_at bind
indices-end fault front count i s total lt h so_far =
    let k : count - i ≡ suc (count - (i + 1)) = omega arith in
    fails-whole told_fault fault (number_at ProofShort w8 s) total (λ f e. sym so_far ∙ rw (k, e) refl) h

pub indices-all : (front : List ℕ) (count i : ℕ) (s : Rest) (total : Read ProofKind (List ℕ)) → count ≤ i → with_front front (indices_at (count - i) s) ≡ total → total ≡ Ok (front, s)
unfolding indices_at bind
indices-all front count i s total le so_far =
    let k : count - i ≡ 0 = omega arith in
    let one : with_front front (indices_at (count - i) s) ≡ Ok (front, s) = rw k (ap (λ (ns : List ℕ). Ok (ns, s)) (append-nil front)) in
    sym so_far ∙ one
