-- Blocks and the list of their values in scan order.
use Rattle.std.proofs.Common.{◌≡◌, ℕ, zero, suc, ◌+◌, ◌*◌, ◌/◌, ◌%◌, ◌<◌, List, [], ◌∷◌, ◌++◌, length, map, get_or, ap, sym, ◌∙◌, subst, arith, length-append, ℤ, pos}
use Rattle.std.specs.List.{range_with_len}
use Rattle.std.proofs.lemmas.List.{length-map, get_or_append_left, get_or-append-add, get_or-map, ext_get_or}
use Rattle.std.proofs.lemmas.List.FromFn.{length-map-range_with_len, get_or-map-range_with_len}
use Rattle.std.proofs.lemmas.Nat.{div_below, mod_below, div-add-mod'}
use Rattle.pr_coeff.specs.Component.{Block, column, listed, index_of, IsScan, IsSmall, AllSmall, AreBlocks}
use Rattle.pr_coeff.specs.Reading.{woven}

pub AllSmall_at : (vs : List ℤ) (k : ℕ) → AllSmall vs → IsSmall (get_or vs k (pos 0))
AllSmall_at [] k h = omega arith
AllSmall_at (v ∷ vs) zero h = h.0
AllSmall_at (v ∷ vs) (suc k) h = AllSmall_at vs k h.1

pub AllSmall_from : (vs : List ℤ) → ((k : ℕ) → k < length vs → IsSmall (get_or vs k (pos 0))) → AllSmall vs
AllSmall_from [] h = tt
AllSmall_from (v ∷ vs) h = (h 0 (omega arith), AllSmall_from vs (λ k l. h (suc k) (omega arith)))

pub AllSmall_both : (a b : List ℤ) → AllSmall a → AllSmall b → AllSmall (a ++ b)
AllSmall_both [] b h k = k
AllSmall_both (v ∷ a) b h k = (h.0, AllSmall_both a b h.1 k)

pub AreBlocks_at : (blocks : List Block) (i : ℕ) → AreBlocks blocks → i < length blocks → (length (get_or blocks i []) ≡ 64) × AllSmall (get_or blocks i [])
AreBlocks_at [] i h l = absurd (omega arith)
AreBlocks_at (b ∷ bs) zero h l = (h.0, h.1)
AreBlocks_at (b ∷ bs) (suc i) h l = AreBlocks_at bs i h.2 (omega arith)

pub AreBlocks_from : (blocks : List Block) → ((i : ℕ) → i < length blocks → (length (get_or blocks i []) ≡ 64) × AllSmall (get_or blocks i [])) → AreBlocks blocks
AreBlocks_from [] h = tt
AreBlocks_from (b ∷ bs) h = let f = h 0 (omega arith) in (f.0, f.1, AreBlocks_from bs (λ i l. h (suc i) (omega arith)))

pub length-column : (blocks : List Block) (p : ℕ) → length (column blocks p) ≡ length blocks
length-column blocks p = length-map blocks (λ b. get_or b p (pos 0))

pub column-at : (blocks : List Block) (p i : ℕ) → i < length blocks → get_or (column blocks p) i (pos 0) ≡ get_or (get_or blocks i []) p (pos 0)
column-at blocks p i h = get_or-map (λ b. get_or b p (pos 0)) blocks i [] (pos 0) h

pub length-listed : (places : List ℕ) (blocks : List Block) → length (listed places blocks) ≡ length places * length blocks
length-listed [] blocks = omega arith
length-listed (p ∷ ps) blocks =
    let h = length-listed ps blocks in
    let c = length-column blocks p in
    let s : suc (length ps) * length blocks ≡ length blocks + length ps * length blocks = omega arith in
    omega (arith, length-append (column blocks p) (listed ps blocks), h, c, s)

pub listed-at : (places : List ℕ) (blocks : List Block) (k i : ℕ) → k < length places → i < length blocks →
    get_or (listed places blocks) (k * length blocks + i) (pos 0) ≡ get_or (get_or blocks i []) (get_or places k 0) (pos 0)
listed-at [] blocks k i h l = absurd (omega arith)
listed-at (p ∷ ps) blocks zero i h l =
    let e : 0 * length blocks + i ≡ i = omega arith in
    ap (λ j. get_or (column blocks p ++ listed ps blocks) j (pos 0)) e
    ∙ get_or_append_left (column blocks p) (listed ps blocks) (pos 0) i (omega (arith, length-column blocks p))
    ∙ column-at blocks p i l
listed-at (p ∷ ps) blocks (suc k) i h l =
    let e : suc k * length blocks + i ≡ length (column blocks p) + (k * length blocks + i) = omega (arith, length-column blocks p) in
    ap (λ j. get_or (column blocks p ++ listed ps blocks) j (pos 0)) e
    ∙ get_or-append-add (column blocks p) (listed ps blocks) (k * length blocks + i) (pos 0)
    ∙ listed-at ps blocks k i (omega arith) l

row : List ℕ → ℕ → List ℤ → ℕ → Block
row scan count vs i = map (λ p. get_or vs (index_of p scan * count + i) (pos 0)) (range_with_len 0 64)

pub length-woven : (scan : List ℕ) (count : ℕ) (vs : List ℤ) → length (woven scan count vs) ≡ count
length-woven scan count vs = length-map-range_with_len (λ i. map (λ p. get_or vs (index_of p scan * count + i) (pos 0)) (range_with_len 0 64)) 0 count

pub woven-row : (scan : List ℕ) (count : ℕ) (vs : List ℤ) (i : ℕ) → i < count →
    get_or (woven scan count vs) i [] ≡ map (λ p. get_or vs (index_of p scan * count + i) (pos 0)) (range_with_len 0 64)
woven-row scan count vs i h = get_or-map-range_with_len (λ i. map (λ p. get_or vs (index_of p scan * count + i) (pos 0)) (range_with_len 0 64)) 0 count i i [] h (omega arith)

pub woven-at : (scan : List ℕ) (count : ℕ) (vs : List ℤ) (i p : ℕ) → i < count → p < 64 →
    get_or (get_or (woven scan count vs) i []) p (pos 0) ≡ get_or vs (index_of p scan * count + i) (pos 0)
woven-at scan count vs i p h k =
    ap (λ b. get_or b p (pos 0)) (woven-row scan count vs i h)
    ∙ get_or-map-range_with_len (λ p. get_or vs (index_of p scan * count + i) (pos 0)) 0 64 p p (pos 0) k (omega arith)

pub length-woven-row : (scan : List ℕ) (count : ℕ) (vs : List ℤ) (i : ℕ) → i < count → length (get_or (woven scan count vs) i []) ≡ 64
length-woven-row scan count vs i h =
    ap length (woven-row scan count vs i h) ∙ length-map-range_with_len (λ p. get_or vs (index_of p scan * count + i) (pos 0)) 0 64

pub woven-listed : (scan : List ℕ) (blocks : List Block) → IsScan scan → AreBlocks blocks → woven scan (length blocks) (listed scan blocks) ≡ blocks
woven-listed scan blocks s b =
    let n = length blocks in
    let w = woven scan n (listed scan blocks) in
    ext_get_or [] w blocks (length-woven scan n (listed scan blocks)) (λ i h.
    let i_in : i < n = omega (arith, h, length-woven scan n (listed scan blocks)) in
    ext_get_or (pos 0) (get_or w i []) (get_or blocks i []) (length-woven-row scan n (listed scan blocks) i i_in ∙ sym (AreBlocks_at blocks i b i_in).0) (λ p k.
    let p_in : p < 64 = omega (arith, k, length-woven-row scan n (listed scan blocks) i i_in) in
    let f = s.found p p_in in
    woven-at scan n (listed scan blocks) i p i_in p_in
    ∙ listed-at scan blocks (index_of p scan) i (omega (arith, f.0, s.size)) i_in
    ∙ ap (λ q. get_or (get_or blocks i []) q (pos 0)) f.1))

pub listed-woven : (scan : List ℕ) (count : ℕ) (vs : List ℤ) → IsScan scan → 0 < count → length vs ≡ 64 * count → listed scan (woven scan count vs) ≡ vs
listed-woven scan count vs s h e =
    let w = woven scan count vs in
    let n = length-woven scan count vs in
    let len : length (listed scan w) ≡ length vs = length-listed scan w ∙ ap (λ k. k * length w) s.size ∙ ap (λ k. 64 * k) n ∙ sym e in
    ext_get_or (pos 0) (listed scan w) vs len (λ j l.
    let k = j / count in
    let i = j % count in
    let split : k * count + i ≡ j = div-add-mod' j count in
    let i_in : i < count = mod_below j count h in
    let k_in : k < 64 = div_below j count 64 h (omega (arith, l, len, e)) in
    let q = s.places k k_in in
    let at = listed-at scan w k i (omega (arith, k_in, s.size)) (omega (arith, i_in, n)) in
    ap (λ m. get_or (listed scan w) m (pos 0)) (sym split ∙ ap (λ c. k * c + i) (sym n))
    ∙ at
    ∙ woven-at scan count vs i (get_or scan k 0) i_in q.0
    ∙ ap (λ m. get_or vs (m * count + i) (pos 0)) q.1
    ∙ ap (λ m. get_or vs m (pos 0)) split)

pub woven_blocks : (scan : List ℕ) (count : ℕ) (vs : List ℤ) → AllSmall vs → AreBlocks (woven scan count vs)
woven_blocks scan count vs a = AreBlocks_from (woven scan count vs) (λ i h.
    let i_in : i < count = omega (arith, h, length-woven scan count vs) in
    let len = length-woven-row scan count vs i i_in in (
      len,
      AllSmall_from (get_or (woven scan count vs) i []) (λ p k.
          subst IsSmall (sym (woven-at scan count vs i p i_in (omega (arith, k, len)))) (AllSmall_at vs (index_of p scan * count + i) a)),
    ))

pub column_small : (blocks : List Block) (p : ℕ) → AreBlocks blocks → AllSmall (column blocks p)
column_small [] p h = tt
column_small (b ∷ bs) p h = (AllSmall_at b p h.1, column_small bs p h.2)

pub listed_small : (places : List ℕ) (blocks : List Block) → AreBlocks blocks → AllSmall (listed places blocks)
listed_small [] blocks h = tt
listed_small (p ∷ ps) blocks h = AllSmall_both (column blocks p) (listed ps blocks) (column_small blocks p h) (listed_small ps blocks h)
