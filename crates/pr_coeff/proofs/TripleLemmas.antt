-- The walk over coefficients writes the codewords of the one list of their triples.
use Rattle.std.proofs.Common.{◌≡◌, ℕ, zero, suc, ◌+◌, ◌*◌, ◌^◌, ◌<◌, ◌≤◌, Bool, true, false, List, [], ◌∷◌, ◌++◌, length, length-append, append_assoc, append-nil, replicate, drop, map, get_or, ℤ, pos, negsuc, ◌-ℤ◌, nat_abs, refl, sym, ap, ◌∙◌, subst, arith}
use Rattle.std.specs.List.{All}
use Rattle.std.proofs.lemmas.Grind.{flat_map-append}
use Rattle.std.proofs.lemmas.List.{length-drop}
use Rattle.std.proofs.lemmas.List.Elements.{All-nil, All-cons, All-append}
use Rattle.pw_bits.specs.Bits.{zeros, bytes}
use Rattle.pr_codes.specs.Words.{word, book}
use Rattle.pr_coeff.specs.Component.{folded, is_negative, turned, dc_book, run_book, level_book, dc_words, all_dc_words, ac_words, Block, column, listed, spelling, component, places}
use Rattle.pr_coeff.specs.Reading.{signed}
use Rattle.pr_coeff.specs.Triples.{behind, differences, first_words, RunLevelSign, start_triple, words_behind, triple_words_of, written_out, AreTriplesOf, coefficient_words, joined, HaveOneListOfTriples, StandsAreTriples, ComponentIsOfTriples, CoefficientsAreShort}
use Rattle.pr_coeff.proofs.ComponentLemmas.{is_book-dc, folded-le}
use Rattle.pr_coeff.proofs.WovenLemmas.{length-listed}
use Rattle.pr_coeff.proofs.WholeLemmas.{scan_of}
use Rattle.pr_coeff.proofs.CostLemmas.{AllUnder, under_column, under_listed, run_cost, level_cost, code_cost, difference_under}

-- ---- DC coefficients

-- after a coefficient `last`, a difference `x` and a code
dc_joined : (last x : ℤ) (code : ℕ) (ds : List ℤ) → dc_words last (is_negative x) code ds ≡
    joined (map (λ (p : ℕ × ℕ). word (dc_book p.0) p.1) (behind code (map (λ (p : ℤ × ℤ). folded (turned (is_negative p.0) p.1)) (behind x (differences last ds)))))
dc_joined last x code [] = refl
dc_joined last x code (d ∷ ds) =
    let c = folded (turned (is_negative x) (d -ℤ last)) in
    ap (λ l. word (dc_book code) c ++ l) (dc_joined d (d -ℤ last) c ds)

all_dc_joined : (ds : List ℤ) → all_dc_words ds ≡ joined (first_words ds)
all_dc_joined [] = refl
all_dc_joined (d ∷ ds) = ap (λ l. word (book 0 5 6) (folded d) ++ l) (dc_joined d (pos 0) 5 ds)

-- ---- the triples of coefficients after k zeros

abbrev triple : ℕ → ℕ → Bool → RunLevelSign
triple k m s = record { run = k; level = m; negative = s }

abbrev pub triples_from : ℕ → List ℤ → List RunLevelSign
triples_from k [] = []
triples_from k (pos zero ∷ vs) = triples_from (suc k) vs
triples_from k (pos (suc m) ∷ vs) = record { run = k; level = m; negative = false } ∷ triples_from 0 vs
triples_from k (negsuc m ∷ vs) = record { run = k; level = m; negative = true } ∷ triples_from 0 vs

abbrev pub zeros_from : ℕ → List ℤ → ℕ
zeros_from k [] = k
zeros_from k (pos zero ∷ vs) = zeros_from (suc k) vs
zeros_from k (pos (suc m) ∷ vs) = zeros_from 0 vs
zeros_from k (negsuc m ∷ vs) = zeros_from 0 vs

zero_more : (k : ℕ) (vs : List ℤ) → replicate k (pos 0) ++ pos 0 ∷ vs ≡ replicate (suc k) (pos 0) ++ vs
zero_more zero vs = refl
zero_more (suc k) vs = ap (λ l. pos 0 ∷ l) (zero_more k vs)

one_written : (k : ℕ) (v : ℤ) (vs more rest : List ℤ) → vs ≡ more ++ rest → replicate k (pos 0) ++ v ∷ vs ≡ ((replicate k (pos 0) ++ v ∷ []) ++ more) ++ rest
one_written k v vs more rest e =
    ap (λ l. replicate k (pos 0) ++ v ∷ l) e
    ∙ sym (append_assoc (replicate k (pos 0)) (v ∷ []) (more ++ rest))
    ∙ sym (append_assoc (replicate k (pos 0) ++ v ∷ []) more rest)

written_from : (k : ℕ) (vs : List ℤ) → replicate k (pos 0) ++ vs ≡ written_out (triples_from k vs) ++ replicate (zeros_from k vs) (pos 0)
written_from k [] = append-nil (replicate k (pos 0))
written_from k (pos zero ∷ vs) = zero_more k vs ∙ written_from (suc k) vs
written_from k (pos (suc m) ∷ vs) = one_written k (pos (suc m)) vs (written_out (triples_from 0 vs)) (replicate (zeros_from 0 vs) (pos 0)) (written_from 0 vs)
written_from k (negsuc m ∷ vs) = one_written k (negsuc m) vs (written_out (triples_from 0 vs)) (replicate (zeros_from 0 vs) (pos 0)) (written_from 0 vs)

-- ---- there are no others

behind_zeros : (k n : ℕ) (vs : List ℤ) → triples_from k (replicate n (pos 0) ++ vs) ≡ triples_from (k + n) vs
behind_zeros k zero vs = ap (λ j. triples_from j vs) (let e : k ≡ k + 0 = omega arith in e)
behind_zeros k (suc n) vs = behind_zeros (suc k) n vs ∙ ap (λ j. triples_from j vs) (let e : suc k + n ≡ k + suc n = omega arith in e)

only_zeros : (n : ℕ) → triples_from 0 (replicate n (pos 0)) ≡ []
only_zeros n = ap (triples_from 0) (sym (append-nil (replicate n (pos 0)))) ∙ behind_zeros 0 n []

one_value : (t : RunLevelSign) (vs : List ℤ) → triples_from t.run (signed t.negative t.level ∷ vs) ≡ t ∷ triples_from 0 vs
one_value t vs = go t.run t.level t.negative where
  go : (k m : ℕ) (s : Bool) → triples_from k (signed s m ∷ vs) ≡ triple k m s ∷ triples_from 0 vs
  go k m true = refl
  go k m false = refl

read_again : (ts : List RunLevelSign) (n : ℕ) → triples_from 0 (written_out ts ++ replicate n (pos 0)) ≡ ts
read_again [] n = only_zeros n
read_again (t ∷ ts) n =
    let zs = replicate n (pos 0) in
    let v = signed t.negative t.level in
    let run = replicate t.run (pos 0) in
    let e : ((run ++ v ∷ []) ++ written_out ts) ++ zs ≡ run ++ v ∷ (written_out ts ++ zs) =
    append_assoc (run ++ v ∷ []) (written_out ts) zs ∙ append_assoc run (v ∷ []) (written_out ts ++ zs) in
    ap (triples_from 0) e ∙ behind_zeros 0 t.run (v ∷ (written_out ts ++ zs)) ∙ ap (λ j. triples_from j (v ∷ (written_out ts ++ zs))) (let f : 0 + t.run ≡ t.run = omega arith in f) ∙ one_value t (written_out ts ++ zs) ∙ ap (λ l. t ∷ l) (read_again ts n)

pub are_of : (vs : List ℤ) → AreTriplesOf (triples_from 0 vs) vs
are_of vs = record { zeros = zeros_from 0 vs; are = written_from 0 vs }

pub are_once : (ts : List RunLevelSign) (vs : List ℤ) → AreTriplesOf ts vs → ts ≡ triples_from 0 vs
are_once ts vs a = sym (ap (triples_from 0) a.are ∙ read_again ts a.zeros)

pub one_list : (vs : List ℤ) → HaveOneListOfTriples vs
one_list vs = record { triples = triples_from 0 vs; are = are_of vs; once = λ ts a. are_once ts vs a }

-- ---- their codewords

triple_joined : (a b : List Bool) (s : Bool) (rest more : List Bool) → rest ≡ more → a ++ (b ++ s ∷ rest) ≡ (a ++ (b ++ s ∷ [])) ++ more
triple_joined a b s rest more e =
    ap (λ l. a ++ (b ++ s ∷ l)) e ∙ ap (λ l. a ++ l) (sym (append_assoc b (s ∷ []) more)) ∙ sym (append_assoc a (b ++ s ∷ []) more)

ac_joined : (before : RunLevelSign) (k : ℕ) (vs : List ℤ) → ac_words before.run (suc before.level) k vs ≡
    joined (map (λ (p : RunLevelSign × RunLevelSign). words_behind p.0 p.1) (behind before (triples_from k vs)))
ac_joined before k [] = refl
ac_joined before k (pos zero ∷ vs) = ac_joined before (suc k) vs
ac_joined before k (pos (suc m) ∷ vs) =
    triple_joined (word (run_book before.run) k) (word (level_book (suc before.level)) m) false _ _ (ac_joined (record { run = k; level = m; negative = false }) 0 vs)
ac_joined before k (negsuc m ∷ vs) =
    triple_joined (word (run_book before.run) k) (word (level_book (suc before.level)) m) true _ _ (ac_joined (record { run = k; level = m; negative = true }) 0 vs)

pub spelled : (scan : List ℕ) (blocks : List Block) (ts : List RunLevelSign) → AreTriplesOf ts (listed (drop 1 scan) blocks) → spelling scan blocks ≡ joined (coefficient_words blocks ts)
unfolding spelling
spelled scan blocks ts a =
    let vs = listed (drop 1 scan) blocks in
    let first = all_dc_joined (column blocks 0) in
    let others : ac_words 4 2 0 vs ≡ joined (triple_words_of ts) = ac_joined start_triple 0 vs ∙ ap (λ us. joined (triple_words_of us)) (sym (are_once ts vs a)) in
    ap (λ l. l ++ ac_words 4 2 0 vs) first ∙ ap (λ l. joined (first_words (column blocks 0)) ++ l) others
    ∙ sym (flat_map-append (λ (w : List Bool). w) (first_words (column blocks 0)) (triple_words_of ts))

pub stands_are_triples : StandsAreTriples
stands_are_triples l blocks scan =
    let vs = listed (drop 1 scan) blocks in (
      λ s. record {
        fits = s.fits;
        triples = triples_from 0 vs;
        values = are_of vs;
        behind = s.behind;
        is = s.is ∙ ap (λ k. k ++ zeros s.behind) (spelled scan blocks (triples_from 0 vs) (are_of vs));
      },
      λ s. record {
        fits = s.fits;
        behind = s.behind;
        is = s.is ∙ ap (λ k. k ++ zeros s.behind) (sym (spelled scan blocks s.triples s.values));
      },
    )

pub component_is_of_triples : ComponentIsOfTriples
unfolding component
component_is_of_triples scan blocks ts a = ap bytes (spelled scan blocks ts a)

-- ---- how long they are

abbrev Short : List Bool → Type 0
Short w = length w < 57

codes_short : (last x : ℤ) (code : ℕ) (ds : List ℤ) → nat_abs last < 2 ^ 13 → AllUnder 13 ds →
    All Short (map (λ (p : ℕ × ℕ). word (dc_book p.0) p.1) (behind code (map (λ (p : ℤ × ℤ). folded (turned (is_negative p.0) p.1)) (behind x (differences last ds)))))
codes_short last x code [] h a = All-nil Short
codes_short last x code (d ∷ ds) h a =
    let c = folded (turned (is_negative x) (d -ℤ last)) in
    All-cons Short (word (dc_book code) c) _ (omega (arith, code_cost (dc_book code) c 13 (is_book-dc code) (omega arith) (difference_under 13 (is_negative x) d last a.0 h)))
    (codes_short d (d -ℤ last) c ds a.0 a.1)

firsts_short : (ds : List ℤ) → AllUnder 13 ds → All Short (first_words ds)
firsts_short [] a = All-nil Short
firsts_short (d ∷ ds) a =
    All-cons Short (word (book 0 5 6) (folded d)) _ (omega (arith, code_cost (book 0 5 6) (folded d) 13 refl (omega arith) (omega (arith, folded-le d, a.0))))
    (codes_short d (pos 0) 5 ds a.0 a.1)

triple_short : (before : RunLevelSign) (k m : ℕ) (s : Bool) → k < 2016 → m < 2 ^ 13 → Short (words_behind before (record { run = k; level = m; negative = s }))
triple_short before k m s few small =
    let a = word (run_book before.run) k in
    let b = word (level_book (suc before.level)) m in
    omega (arith, run_cost before.run k few, level_cost (suc before.level) m 13 (omega arith) small, length-append a (b ++ s ∷ []), length-append b (s ∷ []))

triples_short : (before : RunLevelSign) (k : ℕ) (vs : List ℤ) → k + length vs ≤ 2016 → AllUnder 13 vs →
    All Short (map (λ (p : RunLevelSign × RunLevelSign). words_behind p.0 p.1) (behind before (triples_from k vs)))
triples_short before k [] h a = All-nil Short
triples_short before k (pos zero ∷ vs) h a = triples_short before (suc k) vs (omega arith) a.1
triples_short before k (pos (suc m) ∷ vs) h a =
    All-cons Short (words_behind before (record { run = k; level = m; negative = false })) _ (triple_short before k m false (omega arith) (omega (arith, a.0)))
    (triples_short (record { run = k; level = m; negative = false }) 0 vs (omega arith) a.1)
triples_short before k (negsuc m ∷ vs) h a =
    All-cons Short (words_behind before (record { run = k; level = m; negative = true })) _ (triple_short before k m true (omega arith) (omega (arith, a.0)))
    (triples_short (record { run = k; level = m; negative = true }) 0 vs (omega arith) a.1)

pub coefficients_short : CoefficientsAreShort
coefficients_short scan blocks ts few small a =
    let ps = drop 1 (places scan) in
    let vs = listed ps blocks in
    let under : (i q : ℕ) → nat_abs (get_or (get_or blocks i []) q (pos 0)) < 2 ^ 13 = λ i q. omega (arith, small i q) in
    let len : length vs ≡ length ps * length blocks = length-listed ps blocks in
    let places : length ps ≡ 63 = omega (arith, length-drop 1 (places scan), (scan_of scan).size) in
    let all : length vs ≡ 63 * length blocks = len ∙ ap (λ k. k * length blocks) places in
    All-append Short (first_words (column blocks 0)) (triple_words_of ts) (firsts_short (column blocks 0) (under_column 13 blocks 0 under))
    (subst (λ us. All Short (triple_words_of us)) (sym (are_once ts vs a)) (triples_short start_triple 0 vs (omega (arith, all, few)) (under_listed 13 ps blocks under)))
