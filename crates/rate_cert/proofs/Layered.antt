-- Layers that are written are read as those layers, in both formats.
use Rattle.std.proofs.Common.{◌≡◌, ℕ, zero, suc, ◌+◌, ◌-◌, ◌^◌, ◌<◌, ◌≤◌, List, [], ◌∷◌, ◌++◌, length, refl, sym, ap, ◌∙◌, arith, inl, inr, ◌⊎◌, length-append, append_assoc}
use Rattle.std.specs.Prelude.{◌==◌}
use Rattle.std.specs.Int.{w64, to_be_bytes}
use Rattle.std.specs.List.{flat_map, All, sum_by}
use Rattle.std.proofs.lemmas.List.Concat.{flat_map-cons}
use Rattle.std.proofs.lemmas.List.Sums.{sum_by-cons}
use Rattle.std.proofs.lemmas.List.Elements.{All-head, All-tail}
use Rattle.std.proofs.lemmas.Bool.{le-ltb, lt-leb, ne_eqb, eq-eqb}
use Rattle.rate_table.specs.declared.entry.Pair.{Pair}
use Rattle.rate_table.specs.Pairs.{RisesAndFalls}
use Rattle.rate_cert.specs.Numbers.{number_bytes}
use Rattle.rate_cert.specs.Layers.{most_pairs, pair_bytes, wide_bytes, steps_bytes, close_pairs_bytes, close_bytes, layer_bytes, pair_at, pairs_at, wide_at, step_at, run_at, first_at, close_pairs_at, close_at, layer_at, layers_at}
use Rattle.rate_cert.specs.Files.{IsFormat, IsPair}
use Rattle.rate_table.specs.declared.fault.ProofKind.TheVariants.{ProofShort}
use Rattle.pw_outside.proofs.Steps.{bind-step, refuse-step, found, same_rest}
use Rattle.rate_table.proofs.Here.{four-here, eight-here}
use Rattle.rate_cert.proofs.Numbered.{number-again, chosen, passed}

same_pair : (p q : Pair) → p.size ≡ q.size → p.error ≡ q.error → p ≡ q
same_pair p q a b = λ i. record { size = a i; error = b i }

-- ---- format 1

pair-again : (p : Pair) (place : ℕ) (behind : List ℕ) → IsPair p → pair_at (record { place = place; bytes = pair_bytes p ++ behind }) ≡ found p (place + 12) behind
unfolding pair_at pair_bytes
pair-again p place behind is =
    bind-step _ _ (four-here ProofShort p.size place (to_be_bytes w64 p.error ++ behind) is.0)
    ∙ bind-step _ _ (eight-here ProofShort p.error (place + 4) behind is.1)
    ∙ same_rest p _ _ behind (omega arith)

length-pair : (p : Pair) → length (pair_bytes p) ≡ 12
unfolding pair_bytes
length-pair p = refl

pairs-again : (ps : List Pair) (place : ℕ) (behind : List ℕ) → All IsPair ps
    → pairs_at (length ps) (record { place = place; bytes = flat_map pair_bytes ps ++ behind }) ≡ found ps (place + length (flat_map pair_bytes ps)) behind
unfolding pairs_at
pairs-again [] place behind are = same_rest [] _ _ behind (omega arith)
pairs-again (p ∷ ps) place behind are =
    let split : flat_map pair_bytes (p ∷ ps) ++ behind ≡ pair_bytes p ++ (flat_map pair_bytes ps ++ behind) =
    ap (λ l. l ++ behind) (flat_map-cons pair_bytes p ps) ∙ append_assoc (pair_bytes p) (flat_map pair_bytes ps) behind in
    let long : place + 12 + length (flat_map pair_bytes ps) ≡ place + length (flat_map pair_bytes (p ∷ ps)) =
    omega (arith, ap length (flat_map-cons pair_bytes p ps), length-append (pair_bytes p) (flat_map pair_bytes ps), length-pair p) in
    ap (λ l. pairs_at (length (p ∷ ps)) (record { place = place; bytes = l })) split
    ∙ bind-step _ _ (pair-again p place (flat_map pair_bytes ps ++ behind) (All-head IsPair p ps are))
    ∙ bind-step _ _ (pairs-again ps (place + 12) behind (All-tail IsPair p ps are))
    ∙ same_rest (p ∷ ps) _ _ behind long

wide-again : (held : ℕ) (layer : List Pair) (place : ℕ) (behind : List ℕ) → held + length layer ≤ most_pairs → All IsPair layer
    → wide_at held (record { place = place; bytes = wide_bytes layer ++ behind }) ≡ found layer (place + length (wide_bytes layer)) behind
unfolding wide_at wide_bytes
wide-again held layer place behind few are =
    bind-step _ _ (four-here ProofShort (length layer) place (flat_map pair_bytes layer ++ behind) (omega (arith, few)))
    ∙ refuse-step _ _ _ _ (le-ltb most_pairs (held + length layer) few)
    ∙ pairs-again layer (place + 4) behind are
    ∙ same_rest layer _ _ behind (omega arith)

-- ---- format 2

step-again : (before p : Pair) (place : ℕ) (behind : List ℕ) → IsPair before → IsPair p → before.size < p.size → p.error < before.error
    → step_at before (record { place = place; bytes = number_bytes (p.size - (before.size + 1)) ++ (number_bytes (before.error - (p.error + 1)) ++ behind) })
    ≡ found p (place + length (number_bytes (p.size - (before.size + 1))) + length (number_bytes (before.error - (p.error + 1)))) behind
unfolding step_at
step-again before p place behind is is' rises falls =
    let s = p.size - (before.size + 1) in
    let e = before.error - (p.error + 1) in
    let back : before.size + 1 + s ≡ p.size = omega (arith, rises) in
    let down : before.error - (e + 1) ≡ p.error = omega (arith, falls) in
    bind-step _ _ (number-again s place (number_bytes e ++ behind) (omega (arith, is'.0)))
    ∙ refuse-step _ _ _ _ (lt-leb (2 ^ 32) (before.size + 1 + s) (omega (arith, back, is'.0)))
    ∙ bind-step _ _ (number-again e (place + length (number_bytes s)) behind (omega (arith, is.1)))
    ∙ refuse-step _ _ _ _ (lt-leb before.error e (omega (arith, falls)))
    ∙ ap (λ q. found q (place + length (number_bytes s) + length (number_bytes e)) behind) (same_pair (record { size = before.size + 1 + s; error = before.error - (e + 1) }) p back down)

run-again : (before : Pair) (ps : List Pair) (place : ℕ) (behind : List ℕ) → RisesAndFalls (before ∷ ps) → IsPair before → All IsPair ps
    → run_at (length ps) before (record { place = place; bytes = steps_bytes before ps ++ behind }) ≡ found (before ∷ ps) (place + length (steps_bytes before ps)) behind
unfolding run_at steps_bytes
run-again before [] place behind order is are = same_rest (before ∷ []) _ _ behind (omega arith)
run-again before (p ∷ ps) place behind order is are =
    let s = number_bytes (p.size - (before.size + 1)) in
    let e = number_bytes (before.error - (p.error + 1)) in
    let split : (s ++ (e ++ steps_bytes p ps)) ++ behind ≡ s ++ (e ++ (steps_bytes p ps ++ behind)) =
    append_assoc s (e ++ steps_bytes p ps) behind ∙ ap (λ l. s ++ l) (append_assoc e (steps_bytes p ps) behind) in
    let is' = All-head IsPair p ps are in
    ap (λ l. run_at (length (p ∷ ps)) before (record { place = place; bytes = l })) split
    ∙ bind-step _ _ (step-again before p place (steps_bytes p ps ++ behind) is is' order.0 order.1)
    ∙ bind-step _ _ (run-again p ps (place + length s + length e) behind order.2 is' (All-tail IsPair p ps are))
    ∙ same_rest (before ∷ p ∷ ps) _ _ behind (omega (arith, length-append s (e ++ steps_bytes p ps), length-append e (steps_bytes p ps)))

close_pairs-again : (layer : List Pair) (place : ℕ) (behind : List ℕ) → RisesAndFalls layer → All IsPair layer
    → close_pairs_at (length layer) (record { place = place; bytes = close_pairs_bytes layer ++ behind }) ≡ found layer (place + length (close_pairs_bytes layer)) behind
unfolding close_pairs_at close_pairs_bytes first_at
close_pairs-again [] place behind order are = same_rest [] _ _ behind (omega arith)
close_pairs-again (p ∷ ps) place behind order are =
    let s = number_bytes p.size in
    let e = number_bytes p.error in
    let split : (s ++ (e ++ steps_bytes p ps)) ++ behind ≡ s ++ (e ++ (steps_bytes p ps ++ behind)) =
    append_assoc s (e ++ steps_bytes p ps) behind ∙ ap (λ l. s ++ l) (append_assoc e (steps_bytes p ps) behind) in
    let is = All-head IsPair p ps are in
    let first : first_at (record { place = place; bytes = s ++ (e ++ (steps_bytes p ps ++ behind)) }) ≡ found p (place + length s + length e) (steps_bytes p ps ++ behind) =
    bind-step _ _ (number-again p.size place (e ++ (steps_bytes p ps ++ behind)) (omega (arith, is.0)))
    ∙ refuse-step _ _ _ _ (lt-leb (2 ^ 32) p.size is.0)
    ∙ bind-step _ _ (number-again p.error (place + length s) (steps_bytes p ps ++ behind) is.1) in
    ap (λ l. close_pairs_at (length (p ∷ ps)) (record { place = place; bytes = l })) split
    ∙ bind-step _ _ first
    ∙ run-again p ps (place + length s + length e) behind order is (All-tail IsPair p ps are)
    ∙ same_rest (p ∷ ps) _ _ behind (omega (arith, length-append s (e ++ steps_bytes p ps), length-append e (steps_bytes p ps)))

close-again : (held : ℕ) (layer : List Pair) (place : ℕ) (behind : List ℕ) → held + length layer ≤ most_pairs → RisesAndFalls layer → All IsPair layer
    → close_at held (record { place = place; bytes = close_bytes layer ++ behind }) ≡ found layer (place + length (close_bytes layer)) behind
unfolding close_at close_bytes
close-again held layer place behind few order are =
    let n = number_bytes (length layer) in
    ap (λ l. close_at held (record { place = place; bytes = l })) (append_assoc n (close_pairs_bytes layer) behind)
    ∙ bind-step _ _ (number-again (length layer) place (close_pairs_bytes layer ++ behind) (omega (arith, few)))
    ∙ refuse-step _ _ _ _ (le-ltb most_pairs (held + length layer) few)
    ∙ close_pairs-again layer (place + length n) behind order are
    ∙ same_rest layer _ _ behind (omega (arith, length-append n (close_pairs_bytes layer)))

-- ---- either format

pub which : (format : ℕ) → IsFormat format → (format ≡ 1) ⊎ (format ≡ 2)
which zero is = absurd (omega (arith, is.0))
which (suc zero) is = inl refl
which (suc (suc zero)) is = inr refl
which (suc (suc (suc n))) is = absurd (omega (arith, is.1))

pub layer-again : (format held : ℕ) (layer : List Pair) (place : ℕ) (behind : List ℕ) → (format ≡ 1) ⊎ (format ≡ 2) → held + length layer ≤ most_pairs → (format ≡ 2 → RisesAndFalls layer) → All IsPair layer
    → layer_at format held (record { place = place; bytes = layer_bytes format layer ++ behind }) ≡ found layer (place + length (layer_bytes format layer)) behind
unfolding layer_at layer_bytes
layer-again format held layer place behind (inl e) few order are =
    let t = eq-eqb format 1 e in
    let b = chosen (format == 1) (wide_bytes layer) (close_bytes layer) t in
    chosen (format == 1) _ _ t
    ∙ ap (λ l. wide_at held (record { place = place; bytes = l ++ behind })) b
    ∙ wide-again held layer place behind few are
    ∙ sym (ap (λ l. found layer (place + length l) behind) b)
layer-again format held layer place behind (inr e) few order are =
    let t = ne_eqb format 1 (λ z. omega (arith, e, z)) in
    let b = passed (format == 1) (wide_bytes layer) (close_bytes layer) t in
    passed (format == 1) _ _ t
    ∙ ap (λ l. close_at held (record { place = place; bytes = l ++ behind })) b
    ∙ close-again held layer place behind few (order e) are
    ∙ sym (ap (λ l. found layer (place + length l) behind) b)

pub layers-again : (format held : ℕ) (layers : List (List Pair)) (place : ℕ) (behind : List ℕ) → (format ≡ 1) ⊎ (format ≡ 2) → held + sum_by length layers ≤ most_pairs
    → (format ≡ 2 → All RisesAndFalls layers) → All (λ layer. All IsPair layer) layers
    → layers_at format (length layers) held (record { place = place; bytes = flat_map (layer_bytes format) layers ++ behind }) ≡ found layers (place + length (flat_map (layer_bytes format) layers)) behind
unfolding layers_at
layers-again format held [] place behind is few order are = same_rest [] _ _ behind (omega arith)
layers-again format held (l ∷ ls) place behind is few order are =
    let f = layer_bytes format in
    let split : flat_map f (l ∷ ls) ++ behind ≡ f l ++ (flat_map f ls ++ behind) =
    ap (λ b. b ++ behind) (flat_map-cons f l ls) ∙ append_assoc (f l) (flat_map f ls) behind in
    let long : place + length (f l) + length (flat_map f ls) ≡ place + length (flat_map f (l ∷ ls)) =
    omega (arith, ap length (flat_map-cons f l ls), length-append (f l) (flat_map f ls)) in
    let sum = sum_by-cons length l ls in
    ap (λ b. layers_at format (length (l ∷ ls)) held (record { place = place; bytes = b })) split
    ∙ bind-step _ _ (layer-again format held l place (flat_map f ls ++ behind) is (omega (arith, few, sum)) (λ e. All-head RisesAndFalls l ls (order e)) (All-head (λ layer. All IsPair layer) l ls are))
    ∙ bind-step _ _ (layers-again format (held + length l) ls (place + length (f l)) behind is (omega (arith, few, sum)) (λ e. All-tail RisesAndFalls l ls (order e)) (All-tail (λ layer. All IsPair layer) l ls are))
    ∙ same_rest (l ∷ ls) _ _ behind long
